use Rattle.std.proofs.Common.{◌≡◌, ◌∷◌, ◌++◌, [], ℕ, List, None, inl, sym, ◌∙◌, ap, subst, map, filter, take}
use Rattle.std.specs.List.{All, AllByRecursion, list_all}
use Rattle.std.proofs.lemmas.List.{take_all}
use Rattle.mm_scope.specs.Contents.{statements_of, stated_at}
use Rattle.mm_scope.specs.Laws.{AllDiffer}
use Rattle.mm_stated.specs.Mandatory.{variables_of}
use Rattle.mm_subst.specs.declared.symbol.WSym.TheVariants.{Var}
use Rattle.mm_subst.specs.Substitutions.{Pairs, applied, value_of, with_values}
use Rattle.mm_unify.specs.Forbidden.{forbidden}
use Rattle.mm_unify.specs.Listings.{HasKeys, answer}
use Rattle.mm_plain.specs.Premises.{variables_for}
use Rattle.mm_tree.proofs.FreshVariables.{variables-differ}
use Rattle.mm_improve.specs.Assertions.{are_apart, sigma_by}
use Rattle.mm_chart.specs.Items.{are_parted}
use Rattle.mm_improve.specs.Finding.{HasStrings}
use Rattle.mm_chart.specs.Items.{Grammar}
use Rattle.mm_improve.specs.declared.prover.Prover.{Prover}
use Rattle.mm_improve.specs.Searches.{terms}
use Rattle.mm_improve.proofs.FoundLists.{append_none, holds_more, kept_more}
use Rattle.mm_improve.proofs.FoundValues.{lengths_at, string_no_work, strings_at, usable_concluded}
use Rattle.mm_improve.proofs.matching.matches_of.Goals as goal
use Rattle.mm_improve.proofs.matching.matches_of.Goals.{then-are_apart+in_ok-push, else-are_apart}

pub unifiers-requires : goal.unifiers-requires
unifiers-requires c = record { finite = inl (string_no_work c.args.db.now c.args.prover.now.search.at.0 c.args.goal.now c.requires.string) }

pub values_by-requires : goal.values_by-requires
values_by-requires c =
    let bytes : List ℕ = c.args.db.now in
    let id : ℕ = c.args.id.0 in
    let differ : AllDiffer (variables_for bytes id) = variables-differ bytes id (subst (λ (bs : List ℕ). AllDiffer (variables_of (statements_of bs) (stated_at bs id).mandatory)) c.bytes.ensures.value (c.mandatory_variables_differ.ensures id)) in
    let items : List Pairs = c.deref-theta-items.result.now in
    let found : items ≡ c.in_ok-listing.listing.found.items = c.deref-theta-items.ensures.value in
    lengths_at bytes c.args.prover.now.search.at.0 (with_values c.theta-item.result c.in_ok-fresh.fresh)
    (strings_at bytes c.args.prover.now.search.at.0 id c.args.goal.now c.in_ok-pattern.pattern c.in_ok-fresh.fresh items c.loop-theta.theta-index c.theta-item.result
    differ (usable_concluded (terms bytes c.args.prover.now.search) id c.requires.usable) c.requires.string c.in_ok-fresh.ensures c.in_ok-pattern.ensures (subst (All (λ u. applied u c.args.goal.now ≡ applied u c.in_ok-pattern.pattern)) (sym found) c.in_ok-listing.ensures.sound) (subst (All (HasKeys c.args.goal.now c.in_ok-pattern.pattern)) (sym found) c.in_ok-listing.ensures.keys)
    c.loop-theta-test.true c.theta-item.is)

pub loop-theta-preserved : goal.loop-theta-preserved
loop-theta-preserved c =
    let bytes : List ℕ = c.args.db.now in
    let at : ℕ = c.args.prover.now.search.at.0 in
    let id : ℕ = c.args.id.0 in
    let k = terms bytes c.args.prover.now.search in
    let theta : Pairs = c.theta-item.result in
    let found : List Pairs = c.deref-theta-items.result.now in
    let i : ℕ = c.loop-theta.theta-index in
    let sigma : c.in_ok-sigma.sigma ≡ sigma_by bytes id theta = c.in_ok-sigma.ensures ∙ ap (with_values theta) c.in_ok-fresh.ensures in
    let groups = ap (λ (p : Prover). p.parts.groups) c.prover.view_is ∙ ap (λ (g : Grammar). g.groups) c.requires.ready.parts in
    let apart : are_apart k id (sigma_by bytes id theta) ≡ c.are_apart.result =
    ap (are_apart k id) (sym sigma) ∙ ap (λ (gs : List (List ℕ)). list_all (λ p. are_parted gs (value_of c.in_ok-sigma.sigma (Var p.0)) (value_of c.in_ok-sigma.sigma (Var p.1))) (stated_at bytes id).pairs) (sym groups) ∙ sym c.are_apart.ensures in
    let differ : AllDiffer (variables_for bytes id) = variables-differ bytes id (subst (λ (bs : List ℕ). AllDiffer (variables_of (statements_of bs) (stated_at bs id).mandatory)) c.bytes.ensures.value (c.mandatory_variables_differ.ensures id)) in
    let same : found ≡ c.in_ok-listing.listing.found.items = c.deref-theta-items.ensures.value in
    let strings =
    strings_at bytes at id c.args.goal.now c.in_ok-pattern.pattern c.in_ok-fresh.fresh found i theta
    differ (usable_concluded k id c.requires.usable) c.requires.string c.in_ok-fresh.ensures c.in_ok-pattern.ensures (subst (All (λ u. applied u c.args.goal.now ≡ applied u c.in_ok-pattern.pattern)) (sym same) c.in_ok-listing.ensures.sound) (subst (All (HasKeys c.args.goal.now c.in_ok-pattern.pattern)) (sym same) c.in_ok-listing.ensures.keys)
    c.loop-theta-test.true c.theta-item.is in
    elim c.if-are_apart.branch [
      | then-are_apart+in_ok-push w ↦
          let new = ap (λ v. v.items) w.matches-is ∙ w.in_ok-push.ensures.items in
          record {
            matches = new ∙ ap (λ xs. xs ++ c.in_ok-sigma.sigma ∷ []) c.loop-theta.invariant.matches
                ∙ ap (λ s. filter (are_apart k id) (map (sigma_by bytes id) (take i found)) ++ s ∷ []) sigma
                ∙ sym (kept_more (sigma_by bytes id) (are_apart k id) found i theta _ c.loop-theta-test.true c.theta-item.is (apart ∙ w.if-are_apart.true));
            values = subst (AllByRecursion (HasStrings bytes at)) (sym new) (holds_more (HasStrings bytes at) c.loop-theta.matches.items c.in_ok-sigma.sigma c.loop-theta.invariant.values (subst (HasStrings bytes at) (sym c.in_ok-sigma.ensures) strings));
          }
      | else-are_apart w ↦
          let new = ap (λ v. v.items) w.matches-is in
          record {
            matches = new ∙ c.loop-theta.invariant.matches ∙ sym (append_none _) ∙ sym (kept_more (sigma_by bytes id) (are_apart k id) found i theta _ c.loop-theta-test.true c.theta-item.is (apart ∙ w.if-are_apart.false));
            values = subst (AllByRecursion (HasStrings bytes at)) (sym new) c.loop-theta.invariant.values;
          }
    ]

pub returns-clause-matches : goal.returns-clause-matches
returns-clause-matches c =
    let bytes : List ℕ = c.args.db.now in
    let id : ℕ = c.args.id.0 in
    let k = terms bytes c.args.prover.now.search in
    c.loop-theta.invariant.matches
    ∙ ap (λ xs. filter (are_apart k id) (map (sigma_by bytes id) xs))
    (take_all c.loop-theta.theta-index c.deref-theta-items.result.now c.loop-theta-test.false ∙ c.deref-theta-items.ensures.value ∙ c.in_ok-listing.ensures.found
    ∙ ap (λ (p : Prover). (answer (forbidden bytes p.search.rule) None c.args.goal.now c.in_ok-pattern.pattern).found) c.prover.view_is
    ∙ ap (λ p. (answer (forbidden bytes c.args.prover.now.search.rule) None c.args.goal.now p).found) c.in_ok-pattern.ensures)
