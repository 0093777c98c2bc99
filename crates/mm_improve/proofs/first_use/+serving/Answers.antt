use Rattle.std.proofs.Common.{◌≡◌, ◌-◌, ℕ, Bool, true, List, Option, Some, MatchOption, IfSome, sym, ◌∙◌, ap, arith, subst, map}
use Rattle.std.specs.List.{AllByRecursion, list_all}
use Rattle.mm_subst.specs.declared.symbol.WSym.{WSym}
use Rattle.mm_subst.specs.Statements.{statement_of}
use Rattle.mm_subst.specs.Substitutions.{Pairs, applied}
use Rattle.mm_plain.specs.Lengths.{is_long}
use Rattle.mm_plain.specs.Valid.{IsString, first_setting}
use Rattle.mm_improve.specs.Assertions.{matches}
use Rattle.mm_improve.specs.Finding.{HasStrings, may_serve, serves_at}
use Rattle.mm_chart.specs.Options.{first, is_there, on}
use Rattle.mm_improve.specs.Proving.{premise_proof, proof_of}
use Rattle.mm_improve.specs.Ranks.{Use}
use Rattle.mm_improve.specs.Searches.{terms}
use Rattle.mm_improve.proofs.FoundLists.{all_fails, all_hold, first_here, first_later, first_map, found_here, found_later, found_passed, holds_at}
use Rattle.mm_improve.proofs.FoundProofs.{found_at_zero, found_by, found_chosen, not_there, premise_long, serves-all, some-there, string_short, there_by}
use Rattle.mm_improve.proofs.first_use.+serving.Goals as goal
use Rattle.mm_improve.proofs.first_use.+serving.Goals.{serving_use-then-branch+in_ok-sigma+in_default, serving_use-else-branch}

pub has_found-returns-then-branch : goal.has_found-returns-then-branch
has_found-returns-then-branch t c =
    let k = terms c.args.db.now c.args.prover.now.search in
    let there = sym c.in_ok-has_chosen.ensures ∙ c.if-branch.true in
    sym (ap is_there (found_chosen k c.args.depth c.args.goal.now (string_short k c.args.prover.now.search.at.0 c.args.goal.now c.requires.string) there) ∙ there)

pub has_found-returns-then-depth-eq0 : goal.has_found-returns-then-depth-eq0
has_found-returns-then-depth-eq0 t c =
    let k = terms c.args.db.now c.args.prover.now.search in
    sym (ap is_there (found_at_zero k c.args.depth c.args.goal.now c.if-depth-eq0.true) ∙ sym c.in_ok-has_chosen.ensures ∙ c.if-branch.false)

pub has_found-returns : goal.has_found-returns
has_found-returns t c =
    let k = terms c.args.db.now c.args.prover.now.search in
    let d : ℕ = c.args.depth in
    let g : List WSym = c.args.goal.now in
    let o : Option Use = c.in_ok-found.found in
    let none = not_there _ (sym c.in_ok-has_chosen.ensures ∙ c.if-branch.false) in
    let some : d ≡ 0 → ⊥ = c.if-depth-eq0.false in
    c.is_some.ensures ∙ some-there o ∙ sym (ap is_there (found_by k d g o (omega arith) (string_short k c.args.prover.now.search.at.0 g c.requires.string) none c.in_ok-found.ensures.first) ∙ there_by k (d - 1) g o c.in_ok-found.ensures.first)

pub has_premise-returns-in_default : goal.has_premise-returns-in_default
has_premise-returns-in_default t c =
    let k = terms c.args.db.now c.args.prover.now.search in
    let s : List WSym = applied c.args.sigma.now (statement_of c.args.db.now c.args.id.0) in
    let long = subst (λ (o : Option (List WSym)). MatchOption o (is_long s ≡ true) (λ g. g ≡ s)) c.in_default.is c.in_ok-goal.ensures.goal in
    sym (ap is_there (premise_long k c.args.depth c.args.sigma.now c.args.id.0 long))

pub has_premise-has_found-requires : goal.has_premise-has_found-requires
has_premise-has_found-requires t c =
    let at : ℕ = c.args.prover.now.search.at.0 in
    let string = subst (λ (o : Option (List WSym)). IfSome o (λ g. (at : ℕ) → HasStrings c.args.db.now at c.args.sigma.now → IsString (first_setting c.args.db.now at) g)) c.in-Some.is c.in_ok-goal.ensures.string in
    (omega (arith, c.decreases), (c.requires.ready, string at c.requires.values))

pub serves-returns-then-not-branch : goal.serves-returns-then-not-branch
serves-returns-then-not-branch t c =
    let k = terms c.args.db.now c.args.prover.now.search in
    let p : ℕ → Bool = λ m. is_there (premise_proof k (proof_of k c.args.depth) c.args.sigma.now m) in
    let items : List ℕ = c.premises-premise-items.result.now in
    sym (serves-all k c.args.depth (record { id = c.args.id.0; sigma = c.args.sigma.now }) ∙ ap (list_all p) (sym c.premises-premise-items.ensures.ids)
    ∙ all_fails p items c.loop-premise.premise-index 0 c.loop-premise-test.true (sym c.in_ok-has_premise.ensures ∙ c.if-not-branch.true) c.loop-premise.invariant)

pub serves-returns : goal.serves-returns
serves-returns t c =
    let k = terms c.args.db.now c.args.prover.now.search in
    let p : ℕ → Bool = λ m. is_there (premise_proof k (proof_of k c.args.depth) c.args.sigma.now m) in
    let items : List ℕ = c.premises-premise-items.result.now in
    sym (serves-all k c.args.depth (record { id = c.args.id.0; sigma = c.args.sigma.now }) ∙ ap (list_all p) (sym c.premises-premise-items.ensures.ids)
    ∙ all_hold p items c.loop-premise.premise-index c.loop-premise-test.false c.loop-premise.invariant)

pub serving_match-returns-then-branch-clause-first : goal.serving_match-returns-then-branch-clause-first
serving_match-returns-then-branch-clause-first t c =
    let k = terms c.args.db.now c.args.prover.now.search in
    let p : Pairs → Bool = λ s. serves_at k c.args.depth (record { id = c.args.id.0; sigma = s }) in
    let items : List Pairs = c.deref-sigma-items.result.now in
    let here = first_here p items c.loop-sigma.sigma-index c.sigma-item.result c.loop-sigma-test.true c.sigma-item.is c.loop-sigma.invariant (sym c.in_ok-serves.ensures ∙ c.if-branch.true) in
    ap (λ (s : Pairs). Some s) c.in_ok-sigma.ensures ∙ sym here ∙ ap (first p) (c.deref-sigma-items.ensures.value ∙ c.in_ok-matches.ensures.matches)

pub serving_match-returns-then-branch-clause-values : goal.serving_match-returns-then-branch-clause-values
serving_match-returns-then-branch-clause-values t c =
    let P : Pairs → Type 0 = HasStrings c.args.db.now c.args.prover.now.search.at.0 in
    let items : List Pairs = c.deref-sigma-items.result.now in
    let all : AllByRecursion P items = subst (AllByRecursion P) (sym c.deref-sigma-items.ensures.value) c.in_ok-matches.ensures.values in
    subst P (sym (c.in_ok-sigma.ensures ∙ c.sigma-item.is)) (holds_at P items c.loop-sigma.sigma-index c.sigma-item.result all c.loop-sigma-test.true)

pub serving_match-loop-sigma-preserved : goal.serving_match-loop-sigma-preserved
serving_match-loop-sigma-preserved t c =
    let k = terms c.args.db.now c.args.prover.now.search in
    let p : Pairs → Bool = λ s. serves_at k c.args.depth (record { id = c.args.id.0; sigma = s }) in
    first_later p c.deref-sigma-items.result.now c.loop-sigma.sigma-index c.sigma-item.result c.loop-sigma-test.true c.sigma-item.is c.loop-sigma.invariant (sym c.in_ok-serves.ensures ∙ c.if-branch.false)

pub serving_use-returns-in-Some-clause-first : goal.serving_use-returns-in-Some-clause-first
serving_use-returns-in-Some-clause-first t c =
    let k = terms c.args.db.now c.args.prover.now.search in
    let n : ℕ = c.loop-number.number in
    let g : List WSym = c.args.goal.now in
    let p : Use → Bool = serves_at k c.args.depth in
    let by : Pairs → Use = λ s. record { id = n; sigma = s } in
    let f : ℕ → List Use = λ id. map (λ s. record { id = id; sigma = s }) (matches k g id) in
    let here : first p (f n) ≡ Some (by c.in-Some.sigma) = first_map p by (matches k g n) ∙ ap (on by) (sym c.in_ok-sigma.ensures.first ∙ c.in-Some.is) in
    sym (found_here f (may_serve k) p n c.args.prover.now.search.at.0 (by c.in-Some.sigma) c.loop-number-test.true c.loop-number.invariant (sym c.in_ok-may_serve.ensures ∙ c.if-branch.true) here)

pub serving_use-loop-number-preserved : goal.serving_use-loop-number-preserved
serving_use-loop-number-preserved t c =
    let k = terms c.args.db.now c.args.prover.now.search in
    let n : ℕ = c.loop-number.number in
    let g : List WSym = c.args.goal.now in
    let p : Use → Bool = serves_at k c.args.depth in
    let by : Pairs → Use = λ s. record { id = n; sigma = s } in
    let f : ℕ → List Use = λ id. map (λ s. record { id = id; sigma = s }) (matches k g id) in
    elim c.if-branch.branch [
      | serving_use-then-branch+in_ok-sigma+in_default w ↦ found_later f (may_serve k) p n c.loop-number.invariant (first_map p by (matches k g n) ∙ ap (on by) (sym w.in_ok-sigma.ensures.first ∙ w.in_default.is))
      | serving_use-else-branch w ↦ found_passed f (may_serve k) p n c.loop-number.invariant (sym c.in_ok-may_serve.ensures ∙ w.if-branch.false)
    ]
