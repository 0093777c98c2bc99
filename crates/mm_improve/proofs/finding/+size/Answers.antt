use Rattle.std.proofs.Common.{◌≡◌, ◌-◌, ◌+◌, ℕ, List, Option, Ok, Err, MatchOption, IfSome, sym, ◌∙◌, ap, arith, subst, true, length, get_or}
use Rattle.mm_subst.specs.declared.symbol.WSym.{WSym}
use Rattle.mm_subst.specs.Statements.{statement_of}
use Rattle.mm_subst.specs.Substitutions.{applied}
use Rattle.mm_plain.specs.declared.plain.Plain.{Plain}
use Rattle.mm_plain.specs.Lengths.{is_long}
use Rattle.mm_plain.specs.Premises.{premise_ids}
use Rattle.mm_plain.specs.Valid.{IsString, first_setting}
use Rattle.mm_tree.proofs.Rooms.{same_error}
use Rattle.mm_improve.specs.Finding.{HasStrings, IsOwnUse}
use Rattle.mm_improve.specs.Laying.{IsCounted}
use Rattle.mm_improve.specs.Proving.{chosen_tree, premise_proof, proof_by, proof_of}
use Rattle.mm_improve.specs.Ranks.{Use}
use Rattle.mm_improve.specs.Searches.{terms}
use Rattle.mm_improve.specs.declared.fault.ImproveFault.{ImproveFault}
use Rattle.mm_improve.proofs.FoundKids.{count-all, count-fails, count-more, count-over}
use Rattle.mm_improve.proofs.FoundLays.{counts-err, counts-none, counts-same}
use Rattle.mm_improve.proofs.FoundProofs.{by_use, found_at_zero, found_by, found_chosen, not_there, premise_essential, premise_floated, premise_long, string_short, used_serves}
use Rattle.mm_improve.proofs.finding.+size.Goals as goal

pub found_size-returns-then-branch : goal.found_size-returns-then-branch
found_size-returns-then-branch t c =
    let k = terms c.args.db.now c.args.prover.now.search in
    let g : List WSym = c.args.goal.now in
    counts-same (chosen_tree k g) (proof_of k c.args.depth g) c.chosen_size.result
    (sym (found_chosen k c.args.depth g (string_short k c.args.prover.now.search.at.0 g c.requires.string) (sym c.in_ok-has_chosen.ensures ∙ c.if-branch.true))) c.chosen_size.ensures

pub found_size-returns-then-depth-eq0 : goal.found_size-returns-then-depth-eq0
found_size-returns-then-depth-eq0 t c =
    let k = terms c.args.db.now c.args.prover.now.search in
    let g : List WSym = c.args.goal.now in
    counts-none (proof_of k c.args.depth g) 0 (found_at_zero k c.args.depth g c.if-depth-eq0.true ∙ not_there (chosen_tree k g) (sym c.in_ok-has_chosen.ensures ∙ c.if-branch.false))

pub found_size-use_size-requires : goal.found_size-use_size-requires
found_size-use_size-requires t c =
    let k = terms c.args.db.now c.args.prover.now.search in
    let g : List WSym = c.args.goal.now in
    let some : c.args.depth ≡ 0 → ⊥ = c.if-depth-eq0.false in
    let own = subst (λ (o : Option Use). IfSome o (IsOwnUse k)) c.in-Some.is c.in_ok-used.ensures.own in
    (omega (arith, c.decreases), (c.requires.ready, (own, used_serves k (c.args.depth - 1) g c.in_ok-used.field-0 c.in-Some.used c.in_ok-used.ensures.first c.in-Some.is)))

pub found_size-returns-in-Some : goal.found_size-returns-in-Some
found_size-returns-in-Some t c =
    let k = terms c.args.db.now c.args.prover.now.search in
    let g : List WSym = c.args.goal.now in
    let d : ℕ = c.args.depth in
    let some : d ≡ 0 → ⊥ = c.if-depth-eq0.false in
    let none = not_there (chosen_tree k g) (sym c.in_ok-has_chosen.ensures ∙ c.if-branch.false) in
    let is = found_by k d g c.in_ok-used.field-0 (omega arith) (string_short k c.args.prover.now.search.at.0 g c.requires.string) none c.in_ok-used.ensures.first ∙ ap (by_use k (d - 1) g) c.in-Some.is in
    counts-same (proof_by k (proof_of k (d - 1)) g c.in-Some.used) (proof_of k d g) c.use_size.result (sym is) (c.use_size.ensures g)

pub found_size-returns-in-None : goal.found_size-returns-in-None
found_size-returns-in-None t c =
    let k = terms c.args.db.now c.args.prover.now.search in
    let g : List WSym = c.args.goal.now in
    let d : ℕ = c.args.depth in
    let some : d ≡ 0 → ⊥ = c.if-depth-eq0.false in
    let none = not_there (chosen_tree k g) (sym c.in_ok-has_chosen.ensures ∙ c.if-branch.false) in
    let is = found_by k d g c.in_ok-used.field-0 (omega arith) (string_short k c.args.prover.now.search.at.0 g c.requires.string) none c.in_ok-used.ensures.first ∙ ap (by_use k (d - 1) g) c.in-None.is in
    counts-none (proof_of k d g) 0 is

pub premise_size-returns-in_default : goal.premise_size-returns-in_default
premise_size-returns-in_default t c =
    let k = terms c.args.db.now c.args.prover.now.search in
    let s : List WSym = applied c.args.sigma.now (statement_of c.args.db.now c.args.id.0) in
    let long = subst (λ (o : Option (List WSym)). MatchOption o (is_long s ≡ true) (λ g. g ≡ s)) c.in_default.is c.in_ok-goal.ensures.goal in
    counts-none (premise_proof k (proof_of k c.args.depth) c.args.sigma.now c.args.id.0) 0 (premise_long k c.args.depth c.args.sigma.now c.args.id.0 long)

pub premise_size-found_size-requires : goal.premise_size-found_size-requires
premise_size-found_size-requires t c =
    let string = subst (λ (o : Option (List WSym)). IfSome o (λ g. (at : ℕ) → HasStrings c.args.db.now at c.args.sigma.now → IsString (first_setting c.args.db.now at) g)) c.in-Some.is c.in_ok-goal.ensures.string in
    (omega (arith, c.decreases), (c.requires.ready, string c.args.prover.now.search.at.0 c.requires.values))

pub premise_size-returns-then-is_essential : goal.premise_size-returns-then-is_essential
premise_size-returns-then-is_essential t c =
    let k = terms c.args.db.now c.args.prover.now.search in
    let s : List WSym = applied c.args.sigma.now (statement_of c.args.db.now c.args.id.0) in
    let same = subst (λ (o : Option (List WSym)). MatchOption o (is_long s ≡ true) (λ g. g ≡ s)) c.in-Some.is c.in_ok-goal.ensures.goal in
    counts-same (proof_of k c.args.depth c.in-Some.goal) (premise_proof k (proof_of k c.args.depth) c.args.sigma.now c.args.id.0) c.found_size.result
    (ap (proof_of k c.args.depth) same ∙ sym (premise_essential k c.args.depth c.args.sigma.now c.args.id.0 (sym c.is_essential.ensures ∙ c.if-is_essential.true))) c.found_size.ensures

pub premise_size-chosen_size-requires-clause-string : goal.premise_size-chosen_size-requires-clause-string
premise_size-chosen_size-requires-clause-string t c =
    let string = subst (λ (o : Option (List WSym)). IfSome o (λ g. (at : ℕ) → HasStrings c.args.db.now at c.args.sigma.now → IsString (first_setting c.args.db.now at) g)) c.in-Some.is c.in_ok-goal.ensures.string in
    string c.args.prover.now.search.at.0 c.requires.values

pub premise_size-returns-then-branch : goal.premise_size-returns-then-branch
premise_size-returns-then-branch t c =
    let k = terms c.args.db.now c.args.prover.now.search in
    let s : List WSym = applied c.args.sigma.now (statement_of c.args.db.now c.args.id.0) in
    let same = subst (λ (o : Option (List WSym)). MatchOption o (is_long s ≡ true) (λ g. g ≡ s)) c.in-Some.is c.in_ok-goal.ensures.goal in
    counts-same (chosen_tree k c.in-Some.goal) (premise_proof k (proof_of k c.args.depth) c.args.sigma.now c.args.id.0) c.chosen_size.result
    (ap (λ g. chosen_tree k g) same ∙ sym (premise_floated k c.args.depth c.args.sigma.now c.args.id.0 (sym c.is_essential.ensures ∙ c.if-is_essential.false))) c.chosen_size.ensures

pub use_size-returns-in_err-steps : goal.use_size-returns-in_err-steps
use_size-returns-in_err-steps t c =
    let k = terms c.args.db.now c.args.prover.now.search in
    let d : ℕ = c.args.depth in
    let u : Use = c.args.used.now in
    let i : ℕ = c.loop-premise.premise-index in
    let items : List ℕ = c.premises-premise-items.result.now in
    let ids : items ≡ premise_ids c.args.db.now u.id = c.premises-premise-items.ensures.ids ∙ ap (λ (u : Use). premise_ids c.args.db.now u.id) c.used.view_is in
    let few = ap (λ (xs : List ℕ). length xs) ids in
    let same =
    ap (λ (u : Use). premise_proof k (proof_of k d) u.sigma (get_or items i 0)) c.used.view_is ∙ ap (λ (xs : List ℕ). premise_proof k (proof_of k d) u.sigma (get_or xs i 0)) ids in
    let test = c.loop-premise-test.true in
    let f : ImproveFault = c.in_err-steps.field-0.0 in
    let failed : Option Plain → Type 0 = λ o. IsCounted o (Err f) in
    λ g. counts-err (proof_by k (proof_of k d) g u) c.from_residual.result f (same_error c.from_residual.result f c.from_residual.ensures.1 c.from_residual.ensures.0)
    (count-fails k d u c.requires.serves i f (omega arith) (subst failed same c.in_err-steps.ensures) g)

pub use_size-overflow_add-steps : goal.use_size-overflow_add-steps
use_size-overflow_add-steps t c =
    let k = terms c.args.db.now c.args.prover.now.search in
    let d : ℕ = c.args.depth in
    let u : Use = c.args.used.now in
    let i : ℕ = c.loop-premise.premise-index in
    let items : List ℕ = c.premises-premise-items.result.now in
    let ids : items ≡ premise_ids c.args.db.now u.id = c.premises-premise-items.ensures.ids ∙ ap (λ (u : Use). premise_ids c.args.db.now u.id) c.used.view_is in
    let few = ap (λ (xs : List ℕ). length xs) ids in
    let same =
    ap (λ (u : Use). premise_proof k (proof_of k d) u.sigma (get_or items i 0)) c.used.view_is ∙ ap (λ (xs : List ℕ). premise_proof k (proof_of k d) u.sigma (get_or xs i 0)) ids in
    let test = c.loop-premise-test.true in
    let n : ℕ = c.in_ok-steps.field-0 in
    let more = count-more k d u c.requires.serves i n c.loop-premise.steps (omega arith) (subst (λ (o : Option Plain). IsCounted o (Ok n)) same c.in_ok-steps.ensures) c.loop-premise.invariant.counted in
    let few = c.loop-premise.invariant.few in
    let small = more.1 in
    omega (arith, few, small)

pub use_size-returns-then-steps-gt-MOST_STEPS : goal.use_size-returns-then-steps-gt-MOST_STEPS
use_size-returns-then-steps-gt-MOST_STEPS t c =
    let k = terms c.args.db.now c.args.prover.now.search in
    let d : ℕ = c.args.depth in
    let u : Use = c.args.used.now in
    let i : ℕ = c.loop-premise.premise-index in
    let items : List ℕ = c.premises-premise-items.result.now in
    let ids : items ≡ premise_ids c.args.db.now u.id = c.premises-premise-items.ensures.ids ∙ ap (λ (u : Use). premise_ids c.args.db.now u.id) c.used.view_is in
    let few = ap (λ (xs : List ℕ). length xs) ids in
    let same =
    ap (λ (u : Use). premise_proof k (proof_of k d) u.sigma (get_or items i 0)) c.used.view_is ∙ ap (λ (xs : List ℕ). premise_proof k (proof_of k d) u.sigma (get_or xs i 0)) ids in
    let test = c.loop-premise-test.true in
    let n : ℕ = c.in_ok-steps.field-0 in
    let more = count-more k d u c.requires.serves i n c.loop-premise.steps (omega arith) (subst (λ (o : Option Plain). IsCounted o (Ok n)) same c.in_ok-steps.ensures) c.loop-premise.invariant.counted in
    λ g. count-over k d u c.requires.serves (i + 1) (c.loop-premise.steps + n) more.0 c.if-steps-gt-MOST_STEPS.true g

pub use_size-loop-premise-preserved : goal.use_size-loop-premise-preserved
use_size-loop-premise-preserved t c =
    let k = terms c.args.db.now c.args.prover.now.search in
    let d : ℕ = c.args.depth in
    let u : Use = c.args.used.now in
    let i : ℕ = c.loop-premise.premise-index in
    let items : List ℕ = c.premises-premise-items.result.now in
    let ids : items ≡ premise_ids c.args.db.now u.id = c.premises-premise-items.ensures.ids ∙ ap (λ (u : Use). premise_ids c.args.db.now u.id) c.used.view_is in
    let few = ap (λ (xs : List ℕ). length xs) ids in
    let same =
    ap (λ (u : Use). premise_proof k (proof_of k d) u.sigma (get_or items i 0)) c.used.view_is ∙ ap (λ (xs : List ℕ). premise_proof k (proof_of k d) u.sigma (get_or xs i 0)) ids in
    let test = c.loop-premise-test.true in
    let n : ℕ = c.in_ok-steps.field-0 in
    let more = count-more k d u c.requires.serves i n c.loop-premise.steps (omega arith) (subst (λ (o : Option Plain). IsCounted o (Ok n)) same c.in_ok-steps.ensures) c.loop-premise.invariant.counted in
    record { counted = more.0; few = c.if-steps-gt-MOST_STEPS.false }

pub use_size-returns : goal.use_size-returns
use_size-returns t c =
    let k = terms c.args.db.now c.args.prover.now.search in
    let d : ℕ = c.args.depth in
    let u : Use = c.args.used.now in
    let i : ℕ = c.loop-premise.premise-index in
    let items : List ℕ = c.premises-premise-items.result.now in
    let ids : items ≡ premise_ids c.args.db.now u.id = c.premises-premise-items.ensures.ids ∙ ap (λ (u : Use). premise_ids c.args.db.now u.id) c.used.view_is in
    let few = ap (λ (xs : List ℕ). length xs) ids in
    let test = c.loop-premise-test.false in
    λ g. count-all k d u c.requires.serves i c.loop-premise.steps (omega arith) c.loop-premise.invariant.counted c.loop-premise.invariant.few g
