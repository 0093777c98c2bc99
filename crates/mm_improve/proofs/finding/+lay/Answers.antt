use Rattle.std.proofs.Common.{◌≡◌, ◌-◌, ℕ, List, Option, Ok, Err, MatchOption, IfSome, Bool, sym, refl, ◌∙◌, ap, arith, subst, true, length, drop, get_or}
use Rattle.mm_subst.specs.declared.symbol.WSym.{WSym}
use Rattle.mm_subst.specs.Statements.{statement_of}
use Rattle.mm_subst.specs.Substitutions.{applied}
use Rattle.mm_plain.specs.declared.plain.Plain.{Plain}
use Rattle.mm_plain.specs.Lengths.{is_long}
use Rattle.mm_plain.specs.Shape.{known}
use Rattle.mm_plain.specs.Premises.{premise_ids}
use Rattle.mm_plain.specs.Valid.{IsString, first_setting}
use Rattle.mm_tree.specs.Plans.{IsPlan, grove_of, grown}
use Rattle.mm_tree.specs.declared.plan.Plan.{Plan}
use Rattle.mm_tree.proofs.Rooms.{same_error}
use Rattle.mm_improve.specs.Finding.{HasStrings, IsOwnUse}
use Rattle.mm_improve.specs.Laying.{LaysFound}
use Rattle.mm_improve.specs.Proving.{chosen_tree, premise_proof, proof_by, proof_of}
use Rattle.mm_improve.specs.Ranks.{Use}
use Rattle.mm_improve.specs.Searches.{terms}
use Rattle.mm_improve.specs.declared.fault.ImproveFault.{ImproveFault}
use Rattle.mm_improve.proofs.FoundKids.{kids-fail, laid-all, laid-more, lay-fails, no-room, none-left, stepped, takes-few}
use Rattle.mm_improve.proofs.FoundLays.{fails-chosen, lays-behind, lays-chosen, lays-err, lays-none, lays-nothing, lays-same}
use Rattle.mm_improve.proofs.FoundProofs.{by_use, found_at_zero, found_by, premise_long, string_short, used_serves}
use Rattle.mm_improve.proofs.finding.+lay.Goals as goal

pub lay_found-returns-in_err-lay_chosen : goal.lay_found-returns-in_err-lay_chosen
lay_found-returns-in_err-lay_chosen t c =
    let k = terms c.args.db.now c.args.prover.now.search in
    let d : ℕ = c.args.depth in
    let g : List WSym = c.args.goal.now in
    let old : Plan = c.args.plan.now in
    let left : ℕ = c.args.left in
    let short = string_short k c.args.prover.now.search.at.0 g c.requires.string in
    let f : ImproveFault = c.in_err-lay_chosen.field-0.0 in
    let new : Plan = c.lay_chosen.new.plan in
    lays-err old new (proof_of k d g) left c.from_residual.result f (same_error c.from_residual.result f c.from_residual.ensures.1 c.from_residual.ensures.0)
    (fails-chosen k d g short old new left f c.in_err-lay_chosen.ensures)

pub lay_found-returns-then-branch : goal.lay_found-returns-then-branch
lay_found-returns-then-branch t c =
    let k = terms c.args.db.now c.args.prover.now.search in
    let d : ℕ = c.args.depth in
    let g : List WSym = c.args.goal.now in
    let old : Plan = c.args.plan.now in
    let left : ℕ = c.args.left in
    let short = string_short k c.args.prover.now.search.at.0 g c.requires.string in
    let new : Plan = c.lay_chosen.new.plan in
    let told : Bool → Type 0 = λ b. LaysFound old (chosen_tree k g) left (Ok b) new in
    lays-chosen k d g short old new left (subst told c.if-branch.true c.in_ok-lay_chosen.ensures)

pub lay_found-returns-then-depth-eq0 : goal.lay_found-returns-then-depth-eq0
lay_found-returns-then-depth-eq0 t c =
    let k = terms c.args.db.now c.args.prover.now.search in
    let d : ℕ = c.args.depth in
    let g : List WSym = c.args.goal.now in
    let old : Plan = c.args.plan.now in
    let left : ℕ = c.args.left in
    let now : Plan = c.lay_chosen.new.plan in
    let told : Bool → Type 0 = λ b. LaysFound old (chosen_tree k g) left (Ok b) now in
    let nothing = lays-nothing old now (chosen_tree k g) left (subst told c.if-branch.false c.in_ok-lay_chosen.ensures) in
    lays-none old now (proof_of k d g) left (found_at_zero k d g c.if-depth-eq0.true ∙ nothing.0) nothing.1

pub lay_found-lay_use-requires : goal.lay_found-lay_use-requires
lay_found-lay_use-requires t c =
    let k = terms c.args.db.now c.args.prover.now.search in
    let d : ℕ = c.args.depth in
    let g : List WSym = c.args.goal.now in
    let old : Plan = c.args.plan.now in
    let left : ℕ = c.args.left in
    let now : Plan = c.lay_chosen.new.plan in
    let told : Bool → Type 0 = λ b. LaysFound old (chosen_tree k g) left (Ok b) now in
    let nothing = lays-nothing old now (chosen_tree k g) left (subst told c.if-branch.false c.in_ok-lay_chosen.ensures) in
    let some : d ≡ 0 → ⊥ = c.if-depth-eq0.false in
    let own = subst (λ (o : Option Use). IfSome o (IsOwnUse k)) c.in-Some.is c.in_ok-used.ensures.own in
    (omega (arith, c.decreases), (c.requires.ready, (own, (used_serves k (d - 1) g c.in_ok-used.field-0 c.in-Some.used c.in_ok-used.ensures.first c.in-Some.is, subst IsPlan (sym nothing.1) c.requires.plan))))

pub lay_found-returns-in-Some : goal.lay_found-returns-in-Some
lay_found-returns-in-Some t c =
    let k = terms c.args.db.now c.args.prover.now.search in
    let d : ℕ = c.args.depth in
    let g : List WSym = c.args.goal.now in
    let old : Plan = c.args.plan.now in
    let left : ℕ = c.args.left in
    let short = string_short k c.args.prover.now.search.at.0 g c.requires.string in
    let now : Plan = c.lay_chosen.new.plan in
    let told : Bool → Type 0 = λ b. LaysFound old (chosen_tree k g) left (Ok b) now in
    let nothing = lays-nothing old now (chosen_tree k g) left (subst told c.if-branch.false c.in_ok-lay_chosen.ensures) in
    let some : d ≡ 0 → ⊥ = c.if-depth-eq0.false in
    let is = found_by k d g c.in_ok-used.field-0 (omega arith) short nothing.0 c.in_ok-used.ensures.first ∙ ap (by_use k (d - 1) g) c.in-Some.is in
    let new : Plan = c.lay_use.new.plan in
    lays-behind old now new (proof_of k d g) left c.lay_use.result nothing.1
    (lays-same now new (proof_by k (proof_of k (d - 1)) g c.in-Some.used) (proof_of k d g) left c.lay_use.result (sym is) c.lay_use.ensures)

pub lay_found-returns-in-None : goal.lay_found-returns-in-None
lay_found-returns-in-None t c =
    let k = terms c.args.db.now c.args.prover.now.search in
    let d : ℕ = c.args.depth in
    let g : List WSym = c.args.goal.now in
    let old : Plan = c.args.plan.now in
    let left : ℕ = c.args.left in
    let short = string_short k c.args.prover.now.search.at.0 g c.requires.string in
    let now : Plan = c.lay_chosen.new.plan in
    let told : Bool → Type 0 = λ b. LaysFound old (chosen_tree k g) left (Ok b) now in
    let nothing = lays-nothing old now (chosen_tree k g) left (subst told c.if-branch.false c.in_ok-lay_chosen.ensures) in
    let some : d ≡ 0 → ⊥ = c.if-depth-eq0.false in
    let is = found_by k d g c.in_ok-used.field-0 (omega arith) short nothing.0 c.in_ok-used.ensures.first ∙ ap (by_use k (d - 1) g) c.in-None.is in
    lays-none old now (proof_of k d g) left is nothing.1

pub lay_premise-returns-in_default : goal.lay_premise-returns-in_default
lay_premise-returns-in_default t c =
    let k = terms c.args.db.now c.args.prover.now.search in
    let s : List WSym = applied c.args.sigma.now (statement_of c.args.db.now c.args.id.0) in
    let long = subst (λ (o : Option (List WSym)). MatchOption o (is_long s ≡ true) (λ g. g ≡ s)) c.in_default.is c.in_ok-goal.ensures.goal in
    lays-none c.args.plan.now c.args.plan.now (premise_proof k (proof_of k c.args.depth) c.args.sigma.now c.args.id.0) c.args.left (premise_long k c.args.depth c.args.sigma.now c.args.id.0 long) refl

pub lay_premise-lay_found-requires : goal.lay_premise-lay_found-requires
lay_premise-lay_found-requires t c =
    let string = subst (λ (o : Option (List WSym)). IfSome o (λ g. (at : ℕ) → HasStrings c.args.db.now at c.args.sigma.now → IsString (first_setting c.args.db.now at) g)) c.in-Some.is c.in_ok-goal.ensures.string in
    (omega (arith, c.decreases), (c.requires.ready, (string c.args.prover.now.search.at.0 c.requires.values, c.requires.plan)))

pub lay_premises-returns-in_err-lay_premise : goal.lay_premises-returns-in_err-lay_premise
lay_premises-returns-in_err-lay_premise t c =
    let k = terms c.args.db.now c.args.prover.now.search in
    let d : ℕ = c.args.depth in
    let u : Use = c.args.used.now in
    let left : ℕ = c.args.left in
    let i : ℕ = c.loop-premise.premise-index in
    let items : List ℕ = c.premises-premise-items.result.now in
    let ids : items ≡ premise_ids c.args.db.now u.id = c.premises-premise-items.ensures.ids ∙ ap (λ (u : Use). premise_ids c.args.db.now u.id) c.used.view_is in
    let few = ap (λ (xs : List ℕ). length xs) ids in
    let same =
    ap (λ (u : Use). premise_proof k (proof_of k d) u.sigma (get_or items i 0)) c.used.view_is ∙ ap (λ (xs : List ℕ). premise_proof k (proof_of k d) u.sigma (get_or xs i 0)) ids in
    let test = c.loop-premise-test.true in
    let f : ImproveFault = c.in_err-lay_premise.field-0.0 in
    let now : Plan = c.loop-premise.plan in
    let new : Plan = c.lay_premise.new.plan in
    let failed : Option Plain → Type 0 = λ o. LaysFound now o left (Err f) new in
    lay-fails k d u c.requires.serves c.args.plan.now now new i left c.from_residual.result f (same_error c.from_residual.result f c.from_residual.ensures.1 c.from_residual.ensures.0)
    (omega arith) c.loop-premise.invariant (subst failed same c.in_err-lay_premise.ensures)

pub lay_premises-loop-premise-preserved : goal.lay_premises-loop-premise-preserved
lay_premises-loop-premise-preserved t c =
    let k = terms c.args.db.now c.args.prover.now.search in
    let d : ℕ = c.args.depth in
    let u : Use = c.args.used.now in
    let left : ℕ = c.args.left in
    let i : ℕ = c.loop-premise.premise-index in
    let items : List ℕ = c.premises-premise-items.result.now in
    let ids : items ≡ premise_ids c.args.db.now u.id = c.premises-premise-items.ensures.ids ∙ ap (λ (u : Use). premise_ids c.args.db.now u.id) c.used.view_is in
    let few = ap (λ (xs : List ℕ). length xs) ids in
    let same =
    ap (λ (u : Use). premise_proof k (proof_of k d) u.sigma (get_or items i 0)) c.used.view_is ∙ ap (λ (xs : List ℕ). premise_proof k (proof_of k d) u.sigma (get_or xs i 0)) ids in
    let test = c.loop-premise-test.true in
    let now : Plan = c.loop-premise.plan in
    let new : Plan = c.lay_premise.new.plan in
    let b : Bool = c.in_ok-lay_premise.field-0 in
    let laid : Option Plain → Type 0 = λ o. LaysFound now o left (Ok b) new in
    laid-more k d u c.requires.serves c.args.plan.now now new i left b (omega arith) c.loop-premise.invariant (subst laid same c.in_ok-lay_premise.ensures)

pub lay_premises-returns : goal.lay_premises-returns
lay_premises-returns t c =
    let k = terms c.args.db.now c.args.prover.now.search in
    let d : ℕ = c.args.depth in
    let u : Use = c.args.used.now in
    let left : ℕ = c.args.left in
    let i : ℕ = c.loop-premise.premise-index in
    let items : List ℕ = c.premises-premise-items.result.now in
    let ids : items ≡ premise_ids c.args.db.now u.id = c.premises-premise-items.ensures.ids ∙ ap (λ (u : Use). premise_ids c.args.db.now u.id) c.used.view_is in
    let few = ap (λ (xs : List ℕ). length xs) ids in
    let test = c.loop-premise-test.false in
    laid-all k d u c.requires.serves c.args.plan.now c.loop-premise.plan i left (omega arith) c.loop-premise.invariant

pub lay_use-returns-in_default : goal.lay_use-returns-in_default
lay_use-returns-in_default t c =
    let k = terms c.args.db.now c.args.prover.now.search in
    let d : ℕ = c.args.depth in
    let u : Use = c.args.used in
    let g : List WSym = c.args.goal.now in
    let old : Plan = c.args.plan.now in
    let left : ℕ = c.args.left in
    none-left k d u c.requires.serves g old old left (omega (arith, c.in_default.ensures))

pub lay_use-returns-in_err-lay_premises : goal.lay_use-returns-in_err-lay_premises
lay_use-returns-in_err-lay_premises t c =
    let k = terms c.args.db.now c.args.prover.now.search in
    let d : ℕ = c.args.depth in
    let u : Use = c.args.used in
    let g : List WSym = c.args.goal.now in
    let old : Plan = c.args.plan.now in
    let left : ℕ = c.args.left in
    let f : ImproveFault = c.in_err-lay_premises.field-0.0 in
    let new : Plan = c.lay_premises.new.plan in
    lays-err old new (proof_by k (proof_of k d) g u) left c.from_residual.result f (same_error c.from_residual.result f c.from_residual.ensures.1 c.from_residual.ensures.0)
    (kids-fail k d u c.requires.serves (Unit {0}) g old new c.in-Some.left left f (omega (arith, c.in-Some.ensures)) c.in_err-lay_premises.ensures)

pub lay_use-returns-then-steps-ge-MOST_STEPS : goal.lay_use-returns-then-steps-ge-MOST_STEPS
lay_use-returns-then-steps-ge-MOST_STEPS t c =
    let k = terms c.args.db.now c.args.prover.now.search in
    let d : ℕ = c.args.depth in
    let u : Use = c.args.used in
    let g : List WSym = c.args.goal.now in
    let old : Plan = c.args.plan.now in
    let left : ℕ = c.args.left in
    no-room k d u c.requires.serves g old c.lay_premises.new.plan c.in-Some.left left c.in_ok-lay_premises.ensures (let steps = c.steps.ensures in let many = c.if-steps-ge-MOST_STEPS.true in omega arith)

pub lay_use-push-requires-clause-takes : goal.lay_use-push-requires-clause-takes
lay_use-push-requires-clause-takes t c =
    let k = terms c.args.db.now c.args.prover.now.search in
    let d : ℕ = c.args.depth in
    let u : Use = c.args.used in
    let g : List WSym = c.args.goal.now in
    let old : Plan = c.args.plan.now in
    let left : ℕ = c.args.left in
    let now : Plan = c.lay_premises.new.plan in
    let takes : length c.premises-takes.result.now ≡ length (premise_ids c.args.db.now u.id) = ap (λ (xs : List ℕ). length xs) (c.premises-takes.ensures.ids ∙ ap (λ (u : Use). premise_ids c.args.db.now u.id) c.used.view_is) in
    takes-few k d u c.requires.serves old now c.in-Some.left (length c.premises-takes.result.now) c.in_ok-lay_premises.ensures takes

pub lay_use-returns : goal.lay_use-returns
lay_use-returns t c =
    let k = terms c.args.db.now c.args.prover.now.search in
    let d : ℕ = c.args.depth in
    let u : Use = c.args.used in
    let g : List WSym = c.args.goal.now in
    let old : Plan = c.args.plan.now in
    let left : ℕ = c.args.left in
    let now : Plan = c.lay_premises.new.plan in
    let takes : length c.premises-takes.result.now ≡ length (premise_ids c.args.db.now u.id) = ap (λ (xs : List ℕ). length xs) (c.premises-takes.ensures.ids ∙ ap (λ (u : Use). premise_ids c.args.db.now u.id) c.used.view_is) in
    let n : ℕ = length (grove_of now).standing - length c.premises-takes.result.now in
    let step =
    ap (λ (s : List WSym). known s c.used.inside.id.0 c.used.inside.sigma (drop n (grove_of now).standing)) c.in_ok-copy.ensures
    ∙ ap (λ (u : Use). known g u.id u.sigma (drop n (grove_of now).standing)) c.used.view_is in
    stepped k d u c.requires.serves g old now c.push.new.self c.in-Some.left left (length c.premises-takes.result.now) (omega (arith, c.in-Some.ensures)) c.in_ok-lay_premises.ensures takes c.in_ok-push.ensures.plan
    (c.in_ok-push.ensures.grove ∙ ap (grown (grove_of now) n) step)
