use Rattle.std.proofs.Common.{◌≡◌, ◌∷◌, ◌++◌, [], ℕ, List, length, sym, ◌∙◌, ap, arith, subst, refl, ◌+◌, length-append}
use Rattle.mm_chart.specs.declared.table.Part.{Part}
use Rattle.mm_improve.specs.Proving.{rank_limit}
use Rattle.mm_improve.specs.Searches.{terms}
use Rattle.mm_improve.specs.Traces.{whole}
use Rattle.mm_improve.proofs.TraceSteps.{AreLeft, begun, last_ranked, one_more, at_end, too_many}
use Rattle.mm_improve.proofs.tracing.steps_back.Goals as goal

empty-or : (xs : List Part) → length xs ≡ 0 → xs ≡ []
empty-or [] h = refl
empty-or (x ∷ xs) h = absurd (omega (arith, h))

pub loop-init : goal.loop-init
loop-init c =
    let k = terms c.args.db.now c.args.search in
    let r = rank_limit c.args.db.now (c.args.code ∷ c.args.text.now) in
    let w = whole c.args.code c.args.text.now in
    let stack : c.append.new.parts.items ≡ w ∷ [] = c.in_ok-append.ensures ∙ ap (λ xs. xs ++ w ∷ []) c.new-stack.ensures.items in
    record {
      long = ap length c.new-parts.ensures.items;
      left = subst (λ s. AreLeft k r c.args.code c.args.text.now w s c.new-parts.result.items) (sym stack) (subst (AreLeft k r c.args.code c.args.text.now w (w ∷ [])) (sym c.new-parts.ensures.items) (begun k r c.args.code c.args.text.now w c.requires.ranked));
    }

pub returns-in_default-clause-traced : goal.returns-in_default-clause-traced
returns-in_default-clause-traced c =
    at_end (terms c.args.db.now c.args.search) (rank_limit c.args.db.now (c.args.code ∷ c.args.text.now)) c.args.code c.args.text.now (whole c.args.code c.args.text.now) c.loop.stack.items c.loop.parts.items
    (empty-or c.loop.stack.items (grind (arith, c.pop.ensures, c.in_default.is, c.in_default.ensures))) c.loop.invariant.left

pub step_down-requires-clause-ordered : goal.step_down-requires-clause-ordered
step_down-requires-clause-ordered c =
    let k = terms c.args.db.now c.args.search in
    let r = rank_limit c.args.db.now (c.args.code ∷ c.args.text.now) in
    let w = whole c.args.code c.args.text.now in
    (last_ranked k r c.args.code c.args.text.now w c.pop.new.self.items c.in-Some.part c.loop.parts.items (subst (λ s. AreLeft k r c.args.code c.args.text.now w s c.loop.parts.items) c.in-Some.ensures.items c.loop.invariant.left)).ordered

pub step_down-requires-clause-within : goal.step_down-requires-clause-within
step_down-requires-clause-within c =
    let k = terms c.args.db.now c.args.search in
    let r = rank_limit c.args.db.now (c.args.code ∷ c.args.text.now) in
    let w = whole c.args.code c.args.text.now in
    (last_ranked k r c.args.code c.args.text.now w c.pop.new.self.items c.in-Some.part c.loop.parts.items (subst (λ s. AreLeft k r c.args.code c.args.text.now w s c.loop.parts.items) c.in-Some.ensures.items c.loop.invariant.left)).within

pub step_down-requires-clause-leads : goal.step_down-requires-clause-leads
step_down-requires-clause-leads c =
    let k = terms c.args.db.now c.args.search in
    let r = rank_limit c.args.db.now (c.args.code ∷ c.args.text.now) in
    let w = whole c.args.code c.args.text.now in
    (last_ranked k r c.args.code c.args.text.now w c.pop.new.self.items c.in-Some.part c.loop.parts.items (subst (λ s. AreLeft k r c.args.code c.args.text.now w s c.loop.parts.items) c.in-Some.ensures.items c.loop.invariant.left)).leads

pub loop-preserved : goal.loop-preserved
loop-preserved c =
    let k = terms c.args.db.now c.args.search in
    let r = rank_limit c.args.db.now (c.args.code ∷ c.args.text.now) in
    let w = whole c.args.code c.args.text.now in
    let p = c.in-Some.part in
    let left = subst (λ s. AreLeft k r c.args.code c.args.text.now w s c.loop.parts.items) c.in-Some.ensures.items c.loop.invariant.left in
    let ranked = last_ranked k r c.args.code c.args.text.now w c.pop.new.self.items p c.loop.parts.items left in
    let done : c.append-in-loop.new.parts.items ≡ c.loop.parts.items ++ p ∷ [] = c.in_ok-append-2.ensures in
    record {
      long = ap length done ∙ length-append c.loop.parts.items (p ∷ []) ∙ ap (λ (n : ℕ). n + 1) c.loop.invariant.long;
      left = subst (AreLeft k r c.args.code c.args.text.now w c.step_down.new.stack.items) (sym done) (one_more k r c.args.code c.args.text.now w c.pop.new.self.items p c.loop.parts.items c.step_down.new.stack.items left (c.in_ok-step_down.ensures r ranked));
    }

pub returns-then-is_empty-clause-traced : goal.returns-then-is_empty-clause-traced
returns-then-is_empty-clause-traced c =
    at_end (terms c.args.db.now c.args.search) (rank_limit c.args.db.now (c.args.code ∷ c.args.text.now)) c.args.code c.args.text.now (whole c.args.code c.args.text.now) c.loop.stack.items c.loop.parts.items
    (empty-or c.loop.stack.items (grind (arith, c.is_empty.ensures, c.if-is_empty.true))) c.loop.invariant.left

pub returns-else-is_empty-clause-traced : goal.returns-else-is_empty-clause-traced
returns-else-is_empty-clause-traced c =
    too_many (terms c.args.db.now c.args.search) (rank_limit c.args.db.now (c.args.code ∷ c.args.text.now)) c.args.code c.args.text.now (whole c.args.code c.args.text.now) c.loop.stack.items c.loop.parts.items 1000000
    (grind (arith, c.is_empty.ensures, c.if-is_empty.false)) (grind (arith, c.loop.invariant.long, c.loop-test.false, c.loop.auto)) c.loop.invariant.left
