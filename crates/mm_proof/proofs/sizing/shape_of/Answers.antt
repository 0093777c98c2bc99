use Rattle.std.proofs.Common.{◌≡◌, ◌+◌, ◌-◌, ◌∷◌, ◌++◌, [], List, Some, get_or, take, drop, length, ap, sym, ◌∙◌, subst, arith}
use Rattle.std.proofs.lemmas.List.{take_rest, get_or_default}
use Rattle.mm_proof.specs.Arities.{takes}
use Rattle.mm_proof.specs.Shaping.{shape_at}
use Rattle.mm_proof.specs.Steps.{untagged}
use Rattle.mm_proof.specs.declared.extent.Shape.{Shape}
use Rattle.mm_proof.specs.declared.step.ProofStep.{ProofStep}
use Rattle.mm_proof.specs.declared.step.StepKind.TheVariants.{Hyp}
use Rattle.mm_proof.proofs.Shaped.{Shaped, shaped_start, shaped_more, shaped_few, shaped_none, shaped_apart, shaped_all}
use Rattle.mm_proof.proofs.sizing.shape_of.Goals as goal

pub loop-step-init : goal.loop-step-init
loop-step-init c = shaped_start c.args.db.now c.args.steps.now c.new-trees.result.items c.new-stack.result.items c.new-trees.ensures.items c.new-stack.ensures.items

pub returns-then-count-len : goal.returns-then-count-len
returns-then-count-len c =
    let d : ProofStep = untagged (Hyp (record { 0 = 0 })) in
    let all = c.args.steps.now in
    let i = c.loop-step.step-index in
    let count = c.len.ensures ∙ c.loop-step.stack.ok.0 in
    let few = c.if-count-len.true in
    let takes_is = c.takes-count.ensures in
    sym (shaped_few c.args.db.now all c.loop-step.trees.items c.loop-step.stack.items i (get_or all i d) c.loop-step.invariant c.loop-step-test.true (get_or_default all i d (get_or all i d) c.loop-step-test.true) (omega arith))

pub returns-in_default : goal.returns-in_default
returns-in_default c =
    let d : ProofStep = untagged (Hyp (record { 0 = 0 })) in
    let all = c.args.steps.now in
    let i = c.loop-step.step-index in
    let n = c.len-in-loop-step.result - c.takes-count.result in
    let children = take (length c.deref-in-loop-step.result.now - n) (drop n c.deref-in-loop-step.result.now) in
    sym (shaped_none c.args.db.now all c.loop-step.trees.items c.loop-step.stack.items children i (get_or all i d) c.loop-step.invariant c.loop-step-test.true (get_or_default all i d (get_or all i d) c.loop-step-test.true)
    (ap (λ x. shape_at x children (get_or all i d).kind) (sym c.deref.ensures.value) ∙ sym c.shape_at.ensures ∙ c.in_default.is))

pub loop-step-preserved : goal.loop-step-preserved
loop-step-preserved c =
    let d : ProofStep = untagged (Hyp (record { 0 = 0 })) in
    let all = c.args.steps.now in
    let i = c.loop-step.step-index in
    let s = get_or all i d in
    let trees = c.loop-step.trees.items in
    let stack = c.loop-step.stack.items in
    let shape = c.in-Some.shape in
    let count = c.len-in-loop-step.ensures ∙ c.loop-step.stack.ok.0 in
    let first = c.len.ensures ∙ c.loop-step.stack.ok.0 in
    let takes_is = c.takes-count.ensures in
    let few = c.if-count-len.false in
    let n = c.len-in-loop-step.result - c.takes-count.result in
    let from : n ≡ length stack - takes c.args.db.now s.kind = omega arith in
    let children = take (length c.deref-in-loop-step.result.now - n) (drop n c.deref-in-loop-step.result.now) in
    let rest : children ≡ drop n stack = ap (λ x. take (length x - n) (drop n x)) c.deref-in-loop-step.ensures.value ∙ take_rest stack n in
    let at : shape_at trees (drop n stack) s.kind ≡ Some shape =
    ap (λ x. shape_at trees x s.kind) (sym rest) ∙ ap (λ x. shape_at x children s.kind) (sym c.deref.ensures.value) ∙ sym c.shape_at.ensures ∙ c.in-Some.is in
    let g = shaped_more c.args.db.now all trees stack i n s shape c.loop-step.invariant c.loop-step-test.true (get_or_default all i d s c.loop-step-test.true) (omega arith) from at in
    let P : List Shape → Type 0 = λ x. Shaped c.args.db.now all x (take n stack ++ shape ∷ []) (i + 1) in
    let Q : List Shape → Type 0 = λ x. Shaped c.args.db.now all c.push-in-loop-step.new.self.items x (i + 1) in
    subst Q (sym (c.in_ok-push.ensures.items ∙ ap (λ x. x ++ shape ∷ []) c.truncate.ensures.items)) (subst P (sym c.in_ok-push-2.ensures.items) g)

pub returns-then-len-ne1 : goal.returns-then-len-ne1
returns-then-len-ne1 c =
    let count = c.len-2.ensures ∙ c.loop-step.stack.ok.0 in
    sym (shaped_apart c.args.db.now c.args.steps.now c.loop-step.trees.items c.loop-step.stack.items c.loop-step.step-index c.loop-step.invariant c.loop-step-test.false (λ e. c.if-len-ne1.true (count ∙ e)))

pub returns : goal.returns
returns c =
    let count = c.len-2.ensures ∙ c.loop-step.stack.ok.0 in
    sym (shaped_all c.args.db.now c.args.steps.now c.loop-step.trees.items c.loop-step.stack.items c.loop-step.step-index c.index.result.now c.loop-step.invariant c.loop-step-test.false (omega (arith, count, c.if-len-ne1.false)) c.index.ensures)
