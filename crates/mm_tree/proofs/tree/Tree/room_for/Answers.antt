use Rattle.std.proofs.Common.{◌≡◌, true, ap, sym, ◌∙◌, arith}
use Rattle.mm_plain.specs.declared.plain.Plain.{Plain}
use Rattle.mm_plain.specs.Shape.{size_of, height_of, step_at, depth_at}
use Rattle.mm_plain.proofs.Parts.{size-grafted, height-grafted}
use Rattle.mm_plain.proofs.Read.{unlabelled-one}
use Rattle.mm_tree.specs.Meanings.{count, tall}
use Rattle.mm_tree.specs.Versions.{line_of}
use Rattle.mm_tree.proofs.Shapes.{size_of-mean, height_of-mean, depth_at-mean}
use Rattle.mm_tree.proofs.tree.Tree.room_for.Goals as goal

pub depth-requires-clause-exists : goal.depth-requires-clause-exists
depth-requires-clause-exists c = (omega (arith, c.from-step.ensures, c.requires.exists.0), omega (arith, c.from-step.ensures, c.requires.exists.1, size_of-mean (line_of c.args.self.now.versions true) c.hand-3.result.now, ap size_of c.hand-3.ensures.plain))

pub returns-then-size : goal.returns-then-size
returns-then-size c =
    let x = c.args.self.now.proof.plain in
    let y = c.args.part.now.proof.plain in
    let one : size_of (step_at x c.args.step) ≡ 1 = unlabelled-one (step_at x c.args.step) c.requires.unknown in
    let s1 : c.size.result ≡ size_of y = c.size.ensures ∙ sym (size_of-mean (line_of c.args.part.now.versions true) c.hand.result.now) ∙ ap size_of c.hand.ensures.plain in
    let s2 : c.size-2.result ≡ size_of x = c.size-2.ensures ∙ sym (size_of-mean (line_of c.args.self.now.versions true) c.hand-2.result.now) ∙ ap size_of c.hand-2.ensures.plain in
    let s = size-grafted y x c.args.step c.requires.exists.0 c.requires.exists.1 one in
    omega (arith, c.if-size.true)

pub returns-then-depth-height-gt-MOST_LEVELS : goal.returns-then-depth-height-gt-MOST_LEVELS
returns-then-depth-height-gt-MOST_LEVELS c =
    let x = c.args.self.now.proof.plain in
    let y = c.args.part.now.proof.plain in
    let one : size_of (step_at x c.args.step) ≡ 1 = unlabelled-one (step_at x c.args.step) c.requires.unknown in
    let s1 : c.size.result ≡ size_of y = c.size.ensures ∙ sym (size_of-mean (line_of c.args.part.now.versions true) c.hand.result.now) ∙ ap size_of c.hand.ensures.plain in
    let s2 : c.size-2.result ≡ size_of x = c.size-2.ensures ∙ sym (size_of-mean (line_of c.args.self.now.versions true) c.hand-2.result.now) ∙ ap size_of c.hand-2.ensures.plain in
    let s = size-grafted y x c.args.step c.requires.exists.0 c.requires.exists.1 one in
    let d : c.depth.result ≡ depth_at x c.args.step = c.depth.ensures.depth ∙ sym (depth_at-mean (line_of c.args.self.now.versions true) c.hand-3.result.now c.from-step.result) ∙ ap (λ (z : Plain). depth_at z c.from-step.result) c.hand-3.ensures.plain ∙ ap (depth_at x) c.from-step.ensures in
    let h1 : c.height.result ≡ height_of y = c.height.ensures ∙ sym (height_of-mean (line_of c.args.part.now.versions true) c.hand-4.result.now) ∙ ap height_of c.hand-4.ensures.plain in
    let low = c.hand-3.ensures.low in
    let h2 : height_of x ≡ tall c.hand-3.result.now = ap height_of (sym c.hand-3.ensures.plain) ∙ height_of-mean (line_of c.args.self.now.versions true) c.hand-3.result.now in
    let h = height-grafted y x c.args.step c.requires.exists.0 c.requires.exists.1 one in
    (omega (arith, c.if-size.false), omega (arith, c.if-depth-height-gt-MOST_LEVELS.true))

pub returns : goal.returns
returns c =
    let x = c.args.self.now.proof.plain in
    let y = c.args.part.now.proof.plain in
    let one : size_of (step_at x c.args.step) ≡ 1 = unlabelled-one (step_at x c.args.step) c.requires.unknown in
    let s1 : c.size.result ≡ size_of y = c.size.ensures ∙ sym (size_of-mean (line_of c.args.part.now.versions true) c.hand.result.now) ∙ ap size_of c.hand.ensures.plain in
    let s2 : c.size-2.result ≡ size_of x = c.size-2.ensures ∙ sym (size_of-mean (line_of c.args.self.now.versions true) c.hand-2.result.now) ∙ ap size_of c.hand-2.ensures.plain in
    let s = size-grafted y x c.args.step c.requires.exists.0 c.requires.exists.1 one in
    let d : c.depth.result ≡ depth_at x c.args.step = c.depth.ensures.depth ∙ sym (depth_at-mean (line_of c.args.self.now.versions true) c.hand-3.result.now c.from-step.result) ∙ ap (λ (z : Plain). depth_at z c.from-step.result) c.hand-3.ensures.plain ∙ ap (depth_at x) c.from-step.ensures in
    let h1 : c.height.result ≡ height_of y = c.height.ensures ∙ sym (height_of-mean (line_of c.args.part.now.versions true) c.hand-4.result.now) ∙ ap height_of c.hand-4.ensures.plain in
    let low = c.hand-3.ensures.low in
    let h2 : height_of x ≡ tall c.hand-3.result.now = ap height_of (sym c.hand-3.ensures.plain) ∙ height_of-mean (line_of c.args.self.now.versions true) c.hand-3.result.now in
    let h = height-grafted y x c.args.step c.requires.exists.0 c.requires.exists.1 one in
    (omega (arith, c.if-size.false), omega (arith, c.if-depth-height-gt-MOST_LEVELS.false))
