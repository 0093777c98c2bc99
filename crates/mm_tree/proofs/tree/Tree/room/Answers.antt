use Rattle.std.proofs.Common.{◌≡◌, true, length, ap, sym, ◌∙◌, arith}
use Rattle.mm_subst.specs.Statements.{statement_of}
use Rattle.mm_plain.specs.declared.plain.Plain.{Plain}
use Rattle.mm_plain.specs.Premises.{premises_of}
use Rattle.mm_plain.specs.Shape.{size_of, height_of, step_at, depth_at}
use Rattle.mm_plain.proofs.Read.{unlabelled-one}
use Rattle.mm_tree.specs.Meanings.{count, tall}
use Rattle.mm_tree.specs.Placed.{levels_over}
use Rattle.mm_tree.specs.Versions.{line_of}
use Rattle.mm_tree.proofs.Grown.{size-placed, height-placed}
use Rattle.mm_tree.proofs.ByIds.{as_many}
use Rattle.mm_tree.proofs.Shapes.{size_of-mean, height_of-mean, depth_at-mean}
use Rattle.mm_tree.proofs.tree.Tree.room.Goals as goal

pub depth-requires-clause-exists : goal.depth-requires-clause-exists
depth-requires-clause-exists c = (omega (arith, c.from-step.ensures, c.requires.exists.0), omega (arith, c.from-step.ensures, c.requires.exists.1, size_of-mean (line_of c.args.self.now.versions true) c.hand-2.result.now, ap size_of c.hand-2.ensures.plain))

pub returns-then-premises-size : goal.returns-then-premises-size
returns-then-premises-size c = λ sigma.
    let x = c.args.self.now.proof.plain in
    let id = c.args.id.0 in
    let line = line_of c.args.self.now.versions true in
    let hs = premises_of c.args.db.now id in
    let one : size_of (step_at x c.args.step) ≡ 1 = unlabelled-one (step_at x c.args.step) c.requires.unknown in
    let z : c.size.result ≡ size_of x = c.size.ensures ∙ sym (size_of-mean line c.hand.result.now) ∙ ap size_of c.hand.ensures.plain in
    let i1 = c.hand.ensures.few in
    let i2 = c.hand.ensures.low in
    let i3 : size_of x ≡ count c.hand.result.now = ap size_of (sym c.hand.ensures.plain) ∙ size_of-mean line c.hand.result.now in
    let i4 : height_of x ≡ tall c.hand.result.now = ap height_of (sym c.hand.ensures.plain) ∙ height_of-mean line c.hand.result.now in
    let len : length c.premises-premises.result.now ≡ length hs = as_many (statement_of c.args.db.now) c.premises-premises.result.now hs c.premises-premises.ensures.value in
    let s = size-placed x c.args.step id sigma hs c.requires.exists.0 c.requires.exists.1 one in
    omega (arith, c.if-premises-size.true)

pub returns-then-depth-levels_over-gt-MOST_LEVELS : goal.returns-then-depth-levels_over-gt-MOST_LEVELS
returns-then-depth-levels_over-gt-MOST_LEVELS c = λ sigma.
    let x = c.args.self.now.proof.plain in
    let id = c.args.id.0 in
    let line = line_of c.args.self.now.versions true in
    let hs = premises_of c.args.db.now id in
    let one : size_of (step_at x c.args.step) ≡ 1 = unlabelled-one (step_at x c.args.step) c.requires.unknown in
    let z : c.size.result ≡ size_of x = c.size.ensures ∙ sym (size_of-mean line c.hand.result.now) ∙ ap size_of c.hand.ensures.plain in
    let i1 = c.hand.ensures.few in
    let i2 = c.hand.ensures.low in
    let i3 : size_of x ≡ count c.hand.result.now = ap size_of (sym c.hand.ensures.plain) ∙ size_of-mean line c.hand.result.now in
    let i4 : height_of x ≡ tall c.hand.result.now = ap height_of (sym c.hand.ensures.plain) ∙ height_of-mean line c.hand.result.now in
    let len : length c.premises-premises.result.now ≡ length hs = as_many (statement_of c.args.db.now) c.premises-premises.result.now hs c.premises-premises.ensures.value in
    let s = size-placed x c.args.step id sigma hs c.requires.exists.0 c.requires.exists.1 one in
    let d : c.depth.result ≡ depth_at x c.args.step = c.depth.ensures.depth ∙ sym (depth_at-mean line c.hand-2.result.now c.from-step.result) ∙ ap (λ (y : Plain). depth_at y c.from-step.result) c.hand-2.ensures.plain ∙ ap (depth_at x) c.from-step.ensures in
    let l : c.levels_over.result ≡ levels_over (length hs) = c.levels_over.ensures ∙ ap levels_over len in
    let h = height-placed x c.args.step id sigma hs c.requires.exists.0 c.requires.exists.1 one in
    (omega (arith, c.if-premises-size.false), omega (arith, c.if-depth-levels_over-gt-MOST_LEVELS.true))

pub returns : goal.returns
returns c = λ sigma.
    let x = c.args.self.now.proof.plain in
    let id = c.args.id.0 in
    let line = line_of c.args.self.now.versions true in
    let hs = premises_of c.args.db.now id in
    let one : size_of (step_at x c.args.step) ≡ 1 = unlabelled-one (step_at x c.args.step) c.requires.unknown in
    let z : c.size.result ≡ size_of x = c.size.ensures ∙ sym (size_of-mean line c.hand.result.now) ∙ ap size_of c.hand.ensures.plain in
    let i1 = c.hand.ensures.few in
    let i2 = c.hand.ensures.low in
    let i3 : size_of x ≡ count c.hand.result.now = ap size_of (sym c.hand.ensures.plain) ∙ size_of-mean line c.hand.result.now in
    let i4 : height_of x ≡ tall c.hand.result.now = ap height_of (sym c.hand.ensures.plain) ∙ height_of-mean line c.hand.result.now in
    let len : length c.premises-premises.result.now ≡ length hs = as_many (statement_of c.args.db.now) c.premises-premises.result.now hs c.premises-premises.ensures.value in
    let s = size-placed x c.args.step id sigma hs c.requires.exists.0 c.requires.exists.1 one in
    let d : c.depth.result ≡ depth_at x c.args.step = c.depth.ensures.depth ∙ sym (depth_at-mean line c.hand-2.result.now c.from-step.result) ∙ ap (λ (y : Plain). depth_at y c.from-step.result) c.hand-2.ensures.plain ∙ ap (depth_at x) c.from-step.ensures in
    let l : c.levels_over.result ≡ levels_over (length hs) = c.levels_over.ensures ∙ ap levels_over len in
    let h = height-placed x c.args.step id sigma hs c.requires.exists.0 c.requires.exists.1 one in
    (omega (arith, c.if-premises-size.false), omega (arith, c.if-depth-levels_over-gt-MOST_LEVELS.false))
