use Rattle.std.proofs.Common.{◌≡◌, ◌+◌, ◌-◌, ◌≤◌, drop, true, ap, sym, refl, ◌∙◌, arith}
use Rattle.std.specs.List.{sum_by}
use Rattle.mm_plain.specs.declared.plain.Plain.{Plain}
use Rattle.mm_plain.specs.Children.{children_of}
use Rattle.mm_plain.specs.Shape.{size_of, step_at}
use Rattle.mm_plain.proofs.Children.{child-behind}
use Rattle.mm_plain.proofs.Parts.{size-part}
use Rattle.mm_tree.specs.Meanings.{mean, count}
use Rattle.mm_tree.specs.Versions.{line_of}
use Rattle.mm_tree.proofs.Later.{behind-le}
use Rattle.mm_tree.proofs.Shapes.{size_of-mean}
use Rattle.mm_tree.proofs.tree.Tree.child.Goals as goal

pub at-requires : goal.at-requires
at-requires c = (omega (arith, c.from.ensures, c.requires.exists.0), omega (arith, c.from.ensures, c.requires.exists.1, size_of-mean (line_of c.args.self.now.versions true) c.hand.result.now, ap size_of c.hand.ensures.plain))

pub steps_behind-behind-requires : goal.steps_behind-behind-requires
steps_behind-behind-requires c =
    let x = c.args.self.now.proof.plain in
    let line = line_of c.args.self.now.versions true in
    let same : mean c.at.result.now line ≡ step_at x c.args.step = c.at.ensures.same line ∙ ap (λ (z : Plain). step_at z c.from.result) c.hand.ensures.plain ∙ ap (step_at x) c.from.ensures in
    omega (arith, ap size_of same, size_of-mean line c.at.result.now, size-part x c.args.step c.requires.exists.0 c.requires.exists.1, c.hand.ensures.few, size_of-mean line c.hand.result.now, ap size_of c.hand.ensures.plain)

pub overflow_cast-result : goal.overflow_cast-result
overflow_cast-result c =
    let x = c.args.self.now.proof.plain in
    let y = step_at x c.args.step in
    let line = line_of c.args.self.now.versions true in
    let same : mean c.at.result.now line ≡ y = c.at.ensures.same line ∙ ap (λ (z : Plain). step_at z c.from.result) c.hand.ensures.plain ∙ ap (step_at x) c.from.ensures in
    let number : c.steps_behind-behind.result ≡ sum_by size_of (drop c.args.j (children_of y)) = c.steps_behind-behind.ensures line ∙ ap (λ (z : Plain). sum_by size_of (drop c.args.j (children_of z))) same in
    let le = behind-le x c.args.step c.args.j c.requires.exists.0 c.requires.exists.1 y refl in
    omega (arith, number, le, c.ranges.step.fits)

pub overflow_sub-result-2 : goal.overflow_sub-result-2
overflow_sub-result-2 c =
    let x = c.args.self.now.proof.plain in
    let y = step_at x c.args.step in
    let line = line_of c.args.self.now.versions true in
    let same : mean c.at.result.now line ≡ y = c.at.ensures.same line ∙ ap (λ (z : Plain). step_at z c.from.result) c.hand.ensures.plain ∙ ap (step_at x) c.from.ensures in
    let number : c.steps_behind-behind.result ≡ sum_by size_of (drop c.args.j (children_of y)) = c.steps_behind-behind.ensures line ∙ ap (λ (z : Plain). sum_by size_of (drop c.args.j (children_of z))) same in
    let le = behind-le x c.args.step c.args.j c.requires.exists.0 c.requires.exists.1 y refl in
    omega (arith, number, le)

pub returns-clause-number : goal.returns-clause-number
returns-clause-number c =
    let x = c.args.self.now.proof.plain in
    let y = step_at x c.args.step in
    let line = line_of c.args.self.now.versions true in
    let same : mean c.at.result.now line ≡ y = c.at.ensures.same line ∙ ap (λ (z : Plain). step_at z c.from.result) c.hand.ensures.plain ∙ ap (step_at x) c.from.ensures in
    let number : c.steps_behind-behind.result ≡ sum_by size_of (drop c.args.j (children_of y)) = c.steps_behind-behind.ensures line ∙ ap (λ (z : Plain). sum_by size_of (drop c.args.j (children_of z))) same in
    let le = behind-le x c.args.step c.args.j c.requires.exists.0 c.requires.exists.1 y refl in
    omega (arith, number, le)

pub returns-clause-exists : goal.returns-clause-exists
returns-clause-exists c =
    let x = c.args.self.now.proof.plain in
    let y = step_at x c.args.step in
    let line = line_of c.args.self.now.versions true in
    let same : mean c.at.result.now line ≡ y = c.at.ensures.same line ∙ ap (λ (z : Plain). step_at z c.from.result) c.hand.ensures.plain ∙ ap (step_at x) c.from.ensures in
    let number : c.steps_behind-behind.result ≡ sum_by size_of (drop c.args.j (children_of y)) = c.steps_behind-behind.ensures line ∙ ap (λ (z : Plain). sum_by size_of (drop c.args.j (children_of z))) same in
    let le = behind-le x c.args.step c.args.j c.requires.exists.0 c.requires.exists.1 y refl in
    let n = c.args.step - 1 - c.steps_behind-behind.result in
    let e : n + sum_by size_of (drop c.args.j (children_of y)) + 1 ≡ c.args.step = omega (arith, number, le) in
    ((child-behind x c.args.step c.args.j n y c.requires.exists.0 c.requires.exists.1 c.requires.child.0 y refl c.requires.child.1 e).0, omega (arith, c.requires.exists.1))

pub returns-clause-child : goal.returns-clause-child
returns-clause-child c = λ d.
    let x = c.args.self.now.proof.plain in
    let y = step_at x c.args.step in
    let line = line_of c.args.self.now.versions true in
    let same : mean c.at.result.now line ≡ y = c.at.ensures.same line ∙ ap (λ (z : Plain). step_at z c.from.result) c.hand.ensures.plain ∙ ap (step_at x) c.from.ensures in
    let number : c.steps_behind-behind.result ≡ sum_by size_of (drop c.args.j (children_of y)) = c.steps_behind-behind.ensures line ∙ ap (λ (z : Plain). sum_by size_of (drop c.args.j (children_of z))) same in
    let le = behind-le x c.args.step c.args.j c.requires.exists.0 c.requires.exists.1 y refl in
    let n = c.args.step - 1 - c.steps_behind-behind.result in
    let e : n + sum_by size_of (drop c.args.j (children_of y)) + 1 ≡ c.args.step = omega (arith, number, le) in
    (child-behind x c.args.step c.args.j n d c.requires.exists.0 c.requires.exists.1 c.requires.child.0 y refl c.requires.child.1 e).1
