use Rattle.std.proofs.Common.{◌≡◌, ℕ, ◌+◌, ◌-◌, ◌≤◌, List, [], true, ap, sym, subst, ◌∙◌, arith}
use Rattle.mm_subst.specs.declared.symbol.WSym.{WSym}
use Rattle.mm_plain.specs.declared.plain.Plain.{Plain}
use Rattle.mm_plain.specs.Drawing.{draws_of, with_fresh}
use Rattle.mm_plain.specs.Grafts.{grafted_in}
use Rattle.mm_plain.specs.Numbers.{HasOwnLabels}
use Rattle.mm_plain.specs.Shape.{height_of, put, size_of, step_at}
use Rattle.mm_plain.proofs.Drawing.{height_of-with_fresh, size_of-with_fresh}
use Rattle.mm_plain.proofs.Parts.{height-part, height-put-le, size-part}
use Rattle.mm_plain.proofs.Sizes.{size-put}
use Rattle.mm_tree.specs.Meanings.{count, mean, tall, youngest}
use Rattle.mm_tree.specs.Versions.{line_of}
use Rattle.mm_tree.specs.declared.timed.TimedTree.{TimedTree}
use Rattle.mm_tree.proofs.Bared.{own-line}
use Rattle.mm_tree.proofs.Made.{on-ok, own-part}
use Rattle.mm_tree.proofs.Renewed.{draws-mean, fresh-mean}
use Rattle.mm_tree.proofs.Shapes.{height_of-mean, size_of-mean}
use Rattle.mm_tree.proofs.Written.{mean-written, young-written}
use Rattle.mm_tree.proofs.tree.Tree.renew.Goals as goal

pub at-part-requires : goal.at-part-requires
at-part-requires g c = (
  omega (arith, c.from.ensures, c.requires.exists.0),
  omega (arith, c.from.ensures, c.requires.exists.1, ap count c.deref.ensures, size_of-mean (line_of c.args.self.now.versions true) c.root.result.now.value, ap size_of c.root.ensures.plain),
)

pub renewed-requires-clause-few : goal.renewed-requires-clause-few
renewed-requires-clause-few g c =
    let line = line_of c.args.self.now.versions true in
    let p : Plain = c.args.self.now.proof.plain in
    let k : ℕ = c.args.step in
    let part : TimedTree = c.at-part.result.now in
    let whole : mean part line ≡ step_at p k
    = c.at-part.ensures.same line
    ∙ ap (λ (x : TimedTree). step_at (mean x line) c.from.result) c.deref.ensures
    ∙ ap (λ (x : Plain). step_at x c.from.result) c.root.ensures.plain
    ∙ ap (step_at p) c.from.ensures in
    let size_is : size_of p ≡ count c.root.result.now.value = sym (ap size_of c.root.ensures.plain) ∙ size_of-mean line c.root.result.now.value in
    let height_is : height_of p ≡ tall c.root.result.now.value = sym (ap height_of c.root.ensures.plain) ∙ height_of-mean line c.root.result.now.value in
    let draws_are : draws_of c.args.db.now (step_at p k) ≡ draws_of c.args.db.now (mean part []) = sym (ap (draws_of c.args.db.now) whole) ∙ draws-mean c.args.db.now line part in
    let few = c.root.ensures.sound.few in
    omega (arith, few, size_is, ap size_of whole, size_of-mean line part, size-part p k c.requires.exists.0 c.requires.exists.1)

pub renewed-requires-clause-own : goal.renewed-requires-clause-own
renewed-requires-clause-own g c =
    let line = line_of c.args.self.now.versions true in
    let p : Plain = c.args.self.now.proof.plain in
    let k : ℕ = c.args.step in
    let part : TimedTree = c.at-part.result.now in
    let whole : mean part line ≡ step_at p k
    = c.at-part.ensures.same line
    ∙ ap (λ (x : TimedTree). step_at (mean x line) c.from.result) c.deref.ensures
    ∙ ap (λ (x : Plain). step_at x c.from.result) c.root.ensures.plain
    ∙ ap (step_at p) c.from.ensures in
    let size_is : size_of p ≡ count c.root.result.now.value = sym (ap size_of c.root.ensures.plain) ∙ size_of-mean line c.root.result.now.value in
    let height_is : height_of p ≡ tall c.root.result.now.value = sym (ap height_of c.root.ensures.plain) ∙ height_of-mean line c.root.result.now.value in
    let draws_are : draws_of c.args.db.now (step_at p k) ≡ draws_of c.args.db.now (mean part []) = sym (ap (draws_of c.args.db.now) whole) ∙ draws-mean c.args.db.now line part in
    own-line c.args.db.now line [] part (subst (HasOwnLabels c.args.db.now) (sym whole) (own-part c.args.db.now p k c.requires.exists.0 c.requires.exists.1 c.requires.own))

pub renewed-requires-clause-drawn : goal.renewed-requires-clause-drawn
renewed-requires-clause-drawn g c =
    let line = line_of c.args.self.now.versions true in
    let p : Plain = c.args.self.now.proof.plain in
    let k : ℕ = c.args.step in
    let part : TimedTree = c.at-part.result.now in
    let whole : mean part line ≡ step_at p k
    = c.at-part.ensures.same line
    ∙ ap (λ (x : TimedTree). step_at (mean x line) c.from.result) c.deref.ensures
    ∙ ap (λ (x : Plain). step_at x c.from.result) c.root.ensures.plain
    ∙ ap (step_at p) c.from.ensures in
    let size_is : size_of p ≡ count c.root.result.now.value = sym (ap size_of c.root.ensures.plain) ∙ size_of-mean line c.root.result.now.value in
    let height_is : height_of p ≡ tall c.root.result.now.value = sym (ap height_of c.root.ensures.plain) ∙ height_of-mean line c.root.result.now.value in
    let draws_are : draws_of c.args.db.now (step_at p k) ≡ draws_of c.args.db.now (mean part []) = sym (ap (draws_of c.args.db.now) whole) ∙ draws-mean c.args.db.now line part in
    omega (arith, c.requires.drawn, c.next_work-end.ensures, draws_are)

pub renewed-requires-clause-below : goal.renewed-requires-clause-below
renewed-requires-clause-below g c =
    let last = c.root.ensures.sound.last in
    omega (arith, last, c.next_work-end.ensures)

pub returns-in_err-node-clause-cost : goal.returns-in_err-node-clause-cost
returns-in_err-node-clause-cost g c =
    let line = line_of c.args.self.now.versions true in
    let p : Plain = c.args.self.now.proof.plain in
    let k : ℕ = c.args.step in
    let part : TimedTree = c.at-part.result.now in
    let whole : mean part line ≡ step_at p k
    = c.at-part.ensures.same line
    ∙ ap (λ (x : TimedTree). step_at (mean x line) c.from.result) c.deref.ensures
    ∙ ap (λ (x : Plain). step_at x c.from.result) c.root.ensures.plain
    ∙ ap (step_at p) c.from.ensures in
    let size_is : size_of p ≡ count c.root.result.now.value = sym (ap size_of c.root.ensures.plain) ∙ size_of-mean line c.root.result.now.value in
    let height_is : height_of p ≡ tall c.root.result.now.value = sym (ap height_of c.root.ensures.plain) ∙ height_of-mean line c.root.result.now.value in
    let draws_are : draws_of c.args.db.now (step_at p k) ≡ draws_of c.args.db.now (mean part []) = sym (ap (draws_of c.args.db.now) whole) ∙ draws-mean c.args.db.now line part in
    omega (arith, c.renewed.ensures.cost, ap size_of whole, size_of-mean line part)

pub replace_step-requires-clause-born : goal.replace_step-requires-clause-born
replace_step-requires-clause-born g c =
    let line = line_of c.args.self.now.versions true in
    let p : Plain = c.args.self.now.proof.plain in
    let k : ℕ = c.args.step in
    let part : TimedTree = c.at-part.result.now in
    let whole : mean part line ≡ step_at p k
    = c.at-part.ensures.same line
    ∙ ap (λ (x : TimedTree). step_at (mean x line) c.from.result) c.deref.ensures
    ∙ ap (λ (x : Plain). step_at x c.from.result) c.root.ensures.plain
    ∙ ap (step_at p) c.from.ensures in
    let size_is : size_of p ≡ count c.root.result.now.value = sym (ap size_of c.root.ensures.plain) ∙ size_of-mean line c.root.result.now.value in
    let height_is : height_of p ≡ tall c.root.result.now.value = sym (ap height_of c.root.ensures.plain) ∙ height_of-mean line c.root.result.now.value in
    let draws_are : draws_of c.args.db.now (step_at p k) ≡ draws_of c.args.db.now (mean part []) = sym (ap (draws_of c.args.db.now) whole) ∙ draws-mean c.args.db.now line part in
    omega (arith, ap youngest c.in_ok-node.ensures.node, young-written c.length-birth.result (with_fresh c.args.db.now (mean part []) c.renewed.new.end c.in_ok-target.target), c.length-birth.ensures.hand)

pub replace_step-requires-clause-few : goal.replace_step-requires-clause-few
replace_step-requires-clause-few g c =
    let line = line_of c.args.self.now.versions true in
    let p : Plain = c.args.self.now.proof.plain in
    let k : ℕ = c.args.step in
    let part : TimedTree = c.at-part.result.now in
    let whole : mean part line ≡ step_at p k
    = c.at-part.ensures.same line
    ∙ ap (λ (x : TimedTree). step_at (mean x line) c.from.result) c.deref.ensures
    ∙ ap (λ (x : Plain). step_at x c.from.result) c.root.ensures.plain
    ∙ ap (step_at p) c.from.ensures in
    let size_is : size_of p ≡ count c.root.result.now.value = sym (ap size_of c.root.ensures.plain) ∙ size_of-mean line c.root.result.now.value in
    let height_is : height_of p ≡ tall c.root.result.now.value = sym (ap height_of c.root.ensures.plain) ∙ height_of-mean line c.root.result.now.value in
    let draws_are : draws_of c.args.db.now (step_at p k) ≡ draws_of c.args.db.now (mean part []) = sym (ap (draws_of c.args.db.now) whole) ∙ draws-mean c.args.db.now line part in
    let end : ℕ = c.renewed.new.end in
    let new : Plain = with_fresh c.args.db.now (step_at p k) end c.in_ok-target.target in
    let made : mean c.in_ok-node.node.value line ≡ new
    = ap (λ (x : TimedTree). mean x line) c.in_ok-node.ensures.node
    ∙ mean-written c.length-birth.result line (omega (arith, c.length-birth.ensures.line)) (with_fresh c.args.db.now (mean part []) end c.in_ok-target.target)
    ∙ sym (fresh-mean c.args.db.now line part end c.in_ok-target.target)
    ∙ ap (λ (x : Plain). with_fresh c.args.db.now x end c.in_ok-target.target) whole in
    let few = c.root.ensures.sound.few in
    omega (
      arith,
      few,
      size_is,
      ap (λ (x : Plain). size_of (put p k x)) made,
      size-put new p k c.requires.exists.0 c.requires.exists.1,
      size_of-with_fresh c.args.db.now (step_at p k) end c.in_ok-target.target,
    )

pub replace_step-requires-clause-low : goal.replace_step-requires-clause-low
replace_step-requires-clause-low g c =
    let line = line_of c.args.self.now.versions true in
    let p : Plain = c.args.self.now.proof.plain in
    let k : ℕ = c.args.step in
    let part : TimedTree = c.at-part.result.now in
    let whole : mean part line ≡ step_at p k
    = c.at-part.ensures.same line
    ∙ ap (λ (x : TimedTree). step_at (mean x line) c.from.result) c.deref.ensures
    ∙ ap (λ (x : Plain). step_at x c.from.result) c.root.ensures.plain
    ∙ ap (step_at p) c.from.ensures in
    let size_is : size_of p ≡ count c.root.result.now.value = sym (ap size_of c.root.ensures.plain) ∙ size_of-mean line c.root.result.now.value in
    let height_is : height_of p ≡ tall c.root.result.now.value = sym (ap height_of c.root.ensures.plain) ∙ height_of-mean line c.root.result.now.value in
    let draws_are : draws_of c.args.db.now (step_at p k) ≡ draws_of c.args.db.now (mean part []) = sym (ap (draws_of c.args.db.now) whole) ∙ draws-mean c.args.db.now line part in
    let end : ℕ = c.renewed.new.end in
    let new : Plain = with_fresh c.args.db.now (step_at p k) end c.in_ok-target.target in
    let made : mean c.in_ok-node.node.value line ≡ new
    = ap (λ (x : TimedTree). mean x line) c.in_ok-node.ensures.node
    ∙ mean-written c.length-birth.result line (omega (arith, c.length-birth.ensures.line)) (with_fresh c.args.db.now (mean part []) end c.in_ok-target.target)
    ∙ sym (fresh-mean c.args.db.now line part end c.in_ok-target.target)
    ∙ ap (λ (x : Plain). with_fresh c.args.db.now x end c.in_ok-target.target) whole in
    let low = c.root.ensures.sound.low in
    omega (
      arith,
      low,
      height_is,
      ap (λ (x : Plain). height_of (put p k x)) made,
      height-put-le new p k c.requires.exists.0 c.requires.exists.1,
      height_of-with_fresh c.args.db.now (step_at p k) end c.in_ok-target.target,
      height-part p k c.requires.exists.0 c.requires.exists.1,
    )

pub returns-clause-ok : goal.returns-clause-ok
returns-clause-ok g c =
    let line = line_of c.args.self.now.versions true in
    let p : Plain = c.args.self.now.proof.plain in
    let k : ℕ = c.args.step in
    let part : TimedTree = c.at-part.result.now in
    let whole : mean part line ≡ step_at p k
    = c.at-part.ensures.same line
    ∙ ap (λ (x : TimedTree). step_at (mean x line) c.from.result) c.deref.ensures
    ∙ ap (λ (x : Plain). step_at x c.from.result) c.root.ensures.plain
    ∙ ap (step_at p) c.from.ensures in
    let size_is : size_of p ≡ count c.root.result.now.value = sym (ap size_of c.root.ensures.plain) ∙ size_of-mean line c.root.result.now.value in
    let height_is : height_of p ≡ tall c.root.result.now.value = sym (ap height_of c.root.ensures.plain) ∙ height_of-mean line c.root.result.now.value in
    let draws_are : draws_of c.args.db.now (step_at p k) ≡ draws_of c.args.db.now (mean part []) = sym (ap (draws_of c.args.db.now) whole) ∙ draws-mean c.args.db.now line part in
    let end : ℕ = c.renewed.new.end in
    let new : Plain = with_fresh c.args.db.now (step_at p k) end c.in_ok-target.target in
    let made : mean c.in_ok-node.node.value line ≡ new
    = ap (λ (x : TimedTree). mean x line) c.in_ok-node.ensures.node
    ∙ mean-written c.length-birth.result line (omega (arith, c.length-birth.ensures.line)) (with_fresh c.args.db.now (mean part []) end c.in_ok-target.target)
    ∙ sym (fresh-mean c.args.db.now line part end c.in_ok-target.target)
    ∙ ap (λ (x : Plain). with_fresh c.args.db.now x end c.in_ok-target.target) whole in
    let from : end ≡ c.args.self.now.proof.next - draws_of c.args.db.now (step_at p k) = omega (arith, c.in_ok-node.ensures.taken, draws_are, c.next_work-end.ensures) in
    on-ok c.replace_step.result _ _ (λ e. e ∙ ap (grafted_in c.args.self.now.proof k) (made
    ∙ ap (λ (n : ℕ). with_fresh c.args.db.now (step_at p k) n c.in_ok-target.target) from
    ∙ ap (λ (t : List WSym). with_fresh c.args.db.now (step_at p k) (c.args.self.now.proof.next - draws_of c.args.db.now (step_at p k)) t) c.in_ok-target.ensures)) c.replace_step.ensures.ok

pub returns-clause-cost : goal.returns-clause-cost
returns-clause-cost g c =
    let line = line_of c.args.self.now.versions true in
    let p : Plain = c.args.self.now.proof.plain in
    let k : ℕ = c.args.step in
    let part : TimedTree = c.at-part.result.now in
    let whole : mean part line ≡ step_at p k
    = c.at-part.ensures.same line
    ∙ ap (λ (x : TimedTree). step_at (mean x line) c.from.result) c.deref.ensures
    ∙ ap (λ (x : Plain). step_at x c.from.result) c.root.ensures.plain
    ∙ ap (step_at p) c.from.ensures in
    let size_is : size_of p ≡ count c.root.result.now.value = sym (ap size_of c.root.ensures.plain) ∙ size_of-mean line c.root.result.now.value in
    let height_is : height_of p ≡ tall c.root.result.now.value = sym (ap height_of c.root.ensures.plain) ∙ height_of-mean line c.root.result.now.value in
    let draws_are : draws_of c.args.db.now (step_at p k) ≡ draws_of c.args.db.now (mean part []) = sym (ap (draws_of c.args.db.now) whole) ∙ draws-mean c.args.db.now line part in
    omega (arith, c.replace_step.ensures.cost, c.renewed.ensures.cost, ap size_of whole, size_of-mean line part)
