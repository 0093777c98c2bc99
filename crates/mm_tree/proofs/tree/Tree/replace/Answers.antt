use Rattle.std.proofs.Common.{◌≡◌, ◌<◌, ◌≤◌, None, true, ap, sym, ◌∙◌, arith}
use Rattle.mm_subst.specs.Substitutions.{Pairs}
use Rattle.mm_plain.specs.Binding.{bound_in}
use Rattle.mm_plain.specs.declared.plain.Plain.{Plain}
use Rattle.mm_plain.specs.Shape.{Proof, height_of, size_of}
use Rattle.mm_plain.proofs.Binding.{height_of-bound, size_of-bound}
use Rattle.mm_tree.specs.Meanings.{count, mean, tall}
use Rattle.mm_tree.specs.Replacing.{long_step, replaced_in}
use Rattle.mm_tree.specs.Versions.{line_of}
use Rattle.mm_tree.specs.declared.timed.TimedTree.{TimedTree}
use Rattle.mm_tree.proofs.Longs.{none-is}
use Rattle.mm_tree.proofs.Shapes.{height_of-mean, size_of-mean}
use Rattle.mm_tree.proofs.tree.Tree.replace.Goals as goal

pub returns-then-size-gt-MOST_STEPS-clause-replaced : goal.returns-then-size-gt-MOST_STEPS-clause-replaced
returns-then-size-gt-MOST_STEPS-clause-replaced g c =
    let line = line_of c.args.self.now.versions true in
    let p : Proof = c.args.self.now.proof in
    let theta : Pairs = c.args.theta.now in
    let q : Proof = replaced_in c.args.db.now p c.args.step c.args.id.0 c.args.sigma.now theta in
    let root : TimedTree = c.in_ok-root.root.value in
    let short : long_step c.args.db.now p c.args.step c.args.id.0 c.args.sigma.now theta ≡ None = sym c.in_ok-long.ensures.long ∙ sym (none-is c.in_ok-long.field-0 c.in_default.not-Some) in
    let size : size_of q.plain ≡ count root = sym (ap size_of c.in_ok-root.ensures.tree) ∙ size_of-bound theta (mean root line) ∙ size_of-mean line root in
    let height : height_of q.plain ≡ tall root = sym (ap height_of c.in_ok-root.ensures.tree) ∙ height_of-bound theta (mean root line) ∙ height_of-mean line root in
    (short, omega (arith, size, c.size.ensures, ap count c.deref.ensures, c.if-size-gt-MOST_STEPS.true))

pub returns-then-height-gt-MOST_LEVELS-clause-replaced : goal.returns-then-height-gt-MOST_LEVELS-clause-replaced
returns-then-height-gt-MOST_LEVELS-clause-replaced g c =
    let line = line_of c.args.self.now.versions true in
    let p : Proof = c.args.self.now.proof in
    let theta : Pairs = c.args.theta.now in
    let q : Proof = replaced_in c.args.db.now p c.args.step c.args.id.0 c.args.sigma.now theta in
    let root : TimedTree = c.in_ok-root.root.value in
    let short : long_step c.args.db.now p c.args.step c.args.id.0 c.args.sigma.now theta ≡ None = sym c.in_ok-long.ensures.long ∙ sym (none-is c.in_ok-long.field-0 c.in_default.not-Some) in
    let size : size_of q.plain ≡ count root = sym (ap size_of c.in_ok-root.ensures.tree) ∙ size_of-bound theta (mean root line) ∙ size_of-mean line root in
    let height : height_of q.plain ≡ tall root = sym (ap height_of c.in_ok-root.ensures.tree) ∙ height_of-bound theta (mean root line) ∙ height_of-mean line root in (
      short,
      omega (arith, size, c.size.ensures, ap count c.deref.ensures, c.if-size-gt-MOST_STEPS.false),
      omega (arith, height, c.height.ensures, ap tall c.deref-2.ensures, c.if-height-gt-MOST_LEVELS.true),
    )

pub returns-clause-replaced : goal.returns-clause-replaced
returns-clause-replaced g c =
    let line = line_of c.args.self.now.versions true in
    let p : Proof = c.args.self.now.proof in
    let theta : Pairs = c.args.theta.now in
    let q : Proof = replaced_in c.args.db.now p c.args.step c.args.id.0 c.args.sigma.now theta in
    let root : TimedTree = c.in_ok-root.root.value in
    let short : long_step c.args.db.now p c.args.step c.args.id.0 c.args.sigma.now theta ≡ None = sym c.in_ok-long.ensures.long ∙ sym (none-is c.in_ok-long.field-0 c.in_default.not-Some) in
    let size : size_of q.plain ≡ count root = sym (ap size_of c.in_ok-root.ensures.tree) ∙ size_of-bound theta (mean root line) ∙ size_of-mean line root in
    let height : height_of q.plain ≡ tall root = sym (ap height_of c.in_ok-root.ensures.tree) ∙ height_of-bound theta (mean root line) ∙ height_of-mean line root in (
      short,
      c.in_ok-add_binding.ensures.ok
          ∙ ap (bound_in c.in_ok-theta.theta) c.in_ok-push_root.ensures.ok
          ∙ ap (λ (t : Pairs). bound_in t (record { plain = mean root line; next = p.next })) c.in_ok-theta.ensures
          ∙ ap (λ (y : Plain). let r : Proof = record { plain = y; next = p.next } in r) c.in_ok-root.ensures.tree,
      omega (arith, size, c.size.ensures, ap count c.deref.ensures, c.if-size-gt-MOST_STEPS.false),
      omega (arith, height, c.height.ensures, ap tall c.deref-2.ensures, c.if-height-gt-MOST_LEVELS.false),
    )
