use Rattle.std.proofs.Common.{◌≡◌, ℕ, ◌+◌, ◌<◌, ◌≤◌, List, None, true, length, ap, sym, subst, ◌∙◌, arith}
use Rattle.mm_subst.specs.declared.symbol.WSym.{WSym}
use Rattle.mm_subst.specs.Substitutions.{Pairs}
use Rattle.mm_plain.specs.Binding.{bound}
use Rattle.mm_plain.specs.declared.plain.Plain.{Plain}
use Rattle.mm_plain.specs.Lengths.{first_long}
use Rattle.mm_plain.specs.Numbers.{HasOwnLabels}
use Rattle.mm_plain.specs.Premises.{premises_of}
use Rattle.mm_plain.specs.Shape.{depth_at, known, placed, put, size_of, step_at, target_of, unknowns}
use Rattle.mm_plain.proofs.Equations.{size_of-known}
use Rattle.mm_plain.proofs.Sizes.{size-put}
use Rattle.mm_tree.specs.Meanings.{count, mean}
use Rattle.mm_tree.specs.Versions.{line_of}
use Rattle.mm_tree.specs.declared.timed.TimedTree.{TimedTree}
use Rattle.mm_tree.proofs.Grown.{size-unknowns}
use Rattle.mm_tree.proofs.Made.{if-ok, placed-mean}
use Rattle.mm_tree.proofs.Shapes.{depth_at-mean, size_of-mean}
use Rattle.mm_tree.proofs.tree.Tree.first_long_over.Goals as goal

pub put-requires-clause-small : goal.put-requires-clause-small
put-requires-clause-small g c =
    let line = line_of c.args.self.now.versions true in
    let p : Plain = c.args.self.now.proof.plain in
    let k : ℕ = c.args.step in
    let hs : List (List WSym) = premises_of c.args.db.now c.args.id.0 in
    let sigma : Pairs = c.args.sigma.now in
    let t : List WSym = target_of (step_at p k) in
    let new : Plain = known t c.args.id.0 sigma (unknowns sigma hs) in
    let is : mean c.in_ok-node.node.value line ≡ new
    = ap (λ (x : TimedTree). mean x line) c.in_ok-node.ensures.node
    ∙ placed-mean line c.length-born.result c.in_ok-target.target.value c.args.id.0 sigma hs (omega (arith, c.length-born.ensures.line))
    ∙ ap (λ (u : List WSym). known u c.args.id.0 sigma (unknowns sigma hs)) c.in_ok-target.ensures.now in
    let size : size_of new ≡ length hs + 1 = omega (arith, size_of-known t c.args.id.0 sigma (unknowns sigma hs), size-unknowns sigma hs) in
    let counted : count c.in_ok-node.node.value ≡ length hs + 1 = sym (size_of-mean line c.in_ok-node.node.value) ∙ ap size_of is ∙ size in
    omega (arith, c.hand.ensures.few, counted, c.requires.few)

pub put-requires-clause-exists : goal.put-requires-clause-exists
put-requires-clause-exists g c = (
  omega (arith, c.from.ensures, c.requires.exists.0),
  omega (arith, c.from.ensures, c.requires.exists.1, size_of-mean (line_of c.args.self.now.versions true) c.hand.result.now, ap size_of c.hand.ensures.plain),
)

pub returns-in_err-root-clause-cost : goal.returns-in_err-root-clause-cost
returns-in_err-root-clause-cost g c =
    let line = line_of c.args.self.now.versions true in
    let p : Plain = c.args.self.now.proof.plain in
    let k : ℕ = c.args.step in
    let hs : List (List WSym) = premises_of c.args.db.now c.args.id.0 in
    omega (
      arith,
      c.put.ensures.cost,
      c.known_over.ensures.cost,
      depth_at-mean line c.hand.result.now c.from.result,
      ap (λ (x : Plain). depth_at x c.from.result) c.hand.ensures.plain,
      ap (depth_at p) c.from.ensures,
    )

pub first_long-requires-clause-few : goal.first_long-requires-clause-few
first_long-requires-clause-few g c =
    let line = line_of c.args.self.now.versions true in
    let p : Plain = c.args.self.now.proof.plain in
    let k : ℕ = c.args.step in
    let hs : List (List WSym) = premises_of c.args.db.now c.args.id.0 in
    let sigma : Pairs = c.args.sigma.now in
    let t : List WSym = target_of (step_at p k) in
    let new : Plain = known t c.args.id.0 sigma (unknowns sigma hs) in
    let is : mean c.in_ok-node.node.value line ≡ new
    = ap (λ (x : TimedTree). mean x line) c.in_ok-node.ensures.node
    ∙ placed-mean line c.length-born.result c.in_ok-target.target.value c.args.id.0 sigma hs (omega (arith, c.length-born.ensures.line))
    ∙ ap (λ (u : List WSym). known u c.args.id.0 sigma (unknowns sigma hs)) c.in_ok-target.ensures.now in
    let size : size_of new ≡ length hs + 1 = omega (arith, size_of-known t c.args.id.0 sigma (unknowns sigma hs), size-unknowns sigma hs) in
    let counted : count c.in_ok-node.node.value ≡ length hs + 1 = sym (size_of-mean line c.in_ok-node.node.value) ∙ ap size_of is ∙ size in
    let root : mean c.in_ok-root.root.value line ≡ placed p k c.args.id.0 sigma hs
    = c.in_ok-root.ensures.meaning.meaning line
    ∙ ap (λ (x : Plain). put x c.from.result (mean c.in_ok-node.node.value line)) c.hand.ensures.plain
    ∙ ap (λ (n : ℕ). put p n (mean c.in_ok-node.node.value line)) c.from.ensures
    ∙ ap (put p k) is in
    omega (
      arith,
      size_of-mean line c.in_ok-root.root.value,
      ap size_of root,
      size-put new p k c.requires.exists.0 c.requires.exists.1,
      size,
      size_of-mean line c.hand.result.now,
      ap size_of c.hand.ensures.plain,
      c.hand.ensures.few,
      c.requires.few,
      ap count c.deref.ensures,
    )

pub first_long-requires-clause-own : goal.first_long-requires-clause-own
first_long-requires-clause-own g c =
    let line = line_of c.args.self.now.versions true in
    let p : Plain = c.args.self.now.proof.plain in
    let k : ℕ = c.args.step in
    let hs : List (List WSym) = premises_of c.args.db.now c.args.id.0 in
    let sigma : Pairs = c.args.sigma.now in
    let t : List WSym = target_of (step_at p k) in
    let new : Plain = known t c.args.id.0 sigma (unknowns sigma hs) in
    let is : mean c.in_ok-node.node.value line ≡ new
    = ap (λ (x : TimedTree). mean x line) c.in_ok-node.ensures.node
    ∙ placed-mean line c.length-born.result c.in_ok-target.target.value c.args.id.0 sigma hs (omega (arith, c.length-born.ensures.line))
    ∙ ap (λ (u : List WSym). known u c.args.id.0 sigma (unknowns sigma hs)) c.in_ok-target.ensures.now in
    let size : size_of new ≡ length hs + 1 = omega (arith, size_of-known t c.args.id.0 sigma (unknowns sigma hs), size-unknowns sigma hs) in
    let counted : count c.in_ok-node.node.value ≡ length hs + 1 = sym (size_of-mean line c.in_ok-node.node.value) ∙ ap size_of is ∙ size in
    let root : mean c.in_ok-root.root.value line ≡ placed p k c.args.id.0 sigma hs
    = c.in_ok-root.ensures.meaning.meaning line
    ∙ ap (λ (x : Plain). put x c.from.result (mean c.in_ok-node.node.value line)) c.hand.ensures.plain
    ∙ ap (λ (n : ℕ). put p n (mean c.in_ok-node.node.value line)) c.from.ensures
    ∙ ap (put p k) is in
    subst (HasOwnLabels c.args.db.now) (sym (ap (mean c.deref.result.now) c.line.ensures ∙ ap (λ (x : TimedTree). mean x line) c.deref.ensures ∙ root)) c.requires.labels

pub first_long-requires-clause-short : goal.first_long-requires-clause-short
first_long-requires-clause-short g c =
    let line = line_of c.args.self.now.versions true in
    let p : Plain = c.args.self.now.proof.plain in
    let k : ℕ = c.args.step in
    let hs : List (List WSym) = premises_of c.args.db.now c.args.id.0 in
    let sigma : Pairs = c.args.sigma.now in
    let t : List WSym = target_of (step_at p k) in
    let new : Plain = known t c.args.id.0 sigma (unknowns sigma hs) in
    let is : mean c.in_ok-node.node.value line ≡ new
    = ap (λ (x : TimedTree). mean x line) c.in_ok-node.ensures.node
    ∙ placed-mean line c.length-born.result c.in_ok-target.target.value c.args.id.0 sigma hs (omega (arith, c.length-born.ensures.line))
    ∙ ap (λ (u : List WSym). known u c.args.id.0 sigma (unknowns sigma hs)) c.in_ok-target.ensures.now in
    let size : size_of new ≡ length hs + 1 = omega (arith, size_of-known t c.args.id.0 sigma (unknowns sigma hs), size-unknowns sigma hs) in
    let counted : count c.in_ok-node.node.value ≡ length hs + 1 = sym (size_of-mean line c.in_ok-node.node.value) ∙ ap size_of is ∙ size in
    let root : mean c.in_ok-root.root.value line ≡ placed p k c.args.id.0 sigma hs
    = c.in_ok-root.ensures.meaning.meaning line
    ∙ ap (λ (x : Plain). put x c.from.result (mean c.in_ok-node.node.value line)) c.hand.ensures.plain
    ∙ ap (λ (n : ℕ). put p n (mean c.in_ok-node.node.value line)) c.from.ensures
    ∙ ap (put p k) is in
    ap (first_long c.args.db.now) (ap (mean c.deref.result.now) c.line.ensures ∙ ap (λ (x : TimedTree). mean x line) c.deref.ensures ∙ root) ∙ c.requires.short

pub returns-clause-long : goal.returns-clause-long
returns-clause-long g c =
    let line = line_of c.args.self.now.versions true in
    let p : Plain = c.args.self.now.proof.plain in
    let k : ℕ = c.args.step in
    let hs : List (List WSym) = premises_of c.args.db.now c.args.id.0 in
    let sigma : Pairs = c.args.sigma.now in
    let t : List WSym = target_of (step_at p k) in
    let new : Plain = known t c.args.id.0 sigma (unknowns sigma hs) in
    let is : mean c.in_ok-node.node.value line ≡ new
    = ap (λ (x : TimedTree). mean x line) c.in_ok-node.ensures.node
    ∙ placed-mean line c.length-born.result c.in_ok-target.target.value c.args.id.0 sigma hs (omega (arith, c.length-born.ensures.line))
    ∙ ap (λ (u : List WSym). known u c.args.id.0 sigma (unknowns sigma hs)) c.in_ok-target.ensures.now in
    let size : size_of new ≡ length hs + 1 = omega (arith, size_of-known t c.args.id.0 sigma (unknowns sigma hs), size-unknowns sigma hs) in
    let counted : count c.in_ok-node.node.value ≡ length hs + 1 = sym (size_of-mean line c.in_ok-node.node.value) ∙ ap size_of is ∙ size in
    let root : mean c.in_ok-root.root.value line ≡ placed p k c.args.id.0 sigma hs
    = c.in_ok-root.ensures.meaning.meaning line
    ∙ ap (λ (x : Plain). put x c.from.result (mean c.in_ok-node.node.value line)) c.hand.ensures.plain
    ∙ ap (λ (n : ℕ). put p n (mean c.in_ok-node.node.value line)) c.from.ensures
    ∙ ap (put p k) is in
    if-ok c.first_long.result _ _ (λ s e. e ∙ ap (λ (x : Plain). first_long c.args.db.now (bound c.args.theta.now x)) (ap (mean c.deref.result.now) c.line.ensures ∙ ap (λ (x : TimedTree). mean x line) c.deref.ensures ∙ root)) c.first_long.ensures

pub returns-clause-cost : goal.returns-clause-cost
returns-clause-cost g c =
    let line = line_of c.args.self.now.versions true in
    let p : Plain = c.args.self.now.proof.plain in
    let k : ℕ = c.args.step in
    let hs : List (List WSym) = premises_of c.args.db.now c.args.id.0 in
    omega (
      arith,
      c.put.ensures.cost,
      c.known_over.ensures.cost,
      depth_at-mean line c.hand.result.now c.from.result,
      ap (λ (x : Plain). depth_at x c.from.result) c.hand.ensures.plain,
      ap (depth_at p) c.from.ensures,
    )
