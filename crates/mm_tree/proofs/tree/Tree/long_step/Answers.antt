use Rattle.std.proofs.Common.{◌≡◌, ℕ, ◌+◌, ◌-◌, ◌<◌, ◌≤◌, Bool, List, None, true, false, not, length, map, is_some, refl, ap, sym, subst, ◌∙◌, arith}
use Rattle.std.specs.List.{list_any}
use Rattle.std.proofs.lemmas.List.{length-map}
use Rattle.mm_subst.specs.Statements.{statement_of}
use Rattle.mm_subst.specs.Substitutions.{Pairs}
use Rattle.mm_plain.specs.Binding.{bound}
use Rattle.mm_plain.specs.Children.{children_of}
use Rattle.mm_plain.specs.declared.plain.Plain.{Plain}
use Rattle.mm_plain.specs.Lengths.{first_long}
use Rattle.mm_plain.specs.Shape.{Each, size_of, step_at}
use Rattle.mm_plain.proofs.Parts.{size-part}
use Rattle.mm_plain.proofs.Puts.{size-before}
use Rattle.mm_tree.specs.Lines.{Line}
use Rattle.mm_tree.specs.Meanings.{count, mean, means}
use Rattle.mm_tree.specs.Replacing.{are_long, number_over}
use Rattle.mm_tree.specs.Versions.{line_of}
use Rattle.mm_tree.specs.View.{values}
use Rattle.mm_tree.specs.declared.timed.TimedTree.{TimedTree}
use Rattle.mm_tree.proofs.ReplacingLemmas.{long-own}
use Rattle.mm_tree.proofs.Shapes.{size_of-mean}
use Rattle.mm_tree.proofs.tree.Tree.long_step.Goals as goal

pub at-part-requires : goal.at-part-requires
at-part-requires g c = (
  omega (arith, c.from.ensures, c.requires.exists.0),
  omega (arith, c.from.ensures, c.requires.exists.1, size_of-mean (line_of c.args.self.now.versions true) c.hand.result.now, ap size_of c.hand.ensures.plain),
)

pub has_long-requires-clause-few : goal.has_long-requires-clause-few
has_long-requires-clause-few g c =
    let line = line_of c.args.self.now.versions true in
    let p : Plain = c.args.self.now.proof.plain in
    let k : ℕ = c.args.step in
    let theta : Pairs = c.args.theta.now in
    let part : TimedTree = c.at-part.result.now in
    let whole : mean part line ≡ step_at p k = c.at-part.ensures.same line ∙ (ap (λ (x : Plain). step_at x c.from.result) c.hand.ensures.plain ∙ ap (step_at p) c.from.ensures) in
    let trees : means c.line.result (values c.children.result.now) ≡ children_of (step_at p k)
    = ap (λ (l : Line). means l (values c.children.result.now)) c.line.ensures ∙ c.children.ensures.trees line ∙ ap children_of whole in
    let before = size-before p k c.requires.exists.0 c.requires.exists.1 in
    let sized : size_of (step_at p k) ≡ count part = sym (ap size_of whole) ∙ size_of-mean line part in
    omega (
      arith,
      c.children.ensures.fewer,
      sized,
      size-part p k c.requires.exists.0 c.requires.exists.1,
      size_of-mean line c.hand.result.now,
      ap size_of c.hand.ensures.plain,
      c.hand.ensures.few,
    )

pub has_long-requires-clause-short : goal.has_long-requires-clause-short
has_long-requires-clause-short g c =
    let line = line_of c.args.self.now.versions true in
    let p : Plain = c.args.self.now.proof.plain in
    let k : ℕ = c.args.step in
    let theta : Pairs = c.args.theta.now in
    let part : TimedTree = c.at-part.result.now in
    let whole : mean part line ≡ step_at p k = c.at-part.ensures.same line ∙ (ap (λ (x : Plain). step_at x c.from.result) c.hand.ensures.plain ∙ ap (step_at p) c.from.ensures) in
    let trees : means c.line.result (values c.children.result.now) ≡ children_of (step_at p k)
    = ap (λ (l : Line). means l (values c.children.result.now)) c.line.ensures ∙ c.children.ensures.trees line ∙ ap children_of whole in
    let before = size-before p k c.requires.exists.0 c.requires.exists.1 in
    let sized : size_of (step_at p k) ≡ count part = sym (ap size_of whole) ∙ size_of-mean line part in
    subst (Each (λ x. first_long c.args.db.now x ≡ None)) (sym trees) c.requires.old_short

pub overflow_sub-cleared : goal.overflow_sub-cleared
overflow_sub-cleared g c =
    let line = line_of c.args.self.now.versions true in
    let p : Plain = c.args.self.now.proof.plain in
    let k : ℕ = c.args.step in
    let theta : Pairs = c.args.theta.now in
    let part : TimedTree = c.at-part.result.now in
    let whole : mean part line ≡ step_at p k = c.at-part.ensures.same line ∙ (ap (λ (x : Plain). step_at x c.from.result) c.hand.ensures.plain ∙ ap (step_at p) c.from.ensures) in
    let trees : means c.line.result (values c.children.result.now) ≡ children_of (step_at p k)
    = ap (λ (l : Line). means l (values c.children.result.now)) c.line.ensures ∙ c.children.ensures.trees line ∙ ap children_of whole in
    let before = size-before p k c.requires.exists.0 c.requires.exists.1 in
    let sized : size_of (step_at p k) ≡ count part = sym (ap size_of whole) ∙ size_of-mean line part in
    omega (arith, c.size.ensures, sized, before, c.from-2.ensures)

pub overflow_add-result : goal.overflow_add-result
overflow_add-result g c =
    let line = line_of c.args.self.now.versions true in
    let p : Plain = c.args.self.now.proof.plain in
    let k : ℕ = c.args.step in
    let theta : Pairs = c.args.theta.now in
    let part : TimedTree = c.at-part.result.now in
    let whole : mean part line ≡ step_at p k = c.at-part.ensures.same line ∙ (ap (λ (x : Plain). step_at x c.from.result) c.hand.ensures.plain ∙ ap (step_at p) c.from.ensures) in
    let trees : means c.line.result (values c.children.result.now) ≡ children_of (step_at p k)
    = ap (λ (l : Line). means l (values c.children.result.now)) c.line.ensures ∙ c.children.ensures.trees line ∙ ap children_of whole in
    let before = size-before p k c.requires.exists.0 c.requires.exists.1 in
    let sized : size_of (step_at p k) ≡ count part = sym (ap size_of whole) ∙ size_of-mean line part in
    omega (
      arith,
      c.from-2.ensures,
      c.requires.exists.1,
      size_of-mean line c.hand.result.now,
      ap size_of c.hand.ensures.plain,
      c.hand.ensures.few,
      c.requires.few,
      ap length c.premises.ensures.value,
      length-map c.premises.result.now (statement_of c.args.db.now),
    )

pub returns-clause-long : goal.returns-clause-long
returns-clause-long g c =
    let line = line_of c.args.self.now.versions true in
    let p : Plain = c.args.self.now.proof.plain in
    let k : ℕ = c.args.step in
    let theta : Pairs = c.args.theta.now in
    let part : TimedTree = c.at-part.result.now in
    let whole : mean part line ≡ step_at p k = c.at-part.ensures.same line ∙ (ap (λ (x : Plain). step_at x c.from.result) c.hand.ensures.plain ∙ ap (step_at p) c.from.ensures) in
    let trees : means c.line.result (values c.children.result.now) ≡ children_of (step_at p k)
    = ap (λ (l : Line). means l (values c.children.result.now)) c.line.ensures ∙ c.children.ensures.trees line ∙ ap children_of whole in
    let before = size-before p k c.requires.exists.0 c.requires.exists.1 in
    let sized : size_of (step_at p k) ≡ count part = sym (ap size_of whole) ∙ size_of-mean line part in
    let number : c.from-2.result + 1 - c.size.result + length c.premises.result.now ≡ number_over c.args.db.now p k c.args.id.0
    = omega (
      arith,
      c.from-2.ensures,
      c.size.ensures,
      sized,
      before,
      ap length c.premises.ensures.value,
      length-map c.premises.result.now (statement_of c.args.db.now),
    ) in
    let long : are_long c.args.db.now (map (bound theta) (children_of (step_at p k))) ≡ true
    = ap (λ (ys : List Plain). list_any (λ x. is_some (first_long c.args.db.now x)) (map (bound theta) ys)) (sym trees) ∙ sym c.in_ok-has_long.ensures ∙ c.if-not-branch.false in
    long-own _ _ _ _ (ap is_some (sym c.in_ok-first.ensures.long) ∙ sym c.is_some.ensures ∙ c.if-is_some.false) long number
