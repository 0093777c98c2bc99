use Rattle.std.proofs.Common.{◌≡◌, ℕ, ◌+◌, ◌*◌, ◌<◌, ◌≤◌, List, [], true, map, length, refl, ap, sym, subst, ◌∙◌, arith}
use Rattle.std.specs.List.{sum_by}
use Rattle.std.proofs.lemmas.List.{length-map}
use Rattle.mm_subst.specs.declared.symbol.WSym.{WSym}
use Rattle.mm_subst.specs.Statements.{statement_of}
use Rattle.mm_subst.specs.Substitutions.{Pairs, applied}
use Rattle.mm_plain.specs.Binding.{bound}
use Rattle.mm_plain.specs.Children.{children_of}
use Rattle.mm_plain.specs.declared.plain.Plain.{Plain}
use Rattle.mm_plain.specs.Premises.{premises_of}
use Rattle.mm_plain.specs.Shape.{depth_at, known, put, size_of, step_at, target_of}
use Rattle.mm_plain.proofs.Parts.{size-part}
use Rattle.mm_tree.specs.Falls.{count-known}
use Rattle.mm_tree.specs.Lines.{Line}
use Rattle.mm_tree.specs.Meanings.{count, known_timed, mean, mean-known, means, text_now, youngest}
use Rattle.mm_tree.specs.Replacing.{AreChildrenWith, first_with, number_over, olds_under}
use Rattle.mm_tree.specs.Versions.{line_of}
use Rattle.mm_tree.specs.View.{values}
use Rattle.mm_tree.specs.declared.timed.Text.{Text}
use Rattle.mm_tree.specs.declared.timed.Values.{Values}
use Rattle.mm_tree.specs.declared.timed.TimedTree.{TimedTree}
use Rattle.mm_tree.proofs.Bindings.{values-new}
use Rattle.mm_tree.proofs.Made.{if-ok}
use Rattle.mm_tree.proofs.Refilled.{refilled-so}
use Rattle.mm_tree.proofs.Shapes.{depth_at-mean, size_of-mean, youngest-known}
use Rattle.mm_tree.proofs.tree.Tree.refilled.Goals as goal

pub at-requires : goal.at-requires
at-requires g c = (
  omega (arith, c.from.ensures, c.requires.exists.0),
  omega (arith, c.from.ensures, c.requires.exists.1, size_of-mean (line_of c.args.self.now.versions true) c.hand.result.now, ap size_of c.hand.ensures.plain),
)

pub children_with-requires-clause-few : goal.children_with-requires-clause-few
children_with-requires-clause-few g c =
    let line = line_of c.args.self.now.versions true in
    let p : Plain = c.args.self.now.proof.plain in
    let k : ℕ = c.args.step in
    let hs : List (List WSym) = premises_of c.args.db.now c.args.id.0 in
    let part : TimedTree = c.at.result.now in
    let whole : mean part line ≡ step_at p k = c.at.ensures.same line ∙ (ap (λ (x : Plain). step_at x c.from.result) c.hand.ensures.plain ∙ ap (step_at p) c.from.ensures) in
    omega (
      arith,
      c.children-olds.ensures.fewer,
      size_of-mean line part,
      ap size_of whole,
      size-part p k c.requires.exists.0 c.requires.exists.1,
      size_of-mean line c.hand.result.now,
      ap size_of c.hand.ensures.plain,
      c.hand.ensures.few,
    )

pub put-requires-clause-small : goal.put-requires-clause-small
put-requires-clause-small g c =
    let line = line_of c.args.self.now.versions true in
    let p : Plain = c.args.self.now.proof.plain in
    let k : ℕ = c.args.step in
    let hs : List (List WSym) = premises_of c.args.db.now c.args.id.0 in
    let nodes : AreChildrenWith c.args.theta.now line (values c.children-olds.result.now) (map (applied c.args.sigma.now) hs) c.length-birth.result (values c.in_ok-kids.kids.items)
    = subst (λ (gs : List (List WSym)). AreChildrenWith c.args.theta.now line (values c.children-olds.result.now) (map (applied c.args.sigma.now) gs) c.length-birth.result (values c.in_ok-kids.kids.items)) c.premises-premises.ensures.value
    (subst (λ (l : Line). AreChildrenWith c.args.theta.now l (values c.children-olds.result.now) (map (applied c.args.sigma.now) (map (statement_of c.args.db.now) c.premises-premises.result.now)) c.length-birth.result (values c.in_ok-kids.kids.items)) c.line-line.ensures c.in_ok-kids.ensures.nodes) in
    let text-is : Text = c.in_ok-target.target.value in
    let sigma-is : Values = record { birth = c.length-birth.result; pairs = c.args.sigma.now } in
    let kids : List TimedTree = values c.in_ok-kids.kids.items in
    let goals-many : length (map (applied c.args.sigma.now) hs) ≡ length hs = length-map hs (applied c.args.sigma.now) in
    omega (arith, c.hand-2.ensures.few, nodes.few, goals-many, c.requires.few, ap count c.in_ok-node.ensures.node, count-known text-is c.args.id.0 sigma-is kids)

pub put-requires-clause-exists : goal.put-requires-clause-exists
put-requires-clause-exists g c = (
  omega (arith, c.from-2.ensures, c.requires.exists.0),
  omega (arith, c.from-2.ensures, c.requires.exists.1, size_of-mean (line_of c.args.self.now.versions true) c.hand-2.result.now, ap size_of c.hand-2.ensures.plain),
)

pub returns-clause-tree : goal.returns-clause-tree
returns-clause-tree g c =
    let line = line_of c.args.self.now.versions true in
    let p : Plain = c.args.self.now.proof.plain in
    let k : ℕ = c.args.step in
    let hs : List (List WSym) = premises_of c.args.db.now c.args.id.0 in
    let part : TimedTree = c.at.result.now in
    let whole : mean part line ≡ step_at p k = c.at.ensures.same line ∙ (ap (λ (x : Plain). step_at x c.from.result) c.hand.ensures.plain ∙ ap (step_at p) c.from.ensures) in
    let nodes : AreChildrenWith c.args.theta.now line (values c.children-olds.result.now) (map (applied c.args.sigma.now) hs) c.length-birth.result (values c.in_ok-kids.kids.items)
    = subst (λ (gs : List (List WSym)). AreChildrenWith c.args.theta.now line (values c.children-olds.result.now) (map (applied c.args.sigma.now) gs) c.length-birth.result (values c.in_ok-kids.kids.items)) c.premises-premises.ensures.value
    (subst (λ (l : Line). AreChildrenWith c.args.theta.now l (values c.children-olds.result.now) (map (applied c.args.sigma.now) (map (statement_of c.args.db.now) c.premises-premises.result.now)) c.length-birth.result (values c.in_ok-kids.kids.items)) c.line-line.ensures c.in_ok-kids.ensures.nodes) in
    let text-is : Text = c.in_ok-target.target.value in
    let sigma-is : Values = record { birth = c.length-birth.result; pairs = c.args.sigma.now } in
    let kids : List TimedTree = values c.in_ok-kids.kids.items in
    let goals-many : length (map (applied c.args.sigma.now) hs) ≡ length hs = length-map hs (applied c.args.sigma.now) in
    let theta : Pairs = c.args.theta.now in
    let sigma : Pairs = c.args.sigma.now in
    let olds : List Plain = olds_under theta p k in
    let trees : means line (values c.children-olds.result.now) ≡ children_of (step_at p k) = c.children-olds.ensures.trees line ∙ ap children_of whole in
    let made : map (bound theta) (means line kids) ≡ map (λ (t : List WSym). first_with olds (applied theta t)) (map (applied sigma) hs)
    = nodes.meaning ∙ ap (λ (ys : List Plain). map (λ (t : List WSym). first_with (map (bound theta) ys) (applied theta t)) (map (applied sigma) hs)) trees in
    let t : List WSym = target_of (step_at p k) in
    let is : mean c.in_ok-node.node.value line ≡ known t c.args.id.0 sigma (means line kids)
    = ap (λ (x : TimedTree). mean x line) c.in_ok-node.ensures.node
    ∙ mean-known text-is c.args.id.0 sigma-is kids line
    ∙ ap (λ (ps : Pairs). known (text_now line text-is) c.args.id.0 ps (means line kids)) (values-new line c.length-birth.result sigma (omega (arith, c.length-birth.ensures.line)))
    ∙ ap (λ (u : List WSym). known u c.args.id.0 sigma (means line kids)) c.in_ok-target.ensures.now in
    if-ok c.put.result _ _ (λ r e.
    ap (bound theta) (e.meaning line
    ∙ ap (λ (x : Plain). put x c.from-2.result (mean c.in_ok-node.node.value line)) c.hand-2.ensures.plain
    ∙ ap (λ (n : ℕ). put p n (mean c.in_ok-node.node.value line)) c.from-2.ensures
    ∙ ap (put p k) is)
    ∙ refilled-so theta sigma p k c.args.id.0 (number_over c.args.db.now p k c.args.id.0) t hs (means line kids) olds c.requires.exists.0 c.requires.exists.1 refl refl made) c.put.ensures.meaning

pub returns-clause-born : goal.returns-clause-born
returns-clause-born g c =
    let line = line_of c.args.self.now.versions true in
    let p : Plain = c.args.self.now.proof.plain in
    let k : ℕ = c.args.step in
    let hs : List (List WSym) = premises_of c.args.db.now c.args.id.0 in
    let nodes : AreChildrenWith c.args.theta.now line (values c.children-olds.result.now) (map (applied c.args.sigma.now) hs) c.length-birth.result (values c.in_ok-kids.kids.items)
    = subst (λ (gs : List (List WSym)). AreChildrenWith c.args.theta.now line (values c.children-olds.result.now) (map (applied c.args.sigma.now) gs) c.length-birth.result (values c.in_ok-kids.kids.items)) c.premises-premises.ensures.value
    (subst (λ (l : Line). AreChildrenWith c.args.theta.now l (values c.children-olds.result.now) (map (applied c.args.sigma.now) (map (statement_of c.args.db.now) c.premises-premises.result.now)) c.length-birth.result (values c.in_ok-kids.kids.items)) c.line-line.ensures c.in_ok-kids.ensures.nodes) in
    let text-is : Text = c.in_ok-target.target.value in
    let sigma-is : Values = record { birth = c.length-birth.result; pairs = c.args.sigma.now } in
    let kids : List TimedTree = values c.in_ok-kids.kids.items in
    let goals-many : length (map (applied c.args.sigma.now) hs) ≡ length hs = length-map hs (applied c.args.sigma.now) in
    if-ok c.put.result _ _ (λ r e.
    let births = e.births in
    let born = nodes.born in
    omega (
      arith,
      births,
      born,
      ap youngest c.in_ok-node.ensures.node,
      youngest-known text-is c.args.id.0 sigma-is kids,
      c.in_ok-target.ensures.born,
      c.length-birth.ensures.hand,
      c.children-olds.ensures.older,
      c.at.ensures.born,
      c.hand.ensures.born,
      c.hand-2.ensures.born,
    )) c.put.ensures.meaning

pub returns-clause-cost : goal.returns-clause-cost
returns-clause-cost g c =
    let line = line_of c.args.self.now.versions true in
    let p : Plain = c.args.self.now.proof.plain in
    let k : ℕ = c.args.step in
    let hs : List (List WSym) = premises_of c.args.db.now c.args.id.0 in
    omega (
      arith,
      c.put.ensures.cost,
      c.known_over_kept.ensures.cost,
      c.children_with.ensures.cost,
      ap length c.premises-premises.ensures.value,
      length-map c.premises-premises.result.now (statement_of c.args.db.now),
      depth_at-mean line c.hand-2.result.now c.from-2.result,
      ap (λ (x : Plain). depth_at x c.from-2.result) c.hand-2.ensures.plain,
      ap (depth_at p) c.from-2.ensures,
    )
