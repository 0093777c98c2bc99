use Rattle.std.proofs.Common.{◌≤◌, List, length, ap, ◌∙◌, arith}
use Rattle.std.specs.List.{sum_by}
use Rattle.mm_subst.specs.declared.symbol.WSym.{WSym}
use Rattle.mm_subst.specs.Statements.{statement_of}
use Rattle.mm_subst.specs.Substitutions.{Pairs, applied}
use Rattle.mm_plain.specs.Premises.{premises_of}
use Rattle.mm_tree.specs.Meanings.{count, known_timed}
use Rattle.mm_tree.specs.Placed.{unknowns_timed}
use Rattle.mm_tree.specs.View.{values}
use Rattle.mm_tree.specs.declared.timed.Values.{Values}
use Rattle.mm_tree.specs.declared.timed.TimedTree.{TimedTree}
use Rattle.mm_tree.proofs.ByIds.{of_each}
use Rattle.mm_tree.proofs.Shapes.{counts-values}
use Rattle.mm_tree.proofs.Made.{unknowns-count}
use Rattle.mm_tree.proofs.premises.known_over.Goals as goal

pub children-requires-clause-short : goal.children-requires-clause-short
children-requires-clause-short g c =
    of_each (λ (h : List WSym). length (applied c.args.sigma.now h) ≤ 32768) (statement_of c.args.db.now) c.premises.result.now (premises_of c.args.db.now c.args.id.0) c.premises.ensures.value c.requires.short

pub known-requires : goal.known-requires
known-requires g c =
    let e = c.in_ok-nodes.ensures.nodes ∙ ap (unknowns_timed c.args.birth c.args.sigma.now) c.premises.ensures.value in
    omega (arith, ap (sum_by count) e, counts-values c.in_ok-nodes.nodes.items, unknowns-count c.args.birth c.args.sigma.now (premises_of c.args.db.now c.args.id.0), c.requires.few)

pub returns-clause-node : goal.returns-clause-node
returns-clause-node g c =
    let e = c.in_ok-nodes.ensures.nodes ∙ ap (unknowns_timed c.args.birth c.args.sigma.now) c.premises.ensures.value in
    c.in_ok-new.ensures.ok ∙ c.known.ensures
    ∙ ap (λ (s : Values). known_timed c.args.target.value c.args.id.0 s (values c.in_ok-nodes.nodes.items)) (c.in_ok-sigma.ensures.ok ∙ ap (λ (ps : Pairs). record { birth = c.args.birth; pairs = ps }) c.in_ok-pairs.ensures)
    ∙ ap (λ (ks : List TimedTree). known_timed c.args.target.value c.args.id.0 (record { birth = c.args.birth; pairs = c.args.sigma.now }) ks) e
