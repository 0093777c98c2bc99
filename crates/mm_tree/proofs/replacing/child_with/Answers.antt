use Rattle.std.proofs.Common.{◌≡◌, List, refl, ap, sym, ◌∙◌, arith}
use Rattle.std.specs.Cmp.Lexicographic.{pointwise}
use Rattle.mm_subst.specs.declared.symbol.WSym.{WSym}
use Rattle.mm_subst.specs.Substitutions.{applied}
use Rattle.mm_subst.specs.Symbols.{is_same}
use Rattle.mm_plain.specs.Shape.{target_of}
use Rattle.mm_tree.specs.Meanings.{mean}
use Rattle.mm_tree.specs.declared.timed.TimedTree.{TimedTree}
use Rattle.mm_tree.proofs.Made.{if-ok}
use Rattle.mm_tree.proofs.ReplacingLemmas.{child-here, child-later, child-new}
use Rattle.mm_tree.proofs.replacing.child_with.Goals as goal

pub returns-then-is_same_string-clause-node : goal.returns-then-is_same_string-clause-node
returns-then-is_same_string-clause-node g c =
    child-here c.args.theta.now c.args.line.now c.args.olds.now c.loop-old.old-index c.old-item.result c.args.goal c.in_ok-target.target (applied c.args.theta.now c.args.goal) c.args.birth c.in_ok-clone.field-0.value c.is_same_string.result c.loop-old-test.true c.old-item.is
    (c.in_ok-target.ensures ∙ ap (applied c.args.theta.now) c.in_ok-kept.ensures ∙ ap (λ (x : TimedTree). applied c.args.theta.now (target_of (mean x c.args.line.now))) c.deref.ensures) refl
    (c.is_same_string.ensures ∙ ap (λ (s : List WSym). pointwise is_same s c.symbols-in-loop-old.result.now) c.symbols.ensures ∙ ap (pointwise is_same c.in_ok-target.target) (c.symbols-in-loop-old.ensures ∙ c.in_ok-wanted.ensures)) c.if-is_same_string.true
    c.in_ok-clone.ensures.cases c.loop-old.invariant

pub loop-old-preserved : goal.loop-old-preserved
loop-old-preserved g c =
    child-later c.args.theta.now c.args.line.now c.args.olds.now c.loop-old.old-index c.old-item.result c.in_ok-target.target (applied c.args.theta.now c.args.goal) c.is_same_string.result c.loop-old-test.true c.old-item.is
    (c.in_ok-target.ensures ∙ ap (applied c.args.theta.now) c.in_ok-kept.ensures ∙ ap (λ (x : TimedTree). applied c.args.theta.now (target_of (mean x c.args.line.now))) c.deref.ensures)
    (c.is_same_string.ensures ∙ ap (λ (s : List WSym). pointwise is_same s c.symbols-in-loop-old.result.now) c.symbols.ensures ∙ ap (pointwise is_same c.in_ok-target.target) (c.symbols-in-loop-old.ensures ∙ c.in_ok-wanted.ensures)) c.if-is_same_string.false c.loop-old.invariant

pub returns-clause-node : goal.returns-clause-node
returns-clause-node g c = if-ok c.unknown_node.result _ _
    (λ r e. child-new c.args.theta.now c.args.line.now c.args.olds.now c.loop-old.old-index c.args.goal (applied c.args.theta.now c.args.goal) c.args.birth c.in_ok-target-2.target.value r.value (omega (arith, c.loop-old-test.false)) c.requires refl c.in_ok-target-2.ensures e c.loop-old.invariant)
    c.unknown_node.ensures.node
