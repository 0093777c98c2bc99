use Rattle.std.proofs.Common.{◌++◌, ap, sym, subst, ◌∙◌}
use Rattle.mm_plain.specs.declared.plain.Plain.{Plain}
use Rattle.mm_plain.specs.Shape.{steps_of}
use Rattle.mm_plain.specs.Sources.{is_pending}
use Rattle.mm_plain.specs.Numbers.{numbers_from, HasOwnLabels}
use Rattle.mm_tree.specs.Meanings.{mean}
use Rattle.mm_tree.proofs.tree.Tree.pending_steps.Goals as goal

pub pending-requires-clause-own : goal.pending-requires-clause-own
pending-requires-clause-own c = subst (HasOwnLabels c.args.db.now) (sym (ap (mean c.hand.result.now) c.line.ensures ∙ c.hand.ensures.plain)) c.requires

pub returns : goal.returns
returns c = c.in_ok-pending.ensures ∙ ap (λ l. l ++ numbers_from (is_pending c.args.db.now) 1 (steps_of (mean c.hand.result.now c.line.result))) c.new-pending.ensures.items
    ∙ ap (λ (x : Plain). numbers_from (is_pending c.args.db.now) 1 (steps_of x)) (ap (mean c.hand.result.now) c.line.ensures ∙ c.hand.ensures.plain)
