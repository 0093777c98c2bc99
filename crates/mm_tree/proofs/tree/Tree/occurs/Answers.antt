use Rattle.std.proofs.Common.{◌≡◌, ap, ◌∙◌}
use Rattle.mm_plain.specs.declared.plain.Plain.{Plain}
use Rattle.mm_plain.specs.Occurring.{occurs_in}
use Rattle.mm_tree.specs.Meanings.{mean}
use Rattle.mm_tree.proofs.Made.{if-ok}
use Rattle.mm_tree.proofs.tree.Tree.occurs.Goals as goal

pub returns : goal.returns
returns c = if-ok c.occurs_in.result (λ b. b ≡ occurs_in c.args.number (mean c.hand.result.now c.line.result)) (λ b. b ≡ occurs_in c.args.number c.args.self.now.proof.plain)
    (λ b e. e ∙ ap (occurs_in c.args.number) (ap (mean c.hand.result.now) c.line.ensures ∙ c.hand.ensures.plain)) c.occurs_in.ensures
