use Rattle.std.proofs.Common.{◌∙◌, ap}
use Rattle.mm_subst.specs.Brackets.{are_balanced}
use Rattle.mm_subst.specs.declared.brackets.Brackets.{Brackets}
use Rattle.mm_subst.proofs.brackets.balanced.Goals as goal

pub returns : goal.returns
returns c = c.are_balanced.ensures ∙ ap (λ (b : Brackets). are_balanced b c.args.s.now) c.of.ensures
