use Rattle.std.proofs.Common.{◌∙◌, ◌∷◌, [], codes}
use Rattle.mm_command.specs.Names.{Replace}
use Rattle.mm_command.specs.Grammar.{Row, Step, Label, Bytes}
use Rattle.mm_command.specs.Spelled.{step_value}
use Rattle.mm_command.specs.Table.{row, flag_alone}
use Rattle.mm_command.proofs.Arguments.{row_on, row_end}
use Rattle.mm_command.proofs.edits.read_replace.Goals as goal

abbrev own_row : Row
own_row = row Replace [] (Step ∷ Label ∷ []) (flag_alone (codes "OVERRIDE"))

pub returns : goal.returns
returns c =
    let at = step_value c.in_ok-step.step in
    (
    row_on own_row Step (Label ∷ []) [] _ _ _ _ c.in_ok-step.ensures.0 c.in_ok-step.ensures.1
    ∙ row_on own_row Label [] (at ∷ []) _ _ _ _ c.in_ok-label.ensures.0 c.in_ok-label.ensures.1
    ∙ row_end own_row (at ∷ Bytes c.in_ok-label.label.now ∷ []) _ _ _ c.in-Ok.ensures)
