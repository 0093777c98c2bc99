use Rattle.std.proofs.Common.{◌∙◌, ◌∷◌, [], codes}
use Rattle.mm_command.specs.Names.{Prove}
use Rattle.mm_command.specs.Grammar.{Row, Label, Bytes}
use Rattle.mm_command.specs.Table.{row, flag_alone}
use Rattle.mm_command.proofs.Arguments.{row_on, row_end, row_fault}
use Rattle.mm_command.proofs.general.read_prove.Goals as goal

abbrev own_row : Row
own_row = row Prove [] (Label ∷ []) (flag_alone (codes "OVERRIDE"))

pub returns : goal.returns
returns c =
    row_on own_row Label [] [] _ _ _ _ c.in_ok-label.ensures.0 c.in_ok-label.ensures.1
    ∙ row_end own_row (Bytes c.in_ok-label.label.now ∷ []) _ _ _ c.in-Ok.ensures

pub returns-in-Err : goal.returns-in-Err
returns-in-Err c =
    row_on own_row Label [] [] _ _ _ _ c.in_ok-label.ensures.0 c.in_ok-label.ensures.1
    ∙ row_fault own_row (Bytes c.in_ok-label.label.now ∷ []) _ _ _ c.in-Err.ensures
