use Rattle.std.proofs.Common.{◌∙◌, refl}
use Rattle.mm_command.proofs.Qualifiers.{gives_along, given_from_slash}
use Rattle.mm_command.proofs.qualifier.+take_choice.Goals as goal

pub returns-in-Err-add_choice : goal.returns-in-Err-add_choice
returns-in-Err-add_choice t c =
    let here = c.in-Ok-Some in
    let next = rw here.field-0-is at here.ensures.next in
    given_from_slash _ _ _ _ _ _ _ _ _ _ _ next.1 refl next.3 next.2 refl refl ∙ c.in-Err-add_choice.ensures

pub returns-in-Ok : goal.returns-in-Ok
returns-in-Ok t c =
    let here = c.in-Ok-Some in
    let next = rw here.field-0-is at here.ensures.next in
    gives_along _ _ _ _
    (given_from_slash _ _ _ _ _ _ _ _ _ _ _ next.1 refl next.3 next.2 refl refl ∙ c.in-Ok.ensures.0)
    c.take_choice.ensures
