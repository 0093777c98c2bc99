use Rattle.std.proofs.Common.{arith, ◌≡◌, ◌∙◌, sym, refl, [], ◌∷◌}
use Rattle.mm_command.specs.Spelled.{number_value}
use Rattle.mm_command.proofs.Qualifiers.{given_behind_value}
use Rattle.mm_command.proofs.Excluded.{free_choice}
use Rattle.mm_command.proofs.qualifier.add_choice.Goals as goal

pub returns : goal.returns
returns c =
    let taken = c.in_ok-number.ensures in
    let first : c.args.place ≡ 0 = omega (arith, c.requires.within) in (
      given_behind_value _ (number_value c.args.choice ∷ []) _ 0 c.args.keyword _ _ _ _ _ first (free_choice c.args.choice (sym c.is_some.ensures ∙ c.if-is_some.false)) refl taken.0 taken.1,
      omega (arith, taken.1, taken.2),
      taken.2,
    )
