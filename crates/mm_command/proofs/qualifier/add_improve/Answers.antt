use Rattle.std.proofs.Common.{arith, refl}
use Rattle.mm_command.specs.Given.{improve_given}
use Rattle.mm_command.proofs.Qualifiers.{given_behind_value}
use Rattle.mm_command.proofs.Excluded.{free_depth}
use Rattle.mm_command.proofs.qualifier.add_improve.Goals as goal

pub returns-in_ok-number-in-0 : goal.returns-in_ok-number-in-0
returns-in_ok-number-in-0 c =
    let taken = c.in_ok-number-in-0.ensures in (
      given_behind_value _ (improve_given c.args.given) _ 0 c.args.keyword _ _ _ _ _ c.in-0.is (free_depth c.args.given c.if-is_none.ensures) refl taken.0 taken.1,
      omega (arith, taken.1, taken.2),
      taken.2,
    )
