use Rattle.std.proofs.Common.{arith, refl}
use Rattle.mm_command.specs.Given.{minimize_given}
use Rattle.mm_command.proofs.Qualifiers.{given_behind_value}
use Rattle.mm_command.proofs.Excluded.{free_except, free_forbid, free_no_new_axioms}
use Rattle.mm_command.proofs.qualifier.add_minimize.Goals as goal

pub returns-in_ok-pattern-in-0 : goal.returns-in_ok-pattern-in-0
returns-in_ok-pattern-in-0 c =
    let taken = c.in_ok-pattern-in-0.ensures in (
      given_behind_value _ (minimize_given c.args.given) _ 0 c.args.keyword _ _ _ _ _ c.in-0.is (free_except c.args.given c.if-is_none.ensures) refl taken.0 taken.1,
      omega (arith, taken.1, taken.2),
      taken.2,
    )

pub returns-in_ok-pattern-in-1 : goal.returns-in_ok-pattern-in-1
returns-in_ok-pattern-in-1 c =
    let taken = c.in_ok-pattern-in-1.ensures in (
      given_behind_value _ (minimize_given c.args.given) _ 1 c.args.keyword _ _ _ _ _ c.in-1.is (free_forbid c.args.given c.if-is_none-2.ensures) refl taken.0 taken.1,
      omega (arith, taken.1, taken.2),
      taken.2,
    )

pub returns-in_ok-pattern-in-2 : goal.returns-in_ok-pattern-in-2
returns-in_ok-pattern-in-2 c =
    let taken = c.in_ok-pattern-in-2.ensures in (
      given_behind_value _ (minimize_given c.args.given) _ 2 c.args.keyword _ _ _ _ _ c.in-2.is (free_no_new_axioms c.args.given c.if-is_none-3.ensures) refl taken.0 taken.1,
      omega (arith, taken.1, taken.2),
      taken.2,
    )
