-- A unifier applied to a proof.
use Rattle.std.specs.Prelude.{ℕ, List, Option, None, Some, Result, Ok, Err}
use Rattle.mm_subst.specs.Substitutions.{Pairs}
use Rattle.mm_plain.specs.declared.plain.Plain.{Plain}
use Rattle.mm_plain.specs.Binding.{bound, bound_in}
use Rattle.mm_plain.specs.Lengths.{first_long}
use Rattle.mm_plain.specs.Shape.{Proof}
use Rattle.mm_edit.specs.declared.edit_fault.EditFault.{EditFault}
use Rattle.mm_edit.specs.declared.edit_fault.EditFault.TheVariants.{TooLong}

abbrev pub unless_long : Option ℕ → Proof → Result Proof EditFault
unless_long None p = Ok p
unless_long (Some k) p = Err (TooLong k)

-- the proof under a unifier, where no step of it has a string that is too long
abbrev pub applying : List ℕ → Pairs → Proof → Result Proof EditFault
applying bytes theta p = unless_long (first_long bytes (bound theta p.plain)) (bound_in theta p)

-- the proof under the only unifier of a step, where there is one; else the step stays pending
abbrev pub applying_only : List ℕ → Result Pairs EditFault → Proof → Result Proof EditFault
applying_only bytes (Ok theta) p = applying bytes theta p
applying_only bytes (Err f) p = Ok p

-- a tree under the only unifier of a step, where there is one
abbrev pub bound_by : Result Pairs EditFault → Plain → Plain
bound_by (Ok theta) x = bound theta x
bound_by (Err f) x = x
