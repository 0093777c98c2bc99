-- What an edit asks of the step that it is given, and of the proof that it would make.
use Rattle.std.specs.Prelude.{ℕ, ◌+◌, Bool, ◌&&◌, List, is_none, nat_le, nat_lt, if◌then◌else◌}
use Rattle.mm_scope.specs.Contents.{stated_at}
use Rattle.mm_stated.specs.Stated.{is_hypothesis}
use Rattle.mm_plain.specs.declared.plain.Plain.{Plain}
use Rattle.mm_plain.specs.Shape.{Proof, size_of, height_of, step_at}
use Rattle.mm_plain.specs.Sources.{label_of}
use Rattle.mm_plain.specs.Valid.{most_works, most_steps, most_levels}
use Rattle.mm_edit.specs.declared.edit_fault.EditFault.{EditFault}
use Rattle.mm_edit.specs.declared.edit_fault.EditFault.TheVariants.{NotEarlier, HypothesisNotActive}

-- whether a step has this number
abbrev pub has_step : Plain → ℕ → Bool
has_step x k = nat_le 1 k && nat_le k (size_of x)

-- whether the step names no statement
abbrev pub is_unknown : Plain → ℕ → Bool
is_unknown x k = is_none (label_of (step_at x k))

-- why a statement may not stand in the proof
abbrev pub not_standing : List ℕ → ℕ → EditFault
not_standing bytes id = if is_hypothesis (stated_at bytes id).kind then HypothesisNotActive else NotEarlier

-- whether so many more work variables cannot be drawn
abbrev pub is_spent : Proof → ℕ → Bool
is_spent p n = nat_lt (most_works + 1) (p.next + n)

-- whether a proof has too many steps, or too many levels
abbrev pub has_many : Proof → Bool
has_many p = nat_lt most_steps (size_of p.plain)

abbrev pub is_deep : Proof → Bool
is_deep p = nat_lt most_levels (height_of p.plain)
