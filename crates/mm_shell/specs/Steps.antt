-- What SHOW NEW_PROOF says of a proof. Each line ends with LF.
use Rattle.std.specs.Prelude.{ℕ, Bool, ◌||◌, not, is_none, List, [], ◌∷◌, ◌++◌, codes, length, Option, None, Some, if◌then◌else◌}
use Rattle.std.specs.List.{flat_map}
use Rattle.std.specs.Fmt.{decimal}
use Rattle.mm_subst.specs.declared.symbol.WSym.{WSym}
use Rattle.mm_plain.specs.declared.plain.Plain.{Plain}
use Rattle.mm_plain.specs.Labels.{label_at}
use Rattle.mm_plain.specs.Numbers.{labels_in, numbers_from, pending_in, unknowns_among}
use Rattle.mm_plain.specs.Shape.{size_of, step_at, target_of}
use Rattle.mm_plain.specs.Sources.{is_pending, label_of, source_of}
use Rattle.mm_shell.specs.Lines.{counts_text, line_of}
use Rattle.mm_shell.specs.Strings.{string_text}

-- ## Steps

-- the label of what a step names; `?` where it is unknown
abbrev pub step_label : List ℕ → Option ℕ → List ℕ
step_label bytes None = codes "?"
step_label bytes (Some id) = label_at bytes id

-- a step's number and its label, a space after each
unfoldable pub step_head : List ℕ → ℕ → Option ℕ → List ℕ
step_head bytes k label = decimal k ++ (32 ∷ (step_label bytes label ++ (32 ∷ [])))

-- and then its target
unfoldable pub step_line : List ℕ → ℕ → Plain → List ℕ
step_line bytes k x = step_head bytes k (label_of x) ++ line_of (string_text bytes (target_of x))

-- a source, after two spaces, `is` and a space
abbrev pub source_line : List ℕ → Option (List WSym) → List ℕ
source_line bytes None = []
source_line bytes (Some s) = codes "  is " ++ line_of (string_text bytes s)

-- the line of a pending step's source; none of a step that isn't pending
unfoldable pub pending_line : List ℕ → Plain → List ℕ
pending_line bytes x = if is_pending bytes x then source_line bytes (source_of bytes x) else []

abbrev pub step_lines : List ℕ → Plain → ℕ → List ℕ
step_lines bytes x k = step_line bytes k (step_at x k) ++ pending_line bytes (step_at x k)

-- ## Proofs

-- whether a step with this label is shown: each, or the unknown ones alone
abbrev pub is_shown : Bool → Option ℕ → Bool
is_shown only_unknown label = not only_unknown || is_none label

-- the numbers of the steps that are shown
abbrev pub shown_steps : Bool → Plain → List ℕ
shown_steps only_unknown x = numbers_from (is_shown only_unknown) 1 (labels_in x)

-- the counts of all steps
abbrev pub proof_counts : List ℕ → Plain → List ℕ
proof_counts bytes x = counts_text (size_of x) (unknowns_among (labels_in x)) (length (pending_in bytes x))

-- the lines of each step that is shown, and then the counts
abbrev pub steps_text : List ℕ → Plain → Bool → List ℕ
steps_text bytes x only_unknown = flat_map (step_lines bytes x) (shown_steps only_unknown x) ++ proof_counts bytes x
