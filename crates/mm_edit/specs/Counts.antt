-- How many steps of a proof are unknown, and how many are pending.
use Rattle.std.specs.Prelude.{ℕ, List, count_by}
use Rattle.std.specs.Option.{is_none}
use Rattle.mm_plain.specs.declared.plain.Plain.{Plain}
use Rattle.mm_plain.specs.Shape.{steps_of}
use Rattle.mm_plain.specs.Sources.{label_of, is_pending}

-- the steps that name no statement
unfoldable pub unknown_count : Plain → ℕ
unknown_count plain = count_by (λ x. is_none (label_of x)) (steps_of plain)

-- the known steps whose target is not their source
unfoldable pub pending_count : List ℕ → Plain → ℕ
pending_count bytes plain = count_by (is_pending bytes) (steps_of plain)
