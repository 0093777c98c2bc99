-- Proofs as they are written: a label for each step, in postorder.
use Rattle.std.specs.Prelude.{ℕ, List, [], ◌∷◌, map, Option, None, Some, slice_range}
use Rattle.mm_tokens.specs.Pieces.{pieces_of, tokens_in}
use Rattle.mm_plain.specs.Labels.{label_at}
use Rattle.mm_plain.specs.declared.plain.Plain.{Plain}
use Rattle.mm_sound.specs.Complete.{labels_in}

-- the texts of the tokens among bytes
abbrev pub texts_in : List ℕ → List (List ℕ)
texts_in bytes = map (λ t. slice_range bytes t.start t.end) (tokens_in (pieces_of bytes))

-- what is written for a step: the label of the statement that it names, or `?`
abbrev pub word_for : List ℕ → Option ℕ → List ℕ
word_for bytes None = 63 ∷ []
word_for bytes (Some l) = label_at bytes l

-- what is written for a proof
abbrev pub written : List ℕ → Plain → List (List ℕ)
written bytes x = map (word_for bytes) (labels_in x)
