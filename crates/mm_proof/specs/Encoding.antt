-- The texts that are written for a label tree.
use Rattle.std.specs.Prelude.{ℕ, zero, suc, ◌+◌, ◌%◌, ◌==◌, List, [], ◌∷◌, ◌++◌, map, slice_index_or, if◌then◌else◌}
use Rattle.mm_layout.specs.Normal.{margin, lines_of, behind_feeds, normal_text}
use Rattle.mm_scope.specs.Contents.{labels_of, stated_at}
use Rattle.mm_stated.specs.Stated.{is_hypothesis}
use Rattle.mm_proof.specs.declared.step.StepKind.{StepKind}
use Rattle.mm_proof.specs.declared.step.StepKind.TheVariants.{Hyp, Apply, Unknown}
use Rattle.mm_proof.specs.Trees.{Tree, postorder, trees_of}
use Rattle.mm_proof.specs.Compacting.{compact}
use Rattle.mm_proof.specs.Spelling.{letters, used, line_of}

-- what is written for a label by its number: the label of the statement whose id is one less; `?` where there is none
unfoldable pub word_of : List ℕ → ℕ → List ℕ
word_of bytes zero = 63 ∷ []
word_of bytes (suc n) = slice_index_or (labels_of bytes) n (63 ∷ [])

-- a normal proof: the labels in postorder, on lines
abbrev pub normal_proof : List ℕ → Tree → List ℕ
normal_proof bytes t = normal_text (map (word_of bytes) (postorder (trees_of (t ∷ []))))

-- the numbers of the labels of a theorem's mandatory hypotheses
abbrev pub own_labels : List ℕ → ℕ → List ℕ
own_labels bytes at = map (λ n. n + 1) (stated_at bytes at).mandatory

-- the order in which a compressed proof lists the labels that are no mandatory hypotheses: that of first use
abbrev pub listed_labels : List ℕ → ℕ → Tree → List ℕ
listed_labels bytes at t = used (own_labels bytes at) [] (compact t)

-- the letters, where first the mandatory hypotheses and then the labels of the list have numbers
abbrev pub letters_for : List ℕ → ℕ → Tree → List ℕ
letters_for bytes at t = letters (own_labels bytes at ++ listed_labels bytes at t) (compact t)

-- `(`, the labels, and `)`
abbrev pub list_words : List ℕ → List ℕ → List (List ℕ)
list_words bytes list = (40 ∷ []) ∷ map (word_of bytes) list ++ (41 ∷ []) ∷ []

-- each 72nd letter begins a line, behind a LF and six spaces
abbrev pub feed_before : ℕ → List ℕ
feed_before place = if place % 72 == 0 then 10 ∷ margin else []

-- letters on lines, from the letter with a place on, counted from 0
abbrev pub laid_letters : ℕ → List ℕ → List ℕ
laid_letters place [] = []
laid_letters place (b ∷ bs) = feed_before place ++ b ∷ laid_letters (place + 1) bs

-- a compressed proof: the list, filled into lines as a normal proof is, and the letters on lines of their own
abbrev pub compressed_proof : List ℕ → ℕ → Tree → List ℕ
compressed_proof bytes at t =
    behind_feeds (lines_of (list_words bytes (listed_labels bytes at t))) ++ (laid_letters 0 (letters_for bytes at t) ++ 32 ∷ [])

-- the same on one line: `( labels ) letters`
abbrev pub one_line : List ℕ → ℕ → Tree → List ℕ
one_line bytes at t = line_of (word_of bytes) (listed_labels bytes at t) (letters_for bytes at t)

-- the step that a label by its number is: a hypothesis or an assertion; `?` for 0
unfoldable pub kind_of : List ℕ → ℕ → StepKind
kind_of bytes zero = Unknown
kind_of bytes (suc n) = if is_hypothesis (stated_at bytes n).kind then Hyp (record { 0 = n }) else Apply (record { 0 = n })
