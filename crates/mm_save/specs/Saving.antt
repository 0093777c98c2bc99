-- A proof saved in a database, in one of the two forms.
use Rattle.std.specs.Prelude.{ℕ, List}
use Rattle.mm_layout.specs.Normal.{normal_text}
use Rattle.mm_plain.specs.declared.plain.Plain.{Plain}
use Rattle.mm_proof.specs.Encoding.{compressed_proof}
use Rattle.mm_sound.specs.LabelTrees.{label_tree}
use Rattle.mm_sound.specs.Written.{written}
use Rattle.mm_splice.specs.Splicing.{spliced}
use Rattle.mm_save.specs.declared.form.Form.{Form}
use Rattle.mm_save.specs.declared.form.Form.TheVariants.{Normal, Compressed}

-- The text of the proof of a theorem. In the normal form it is a label for each step in postorder, on lines; in the compressed
-- form the text for the proof's label tree. A step that is unknown is `?` in both.
abbrev pub saved_text : List ℕ → ℕ → Form → Plain → List ℕ
saved_text bytes at Normal x = normal_text (written bytes x)
saved_text bytes at Compressed x = compressed_proof bytes at (label_tree x)

-- the database with this text as the proof of the theorem
abbrev pub saved : List ℕ → ℕ → Form → Plain → List ℕ
saved bytes at form x = spliced bytes at (saved_text bytes at form x)
