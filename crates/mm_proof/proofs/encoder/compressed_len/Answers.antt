use Rattle.std.proofs.Common.{◌≡◌, ◌+◌, ℕ, length, ap, ◌∙◌}
use Rattle.std.specs.List.{flat_map}
use Rattle.mm_proof.specs.Encodes.{OfTree}
use Rattle.mm_proof.specs.Encoding.{word_of, one_line}
use Rattle.mm_proof.specs.Forests.{trees_in}
use Rattle.mm_proof.specs.Numbered.{spell}
use Rattle.mm_proof.specs.Spelling.{names_len}
use Rattle.mm_proof.proofs.Wholes.{line_length, of_ok}
use Rattle.mm_proof.proofs.encoder.compressed_len.Goals as goal

pub returns : goal.returns
returns c =
    let bytes = c.args.db.now in
    let s = c.in_ok-spelled.spelled in
    let words : c.in-Some.words ≡ names_len (word_of bytes) s.list.items = c.in-Some.ensures ∙ ap (names_len (word_of bytes)) c.as_slice.ensures.value in
    let letters : c.letters_len.result ≡ length (flat_map spell s.steps.items) = c.letters_len.ensures ∙ ap (λ x. length (flat_map spell x)) c.as_slice-2.ensures.value in
    let P : ℕ → Type 0 = λ n. n ≡ 4 + c.in-Some.words + c.letters_len.result in
    let Q : ℕ → Type 0 = λ n. OfTree bytes c.args.steps.now (λ t. n ≡ length (one_line bytes c.args.at.0 t)) in
    of_ok c.total_len.result P Q c.total_len.ensures (λ n is t one.
    let h = c.in_ok-spelled.ensures.spells t (ap (trees_in bytes) c.steps.ensures.value ∙ one) in
    line_length bytes c.args.at.0 t s.list.items s.steps.items c.in-Some.words n h.list h.letters words (is ∙ ap (λ m. 4 + c.in-Some.words + m) letters))
