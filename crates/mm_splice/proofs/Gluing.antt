-- The pieces of a database whose proof is replaced by a proof's text.
use Rattle.std.proofs.Common.{◌≡◌, ℕ, ◌+◌, ◌-◌, ◌<◌, ◌≤◌, true, false, List, [], ◌∷◌, ◌++◌, map, length, get_or, slice_range, refl, sym, ◌∙◌, ap, subst, arith, ◌⊎◌, inl, inr}
use Rattle.std.proofs.lemmas.Bool.{true≢false}
use Rattle.std.proofs.lemmas.List.{get_or_past, take_all}
use Rattle.mm_tokens.specs.Bytes.{is_graphic}
use Rattle.mm_tokens.specs.Parts.{IsToken}
use Rattle.mm_tokens.specs.Pieces.{pieces_of}
use Rattle.mm_tokens.proofs.OnlyParts.{only_parts}
use Rattle.mm_tokens.proofs.Words.{parts_of}
use Rattle.mm_tokens.specs.declared.pieces.Piece.{Piece}
use Rattle.mm_tokens.specs.declared.pieces.Piece.TheVariants.{Token}
use Rattle.mm_splice.specs.Moved.{move_piece}
use Rattle.mm_splice.specs.Splicing.{put_between, moved_by}
use Rattle.mm_splice.proofs.Bytes.{IsText, whole_size, head_at, text_at, tail_at, low_moved, high_moved}
use Rattle.mm_splice.proofs.Parts.{AreEnded, ended_front, ended_rest, ended_both, UpTo, upto_rises, upto_end, parts_end, split, glue, upto_moved}
use Rattle.mm_splice.proofs.Proofs.{IsProof}
use Rattle.mm_splice.proofs.Texts.{proof_size, range_moved, alike, plain_text, plain_moved}
use Rattle.mm_splice.proofs.Turning.{AreAlike, ArePlain, plain_ended}

pub upto_all : (bytes : List ℕ) → UpTo bytes 0 (pieces_of bytes) (length bytes)
upto_all bytes = upto_end bytes 0 (pieces_of bytes) (omega arith) (parts_of bytes)

-- the pieces up to a proof's `$=`, and those from its `$.` on
module _ (bytes : List ℕ) (from to : ℕ) (is : IsProof bytes (pieces_of bytes) from to) (all : AreEnded (pieces_of bytes)) where
  abbrev pub head : List Piece
  head = is.front ++ Token is.begin ∷ []

  abbrev pub tail : List Piece
  tail = Token is.end ∷ is.rest

  pub record IsApart : Type 0 where
    pub head_stands : UpTo bytes 0 head from
    pub tail_stands : UpTo bytes to tail (length bytes)
    pub above : from < to

  strictly : (p q : ℕ) → p ≤ q → is_graphic (get_or bytes p 0) ≡ false → is_graphic (get_or bytes q 0) ≡ true → p < q
  strictly p q h stops goes = elim (or_less p q h) [
    | inl same ↦ absurd (true≢false (sym goes ∙ ap (λ k. is_graphic (get_or bytes k 0)) (sym same) ∙ stops))
    | inr less ↦ less
  ]
    where
      or_less : (p q : ℕ) → p ≤ q → (p ≡ q) ⊎ (p < q)
      or_less p q h = grind arith

  pub apart : IsApart
  apart =
      let whole : UpTo bytes 0 (is.front ++ Token is.begin ∷ (is.mid ++ Token is.end ∷ is.rest)) (length bytes) = subst (λ ps. UpTo bytes 0 ps (length bytes)) is.whole (upto_all bytes) in
      let one : UpTo bytes 0 is.front is.begin.start × UpTo bytes is.begin.start (Token is.begin ∷ (is.mid ++ Token is.end ∷ is.rest)) (length bytes)
      = split bytes 0 (length bytes) is.front (Token is.begin) (is.mid ++ Token is.end ∷ is.rest) whole in
      let begin : IsToken bytes is.begin.start is.begin.end = one.1.2 in
      let size : is.begin.end ≡ is.begin.start + 2 = proof_size bytes is.begin begin.run.some begin.run.within is.begins in
      let two : UpTo bytes is.begin.end is.mid is.end.start × UpTo bytes is.end.start (Token is.end ∷ is.rest) (length bytes)
      = split bytes is.begin.end (length bytes) is.mid (Token is.end) is.rest one.1.3 in
      let end : IsToken bytes is.end.start is.end.end = two.1.2 in
      record {
        head_stands = glue bytes 0 is.begin.start from is.front (Token is.begin ∷ []) one.0
            (omega arith, λ k a b. absurd (omega (arith, a, b)), begin, (omega (arith, size, is.from_is), λ k a b. absurd (omega (arith, a, b, size, is.from_is))));
        tail_stands = subst (λ p. UpTo bytes p tail (length bytes)) (sym is.to_is) two.1;
        above = omega (
          arith,
          is.from_is,
          is.to_is,
          size,
          strictly is.begin.end is.end.start (upto_rises bytes is.begin.end is.mid is.end.start two.0) begin.run.after (end.run.graphic is.end.start (omega arith) end.run.some),
        );
      }

  pub head_ended : AreEnded head
  head_ended = ended_both is.front (Token is.begin ∷ []) (ended_front is.front (Token is.begin ∷ (is.mid ++ Token is.end ∷ is.rest)) (subst AreEnded is.whole all)) tt

  pub tail_ended : AreEnded tail
  tail_ended = ended_rest is.mid tail (ended_rest is.front (Token is.begin ∷ (is.mid ++ tail)) (subst AreEnded is.whole all))

  -- and what stands where a text is put between the two
  module _ (text : List ℕ) (good : IsText text) where
    abbrev pub new : List ℕ
    new = put_between bytes from to text

    abbrev pub map_old : ℕ → ℕ
    map_old p = moved_by from to (length text) p

    abbrev pub map_text : ℕ → ℕ
    map_text p = from + p

    up : from ≤ to
    up = omega (arith, apart.above)

    within : to ≤ length bytes
    within = upto_rises bytes to tail (length bytes) apart.tail_stands

    size : length new ≡ (from + length text) + (length bytes - to)
    size = whole_size bytes from to text up within

    head_rise : (p : ℕ) → 0 ≤ p → p ≤ 0 + from → map_old p + 0 ≡ p + 0
    head_rise p low high = omega (arith, low_moved from to (length text) p (omega (arith, high)))

    head_same : (p q : ℕ) → q + 0 ≡ p + 0 → 0 ≤ p → p < 0 + from → get_or new q 0 ≡ get_or bytes p 0
    head_same p q e low high = head_at bytes from to text up within p q (omega (arith, e)) (omega (arith, high))

    first_blank : is_graphic (get_or new (0 + from) 0) ≡ false
    first_blank = ap is_graphic (text_at bytes from to text up within 0 (0 + from) (omega arith) good.some) ∙ good.first

    last_blank : is_graphic (get_or new ((from + length text) - 1) 0) ≡ false
    last_blank = ap is_graphic (text_at bytes from to text up within (length text - 1) ((from + length text) - 1) (omega (arith, good.some)) (omega (arith, good.some))) ∙ good.last

    text_rise : (p : ℕ) → 0 ≤ p → p ≤ 0 + length text → map_text p + 0 ≡ p + from
    text_rise p low high = omega arith

    text_same : (p q : ℕ) → q + 0 ≡ p + from → 0 ≤ p → p < 0 + length text → get_or new q 0 ≡ get_or text p 0
    text_same p q e low high = text_at bytes from to text up within p q (omega (arith, e)) (omega (arith, high))

    tail_rise : (p : ℕ) → to ≤ p → p ≤ to + (length bytes - to) → map_old p + to ≡ p + (from + length text)
    tail_rise p low high = omega (arith, low, high_moved from to (length text) p apart.above low)

    tail_same : (p q : ℕ) → q + to ≡ p + (from + length text) → to ≤ p → p < to + (length bytes - to) → get_or new q 0 ≡ get_or bytes p 0
    tail_same p q e low high = tail_at bytes from to text up within p q e low

    head_moved : UpTo new 0 (map (move_piece map_old) head) from
    head_moved =
        let first : map_old 0 ≡ 0 = low_moved from to (length text) 0 (omega arith) in
        let last : map_old from ≡ from = low_moved from to (length text) from (omega arith) in
        subst (λ q. UpTo new 0 (map (move_piece map_old) head) q) last
        (subst (λ p. UpTo new p (map (move_piece map_old) head) (map_old from)) first
        (upto_moved bytes new map_old 0 0 from (omega (arith, up, within)) (omega (arith, size)) head_rise head_same (λ _ nz. absurd (nz refl)) (λ _. first_blank)
        0 head from head_ended (omega arith) (omega arith) apart.head_stands))

    text_is_plain : ArePlain text (pieces_of text)
    text_is_plain = plain_text text 0 (pieces_of text) (length text) (omega arith) good.plain (upto_all text)

    text_moved : UpTo new from (map (move_piece map_text) (pieces_of text)) (from + length text)
    text_moved =
        let first : map_text 0 ≡ from = omega arith in
        let near : (0 + length text) - 1 ≡ length text - 1 = omega arith in
        subst (λ p. UpTo new p (map (move_piece map_text) (pieces_of text)) (from + length text)) first
        (upto_moved text new map_text 0 from (length text) (omega arith) (omega (arith, size)) text_rise text_same
        (λ h _. absurd (true≢false (sym h ∙ good.first)))
        (λ h. absurd (true≢false (sym h ∙ ap (λ k. is_graphic (get_or text k 0)) near ∙ good.last)))
        0 (pieces_of text) (length text) (plain_ended text (pieces_of text) text_is_plain) (omega arith) (omega arith) (upto_all text))

    tail_moved : UpTo new (from + length text) (map (move_piece map_old) tail) (length new)
    tail_moved =
        let first : map_old to ≡ from + length text = omega (arith, tail_rise to (omega arith) (omega (arith, within))) in
        let last : map_old (length bytes) ≡ length new = omega (arith, tail_rise (length bytes) within (omega (arith, within)), size, within) in
        subst (λ q. UpTo new (from + length text) (map (move_piece map_old) tail) q) last
        (subst (λ p. UpTo new p (map (move_piece map_old) tail) (map_old (length bytes))) first
        (upto_moved bytes new map_old to (from + length text) (length bytes - to) (omega (arith, within)) (omega (arith, size)) tail_rise tail_same
        (λ _ _. last_blank)
        (λ _. ap is_graphic (get_or_past new ((from + length text) + (length bytes - to)) 0 (omega (arith, size))))
        to tail (length bytes) tail_ended (omega arith) (omega (arith, within)) apart.tail_stands))

    abbrev pub glued : List Piece
    glued = map (move_piece map_old) head ++ (map (move_piece map_text) (pieces_of text) ++ map (move_piece map_old) tail)

    pub pieces_glued : pieces_of new ≡ glued
    pieces_glued =
        let rest : UpTo new from (map (move_piece map_text) (pieces_of text) ++ map (move_piece map_old) tail) (length new)
        = glue new from (from + length text) (length new) (map (move_piece map_text) (pieces_of text)) (map (move_piece map_old) tail) text_moved tail_moved in
        let parts : UpTo new 0 glued (length new)
        = glue new 0 from (length new) (map (move_piece map_old) head) (map (move_piece map_text) (pieces_of text) ++ map (move_piece map_old) tail) head_moved rest in
        only_parts new 0 (pieces_of new) glued (parts_of new) (parts_end new 0 glued parts)

    pub head_alike : AreAlike bytes new map_old head
    head_alike = alike bytes new map_old 0 0 from (omega (arith, up, within)) (omega (arith, size)) head_rise head_same 0 head from head_ended (omega arith) (omega arith) apart.head_stands

    pub tail_alike : AreAlike bytes new map_old tail
    tail_alike =
        alike bytes new map_old to (from + length text) (length bytes - to) (omega (arith, within)) (omega (arith, size)) tail_rise tail_same to tail (length bytes) tail_ended (omega arith) (omega (arith, within))
        apart.tail_stands

    pub text_plain : ArePlain new (map (move_piece map_text) (pieces_of text))
    text_plain =
        plain_moved text new map_text (pieces_of text)
        (alike text new map_text 0 from (length text) (omega arith) (omega (arith, size)) text_rise text_same 0 (pieces_of text) (length text) (plain_ended text (pieces_of text) text_is_plain) (omega arith) (omega arith) (upto_all text))
        text_is_plain

    -- what stands before the proof, after it and in its place
    pub range_head : (s e : ℕ) → s ≤ e → e ≤ from → slice_range new (map_old s) (map_old e) ≡ slice_range bytes s e
    range_head s e rises high =
        range_moved bytes new map_old 0 0 from (omega (arith, up, within)) (omega (arith, size)) head_rise head_same s e rises (omega arith) (omega (arith, high))

    pub range_tail : (s e : ℕ) → s ≤ e → to ≤ s → e ≤ length bytes → slice_range new (map_old s) (map_old e) ≡ slice_range bytes s e
    range_tail s e rises low high =
        range_moved bytes new map_old to (from + length text) (length bytes - to) (omega (arith, within)) (omega (arith, size)) tail_rise tail_same s e rises low (omega (arith, within, high))

    pub range_text : slice_range new (map_old from) (map_old to) ≡ text
    range_text =
        let first : map_old from ≡ from + 0 = omega (arith, low_moved from to (length text) from (omega arith)) in
        let last : map_old to ≡ from + length text = omega (arith, tail_rise to (omega arith) (omega (arith, within))) in
        ap (λ p. slice_range new p (map_old to)) first
        ∙ ap (λ p. slice_range new (from + 0) p) last
        ∙ range_moved text new map_text 0 from (length text) (omega arith) (omega (arith, size)) text_rise text_same 0 (length text) (omega arith) (omega arith) (omega arith)
        ∙ take_all (length text - 0) text (omega arith)

    pub from_stays : map_old from ≡ from
    from_stays = low_moved from to (length text) from (omega arith)

    pub to_moves : map_old to ≡ from + length text
    to_moves = omega (arith, tail_rise to (omega arith) (omega (arith, within)))

    pub to_within : to ≤ length bytes
    to_within = within

  pub from_is_late : 2 ≤ from
  from_is_late = omega (arith, is.from_is)
