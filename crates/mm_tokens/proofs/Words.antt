-- The pieces of a database, in words of its bytes.
use Rattle.std.proofs.Common.{◌≡◌, ◌≢◌, ℕ, zero, suc, ◌+◌, ◌-◌, ◌<◌, ◌≤◌, Bool, true, false, not, List, [], ◌∷◌, Option, None, Some, Ok, length, slice_get, position, All, get_or, refl, sym, ◌∙◌, subst, arith, ◌⊎◌, inl, inr}
use Rattle.std.proofs.lemmas.List.{get_or_past}
use Rattle.std.proofs.lemmas.Grind.{common_steps}
use Rattle.std.specs.List.{AllByRecursion}
use Rattle.std.proofs.lemmas.List.Elements.{All-from_recursion}
use Rattle.std.proofs.lemmas.Option.{slice_get_within, get_or_from_slice_get}
use Rattle.mm_tokens.specs.Bytes.{is_graphic, is_bad}
use Rattle.mm_tokens.specs.Contents.{Contents}
use Rattle.mm_tokens.specs.Reading.{unless_faulty, tokens_of}
use Rattle.mm_tokens.specs.Runs.{IsBoundary, is_start, run_end, is_mark, is_closing}
use Rattle.mm_tokens.specs.Pieces.{pieces_after, pieces_of, tokens_in, comments_in, open_in}
use Rattle.mm_tokens.specs.Parts.{IsBlank, IsRun, IsMark, IsToken, AreParts}
use Rattle.mm_tokens.proofs.Places.{not_true, not_both, RunAt, run_end_is, first_run, boundary_at, boundary_first}
use Rattle.mm_tokens.proofs.Cuts.{pieces_skip, pieces_end, token_piece, open_piece, comment_piece, closing_run}
use Rattle.mm_tokens.specs.declared.pieces.Token.{Token as Run}
use Rattle.mm_tokens.specs.declared.pieces.Piece.{Piece}
use Rattle.mm_tokens.specs.declared.pieces.Piece.TheVariants.{Token, Comment, Open}

-- the first place that passes the test, among the n places from `from` on
record First (test : ℕ → Bool) (from n : ℕ) : Type 0 where
  place : ℕ
  low : from ≤ place
  high : place < from + n
  before : (k : ℕ) → from ≤ k → k < place → test k ≡ false
  passes : test place ≡ true

abbrev Fails : (ℕ → Bool) → ℕ → ℕ → Type 0
Fails test i j = (k : ℕ) → i ≤ k → k < j → test k ≡ false

here_or_later : (k from : ℕ) → from ≤ k → (k ≡ from) ⊎ (from + 1 ≤ k)
here_or_later k from low = grind arith

fails_here : (test : ℕ → Bool) (from j : ℕ) → test from ≡ false → Fails test (from + 1) j → Fails test from j
fails_here test from j here later k low high = elim (here_or_later k from low) [ inl e ↦ rw e here | inr h ↦ later k h high ]

first_by : (test : ℕ → Bool) (from n : ℕ) (b : Bool) → test from ≡ b → Fails test (from + 1) (from + 1 + n) ⊎ First test (from + 1) n
    → Fails test from (from + suc n) ⊎ First test from (suc n)
first_by test from n true here later = inr (record {
  place = from;
  low = omega arith;
  high = omega arith;
  before = λ k low high. absurd (omega arith);
  passes = here;
})
first_by test from n false here (inl none) =
    let same : from + 1 + n ≡ from + suc n = omega arith in
    inl (fails_here test from (from + suc n) here (subst (Fails test (from + 1)) same none))
first_by test from n false here (inr found) = inr (record {
  place = found.place;
  low = omega (arith, found.low);
  high = omega (arith, found.high);
  before = fails_here test from found.place here found.before;
  passes = found.passes;
})

first_from : (test : ℕ → Bool) (from n : ℕ) → Fails test from (from + n) ⊎ First test from n
first_from test from zero = inl (λ k low high. absurd (omega arith))
first_from test from (suc n) = first_by test from n (test from) refl (first_from test (from + 1) n)

not_false : (b : Bool) → not b ≡ false → b ≡ true
not_false true h = refl
not_false false h = cc

-- some run stands at the first token byte from a boundary on
run_there : (bytes : List ℕ) (at p : ℕ) → IsBoundary bytes at → at ≤ p → IsBlank bytes at p → p < length bytes
    → is_graphic (get_or bytes p 0) ≡ true → (e : ℕ) × RunAt bytes p e
run_there bytes at p boundary low none within here =
    let test : ℕ → Bool = λ k. not (is_graphic (get_or bytes k 0)) in
    let whole : p + (length bytes - p) ≡ length bytes = omega arith in
    let run : (e : ℕ) → p ≤ e → e ≤ length bytes → Fails test p e → is_graphic (get_or bytes e 0) ≡ false → RunAt bytes p e
    = λ e some fits fails stops.
    let all : (k : ℕ) → p ≤ k → k < e → is_graphic (get_or bytes k 0) ≡ true = λ k a b. not_false _ (fails k a b) in
    first_run bytes at p e boundary low none here some fits (run_end_is bytes p e some fits all stops) all stops in
    elim (first_from test p (length bytes - p)) [
      | inl fails ↦ (length bytes, run (length bytes) (omega arith) (omega arith) (subst (Fails test p) whole fails) (rw (get_or_past bytes (length bytes) 0 (omega arith)) refl))
      | inr found ↦ (found.place, run found.place found.low (omega (arith, found.high)) found.before (not_true _ found.passes))
    ]

is_run : (bytes : List ℕ) (p e : ℕ) → RunAt bytes p e → IsRun bytes p e
is_run bytes p e run = record {
  some = run.some;
  within = run.within;
  graphic = run.all;
  before = λ later. grind (arith, common_steps, run.start, later);
  after = run.stops;
}

mark_there : (bytes : List ℕ) (c p e : ℕ) → RunAt bytes p e → is_mark bytes c (record { start = p; end = e }) ≡ true → (e ≡ p + 2) × IsMark bytes c p
mark_there bytes c p e run mark =
    let end : e ≡ p + 2 = grind (arith, common_steps, mark) in (
      end,
      record {
        run = subst (IsRun bytes p) end (is_run bytes p e run);
        dollar = grind (arith, common_steps, mark);
        second = grind (arith, common_steps, mark);
      },
    )

mark_end : (bytes : List ℕ) (c p : ℕ) → IsMark bytes c p → run_end bytes p ≡ p + 2
mark_end bytes c p mark = run_end_is bytes p (p + 2) (omega arith) mark.run.within mark.run.graphic mark.run.after

no_mark_there : (bytes : List ℕ) (c p e : ℕ) → RunAt bytes p e → is_mark bytes c (record { start = p; end = e }) ≡ false → ¬ IsMark bytes c p
no_mark_there bytes c p e run other mark =
    let end : e ≡ p + 2 = sym run.at ∙ mark_end bytes c p mark in
    grind (arith, common_steps, other, end, mark.dollar, mark.second)

start_before : (bytes : List ℕ) (p : ℕ) → is_graphic (get_or bytes p 0) ≡ true → (p ≢ 0 → is_graphic (get_or bytes (p - 1) 0) ≡ false) → is_start bytes p ≡ true
start_before bytes zero here before = grind (arith, common_steps, here)
start_before bytes (suc p) here before =
    let none : is_graphic (get_or bytes (suc p - 1) 0) ≡ false = before (omega arith) in
    grind (arith, common_steps, here, none)

no_closing_there : (bytes : List ℕ) (k : ℕ) → is_closing bytes k ≡ false → ¬ IsMark bytes 41 k
no_closing_there bytes k other mark =
    let end : run_end bytes k ≡ k + 2 = mark_end bytes 41 k mark in
    let here : is_graphic (get_or bytes k 0) ≡ true = mark.run.graphic k (omega arith) (omega arith) in
    let start : is_start bytes k ≡ true = start_before bytes k here mark.run.before in
    grind (arith, common_steps, other, end, start, mark.dollar, mark.second)

-- no mark starts inside a run
no_mark_inside : (bytes : List ℕ) (c p e k : ℕ) → RunAt bytes p e → p < k → k < e → ¬ IsMark bytes c k
no_mark_inside bytes c p e k run low high mark =
    not_both _ (mark.run.before (omega arith)) (run.all (k - 1) (omega arith) (omega arith))

in_run_or_after : (k e : ℕ) → (k < e) ⊎ (e ≤ k)
in_run_or_after k e = grind arith

none_between : (bytes : List ℕ) (p e close : ℕ) → RunAt bytes p e → Fails (is_closing bytes) e close → (k : ℕ) → p < k → k < close → ¬ IsMark bytes 41 k
none_between bytes p e close run fails k low high =
    elim (in_run_or_after k e) [ inl h ↦ no_mark_inside bytes 41 p e k run low h | inr h ↦ no_closing_there bytes k (fails k h high) ]

-- past the end stands no mark
none_after : (bytes : List ℕ) (p e : ℕ) → RunAt bytes p e → Fails (is_closing bytes) e (length bytes) → (k : ℕ) → p < k → ¬ IsMark bytes 41 k
none_after bytes p e run fails k low mark =
    none_between bytes p e (length bytes) run fails k low (omega (arith, mark.run.within)) mark

-- what stands from place p on, if what stands from each later boundary on is known
abbrev Later : List ℕ → ℕ → Type 0
Later bytes p = (q : ℕ) → p < q → q ≤ length bytes → IsBoundary bytes q → AreParts bytes q (pieces_after bytes q)

parts_comment : (bytes : List ℕ) (at p e : ℕ) → at ≤ p → IsBlank bytes at p → RunAt bytes p e → Later bytes p
    → is_mark bytes 40 (record { start = p; end = e }) ≡ true
    → Fails (is_closing bytes) e (e + (length bytes - e)) ⊎ First (is_closing bytes) e (length bytes - e)
    → AreParts bytes p (pieces_after bytes p)
parts_comment bytes at p e low blank run later mark (inl fails) =
    let some : p < e = run.some in
    let within : e ≤ length bytes = run.within in
    let whole : e + (length bytes - e) ≡ length bytes = omega arith in
    let none : Fails (is_closing bytes) e (length bytes) = subst (Fails (is_closing bytes) e) whole fails in
    let stops : is_graphic (get_or bytes (length bytes) 0) ≡ false = rw (get_or_past bytes (length bytes) 0 (omega arith)) refl in
    subst (AreParts bytes p) (sym (open_piece bytes p e run mark none)) (
      omega arith,
      λ k a b. absurd (omega arith),
      record { opens = (mark_there bytes 40 p e run mark).1; unended = none_after bytes p e run none },
      later (length bytes) (omega arith) (omega arith) (boundary_at bytes (length bytes) stops),
    )
parts_comment bytes at p e low blank run later mark (inr found) =
    let some : p < e = run.some in
    let close : ℕ = found.place in
    let closed : RunAt bytes close (close + 2) = closing_run bytes close found.passes in
    let within : close + 2 ≤ length bytes = closed.within in
    let marked : is_mark bytes 41 (record { start = close; end = close + 2 }) ≡ true = grind (arith, common_steps, found.passes) in
    let opens : (e ≡ p + 2) × IsMark bytes 40 p = mark_there bytes 40 p e run mark in
    let back : close + 2 - 2 ≡ close = omega arith in
    let after : e ≤ close = found.low in
    subst (AreParts bytes p) (sym (comment_piece bytes p e close run mark found.low found.before found.passes)) (
      omega arith,
      λ k a b. absurd (omega arith),
      record {
        opens = opens.1;
        room = omega (arith, opens.0);
        closes = subst (IsMark bytes 41) (sym back) (mark_there bytes 41 close (close + 2) closed marked).1;
        first = λ k a b. none_between bytes p e close run found.before k a (omega arith);
      },
      later (close + 2) (omega arith) within (boundary_at bytes (close + 2) closed.stops),
    )

parts_run : (bytes : List ℕ) (at p e : ℕ) → at ≤ p → IsBlank bytes at p → RunAt bytes p e → Later bytes p
    → (b : Bool) → is_mark bytes 40 (record { start = p; end = e }) ≡ b → AreParts bytes p (pieces_after bytes p)
parts_run bytes at p e low blank run later true mark =
    parts_comment bytes at p e low blank run later mark (first_from (is_closing bytes) e (length bytes - e))
parts_run bytes at p e low blank run later false other =
    subst (AreParts bytes p) (sym (token_piece bytes p e run other)) (
      omega arith,
      λ k a b. absurd (omega arith),
      record { run = is_run bytes p e run; opens_none = no_mark_there bytes 40 p e run other },
      later e run.some run.within (boundary_at bytes e run.stops),
    )

-- blanks before the first piece change nothing
parts_earlier : (bytes : List ℕ) (at p : ℕ) (ps : List Piece) → at ≤ p → p ≤ length bytes → IsBlank bytes at p → AreParts bytes p ps → AreParts bytes at ps
parts_earlier bytes at p [] low high blank parts =
    λ k a b. elim (in_run_or_after k p) [ inl h ↦ blank k a h | inr h ↦ parts k h b ]
parts_earlier bytes at p (piece ∷ later) low high blank parts =
    (omega (arith, parts.0), λ k a b. elim (in_run_or_after k p) [ inl h ↦ blank k a h | inr h ↦ parts.1 k h b ], parts.2, parts.3)

parts_by : (bytes : List ℕ) (at : ℕ) → at ≤ length bytes → IsBoundary bytes at
    → Later bytes at
    → Fails (λ k. is_graphic (get_or bytes k 0)) at (at + (length bytes - at)) ⊎ First (λ k. is_graphic (get_or bytes k 0)) at (length bytes - at)
    → AreParts bytes at (pieces_after bytes at)
parts_by bytes at within boundary later (inl fails) =
    let whole : at + (length bytes - at) ≡ length bytes = omega arith in
    let blank : IsBlank bytes at (length bytes) = subst (Fails (λ k. is_graphic (get_or bytes k 0)) at) whole fails in
    subst (AreParts bytes at) (sym (pieces_skip bytes at (length bytes) within (omega arith) blank ∙ pieces_end bytes (length bytes) (omega arith))) blank
parts_by bytes at within boundary later (inr found) =
    let p : ℕ = found.place in
    let low : at ≤ p = found.low in
    let high : p < length bytes = omega (arith, found.high) in
    let run : (e : ℕ) × RunAt bytes p e = run_there bytes at p boundary low found.before high found.passes in
    let parts : AreParts bytes p (pieces_after bytes p)
    = parts_run bytes at p run.0 low found.before run.1 (λ q a b. later q (omega arith) b) (is_mark bytes 40 (record { start = p; end = run.0 })) refl in
    subst (AreParts bytes at) (sym (pieces_skip bytes at p low (omega arith) found.before))
    (parts_earlier bytes at p (pieces_after bytes p) low (omega arith) found.before parts)

parts_from : (n : ℕ) (bytes : List ℕ) (at : ℕ) → length bytes ≤ at + n → at ≤ length bytes → IsBoundary bytes at → AreParts bytes at (pieces_after bytes at)
parts_from zero bytes at many within boundary =
    subst (AreParts bytes at) (sym (pieces_end bytes at (omega arith))) (λ k a b. absurd (omega arith))
parts_from (suc n) bytes at many within boundary =
    parts_by bytes at within boundary (λ q a b c. parts_from n bytes q (omega arith) b c)
    (first_from (λ k. is_graphic (get_or bytes k 0)) at (length bytes - at))

pub parts_of : (bytes : List ℕ) → AreParts bytes 0 (pieces_after bytes 0)
parts_of bytes = parts_from (length bytes) bytes 0 (omega arith) (omega arith) (boundary_first bytes)

-- each token among them is a run that is not `$(`
tokens_stand : (bytes : List ℕ) (at : ℕ) (ps : List Piece) → AreParts bytes at ps → AllByRecursion (λ t. IsToken bytes t.start t.end) (tokens_in ps)
tokens_stand bytes at [] parts = tt
tokens_stand bytes at (Token t ∷ ps) parts = (parts.2, tokens_stand bytes t.end ps parts.3)
tokens_stand bytes at (Comment s ∷ ps) parts = tokens_stand bytes s.end ps parts.3
tokens_stand bytes at (Open p ∷ ps) parts = tokens_stand bytes (length bytes) ps parts.3

contents_is : (bad unended : Option ℕ) (contents read : Contents) → unless_faulty bad unended contents ≡ Ok read → contents ≡ read
contents_is (Some p) unended contents read h = cc
contents_is None (Some p) contents read h = cc
contents_is None None contents read h = cc

abbrev record_of : List Piece → Contents
record_of ps = record { tokens = tokens_in ps; comments = comments_in ps }

-- a token that is read is such a run
pub token_stands : (bytes : List ℕ) (read : Contents) (k : ℕ) (token : Run) → tokens_of bytes ≡ Ok read → slice_get read.tokens k ≡ Some token
    → IsToken bytes token.start token.end
unfolding tokens_of
token_stands bytes read k token is at =
    let pieces : List Piece = pieces_of bytes in
    let found : record_of pieces ≡ read = contents_is (position is_bad bytes) (open_in pieces) (record_of pieces) read is in
    let all : All (λ t. IsToken bytes t.start t.end) (tokens_in pieces) = All-from_recursion (λ t. IsToken bytes t.start t.end) (tokens_in pieces) (tokens_stand bytes 0 pieces (parts_of bytes)) in
    let here : slice_get (tokens_in pieces) k ≡ Some token = subst (λ c. slice_get c.tokens k ≡ Some token) (sym found) at in
    subst (λ t. IsToken bytes t.start t.end) (get_or_from_slice_get (tokens_in pieces) k token token here) (all k token (slice_get_within (tokens_in pieces) k token here))
