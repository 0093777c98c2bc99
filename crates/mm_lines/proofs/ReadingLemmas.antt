-- A line is read, piece by piece.
use Rattle.std.proofs.Common.{◌≡◌, ◌≢◌, ◌+◌, ◌≤◌, ◌||◌, ℕ, true, false, IsTrue, List, [], ◌∷◌, ◌++◌, length, refl, sym, ◌∙◌, ap, subst, arith, append_assoc, length-append, nat_le}
use Rattle.std.specs.List.{list_any}
use Rattle.std.proofs.lemmas.Bool.Decides.{nat_tests}
use Rattle.mm_base.specs.declared.source.Source.{Ghosts as SourceOf}
use Rattle.mm_base.specs.Source.{Gives}
use Rattle.mm_base.proofs.SourceLemmas.{gives_none, gives_then}
use Rattle.mm_lines.specs.Parts.{is_lf, IsFree, held, MovesTo}
use Rattle.mm_lines.specs.Reader.{Moves}
use Rattle.mm_lines.proofs.LineLemmas.{append_nil, free_append}
use Rattle.mm_lines.proofs.PieceLemmas.{held_more}

-- As far as it has been read: of the bytes at hand and those that were taken, some have gone behind the line that was begun, and the others stand in the chunk.
pub record Reading {S : Type 0} (src : SourceOf S) (chunk begun : List ℕ) (taken : ℕ) (was : S) (chunk' begun' : List ℕ) (taken' : ℕ) (now : S) : Type 0 where
  pub bytes : List ℕ
  pub given : Gives src.tells src.left was now bytes
  pub count : taken' ≡ taken + length bytes
  pub raw : List ℕ
  pub free : IsFree raw
  pub whole : chunk ++ bytes ≡ raw ++ chunk'
  pub begun_is : (more : List ℕ) → held (begun' ++ more) ≡ held ((begun ++ raw) ++ more)

module _ {S : Type 0} (src : SourceOf S) (chunk begun : List ℕ) (taken : ℕ) (was : S) where
  pub reading_begins : Reading src chunk begun taken was chunk begun taken was
  reading_begins = record {
    bytes = [];
    given = gives_none src.tells src.left was;
    count = omega arith;
    raw = [];
    free = refl;
    whole = append_nil chunk;
    begun_is = λ more. ap (λ (xs : List ℕ). held (xs ++ more)) (sym (append_nil begun));
  }

  -- an LF was at hand
  pub moves_to_lf : (c b : List ℕ) (t : ℕ) (now : S) (c' b' : List ℕ) → Reading src chunk begun taken was c b t now → MovesTo c b true c' b' → Moves src chunk begun taken was true c' b' t now
  moves_to_lf c b t now c' b' r m = record {
    bytes = r.bytes;
    given = r.given;
    count = r.count;
    moved = (
      r.raw ++ m.0,
      record {
        free = free_append r.raw m.0 r.free m.1.free;
        whole = r.whole ∙ (ap (λ (xs : List ℕ). r.raw ++ xs) m.1.whole ∙ sym (append_assoc r.raw m.0 (10 ∷ c')));
      },
      m.2 ∙ (r.begun_is m.0 ∙ ap held (append_assoc begun r.raw m.0)),
    );
  }

  -- no LF was at hand
  pub moves_all : (c b : List ℕ) (t : ℕ) (now : S) (c' b' : List ℕ) → Reading src chunk begun taken was c b t now → MovesTo c b false c' b' → Moves src chunk begun taken was false c' b' t now
  moves_all c b t now c' b' r m = record {
    bytes = r.bytes;
    given = r.given;
    count = r.count;
    moved = (
      subst (λ (xs : List ℕ). IsFree xs) (sym r.whole) (free_append r.raw c r.free m.0),
      m.1,
      m.2 ∙ (r.begun_is c ∙ (ap held (append_assoc begun r.raw c) ∙ ap (λ (xs : List ℕ). held (begun ++ xs)) (sym r.whole))),
    );
  }

  -- no byte was taken then
  pub moves_no_more : (c b : List ℕ) (t : ℕ) (now : S) (c' : List ℕ) (then : S) → Moves src chunk begun taken was false c b t now → c' ≡ [] → Gives src.tells src.left now then c' → Moves src chunk begun taken was false c' b t then
  moves_no_more c b t now c' then m none given = record {
    bytes = m.bytes;
    given = subst (λ (xs : List ℕ). Gives src.tells src.left was then xs) (ap (λ (xs : List ℕ). m.bytes ++ xs) none ∙ append_nil m.bytes) (gives_then src.tells src.left was now then m.bytes c' m.given given);
    count = m.count;
    moved = (m.moved.0, none, m.moved.2);
  }

  -- more bytes were taken then
  pub reading_goes_on : (c b : List ℕ) (t : ℕ) (now : S) (c' : List ℕ) (n t' : ℕ) (then : S) → Moves src chunk begun taken was false c b t now → Gives src.tells src.left now then c' → n ≡ length c' → t' ≡ t + n → Reading src chunk begun taken was c' b t' then
  reading_goes_on c b t now c' n t' then m given len is = record {
    bytes = m.bytes ++ c';
    given = gives_then src.tells src.left was now then m.bytes c' m.given given;
    count = omega (arith, len, is, m.count, length-append m.bytes c');
    raw = chunk ++ m.bytes;
    free = m.moved.0;
    whole = sym (append_assoc chunk m.bytes c');
    begun_is = λ more. ap (λ (xs : List ℕ). held (xs ++ more)) m.moved.2 ∙ held_more (begun ++ (chunk ++ m.bytes)) more;
  }

-- a read is made only where it must be
pub must_ask : (chunk chunk' : List ℕ) (taken taken' : ℕ) → IsTrue (list_any is_lf chunk || nat_le 4294967296 taken) → chunk' ≡ chunk → taken' ≡ taken → IsFree chunk' → taken' ≤ 4294967296 → taken' ≢ 4294967296 → ⊥
must_ask chunk chunk' taken taken' silent c t free most not =
    let none : list_any is_lf chunk ≡ false = sym (ap (list_any is_lf) c) ∙ free in
    let below : nat_le 4294967296 taken ≡ false = grind (arith, nat_tests) in
    let no : (list_any is_lf chunk || nat_le 4294967296 taken) ≡ false = rw none below in
    cc
