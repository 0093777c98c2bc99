-- What the next line is, once it is read.
use Rattle.std.proofs.Common.{eqb-true, suc, take, ◌≡◌, ◌≢◌, ◌<◌, ◌≤◌, ◌==◌, ◌||◌, nat_le, ℕ, Bool, true, false, IsTrue, List, [], ◌∷◌, ◌++◌, length, refl, sym, ◌∙◌, ap, subst, arith, append_assoc, length-append, Result, Ok, Err, if◌then◌else◌}
use Rattle.std.specs.List.{list_any}
use Rattle.std.proofs.lemmas.List.Folds.{list_any-append}
use Rattle.mm_base.specs.declared.source.Source.{Ghosts as SourceOf}
use Rattle.mm_base.proofs.SourceLemmas.{gives_none}
use Rattle.mm_lines.specs.declared.next.Next.{Next}
use Rattle.mm_lines.specs.declared.next.Next.TheVariants.{Line, End}
use Rattle.mm_lines.specs.declared.next.Stopped.{Stopped}
use Rattle.mm_lines.specs.declared.next.Stopped.TheVariants.{Failed, Spent}
use Rattle.mm_lines.specs.Lines.{lines_of, kept, kept_lines}
use Rattle.mm_lines.specs.Parts.{is_lf, IsFree, held, line_of, without_cr}
use Rattle.mm_lines.specs.State.{ReaderState, IsSound}
use Rattle.mm_lines.specs.Reader.{HoldsLine, Reads, LinesFollow, Moves, all_of, is_silent}
use Rattle.mm_lines.proofs.LineLemmas.{append_nil, lines_none, lines_with, lines_last, free_append, free_take, kept_held, held_lines}

abbrev pub state_of : (begun chunk line : List ℕ) (taken : ℕ) (ended : Bool) → ReaderState
state_of begun chunk line taken ended = record { ahead = begun ++ chunk; line = line; taken = taken; ended = ended }

take_none : (n : ℕ) (xs : List ℕ) → take (suc n) xs ≡ [] → xs ≡ []
take_none n [] e = refl
take_none n (x ∷ xs) e = cc

held_none : (xs : List ℕ) → held xs ≡ [] → xs ≡ []
held_none xs e = take_none 65537 xs e

last_is : (raw more : List ℕ) → IsFree raw → raw ≢ [] → more ≡ [] → lines_of (raw ++ more) ≡ raw ∷ lines_of more
last_is [] more free some none = absurd (some refl)
last_is (b ∷ raw) more free some none =
    ap (λ (m : List ℕ). lines_of ((b ∷ raw) ++ m)) none
    ∙ (ap lines_of (append_nil (b ∷ raw)) ∙ (lines_last b raw free ∙ ap (λ (ls : List (List ℕ)). (b ∷ raw) ∷ ls) (sym (ap lines_of none ∙ lines_none))))

some_length : (xs : List ℕ) → xs ≢ [] → 0 < length xs
some_length [] some = absurd (some refl)
some_length (x ∷ xs) some = omega arith

module _ {S : Type 0} (src : SourceOf S) (begun chunk line : List ℕ) (taken : ℕ) (was : S) where
  -- all that was at hand and was taken, as it stands behind the line that was begun
  behind : (bytes : List ℕ) → (begun ++ chunk) ++ bytes ≡ begun ++ (chunk ++ bytes)
  behind bytes = append_assoc begun chunk bytes

  -- a line that ends with an LF
  pub reads_line : (c b : List ℕ) (t : ℕ) (now : S) (found : List ℕ) → IsFree begun → Moves src chunk begun taken was true c b t now → found ≡ kept (line_of true b) → Reads src (state_of begun chunk line taken false) was (Ok Line) (state_of [] c found t false) now
  reads_line c b t now found free m is =
      let piece = m.moved.0 in
      let raw = begun ++ piece in
      let free_raw : IsFree raw = free_append begun piece free m.moved.1.free in
      record {
        bytes = m.bytes;
        given = m.given;
        count = m.count;
        finds = record {
          used = raw ++ 10 ∷ [];
          line = without_cr raw;
          whole = behind m.bytes ∙ (ap (λ (xs : List ℕ). begun ++ xs) m.moved.1.whole ∙ (sym (append_assoc begun piece (10 ∷ c)) ∙ sym (append_assoc raw (10 ∷ []) c)));
          some = omega (arith, length-append raw (10 ∷ []));
          is_line = λ more e. ap lines_of (append_assoc raw (10 ∷ []) more) ∙ lines_with raw more free_raw;
          last = λ e. cc;
          kept_is = is ∙ (ap (λ (xs : List ℕ). kept (line_of true xs)) m.moved.2 ∙ kept_held true raw);
        };
        end = λ o e. cc;
        unspent = λ o e. cc;
      }

  -- a last line without an LF
  pub reads_last : (c b : List ℕ) (t : ℕ) (now : S) (found : List ℕ) → IsFree begun → Moves src chunk begun taken was false c b t now → (IsTrue (src.tells now) → src.left now ≡ []) → t < 4294967296 → b ≢ [] → found ≡ kept (line_of false b) → Reads src (state_of begun chunk line taken false) was (Ok Line) (state_of [] c found t true) now
  reads_last c b t now found free m end less some is =
      let raw = begun ++ (chunk ++ m.bytes) in
      let free_raw : IsFree raw = free_append begun (chunk ++ m.bytes) free m.moved.0 in
      let some_raw : raw ≢ [] = λ e. some (m.moved.2 ∙ ap held e) in
      record {
        bytes = m.bytes;
        given = m.given;
        count = m.count;
        finds = record {
          used = raw;
          line = raw;
          whole = behind m.bytes ∙ (sym (append_nil raw) ∙ ap (λ (xs : List ℕ). raw ++ xs) (sym m.moved.1));
          some = some_length raw some_raw;
          is_line = λ more e. last_is raw more free_raw some_raw (e refl);
          last = λ e. m.moved.1;
          kept_is = is ∙ (ap (λ (xs : List ℕ). kept (line_of false xs)) m.moved.2 ∙ kept_held false raw);
        };
        end = λ o e. end;
        unspent = λ o e. less;
      }

  -- the end of the input
  pub reads_end : (c b : List ℕ) (t : ℕ) (now : S) → Moves src chunk begun taken was false c b t now → (IsTrue (src.tells now) → src.left now ≡ []) → t < 4294967296 → b ≡ [] → Reads src (state_of begun chunk line taken false) was (Ok End) (state_of b c line t true) now
  reads_end c b t now m end less none = record {
    bytes = m.bytes;
    given = m.given;
    count = m.count;
    finds = record {
      none = behind m.bytes ∙ held_none (begun ++ (chunk ++ m.bytes)) (sym m.moved.2 ∙ none);
      ahead = ap (λ (xs : List ℕ). xs ++ c) none ∙ m.moved.1;
      line = refl;
      ended = refl;
    };
    end = λ o e. end;
    unspent = λ o e. less;
  }

  -- no line has ended
  pub holds_line : (c b : List ℕ) (t : ℕ) (now : S) → IsFree begun → (m : Moves src chunk begun taken was false c b t now) → HoldsLine ((begun ++ chunk) ++ m.bytes) (state_of begun chunk line taken false) (state_of b c line t false)
  holds_line c b t now free m = record {
    free = subst (λ (xs : List ℕ). IsFree xs) (sym (behind m.bytes)) (free_append begun (chunk ++ m.bytes) free m.moved.0);
    ahead = ap (λ (xs : List ℕ). b ++ xs) m.moved.1 ∙ (append_nil b ∙ (m.moved.2 ∙ ap held (sym (behind m.bytes))));
    line = refl;
    open_still = refl;
  }

  pub reads_none : (c b : List ℕ) (t : ℕ) (now : S) (e : Stopped) → IsFree begun → Moves src chunk begun taken was false c b t now → (e ≡ Spent → t ≡ 4294967296) → (e ≡ Failed → t < 4294967296) → Reads src (state_of begun chunk line taken false) was (Err e) (state_of b c line t false) now
  reads_none c b t now Failed free m spent failed = record { bytes = m.bytes; given = m.given; count = m.count; finds = (holds_line c b t now free m, failed refl); end = λ o e. cc; unspent = λ o e. cc }
  reads_none c b t now Spent free m spent failed = record { bytes = m.bytes; given = m.given; count = m.count; finds = (holds_line c b t now free m, spent refl); end = λ o e. cc; unspent = λ o e. cc }

  -- the input has ended before
  pub reads_over : begun ++ chunk ≡ [] → Reads src (state_of begun chunk line taken true) was (Ok End) (state_of begun chunk line taken true) was
  reads_over none = record {
    bytes = [];
    given = gives_none src.tells src.left was;
    count = omega arith;
    finds = record { none = append_nil (begun ++ chunk) ∙ none; ahead = none; line = refl; ended = refl };
    end = λ o e. cc;
    unspent = λ o e. cc;
  }

  -- the same for a state as it stands in the code
  as_it_stands : (old : ReaderState) (ended : Bool) → state_of begun chunk line taken ended ≡ old → ended ≡ false → (P : ReaderState → Bool → Type 0) → P (state_of begun chunk line taken false) false → P old ended
  as_it_stands old ended is not_ended P p = subst (λ (o : ReaderState). P o ended) is (subst (λ (e : Bool). P (state_of begun chunk line taken e) e) (sym not_ended) p)

  pub still_open : (old : ReaderState) (ended : Bool) → state_of begun chunk line taken ended ≡ old → ended ≡ false → old.ended ≡ false
  still_open old ended is not_ended = sym (ap (λ (s : ReaderState). s.ended) is) ∙ not_ended

  pub silent_there : (old : ReaderState) (ended : Bool) → state_of begun chunk line taken ended ≡ old → ended ≡ false → IsFree begun → IsTrue (is_silent old) → IsTrue (list_any is_lf chunk || nat_le 4294967296 taken)
  silent_there old ended is not_ended free silent =
      let there : IsTrue (list_any is_lf (begun ++ chunk) || nat_le 4294967296 taken) = as_it_stands old ended is not_ended (λ o e. IsTrue (is_silent o) → IsTrue (list_any is_lf (begun ++ chunk) || nat_le 4294967296 taken)) (λ t. t) silent in
      subst (λ (b : Bool). IsTrue (b || nat_le 4294967296 taken)) (list_any-append is_lf begun chunk ∙ ap (λ (b : Bool). b || list_any is_lf chunk) free) there

  module _ (old : ReaderState) (ended : Bool) (is : state_of begun chunk line taken ended ≡ old) (not_ended : ended ≡ false) (free : IsFree begun) (c b : List ℕ) (t : ℕ) (now : S) where
    pub finds_line : (lf : Bool) (b' found : List ℕ) → Moves src chunk begun taken was lf c b t now → lf ≡ true → found ≡ kept (line_of true b) → b' ≡ [] → Reads src old was (Ok Line) (state_of b' c found t ended) now
    finds_line lf b' found m lf_is line_is anew =
        as_it_stands old ended is not_ended (λ o e. Reads src o was (Ok Line) (state_of b' c found t e) now)
        (subst (λ (xs : List ℕ). Reads src (state_of begun chunk line taken false) was (Ok Line) (state_of xs c found t false) now) (sym anew)
        (reads_line c b t now found free (subst (λ (x : Bool). Moves src chunk begun taken was x c b t now) lf_is m) line_is))

    pub finds_last : (lf : Bool) (b' found : List ℕ) → Moves src chunk begun taken was lf c b t now → lf ≡ false → (IsTrue (src.tells now) → src.left now ≡ []) → t < 4294967296 → b ≢ [] → found ≡ kept (line_of false b) → b' ≡ [] → Reads src old was (Ok Line) (state_of b' c found t true) now
    finds_last lf b' found m lf_is end less some line_is anew =
        as_it_stands old ended is not_ended (λ o e. Reads src o was (Ok Line) (state_of b' c found t true) now)
        (subst (λ (xs : List ℕ). Reads src (state_of begun chunk line taken false) was (Ok Line) (state_of xs c found t true) now) (sym anew)
        (reads_last c b t now found free (subst (λ (x : Bool). Moves src chunk begun taken was x c b t now) lf_is m) end less some line_is))

    pub finds_end : (lf : Bool) → Moves src chunk begun taken was lf c b t now → lf ≡ false → (IsTrue (src.tells now) → src.left now ≡ []) → t < 4294967296 → b ≡ [] → Reads src old was (Ok End) (state_of b c line t true) now
    finds_end lf m lf_is end less empty =
        as_it_stands old ended is not_ended (λ o e. Reads src o was (Ok End) (state_of b c line t true) now)
        (reads_end c b t now (subst (λ (x : Bool). Moves src chunk begun taken was x c b t now) lf_is m) end less empty)

    pub finds_none : (e : Stopped) → Moves src chunk begun taken was false c b t now → (e ≡ Spent → t ≡ 4294967296) → (e ≡ Failed → t < 4294967296) → Reads src old was (Err e) (state_of b c line t ended) now
    finds_none e m spent failed =
        as_it_stands old ended is not_ended (λ o x. Reads src o was (Err e) (state_of b c line t x) now)
        (reads_none c b t now e free m spent failed)

    -- what is held of the line has no LF
    pub sound_held : (lf : Bool) → Moves src chunk begun taken was lf c b t now → lf ≡ false → t ≤ 4294967296 → IsSound b c t ended
    sound_held lf m lf_is most =
        let all = subst (λ (x : Bool). Moves src chunk begun taken was x c b t now) lf_is m in
        record {
          most = most;
          free = subst (λ (xs : List ℕ). IsFree xs) (sym all.moved.2) (free_take 65538 (begun ++ (chunk ++ all.bytes)) (free_append begun (chunk ++ all.bytes) free all.moved.0));
          over = λ e. let never : true ≡ false = sym e ∙ not_ended in cc;
        }

pub sound_anew : (b c : List ℕ) (t : ℕ) (ended : Bool) → b ≡ [] → t ≤ 4294967296 → (ended ≡ true → c ≡ []) → IsSound b c t ended
sound_anew b c t ended anew most over = record { most = most; free = ap (list_any is_lf) anew; over = λ e. ap (λ (xs : List ℕ). xs ++ c) anew ∙ over e }

-- where the input has ended, all that was at hand is used
pub used_up : {S : Type 0} (src : SourceOf S) (chunk begun : List ℕ) (taken : ℕ) (was : S) (lf : Bool) (c b : List ℕ) (t : ℕ) (now : S) → Moves src chunk begun taken was lf c b t now → lf ≡ false → c ≡ []
used_up src chunk begun taken was lf c b t now m lf_is = (subst (λ (x : Bool). Moves src chunk begun taken was x c b t now) lf_is m).moved.1

pub none_of : (xs : List ℕ) → (length xs == 0) ≡ true → xs ≡ []
none_of [] e = refl
none_of (x ∷ xs) e = let zero_is = eqb-true (length (x ∷ xs)) 0 e in absurd (omega (arith, zero_is))

pub some_of : (xs : List ℕ) → (length xs == 0) ≡ false → xs ≢ []
some_of xs e is = let no : (length xs == 0) ≡ true = ap (λ (ys : List ℕ). length ys == 0) is in cc

-- an input that has ended before has no lines
pub over_follow : (old : ReaderState) (left : List ℕ) → old.ended ≡ true → old.ahead ≡ [] → lines_of (all_of old left) ≡ []
over_follow old left e none = ap (λ (b : Bool). lines_of (old.ahead ++ (if b then [] else left))) e ∙ (ap (λ (xs : List ℕ). lines_of (xs ++ [])) none ∙ lines_none)

-- what the lines are where the source tells what is left
module _ {S : Type 0} (src : SourceOf S) (old : ReaderState) (was : S) (new : ReaderState) (now : S) where
  -- all that is left was at hand, was taken, or is left still
  all_taken : (result : Result Next Stopped) (r : Reads src old was result new now) → old.ended ≡ false → IsTrue (src.tells now) → all_of old (src.left was) ≡ (old.ahead ++ r.bytes) ++ src.left now
  all_taken result r goes_on told =
      ap (λ (b : Bool). old.ahead ++ (if b then [] else src.left was)) goes_on
      ∙ (ap (λ (xs : List ℕ). old.ahead ++ xs) (r.given.gave told) ∙ sym (append_assoc old.ahead r.bytes (src.left now)))

  -- what is left now is what is to come
  to_come : (b : Bool) → new.ended ≡ b → (new.ended ≡ true → src.left now ≡ []) → src.left now ≡ (if new.ended then [] else src.left now)
  to_come true e end = end e ∙ sym (ap (λ (b : Bool). if b then [] else src.left now) e)
  to_come false e end = sym (ap (λ (b : Bool). if b then [] else src.left now) e)

  nothing_more : (new.ended ≡ true → new.ahead ≡ []) → new.ended ≡ true → all_of new (src.left now) ≡ []
  nothing_more last e = ap (λ (b : Bool). new.ahead ++ (if b then [] else src.left now)) e ∙ (append_nil new.ahead ∙ last e)

  held_follow : (result : Result Next Stopped) (r : Reads src old was result new now) → old.ended ≡ false → IsTrue (src.tells now) → HoldsLine (old.ahead ++ r.bytes) old new → kept_lines (lines_of (all_of new (src.left now))) ≡ kept_lines (lines_of (all_of old (src.left was)))
  held_follow result r goes_on told h =
      let left = src.left now in
      ap (λ (b : Bool). kept_lines (lines_of (new.ahead ++ (if b then [] else left)))) h.open_still
      ∙ (ap (λ (xs : List ℕ). kept_lines (lines_of (xs ++ left))) h.ahead
      ∙ (held_lines (old.ahead ++ r.bytes) left h.free
      ∙ ap (λ (xs : List ℕ). kept_lines (lines_of xs)) (sym (all_taken result r goes_on told))))

  pub lines_follow : (result : Result Next Stopped) → Reads src old was result new now → old.ended ≡ false → IsTrue (src.tells now) → LinesFollow result (lines_of (all_of old (src.left was))) new.line (lines_of (all_of new (src.left now)))
  lines_follow (Ok Line) r goes_on told =
      let f = r.finds in
      let left = src.left now in
      let whole : all_of old (src.left was) ≡ f.used ++ all_of new left
      = all_taken (Ok Line) r goes_on told
      ∙ (ap (λ (xs : List ℕ). xs ++ left) f.whole
      ∙ (append_assoc f.used new.ahead left
      ∙ ap (λ (xs : List ℕ). f.used ++ (new.ahead ++ xs)) (to_come new.ended refl (λ e. r.end goes_on e told)))) in
      (f.line, f.kept_is, ap lines_of whole ∙ f.is_line (all_of new left) (nothing_more f.last))
  lines_follow (Ok End) r goes_on told =
      let left = src.left now in (
        ap lines_of (all_taken (Ok End) r goes_on told ∙ (ap (λ (xs : List ℕ). xs ++ left) r.finds.none ∙ r.end goes_on r.finds.ended told)) ∙ lines_none,
        ap lines_of (nothing_more (λ e. r.finds.ahead) r.finds.ended) ∙ lines_none,
      )
  lines_follow (Err Failed) r goes_on told = held_follow (Err Failed) r goes_on told r.finds.0
  lines_follow (Err Spent) r goes_on told = held_follow (Err Spent) r goes_on told r.finds.0
