-- What was read, from the first line to the last.
use Rattle.std.proofs.Common.{◌≡◌, ◌+◌, ◌-◌, ◌<◌, ◌≤◌, ℕ, Bool, true, false, IsTrue, List, [], ◌∷◌, ◌++◌, length, refl, sym, ◌∙◌, ap, subst, arith, append_assoc, length-append, Result, Ok, Err, if◌then◌else◌, ◌||◌, nat_le}
use Rattle.std.specs.List.{list_any}
use Rattle.mm_base.specs.declared.source.Source.{Ghosts as SourceOf}
use Rattle.mm_base.proofs.SourceLemmas.{gives_none, gives_then}
use Rattle.mm_lines.specs.declared.next.Next.{Next}
use Rattle.mm_lines.specs.declared.next.Next.TheVariants.{Line, End}
use Rattle.mm_lines.specs.declared.next.Stopped.{Stopped}
use Rattle.mm_lines.specs.declared.next.Stopped.TheVariants.{Failed, Spent}
use Rattle.mm_lines.specs.Limits.{most_taken}
use Rattle.mm_lines.specs.Lines.{lines_of}
use Rattle.mm_lines.specs.Parts.{is_lf, IsFree}
use Rattle.mm_lines.specs.State.{ReaderState}
use Rattle.mm_lines.specs.Reader.{Reads, all_of, is_silent}
use Rattle.mm_lines.specs.Run.{HasRead, HasStopped}
use Rattle.mm_lines.proofs.LineLemmas.{append_nil, lines_none}

-- the value of a new reader
abbrev pub new_reader : ReaderState
new_reader = record { ahead = []; line = []; taken = 0; ended = false }

-- after the end, the answer is the end
abbrev pub AnswersEnd : ReaderState → Result Next Stopped → ReaderState → Type 0
AnswersEnd old result new = old.ended ≡ true → (result ≡ Ok End) × (new ≡ old)

module _ {S : Type 0} (src : SourceOf S) (begun : S) where
  pub run_begins : HasRead src begun [] [] [] new_reader begun
  run_begins = record {
    given = gives_none src.tells src.left begun;
    count = refl;
    whole = refl;
    are_lines = λ more e. refl;
    last = λ e. refl;
    end = λ e. let never : true ≡ false = sym e in cc;
    unspent = λ e. let never : true ≡ false = sym e in cc;
    few = omega arith;
  }

  module _ (taken used : List ℕ) (lines : List (List ℕ)) (old : ReaderState) (was : S) (run : HasRead src begun taken used lines old was) (new : ReaderState) (now : S) where
    -- all that was taken was used up, was at hand, or is taken now
    taken_then : (bytes : List ℕ) → taken ++ bytes ≡ used ++ (old.ahead ++ bytes)
    taken_then bytes = ap (λ (xs : List ℕ). xs ++ bytes) run.whole ∙ append_assoc used old.ahead bytes

    -- one line more
    pub run_goes_on : (r : Reads src old was (Ok Line) new now) → AnswersEnd old (Ok Line) new → HasRead src begun (taken ++ r.bytes) (used ++ r.finds.used) (lines ++ r.finds.line ∷ []) new now
    run_goes_on r over =
        let f = r.finds in
        let still : old.ended ≡ false = not_over old.ended refl over in
        record {
          given = gives_then src.tells src.left begun was now taken r.bytes run.given r.given;
          count = omega (arith, r.count, run.count, length-append taken r.bytes);
          whole = taken_then r.bytes ∙ (ap (λ (xs : List ℕ). used ++ xs) f.whole ∙ sym (append_assoc used f.used new.ahead));
          are_lines = λ more e.
              ap lines_of (append_assoc used f.used more)
              ∙ (run.are_lines (f.used ++ more) (λ o. let never : true ≡ false = sym o ∙ still in cc)
              ∙ (ap (λ (ls : List (List ℕ)). lines ++ ls) (f.is_line more e)
              ∙ sym (append_assoc lines (f.line ∷ []) (lines_of more))));
          last = f.last;
          end = r.end still;
          unspent = r.unspent still;
          few =
              let one : length (lines ++ f.line ∷ []) ≡ length lines + 1 = length-append lines (f.line ∷ []) in
              let whole : length (old.ahead ++ r.bytes) ≡ length (f.used ++ new.ahead) = ap length f.whole in
              omega (arith, one, whole, run.few, r.count, f.some, length-append old.ahead r.bytes, length-append f.used new.ahead);
        }
      where
        not_over : (b : Bool) → old.ended ≡ b → AnswersEnd old (Ok Line) new → old.ended ≡ false
        not_over true e over = let never = (over e).0 in cc
        not_over false e over = e

    -- the end
    pub run_ends : (r : Reads src old was (Ok End) new now) → AnswersEnd old (Ok End) new → (IsTrue (is_silent old) → now ≡ was) → HasRead src begun (taken ++ r.bytes) used lines new now
    run_ends r over silent =
        let all : taken ++ r.bytes ≡ used ++ [] = taken_then r.bytes ∙ ap (λ (xs : List ℕ). used ++ xs) r.finds.none in
        record {
          given = gives_then src.tells src.left begun was now taken r.bytes run.given r.given;
          count = omega (arith, r.count, run.count, length-append taken r.bytes);
          whole = all ∙ ap (λ (xs : List ℕ). used ++ xs) (sym r.finds.ahead);
          are_lines = λ more e. run.are_lines more (λ o. e r.finds.ended);
          last = λ e. r.finds.ahead;
          end = λ e told. left_none old.ended refl told;
          unspent = λ e. less old.ended refl;
          few = let none : length new.ahead ≡ 0 = ap length r.finds.ahead in omega (arith, none, run.few, r.count);
        }
      where
        left_none : (b : Bool) → old.ended ≡ b → IsTrue (src.tells now) → src.left now ≡ []
        left_none true e told =
            let asked_none = silent (subst (λ (b : Bool). IsTrue (b || (list_any is_lf old.ahead || nat_le 4294967296 old.taken))) (sym e) refl) in
            ap src.left asked_none ∙ run.end e (subst (λ (s : S). IsTrue (src.tells s)) asked_none told)
        left_none false e told = r.end e r.finds.ended told

        less : (b : Bool) → old.ended ≡ b → new.taken < most_taken
        less true e = let same = ap (λ (s : ReaderState). s.taken) (over e).1 in omega (arith, same, run.unspent e)
        less false e = r.unspent e r.finds.ended

  module _ (taken used : List ℕ) (lines : List (List ℕ)) (reader : ReaderState) (now : S) (run : HasRead src begun taken used lines reader now) where
    -- the lines are those of all that was used
    pub run_lines : lines_of used ≡ lines
    run_lines = sym (ap lines_of (append_nil used)) ∙ (run.are_lines [] (λ e. refl) ∙ (ap (λ (ls : List (List ℕ)). lines ++ ls) lines_none ∙ nil_lines lines))
      where
        nil_lines : (ls : List (List ℕ)) → ls ++ [] ≡ ls
        nil_lines [] = refl
        nil_lines (l ∷ ls) = ap (λ (t : List (List ℕ)). l ∷ t) (nil_lines ls)

    -- at the end they are those of all that was taken
    pub run_whole : reader.ended ≡ true → lines_of taken ≡ lines
    run_whole e = ap lines_of (run.whole ∙ (ap (λ (xs : List ℕ). used ++ xs) (run.last e) ∙ append_nil used)) ∙ run_lines

    -- where the source tells what is left, the lines are the first ones of all that there was
    pub run_told : IsTrue (src.tells now) → lines_of (src.left begun) ≡ lines ++ lines_of (all_of reader (src.left now))
    run_told told =
        let left = src.left now in
        let whole : src.left begun ≡ used ++ (reader.ahead ++ left)
        = run.given.gave told ∙ (ap (λ (xs : List ℕ). xs ++ left) run.whole ∙ append_assoc used reader.ahead left) in
        ap lines_of (whole ∙ ap (λ (xs : List ℕ). used ++ (reader.ahead ++ xs)) (to_come reader.ended refl told)) ∙ run.are_lines (all_of reader left) nothing_more
      where
        to_come : (b : Bool) → reader.ended ≡ b → IsTrue (src.tells now) → src.left now ≡ (if reader.ended then [] else src.left now)
        to_come true e told = run.end e told ∙ sym (ap (λ (b : Bool). if b then [] else src.left now) e)
        to_come false e told = sym (ap (λ (b : Bool). if b then [] else src.left now) e)

        nothing_more : reader.ended ≡ true → all_of reader (src.left now) ≡ []
        nothing_more e = ap (λ (b : Bool). reader.ahead ++ (if b then [] else src.left now)) e ∙ (append_nil reader.ahead ∙ run.last e)

  module _ (taken used : List ℕ) (lines : List (List ℕ)) (old : ReaderState) (was : S) (run : HasRead src begun taken used lines old was) (new : ReaderState) (now : S) where
    stops_with : (result : Result Next Stopped) (r : Reads src old was result new now) → IsFree (old.ahead ++ r.bytes) → HasStopped src begun (taken ++ r.bytes) used lines new now
    stops_with result r free = record {
      given = gives_then src.tells src.left begun was now taken r.bytes run.given r.given;
      count = omega (arith, r.count, run.count, length-append taken r.bytes);
      lines_are = run_lines taken used lines old was run;
      rest = old.ahead ++ r.bytes;
      whole = ap (λ (xs : List ℕ). xs ++ r.bytes) run.whole ∙ append_assoc used old.ahead r.bytes;
      free = free;
    }

    -- no line more
    pub run_stops : (e : Stopped) (r : Reads src old was (Err e) new now) → HasStopped src begun (taken ++ r.bytes) used lines new now
    run_stops Failed r = stops_with (Err Failed) r r.finds.0.free
    run_stops Spent r = stops_with (Err Spent) r r.finds.0.free

-- each line takes the reader nearer to its end
pub nearer : {S : Type 0} (src : SourceOf S) (old : ReaderState) (was : S) (new : ReaderState) (now : S) (r : Reads src old was (Ok Line) new now) → new.taken ≤ 4294967296 → (4294967296 - new.taken) + length new.ahead < (4294967296 - old.taken) + length old.ahead
nearer src old was new now r most =
    let f = r.finds in
    let whole : length (old.ahead ++ r.bytes) ≡ length (f.used ++ new.ahead) = ap length f.whole in
    omega (arith, most, r.count, f.some, whole, length-append old.ahead r.bytes, length-append f.used new.ahead)
