-- The next command.
use Rattle.std.proofs.Common.{◌≡◌, ◌+◌, ◌<◌, ◌≤◌, ℕ, zero, suc, true, IsTrue, List, [], ◌∷◌, ◌++◌, length, take, refl, sym, ◌∙◌, ap, subst, arith, append_assoc, slice_index_or, Result, Ok, Err, IfOk}
use Rattle.mm_base.specs.declared.source.Source.{Ghosts as SourceOf}
use Rattle.mm_lines.specs.declared.next.Next.{Next}
use Rattle.mm_lines.specs.declared.next.Next.TheVariants.{Line, End}
use Rattle.mm_lines.specs.declared.next.Stopped.{Stopped}
use Rattle.mm_lines.specs.declared.next.Stopped.TheVariants.{Failed, Spent}
use Rattle.mm_lines.specs.Reader.{Reads, is_silent}
use Rattle.mm_lines.specs.State.{ReaderState}
use Rattle.mm_lines.proofs.RunLemmas.{run_goes_on, run_ends, run_stops, nearer}
use Rattle.mm_session.specs.declared.commands.Commands.{Commands}
use Rattle.mm_session.specs.declared.commands.Last.TheVariants as last
use Rattle.mm_session.specs.Coming.{Came, ComesNext, NextIs}
use Rattle.mm_session.proofs.KeptLemmas.{kept_line}
use Rattle.mm_session.proofs.TakenLemmas.{append_none}

-- one word more
take_suc : (n : ℕ) (ws : List (List ℕ)) → n < length ws → take (suc n) ws ≡ take n ws ++ slice_index_or ws n [] ∷ []
take_suc n [] lt = absurd (omega (arith, lt))
take_suc zero (w ∷ ws) lt = refl
take_suc (suc n) (w ∷ ws) lt = ap (λ (xs : List (List ℕ)). w ∷ xs) (take_suc n ws (omega (arith, lt)))

take_more : (n : ℕ) (ws : List (List ℕ)) → n < length ws → take (n + 1) ws ≡ take n ws ++ slice_index_or ws n [] ∷ []
take_more n ws lt = let one : suc n ≡ n + 1 = omega arith in subst (λ (k : ℕ). take k ws ≡ take n ws ++ slice_index_or ws n [] ∷ []) one (take_suc n ws lt)

module _ {S : Type 0} (src : SourceOf S) (c : Commands) (input : S) where
  abbrev with_word : Commands
  with_word = record { words = c.words; next = c.next + 1; last = last.Word c.next; reader = c.reader }

  abbrev with_line : ReaderState → Commands
  with_line reader = record { words = c.words; next = c.next; last = last.Line; reader = reader }

  pub word_next : c.next < length c.words.now → ComesNext src c input with_word input
  word_next lt = record {
    whole = slice_index_or c.words.now c.next [];
    is_line = record { asks = refl; shows = refl };
    came = λ words begun met came. record {
      of_words = came.of_words;
      taken = came.taken;
      used = came.used;
      lines = came.lines;
      read = came.read;
      are_met =
          let none = came.waits (subst (λ (ws : List (List ℕ)). c.next < length ws) came.of_words lt) in
          ap (λ (xs : List (List ℕ)). xs ++ slice_index_or c.words.now c.next [] ∷ []) (came.are_met ∙ (ap (λ (xs : List (List ℕ)). take c.next words ++ xs) none ∙ append_none (take c.next words)))
          ∙ (ap (λ (ws : List (List ℕ)). take c.next words ++ slice_index_or ws c.next [] ∷ []) came.of_words
          ∙ (sym (take_more c.next words (subst (λ (ws : List (List ℕ)). c.next < length ws) came.of_words lt))
          ∙ (sym (append_none (take (c.next + 1) words)) ∙ ap (λ (xs : List (List ℕ)). take (c.next + 1) words ++ xs) (sym none))));
      within = let l : c.next < length words = subst (λ (ws : List (List ℕ)). c.next < length ws) came.of_words lt in omega (arith, l);
      waits = λ l. came.waits (omega (arith, l));
      untaken = came.untaken;
      most = came.most;
      few = came.few;
    };
    nearer = λ words begun met came. omega (arith, lt);
  }

  module _ (reader : ReaderState) (now : S) (le : length c.words.now ≤ c.next) where
    all_words : (words : List (List ℕ)) → c.words.now ≡ words → c.next ≤ length words → c.next ≡ length words
    all_words words is within = let l : length words ≤ c.next = subst (λ (ws : List (List ℕ)). length ws ≤ c.next) is le in omega (arith, l, within)

    one_line : (words : List (List ℕ)) (begun : S) (met : List (List ℕ)) (came : Came src words begun met c input) (r : Reads src c.reader input (Ok Line) reader now) →
        (c.reader.ended ≡ true → ((let x : Result Next Stopped = Ok Line in x) ≡ Ok End) × (reader ≡ c.reader)) → reader.taken ≤ 4294967296 → length reader.ahead ≤ 65536 →
        Came src words begun (met ++ r.finds.line ∷ []) (with_line reader) now
    one_line words begun met came r over most few = record {
      of_words = came.of_words;
      taken = came.taken ++ r.bytes;
      used = came.used ++ r.finds.used;
      lines = came.lines ++ r.finds.line ∷ [];
      read = run_goes_on src begun came.taken came.used came.lines c.reader input came.read reader now r over;
      are_met = ap (λ (xs : List (List ℕ)). xs ++ r.finds.line ∷ []) came.are_met ∙ append_assoc (take c.next words) came.lines (r.finds.line ∷ []);
      within = came.within;
      waits = λ lt. absurd (let all = all_words words came.of_words came.within in omega (arith, lt, all));
      untaken = λ none. absurd (not_none came.lines r.finds.line none);
      most = most;
      few = few;
    }
      where
        not_none : (xs : List (List ℕ)) (x : List ℕ) → xs ++ x ∷ [] ≡ [] → ⊥
        not_none [] x e = cc
        not_none (y ∷ ys) x e = cc

    pub line_next : (result : Result Next Stopped) → Reads src c.reader input result reader now →
        (c.reader.ended ≡ true → (result ≡ Ok End) × (reader ≡ c.reader)) → (IsTrue (is_silent c.reader) → now ≡ input) → reader.taken ≤ 4294967296 → IfOk result (λ _. length reader.ahead ≤ 65536) →
        NextIs src c input result (with_line reader) now
    line_next (Ok Line) r over silent most few = record {
      whole = r.finds.line;
      is_line = kept_line reader.line r.finds.line r.finds.kept_is;
      came = λ words begun met came. one_line words begun met came r over most few;
      nearer = λ words begun met came. let near = nearer src c.reader input reader now r most in let all = le in omega (arith, near, all);
    }
    line_next (Ok End) r over silent most few = λ words begun met came. record {
      taken = came.taken ++ r.bytes;
      used = came.used;
      read = run_ends src begun came.taken came.used came.lines c.reader input came.read reader now r over silent;
      all = all_words words came.of_words came.within;
      over = r.finds.ended;
    }
    line_next (Err Failed) r over silent most few = λ words begun met came. record {
      taken = came.taken ++ r.bytes;
      used = came.used;
      stops = run_stops src begun came.taken came.used came.lines c.reader input came.read reader now Failed r;
      told = r.given.told;
      all = all_words words came.of_words came.within;
      spent = λ e. let never : (let x : Stopped = Failed in x) ≡ Spent = e in cc;
      failed = λ e. let stops = run_stops src begun came.taken came.used came.lines c.reader input came.read reader now Failed r in let less = r.finds.1 in omega (arith, stops.count, less);
    }
    line_next (Err Spent) r over silent most few = λ words begun met came. record {
      taken = came.taken ++ r.bytes;
      used = came.used;
      stops = run_stops src begun came.taken came.used came.lines c.reader input came.read reader now Spent r;
      told = r.given.told;
      all = all_words words came.of_words came.within;
      spent = λ e. let stops = run_stops src begun came.taken came.used came.lines c.reader input came.read reader now Spent r in sym stops.count ∙ r.finds.1;
      failed = λ e. let never : (let x : Stopped = Spent in x) ≡ Failed = e in cc;
    }
