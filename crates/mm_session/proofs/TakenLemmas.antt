-- What has been taken of the input at each end of a session.
use Rattle.std.proofs.Common.{◌≡◌, ◌+◌, ◌<◌, ◌≤◌, ◌==◌, ◌||◌, ℕ, zero, suc, Bool, true, false, IsTrue, List, [], ◌∷◌, ◌++◌, length, take, drop, refl, sym, ◌∙◌, ap, subst, arith, inl, inr, if◌then◌else◌}
use Rattle.std.proofs.lemmas.Bool.{cases_lt}
use Rattle.std.proofs.lemmas.List.{length-append}
use Rattle.mm_base.specs.declared.source.Source.{Ghosts as SourceOf}
use Rattle.mm_base.specs.Source.{Gives}
use Rattle.mm_lines.specs.declared.next.Stopped.{Stopped}
use Rattle.mm_lines.specs.declared.next.Stopped.TheVariants.{Failed, Spent}
use Rattle.mm_lines.specs.Lines.{lines_of}
use Rattle.mm_lines.specs.Parts.{IsFree}
use Rattle.mm_lines.specs.Reader.{all_of}
use Rattle.mm_lines.proofs.LineLemmas.{lines_none}
use Rattle.mm_base.proofs.SourceLemmas.{gives_none}
use Rattle.mm_lines.specs.Run.{HasRead}
use Rattle.mm_lines.specs.State.{ReaderState}
use Rattle.mm_lines.proofs.RunLemmas.{run_begins, run_lines, run_told}
use Rattle.mm_session.specs.declared.commands.Commands.{Commands}
use Rattle.mm_session.specs.Coming.{Came, ComesToEnd, ComesToStop, no_line, to_come}
use Rattle.mm_session.specs.Taken.{Takes, has_run_out, wants_more, ends_by_command}

-- the words that have come and the lines, and then what is to come, are the words and the lines and then what is to come of them
join : (n : ℕ) (ws lines later : List (List ℕ)) → (n < length ws → lines ≡ []) → n ≤ length ws → (take n ws ++ lines) ++ (drop n ws ++ later) ≡ ws ++ (lines ++ later)
join zero [] lines later waits le = refl
join zero (w ∷ ws) lines later waits le =
    let none : lines ≡ [] = waits (omega arith) in
    subst (λ (ls : List (List ℕ)). ls ++ ((w ∷ ws) ++ later) ≡ (w ∷ ws) ++ (ls ++ later)) (sym none) refl
join (suc n) [] lines later waits le = absurd (omega (arith, le))
join (suc n) (w ∷ ws) lines later waits le =
    ap (λ (xs : List (List ℕ)). w ∷ xs) (join n ws lines later (λ lt. waits (omega (arith, lt))) (omega (arith, le)))

pub length_taken : (n : ℕ) (ws : List (List ℕ)) → n ≤ length ws → length (take n ws) ≡ n
length_taken zero ws le = refl
length_taken (suc n) [] le = absurd (omega (arith, le))
length_taken (suc n) (w ∷ ws) le = let e = length_taken n ws (omega (arith, le)) in omega (arith, e)

nil_of : (xs : List (List ℕ)) → length xs ≡ 0 → xs ≡ []
nil_of [] e = refl
nil_of (x ∷ xs) e = absurd (omega (arith, e))

drop_all : (n : ℕ) (ws : List (List ℕ)) → n ≡ length ws → drop n ws ≡ []
drop_all zero [] e = refl
drop_all zero (w ∷ ws) e = absurd (omega (arith, e))
drop_all (suc n) [] e = refl
drop_all (suc n) (w ∷ ws) e = drop_all n ws (omega (arith, e))

pub append_none : (xs : List (List ℕ)) → xs ++ [] ≡ xs
append_none [] = refl
append_none (x ∷ xs) = ap (λ (ys : List (List ℕ)). x ∷ ys) (append_none xs)

-- a test that holds is not one of those that don't
not_both : {P : Type 0} (b : Bool) → b ≡ false → b ≡ true → P
not_both b f t = let never : true ≡ false = sym t ∙ f in absurd (cc)

or_first : (a b : Bool) → a ≡ true → (a || b) ≡ true
or_first true b e = refl
or_first false b e = let never : false ≡ true = e in absurd (cc)

or_false : (a b : Bool) → a ≡ false → (a || b) ≡ true → b ≡ true
or_false false b f e = e
or_false true b f e = let never : true ≡ false = f in absurd (cc)

or_third : (a b c : Bool) → (a || b) ≡ true → (a || (b || c)) ≡ true
or_third true b c e = refl
or_third false true c e = refl
or_third false false c e = let never : false ≡ true = e in absurd (cc)

module _ {S : Type 0} (src : SourceOf S) (words : List (List ℕ)) (was : S) (met : List (List ℕ)) (c : Commands) (now : S) (came : Came src words was met c now) where
  found_lines : lines_of came.used ≡ came.lines
  found_lines = run_lines src was came.taken came.used came.lines c.reader now came.read

  length_met : length met ≡ c.next + length came.lines
  length_met =
      let e : length met ≡ length (take c.next words ++ came.lines) = ap length came.are_met in
      omega (arith, e, length-append (take c.next words) came.lines, length_taken c.next words came.within)

  -- no line has come while words are to come
  none_yet : length met ≤ length words → came.lines ≡ []
  none_yet le = elim (cases_lt c.next (length words)) [
    | inl lt ↦ came.waits lt
    | inr ge ↦ nil_of came.lines (omega (arith, le, ge, length_met))
  ]

  whole_read : came.taken ≡ came.used ++ c.reader.ahead
  whole_read = came.read.whole

  none_taken : came.lines ≡ [] → came.used ++ c.reader.ahead ≡ []
  none_taken none = sym whole_read ∙ (came.untaken none).0

  -- what has come and is to come, whatever is left of the input
  pub come_all : (left : List ℕ) → met ++ to_come words c left ≡ words ++ (lines_of came.used ++ lines_of (all_of c.reader left))
  come_all left =
      let later = lines_of (all_of c.reader left) in
      ap (λ (xs : List (List ℕ)). xs ++ (drop c.next words ++ later)) came.are_met
      ∙ (join c.next words came.lines later came.waits came.within
      ∙ ap (λ (ls : List (List ℕ)). words ++ (ls ++ later)) (sym found_lines))

  -- where the input tells, it is all that there was
  pub come_told : IsTrue (src.tells now) → met ++ to_come words c (src.left now) ≡ words ++ lines_of (src.left was)
  come_told told =
      let later = lines_of (all_of c.reader (src.left now)) in
      come_all (src.left now)
      ∙ (ap (λ (ls : List (List ℕ)). words ++ (ls ++ later)) found_lines
      ∙ ap (λ (ls : List (List ℕ)). words ++ ls) (sym (run_told src was came.taken came.used came.lines c.reader now came.read told)))

  given_whole : Gives src.tells src.left was now (came.used ++ c.reader.ahead)
  given_whole = subst (λ (xs : List ℕ). Gives src.tells src.left was now xs) whole_read came.read.given

  count_lines : length (lines_of came.used) ≡ length came.lines
  count_lines = ap length found_lines

  -- the commands that have come were run, or all but the last
  takes_by : (run status : ℕ) (exited : Bool) → run ≤ length met → length met ≤ run + 1 → (ends_by_command status exited ≡ true → run ≡ length met) → wants_more status exited ≡ false → (status ≡ 7 → wants_more status exited ≡ true) →
      Takes src words was now (met ++ to_come words c (src.left now)) came.used run status exited
  takes_by run status exited most least ran no_more at_seven = record {
    rest = c.reader.ahead;
    given = given_whole;
    later = lines_of (all_of c.reader (src.left now));
    are_commands = come_all (src.left now);
    told = come_told;
    found = let w = came.within in omega (arith, most, length_met, count_lines, w);
    words_first = λ lt. none_taken (none_yet (omega (arith, lt, least)));
    no_line_left = λ e. not_both (wants_more status exited) no_more e;
    nothing_left = λ e. not_both (wants_more status exited) no_more (or_first (has_run_out status exited) (status == 3 || status == 7) e);
    little_more = λ e. came.few;
    last_line = λ e lt. elim (cases_lt c.next (length words)) [
      | inl less ↦ (let none : length came.lines ≡ 0 = ap length (came.waits less) in absurd (omega (arith, lt, less, none, length_met, most)))
      | inr ge ↦ (let w = came.within in omega (arith, ran e, length_met, count_lines, ge, w))
    ];
    last_word = λ e le. none_taken (none_yet (omega (arith, le, ran e)));
    spent = λ e. not_both (wants_more status exited) no_more (at_seven e);
    unspent = λ e. not_both (wants_more status exited) no_more (or_third (has_run_out status exited) (status == 3) (status == 7) e);
  }

  -- so many commands were taken, those that have come among them
  pub count_taken : length met ≤ length words + length (lines_of came.used)
  count_taken = let w = came.within in omega (arith, length_met, count_lines, w)

  pub takes_run : (run status : ℕ) (exited : Bool) → run ≡ length met → wants_more status exited ≡ false → (status ≡ 7 → wants_more status exited ≡ true) →
      Takes src words was now (met ++ to_come words c (src.left now)) came.used run status exited
  takes_run run status exited is no_more at_seven = takes_by run status exited (omega (arith, is)) (omega (arith, is)) (λ e. is) no_more at_seven

  pub takes_cut : (run : ℕ) (exited : Bool) → run ≤ length met → length met ≤ run + 1 → Takes src words was now (met ++ to_come words c (src.left now)) came.used run 4 exited
  takes_cut run exited most least = takes_by run 4 exited most least (λ e. let no : false ≡ true = e in absurd (cc)) refl (λ e. absurd (omega (arith, e)))

  module _ (new : Commands) (after : S) where
    -- the input has ended
    pub takes_all : (end : ComesToEnd src words was came.lines c new after) (run status : ℕ) (exited : Bool) → run ≡ length met → ends_by_command status exited ≡ false → (status ≡ 7 → has_run_out status exited ≡ true × (status ≡ 3)) →
        Takes src words was after (met ++ []) end.used run status exited
    takes_all end run status exited is not_by at_seven =
        let found : lines_of end.used ≡ came.lines = run_lines src was end.taken end.used came.lines new.reader after end.read in
        let nothing : new.reader.ahead ≡ [] = end.read.last end.over in
        let count : length (lines_of end.used) ≡ length came.lines = ap length found in
        let all : met ++ [] ≡ words ++ (lines_of end.used ++ []) =
        ap (λ (xs : List (List ℕ)). met ++ (xs ++ [])) (sym (drop_all c.next words end.all))
        ∙ (ap (λ (xs : List (List ℕ)). xs ++ (drop c.next words ++ [])) came.are_met
        ∙ (join c.next words came.lines [] came.waits came.within
        ∙ ap (λ (ls : List (List ℕ)). words ++ (ls ++ [])) (sym found))) in
        let none : all_of new.reader (src.left after) ≡ [] = ended_all new.reader.ended end.over nothing in
        record {
          rest = new.reader.ahead;
          given = subst (λ (xs : List ℕ). Gives src.tells src.left was after xs) end.read.whole end.read.given;
          later = [];
          are_commands = all;
          told = λ told. all ∙ (ap (λ (ls : List (List ℕ)). words ++ (ls ++ [])) found
              ∙ ap (λ (ls : List (List ℕ)). words ++ ls)
              (ap (λ (ls : List (List ℕ)). came.lines ++ ls) (sym lines_none ∙ ap lines_of (sym none))
              ∙ sym (run_told src was end.taken end.used came.lines new.reader after end.read told)));
          found = omega (arith, is, length_met, count, end.all);
          words_first = λ lt. absurd (omega (arith, lt, is, length_met, end.all));
          no_line_left = λ e. (omega (arith, is, length_met, count, end.all), subst IsFree (sym nothing) refl);
          nothing_left = λ e. (nothing, λ told. end.read.end end.over told);
          little_more = λ e. not_both (ends_by_command status exited) not_by e;
          last_line = λ e. not_both (ends_by_command status exited) not_by e;
          last_word = λ e. not_both (ends_by_command status exited) not_by e;
          spent = λ e. absurd (let three = (at_seven e).1 in omega (arith, e, three));
          unspent = λ e. let whole : length end.taken ≡ length (end.used ++ new.reader.ahead) = ap length end.read.whole in omega (arith, whole, end.read.count, end.read.unspent end.over);
        }
      where
        ended_all : (b : Bool) → b ≡ true → new.reader.ahead ≡ [] → new.reader.ahead ++ (if b then [] else src.left after) ≡ []
        ended_all true e nothing = ap (λ (xs : List ℕ). xs ++ []) nothing
        ended_all false e nothing = let never : false ≡ true = e in absurd (cc)

    -- the input has failed, or too much of it was taken
    pub takes_stopped : (why : Stopped) (stop : ComesToStop src words was came.lines why c now new after) (run status : ℕ) (exited : Bool) → run ≡ length met → has_run_out status exited ≡ false → ends_by_command status exited ≡ false → (status ≡ 7 → why ≡ Spent) → ((status == 3) ≡ true → why ≡ Failed) →
        Takes src words was after (met ++ to_come words c (src.left now)) stop.used run status exited
    takes_stopped why stop run status exited is not_out not_by at_seven at_three =
        let stops = stop.stops in
        let found : lines_of stop.used ≡ came.lines = stops.lines_are in
        let count : length (lines_of stop.used) ≡ length came.lines = ap length found in
        record {
          rest = stops.rest;
          given = subst (λ (xs : List ℕ). Gives src.tells src.left was after xs) stops.whole stops.given;
          later = lines_of (all_of c.reader (src.left now));
          are_commands = come_all (src.left now) ∙ ap (λ (ls : List (List ℕ)). words ++ (ls ++ lines_of (all_of c.reader (src.left now)))) (found_lines ∙ sym found);
          told = λ told. come_told (stop.told told);
          found = omega (arith, is, length_met, count, stop.all);
          words_first = λ lt. absurd (omega (arith, lt, is, length_met, stop.all));
          no_line_left = λ e. (omega (arith, is, length_met, count, stop.all), stops.free);
          nothing_left = λ e. not_both (has_run_out status exited) not_out e;
          little_more = λ e. not_both (ends_by_command status exited) not_by e;
          last_line = λ e. not_both (ends_by_command status exited) not_by e;
          last_word = λ e. not_both (ends_by_command status exited) not_by e;
          spent = λ e. ap length (sym stops.whole) ∙ stop.spent (at_seven e);
          unspent = λ e. let whole : length stop.taken ≡ length (stop.used ++ stops.rest) = ap length stops.whole in omega (arith, whole, stop.failed (at_three (or_false (has_run_out status exited) (status == 3) not_out e)));
        }

module _ {S : Type 0} (src : SourceOf S) (words : List (List ℕ)) (was : S) where
  -- nothing has come
  pub came_none : (c : Commands) → c.words.now ≡ words → c.next ≡ 0 → c.reader ≡ no_line → Came src words was [] c was
  came_none c is_words is_next is_reader = record {
    of_words = is_words;
    taken = [];
    used = [];
    lines = [];
    read = subst (λ (r : ReaderState). HasRead src was [] [] [] r was) (sym is_reader) (run_begins src was);
    are_met = sym (ap (λ (n : ℕ). take n words ++ []) is_next);
    within = omega (arith, is_next);
    waits = λ lt. refl;
    untaken = λ none. (refl, is_reader, refl);
    most = let e : c.reader.taken ≡ 0 = ap (λ (r : ReaderState). r.taken) is_reader in omega (arith, e);
    few = let e : length c.reader.ahead ≡ 0 = ap (λ (r : ReaderState). length r.ahead) is_reader in omega (arith, e);
  }

  -- nothing was taken
  pub takes_none : (run : ℕ) (exited : Bool) → run ≡ 0 → Takes src words was was (words ++ lines_of (src.left was)) [] run 5 exited
  takes_none run exited is = record {
    rest = [];
    given = gives_none src.tells src.left was;
    later = lines_of (src.left was);
    are_commands = ap (λ (ls : List (List ℕ)). words ++ (ls ++ lines_of (src.left was))) (sym lines_none);
    told = λ told. refl;
    found = omega (arith, is);
    words_first = λ lt. refl;
    no_line_left = λ e. let never : false ≡ true = e in absurd (cc);
    nothing_left = λ e. let never : false ≡ true = e in absurd (cc);
    little_more = λ e. omega arith;
    last_line = λ e lt. absurd (omega (arith, lt, is));
    last_word = λ e le. refl;
    spent = λ e. absurd (omega (arith, e));
    unspent = λ e. let never : false ≡ true = e in absurd (cc);
  }
