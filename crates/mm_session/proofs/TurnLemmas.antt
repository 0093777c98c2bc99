-- A turn of a session.
use Rattle.std.proofs.Common.{◌≡◌, ◌+◌, ◌<◌, ◌≤◌, ℕ, Bool, true, false, List, [], ◌∷◌, ◌++◌, length, refl, sym, ◌∙◌, ap, subst, arith, append_assoc, slice_index_or}
use Rattle.std.proofs.Math.Seq.{get_or-append_seam}
use Rattle.std.proofs.lemmas.Bool.Decides.{nat_tests}
use Rattle.std.proofs.lemmas.List.{length-append}
use Rattle.mm_base.specs.declared.files.Files.{Ghosts as FilesOf}
use Rattle.mm_base.specs.declared.sink.Sink.{Ghosts as SinkOf}
use Rattle.mm_base.specs.declared.source.Source.{Ghosts as SourceOf}
use Rattle.mm_base.specs.Sink.{Gains}
use Rattle.mm_lines.specs.declared.next.Stopped.TheVariants.{Failed, Spent}
use Rattle.mm_session.specs.declared.commands.Commands.{Commands}
use Rattle.mm_session.specs.declared.run.Run.{Run}
use Rattle.mm_session.specs.declared.turn.Turn.{Turn}
use Rattle.mm_session.specs.declared.turn.Turn.TheVariants.{GoesOn, Ended}
use Rattle.mm_shell.specs.declared.state.State.{State}
use Rattle.mm_lines.specs.Lines.{lines_of}
use Rattle.mm_session.specs.Output.{SaysLess}
use Rattle.mm_session.specs.Logs.{Says, Closes}
use Rattle.mm_session.proofs.HearingLemmas.{hears_logs, hears_to_end}
use Rattle.mm_session.specs.declared.session.SessionEnd.{SessionEnd}
use Rattle.mm_session.specs.Hearing.{RecorderOf, Recording, Hears}
use Rattle.mm_shell.specs.Changes.{new_state}
use Rattle.mm_session.specs.Session.{prompt}
use Rattle.mm_session.specs.Coming.{Came, ComesNext, ComesToEnd, ComesToStop, line_in, no_line, to_come}
use Rattle.mm_session.specs.Taken.{Takes, wants_more, ends_by_command}
use Rattle.mm_session.specs.Headline.{KeepsLogs, end_status}
use Rattle.mm_session.specs.Turns.{Stands, SaysAll, Logged, Turns, Prompted, HasNext, Answers, AnswerEnds, Unechoed, Untold, GivenUp, Exits, Finishes, Finished, Unwritten, Written, ended_run}
use Rattle.mm_shell.specs.Sound.{IsSound}
use Rattle.mm_session.specs.Course.{script_of}
use Rattle.mm_session.proofs.SoundLemmas.{session_is_sound}
use Rattle.mm_session.proofs.HeadlineLemmas.{nothing_run, not_begun, cut_at_prompt, input_failed, input_spent, finishes}
use Rattle.mm_session.proofs.TakenLemmas.{came_none, count_taken, takes_none, takes_run, takes_cut, takes_all, takes_stopped}

module _ {F S K R : Type 0} (fs : FilesOf F) (src : SourceOf S) (sk : SinkOf K) (rc : RecorderOf R) (words : List (List ℕ)) (begun : F) (was : S) (opened : K) (from : Recording R) (c : Commands) (run : Run) (files : F) (input : S) (screen : K) (to : Recording R) (st : Stands fs src sk rc words begun was opened from c run files input screen to) where
  -- the screen fails at the prompt
  pub turn_cut : (screen' : K) (to' : Recording R) → SaysLess sk.tells sk.held rc screen to screen' to' [] (prompt run.state) → SaysAll fs src sk rc words begun was opened from (ended_run 4 run) files input screen' to'
  turn_cut screen' to' part =
      let commands = st.met ++ to_come words c (src.left input) in
      let l : Logged fs sk rc commands (length words + length (lines_of st.came.used)) begun opened from (ended_run 4 run) files screen' to' =
      cut_at_prompt fs sk rc commands _ begun opened from run files screen screen' to to' (st.reached (to_come words c (src.left input))) st.open_still part in
      record {
        session_is = record {
          commands = commands;
          used = st.came.used;
          runs = l.runs;
          takes = takes_cut src words was st.met c input st.came run.lines _ (omega (arith, st.lines)) (omega (arith, st.lines));
        };
        events = l.events;
        said_is = l.said_is;
        shows = l.shows;
      }

  prompted : (later : List (List ℕ)) (screen' : K) (to' : Recording R) → Gains sk.tells sk.held screen screen' (prompt run.state) → Hears rc to to' (Says (prompt run.state) ∷ []) → Prompted fs sk rc (st.met ++ later) begun opened from run files screen' to'
  prompted later screen' to' gains heard = record { before = screen; heard_before = to; reached = st.reached later; prompted = gains; heard = heard }

  -- the input fails
  pub turn_failed : (new : Commands) (input' : S) (screen' : K) (to' : Recording R) → Gains sk.tells sk.held screen screen' (prompt run.state) → Hears rc to to' (Says (prompt run.state) ∷ []) → ComesToStop src words was st.came.lines Failed c input new input' →
      SaysAll fs src sk rc words begun was opened from (ended_run 3 run) files input' screen' to'
  turn_failed new input' screen' to' gains heard stop =
      let later = to_come words c (src.left input) in
      let l : Logged fs sk rc (st.met ++ later) (length words + length (lines_of stop.used)) begun opened from (ended_run 3 run) files screen' to' =
      input_failed fs sk rc (st.met ++ later) _ begun opened from run files screen' to' (prompted later screen' to' gains heard) st.open_still in
      record {
        session_is = record {
          commands = st.met ++ later;
          used = stop.used;
          runs = l.runs;
          takes = takes_stopped src words was st.met c input st.came new input' Failed stop run.lines 3 _ st.lines refl refl (λ e. absurd (omega (arith, e))) (λ e. refl);
        };
        events = l.events;
        said_is = l.said_is;
        shows = l.shows;
      }

  -- too much of it was taken
  pub turn_spent : (new : Commands) (input' : S) (screen' : K) (to' : Recording R) → Gains sk.tells sk.held screen screen' (prompt run.state) → Hears rc to to' (Says (prompt run.state) ∷ []) → ComesToStop src words was st.came.lines Spent c input new input' →
      SaysAll fs src sk rc words begun was opened from (ended_run 7 run) files input' screen' to'
  turn_spent new input' screen' to' gains heard stop =
      let later = to_come words c (src.left input) in
      let l : Logged fs sk rc (st.met ++ later) (length words + length (lines_of stop.used)) begun opened from (ended_run 7 run) files screen' to' =
      input_spent fs sk rc (st.met ++ later) _ begun opened from run files screen' to' (prompted later screen' to' gains heard) st.open_still in
      record {
        session_is = record {
          commands = st.met ++ later;
          used = stop.used;
          runs = l.runs;
          takes = takes_stopped src words was st.met c input st.came new input' Spent stop run.lines 7 _ st.lines refl refl (λ e. refl) (λ e. let never : false ≡ true = e in absurd (cc));
        };
        events = l.events;
        said_is = l.said_is;
        shows = l.shows;
      }

  not_by_command : (status : ℕ) (exited : Bool) → status ≤ 4 → (status < 2 → exited ≡ false) → ends_by_command status exited ≡ false
  not_by_command status true le low = grind (arith, nat_tests, low)
  not_by_command status false le low = grind (arith, nat_tests)

  finished_low : (screen' screen'' : K) (to' to'' : Recording R) (status : ℕ) → Finished sk rc run.refused screen' to' status screen'' to'' → status ≤ 4
  finished_low screen' screen'' to' to'' status (Unwritten e part) = omega (arith, e)
  finished_low screen' screen'' to' to'' status (Written e gains heard) = low run.refused e
    where
      low : (b : Bool) → status ≡ end_status b → status ≤ 4
      low true e = omega (arith, e)
      low false e = omega (arith, e)

  -- the input has ended
  pub turn_ends : (new : Commands) (input' : S) (screen' screen'' : K) (to' to'' : Recording R) (result : Turn) → Gains sk.tells sk.held screen screen' (prompt run.state) → Hears rc to to' (Says (prompt run.state) ∷ []) →
      ComesToEnd src words was st.came.lines c new input' → Finishes sk rc run.refused screen' to' result screen'' to'' → Turns fs src sk rc words begun was opened from c result new run files input' screen'' to''
  turn_ends new input' screen' screen'' to' to'' GoesOn gains heard end f = absurd f
  turn_ends new input' screen' screen'' to' to'' (Ended status) gains heard end f =
      let le = finished_low screen' screen'' to' to'' status f in
      let all : run.lines ≡ length (st.met ++ []) = omega (arith, st.lines, length-append st.met []) in
      let ended = finishes fs sk rc (st.met ++ []) (length words + length (lines_of end.used)) begun opened from run files screen' screen'' to' to'' status (prompted [] screen' to' gains heard) all st.open_still f in
      record {
        session_is = record {
          commands = st.met ++ [];
          used = end.used;
          runs = ended.logged.runs;
          takes = takes_all src words was st.met c input st.came new input' end run.lines status _ st.lines
              (not_by_command status _ le (λ lt. ap (λ s. s.ended) (ended.state lt) ∙ st.open_still)) (λ e. absurd (omega (arith, e, le)));
        };
        events = ended.logged.events;
        said_is = ended.logged.said_is;
        shows = ended.logged.shows;
      }

  seam : (met later : List (List ℕ)) (whole : List ℕ) (n : ℕ) → n ≡ length met → slice_index_or ((met ++ whole ∷ []) ++ later) n [] ≡ whole
  seam met later whole n is =
      ap (λ (xs : List (List ℕ)). slice_index_or xs n []) (append_assoc met (whole ∷ []) later)
      ∙ (ap (λ (k : ℕ). slice_index_or (met ++ whole ∷ later) k []) is ∙ get_or-append_seam met whole later [])

  module _ (new : Commands) (input' : S) (screen' : K) (to' : Recording R) (gains : Gains sk.tells sk.held screen screen' (prompt run.state)) (heard : Hears rc to to' (Says (prompt run.state) ∷ [])) (n : ComesNext src c input new input') where
    abbrev met' : List (List ℕ)
    met' = st.met ++ n.whole ∷ []

    length_more : length met' ≡ run.lines + 1
    length_more = omega (arith, st.lines, length-append st.met (n.whole ∷ []))

    prompted_next : (later : List (List ℕ)) → Prompted fs sk rc (met' ++ later) begun opened from run files screen' to'
    prompted_next later =
        subst (λ (cs : List (List ℕ)). Prompted fs sk rc cs begun opened from run files screen' to') (sym (append_assoc st.met (n.whole ∷ []) later)) (prompted (n.whole ∷ later) screen' to' gains heard)

    abbrev came' : Came src words was met' new input'
    came' = n.came words was st.met st.came

    -- how many commands were taken
    abbrev taken' : ℕ
    taken' = length words + length (lines_of came'.used)

    next_is : (later : List (List ℕ)) → HasNext (met' ++ later) taken' run (line_in new) n.whole
    next_is later = record {
      is_line = n.is_line;
      at = seam st.met later n.whole run.lines st.lines;
      more = omega (arith, length_more, count_taken src words was met' new input' came');
      open_still = st.open_still;
    }

    -- what EXIT and the 65th command given up have in common
    no_more : (status : ℕ) (exited : Bool) → status ≤ 6 → (status ≡ 3 → ⊥) → (status < 2 → exited ≡ true) → wants_more status exited ≡ false
    no_more status true le three low = grind (arith, nat_tests, three)
    no_more status false le three low = grind (arith, nat_tests, three, low)

    takes_answered : (old' : Run) (status : ℕ) (exited : Bool) → AnswerEnds status run old' → (status < 2 → exited ≡ old'.state.ended) →
        Takes src words was input' (met' ++ to_come words new (src.left input')) came'.used old'.lines status exited
    takes_answered run' status exited (Unechoed e same) state =
        let lines : run'.lines ≡ run.lines = ap (λ (r : Run). r.lines) same in
        subst (λ (k : ℕ). Takes src words was input' (met' ++ to_come words new (src.left input')) came'.used run'.lines k exited) (sym e)
        (takes_cut src words was met' new input' came' run'.lines exited (omega (arith, lines, length_more)) (omega (arith, lines, length_more)))
    takes_answered run' status exited (Untold e lines) state =
        subst (λ (k : ℕ). Takes src words was input' (met' ++ to_come words new (src.left input')) came'.used run'.lines k exited) (sym e)
        (takes_cut src words was met' new input' came' run'.lines exited (omega (arith, lines, length_more)) (omega (arith, lines, length_more)))
    takes_answered run' status exited (GivenUp low high lines) state =
        takes_run src words was met' new input' came' run'.lines status exited (omega (arith, lines, length_more))
        (no_more status exited high (λ e. omega (arith, e, low)) (λ lt. absurd (omega (arith, lt, low)))) (λ e. absurd (omega (arith, e, high)))
    takes_answered run' status exited (Exits is over lines) state =
        let lt : status < 2 = low run'.refused is in
        takes_run src words was met' new input' came' run'.lines status exited (omega (arith, lines, length_more))
        (no_more status exited (omega (arith, lt)) (λ e. omega (arith, e, lt)) (λ x. state x ∙ over)) (λ e. absurd (omega (arith, e, lt)))
      where
        low : (b : Bool) → status ≡ end_status b → status < 2
        low true e = omega (arith, e)
        low false e = omega (arith, e)

    -- the next command is answered
    pub turn_answers : (run' : Run) (files' : F) (screen'' : K) (to'' : Recording R) (result : Turn) (line : List ℕ) → line ≡ line_in new →
        ((commands : List (List ℕ)) (taken : ℕ) (whole : List ℕ) → Prompted fs sk rc commands begun opened from run files screen' to' → HasNext commands taken run line whole → Answers fs sk rc commands taken begun opened from run result run' files' screen'' to'') →
        Turns fs src sk rc words begun was opened from c result new run' files' input' screen'' to''
    turn_answers run' files' screen'' to'' GoesOn line is answers =
        let at = λ (later : List (List ℕ)). answers (met' ++ later) taken' n.whole (prompted_next later) (subst (λ (l : List ℕ). HasNext (met' ++ later) taken' run l n.whole) (sym is) (next_is later)) in (
          record {
            met = met';
            came = came';
            reached = λ later. (at later).reached;
            lines = (at []).one_more ∙ sym length_more;
            open_still = (at []).open_still;
          },
          n.nearer words was st.met st.came,
        )
    turn_answers run' files' screen'' to'' (Ended status) line is answers =
        let later = to_come words new (src.left input') in
        let a = answers (met' ++ later) taken' n.whole (prompted_next later) (subst (λ (l : List ℕ). HasNext (met' ++ later) taken' run l n.whole) (sym is) (next_is later)) in
        record {
          session_is = record {
            commands = met' ++ later;
            used = came'.used;
            runs = a.1.logged.runs;
            takes = takes_answered run' status _ a.0 (λ lt. ap (λ s. s.ended) (a.1.state lt));
          };
          events = a.1.logged.events;
          said_is = a.1.logged.said_is;
          shows = a.1.logged.shows;
        }

module _ {F S K R : Type 0} (fs : FilesOf F) (src : SourceOf S) (sk : SinkOf K) (rc : RecorderOf R) (words : List (List ℕ)) (begun : F) (was : S) (opened : K) (from : Recording R) (run : Run) (state : run.state ≡ new_state) (lines : run.lines ≡ 0) (refused : run.refused ≡ false) (starved : run.starved.items ≡ []) (faulted : run.faulted.items ≡ []) where
  -- a session begins
  pub session_begins : (c : Commands) → c.words.now ≡ words → c.next ≡ 0 → c.reader ≡ no_line → Stands fs src sk rc words begun was opened from c run begun was opened from
  session_begins c is_words is_next is_reader = record {
    met = [];
    came = came_none src words was c is_words is_next is_reader;
    reached = λ later. nothing_run fs sk rc ([] ++ later) 0 begun opened from run state lines refused starved faulted;
    lines = lines;
    open_still = ap (λ (s : State). s.ended) state;
  }

  -- there is no memory to begin with
  pub session_starves : SaysAll fs src sk rc words begun was opened from (ended_run 5 run) begun was opened from
  session_starves =
      let commands = words ++ lines_of (src.left was) in
      let l : Logged fs sk rc commands (length words + length (lines_of [])) begun opened from (ended_run 5 run) begun opened from = not_begun fs sk rc commands _ begun opened from run state lines refused starved faulted in
      record {
        session_is = record { commands = commands; used = []; runs = l.runs; takes = takes_none src words was run.lines _ lines };
        events = l.events;
        said_is = l.said_is;
        shows = l.shows;
      }

-- a session stands in a sound state
pub stands_sound : {F S K R : Type 0} (fs : FilesOf F) (src : SourceOf S) (sk : SinkOf K) (rc : RecorderOf R) (words : List (List ℕ)) (begun : F) (was : S) (opened : K) (from : Recording R) (c : Commands) (run : Run) (files : F) (input : S) (screen : K) (to : Recording R) →
    Stands fs src sk rc words begun was opened from c run files input screen to → IsSound run.state
stands_sound fs src sk rc words begun was opened from c run files input screen to st =
    let r = st.reached [] in
    subst IsSound (sym r.follows.state_is) (session_is_sound (script_of (st.met ++ []) r.maps run) run.lines)

-- a session has ended, and an open log is closed
pub keeps_logs : {F S K R : Type 0} (fs : FilesOf F) (src : SourceOf S) (sk : SinkOf K) (rc : RecorderOf R) (words : List (List ℕ)) (begun : F) (was : S) (opened : K) (from : Recording R) (end : SessionEnd) (files : F) (input : S) (screen : K) (to to' : Recording R) →
    from.begun ≡ false → SaysAll fs src sk rc words begun was opened from end files input screen to → Hears rc to to' (Closes ∷ []) → KeepsLogs fs src sk rc words begun was opened from end files input screen to'
keeps_logs fs src sk rc words begun was opened from end files input screen to to' closed says closing = record {
  session_is = says.session_is;
  events = says.events;
  said_is = says.said_is;
  gained = says.shows.gained;
  heard = hears_to_end rc from to to' says.events closed says.shows.heard closing;
}

-- the same, where none was open to the end
pub keeps_none : {F S K R : Type 0} (fs : FilesOf F) (src : SourceOf S) (sk : SinkOf K) (rc : RecorderOf R) (words : List (List ℕ)) (begun : F) (was : S) (opened : K) (from : Recording R) (end : SessionEnd) (files : F) (input : S) (screen : K) (to : Recording R) →
    from.begun ≡ false → SaysAll fs src sk rc words begun was opened from end files input screen to → KeepsLogs fs src sk rc words begun was opened from end files input screen to
keeps_none fs src sk rc words begun was opened from end files input screen to closed says = record {
  session_is = says.session_is;
  events = says.events;
  said_is = says.said_is;
  gained = says.shows.gained;
  heard = hears_logs rc from to says.events closed says.shows.heard;
}
