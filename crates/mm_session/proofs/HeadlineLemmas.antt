-- What the screen holds at each end of a session.
use Rattle.std.proofs.Common.{◌≡◌, ◌+◌, ◌<◌, ◌≤◌, ◌==◌, ◌||◌, ℕ, zero, suc, Bool, true, false, List, [], ◌∷◌, ◌++◌, length, refl, sym, ◌∙◌, ap, subst, arith, slice_index_or, append_assoc, length-append, take, nat_lt, ◌≢◌, Result, Ok, Err, OnOk, OnErr, is_err, Contains, lit<, if◌then◌else◌}
use Rattle.std.proofs.lemmas.Bool.{lt-ltb}
use Rattle.std.proofs.Math.Seq.{take-append_seam}
use Rattle.mm_base.specs.declared.files.Files.{Ghosts as FilesOf}
use Rattle.mm_base.specs.declared.sink.Sink.{Ghosts as SinkOf}
use Rattle.mm_base.specs.Sink.{Gains}
use Rattle.mm_base.proofs.SinkLemmas.{append_nil, gains_none, gains_then, gains_stopped}
use Rattle.mm_shell.specs.declared.state.State.{State}
use Rattle.mm_step.specs.declared.reply.Reply.{Reply}
use Rattle.mm_step.specs.Effects.{Fine, outcome, text_of}
use Rattle.mm_session.specs.declared.run.Run.{Run}
use Rattle.mm_session.specs.declared.session.SessionEnd.{SessionEnd}
use Rattle.mm_session.specs.Advance.{IsLine, RunsOn}
use Rattle.mm_session.specs.Calls.{Counted}
use Rattle.mm_step.specs.Asked.{asked_of}
use Rattle.mm_step.specs.Effects.{is_refused}
use Rattle.mm_step.specs.Logs.{LogChange, log_change}
use Rattle.mm_session.specs.Logs.{Event, Says, bytes_of, first_events, before_text, after_text, said, said_by, said_next}
use Rattle.mm_session.specs.Hearing.{RecorderOf, Recording, Hears, Shows}
use Rattle.mm_session.specs.Output.{GainsFirst, SaysLess}
use Rattle.mm_session.proofs.EventLemmas.{bytes_append, first_past, first_within, before_bytes, change_bytes, part_bytes, said_text}
use Rattle.mm_session.proofs.HearingLemmas.{hears_both, hears_silence, shows_by, shows_none, shows_piece, shows_then}
use Rattle.mm_session.proofs.OutputLemmas.{less_of, less_of_one, first_after}
use Rattle.mm_shell.specs.Changes.{new_state}
use Rattle.mm_session.specs.Session.{Script, Machine, Maps, maps_of, session, prompt, echo, shown}
use Rattle.mm_session.specs.Course.{Rise, Follows, script_of}
use Rattle.mm_session.specs.Headline.{Runs, Reached, EndsWhole, EndsAsking, EndsCut, GivesUp, HasSaid, IsCut, said_before, script_by, with_last, starved_by, faulted_by, before_reply, next_text, last_text, end_status}
use Rattle.mm_session.specs.Turns.{ended_run, Logged, Prompted, HasNext, Finished, Unwritten, Written, RunsTo}

pub err_gives : {T E : Type 0} {P : Type 0} (r : Result T E) (b : Bool) → b ≡ true → b ≡ is_err r → OnErr r P → P
err_gives (Ok x) b t e p = let no : false ≡ true = sym e ∙ t in cc
err_gives (Err x) b t e p = p

pub ok_gives : {T E : Type 0} {P : Type 0} (r : Result T E) (b : Bool) → b ≡ false → b ≡ is_err r → OnOk r P → P
ok_gives (Ok x) b f e p = p
ok_gives (Err x) b f e p = let no : true ≡ false = sym e ∙ f in cc

-- what stood before the last reply is no longer than the transcript
before_reply_within : (s : Script) (n : ℕ) → length (before_reply s n) ≤ length (session s n).text
unfolding session
before_reply_within s zero = omega arith
before_reply_within s (suc n) = shorter (session s n).text (prompt (session s n).state ++ echo (slice_index_or s.commands n [])) _
  where
    shorter : (text said more : List ℕ) → length (text ++ said) ≤ length (text ++ (said ++ more))
    shorter text said more = omega (arith, length-append text said, length-append text (said ++ more), length-append said more)

-- what stands on the screen before the reply to the command after n others
before_next : (s s' : Script) (n lines : ℕ) (state : State) (line : List ℕ) → lines ≡ suc n → session s' n ≡ session s n → state ≡ (session s n).state → slice_index_or s'.commands n [] ≡ line →
    before_reply s' lines ≡ (session s n).text ++ (prompt state ++ echo line)
before_next s s' n lines state line one same is at =
    ap (λ (k : ℕ). before_reply s' k) one
    ∙ (ap (λ (m : Machine). m.text ++ (prompt m.state ++ echo (slice_index_or s'.commands n []))) same
    ∙ (ap (λ (t : State). (session s n).text ++ (prompt t ++ echo (slice_index_or s'.commands n []))) (sym is)
    ∙ ap (λ (l : List ℕ). (session s n).text ++ (prompt state ++ echo l)) at))

rise_none : (xs : List ℕ) → xs ≡ [] → Rise 0 0 xs
rise_none xs e = subst (λ (ys : List ℕ). Rise 0 0 ys) (sym e) (omega arith)

-- How a session has ended, on the screen.
record Ending {K : Type 0} (sk : SinkOf K) (s : Script) (taken : ℕ) (opened : K) (end : SessionEnd) (screen : K) : Type 0 where
  which : Contains (0 ∷ 1 ∷ 3 ∷ 4 ∷ 5 ∷ 6 ∷ 7 ∷ []) end.status
  whole : end.status < 2 → EndsWhole sk s opened end screen
  asking : (end.status == 3 || end.status == 7) ≡ true → EndsAsking sk s opened end screen
  cut : end.status ≡ 4 → EndsCut sk s taken opened end screen
  given_up : (end.status == 5 || end.status == 6) ≡ true → GivesUp sk s opened end screen
  starving : end.status ≡ 5 → 0 < end.lines → length end.starved.items ≡ 64
  faulting : end.status ≡ 6 → length end.faulted.items ≡ 64

module _ {K : Type 0} (sk : SinkOf K) (s : Script) (taken : ℕ) (opened : K) (run : Run) (screen : K) where
  ending_cut : EndsCut sk s taken opened (ended_run 4 run) screen → Ending sk s taken opened (ended_run 4 run) screen
  ending_cut cut = record {
    which = (3, lit< tt, refl);
    whole = λ lt. absurd (omega (arith, lt));
    asking = λ e. let no : false ≡ true = e in cc;
    cut = λ e. cut;
    given_up = λ e. let no : false ≡ true = e in cc;
    starving = λ e. absurd (omega (arith, e));
    faulting = λ e. absurd (omega (arith, e));
  }

  ending_failed : EndsAsking sk s opened (ended_run 3 run) screen → Ending sk s taken opened (ended_run 3 run) screen
  ending_failed asks = record {
    which = (2, lit< tt, refl);
    whole = λ lt. absurd (omega (arith, lt));
    asking = λ e. asks;
    cut = λ e. absurd (omega (arith, e));
    given_up = λ e. let no : false ≡ true = e in cc;
    starving = λ e. absurd (omega (arith, e));
    faulting = λ e. absurd (omega (arith, e));
  }

  ending_spent : EndsAsking sk s opened (ended_run 7 run) screen → Ending sk s taken opened (ended_run 7 run) screen
  ending_spent asks = record {
    which = (6, lit< tt, refl);
    whole = λ lt. absurd (omega (arith, lt));
    asking = λ e. asks;
    cut = λ e. absurd (omega (arith, e));
    given_up = λ e. let no : false ≡ true = e in cc;
    starving = λ e. absurd (omega (arith, e));
    faulting = λ e. absurd (omega (arith, e));
  }

  ending_starved : GivesUp sk s opened (ended_run 5 run) screen → (0 < run.lines → length run.starved.items ≡ 64) → Ending sk s taken opened (ended_run 5 run) screen
  ending_starved given_up full = record {
    which = (4, lit< tt, refl);
    whole = λ lt. absurd (omega (arith, lt));
    asking = λ e. let no : false ≡ true = e in cc;
    cut = λ e. absurd (omega (arith, e));
    given_up = λ e. given_up;
    starving = λ e. full;
    faulting = λ e. absurd (omega (arith, e));
  }

  ending_faulted : GivesUp sk s opened (ended_run 6 run) screen → length run.faulted.items ≡ 64 → Ending sk s taken opened (ended_run 6 run) screen
  ending_faulted given_up full = record {
    which = (5, lit< tt, refl);
    whole = λ lt. absurd (omega (arith, lt));
    asking = λ e. let no : false ≡ true = e in cc;
    cut = λ e. absurd (omega (arith, e));
    given_up = λ e. given_up;
    starving = λ e. absurd (omega (arith, e));
    faulting = λ e. full;
  }

  ending_whole : (refused : Bool) → EndsWhole sk s opened (ended_run (end_status refused) run) screen → Ending sk s taken opened (ended_run (end_status refused) run) screen
  ending_whole true whole = record {
    which = (1, lit< tt, refl);
    whole = λ lt. whole;
    asking = λ e. let no : false ≡ true = e in cc;
    cut = λ e. absurd (omega (arith, e));
    given_up = λ e. let no : false ≡ true = e in cc;
    starving = λ e. absurd (omega (arith, e));
    faulting = λ e. absurd (omega (arith, e));
  }
  ending_whole false whole = record {
    which = (0, lit< tt, refl);
    whole = λ lt. whole;
    asking = λ e. let no : false ≡ true = e in cc;
    cut = λ e. absurd (omega (arith, e));
    given_up = λ e. let no : false ≡ true = e in cc;
    starving = λ e. absurd (omega (arith, e));
    faulting = λ e. absurd (omega (arith, e));
  }

with_last_more : (numbers : List ℕ) (n k : ℕ) → n ≡ suc k → with_last numbers n ≡ numbers ++ n ∷ []
with_last_more numbers n k e = subst (λ (m : ℕ). with_last numbers m ≡ numbers ++ m ∷ []) (sym e) refl

-- What was said, at each end.
module _ (s : Script) (taken : ℕ) (run : Run) (events : List Event) where
  said_cut : IsCut s taken run.lines events → HasSaid s taken (ended_run 4 run) events
  said_cut is = record { whole = λ lt. absurd (omega (arith, lt)); asking = λ e. let no : false ≡ true = e in cc; cut = λ e. is; given_up = λ e. let no : false ≡ true = e in cc }

  said_failed : events ≡ said s run.lines ++ Says (prompt (session s run.lines).state) ∷ [] → HasSaid s taken (ended_run 3 run) events
  said_failed is = record { whole = λ lt. absurd (omega (arith, lt)); asking = λ e. is; cut = λ e. absurd (omega (arith, e)); given_up = λ e. let no : false ≡ true = e in cc }

  said_spent : events ≡ said s run.lines ++ Says (prompt (session s run.lines).state) ∷ [] → HasSaid s taken (ended_run 7 run) events
  said_spent is = record { whole = λ lt. absurd (omega (arith, lt)); asking = λ e. is; cut = λ e. absurd (omega (arith, e)); given_up = λ e. let no : false ≡ true = e in cc }

  said_starved : events ≡ said_before s run.lines → HasSaid s taken (ended_run 5 run) events
  said_starved is = record { whole = λ lt. absurd (omega (arith, lt)); asking = λ e. let no : false ≡ true = e in cc; cut = λ e. absurd (omega (arith, e)); given_up = λ e. is }

  said_faulted : events ≡ said_before s run.lines → HasSaid s taken (ended_run 6 run) events
  said_faulted is = record { whole = λ lt. absurd (omega (arith, lt)); asking = λ e. let no : false ≡ true = e in cc; cut = λ e. absurd (omega (arith, e)); given_up = λ e. is }

  said_whole : (refused : Bool) → events ≡ said s run.lines ++ Says (last_text (session s run.lines).state) ∷ [] → HasSaid s taken (ended_run (end_status refused) run) events
  said_whole true is = record { whole = λ lt. is; asking = λ e. let no : false ≡ true = e in cc; cut = λ e. absurd (omega (arith, e)); given_up = λ e. let no : false ≡ true = e in cc }
  said_whole false is = record { whole = λ lt. is; asking = λ e. let no : false ≡ true = e in cc; cut = λ e. absurd (omega (arith, e)); given_up = λ e. let no : false ≡ true = e in cc }

-- the first events, up to within a piece
is_cut : (s : Script) (taken n : ℕ) (front later : List Event) (piece : List ℕ) (k : ℕ) → said_next s n ≡ front ++ (Says piece ∷ later) → k < length piece →
    length (before_reply s n) ≤ length (bytes_of front) + k → length (bytes_of front) + k ≤ length (next_text s taken n) → IsCut s taken n (front ++ Says (take k piece) ∷ [])
is_cut s taken n front later piece k is less least most = record {
  took = length (bytes_of front) + k;
  least = least;
  most = most;
  is = sym (ap (λ (es : List Event). first_events (length (bytes_of front) + k) es) is ∙ (first_past front (Says piece ∷ later) k ∙ ap (λ (es : List Event). front ++ es) (first_within piece later k less)));
}

take_none : (xs : List ℕ) → take 0 xs ≡ []
take_none [] = refl
take_none (x ∷ xs) = refl

module _ {F K R : Type 0} (fs : FilesOf F) (sk : SinkOf K) (rc : RecorderOf R) where
  abbrev runs_end : (commands : List (List ℕ)) (taken : ℕ) (maps : Maps) (begun : F) (opened : K) (end : SessionEnd) (state : State) (refused : Bool) (files : F) (screen : K) →
      Follows fs (script_by commands maps end) begun end.lines state refused files → Counted fs (script_by commands maps end) begun end.lines files →
      (state.ended ≡ true → end.status < 2) → Ending sk (script_by commands maps end) taken opened end screen → Runs fs sk commands taken begun opened end files screen
  runs_end commands taken maps begun opened end state refused files screen follows counted exits ending = record {
    maps = maps;
    told = follows.same;
    which = ending.which;
    exits = λ e. exits (ap (λ (t : State). t.ended) follows.state_is ∙ e);
    whole = ending.whole;
    asking = ending.asking;
    cut = ending.cut;
    given_up = ending.given_up;
    starving = ending.starving;
    faulting = ending.faulting;
    put = follows.map;
    starved = follows.starved;
    faulted = follows.faulted;
    apart = follows.apart;
    causes = follows.causes;
    files_failed = follows.rose;
    files_held = follows.held;
    calls = counted.rise;
    calls_exactly = counted.calls;
    faults_exactly = counted.exactly;
  }

  still_open : {P : Type 0} (run : Run) → run.state.ended ≡ false → run.state.ended ≡ true → P
  still_open run on off = let no : true ≡ false = sym off ∙ on in absurd (cc)

  module _ (commands : List (List ℕ)) (taken : ℕ) (begun : F) (opened : K) (from : Recording R) where
    -- what follows the transcript of the commands that were run
    abbrev tail_of : Run → List ℕ
    tail_of run = if nat_lt run.lines taken then echo (slice_index_or commands run.lines []) else []

    next_is : (run : Run) (files : F) (screen : K) (to : Recording R) (r : Reached fs sk rc commands begun opened from run files screen to) →
        next_text (script_of commands r.maps run) taken run.lines ≡ (session (script_of commands r.maps run) run.lines).text ++ (prompt run.state ++ tail_of run)
    next_is run files screen to r = ap (λ (t : State). (session (script_of commands r.maps run) run.lines).text ++ (prompt t ++ tail_of run)) (sym r.follows.state_is)

    -- the screen has failed after the transcript of the commands that were run
    cut_there : (run : Run) (files : F) (screen screen' : K) (to to' : Recording R) (r : Reached fs sk rc commands begun opened from run files screen to) → run.state.ended ≡ false →
        GainsFirst sk.tells sk.held opened screen' (length (session (script_of commands r.maps run) run.lines).text) (next_text (script_of commands r.maps run) taken run.lines) →
        (events : List Event) → IsCut (script_of commands r.maps run) taken run.lines events → Shows sk rc opened from screen' to' events →
        Logged fs sk rc commands taken begun opened from (ended_run 4 run) files screen' to'
    cut_there run files screen screen' to to' r on g events is shows =
        let s = script_of commands r.maps run in
        let within = before_reply_within s run.lines in
        record {
          runs = runs_end commands taken r.maps begun opened (ended_run 4 run) run.state run.refused files screen' r.follows r.counted (λ off. still_open run on off)
              (ending_cut sk s taken opened run screen'
              (record { taken = g.taken; least = let least = g.least in omega (arith, within, least); most = g.most; gained = g.gained }));
          events = events;
          said_is = said_cut s taken run events is;
          shows = shows;
        }

    -- the transcript and the prompt
    prompted : (run : Run) (files : F) (screen : K) (to : Recording R) (p : Prompted fs sk rc commands begun opened from run files screen to) →
        Gains sk.tells sk.held opened screen ((session (script_of commands p.reached.maps run) run.lines).text ++ prompt run.state)
    prompted run files screen to p = gains_then sk.tells sk.held opened p.before screen (session (script_of commands p.reached.maps run) run.lines).text (prompt run.state) p.reached.gained p.prompted

    -- the events of the commands and the prompt
    abbrev asked_events : Script → Run → List Event
    asked_events s run = said s run.lines ++ Says (prompt run.state) ∷ []

    prompted_shows : (run : Run) (files : F) (screen : K) (to : Recording R) (p : Prompted fs sk rc commands begun opened from run files screen to) → Shows sk rc opened from screen to (asked_events (script_of commands p.reached.maps run) run)
    prompted_shows run files screen to p =
        shows_then sk rc opened p.before screen from p.heard_before to (said (script_of commands p.reached.maps run) run.lines) (Says (prompt run.state) ∷ []) p.reached.shows
        (shows_piece sk rc p.before screen p.heard_before to (prompt run.state) p.prompted p.heard)

    asked_length : (s : Script) (run : Run) → length (bytes_of (asked_events s run)) ≡ length (session s run.lines).text + length (prompt run.state)
    asked_length s run =
        let text = ap length (said_text s run.lines) in
        let both = ap length (bytes_append (said s run.lines) (Says (prompt run.state) ∷ [])) in
        omega (arith, text, both, length-append (bytes_of (said s run.lines)) (prompt run.state ++ []), length-append (prompt run.state) [])

    -- what is said next, after the prompt
    next_said : (s : Script) (run : Run) (line : List ℕ) → run.state ≡ (session s run.lines).state → slice_index_or s.commands run.lines [] ≡ line → said_next s run.lines ≡ asked_events s run ++ (Says (echo line) ∷ [])
    next_said s run line is at =
        ap (λ (t : State). said s run.lines ++ (Says (prompt t) ∷ (Says (echo (slice_index_or s.commands run.lines [])) ∷ []))) (sym is)
        ∙ (ap (λ (l : List ℕ). said s run.lines ++ (Says (prompt run.state) ∷ (Says (echo l) ∷ []))) at
        ∙ sym (append_assoc (said s run.lines) (Says (prompt run.state) ∷ []) (Says (echo line) ∷ [])))

    -- at the prompt
    pub cut_at_prompt : (run : Run) (files : F) (screen screen' : K) (to to' : Recording R) → Reached fs sk rc commands begun opened from run files screen to → run.state.ended ≡ false →
        SaysLess sk.tells sk.held rc screen to screen' to' [] (prompt run.state) → Logged fs sk rc commands taken begun opened from (ended_run 4 run) files screen' to'
    cut_at_prompt run files screen screen' to to' r on less =
        let s = script_of commands r.maps run in
        let text = (session s run.lines).text in
        let next = next_is run files screen to r in
        let within = before_reply_within s run.lines in
        let bytes = ap length (said_text s run.lines) in
        let fewer = less.less in
        cut_there run files screen screen' to to' r on
        (first_after sk.tells sk.held opened screen screen' (length text) text (prompt run.state) (tail_of run) _ next (omega arith) r.gained (less_of sk.tells sk.held rc screen screen' to to' [] (prompt run.state) less))
        (said s run.lines ++ Says (take less.taken (prompt run.state)) ∷ [])
        (is_cut s taken run.lines (said s run.lines) (Says (echo (slice_index_or commands run.lines [])) ∷ []) (prompt run.state) less.taken
        (ap (λ (t : State). said s run.lines ++ (Says (prompt t) ∷ (Says (echo (slice_index_or commands run.lines [])) ∷ []))) (sym r.follows.state_is)) less.less
        (omega (arith, bytes, within))
        (omega (arith, bytes, fewer, ap length next, length-append text (prompt run.state ++ tail_of run), length-append (prompt run.state) (tail_of run))))
        (shows_then sk rc opened screen screen' from to to' (said s run.lines) (Says (take less.taken (prompt run.state)) ∷ []) r.shows (shows_piece sk rc screen screen' to to' (take less.taken (prompt run.state)) less.gained less.heard))

    -- at the end of the last prompt's line
    pub cut_at_end : (run : Run) (files : F) (screen screen' : K) (to to' : Recording R) → Prompted fs sk rc commands begun opened from run files screen to → run.state.ended ≡ false →
        SaysLess sk.tells sk.held rc screen to screen' to' [] (10 ∷ []) → Logged fs sk rc commands taken begun opened from (ended_run 4 run) files screen' to'
    cut_at_end run files screen screen' to to' p on less =
        let s = script_of commands p.reached.maps run in
        let text = (session s run.lines).text in
        let front = text ++ prompt run.state in
        let one = less_of sk.tells sk.held rc screen screen' to to' [] (10 ∷ []) less in
        let nothing : Gains sk.tells sk.held screen screen' [] = less_of_one sk.tells sk.held screen screen' 10 one in
        let all : Gains sk.tells sk.held opened screen' front = gains_stopped sk.tells sk.held opened screen screen' front (prompted run files screen to p) nothing in
        let is : next_text s taken run.lines ≡ front ++ tail_of run = next_is run files p.before p.heard_before p.reached ∙ sym (append_assoc text (prompt run.state) (tail_of run)) in
        let length_is : length (next_text s taken run.lines) ≡ length (front ++ tail_of run) = ap length is in
        let line = slice_index_or commands run.lines [] in
        let asked = asked_length s run in
        let within = before_reply_within s run.lines in
        let fewer = less.less in
        let none : less.taken ≡ 0 = omega (arith, fewer) in
        let heard : Hears rc to to' (Says [] ∷ []) = subst (λ (k : ℕ). Hears rc to to' (Says (take k (10 ∷ [])) ∷ [])) none less.heard in
        cut_there run files p.before screen' p.heard_before to' p.reached on (record {
          taken = length front;
          least = omega (arith, length-append text (prompt run.state));
          most = omega (arith, length_is, length-append front (tail_of run));
          gained = subst (λ (x : List ℕ). Gains sk.tells sk.held opened screen' x) (sym (ap (λ (x : List ℕ). take (length front) x) is ∙ take-append_seam front (tail_of run))) all;
        })
        (asked_events s run ++ Says (take 0 (echo line)) ∷ [])
        (is_cut s taken run.lines (asked_events s run) [] (echo line) 0 (next_said s run line p.reached.follows.state_is refl) (omega (arith, length-append (shown line) (10 ∷ [])))
        (omega (arith, asked, within))
        (omega (arith, asked, length_is, length-append front (tail_of run), length-append text (prompt run.state))))
        (subst (λ (x : List ℕ). Shows sk rc opened from screen' to' (asked_events s run ++ Says x ∷ [])) (sym (take_none (echo line)))
        (shows_then sk rc opened screen screen' from to to' (asked_events s run) (Says [] ∷ []) (prompted_shows run files screen to p) (shows_piece sk rc screen screen' to to' [] nothing heard)))

    echo_is : (line whole : List ℕ) → IsLine line whole → echo line ≡ echo whole
    echo_is line whole is = ap (λ (x : List ℕ). x ++ 10 ∷ []) is.shows

    -- at the echo of a command
    pub cut_at_echo : (run : Run) (files : F) (screen screen' : K) (to to' : Recording R) (line whole : List ℕ) → Prompted fs sk rc commands begun opened from run files screen to → HasNext commands taken run line whole →
        SaysLess sk.tells sk.held rc screen to screen' to' [] (echo line) → Logged fs sk rc commands taken begun opened from (ended_run 4 run) files screen' to'
    cut_at_echo run files screen screen' to to' line whole p h less =
        let s = script_of commands p.reached.maps run in
        let text = (session s run.lines).text in
        let front = text ++ prompt run.state in
        let tail : tail_of run ≡ echo whole ++ [] = rw (lt-ltb run.lines taken h.more, h.at) (sym (append_nil (echo whole))) in
        let is : next_text s taken run.lines ≡ front ++ (echo whole ++ []) =
        next_is run files p.before p.heard_before p.reached ∙ (sym (append_assoc text (prompt run.state) (tail_of run)) ∙ ap (λ (x : List ℕ). front ++ x) tail) in
        let said_whole : SaysLess sk.tells sk.held rc screen to screen' to' [] (echo whole) = subst (λ (x : List ℕ). SaysLess sk.tells sk.held rc screen to screen' to' [] x) (echo_is line whole h.is_line) less in
        let k = said_whole.taken in
        let asked = asked_length s run in
        let within = before_reply_within s run.lines in
        let fewer = said_whole.less in
        cut_there run files p.before screen' p.heard_before to' p.reached h.open_still
        (first_after sk.tells sk.held opened screen screen' (length text) front (echo whole) [] _ is (omega (arith, length-append text (prompt run.state))) (prompted run files screen to p)
        (less_of sk.tells sk.held rc screen screen' to to' [] (echo whole) said_whole))
        (asked_events s run ++ Says (take k (echo whole)) ∷ [])
        (is_cut s taken run.lines (asked_events s run) [] (echo whole) k (next_said s run whole p.reached.follows.state_is h.at) said_whole.less
        (omega (arith, asked, within))
        (omega (arith, asked, fewer, ap length is, length-append front (echo whole ++ []), length-append (echo whole) [], length-append text (prompt run.state))))
        (shows_then sk rc opened screen screen' from to to' (asked_events s run) (Says (take k (echo whole)) ∷ []) (prompted_shows run files screen to p) (shows_piece sk rc screen screen' to to' (take k (echo whole)) said_whole.gained said_whole.heard))

    -- the prompt and the echo were written
    announced : (run : Run) (files : F) (screen screen' : K) (to : Recording R) (line whole : List ℕ) (p : Prompted fs sk rc commands begun opened from run files screen to) → HasNext commands taken run line whole →
        Gains sk.tells sk.held screen screen' (echo line) → Gains sk.tells sk.held p.before screen' (prompt run.state ++ echo whole)
    announced run files screen screen' to line whole p h shown =
        gains_then sk.tells sk.held p.before screen screen' (prompt run.state) (echo whole) p.prompted (subst (λ (x : List ℕ). Gains sk.tells sk.held screen screen' x) (echo_is line whole h.is_line) shown)

    abbrev announcement : Run → List ℕ → List Event
    announcement run whole = Says (prompt run.state) ∷ (Says (echo whole) ∷ [])

    announced_shows : (run : Run) (files : F) (screen screen' : K) (to to' : Recording R) (line whole : List ℕ) (p : Prompted fs sk rc commands begun opened from run files screen to) → HasNext commands taken run line whole →
        Gains sk.tells sk.held screen screen' (echo line) → Hears rc to to' (Says (echo line) ∷ []) → Shows sk rc p.before p.heard_before screen' to' (announcement run whole)
    announced_shows run files screen screen' to to' line whole p h shown heard =
        let same = echo_is line whole h.is_line in
        shows_then sk rc p.before screen screen' p.heard_before to to' (Says (prompt run.state) ∷ []) (Says (echo whole) ∷ []) (shows_piece sk rc p.before screen p.heard_before to (prompt run.state) p.prompted p.heard)
        (shows_piece sk rc screen screen' to to' (echo whole) (subst (λ (x : List ℕ). Gains sk.tells sk.held screen screen' x) same shown) (subst (λ (x : List ℕ). Hears rc to to' (Says x ∷ [])) same heard))

    -- what a command does to the log, by its reply
    abbrev change_by : List ℕ → Reply → LogChange
    change_by whole reply = log_change (is_refused reply) (asked_of whole)

    -- at the text of a command, which has one then
    pub cut_at_text : (run new : Run) (files files' : F) (screen screen' screen'' : K) (to to' to'' : Recording R) (line whole : List ℕ) (reply : Reply) →
        (p : Prompted fs sk rc commands begun opened from run files screen to) → HasNext commands taken run line whole →
        Gains sk.tells sk.held screen screen' (echo line) → Hears rc to to' (Says (echo line) ∷ []) → new.lines ≡ suc run.lines →
        RunsOn fs commands p.reached.maps begun run files whole reply new.starved.items new.faulted.items new.state new.refused files' →
        SaysLess sk.tells sk.held rc screen' to' screen'' to'' (before_text (change_by whole reply)) (text_of reply) → Logged fs sk rc commands taken begun opened from (ended_run 4 new) files' screen'' to''
    cut_at_text run new files files' screen screen' screen'' to to' to'' line whole reply p h echoed heard lines runs less =
        let r = p.reached in
        let s = script_of commands r.maps run in
        let s' = script_of commands runs.maps' new in
        let goes = runs.goes in
        let text = (session s run.lines).text in
        let announcing = prompt run.state ++ echo whole in
        let front : before_reply s' new.lines ≡ text ++ announcing = before_next s s' run.lines new.lines run.state whole lines goes.earlier r.follows.state_is h.at in
        let done : (session s' new.lines).text ≡ (text ++ announcing) ++ text_of reply = ap (λ (k : ℕ). (session s' k).text) lines ∙ (goes.text ∙ sym (append_assoc text announcing (text_of reply))) in
        let more = prompt (session s' new.lines).state ++ tail_of new in
        let is : next_text s' taken new.lines ≡ (text ++ announcing) ++ (text_of reply ++ more) = ap (λ (x : List ℕ). x ++ more) done ∙ append_assoc (text ++ announcing) (text_of reply) more in
        let c = change_by whole reply in
        let k = less.taken in
        let fewer = less.less in
        let before = announcement run whole ++ before_text c in
        let next = Says (prompt (session s' new.lines).state) ∷ (Says (echo (slice_index_or commands new.lines [])) ∷ []) in
        let said_on : said_next s' new.lines ≡ (said s run.lines ++ before) ++ (Says (text_of reply) ∷ (after_text c ++ next)) =
        ap (λ (es : List Event). es ++ next) (ap (λ (j : ℕ). said s' j) lines ∙ goes.said_is)
        ∙ (append_assoc (said s run.lines) (said_by run.state whole c (text_of reply)) next
        ∙ (ap (λ (es : List Event). said s run.lines ++ (announcement run whole ++ es)) (append_assoc (before_text c) (Says (text_of reply) ∷ after_text c) next)
        ∙ sym (append_assoc (said s run.lines) before (Says (text_of reply) ∷ (after_text c ++ next))))) in
        let bytes : bytes_of (said s run.lines ++ before) ≡ text ++ announcing =
        bytes_append (said s run.lines) before
        ∙ (ap (λ (x : List ℕ). x ++ bytes_of before) (said_text s run.lines)
        ∙ ap (λ (x : List ℕ). text ++ x) (ap (λ (x : List ℕ). prompt run.state ++ (echo whole ++ x)) (before_bytes c) ∙ ap (λ (x : List ℕ). prompt run.state ++ x) (append_nil (echo whole)))) in
        let shows : Shows sk rc opened from screen'' to'' ((said s run.lines ++ before) ++ Says (take k (text_of reply)) ∷ []) =
        subst (λ (es : List Event). Shows sk rc opened from screen'' to'' es) (sym (append_assoc (said s run.lines) before (Says (take k (text_of reply)) ∷ [])))
        (shows_then sk rc opened p.before screen'' from p.heard_before to'' (said s run.lines) (announcement run whole ++ (before_text c ++ Says (take k (text_of reply)) ∷ [])) r.shows
        (shows_then sk rc p.before screen' screen'' p.heard_before to' to'' (announcement run whole) (before_text c ++ Says (take k (text_of reply)) ∷ []) (announced_shows run files screen screen' to to' line whole p h echoed heard)
        (shows_by sk rc screen' screen'' to' to'' (before_text c ++ Says (take k (text_of reply)) ∷ []) (take k (text_of reply)) (part_bytes c (take k (text_of reply))) less.gained less.heard))) in
        record {
          runs = runs_end commands taken runs.maps' begun opened (ended_run 4 new) new.state new.refused files' screen''
              (subst (λ (j : ℕ). Follows fs s' begun j new.state new.refused files') (sym lines) goes.follows)
              (subst (λ (j : ℕ). Counted fs s' begun j files') (sym lines) (goes.counted r.counted))
              (λ off. no_text (goes.ends off).1)
              (ending_cut sk s' taken opened new screen''
              (first_after sk.tells sk.held opened screen' screen'' (length (before_reply s' new.lines)) (text ++ announcing) (text_of reply) more _ is (omega (arith, ap length front))
              (gains_then sk.tells sk.held opened p.before screen' text announcing r.gained (announced run files screen screen' to line whole p h echoed))
              (less_of sk.tells sk.held rc screen' screen'' to' to'' (before_text c) (text_of reply) less)));
          events = (said s run.lines ++ before) ++ Says (take k (text_of reply)) ∷ [];
          said_is = said_cut s' taken new _ (is_cut s' taken new.lines (said s run.lines ++ before) (after_text c ++ next) (text_of reply) k said_on less.less
              (omega (arith, ap length bytes, ap length front))
              (omega (arith, ap length bytes, ap length is, fewer, length-append (text ++ announcing) (text_of reply ++ more), length-append (text_of reply) more)));
          shows = shows;
        }
      where
        no_text : {P : Type 0} → text_of reply ≡ [] → P
        no_text none = let short : less.taken < 0 = subst (λ (x : List ℕ). less.taken < length x) none less.less in absurd (omega (arith, short))

    -- a command is given up as the 65th of its kind
    gives_up : (run : Run) (end : SessionEnd) (state : State) (files files' : F) (screen screen' : K) (to to' : Recording R) (line whole : List ℕ) (reply : Reply) → outcome reply ≢ Fine →
        (p : Prompted fs sk rc commands begun opened from run files screen to) → HasNext commands taken run line whole →
        Gains sk.tells sk.held screen screen' (echo line) → Hears rc to to' (Says (echo line) ∷ []) → end.lines ≡ suc run.lines →
        (runs : RunsOn fs commands p.reached.maps begun run files whole reply (starved_by end) (faulted_by end) state true files') →
        (GivesUp sk (script_by commands runs.maps' end) opened end screen' → Ending sk (script_by commands runs.maps' end) taken opened end screen') →
        ((events : List Event) → events ≡ said_before (script_by commands runs.maps' end) end.lines → HasSaid (script_by commands runs.maps' end) taken end events) →
        Logged fs sk rc commands taken begun opened from end files' screen' to'
    gives_up run end state files files' screen screen' to to' line whole reply bad p h echoed heard lines runs ending has_said =
        let r = p.reached in
        let s = script_of commands r.maps run in
        let s' = script_by commands runs.maps' end in
        let goes = runs.goes in
        let text = (session s run.lines).text in
        let announcing = prompt run.state ++ echo whole in
        let is : before_reply s' end.lines ≡ text ++ announcing = before_next s s' run.lines end.lines run.state whole lines goes.earlier r.follows.state_is h.at in
        record {
          runs = runs_end commands taken runs.maps' begun opened end state true files' screen'
              (subst (λ (k : ℕ). Follows fs s' begun k state true files') (sym lines) goes.follows)
              (subst (λ (k : ℕ). Counted fs s' begun k files') (sym lines) (goes.counted r.counted))
              (λ off. absurd (bad (goes.ends off).0))
              (ending (record {
                transcript = subst (λ (x : List ℕ). Gains sk.tells sk.held opened screen' x) (sym is)
                    (gains_then sk.tells sk.held opened p.before screen' text announcing r.gained (announced run files screen screen' to line whole p h echoed));
              }));
          events = said s run.lines ++ announcement run whole;
          said_is = has_said (said s run.lines ++ announcement run whole)
              (sym (ap (λ (k : ℕ). said_before s' k) lines
              ∙ (ap (λ (es : List Event). es ++ (Says (prompt (session s' run.lines).state) ∷ (Says (echo (slice_index_or commands run.lines [])) ∷ []))) goes.said_earlier
              ∙ (ap (λ (t : State). said s run.lines ++ (Says (prompt t) ∷ (Says (echo (slice_index_or commands run.lines [])) ∷ []))) (ap (λ (m : Machine). m.state) goes.earlier ∙ sym r.follows.state_is)
              ∙ ap (λ (l : List ℕ). said s run.lines ++ (Says (prompt run.state) ∷ (Says (echo l) ∷ []))) h.at))));
          shows = shows_then sk rc opened p.before screen' from p.heard_before to' (said s run.lines) (announcement run whole) r.shows (announced_shows run files screen screen' to to' line whole p h echoed heard);
        }

    pub gives_up_starved : (run new : Run) (state : State) (files files' : F) (screen screen' : K) (to to' : Recording R) (line whole : List ℕ) (reply : Reply) → outcome reply ≢ Fine →
        (p : Prompted fs sk rc commands begun opened from run files screen to) → HasNext commands taken run line whole →
        Gains sk.tells sk.held screen screen' (echo line) → Hears rc to to' (Says (echo line) ∷ []) → new.lines ≡ suc run.lines →
        RunsOn fs commands p.reached.maps begun run files whole reply (new.starved.items ++ new.lines ∷ []) new.faulted.items state true files' →
        length new.starved.items ≡ 64 → Logged fs sk rc commands taken begun opened from (ended_run 5 new) files' screen' to'
    gives_up_starved run new state files files' screen screen' to to' line whole reply bad p h echoed heard lines runs full =
        let is = with_last_more new.starved.items new.lines run.lines lines in
        let runs' : RunsOn fs commands p.reached.maps begun run files whole reply (starved_by (ended_run 5 new)) new.faulted.items state true files' =
        subst (λ (xs : List ℕ). RunsOn fs commands p.reached.maps begun run files whole reply xs new.faulted.items state true files') (sym is) runs in
        gives_up run (ended_run 5 new) state files files' screen screen' to to' line whole reply bad p h echoed heard lines runs'
        (λ g. ending_starved sk (script_by commands runs'.maps' (ended_run 5 new)) taken opened new screen' g (λ lt. full)) (λ events e. said_starved _ taken new events e)

    pub gives_up_faulted : (run new : Run) (state : State) (files files' : F) (screen screen' : K) (to to' : Recording R) (line whole : List ℕ) (reply : Reply) → outcome reply ≢ Fine →
        (p : Prompted fs sk rc commands begun opened from run files screen to) → HasNext commands taken run line whole →
        Gains sk.tells sk.held screen screen' (echo line) → Hears rc to to' (Says (echo line) ∷ []) → new.lines ≡ suc run.lines →
        RunsOn fs commands p.reached.maps begun run files whole reply new.starved.items (new.faulted.items ++ new.lines ∷ []) state true files' →
        length new.faulted.items ≡ 64 → Logged fs sk rc commands taken begun opened from (ended_run 6 new) files' screen' to'
    gives_up_faulted run new state files files' screen screen' to to' line whole reply bad p h echoed heard lines runs full =
        let is = with_last_more new.faulted.items new.lines run.lines lines in
        let runs' : RunsOn fs commands p.reached.maps begun run files whole reply new.starved.items (faulted_by (ended_run 6 new)) state true files' =
        subst (λ (xs : List ℕ). RunsOn fs commands p.reached.maps begun run files whole reply new.starved.items xs state true files') (sym is) runs in
        gives_up run (ended_run 6 new) state files files' screen screen' to to' line whole reply bad p h echoed heard lines runs'
        (λ g. ending_faulted sk (script_by commands runs'.maps' (ended_run 6 new)) taken opened new screen' g full) (λ events e. said_faulted _ taken new events e)

    -- a command is run, and its reply shown
    pub reaches : (run new : Run) (files files' : F) (screen screen' screen'' : K) (to to' to'' : Recording R) (line whole : List ℕ) (reply : Reply) →
        (p : Prompted fs sk rc commands begun opened from run files screen to) → HasNext commands taken run line whole →
        Gains sk.tells sk.held screen screen' (echo line) → Hears rc to to' (Says (echo line) ∷ []) → new.lines ≡ suc run.lines →
        RunsOn fs commands p.reached.maps begun run files whole reply new.starved.items new.faulted.items new.state new.refused files' →
        Gains sk.tells sk.held screen' screen'' (text_of reply) → Hears rc to' to'' (before_text (change_by whole reply) ++ (Says (text_of reply) ∷ after_text (change_by whole reply))) →
        Reached fs sk rc commands begun opened from new files' screen'' to''
    reaches run new files files' screen screen' screen'' to to' to'' line whole reply p h echoed heard lines runs shown_text heard_text =
        let r = p.reached in
        let s = script_of commands r.maps run in
        let s' = script_of commands runs.maps' new in
        let text = (session s run.lines).text in
        let front = prompt run.state ++ echo whole in
        let c = change_by whole reply in
        record {
          maps = runs.maps';
          follows = subst (λ (k : ℕ). Follows fs s' begun k new.state new.refused files') (sym lines) runs.goes.follows;
          counted = subst (λ (k : ℕ). Counted fs s' begun k files') (sym lines) (runs.goes.counted r.counted);
          gained = subst (λ (x : List ℕ). Gains sk.tells sk.held opened screen'' x) (sym (ap (λ (k : ℕ). (session s' k).text) lines ∙ runs.goes.text))
              (gains_then sk.tells sk.held opened p.before screen'' text (front ++ text_of reply) r.gained
              (gains_then sk.tells sk.held p.before screen' screen'' front (text_of reply) (announced run files screen screen' to line whole p h echoed) shown_text));
          shows = subst (λ (es : List Event). Shows sk rc opened from screen'' to'' es) (sym (ap (λ (k : ℕ). said s' k) lines ∙ runs.goes.said_is))
              (shows_then sk rc opened p.before screen'' from p.heard_before to'' (said s run.lines) (said_by run.state whole c (text_of reply)) r.shows
              (shows_then sk rc p.before screen' screen'' p.heard_before to' to'' (announcement run whole) (before_text c ++ (Says (text_of reply) ∷ after_text c)) (announced_shows run files screen screen' to to' line whole p h echoed heard)
              (shows_by sk rc screen' screen'' to' to'' (before_text c ++ (Says (text_of reply) ∷ after_text c)) (text_of reply) (change_bytes c (text_of reply)) shown_text heard_text)));
        }

    -- nothing has been run
    pub nothing_run : (run : Run) → run.state ≡ new_state → run.lines ≡ 0 → run.refused ≡ false → run.starved.items ≡ [] → run.faulted.items ≡ [] →
        Reached fs sk rc commands begun opened from run begun opened from
    unfolding session said
    nothing_run run state lines refused starved faulted =
        let maps = maps_of (fs.lookup begun) in
        let s = script_of commands maps run in
        record {
          maps = maps;
          follows = subst (λ (k : ℕ). Follows fs s begun k run.state run.refused begun) (sym lines) (record {
            told = λ t. t;
            same = λ t. refl;
            state_is = state;
            map = λ t. refl;
            refused_is = refused;
            starved = rise_none run.starved.items starved;
            faulted = rise_none run.faulted.items faulted;
            apart = λ k h. rw faulted refl;
            rose = rw faulted (omega arith);
            held = λ e. refl;
            causes = λ k lt. absurd (omega (arith, lt));
          });
          counted = subst (λ (k : ℕ). Counted fs s begun k begun) (sym lines) (record {
            told = λ u. u;
            same = λ u. refl;
            rise = λ u. record { least = omega arith; most = omega arith };
            calls = λ u none. omega arith;
            exactly = λ u none k lt. absurd (omega (arith, lt));
          });
          gained = subst (λ (x : List ℕ). Gains sk.tells sk.held opened opened x) (sym (ap (λ (k : ℕ). (session s k).text) lines)) (gains_none sk.tells sk.held opened);
          shows = subst (λ (k : ℕ). Shows sk rc opened from opened from (said s k)) (sym lines) (shows_none sk rc opened from);
        }

    -- there was no memory to begin with
    pub not_begun : (run : Run) → run.state ≡ new_state → run.lines ≡ 0 → run.refused ≡ false → run.starved.items ≡ [] → run.faulted.items ≡ [] →
        Logged fs sk rc commands taken begun opened from (ended_run 5 run) begun opened from
    unfolding session
    not_begun run state lines refused starved faulted =
        let r = nothing_run run state lines refused starved faulted in
        let none : starved_by (ended_run 5 run) ≡ run.starved.items = ap (with_last run.starved.items) lines in
        let s = script_by commands r.maps (ended_run 5 run) in
        let same : script_of commands r.maps run ≡ s = ap (λ (xs : List ℕ). let t : Script = record { commands = commands; maps = r.maps; starved = xs; faulted = run.faulted.items } in t) (sym none) in
        record {
          runs = runs_end commands taken r.maps begun opened (ended_run 5 run) run.state run.refused begun opened
              (subst (λ (t : Script). Follows fs t begun run.lines run.state run.refused begun) same r.follows)
              (subst (λ (t : Script). Counted fs t begun run.lines begun) same r.counted)
              (λ off. still_open run (ap (λ (t : State). t.ended) state) off)
              (ending_starved sk s taken opened run opened
              (record { transcript = subst (λ (k : ℕ). Gains sk.tells sk.held opened opened (before_reply s k)) (sym lines) (gains_none sk.tells sk.held opened) })
              (λ lt. absurd (omega (arith, lt, lines))));
          events = [];
          said_is = said_starved s taken run [] (ap (said_before s) (sym lines));
          shows = shows_none sk rc opened from;
        }

    -- the input gives no command
    asks : (run : Run) (files : F) (screen : K) (to : Recording R) (p : Prompted fs sk rc commands begun opened from run files screen to) (status : ℕ) → EndsAsking sk (script_of commands p.reached.maps run) opened (ended_run status run) screen
    asks run files screen to p status =
        let s = script_of commands p.reached.maps run in
        subst (λ (t : State). Gains sk.tells sk.held opened screen ((session s run.lines).text ++ prompt t)) p.reached.follows.state_is
        (gains_then sk.tells sk.held opened p.before screen (session s run.lines).text (prompt run.state) p.reached.gained p.prompted)

    asks_said : (run : Run) (files : F) (screen : K) (to : Recording R) (p : Prompted fs sk rc commands begun opened from run files screen to) → (let s : Script = script_of commands p.reached.maps run in asked_events s run ≡ said s run.lines ++ Says (prompt (session s run.lines).state) ∷ [])
    asks_said run files screen to p = ap (λ (t : State). said (script_of commands p.reached.maps run) run.lines ++ Says (prompt t) ∷ []) p.reached.follows.state_is

    pub input_failed : (run : Run) (files : F) (screen : K) (to : Recording R) → Prompted fs sk rc commands begun opened from run files screen to → run.state.ended ≡ false → Logged fs sk rc commands taken begun opened from (ended_run 3 run) files screen to
    input_failed run files screen to p on =
        let r = p.reached in
        let s = script_of commands r.maps run in
        record {
          runs = runs_end commands taken r.maps begun opened (ended_run 3 run) run.state run.refused files screen r.follows r.counted (λ off. still_open run on off) (ending_failed sk s taken opened run screen (asks run files screen to p 3));
          events = asked_events s run;
          said_is = said_failed s taken run _ (asks_said run files screen to p);
          shows = prompted_shows run files screen to p;
        }

    pub input_spent : (run : Run) (files : F) (screen : K) (to : Recording R) → Prompted fs sk rc commands begun opened from run files screen to → run.state.ended ≡ false → Logged fs sk rc commands taken begun opened from (ended_run 7 run) files screen to
    input_spent run files screen to p on =
        let r = p.reached in
        let s = script_of commands r.maps run in
        record {
          runs = runs_end commands taken r.maps begun opened (ended_run 7 run) run.state run.refused files screen r.follows r.counted (λ off. still_open run on off) (ending_spent sk s taken opened run screen (asks run files screen to p 7));
          events = asked_events s run;
          said_is = said_spent s taken run _ (asks_said run files screen to p);
          shows = prompted_shows run files screen to p;
        }

    -- the session has come to its end, with its whole transcript on the screen
    ends_by : (run : Run) (files : F) (screen screen' : K) (to to' : Recording R) (refused : Bool) (r : Reached fs sk rc commands begun opened from run files screen to) →
        EndsWhole sk (script_of commands r.maps run) opened (ended_run (end_status refused) run) screen' → (events : List Event) →
        events ≡ said (script_of commands r.maps run) run.lines ++ Says (last_text (session (script_of commands r.maps run) run.lines).state) ∷ [] → Shows sk rc opened from screen' to' events →
        RunsTo fs sk rc commands taken begun opened from (end_status refused) run files screen' to'
    ends_by run files screen screen' to to' true r whole events is shows =
        let s = script_of commands r.maps run in
        record {
          logged = record {
            runs = runs_end commands taken r.maps begun opened (ended_run 1 run) run.state run.refused files screen' r.follows r.counted (λ off. omega arith) (ending_whole sk s taken opened run screen' true whole);
            events = events;
            said_is = said_whole s taken run events true is;
            shows = shows;
          };
          state = λ lt. sym r.follows.state_is;
        }
    ends_by run files screen screen' to to' false r whole events is shows =
        let s = script_of commands r.maps run in
        record {
          logged = record {
            runs = runs_end commands taken r.maps begun opened (ended_run 0 run) run.state run.refused files screen' r.follows r.counted (λ off. omega arith) (ending_whole sk s taken opened run screen' false whole);
            events = events;
            said_is = said_whole s taken run events false is;
            shows = shows;
          };
          state = λ lt. sym r.follows.state_is;
        }

    ends : (run : Run) (files : F) (screen screen' : K) (to to' : Recording R) (status : ℕ) → status ≡ end_status run.refused → (r : Reached fs sk rc commands begun opened from run files screen to) →
        (run.state.ended ≡ false → run.lines ≡ length commands) → Gains sk.tells sk.held screen screen' (last_text run.state) → Hears rc to to' (Says (last_text run.state) ∷ []) →
        RunsTo fs sk rc commands taken begun opened from status run files screen' to'
    ends run files screen screen' to to' status is r all last heard =
        let s = script_of commands r.maps run in
        let written = gains_then sk.tells sk.held opened screen screen' (session s run.lines).text (last_text run.state) r.gained last in
        let whole : EndsWhole sk s opened (ended_run (end_status run.refused) run) screen' = record {
          all = λ e. all (ap (λ (t : State). t.ended) r.follows.state_is ∙ e);
          status = ap end_status r.follows.refused_is;
          transcript = subst (λ (t : State). Gains sk.tells sk.held opened screen' ((session s run.lines).text ++ last_text t)) r.follows.state_is written;
        } in
        subst (λ (k : ℕ). RunsTo fs sk rc commands taken begun opened from k run files screen' to') (sym is)
        (ends_by run files screen screen' to to' run.refused r whole (said s run.lines ++ Says (last_text run.state) ∷ [])
        (ap (λ (t : State). said s run.lines ++ Says (last_text t) ∷ []) r.follows.state_is)
        (shows_then sk rc opened screen screen' from to to' (said s run.lines) (Says (last_text run.state) ∷ []) r.shows (shows_piece sk rc screen screen' to to' (last_text run.state) last heard)))

    not_low : {P : Type 0} (n : ℕ) → 2 ≤ n → n < 2 → P
    not_low n high low = absurd (omega (arith, high, low))

    -- the input has ended
    pub finishes : (run : Run) (files : F) (screen screen' : K) (to to' : Recording R) (status : ℕ) → Prompted fs sk rc commands begun opened from run files screen to → run.lines ≡ length commands → run.state.ended ≡ false →
        Finished sk rc run.refused screen to status screen' to' → RunsTo fs sk rc commands taken begun opened from status run files screen' to'
    finishes run files screen screen' to to' status p all open_still (Unwritten e part) =
        subst (λ (k : ℕ). RunsTo fs sk rc commands taken begun opened from k run files screen' to') (sym e) (record { logged = cut_at_end run files screen screen' to to' p open_still part; state = λ lt. not_low 4 (omega arith) lt })
    finishes run files screen screen' to to' status p all open_still (Written e lf heard) =
        ends run files p.before screen' p.heard_before to' status e p.reached (λ o. all)
        (subst (λ (b : Bool). Gains sk.tells sk.held p.before screen' (if b then [] else prompt run.state ++ 10 ∷ [])) (sym open_still)
        (gains_then sk.tells sk.held p.before screen screen' (prompt run.state) (10 ∷ []) p.prompted lf))
        (subst (λ (b : Bool). Hears rc p.heard_before to' (Says (if b then [] else prompt run.state ++ 10 ∷ []) ∷ [])) (sym open_still)
        (hears_both rc p.heard_before to to' (prompt run.state) (10 ∷ []) p.heard heard))

    -- EXIT has ended the session
    pub exits : (run : Run) (files : F) (screen : K) (to : Recording R) (status : ℕ) → status ≡ end_status run.refused → run.state.ended ≡ true → Reached fs sk rc commands begun opened from run files screen to →
        RunsTo fs sk rc commands taken begun opened from status run files screen to
    exits run files screen to status is over r =
        ends run files screen screen to to status is r (λ o. let no : true ≡ false = sym over ∙ o in cc)
        (subst (λ (b : Bool). Gains sk.tells sk.held screen screen (if b then [] else prompt run.state ++ 10 ∷ [])) (sym over) (gains_none sk.tells sk.held screen))
        (subst (λ (b : Bool). Hears rc to to (Says (if b then [] else prompt run.state ++ 10 ∷ []) ∷ [])) (sym over) (hears_silence rc to))
