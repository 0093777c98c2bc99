-- What events say, and which of them were taken.
use Rattle.std.proofs.Common.{◌≡◌, ◌<◌, ◌+◌, ◌-◌, ℕ, zero, suc, Bool, ◌&&◌, not, true, false, List, [], ◌∷◌, ◌++◌, length, take, nat_le, refl, sym, ◌∙◌, ap, subst, arith, append_assoc, length-append}
use Rattle.std.proofs.lemmas.Bool.Decides.{nat_tests}
use Rattle.mm_base.proofs.SinkLemmas.{append_nil}
use Rattle.mm_shell.specs.declared.state.State.{State}
use Rattle.mm_command.specs.Meanings as meaning
use Rattle.mm_step.specs.Asked.{Asked, TooLong, Wrong, Asks, asked_of}
use Rattle.mm_step.specs.Logs as change
use Rattle.mm_step.specs.Logs.{LogChange, IsLogChange, log_change, log_asked}
use Rattle.mm_session.specs.Logs.{Event, Says, Opens, Closes, bytes_of, first_events, before_text, after_text, said_by, said}
use Rattle.mm_session.specs.Advance.{IsLine}
use Rattle.mm_session.specs.Hearing.{closing, opening}
use Rattle.mm_session.specs.Session.{Script, Turn, session, turn, done, prompt, echo}

pub bytes_append : (first later : List Event) → bytes_of (first ++ later) ≡ bytes_of first ++ bytes_of later
bytes_append [] later = refl
bytes_append (Says piece ∷ first) later = ap (λ b. piece ++ b) (bytes_append first later) ∙ sym (append_assoc piece (bytes_of first) (bytes_of later))
bytes_append (Opens name ∷ first) later = bytes_append first later
bytes_append (Closes ∷ first) later = bytes_append first later

-- past events that were taken whole
pub first_past : (first later : List Event) (n : ℕ) → first_events (length (bytes_of first) + n) (first ++ later) ≡ first ++ first_events n later
first_past [] later n = let same : 0 + n ≡ n = omega arith in ap (λ k. first_events k later) same
first_past (Says piece ∷ first) later n =
    let whole : nat_le (length piece) (length (piece ++ bytes_of first) + n) ≡ true = grind (arith, nat_tests, length-append piece (bytes_of first)) in
    let less : (length (piece ++ bytes_of first) + n) - length piece ≡ length (bytes_of first) + n = omega (arith, length-append piece (bytes_of first)) in
    rw whole (ap (λ k. Says piece ∷ first_events k (first ++ later)) less ∙ ap (λ es. Says piece ∷ es) (first_past first later n))
first_past (Opens name ∷ first) later n = ap (λ es. Opens name ∷ es) (first_past first later n)
first_past (Closes ∷ first) later n = ap (λ es. Closes ∷ es) (first_past first later n)

-- a piece of which not all was taken
pub first_within : (piece : List ℕ) (later : List Event) (n : ℕ) → n < length piece → first_events n (Says piece ∷ later) ≡ Says (take n piece) ∷ []
first_within piece later n less = let short : nat_le (length piece) n ≡ false = grind (arith, nat_tests, less) in rw short refl

-- ## A command

pub change_bytes : (c : LogChange) (text : List ℕ) → bytes_of (before_text c ++ (Says text ∷ after_text c)) ≡ text
change_bytes change.Stays text = append_nil text
change_bytes (change.Opens name) text = append_nil text
change_bytes change.Closes text = append_nil text

pub before_bytes : (c : LogChange) → bytes_of (before_text c) ≡ []
before_bytes change.Stays = refl
before_bytes (change.Opens name) = refl
before_bytes change.Closes = refl

pub part_bytes : (c : LogChange) (piece : List ℕ) → bytes_of (before_text c ++ Says piece ∷ []) ≡ piece
part_bytes change.Stays piece = append_nil piece
part_bytes (change.Opens name) piece = append_nil piece
part_bytes change.Closes piece = append_nil piece

pub command_bytes : (state : State) (line : List ℕ) (c : LogChange) (text : List ℕ) → bytes_of (said_by state line c text) ≡ (prompt state ++ echo line) ++ text
command_bytes state line c text = ap (λ x. prompt state ++ (echo line ++ x)) (change_bytes c text) ∙ sym (append_assoc (prompt state) (echo line) text)

-- what was said is the transcript
pub said_text : (s : Script) (n : ℕ) → bytes_of (said s n) ≡ (session s n).text
unfolding said session
said_text s zero = refl
said_text s (suc n) =
    let t : Turn = turn s n in
    let c : LogChange = log_change (done t).refused (asked_of t.line) in
    bytes_append (said s n) (said_by t.machine.state t.line c (done t).text)
    ∙ (ap (λ x. x ++ bytes_of (said_by t.machine.state t.line c (done t).text)) (said_text s n)
    ∙ ap (λ x. (session s n).text ++ x) (command_bytes t.machine.state t.line c (done t).text))

-- ## What it does to the log

abbrev NameFits : LogChange → List ℕ → Type 0
NameFits (change.Opens n) name = n ≡ name
NameFits c name = Unit {0}

name_fits : (b : Bool) (asked : Asked) → NameFits (log_change b asked) (log_asked asked)
name_fits true asked = tt
name_fits false TooLong = tt
name_fits false (Wrong fault) = tt
name_fits false (Asks (meaning.OpenLog name)) = refl
name_fits false (Asks meaning.CloseLog) = tt
name_fits false (Asks _) = tt

-- the events before a text and after it, by whether a log is open
pub record AreMarks (c : LogChange) (was_open is_open : Bool) (name : List ℕ) : Type 0 where
  pub before : closing (was_open && not is_open) ≡ before_text c
  pub after : opening (not was_open && is_open) name ≡ after_text c

marks_by : (c : LogChange) (was_open is_open : Bool) (name : List ℕ) → NameFits c name → IsLogChange c was_open is_open → AreMarks c was_open is_open name
marks_by change.Stays true is_open name fits is = rw is (record { before = refl; after = refl })
marks_by change.Stays false is_open name fits is = rw is (record { before = refl; after = refl })
marks_by (change.Opens n) was_open is_open name fits is = rw (is.0, is.1) (record { before = refl; after = ap (λ x. Opens x ∷ []) (sym fits) })
marks_by change.Closes was_open is_open name fits is = rw (is.0, is.1) (record { before = refl; after = refl })

pub are_marks : (b : Bool) (asked : Asked) (was_open is_open : Bool) → IsLogChange (log_change b asked) was_open is_open → AreMarks (log_change b asked) was_open is_open (log_asked asked)
are_marks b asked was_open is_open is = marks_by (log_change b asked) was_open is_open (log_asked asked) (name_fits b asked) is

-- where not the whole line is handed on
pub marks_at : (line whole : List ℕ) (b was_open is_open : Bool) → IsLine line whole → IsLogChange (log_change b (asked_of line)) was_open is_open → AreMarks (log_change b (asked_of whole)) was_open is_open (log_asked (asked_of line))
marks_at line whole b was_open is_open is h = subst (λ (a : Asked). AreMarks (log_change b a) was_open is_open (log_asked (asked_of line))) is.asks (are_marks b (asked_of line) was_open is_open h)

pub marks_events : (c : LogChange) (was_open is_open : Bool) (name text : List ℕ) → AreMarks c was_open is_open name →
    closing (was_open && not is_open) ++ (Says text ∷ opening (not was_open && is_open) name) ≡ before_text c ++ (Says text ∷ after_text c)
marks_events c was_open is_open name text m =
    ap (λ (es : List Event). es ++ (Says text ∷ opening (not was_open && is_open) name)) m.before ∙ ap (λ (es : List Event). before_text c ++ (Says text ∷ es)) m.after
