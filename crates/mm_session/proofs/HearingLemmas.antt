-- What recorders have heard of events one after another.
use Rattle.std.proofs.Common.{◌≡◌, ◌&&◌, not, ℕ, Bool, true, false, List, [], ◌∷◌, ◌++◌, refl, sym, ◌∙◌, ap, subst, append_assoc}
use Rattle.mm_base.specs.Recorder.{Log, IsPart, CallsEach, CallsMany, HaveHeard, begun_with, heard_where, longer}
use Rattle.mm_base.specs.Sink.{Gains}
use Rattle.mm_base.specs.declared.sink.Sink.{Ghosts as SinkOf}
use Rattle.mm_base.proofs.SinkLemmas.{append_nil, gains_none, gains_then}
use Rattle.mm_base.proofs.RecorderLemmas.{part_same, part_begun, heard_nothing}
use Rattle.mm_base.proofs.HeardLemmas.{part_behind, part_trans, heard_behind, many_none, many_one, many_then, where_grows, where_heard}
use Rattle.mm_session.specs.Logs.{Event, Says, Opens, Closes, until_next, logs_of, bytes_of}
use Rattle.mm_session.specs.Hearing.{RecorderOf, Recording, Hears, Shows, closing, opening, open_after, logs_after}
use Rattle.mm_session.proofs.EventLemmas.{bytes_append}

-- ## Of one recorder

grows : (is_open : Bool) (events : List Event) (logs : List Log) → IsPart logs (logs_after is_open events logs)
grows is_open [] logs = part_same logs
grows is_open (Says piece ∷ events) logs = part_trans logs (heard_where is_open piece logs) _ (where_grows is_open piece logs) (grows is_open events (heard_where is_open piece logs))
grows is_open (Opens name ∷ events) logs = part_trans logs (begun_with name logs) _ (part_begun name logs) (grows true events (begun_with name logs))
grows is_open (Closes ∷ events) logs = grows false events logs

pub open_append : (is_open : Bool) (first later : List Event) → open_after is_open (first ++ later) ≡ open_after (open_after is_open first) later
open_append is_open [] later = refl
open_append is_open (Says piece ∷ first) later = open_append is_open first later
open_append is_open (Opens name ∷ first) later = open_append true first later
open_append is_open (Closes ∷ first) later = open_append false first later

logs_append : (is_open : Bool) (first later : List Event) (logs : List Log) → logs_after is_open (first ++ later) logs ≡ logs_after (open_after is_open first) later (logs_after is_open first logs)
logs_append is_open [] later logs = refl
logs_append is_open (Says piece ∷ first) later logs = logs_append is_open first later (heard_where is_open piece logs)
logs_append is_open (Opens name ∷ first) later logs = logs_append true first later (begun_with name logs)
logs_append is_open (Closes ∷ first) later logs = logs_append false first later logs

silent : (is_open : Bool) (logs : List Log) → heard_where is_open [] logs ≡ logs
silent true logs = heard_nothing logs
silent false logs = refl

-- ## What has been heard since a log was opened, or since none was open

as_it_was : (log : Log) → log ≡ longer [] log
as_it_was log = ap (λ bytes. record { name = log.name; bytes = bytes }) (sym (append_nil log.bytes))

-- since a log was opened, and since none was open
record Since (events : List Event) : Type 0 where
  opened : (logs : List Log) (log : Log) → logs_after true events (logs ++ log ∷ []) ≡ logs ++ (longer (until_next events) log ∷ logs_of events)
  closed : (logs : List Log) → logs_after false events logs ≡ logs ++ logs_of events

since : (events : List Event) → Since events
since [] = record {
  opened = λ logs log. ap (λ l. logs ++ l ∷ []) (as_it_was log);
  closed = λ logs. sym (append_nil logs);
}
since (Says piece ∷ events) = record {
  opened = λ logs log. ap (λ ls. logs_after true events ls) (heard_behind piece logs log [])
      ∙ ((since events).opened logs (longer piece log)
      ∙ ap (λ bytes. logs ++ (record { name = log.name; bytes = bytes } ∷ logs_of events)) (append_assoc log.bytes piece (until_next events)));
  closed = (since events).closed;
}
since (Opens name ∷ events) = record {
  opened = λ logs log. (since events).opened (logs ++ log ∷ []) (record { name = name; bytes = [] })
      ∙ (append_assoc logs (log ∷ []) _ ∙ ap (λ l. logs ++ (l ∷ logs_of (Opens name ∷ events))) (as_it_was log));
  closed = λ logs. (since events).opened logs (record { name = name; bytes = [] });
}
since (Closes ∷ events) = record {
  opened = λ logs log. (since events).closed (logs ++ log ∷ []) ∙ (append_assoc logs (log ∷ []) (logs_of events) ∙ ap (λ l. logs ++ (l ∷ logs_of events)) (as_it_was log));
  closed = (since events).closed;
}

-- ## Of all of them

module _ {R : Type 0} (rc : RecorderOf R) where
  pub hears_none : (a : Recording R) → Hears rc a a []
  hears_none a = record { begun = refl; many = many_none rc.tells rc.logs rc.faults a.live a.lost }

  pub hears_then : (a b c : Recording R) (first later : List Event) → Hears rc a b first → Hears rc b c later → Hears rc a c (first ++ later)
  hears_then a b c first later h k = record {
    begun = k.begun ∙ (ap (λ o. open_after o later) h.begun ∙ sym (open_append a.begun first later));
    many = many_then rc.tells rc.logs rc.faults (λ ls. logs_after a.begun first ls) (λ ls. logs_after b.begun later ls) (λ ls. logs_after a.begun (first ++ later) ls) a.live a.lost b.live b.lost c.live c.lost h.many k.many
        (λ ls. ap (λ o. logs_after o later (logs_after a.begun first ls)) h.begun ∙ sym (logs_append a.begun first later ls)) (λ ls. grows a.begun first ls)
        (λ ls. grows b.begun later (logs_after a.begun first ls));
  }

  -- events that come to the same
  hears_same : (a b : Recording R) (events others : List Event) → open_after a.begun events ≡ open_after a.begun others → ((ls : List Log) → logs_after a.begun events ls ≡ logs_after a.begun others ls) → Hears rc a b events → Hears rc a b others
  hears_same a b events others o e h = record { begun = h.begun ∙ o; many = subst (λ (f : List Log → List Log). CallsMany rc.tells rc.logs rc.faults f a.live a.lost b.live b.lost) (λ i ls. e ls i) h.many }

  -- one call on each recorder
  pub hears_piece : (a b : Recording R) (piece : List ℕ) → b.begun ≡ a.begun → CallsEach rc.tells rc.logs rc.faults (heard_where a.begun piece) a.live a.lost b.live b.lost → Hears rc a b (Says piece ∷ [])
  hears_piece a b piece same each = record { begun = same; many = many_one rc.tells rc.logs rc.faults (heard_where a.begun piece) a.live a.lost b.live b.lost each }

  pub hears_opening : (a b : Recording R) (name : List ℕ) → b.begun ≡ true → CallsEach rc.tells rc.logs rc.faults (begun_with name) a.live a.lost b.live b.lost → Hears rc a b (Opens name ∷ [])
  hears_opening a b name is_open each = record { begun = is_open; many = many_one rc.tells rc.logs rc.faults (begun_with name) a.live a.lost b.live b.lost each }

  pub hears_closing : (a b : Recording R) → b.begun ≡ false → CallsEach rc.tells rc.logs rc.faults (λ ls. ls) a.live a.lost b.live b.lost → Hears rc a b (Closes ∷ [])
  hears_closing a b closed each = record { begun = closed; many = many_one rc.tells rc.logs rc.faults (λ ls. ls) a.live a.lost b.live b.lost each }

  -- two pieces as one
  pub hears_both : (a b c : Recording R) (first later : List ℕ) → Hears rc a b (Says first ∷ []) → Hears rc b c (Says later ∷ []) → Hears rc a c (Says (first ++ later) ∷ [])
  hears_both a b c first later h k =
      hears_same a c (Says first ∷ (Says later ∷ [])) (Says (first ++ later) ∷ []) refl (λ ls. where_heard a.begun first later ls) (hears_then a b c (Says first ∷ []) (Says later ∷ []) h k)

  pub hears_as : (a b : Recording R) (events others : List Event) → events ≡ others → Hears rc a b events → Hears rc a b others
  hears_as a b events others is h = subst (λ (es : List Event). Hears rc a b es) is h

  pub hears_is : (a b : Recording R) (piece other : List ℕ) → piece ≡ other → Hears rc a b (Says piece ∷ []) → Hears rc a b (Says other ∷ [])
  hears_is a b piece other is h = subst (λ (x : List ℕ). Hears rc a b (Says x ∷ [])) is h

  -- a piece of no bytes
  pub hears_silence : (a : Recording R) → Hears rc a a (Says [] ∷ [])
  hears_silence a = hears_same a a [] (Says [] ∷ []) refl (λ ls. sym (silent a.begun ls)) (hears_none a)

  -- whether a log is open after a command
  pub open_now : (a b : Recording R) (was_open is_open : Bool) (text name : List ℕ) → Hears rc a b (closing (was_open && not is_open) ++ (Says text ∷ opening (not was_open && is_open) name)) → a.begun ≡ was_open → b.begun ≡ is_open
  open_now a b was_open is_open text name h was =
      h.begun ∙ (ap (λ (o : Bool). open_after o (closing (was_open && not is_open) ++ (Says text ∷ opening (not was_open && is_open) name))) was ∙ now was_open is_open)
    where
      now : (was_open is_open : Bool) → open_after was_open (closing (was_open && not is_open) ++ (Says text ∷ opening (not was_open && is_open) name)) ≡ is_open
      now true true = refl
      now true false = refl
      now false true = refl
      now false false = refl

  -- where none was open, these are the logs
  pub hears_logs : (a b : Recording R) (events : List Event) → a.begun ≡ false → Hears rc a b events → HaveHeard rc.tells rc.logs rc.faults (logs_of events) a.live a.lost b.live b.lost
  hears_logs a b events closed h =
      subst (λ (f : List Log → List Log). CallsMany rc.tells rc.logs rc.faults f a.live a.lost b.live b.lost)
      (λ i ls. (ap (λ o. logs_after o events ls) closed ∙ (since events).closed ls) i) h.many

  -- where none was open, and an open one is closed at the end
  pub hears_to_end : (a b c : Recording R) (events : List Event) → a.begun ≡ false → Hears rc a b events → Hears rc b c (Closes ∷ []) → HaveHeard rc.tells rc.logs rc.faults (logs_of events) a.live a.lost c.live c.lost
  hears_to_end a b c events closed h k =
      let all = hears_logs a b events closed h in
      many_then rc.tells rc.logs rc.faults (λ ls. ls ++ logs_of events) (λ ls. logs_after b.begun (Closes ∷ []) ls) (λ ls. ls ++ logs_of events) a.live a.lost b.live b.lost c.live c.lost all k.many
      (λ ls. refl) (λ ls. part_behind ls (logs_of events)) (λ ls. part_same (ls ++ logs_of events))

-- ## Of the screen too

module _ {K R : Type 0} (sk : SinkOf K) (rc : RecorderOf R) where
  pub shows_none : (k : K) (a : Recording R) → Shows sk rc k a k a []
  shows_none k a = record { gained = gains_none sk.tells sk.held k; heard = hears_none rc a }

  -- of events with this text
  pub shows_by : (old new : K) (from to : Recording R) (events : List Event) (text : List ℕ) → bytes_of events ≡ text → Gains sk.tells sk.held old new text → Hears rc from to events → Shows sk rc old from new to events
  shows_by old new from to events text is gained heard = record { gained = subst (λ (x : List ℕ). Gains sk.tells sk.held old new x) (sym is) gained; heard = heard }

  pub shows_piece : (old new : K) (from to : Recording R) (piece : List ℕ) → Gains sk.tells sk.held old new piece → Hears rc from to (Says piece ∷ []) → Shows sk rc old from new to (Says piece ∷ [])
  shows_piece old new from to piece gained heard = shows_by old new from to (Says piece ∷ []) piece (append_nil piece) gained heard

  pub shows_then : (old mid new : K) (from at to : Recording R) (first later : List Event) → Shows sk rc old from mid at first → Shows sk rc mid at new to later → Shows sk rc old from new to (first ++ later)
  shows_then old mid new from at to first later h k = record {
    gained = subst (λ (x : List ℕ). Gains sk.tells sk.held old new x) (sym (bytes_append first later)) (gains_then sk.tells sk.held old mid new (bytes_of first) (bytes_of later) h.gained k.gained);
    heard = hears_then rc from at to first later h.heard k.heard;
  }
