-- Where a database comes from.
use Rattle.std.proofs.Common.{◌≡◌, ◌+◌, ℕ, zero, suc, List, Option, None, Some, refl, sym, ◌∙◌, ap, subst, arith}
use Rattle.mm_splice.specs.Agreeing.{AgreesWith}
use Rattle.mm_splice.specs.Overlay.{last_text}
use Rattle.mm_splice.proofs.Agreeing.{agrees_at_begin, agrees_with_more}
use Rattle.mm_shell.specs.Fitting.{MadeIn}
use Rattle.mm_shell.specs.Saves.{Save, with_save}
use Rattle.mm_step.specs.Asked.{asked_of}
use Rattle.mm_step.specs.Effects.{step_of}
use Rattle.mm_step.specs.Laws.{ComesFrom, ByReading}
use Rattle.mm_step.proofs.LawLemmas as step
use Rattle.mm_session.specs.Session.{Script, Turn, session, turn}
use Rattle.mm_session.specs.Saves.{save_in, and_save, saves_since, IsFromFile, DatabasesAreFromFiles}
use Rattle.mm_session.proofs.SavesLemmas.{only_saves_change}
use Rattle.mm_session.proofs.SoundLemmas.{session_is_sound, database_is_sound}

-- the command that was next has read it
begins : (s : Script) (n : ℕ) (bytes : List ℕ) → (session s (suc n)).state.database ≡ Some bytes → ComesFrom (asked_of (turn s n).line) (turn s n).map bytes → IsFromFile s (suc n) bytes
unfolding saves_since
begins s n bytes is (ByReading name asked found) =
    record { read = n; since = 0; name = name; file = bytes; when = omega arith; asked = asked; found = found; agrees = agrees_at_begin bytes (database_is_sound s (suc n) bytes is) }

-- a database that the file overlaid with saves has become, with one save more or none
and_agrees : (file old bytes : List ℕ) (s : Script) (m k : ℕ) (o : Option Save) → AgreesWith file (last_text (saves_since s m k)) old → MadeIn (Some old) o → bytes ≡ with_save old o → AgreesWith file (last_text (and_save (saves_since s m k) o)) bytes
and_agrees file old bytes s m k None agrees made e = subst (AgreesWith file (last_text (saves_since s m k))) (sym e) agrees
and_agrees file old bytes s m k (Some save) agrees made e =
    subst (AgreesWith file (last_text (and_save (saves_since s m k) (Some save)))) (sym e)
    (agrees_with_more file (saves_since s m k) old (record { theorem = save.theorem; text = save.text }) agrees
    (record { theorem = sym (agrees.kinds_kept save.theorem) ∙ made.theorem; text = made.text; room = made.room }))

-- the command that was next has saved something in it, or left it
goes_on : (s : Script) (n : ℕ) (old bytes : List ℕ) → IsFromFile s n old → MadeIn (Some old) (save_in (turn s n)) → bytes ≡ with_save old (save_in (turn s n)) → IsFromFile s (suc n) bytes
unfolding saves_since
goes_on s n old bytes r made e = record {
  read = r.read;
  since = suc r.since;
  name = r.name;
  file = r.file;
  when = let when = r.when in omega (arith, when);
  asked = r.asked;
  found = r.found;
  agrees = and_agrees r.file old bytes s (suc r.read) r.since (save_in (turn s (suc r.read + r.since))) r.agrees
      (subst (λ (k : ℕ). MadeIn (Some old) (save_in (turn s k))) r.when made) (e ∙ ap (λ (k : ℕ). with_save old (save_in (turn s k))) r.when);
}

some_same : (a b : List ℕ) → (let x : Option (List ℕ) = Some a in x) ≡ Some b → a ≡ b
some_same a b e = cc

-- what the command that was next has saved could be made
made_next : (s : Script) (n : ℕ) (old : List ℕ) → (session s n).state.database ≡ Some old → MadeIn (Some old) (save_in (turn s n))
unfolding step_of
made_next s n old is =
    let t : Turn = turn s n in
    subst (λ (d : Option (List ℕ)). MadeIn d (save_in t)) is (step.saves_can_be_made (asked_of t.line) t.machine.state t.map t.outcome (session_is_sound s n))

pub databases_are_from_files : DatabasesAreFromFiles
unfolding session step_of
databases_are_from_files s zero bytes e = let no : (let x : Option (List ℕ) = None in x) ≡ Some bytes = e in cc
databases_are_from_files s (suc n) bytes e = at (session s n).state.database refl (λ old is. databases_are_from_files s n old is) where
  at : (d : Option (List ℕ)) → (session s n).state.database ≡ d → ((old : List ℕ) → (session s n).state.database ≡ Some old → IsFromFile s n old) → IsFromFile s (suc n) bytes
  at None is before =
      let t : Turn = turn s n in begins s n bytes e (step.databases_come_by_reading (asked_of t.line) t.machine.state t.map t.outcome bytes (session_is_sound s n) is e)
  at (Some old) is before =
      let t : Turn = turn s n in
      goes_on s n old bytes (before old is) (made_next s n old is) (some_same bytes (with_save old (save_in t)) (sym e ∙ only_saves_change s n old is))
