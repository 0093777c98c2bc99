use Rattle.std.proofs.Common.{refl, sym, ◌∙◌, ap, subst}
use Rattle.mm_session.specs.declared.session.SessionEnd.{SessionEnd}
use Rattle.mm_shell.specs.declared.state.State.{State}
use Rattle.mm_session.specs.Headline.{IsSession, KeepsLogs}
use Rattle.mm_session.specs.Hearing.{recording, telling}
use Rattle.mm_session.proofs.RefusedLemmas.{refused_changes_nothing}
use Rattle.mm_session.proofs.SoundLemmas.{session_is_sound}
use Rattle.mm_session.proofs.OriginLemmas.{databases_are_from_files}
use Rattle.mm_session.proofs.SavesLemmas.{puts_the_database, written_theorems_hold}
use Rattle.mm_session.proofs.TurnLemmas.{keeps_logs, keeps_none, session_begins, session_starves, stands_sound}
use Rattle.mm_session.proofs.UndoLemmas.{edits_are_undone, redos_are_accepted, redos_lead_forward, undos_are_accepted, undos_lead_back}
use Rattle.mm_session.proofs.session.run_session.Goals as goal

pub returns-in-Err-clause-session : goal.returns-in-Err-clause-session
returns-in-Err-clause-session g c =
    let run = c.new-run.ensures in
    subst (λ (e : SessionEnd). IsSession g.F.Files g.S.Source g.K.Sink c.args.words.now c.args.files.now c.args.input.now c.args.screen.now e c.args.files.now c.args.input.now c.args.screen.now) (sym c.ended.ensures)
    (session_starves g.F.Files g.S.Source g.K.Sink (telling (λ vtable. (g.dyn-1.0.entry vtable).1)) c.args.words.now c.args.files.now c.args.input.now c.args.screen.now (recording c.args.recorders.now) c.new-run.result run.state run.lines run.refused run.starved run.faulted).session_is

pub returns-in-Err-clause-logs : goal.returns-in-Err-clause-logs
returns-in-Err-clause-logs g c =
    let run = c.new-run.ensures in
    let rc = telling (λ vtable. (g.dyn-1.0.entry vtable).1) in
    subst (λ (e : SessionEnd). KeepsLogs g.F.Files g.S.Source g.K.Sink rc c.args.words.now c.args.files.now c.args.input.now c.args.screen.now (recording c.args.recorders.now) e c.args.files.now c.args.input.now c.args.screen.now (recording c.args.recorders.now)) (sym c.ended.ensures)
    (keeps_none g.F.Files g.S.Source g.K.Sink rc c.args.words.now c.args.files.now c.args.input.now c.args.screen.now (recording c.args.recorders.now) _ c.args.files.now c.args.input.now c.args.screen.now (recording c.args.recorders.now) c.requires.closed
    (session_starves g.F.Files g.S.Source g.K.Sink rc c.args.words.now c.args.files.now c.args.input.now c.args.screen.now (recording c.args.recorders.now) c.new-run.result run.state run.lines run.refused run.starved run.faulted))

pub loop-status-init : goal.loop-status-init
loop-status-init g c =
    let run = c.new-run.ensures in (
      session_begins g.F.Files g.S.Source g.K.Sink (telling (λ vtable. (g.dyn-1.0.entry vtable).1)) c.args.words.now c.args.files.now c.args.input.now c.new-output.result.screen.now (recording c.new-output.result.recorders.now) c.new-run.result run.state run.lines run.refused run.starved run.faulted
          c.in-Ok.commands c.in-Ok.ensures.words c.in-Ok.ensures.next c.in-Ok.ensures.reader,
      refl,
      refl,
      refl,
      refl,
      rw c.new-output.ensures.recorders c.requires.ready,
      rw c.new-output.ensures.recorders (c.requires.closed ∙ sym (ap (λ (s : State). s.log_open) run.state)),
    )

pub loop-status-smaller : goal.loop-status-smaller
loop-status-smaller g c =
    (rw c.in-GoesOn.is at c.take_turn.ensures.turns c.args.words.now c.args.files.now c.args.input.now c.new-output.result.screen.now (recording c.new-output.result.recorders.now) c.loop-status.invariant.0).1

pub take_turn-requires-clause-sound : goal.take_turn-requires-clause-sound
take_turn-requires-clause-sound g c =
    stands_sound g.F.Files g.S.Source g.K.Sink _ c.args.words.now c.args.files.now c.args.input.now c.new-output.result.screen.now _ c.loop-status.commands c.loop-status.run c.loop-status.files c.loop-status.input c.loop-status.output.screen.now _ c.loop-status.invariant.0

pub returns-in-Err-clause-refused : goal.returns-in-Err-clause-refused
returns-in-Err-clause-refused g c = refused_changes_nothing

pub returns-in-Ended-clause-refused : goal.returns-in-Ended-clause-refused
returns-in-Ended-clause-refused g c = refused_changes_nothing

pub returns-in-Err-clause-valid : goal.returns-in-Err-clause-valid
returns-in-Err-clause-valid g c = session_is_sound

pub returns-in-Err-clause-accepted : goal.returns-in-Err-clause-accepted
returns-in-Err-clause-accepted g c = written_theorems_hold

pub returns-in-Err-clause-origin : goal.returns-in-Err-clause-origin
returns-in-Err-clause-origin g c = databases_are_from_files

pub returns-in-Err-clause-written : goal.returns-in-Err-clause-written
returns-in-Err-clause-written g c = puts_the_database

pub returns-in-Ended-clause-valid : goal.returns-in-Ended-clause-valid
returns-in-Ended-clause-valid g c = session_is_sound

pub returns-in-Ended-clause-accepted : goal.returns-in-Ended-clause-accepted
returns-in-Ended-clause-accepted g c = written_theorems_hold

pub returns-in-Ended-clause-origin : goal.returns-in-Ended-clause-origin
returns-in-Ended-clause-origin g c = databases_are_from_files

pub returns-in-Ended-clause-written : goal.returns-in-Ended-clause-written
returns-in-Ended-clause-written g c = puts_the_database

pub loop-status-preserved : goal.loop-status-preserved
loop-status-preserved g c =
    let inv = c.loop-status.invariant in (
      (rw c.in-GoesOn.is at c.take_turn.ensures.turns c.args.words.now c.args.files.now c.args.input.now c.new-output.result.screen.now (recording c.new-output.result.recorders.now) inv.0).0,
      (rw c.in-GoesOn.is at c.take_turn.ensures.input).stays refl ∙ inv.1,
      (rw c.in-GoesOn.is at c.take_turn.ensures.screen).stays refl ∙ inv.2,
      c.take_turn.ensures.same ∙ inv.3,
      c.take_turn.ensures.same_too ∙ inv.4,
      c.take_turn.ensures.ready,
      (rw c.in-GoesOn.is at c.take_turn.ensures.open) refl,
    )

pub returns-in-Ended-clause-session : goal.returns-in-Ended-clause-session
returns-in-Ended-clause-session g c =
    let says = rw c.in-Ended.is at c.take_turn.ensures.turns c.args.words.now c.args.files.now c.args.input.now c.new-output.result.screen.now (recording c.new-output.result.recorders.now) c.loop-status.invariant.0 in
    let fact : IsSession g.F.Files g.S.Source g.K.Sink c.args.words.now c.args.files.now c.args.input.now c.new-output.result.screen.now c.ended-in-Ended.result c.take_turn.new.files c.take_turn.new.input c.end.new.self.screen.now = rw (c.ended-in-Ended.ensures, c.end.ensures.screen) says.session_is in
    rw (c.screen-1.given.1 (sym (c.end.ensures.same ∙ (c.take_turn.ensures.same ∙ (c.loop-status.invariant.3 ∙ c.new-output.ensures.same)))), ← c.new-output.ensures.screen) fact

pub returns-in-Ended-clause-logs : goal.returns-in-Ended-clause-logs
returns-in-Ended-clause-logs g c =
    let rc = telling (λ vtable. (g.dyn-1.0.entry vtable).1) in
    let says = rw c.in-Ended.is at c.take_turn.ensures.turns c.args.words.now c.args.files.now c.args.input.now c.new-output.result.screen.now (recording c.new-output.result.recorders.now) c.loop-status.invariant.0 in
    let fact : KeepsLogs g.F.Files g.S.Source g.K.Sink rc c.args.words.now c.args.files.now c.args.input.now c.new-output.result.screen.now (recording c.new-output.result.recorders.now) c.ended-in-Ended.result c.take_turn.new.files c.take_turn.new.input c.end.new.self.screen.now (recording c.end.new.self.recorders.now) =
    rw (c.ended-in-Ended.ensures, c.end.ensures.screen)
    (keeps_logs g.F.Files g.S.Source g.K.Sink rc c.args.words.now c.args.files.now c.args.input.now c.new-output.result.screen.now (recording c.new-output.result.recorders.now) _ c.take_turn.new.files c.take_turn.new.input c.take_turn.new.output.screen.now _ _ (rw c.new-output.ensures.recorders c.requires.closed) says c.end.ensures.heard) in
    rw (c.screen-1.given.1 (sym (c.end.ensures.same ∙ (c.take_turn.ensures.same ∙ (c.loop-status.invariant.3 ∙ c.new-output.ensures.same)))), c.recorders-1.given.1 (sym (c.end.ensures.same_too ∙ (c.take_turn.ensures.same_too ∙ (c.loop-status.invariant.4 ∙ c.new-output.ensures.same_too)))), ← c.new-output.ensures.screen, ← c.new-output.ensures.recorders) fact

pub returns-in-Err-clause-undone : goal.returns-in-Err-clause-undone
returns-in-Err-clause-undone g c = edits_are_undone

pub returns-in-Ended-clause-undone : goal.returns-in-Ended-clause-undone
returns-in-Ended-clause-undone g c = edits_are_undone

pub returns-in-Err-clause-back : goal.returns-in-Err-clause-back
returns-in-Err-clause-back g c = undos_lead_back

pub returns-in-Ended-clause-back : goal.returns-in-Ended-clause-back
returns-in-Ended-clause-back g c = undos_lead_back

pub returns-in-Err-clause-forward : goal.returns-in-Err-clause-forward
returns-in-Err-clause-forward g c = redos_lead_forward

pub returns-in-Ended-clause-forward : goal.returns-in-Ended-clause-forward
returns-in-Ended-clause-forward g c = redos_lead_forward

pub returns-in-Err-clause-undo_accepted : goal.returns-in-Err-clause-undo_accepted
returns-in-Err-clause-undo_accepted g c = undos_are_accepted

pub returns-in-Ended-clause-undo_accepted : goal.returns-in-Ended-clause-undo_accepted
returns-in-Ended-clause-undo_accepted g c = undos_are_accepted

pub returns-in-Err-clause-redo_accepted : goal.returns-in-Err-clause-redo_accepted
returns-in-Err-clause-redo_accepted g c = redos_are_accepted

pub returns-in-Ended-clause-redo_accepted : goal.returns-in-Ended-clause-redo_accepted
returns-in-Ended-clause-redo_accepted g c = redos_are_accepted
