use Rattle.std.proofs.Common.{◌≡◌}
use Rattle.mm_session.specs.Coming.{room}
use Rattle.mm_session.specs.Hearing.{AreReady, recording, telling}
use Rattle.mm_session.specs.Turns.{Stands}
use Rattle.mm_session.proofs.session.run_session.Given as goal

abbrev pub invariant-loop-status : goal.invariant-loop-status
invariant-loop-status g l =
    Stands g.F.Files g.S.Source g.K.Sink (telling (λ vtable. (g.dyn-1.0.entry vtable).1)) l.words l.initial.files l.initial.input l.initial.output.screen.now (recording l.initial.output.recorders.now) l.commands l.run l.files l.input l.output.screen.now (recording l.output.recorders.now)
    × (g.S.Source.faults l.input ≡ g.S.Source.faults l.initial.input) × (g.K.Sink.faults l.output.screen.now ≡ g.K.Sink.faults l.initial.output.screen.now)
    × (l.output.screen.ghost_name ≡ l.initial.output.screen.ghost_name) × (l.output.recorders.ghost_name ≡ l.initial.output.recorders.ghost_name)
    × AreReady (λ vtable. (g.dyn-1.0.entry vtable).1) l.output.recorders.now × (l.output.recorders.now.begun ≡ l.run.state.log_open)

abbrev pub decreases-loop-status : goal.decreases-loop-status
decreases-loop-status g l = room l.commands
