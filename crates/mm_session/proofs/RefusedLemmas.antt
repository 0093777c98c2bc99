-- What a refused command changes.
use Rattle.std.proofs.Common.{ℕ, List, Option, ap, ◌∙◌}
use Rattle.mm_step.specs.Effects.{add_put}
use Rattle.mm_step.specs.Asked.{asked_of}
use Rattle.mm_step.specs.Effects.{step_of}
use Rattle.mm_step.proofs.LawLemmas as step
use Rattle.mm_session.specs.Session.{Machine, Turn, session, turn}
use Rattle.mm_session.specs.Laws.{RefusedChangesNothing}
use Rattle.mm_session.proofs.SessionLemmas.{session_suc}

pub refused_changes_nothing : RefusedChangesNothing
unfolding step_of
refused_changes_nothing s n r =
    let t : Turn = turn s n in
    let still = step.refused_changes_nothing (asked_of t.line) t.machine.state t.map t.outcome r in (
      ap (λ (m : Machine). m.state) (session_suc s n) ∙ still.state_is,
      ap (λ (m : Machine). m.puts) (session_suc s n) ∙ ap (λ (p : Option (List ℕ × List ℕ)). add_put p (session s n).puts) still.put_is,
    )
