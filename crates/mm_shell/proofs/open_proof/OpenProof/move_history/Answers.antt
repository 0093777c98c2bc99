use Rattle.std.proofs.Common.{ap, ◌∙◌}
use Rattle.mm_shell.specs.OpenProofs.{ProofState, with_depth}
use Rattle.mm_shell.proofs.HistoryLemmas.{depth_so}
use Rattle.mm_shell.proofs.open_proof.OpenProof.move_history.Goals as goal

pub returns : goal.returns
returns c =
    let old = c.self.inside in
    depth_so old.theorem.0 old.tree old.history c.move_to.new.self old.changed c.args.rings c.move_to.ensures.moved ∙ ap (λ (p : ProofState). with_depth c.args.rings p) c.self.view_is
