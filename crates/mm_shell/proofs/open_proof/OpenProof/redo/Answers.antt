use Rattle.std.proofs.Common.{Bool, ap, subst, ◌∙◌}
use Rattle.mm_undo.specs.Histories.{IsRedone, lists_of}
use Rattle.mm_shell.specs.OpenProofs.{ProofState, after_redo}
use Rattle.mm_shell.proofs.HistoryLemmas.{redone_so}
use Rattle.mm_shell.proofs.open_proof.OpenProof.redo.Goals as goal

pub returns-then-redo : goal.returns-then-redo
returns-then-redo c =
    let old = c.self.inside in
    redone_so old.theorem.0 old.tree c.redo.new.tree old.history c.redo.new.self old.changed
    (subst (λ (b : Bool). IsRedone b (lists_of old.tree.versions old.history) (lists_of c.redo.new.tree.versions c.redo.new.self) old.tree.proof c.redo.new.tree.proof) c.if-redo.true c.redo.ensures.redone)
    ∙ ap (λ (p : ProofState). after_redo p) c.self.view_is
