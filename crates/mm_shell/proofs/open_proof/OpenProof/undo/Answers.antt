use Rattle.std.proofs.Common.{Bool, ap, subst, ◌∙◌}
use Rattle.mm_undo.specs.Histories.{IsUndone, lists_of}
use Rattle.mm_shell.specs.OpenProofs.{ProofState, after_undo}
use Rattle.mm_shell.proofs.HistoryLemmas.{undone_so}
use Rattle.mm_shell.proofs.open_proof.OpenProof.undo.Goals as goal

pub returns-then-undo : goal.returns-then-undo
returns-then-undo c =
    let old = c.self.inside in
    undone_so old.theorem.0 old.tree c.undo.new.tree old.history c.undo.new.self old.changed
    (subst (λ (b : Bool). IsUndone b (lists_of old.tree.versions old.history) (lists_of c.undo.new.tree.versions c.undo.new.self) old.tree.proof c.undo.new.tree.proof) c.if-undo.true c.undo.ensures.undone)
    ∙ ap (λ (p : ProofState). after_undo p) c.self.view_is
