use Rattle.std.proofs.Common.{true, Ok, Err, subst, sym}
use Rattle.mm_command.specs.Meanings.{meaning_of}
use Rattle.mm_plain.proofs.Owned.{own-valid}
use Rattle.mm_subst.specs.Statements.{statement_of}
use Rattle.mm_undo.proofs.Lasting.{begun-marked}
use Rattle.mm_shell.specs.OpenProofs.{ProofState, seen_as}
use Rattle.mm_shell.specs.Sound.{IsOpenIn, IsProofOf}
use Rattle.mm_shell.specs.declared.refusal.Refusal.TheVariants.{OutOfMemory}
use Rattle.mm_edit_commands.specs.Edits.{EditsProof, edit_in}
use Rattle.mm_edit_commands.proofs.EditFits.{edit_keeps}
use Rattle.mm_edit_commands.proofs.EditLemmas.{proof_refused, proof_starved, proof_edited}
use Rattle.mm_edit_commands.proofs.KeepLemmas.{drafted, refused_open, back_open, kept_open}
use Rattle.mm_edit_commands.proofs.edits.edit_proof.Goals as goal

pub end_edit-requires-clause-own : goal.end_edit-requires-clause-own
end_edit-requires-clause-own g c =
    let p = c.proof.inside in
    let h : IsOpenIn c.args.database.now (seen_as p.theorem.0 p.tree p.history p.changed) = subst (IsOpenIn c.args.database.now) (sym c.proof.view_is) c.requires.held in
    own-valid c.args.database.now p.theorem.0 (statement_of c.args.database.now p.theorem.0) c.edit_tree.new.tree.proof h.own
    (edit_keeps (meaning_of c.args.command) c.args.settings.now c.args.database.now p.theorem.0 p.tree.proof c.edit_tree.new.tree.proof h.own h.theorem h.valid c.in-Ok.ensures.edited)

pub end_edit-requires-clause-few : goal.end_edit-requires-clause-few
end_edit-requires-clause-few g c =
    let p = c.proof.inside in
    let h : IsOpenIn c.args.database.now (seen_as p.theorem.0 p.tree p.history p.changed) = subst (IsOpenIn c.args.database.now) (sym c.proof.view_is) c.requires.held in
    let valid : IsProofOf c.args.database.now p.theorem.0 c.edit_tree.new.tree.proof
    = edit_keeps (meaning_of c.args.command) c.args.settings.now c.args.database.now p.theorem.0 p.tree.proof c.edit_tree.new.tree.proof h.own h.theorem h.valid c.in-Ok.ensures.edited in
    valid.few

pub returns-in-Err : goal.returns-in-Err
returns-in-Err g c =
    let p = c.proof.inside in
    let now : ProofState = seen_as p.theorem.0 c.edit_tree.new.tree p.history p.changed in
    subst (λ (x : ProofState). EditsProof (edit_in (meaning_of c.args.command) c.args.settings.now c.args.database.now x) x (Err c.in-Err.refusal) now) c.proof.view_is
    (proof_refused c.args.settings.now c.args.database.now (meaning_of c.args.command) (seen_as p.theorem.0 p.tree p.history p.changed) now c.edit_tree.new.tree.proof c.in-Err.refusal c.in-Err.ensures.edited
    (λ same. refused_open p.theorem.0 p.tree c.edit_tree.new.tree p.history p.changed c.proof.invariant.held c.in-Err.ensures.marks same))

pub returns-in-Err-end_edit : goal.returns-in-Err-end_edit
returns-in-Err-end_edit g c =
    let p = c.proof.inside in
    let m = c.mark-before.result in
    let now : ProofState = seen_as p.theorem.0 c.end_edit.new.tree c.end_edit.new.history p.changed in
    let begun = begun-marked p.tree.versions m c.proof.invariant.settled (c.mark-before.ensures.settled c.proof.invariant.settled) c.mark-before.ensures.alive c.mark-before.ensures.hand in
    let drafts = drafted p.tree.versions c.edit_tree.new.tree.versions p.history m c.proof.invariant.held begun c.in-Ok.ensures.marks c.in-Ok.ensures.begun in
    subst (λ (x : ProofState). EditsProof (edit_in (meaning_of c.args.command) c.args.settings.now c.args.database.now x) x (Err OutOfMemory) now) c.proof.view_is
    (proof_starved c.args.settings.now c.args.database.now (meaning_of c.args.command) (seen_as p.theorem.0 p.tree p.history p.changed) now c.edit_tree.new.tree.proof c.in-Ok.ensures.edited
    (back_open p.theorem.0 p.tree c.edit_tree.new.tree c.end_edit.new.tree p.history c.end_edit.new.history m p.changed c.mark-before.ensures.named drafts c.in-Err-end_edit.ensures))

pub returns-in-Ok-end_edit : goal.returns-in-Ok-end_edit
returns-in-Ok-end_edit g c =
    let p = c.proof.inside in
    let m = c.mark-before.result in
    let now : ProofState = seen_as p.theorem.0 c.end_edit.new.tree c.end_edit.new.history true in
    let begun = begun-marked p.tree.versions m c.proof.invariant.settled (c.mark-before.ensures.settled c.proof.invariant.settled) c.mark-before.ensures.alive c.mark-before.ensures.hand in
    let drafts = drafted p.tree.versions c.edit_tree.new.tree.versions p.history m c.proof.invariant.held begun c.in-Ok.ensures.marks c.in-Ok.ensures.begun in
    subst (λ (x : ProofState). EditsProof (edit_in (meaning_of c.args.command) c.args.settings.now c.args.database.now x) x (Ok c.in-Ok-end_edit.counts) now) c.proof.view_is
    (proof_edited c.args.settings.now c.args.database.now (meaning_of c.args.command) (seen_as p.theorem.0 p.tree p.history p.changed) now c.edit_tree.new.tree.proof c.in-Ok-end_edit.counts c.in-Ok.ensures.edited c.in-Ok-end_edit.ensures.counted
    (kept_open c.args.database.now p.theorem.0 p.tree c.edit_tree.new.tree c.end_edit.new.tree p.history c.end_edit.new.history m p.changed c.in-Ok-end_edit.counts c.mark-before.ensures.named drafts c.in-Ok-end_edit.ensures))
