use Rattle.std.proofs.Common.{◌≡◌, ℕ, true, List, sym, ap, ◌∙◌, subst}
use Rattle.mm_subst.specs.Statements.{statement_of}
use Rattle.mm_plain.specs.declared.plain.Plain.{Plain}
use Rattle.mm_plain.specs.Numbers.{HasOwnLabels}
use Rattle.mm_plain.proofs.Owned.{own-valid}
use Rattle.mm_splice.specs.Keeping.{KeepsTheRest}
use Rattle.mm_splice.specs.Splicing.{spliced, is_proof_text}
use Rattle.mm_save.specs.Saving.{saved_text}
use Rattle.mm_save.proofs.Room.{read_room}
use Rattle.mm_save.proofs.Texts.{text_fine}
use Rattle.mm_save.proofs.save.save_tree.Goals as goal

pub splice-requires-clause-text : goal.splice-requires-clause-text
splice-requires-clause-text c =
    let bytes : List ℕ = c.args.db.now in
    let x : Plain = c.args.tree.now.proof.plain in
    let own : HasOwnLabels bytes x = own-valid bytes c.args.at.0 (statement_of bytes c.args.at.0) c.args.tree.now.proof c.requires.own c.requires.valid in
    let is : c.as_slice.result.now ≡ saved_text bytes c.args.at.0 c.args.form x = c.as_slice.ensures.value ∙ c.in_ok-text.ensures in
    subst (λ (t : List ℕ). is_proof_text t ≡ true) (sym is) (text_fine bytes c.args.at.0 c.args.form x own)

pub returns-in-Ok : goal.returns-in-Ok
returns-in-Ok c =
    let bytes : List ℕ = c.args.db.now in
    let at : ℕ = c.args.at.0 in
    let x : Plain = c.args.tree.now.proof.plain in
    let text : List ℕ = saved_text bytes at c.args.form x in
    let is : c.as_slice.result.now ≡ text = c.as_slice.ensures.value ∙ c.in_ok-text.ensures in
    let kept : KeepsTheRest bytes at text = subst (KeepsTheRest bytes at) is c.in-Ok.ensures.1 in
    record { is = c.in-Ok.ensures.0 ∙ ap (spliced bytes at) is; keeps = kept; room = read_room (spliced bytes at text) kept.read }
