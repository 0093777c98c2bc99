use Rattle.std.proofs.Common.{ℕ, zero, suc, refl, ◌≡◌, ◌<◌, [], Ok, Err, sym, ◌∙◌, ap, subst, arith}
use Rattle.std.specs.Prelude.{Result}
use Rattle.mm_stated.specs.Stated.{is_hypothesis}
use Rattle.mm_plain.specs.Shape.{Proof}
use Rattle.mm_edit.specs.Improving.{all_improved}
use Rattle.mm_edit.specs.declared.edit_fault.EditFault.{EditFault}
use Rattle.mm_shell.specs.declared.refusal.Refusal.TheVariants.{NothingChanged}
use Rattle.mm_edit.specs.Edited.{IsDoneTimes}
use Rattle.mm_edit.specs.Proving.{proofs_found}
use Rattle.mm_edit.proofs.ImproveLemmas.{improved-none, improved-ok, improved-refused}
use Rattle.mm_shell.specs.Answers.{or_refusal}
use Rattle.mm_edit_commands.specs.Edits.{EditsTree}
use Rattle.mm_edit_commands.proofs.EditFits.{of_target}
use Rattle.mm_edit_commands.proofs.EditLemmas.{edit_done, edit_refused}
use Rattle.mm_edit_commands.specs.Refusals.{edit_refusal}
use Rattle.mm_edit_commands.proofs.improve.improve_all.Goals as goal

pub improve_all-requires-clause-assertion : goal.improve_all-requires-clause-assertion
improve_all-requires-clause-assertion g c = ap is_hypothesis c.requires.theorem

pub improve_all-requires-clause-valid : goal.improve_all-requires-clause-valid
improve_all-requires-clause-valid g c = of_target c.args.database.now c.args.theorem.0 c.args.tree.now.proof c.requires.valid

pub returns-in-Err-clause-edited : goal.returns-in-Err-clause-edited
returns-in-Err-clause-edited g c =
    let p = c.args.tree.now.proof in
    let prove = proofs_found c.args.database.now c.args.theorem.0 c.args.settings.now c.args.no_distinct c.depth_of-depth.result in
    subst (λ (d : ℕ). EditsTree (or_refusal (all_improved (proofs_found c.args.database.now c.args.theorem.0 c.args.settings.now c.args.no_distinct d) p) (edit_refusal [] 0)) p (Err c.edit_refusal.result) c.improve_all.new.tree.proof) c.depth_of-depth.ensures
    (rw c.edit_refusal.ensures (edit_refused [] 0 (all_improved prove p) c.in-Err.fault p c.improve_all.new.tree.proof (improved-refused prove p c.improve_all.new.tree.proof c.in-Err.fault c.in-Err.ensures.done)))

pub returns-then-count-eq0-clause-edited : goal.returns-then-count-eq0-clause-edited
returns-then-count-eq0-clause-edited g c =
    let p = c.args.tree.now.proof in
    let prove = proofs_found c.args.database.now c.args.theorem.0 c.args.settings.now c.args.no_distinct c.depth_of-depth.result in
    let none = sym c.in-Ok.ensures.done.1 ∙ c.if-count-eq0.true in (
      subst (λ (d : ℕ). Err NothingChanged ≡ or_refusal (all_improved (proofs_found c.args.database.now c.args.theorem.0 c.args.settings.now c.args.no_distinct d) p) (edit_refusal [] 0)) c.depth_of-depth.ensures
          (ap (λ (r : Result Proof EditFault). or_refusal r (edit_refusal [] 0)) (sym (improved-none prove p none))),
      ap (λ s. s.proof) (c.in-Ok.ensures.none c.if-count-eq0.true),
    )

above : (n : ℕ) → (n ≡ 0 → ⊥) → 0 < n
above zero h = absurd (h refl)
above (suc n) h = omega arith

pub returns-else-count-eq0-clause-edited : goal.returns-else-count-eq0-clause-edited
returns-else-count-eq0-clause-edited g c =
    let p = c.args.tree.now.proof in
    let prove = proofs_found c.args.database.now c.args.theorem.0 c.args.settings.now c.args.no_distinct c.depth_of-depth.result in
    subst (λ (d : ℕ). or_refusal (all_improved (proofs_found c.args.database.now c.args.theorem.0 c.args.settings.now c.args.no_distinct d) p) (edit_refusal [] 0) ≡ Ok c.improve_all.new.tree.proof) c.depth_of-depth.ensures
    (edit_done (edit_refusal [] 0) (all_improved prove p) p c.improve_all.new.tree.proof (improved-ok prove p c.improve_all.new.tree.proof c.in-Ok.count (above c.in-Ok.count c.if-count-eq0.false) c.in-Ok.ensures.done))
