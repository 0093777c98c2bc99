use Rattle.std.proofs.Common.{List, Option, arith, sym, ◌∙◌, ap, subst}
use Rattle.std.specs.Prelude.{IfSome}
use Rattle.mm_subst.specs.declared.symbol.WSym.{WSym}
use Rattle.mm_tree.specs.Trees.{State}
use Rattle.mm_subst.specs.Symbols.{has_work}
use Rattle.mm_plain.specs.Shape.{target_of}
use Rattle.mm_plain.specs.Valid.{IsString, IsValid, first_setting, setting_of}
use Rattle.mm_plain.proofs.Moved.{sound-below}
use Rattle.mm_tree.proofs.Rooms.{same_error}
use Rattle.mm_edit.specs.Edited.{graft_fault_of, improve_fault_of}
use Rattle.mm_edit.specs.Proving.{found_by}
use Rattle.mm_edit.proofs.ImproveLemmas.{IsPart, filled-err, found-filled, found-not_grafted, not-found, part-so}
use Rattle.mm_edit.proofs.Improving.{target-fixed}
use Rattle.mm_edit.proofs.improvement.fill_goal.Goals as goal

pub prove-requires-clause-string : goal.prove-requires-clause-string
prove-requires-clause-string g c =
    subst (IsString (first_setting c.args.db.now c.args.prover.now.search.at.0)) c.requires.target
    (target-fixed c.args.db.now c.args.prover.now.search.at.0 (target_of c.args.tree.now.proof.plain) c.args.tree.now.proof c.args.step c.requires.valid.valid c.requires.exists.0 c.requires.exists.1 (ap has_work c.requires.target ∙ c.requires.plain))

pub returns-in_err-prove-clause-filled : goal.returns-in_err-prove-clause-filled
returns-in_err-prove-clause-filled g c =
    let found = found_by c.args.db.now c.args.prover.now.search c.args.depth c.args.goal.now in
    let f = c.in_err-prove.field-0.0 in
    filled-err found c.args.tree.now.proof c.args.tree.now.proof c.args.step c.from_residual.result (improve_fault_of f)
    (same_error c.from_residual.result (improve_fault_of f) c.from_residual.ensures.1 c.from_residual.ensures.0)
    (not-found found c.args.tree.now.proof c.args.step f c.in_err-prove.ensures.found)

pub returns-in_err-graft-in-Some-clause-filled : goal.returns-in_err-graft-in-Some-clause-filled
returns-in_err-graft-in-Some-clause-filled g c =
    let found = found_by c.args.db.now c.args.prover.now.search c.args.depth c.args.goal.now in
    let w : IsPart found c.in-Some.part = part-so found c.in_ok-prove.field-0 c.in-Some.part c.in-Some.is c.in_ok-prove.ensures.found in
    let f = c.in_err-graft-in-Some.field-0.0 in
    filled-err found c.args.tree.now.proof c.graft.new.self.proof c.args.step c.from_residual-in_err-graft-in-Some.result (graft_fault_of f)
    (same_error c.from_residual-in_err-graft-in-Some.result (graft_fault_of f) c.from_residual-in_err-graft-in-Some.ensures.1 c.from_residual-in_err-graft-in-Some.ensures.0)
    (found-not_grafted found c.args.tree.now.proof c.args.step c.in-Some.part c.args.tree.now c.graft.new.self f w c.in_err-graft-in-Some.ensures.grafted)

pub returns-in_ok-graft-in-Some-clause-filled : goal.returns-in_ok-graft-in-Some-clause-filled
returns-in_ok-graft-in-Some-clause-filled g c =
    let found = found_by c.args.db.now c.args.prover.now.search c.args.depth c.args.goal.now in
    let w : IsPart found c.in-Some.part = part-so found c.in_ok-prove.field-0 c.in-Some.part c.in-Some.is c.in_ok-prove.ensures.found in
    let placed = c.in_ok-graft-in-Some.ensures.grafted in
    found-filled found c.args.tree.now.proof c.graft.new.self.proof c.args.step c.in-Some.part w placed.0 placed.1 placed.2

pub returns-in_ok-graft-in-Some-clause-valid : goal.returns-in_ok-graft-in-Some-clause-valid
returns-in_ok-graft-in-Some-clause-valid g c =
    let bytes = c.args.db.now in
    let at = c.args.prover.now.search.at.0 in
    let p = c.args.tree.now.proof in
    let aim = target_of p.plain in
    let found = found_by bytes c.args.prover.now.search c.args.depth c.args.goal.now in
    let w : IsPart found c.in-Some.part = part-so found c.in_ok-prove.field-0 c.in-Some.part c.in-Some.is c.in_ok-prove.ensures.found in
    let alone : IsValid bytes at c.args.goal.now c.in-Some.part.proof = subst (λ (o : Option State). IfSome o (λ t. IsValid bytes at c.args.goal.now t.proof)) c.in-Some.is c.in_ok-prove.ensures.valid in
    let first = w.first in
    let counter = c.requires.valid.valid.counter.0 in
    record {
      valid = c.in_ok-graft-in-Some.ensures.valid bytes at aim c.requires.valid.valid (subst (λ (t : List WSym). IsValid bytes at t c.in-Some.part.proof) (sym c.requires.target) alone)
          (sound-below (setting_of bytes at c.in-Some.part.proof) p.next (omega arith) c.in-Some.part.proof.plain alone.steps);
      fixed = c.requires.valid.fixed;
    }
