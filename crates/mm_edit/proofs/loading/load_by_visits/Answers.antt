use Rattle.std.proofs.Common.{sym, subst}
use Rattle.mm_tree.proofs.Rooms.{same_error}
use Rattle.mm_edit.specs.Loading.{IsLoaded, fault_of_labels, loading}
use Rattle.mm_edit.proofs.LoadValid.{begun_proof, loaded_so, read_few, read_low, read_stand, refused_so, spent_so}
use Rattle.mm_edit.proofs.loading.load_by_visits.Goals as goal

pub of_labels-requires-clause-stand : goal.of_labels-requires-clause-stand
of_labels-requires-clause-stand g c = read_stand c.args.db.now c.args.at.0 c.args.labels.now c.requires.read

pub of_labels-requires-clause-fold : goal.of_labels-requires-clause-fold
of_labels-requires-clause-fold g c = read_low c.args.db.now c.args.at.0 c.args.labels.now c.requires.read

pub of_labels-requires-clause-few : goal.of_labels-requires-clause-few
of_labels-requires-clause-few g c = read_few c.args.db.now c.args.at.0 c.args.labels.now c.requires.read

pub returns-in_err-tree-clause-loaded : goal.returns-in_err-tree-clause-loaded
returns-in_err-tree-clause-loaded g c =
    let f = c.in_err-tree.field-0.0 in
    subst (IsLoaded (loading c.args.db.now c.args.at.0 c.args.set.now)) (sym (same_error c.from_residual.result (fault_of_labels f) c.from_residual.ensures.1 c.from_residual.ensures.0))
    (spent_so c.args.db.now c.args.at.0 c.args.set.now c.args.labels.now f c.requires.read c.in_err-tree.ensures.begun)

pub visit_all-requires-clause-valid : goal.visit_all-requires-clause-valid
visit_all-requires-clause-valid g c = begun_proof c.args.db.now c.args.at.0 c.in_ok-tree.tree.proof c.in_ok-tree.ensures.valid

pub returns-in-Ok-clause-loaded : goal.returns-in-Ok-clause-loaded
returns-in-Ok-clause-loaded g c =
    loaded_so c.args.db.now c.args.at.0 c.args.set.now c.args.labels.now c.in_ok-tree.tree c.settle.new.self.proof c.requires.read c.in_ok-tree.ensures.begun (rw c.settle.ensures.same c.in-Ok.ensures.tried)

pub returns-in-Err-clause-loaded : goal.returns-in-Err-clause-loaded
returns-in-Err-clause-loaded g c =
    rw c.fault_of_visit.ensures (refused_so c.args.db.now c.args.at.0 c.args.set.now c.args.labels.now c.in_ok-tree.tree c.in-Err.fault c.requires.read c.in_ok-tree.ensures.begun c.in-Err.ensures.tried)
