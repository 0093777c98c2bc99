use Rattle.std.proofs.Common.{sym, ◌∙◌, subst}
use Rattle.mm_tree.proofs.Rooms.{same_error}
use Rattle.mm_edit.specs.Loading.{IsLoaded, IsRead, loading}
use Rattle.mm_edit.proofs.LoadValid.{cost_so, loaded_valid, read_so, stray_so}
use Rattle.mm_edit.proofs.LoadedLemmas.{loading-none}
use Rattle.mm_edit.proofs.loading.load.Goals as goal

pub returns-in_err-spelled-clause-loaded : goal.returns-in_err-spelled-clause-loaded
returns-in_err-spelled-clause-loaded g c =
    let f = c.in_err-spelled.field-0.0 in
    subst (IsLoaded (loading c.args.db.now c.args.at.0 c.args.set.now)) (sym (same_error c.from_residual.result f c.from_residual.ensures.1 c.from_residual.ensures.0))
    (λ other. loading-none c.args.db.now c.args.at.0 c.args.set.now f (c.in_err-spelled.ensures.labels other))

pub returns-then-not-may_stand_all-clause-loaded : goal.returns-then-not-may_stand_all-clause-loaded
returns-then-not-may_stand_all-clause-loaded g c =
    λ other. stray_so c.args.db.now c.args.at.0 c.args.set.now c.in_ok-spelled.labels.items c.as_slice.result.now c.in_ok-spelled.ensures.labels c.as_slice.ensures.value (sym c.may_stand_all.ensures ∙ c.if-not-may_stand_all.true)

pub load_by_steps-requires-clause-read : goal.load_by_steps-requires-clause-read
load_by_steps-requires-clause-read g c =
    read_so c.args.db.now c.args.at.0 c.in_ok-spelled.labels.items c.as_slice.result.now c.as_slice-2.result.now c.in_ok-spelled.ensures.labels c.as_slice.ensures.value c.as_slice-2.ensures.value (sym c.may_stand_all.ensures ∙ c.if-not-may_stand_all.false)

pub returns-clause-valid : goal.returns-clause-valid
returns-clause-valid g c = loaded_valid c.args.db.now c.args.at.0 c.args.set.now c.load_by_steps.result c.load_by_steps.ensures.loaded

pub returns-clause-cost : goal.returns-clause-cost
returns-clause-cost g c =
    let read : IsRead c.args.db.now c.args.at.0 c.as_slice-2.result.now =
    read_so c.args.db.now c.args.at.0 c.in_ok-spelled.labels.items c.as_slice.result.now c.as_slice-2.result.now c.in_ok-spelled.ensures.labels c.as_slice.ensures.value c.as_slice-2.ensures.value (sym c.may_stand_all.ensures ∙ c.if-not-may_stand_all.false) in
    cost_so c.args.db.now c.args.at.0 c.as_slice-2.result.now c.args.steps.now c.load_by_steps.new.steps read c.load_by_steps.ensures.cost
