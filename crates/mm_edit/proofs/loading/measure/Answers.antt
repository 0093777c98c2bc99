use Rattle.std.proofs.Common.{sym, ◌∙◌, arith}
use Rattle.mm_proof.specs.Forests.{trees_in}
use Rattle.mm_edit.proofs.LoadedLemmas.{measured-ok}
use Rattle.mm_edit.proofs.loading.measure.Goals as goal

pub returns : goal.returns
returns c = measured-ok (trees_in c.args.db.now c.args.steps.now) c.in-Some.shape (sym c.in_ok-shape.ensures ∙ c.in-Some.is) (omega (arith, c.if-shape-gt-MOST_STEPS.false)) (omega (arith, c.if-shape-gt-MOST_LEVELS.false))
