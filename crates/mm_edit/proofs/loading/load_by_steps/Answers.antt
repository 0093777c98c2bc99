use Rattle.std.proofs.Common.{subst}
use Rattle.mm_edit.proofs.BuiltLaw.{HaveDistinct}
use Rattle.mm_edit.proofs.LoadValid.{built_so, read_few, read_low, read_stand}
use Rattle.mm_edit.proofs.loading.load_by_steps.Goals as goal

pub built-requires-clause-stand : goal.built-requires-clause-stand
built-requires-clause-stand g c = read_stand c.args.db.now c.args.at.0 c.args.labels.now c.requires.read

pub built-requires-clause-few : goal.built-requires-clause-few
built-requires-clause-few g c = read_few c.args.db.now c.args.at.0 c.args.labels.now c.requires.read

pub built-requires-clause-low : goal.built-requires-clause-low
built-requires-clause-low g c = read_low c.args.db.now c.args.at.0 c.args.labels.now c.requires.read

pub returns-in-Some-clause-loaded : goal.returns-in-Some-clause-loaded
returns-in-Some-clause-loaded g c =
    built_so c.args.db.now c.args.at.0 c.args.set.now c.args.labels.now c.in_ok-tree.field-0 c.in-Some.tree (subst HaveDistinct c.bytes.ensures.value c.mandatory_variables_differ.ensures) c.requires.read c.in_ok-tree.ensures.built c.in-Some.is
