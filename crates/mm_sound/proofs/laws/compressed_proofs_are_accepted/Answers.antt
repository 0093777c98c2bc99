use Rattle.mm_sound.proofs.Labelled.{theorem_compressed, compressed_accepted, text_accepted, spelled_folds, may_prove}
use Rattle.mm_sound.proofs.laws.compressed_proofs_are_accepted.Goals as goal

pub returns-clause-runs : goal.returns-clause-runs
returns-clause-runs c = theorem_compressed c.args.bytes.now

pub returns-clause-accepted : goal.returns-clause-accepted
returns-clause-accepted c = compressed_accepted c.args.bytes.now

pub returns-clause-texts : goal.returns-clause-texts
returns-clause-texts c = text_accepted c.args.bytes.now

pub returns-clause-folds : goal.returns-clause-folds
returns-clause-folds c = spelled_folds c.args.bytes.now

pub returns-clause-stands : goal.returns-clause-stands
returns-clause-stands c = may_prove c.args.bytes.now
