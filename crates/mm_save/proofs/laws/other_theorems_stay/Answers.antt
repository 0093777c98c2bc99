use Rattle.mm_save.proofs.Saves.{others_kept, others_back}
use Rattle.mm_save.proofs.laws.other_theorems_stay.Goals as goal

pub returns-clause-kept : goal.returns-clause-kept
returns-clause-kept c = λ form x label own room other holds. others_kept c.args.bytes.now c.args.at.0 c.requires.read c.requires.theorem form x own room label other holds

pub returns-clause-back : goal.returns-clause-back
returns-clause-back c = λ form x label own room other holds. others_back c.args.bytes.now c.args.at.0 c.requires.read c.requires.theorem form x own room label other holds
