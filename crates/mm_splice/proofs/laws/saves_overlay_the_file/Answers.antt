use Rattle.mm_splice.proofs.Agreeing.{agrees_at_begin, agrees_with_more, after_more, can_more, agrees_after}
use Rattle.mm_splice.proofs.laws.saves_overlay_the_file.Goals as goal

pub returns-clause-before_saves : goal.returns-clause-before_saves
returns-clause-before_saves c = agrees_at_begin c.args.file.now c.requires.read

pub returns-clause-with_a_save : goal.returns-clause-with_a_save
returns-clause-with_a_save c = λ saves now save agrees can. agrees_with_more c.args.file.now saves now save agrees can

pub returns-clause-one_more : goal.returns-clause-one_more
returns-clause-one_more c = λ saves save. after_more c.args.file.now saves save

pub returns-clause-can_be_made : goal.returns-clause-can_be_made
returns-clause-can_be_made c = λ saves save can more. can_more c.args.file.now saves save can more

pub returns-clause-after_all : goal.returns-clause-after_all
returns-clause-after_all c = λ saves can. agrees_after c.args.file.now saves c.requires.read can
