use Rattle.mm_step.proofs.ReplyLemmas.{counts_still, told_sound}
use Rattle.mm_step.proofs.RunLemmas.{tells_apart}
use Rattle.mm_step.proofs.perform.call_files.Goals as goal

pub returns-in-Does : goal.returns-in-Does
returns-in-Does g c = record {
  effect = rw c.in-Does.is (tells_apart g.F.Files c.in-Does.done c.tell.result c.args.files.now c.tell.ensures);
  told = λ t. t;
  cause = rw (told_sound c.in-Does.done c.tell.result c.tell.ensures) (counts_still _);
}

pub returns-in-Loads-clause-effect : goal.returns-in-Loads-clause-effect
returns-in-Loads-clause-effect g c = rw c.in-Loads.is c.fetch.ensures.effect

pub returns-in-Puts-clause-effect : goal.returns-in-Puts-clause-effect
returns-in-Puts-clause-effect g c = rw c.in-Puts.is c.put.ensures.effect
