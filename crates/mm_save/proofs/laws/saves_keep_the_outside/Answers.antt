use Rattle.mm_save.proofs.Saves.{outside_in_turn, saved_again}
use Rattle.mm_save.proofs.laws.saves_keep_the_outside.Goals as goal

pub returns-clause-outside : goal.returns-clause-outside
returns-clause-outside c = λ xs room. outside_in_turn c.args.bytes.now c.args.at.0 xs c.requires.read c.requires.theorem room

pub returns-clause-again : goal.returns-clause-again
returns-clause-again c = λ form other x y own room. saved_again c.args.bytes.now c.args.at.0 c.requires.read c.requires.theorem form x own room other y
