use Rattle.mm_sound.proofs.Spelled.{written_spells}
use Rattle.mm_sound.proofs.laws.written_proofs_spell_their_steps.Goals as goal

pub returns : goal.returns
returns c = written_spells c.args.bytes.now
