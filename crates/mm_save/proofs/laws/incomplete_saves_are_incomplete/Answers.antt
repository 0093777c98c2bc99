use Rattle.std.proofs.Common.{refl}
use Rattle.mm_subst.specs.Statements.{statement_of}
use Rattle.mm_plain.proofs.Owned.{own-valid}
use Rattle.mm_save.proofs.Saves.{incomplete_by}
use Rattle.mm_save.proofs.laws.incomplete_saves_are_incomplete.Goals as goal

pub returns : goal.returns
returns c = λ p valid settled apart some room.
    incomplete_by c.args.bytes.now c.args.at.0 c.requires.read c.requires.theorem p.plain
    (own-valid c.args.bytes.now c.args.at.0 (statement_of c.args.bytes.now c.args.at.0) p c.requires.own valid) room p refl c.requires.own valid settled apart some
