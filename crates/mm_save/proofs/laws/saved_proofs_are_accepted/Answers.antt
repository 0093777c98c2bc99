use Rattle.std.proofs.Common.{refl}
use Rattle.mm_scope.specs.Contents.{distinct_at}
use Rattle.mm_subst.specs.Statements.{statement_of}
use Rattle.mm_plain.proofs.Owned.{own-valid}
use Rattle.mm_save.proofs.Clashing.{apart_by}
use Rattle.mm_save.proofs.Saves.{accepted_by}
use Rattle.mm_save.proofs.laws.saved_proofs_are_accepted.Goals as goal

pub returns-clause-proved : goal.returns-clause-proved
returns-clause-proved c = λ form p proves room.
    accepted_by c.args.bytes.now c.args.at.0 c.requires.read c.requires.theorem p.plain
    (own-valid c.args.bytes.now c.args.at.0 (statement_of c.args.bytes.now c.args.at.0) p c.requires.own proves.valid) form room p refl c.requires.own proves

pub returns-clause-without_clash : goal.returns-clause-without_clash
returns-clause-without_clash c = λ form p valid complete none room.
    accepted_by c.args.bytes.now c.args.at.0 c.requires.read c.requires.theorem p.plain
    (own-valid c.args.bytes.now c.args.at.0 (statement_of c.args.bytes.now c.args.at.0) p c.requires.own valid) form room p refl c.requires.own
    (record { valid = valid; complete = complete; apart = apart_by c.args.bytes.now (distinct_at c.args.bytes.now c.args.at.0) p.plain none })
