use Rattle.std.proofs.Common.{subst}
use Rattle.mm_stated.specs.Typecodes.{AreTypecodes}
use Rattle.mm_scope.proofs.Tabled.{keeps, keeps_moments}
use Rattle.mm_scope.proofs.database.database_of.Goals as goal

pub invariant_of-result : goal.invariant_of-result
invariant_of-result c =
    let kept = keeps c.args.bytes.items c.args.reader c.requires.tables in
    (kept, keeps_moments c.args.bytes.items c.args.reader c.requires.tables, subst (AreTypecodes c.args.typecodes) kept.statements_kept c.requires.typecodes)
