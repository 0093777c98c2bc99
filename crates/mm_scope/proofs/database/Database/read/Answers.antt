use Rattle.std.proofs.Common.{refl, subst}
use Rattle.mm_scope.specs.ByTables.{tables_of}
use Rattle.mm_scope.specs.Contexts.{Fails}
use Rattle.mm_scope.proofs.Bridge.{fault_matches}
use Rattle.mm_scope.proofs.database.Database.read.Goals as goal

pub returns-in-Err : goal.returns-in-Err
returns-in-Err c = (refl, fault_matches c.args.bytes.items c.in-Err.fault (subst (λ b. Fails c.in-Err.fault (tables_of b)) c.as_slice.ensures.value c.in-Err.ensures))
