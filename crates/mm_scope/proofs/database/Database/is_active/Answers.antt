use Rattle.std.proofs.Common.{◌∙◌}
use Rattle.mm_scope.proofs.ActiveNow.{active_now}
use Rattle.mm_scope.proofs.database.Database.is_active.Goals as goal

pub returns-then-hypothesis-at : goal.returns-then-hypothesis-at
returns-then-hypothesis-at c =
    c.is_before.ensures
    ∙ active_now c.self.inside.bytes.items c.args.self.now c.self.inside.until.items c.args.hypothesis.0 c.args.at.0 c.self.view_is
    c.self.invariant.0.active c.self.invariant.0.until_kept c.requires.hypothesis c.requires.at c.if-hypothesis-at.true c.index.result.now c.index.ensures
