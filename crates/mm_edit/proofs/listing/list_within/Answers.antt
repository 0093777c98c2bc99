use Rattle.std.proofs.Common.{◌<◌, arith}
use Rattle.mm_unify.specs.declared.listing.Settings.{Settings}
use Rattle.mm_edit.specs.Listed.{listed}
use Rattle.mm_edit.proofs.Listings.{few-listed, few-of}
use Rattle.mm_edit.proofs.listing.list_within.Goals as goal

pub returns-clause-few : goal.returns-clause-few
returns-clause-few c =
    let set : Settings = record { rule = c.args.rule; trials = c.args.trials } in
    few-of c.unifiers.result (listed c.args.db.now set c.args.a.now c.args.b.now) c.args.trials c.unifiers.ensures.found
    (few-listed c.args.db.now set c.args.a.now c.args.b.now) (omega arith)
