use Rattle.std.proofs.Common.{◌∙◌, ap, nat_eq}
use Rattle.std.specs.List.{list_any}
use Rattle.mm_tables.specs.Changes.{is_now}
use Rattle.mm_tables.proofs.Changing.{is_odd}
use Rattle.mm_tables.proofs.declarations.Declarations.is_now.Goals as goal

pub returns : goal.returns
returns c =
    is_odd c.numbers.result.now
    ∙ ap is_now c.numbers.ensures
    ∙ c.self.invariant.now c.args.variable
    ∙ ap (λ l. list_any (nat_eq c.args.variable) l.now) c.self.view_is
