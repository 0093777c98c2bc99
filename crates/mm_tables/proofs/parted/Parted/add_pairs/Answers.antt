use Rattle.std.proofs.Common.{ap, sym, ◌∙◌, ◌++◌}
use Rattle.std.proofs.lemmas.List.{append-nil}
use Rattle.mm_tables.proofs.Distinct.{none_with}
use Rattle.mm_tables.proofs.parted.Parted.add_pairs.Goals as goal

pub returns-then-not-holds : goal.returns-then-not-holds
returns-then-not-holds c =
    sym (append-nil c.args.pairs.now.items)
    ∙ ap (λ ys. c.args.pairs.now.items ++ ys) (sym (none_with c.args.self.now c.args.first c.args.later.now (sym c.holds.ensures ∙ c.if-not-holds.true)))
