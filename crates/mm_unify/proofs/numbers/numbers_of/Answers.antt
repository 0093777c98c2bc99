use Rattle.std.proofs.Common.{[], ◌∙◌, ap}
use Rattle.std.proofs.lemmas.List.{append-nil}
use Rattle.mm_unify.specs.Variables.{numbers}
use Rattle.mm_unify.proofs.numbers.numbers_of.Goals as goal

pub returns : goal.returns
returns c =
    let e = c.in_ok-add_numbers.ensures [] c.new-numbers.ensures.items in
    c.in_ok-add_numbers-2.ensures c.args.b.now (e ∙ ap numbers (append-nil c.args.b.now))
