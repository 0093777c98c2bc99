use Rattle.std.proofs.Common.{Some, ap, sym, ◌∙◌}
use Rattle.std.specs.Option.{option_map}
use Rattle.mm_tree.specs.Lines.{string_now}
use Rattle.mm_tree.proofs.Bindings.{value_at-values_now}
use Rattle.mm_tree.proofs.sources.value_now.Goals as goal

pub returns-in_default : goal.returns-in_default
returns-in_default c = sym (value_at-values_now c.args.line.now c.args.sigma.now.birth c.args.sigma.now.pairs c.args.key ∙ ap (option_map (string_now c.args.line.now c.args.sigma.now.birth)) c.in_default.ensures)

pub returns : goal.returns
returns c = ap Some c.in_ok-now.ensures
    ∙ sym (value_at-values_now c.args.line.now c.args.sigma.now.birth c.args.sigma.now.pairs c.args.key ∙ ap (option_map (string_now c.args.line.now c.args.sigma.now.birth)) c.in-Some.ensures)
