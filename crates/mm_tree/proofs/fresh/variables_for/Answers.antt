use Rattle.std.proofs.Common.{◌≡◌, ℕ, List, ap, ◌∙◌}
use Rattle.std.specs.Prelude.{filter_map}
use Rattle.mm_scope.specs.Contents.{stated_at}
use Rattle.mm_stated.specs.Stated.{variable_of}
use Rattle.mm_tree.proofs.Made.{if-ok}
use Rattle.mm_tree.proofs.FreshVariables.{variables-premises}
use Rattle.mm_tree.proofs.fresh.variables_for.Goals as goal

pub returns : goal.returns
returns c = if-ok c.variables_among.result _ _ (λ v e. e ∙ ap (filter_map (λ (id : ℕ). variable_of (stated_at c.args.db.now id))) c.premises.ensures.ids ∙ variables-premises c.args.db.now c.args.id.0) c.variables_among.ensures
