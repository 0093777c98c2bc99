use Rattle.std.proofs.Common.{◌≡◌, ℕ, List, ap, length, ◌∙◌}
use Rattle.std.specs.Prelude.{filter_map}
use Rattle.mm_scope.specs.Contents.{stated_at}
use Rattle.mm_stated.specs.Stated.{variable_of}
use Rattle.mm_tree.proofs.FreshVariables.{variables-premises}
use Rattle.mm_tree.proofs.fresh.count_variables.Goals as goal

pub returns : goal.returns
returns c = c.count_among.ensures ∙ ap (λ (ids : List ℕ). length (filter_map (λ (id : ℕ). variable_of (stated_at c.args.db.now id)) ids)) c.premises.ensures.ids ∙ ap length (variables-premises c.args.db.now c.args.id.0)
