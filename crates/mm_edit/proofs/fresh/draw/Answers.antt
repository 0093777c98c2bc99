use Rattle.std.proofs.Common.{ℕ, List, ap, length, subst, sym, ◌∙◌, arith}
use Rattle.mm_scope.specs.Contents.{statements_of, stated_at}
use Rattle.mm_scope.specs.Laws.{AllDiffer}
use Rattle.mm_stated.specs.Mandatory.{variables_of}
use Rattle.mm_edit.proofs.FreshLemmas.{fewer-variables}
use Rattle.mm_tree.proofs.FreshVariables.{variables-differ}
use Rattle.mm_edit.proofs.fresh.draw.Goals as goal

pub overflow_cast-len : goal.overflow_cast-len
overflow_cast-len c =
    let few = c.requires.few in
    omega (arith, few, c.len.ensures, ap length c.in_ok-variables.ensures, fewer-variables c.args.db.now c.args.id.0)

pub fresh_from-requires-clause-differ : goal.fresh_from-requires-clause-differ
fresh_from-requires-clause-differ c = subst AllDiffer (sym (c.as_slice.ensures.value ∙ c.in_ok-variables.ensures)) (variables-differ c.args.db.now c.args.id.0
    (subst (λ (bs : List ℕ). AllDiffer (variables_of (statements_of bs) (stated_at bs c.args.id.0).mandatory)) c.bytes.ensures.value (c.mandatory_variables_differ.ensures c.args.id.0)))
