use Rattle.std.proofs.Common.{◌∙◌, map, subst}
use Rattle.std.specs.List.Sorted.{IsPermutation}
use Rattle.mm_stated.specs.Statements.{stated}
use Rattle.mm_stated.specs.Needed.{candidates, needed_by}
use Rattle.mm_stated.proofs.Rising.{sorted_needed}
use Rattle.mm_stated.proofs.mandatory.mandatory_of.Goals as goal

pub returns : goal.returns
unfolding needed_by
returns c =
    sorted_needed (candidates c.args.table.now (map stated c.args.statements.now) c.args.essentials.now c.args.symbols.now) c.sort.new.self.items
    (subst (λ xs. IsPermutation xs c.sort.new.self.items) (c.in_ok-needed.ensures.items ∙ c.as_slice.ensures ∙ c.in_ok-gather_needed.ensures) c.sort.ensures.permutation) c.in_ok-sort.ensures.sorted
