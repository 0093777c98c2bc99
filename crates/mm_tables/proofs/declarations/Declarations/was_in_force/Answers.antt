use Rattle.std.proofs.Common.{rules, ◌∙◌, ◌<◌, ap, subst, sym, nat_eq, nat_le, length, get_or, [], List, ℕ}
use Rattle.std.specs.List.{list_any}
use Rattle.std.specs.List.Sorted.{IsNonDecreasing}
use Rattle.std.proofs.lemmas.List.Sorted.{IsPartitionPoint-from_clause, IsPartitionedBy-leb}
use Rattle.mm_tables.specs.Changes.{was_at}
use Rattle.mm_tables.proofs.Changing.{up_to}
use Rattle.mm_tables.proofs.declarations.Declarations.was_in_force.Goals as goal

pub returns : goal.returns
returns c =
    let k = c.args.moment in
    let cs : List ℕ = c.numbers-changes.result.now in
    let small : k < length c.self.inside.layers.moments = subst (λ l. k < length l.moments) (sym c.self.view_is) c.requires in
    let rising : IsNonDecreasing cs = subst (λ xs. IsNonDecreasing xs) (sym c.numbers-changes.ensures) (c.self.invariant.rising c.args.variable) in
    let split = IsPartitionPoint-from_clause (λ x. nat_le x k) cs c.partition_point.result c.partition_point.ensures.partitioned (IsPartitionedBy-leb (λ x. x) cs k rising) (λ a r f h. search rules) in
    up_to k c.partition_point.result cs c.partition_point.ensures.bound split
    ∙ ap (was_at k) c.numbers-changes.ensures
    ∙ c.self.invariant.earlier c.args.variable k small
    ∙ ap (λ l. list_any (nat_eq c.args.variable) (get_or l.moments k [])) c.self.view_is
