use Rattle.std.proofs.Common.{◌≡◌, ◌+◌, ◌*◌, None, drop, filter, map, take}
use Rattle.std.specs.List.{flat_map, list_all, range_with_len}
use Rattle.mm_improve.specs.Assertions.{matches}
use Rattle.mm_improve.specs.Finding.{may_serve, serves_at}
use Rattle.mm_chart.specs.Options.{first, is_there}
use Rattle.mm_improve.specs.Proving.{premise_proof, proof_of}
use Rattle.mm_improve.specs.Searches.{terms}
use Rattle.mm_improve.proofs.first_use.+serving.Given as goal

abbrev pub decreases-has_found : goal.decreases-has_found
decreases-has_found l = 5 * l.depth

abbrev pub decreases-serving_use : goal.decreases-serving_use
decreases-serving_use l = 5 * l.depth + 4

abbrev pub decreases-serving_match : goal.decreases-serving_match
decreases-serving_match l = 5 * l.depth + 3

abbrev pub decreases-serves : goal.decreases-serves
decreases-serves l = 5 * l.depth + 2

abbrev pub decreases-has_premise : goal.decreases-has_premise
decreases-has_premise l = 5 * l.depth + 1

abbrev pub invariant-serving_use-loop-number : goal.invariant-serving_use-loop-number
invariant-serving_use-loop-number l =
    first (serves_at (terms l.db l.prover.search) l.depth) (flat_map (λ id. map (λ sigma. record { id = id; sigma = sigma }) (matches (terms l.db l.prover.search) l.goal id)) (filter (may_serve (terms l.db l.prover.search)) (range_with_len 0 l.number))) ≡ None

abbrev pub invariant-serving_match-loop-sigma : goal.invariant-serving_match-loop-sigma
invariant-serving_match-loop-sigma l =
    first (λ s. serves_at (terms l.db l.prover.search) l.depth (record { id = l.id.0; sigma = s })) (take l.sigma-index l.sigma-items) ≡ None

abbrev pub invariant-serves-loop-premise : goal.invariant-serves-loop-premise
invariant-serves-loop-premise l =
    list_all (λ m. is_there (premise_proof (terms l.db l.prover.search) (proof_of (terms l.db l.prover.search) l.depth) l.sigma m)) l.premise-items
    ≡ list_all (λ m. is_there (premise_proof (terms l.db l.prover.search) (proof_of (terms l.db l.prover.search) l.depth) l.sigma m)) (drop l.premise-index l.premise-items)
