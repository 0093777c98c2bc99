use Rattle.std.proofs.Common.{ℕ, List, sym, subst}
use Rattle.std.specs.List.{AllByRecursion}
use Rattle.mm_proof.specs.Steps.{IsOwn}
use Rattle.mm_proof.specs.declared.step.ProofStep.{ProofStep}
use Rattle.mm_save.proofs.Spelling.{own_steps}
use Rattle.mm_save.proofs.text.compressed_text.Goals as goal

pub encode_compressed-requires-clause-own : goal.encode_compressed-requires-clause-own
encode_compressed-requires-clause-own c =
    let bytes : List ℕ = c.args.db.now in
    let Own : List ProofStep → Type 0 = AllByRecursion (λ (s : ProofStep). IsOwn bytes s.kind) in
    subst Own (sym c.in_ok-steps.ensures) (own_steps bytes c.args.labels.now c.requires.labels)
