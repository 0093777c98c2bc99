use Rattle.std.proofs.Common.{[], List, sym, subst}
use Rattle.mm_proof.specs.Steps.{IsLinked, AreLinked}
use Rattle.mm_proof.specs.declared.step.ProofStep.{ProofStep}
use Rattle.mm_proof.proofs.Linked.{linked_more}
use Rattle.mm_proof.proofs.step.ProofSteps.push.Goals as goal

pub invariant_of-self-2 : goal.invariant_of-self-2
invariant_of-self-2 c =
    let P : List ProofStep → Type 0 = λ x. AreLinked [] x in
    let Q : List ProofStep → Type 0 = λ x. IsLinked x c.args.step.kind in
    subst P (sym c.in_ok-push.ensures.items) (linked_more [] c.self.inside.items.items c.args.step c.self.invariant (subst Q (sym c.self.view_is) c.requires))
