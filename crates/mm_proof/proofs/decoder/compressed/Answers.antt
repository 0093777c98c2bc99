use Rattle.std.proofs.Common.{List, subst}
use Rattle.mm_proof.specs.Readers.{GivesSteps}
use Rattle.mm_proof.specs.Reading.{read}
use Rattle.mm_proof.specs.declared.step.StepKind.{StepKind}
use Rattle.mm_proof.proofs.Linked.{read_gives}
use Rattle.mm_proof.proofs.decoder.compressed.Goals as goal

pub returns-clause-sound : goal.returns-clause-sound
returns-clause-sound c =
    let P : List StepKind → Type 0 = λ x. GivesSteps c.read.result (read x c.new-letters.result) in
    read_gives c.args.db.now c.in_ok-kinds.kinds.items c.new-letters.result c.read.result c.in_ok-kinds.ensures.labels (subst P c.as_slice.ensures.value c.read.ensures)
