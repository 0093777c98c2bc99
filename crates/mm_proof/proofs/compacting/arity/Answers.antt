use Rattle.std.proofs.Common.{ap, sym, ◌∙◌, arith}
use Rattle.mm_proof.specs.Forests.{arity_of}
use Rattle.mm_proof.proofs.Shaped.{arity_none}
use Rattle.mm_proof.proofs.compacting.arity.Goals.{then-label-eq0-via-then-label-eq0, then-label-eq0-via-else-label-eq0+then-label-count}
use Rattle.mm_proof.proofs.compacting.arity.Goals as goal

pub returns-then-label-eq0 : goal.returns-then-label-eq0
returns-then-label-eq0 c = elim c.then-label-eq0.branch [
  | then-label-eq0-via-then-label-eq0 w ↦ sym (ap (arity_of c.args.db.now) w.if-label-eq0.true ∙ arity_none c.args.db.now)
  | then-label-eq0-via-else-label-eq0+then-label-count w ↦ absurd (omega (arith, c.requires, c.count-count.ensures.labels, w.if-label-count.true))
]
