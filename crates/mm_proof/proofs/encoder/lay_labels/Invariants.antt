use Rattle.std.proofs.Common.{◌≡◌, map, take}
use Rattle.mm_layout.specs.Laid.{laid}
use Rattle.mm_proof.specs.Encoding.{word_of}
use Rattle.mm_proof.proofs.encoder.lay_labels.Given as goal

abbrev pub invariant-loop-label : goal.invariant-loop-label
invariant-loop-label l = l.layout ≡ laid (map (word_of l.db) (take l.label-index l.labels))
