use Rattle.std.proofs.Common.{◌≡◌, map, take}
use Rattle.mm_layout.specs.Laid.{laid}
use Rattle.mm_sound.specs.Written.{word_for}
use Rattle.mm_save.proofs.text.normal_text.Given as goal

abbrev pub invariant-loop-label : goal.invariant-loop-label
invariant-loop-label l = l.layout ≡ laid (map (word_for l.db) (take l.label-index l.labels))
