use Rattle.mm_base.proofs.RecorderLemmas.{memory_failed, part_same}
use Rattle.mm_base.proofs.mem_recorder.MemRecorderRecorder.finish.Goals as goal

pub returns-then-count-clause-fails : goal.returns-then-count-clause-fails
returns-then-count-clause-fails c = rw (← c.self.view_is) (memory_failed (λ ls. ls) (record { kept = c.self.inside.logs; begun = c.self.inside.begun; calls = c.self.inside.calls }) c.count.new.self (rw c.if-count.true at c.count.ensures) (part_same))
