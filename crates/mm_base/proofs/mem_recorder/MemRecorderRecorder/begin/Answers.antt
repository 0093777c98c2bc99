use Rattle.mm_base.specs.Recorder.{begun_with}
use Rattle.mm_base.proofs.RecorderLemmas.{memory_failed, part_begun}
use Rattle.mm_base.proofs.mem_recorder.MemRecorderRecorder.begin.Goals as goal

pub returns-then-count-clause-fails : goal.returns-then-count-clause-fails
returns-then-count-clause-fails c = rw (← c.self.view_is) (memory_failed (begun_with c.args.name.now) (record { kept = c.self.inside.logs; begun = c.self.inside.begun; calls = c.self.inside.calls }) c.count.new.self (rw c.if-count.true at c.count.ensures) (part_begun c.args.name.now))
