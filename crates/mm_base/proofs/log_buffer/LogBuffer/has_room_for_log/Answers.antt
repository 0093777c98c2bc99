use Rattle.std.proofs.Common.{◌∙◌}
use Rattle.mm_base.proofs.LogLemmas.{room_for_log}
use Rattle.mm_base.proofs.log_buffer.LogBuffer.has_room_for_log.Goals as goal

pub returns : goal.returns
returns c =
    rw (← c.self.view_is) (room_for_log c.self.inside.text.items c.self.inside.places.items _ _ _ _ c.args.name.now c.len.result c.has_bytes.result (c.len.ensures ∙ c.self.inside.places.ok.0) (rw (← c.self.view_is) at c.has_bytes.ensures))
