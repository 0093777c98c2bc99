use Rattle.std.proofs.Common.{◌≡◌, true, length, arith, sym, ◌∙◌}
use Rattle.mm_base.specs.Memory.{has_room_for_log}
use Rattle.mm_base.proofs.LogLemmas.{has_place, begun_kept, order_begun}
use Rattle.mm_base.proofs.log_buffer.LogBuffer.begin.Goals as goal

pub push_reserved-requires : goal.push_reserved-requires
push_reserved-requires c =
    let test : has_room_for_log c.args.self.now c.args.name.now ≡ true = sym c.has_room_for_log.ensures ∙ c.if-has_room_for_log.true in
    let h = has_place c.self.inside.text.items c.self.inside.places.items _ _ _ _ c.args.name.now (rw (← c.self.view_is) at test) in
    omega (arith, h.0, c.self.invariant.1, c.self.inside.places.ok.0)

pub invariant_of-self : goal.invariant_of-self
invariant_of-self c =
    let test : has_room_for_log c.args.self.now c.args.name.now ≡ true = sym c.has_room_for_log.ensures ∙ c.if-has_room_for_log.true in
    let h = has_place c.self.inside.text.items c.self.inside.places.items _ _ _ _ c.args.name.now (rw (← c.self.view_is) at test) in
    (omega arith, omega arith, omega (arith, h.1, c.append.ensures.len), order_begun _ (length c.args.name.now) _ _ _ _ c.self.invariant.3 c.append.ensures.len c.len-here.ensures c.push_reserved.ensures.items)

pub returns-then-has_room_for_log : goal.returns-then-has_room_for_log
returns-then-has_room_for_log c =
    let test : has_room_for_log c.args.self.now c.args.name.now ≡ true = sym c.has_room_for_log.ensures ∙ c.if-has_room_for_log.true in
    rw (← c.self.view_is) (begun_kept _ _ c.args.name.now _ _ _ _ _ _ _ _ c.append.ensures.items c.push_reserved.ensures.items c.len-here.ensures c.self.inside.text.ok.0 c.append.ensures.len c.self.invariant.3 (rw (← c.self.view_is) at test))
