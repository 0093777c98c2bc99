use Rattle.std.proofs.Common.{◌≡◌, true, length, vec_len, arith, sym, ◌∙◌}
use Rattle.mm_base.specs.Memory.{has_room_for_piece}
use Rattle.mm_base.proofs.LogLemmas.{has_bytes, heard_kept, order_heard}
use Rattle.mm_base.proofs.log_buffer.LogBuffer.hear.Goals as goal

pub invariant_of-self : goal.invariant_of-self
invariant_of-self c =
    let test : has_room_for_piece c.args.self.now c.args.piece.now ≡ true = sym c.has_room_for_piece.ensures ∙ c.if-has_room_for_piece.true in
    let h = has_bytes c.self.inside.text.items c.self.inside.places.items (vec_len c.self.inside.text) c.self.inside.pairs c.self.inside.room c.self.inside.told c.args.piece.now (rw (← c.self.view_is) at test) in
    (omega arith, omega arith, omega (arith, h, c.append.ensures.len), order_heard (vec_len c.self.inside.text) (length c.args.piece.now) _ _ c.self.invariant.3 c.append.ensures.len)

pub returns-then-has_room_for_piece : goal.returns-then-has_room_for_piece
returns-then-has_room_for_piece c =
    let test : has_room_for_piece c.args.self.now c.args.piece.now ≡ true = sym c.has_room_for_piece.ensures ∙ c.if-has_room_for_piece.true in
    rw (← c.self.view_is) (heard_kept _ _ c.args.piece.now _ _ _ _ _ _ c.append.ensures.items c.self.inside.text.ok.0 c.append.ensures.len c.self.invariant.3 (rw (← c.self.view_is) at test))
