use Rattle.std.proofs.Common.{◌∙◌, ap, ◌++◌, ◌-◌, ◌≡◌, ℕ, List, take, arith, length, min, Bool, if◌then◌else◌, vec_len}
use Rattle.mm_lines.specs.Parts.{held}
use Rattle.mm_lines.proofs.PieceLemmas.{fits_more, take_min, not_err}
use Rattle.mm_lines.proofs.front.Front.add.Goals as goal

pub returns : goal.returns
returns c =
    let items = c.self.inside.bytes.items in
    let left = 65538 - vec_len c.self.inside.bytes in
    let same : vec_len c.self.inside.bytes ≡ length items = c.self.inside.bytes.ok.0 in
    c.extend_from_slice.ensures.items
    ∙ (ap (λ (b : Bool). if b then items ++ c.split_at.result.0.now else items) (not_err c.extend_from_slice.result c.is_err.result c.if-is_err.false c.is_err.ensures.value)
    ∙ (ap (λ (t : List ℕ). items ++ t) (c.split_at.ensures.front ∙ (ap (λ (k : ℕ). take k c.args.piece.now) (c.min.ensures ∙ ap (λ (k : ℕ). min (length c.args.piece.now) (65538 - k)) c.len-left.ensures) ∙ take_min left c.args.piece.now))
    ∙ (fits_more items c.args.piece.now left (ap (λ (k : ℕ). 65538 - k) same) (omega (arith, same, c.self.invariant))
    ∙ ap (λ (xs : List ℕ). held (xs ++ c.args.piece.now)) c.self.view_is)))
