use Rattle.std.proofs.Common.{◌≡◌, ◌<◌, ◌-◌, ◌∙◌, ap, arith, length, take, vec_len}
use Rattle.mm_tables.proofs.Numbered.{removed}
use Rattle.mm_tables.proofs.holders.Holders.remove.Goals as goal

pub returns-then-place-len : goal.returns-then-place-len
returns-then-place-len c = λ n.
    let vs = c.self.inside.numbers.items in
    let small : c.args.variable < length vs = omega (arith, c.if-place-len.true, c.len.ensures) in
    let len : vec_len c.index_mut.result.now ≡ length c.index_mut.result.now.items = omega arith in
    removed vs c.args.variable n c.index_mut.result.now c.pop.new.self c.args.self.now small c.index_mut.ensures.value (c.pop.ensures.rest ∙ ap (λ k. take (k - 1) c.index_mut.result.now.items) len) c.self.view_is
