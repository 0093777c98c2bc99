use Rattle.std.proofs.Common.{◌≡◌, ◌-◌, ap, ◌∙◌, arith, length, get_or, take}
use Rattle.std.specs.Vec.{vec_len}
use Rattle.mm_tables.specs.Texts.{texts}
use Rattle.mm_tables.proofs.Layering.{last_of, in_ended}
use Rattle.mm_tables.proofs.partings.Partings.close.Goals as goal

pub invariant_of-self : goal.invariant_of-self
invariant_of-self c =
    let heights = c.self.inside.heights.items in
    let len : vec_len c.self.inside.heights ≡ length heights = omega arith in
    let height : c.unwrap_or.result ≡ get_or heights (length heights - 1) 0 =
    c.unwrap_or.ensures ∙ last_of heights (vec_len c.self.inside.heights) (vec_len c.pop.new.self) c.pop.result len (c.pop.ensures.value 0) c.pop.ensures.cases in
    let rest : c.pop.new.self.items ≡ take (length heights - 1) heights = c.pop.ensures.rest ∙ ap (λ n. take (n - 1) heights) len in
    rw (c.close.ensures, c.truncate.ensures, rest) (
    in_ended (texts c.self.inside.groups.items) c.self.inside.numbers c.self.inside.parted heights c.unwrap_or.result c.self.invariant height)
