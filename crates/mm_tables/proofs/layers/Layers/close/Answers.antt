use Rattle.std.proofs.Common.{◌≡◌, ◌-◌, ap, ◌∙◌, arith, length, get_or, take}
use Rattle.std.specs.Vec.{vec_len}
use Rattle.mm_tables.specs.Layered.{ended}
use Rattle.mm_tables.proofs.Chains.{last_of, closes}
use Rattle.mm_tables.proofs.layers.Layers.close.Goals as goal

pub returns : goal.returns
returns c =
    let outer = c.self.inside.outer.items in
    let len : vec_len c.self.inside.outer ≡ length outer = omega arith in
    let last : c.unwrap_or-self-inside.result ≡ get_or outer (length outer - 1) 0 =
    c.unwrap_or-self-inside.ensures ∙ last_of outer (vec_len c.self.inside.outer) (vec_len c.pop.new.self) c.pop.result len (c.pop.ensures.value 0) c.pop.ensures.cases in
    let rest : c.pop.new.self.items ≡ take (length outer - 1) outer = c.pop.ensures.rest ∙ ap (λ n. take (n - 1) outer) len in
    rw rest (closes c.self.inside.nodes.items c.self.inside.top c.unwrap_or-self-inside.result outer c.self.inside.moments.items last)
    ∙ ap ended c.self.view_is
