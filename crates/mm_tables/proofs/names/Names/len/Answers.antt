use Rattle.std.proofs.Common.{arith, sym, ◌∙◌}
use Rattle.std.proofs.lemmas.List.{length-map}
use Rattle.mm_tables.proofs.names.Names.len.Goals as goal

pub returns : goal.returns
returns c = record {
  len = rw (← c.self.view_is) (c.len.ensures.len ∙ sym (length-map c.self.inside.set.keys (λ v. v.items)));
  small = omega (arith, c.len.ensures.len, c.self.invariant);
}
