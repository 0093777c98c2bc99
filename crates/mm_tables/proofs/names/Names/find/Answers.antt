use Rattle.std.proofs.Common.{sym, ◌∙◌}
use Rattle.std.specs.Str.{bytes_eq}
use Rattle.mm_tables.proofs.Tables.{position-map, list_any-map}
use Rattle.mm_tables.proofs.names.Names.find.Goals as goal

pub returns-in-Some : goal.returns-in-Some
returns-in-Some c = record {
  number = rw (← c.self.view_is) (c.in-Some.ensures.index ∙ sym (position-map (λ v. v.items) (bytes_eq c.args.text.now) c.self.inside.set.keys));
  found = rw (← c.self.view_is) (c.in-Some.ensures.found ∙ sym (list_any-map (λ v. v.items) (bytes_eq c.args.text.now) c.self.inside.set.keys));
}

pub returns-in-None : goal.returns-in-None
returns-in-None c = record {
  number = rw (← c.self.view_is) (c.in-None.ensures.index ∙ sym (position-map (λ v. v.items) (bytes_eq c.args.text.now) c.self.inside.set.keys));
  found = rw (← c.self.view_is) (c.in-None.ensures.found ∙ sym (list_any-map (λ v. v.items) (bytes_eq c.args.text.now) c.self.inside.set.keys));
}
