use Rattle.std.proofs.Common.{◌≡◌, [], true, ap, sym, subst, ◌∙◌}
use Rattle.std.specs.List.{list_any}
use Rattle.mm_plain.specs.declared.plain.Plain.{Plain}
use Rattle.mm_plain.specs.Floats.{has_float}
use Rattle.mm_plain.specs.Numbers.{HasOwnLabels}
use Rattle.mm_plain.specs.Shape.{steps_of}
use Rattle.mm_tree.specs.Versions.{line_of}
use Rattle.mm_tree.proofs.Bared.{own-line}
use Rattle.mm_tree.proofs.tree.Tree.has_float.Goals as goal

pub has_float-requires : goal.has_float-requires
has_float-requires c = own-line c.args.db.now (line_of c.args.self.now.versions true) [] c.hand.result.now (subst (HasOwnLabels c.args.db.now) (sym c.hand.ensures.plain) c.requires)

pub returns : goal.returns
returns c = c.has_float.ensures (line_of c.args.self.now.versions true) ∙ ap (λ (x : Plain). list_any (has_float c.args.db.now) (steps_of x)) c.hand.ensures.plain
