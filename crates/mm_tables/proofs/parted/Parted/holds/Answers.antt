use Rattle.std.proofs.Common.{ap, ◌∙◌, length, not, nat_eq}
use Rattle.std.specs.List.{list_any}
use Rattle.mm_tables.specs.Distinct.{is_held}
use Rattle.mm_tables.specs.Texts.{texts}
use Rattle.mm_tables.proofs.Numbered.{held_somewhere}
use Rattle.mm_tables.proofs.parted.Parted.holds.Goals as goal

pub returns : goal.returns
returns c =
    ap not c.is_empty.ensures
    ∙ ap (λ xs. not (nat_eq (length xs) 0)) (c.numbers.ensures ∙ c.self.invariant.0 c.args.variable)
    ∙ held_somewhere 0 (texts c.self.inside.groups.items) c.args.variable
    ∙ ap (list_any (λ g. is_held g c.args.variable)) c.self.view_is
