use Rattle.std.proofs.Common.{◌≡◌, ◌++◌, ◌∷◌, [], false, ap, ◌∙◌, nat_eq}
use Rattle.std.specs.List.{list_any}
use Rattle.mm_tables.specs.Numbering.{numbers_of, copies}
use Rattle.mm_tables.proofs.Changing.{comes}
use Rattle.mm_tables.proofs.declarations.Declarations.begin.Goals as goal

pub invariant_of-self-in-Ok : goal.invariant_of-self-in-Ok
invariant_of-self-in-Ok c =
    let none : list_any (nat_eq c.args.variable) c.self.inside.layers.now ≡ false = ap (λ l. list_any (nat_eq c.args.variable) l.now) c.self.view_is ∙ c.requires in
    rw (c.in-Ok.ensures.ok, c.in_ok-push-in-Ok.ensures.items, c.reserve.ensures.items) (
    comes c.self.inside.layers c.self.inside.changes c.add_all.new.self c.self.inside.standing.items c.self.inside.heights.items c.self.invariant c.args.variable none
    (λ v. c.in_ok-add_all.ensures.ok v ∙ ap (λ n. numbers_of c.self.inside.changes v ++ copies n (c.args.variable ∷ []) v) c.moments-moment.ensures))
