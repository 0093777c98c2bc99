use Rattle.std.proofs.Common.{false, true, sym, ◌∙◌, ◌≡◌, ap, Some, arith, length}
use Rattle.std.proofs.lemmas.List.{length-map}
use Rattle.std.proofs.lemmas.Option.{slice_get-map}
use Rattle.std.specs.Option.{option_map}
use Rattle.mm_tables.proofs.names.Names.text.Goals as goal

pub unreachable-requires : goal.unreachable-requires
unreachable-requires c =
    let same : length c.args.self.now ≡ length c.self.inside.set.keys = ap length (sym c.self.view_is) ∙ length-map c.self.inside.set.keys (λ v. v.items) in
    let never : false ≡ true = c.in-None.ensures.found.1 (omega (arith, same)) in cc

pub returns : goal.returns
returns c = rw (← c.self.view_is) (
    slice_get-map (λ v. v.items) c.self.inside.set.keys c.args.number
    ∙ ap (option_map (λ v. v.items)) (sym c.in-Some.ensures.key)
    ∙ ap Some (sym c.as_slice.ensures.value))
