use Rattle.std.proofs.Common.{◌≡◌, ◌<◌, None, Some, List, length, get_or, ap, sym, ◌∙◌, arith, take}
use Rattle.mm_subst.specs.Places.{few}
use Rattle.mm_subst.specs.Substitutions.{Pairs, value_at}
use Rattle.mm_subst.specs.declared.symbol.WSym.{WSym}
use Rattle.mm_subst.proofs.Placing.{Later, found_first, found_later, found_nowhere}
use Rattle.mm_subst.proofs.subst.Subst.get.Goals as goal

-- what is said of the first few
of_first : (pairs items part : Pairs) (x : WSym) → items ≡ pairs → part ≡ take few items → value_at (take few pairs) x ≡ value_at part x
of_first pairs items part x e h = ap (λ ps. value_at (take few ps) x) (sym e) ∙ ap (λ ps. value_at ps x) (sym h)

pub offset_bounds-pairs-place : goal.offset_bounds-pairs-place
offset_bounds-pairs-place c =
    let pairs : Pairs = c.self.inside.pairs.items in
    let none : value_at (take few pairs) c.args.key ≡ None =
    of_first pairs c.as_slice-pairs.result.now c.first_few.result.now c.args.key c.as_slice-pairs.ensures.value c.first_few.ensures ∙ c.in-None.ensures in
    let later : Later pairs c.args.key c.in-Some-get.place = found_later pairs c.args.key c.self.inside.places c.in-Some-get.place c.self.invariant.1 none c.in-Some-get.ensures in
    omega (arith, later.own, ap length c.as_slice-pairs.ensures.value)

pub bounds-pairs-place : goal.bounds-pairs-place
bounds-pairs-place c =
    let pairs : Pairs = c.self.inside.pairs.items in
    let none : value_at (take few pairs) c.args.key ≡ None =
    of_first pairs c.as_slice-pairs.result.now c.first_few.result.now c.args.key c.as_slice-pairs.ensures.value c.first_few.ensures ∙ c.in-None.ensures in
    let later : Later pairs c.args.key c.in-Some-get.place = found_later pairs c.args.key c.self.inside.places c.in-Some-get.place c.self.invariant.1 none c.in-Some-get.ensures in
    omega (arith, later.own, ap length c.as_slice-pairs.ensures.value)

pub returns-in-Some : goal.returns-in-Some
returns-in-Some c =
    let pairs : Pairs = c.self.inside.pairs.items in
    ap (λ ps. value_at ps c.args.key) (sym c.self.view_is)
    ∙ found_first pairs c.args.key c.in-Some.value.now
    (of_first pairs c.as_slice-pairs.result.now c.first_few.result.now c.args.key c.as_slice-pairs.ensures.value c.first_few.ensures ∙ c.in-Some.ensures)

pub returns-in-Some-get : goal.returns-in-Some-get
returns-in-Some-get c =
    let pairs : Pairs = c.self.inside.pairs.items in
    let none : value_at (take few pairs) c.args.key ≡ None =
    of_first pairs c.as_slice-pairs.result.now c.first_few.result.now c.args.key c.as_slice-pairs.ensures.value c.first_few.ensures ∙ c.in-None.ensures in
    let later : Later pairs c.args.key c.in-Some-get.place = found_later pairs c.args.key c.self.inside.places c.in-Some-get.place c.self.invariant.1 none c.in-Some-get.ensures in
    ap (λ ps. value_at ps c.args.key) (sym c.self.view_is)
    ∙ later.value c.index-pairs-place.result
    ∙ ap (λ (ps : Pairs). Some (get_or ps c.in-Some-get.place c.index-pairs-place.result).1) (sym c.as_slice-pairs.ensures.value)

pub returns-in-None-get : goal.returns-in-None-get
returns-in-None-get c =
    let pairs : Pairs = c.self.inside.pairs.items in
    let none : value_at (take few pairs) c.args.key ≡ None =
    of_first pairs c.as_slice-pairs.result.now c.first_few.result.now c.args.key c.as_slice-pairs.ensures.value c.first_few.ensures ∙ c.in-None.ensures in
    ap (λ ps. value_at ps c.args.key) (sym c.self.view_is) ∙ found_nowhere pairs c.args.key c.self.inside.places c.self.invariant.1 none c.in-None-get.ensures
