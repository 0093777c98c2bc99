use Rattle.std.proofs.Common.{◌≡◌, ◌≤◌, ◌<◌, ◌+◌, ℕ, List, Option, None, Some, length, get_or, slice_get, refl, sym, ap, ◌∙◌, subst, arith}
use Rattle.mm_scope.specs.Contents.{distinct_at}
use Rattle.mm_subst.specs.Statements.{statement_of}
use Rattle.mm_plain.specs.declared.plain.Plain.{Plain}
use Rattle.mm_plain.specs.Shape.{size_of, step_at, steps_of}
use Rattle.mm_plain.specs.Sources.{label_of}
use Rattle.mm_plain.proofs.Equations.{length-steps_of}
use Rattle.mm_save.specs.Clashes.{clashes_at, clashes_in}
use Rattle.mm_save.proofs.Walking.{walks_on, walk_stops, walk_ends, none_unknown, few_labels, label_there, step_is, own_label, has_values}
use Rattle.mm_save.proofs.clashes.first_clash.Goals as goal
use Rattle.mm_save.proofs.clashes.first_clash.Goals.{in-Some+in_ok-clash+in_default-2, in_default}

pub loop-place-init : goal.loop-place-init
unfolding clashes_in
loop-place-init c = refl

pub index-requires : goal.index-requires
index-requires c =
    let x : Plain = c.args.tree.now.proof.plain in
    let small : c.loop-place.place < size_of x = omega (arith, c.loop-place-test.true, c.size-place-end.ensures) in
    omega (arith, few_labels x c.loop-place.place small c.in_ok-labels.labels.items c.in_ok-labels.ensures, c.in_ok-labels.labels.ok.0)

pub clash_at-requires-clause-own : goal.clash_at-requires-clause-own
clash_at-requires-clause-own c =
    let x : Plain = c.args.tree.now.proof.plain in
    let small : c.loop-place.place < size_of x = omega (arith, c.loop-place-test.true, c.size-place-end.ensures) in
    own_label x c.loop-place.place small c.args.db.now c.args.at.0 (statement_of c.args.db.now c.args.at.0) c.args.tree.now.proof.next c.requires.own c.requires.valid c.in-Some.id
    (label_there x c.loop-place.place small c.in_ok-labels.labels.items c.index.result.now c.in_ok-labels.ensures ∙ sym c.index.ensures ∙ c.in-Some.is)

pub clash_at-requires-clause-names : goal.clash_at-requires-clause-names
clash_at-requires-clause-names c =
    let x : Plain = c.args.tree.now.proof.plain in
    let small : c.loop-place.place < size_of x = omega (arith, c.loop-place-test.true, c.size-place-end.ensures) in
    label_there x c.loop-place.place small c.in_ok-labels.labels.items c.index.result.now c.in_ok-labels.ensures ∙ sym c.index.ensures ∙ c.in-Some.is

pub clash_at-requires-clause-values : goal.clash_at-requires-clause-values
clash_at-requires-clause-values c =
    let x : Plain = c.args.tree.now.proof.plain in
    let small : c.loop-place.place < size_of x = omega (arith, c.loop-place-test.true, c.size-place-end.ensures) in
    has_values x c.loop-place.place small c.args.db.now c.args.at.0 (statement_of c.args.db.now c.args.at.0) c.args.tree.now.proof.next c.requires.own c.requires.valid c.in-Some.id
    (label_there x c.loop-place.place small c.in_ok-labels.labels.items c.index.result.now c.in_ok-labels.ensures ∙ sym c.index.ensures ∙ c.in-Some.is)

pub returns-in-Some-2 : goal.returns-in-Some-2
returns-in-Some-2 c =
    let x : Plain = c.args.tree.now.proof.plain in
    let bytes : List ℕ = c.args.db.now in
    let groups : List (List ℕ) = distinct_at bytes c.args.at.0 in
    let place : ℕ = c.loop-place.place in
    let small : place < size_of x = omega (arith, c.loop-place-test.true, c.size-place-end.ensures) in
    let within : place < length (steps_of x) = omega (arith, small, length-steps_of x) in
    walk_stops bytes groups (place + 1) (steps_of x) place x c.in-Some-2.clash within
    (sym c.in-Some-2.is ∙ c.in_ok-clash.ensures ∙ ap (λ gs. slice_get (clashes_at bytes gs (place + 1) (step_at x (place + 1))) 0) c.in_ok-parted.ensures
    ∙ ap (λ y. slice_get (clashes_at bytes groups (place + 1) y) 0) (step_is x place small))
    ∙ c.loop-place.invariant

pub loop-place-preserved : goal.loop-place-preserved
loop-place-preserved c =
    let x : Plain = c.args.tree.now.proof.plain in
    let bytes : List ℕ = c.args.db.now in
    let groups : List (List ℕ) = distinct_at bytes c.args.at.0 in
    let place : ℕ = c.loop-place.place in
    let small : place < size_of x = omega (arith, c.loop-place-test.true, c.size-place-end.ensures) in
    let within : place < length (steps_of x) = omega (arith, small, length-steps_of x) in
    let none : None ≡ slice_get (clashes_at bytes groups (place + 1) (get_or (steps_of x) place x)) 0 = elim c.match-index.branch [
      | in-Some+in_ok-clash+in_default-2 w ↦
          sym w.in_default-2.is ∙ w.in_ok-clash.ensures ∙ ap (λ gs. slice_get (clashes_at bytes gs (place + 1) (step_at x (place + 1))) 0) c.in_ok-parted.ensures
          ∙ ap (λ y. slice_get (clashes_at bytes groups (place + 1) y) 0) (step_is x place small)
      | in_default w ↦
          none_unknown bytes groups (place + 1) (steps_of x) place x
          (ap label_of (sym (step_is x place small)) ∙ label_there x place small c.in_ok-labels.labels.items c.index.result.now c.in_ok-labels.ensures ∙ sym c.index.ensures ∙ w.in_default.is)
    ] in
    walks_on bytes groups (place + 1) (steps_of x) place x within none ∙ c.loop-place.invariant

pub returns : goal.returns
returns c =
    let x : Plain = c.args.tree.now.proof.plain in
    walk_ends c.args.db.now (distinct_at c.args.db.now c.args.at.0) (c.loop-place.place + 1) (steps_of x) c.loop-place.place x
    (omega (arith, c.loop-place-test.false, c.size-place-end.ensures, length-steps_of x))
    ∙ c.loop-place.invariant
