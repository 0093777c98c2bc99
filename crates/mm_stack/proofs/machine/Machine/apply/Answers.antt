use Rattle.std.proofs.Common.{◌≡◌, ◌-◌, ◌++◌, ◌∷◌, [], sym, ap, ◌∙◌, arith, length, take, Ok, refl}
use Rattle.mm_scope.specs.Contents.{stated_at}
use Rattle.mm_stated.specs.Stated.{Stated}
use Rattle.mm_stack.specs.Running.{Progress, next_number}
use Rattle.mm_stack.specs.Seats.{value_in}
use Rattle.mm_stack.specs.Substitution.{instance}
use Rattle.mm_stack.proofs.Assertions.{underflowed, mismatched, disagreed, violated, passed, pushed, concluded, Fits}
use Rattle.mm_stack.proofs.RunLemmas.{applying_stops, applying_goes_on}
use Rattle.mm_stack.proofs.machine.Machine.apply.Goals as goal
use Rattle.mm_stack.proofs.machine.Machine.apply.Goals.{After-all_agree}

ids_of : (c : After-all_agree) → c.as_slice-mandatory.result.now ≡ (stated_at c.args.db.now c.args.id.0).mandatory
ids_of c = c.as_slice-mandatory.ensures ∙ c.frame-frame.ensures.mandatory

pub returns-then-count-mandatory : goal.returns-then-count-mandatory
returns-then-count-mandatory c =
    let p : Progress = c.args.self.now.stack in
    let a : Stated = stated_at c.args.db.now c.args.id.0 in
    let k = c.next_number-number.result in
    rw c.faulty.ensures (applying_stops c.args.db.now c.args.parted.now a p k c.next_number-number.ensures _
    (underflowed c.args.db.now c.args.parted.now a p.stack k c.as_slice-mandatory.result.now (c.as_slice-mandatory.ensures ∙ c.frame-frame.ensures.mandatory) (omega arith)))

pub returns-then-not-branch : goal.returns-then-not-branch
returns-then-not-branch c =
    let p : Progress = c.args.self.now.stack in
    let a : Stated = stated_at c.args.db.now c.args.id.0 in
    let k = c.next_number-number.result in
    rw c.faulty-then-not-branch.ensures (applying_stops c.args.db.now c.args.parted.now a p k c.next_number-number.ensures _
    (mismatched c.args.db.now c.args.parted.now a p.stack k c.as_slice-mandatory.result.now
    (c.as_slice-mandatory.ensures ∙ c.frame-frame.ensures.mandatory) (omega arith) (sym c.if-not-branch.true ∙ c.in_ok-bind_all.ensures.fits)))

fits_of : (c : After-all_agree) → Fits c.args.db.now c.args.parted.now (stated_at c.args.db.now c.args.id.0) c.args.self.now.stack.stack (c.next_number-number.result) c.as_slice-mandatory.result.now (ids_of c) (value_in c.bind_all.new.values c.args.self.now.stack.stack)
fits_of c = record {
  room = omega arith;
  typed = sym c.if-not-branch.false ∙ c.in_ok-bind_all.ensures.fits;
  means = c.in_ok-bind_all.ensures.means c.if-not-branch.false;
}

pub returns-then-not-all_agree : goal.returns-then-not-all_agree
returns-then-not-all_agree c =
    let d = (goal.at.returns-then-not-all_agree c).After-all_agree in
    let p : Progress = c.args.self.now.stack in
    let a : Stated = stated_at c.args.db.now c.args.id.0 in
    let k = c.next_number-number.result in
    rw c.faulty-then-not-all_agree.ensures (applying_stops c.args.db.now c.args.parted.now a p k c.next_number-number.ensures _
    (disagreed c.args.db.now c.args.parted.now a p.stack k c.as_slice-mandatory.result.now
    (ids_of d) (value_in c.bind_all.new.values p.stack) (fits_of d) (sym c.if-not-all_agree.true ∙ c.all_agree.ensures)))

pub returns-in-Some : goal.returns-in-Some
returns-in-Some c =
    let d = (goal.at.returns-in-Some c).After-all_agree in
    let p : Progress = c.args.self.now.stack in
    let a : Stated = stated_at c.args.db.now c.args.id.0 in
    let k = c.next_number-number.result in
    rw c.faulty-in-Some.ensures (applying_stops c.args.db.now c.args.parted.now a p k c.next_number-number.ensures _
    (violated c.args.db.now c.args.parted.now a p.stack k c.as_slice-mandatory.result.now
    (ids_of d) (value_in c.bind_all.new.values p.stack) c.as_slice-pairs.result.now c.in-Some.fault (fits_of d) (sym c.if-not-all_agree.false ∙ c.all_agree.ensures)
    (c.as_slice-pairs.ensures ∙ c.frame-frame.ensures.pairs) (sym c.in-Some.is ∙ c.violation.ensures)))

pub returns-then-not-branch-2 : goal.returns-then-not-branch-2
returns-then-not-branch-2 c =
    let d = (goal.at.returns-then-not-branch-2 c).After-all_agree in
    let p : Progress = c.args.self.now.stack in
    let a : Stated = stated_at c.args.db.now c.args.id.0 in
    let k = c.next_number-number.result in
    rw c.faulty-then-not-branch-2.ensures (applying_stops c.args.db.now c.args.parted.now a p k c.next_number-number.ensures _
    (passed c.args.db.now c.args.parted.now a p.stack k c.as_slice-mandatory.result.now
    (ids_of d) (value_in c.bind_all.new.values p.stack) c.as_slice-symbols.result.now c.as_slice-pairs.result.now (fits_of d) (sym c.if-not-all_agree.false ∙ c.all_agree.ensures)
    (c.as_slice-pairs.ensures ∙ c.frame-frame.ensures.pairs) (sym c.in_default.is ∙ c.violation.ensures)
    (c.as_slice-symbols.ensures ∙ c.frame-frame.ensures.conclusion) (sym c.if-not-branch-2.true ∙ c.in_ok-fill.ensures.fits)))

pub returns : goal.returns
returns c =
    let d = (goal.at.returns c).After-all_agree in
    let p : Progress = c.args.self.now.stack in
    let a : Stated = stated_at c.args.db.now c.args.id.0 in
    let k = c.next_number-number.result in
    let stack = p.stack in
    let value = value_in c.bind_all.new.values stack in
    let symbols = c.as_slice-symbols.result.now in
    let left : c.truncate.new.self.stack ≡ take (length stack - length c.as_slice-mandatory.result.now) stack = c.truncate.ensures.stack ∙ ap (λ n. take (n - length c.as_slice-mandatory.result.now) stack) c.count-count.ensures in
    let entry : c.as_slice.result.now ≡ instance value symbols = c.as_slice.ensures.value ∙ c.in_ok-fill.ensures.value c.if-not-branch-2.false in
    let same : symbols ≡ a.symbols = c.as_slice-symbols.ensures ∙ c.frame-frame.ensures.conclusion in
    let next : Progress = record { stack = take (length stack - length c.as_slice-mandatory.result.now) stack ++ instance value symbols ∷ []; results = p.results ++ instance value symbols ∷ [] } in
    let stands : c.push.new.self ≡ next = rw (c.in_ok-push.ensures, left, c.truncate.ensures.results, entry) refl in
    applying_goes_on c.args.db.now c.args.parted.now a p k c.next_number-number.ensures next.stack (instance value symbols)
    (pushed c.args.db.now c.args.parted.now a stack k c.as_slice-mandatory.result.now
    (ids_of d) value symbols c.as_slice-pairs.result.now (fits_of d) (sym c.if-not-all_agree.false ∙ c.all_agree.ensures)
    (c.as_slice-pairs.ensures ∙ c.frame-frame.ensures.pairs) (sym c.in_default.is ∙ c.violation.ensures)
    same (sym c.if-not-branch-2.false ∙ c.in_ok-fill.ensures.fits))
    (concluded c.args.db.now c.args.parted.now a stack k c.as_slice-mandatory.result.now (ids_of d) value symbols (fits_of d) same)
    ∙ ap (λ t. Ok t) (sym stands)
