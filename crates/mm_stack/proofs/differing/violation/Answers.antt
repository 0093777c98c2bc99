use Rattle.std.proofs.Common.{sym, ap, ◌∙◌, arith}
use Rattle.mm_stack.specs.Seats.{value_in}
use Rattle.mm_stack.specs.Differing.{faults_between}
use Rattle.mm_stack.proofs.Firsts.{goes_on, stops, same_first}
use Rattle.mm_stack.proofs.differing.violation.Goals as goal

pub returns-in-Some : goal.returns-in-Some
returns-in-Some c =
    let value = value_in c.args.values.now c.args.stack.now.stack in
    let same = c.pair.view_is ∙ c.pair-item.is in
    stops (λ p. faults_between c.args.db.now c.args.parted.now c.args.number (value p.0) (value p.1)) c.args.pairs.now c.loop-pair.pair-index _ c.in-Some.fault (omega arith)
    (sym c.in-Some.is ∙ c.fault_between.ensures
    ∙ same_first (faults_between c.args.db.now c.args.parted.now c.args.number) (c.value-left.ensures ∙ ap (λ p. value p.0) same) (c.value-right.ensures ∙ ap (λ p. value p.1) same))
    ∙ c.loop-pair.invariant

pub loop-pair-preserved : goal.loop-pair-preserved
loop-pair-preserved c =
    let value = value_in c.args.values.now c.args.stack.now.stack in
    let same = c.pair.view_is ∙ c.pair-item.is in
    goes_on (λ p. faults_between c.args.db.now c.args.parted.now c.args.number (value p.0) (value p.1)) c.args.pairs.now c.loop-pair.pair-index _ (omega arith)
    (sym c.in_default.is ∙ c.fault_between.ensures
    ∙ same_first (faults_between c.args.db.now c.args.parted.now c.args.number) (c.value-left.ensures ∙ ap (λ p. value p.0) same) (c.value-right.ensures ∙ ap (λ p. value p.1) same))
    ∙ c.loop-pair.invariant
