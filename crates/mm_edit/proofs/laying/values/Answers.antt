use Rattle.std.proofs.Common.{ℕ, ◌+◌, ◌-◌, length, get_or, refl, ap}
use Rattle.mm_tree.specs.Plans.{Grove, grove_of}
use Rattle.mm_edit.specs.LaidOut.{last_targets}
use Rattle.mm_edit.proofs.LayingLemmas.{last-at, length-last, values-more}
use Rattle.mm_edit.proofs.laying.values.Goals as goal

pub loop-i-preserved : goal.loop-i-preserved
loop-i-preserved c =
    let g : Grove = grove_of c.args.plan.now in
    let ids = c.args.ids.now in
    let n : ℕ = length ids in
    let i : ℕ = c.loop-i.i in
    let from : ℕ = c.count.result - n in
    let t = c.target-target.result.now in
    values-more c.args.db.now c.args.set.now ids (last_targets g n) i (get_or ids i 0) t c.loop-i.sigma c.put_value.new.sigma c.loop-i.invariant c.loop-i-test.true (length-last g n c.requires.many) refl
    (last-at g n from i (from + i) t c.requires.many c.loop-i-test.true (ap (λ (m : ℕ). m - n) c.count.ensures) refl c.target-target.ensures)
    (c.in_ok-put_value.ensures.values c.if-not-branch.false) (c.in_ok-put_value.ensures.found c.if-not-branch.false)
