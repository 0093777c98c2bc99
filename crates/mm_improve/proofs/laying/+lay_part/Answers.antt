use Rattle.std.proofs.Common.{◌≡◌, ◌-◌, ◌∷◌, ℕ, List, Result, Err, length, map, sym, ◌∙◌, ap, arith, subst}
use Rattle.std.proofs.lemmas.List.{length-map}
use Rattle.std.proofs.lemmas.Result.{err_from_is_err_and}
use Rattle.mm_subst.specs.declared.symbol.WSym.{WSym}
use Rattle.mm_subst.specs.Substitutions.{Pairs}
use Rattle.mm_plain.specs.declared.plain.Plain.{Plain}
use Rattle.mm_plain.proofs.Sizes.{height_of-pos}
use Rattle.mm_improve.specs.declared.fault.ImproveFault.{ImproveFault}
use Rattle.mm_chart.specs.declared.table.Part.{Part}
use Rattle.mm_improve.specs.Laying.{LaysTree}
use Rattle.mm_improve.specs.Proving.{rank_limit}
use Rattle.mm_improve.specs.Searches.{terms}
use Rattle.mm_improve.specs.Steps.{IsStep, Pushes, values_by}
use Rattle.mm_improve.specs.Traces.{no_part, string_of, tree_at}
use Rattle.mm_improve.proofs.LayingLemmas.{AreLaid, all_kids, enough, kid_fault, laid_none, one_laid, over_all}
use Rattle.mm_improve.proofs.StepLemmas.{ranked-at}
use Rattle.mm_improve.proofs.laying.+lay_part.Goals as goal

pub returns-then-left-eq0 : goal.returns-then-left-eq0
returns-then-left-eq0 t c = omega (arith, height_of-pos (tree_at (terms c.args.db.now c.args.search) (rank_limit c.args.db.now (c.args.goal ∷ c.args.text.now)) c.args.text.now c.args.part), c.if-left-eq0.true)

pub loop-kid-init : goal.loop-kid-init
loop-kid-init t c = laid_none c.args.plan.now (c.args.left - 1) c.requires.plan

pub lay_part-requires : goal.lay_part-requires
lay_part-requires t c =
    let k = terms c.args.db.now c.args.search in
    let r = rank_limit c.args.db.now (c.args.goal ∷ c.args.text.now) in
    let kids = c.deref-kid-items.result.now in
    let s = subst (λ (ps : List Part). IsStep k r c.args.goal c.args.text.now c.args.part c.in_ok-step.step.id c.in_ok-step.step.keys.items ps) (sym c.deref-kid-items.ensures.value) c.in_ok-step.ensures in
    (omega (arith, c.if-left-eq0.false, c.decreases), (c.requires.own, (c.requires.answers, (c.requires.placed, (ranked-at k r c.args.goal c.args.text.now kids c.loop-kid.kid-index no_part s.ranked c.loop-kid-test.true, c.loop-kid.invariant.plan)))))

pub returns-in_err-lay_part : goal.returns-in_err-lay_part
returns-in_err-lay_part t c =
    let k = terms c.args.db.now c.args.search in
    let r = rank_limit c.args.db.now (c.args.goal ∷ c.args.text.now) in
    let text = c.args.text.now in
    let kids = c.deref-kid-items.result.now in
    let keys = c.in_ok-step.step.keys.items in
    let id = c.in_ok-step.step.id in
    let old = c.args.plan.now in
    let new = c.lay_part.new.plan in
    let left : ℕ = c.args.left in
    let below : ℕ = left - 1 in
    let f : ImproveFault = c.in_err-lay_part.field-0.0 in
    let s = subst (λ (ps : List Part). IsStep k r c.args.goal text c.args.part id keys ps) (sym c.deref-kid-items.ensures.value) c.in_ok-step.ensures in
    let p = err_from_is_err_and c.from_residual-in_err-lay_part.result c.from_residual-in_err-lay_part.ensures.1 in
    subst (λ (x : Result (Unit {0}) ImproveFault). LaysTree old (tree_at k r text c.args.part) left x new) (sym (p.1 ∙ ap Err p.2))
    (kid_fault (Unit {0}) (Unit {0}) (tree_at k r text) old c.loop-kid.plan new (tree_at k r text c.args.part) (string_of text c.args.part) id (values_by text keys kids) kids c.loop-kid.kid-index below left no_part f s.is c.loop-kid-test.true c.loop-kid.invariant (omega (arith, c.if-left-eq0.false)) c.in_err-lay_part.ensures)

pub loop-kid-preserved : goal.loop-kid-preserved
loop-kid-preserved t c =
    let k = terms c.args.db.now c.args.search in
    let r = rank_limit c.args.db.now (c.args.goal ∷ c.args.text.now) in
    one_laid (tree_at k r c.args.text.now) c.args.plan.now c.loop-kid.plan c.lay_part.new.plan c.deref-kid-items.result.now c.loop-kid.kid-index (c.args.left - 1) no_part c.loop-kid-test.true c.loop-kid.invariant c.in_ok-lay_part.ensures

pub push_step-requires-clause-plan : goal.push_step-requires-clause-plan
push_step-requires-clause-plan t c = c.loop-kid.invariant.plan

pub push_step-requires-clause-takes : goal.push_step-requires-clause-takes
push_step-requires-clause-takes t c =
    let k = terms c.args.db.now c.args.search in
    let r = rank_limit c.args.db.now (c.args.goal ∷ c.args.text.now) in
    let T : Part → Plain = tree_at k r c.args.text.now in
    let kids = c.deref-kid-items.result.now in
    let all = all_kids T c.args.plan.now c.loop-kid.plan kids c.loop-kid.kid-index (c.args.left - 1) c.loop-kid-test.false c.loop-kid.invariant in
    let long : c.len.result ≡ length kids = c.len.ensures ∙ c.in_ok-step.step.kids.ok.0 ∙ sym (ap length c.deref-kid-items.ensures.value) in
    omega (arith, enough c.args.plan.now c.loop-kid.plan (map T kids) (c.args.left - 1) all, length-map kids T, long)

pub returns : goal.returns
returns t c =
    let k = terms c.args.db.now c.args.search in
    let r = rank_limit c.args.db.now (c.args.goal ∷ c.args.text.now) in
    let text = c.args.text.now in
    let T : Part → Plain = tree_at k r text in
    let step = c.in_ok-step.step in
    let kids = step.kids.items in
    let keys = step.keys.items in
    let h = c.in_ok-step.ensures in
    let old = c.args.plan.now in
    let mid = c.loop-kid.plan in
    let new = c.push_step.new.plan in
    let left : ℕ = c.args.left in
    let below : ℕ = left - 1 in
    let target = string_of text c.args.part in
    let sigma : Pairs = values_by text keys kids in
    let all = subst (λ (ps : List Part). AreLaid old (map T ps) below mid) c.deref-kid-items.ensures.value (all_kids T old mid c.deref-kid-items.result.now c.loop-kid.kid-index below c.loop-kid-test.false c.loop-kid.invariant) in
    let takes : c.len.result ≡ length (map T kids) = c.len.ensures ∙ step.kids.ok.0 ∙ sym (length-map kids T) in
    let put : c.in_ok-sigma.sigma ≡ sigma = c.in_ok-sigma.ensures ∙ ap (λ (ns : List ℕ). values_by text ns c.as_slice-2.result.now) c.as_slice.ensures.value ∙ ap (values_by text keys) c.as_slice-2.ensures.value in
    subst (λ (x : Plain). LaysTree old x left c.push_step.result new) (sym h.is)
    (over_all old mid new target step.id sigma (map T kids) below left c.len.result c.push_step.result all (omega (arith, c.if-left-eq0.false)) takes
    (subst (λ (v : Pairs). Pushes mid target step.id v c.len.result c.push_step.result new) put
    (subst (λ (w : List WSym). Pushes mid w step.id c.in_ok-sigma.sigma c.len.result c.push_step.result new) c.in_ok-target.ensures c.push_step.ensures)))
