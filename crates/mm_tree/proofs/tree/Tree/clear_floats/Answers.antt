use Rattle.std.proofs.Common.{◌≡◌, ◌+◌, ◌≤◌, [], true, false, Option, refl, ap, sym, subst, ◌∙◌, arith}
use Rattle.mm_plain.specs.declared.plain.Plain.{Plain}
use Rattle.mm_plain.specs.Floats.{bared, bared_in}
use Rattle.mm_plain.specs.Grafts.{grafted_in}
use Rattle.mm_plain.specs.Numbers.{HasOwnLabels}
use Rattle.mm_plain.specs.Shape.{size_of, height_of, put, depth_at}
use Rattle.mm_plain.specs.Valid.{IsValid}
use Rattle.mm_plain.proofs.Equations.{size_of-pos}
use Rattle.mm_plain.proofs.Floats.{valid-bared, size-bared, height-bared}
use Rattle.mm_tree.specs.Floats.{bared_timed, new_or}
use Rattle.mm_tree.specs.declared.timed.TimedTree.{TimedTree}
use Rattle.mm_tree.specs.Meanings.{mean, count, youngest}
use Rattle.mm_tree.specs.Versions.{line_of}
use Rattle.mm_tree.specs.View.{Shared}
use Rattle.mm_tree.proofs.Bared.{cleared-mean, put-bared, mean-bared, depth_last, own-line, young-bared}
use Rattle.mm_tree.proofs.Grown.{same_proof}
use Rattle.mm_tree.proofs.Made.{on-ok}
use Rattle.mm_tree.proofs.Shapes.{size_of-mean, height_of-mean}
use Rattle.mm_tree.proofs.tree.Tree.clear_floats.Goals as goal

pub bare-requires-clause-own : goal.bare-requires-clause-own
bare-requires-clause-own g c = own-line c.args.db.now (line_of c.args.self.now.versions true) [] c.root.result.now.value (subst (HasOwnLabels c.args.db.now) (sym c.root.ensures.plain) c.requires)

pub returns-in_err-root-clause-cost : goal.returns-in_err-root-clause-cost
returns-in_err-root-clause-cost g c = omega (arith, c.bare.ensures.cost, size_of-mean (line_of c.args.self.now.versions true) c.root.result.now.value, ap size_of c.root.ensures.plain)

pub replace_step-requires-clause-exists : goal.replace_step-requires-clause-exists
replace_step-requires-clause-exists g c = (omega (arith, c.size.ensures, size_of-pos c.args.self.now.proof.plain), omega (arith, c.size.ensures))

pub replace_step-requires-clause-born : goal.replace_step-requires-clause-born
replace_step-requires-clause-born g c =
    let line = line_of c.args.self.now.versions true in
    let db = c.args.db.now in
    let root = c.root.result.now.value in
    let new : c.in-Some.root.value ≡ bared_timed db root = ap (λ (o : Option Shared). new_or o root) (sym c.in-Some.is) ∙ c.in_ok-root.ensures.node in
    omega (arith, ap youngest new, young-bared db root, c.root.ensures.born)

pub replace_step-requires-clause-few : goal.replace_step-requires-clause-few
replace_step-requires-clause-few g c =
    let line = line_of c.args.self.now.versions true in
    let db = c.args.db.now in
    let root = c.root.result.now.value in
    let new : c.in-Some.root.value ≡ bared_timed db root = ap (λ (o : Option Shared). new_or o root) (sym c.in-Some.is) ∙ c.in_ok-root.ensures.node in
    let put-is : put c.args.self.now.proof.plain c.size.result (mean c.in-Some.root.value line) ≡ bared db c.args.self.now.proof.plain
    = put-bared db c.args.self.now.proof.plain c.size.result (mean c.in-Some.root.value line) c.size.ensures (cleared-mean db line root c.in-Some.root.value c.args.self.now.proof.plain c.root.ensures.plain new) in
    let few = c.root.ensures.sound.few in
    omega (arith, few, ap size_of put-is, size-bared db c.args.self.now.proof.plain, size_of-mean (line_of c.args.self.now.versions true) c.root.result.now.value, ap size_of c.root.ensures.plain)

pub replace_step-requires-clause-low : goal.replace_step-requires-clause-low
replace_step-requires-clause-low g c =
    let line = line_of c.args.self.now.versions true in
    let db = c.args.db.now in
    let root = c.root.result.now.value in
    let new : c.in-Some.root.value ≡ bared_timed db root = ap (λ (o : Option Shared). new_or o root) (sym c.in-Some.is) ∙ c.in_ok-root.ensures.node in
    let put-is : put c.args.self.now.proof.plain c.size.result (mean c.in-Some.root.value line) ≡ bared db c.args.self.now.proof.plain
    = put-bared db c.args.self.now.proof.plain c.size.result (mean c.in-Some.root.value line) c.size.ensures (cleared-mean db line root c.in-Some.root.value c.args.self.now.proof.plain c.root.ensures.plain new) in
    let low = c.root.ensures.sound.low in
    omega (arith, low, ap height_of put-is, height-bared db c.args.self.now.proof.plain, height_of-mean line root, ap height_of c.root.ensures.plain)

pub returns-in-Some-clause-ok : goal.returns-in-Some-clause-ok
returns-in-Some-clause-ok g c =
    let line = line_of c.args.self.now.versions true in
    let db = c.args.db.now in
    let root = c.root.result.now.value in
    let new : c.in-Some.root.value ≡ bared_timed db root = ap (λ (o : Option Shared). new_or o root) (sym c.in-Some.is) ∙ c.in_ok-root.ensures.node in
    let put-is : put c.args.self.now.proof.plain c.size.result (mean c.in-Some.root.value line) ≡ bared db c.args.self.now.proof.plain
    = put-bared db c.args.self.now.proof.plain c.size.result (mean c.in-Some.root.value line) c.size.ensures (cleared-mean db line root c.in-Some.root.value c.args.self.now.proof.plain c.root.ensures.plain new) in
    on-ok c.replace_step.result _ _ (λ e. e ∙ same_proof _ _ _ _ put-is refl) c.replace_step.ensures.ok

pub returns-in-Some-clause-cost : goal.returns-in-Some-clause-cost
returns-in-Some-clause-cost g c = omega (arith, c.replace_step.ensures.cost, c.bare.ensures.cost, ap (depth_at c.args.self.now.proof.plain) c.size.ensures, depth_last c.args.self.now.proof.plain, size_of-mean (line_of c.args.self.now.versions true) c.root.result.now.value, ap size_of c.root.ensures.plain)

pub returns-in-Some-clause-valid : goal.returns-in-Some-clause-valid
returns-in-Some-clause-valid g c =
    let line = line_of c.args.self.now.versions true in
    let db = c.args.db.now in
    let root = c.root.result.now.value in
    let new : c.in-Some.root.value ≡ bared_timed db root = ap (λ (o : Option Shared). new_or o root) (sym c.in-Some.is) ∙ c.in_ok-root.ensures.node in
    let put-is : put c.args.self.now.proof.plain c.size.result (mean c.in-Some.root.value line) ≡ bared db c.args.self.now.proof.plain
    = put-bared db c.args.self.now.proof.plain c.size.result (mean c.in-Some.root.value line) c.size.ensures (cleared-mean db line root c.in-Some.root.value c.args.self.now.proof.plain c.root.ensures.plain new) in
    on-ok c.replace_step.result _ _ (λ e at goal v. subst (IsValid db at goal) (sym (e ∙ same_proof _ _ _ _ put-is refl)) (valid-bared db at goal c.args.self.now.proof v)) c.replace_step.ensures.ok

pub returns-in-None-clause-ok : goal.returns-in-None-clause-ok
returns-in-None-clause-ok g c =
    let line = line_of c.args.self.now.versions true in
    let db = c.args.db.now in
    let root = c.root.result.now.value in
    let same : root ≡ bared_timed db root = ap (λ (o : Option Shared). new_or o root) (sym c.in-None.is) ∙ c.in_ok-root.ensures.node in
    same_proof _ _ _ _ (sym c.root.ensures.plain ∙ ap (λ (x : TimedTree). mean x line) same ∙ mean-bared db line root ∙ ap (bared db) c.root.ensures.plain) refl

pub returns-in-None-clause-cost : goal.returns-in-None-clause-cost
returns-in-None-clause-cost g c = omega (arith, c.bare.ensures.cost, size_of-mean (line_of c.args.self.now.versions true) c.root.result.now.value, ap size_of c.root.ensures.plain)
