use Rattle.std.proofs.Common.{◌≡◌, ◌+◌, ◌-◌, ◌∷◌, ◌++◌, [], List, ap, sym, ◌∙◌, refl, take, drop, length, subst, get_or, arith}
use Rattle.std.proofs.lemmas.List.{drop_all, take_rest}
use Rattle.mm_scope.specs.Contents.{labels_of}
use Rattle.mm_proof.specs.Forests.{arity_of}
use Rattle.mm_proof.specs.Parts.{Placed}
use Rattle.mm_proof.specs.declared.table.Part.{Part}
use Rattle.mm_proof.proofs.Naming.{table_start}
use Rattle.mm_proof.proofs.Going.{Going, going_next, going_all, going_start}
use Rattle.mm_proof.proofs.compacting.compact.Goals as goal

pub loop-label-init : goal.loop-label-init
loop-label-init c t one =
    let first : c.new-table.result.first ≡ length (labels_of c.args.db.now) + 1 = c.new-table.ensures.first ∙ ap (λ n. n + 1) c.count.ensures.labels in
    going_start (arity_of c.args.db.now) (length (labels_of c.args.db.now) + 1) c.args.labels.now c.new-table.result c.new-stack.result.items c.new-steps.result.items
    (table_start (length (labels_of c.args.db.now) + 1) c.new-table.result first c.new-table.ensures.places c.new-table.ensures.pairs) c.new-stack.ensures.items c.new-steps.ensures.items

pub loop-label-preserved : goal.loop-label-preserved
loop-label-preserved c t one =
    let count : c.len.result ≡ length c.loop-label.stack.items = c.len.ensures ∙ c.loop-label.stack.ok.0 in
    let labels = c.args.labels.now in
    let l = get_or labels c.loop-label.label-index 0 in
    let arity = arity_of c.args.db.now in
    let n = c.saturating_sub-from.result in
    let first = length (labels_of c.args.db.now) + 1 in
    let p = c.in_ok-part.part in
    let P : List Part → Type 0 = λ x. Placed c.loop-label.table c.placed.new.table c.loop-label.steps.items c.placed.new.steps.items x l p in
    let rest = ap (λ x. take (length x - n) (drop n x)) c.deref.ensures.value ∙ take_rest c.loop-label.stack.items n in
    let Q : List Part → Type 0 = λ x. Going arity first labels c.placed.new.table x c.placed.new.steps.items (c.loop-label.label-index + 1) in
    let pushed = c.in_ok-push.ensures.items ∙ ap (λ x. x ++ p ∷ []) c.truncate.ensures.items in
    let from : n ≡ length c.loop-label.stack.items - arity l = c.saturating_sub-from.ensures ∙ ap (λ m. m - c.arity.result) count ∙ ap (λ m. length c.loop-label.stack.items - m) c.arity.ensures in
    subst Q (sym pushed) (going_next arity first labels c.loop-label.table c.placed.new.table c.loop-label.stack.items c.loop-label.steps.items c.placed.new.steps.items
    c.loop-label.label-index l n p t one (c.loop-label.invariant t one) c.loop-label-test.true refl from (c.requires.own c.loop-label.label-index 0 c.loop-label-test.true) (subst P rest c.in_ok-part.ensures))

pub returns : goal.returns
returns c t one =
    going_all (arity_of c.args.db.now) (length (labels_of c.args.db.now) + 1) c.args.labels.now c.loop-label.table c.loop-label.stack.items c.loop-label.steps.items c.loop-label.label-index t one
    (c.loop-label.invariant t one) (drop_all c.loop-label.label-index c.args.labels.now (omega arith))
