use Rattle.std.proofs.Common.{◌≡◌, ◌+◌, ◌-◌, ℕ, ◌++◌, ◌∷◌, [], List, map, length, get_or, take, ap, sym, ◌∙◌, subst, arith}
use Rattle.std.proofs.lemmas.List.{get_or_default, length-map}
use Rattle.std.proofs.lemmas.List.Elements.{All-from_recursion}
use Rattle.mm_proof.specs.Arities.{takes}
use Rattle.mm_proof.specs.Flattening.{begin_at, Lays}
use Rattle.mm_proof.specs.Steps.{untagged, IsOwn}
use Rattle.mm_proof.specs.declared.flat.Stretch.{Stretch}
use Rattle.mm_proof.specs.declared.step.ProofStep.{ProofStep}
use Rattle.mm_proof.specs.declared.step.StepKind.TheVariants.{Hyp}
use Rattle.mm_proof.proofs.Flattened.{Flattens, flattens_more, flattens_all, own_lays}
use Rattle.mm_edit.specs.Labelling.{number_for}
use Rattle.mm_edit.proofs.LabelLists.{labels_back, own_labels}
use Rattle.mm_edit.proofs.label_list.label_list.Goals as goal

pub loop-step-preserved : goal.loop-step-preserved
loop-step-preserved c =
    let d : ProofStep = untagged (Hyp (record { 0 = 0 })) in
    let bytes = c.args.db.now in
    let all = c.args.steps.now in
    let i = c.loop-step.step-index in
    let s = get_or all i d in
    let labels = map number_for c.loop-step.labels.items in
    let after = map number_for c.lay.new.labels.items in
    let trees = c.loop-step.trees.items in
    let stack = c.loop-step.stack.items in
    let n = c.saturating_sub-from.result in
    let begin = c.begin_at-begin.result in
    let end = c.len-end.result in
    let count : c.len.result ≡ length stack = c.len.ensures ∙ c.loop-step.stack.ok.0 in
    let from : n ≡ length stack - takes bytes s.kind = c.saturating_sub-from.ensures ∙ ap (λ m. m - c.takes.result) count ∙ ap (λ m. length stack - m) c.takes.ensures in
    let long : c.len-in-loop-step.result ≡ length labels = c.len-in-loop-step.ensures ∙ c.loop-step.labels.ok.0 ∙ sym (length-map c.loop-step.labels.items number_for) in
    let begins : begin ≡ begin_at stack n (length labels) =
    c.begin_at-begin.ensures ∙ ap (λ x. begin_at x n c.len-in-loop-step.result) c.deref.ensures.value ∙ ap (begin_at stack n) long in
    let ends : end ≡ length after = c.len-end.ensures ∙ c.lay.new.labels.ok.0 ∙ sym (length-map c.lay.new.labels.items number_for) in
    let P : List Stretch → Type 0 = λ x. Lays labels after x s.kind in
    let laid : Lays labels after trees s.kind = subst P c.deref-in-loop-step.ensures.value c.in_ok-lay.ensures in
    let own : IsOwn bytes s.kind = All-from_recursion (λ (x : ProofStep). IsOwn bytes x.kind) all c.requires i d c.loop-step-test.true in
    let Q : List Stretch → Type 0 = λ x. Flattens bytes all after x (take n stack ++ begin ∷ []) (i + 1) in
    let R : List ℕ → Type 0 = λ x. Flattens bytes all after c.push-in-loop-step.new.self.items x (i + 1) in
    record {
      flat = λ t one.
          subst R (sym (c.in_ok-push.ensures.items ∙ ap (λ x. x ++ begin ∷ []) c.truncate.ensures.items)) (subst Q (sym c.in_ok-push-2.ensures.items)
          (flattens_more bytes all labels after trees stack i n begin end s t one (c.loop-step.invariant.flat t one) c.loop-step-test.true (get_or_default all i d s c.loop-step-test.true) from begins laid ends));
      own = own_lays bytes labels after trees s.kind own laid c.loop-step.invariant.own;
    }

pub returns-clause-labels : goal.returns-clause-labels
returns-clause-labels c = λ t one.
    labels_back c.loop-step.labels.items _ (flattens_all c.args.db.now c.args.steps.now (map number_for c.loop-step.labels.items) c.loop-step.trees.items c.loop-step.stack.items c.loop-step.step-index t one (c.loop-step.invariant.flat t one) c.loop-step-test.false)

pub returns-clause-own : goal.returns-clause-own
returns-clause-own c = own_labels c.args.db.now c.loop-step.labels.items c.loop-step.invariant.own
