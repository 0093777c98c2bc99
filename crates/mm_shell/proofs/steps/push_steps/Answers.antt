use Rattle.std.proofs.Common.{rules, ◌≡◌, ◌∙◌, ◌+◌, ◌++◌, [], List, sym, ap, ℕ, Bool, arith, length, if◌then◌else◌}
use Rattle.mm_shell.specs.Steps.{is_shown, step_lines}
use Rattle.mm_shell.proofs.StepLemmas.{labels_count, next-made, all-made}
use Rattle.mm_shell.proofs.steps.push_steps.Goals as goal

pub loop-before-preserved : goal.loop-before-preserved
loop-before-preserved c =
    let lines : ℕ → List ℕ = step_lines c.args.proof.now.0 c.args.proof.now.1 in
    let count : length c.in_ok-labels.labels.items ≡ c.size-before-end.result = labels_count c.tree-tree.result.now.proof.plain c.in_ok-labels.labels.items c.in_ok-labels.ensures ∙ sym c.size-before-end.ensures in
    next-made lines (is_shown c.args.only_unknown) c.in_ok-labels.labels.items c.loop-before.before c.index.result.now
    c.args.into.now.items c.loop-before.into.items c.push_lines.new.into.items (omega (arith, c.loop-before-test.true, count)) c.loop-before.invariant
    (c.in_ok-push_lines.ensures ∙ ap (λ (b : Bool). c.loop-before.into.items ++ (if b then lines (c.loop-before.before + 1) else [])) (c.is_shown-shown.ensures ∙ ap (is_shown c.args.only_unknown) c.index.ensures))

pub returns : goal.returns
returns c =
    let count : length c.in_ok-labels.labels.items ≡ c.size-before-end.result = labels_count c.tree-tree.result.now.proof.plain c.in_ok-labels.labels.items c.in_ok-labels.ensures ∙ sym c.size-before-end.ensures in
    let all = all-made (step_lines c.args.proof.now.0 c.args.proof.now.1) (is_shown c.args.only_unknown) c.in_ok-labels.labels.items c.loop-before.before
    c.args.into.now.items c.loop-before.into.items (omega (arith, c.loop-before-test.false, count)) c.loop-before.invariant in all ∙ search rules
