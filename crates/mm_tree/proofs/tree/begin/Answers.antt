use Rattle.std.proofs.Common.{ℕ, length, ap, ◌∙◌}
use Rattle.mm_plain.specs.declared.plain.Plain.{Plain}
use Rattle.mm_plain.specs.Shape.{Proof, unknown}
use Rattle.mm_tree.specs.declared.timed.Text.{Text}
use Rattle.mm_tree.proofs.Made.{begun-sound, begun-plain, if-ok}
use Rattle.mm_tree.proofs.tree.begin.Goals as goal

abbrev proof_by : ℕ → Plain → Proof
proof_by next p = record { plain = p; next = next }

pub rooted-requires-clause-sound : goal.rooted-requires-clause-sound
rooted-requires-clause-sound g c = begun-sound c.in_ok-target.target.value c.in_ok-root.root.value (ap (λ (t : Text). t.birth) c.in_ok-target.ensures) c.in_ok-root.ensures.node (length c.new.result.items)

pub returns-clause-start : goal.returns-clause-start
returns-clause-start g c =
    let is = begun-plain c.in_ok-target.target.value c.in_ok-root.root.value c.new.result.items (ap (λ (t : Text). t.birth) c.in_ok-target.ensures) c.in_ok-root.ensures.node c.new.ensures.items
    ∙ ap (λ (t : Text). unknown t.string) c.in_ok-target.ensures in
    if-ok c.rooted.result _ _ (λ t e. e ∙ ap (proof_by 1) is) c.rooted.ensures.proof
