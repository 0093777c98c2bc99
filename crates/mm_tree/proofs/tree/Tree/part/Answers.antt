use Rattle.std.proofs.Common.{◌≡◌, true, length, ap, sym, subst, ◌∙◌, arith}
use Rattle.mm_plain.specs.declared.plain.Plain.{Plain}
use Rattle.mm_plain.specs.Grafts.{part_at}
use Rattle.mm_plain.specs.Shape.{size_of, step_at, target_of}
use Rattle.mm_plain.specs.Valid.{IsValid}
use Rattle.mm_plain.proofs.Grafts.{valid-part}
use Rattle.mm_tree.specs.Lines.{Line}
use Rattle.mm_tree.specs.Meanings.{mean}
use Rattle.mm_tree.specs.Versions.{line_of}
use Rattle.mm_tree.proofs.Grown.{same_proof}
use Rattle.mm_tree.proofs.Made.{if-ok}
use Rattle.mm_tree.proofs.Parted.{part-sound}
use Rattle.mm_tree.proofs.Shapes.{size_of-mean}
use Rattle.mm_tree.proofs.tree.Tree.part.Goals as goal

pub share_at-requires : goal.share_at-requires
share_at-requires c = (omega (arith, c.from.ensures, c.requires.0), omega (arith, c.from.ensures, c.requires.1, size_of-mean (line_of c.args.self.now.versions true) c.root.result.now.value, ap size_of c.root.ensures.plain))

pub rooted-requires-clause-sound : goal.rooted-requires-clause-sound
rooted-requires-clause-sound c = part-sound c.root.result.now.value c.in_ok-root.root.value c.from.result (length c.in_ok-trail.trail.items) (length (line_of c.args.self.now.versions true)) c.next_work.result
    c.in_ok-root.ensures.same c.in_ok-root.ensures.born (omega (arith, c.from.ensures, c.requires.0)) (omega (arith, c.from.ensures, c.requires.1, size_of-mean (line_of c.args.self.now.versions true) c.root.result.now.value, ap size_of c.root.ensures.plain))
    (ap (λ (l : Line). length l) (c.in_ok-trail.ensures.same ∙ c.line.ensures)) (rw c.next_work.ensures c.root.ensures.sound)

pub returns-clause-part : goal.returns-clause-part
returns-clause-part c =
    let is : mean c.in_ok-root.root.value c.in_ok-trail.trail.items ≡ step_at c.args.self.now.proof.plain c.args.step
    = ap (mean c.in_ok-root.root.value) (c.in_ok-trail.ensures.same ∙ c.line.ensures) ∙ c.in_ok-root.ensures.same (line_of c.args.self.now.versions true)
    ∙ ap (λ (x : Plain). step_at x c.from.result) c.root.ensures.plain ∙ ap (step_at c.args.self.now.proof.plain) c.from.ensures in
    if-ok c.rooted.result _ (λ t. t.proof ≡ part_at c.args.self.now.proof c.args.step) (λ t e. e ∙ same_proof _ _ _ _ is c.next_work.ensures) c.rooted.ensures.proof

pub returns-clause-valid : goal.returns-clause-valid
returns-clause-valid c =
    let is : mean c.in_ok-root.root.value c.in_ok-trail.trail.items ≡ step_at c.args.self.now.proof.plain c.args.step
    = ap (mean c.in_ok-root.root.value) (c.in_ok-trail.ensures.same ∙ c.line.ensures) ∙ c.in_ok-root.ensures.same (line_of c.args.self.now.versions true)
    ∙ ap (λ (x : Plain). step_at x c.from.result) c.root.ensures.plain ∙ ap (step_at c.args.self.now.proof.plain) c.from.ensures in
    if-ok c.rooted.result _ _ (λ t e bytes at goal v. subst (IsValid bytes at (target_of (step_at c.args.self.now.proof.plain c.args.step))) (sym (e ∙ same_proof _ _ _ _ is c.next_work.ensures))
    (valid-part bytes at goal c.args.self.now.proof c.args.step v c.requires.0 c.requires.1)) c.rooted.ensures.proof
