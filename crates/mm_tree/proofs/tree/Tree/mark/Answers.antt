use Rattle.std.proofs.Common.{◌+◌, refl, sym, ap, ◌∙◌, arith}
use Rattle.mm_tree.specs.Trees.{State, versions_of}
use Rattle.mm_tree.specs.Versions.{hand_root}
use Rattle.mm_tree.proofs.Shapes.{length-values}
use Rattle.mm_tree.proofs.Keeping.{own-mark}
use Rattle.mm_tree.proofs.tree.Tree.mark.Goals as goal

pub returns-clause-alive : goal.returns-clause-alive
returns-clause-alive c = (own-mark (versions_of c.self.inside) c.self.inside.next c.args.self.now (record { root = c.self.inside.begun_root + c.len.result; length = c.length.result; next = c.self.inside.next; turn = c.mark_turn.result }) c.self.view_is c.self.invariant.whole
    (omega (arith, c.len.ensures, length-values c.self.inside.draft_roots.items, c.self.inside.draft_roots.ok.0)) c.length.ensures.hand refl (record { settled = c.mark_turn.ensures.settled.0; drafts = c.mark_turn.ensures.drafts })).0

pub returns-clause-named : goal.returns-clause-named
returns-clause-named c = (own-mark (versions_of c.self.inside) c.self.inside.next c.args.self.now (record { root = c.self.inside.begun_root + c.len.result; length = c.length.result; next = c.self.inside.next; turn = c.mark_turn.result }) c.self.view_is c.self.invariant.whole
    (omega (arith, c.len.ensures, length-values c.self.inside.draft_roots.items, c.self.inside.draft_roots.ok.0)) c.length.ensures.hand refl (record { settled = c.mark_turn.ensures.settled.0; drafts = c.mark_turn.ensures.drafts })).1

pub returns-clause-hand : goal.returns-clause-hand
returns-clause-hand c = (
  sym (ap (λ (s : State). hand_root s.versions) c.self.view_is) ∙ omega (arith, c.len.ensures, length-values c.self.inside.draft_roots.items, c.self.inside.draft_roots.ok.0),
  sym c.length.ensures.hand,
)
