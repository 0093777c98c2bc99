use Rattle.std.proofs.Common.{ap, sym, refl, subst, ◌∙◌, arith}
use Rattle.mm_tree.specs.Trees.{State}
use Rattle.mm_tree.specs.Versions.{HasNoDrafts}
use Rattle.mm_tree.specs.View.{values}
use Rattle.mm_tree.proofs.Keeping.{no-items, some-items, no-values}
use Rattle.mm_tree.proofs.tree.Tree.mark_turn.Goals.{else-is_empty-via-then-is_empty+else-is_empty-2, else-is_empty-via-else-is_empty}
use Rattle.mm_tree.proofs.tree.Tree.mark_turn.Goals as goal

pub returns-else-is_empty-clause-settled : goal.returns-else-is_empty-clause-settled
returns-else-is_empty-clause-settled c = (
  λ e. (let t = c.self.invariant.whole.turn in absurd (omega (arith, e))),
  λ n.
      let none = subst (λ (s : State). HasNoDrafts s.versions) (sym c.self.view_is) n in
      absurd (elim c.else-is_empty.branch [
        | else-is_empty-via-then-is_empty+else-is_empty-2 w ↦ some-items c.self.inside.draft_bindings.items _ c.self.inside.draft_bindings.ok.0 (sym w.is_empty-then-is_empty.ensures ∙ w.if-is_empty-2.false) none.no_bindings
        | else-is_empty-via-else-is_empty w ↦ some-items c.self.inside.draft_roots.items _ c.self.inside.draft_roots.ok.0 (sym c.is_empty.ensures ∙ w.if-is_empty.false) (no-values c.self.inside.draft_roots.items none.no_roots)
      ]),
)

pub returns-then-is_empty-2-clause-settled : goal.returns-then-is_empty-2-clause-settled
returns-then-is_empty-2-clause-settled c = (
  λ e. subst (λ (s : State). HasNoDrafts s.versions) c.self.view_is (record {
    no_roots = ap values (no-items c.self.inside.draft_roots.items _ c.self.inside.draft_roots.ok.0 (sym c.is_empty.ensures ∙ c.if-is_empty.true));
    no_bindings = no-items c.self.inside.draft_bindings.items _ c.self.inside.draft_bindings.ok.0 (sym c.is_empty-then-is_empty.ensures ∙ c.if-is_empty-2.true);
  }),
  λ n. refl,
)

pub returns-else-is_empty-clause-drafts : goal.returns-else-is_empty-clause-drafts
returns-else-is_empty-clause-drafts c = λ h. ap (λ (s : State). s.versions.turn) c.self.view_is
