use Rattle.std.proofs.Common.{◌≡◌, ℕ, ◌-◌, List, [], ◌++◌, length, ap, sym, subst, ◌∙◌, arith}
use Rattle.circular_buffer.specs.Buffer.{keep_last}
use Rattle.mm_tree.specs.declared.tree.Mark.{Mark}
use Rattle.mm_undo.specs.Histories.{Marks, IsHistoryOf}
use Rattle.mm_undo.proofs.Lasting.{marks-by, keep-short, keep-twice, held-newest}
use Rattle.mm_undo.proofs.history.History.move_to.Goals as goal

room : (c : goal.After-self-1) → c.extend_from_slice.new.self.capacity ≡ c.rings.inside.depth
room c = ap (λ b. b.capacity) c.extend_from_slice.ensures ∙ ap (λ b. b.capacity) c.rings.invariant.0

first : (c : goal.After-self-1) → c.extend_from_slice.new.self.items ≡ keep_last c.rings.inside.depth c.as_slices.result.0.now
first c = ap (λ b. b.items) c.extend_from_slice.ensures ∙ ap (λ b. keep_last b.capacity (b.items ++ c.as_slices.result.0.now)) c.rings.invariant.0

-- the newest of the past
newest : (c : goal.After-self-1) → c.extend_from_slice-2.new.self.items ≡ keep_last c.rings.inside.depth c.args.self.now.past
newest c = ap (λ b. b.items) c.extend_from_slice-2.ensures
    ∙ ap (λ (n : ℕ). keep_last n (c.extend_from_slice.new.self.items ++ c.as_slices.result.1.now)) (room c)
    ∙ ap (λ (l : List Mark). keep_last c.rings.inside.depth (l ++ c.as_slices.result.1.now)) (first c)
    ∙ keep-twice c.rings.inside.depth c.as_slices.result.0.now c.as_slices.result.1.now
    ∙ ap (λ (l : List Mark). keep_last c.rings.inside.depth l) (c.as_slices.ensures ∙ ap (λ (m : Marks). m.past) c.self.view_is)

kept : (c : goal.After-self-1) → c.extend_from_slice-2.new.self.items ≡ keep_last c.args.rings c.args.self.now.past
kept c = newest c ∙ ap (λ (n : ℕ). keep_last n c.args.self.now.past) c.rings.view_is

none : (c : goal.After-self-1) → c.rings.inside.future.items ≡ []
none c = ap (λ b. b.items) c.rings.invariant.1

pub returns-clause-moved : goal.returns-clause-moved
returns-clause-moved c = marks-by (kept c) (none c) c.rings.view_is

pub returns-clause-held : goal.returns-clause-held
returns-clause-held c v holds =
    subst (IsHistoryOf v) (sym (marks-by (kept c) (none c) c.rings.view_is)) (held-newest v c.args.self.now (length c.args.self.now.past - c.args.rings) c.args.rings holds)

pub invariant_of-self : goal.invariant_of-self
invariant_of-self c = (
  ap (λ b. b.capacity) c.extend_from_slice-2.ensures ∙ room c,
  ap (λ b. b.capacity) c.rings.invariant.1,
  omega (arith, ap length (newest c), ap length (none c), keep-short c.rings.inside.depth c.args.self.now.past),
)
