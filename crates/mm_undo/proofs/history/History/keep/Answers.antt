use Rattle.std.proofs.Common.{ℕ, ◌-◌, [], ◌∷◌, ◌++◌, drop, length, ap, sym, refl, subst, ◌∙◌, arith}
use Rattle.mm_undo.specs.Histories.{Marks, IsHistoryOf}
use Rattle.mm_undo.proofs.Lasting.{record-by, marks-by, keep-short, held-more, held-newest}
use Rattle.mm_undo.proofs.history.History.keep.Goals as goal

pub returns-clause-past : goal.returns-clause-past
returns-clause-past c = ap (λ b. b.items) c.push_back.ensures.items
    ∙ ap (λ (n : ℕ). drop (length (c.self.inside.past.items ++ c.args.m ∷ []) - n) (c.self.inside.past.items ++ c.args.m ∷ [])) c.self.invariant.0
    ∙ ap (λ (m : Marks). drop (length (m.past ++ c.args.m ∷ []) - m.depth) (m.past ++ c.args.m ∷ [])) c.self.view_is

pub returns-clause-held : goal.returns-clause-held
returns-clause-held c v holds begun =
    let xs = c.self.inside.past.items ++ c.args.m ∷ [] in
    let more : IsHistoryOf v (record-by xs [] c.self.inside.depth)
    = held-more v (record-by c.self.inside.past.items c.self.inside.future.items c.self.inside.depth) c.args.m c.self.inside.depth (subst (IsHistoryOf v) (sym c.self.view_is) holds) begun in
    subst (IsHistoryOf v) (sym (marks-by (ap (λ b. b.items) c.push_back.ensures.items) (ap (λ b. b.items) c.clear.ensures) refl))
    (held-newest v (record-by xs [] c.self.inside.depth) (length xs - c.self.inside.past.capacity) c.self.inside.depth more)

pub invariant_of-self : goal.invariant_of-self
invariant_of-self c = (
  ap (λ b. b.capacity) c.push_back.ensures.items ∙ c.self.invariant.0,
  ap (λ b. b.capacity) c.clear.ensures ∙ c.self.invariant.1,
  omega (arith, c.self.invariant.0, ap length (ap (λ b. b.items) c.push_back.ensures.items), keep-short c.self.inside.past.capacity (c.self.inside.past.items ++ c.args.m ∷ []), ap length (ap (λ b. b.items) c.clear.ensures)),
)
