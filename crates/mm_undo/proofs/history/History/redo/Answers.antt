use Rattle.std.proofs.Common.{◌≡◌, ◌+◌, List, All, [], ◌∷◌, ◌++◌, map, length, ap, sym, refl, subst, ◌∙◌, arith, length-append}
use Rattle.mm_tree.specs.Versions.{named}
use Rattle.mm_tree.specs.declared.tree.Mark.{Mark}
use Rattle.mm_undo.specs.Histories.{Marks, IsHistoryOf, IsLasting, lists_of}
use Rattle.mm_undo.proofs.Orders.{stands}
use Rattle.mm_undo.proofs.Lasting.{record-by, marks-by, first-split, none-first, drop-none, keep-all, keeps-lasting, lasting-front, lasting-head, stepped-on, IsStepOn}
use Rattle.mm_undo.proofs.history.History.redo.Goals as goal

-- the future without its first mark
was : (c : goal.After-push_back) → c.args.self.now.future ≡ c.in-Some.later ∷ c.pop_front.new.self.items
was c = sym (ap (λ (m : Marks). m.future) c.self.view_is) ∙ first-split c.self.inside.future.items c.in-Some.later c.in-Some.ensures.value
    ∙ ap (λ (l : List Mark). c.in-Some.later ∷ l) (sym (ap (λ b. b.items) c.in-Some.ensures.items))

one-less : (c : goal.After-push_back) → 1 + length c.pop_front.new.self.items ≡ length c.self.inside.future.items
one-less c = omega (arith, ap length (was c), ap length (ap (λ (m : Marks). m.future) c.self.view_is))

put : (c : goal.After-push_back) → c.push_back.new.self.items ≡ c.self.inside.past.items ++ c.mark-earlier.result ∷ []
put c = ap (λ b. b.items) c.push_back.ensures.items ∙ keep-all c.self.inside.past.capacity (c.self.inside.past.items ++ c.mark-earlier.result ∷ [])
    (omega (arith, one-less c, length-append c.self.inside.past.items (c.mark-earlier.result ∷ []), c.self.invariant.0, c.self.invariant.2))

step : (c : goal.After-push_back) → IsStepOn c.args.tree.now.versions c.forward.new.self.versions c.args.self.now (record-by c.push_back.new.self.items c.pop_front.new.self.items c.self.inside.depth) c.args.tree.now.proof c.forward.new.self.proof
step c = stepped-on c.args.tree.now.versions c.forward.new.self.versions c.args.self.now (record-by c.push_back.new.self.items c.pop_front.new.self.items c.self.inside.depth) c.mark-earlier.result c.in-Some.later c.args.tree.now.proof c.forward.new.self.proof
    (was c) (put c ∙ ap (λ (m : Marks). m.past ++ c.mark-earlier.result ∷ []) c.self.view_is) (ap (λ (m : Marks). m.depth) c.self.view_is) c.requires.held
    (λ e. (keeps-lasting c.args.tree.now.versions c.forward.new.self.versions c.in-Some.later c.forward.ensures.marks, c.forward.ensures.settled e))
    (record { settled = c.mark-earlier.ensures.settled c.requires.settled; alive = c.mark-earlier.ensures.alive }) c.mark-earlier.ensures.named c.forward.ensures.proof
    (stands c.args.tree.now.versions c.mark-earlier.result c.requires.settled c.mark-earlier.ensures.hand)
    (λ none. stands c.forward.new.self.versions c.in-Some.later none c.forward.ensures.hand)

pub forward-requires : goal.forward-requires
forward-requires c =
    let future : c.args.self.now.future ≡ c.in-Some.later ∷ c.pop_front.new.self.items
    = sym (ap (λ (m : Marks). m.future) c.self.view_is) ∙ first-split c.self.inside.future.items c.in-Some.later c.in-Some.ensures.value
    ∙ ap (λ (l : List Mark). c.in-Some.later ∷ l) (sym (ap (λ b. b.items) c.in-Some.ensures.items)) in
    (lasting-head c.args.tree.now.versions c.in-Some.later (lasting-front c.args.tree.now.versions (c.in-Some.later ∷ []) c.pop_front.new.self.items (subst (All (IsLasting c.args.tree.now.versions)) future c.requires.held.future)).0).alive

pub returns-in-Some-clause-redone : goal.returns-in-Some-clause-redone
returns-in-Some-clause-redone c = (step c).redone

pub returns-in-Some-clause-held : goal.returns-in-Some-clause-held
returns-in-Some-clause-held c = (step c).held

pub returns-in-Some-clause-settled : goal.returns-in-Some-clause-settled
returns-in-Some-clause-settled c = (step c).settled

pub returns-in-None-clause-redone : goal.returns-in-None-clause-redone
returns-in-None-clause-redone c =
    let none = none-first c.self.inside.future.items c.in-None.ensures.value in
    let same : record-by c.self.inside.past.items c.pop_front.new.self.items c.self.inside.depth ≡ c.args.self.now
    = marks-by refl (ap (λ b. b.items) c.in-None.ensures.items ∙ drop-none 1 c.self.inside.future.items none) refl ∙ c.self.view_is in
    (ap (map (named c.args.tree.now.versions)) (sym (ap (λ (m : Marks). m.future) c.self.view_is) ∙ none), ap (lists_of c.args.tree.now.versions) same, refl)

pub returns-in-None-clause-held : goal.returns-in-None-clause-held
returns-in-None-clause-held c =
    let none = none-first c.self.inside.future.items c.in-None.ensures.value in
    let same : record-by c.self.inside.past.items c.pop_front.new.self.items c.self.inside.depth ≡ c.args.self.now
    = marks-by refl (ap (λ b. b.items) c.in-None.ensures.items ∙ drop-none 1 c.self.inside.future.items none) refl ∙ c.self.view_is in
    subst (IsHistoryOf c.args.tree.now.versions) (sym same) c.requires.held

pub returns-in-None-clause-none : goal.returns-in-None-clause-none
returns-in-None-clause-none c =
    let none = none-first c.self.inside.future.items c.in-None.ensures.value in
    λ e. (marks-by refl (ap (λ b. b.items) c.in-None.ensures.items ∙ drop-none 1 c.self.inside.future.items none) refl ∙ c.self.view_is, refl)

pub invariant_of-self-in-Some : goal.invariant_of-self-in-Some
invariant_of-self-in-Some c = (
  ap (λ b. b.capacity) c.push_back.ensures.items ∙ c.self.invariant.0,
  ap (λ b. b.capacity) c.in-Some.ensures.items ∙ c.self.invariant.1,
  omega (arith, one-less c, ap length (put c), length-append c.self.inside.past.items (c.mark-earlier.result ∷ []), c.self.invariant.2),
)
