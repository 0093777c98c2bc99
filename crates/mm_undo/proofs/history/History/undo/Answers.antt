use Rattle.std.proofs.Common.{◌≡◌, ◌+◌, ◌-◌, List, All, [], ◌∷◌, ◌++◌, map, length, ap, sym, refl, subst, ◌∙◌, arith, length-append, take_all}
use Rattle.mm_tree.specs.Versions.{named}
use Rattle.mm_tree.specs.declared.tree.Mark.{Mark}
use Rattle.mm_undo.specs.Histories.{Marks, IsHistoryOf, IsLasting, lists_of}
use Rattle.mm_undo.proofs.Orders.{stands}
use Rattle.mm_undo.proofs.Lasting.{record-by, marks-by, last-split, none-last, take-none, keeps-lasting, lasting-front, lasting-head, stepped-back, IsStep}
use Rattle.mm_undo.proofs.history.History.undo.Goals as goal

-- the past without its last mark
was : (c : goal.After-push_front) → c.args.self.now.past ≡ c.pop_back.new.self.items ++ c.in-Some.earlier ∷ []
was c = sym (ap (λ (m : Marks). m.past) c.self.view_is) ∙ last-split c.self.inside.past.items c.in-Some.earlier c.in-Some.ensures.value
    ∙ ap (λ (l : List Mark). l ++ c.in-Some.earlier ∷ []) (sym (ap (λ b. b.items) c.in-Some.ensures.items))

one-less : (c : goal.After-push_front) → 1 + length c.pop_back.new.self.items ≡ length c.self.inside.past.items
one-less c = omega (arith, ap length (was c), ap length (ap (λ (m : Marks). m.past) c.self.view_is), length-append c.pop_back.new.self.items (c.in-Some.earlier ∷ []))

put : (c : goal.After-push_front) → c.push_front.new.self.items ≡ c.mark-later.result ∷ c.self.inside.future.items
put c = ap (λ b. b.items) c.push_front.ensures.items ∙ take_all c.self.inside.future.capacity (c.mark-later.result ∷ c.self.inside.future.items) (omega (arith, one-less c, c.self.invariant.1, c.self.invariant.2))

step : (c : goal.After-push_front) → IsStep c.args.tree.now.versions c.back.new.self.versions c.args.self.now (record-by c.pop_back.new.self.items c.push_front.new.self.items c.self.inside.depth) c.args.tree.now.proof c.back.new.self.proof
step c = stepped-back c.args.tree.now.versions c.back.new.self.versions c.args.self.now (record-by c.pop_back.new.self.items c.push_front.new.self.items c.self.inside.depth) c.in-Some.earlier c.mark-later.result c.args.tree.now.proof c.back.new.self.proof
    (was c) (put c ∙ ap (λ (m : Marks). c.mark-later.result ∷ m.future) c.self.view_is) (ap (λ (m : Marks). m.depth) c.self.view_is) c.requires.held
    (λ e. (keeps-lasting c.args.tree.now.versions c.back.new.self.versions c.in-Some.earlier c.back.ensures.marks, c.back.ensures.settled e))
    (record { settled = c.mark-later.ensures.settled c.requires.settled; alive = c.mark-later.ensures.alive }) c.mark-later.ensures.named c.back.ensures.proof
    (stands c.args.tree.now.versions c.mark-later.result c.requires.settled c.mark-later.ensures.hand)
    (λ none. stands c.back.new.self.versions c.in-Some.earlier none c.back.ensures.hand)

pub back-requires : goal.back-requires
back-requires c =
    let past : c.args.self.now.past ≡ c.pop_back.new.self.items ++ c.in-Some.earlier ∷ []
    = sym (ap (λ (m : Marks). m.past) c.self.view_is) ∙ last-split c.self.inside.past.items c.in-Some.earlier c.in-Some.ensures.value
    ∙ ap (λ (l : List Mark). l ++ c.in-Some.earlier ∷ []) (sym (ap (λ b. b.items) c.in-Some.ensures.items)) in
    (lasting-head c.args.tree.now.versions c.in-Some.earlier (lasting-front c.args.tree.now.versions c.pop_back.new.self.items (c.in-Some.earlier ∷ []) (subst (All (IsLasting c.args.tree.now.versions)) past c.requires.held.past)).1).alive

pub returns-in-Some-clause-undone : goal.returns-in-Some-clause-undone
returns-in-Some-clause-undone c = (step c).undone

pub returns-in-Some-clause-held : goal.returns-in-Some-clause-held
returns-in-Some-clause-held c = (step c).held

pub returns-in-Some-clause-settled : goal.returns-in-Some-clause-settled
returns-in-Some-clause-settled c = (step c).settled

pub returns-in-None-clause-undone : goal.returns-in-None-clause-undone
returns-in-None-clause-undone c =
    let none = none-last c.self.inside.past.items c.in-None.ensures.value in
    let same : record-by c.pop_back.new.self.items c.self.inside.future.items c.self.inside.depth ≡ c.args.self.now
    = marks-by (ap (λ b. b.items) c.in-None.ensures.items ∙ take-none (length c.self.inside.past.items - 1) c.self.inside.past.items none) refl refl ∙ c.self.view_is in
    (ap (map (named c.args.tree.now.versions)) (sym (ap (λ (m : Marks). m.past) c.self.view_is) ∙ none), ap (lists_of c.args.tree.now.versions) same, refl)

pub returns-in-None-clause-held : goal.returns-in-None-clause-held
returns-in-None-clause-held c =
    let none = none-last c.self.inside.past.items c.in-None.ensures.value in
    let same : record-by c.pop_back.new.self.items c.self.inside.future.items c.self.inside.depth ≡ c.args.self.now
    = marks-by (ap (λ b. b.items) c.in-None.ensures.items ∙ take-none (length c.self.inside.past.items - 1) c.self.inside.past.items none) refl refl ∙ c.self.view_is in
    subst (IsHistoryOf c.args.tree.now.versions) (sym same) c.requires.held

pub returns-in-None-clause-none : goal.returns-in-None-clause-none
returns-in-None-clause-none c =
    let none = none-last c.self.inside.past.items c.in-None.ensures.value in
    λ e. (marks-by (ap (λ b. b.items) c.in-None.ensures.items ∙ take-none (length c.self.inside.past.items - 1) c.self.inside.past.items none) refl refl ∙ c.self.view_is, refl)

pub invariant_of-self-in-Some : goal.invariant_of-self-in-Some
invariant_of-self-in-Some c = (
  ap (λ b. b.capacity) c.in-Some.ensures.items ∙ c.self.invariant.0,
  ap (λ b. b.capacity) c.push_front.ensures.items ∙ c.self.invariant.1,
  omega (arith, one-less c, ap length (put c), c.self.invariant.2),
)
