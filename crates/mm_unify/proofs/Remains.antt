-- What remains to be searched while the nodes wait, the last one first, under a limit or under none.
use Rattle.std.proofs.Common.{ℕ, ◌-◌, ◌≡◌, ◌<◌, ◌≤◌, List, [], ◌∷◌, ◌++◌, Bool, true, false, length, reverse, Option, Some, None, IfNone, ◌⊎◌, sym, ap, subst, arith, length-append}
use Rattle.std.specs.List.{AllByRecursion}
use Rattle.std.proofs.lemmas.List.Sums.{sum_by-cons, sum_by-append}
use Rattle.mm_subst.specs.Substitutions.{Pairs}
use Rattle.mm_unify.specs.declared.listing.Ended.TheVariants.{Whole, Trials, Length}
use Rattle.mm_unify.specs.Forbidden.{Forbidden}
use Rattle.mm_unify.specs.Search.{Node, Answer, visit, is_too_long, root}
use Rattle.mm_unify.specs.Listings.{limit, answer}
use Rattle.mm_subst.specs.Symbols.{has_work}
use Rattle.mm_subst.specs.declared.symbol.WSym.{WSym}
use Rattle.mm_unify.specs.Trials.{is_spent, fewer}
use Rattle.mm_unify.proofs.Loop.{Continues, continues_first, continues_none, continues_zero, continues_long, continues_step}
use Rattle.mm_unify.proofs.Weight.{Sided, weight, weights, sided_step, weight-pos, sided_first, side_of, enough_at_first}

-- without a limit, as many further visits as the waiting nodes can take
pub record Unbounded (rule : Forbidden) (whole : Answer) (found : List Pairs) (side : Bool) (nodes : List Node) : Type 0 where
  pub visits : ℕ
  pub continues : Continues rule whole found visits nodes
  pub sided : AllByRecursion (Sided side) nodes
  pub enough : weights side nodes ≤ visits

abbrev pub Remains : Forbidden → Answer → List Pairs → Option ℕ → Bool → List Node → Type 0
Remains rule whole found None side nodes = Unbounded rule whole found side nodes
Remains rule whole found (Some n) side nodes = Continues rule whole found n nodes

-- what gets smaller
abbrev pub further : Option ℕ → Bool → List Node → ℕ
further None side nodes = weights side nodes
further (Some n) side nodes = n

pub remains_none : (rule : Forbidden) (whole : Answer) (found : List Pairs) (left : Option ℕ) (side : Bool) (nodes : List Node) → nodes ≡ [] → Remains rule whole found left side nodes →
    (found ≡ whole.found) × (Whole ≡ whole.ended)
remains_none rule whole found None side nodes e h = continues_none rule whole found h.visits nodes e h.continues
remains_none rule whole found (Some n) side nodes e h = continues_none rule whole found n nodes e h

none_left : (n : ℕ) → is_spent (Some n) ≡ true → n ≡ 0
none_left n z = grind arith

pub remains_zero : (rule : Forbidden) (whole : Answer) (found : List Pairs) (left : Option ℕ) (side : Bool) (nodes xs : List Node) (node : Node) → nodes ≡ xs ++ node ∷ [] → is_spent left ≡ true →
    Remains rule whole found left side nodes → (found ≡ whole.found) × (Trials ≡ whole.ended)
remains_zero rule whole found None side nodes xs node e z h = cc
remains_zero rule whole found (Some n) side nodes xs node e z h =
    let k = none_left n z in
    continues_zero rule whole found nodes (let m = ap length e in omega (arith, length-append xs (node ∷ []))) (subst (λ (i : ℕ). Continues rule whole found i nodes) k h)

-- a node waits, so that a visit is left
one_left : (rule : Forbidden) (whole : Answer) (found : List Pairs) (side : Bool) (nodes xs : List Node) (node : Node) → nodes ≡ xs ++ node ∷ [] →
    (h : Unbounded rule whole found side nodes) → 0 < h.visits
one_left rule whole found side nodes xs node e h =
    let w = ap (weights side) e in
    let a = sum_by-append (weight side) xs (node ∷ []) in
    let d = sum_by-cons (weight side) node [] in
    let p = weight-pos side node in
    let k = h.enough in
    omega arith

some_left : (n : ℕ) → is_spent (Some n) ≡ false → 0 < n
some_left n z = grind arith

pub remains_long : (rule : Forbidden) (whole : Answer) (found : List Pairs) (left : Option ℕ) (side : Bool) (nodes xs : List Node) (node : Node) → is_spent left ≡ false → nodes ≡ xs ++ node ∷ [] →
    is_too_long node ≡ true → Remains rule whole found left side nodes → (found ≡ whole.found) × (Length ≡ whole.ended)
remains_long rule whole found None side nodes xs node z e t h =
    continues_long rule whole found h.visits nodes xs node (one_left rule whole found side nodes xs node e h) e t h.continues
remains_long rule whole found (Some n) side nodes xs node z e t h = continues_long rule whole found n nodes xs node (some_left n z) e t h

pub remains_step : (rule : Forbidden) (whole : Answer) (found more : List Pairs) (left : Option ℕ) (side : Bool) (nodes xs ys : List Node) (node : Node) → is_spent left ≡ false →
    nodes ≡ xs ++ node ∷ [] → is_too_long node ≡ false → ys ≡ xs ++ reverse (visit rule node).children → more ≡ found ++ (visit rule node).found →
    Remains rule whole found left side nodes → Remains rule whole more (fewer left) side ys
remains_step rule whole found more None side nodes xs ys node z e t y f h =
    let o = one_left rule whole found side nodes xs node e h in
    let s = sided_step rule side nodes xs ys node e y h.sided in
    record {
      visits = h.visits - 1;
      continues = continues_step rule whole found h.visits nodes xs node (h.visits - 1) ys more (omega arith) e t y f h.continues;
      sided = s.0;
      enough = let l = s.1 in let k = h.enough in omega arith;
    }
remains_step rule whole found more (Some n) side nodes xs ys node z e t y f h =
    let o = some_left n z in
    continues_step rule whole found n nodes xs node (n - 1) ys more (omega arith) e t y f h

pub further_step : (rule : Forbidden) (whole : Answer) (found : List Pairs) (left : Option ℕ) (side : Bool) (nodes xs ys : List Node) (node : Node) → is_spent left ≡ false →
    nodes ≡ xs ++ node ∷ [] → ys ≡ xs ++ reverse (visit rule node).children → Remains rule whole found left side nodes → further (fewer left) side ys < further left side nodes
further_step rule whole found None side nodes xs ys node z e y h = (sided_step rule side nodes xs ys node e y h.sided).1
further_step rule whole found (Some n) side nodes xs ys node z e y h = let o = some_left n z in omega arith

pub remains_first : (rule : Forbidden) (trials : Option ℕ) (a b : List WSym) (nodes : List Node) (found : List Pairs) → IfNone trials ((has_work a ≡ false) ⊎ (has_work b ≡ false)) →
    nodes ≡ root a b ∷ [] → found ≡ [] → Remains rule (answer rule trials a b) found trials (side_of (root a b)) nodes
remains_first rule None a b nodes found side e f = record {
  visits = limit None a b;
  continues = continues_first rule (root a b) (limit None a b) nodes found e f;
  sided = subst (AllByRecursion (Sided (side_of (root a b)))) (sym e) (sided_first (root a b) side, tt);
  enough = subst (λ (ns : List Node). weights (side_of (root a b)) ns ≤ limit None a b) (sym e) (enough_at_first a b (root a b).values);
}
remains_first rule (Some n) a b nodes found side e f = continues_first rule (root a b) n nodes found e f
