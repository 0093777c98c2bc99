-- The table finds exactly equal trees.
use Rattle.std.proofs.Common.{◌≡◌, ℕ, zero, suc, ◌+◌, ◌-◌, ◌<◌, ◌≤◌, Bool, true, false, cond, ◌⊎◌, inl, inr, nat_lt, eqb, List, [], ◌∷◌, ◌++◌, length, map, set, slice_get, unwrap_or, option_map, Option, None, Some, refl, sym, ap, ◌∙◌, subst, arith, eq-eqb}
use Rattle.std.proofs.lemmas.List.{map_push, length-map}
use Rattle.std.proofs.lemmas.Bool.Decides.{nat_tests, Decides-eqb}
use Rattle.std.proofs.lemmas.Option.{none-some, same_Some, slice_get-map}
use Rattle.std.specs.HashMap.{get}
use Rattle.mm_proof.specs.Trees.{Tree, Trees, none, more, tree, trees_of, same_tree, is_some_tree}
use Rattle.mm_proof.specs.Compacting.{Whole, found}
use Rattle.mm_proof.specs.TreeNames.{same_pair, pair_at, IsNew, Named, behind, grown, den, Grows, Parts, IsTable, Extends, Reached, AreNamed, Joins, place_at, Places}
use Rattle.mm_proof.specs.declared.table.Table.{Table}
use Rattle.mm_proof.specs.declared.table.Part.{Part}
use Rattle.mm_proof.proofs.Same.{both, same_tree_from, same_tree_refl, tree_is}
use Rattle.mm_proof.proofs.Folds.{or_else, slice_get-append, slice_get-last, found-append}

-- trees with one more behind are so in one way
behind_trees : (a b : Trees) (c d : Tree) → behind a c ≡ behind b d → a ≡ b
behind_trees none none c d h = refl
behind_trees none (more m ds none) c d h = cc
behind_trees none (more m ds (more n es qs)) c d h = cc
behind_trees (more l cs none) none c d h = cc
behind_trees (more l cs (more n es rs)) none c d h = cc
behind_trees (more l cs rs) (more m ds qs) c d h =
    let e : behind rs c ≡ behind qs d = cc in
    let f = behind_trees rs qs c d e in
    cc

last_tree : (a : Trees) (c d : Tree) → behind a c ≡ behind a d → c ≡ d
last_tree none c d h = let e : c.label ≡ d.label = cc in let f : c.children ≡ d.children = cc in tree_is c.label d.label c.children d.children e f
last_tree (more l cs rs) c d h = let e : behind rs c ≡ behind rs d = cc in last_tree rs c d e

pub grown_body : (t u c d : Tree) → grown t c ≡ grown u d → t ≡ u
grown_body t u c d h =
    let e : t.label ≡ u.label = ap (λ (x : Tree). x.label) h in
    let f : behind t.children c ≡ behind u.children d = ap (λ (x : Tree). x.children) h in
    tree_is t.label u.label t.children u.children e (behind_trees t.children u.children c d f)

pub grown_child : (t u c d : Tree) → grown t c ≡ grown u d → c ≡ d
grown_child t u c d h =
    let f : behind t.children c ≡ behind u.children d = ap (λ (x : Tree). x.children) h in
    let e = behind_trees t.children u.children c d f in
    last_tree t.children c d (f ∙ ap (λ x. behind x d) (sym e))

-- what a name stands for
pub den_leaf : (first : ℕ) (known : List Tree) (n : ℕ) → n < first → den first known n ≡ Some (tree n none)
den_leaf first known n h = let e : nat_lt n first ≡ true = grind (arith, nat_tests) in ap (λ b. cond b (Some (tree n none)) (slice_get known (n - first))) e

pub den_known : (first : ℕ) (known : List Tree) (n : ℕ) → first ≤ n → den first known n ≡ slice_get known (n - first)
den_known first known n h = let e : nat_lt n first ≡ false = grind (arith, nat_tests) in ap (λ b. cond b (Some (tree n none)) (slice_get known (n - first))) e

den_by : (b : Bool) (l o p : Option Tree) (t : Tree) → ((t : Tree) → o ≡ Some t → p ≡ Some t) → cond b l o ≡ Some t → cond b l p ≡ Some t
den_by true l o p t f h = h
den_by false l o p t f h = f t h

pub den_more : (first : ℕ) (known : List Tree) (u : Tree) → Extends first known (known ++ u ∷ [])
den_more first known u n t h = den_by (nat_lt n first) (Some (tree n none)) (slice_get known (n - first)) (slice_get (known ++ u ∷ []) (n - first)) t (λ v e. slice_get-append known (u ∷ []) (n - first) v e) h

get_cases : (known : List Tree) (u : Tree) (k : ℕ) (t : Tree) → slice_get (known ++ u ∷ []) k ≡ Some t → (slice_get known k ≡ Some t) ⊎ ((k ≡ length known) × (u ≡ t))
get_cases [] u zero t h = inr (refl, same_Some u t h)
get_cases [] u (suc k) t h = absurd (none-some t h)
get_cases (v ∷ known) u zero t h = inl h
get_cases (v ∷ known) u (suc k) t h = elim (get_cases known u k t h) [ inl e ↦ inl e | inr e ↦ inr (ap (λ n. suc n) e.0, e.1) ]

cases_by : (b : Bool) (first n : ℕ) (known : List Tree) (u t : Tree) → nat_lt n first ≡ b → cond b (Some (tree n none)) (slice_get (known ++ u ∷ []) (n - first)) ≡ Some t
    → (cond b (Some (tree n none)) (slice_get known (n - first)) ≡ Some t) ⊎ ((n ≡ first + length known) × (u ≡ t))
cases_by true first n known u t e h = inl h
cases_by false first n known u t e h =
    elim (get_cases known u (n - first) t h) [ inl f ↦ inl f | inr f ↦ let le : first ≤ n = grind (arith, nat_tests) in inr (omega (arith, f.0), f.1) ]

pub den_cases : (first : ℕ) (known : List Tree) (u : Tree) (n : ℕ) (t : Tree) → den first (known ++ u ∷ []) n ≡ Some t → (den first known n ≡ Some t) ⊎ ((n ≡ first + length known) × (u ≡ t))
den_cases first known u n t h = cases_by (nat_lt n first) first n known u t refl h

pub den_last : (first : ℕ) (known : List Tree) (u : Tree) → den first (known ++ u ∷ []) (first + length known) ≡ Some u
den_last first known u =
    let e : first + length known - first ≡ length known = omega arith in
    den_known first (known ++ u ∷ []) (first + length known) (omega arith) ∙ ap (slice_get (known ++ u ∷ [])) e ∙ slice_get-last known u

pub same_pair_refl : (i j : ℕ) → same_pair (i, j) (i, j) ≡ true
same_pair_refl i j = rw (eq-eqb i i refl) (eq-eqb j j refl)

-- a table that has a name
kept_grows : (first : ℕ) (table : Table) (known : List Tree) (seen : List Whole) (i j k : ℕ) (t c : Tree) → IsTable first table known seen
    → den first known i ≡ Some t → den first known j ≡ Some c → pair_at table i j ≡ Some k → den first known k ≡ Some (grown t c)
kept_grows first table known seen i j k t c is a b h =
    let g = is.sound i j k h in
    let p : g.body ≡ t = same_Some g.body t (sym g.body_at ∙ a) in
    let q : g.child ≡ c = same_Some g.child c (sym g.child_at ∙ b) in
    g.grown_at ∙ ap (λ x. Some (grown x g.child)) p ∙ ap (λ x. Some (grown t x)) q

-- a tree whose parts have no name together has none
fresh : (first : ℕ) (table : Table) (known : List Tree) (seen : List Whole) (i j : ℕ) (t c : Tree) → IsTable first table known seen
    → den first known i ≡ Some t → den first known j ≡ Some c → pair_at table i j ≡ None → (n : ℕ) → den first known n ≡ Some (grown t c) → ⊥
fresh first table known seen i j t c is a b none_at n h =
    let p = is.parts n t c h in
    let e : p.i ≡ i = is.distinct p.i i t p.body_at a in
    let f : p.j ≡ j = is.distinct p.j j c p.child_at b in
    none-some n (sym none_at ∙ ap (λ x. pair_at table x j) (sym e) ∙ ap (pair_at table p.i) (sym f) ∙ p.pair)

unseen : (o : Option ℕ) → ((k : ℕ) → o ≡ Some k → ⊥) → o ≡ None
unseen None h = refl
unseen (Some k) h = absurd (h k refl)

Grows_more : (first : ℕ) (known : List Tree) (u : Tree) (i j k : ℕ) → Grows first known i j k → Grows first (known ++ u ∷ []) i j k
Grows_more first known u i j k g = record {
  body = g.body;
  child = g.child;
  body_at = den_more first known u i g.body g.body_at;
  child_at = den_more first known u j g.child g.child_at;
  grown_at = den_more first known u k (grown g.body g.child) g.grown_at;
}

pair_parts : (i j p q : ℕ) → same_pair (i, j) (p, q) ≡ true → (i ≡ p) × (j ≡ q)
pair_parts i j p q h = let b = both (eqb i p) (eqb j q) h in ((Decides-eqb i p).0 b.0, (Decides-eqb j q).0 b.1)

pair_by : (b : Bool) (k n : ℕ) (o : Option ℕ) (P : Type 0) → cond b (Some k) o ≡ Some n → (b ≡ true → k ≡ n → P) → (o ≡ Some n → P) → P
pair_by true k n o P h new old = new refl (same_Some k n h)
pair_by false k n o P h new old = old h

old_by : (b : Bool) (k n : ℕ) (o : Option ℕ) → o ≡ Some n → (b ≡ true → ⊥) → cond b (Some k) o ≡ Some n
old_by true k n o h f = absurd (f refl)
old_by false k n o h f = h

module _ (first : ℕ) (old new : Table) (known : List Tree) (seen : List Whole) (i j k : ℕ) (t c : Tree)
    (is : IsTable first old known seen) (a : den first known i ≡ Some t) (b : den first known j ≡ Some c) (h : IsNew old new i j k) where
  next_is : k ≡ first + length known
  next_is = let e = ap length is.places ∙ length-map known (found seen) in let f = is.is_first in let g = h.next in omega arith

  at_next : den first (known ++ grown t c ∷ []) k ≡ Some (grown t c)
  at_next = ap (den first (known ++ grown t c ∷ [])) next_is ∙ den_last first known (grown t c)

  new_places : new.places.items ≡ map (found seen) (known ++ grown t c ∷ [])
  new_places =
      let e : found seen (grown t c) ≡ None = unseen (found seen (grown t c)) (λ p q. let n = is.named (grown t c) p q in fresh first old known seen i j t c is a b h.hasnt n.0 n.1) in
      h.places ∙ ap (λ x. x ++ None ∷ []) is.places ∙ ap (λ x. map (found seen) known ++ x ∷ []) (sym e) ∙ sym (map_push (found seen) known (grown t c))

  new_sound : (p q n : ℕ) → pair_at new p q ≡ Some n → Grows first (known ++ grown t c ∷ []) p q n
  new_sound p q n e =
      pair_by (same_pair (i, j) (p, q)) k n (pair_at old p q) (Grows first (known ++ grown t c ∷ []) p q n) (sym (h.pairs p q) ∙ e)
      (λ same kn. let s = pair_parts i j p q same in record {
        body = t;
        child = c;
        body_at = ap (den first (known ++ grown t c ∷ [])) (sym s.0) ∙ den_more first known (grown t c) i t a;
        child_at = ap (den first (known ++ grown t c ∷ [])) (sym s.1) ∙ den_more first known (grown t c) j c b;
        grown_at = ap (den first (known ++ grown t c ∷ [])) (sym kn) ∙ at_next;
      })
      (λ at. Grows_more first known (grown t c) p q n (is.sound p q n at))

  new_parts : (n : ℕ) (u d : Tree) → den first (known ++ grown t c ∷ []) n ≡ Some (grown u d) → Parts first (known ++ grown t c ∷ []) new n u d
  new_parts n u d e = elim (den_cases first known (grown t c) n (grown u d) e) [
    | inl f ↦ let p = is.parts n u d f in record {
      i = p.i;
      j = p.j;
      body_at = den_more first known (grown t c) p.i u p.body_at;
      child_at = den_more first known (grown t c) p.j d p.child_at;
      pair = h.pairs p.i p.j ∙ old_by (same_pair (i, j) (p.i, p.j)) k n (pair_at old p.i p.j) p.pair (λ same.
          let s = pair_parts i j p.i p.j same in
          none-some n (sym h.hasnt ∙ ap (λ x. pair_at old x j) s.0 ∙ ap (pair_at old p.i) s.1 ∙ p.pair));
    }
    | inr f ↦ record {
      i = i;
      j = j;
      body_at = den_more first known (grown t c) i t a ∙ ap (λ x. Some x) (grown_body t u c d f.1);
      child_at = den_more first known (grown t c) j c b ∙ ap (λ x. Some x) (grown_child t u c d f.1);
      pair = h.pairs i j ∙ ap (λ x. cond x (Some k) (pair_at old i j)) (same_pair_refl i j) ∙ ap (λ x. Some x) (next_is ∙ sym f.0);
    }
  ]

  new_distinct : (p q : ℕ) (u : Tree) → den first (known ++ grown t c ∷ []) p ≡ Some u → den first (known ++ grown t c ∷ []) q ≡ Some u → p ≡ q
  new_distinct p q u e f = elim (den_cases first known (grown t c) p u e) [
    | inl x ↦ elim (den_cases first known (grown t c) q u f) [
      | inl y ↦ is.distinct p q u x y
      | inr y ↦ absurd (fresh first old known seen i j t c is a b h.hasnt p (x ∙ ap (λ z. Some z) (sym y.1)))
    ]
    | inr x ↦ elim (den_cases first known (grown t c) q u f) [
      | inl y ↦ absurd (fresh first old known seen i j t c is a b h.hasnt q (y ∙ ap (λ z. Some z) (sym x.1)))
      | inr y ↦ x.0 ∙ sym y.0
    ]
  ]

  new_table : IsTable first new (known ++ grown t c ∷ []) seen
  new_table = record {
    is_first = h.first ∙ is.is_first;
    places = new_places;
    sound = new_sound;
    parts = new_parts;
    distinct = new_distinct;
    named = λ u p e. let n = is.named u p e in (n.0, den_more first known (grown t c) n.0 u n.1);
  }

  pub new_reached : Reached first new seen known k (grown t c)
  new_reached = record { known = known ++ grown t c ∷ []; is = new_table; extends = den_more first known (grown t c); at = at_next }

-- one child more
pub named_reached : (first : ℕ) (old new : Table) (known : List Tree) (seen : List Whole) (i j k : ℕ) (t c : Tree) → IsTable first old known seen
    → den first known i ≡ Some t → den first known j ≡ Some c → Named old new i j k → Reached first new seen known k (grown t c)
named_reached first old new known seen i j k t c is a b h = elim h [
  | inl e ↦ record {
    known = known;
    is = (let P : Table → Type 0 = λ x. IsTable first x known seen in subst P (sym e.same) is);
    extends = λ n u f. f;
    at = kept_grows first old known seen i j k t c is a b e.has;
  }
  | inr e ↦ new_reached first old new known seen i j k t c is a b e
]

pub trees-behind : (us : List Tree) (u : Tree) → trees_of (us ++ u ∷ []) ≡ behind (trees_of us) u
trees-behind [] u = refl
trees-behind (v ∷ us) u = ap (more v.label v.children) (trees-behind us u)

-- the names of children and of one more
pub record Split (first : ℕ) (known : List Tree) (ps : List Part) (p : Part) (ts : List Tree) : Type 0 where
  pub front : List Tree
  pub last : Tree
  pub is : ts ≡ front ++ last ∷ []
  pub front_at : AreNamed first known ps front
  pub last_at : den first known p.name ≡ Some last

pub AreNamed-split : (first : ℕ) (known : List Tree) (ps : List Part) (p : Part) (ts : List Tree) → AreNamed first known (ps ++ p ∷ []) ts → Split first known ps p ts
AreNamed-split first known [] p [] h = absurd h
AreNamed-split first known [] p (t ∷ []) h = record { front = []; last = t; is = refl; front_at = tt; last_at = h.0 }
AreNamed-split first known [] p (t ∷ u ∷ ts) h = absurd h.1
AreNamed-split first known (q ∷ ps) p [] h = absurd h
AreNamed-split first known (q ∷ ps) p (t ∷ ts) h =
    let r = AreNamed-split first known ps p ts h.1 in
    record { front = t ∷ r.front; last = r.last; is = ap (λ x. t ∷ x) r.is; front_at = (h.0, r.front_at); last_at = r.last_at }

pub AreNamed-none : (first : ℕ) (known ts : List Tree) → AreNamed first known [] ts → ts ≡ []
AreNamed-none first known [] h = refl
AreNamed-none first known (t ∷ ts) h = absurd h

-- one more child is joined
pub joins_more : (old mid new : Table) (ps : List Part) (p : Part) (label i k : ℕ) → Joins old mid ps label i → Named mid new i p.name k → Joins old new (ps ++ p ∷ []) label k
joins_more old mid new ps p label i k h named first known seen ts is at below =
    let s = AreNamed-split first known ps p ts at in
    let r = h first known seen s.front is s.front_at below in
    let n = named_reached first mid new r.known seen i p.name k (tree label (trees_of s.front)) s.last r.is r.at (r.extends p.name s.last s.last_at) named in
    let e : grown (tree label (trees_of s.front)) s.last ≡ tree label (trees_of ts) = ap (tree label) (sym (trees-behind s.front s.last) ∙ ap trees_of (sym s.is)) in
    record { known = n.known; is = n.is; extends = λ m t f. n.extends m t (r.extends m t f); at = n.at ∙ ap (λ x. Some x) e }

-- the place that the table has by a name
place_by : (b : Bool) (first n : ℕ) (known : List Tree) (seen : List Whole) (places : List (Option ℕ)) (t : Tree) → places ≡ map (found seen) known
    → cond b (Some (tree n none)) (slice_get known (n - first)) ≡ Some t → is_some_tree t.children ≡ true
    → cond b None (unwrap_or (slice_get places (n - first)) None) ≡ found seen t
place_by true first n known seen places t e h s = absurd (let f = same_Some (tree n none) t h in let g : false ≡ true = ap (λ (x : Tree). is_some_tree x.children) f ∙ s in cc)
place_by false first n known seen places t e h s =
    ap (λ x. unwrap_or (slice_get x (n - first)) None) e
    ∙ ap (λ o. unwrap_or o None) (slice_get-map (found seen) known (n - first))
    ∙ ap (λ o. unwrap_or (option_map (found seen) o) None) h

pub place_seen : (first : ℕ) (table : Table) (known : List Tree) (seen : List Whole) (n : ℕ) (t : Tree) → IsTable first table known seen → den first known n ≡ Some t
    → is_some_tree t.children ≡ true → place_at table n ≡ found seen t
place_seen first table known seen n t is a s =
    ap (λ f. cond (nat_lt n f) None (unwrap_or (slice_get table.places.items (n - f)) None)) is.is_first
    ∙ place_by (nat_lt n first) first n known seen table.places.items t is.places a s

-- a leaf has its label as its name, and no place
pub leaf_name : (first : ℕ) (table : Table) (known : List Tree) (seen : List Whole) (n l : ℕ) → IsTable first table known seen → den first known n ≡ Some (tree l none) → l < first → nat_lt n table.first ≡ true
leaf_name first table known seen n l is a below =
    let e = is.distinct n l (tree l none) a (den_leaf first known l below) in
    let f = is.is_first in
    grind (arith, nat_tests)

pub place_leaf : (first : ℕ) (table : Table) (known : List Tree) (seen : List Whole) (n l : ℕ) → IsTable first table known seen → den first known n ≡ Some (tree l none) → l < first → place_at table n ≡ None
place_leaf first table known seen n l is a below =
    ap (λ b. cond b None (unwrap_or (slice_get table.places.items (n - table.first)) None)) (leaf_name first table known seen n l is a below)

is_false : (b : Bool) → (b ≡ true → ⊥) → b ≡ false
is_false true h = absurd (h refl)
is_false false h = refl

-- one place more
map_apart : (f g : Tree → Option ℕ) (t : Tree) (known : List Tree) → ((u : Tree) → same_tree t u ≡ false → g u ≡ f u) → ((k : ℕ) → slice_get known k ≡ Some t → ⊥) → map f known ≡ map g known
map_apart f g t [] h no_t = refl
map_apart f g t (u ∷ known) h no_t =
    let apart : same_tree t u ≡ false = is_false (same_tree t u) (λ e. no_t 0 (ap (λ x. Some x) (sym (same_tree_from t u e)))) in
    let a = h u apart in
    let b = map_apart f g t known h (λ k e. no_t (suc k) e) in
    cc

set_found : (f g : Tree → Option ℕ) (t : Tree) (p : Option ℕ) (known : List Tree) (m : ℕ) → ((u : Tree) → same_tree t u ≡ false → g u ≡ f u) → g t ≡ p
    → slice_get known m ≡ Some t → ((k : ℕ) → slice_get known k ≡ Some t → k ≡ m) → set (map f known) m p ≡ map g known
set_found f g t p [] m h at e only = absurd (none-some t e)
set_found f g t p (u ∷ known) zero h at e only =
    let is : u ≡ t = same_Some u t e in
    let a : g u ≡ p = ap g is ∙ at in
    let b = map_apart f g t known h (λ k x. let y : suc k ≡ 0 = only (suc k) x in absurd (omega arith)) in
    cc
set_found f g t p (u ∷ known) (suc m) h at e only =
    let apart : same_tree t u ≡ false = is_false (same_tree t u) (λ x. let y : 0 ≡ suc m = only 0 (ap (λ z. Some z) (sym (same_tree_from t u x))) in absurd (omega arith)) in
    let a = h u apart in
    let b = set_found f g t p known m h at e (λ k x. let y : suc k ≡ suc m = only (suc k) x in omega arith) in
    cc

other_found : (o : Option ℕ) (b : Bool) (k : ℕ) → b ≡ false → or_else o (cond b (Some k) None) ≡ o
other_found None true k h = cc
other_found None false k h = refl
other_found (Some j) b k h = refl

module _ (first : ℕ) (old new : Table) (known : List Tree) (seen : List Whole) (n place : ℕ) (t : Tree)
    (is : IsTable first old known seen) (a : den first known n ≡ Some t) (h : Places old new n place) where
  abbrev after : List Whole
  after = seen ++ record { tree = t; place = place } ∷ []

  other : (u : Tree) → same_tree t u ≡ false → found after u ≡ found seen u
  other u e = found-append seen (record { tree = t; place = place }) u ∙ other_found (found seen u) (same_tree t u) place e

  own : found seen t ≡ None → found after t ≡ Some place
  own e = found-append seen (record { tree = t; place = place }) t ∙ ap (λ o. or_else o (cond (same_tree t t) (Some place) None)) e ∙ ap (λ b. cond b (Some place) None) (same_tree_refl t)

  same_pairs : (i j : ℕ) → pair_at new i j ≡ pair_at old i j
  same_pairs i j = ap (λ m. get same_pair m (i, j)) h.pairs

  named_by : (o : Option ℕ) (b : Bool) (k : ℕ) (P : Type 0) → or_else o (cond b (Some place) None) ≡ Some k → (o ≡ Some k → P) → (b ≡ true → P) → P
  named_by None true k P e one two = two refl
  named_by None false k P e one two = absurd (none-some k e)
  named_by (Some j) b k P e one two = one e

  places_by : (b : Bool) → nat_lt n first ≡ b → is_some_tree t.children ≡ true → found seen t ≡ None
      → cond b (Some (tree n none)) (slice_get known (n - first)) ≡ Some t
      → cond b old.places.items (set old.places.items (n - first) (Some place)) ≡ map (found after) known
  places_by true lt s e at = absurd (let f = same_Some (tree n none) t at in let g : false ≡ true = ap (λ (x : Tree). is_some_tree x.children) f ∙ s in cc)
  places_by false lt s e at =
      ap (λ x. set x (n - first) (Some place)) is.places
      ∙ set_found (found seen) (found after) t (Some place) known (n - first) other (own e) at
      (λ k f. let g : den first known (first + k) ≡ Some t = den_known first known (first + k) (omega arith) ∙ ap (slice_get known) (let x : first + k - first ≡ k = omega arith in x) ∙ f in
      let d = is.distinct (first + k) n t g a in omega arith)

  pub seen_more : is_some_tree t.children ≡ true → found seen t ≡ None → IsTable first new known after
  seen_more s e = record {
    is_first = h.first ∙ is.is_first;
    places =
        h.places
        ∙ ap (λ f. cond (nat_lt n f) old.places.items (set old.places.items (n - f) (Some place))) is.is_first
        ∙ places_by (nat_lt n first) refl s e a;
    sound = λ i j k f. is.sound i j k (sym (same_pairs i j) ∙ f);
    parts = λ k u d f. let p = is.parts k u d f in record { i = p.i; j = p.j; body_at = p.body_at; child_at = p.child_at; pair = same_pairs p.i p.j ∙ p.pair };
    distinct = is.distinct;
    named = λ u k f. named_by (found seen u) (same_tree t u) k ((m : ℕ) × (den first known m ≡ Some u)) (sym (found-append seen (record { tree = t; place = place }) u) ∙ f)
        (λ old_at. is.named u k old_at) (λ same. (n, a ∙ ap (λ x. Some x) (same_tree_from t u same)));
  }

  pub seen_leaf : nat_lt n old.first ≡ true → IsTable first new known seen
  seen_leaf lt = record {
    is_first = h.first ∙ is.is_first;
    places = h.places ∙ ap (λ b. cond b old.places.items (set old.places.items (n - old.first) (Some place))) lt ∙ is.places;
    sound = λ i j k f. is.sound i j k (sym (same_pairs i j) ∙ f);
    parts = λ k u d f. let p = is.parts k u d f in record { i = p.i; j = p.j; body_at = p.body_at; child_at = p.child_at; pair = same_pairs p.i p.j ∙ p.pair };
    distinct = is.distinct;
    named = is.named;
  }

no_grown : (k : ℕ) (t c : Tree) → tree k none ≡ grown t c → ⊥
no_grown k t c h = none_behind t.children c (ap (λ (x : Tree). x.children) h)
  where
    none_behind : (a : Trees) (d : Tree) → none ≡ behind a d → ⊥
    none_behind none d e = cc
    none_behind (more l cs rest) d e = cc

start_leaf : (b : Bool) (n k : ℕ) (t : Tree) → cond b (Some (tree n none)) (slice_get [] k) ≡ Some t → tree n none ≡ t
start_leaf true n k t h = same_Some (tree n none) t h
start_leaf false n k t h = absurd (none-some t h)

-- a table with no name but those of the leaves
pub table_start : (first : ℕ) (t : Table) → t.first ≡ first → t.places.items ≡ [] → ((i j : ℕ) → pair_at t i j ≡ None) → IsTable first t [] []
table_start first t f p e = record {
  is_first = f;
  places = p;
  sound = λ i j k h. absurd (none-some k (sym (e i j) ∙ h));
  parts = λ k b c h. absurd (no_grown k b c (start_leaf (nat_lt k first) k (k - first) (grown b c) h));
  distinct = λ i j u h g. ap (λ (x : Tree). x.label) (start_leaf (nat_lt i first) i (i - first) u h ∙ sym (start_leaf (nat_lt j first) j (j - first) u g));
  named = λ u k h. absurd (none-some k h);
}
