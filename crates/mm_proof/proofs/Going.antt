-- The writer, label by label.
use Rattle.std.proofs.Common.{◌≡◌, ℕ, zero, suc, ◌+◌, ◌-◌, ◌<◌, ◌≤◌, Bool, true, false, cond, nat_le, List, [], ◌∷◌, ◌++◌, length, take, drop, get_or, None, Some, refl, sym, ap, ◌∙◌, subst, arith}
use Rattle.std.proofs.lemmas.List.{take-append-drop, drop_more}
use Rattle.std.proofs.lemmas.Bool.Decides.{nat_tests}
use Rattle.std.proofs.lemmas.Option.{none-some, same_Some}
use Rattle.mm_proof.specs.Trees.{Tree, tree, trees_of}
use Rattle.mm_proof.specs.Folding.{onward, has_enough, kept, joined, reduced, built}
use Rattle.mm_proof.specs.Compacting.{Writing, start, written, compact}
use Rattle.mm_proof.specs.TreeNames.{IsTable, Extends}
use Rattle.mm_proof.specs.Parts.{one, IsPart, AreParts, Placed}
use Rattle.mm_proof.specs.declared.written.Step.{Step}
use Rattle.mm_proof.specs.declared.table.Table.{Table}
use Rattle.mm_proof.specs.declared.table.Part.{Part}
use Rattle.mm_proof.proofs.Writings.{written-append, closed, closed_start}

-- so far: the trees on the stack, and those that the table names
pub record Going (arity : ℕ → ℕ) (first : ℕ) (labels : List ℕ) (table : Table) (stack : List Part) (steps : List Step) (i : ℕ) : Type 0 where
  pub trees : List Tree
  pub known : List Tree
  pub builds : built arity [] labels ≡ built arity trees (drop i labels)
  pub parts : AreParts first known start stack trees
  pub is : IsTable first table known (written start (trees_of trees)).seen
  pub steps_are : steps ≡ (written start (trees_of trees)).steps

pub count_is : (first : ℕ) (known : List Tree) (w : Writing) (ps : List Part) (ts : List Tree) → AreParts first known w ps ts → length ps ≡ length ts
count_is first known w [] [] h = refl
count_is first known w [] (t ∷ ts) h = absurd h
count_is first known w (p ∷ ps) [] h = absurd h
count_is first known w (p ∷ ps) (t ∷ ts) h = ap (λ n. suc n) (count_is first known (written w (one t)) ps ts h.1)

front_parts : (first : ℕ) (known : List Tree) (w : Writing) (n : ℕ) (ps : List Part) (ts : List Tree) → AreParts first known w ps ts → AreParts first known w (take n ps) (take n ts)
front_parts first known w zero ps ts h = tt
front_parts first known w (suc n) [] [] h = tt
front_parts first known w (suc n) [] (t ∷ ts) h = absurd h
front_parts first known w (suc n) (p ∷ ps) [] h = absurd h
front_parts first known w (suc n) (p ∷ ps) (t ∷ ts) h = (h.0, front_parts first known (written w (one t)) n ps ts h.1)

back_parts : (first : ℕ) (known : List Tree) (w : Writing) (n : ℕ) (ps : List Part) (ts : List Tree) → AreParts first known w ps ts → AreParts first known (written w (trees_of (take n ts))) (drop n ps) (drop n ts)
unfolding written
back_parts first known w zero ps ts h = h
back_parts first known w (suc n) [] [] h = tt
back_parts first known w (suc n) [] (t ∷ ts) h = absurd h
back_parts first known w (suc n) (p ∷ ps) [] h = absurd h
back_parts first known w (suc n) (p ∷ ps) (t ∷ ts) h = back_parts first known (written w (one t)) n ps ts h.1

push_part : (first : ℕ) (before known : List Tree) (w : Writing) (ps : List Part) (ts : List Tree) (p : Part) (t : Tree) → Extends first before known → AreParts first before w ps ts
    → IsPart first known (written w (trees_of ts)) p t → AreParts first known w (ps ++ p ∷ []) (ts ++ t ∷ [])
unfolding written
push_part first before known w [] [] p t e h i = (i, tt)
push_part first before known w [] (u ∷ ts) p t e h i = absurd h
push_part first before known w (q ∷ ps) [] p t e h i = absurd h
push_part first before known w (q ∷ ps) (u ∷ ts) p t e h i =
    (record { named = e q.name u h.0.named; starts = h.0.starts; knows = h.0.knows }, push_part first before known (written w (one u)) ps ts p t e h.1 i)

reduced_is : (arity : ℕ → ℕ) (trees : List Tree) (l n : ℕ) → arity l ≤ length trees → n ≡ length trees - arity l → reduced arity trees l ≡ Some (take n trees ++ tree l (trees_of (drop n trees)) ∷ [])
reduced_is arity trees l n h e =
    let b : has_enough arity trees l ≡ true = grind (arith, nat_tests) in
    ap (λ x. cond x (Some (kept arity trees l ++ joined arity trees l ∷ [])) None) b
    ∙ ap (λ m. Some (take m trees ++ tree l (trees_of (drop m trees)) ∷ [])) (sym e)

too_few : (arity : ℕ → ℕ) (trees : List Tree) (l : ℕ) → length trees < arity l → reduced arity trees l ≡ None
too_few arity trees l h =
    let b : has_enough arity trees l ≡ false = grind (arith, nat_tests) in
    ap (λ x. cond x (Some (kept arity trees l ++ joined arity trees l ∷ [])) None) b

built_next : (arity : ℕ → ℕ) (trees : List Tree) (l : ℕ) (ls : List ℕ) (s : List Tree) → reduced arity trees l ≡ Some s → built arity trees (l ∷ ls) ≡ built arity s ls
unfolding built
built_next arity trees l ls s h = ap (λ o. onward o (λ next. built arity next ls)) h

built_stops : (arity : ℕ → ℕ) (trees : List Tree) (l : ℕ) (ls : List ℕ) → reduced arity trees l ≡ None → built arity trees (l ∷ ls) ≡ None
unfolding built
built_stops arity trees l ls h = ap (λ o. onward o (λ next. built arity next ls)) h

built_all : (arity : ℕ → ℕ) (trees : List Tree) → built arity trees [] ≡ Some trees
unfolding built
built_all arity trees = refl

pub going_more : (arity : ℕ → ℕ) (first : ℕ) (labels : List ℕ) (old new : Table) (stack : List Part) (before after : List Step) (i l n : ℕ) (p : Part)
    → Going arity first labels old stack before i → i < length labels → l ≡ get_or labels i 0 → arity l ≤ length stack → n ≡ length stack - arity l → l < first
    → Placed old new before after (drop n stack) l p → Going arity first labels new (take n stack ++ p ∷ []) after (i + 1)
going_more arity first labels old new stack before after i l n p g at is_l enough is_n below placed =
    let count = count_is first g.known start stack g.trees g.parts in
    let front = take n g.trees in
    let ts = drop n g.trees in
    let w = written start (trees_of front) in
    let t = tree l (trees_of ts) in
    let whole : written start (trees_of g.trees) ≡ written w (trees_of ts) = ap (λ x. written start (trees_of x)) (sym (take-append-drop n g.trees)) ∙ written-append front ts start in
    let P : Writing → Type 0 = λ x. IsTable first old g.known x.seen in
    let r = placed first g.known w ts (subst P whole g.is) (closed (trees_of front) start closed_start) (back_parts first g.known start n stack g.trees g.parts) below
    (g.steps_are ∙ ap (λ (x : Writing). x.steps) whole) in
    let next : written w (one t) ≡ written start (trees_of (front ++ t ∷ [])) = sym (written-append front (t ∷ []) start) in
    let Q : Writing → Type 0 = λ x. IsTable first new r.known x.seen in
    let red : reduced arity g.trees l ≡ Some (front ++ t ∷ []) = reduced_is arity g.trees l n (omega arith) (omega arith) in
    record {
      trees = front ++ t ∷ [];
      known = r.known;
      builds = g.builds ∙ ap (built arity g.trees) (drop_more labels i 0 at) ∙ ap (λ x. built arity g.trees (x ∷ drop (i + 1) labels)) (sym is_l) ∙ built_next arity g.trees l (drop (i + 1) labels) (front ++ t ∷ []) red;
      parts = push_part first g.known r.known start (take n stack) front p t r.extends (front_parts first g.known start n stack g.trees g.parts) r.part;
      is = subst Q next r.is;
      steps_are = r.steps_are ∙ ap (λ (x : Writing). x.steps) next;
    }

-- a label over too few trees builds nothing
enough : (arity : ℕ → ℕ) (trees : List Tree) (l : ℕ) (ls : List ℕ) (x : List Tree) → built arity trees (l ∷ ls) ≡ Some x → arity l ≤ length trees
enough arity trees l ls x h = by (nat_le (arity l) (length trees)) refl
  where
    by : (b : Bool) → nat_le (arity l) (length trees) ≡ b → arity l ≤ length trees
    by true e = grind (arith, nat_tests)
    by false e = absurd (none-some x (sym (built_stops arity trees l ls (too_few arity trees l (grind (arith, nat_tests)))) ∙ h))

-- so far, where the labels are one tree
pub going_next : (arity : ℕ → ℕ) (first : ℕ) (labels : List ℕ) (old new : Table) (stack : List Part) (before after : List Step) (i l n : ℕ) (p : Part) (t : Tree)
    → built arity [] labels ≡ Some (t ∷ []) → Going arity first labels old stack before i → i < length labels → l ≡ get_or labels i 0 → n ≡ length stack - arity l → l < first
    → Placed old new before after (drop n stack) l p → Going arity first labels new (take n stack ++ p ∷ []) after (i + 1)
going_next arity first labels old new stack before after i l n p t one g at is_l is_n below placed =
    let count = count_is first g.known start stack g.trees g.parts in
    let e = enough arity g.trees l (drop (i + 1) labels) (t ∷ [])
    (sym (g.builds ∙ ap (built arity g.trees) (drop_more labels i 0 at) ∙ ap (λ x. built arity g.trees (x ∷ drop (i + 1) labels)) (sym is_l)) ∙ one) in
    going_more arity first labels old new stack before after i l n p g at is_l (omega arith) is_n below placed

pub going_all : (arity : ℕ → ℕ) (first : ℕ) (labels : List ℕ) (table : Table) (stack : List Part) (steps : List Step) (i : ℕ) (t : Tree)
    → built arity [] labels ≡ Some (t ∷ []) → Going arity first labels table stack steps i → drop i labels ≡ [] → steps ≡ compact t
going_all arity first labels table stack steps i t one g e =
    let trees_are : g.trees ≡ t ∷ [] = same_Some g.trees (t ∷ []) (sym (g.builds ∙ ap (built arity g.trees) e ∙ built_all arity g.trees) ∙ one) in
    g.steps_are ∙ ap (λ x. (written start (trees_of x)).steps) trees_are

pub going_start : (arity : ℕ → ℕ) (first : ℕ) (labels : List ℕ) (table : Table) (stack : List Part) (steps : List Step) → IsTable first table [] [] → stack ≡ [] → steps ≡ []
    → Going arity first labels table stack steps 0
unfolding written
going_start arity first labels table stack steps is none_there nothing = record {
  trees = [];
  known = [];
  builds = refl;
  parts = (let P : List Part → Type 0 = λ x. AreParts first [] start x [] in subst P (sym none_there) tt);
  is = is;
  steps_are = nothing;
}
