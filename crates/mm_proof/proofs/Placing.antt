-- A tree's own step, written behind its children.
use Rattle.std.proofs.Common.{◌≡◌, ℕ, ◌<◌, Bool, true, false, cond, not, ◌&&◌, ◌||◌, eqb, List, [], ◌∷◌, ◌++◌, length, take, Option, None, Some, refl, sym, ap, ◌∙◌, subst}
use Rattle.std.proofs.lemmas.Option.{none-some}
use Rattle.mm_proof.specs.Trees.{Tree, Trees, none, more, tree, trees_of, is_some_tree, has_unknown}
use Rattle.mm_proof.specs.Compacting.{Whole, Writing, found, is_shared, earlier, named, with_whole, put, written}
use Rattle.mm_proof.specs.TreeNames.{den, IsTable, Reached, AreNamed, Joins, place_at}
use Rattle.mm_proof.specs.Parts.{one, IsPart, AreParts, IsClosed, IsPlaced, Keeps, knows_all, start_of}
use Rattle.mm_proof.specs.declared.written.Step.{Step}
use Rattle.mm_proof.specs.declared.written.Step.TheVariants.{Back}
use Rattle.mm_proof.specs.declared.table.Table.{Table}
use Rattle.mm_proof.specs.declared.table.Part.{Part}
use Rattle.mm_proof.proofs.Naming.{place_seen, place_leaf, leaf_name, seen_more, seen_leaf}
use Rattle.mm_proof.proofs.Writings.{own_children, nothing_new, shorter, no_unknown_parts, not_true, shared_known}

pub parts_named : (first : ℕ) (known : List Tree) (w : Writing) (ps : List Part) (ts : List Tree) → AreParts first known w ps ts → AreNamed first known ps ts
parts_named first known w [] [] h = tt
parts_named first known w [] (t ∷ ts) h = h
parts_named first known w (p ∷ ps) [] h = h
parts_named first known w (p ∷ ps) (t ∷ ts) h = (h.0.named, parts_named first known (written w (one t)) ps ts h.1)

all_known : (a b c d : Bool) → (not (b || (c || false)) && not (a || (d || false))) ≡ not (a || ((b || (c || d)) || false))
all_known true true c d = refl
all_known true false true d = refl
all_known true false false d = refl
all_known false true c d = refl
all_known false false true d = refl
all_known false false false true = refl
all_known false false false false = refl

leaf_known : (a : Bool) → not a ≡ not (a || false)
leaf_known true = refl
leaf_known false = refl

both_are : (a b c d : Bool) → a ≡ c → b ≡ d → (a && b) ≡ (c && d)
both_are a b c d e f = cc

pub knows_is : (first : ℕ) (known : List Tree) (w : Writing) (ps : List Part) (ts : List Tree) (l : ℕ) → AreParts first known w ps ts
    → knows_all l ps ≡ not (has_unknown (one (tree l (trees_of ts))))
knows_is first known w [] [] l h = leaf_known (eqb l 0)
knows_is first known w [] (t ∷ ts) l h = absurd h
knows_is first known w (p ∷ ps) [] l h = absurd h
knows_is first known w (p ∷ ps) (t ∷ ts) l h =
    both_are p.known (knows_all l ps) (not (has_unknown (one t))) (not (has_unknown (one (tree l (trees_of ts))))) h.0.knows (knows_is first known (written w (one t)) ps ts l h.1)
    ∙ all_known (eqb l 0) (eqb t.label 0) (has_unknown t.children) (has_unknown (trees_of ts))

pub starts_is : (first : ℕ) (known : List Tree) (w : Writing) (ps : List Part) (ts : List Tree) → AreParts first known w ps ts → start_of (length (written w (trees_of ts)).steps) ps ≡ length w.steps
unfolding written
starts_is first known w [] [] h = refl
starts_is first known w [] (t ∷ ts) h = absurd h
starts_is first known w (p ∷ ps) [] h = absurd h
starts_is first known w (p ∷ ps) (t ∷ ts) h = h.0.starts

cond_none : (b : Bool) → ◌≡◌ {A = Option ℕ} (cond b None None) None
cond_none true = refl
cond_none false = refl

place_is : (first : ℕ) (table : Table) (known : List Tree) (w : Writing) (n l : ℕ) (cs : Trees) → IsTable first table known (written w cs).seen → den first known n ≡ Some (tree l cs) → l < first
    → cond (not (has_unknown (one (tree l cs)))) (place_at table n) None ≡ earlier w.seen (tree l cs)
place_is first table known w n l none is a below =
    ap (λ o. cond (not (has_unknown (one (tree l none)))) o None) (place_leaf first table known (written w none).seen n l is a below) ∙ cond_none (not (has_unknown (one (tree l none))))
place_is first table known w n l (more m ds qs) is a below =
    ap (λ o. cond (not (has_unknown (one (tree l (more m ds qs))))) o None)
    (place_seen first table known (written w (more m ds qs)).seen n (tree l (more m ds qs)) is a refl ∙ own_children l (more m ds qs) w)

unshared : (b : Bool) (k : ℕ) (o : Option ℕ) → cond b o None ≡ Some k → (b ≡ true) × (o ≡ Some k)
unshared true k o h = (refl, h)
unshared false k o h = absurd (none-some k h)

knows_false : (b : Bool) → not b ≡ false → b ≡ true
knows_false true h = refl
knows_false false h = cc

module _ (first : ℕ) (old mid : Table) (known : List Tree) (w : Writing) (ts : List Tree) (ps : List Part) (l n start_at : ℕ) (knows : Bool)
    (is : IsTable first old known (written w (trees_of ts)).seen) (closed : IsClosed w.seen) (parts : AreParts first known w ps ts) (below : l < first)
    (joins : Joins old mid ps l n) (knows_all_is : knows ≡ knows_all l ps) (starts : start_at ≡ start_of (length (written w (trees_of ts)).steps) ps) where
  abbrev t : Tree
  t = tree l (trees_of ts)

  abbrev walked : Writing
  walked = written w (trees_of ts)

  reached : Reached first mid walked.seen known n t
  reached = joins first known walked.seen ts is (parts_named first known w ps ts parts) below

  knows_it : knows ≡ not (has_unknown (one t))
  knows_it = knows_all_is ∙ knows_is first known w ps ts l parts

  starts_it : start_at ≡ length w.steps
  starts_it = starts ∙ starts_is first known w ps ts parts

  part_is : IsPart first reached.known w (record { name = n; start = start_at; known = knows }) t
  part_is = record { named = reached.at; starts = starts_it; knows = knows_it }

  pub again : (o : Option ℕ) → o ≡ cond knows (place_at mid n) None → o ≡ earlier w.seen t
  again o h = h ∙ ap (λ b. cond b (place_at mid n) None) knows_it ∙ place_is first mid reached.known w n l (trees_of ts) reached.is reached.at below

  own_is : (o : Option ℕ) → earlier w.seen t ≡ o → written w (one t) ≡ put o t w walked
  unfolding written
  own_is o e = ap (λ x. put x t w walked) e

  -- it is written whole already
  pub placed_back : (k : ℕ) (steps : List Step) → Some k ≡ cond knows (place_at mid n) None → steps ≡ take start_at walked.steps ++ Back k ∷ []
      → IsPlaced first mid known w steps (record { name = n; start = start_at; known = knows }) t
  placed_back k steps h s =
      let e = sym (again (Some k) h) in
      let f = unshared (is_shared t) k (found w.seen t) e in
      let g = own_is (Some k) e in
      let u = not_true (has_unknown (one t)) (shared_known (is_some_tree t.children) (not (has_unknown (one t))) f.0) in
      let v : walked.seen ≡ w.seen = nothing_new (trees_of ts) w (no_unknown_parts (eqb l 0) (has_unknown (trees_of ts)) false u).0 (closed t k f.1) in
      let P : List Whole → Type 0 = λ x. IsTable first mid reached.known x in
      record {
        known = reached.known;
        is = subst P (v ∙ sym (ap (λ (x : Writing). x.seen) g)) reached.is;
        extends = reached.extends;
        part = part_is;
        steps_are = s ∙ ap (λ m. take m walked.steps ++ Back k ∷ []) starts_it ∙ ap (λ x. x ++ Back k ∷ []) (shorter (trees_of ts) w) ∙ sym (ap (λ (x : Writing). x.steps) g);
      }

  whole_by : (b : Bool) (new : Table) → Keeps b mid new n (length walked.steps) → b ≡ not (has_unknown (one t)) → None ≡ earlier w.seen t
      → IsTable first new reached.known (with_whole walked.seen t (length walked.steps))
  whole_by false new keeps b none_at =
      let u = knows_false (has_unknown (one t)) (sym b) in
      let P : Table → Type 0 = λ x. IsTable first x reached.known (with_whole walked.seen t (length walked.steps)) in
      let Q : Bool → Type 0 = λ x. IsTable first mid reached.known (cond x (walked.seen ++ record { tree = t; place = length walked.steps } ∷ []) walked.seen) in
      subst P (sym keeps) (subst Q (sym (unshared_is (is_some_tree t.children) (has_unknown (one t)) u)) reached.is)
    where
      unshared_is : (a c : Bool) → c ≡ true → (a && not c) ≡ false
      unshared_is true c e = ap not e
      unshared_is false c e = refl
  whole_by true new keeps b none_at = by (trees_of ts) refl
    where
      by : (cs : Trees) → trees_of ts ≡ cs → IsTable first new reached.known (with_whole walked.seen t (length walked.steps))
      by none e =
          let a : den first reached.known n ≡ Some (tree l none) = reached.at ∙ ap (λ x. Some (tree l x)) e in
          let Q : Bool → Type 0 = λ x. IsTable first new reached.known (cond x (walked.seen ++ record { tree = t; place = length walked.steps } ∷ []) walked.seen) in
          subst Q (sym (ap (λ x. is_some_tree x && not (has_unknown (one t))) e))
          (seen_leaf first mid new reached.known walked.seen n (length walked.steps) t reached.is reached.at keeps (leaf_name first mid reached.known walked.seen n l reached.is a below))
      by (more m ds qs) e =
          let some : is_some_tree t.children ≡ true = ap is_some_tree e in
          let shared : is_shared t ≡ true = ap (λ x. x && not (has_unknown (one t))) some ∙ sym b in
          let unseen : found walked.seen t ≡ None = own_children l (trees_of ts) w ∙ sym (ap (λ x. cond x (found w.seen t) None) shared) ∙ sym none_at in
          let Q : Bool → Type 0 = λ x. IsTable first new reached.known (cond x (walked.seen ++ record { tree = t; place = length walked.steps } ∷ []) walked.seen) in
          subst Q (sym shared) (seen_more first mid new reached.known walked.seen n (length walked.steps) t reached.is reached.at keeps some unseen)

  -- it is written whole
  pub placed_whole : (new : Table) (steps : List Step) → None ≡ cond knows (place_at mid n) None → Keeps knows mid new n (length walked.steps) → steps ≡ walked.steps ++ named l ∷ []
      → IsPlaced first new known w steps (record { name = n; start = start_at; known = knows }) t
  placed_whole new steps h keeps s =
      let e = again None h in
      let g = own_is None (sym e) in
      let P : List Whole → Type 0 = λ x. IsTable first new reached.known x in
      record {
        known = reached.known;
        is = subst P (sym (ap (λ (x : Writing). x.seen) g)) (whole_by knows new keeps knows_it e);
        extends = reached.extends;
        part = part_is;
        steps_are = s ∙ sym (ap (λ (x : Writing). x.steps) g);
      }
