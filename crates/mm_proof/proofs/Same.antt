-- The test on trees is equality; lists of trees.
use Rattle.std.proofs.Common.{◌≡◌, ℕ, Bool, true, false, ◌&&◌, eqb, List, [], ◌∷◌, refl, ap, ◌∙◌, eq-eqb}
use Rattle.std.proofs.lemmas.Bool.Decides.{Decides-eqb}
use Rattle.mm_proof.specs.Trees.{Tree, Trees, none, more, tree, trees_of, list_of, same_trees, same_tree}

pub both : (a b : Bool) → a && b ≡ true → (a ≡ true) × (b ≡ true)
both true b h = (refl, h)
both false b h = cc

pub same_refl : (ts : Trees) → same_trees ts ts ≡ true
same_refl none = refl
same_refl (more l cs rest) = rw (eq-eqb l l refl) (rw (same_refl cs) (same_refl rest))

pub same_from : (ts us : Trees) → same_trees ts us ≡ true → ts ≡ us
same_from none none h = refl
same_from none (more m ds qs) h = cc
same_from (more l cs rs) none h = cc
same_from (more l cs rs) (more m ds qs) h =
    let p = both (eqb l m) (same_trees cs ds && same_trees rs qs) h in
    let q = both (same_trees cs ds) (same_trees rs qs) p.1 in
    let e : l ≡ m = (Decides-eqb l m).0 p.0 in
    let f = same_from cs ds q.0 in
    let g = same_from rs qs q.1 in
    cc

pub same_tree_refl : (t : Tree) → same_tree t t ≡ true
same_tree_refl t = rw (eq-eqb t.label t.label refl) (same_refl t.children)

pub tree_is : (l m : ℕ) (cs ds : Trees) → l ≡ m → cs ≡ ds → tree l cs ≡ tree m ds
tree_is l m cs ds e f = ap (λ n. tree n cs) e ∙ ap (tree m) f

pub same_tree_from : (t u : Tree) → same_tree t u ≡ true → t ≡ u
same_tree_from t u h =
    let p = both (eqb t.label u.label) (same_trees t.children u.children) h in
    tree_is t.label u.label t.children u.children ((Decides-eqb t.label u.label).0 p.0) (same_from t.children u.children p.1)

pub trees-list : (ts : Trees) → trees_of (list_of ts) ≡ ts
trees-list none = refl
trees-list (more l cs rest) = ap (more l cs) (trees-list rest)

pub list-trees : (ts : List Tree) → list_of (trees_of ts) ≡ ts
list-trees [] = refl
list-trees (t ∷ ts) = ap (λ x. t ∷ x) (list-trees ts)
