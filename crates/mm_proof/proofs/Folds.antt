-- The steps of trees fold to these trees.
use Rattle.std.proofs.Common.{◌≡◌, ℕ, zero, suc, ◌-◌, Bool, true, false, cond, List, [], ◌∷◌, ◌++◌, length, take, drop, slice_get, Option, None, Some, refl, sym, ap, ◌∙◌, subst, arith, length-append, append_assoc, eqb}
use Rattle.std.proofs.lemmas.List.{append-nil, take_at, drop_at}
use Rattle.std.proofs.lemmas.Bool.Decides.{nat_tests, Decides-eqb}
use Rattle.std.proofs.lemmas.Option.{none-some}
use Rattle.mm_proof.specs.Trees.{Tree, Trees, none, more, tree, trees_of, list_of, same_tree, AreWhole, postorder}
use Rattle.mm_proof.specs.Folding.{onward, has_enough, kept, joined, reduced, built, Folded, nothing, pushed, fold_step, folded, fold}
use Rattle.mm_proof.specs.Compacting.{Whole, Writing, start, found, is_shared, earlier, named, with_whole, put, written, compact}
use Rattle.mm_proof.specs.declared.written.Step.{Step}
use Rattle.mm_proof.specs.declared.written.Step.TheVariants.{Label, Unknown, Back}
use Rattle.mm_proof.proofs.Same.{same_tree_from, trees-list, tree_is}

-- the first of two
abbrev pub or_else : {A : Type 0} → Option A → Option A → Option A
or_else None o = o
or_else (Some x) o = Some x

pub slice_get-append : {A : Type 0} (xs ys : List A) (k : ℕ) (x : A) → slice_get xs k ≡ Some x → slice_get (xs ++ ys) k ≡ Some x
slice_get-append [] ys k x h = absurd (none-some x h)
slice_get-append (y ∷ xs) ys zero x h = h
slice_get-append (y ∷ xs) ys (suc k) x h = slice_get-append xs ys k x h

pub slice_get-last : {A : Type 0} (xs : List A) (x : A) → slice_get (xs ++ x ∷ []) (length xs) ≡ Some x
slice_get-last [] x = refl
slice_get-last (y ∷ xs) x = slice_get-last xs x

-- a label over a stack whose last trees are its children
pub enough_at : (arity : ℕ → ℕ) (s cs : List Tree) (l : ℕ) → length cs ≡ arity l → has_enough arity (s ++ cs) l ≡ true
enough_at arity s cs l h = let e = length-append s cs in grind (arith, nat_tests)

kept_count : (arity : ℕ → ℕ) (s cs : List Tree) (l : ℕ) → length cs ≡ arity l → length (s ++ cs) - arity l ≡ length s
kept_count arity s cs l h = omega (arith, length-append s cs)

pub kept_at : (arity : ℕ → ℕ) (s cs : List Tree) (l : ℕ) → length cs ≡ arity l → kept arity (s ++ cs) l ≡ s
kept_at arity s cs l h = ap (λ n. take n (s ++ cs)) (kept_count arity s cs l h) ∙ take_at s cs (length s) refl

pub joined_at : (arity : ℕ → ℕ) (s : List Tree) (cs : Trees) (l : ℕ) → length (list_of cs) ≡ arity l → joined arity (s ++ list_of cs) l ≡ tree l cs
joined_at arity s cs l h =
    ap (λ n. tree l (trees_of (drop n (s ++ list_of cs)))) (kept_count arity s (list_of cs) l h)
    ∙ ap (λ x. tree l (trees_of x)) (drop_at s (list_of cs) (length s) refl)
    ∙ ap (tree l) (trees-list cs)

pub reduced_at : (arity : ℕ → ℕ) (s : List Tree) (cs : Trees) (l : ℕ) → length (list_of cs) ≡ arity l → reduced arity (s ++ list_of cs) l ≡ Some (s ++ tree l cs ∷ [])
reduced_at arity s cs l h =
    ap (λ b. cond b (Some (kept arity (s ++ list_of cs) l ++ joined arity (s ++ list_of cs) l ∷ [])) None) (enough_at arity s (list_of cs) l h)
    ∙ ap (λ x. Some (x ++ joined arity (s ++ list_of cs) l ∷ [])) (kept_at arity s (list_of cs) l h)
    ∙ ap (λ t. Some (s ++ t ∷ [])) (joined_at arity s cs l h)

-- labels in postorder build their trees
pub built-postorder : (arity : ℕ → ℕ) (ts : Trees) (s : List Tree) (ls : List ℕ) → AreWhole arity ts → built arity s (postorder ts ++ ls) ≡ built arity (s ++ list_of ts) ls
unfolding built
built-postorder arity none s ls h = ap (λ x. built arity x ls) (sym (append-nil s))
built-postorder arity (more l cs rest) s ls h =
    ap (built arity s) (append_assoc (postorder cs) (l ∷ postorder rest) ls)
    ∙ built-postorder arity cs s (l ∷ (postorder rest ++ ls)) h.1.0
    ∙ ap (λ o. onward o (λ next. built arity next (postorder rest ++ ls))) (reduced_at arity s cs l h.0)
    ∙ built-postorder arity rest (s ++ tree l cs ∷ []) ls h.1.1
    ∙ ap (λ x. built arity x ls) (append_assoc s (tree l cs ∷ []) (list_of rest))

pub built_whole : (arity : ℕ → ℕ) (t : Tree) → AreWhole arity (trees_of (t ∷ [])) → built arity [] (postorder (trees_of (t ∷ []))) ≡ Some (t ∷ [])
unfolding built
built_whole arity t h =
    ap (built arity []) (sym (append-nil (postorder (trees_of (t ∷ []))))) ∙ built-postorder arity (trees_of (t ∷ [])) [] [] h

folded_by : (arity : ℕ → ℕ) (o : Option Folded) (xs : List Step) (s : Step)
    → ((f : Folded) → folded arity f (xs ++ s ∷ []) ≡ onward (folded arity f xs) (λ g. fold_step arity g s))
    → onward o (λ f. folded arity f (xs ++ s ∷ [])) ≡ onward (onward o (λ f. folded arity f xs)) (λ g. fold_step arity g s)
folded_by arity None xs s h = refl
folded_by arity (Some f) xs s h = h f

last_by : (arity : ℕ → ℕ) (o : Option Folded) → onward o (λ g. folded arity g []) ≡ o
unfolding folded
last_by arity None = refl
last_by arity (Some g) = refl

-- one step more
pub folded_more : (arity : ℕ → ℕ) (xs : List Step) (s : Step) (f : Folded) → folded arity f (xs ++ s ∷ []) ≡ onward (folded arity f xs) (λ g. fold_step arity g s)
unfolding folded
folded_more arity [] s f = last_by arity (fold_step arity f s)
folded_more arity (x ∷ xs) s f = folded_by arity (fold_step arity f x) xs s (folded_more arity xs s)

-- what is seen, with one more behind
pub found-append : (seen : List Whole) (w : Whole) (t : Tree) → found (seen ++ w ∷ []) t ≡ or_else (found seen t) (cond (same_tree w.tree t) (Some w.place) None)
found-append [] w t = refl
found-append (v ∷ seen) w t = by (same_tree v.tree t) (found-append seen w t)
  where
    by : (b : Bool) → found (seen ++ w ∷ []) t ≡ or_else (found seen t) (cond (same_tree w.tree t) (Some w.place) None)
        → cond b (Some v.place) (found (seen ++ w ∷ []) t) ≡ or_else (cond b (Some v.place) (found seen t)) (cond (same_tree w.tree t) (Some w.place) None)
    by true h = refl
    by false h = h

-- what is seen stands at its place among the trees of the steps
abbrev pub Agrees : List Whole → List Tree → Type 0
Agrees seen trees = (t : Tree) (k : ℕ) → found seen t ≡ Some k → slice_get trees k ≡ Some t

-- the steps of a writing fold to these trees
pub record Stands (arity : ℕ → ℕ) (w : Writing) (f : Folded) : Type 0 where
  pub folds : folded arity nothing w.steps ≡ Some f
  pub many : length f.trees ≡ length w.steps
  pub agrees : Agrees w.seen f.trees

agrees_more : (seen : List Whole) (trees : List Tree) (t : Tree) → Agrees seen trees → Agrees seen (trees ++ t ∷ [])
agrees_more seen trees t h u k e = slice_get-append trees (t ∷ []) k u (h u k e)

agrees_by : (o : Option ℕ) (b : Bool) (place k : ℕ) (P : Type 0) → or_else o (cond b (Some place) None) ≡ Some k → (o ≡ Some k → P) → (b ≡ true → place ≡ k → P) → P
agrees_by None true place k P h one other = other refl cc
agrees_by None false place k P h one other = absurd (none-some k h)
agrees_by (Some j) b place k P h one other = one h

-- one more is seen, whose own step comes next
agrees_whole : (seen : List Whole) (trees : List Tree) (t : Tree) (place : ℕ) → length trees ≡ place → Agrees seen trees
    → Agrees (seen ++ record { tree = t; place = place } ∷ []) (trees ++ t ∷ [])
agrees_whole seen trees t place e h u k at =
    agrees_by (found seen u) (same_tree t u) place k (slice_get (trees ++ t ∷ []) k ≡ Some u) (sym (found-append seen (record { tree = t; place = place }) u) ∙ at)
    (λ one. slice_get-append trees (t ∷ []) k u (h u k one))
    (λ same is. ap (slice_get (trees ++ t ∷ [])) (sym is ∙ sym e) ∙ slice_get-last trees t ∙ ap (λ x. Some x) (same_tree_from t u same))

with_by : (b : Bool) (seen : List Whole) (trees : List Tree) (t : Tree) (place : ℕ) → length trees ≡ place → Agrees seen trees
    → Agrees (cond b (seen ++ record { tree = t; place = place } ∷ []) seen) (trees ++ t ∷ [])
with_by true seen trees t place e h = agrees_whole seen trees t place e h
with_by false seen trees t place e h = agrees_more seen trees t h

earlier_by : (b : Bool) (o : Option ℕ) (k : ℕ) → cond b o None ≡ Some k → o ≡ Some k
earlier_by true o k h = h
earlier_by false o k h = absurd (none-some k h)

many_more : (xs : List Tree) (ys : List Step) (t : Tree) (s : Step) → length xs ≡ length ys → length (xs ++ t ∷ []) ≡ length (ys ++ s ∷ [])
many_more xs ys t s h = omega (arith, length-append xs (t ∷ []), length-append ys (s ∷ []))

-- a back reference
stands_back : (arity : ℕ → ℕ) (w : Writing) (f : Folded) (t : Tree) (k : ℕ) → Stands arity w f → found w.seen t ≡ Some k
    → Stands arity (record { steps = w.steps ++ Back k ∷ []; seen = w.seen }) (pushed f f.stack t)
stands_back arity w f t k h at = record {
  folds = folded_more arity w.steps (Back k) nothing ∙ ap (λ o. onward o (λ g. fold_step arity g (Back k))) h.folds ∙ ap (λ o. onward o (λ u. Some (pushed f f.stack u))) (h.agrees t k at);
  many = many_more f.trees w.steps t (Back k) h.many;
  agrees = agrees_more w.seen f.trees t h.agrees;
}

no_children : (cs : Trees) → length (list_of cs) ≡ 0 → none ≡ cs
no_children none h = refl
no_children (more l cs rest) h = absurd (omega arith)

label_step : (arity : ℕ → ℕ) (trees stack : List Tree) (l : ℕ) (cs : Trees) → length (list_of cs) ≡ arity l
    → fold_step arity (record { trees = trees; stack = stack ++ list_of cs }) (Label l) ≡ Some (record { trees = trees ++ tree l cs ∷ []; stack = stack ++ tree l cs ∷ [] })
label_step arity trees stack l cs h =
    ap (λ b. cond b (Some (pushed (record { trees = trees; stack = stack ++ list_of cs }) (kept arity (stack ++ list_of cs) l) (joined arity (stack ++ list_of cs) l))) None) (enough_at arity stack (list_of cs) l h)
    ∙ ap (λ x. Some (pushed (record { trees = trees; stack = stack ++ list_of cs }) x (joined arity (stack ++ list_of cs) l))) (kept_at arity stack (list_of cs) l h)
    ∙ ap (λ t. Some (pushed (record { trees = trees; stack = stack ++ list_of cs }) stack t)) (joined_at arity stack cs l h)

named_by : (arity : ℕ → ℕ) (b : Bool) (trees stack : List Tree) (l : ℕ) (cs : Trees) → arity 0 ≡ 0 → eqb l 0 ≡ b → length (list_of cs) ≡ arity l
    → fold_step arity (record { trees = trees; stack = stack ++ list_of cs }) (cond b Unknown (Label l)) ≡ Some (record { trees = trees ++ tree l cs ∷ []; stack = stack ++ tree l cs ∷ [] })
named_by arity false trees stack l cs z e h = label_step arity trees stack l cs h
named_by arity true trees stack l cs z e h =
    let is : l ≡ 0 = (Decides-eqb l 0).0 e in
    let some : none ≡ cs = no_children cs (h ∙ ap arity is ∙ z) in
    let same : tree 0 none ≡ tree l cs = tree_is 0 l none cs (sym is) some in
    ap (λ x. Some (pushed (record { trees = trees; stack = x }) x (tree 0 none))) (ap (λ y. stack ++ list_of y) (sym some) ∙ append-nil stack)
    ∙ ap (λ t. Some (record { trees = trees ++ t ∷ []; stack = stack ++ t ∷ [] })) same

-- a tree's own step
stands_whole : (arity : ℕ → ℕ) (w : Writing) (trees stack : List Tree) (l : ℕ) (cs : Trees) → arity 0 ≡ 0 → length (list_of cs) ≡ arity l
    → Stands arity w (record { trees = trees; stack = stack ++ list_of cs })
    → Stands arity (record { steps = w.steps ++ named l ∷ []; seen = with_whole w.seen (tree l cs) (length w.steps) }) (record { trees = trees ++ tree l cs ∷ []; stack = stack ++ tree l cs ∷ [] })
stands_whole arity w trees stack l cs z h s = record {
  folds = folded_more arity w.steps (named l) nothing ∙ ap (λ o. onward o (λ g. fold_step arity g (named l))) s.folds ∙ named_by arity (eqb l 0) trees stack l cs z refl h;
  many = many_more trees w.steps (tree l cs) (named l) s.many;
  agrees = with_by (is_shared (tree l cs)) w.seen trees (tree l cs) (length w.steps) s.many s.agrees;
}

put_by : (arity : ℕ → ℕ) (o : Option ℕ) (w walked : Writing) (f : Folded) (trees : List Tree) (l : ℕ) (cs : Trees) → arity 0 ≡ 0 → length (list_of cs) ≡ arity l
    → ((k : ℕ) → o ≡ Some k → found w.seen (tree l cs) ≡ Some k)
    → Stands arity w f → Stands arity walked (record { trees = trees; stack = f.stack ++ list_of cs })
    → (ts : List Tree) × Stands arity (put o (tree l cs) w walked) (record { trees = ts; stack = f.stack ++ tree l cs ∷ [] })
put_by arity None w walked f trees l cs z h at s t = (trees ++ tree l cs ∷ [], stands_whole arity walked trees f.stack l cs z h t)
put_by arity (Some k) w walked f trees l cs z h at s t = (f.trees ++ tree l cs ∷ [], stands_back arity w f (tree l cs) k s (at k refl))

stands_at : (arity : ℕ → ℕ) (w : Writing) (trees x y : List Tree) → x ≡ y → Stands arity w (record { trees = trees; stack = x }) → Stands arity w (record { trees = trees; stack = y })
stands_at arity w trees x y e s = let P : List Tree → Type 0 = λ z. Stands arity w (record { trees = trees; stack = z }) in subst P e s

-- the steps that are written for trees fold to them, behind what is there
pub written_stands : (arity : ℕ → ℕ) (ts : Trees) (w : Writing) (f : Folded) → arity 0 ≡ 0 → AreWhole arity ts → Stands arity w f
    → (trees : List Tree) × Stands arity (written w ts) (record { trees = trees; stack = f.stack ++ list_of ts })
unfolding written
written_stands arity none w f z h s = (f.trees, stands_at arity w f.trees f.stack (f.stack ++ []) (sym (append-nil f.stack)) s)
written_stands arity (more l cs rest) w f z h s =
    let one = written_stands arity cs w f z h.1.0 s in
    let two = put_by arity (earlier w.seen (tree l cs)) w (written w cs) f one.0 l cs z h.0
    (λ k. earlier_by (is_shared (tree l cs)) (found w.seen (tree l cs)) k) s one.1 in
    let three = written_stands arity rest (put (earlier w.seen (tree l cs)) (tree l cs) w (written w cs)) (record { trees = two.0; stack = f.stack ++ tree l cs ∷ [] }) z h.1.1 two.1 in
    (three.0, stands_at arity (written w (more l cs rest)) three.0 _ _ (append_assoc f.stack (tree l cs ∷ []) (list_of rest)) three.1)

stands_none : (arity : ℕ → ℕ) → Stands arity start nothing
unfolding folded
stands_none arity = record { folds = refl; many = refl; agrees = λ t k e. absurd (none-some k e) }

-- the steps of a tree fold to it
pub fold-compact : (arity : ℕ → ℕ) (t : Tree) → arity 0 ≡ 0 → AreWhole arity (trees_of (t ∷ [])) → fold arity (compact t) ≡ Some (t ∷ [])
fold-compact arity t z h =
    let p = written_stands arity (trees_of (t ∷ [])) start nothing z h (stands_none arity) in
    ap (λ o. onward o (λ f. Some f.stack)) p.1.folds
