-- What holds of each unifier that is listed, and how many there are.
use Rattle.std.proofs.Common.{ℕ, zero, suc, ◌≡◌, ◌+◌, ◌-◌, ◌≤◌, ◌<◌, ◌^◌, List, [], ◌∷◌, ◌++◌, Bool, true, false, cond, Option, Some, None, ◌||◌, map, length, refl, sym, ◌∙◌, ap, subst, arith, length-append}
use Rattle.std.specs.Prelude.{Result, Ok, Err, IfOk, slice_get}
use Rattle.std.specs.List.{All, AllByRecursion as ByRecursion, list_any}
use Rattle.std.proofs.lemmas.Bool.{cond_both}
use Rattle.std.proofs.lemmas.List.Elements.{All-from_recursion}
use Rattle.mm_base.specs.Refusals.{unless, found_or}
use Rattle.mm_base.proofs.Refusing.{unless-ok, unless-end}
use Rattle.mm_subst.specs.declared.symbol.WSym.{WSym}
use Rattle.mm_subst.specs.declared.symbol.WSym.TheVariants.{Work}
use Rattle.mm_subst.specs.Substitutions.{Pairs}
use Rattle.mm_subst.specs.Symbols.{is_work}
use Rattle.mm_unify.specs.declared.listing.Settings.{Settings}
use Rattle.mm_unify.specs.Forbidden.{Forbidden, forbidden}
use Rattle.mm_unify.specs.Search.{Node, Visit, Answer, dead_end, cut, falls_short, child, steps, visit, visit_cut, explore, is_too_long, unless_long, roots}
use Rattle.mm_plain.specs.Binding.{HasWorkKeys}
use Rattle.mm_unify.specs.declared.listing.Ended.{Ended}
use Rattle.mm_unify.specs.declared.listing.Listing.{Listing}
use Rattle.mm_edit.specs.Edited.{IsListing, answer_in}
use Rattle.mm_edit.specs.Listed.{listed, has_none, only_among, only_unifier, chosen}
use Rattle.mm_edit.specs.declared.edit_fault.EditFault.{EditFault}
use Rattle.mm_edit.specs.declared.edit_fault.EditFault.TheVariants.{NoUnifier, NoSuchChoice}
use Rattle.mm_edit.proofs.Applied.{only-among, at-place}
use Rattle.mm_edit.proofs.Unifiers.{HasPair, answer-has}

-- ## Keys are work variables

abbrev Any : WSym → Type 0
Any c = Unit {0}

any : (s : List WSym) → ByRecursion Any s
any [] = tt
any (c ∷ s) = (tt, any s)

keys-of : (u : Pairs) → ByRecursion (HasPair Any) u → ByRecursion (λ (p : WSym × List WSym). is_work p.0 ≡ true) u
keys-of [] h = tt
keys-of (p ∷ u) h = (h.0.0, keys-of u h.1)

keys-each : (us : List Pairs) → ByRecursion (ByRecursion (HasPair Any)) us → ByRecursion HasWorkKeys us
keys-each [] h = tt
keys-each (u ∷ us) h = (All-from_recursion _ u (keys-of u h.0), keys-each us h.1)

pub keys-one : (n : ℕ) (value : List WSym) → HasWorkKeys ((Work n, value) ∷ [])
keys-one n value = All-from_recursion (λ (p : WSym × List WSym). is_work p.0 ≡ true) ((Work n, value) ∷ []) (let e : is_work (Work n) ≡ true = refl in (e, tt))

keys-listed : (bytes : List ℕ) (set : Settings) (a b : List WSym) → ByRecursion HasWorkKeys (listed bytes set a b).found
keys-listed bytes set a b = keys-each (listed bytes set a b).found (answer-has Any (forbidden bytes set.rule) (Some set.trials) a b (any a) (any b))

pub keys-only : (bytes : List ℕ) (set : Settings) (a b : List WSym) (u : Pairs) → only_unifier (listed bytes set a b) ≡ Ok u → HasWorkKeys u
keys-only bytes set a b u e = only-among HasWorkKeys (listed bytes set a b).ended (listed bytes set a b).found u (keys-listed bytes set a b) e

pub keys-chosen : (bytes : List ℕ) (set : Settings) (a b : List WSym) (choice : Option ℕ) (u : Pairs) → chosen choice (listed bytes set a b) ≡ Ok u → HasWorkKeys u
keys-chosen bytes set a b None u e = keys-only bytes set a b u e
keys-chosen bytes set a b (Some n) u e =
    let l = listed bytes set a b in
    let f = unless-ok (has_none l) NoUnifier [] (found_or (slice_get l.found (n - 1)) (NoSuchChoice (length l.found))) u e in
    at-place HasWorkKeys l.found (n - 1) (NoSuchChoice (length l.found)) u (keys-listed bytes set a b)
    (sym (unless-end (found_or (slice_get l.found (n - 1)) (NoSuchChoice (length l.found)))) ∙ f.1)

-- the same of a listing

pub keys-in : (bytes : List ℕ) (set : Settings) (a b : List WSym) (t : Listing) (u : Pairs) → IsListing t (listed bytes set a b) → only_unifier (answer_in t) ≡ Ok u → HasWorkKeys u
keys-in bytes set a b t u h e =
    let l = listed bytes set a b in
    keys-only bytes set a b u (ap (λ (x : Ended). only_among x l.found) (sym h.1) ∙ ap (only_among t.ended) (sym h.0) ∙ e)

same-choice : (t : Listing) (l : Answer) → IsListing t l → (choice : Option ℕ) → chosen choice l ≡ chosen choice (answer_in t)
same-choice t l h choice =
    ap (λ (x : Ended). chosen choice (record { found = l.found; visited = l.visited; ended = x })) (sym h.1)
    ∙ ap (λ (xs : List Pairs). chosen choice (record { found = xs; visited = l.visited; ended = t.ended })) (sym h.0)
    ∙ unvisited choice
  where
    unvisited : (o : Option ℕ) → chosen o (record { found = t.found.items; visited = l.visited; ended = t.ended }) ≡ chosen o (answer_in t)
    unvisited None = refl
    unvisited (Some n) = refl

pub chosen-in : (t : Listing) (l : Answer) (choice : Option ℕ) → IsListing t l → chosen choice l ≡ chosen choice (answer_in t)
chosen-in t l choice h = same-choice t l h choice

pub none-in : (t : Listing) (l : Answer) → IsListing t l → has_none l ≡ has_none (answer_in t)
none-in t l h =
    ap (λ (x : Ended). has_none (record { found = l.found; visited = l.visited; ended = x })) (sym h.1)
    ∙ ap (λ (xs : List Pairs). has_none (record { found = xs; visited = l.visited; ended = t.ended })) (sym h.0)

-- ## No more than the trials are listed

visit_cut-few : (f : Forbidden) (values : Pairs) (l r : List WSym) → length (visit_cut f values l r).found ≤ 1
visit_cut-few f values [] [] = cond_both (list_any (λ q. f.at_end q.1) values) [] (values ∷ []) (λ us. length us ≤ 1) (λ e. omega arith) (λ e. omega arith)
visit_cut-few f values [] (y ∷ r) = omega arith
visit_cut-few f values (x ∷ l) [] = omega arith
visit_cut-few f values (x ∷ l) (y ∷ r) =
    cond_both (falls_short (x ∷ l) (y ∷ r) || falls_short (y ∷ r) (x ∷ l) || list_any (λ q. f.so_far q.1) values)
    dead_end (record { found = []; children = map (child (x ∷ l) (y ∷ r) values) (steps x y) }) (λ (v : Visit). length v.found ≤ 1)
    (λ e. omega arith) (λ e. omega arith)

visit-few : (f : Forbidden) (node : Node) → length (visit f node).found ≤ 1
unfolding visit
visit-few f node = visit_cut-few f node.values (cut node.left node.right).0 (cut node.left node.right).1

explore-few : (f : Forbidden) (n : ℕ) (nodes : List Node) → length (explore f n nodes).found ≤ n
unfolding explore
explore-few f n [] = omega arith
explore-few f zero (node ∷ rest) = omega arith
explore-few f (suc n) (node ∷ rest) = go (is_too_long node) (visit-few f node) (explore-few f n ((visit f node).children ++ rest))
  where
    later : Answer
    later = explore f n ((visit f node).children ++ rest)

    go : (t : Bool) → length (visit f node).found ≤ 1 → length later.found ≤ n → length (unless_long t (visit f node).found later).found ≤ suc n
    go true v k = omega arith
    go false v k = omega (arith, length-append (visit f node).found later.found)

pub few-listed : (bytes : List ℕ) (set : Settings) (a b : List WSym) → length (listed bytes set a b).found ≤ set.trials
few-listed bytes set a b = explore-few (forbidden bytes set.rule) set.trials (roots a b)

pub few-of : {E : Type 0} (r : Result Listing E) (l : Answer) (n : ℕ) → IfOk r (λ (t : Listing). t.found.items ≡ l.found) → length l.found ≤ n → n < 4294967296 → IfOk r (λ (t : Listing). length t.found.items < 4294967296)
few-of (Ok t) l n e h k = omega (arith, ap length e)
few-of (Err e) l n h k m = tt
