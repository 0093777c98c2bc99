-- The first step of which a string gets too long under a substitution.
use Rattle.std.proofs.Common.{◌≡◌, ℕ, ◌+◌, ◌≤◌, ◌<◌, Bool, true, false, ◌||◌, if◌then◌else◌, List, [], ◌∷◌, ◌++◌, map, take, drop, length, get_or, Option, None, Some, refl, sym, ◌∙◌, ap, subst, arith, length-append}
use Rattle.std.specs.List.{AllByRecursion as ByRecursion, flat_map, list_any, sum_by}
use Rattle.std.proofs.lemmas.List.{take_all, take_more, take-append-drop, get_or-map, map-append}
use Rattle.std.proofs.lemmas.List.Concat.{flat_map-append, flat_map-cons, length-flat_map}
use Rattle.mm_subst.specs.declared.symbol.WSym.{WSym}
use Rattle.mm_subst.specs.Statements.{statement_of, symbol_of}
use Rattle.mm_subst.specs.Substitutions.{Pairs, applied, value_of, with_values}
use Rattle.mm_subst.specs.Symbols.{has_work}
use Rattle.mm_scope.specs.Contents.{stated_at}
use Rattle.mm_subst.proofs.Replaced.{applied_more, applied-nil, applied-one, applied-append, length-applied-append}
use Rattle.mm_plain.specs.declared.plain.Plain.{Plain}
use Rattle.mm_plain.specs.Binding.{bound, HasWorkKeys, has_works}
use Rattle.mm_plain.specs.Lengths.{is_long, is_long_source, is_long_step, first_long}
use Rattle.mm_plain.specs.Numbers.{first_from}
use Rattle.mm_plain.specs.Shape.{Each, known, unknown, size_of, steps_of}
use Rattle.mm_plain.specs.Sources.{source_of, sigma_of}
use Rattle.mm_plain.proofs.Binding.{bound-unknown, bound-known}
use Rattle.mm_plain.proofs.Equations.{steps_of-unknown, steps_of-known, length-steps_of, target_of-unknown, target_of-known}
use Rattle.mm_plain.proofs.First.{first_from-none, none-first_from, first_from-append, or_next}
use Rattle.mm_plain.proofs.Read.{source_of-unknown, source_of-known, sigma_of-unknown, sigma_of-known}
use Rattle.mm_plain.proofs.Walks.{each-at, flat_map-more}
use Rattle.mm_plain.proofs.Works.{bound-plain, has_works-unknown, has_works-known, neither, statement-with_values}
use Rattle.mm_tree.specs.Bound.{has_long_value, is_long_known}
use Rattle.mm_tree.specs.Lines.{Line}
use Rattle.mm_tree.specs.Meanings.{mean, means, mean-unknown, mean-known, text_now, sigma_now, is_live, has_values_with_work}
use Rattle.mm_tree.specs.declared.timed.TimedTree.{TimedTree}
use Rattle.mm_tree.proofs.Bindings.{string-plain, values-plain}
use Rattle.mm_tree.proofs.Kids.{is_live-unknown, is_live-known}
use Rattle.mm_tree.proofs.Shapes.{EachTimed, by_timed}

-- one symbol more
pub one-more : (theta : Pairs) (s : List WSym) (i : ℕ) (d : WSym) (v : List WSym) → i < length s → v ≡ value_of theta (get_or s i d)
    → length (applied theta (take (i + 1) s)) ≡ length (applied theta (take i s)) + length v
one-more theta s i d v h is = omega (arith, ap length (applied_more theta s i d h), length-append (applied theta (take i s)) (value_of theta (get_or s i d)), ap length is)

-- the steps of a known step, child by child

whole : (t : List WSym) (l : ℕ) (s : Pairs) (kids items : List Plain) (x : Plain) → known t l s kids ≡ x → items ≡ kids → steps_of x ≡ flat_map steps_of items ++ (x ∷ [])
whole t l s kids items x is same =
    ap steps_of (sym is) ∙ steps_of-known t l s kids
    ∙ ap (λ (ks : List Plain). flat_map steps_of ks ++ (known t l s kids ∷ [])) (sym same)
    ∙ ap (λ (y : Plain). flat_map steps_of items ++ (y ∷ [])) is

sizes : (xs : List Plain) → length (flat_map steps_of xs) ≡ sum_by size_of xs
sizes xs = length-flat_map steps_of xs ∙ ap (λ (g : Plain → ℕ). sum_by g xs) (λ i x. length-steps_of x i)

pub first-more : (p : Plain → Bool) (items : List Plain) (i n m : ℕ) (kid : Plain) (r : Option ℕ) → i < length items → kid ≡ get_or items i kid → m ≡ n + sum_by size_of (take i items)
    → first_from p n (flat_map steps_of (take i items)) ≡ None → r ≡ first_from p m (steps_of kid) → r ≡ first_from p n (flat_map steps_of (take (i + 1) items))
first-more p items i n m kid r h at number so_far found =
    let z : n + length (flat_map steps_of (take i items)) ≡ m = omega (arith, number, sizes (take i items)) in
    let front : List Plain = flat_map steps_of (take i items) in
    let item : Plain = get_or items i kid in
    found ∙ sym (ap (first_from p n) (flat_map-more steps_of items i kid h)
    ∙ first_from-append p n front (steps_of item)
    ∙ ap (λ (o : Option ℕ). or_next o (first_from p (n + length front) (steps_of item))) so_far
    ∙ ap (λ (k : ℕ). first_from p k (steps_of item)) z
    ∙ ap (λ (y : Plain). first_from p m (steps_of y)) (sym at))

-- it is found before the last child
pub first-early : (p : Plain → Bool) (t : List WSym) (l : ℕ) (s : Pairs) (kids items : List Plain) (x : Plain) (j n k : ℕ) → known t l s kids ≡ x → items ≡ kids
    → Some k ≡ first_from p n (flat_map steps_of (take j items)) → Some k ≡ first_from p n (steps_of x)
first-early p t l s kids items x j n k is same found =
    let front : List Plain = flat_map steps_of (take j items) in
    let back : List Plain = flat_map steps_of (drop j items) in
    sym (ap (first_from p n) (whole t l s kids items x is same
    ∙ ap (λ (ks : List Plain). flat_map steps_of ks ++ (x ∷ [])) (sym (take-append-drop j items))
    ∙ ap (λ (ys : List Plain). ys ++ (x ∷ [])) (flat_map-append steps_of (take j items) (drop j items)))
    ∙ first_from-append p n (front ++ back) (x ∷ [])
    ∙ ap (λ (o : Option ℕ). or_next o (first_from p (n + length (front ++ back)) (x ∷ [])))
    (first_from-append p n front back ∙ ap (λ (o : Option ℕ). or_next o (first_from p (n + length front) back)) (sym found)))

-- it is the root, or none
pub first-end : (p : Plain → Bool) (b : Bool) (t : List WSym) (l : ℕ) (s : Pairs) (kids items : List Plain) (x : Plain) (i n m : ℕ) → known t l s kids ≡ x → items ≡ kids → length items ≤ i
    → m ≡ n + sum_by size_of (take i items) → first_from p n (flat_map steps_of (take i items)) ≡ None → p x ≡ b → (if b then Some m else None) ≡ first_from p n (steps_of x)
first-end p b t l s kids items x i n m is same h number so_far test =
    let z : n + length (flat_map steps_of (take i items)) ≡ m = omega (arith, number, sizes (take i items)) in
    let front : List Plain = flat_map steps_of (take i items) in
    sym (ap (first_from p n) (whole t l s kids items x is same ∙ ap (λ (ks : List Plain). flat_map steps_of ks ++ (x ∷ [])) (sym (take_all i items h)))
    ∙ first_from-append p n front (x ∷ [])
    ∙ ap (λ (o : Option ℕ). or_next o (first_from p (n + length front) (x ∷ []))) so_far
    ∙ ap (λ (k : ℕ). first_from p k (x ∷ [])) z
    ∙ ap (λ (c : Bool). if c then Some m else None) test)

-- where no step meets a test, none of a child does

front-by : (P : Plain → Type 0) (xs ys : List Plain) → ByRecursion P (xs ++ ys) → ByRecursion P xs
front-by P [] ys h = tt
front-by P (x ∷ xs) ys h = (h.0, front-by P xs ys h.1)

back-by : (P : Plain → Type 0) (xs ys : List Plain) → ByRecursion P (xs ++ ys) → ByRecursion P ys
back-by P [] ys h = h
back-by P (x ∷ xs) ys h = back-by P xs ys h.1

each-by : (P : Plain → Type 0) (kids : List Plain) → ByRecursion P (flat_map steps_of kids) → Each (λ x. ByRecursion P (steps_of x)) kids
each-by P [] h = tt
each-by P (x ∷ xs) h =
    let parts : ByRecursion P (steps_of x ++ flat_map steps_of xs) = subst (ByRecursion P) (flat_map-cons steps_of x xs) h in
    (front-by P (steps_of x) (flat_map steps_of xs) parts, each-by P xs (back-by P (steps_of x) (flat_map steps_of xs) parts))

pub none-of-kid : (p : Plain → Bool) (t : List WSym) (l : ℕ) (s : Pairs) (kids items : List Plain) (x kid : Plain) (i : ℕ) → known t l s kids ≡ x → items ≡ kids
    → first_from p 1 (steps_of x) ≡ None → i < length items → kid ≡ get_or items i kid → first_from p 1 (steps_of kid) ≡ None
none-of-kid p t l s kids items x kid i is same none h at =
    let all : ByRecursion (λ (y : Plain). p y ≡ false) (flat_map steps_of items ++ (x ∷ [])) = subst (ByRecursion (λ (y : Plain). p y ≡ false)) (whole t l s kids items x is same) (first_from-none p 1 (steps_of x) none) in
    let each : Each (λ (x : Plain). ByRecursion (λ (y : Plain). p y ≡ false) (steps_of x)) items = each-by (λ (y : Plain). p y ≡ false) items (front-by (λ (y : Plain). p y ≡ false) (flat_map steps_of items) (x ∷ []) all) in
    none-first_from p 1 (steps_of kid) (subst (λ (z : Plain). ByRecursion (λ (y : Plain). p y ≡ false) (steps_of z)) (sym at) (each-at (λ (x : Plain). ByRecursion (λ (y : Plain). p y ≡ false) (steps_of x)) items i kid each h))

-- under theta

pub bound-is : (theta : Pairs) (t : List WSym) (l : ℕ) (s : Pairs) (kids : List Plain) (x : Plain) → known t l s kids ≡ x → known (applied theta t) l (with_values theta s) (map (bound theta) kids) ≡ bound theta x
bound-is theta t l s kids x is = sym (bound-known theta t l s kids) ∙ ap (bound theta) is

pub many-bound : (theta : Pairs) (items : List Plain) → length (map (bound theta) items) ≡ length items
many-bound theta [] = refl
many-bound theta (x ∷ xs) = omega (arith, many-bound theta xs)

pub none-is : (o : Option ℕ) → ((n : ℕ) → o ≡ Some n → ⊥) → None ≡ o
none-is None h = refl
none-is (Some n) h = absurd (h n refl)

pub bound-at : (theta : Pairs) (items : List Plain) (i : ℕ) (kid : Plain) → i < length items → kid ≡ get_or items i kid → bound theta kid ≡ get_or (map (bound theta) items) i (bound theta kid)
bound-at theta items i kid h at = ap (bound theta) at ∙ sym (get_or-map (bound theta) items i kid (bound theta kid) h)

-- what is too long of a step under theta

or-false : (b : Bool) → (b || false) ≡ b
or-false true = refl
or-false false = refl

long-values : (theta s : Pairs) → list_any (λ (p : WSym × List WSym). is_long p.1) (with_values theta s) ≡ has_long_value theta s
long-values theta [] = refl
long-values theta (p ∷ ps) = ap (λ (b : Bool). is_long (applied theta p.1) || b) (long-values theta ps)

abbrev any_long : Pairs → Bool
any_long s = list_any (λ (p : WSym × List WSym). is_long p.1) s

long-unknown : (bytes : List ℕ) (t : List WSym) → is_long_step bytes (unknown t) ≡ is_long t
unfolding is_long_step
long-unknown bytes t =
    ap (λ (u : List WSym). (is_long u || is_long_source (source_of bytes (unknown t))) || any_long (sigma_of (unknown t))) (target_of-unknown t)
    ∙ ap (λ (o : Option (List WSym)). (is_long t || is_long_source o) || any_long (sigma_of (unknown t))) (source_of-unknown bytes t)
    ∙ ap (λ (s : Pairs). (is_long t || false) || any_long s) (sigma_of-unknown t)
    ∙ or-false (is_long t || false) ∙ or-false (is_long t)

long-known : (bytes : List ℕ) (t : List WSym) (l : ℕ) (s : Pairs) (kids : List Plain) → is_long_step bytes (known t l s kids) ≡ ((is_long t || is_long (applied s (statement_of bytes l))) || any_long s)
unfolding is_long_step
long-known bytes t l s kids =
    ap (λ (u : List WSym). (is_long u || is_long_source (source_of bytes (known t l s kids))) || any_long (sigma_of (known t l s kids))) (target_of-known t l s kids)
    ∙ ap (λ (o : Option (List WSym)). (is_long t || is_long_source o) || any_long (sigma_of (known t l s kids))) (source_of-known bytes t l s kids)
    ∙ ap (λ (r : Pairs). (is_long t || is_long (applied s (statement_of bytes l))) || any_long r) (sigma_of-known t l s kids)

pub long-known-bound : (bytes : List ℕ) (theta : Pairs) → HasWorkKeys theta → (t : List WSym) (l : ℕ) (s : Pairs) (kids : List Plain) (x : Plain) → known t l s kids ≡ x
    → is_long_step bytes (bound theta x) ≡ is_long_known theta t (applied s (statement_of bytes l)) s
long-known-bound bytes theta keys t l s kids x is =
    ap (λ (y : Plain). is_long_step bytes (bound theta y)) (sym is)
    ∙ ap (is_long_step bytes) (bound-known theta t l s kids)
    ∙ long-known bytes (applied theta t) l (with_values theta s) (map (bound theta) kids)
    ∙ ap (λ (u : List WSym). (is_long (applied theta t) || is_long u) || any_long (with_values theta s)) (statement-with_values bytes theta s l keys)
    ∙ ap (λ (b : Bool). (is_long (applied theta t) || is_long (applied theta (applied s (statement_of bytes l)))) || b) (long-values theta s)

pub first-unknown : (bytes : List ℕ) (theta : Pairs) (t : List WSym) (x : Plain) (n : ℕ) (b : Bool) → unknown t ≡ x → is_long (applied theta t) ≡ b
    → (if b then Some n else None) ≡ first_from (is_long_step bytes) n (steps_of (bound theta x))
first-unknown bytes theta t x n b is test =
    sym (ap (λ (y : Plain). first_from (is_long_step bytes) n (steps_of (bound theta y))) (sym is)
    ∙ ap (λ (y : Plain). first_from (is_long_step bytes) n (steps_of y)) (bound-unknown theta t)
    ∙ ap (first_from (is_long_step bytes) n) (steps_of-unknown (applied theta t))
    ∙ ap (λ (c : Bool). if c then Some n else None) (long-unknown bytes (applied theta t) ∙ test))

-- a tree without work variables

dead-kids : (line : Line) (kids : List TimedTree) → EachTimed (λ x. is_live x ≡ false → has_works (mean x line) ≡ false) kids → list_any is_live kids ≡ false → list_any has_works (means line kids) ≡ false
dead-kids line [] h e = refl
dead-kids line (x ∷ xs) h e = let w = neither (is_live x) (list_any is_live xs) e in ap (λ (b : Bool). b || list_any has_works (means line xs)) (h.0 w.0) ∙ dead-kids line xs h.1 w.1

pub dead-works : (line : Line) (x : TimedTree) → is_live x ≡ false → has_works (mean x line) ≡ false
dead-works line = by_timed (λ x. is_live x ≡ false → has_works (mean x line) ≡ false)
    (λ t e. let w = sym (is_live-unknown t) ∙ e in ap has_works (mean-unknown t line) ∙ has_works-unknown (text_now line t) ∙ ap has_work (string-plain line t.birth t.string w) ∙ w)
    (λ t l s kids ih e.
    let a = neither (has_work t.string) (has_values_with_work s.pairs || list_any is_live kids) (sym (is_live-known t l s kids) ∙ e) in
    let b = neither (has_values_with_work s.pairs) (list_any is_live kids) a.1 in
    ap has_works (mean-known t l s kids line) ∙ has_works-known (text_now line t) l (sigma_now line s) (means line kids)
    ∙ ap (λ (c : Bool). c || (has_work (text_now line t) || has_values_with_work (sigma_now line s))) (dead-kids line kids ih b.1)
    ∙ ap (λ (u : List WSym). has_work u || has_values_with_work (sigma_now line s)) (string-plain line t.birth t.string a.0)
    ∙ ap (λ (c : Bool). c || has_values_with_work (sigma_now line s)) a.0
    ∙ ap has_values_with_work (values-plain line s.birth s.pairs b.0) ∙ b.0)

pub first-dead : (bytes : List ℕ) (theta : Pairs) → HasWorkKeys theta → (line : Line) (x : TimedTree) (n : ℕ) → is_live x ≡ false → first_long bytes (mean x line) ≡ None
    → None ≡ first_from (is_long_step bytes) n (steps_of (bound theta (mean x line)))
first-dead bytes theta keys line x n dead short =
    sym (ap (λ (y : Plain). first_from (is_long_step bytes) n (steps_of y)) (bound-plain theta keys (mean x line) (dead-works line x dead))
    ∙ none-first_from (is_long_step bytes) n (steps_of (mean x line)) (first_from-none (is_long_step bytes) 1 (steps_of (mean x line)) short))

-- what a statement says under a substitution, symbol by symbol

abbrev pub source_size : Pairs → Pairs → List ℕ → List ℕ → ℕ
source_size theta sigma bytes ns = length (applied theta (applied sigma (map (symbol_of bytes) ns)))

source_size-append : (theta sigma : Pairs) (bytes xs ys : List ℕ) → source_size theta sigma bytes (xs ++ ys) ≡ source_size theta sigma bytes xs + source_size theta sigma bytes ys
source_size-append theta sigma bytes xs ys =
    ap (λ (s : List WSym). length (applied theta (applied sigma s))) (map-append (symbol_of bytes) xs ys)
    ∙ ap (λ (s : List WSym). length (applied theta s)) (applied-append sigma (map (symbol_of bytes) xs) (map (symbol_of bytes) ys))
    ∙ length-applied-append theta (applied sigma (map (symbol_of bytes) xs)) (applied sigma (map (symbol_of bytes) ys))

pub source-more : (theta sigma : Pairs) (bytes ns : List ℕ) (i d : ℕ) (x : WSym) (v : List WSym) → i < length ns → x ≡ symbol_of bytes (get_or ns i d) → v ≡ value_of sigma x
    → source_size theta sigma bytes (take (i + 1) ns) ≡ source_size theta sigma bytes (take i ns) + length (applied theta v)
source-more theta sigma bytes ns i d x v h e is =
    ap (source_size theta sigma bytes) (take_more ns i d h)
    ∙ source_size-append theta sigma bytes (take i ns) (get_or ns i d ∷ [])
    ∙ ap (λ (s : List WSym). source_size theta sigma bytes (take i ns) + length (applied theta s)) (applied-one sigma (symbol_of bytes (get_or ns i d)) ∙ ap (value_of sigma) (sym e) ∙ sym is)

pub source-part : (theta sigma : Pairs) (bytes ns : List ℕ) (i : ℕ) → source_size theta sigma bytes (take i ns) ≤ source_size theta sigma bytes ns
source-part theta sigma bytes ns i =
    omega (arith, source_size-append theta sigma bytes (take i ns) (drop i ns), ap (source_size theta sigma bytes) (take-append-drop i ns))

pub source-none : (theta sigma : Pairs) (bytes : List ℕ) → source_size theta sigma bytes [] ≡ 0
source-none theta sigma bytes = ap (λ (s : List WSym). length (applied theta s)) (applied-nil sigma) ∙ ap length (applied-nil theta)

pub source-whole : (theta sigma : Pairs) (bytes ns : List ℕ) (id : ℕ) → ns ≡ (stated_at bytes id).symbols → source_size theta sigma bytes ns ≡ length (applied theta (applied sigma (statement_of bytes id)))
unfolding statement_of
source-whole theta sigma bytes ns id is = ap (source_size theta sigma bytes) is
