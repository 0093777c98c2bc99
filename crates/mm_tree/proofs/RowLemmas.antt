-- Nodes that are made of rows, one after another.
use Rattle.std.proofs.Common.{◌≡◌, ℕ, ◌+◌, ◌-◌, ◌≤◌, ◌<◌, Bool, true, false, if◌then◌else◌, subst, suc, List, [], ◌∷◌, ◌++◌, map, take, drop, length, get_or, Option, None, Some, refl, sym, ◌∙◌, ap, arith, append_assoc}
use Rattle.std.specs.Prelude.{reverse}
use Rattle.std.specs.List.{sum_by, All, AllByRecursion as ByRecursion}
use Rattle.std.proofs.lemmas.List.{map-append, reverse-append, length-map, take-append-drop, take-map, drop-map, length_push, take_more, get_or-reverse, length-reverse}
use Rattle.std.proofs.lemmas.List.Elements.{All-from_recursion, recursion_from_All}
use Rattle.std.proofs.lemmas.List.Sums.{sum_by-append, sum_by-cons, sum_by_more}
use Rattle.mm_scope.specs.Contents.{stated_at}
use Rattle.mm_stated.specs.Stated.{is_hypothesis}
use Rattle.mm_subst.specs.declared.symbol.WSym.{WSym}
use Rattle.mm_subst.specs.Substitutions.{Pairs, applied}
use Rattle.mm_subst.specs.Statements.{statement_of}
use Rattle.mm_plain.specs.declared.plain.Plain.{Plain}
use Rattle.mm_plain.specs.Drawing.{draws_by, fresh_for, fresh_from}
use Rattle.mm_plain.specs.LabelTrees.{takes}
use Rattle.mm_plain.specs.Numbers.{IsOwnLabel}
use Rattle.mm_plain.specs.Premises.{premises_of, variables_for}
use Rattle.mm_plain.specs.Rows.{Row, tree_with, with_rows, fresh_rows}
use Rattle.mm_plain.specs.Shape.{size_of}
use Rattle.mm_plain.specs.Valid.{first_setting}
use Rattle.mm_plain.proofs.Forms.{string_of_statement}
use Rattle.mm_plain.proofs.Fresh.{length-applied-fresh}
use Rattle.mm_plain.proofs.Equations.{size_of-known, size_of-unknown}
use Rattle.mm_tree.specs.Labelled.{draws_all}
use Rattle.mm_tree.specs.Meanings.{unknown_timed, known_timed}
use Rattle.mm_tree.specs.View.{Shared, values, counts}
use Rattle.mm_tree.specs.Written.{written}
use Rattle.mm_tree.specs.declared.timed.TimedTree.{TimedTree}
use Rattle.mm_tree.proofs.Written.{written-known, written-unknown, counts-made}
use Rattle.mm_tree.proofs.Keeping.{values-append}

-- the node of a row

pub known_row : (t : List WSym) (o : Option ℕ) (l : ℕ) (s : Pairs) (kids : List Shared) (xs : List Plain) (y : TimedTree) → o ≡ Some l → values kids ≡ map (written 0) xs
    → y ≡ known_timed (record { birth = 0; string = t }) l (record { birth = 0; pairs = s }) (values kids) → y ≡ written 0 (tree_with t o s xs)
known_row t o l s kids xs y is e h =
    h ∙ ap (known_timed (record { birth = 0; string = t }) l (record { birth = 0; pairs = s })) e
    ∙ sym (written-known 0 t l s xs)
    ∙ ap (λ (p : Option ℕ). written 0 (tree_with t p s xs)) (sym is)

pub unknown_row : (t : List WSym) (o : Option ℕ) (s : Pairs) (xs : List Plain) (y : TimedTree) → o ≡ None → y ≡ unknown_timed (record { birth = 0; string = t }) → y ≡ written 0 (tree_with t o s xs)
unknown_row t o s xs y is h = h ∙ sym (written-unknown 0 t) ∙ ap (λ (p : Option ℕ). written 0 (tree_with t p s xs)) (sym is)

-- The nodes are those of trees that stand, behind which the rows that are left make what all rows make.
pub record Stands (bytes : List ℕ) (all left : List Row) (nodes : List Shared) : Type 0 where
  pub trees : List Plain
  pub are : values nodes ≡ map (written 0) trees
  pub goes : with_rows bytes trees (reverse left) ≡ with_rows bytes [] (reverse all)
  pub few : sum_by size_of trees + length left ≤ length all

pub stands_start : (bytes : List ℕ) (all : List Row) (nodes : List Shared) → nodes ≡ [] → Stands bytes all all nodes
stands_start bytes all nodes e = record { trees = []; are = ap values e; goes = refl; few = omega arith }

size-over : (t : List WSym) (o : Option ℕ) (s : Pairs) (xs : List Plain) → size_of (tree_with t o s xs) ≤ sum_by size_of xs + 1
size-over t None s xs = omega (arith, size_of-unknown t)
size-over t (Some l) s xs = omega (arith, size_of-known t l s xs)

sizes-cut : (n : ℕ) (xs : List Plain) → sum_by size_of (take n xs) + sum_by size_of (drop n xs) ≡ sum_by size_of xs
sizes-cut n xs = sym (sum_by-append size_of (take n xs) (drop n xs)) ∙ ap (sum_by size_of) (take-append-drop n xs)

pub values_taken : (n : ℕ) (nodes : List Shared) (xs : List Plain) → values nodes ≡ map (written 0) xs → values (take n nodes) ≡ map (written 0) (take n xs)
values_taken n nodes xs e = sym (take-map (λ (r : Shared). r.value) n nodes) ∙ ap (take n) e ∙ take-map (written 0) n xs

pub values_left : (n : ℕ) (nodes : List Shared) (xs : List Plain) → values nodes ≡ map (written 0) xs → values (drop n nodes) ≡ map (written 0) (drop n xs)
values_left n nodes xs e = sym (drop-map (λ (r : Shared). r.value) n nodes) ∙ ap (drop n) e ∙ drop-map (written 0) n xs

pub as_many : (nodes : List Shared) (xs : List Plain) → values nodes ≡ map (written 0) xs → length nodes ≡ length xs
as_many nodes xs e = sym (length-map nodes (λ (r : Shared). r.value)) ∙ ap length e ∙ length-map xs (written 0)

-- children that are taken are few
pub few_kids : (bytes : List ℕ) (all left : List Row) (nodes kids : List Shared) (n most : ℕ) → Stands bytes all left nodes → kids ≡ drop n nodes → length all ≤ most → counts kids ≤ most
few_kids bytes all left nodes kids n most h e few =
    omega (
      arith,
      counts-made 0 (drop n h.trees) kids (ap values e ∙ values_left n nodes h.trees h.are),
      sizes-cut n h.trees,
      h.few,
      few,
    )

pub stands_more : (bytes : List ℕ) (all before left : List Row) (r : Row) (nodes kept kids more : List Shared) (n : ℕ) (node : Shared) → Stands bytes all before nodes → before ≡ left ++ r ∷ []
    → n ≡ length nodes - takes bytes r.label → kept ≡ take n nodes → kids ≡ drop n nodes
    → ((xs : List Plain) → values kids ≡ map (written 0) xs → node.value ≡ written 0 (tree_with r.target r.label r.sigma xs))
    → more ≡ kept ++ node ∷ [] → Stands bytes all left more
stands_more bytes all before left r nodes kept kids more n node h b many front back made is =
    let xs : List Plain = h.trees in
    let m : ℕ = length xs - takes bytes r.label in
    let same : n ≡ m = many ∙ ap (λ (k : ℕ). k - takes bytes r.label) (as_many nodes xs h.are) in
    let y : Plain = tree_with r.target r.label r.sigma (drop m xs) in
    let value : node.value ≡ written 0 y = made (drop m xs) (ap values back ∙ values_left n nodes xs h.are ∙ ap (λ (k : ℕ). map (written 0) (drop k xs)) same) in
    let turned : reverse before ≡ r ∷ reverse left = ap reverse b ∙ reverse-append left (r ∷ []) in
    record {
      trees = take m xs ++ y ∷ [];
      are = ap values is ∙ values-append kept (node ∷ [])
          ∙ ap (λ (vs : List TimedTree). vs ++ node.value ∷ []) (ap values front ∙ values_taken n nodes xs h.are ∙ ap (λ (k : ℕ). map (written 0) (take k xs)) same)
          ∙ ap (λ (v : TimedTree). map (written 0) (take m xs) ++ v ∷ []) value
          ∙ sym (map-append (written 0) (take m xs) (y ∷ []));
      goes = sym (ap (with_rows bytes xs) turned) ∙ h.goes;
      few = omega (
        arith,
        sum_by-append size_of (take m xs) (y ∷ []),
        sum_by-cons size_of y [],
        size-over r.target r.label r.sigma (drop m xs),
        sizes-cut m xs,
        h.few,
        ap length b,
        length_push left r,
      );
    }

pub stands_all : (bytes : List ℕ) (all left : List Row) (nodes : List Shared) → Stands bytes all left nodes → left ≡ [] → values nodes ≡ map (written 0) (with_rows bytes [] (reverse all))
stands_all bytes all left nodes h none = h.are ∙ ap (map (written 0)) (sym (ap (λ (rs : List Row). with_rows bytes h.trees (reverse rs)) none) ∙ h.goes)

-- premises with fresh work variables are as long as they are

short_by : (bytes : List ℕ) (n : ℕ) (vs : List ℕ) (b : Bool) (ms : List ℕ) → ByRecursion (λ h. length (applied (fresh_from n vs) h) ≤ 32768) (if b then [] else map (statement_of bytes) ms)
short_by bytes n vs true ms = tt
short_by bytes n vs false [] = tt
short_by bytes n vs false (m ∷ ms) =
    let short = (string_of_statement (first_setting bytes 0) m).short in
    (omega (arith, length-applied-fresh n vs (statement_of bytes m), short), short_by bytes n vs false ms)

short_of : (bytes : List ℕ) (n : ℕ) (vs : List ℕ) (id : ℕ) → ByRecursion (λ h. length (applied (fresh_from n vs) h) ≤ 32768) (premises_of bytes id)
unfolding premises_of
short_of bytes n vs id = short_by bytes n vs (is_hypothesis (stated_at bytes id).kind) (stated_at bytes id).mandatory

pub premises_short : (bytes : List ℕ) (n id : ℕ) (sigma : Pairs) → sigma ≡ fresh_for bytes n id → All (λ h. length (applied sigma h) ≤ 32768) (premises_of bytes id)
premises_short bytes n id sigma e =
    subst (λ (s : Pairs). All (λ h. length (applied s h) ≤ 32768) (premises_of bytes id)) (sym e)
    (All-from_recursion (λ h. length (applied (fresh_for bytes n id) h) ≤ 32768) (premises_of bytes id) (short_of bytes n (variables_for bytes id) id))

-- rows that are made from the last to the first

last_first : (labels : List (Option ℕ)) (now : ℕ) (label : Option ℕ) → now < length labels → label ≡ get_or labels now label → reverse (take (now + 1) labels) ≡ label ∷ reverse (take now labels)
last_first labels now label h is =
    ap reverse (take_more labels now label h) ∙ reverse-append (take now labels) (get_or labels now label ∷ []) ∙ ap (λ (o : Option ℕ). o ∷ reverse (take now labels)) (sym is)

pub rows_more : (bytes : List ℕ) (labels : List (Option ℕ)) (left now : ℕ) (label : Option ℕ) (rows more all : List Row) (r : Row) (n m : ℕ) (ts us : List (List WSym)) → left ≡ now + 1 → left ≤ length labels
    → label ≡ get_or labels now label → rows ++ fresh_rows bytes n ts (reverse (take left labels)) ≡ all → ((os : List (Option ℕ)) → fresh_rows bytes n ts (label ∷ os) ≡ r ∷ fresh_rows bytes m us os)
    → more ≡ rows ++ r ∷ [] → more ++ fresh_rows bytes m us (reverse (take now labels)) ≡ all
rows_more bytes labels left now label rows more all r n m ts us one within is so_far row e =
    let rest : List Row = fresh_rows bytes m us (reverse (take now labels)) in
    ap (λ (rs : List Row). rs ++ rest) e
    ∙ append_assoc rows (r ∷ []) rest
    ∙ ap (λ (rs : List Row). rows ++ rs) (sym (row (reverse (take now labels))))
    ∙ ap (λ (os : List (Option ℕ)). rows ++ fresh_rows bytes n ts os) (sym (last_first labels now label (omega arith) is))
    ∙ ap (λ (k : ℕ). rows ++ fresh_rows bytes n ts (reverse (take k labels))) (sym one)
    ∙ so_far

pub draws_more : (bytes : List ℕ) (labels : List (Option ℕ)) (left now : ℕ) (label : Option ℕ) → left ≡ now + 1 → left ≤ length labels → label ≡ get_or labels now label
    → draws_all bytes (take left labels) ≡ draws_all bytes (take now labels) + draws_by bytes label
draws_more bytes labels left now label one within is =
    ap (λ (k : ℕ). draws_all bytes (take k labels)) one
    ∙ sum_by_more (draws_by bytes) labels now label (omega arith)
    ∙ ap (λ (o : Option ℕ). draws_all bytes (take now labels) + draws_by bytes o) (sym is)

own_by : (bytes : List ℕ) (n : ℕ) (ts : List (List WSym)) (os : List (Option ℕ)) → ByRecursion (IsOwnLabel bytes) os → ByRecursion (λ (r : Row). IsOwnLabel bytes r.label) (fresh_rows bytes n ts os)
own_by bytes n ts [] h = tt
own_by bytes n ts (None ∷ os) h = (h.0, own_by bytes n (drop 1 ts) os h.1)
own_by bytes n ts (Some id ∷ os) h =
    let m : ℕ = n - length (variables_for bytes id) in
    (h.0, own_by bytes m (reverse (map (applied (fresh_for bytes m id)) (premises_of bytes id)) ++ drop 1 ts) os h.1)

turned_all : (bytes : List ℕ) (labels : List (Option ℕ)) → All (IsOwnLabel bytes) labels → All (IsOwnLabel bytes) (reverse labels)
turned_all bytes labels h = λ k d l.
    subst (IsOwnLabel bytes) (sym (get_or-reverse labels k d (omega (arith, l, length-reverse labels)))) (h (length labels - 1 - k) d (omega (arith, l, length-reverse labels)))

pub own_rows : (bytes : List ℕ) (n : ℕ) (ts : List (List WSym)) (labels : List (Option ℕ)) → All (IsOwnLabel bytes) labels → All (λ (r : Row). IsOwnLabel bytes r.label) (fresh_rows bytes n ts (reverse labels))
own_rows bytes n ts labels h =
    All-from_recursion (λ (r : Row). IsOwnLabel bytes r.label) (fresh_rows bytes n ts (reverse labels)) (own_by bytes n ts (reverse labels) (recursion_from_All (IsOwnLabel bytes) (reverse labels) (turned_all bytes labels h)))

count_by : (bytes : List ℕ) (n : ℕ) (ts : List (List WSym)) (os : List (Option ℕ)) → length (fresh_rows bytes n ts os) ≡ length os
count_by bytes n ts [] = refl
count_by bytes n ts (None ∷ os) = ap suc (count_by bytes n (drop 1 ts) os)
count_by bytes n ts (Some id ∷ os) =
    let m : ℕ = n - length (variables_for bytes id) in
    ap suc (count_by bytes m (reverse (map (applied (fresh_for bytes m id)) (premises_of bytes id)) ++ drop 1 ts) os)

pub count_rows : (bytes : List ℕ) (n : ℕ) (ts : List (List WSym)) (labels : List (Option ℕ)) → length (fresh_rows bytes n ts (reverse labels)) ≡ length labels
count_rows bytes n ts labels = count_by bytes n ts (reverse labels) ∙ length-reverse labels
