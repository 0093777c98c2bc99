-- What a trace keeps.
use Rattle.std.proofs.Common.{◌≡◌, ◌<◌, ◌+◌, ◌==◌, ◌||◌, ℕ, Bool, true, false, if◌then◌else◌, List, [], ◌∷◌, ◌++◌, length, map, take, get_or, eqb-true, eq-eqb, inl, inr, refl, sym, ◌∙◌, ap, subst, arith}
use Rattle.std.specs.Prelude.{Vec}
use Rattle.std.specs.List.{list_any, range_with_len}
use Rattle.std.proofs.lemmas.List.{take_all, take_more}
use Rattle.std.proofs.lemmas.List.Folds.{list_any-append}
use Rattle.std.proofs.lemmas.List.FromFn.{get_or-map-range_with_len, take-map-range_with_len, length-map-range_with_len}
use Rattle.mm_scope.specs.Contents.{labels_of}
use Rattle.mm_tables.specs.Marked.{with_number}
use Rattle.mm_tables.specs.Texts.{texts}
use Rattle.mm_trace.specs.Traces.{once_behind, used, trace_of, uses_in}
use Rattle.mm_trace.specs.Uses.{applied, uses}
use Rattle.mm_trace.proofs.SegmentLemmas.{one_of, or_true}

once_last : (ns xs : List ℕ) (x : ℕ) → once_behind ns (xs ++ x ∷ []) ≡ with_number (once_behind ns xs) x
unfolding once_behind
once_last ns [] x = refl
once_last ns (m ∷ xs) x = once_last (with_number ns m) xs x

pub once_more : (xs : List ℕ) (i : ℕ) → i < length xs → once_behind [] (take (i + 1) xs) ≡ with_number (once_behind [] (take i xs)) (get_or xs i 0)
once_more xs i small = ap (λ (ys : List ℕ). once_behind [] ys) (take_more xs i 0 small) ∙ once_last [] (take i xs) (get_or xs i 0)

-- one list more
pub list_more : (f : ℕ → List ℕ) (n : ℕ) → map f (range_with_len 0 (n + 1)) ≡ map f (range_with_len 0 n) ++ f n ∷ []
list_more f n =
    let xs : List (List ℕ) = map f (range_with_len 0 (n + 1)) in
    let long : length xs ≡ n + 1 = length-map-range_with_len f 0 (n + 1) in
    let whole : take (n + 1) xs ≡ xs = take_all (n + 1) xs (omega (arith, long)) in
    sym whole
    ∙ (take_more xs n [] (omega (arith, long))
    ∙ (ap (λ (ys : List (List ℕ)). ys ++ get_or xs n [] ∷ []) (take-map-range_with_len f 0 (n + 1) n (omega arith))
    ∙ ap (λ (y : List ℕ). map f (range_with_len 0 n) ++ y ∷ []) (get_or-map-range_with_len f 0 (n + 1) n n [] (omega arith) (omega arith))))

texts_last : {Z : Type 0} (vs : List (Vec ℕ Z)) (v : Vec ℕ Z) → texts (vs ++ v ∷ []) ≡ texts vs ++ v.items ∷ []
texts_last [] v = refl
texts_last (w ∷ vs) v = ap (λ (xs : List (List ℕ)). w.items ∷ xs) (texts_last vs v)

pub trace_more : {Z : Type 0} (bytes : List ℕ) (n : ℕ) (old new : List (Vec ℕ Z)) (v : Vec ℕ Z) → texts old ≡ map (used bytes) (range_with_len 0 n) → v.items ≡ used bytes n → new ≡ old ++ v ∷ []
    → texts new ≡ map (used bytes) (range_with_len 0 (n + 1))
trace_more {Z} bytes n old new v h is made =
    ap (λ (vs : List (Vec ℕ Z)). texts vs) made
    ∙ (texts_last old v
    ∙ (ap (λ (xs : List (List ℕ)). xs ++ v.items ∷ []) h
    ∙ (ap (λ (y : List ℕ). map (used bytes) (range_with_len 0 n) ++ y ∷ []) is ∙ sym (list_more (used bytes) n))))

-- ## What is among numbers, each once

or_regroup : (a b c : Bool) → ((a || b) || c) ≡ (a || (b || c))
or_regroup true b c = refl
or_regroup false b c = refl

or_nothing : (a : Bool) → (a || false) ≡ a
or_nothing true = refl
or_nothing false = refl

or_same : (a b : Bool) → (b ≡ true → a ≡ true) → a ≡ (a || b)
or_same true b f = refl
or_same false true f = f refl
or_same false false f = refl

already : (ns : List ℕ) (m on : ℕ) → list_any (λ k. m == k) ns ≡ true → (m == on) ≡ true → list_any (λ k. k == on) ns ≡ true
already ns m on h is = subst (λ (j : ℕ). list_any (λ k. k == j) ns ≡ true) (eqb-true m on is) (turned ns h) where
  turned : (ns : List ℕ) → list_any (λ k. m == k) ns ≡ true → list_any (λ k. k == m) ns ≡ true
  turned [] h = h
  turned (k ∷ ns) h = elim (one_of (m == k) (list_any (λ k. m == k) ns) h) [
    | inl here ↦ (let same : (k == m) ≡ true = eq-eqb k m (sym (eqb-true m k here)) in rw same refl)
    | inr there ↦ or_true (k == m) (list_any (λ k. k == m) ns) (turned ns there)
  ]

among_more : (ns : List ℕ) (m on : ℕ) → list_any (λ k. k == on) (with_number ns m) ≡ (list_any (λ k. k == on) ns || (m == on))
among_more ns m on = at (list_any (λ k. m == k) ns) refl where
  at : (b : Bool) → list_any (λ k. m == k) ns ≡ b → list_any (λ k. k == on) (if b then ns else ns ++ m ∷ []) ≡ (list_any (λ k. k == on) ns || (m == on))
  at true is = or_same (list_any (λ k. k == on) ns) (m == on) (λ same. already ns m on is same)
  at false is = list_any-append (λ k. k == on) ns (m ∷ []) ∙ ap (λ (b : Bool). list_any (λ k. k == on) ns || b) (or_nothing (m == on))

among_once : (ns xs : List ℕ) (on : ℕ) → list_any (λ k. k == on) (once_behind ns xs) ≡ (list_any (λ k. k == on) ns || list_any (λ k. k == on) xs)
unfolding once_behind
among_once ns [] on = sym (or_nothing (list_any (λ k. k == on) ns))
among_once ns (m ∷ xs) on =
    among_once (with_number ns m) xs on
    ∙ (ap (λ (b : Bool). b || list_any (λ k. k == on) xs) (among_more ns m on)
    ∙ or_regroup (list_any (λ k. k == on) ns) (m == on) (list_any (λ k. k == on) xs))

-- a trace tells uses
pub trace_tells : (bytes : List ℕ) (id on : ℕ) → id < length (labels_of bytes) → uses_in (trace_of bytes) id on ≡ uses bytes id on
unfolding trace_of used
trace_tells bytes id on small =
    ap (λ (xs : List ℕ). list_any (λ m. m == on) xs) (get_or-map-range_with_len (used bytes) 0 (length (labels_of bytes)) id id [] small (omega arith))
    ∙ among_once [] (applied bytes id) on
