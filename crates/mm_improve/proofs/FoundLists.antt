-- Lists that a search goes through.
use Rattle.std.proofs.Common.{◌≡◌, ◌<◌, ◌≤◌, ◌+◌, ℕ, zero, suc, Bool, true, false, ◌&&◌, cond, List, [], ◌∷◌, ◌++◌, Option, None, Some, map, filter, flat_map, take, drop, length, get_or, refl, sym, ◌∙◌, ap, subst, arith, inl, inr}
use Rattle.std.specs.List.{AllByRecursion, list_all, range_with_len}
use Rattle.std.proofs.lemmas.Bool.{cases_lt}
use Rattle.std.proofs.lemmas.List.{take_more, map-append, take_all}
use Rattle.std.proofs.lemmas.List.Elements.{filter-append}
use Rattle.mm_chart.specs.Options.{or_else, on, first, is_there}
use Rattle.mm_chart.proofs.Firsts.{first-append}
use Rattle.mm_improve.proofs.Sifting.{first_more}

-- ## What is kept

pub kept_more : {X Y : Type 0} (f : X → Y) (p : Y → Bool) (xs : List X) (i : ℕ) (x : X) (b : Bool) → i < length xs → x ≡ get_or xs i x → p (f x) ≡ b → filter p (map f (take (i + 1) xs)) ≡ filter p (map f (take i xs)) ++ cond b (f x ∷ []) []
kept_more f p xs i x b l is h =
    ap (λ ys. filter p (map f ys)) (take_more xs i x l ∙ ap (λ y. take i xs ++ y ∷ []) (sym is))
    ∙ ap (filter p) (map-append f (take i xs) (x ∷ []))
    ∙ filter-append p (map f (take i xs)) (f x ∷ [])
    ∙ ap (λ (b : Bool). filter p (map f (take i xs)) ++ cond b (f x ∷ []) []) h

pub append_none : {A : Type 0} (xs : List A) → xs ++ [] ≡ xs
append_none [] = refl
append_none (x ∷ xs) = ap (λ ys. x ∷ ys) (append_none xs)

pub holds_more : {X : Type 0} (P : X → Type 0) (xs : List X) (x : X) → AllByRecursion P xs → P x → AllByRecursion P (xs ++ x ∷ [])
holds_more P [] x h k = (k, tt)
holds_more P (y ∷ xs) x h k = (h.0, holds_more P xs x h.1 k)

pub holds_at : {X : Type 0} (P : X → Type 0) (xs : List X) (i : ℕ) (d : X) → AllByRecursion P xs → i < length xs → P (get_or xs i d)
holds_at P [] i d h l = absurd (omega arith)
holds_at P (x ∷ xs) zero d h l = h.0
holds_at P (x ∷ xs) (suc i) d h l = holds_at P xs i d h.1 (omega arith)

-- ## The first that passes

-- none of the first ones passes, and the next one does
pub first_here : {X : Type 0} (p : X → Bool) (xs : List X) (i : ℕ) (x : X) → i < length xs → x ≡ get_or xs i x → first p (take i xs) ≡ None → p x ≡ true → first p xs ≡ Some x
first_here p [] i x l is n h = absurd (omega arith)
first_here p (y ∷ xs) zero x l is n h = ap (λ (b : Bool). cond b (Some y) (first p xs)) (ap p (sym is) ∙ h) ∙ ap (λ z. Some z) (sym is)
first_here p (y ∷ xs) (suc i) x l is n h = by (p y) refl n (λ k. first_here p xs i x (omega arith) is k h)
  where
    by : (b : Bool) → p y ≡ b → cond b (Some y) (first p (take i xs)) ≡ None → (first p (take i xs) ≡ None → first p xs ≡ Some x) → first p (y ∷ xs) ≡ Some x
    by true e k f = absurd (cc)
    by false e k f = ap (λ (b : Bool). cond b (Some y) (first p xs)) e ∙ f k

pub first_later : {X : Type 0} (p : X → Bool) (xs : List X) (i : ℕ) (x : X) → i < length xs → x ≡ get_or xs i x → first p (take i xs) ≡ None → p x ≡ false → first p (take (i + 1) xs) ≡ None
first_later p xs i x l is n h =
    ap (first p) (take_more xs i x l ∙ ap (λ y. take i xs ++ y ∷ []) (sym is))
    ∙ first-append p (take i xs) (x ∷ [])
    ∙ ap (λ (o : Option _). or_else o (first p (x ∷ []))) n
    ∙ ap (λ (b : Bool). cond b (Some x) None) h

pub first_map : {X Y : Type 0} (p : Y → Bool) (f : X → Y) (xs : List X) → first p (map f xs) ≡ on f (first (λ x. p (f x)) xs)
first_map p f [] = refl
first_map p f (x ∷ xs) = elim (p (f x)) as (λ b. cond b (Some (f x)) (first p (map f xs)) ≡ on f (cond b (Some x) (first (λ x. p (f x)) xs))) [ true ↦ refl | false ↦ first_map p f xs ]

pub append-assoc : {A : Type 0} (a b c : List A) → (a ++ b) ++ c ≡ a ++ (b ++ c)
append-assoc [] b c = refl
append-assoc (x ∷ a) b c = ap (λ zs. x ∷ zs) (append-assoc a b c)

pub flat-append : {X Y : Type 0} (f : X → List Y) (xs ys : List X) → flat_map f (xs ++ ys) ≡ flat_map f xs ++ flat_map f ys
flat-append f [] ys = refl
flat-append f (x ∷ xs) ys = ap (λ zs. f x ++ zs) (flat-append f xs ys) ∙ sym (append-assoc (f x) (flat_map f xs) (flat_map f ys))

-- the numbers below one that is greater
range_split : (n m : ℕ) → n < m → (rest : List ℕ) × (range_with_len 0 m ≡ range_with_len 0 n ++ n ∷ rest)
range_split n zero l = absurd (omega arith)
range_split n (suc m) l =
    let next : range_with_len 0 (suc m) ≡ range_with_len 0 m ++ m ∷ [] = ap (λ (k : ℕ). range_with_len 0 k) (let e : suc m ≡ m + 1 = omega arith in e) ∙ first_more m in
    elim (cases_lt n m) [
      | inl less ↦
          let r = range_split n m less in
          (r.0 ++ m ∷ [], next ∙ ap (λ ks. ks ++ m ∷ []) r.1 ∙ append-assoc (range_with_len 0 n) (n ∷ r.0) (m ∷ []))
      | inr more ↦ let e : m ≡ n = omega arith in ([], next ∙ ap (λ (k : ℕ). range_with_len 0 k ++ k ∷ []) e)
    ]

module _ {A : Type 0} (f : ℕ → List A) (q : ℕ → Bool) (p : A → Bool) where
  abbrev upto : ℕ → List A
  upto n = flat_map f (filter q (range_with_len 0 n))

  behind-one : (ms : List ℕ) (n : ℕ) (rest : List ℕ) → q n ≡ true → flat_map f (filter q (ms ++ n ∷ rest)) ≡ flat_map f (filter q ms) ++ (f n ++ flat_map f (filter q rest))
  behind-one ms n rest h =
      ap (flat_map f) (filter-append q ms (n ∷ rest) ∙ ap (λ (b : Bool). filter q ms ++ cond b (n ∷ filter q rest) (filter q rest)) h)
      ∙ flat-append f (filter q ms) (n ∷ filter q rest)

  -- the first one that passes comes of a number
  pub found_here : (n m : ℕ) (x : A) → n < m → first p (upto n) ≡ None → q n ≡ true → first p (f n) ≡ Some x → first p (upto m) ≡ Some x
  found_here n m x l none h e =
      let r = range_split n m l in
      let rest = flat_map f (filter q r.0) in
      ap (λ ks. first p (flat_map f (filter q ks))) r.1 ∙ ap (first p) (behind-one (range_with_len 0 n) n r.0 h)
      ∙ first-append p (upto n) (f n ++ rest) ∙ ap (λ (o : Option A). or_else o (first p (f n ++ rest))) none
      ∙ first-append p (f n) rest ∙ ap (λ (o : Option A). or_else o (first p rest)) e

  pub found_later : (n : ℕ) → first p (upto n) ≡ None → first p (f n) ≡ None → first p (upto (n + 1)) ≡ None
  found_later n none e = ap (λ ks. first p (flat_map f (filter q ks))) (first_more n) ∙ by (q n) refl
    where
      by : (b : Bool) → q n ≡ b → first p (flat_map f (filter q (range_with_len 0 n ++ n ∷ []))) ≡ None
      by true h =
          ap (first p) (behind-one (range_with_len 0 n) n [] h) ∙ first-append p (upto n) (f n ++ []) ∙ ap (λ (o : Option A). or_else o (first p (f n ++ []))) none
          ∙ first-append p (f n) [] ∙ ap (λ (o : Option A). or_else o (first p [])) e
      by false h =
          ap (λ ks. first p (flat_map f ks)) (filter-append q (range_with_len 0 n) (n ∷ []) ∙ ap (λ (b : Bool). filter q (range_with_len 0 n) ++ cond b (n ∷ []) []) h ∙ append_none (filter q (range_with_len 0 n))) ∙ none

  pub found_passed : (n : ℕ) → first p (upto n) ≡ None → q n ≡ false → first p (upto (n + 1)) ≡ None
  found_passed n none h =
      ap (λ ks. first p (flat_map f (filter q ks))) (first_more n)
      ∙ ap (λ ks. first p (flat_map f ks)) (filter-append q (range_with_len 0 n) (n ∷ []) ∙ ap (λ (b : Bool). filter q (range_with_len 0 n) ++ cond b (n ∷ []) []) h ∙ append_none (filter q (range_with_len 0 n))) ∙ none

-- ## All

pub all_fails : {X : Type 0} (p : X → Bool) (xs : List X) (i : ℕ) (d : X) → i < length xs → p (get_or xs i d) ≡ false → list_all p xs ≡ list_all p (drop i xs) → list_all p xs ≡ false
all_fails p xs i d l h e = e ∙ go xs i l h
  where
    go : (ys : List _) (i : ℕ) → i < length ys → p (get_or ys i d) ≡ false → list_all p (drop i ys) ≡ false
    go [] i l h = absurd (omega arith)
    go (y ∷ ys) zero l h = ap (λ (b : Bool). b && list_all p ys) h
    go (y ∷ ys) (suc i) l h = go ys i (omega arith) h

pub all_hold : {X : Type 0} (p : X → Bool) (xs : List X) (i : ℕ) → length xs ≤ i → list_all p xs ≡ list_all p (drop i xs) → list_all p xs ≡ true
all_hold p xs i l e = e ∙ go xs i l
  where
    go : (ys : List _) (i : ℕ) → length ys ≤ i → list_all p (drop i ys) ≡ true
    go [] zero l = refl
    go [] (suc i) l = refl
    go (y ∷ ys) zero l = absurd (omega arith)
    go (y ∷ ys) (suc i) l = go ys i (omega arith)
