-- Lists of texts in which each text is found at its own place.
use Rattle.std.proofs.Common.{◌≡◌, ◌≤◌, ◌<◌, ◌+◌, ℕ, suc, Bool, true, false, cond, not, ◌&&◌, ◌||◌, List, [], ◌∷◌, ◌++◌, length, get_or, All, refl, sym, ap, ◌∙◌, arith, length-append, eq-eqb, inl, inr}
use Rattle.std.proofs.Math.Seq.{get_or-append_seam}
use Rattle.std.proofs.lemmas.Bool.{true≢false, cases_lt}
use Rattle.std.proofs.lemmas.List.{get_or_append_left}
use Rattle.std.proofs.lemmas.List.Elements.{All-push, All-nil}
use Rattle.std.specs.List.{list_any, position_or_len}
use Rattle.std.specs.Str.{bytes_eq}
use Rattle.mm_tokens.specs.Words.{is_bad_label}
use Rattle.mm_scope.specs.Steps.{most_label}

-- each text is the first like it
abbrev pub AreFirst : List (List ℕ) → Type 0
AreFirst ts = (k : ℕ) → k < length ts → position_or_len (bytes_eq (get_or ts k [])) ts ≡ k

-- labels are fit, not empty, short and differ
pub record AreLabels (ts : List (List ℕ)) : Type 0 where
  pub fit : All (λ t. is_bad_label t ≡ false) ts
  pub some : All (λ t. 0 < length t) ts
  pub short : All (λ t. length t ≤ most_label) ts
  pub first : AreFirst ts

-- and so is one more
pub record IsNew (ts : List (List ℕ)) (t : List ℕ) : Type 0 where
  pub fit : is_bad_label t ≡ false
  pub some : 0 < length t
  pub short : length t ≤ most_label
  pub fresh : list_any (bytes_eq t) ts ≡ false

pub no_labels : AreLabels []
no_labels = record { fit = All-nil _; some = All-nil _; short = All-nil _; first = λ k small. absurd (omega (arith, small)) }

less_by_one : (n m : ℕ) → 1 + n < suc m → n < m
less_by_one n m h = omega (arith, h)

still_by : {A : Type 0} (p : A → Bool) (b : Bool) (xs ys : List A) → cond (not b) (1 + position_or_len p xs) 0 < suc (length xs)
    → (position_or_len p xs < length xs → position_or_len p (xs ++ ys) ≡ position_or_len p xs)
    → cond (not b) (1 + position_or_len p (xs ++ ys)) 0 ≡ cond (not b) (1 + position_or_len p xs) 0
still_by p true xs ys h later = refl
still_by p false xs ys h later = ap (λ n. 1 + n) (later (less_by_one (position_or_len p xs) (length xs) h))

still : {A : Type 0} (p : A → Bool) (xs ys : List A) → position_or_len p xs < length xs → position_or_len p (xs ++ ys) ≡ position_or_len p xs
still p [] ys h = absurd (omega (arith, h))
still p (x ∷ xs) ys h = still_by p (p x) xs ys h (still p xs ys)

neither : (a b : Bool) → (a || b) ≡ false → (a ≡ false) × (b ≡ false)
neither true b h = absurd (true≢false h)
neither false b h = (refl, h)

last : {A : Type 0} (p : A → Bool) (xs : List A) (y : A) → list_any p xs ≡ false → p y ≡ true → position_or_len p (xs ++ y ∷ []) ≡ length xs
last p [] y none is = ap (λ b. cond (not b) (1 + position_or_len p []) 0) is
last p (x ∷ xs) y none is =
    let w = neither (p x) (list_any p xs) none in
    ap (λ b. cond (not b) (1 + position_or_len p (xs ++ y ∷ [])) 0) w.0 ∙ one (last p xs y w.1 is)
  where
    one : {n m : ℕ} → n ≡ m → 1 + n ≡ suc m
    one e = omega (arith, e)

bytes_eq-itself : (xs : List ℕ) → bytes_eq xs xs ≡ true
bytes_eq-itself [] = refl
bytes_eq-itself (x ∷ xs) = ap (λ b. b && bytes_eq xs xs) (eq-eqb x x refl) ∙ bytes_eq-itself xs

first_pushed : (ts : List (List ℕ)) (t : List ℕ) → AreFirst ts → list_any (bytes_eq t) ts ≡ false → AreFirst (ts ++ t ∷ [])
first_pushed ts t all fresh k small = elim (cases_lt k (length ts)) [
  | inl less ↦
      let e = all k less in
      ap (λ u. position_or_len (bytes_eq u) (ts ++ t ∷ [])) (get_or_append_left ts (t ∷ []) [] k less)
      ∙ still (bytes_eq (get_or ts k [])) ts (t ∷ []) (omega (arith, e, less)) ∙ e
  | inr more ↦
      let is : length ts ≡ k = omega (arith, length-append ts (t ∷ []), small, more) in
      ap (λ n. position_or_len (bytes_eq (get_or (ts ++ t ∷ []) n [])) (ts ++ t ∷ [])) (sym is)
      ∙ ap (λ u. position_or_len (bytes_eq u) (ts ++ t ∷ [])) (get_or-append_seam ts t [] [])
      ∙ last (bytes_eq t) ts t fresh (bytes_eq-itself t) ∙ is
]

pub one_label : (ts : List (List ℕ)) (t : List ℕ) → AreLabels ts → IsNew ts t → AreLabels (ts ++ t ∷ [])
one_label ts t all new = record {
  fit = All-push (λ u. is_bad_label u ≡ false) ts t all.fit new.fit;
  some = All-push (λ u. 0 < length u) ts t all.some new.some;
  short = All-push (λ u. length u ≤ most_label) ts t all.short new.short;
  first = first_pushed ts t all.first new.fresh;
}
