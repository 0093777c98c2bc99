-- Words and what they mean.
use Rattle.std.proofs.Common.{◌≡◌, ◌≤◌, ◌<◌, ℕ, zero, suc, ◌==◌, ◌+◌, ◌-◌, ◌*◌, Bool, false, not, cond, nat_lt, List, [], ◌∷◌, ◌++◌, length, take, drop, map, get_or, Option, None, Some, Err, refl, ap, sym, ◌∙◌, subst, arith, length-append}
use Rattle.std.specs.List.{fold, prefix_len}
use Rattle.std.specs.Option.{is_none}
use Rattle.std.proofs.Math.Seq.{drop-cons}
use Rattle.std.proofs.lemmas.List.{take-append-drop, length-map}
use Rattle.std.proofs.lemmas.List.Sums.{fold-append}
use Rattle.mm_subst.specs.Parsing.{number_of, first_bad, IsParsed, AreMeant}
use Rattle.mm_subst.specs.declared.symbol.WSym.{WSym}
use Rattle.mm_subst.specs.declared.fault.ParseFault.{ParseFault}
use Rattle.mm_subst.specs.declared.fault.ParseFault.TheVariants.{BadSymbol, Empty, TooLong, Memory}

-- one digit more makes no number smaller
grows : (n : ℕ) (ds : List ℕ) → n ≤ fold (λ m d. 10 * m + (d - 48)) n ds
grows n [] = omega arith
grows n (d ∷ ds) = omega (arith, grows (10 * n + (d - 48)) ds)

pub number_of-take : (ds : List ℕ) (i : ℕ) → number_of (take i ds) ≤ number_of ds
number_of-take ds i =
    let step : ℕ → ℕ → ℕ = λ m d. 10 * m + (d - 48) in
    let whole : number_of ds ≡ fold step (number_of (take i ds)) (drop i ds) = ap number_of (sym (take-append-drop i ds)) ∙ fold-append step 0 (take i ds) (drop i ds) in
    omega (arith, whole, grows (number_of (take i ds)) (drop i ds))

pub not_below : (n m : ℕ) → m ≤ n → nat_lt n m ≡ false
not_below n m h = grind (arith, h)

module _ {X : Type 0} where
  abbrev means : Option X → Bool
  means o = not (is_none o)

  all_mean : (s : List X) → prefix_len means (map Some s) ≡ length s
  all_mean [] = refl
  all_mean (x ∷ s) = omega (arith, all_mean s)

  one_does_not : (s : List X) (rest : List (Option X)) → prefix_len means (map Some s ++ None ∷ rest) ≡ length s
  one_does_not [] rest = refl
  one_does_not (x ∷ s) rest = omega (arith, one_does_not s rest)

-- all words have a meaning
pub none_bad : (s : List WSym) (ms : List (Option WSym)) → ms ≡ map Some s → first_bad ms ≡ None
none_bad s ms h =
    let place : prefix_len means ms ≡ length s = ap (prefix_len means) h ∙ all_mean s in
    let len : length ms ≡ length s = ap length h ∙ length-map s Some in
    ap (λ b. cond b (Some (prefix_len means ms)) None) (not_below (prefix_len means ms) (length ms) (omega (arith, place, len)))

-- the first word without one
pub one_bad : (s : List WSym) (ms : List (Option WSym)) (i : ℕ) → i < length ms → map Some s ≡ take i ms → get_or ms i None ≡ None → first_bad ms ≡ Some (length s)
one_bad s ms i h so_far none =
    let whole : ms ≡ map Some s ++ None ∷ drop (suc i) ms =
    sym (take-append-drop i ms) ∙ ap (λ xs. xs ++ drop i ms) (sym so_far) ∙ ap (λ xs. map Some s ++ xs) (drop-cons ms i None h) ∙ ap (λ o. map Some s ++ o ∷ drop (suc i) ms) none in
    let place : prefix_len means ms ≡ length s = ap (prefix_len means) whole ∙ one_does_not s (drop (suc i) ms) in
    let len : length ms ≡ length s + suc (length (drop (suc i) ms)) = ap length whole ∙ length-append (map Some s) (None ∷ drop (suc i) ms) ∙ ap (λ n. n + suc (length (drop (suc i) ms))) (length-map s Some) in
    below (prefix_len means ms) (length ms) (omega (arith, place, len)) ∙ ap Some place
  where
    below : (n m : ℕ) → n < m → cond (nat_lt n m) (Some n) None ≡ Some n
    below n m h = grind (arith, h)

-- words that are lent
module _ {B : Type 0} (now : B → List ℕ) (f : List ℕ → Option WSym) where
  read_first : (bs : List B) → map (λ b. f (now b)) bs ≡ map f (map now bs)
  read_first [] = refl
  read_first (b ∷ bs) = ap (λ ms. f (now b) ∷ ms) (read_first bs)

  pub lent_meanings : (bs : List B) (ws : List (List ℕ)) → map now bs ≡ ws → map (λ b. f (now b)) bs ≡ map f ws
  lent_meanings bs ws h = read_first bs ∙ ap (map f) h

pub some_there : (n : ℕ) → false ≡ n == 0 → 0 < n
some_there zero h = cc
some_there (suc n) h = omega arith

pub still_fails : (e : ParseFault) (ms : List (Option WSym)) → AreMeant (Err e) ms → IsParsed (Err e) ms
still_fails (BadSymbol k) ms h = h
still_fails Empty ms h = absurd h
still_fails TooLong ms h = absurd h
still_fails Memory ms h = tt
