-- What folding does to runs of white space.
use Rattle.std.proofs.Common.{◌≡◌, ◌<◌, ℕ, ◌-◌, Bool, true, false, List, [], ◌∷◌, ◌++◌, length, get_or, All, refl, sym, ap, ◌∙◌, arith}
use Rattle.std.proofs.lemmas.List.Elements.{recursion_from_All}
use Rattle.std.specs.List.{AllByRecursion}
use Rattle.mm_tokens.specs.Bytes.{is_white}
use Rattle.mm_tokens.specs.Folding.{folded_after, folded}
use Rattle.mm_tokens.proofs.Phrases.{white_skipped, white_kept, other_kept}

-- whether white space stands before what follows the text
abbrev white_after : Bool → List ℕ → Bool
white_after white [] = white
white_after white (b ∷ bs) = white_after (is_white b) bs

append_by : (white r : Bool) (x : ℕ) (xs ys : List ℕ) → is_white x ≡ r
    → ((q : Bool) → folded_after q (xs ++ ys) ≡ folded_after q xs ++ folded_after (white_after q xs) ys)
    → folded_after white (x ∷ (xs ++ ys)) ≡ folded_after white (x ∷ xs) ++ folded_after (white_after (is_white x) xs) ys
unfolding folded_after
append_by true true x xs ys w more = rw w (more true)
append_by false true x xs ys w more = rw w (ap (λ (l : List ℕ). 32 ∷ l) (more true))
append_by white false x xs ys w more = rw w (ap (λ (l : List ℕ). x ∷ l) (more false))

folded_append : (white : Bool) (xs ys : List ℕ) → folded_after white (xs ++ ys) ≡ folded_after white xs ++ folded_after (white_after white xs) ys
unfolding folded_after
folded_append white [] ys = refl
folded_append white (x ∷ xs) ys = append_by white (is_white x) x xs ys refl (λ q. folded_append q xs ys)

last_decides : (x : ℕ) (xs : List ℕ) → white_after (is_white x) xs ≡ is_white (get_or (x ∷ xs) (length xs) 0)
last_decides x [] = refl
last_decides x (y ∷ ys) = last_decides y ys

ends_apart : (front : List ℕ) → is_white (get_or front (length front - 1) 0) ≡ false → white_after false front ≡ false
ends_apart [] h = refl
ends_apart (x ∷ xs) h =
    let last : length (x ∷ xs) - 1 ≡ length xs = omega arith in
    last_decides x xs ∙ ap (λ k. is_white (get_or (x ∷ xs) k 0)) (sym last) ∙ h

begins_apart : (rest : List ℕ) → is_white (get_or rest 0 0) ≡ false → folded_after true rest ≡ folded rest
unfolding folded_after
begins_apart [] h = refl
begins_apart (b ∷ bs) h = other_kept true b bs h ∙ sym (other_kept false b bs h)

run_skipped : (run rest : List ℕ) → AllByRecursion (λ b. is_white b ≡ true) run → folded_after true (run ++ rest) ≡ folded_after true rest
run_skipped [] rest all = refl
run_skipped (b ∷ bs) rest all = white_skipped b (bs ++ rest) all.0 ∙ run_skipped bs rest all.1

run_kept : (run rest : List ℕ) → 0 < length run → AllByRecursion (λ b. is_white b ≡ true) run → is_white (get_or rest 0 0) ≡ false
    → folded (run ++ rest) ≡ 32 ∷ folded rest
run_kept [] rest some all h = absurd (omega arith)
run_kept (b ∷ bs) rest some all h =
    white_kept b (bs ++ rest) all.0 ∙ ap (λ (l : List ℕ). 32 ∷ l) (run_skipped bs rest all.1 ∙ begins_apart rest h)

-- a run of white space between other bytes
pub run_folds : (front run rest : List ℕ) → 0 < length run → All (λ b. is_white b ≡ true) run
    → is_white (get_or front (length front - 1) 0) ≡ false → is_white (get_or rest 0 0) ≡ false
    → folded (front ++ (run ++ rest)) ≡ folded front ++ 32 ∷ folded rest
run_folds front run rest some all before after =
    folded_append false front (run ++ rest)
    ∙ ap (λ w. folded front ++ folded_after w (run ++ rest)) (ends_apart front before)
    ∙ ap (λ l. folded front ++ l) (run_kept run rest some (recursion_from_All (λ b. is_white b ≡ true) run all) after)

others_stay : (text : List ℕ) → AllByRecursion (λ b. is_white b ≡ false) text → folded text ≡ text
unfolding folded_after
others_stay [] all = refl
others_stay (b ∷ bs) all = other_kept false b bs all.0 ∙ ap (λ (l : List ℕ). b ∷ l) (others_stay bs all.1)

pub none_folds : (text : List ℕ) → All (λ b. is_white b ≡ false) text → folded text ≡ text
none_folds text all = others_stay text (recursion_from_All (λ b. is_white b ≡ false) text all)
