-- One element more is counted.
use Rattle.std.proofs.Common.{◌≡◌, ◌<◌, ℕ, ◌+◌, Bool, true, false, List, length, take, map, count_by, get_or, ap, ◌∙◌, arith}
use Rattle.std.proofs.lemmas.List.{length-map, get_or-map}
use Rattle.std.proofs.lemmas.List.Sums.{count_by_more_yes, count_by_more_no}

pub count_yes : {A B : Type 0} (p : B → Bool) (f : A → B) (xs : List A) (i : ℕ) (d : A) → i < length xs → p (f (get_or xs i d)) ≡ true
    → count_by p (take (i + 1) (map f xs)) ≡ count_by p (take i (map f xs)) + 1
count_yes p f xs i d h e =
    count_by_more_yes p (map f xs) i (f d) (omega (arith, h, length-map xs f)) (ap p (get_or-map f xs i d (f d) h) ∙ e)

pub count_no : {A B : Type 0} (p : B → Bool) (f : A → B) (xs : List A) (i : ℕ) (d : A) → i < length xs → p (f (get_or xs i d)) ≡ false
    → count_by p (take (i + 1) (map f xs)) ≡ count_by p (take i (map f xs))
count_no p f xs i d h e =
    count_by_more_no p (map f xs) i (f d) (omega (arith, h, length-map xs f)) (ap p (get_or-map f xs i d (f d) h) ∙ e)
