-- Searches and counts over a mapped list.
use Rattle.std.proofs.Common.{◌≡◌, suc, ◌+◌, Bool, cond, not, List, [], ◌∷◌, map, length, position, count_by, refl, ap}
use Rattle.std.specs.List.{prefix_len, fold}

prefix_len-map : {X Y : Type 0} (p : Y → Bool) (f : X → Y) (xs : List X) → prefix_len p (map f xs) ≡ prefix_len (λ x. p (f x)) xs
prefix_len-map p f [] = refl
prefix_len-map p f (x ∷ xs) = ap (λ n. cond (p (f x)) (1 + n) 0) (prefix_len-map p f xs)

length-mapped : {X Y : Type 0} (f : X → Y) (xs : List X) → length (map f xs) ≡ length xs
length-mapped f [] = refl
length-mapped f (x ∷ xs) = ap suc (length-mapped f xs)

pub position-map : {X Y : Type 0} (p : Y → Bool) (f : X → Y) (xs : List X) → position p (map f xs) ≡ position (λ x. p (f x)) xs
position-map p f xs = rw (prefix_len-map (λ y. not (p y)) f xs, length-mapped f xs) refl

fold-map : {X Y A : Type 0} (g : A → Y → A) (f : X → Y) (xs : List X) (a : A) → fold g a (map f xs) ≡ fold (λ b x. g b (f x)) a xs
fold-map g f [] a = refl
fold-map g f (x ∷ xs) a = fold-map g f xs (g a (f x))

pub count_by-map : {X Y : Type 0} (p : Y → Bool) (f : X → Y) (xs : List X) → count_by p (map f xs) ≡ count_by (λ x. p (f x)) xs
count_by-map p f xs = fold-map (λ a y. a + cond (p y) 1 0) f xs 0
