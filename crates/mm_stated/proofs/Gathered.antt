-- What is gathered of the images of a list.
use Rattle.std.proofs.Common.{◌≡◌, List, [], ◌∷◌, Option, map, filter_map, refl, arith}
use Rattle.std.proofs.lemmas.Grind.{common_steps}

pub gathered : {A B C : Type 0} (f : B → Option C) (g : A → B) (xs : List A) → filter_map (λ x. f (g x)) xs ≡ filter_map f (map g xs)
gathered f g [] = refl
gathered f g (x ∷ xs) = grind (arith, common_steps, gathered f g xs)
