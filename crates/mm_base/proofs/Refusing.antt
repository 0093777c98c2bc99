-- What an accepted result says of the rows and the parts that it comes from.
use Rattle.std.proofs.Common.{◌≡◌, Bool, true, false, List, [], ◌∷◌, refl, if◌then◌else◌}
use Rattle.std.specs.Prelude.{Result, Ok, Err}
use Rattle.mm_base.specs.Refusals.{unless, given}

-- no test holds
pub unless-ok : {A E : Type 0} (test : Bool) (e : E) (rows : List (Bool × E)) (r : Result A E) (a : A) → unless ((test, e) ∷ rows) r ≡ Ok a → (test ≡ false) × (unless rows r ≡ Ok a)
unfolding unless
unless-ok true e rows r a h = cc
unless-ok false e rows r a h = (refl, h)

pub unless-end : {A E : Type 0} (r : Result A E) → unless [] r ≡ r
unfolding unless
unless-end r = refl

-- something is found, and what follows is accepted
pub given-ok : {A B E : Type 0} (r : Result A E) (f : A → Result B E) (b : B) → given r f ≡ Ok b → (a : A) × (r ≡ Ok a) × (f a ≡ Ok b)
unfolding given
given-ok (Ok a) f b h = (a, refl, h)
given-ok (Err e) f b h = cc
