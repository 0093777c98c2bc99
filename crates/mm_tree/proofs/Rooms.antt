-- Where there is no room, nothing is placed.
use Rattle.std.proofs.Common.{◌≡◌, refl, ap}
use Rattle.std.proofs.lemmas.Bool.{false≢true}
use Rattle.std.specs.Result.{IsErr, IsErrAnd}
use Rattle.std.specs.Prelude.{Result, Ok, Err}
use Rattle.mm_plain.specs.Shape.{Proof}
use Rattle.mm_tree.specs.Placed.{HasRoom, IsPlaced}
use Rattle.mm_tree.specs.Trees.{State}
use Rattle.mm_tree.specs.declared.fault.GraftFault.{GraftFault}
use Rattle.mm_tree.specs.declared.fault.GraftFault.TheVariants.{TooManySteps, TooDeep, Memory}

pub no_room : (e : GraftFault) (s : State) (p : Proof) → HasRoom (Err e) p → IsPlaced (Err e) s s p
no_room TooManySteps s p h = (refl, h)
no_room TooDeep s p h = (refl, h.0, h.1)
no_room Memory s p h = absurd h

pub same_error : {A E : Type 0} (r : Result A E) (e : E) → IsErrAnd r (λ f. f ≡ e) → IsErr r → r ≡ Err e
same_error (Ok a) e h g = absurd (false≢true g)
same_error (Err f) e h g = ap Err h
