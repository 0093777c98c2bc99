-- How much of a text a screen has taken.
use Rattle.std.specs.Prelude.{◌<◌, ◌≤◌, ℕ, Bool, List, [], ◌∷◌, ◌++◌, length, take}
use Rattle.mm_base.specs.Sink.{Gains}
use Rattle.mm_session.specs.Logs.{Event, Says}
use Rattle.mm_session.specs.Hearing.{RecorderOf, Recording, Hears}

-- The screen has failed within the text: it has gained the first bytes, but not all.
pub record GainsLess {K : Type 0} (tells : K → Bool) (held : K → List ℕ) (old new : K) (text : List ℕ) : Type 0 where
  pub taken : ℕ
  pub less : taken < length text
  pub gained : Gains tells held old new (take taken text)

-- The same, and the recorders have heard these events and as much of the text.
pub record SaysLess {K R : Type 0} (tells : K → Bool) (held : K → List ℕ) (rc : RecorderOf R) (old : K) (from : Recording R) (new : K) (to : Recording R) (before : List Event) (text : List ℕ) : Type 0 where
  pub taken : ℕ
  pub less : taken < length text
  pub gained : Gains tells held old new (take taken text)
  pub heard : Hears rc from to (before ++ Says (take taken text) ∷ [])

-- The screen has gained the first bytes of the text, at least so many.
pub record GainsFirst {K : Type 0} (tells : K → Bool) (held : K → List ℕ) (old new : K) (fewest : ℕ) (text : List ℕ) : Type 0 where
  pub taken : ℕ
  pub least : fewest ≤ taken
  pub most : taken ≤ length text
  pub gained : Gains tells held old new (take taken text)
