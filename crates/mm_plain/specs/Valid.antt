-- When a proof is valid for a theorem of a database.
use Rattle.std.specs.Prelude.{◌≡◌, ℕ, ◌+◌, ◌≤◌, ◌<◌, true, false, List, map, length, All}
use Rattle.mm_scope.specs.Contents.{symbols_of, is_variable_of}
use Rattle.mm_subst.specs.declared.symbol.WSym.{WSym}
use Rattle.mm_subst.specs.declared.symbol.WSym.TheVariants.{Const, Var, Work}
use Rattle.mm_subst.specs.Applied.{most_symbols}
use Rattle.mm_subst.specs.Substitutions.{Pairs, applied}
use Rattle.mm_plain.specs.declared.plain.Plain.{Plain}
use Rattle.mm_plain.specs.declared.plain.Plain.TheOpen.{Plain-F}
use Rattle.mm_plain.specs.declared.plain.Plain.TheOpen as P
use Rattle.mm_plain.specs.declared.plain.Plain.TheViews as V
use Rattle.mm_plain.specs.Shape.{Each, Proof, target_of, steps_of, size_of, height_of, placed}
use Rattle.mm_subst.specs.Statements.{statement_of}
use Rattle.mm_plain.specs.Premises.{premises_of, variables_for, may_stand}

-- what strings and steps are judged by: the database, the id of the theorem, and the number of the next work variable
pub record Setting : Type 0 where
  pub bytes : List ℕ
  pub at : ℕ
  pub next : ℕ

abbrev pub setting_of : List ℕ → ℕ → Proof → Setting
setting_of bytes at p = record { bytes = bytes; at = at; next = p.next }

-- before a work variable is drawn
abbrev pub first_setting : List ℕ → ℕ → Setting
first_setting bytes at = record { bytes = bytes; at = at; next = 1 }

-- a constant and a variable are the database's own, each as what it is; a work variable was drawn
abbrev pub IsKnownSymbol : Setting → WSym → Type 0
IsKnownSymbol c (Const n) = (n < length (symbols_of c.bytes)) × (is_variable_of c.bytes n ≡ false)
IsKnownSymbol c (Var n) = (n < length (symbols_of c.bytes)) × (is_variable_of c.bytes n ≡ true)
IsKnownSymbol c (Work n) = (1 ≤ n) × (n < c.next)

-- a string of such symbols that is not too long
pub record IsString (c : Setting) (s : List WSym) : Type 0 where
  pub symbols : All (IsKnownSymbol c) s
  pub short : length s ≤ most_symbols

-- the keys are the mandatory variables, in the order of their `$f`
abbrev pub HasKeys : Setting → ℕ → Pairs → Type 0
HasKeys c id sigma = map (λ p. p.0) sigma ≡ map Var (variables_for c.bytes id)

-- a step may name a statement with a substitution: its values, and the statement under it, are strings
pub record Names (c : Setting) (id : ℕ) (sigma : Pairs) : Type 0 where
  pub stands : may_stand c.bytes c.at id ≡ true
  pub keys : HasKeys c id sigma
  pub values : All (λ p. IsString c p.1) sigma
  pub source : IsString c (applied sigma (statement_of c.bytes id))

-- a known step: it has a child for each premise, whose target is that premise under the substitution
pub record IsInstance (c : Setting) (t : List WSym) (id : ℕ) (sigma : Pairs) (targets : List (List WSym)) : Type 0 where
  pub target : IsString c t
  pub names : Names c id sigma
  pub children : targets ≡ map (applied sigma) (premises_of c.bytes id)

abbrev pub good_layer : Setting → Plain-F Plain → Type 0
good_layer c (P.Unknown t) = IsString c t
good_layer c (P.Known t l s kids) = IsInstance c t l s (map target_of kids)

-- a step, with its children's targets
unfoldable pub IsGood : Setting → Plain → Type 0
IsGood c x = good_layer c (V.out-Plain x)

-- each step of a tree
unfoldable pub IsSound : Setting → Plain → Type 0
IsSound c x = Each (IsGood c) (steps_of x)

-- the greatest numbers of work variables, of steps and of levels
abbrev pub most_works : ℕ
most_works = 4000000000

abbrev pub most_steps : ℕ
most_steps = 1000000

abbrev pub most_levels : ℕ
most_levels = 2000

-- a proof of a goal, valid for the theorem with an id
pub record IsValid (bytes : List ℕ) (at : ℕ) (goal : List WSym) (p : Proof) : Type 0 where
  pub goal_is : target_of p.plain ≡ goal
  pub steps : IsSound (setting_of bytes at p) p.plain
  pub counter : (1 ≤ p.next) × (p.next ≤ most_works + 1)
  pub few : size_of p.plain ≤ most_steps
  pub low : height_of p.plain ≤ most_levels

-- what a statement and a substitution need to make a step known: each premise under the substitution is a string too
pub record Fits (c : Setting) (id : ℕ) (sigma : Pairs) : Type 0 where
  pub names : Names c id sigma
  pub premises : All (λ h. IsString c (applied sigma h)) (premises_of c.bytes id)

-- the proof with an unknown step made known
abbrev pub placed_in : List ℕ → Proof → ℕ → ℕ → Pairs → Proof
placed_in bytes p k id sigma = record { plain = placed p.plain k id sigma (premises_of bytes id); next = p.next }
