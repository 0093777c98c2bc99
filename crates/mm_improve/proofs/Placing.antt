-- Places of variables, counted from one on.
use Rattle.std.proofs.Common.{◌≡◌, refl, ◌∙◌, ap, ℕ, suc, ◌+◌, ◌==◌, Bool, true, false, List, [], ◌∷◌, Option, Some, None, cond, arith}
use Rattle.mm_chart.specs.Options.{on}
use Rattle.mm_improve.specs.Grammars.{place}

abbrev pub place_from : ℕ → List ℕ → ℕ → Option ℕ
place_from i [] n = None
place_from i (v ∷ vs) n = cond (v == n) (Some i) (place_from (i + 1) vs n)

abbrev moved : ℕ → Option ℕ → Option ℕ
moved i None = None
moved i (Some j) = Some (i + j)

moved_on : (i : ℕ) (o : Option ℕ) → moved (i + 1) o ≡ moved i (on suc o)
moved_on i None = refl
moved_on i (Some j) = ap (λ (k : ℕ). Some k) (omega arith)

moved_none : (o : Option ℕ) → moved 0 o ≡ o
moved_none None = refl
moved_none (Some j) = ap (λ (k : ℕ). Some k) (omega arith)

is_first : (b : Bool) (i : ℕ) (o p : Option ℕ) → p ≡ moved (i + 1) o → cond b (Some i) p ≡ moved i (cond b (Some 0) (on suc o))
is_first true i o p e = ap (λ (k : ℕ). Some k) (omega arith)
is_first false i o p e = e ∙ moved_on i o

moved_place : (i : ℕ) (vs : List ℕ) (n : ℕ) → place_from i vs n ≡ moved i (place vs n)
moved_place i [] n = refl
moved_place i (v ∷ vs) n = is_first (v == n) i (place vs n) (place_from (i + 1) vs n) (moved_place (i + 1) vs n)

pub from_none : (vs : List ℕ) (n : ℕ) → place_from 0 vs n ≡ place vs n
from_none vs n = moved_place 0 vs n ∙ moved_none (place vs n)
