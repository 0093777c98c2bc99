-- Laws of the chosen proof.
use Rattle.std.proofs.Common.{◌≡◌, ℕ, zero, suc, ◌≤◌, ◌<◌, Option, None, Some, Bool, cond, refl, sym, ◌∙◌, ap, arith, inl, inr, subst}
use Rattle.std.proofs.lemmas.Bool.{cases_lt, le-leb, lt-leb}
use Rattle.mm_chart.specs.Options.{or_else, on, first}
use Rattle.mm_chart.specs.Items.{Goal, Grammar, uses}
use Rattle.mm_chart.specs.Items.{Chosen, by_use, hypothesis, serves, chosen, IsAnswer}

pub chosen-zero : (G : Grammar) (g : Goal) → chosen G 0 g ≡ hypothesis G g
unfolding chosen
chosen-zero G g = refl

pub chosen-suc : (G : Grammar) (r : ℕ) (g : Goal) → chosen G (suc r) g ≡ or_else (chosen G r g) (on (by_use (suc r)) (first (serves (chosen G r)) (uses G g)))
unfolding chosen
chosen-suc G r g = refl

pub chosen_next : (G : Grammar) (r : ℕ) (g : Goal) (c : Chosen) → chosen G r g ≡ Some c → chosen G (suc r) g ≡ Some c
chosen_next G r g c h = chosen-suc G r g ∙ ap (λ (o : Option Chosen). or_else o (on (by_use (suc r)) (first (serves (chosen G r)) (uses G g)))) h

-- a chosen proof stays
pub chosen_stays : (G : Grammar) (g : Goal) (c : Chosen) (r s : ℕ) → r ≤ s → chosen G r g ≡ Some c → chosen G s g ≡ Some c
chosen_stays G g c r zero l h = subst (λ (k : ℕ). chosen G k g ≡ Some c) (let e : r ≡ 0 = omega arith in e) h
chosen_stays G g c r (suc s) l h = elim (cases_lt s r) [
  | inl m ↦ subst (λ (k : ℕ). chosen G k g ≡ Some c) (let e : r ≡ suc s = omega arith in e) h
  | inr m ↦ chosen_next G s g c (chosen_stays G g c r s m h)
]

-- the answer is known at its rank and below it
pub IsAnswer-some : (G : Grammar) (g : Goal) (c : Chosen) → chosen G c.rank g ≡ Some c → ((s : ℕ) → s < c.rank → chosen G s g ≡ None) → IsAnswer G g (Some c)
IsAnswer-some G g c h below s = elim (cases_lt s c.rank) [
  | inl m ↦ below s m ∙ ap (λ (b : Bool). cond b (Some c) None) (sym (lt-leb c.rank s m))
  | inr m ↦ chosen_stays G g c c.rank s m h ∙ ap (λ (b : Bool). cond b (Some c) None) (sym (le-leb c.rank s m))
]
