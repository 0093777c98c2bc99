-- A standing that is changed or added.
use Rattle.std.proofs.Common.{◌≡◌, ℕ, ◌<◌, Bool, true, false, cond, ◌||◌, List, [], ◌∷◌, ◌++◌, length, refl, sym, ap, ◌∙◌, arith, nat_eq, length-append, ◌⊎◌, inl, inr}
use Rattle.std.proofs.lemmas.List.{get_or-set_same, get_or_append_left}
use Rattle.std.proofs.Math.ListN.{get_or-eq_default}
use Rattle.std.proofs.Math.Seq.{get_or-append_seam}
use Rattle.std.proofs.lemmas.Bool.{eqb-true, true≢false}
use Rattle.std.specs.List.{list_any}
use Rattle.mm_tables.specs.Standings.{Standings}
use Rattle.mm_tables.specs.Tables.{nothing, with_symbol, with_state, standing_at}
use Rattle.mm_tables.specs.declared.table.Standing.{Standing}
use Rattle.mm_scope.proofs.Booleans.{list_any-append}
use Rattle.mm_scope.proofs.Flags.{changed}

-- the one table is the other, with the standing s at n
abbrev pub Sets : Standings → Standings → ℕ → Standing → Type 0
Sets t u n s = (k : ℕ) → standing_at u k ≡ cond (nat_eq k n) s (standing_at t k)

set_by : (t : Standings) (n k : ℕ) (s : Standing) → n < length t.standings → (b : Bool) → nat_eq k n ≡ b
    → standing_at (with_state t n s) k ≡ cond b s (standing_at t k)
set_by t n k s h true e = let same : k ≡ n = eqb-true k n e in rw same (get_or-set_same t.standings n s nothing h)
set_by t n k s h false e = changed t n k s e

pub sets_state : (t : Standings) (n : ℕ) (s : Standing) → n < length t.standings → Sets t (with_state t n s) n s
sets_state t n s h k = set_by t n k s h (nat_eq k n) refl

side : (k n : ℕ) → nat_eq k n ≡ false → (k < n) ⊎ (n < k)
side k n h = grind arith

added_by : (t : Standings) (x : List ℕ) (s : Standing) (k : ℕ) (b : Bool) → nat_eq k (length t.standings) ≡ b
    → standing_at (with_symbol t x s) k ≡ cond b s (standing_at t k)
added_by t x s k true e = let same : k ≡ length t.standings = eqb-true k (length t.standings) e in rw same (get_or-append_seam t.standings s [] nothing)
added_by t x s k false e = elim (side k (length t.standings) e) [
  | inl h ↦ get_or_append_left t.standings (s ∷ []) nothing k h
  | inr h ↦ get_or-eq_default (t.standings ++ s ∷ []) nothing (omega (arith, h, length-append t.standings (s ∷ []))) ∙ sym (get_or-eq_default t.standings nothing (omega (arith, h)))
]

pub sets_symbol : (t : Standings) (x : List ℕ) (s : Standing) → Sets t (with_symbol t x s) (length t.standings) s
sets_symbol t x s k = added_by t x s k (nat_eq k (length t.standings)) refl

pub nothing_past : (t : Standings) → standing_at t (length t.standings) ≡ nothing
nothing_past t = get_or-eq_default t.standings nothing (omega arith)

pub or_comm : (a b : Bool) → (a || b) ≡ (b || a)
or_comm true true = refl
or_comm true false = refl
or_comm false true = refl
or_comm false false = refl

pub or_false : (b : Bool) → (b || false) ≡ b
or_false true = refl
or_false false = refl

pub neither : (a b : Bool) → (a || b) ≡ false → (a ≡ false) × (b ≡ false)
neither true b h = absurd (true≢false h)
neither false b h = (refl, h)

module _ (get : Standing → Bool) where
  on_by : (s old : Standing) (b x : Bool) → get s ≡ true → get old ≡ x → get (cond b s old) ≡ (x || b)
  on_by s old true x on e = on ∙ or_comm true x
  on_by s old false x on e = e ∙ sym (or_false x)

  pub flag_on : (t u : Standings) (n : ℕ) (s : Standing) → Sets t u n s → get s ≡ true → (k : ℕ) (x : Bool) → get (standing_at t k) ≡ x
      → get (standing_at u k) ≡ (x || nat_eq k n)
  flag_on t u n s sets on k x e = ap get (sets k) ∙ on_by s (standing_at t k) (nat_eq k n) x on e

module _ {A : Type 0} (get : Standing → A) where
  kept_by : (t : Standings) (s : Standing) (k n : ℕ) (b : Bool) → nat_eq k n ≡ b → get s ≡ get (standing_at t n) → get (cond b s (standing_at t k)) ≡ get (standing_at t k)
  kept_by t s k n true e same = let place : k ≡ n = eqb-true k n e in rw place same
  kept_by t s k n false e same = refl

  pub flag_kept : (t u : Standings) (n : ℕ) (s : Standing) → Sets t u n s → get s ≡ get (standing_at t n) → (k : ℕ)
      → get (standing_at u k) ≡ get (standing_at t k)
  flag_kept t u n s sets same k = ap get (sets k) ∙ kept_by t s k n (nat_eq k n) refl same

-- one more at the end
pub any_pushed : {X : Type 0} (p : X → Bool) (es : List X) (e : X) → list_any p (es ++ e ∷ []) ≡ (list_any p es || p e)
any_pushed p es e = list_any-append p es (e ∷ []) ∙ ap (λ b. list_any p es || b) (or_false (p e))
