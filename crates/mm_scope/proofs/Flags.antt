-- What an ending does to each standing.
use Rattle.std.proofs.Common.{◌≡◌, ℕ, Bool, true, false, not, ◌&&◌, List, [], ◌∷◌, length, fold, set, refl, sym, ap, ◌∙◌, arith, ◌⊎◌, inl, inr, nat_eq}
use Rattle.std.proofs.lemmas.Grind.{common_steps}
use Rattle.std.proofs.lemmas.List.{get_or-set_same}
use Rattle.std.proofs.Math.ListN.{get_or-eq_default, length-set}
use Rattle.std.proofs.lemmas.Bool.{eqb-true}
use Rattle.mm_scope.proofs.Stacks.{below_or, and_true, and_false}
use Rattle.mm_scope.specs.Contexts.{ended}
use Rattle.mm_scope.specs.Looks.{is_active_of, is_floated_of}
use Rattle.mm_tables.specs.Standings.{Standings}
use Rattle.mm_tables.specs.Tables.{nothing, with_state, standing_at}
use Rattle.mm_tables.specs.declared.table.Standing.{Standing}
use Rattle.mm_scope.specs.declared.ending.Ending.{Ending}
use Rattle.mm_scope.specs.declared.ending.Ending.TheVariants.{Active, Floated}

-- a standing after a change of one
pub changed : (t : Standings) (m n : ℕ) (s : Standing) → nat_eq n m ≡ false → standing_at (with_state t m s) n ≡ standing_at t n
changed t m n s h = grind (arith, common_steps, h)

-- a change of one at its place, where there is one
changed_here : (t : Standings) (m : ℕ) (s : Standing) → (standing_at (with_state t m s) m ≡ s) ⊎ ((standing_at (with_state t m s) m ≡ nothing) × (standing_at t m ≡ nothing))
changed_here t m s = elim (below_or m (length t.standings)) [
  | inl h ↦ inl (get_or-set_same t.standings m s nothing h)
  | inr h ↦ inr (get_or-eq_default (set t.standings m s) nothing (omega (arith, length-set t.standings m s)), get_or-eq_default t.standings nothing h)
]

active_off : (t : Standings) (m : ℕ) → (standing_at (with_state t m (record (standing_at t m) { active = false })) m).active ≡ false
active_off t m = elim (changed_here t m (record (standing_at t m) { active = false })) [ inl e ↦ ap (λ s. s.active) e | inr e ↦ ap (λ s. s.active) e.0 ]

active_kept : (t : Standings) (m : ℕ) → (standing_at (with_state t m (record (standing_at t m) { floated = false })) m).active ≡ (standing_at t m).active
active_kept t m = elim (changed_here t m (record (standing_at t m) { floated = false })) [ inl e ↦ ap (λ s. s.active) e | inr e ↦ ap (λ s. s.active) (e.0 ∙ sym e.1) ]

active_by : (t : Standings) (m n : ℕ) (b : Bool) → nat_eq n m ≡ b
    → (standing_at (ended t (Active m)) n).active ≡ ((standing_at t n).active && not b)
active_by t m n true h = let same : n ≡ m = eqb-true n m h in rw same (active_off t m ∙ and_false _)
active_by t m n false h = ap (λ s. s.active) (changed t m n _ h) ∙ and_true _

active_same : (t : Standings) (m n : ℕ) (b : Bool) → nat_eq n m ≡ b
    → (standing_at (ended t (Floated m)) n).active ≡ (standing_at t n).active
active_same t m n true h = let same : n ≡ m = eqb-true n m h in rw same (active_kept t m)
active_same t m n false h = ap (λ s. s.active) (changed t m n _ h)

pub active_ended : (t : Standings) (e : Ending) (n : ℕ) → (standing_at (ended t e) n).active ≡ ((standing_at t n).active && not (is_active_of n e))
active_ended t (Active m) n = active_by t m n (nat_eq n m) refl
active_ended t (Floated m) n = active_same t m n (nat_eq n m) refl ∙ and_true _

floated_off : (t : Standings) (m : ℕ) → (standing_at (with_state t m (record (standing_at t m) { floated = false })) m).floated ≡ false
floated_off t m = elim (changed_here t m (record (standing_at t m) { floated = false })) [ inl e ↦ ap (λ s. s.floated) e | inr e ↦ ap (λ s. s.floated) e.0 ]

floated_kept : (t : Standings) (m : ℕ) → (standing_at (with_state t m (record (standing_at t m) { active = false })) m).floated ≡ (standing_at t m).floated
floated_kept t m = elim (changed_here t m (record (standing_at t m) { active = false })) [ inl e ↦ ap (λ s. s.floated) e | inr e ↦ ap (λ s. s.floated) (e.0 ∙ sym e.1) ]

floated_by : (t : Standings) (m n : ℕ) (b : Bool) → nat_eq n m ≡ b
    → (standing_at (ended t (Floated m)) n).floated ≡ ((standing_at t n).floated && not b)
floated_by t m n true h = let same : n ≡ m = eqb-true n m h in rw same (floated_off t m ∙ and_false _)
floated_by t m n false h = ap (λ s. s.floated) (changed t m n _ h) ∙ and_true _

floated_same : (t : Standings) (m n : ℕ) (b : Bool) → nat_eq n m ≡ b
    → (standing_at (ended t (Active m)) n).floated ≡ (standing_at t n).floated
floated_same t m n true h = let same : n ≡ m = eqb-true n m h in rw same (floated_kept t m)
floated_same t m n false h = ap (λ s. s.floated) (changed t m n _ h)

pub floated_ended : (t : Standings) (e : Ending) (n : ℕ) → (standing_at (ended t e) n).floated ≡ ((standing_at t n).floated && not (is_floated_of n e))
floated_ended t (Floated m) n = floated_by t m n (nat_eq n m) refl
floated_ended t (Active m) n = floated_same t m n (nat_eq n m) refl ∙ and_true _

constant_same : (t : Standings) (m n : ℕ) (s : Standing) → s.constant ≡ (standing_at t m).constant → (b : Bool) → nat_eq n m ≡ b
    → (standing_at (with_state t m s) n).constant ≡ (standing_at t n).constant
constant_same t m n s e true h =
    let same : n ≡ m = eqb-true n m h in
    rw same (elim (changed_here t m s) [ inl f ↦ ap (λ s. s.constant) f ∙ e | inr f ↦ ap (λ s. s.constant) (f.0 ∙ sym f.1) ])
constant_same t m n s e false h = ap (λ s. s.constant) (changed t m n s h)

constant_ended : (t : Standings) (e : Ending) (n : ℕ) → (standing_at (ended t e) n).constant ≡ (standing_at t n).constant
constant_ended t (Active m) n = constant_same t m n (record (standing_at t m) { active = false }) refl (nat_eq n m) refl
constant_ended t (Floated m) n = constant_same t m n (record (standing_at t m) { floated = false }) refl (nat_eq n m) refl

pub constant_after : (es : List Ending) (t : Standings) (n : ℕ) → (standing_at (fold ended t es) n).constant ≡ (standing_at t n).constant
constant_after [] t n = refl
constant_after (e ∷ es) t n = constant_after es (ended t e) n ∙ constant_ended t e n

float_same : (t : Standings) (m n : ℕ) (s : Standing) → s.float ≡ (standing_at t m).float → (b : Bool) → nat_eq n m ≡ b
    → (standing_at (with_state t m s) n).float ≡ (standing_at t n).float
float_same t m n s e true h =
    let same : n ≡ m = eqb-true n m h in
    rw same (elim (changed_here t m s) [ inl f ↦ ap (λ s. s.float) f ∙ e | inr f ↦ ap (λ s. s.float) (f.0 ∙ sym f.1) ])
float_same t m n s e false h = ap (λ s. s.float) (changed t m n s h)

float_ended : (t : Standings) (e : Ending) (n : ℕ) → (standing_at (ended t e) n).float ≡ (standing_at t n).float
float_ended t (Active m) n = float_same t m n (record (standing_at t m) { active = false }) refl (nat_eq n m) refl
float_ended t (Floated m) n = float_same t m n (record (standing_at t m) { floated = false }) refl (nat_eq n m) refl

pub float_after : (es : List Ending) (t : Standings) (n : ℕ) → (standing_at (fold ended t es) n).float ≡ (standing_at t n).float
float_after [] t n = refl
float_after (e ∷ es) t n = float_after es (ended t e) n ∙ float_ended t e n
