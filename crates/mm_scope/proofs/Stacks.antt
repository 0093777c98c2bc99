-- A stack of what ends with blocks, and a flag that says whether something is on it.
use Rattle.std.proofs.Common.{◌≡◌, ℕ, ◌+◌, ◌-◌, ◌<◌, ◌≤◌, Bool, true, false, not, ◌&&◌, ◌||◌, List, [], ◌∷◌, ◌++◌, length, take, drop, fold, refl, sym, ap, ◌∙◌, arith, ◌⊎◌, inl, inr, length-append}
use Rattle.std.proofs.lemmas.Grind.{common_steps}
use Rattle.std.proofs.lemmas.List.{take-append-drop, take-append-le, drop-append-le, drop-take}
use Rattle.std.proofs.Math.ListN.{drop_of_length-le}
use Rattle.std.proofs.lemmas.Bool.{false≢true}
use Rattle.std.specs.List.{list_any}
use Rattle.mm_scope.proofs.Booleans.{list_any-append}

pub below_or : (k n : ℕ) → (k < n) ⊎ (n ≤ k)
below_or k n = grind arith

pub and_true : (b : Bool) → b ≡ (b && true)
and_true true = refl
and_true false = refl

pub and_false : (b : Bool) → false ≡ (b && false)
and_false true = refl
and_false false = refl

and_not : (a b c : Bool) → ((a && not b) && not c) ≡ (a && not (b || c))
and_not true true c = refl
and_not true false c = refl
and_not false b c = refl

-- what passes stands on the stack at most once
abbrev pub Once : {X : Type 0} → (X → Bool) → List X → Type 0
Once p es = (m : ℕ) → (list_any p (take m es) && list_any p (drop m es)) ≡ false

either_and_not : (a b : Bool) → (a && b) ≡ false → ((a || b) && not b) ≡ a
either_and_not true true h = sym h
either_and_not true false h = refl
either_and_not false true h = refl
either_and_not false false h = refl

module _ {T X : Type 0} (end : T → X → T) (get : T → ℕ → Bool) (p : ℕ → X → Bool)
    (one_ended : (t : T) (e : X) (n : ℕ) → get (end t e) n ≡ (get t n && not (p n e))) where
  flag_after : (es : List X) (t : T) (n : ℕ) → get (fold end t es) n ≡ (get t n && not (list_any (p n) es))
  flag_after [] t n = and_true _
  flag_after (e ∷ es) t n =
      flag_after es (end t e) n ∙ ap (λ b. b && not (list_any (p n) es)) (one_ended t e n)
      ∙ and_not (get t n) (p n e) (list_any (p n) es)

  -- once a block is closed, each flag says what is on the stack that is left
  pub closed_flag : (t : T) (es : List X) (m n : ℕ) → get t n ≡ list_any (p n) es → Once (p n) es
      → get (fold end t (drop m es)) n ≡ list_any (p n) (take m es)
  closed_flag t es m n flag once =
      let split : list_any (p n) es ≡ (list_any (p n) (take m es) || list_any (p n) (drop m es))
      = ap (list_any (p n)) (sym (take-append-drop m es)) ∙ list_any-append (p n) (take m es) (drop m es) in
      flag_after (drop m es) t n ∙ ap (λ b. b && not (list_any (p n) (drop m es))) (flag ∙ split)
      ∙ either_and_not (list_any (p n) (take m es)) (list_any (p n) (drop m es)) (once m)

-- a prefix has no more than the whole
any_less : {X : Type 0} (p : X → Bool) (es : List X) (m : ℕ) → list_any p es ≡ false → list_any p (take m es) ≡ false
any_less p es m none =
    left (list_any p (take m es)) (list_any p (drop m es)) (sym (list_any-append p (take m es) (drop m es)) ∙ ap (list_any p) (take-append-drop m es) ∙ none)
  where
    left : (a b : Bool) → (a || b) ≡ false → a ≡ false
    left true b h = h
    left false b h = refl

and_nothing : (a b : Bool) → b ≡ false → (a && b) ≡ false
and_nothing true b h = h
and_nothing false b h = refl

more_at_end : (a b c : Bool) → (a && b) ≡ false → (c ≡ true → a ≡ false) → (a && (b || (c || false))) ≡ false
more_at_end true true c h f = h
more_at_end true false true h f = f refl
more_at_end true false false h f = refl
more_at_end false b c h f = refl

none_past : {X : Type 0} (p : X → Bool) (es : List X) (m : ℕ) → length es ≤ m → list_any p (drop m es) ≡ false
none_past p es m h = rw (drop_of_length-le es h) refl

pub once_pushed : {X : Type 0} (p : X → Bool) (es : List X) (e : X) → Once p es → (p e ≡ true → list_any p es ≡ false) → Once p (es ++ e ∷ [])
once_pushed p es e once fresh m = elim (below_or (length es) m) [
  | inl h ↦ and_nothing (list_any p (take m (es ++ e ∷ []))) (list_any p (drop m (es ++ e ∷ []))) (none_past p (es ++ e ∷ []) m (omega (arith, length-append es (e ∷ []))))
  | inr h ↦ rw (take-append-le m es (e ∷ []) h, drop-append-le m es (e ∷ []) h, list_any-append p (drop m es) (e ∷ []))
      (more_at_end (list_any p (take m es)) (list_any p (drop m es)) (p e) (once m) (λ on. any_less p es m (fresh on)))
]

less : (a b c : Bool) → (a && b) ≡ false → (c ≡ true → b ≡ true) → (a && c) ≡ false
less true b true h f = sym (f refl) ∙ h
less true b false h f = refl
less false b c h f = refl

part_passes : (a b : Bool) → a ≡ true → (a || b) ≡ true
part_passes true b h = refl
part_passes false b h = absurd (false≢true h)

more_passes : {X : Type 0} (p : X → Bool) (es : List X) (k : ℕ) → list_any p (take k es) ≡ true → list_any p es ≡ true
more_passes p es k h =
    ap (list_any p) (sym (take-append-drop k es)) ∙ list_any-append p (take k es) (drop k es)
    ∙ part_passes (list_any p (take k es)) (list_any p (drop k es)) h

take-take : {X : Type 0} (m n : ℕ) (es : List X) → m ≤ n → take m (take n es) ≡ take m es
take-take m n es h = grind (arith, common_steps)

short : {X : Type 0} (k : ℕ) (es : List X) → length (take k es) ≤ k
short k es = grind (arith, common_steps)

middle : {X : Type 0} (k m : ℕ) (es : List X) → m < k → drop m (take k es) ≡ take (k - m) (drop m es)
middle k m es h = let same : k ≡ m + (k - m) = omega (arith, h) in ap (λ j. drop m (take j es)) same ∙ drop-take m (k - m) es

pub once_taken : {X : Type 0} (p : X → Bool) (es : List X) (k : ℕ) → Once p es → Once p (take k es)
once_taken p es k once m = elim (below_or m k) [
  | inl h ↦ ap (λ xs. list_any p xs && list_any p (drop m (take k es))) (take-take m k es (omega (arith, h)))
      ∙ less (list_any p (take m es)) (list_any p (drop m es)) (list_any p (drop m (take k es))) (once m)
      (λ on. more_passes p (drop m es) (k - m) (ap (list_any p) (sym (middle k m es h)) ∙ on))
  | inr h ↦ and_nothing (list_any p (take m (take k es))) (list_any p (drop m (take k es))) (none_past p (take k es) m (omega (arith, short k es, h)))
]
