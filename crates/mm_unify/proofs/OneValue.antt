-- A typecode and a work variable against the typecode and a value.
use Rattle.std.proofs.Common.{ℕ, ◌+◌, ◌*◌, ◌≡◌, ◌≤◌, List, [], ◌∷◌, false, length, refl, ap, ◌∙◌, inr, Option, arith}
use Rattle.std.proofs.lemmas.Bool.{or_from}
use Rattle.mm_subst.specs.declared.symbol.WSym.{WSym}
use Rattle.mm_subst.specs.declared.symbol.WSym.TheVariants.{Const, Var, Work}
use Rattle.mm_subst.specs.declared.brackets.Brackets.{Brackets}
use Rattle.mm_subst.specs.Symbols.{is_work, has_work}
use Rattle.mm_unify.specs.Variables.{numbers}
use Rattle.mm_unify.specs.Forbidden.{forbidden_by}
use Rattle.mm_unify.specs.Search.{explore, roots, selves}
use Rattle.mm_unify.specs.Laws.{IsValue, only, FindsValue}
use Rattle.mm_unify.proofs.Opened.{fair_by}
use Rattle.mm_unify.proofs.Balanced.{Plain}
use Rattle.mm_unify.proofs.Weight.{plain_from_test}
use Rattle.mm_unify.proofs.Mirror.{numbers-left, roots-mirror}
use Rattle.mm_unify.proofs.Alone.{alone}

number_is : (c : WSym) (n : ℕ) (v : List WSym) → is_work c ≡ false → Plain v → numbers (c ∷ Work n ∷ c ∷ v) ≡ n ∷ []
number_is c n v e p =
    numbers-left (c ∷ Work n ∷ []) (c ∷ v) (e, p) ∙ one c e
  where
    one : (c : WSym) → is_work c ≡ false → numbers (c ∷ Work n ∷ []) ≡ n ∷ []
    one (Const m) e = refl
    one (Var m) e = refl
    one (Work m) e = cc

left_value : (pairs : Option Brackets) (c : WSym) (n : ℕ) (v : List WSym) (trials : ℕ) → IsValue (forbidden_by pairs) c v → 1 + 2 * length v ≤ trials →
    explore (forbidden_by pairs) trials (roots (c ∷ Work n ∷ []) (c ∷ v)) ≡ only n v
left_value pairs c n [] trials h l = absurd (h.full refl)
left_value pairs c n (y ∷ v) trials h l =
    let p = plain_from_test (y ∷ v) h.plain in
    let s = h.short in
    ap (λ ms. explore (forbidden_by pairs) trials (record { left = c ∷ Work n ∷ []; right = c ∷ y ∷ v; values = selves ms } ∷ [])) (number_is c n (y ∷ v) h.fixed p)
    ∙ alone (forbidden_by pairs) (fair_by pairs) (Work n) refl (y ∷ v) (c ∷ []) [] trials tt p (omega arith) h.allowed l

pub finds_value : FindsValue
finds_value pairs c n v trials h l =
    let left = left_value pairs c n v trials h l in
    (left, roots-mirror (forbidden_by pairs) trials (c ∷ Work n ∷ []) (c ∷ v) (inr (or_from (is_work c) (has_work v) h.fixed h.plain)) ∙ left)
