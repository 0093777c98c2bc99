-- What a statement that is begun has so far.
use Rattle.std.proofs.Common.{◌≡◌, ◌≤◌, ◌<◌, ℕ, suc, Bool, true, false, not, ◌&&◌, List, [], ◌∷◌, ◌++◌, length, get_or, nat_eq, nat_lt, slice_index, sym, ap, ◌∙◌, arith, length-append, inl, inr}
use Rattle.std.proofs.Math.Seq.{get_or-append_seam}
use Rattle.std.proofs.lemmas.Bool.{eqb-true, cases_lt, true≢false, not-false}
use Rattle.std.proofs.lemmas.List.{get_or_append_left}
use Rattle.std.proofs.lemmas.List.Elements.{All-push, All-nil}
use Rattle.std.proofs.lemmas.List.Folds.{list_any_at}
use Rattle.std.specs.List.{list_any}
use Rattle.mm_scope.specs.Events.{Event}
use Rattle.mm_scope.specs.Laws.{IsConstant, IsInScope}
use Rattle.mm_grammar.specs.Beginnings.{IsTypingBegun, IsExpressionBegun, IsPartingBegun}
use Rattle.mm_grammar.specs.Rules.{HasFloat, IsTyped, Differ, IsTyping, IsExpression, IsParting}

pub typing_none : (past : List Event) → IsTypingBegun past []
typing_none past = record { few = omega arith; typecode = λ h. absurd (omega (arith, h)); variable = λ h. absurd (omega (arith, h)); free = λ h. absurd (omega (arith, h)) }

not_zero : (k : ℕ) → nat_eq (suc k) 0 ≡ true → ⊥
not_zero k e = grind arith

two_or_more : (k : ℕ) → nat_lt 1 (suc (suc k)) ≡ false → ⊥
two_or_more k e = grind arith

pub typing_first : (past : List Event) (ss : List ℕ) (n : ℕ) → nat_eq (length ss) 0 ≡ true → IsConstant past n → IsTypingBegun past (ss ++ n ∷ [])
typing_first past [] n none c = record { few = omega arith; typecode = λ _. c; variable = λ h. absurd (omega (arith, h)); free = λ h. absurd (omega (arith, h)) }
typing_first past (x ∷ xs) n none c = absurd (not_zero (length xs) none)

pub typing_second : (past : List Event) (ss : List ℕ) (n : ℕ) → nat_eq (length ss) 0 ≡ false → nat_lt 1 (length ss) ≡ false
    → IsTypingBegun past ss → IsInScope past n → ¬ HasFloat past n → IsTypingBegun past (ss ++ n ∷ [])
typing_second past [] n some few b v free = absurd (true≢false some)
typing_second past (x ∷ []) n some few b v free = record { few = omega arith; typecode = λ _. b.typecode (omega arith); variable = λ _. v; free = λ _. free }
typing_second past (x ∷ y ∷ ys) n some few b v free = absurd (two_or_more (length ys) few)

pub typing_done : (past : List Event) (ss : List ℕ) → nat_eq (length ss) 2 ≡ true → IsTypingBegun past ss → IsTyping past ss
typing_done past ss two b =
    let e = eqb-true (length ss) 2 two in
    record { two = e; typecode = b.typecode (omega (arith, e)); variable = b.variable (omega (arith, e)); free = b.free (omega (arith, e)) }

pub expression_none : (past : List Event) → IsExpressionBegun past []
expression_none past = record { typecode = λ h. absurd (omega (arith, h)); typed = All-nil (IsTyped past) }

first_of_more : (past : List Event) (ss : List ℕ) (n : ℕ) (c : Bool) → (nat_eq (length ss) 0 && not c) ≡ false → (c ≡ true → IsConstant past n)
    → (0 < length ss → IsConstant past (slice_index ss 0)) → 0 < length (ss ++ n ∷ []) → IsConstant past (slice_index (ss ++ n ∷ []) 0)
first_of_more past [] n c off is old h = is (not-false c off)
first_of_more past (x ∷ xs) n c off is old h = old (omega arith)

pub expression_more : (past : List Event) (ss : List ℕ) (n : ℕ) (c : Bool) → (nat_eq (length ss) 0 && not c) ≡ false → (c ≡ true → IsConstant past n)
    → IsTyped past n → IsExpressionBegun past ss → IsExpressionBegun past (ss ++ n ∷ [])
expression_more past ss n c off is typed b = record { typecode = first_of_more past ss n c off is b.typecode; typed = All-push (IsTyped past) ss n b.typed typed }

pub expression_done : (past : List Event) (ss : List ℕ) → 0 < length ss → IsExpressionBegun past ss → IsExpression past ss
expression_done past ss some b = record { some = some; typecode = b.typecode some; typed = b.typed }

pub parting_none : (past : List Event) → IsPartingBegun past []
parting_none past = record { variables = All-nil (IsInScope past); differ = λ i j less small. absurd (omega (arith, small)) }

same_number : (n : ℕ) → nat_eq n n ≡ true
same_number n = grind arith

differ_more : (ss : List ℕ) (n : ℕ) → Differ ss → list_any (nat_eq n) ss ≡ false → Differ (ss ++ n ∷ [])
differ_more ss n d new i j less small = elim (cases_lt j (length ss)) [
  | inl within ↦ λ e. d i j less within
      (sym (get_or_append_left ss (n ∷ []) 0 i (omega (arith, less, within))) ∙ e ∙ get_or_append_left ss (n ∷ []) 0 j within)
  | inr past ↦ λ e.
      let last : length ss ≡ j = omega (arith, length-append ss (n ∷ []), small, past) in
      let before : i < length ss = omega (arith, less, last) in
      let at_end : get_or (ss ++ n ∷ []) j 0 ≡ n = ap (λ k. get_or (ss ++ n ∷ []) k 0) (sym last) ∙ get_or-append_seam ss n [] 0 in
      let same : get_or ss i 0 ≡ n = sym (get_or_append_left ss (n ∷ []) 0 i before) ∙ e ∙ at_end in
      absurd (true≢false (sym (list_any_at (nat_eq n) ss i 0 before (ap (nat_eq n) same ∙ same_number n)) ∙ new))
]

pub parting_more : (past : List Event) (ss : List ℕ) (n : ℕ) → list_any (nat_eq n) ss ≡ false → IsInScope past n → IsPartingBegun past ss → IsPartingBegun past (ss ++ n ∷ [])
parting_more past ss n new v b = record { variables = All-push (IsInScope past) ss n b.variables v; differ = differ_more ss n b.differ new }

pub parting_done : (past : List Event) (ss : List ℕ) → nat_lt (length ss) 2 ≡ false → IsPartingBegun past ss → IsParting past ss
parting_done past ss many b = record { two = at_least (length ss) many; variables = b.variables; differ = b.differ }
  where
    at_least : (k : ℕ) → nat_lt k 2 ≡ false → 2 ≤ k
    at_least k h = grind (arith, h)
