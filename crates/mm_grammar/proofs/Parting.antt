-- No label is a symbol where the rules are followed.
use Rattle.std.proofs.Common.{◌≡◌, ℕ, Bool, true, false, cond, ◌||◌, List, [], ◌∷◌, ◌++◌, All, get_or, refl, sym, ◌∙◌}
use Rattle.std.proofs.lemmas.Bool.{true≢false, or_from, false_from_ne_true}
use Rattle.std.proofs.lemmas.List.Elements.{All-push, All-nil}
use Rattle.std.proofs.lemmas.List.Folds.{list_any-append, list_any_at}
use Rattle.std.proofs.lemmas.Slice.Eq.{bytes_eq-Decides}
use Rattle.std.specs.List.{list_any}
use Rattle.std.specs.Str.{bytes_eq}
use Rattle.mm_tables.specs.Texts.{with_text}
use Rattle.mm_scope.specs.Events.{Event, constant, variable, float, essential, asserted, theorem, distinct, opened, closed, symbols, labels}
use Rattle.mm_grammar.specs.Rules.{FollowsRules}

-- no label of these is a symbol of those
abbrev AreApart : List (List ℕ) → List (List ℕ) → Type 0
AreApart symbols labels = All (λ l. list_any (bytes_eq l) symbols ≡ false) labels

differ_too : (t l : List ℕ) → bytes_eq t l ≡ false → bytes_eq l t ≡ false
differ_too t l h = false_from_ne_true (bytes_eq l t) (λ e. true≢false (sym ((bytes_eq-Decides t l).1 (sym ((bytes_eq-Decides l t).0 e))) ∙ h))

-- a text that is among none of them differs from each
none_like : (t : List ℕ) (labels : List (List ℕ)) → list_any (bytes_eq t) labels ≡ false → All (λ l. bytes_eq l t ≡ false) labels
none_like t labels none k d small =
    differ_too t (get_or labels k d) (false_from_ne_true (bytes_eq t (get_or labels k d)) (λ e. true≢false (sym (list_any_at (bytes_eq t) labels k d small e) ∙ none)))

still_none : (l t : List ℕ) (ts : List (List ℕ)) → list_any (bytes_eq l) ts ≡ false → bytes_eq l t ≡ false → list_any (bytes_eq l) (with_text ts t) ≡ false
still_none l t ts h g = by (list_any (bytes_eq t) ts)
  where
    by : (is : Bool) → list_any (bytes_eq l) (cond is ts (ts ++ t ∷ [])) ≡ false
    by true = h
    by false = list_any-append (bytes_eq l) ts (t ∷ []) ∙ or_from (list_any (bytes_eq l) ts) (bytes_eq l t || false) h (or_from (bytes_eq l t) false g refl)

-- a symbol more that is no label
one_symbol : (ts labels : List (List ℕ)) (t : List ℕ) → AreApart ts labels → list_any (bytes_eq t) labels ≡ false → AreApart (with_text ts t) labels
one_symbol ts labels t all none k d small = still_none (get_or labels k d) t ts (all k d small) (none_like t labels none k d small)

one_label : (ts ls : List (List ℕ)) (l : List ℕ) → AreApart ts ls → list_any (bytes_eq l) ts ≡ false → AreApart ts (ls ++ l ∷ [])
one_label ts ls l all new = All-push (λ m. list_any (bytes_eq m) ts ≡ false) ls l all new

pub all_apart : (past : List Event) → FollowsRules past → AreApart (symbols past) (labels past)
unfolding symbols labels
all_apart [] r = All-nil _
all_apart (constant t n ∷ past) r = one_symbol (symbols past) (labels past) t (all_apart past r.1) r.0.label
all_apart (variable t n ∷ past) r = one_symbol (symbols past) (labels past) t (all_apart past r.1) r.0.label
all_apart (float l ss d ∷ past) r = one_label (symbols past) (labels past) l (all_apart past r.1) r.0.0.symbol
all_apart (essential l ss d ∷ past) r = one_label (symbols past) (labels past) l (all_apart past r.1) r.0.0.symbol
all_apart (asserted l ss d ∷ past) r = one_label (symbols past) (labels past) l (all_apart past r.1) r.0.0.symbol
all_apart (theorem l ss from to d ∷ past) r = one_label (symbols past) (labels past) l (all_apart past r.1) r.0.0.symbol
all_apart (distinct ss ∷ past) r = all_apart past r.1
all_apart (opened p ∷ past) r = all_apart past r.1
all_apart (closed ∷ past) r = all_apart past r.1
