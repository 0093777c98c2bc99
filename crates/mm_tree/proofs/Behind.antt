-- Statements under a substitution, symbol by symbol.
use Rattle.std.proofs.Common.{◌≡◌, ℕ, ◌+◌, ◌<◌, ◌≤◌, ◌==◌, Bool, List, [], ◌∷◌, ◌++◌, map, length, drop, get_or, refl, sym, ◌∙◌, ap, arith}
use Rattle.std.specs.Cmp.Lexicographic.{pointwise}
use Rattle.std.proofs.lemmas.Bool.Decides.{nat_tests}
use Rattle.std.proofs.lemmas.List.{at_drop_more, at_drop_all}
use Rattle.mm_scope.specs.Contents.{stated_at}
use Rattle.mm_subst.specs.declared.symbol.WSym.{WSym}
use Rattle.mm_subst.specs.Statements.{statement_of, symbol_of}
use Rattle.mm_subst.specs.Substitutions.{Pairs, applied, value_of}
use Rattle.mm_subst.specs.Symbols.{is_same}
use Rattle.mm_subst.proofs.Replaced.{applied-nil, applied-cons}

statement-is : (bytes : List ℕ) (id : ℕ) (ns : List ℕ) → ns ≡ (stated_at bytes id).symbols → statement_of bytes id ≡ map (symbol_of bytes) ns
unfolding statement_of
statement-is bytes id ns is = ap (map (symbol_of bytes)) (sym is)

-- what is to be compared, by the numbers of the statement's symbols
abbrev pub same_so : List WSym → List ℕ → Pairs → List ℕ → Bool
same_so target bytes sigma ns = pointwise is_same target (applied sigma (map (symbol_of bytes) ns))

pub whole-source : (target : List WSym) (bytes : List ℕ) (sigma : Pairs) (id : ℕ) (ns : List ℕ) → ns ≡ (stated_at bytes id).symbols
    → pointwise is_same target (applied sigma (statement_of bytes id)) ≡ same_so target bytes sigma ns
whole-source target bytes sigma id ns is = ap (λ s. pointwise is_same target (applied sigma s)) (statement-is bytes id ns is)

pub next-value : (left : List WSym) (bytes : List ℕ) (sigma : Pairs) (ns : List ℕ) (i d : ℕ) (symbol : WSym) (value : List WSym) → i < length ns
    → symbol ≡ symbol_of bytes (get_or ns i d) → value ≡ value_of sigma symbol
    → same_so left bytes sigma (drop i ns) ≡ pointwise is_same left (value ++ applied sigma (map (symbol_of bytes) (drop (i + 1) ns)))
next-value left bytes sigma ns i d symbol value h is stands =
    at_drop_more (same_so left bytes sigma) ns i d h
    ∙ ap (pointwise is_same left) (applied-cons sigma (symbol_of bytes (get_or ns i d)) (map (symbol_of bytes) (drop (i + 1) ns))
    ∙ ap (λ v. v ++ applied sigma (map (symbol_of bytes) (drop (i + 1) ns))) (ap (value_of sigma) (sym is) ∙ sym stands))

pub empty-same : (left : List WSym) → (length left == 0) ≡ pointwise is_same left []
empty-same [] = refl
empty-same (x ∷ xs) = grind (arith, nat_tests)

pub no-value : (left : List WSym) (bytes : List ℕ) (sigma : Pairs) (ns : List ℕ) (i : ℕ) → length ns ≤ i → same_so left bytes sigma (drop i ns) ≡ (length left == 0)
no-value left bytes sigma ns i h = at_drop_all (same_so left bytes sigma) ns i h ∙ ap (pointwise is_same left) (applied-nil sigma) ∙ sym (empty-same left)
