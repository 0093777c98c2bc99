-- What is read of a step: its source, its label and its substitution.
use Rattle.std.proofs.Common.{◌≡◌, ℕ, false, not, List, [], Some, None, ap, sym, ◌∙◌}
use Rattle.std.proofs.lemmas.Option.{none-some}
use Rattle.std.specs.Cmp.Lexicographic.{pointwise}
use Rattle.mm_subst.specs.declared.symbol.WSym.{WSym}
use Rattle.mm_subst.specs.Symbols.{is_same}
use Rattle.mm_subst.specs.Substitutions.{Pairs, applied}
use Rattle.mm_plain.specs.declared.plain.Plain.{Plain}
use Rattle.mm_plain.specs.declared.plain.Plain.TheOpen as L
use Rattle.mm_plain.specs.declared.plain.Plain.TheViews as V
use Rattle.mm_plain.specs.Shape.{unknown, known, target_of, size_of}
use Rattle.mm_plain.specs.Sources.{source_layer, source_of, differs_from, is_pending, label_layer, label_of, values_layer, sigma_of}
use Rattle.mm_subst.specs.Statements.{statement_of}
use Rattle.mm_plain.proofs.Equations.{by_trees, size_of-unknown, target_of-known}

pub source_of-unknown : (bytes : List ℕ) (t : List WSym) → source_of bytes (unknown t) ≡ None
unfolding source_of
source_of-unknown bytes t = ap (source_layer bytes) (V.out-roll-Plain (L.Unknown t))

pub source_of-known : (bytes : List ℕ) (t : List WSym) (l : ℕ) (s : Pairs) (kids : List Plain) → source_of bytes (known t l s kids) ≡ Some (applied s (statement_of bytes l))
unfolding source_of
source_of-known bytes t l s kids = ap (source_layer bytes) (V.out-roll-Plain (L.Known t l s kids))

pub is_pending-unknown : (bytes : List ℕ) (t : List WSym) → is_pending bytes (unknown t) ≡ false
unfolding is_pending
is_pending-unknown bytes t = ap (λ o. differs_from o (target_of (unknown t))) (source_of-unknown bytes t)

pub is_pending-known : (bytes : List ℕ) (t : List WSym) (l : ℕ) (s : Pairs) (kids : List Plain)
    → is_pending bytes (known t l s kids) ≡ not (pointwise is_same t (applied s (statement_of bytes l)))
unfolding is_pending
is_pending-known bytes t l s kids =
    ap (λ o. differs_from o (target_of (known t l s kids))) (source_of-known bytes t l s kids)
    ∙ ap (λ u. not (pointwise is_same u (applied s (statement_of bytes l)))) (target_of-known t l s kids)

pub label_of-unknown : (t : List WSym) → label_of (unknown t) ≡ None
unfolding label_of
label_of-unknown t = ap label_layer (V.out-roll-Plain (L.Unknown t))

pub label_of-known : (t : List WSym) (l : ℕ) (s : Pairs) (kids : List Plain) → label_of (known t l s kids) ≡ Some l
unfolding label_of
label_of-known t l s kids = ap label_layer (V.out-roll-Plain (L.Known t l s kids))

pub sigma_of-unknown : (t : List WSym) → sigma_of (unknown t) ≡ []
unfolding sigma_of
sigma_of-unknown t = ap values_layer (V.out-roll-Plain (L.Unknown t))

pub sigma_of-known : (t : List WSym) (l : ℕ) (s : Pairs) (kids : List Plain) → sigma_of (known t l s kids) ≡ s
unfolding sigma_of
sigma_of-known t l s kids = ap values_layer (V.out-roll-Plain (L.Known t l s kids))

-- a step that names no statement is one step
pub unlabelled-one : (x : Plain) → label_of x ≡ None → size_of x ≡ 1
unlabelled-one = by_trees
    (λ x. label_of x ≡ None → size_of x ≡ 1)
    (λ t e. size_of-unknown t)
    (λ t l s kids h e. absurd (none-some l (sym e ∙ label_of-known t l s kids)))
