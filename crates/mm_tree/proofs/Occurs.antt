-- Whether the tree of a node has a work variable, child by child.
use Rattle.std.proofs.Common.{◌≡◌, ℕ, ◌+◌, ◌≤◌, ◌<◌, Bool, true, false, ◌||◌, List, [], ◌∷◌, map, take, length, get_or, sym, ◌∙◌, ap, arith}
use Rattle.std.specs.List.{list_any}
use Rattle.std.proofs.lemmas.List.{take_all, get_or-map, length-map}
use Rattle.std.proofs.lemmas.List.Folds.{list_any_more, list_any_at}
use Rattle.mm_subst.specs.declared.symbol.WSym.{WSym}
use Rattle.mm_subst.specs.Substitutions.{Pairs}
use Rattle.mm_plain.specs.declared.plain.Plain.{Plain}
use Rattle.mm_plain.specs.Occurring.{holds, occurs_in}
use Rattle.mm_plain.specs.Shape.{known, unknown}
use Rattle.mm_plain.proofs.Occurring.{occurs_in-unknown, occurs_in-known, occurs_in-plain}
use Rattle.mm_tree.specs.Lines.{Line, string_now, values_now}
use Rattle.mm_tree.specs.Meanings.{mean, is_live}
use Rattle.mm_tree.specs.declared.timed.TimedTree.{TimedTree}
use Rattle.mm_tree.proofs.Longs.{dead-works}

pub occurs-dead : (n : ℕ) (line : Line) (x : TimedTree) → is_live x ≡ false → false ≡ occurs_in n (mean x line)
occurs-dead n line x dead = sym (occurs_in-plain n (mean x line) (dead-works line x dead))

pub occurs-unknown : (n : ℕ) (t : List WSym) (x : Plain) (b : Bool) → unknown t ≡ x → b ≡ holds n t → b ≡ occurs_in n x
occurs-unknown n t x b is e = e ∙ sym (occurs_in-unknown n t) ∙ ap (occurs_in n) is

-- the children that are walked over don't have it, and then one does
pub occurs-early : (n : ℕ) (t : List WSym) (l : ℕ) (s : Pairs) (kids items : List Plain) (x kid : Plain) (i : ℕ) → known t l s kids ≡ x → items ≡ kids
    → i < length items → kid ≡ get_or items i kid → occurs_in n kid ≡ true → true ≡ occurs_in n x
occurs-early n t l s kids items x kid i is same h at e =
    sym (ap (occurs_in n) (sym is) ∙ occurs_in-known n t l s kids
    ∙ ap (λ (ks : List Plain). list_any (occurs_in n) ks || (holds n t || list_any (λ (p : WSym × List WSym). holds n p.1) s)) (sym same)
    ∙ ap (λ (b : Bool). b || (holds n t || list_any (λ (p : WSym × List WSym). holds n p.1) s)) (list_any_at (occurs_in n) items i kid h (sym (ap (occurs_in n) at) ∙ e)))

pub occurs-more : (n : ℕ) (items : List Plain) (i : ℕ) (kid : Plain) → i < length items → kid ≡ get_or items i kid
    → list_any (occurs_in n) (take i items) ≡ false → occurs_in n kid ≡ false → list_any (occurs_in n) (take (i + 1) items) ≡ false
occurs-more n items i kid h at so_far e =
    list_any_more (occurs_in n) items i kid h
    ∙ ap (λ (b : Bool). b || occurs_in n (get_or items i kid)) so_far
    ∙ ap (occurs_in n) (sym at) ∙ e

-- none of the children does
pub occurs-end : (n : ℕ) (t : List WSym) (l : ℕ) (s : Pairs) (kids items : List Plain) (x : Plain) (i : ℕ) → known t l s kids ≡ x → items ≡ kids → length items ≤ i
    → list_any (occurs_in n) (take i items) ≡ false → (holds n t || list_any (λ (p : WSym × List WSym). holds n p.1) s) ≡ occurs_in n x
occurs-end n t l s kids items x i is same h so_far =
    sym (ap (occurs_in n) (sym is) ∙ occurs_in-known n t l s kids
    ∙ ap (λ (ks : List Plain). list_any (occurs_in n) ks || (holds n t || list_any (λ (p : WSym × List WSym). holds n p.1) s)) (sym same ∙ sym (take_all i items h))
    ∙ ap (λ (b : Bool). b || (holds n t || list_any (λ (p : WSym × List WSym). holds n p.1) s)) so_far)

-- a value that has it
pub values-hold : (n : ℕ) (line : Line) (birth : ℕ) (items all : Pairs) (i : ℕ) (p : WSym × List WSym) (b : Bool) → i < length items → p ≡ get_or items i p → items ≡ all
    → b ≡ holds n (string_now line birth p.1) → b ≡ true → true ≡ list_any (λ (q : WSym × List WSym). holds n q.1) (values_now line birth all)
values-hold n line birth items all i p b h is same e told =
    let f : WSym × List WSym → WSym × List WSym = λ q. (q.0, string_now line birth q.1) in
    sym (ap (λ (ps : Pairs). list_any (λ (q : WSym × List WSym). holds n q.1) (values_now line birth ps)) (sym same)
    ∙ list_any_at (λ (q : WSym × List WSym). holds n q.1) (map f items) i (f p) (omega (arith, h, length-map items f))
    (ap (λ (q : WSym × List WSym). holds n q.1) (get_or-map f items i p (f p) h ∙ ap f (sym is)) ∙ sym e ∙ told))
