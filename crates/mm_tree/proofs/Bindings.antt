-- One more binding binds the tree of a version.
use Rattle.std.proofs.Common.{zero, suc, ◌≡◌, ℕ, ◌+◌, ◌-◌, ◌≤◌, Bool, true, false, List, [], ◌∷◌, ◌++◌, map, drop, length, refl, sym, ◌∙◌, ap, arith, if◌then◌else◌, get_or, take, None, Some, ◌<◌}
use Rattle.mm_subst.specs.declared.symbol.WSym.{WSym}
use Rattle.mm_subst.specs.Substitutions.{Pairs, applied, with_values}
use Rattle.mm_subst.specs.Symbols.{has_work, is_same}
use Rattle.mm_subst.specs.Substitutions.{value_at, HasDistinctKeys}
use Rattle.mm_subst.proofs.Keys.{value_at-take}
use Rattle.std.specs.Option.{option_map}
use Rattle.std.proofs.lemmas.List.{at_drop_more, at_drop_all, take_more, map-append}
use Rattle.mm_tree.specs.Meanings.{has_values_with_work}
use Rattle.mm_plain.proofs.Works.{neither}
use Rattle.mm_plain.specs.declared.plain.Plain.{Plain}
use Rattle.mm_plain.specs.Shape.{unknown, known, greatest}
use Rattle.mm_plain.specs.Binding.{bound, HasWorkKeys}
use Rattle.mm_plain.proofs.Binding.{bound-unknown, bound-known}
use Rattle.mm_plain.proofs.Works.{applied-plain}
use Rattle.mm_tree.specs.Lines.{Line, after, string_now, values_now}
use Rattle.mm_tree.specs.Meanings.{mean, means, mean-unknown, mean-known, text_now, sigma_now, youngest}
use Rattle.mm_tree.specs.declared.timed.TimedTree.{TimedTree}
use Rattle.mm_tree.proofs.Shapes.{EachTimed, by_timed, youngest-unknown, youngest-known}

after-more : (line : Line) (theta : Pairs) (s : List WSym) → after (line ++ theta ∷ []) s ≡ applied theta (after line s)
after-more [] theta s = refl
after-more (x ∷ line) theta s = after-more line theta (applied x s)

pub after-append : (line more : Line) (s : List WSym) → after (line ++ more) s ≡ after more (after line s)
after-append [] more s = refl
after-append (x ∷ line) more s = after-append line more (applied x s)

drop-more : (b : ℕ) (line : Line) (theta : Pairs) → b ≤ length line → drop b (line ++ theta ∷ []) ≡ drop b line ++ theta ∷ []
drop-more zero line theta h = refl
drop-more (suc b) [] theta h = absurd (omega arith)
drop-more (suc b) (x ∷ line) theta h = drop-more b line theta (omega arith)

pub drop-append : (b : ℕ) (line more : Line) → drop b (line ++ more) ≡ drop b line ++ drop (b - length line) more
drop-append zero [] more = refl
drop-append zero (x ∷ line) more = let z : 0 - length (x ∷ line) ≡ 0 = omega arith in ap (λ (n : ℕ). (x ∷ line) ++ drop n more) (sym z)
drop-append (suc b) [] more = let z : suc b - 0 ≡ suc b = omega arith in ap (λ (n : ℕ). drop n more) (sym z)
drop-append (suc b) (x ∷ line) more = let z : suc b - length (x ∷ line) ≡ b - length line = omega arith in drop-append b line more ∙ ap (λ (n : ℕ). drop b line ++ drop n more) (sym z)

-- a string under the settled bindings and then under those of the drafts
pub after-both : (b : ℕ) (line more : Line) (s t u : List WSym) → t ≡ after (drop b line) s → u ≡ after (drop (b - length line) more) t → u ≡ after (drop b (line ++ more)) s
after-both b line more s t u e f = f ∙ ap (after (drop (b - length line) more)) e ∙ sym (ap (λ l. after l s) (drop-append b line more) ∙ after-append (drop b line) (drop (b - length line) more) s)

pub string-bind : (line : Line) (theta : Pairs) → HasWorkKeys theta → (b : ℕ) (s : List WSym) → b ≤ length line → string_now (line ++ theta ∷ []) b s ≡ applied theta (string_now line b s)
string-bind line theta keys b s h = by_kind (has_work s) refl
  where
    by_kind : (w : Bool) → has_work s ≡ w → (if w then after (drop b (line ++ theta ∷ [])) s else s) ≡ applied theta (if w then after (drop b line) s else s)
    by_kind true is = ap (λ (l : Line). after l s) (drop-more b line theta h) ∙ after-more (drop b line) theta s
    by_kind false is = sym (applied-plain theta keys s is)

pub values-bind : (line : Line) (theta : Pairs) → HasWorkKeys theta → (b : ℕ) (ps : Pairs) → b ≤ length line → values_now (line ++ theta ∷ []) b ps ≡ with_values theta (values_now line b ps)
values-bind line theta keys b [] h = refl
values-bind line theta keys b (p ∷ ps) h =
    ap (λ (n : List WSym). (p.0, n) ∷ values_now (line ++ theta ∷ []) b ps) (string-bind line theta keys b p.1 h)
    ∙ ap (λ (n : Pairs). (p.0, applied theta (string_now line b p.1)) ∷ n) (values-bind line theta keys b ps h)

abbrev Binds : Line → Pairs → TimedTree → Type 0
Binds line theta x = youngest x ≤ length line → mean x (line ++ theta ∷ []) ≡ bound theta (mean x line)

bind-kids : (line : Line) (theta : Pairs) (kids : List TimedTree) → EachTimed (Binds line theta) kids → greatest (map youngest kids) ≤ length line
    → means (line ++ theta ∷ []) kids ≡ map (bound theta) (means line kids)
bind-kids line theta [] e h = refl
bind-kids line theta (x ∷ xs) e h =
    ap (λ (n : Plain). n ∷ means (line ++ theta ∷ []) xs) (e.0 (omega arith))
    ∙ ap (λ (n : List Plain). bound theta (mean x line) ∷ n) (bind-kids line theta xs e.1 (omega arith))

pub mean-bind : (line : Line) (theta : Pairs) → HasWorkKeys theta → (x : TimedTree) → youngest x ≤ length line → mean x (line ++ theta ∷ []) ≡ bound theta (mean x line)
mean-bind line theta keys = by_timed (Binds line theta)
    (λ t h. mean-unknown t (line ++ theta ∷ []) ∙ ap unknown (string-bind line theta keys t.birth t.string (omega (arith, youngest-unknown t)))
    ∙ sym (bound-unknown theta (text_now line t)) ∙ ap (bound theta) (sym (mean-unknown t line)))
    (λ t l s kids e h. mean-known t l s kids (line ++ theta ∷ [])
    ∙ ap (λ (n : List WSym). known n l (sigma_now (line ++ theta ∷ []) s) (means (line ++ theta ∷ []) kids)) (string-bind line theta keys t.birth t.string (omega (arith, youngest-known t l s kids)))
    ∙ ap (λ (n : Pairs). known (applied theta (text_now line t)) l n (means (line ++ theta ∷ []) kids)) (values-bind line theta keys s.birth s.pairs (omega (arith, youngest-known t l s kids)))
    ∙ ap (known (applied theta (text_now line t)) l (with_values theta (sigma_now line s))) (bind-kids line theta kids e (omega (arith, youngest-known t l s kids)))
    ∙ sym (bound-known theta (text_now line t) l (sigma_now line s) (means line kids))
    ∙ ap (bound theta) (sym (mean-known t l s kids line)))

-- a string, or a substitution, that is as young as the version means itself
pub after-none : (b : ℕ) (line : Line) (s : List WSym) → length line ≤ b → after (drop b line) s ≡ s
after-none zero [] s h = refl
after-none zero (x ∷ line) s h = absurd (omega arith)
after-none (suc b) [] s h = refl
after-none (suc b) (x ∷ line) s h = after-none b line s (omega arith)

pub string-new : (line : Line) (b : ℕ) (s : List WSym) → length line ≤ b → string_now line b s ≡ s
string-new line b s h = by_kind (has_work s)
  where
    by_kind : (w : Bool) → (if w then after (drop b line) s else s) ≡ s
    by_kind true = after-none b line s h
    by_kind false = refl

pub values-new : (line : Line) (b : ℕ) (ps : Pairs) → length line ≤ b → values_now line b ps ≡ ps
values-new line b [] h = refl
values-new line b (p ∷ ps) h = ap (λ (n : List WSym). (p.0, n) ∷ values_now line b ps) (string-new line b p.1 h) ∙ ap (λ (n : Pairs). p ∷ n) (values-new line b ps h)

-- one binding more has been applied, or all have
pub after-next : (b : Line) (at : ℕ) (theta : Pairs) (now new : List WSym) → at < length b → theta ≡ get_or b at theta → new ≡ applied theta now → after (drop (at + 1) b) new ≡ after (drop at b) now
after-next b at theta now new h is e =
    ap (after (drop (at + 1) b)) e ∙ ap (λ (t : Pairs). after (drop (at + 1) b) (applied t now)) is ∙ sym (at_drop_more (λ (l : Line). after l now) b at theta h)

pub after-end : (b : Line) (at : ℕ) (now : List WSym) → length b ≤ at → after (drop at b) now ≡ now
after-end b at now h = at_drop_all (λ (l : Line). after l now) b at h

-- strings with work variables, and without
pub string-plain : (line : Line) (b : ℕ) (s : List WSym) → has_work s ≡ false → string_now line b s ≡ s
string-plain line b s e = ap (λ (w : Bool). if w then after (drop b line) s else s) e

pub string-live : (line : Line) (b : ℕ) (s : List WSym) → has_work s ≡ true → string_now line b s ≡ after (drop b line) s
string-live line b s e = ap (λ (w : Bool). if w then after (drop b line) s else s) e

pub values-plain : (line : Line) (b : ℕ) (ps : Pairs) → has_values_with_work ps ≡ false → values_now line b ps ≡ ps
values-plain line b [] e = refl
values-plain line b (p ∷ ps) e = let w = neither (has_work p.1) (has_values_with_work ps) e in
    ap (λ (n : List WSym). (p.0, n) ∷ values_now line b ps) (string-plain line b p.1 w.0) ∙ ap (λ (n : Pairs). p ∷ n) (values-plain line b ps w.1)

-- the next pair of a substitution under bindings
next_value : (line : Line) (b : ℕ) (p : WSym × List WSym) (ps : Pairs) (x : WSym) (w : Bool) → value_at (values_now line b ps) x ≡ option_map (string_now line b) (value_at ps x)
    → (if w then Some (string_now line b p.1) else value_at (values_now line b ps) x) ≡ option_map (string_now line b) (if w then Some p.1 else value_at ps x)
next_value line b p ps x true e = refl
next_value line b p ps x false e = e

pub value_at-values_now : (line : Line) (b : ℕ) (ps : Pairs) (x : WSym) → value_at (values_now line b ps) x ≡ option_map (string_now line b) (value_at ps x)
value_at-values_now line b [] x = refl
value_at-values_now line b (p ∷ ps) x = next_value line b p ps x (is_same p.0 x) (value_at-values_now line b ps x)

pub key-is-new : (line : Line) (b : ℕ) (sigma out : Pairs) (i : ℕ) (p : WSym × List WSym) → i < length sigma → p ≡ get_or sigma i p → HasDistinctKeys sigma
    → out ≡ values_now line b (take i sigma) → value_at out p.0 ≡ None
key-is-new line b sigma out i p h e distinct so_far =
    ap (λ ps. value_at ps p.0) so_far
    ∙ value_at-values_now line b (take i sigma) p.0
    ∙ ap (option_map (string_now line b)) (ap (λ (q : WSym × List WSym). value_at (take i sigma) q.0) e ∙ value_at-take sigma i p h distinct)

pub one-pair-more : (line : Line) (b : ℕ) (sigma out new : Pairs) (i : ℕ) (p : WSym × List WSym) (v : List WSym) → i < length sigma → p ≡ get_or sigma i p
    → out ≡ values_now line b (take i sigma) → v ≡ string_now line b p.1 → new ≡ out ++ (p.0, v) ∷ [] → new ≡ values_now line b (take (i + 1) sigma)
one-pair-more line b sigma out new i p v h e so_far value g =
    g
    ∙ ap (λ ps. ps ++ (p.0, v) ∷ []) so_far
    ∙ ap (λ w. values_now line b (take i sigma) ++ (p.0, w) ∷ []) value
    ∙ sym (map-append (λ (q : WSym × List WSym). (q.0, string_now line b q.1)) (take i sigma) (p ∷ []))
    ∙ ap (λ q. values_now line b (take i sigma ++ q ∷ [])) e
    ∙ sym (ap (values_now line b) (take_more sigma i p h))
