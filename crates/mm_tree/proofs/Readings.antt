-- A string is read symbol by symbol.
use Rattle.std.proofs.Common.{zero, suc, ◌≡◌, ℕ, ◌+◌, ◌≤◌, ◌<◌, true, false, List, [], ◌∷◌, ◌++◌, map, drop, length, get_or, is_none, Contains, Bor, Option, None, Some, refl, sym, ◌∙◌, ap, subst, arith, length-append}
use Rattle.std.proofs.lemmas.Bool.{true≢false}
use Rattle.std.proofs.lemmas.Option.{none-some}
use Rattle.std.proofs.lemmas.List.{append-nil, append_assoc, map-append}
use Rattle.std.proofs.lemmas.Grind.{common_steps}
use Rattle.mm_subst.specs.declared.symbol.WSym.{WSym}
use Rattle.mm_subst.specs.declared.symbol.WSym.TheVariants.{Const, Var, Work}
use Rattle.mm_subst.specs.Substitutions.{applied, or_itself}
use Rattle.mm_subst.proofs.Replaced.{applied-nil, applied-one, applied-append}
use Rattle.mm_tree.specs.Lines.{Line, after}
use Rattle.mm_tree.specs.Keyed.{places_at, IsPlaced, value_in, IsKeyed}
use Rattle.mm_tree.specs.Reading.{IsFirst, IsBound, Parts, meant, weight, weights}
use Rattle.mm_tree.specs.declared.keyed.Keyed.{Keyed}

-- the first binding that has a key

beyond : (line : Line) (i : ℕ) (x : WSym) → length line ≤ i → value_in line i x ≡ None
beyond [] i x h = refl
beyond (theta ∷ line) zero x h = absurd (omega arith)
beyond (theta ∷ line) (suc i) x h = beyond line i x (omega arith)

-- no place before has the key
abbrev pub IsLeast : Line → ℕ → List ℕ → ℕ → ℕ → ℕ → Type 0
IsLeast line n places seen from first = (k : ℕ) → k < seen → from ≤ get_or places k 0 → is_none (value_in line (get_or places k 0) (Work n)) ≡ false → first ≤ get_or places k 0

is-none : (o : Option (List WSym)) → (is_none o ≡ false → ⊥) → o ≡ None
is-none None h = refl
is-none (Some v) h = absurd (h refl)

none-is : (o : Option (List WSym)) → o ≡ None → is_none o ≡ true
none-is o h = ap is_none h

pub first-is : (keyed : Keyed) (line : Line) (n from first : ℕ) (places : List ℕ) → IsKeyed keyed line → places ≡ places_at keyed n → from ≤ first → (value_in line first (Work n) ≡ None → length line ≤ first)
    → IsLeast line n places (length places) from first → IsFirst line (Work n) from first
first-is keyed line n from first places k e reached found least = record {
  reached = reached;
  before = λ i h g. is-none (value_in line i (Work n)) (λ f. not-before i h g f (within i f));
  found = found;
}
  where
    within : (i : ℕ) → is_none (value_in line i (Work n)) ≡ false → (length line ≤ i → ⊥)
    within i f h = true≢false (sym (none-is (value_in line i (Work n)) (beyond line i (Work n) h)) ∙ f)

    not-before : (i : ℕ) → from ≤ i → i < first → is_none (value_in line i (Work n)) ≡ false → (length line ≤ i → ⊥) → ⊥
    not-before i h g f w =
        let at : Contains places i = subst (λ (ps : List ℕ). Contains ps i) (sym e) (k i (Work n) (omega (arith, w)) f) in
        let same : get_or places at.0 0 ≡ i = grind (arith, common_steps, at.1, at.2) in
        let one : first ≤ get_or places at.0 0 = least at.0 at.1 (omega (arith, h, same)) (ap (λ (j : ℕ). is_none (value_in line j (Work n))) same ∙ f) in
        omega (arith, g, one, same)

-- what stands for a symbol

unbound : (line : Line) (from : ℕ) (x : WSym) → ((i : ℕ) → from ≤ i → value_in line i x ≡ None) → after (drop from line) (x ∷ []) ≡ x ∷ []
unbound [] zero x h = refl
unbound [] (suc from) x h = refl
unbound (theta ∷ line) zero x h = ap (after line) (applied-one theta x ∙ ap (or_itself x) (h 0 (omega arith))) ∙ unbound line zero x (λ i g. h (suc i) (omega arith))
unbound (theta ∷ line) (suc from) x h = unbound line from x (λ i g. h (suc i) (omega arith))

pub stands : (line : Line) (x : WSym) (from j : ℕ) → IsFirst line x from j → value_in line j x ≡ None → after (drop from line) (x ∷ []) ≡ x ∷ []
stands line x from j f none = unbound line from x (λ i h. is-none (value_in line i x) (λ e. not-there i h e (f.found none)))
  where
    not-there : (i : ℕ) → from ≤ i → is_none (value_in line i x) ≡ false → length line ≤ j → ⊥
    not-there i h e long =
        let behind : (length line ≤ i → ⊥) = λ g. true≢false (sym (none-is (value_in line i x) (beyond line i x g)) ∙ e) in
        true≢false (sym (none-is (value_in line i x) (f.before i h (omega (arith, behind, long)))) ∙ e)

abbrev Unbound : Line → WSym → ℕ → ℕ → Type 0
Unbound line x from j = (i : ℕ) → from ≤ i → i < j → value_in line i x ≡ None

pub bound-by : (line : Line) (x : WSym) (from j : ℕ) (v : List WSym) → from ≤ j → Unbound line x from j → value_in line j x ≡ Some v → IsBound line x from v (suc j)
bound-by [] x from j v h u e = absurd (none-some v e)
bound-by (theta ∷ line) x zero zero v h u e =
    let is : applied theta (x ∷ []) ≡ v = applied-one theta x ∙ ap (or_itself x) e in
    record { same = ap (after line) is; less = let w = ap (weight line) is in omega arith }
bound-by (theta ∷ line) x zero (suc j) v h u e =
    let is : applied theta (x ∷ []) ≡ x ∷ [] = applied-one theta x ∙ ap (or_itself x) (u 0 (omega arith) (omega arith)) in
    let b = bound-by line x zero j v (omega arith) (λ i f g. u (suc i) (omega arith) (omega arith)) e in
    record { same = ap (after line) is ∙ b.same; less = let w = ap (weight line) is in let l = b.less in omega arith }
bound-by (theta ∷ line) x (suc from) zero v h u e = absurd (omega arith)
bound-by (theta ∷ line) x (suc from) (suc j) v h u e = let b = bound-by line x from j v (omega arith) (λ i f g. u (suc i) (omega arith) (omega arith)) e in record { same = b.same; less = b.less }

pub bound-first : (line : Line) (x : WSym) (from j : ℕ) (v : List WSym) → IsFirst line x from j → value_in line j x ≡ Some v → IsBound line x from v (j + 1)
bound-first line x from j v f e = let next : suc j ≡ j + 1 = omega arith in subst (IsBound line x from v) next (bound-by line x from j v f.reached f.before e)

pub stands-beyond : (line : Line) (x : WSym) (from j : ℕ) → IsFirst line x from j → length line ≤ j → after (drop from line) (x ∷ []) ≡ x ∷ []
stands-beyond line x from j f h = stands line x from j f (beyond line j x h)

-- a symbol that is no work variable
not-placed : (keyed : Keyed) (x : WSym) → ((n : ℕ) → x ≡ Work n → ⊥) → (i : ℕ) → IsPlaced keyed i x → ⊥
not-placed keyed (Const n) h i p = p
not-placed keyed (Var n) h i p = p
not-placed keyed (Work n) h i p = h n refl

pub stands-other : (keyed : Keyed) (line : Line) (x : WSym) (from : ℕ) → IsKeyed keyed line → ((n : ℕ) → x ≡ Work n → ⊥) → after (drop from line) (x ∷ []) ≡ x ∷ []
stands-other keyed line x from k no-work = let other = not-placed keyed x no-work in unbound line from x (λ i h. is-none (value_in line i x) (λ e. other i (k i x (within i e) e)))
  where
    within : (i : ℕ) → is_none (value_in line i x) ≡ false → i < length line
    within i e = let behind : (length line ≤ i → ⊥) = λ g. true≢false (sym (none-is (value_in line i x) (beyond line i x g)) ∙ e) in omega (arith, behind)

-- parts

pub after-append : (line : Line) (s t : List WSym) → after line (s ++ t) ≡ after line s ++ after line t
after-append [] s t = refl
after-append (theta ∷ line) s t = ap (after line) (applied-append theta s t) ∙ after-append line (applied theta s) (applied theta t)

after-nil : (line : Line) → after line [] ≡ []
after-nil [] = refl
after-nil (theta ∷ line) = ap (after line) (applied-nil theta) ∙ after-nil line

weight-append : (line : Line) (s t : List WSym) → weight line (s ++ t) ≡ weight line s + weight line t
weight-append [] s t = omega (arith, length-append s t)
weight-append (theta ∷ line) s t = let w = ap (weight line) (applied-append theta s t) in omega (arith, length-append s t, weight-append line (applied theta s) (applied theta t))

weight-one : (line : Line) (x : WSym) → 2 ≤ weight line (x ∷ [])
weight-one [] x = omega arith
weight-one (theta ∷ line) x = omega arith

meant-push : (line : Line) (ps : Parts) (s : List WSym) (from : ℕ) → meant line (ps ++ (s, from) ∷ []) ≡ after (drop from line) s ++ meant line ps
meant-push line [] s from = sym (append-nil (after (drop from line) s))
meant-push line (p ∷ ps) s from =
    ap (λ (t : List WSym). t ++ after (drop p.1 line) p.0) (meant-push line ps s from)
    ∙ append_assoc (after (drop from line) s) (meant line ps) (after (drop p.1 line) p.0)

weights-push : (line : Line) (ps : Parts) (s : List WSym) (from : ℕ) → weights line (ps ++ (s, from) ∷ []) ≡ weights line ps + weight (drop from line) s + 1
weights-push line [] s from = omega arith
weights-push line (p ∷ ps) s from = omega (arith, weights-push line ps s from)

-- one part more is left
abbrev pub part : Bor (List WSym) × ℕ → List WSym × ℕ
part p = (p.0.now, p.1)

pub push-part : (items new : List (Bor (List WSym) × ℕ)) (p : Bor (List WSym) × ℕ) → new ≡ items ++ p ∷ [] → map part new ≡ map part items ++ part p ∷ []
push-part items new p h = ap (map part) h ∙ map-append part items (p ∷ [])

-- a part of no symbol
pub same-empty : (line : Line) (ps : Parts) (out s : List WSym) (from : ℕ) → length s ≡ 0 → out ++ meant line ps ≡ out ++ meant line (ps ++ (s, from) ∷ [])
same-empty line ps out s from none =
    let e : s ≡ [] = grind (arith, common_steps) in
    ap (λ (t : List WSym). out ++ t) (sym (meant-push line ps s from ∙ ap (λ (t : List WSym). t ++ meant line ps) (ap (after (drop from line)) e ∙ after-nil (drop from line))))

pub less-empty : (line : Line) (ps : Parts) (s : List WSym) (from : ℕ) → weights line ps < weights line (ps ++ (s, from) ∷ [])
less-empty line ps s from = omega (arith, weights-push line ps s from)

-- a symbol that stands for itself
pub same-plain : (line : Line) (ps : Parts) (out s rest : List WSym) (x : WSym) (from : ℕ) → s ≡ x ∷ rest → after (drop from line) (x ∷ []) ≡ x ∷ []
    → (out ++ x ∷ []) ++ meant line (ps ++ (rest, from) ∷ []) ≡ out ++ meant line (ps ++ (s, from) ∷ [])
same-plain line ps out s rest x from e h =
    let l : Line = drop from line in
    append_assoc out (x ∷ []) (meant line (ps ++ (rest, from) ∷ []))
    ∙ ap (λ (t : List WSym). out ++ t) (ap (λ (t : List WSym). x ∷ t) (meant-push line ps rest from)
    ∙ sym (meant-push line ps s from ∙ ap (λ (t : List WSym). after l t ++ meant line ps) e
    ∙ ap (λ (t : List WSym). t ++ meant line ps) (after-append l (x ∷ []) rest ∙ ap (λ (t : List WSym). t ++ after l rest) h)))

pub less-plain : (line : Line) (ps : Parts) (s rest : List WSym) (x : WSym) (from : ℕ) → s ≡ x ∷ rest → weights line (ps ++ (rest, from) ∷ []) < weights line (ps ++ (s, from) ∷ [])
less-plain line ps s rest x from e =
    let w : weight (drop from line) s ≡ weight (drop from line) (x ∷ []) + weight (drop from line) rest = ap (weight (drop from line)) e ∙ weight-append (drop from line) (x ∷ []) rest in
    omega (arith, w, weight-one (drop from line) x, weights-push line ps rest from, weights-push line ps s from)

-- a symbol that is bound
pub same-bound : (line : Line) (ps : Parts) (out s rest v : List WSym) (x : WSym) (from next : ℕ) → s ≡ x ∷ rest → IsBound line x from v next
    → out ++ meant line ((ps ++ (rest, from) ∷ []) ++ (v, next) ∷ []) ≡ out ++ meant line (ps ++ (s, from) ∷ [])
same-bound line ps out s rest v x from next e b =
    let l : Line = drop from line in
    ap (λ (t : List WSym). out ++ t) (meant-push line (ps ++ (rest, from) ∷ []) v next
    ∙ ap (λ (t : List WSym). after (drop next line) v ++ t) (meant-push line ps rest from)
    ∙ ap (λ (t : List WSym). t ++ (after l rest ++ meant line ps)) (sym b.same)
    ∙ sym (meant-push line ps s from ∙ ap (λ (t : List WSym). after l t ++ meant line ps) e
    ∙ ap (λ (t : List WSym). t ++ meant line ps) (after-append l (x ∷ []) rest)
    ∙ append_assoc (after l (x ∷ [])) (after l rest) (meant line ps)))

pub less-bound : (line : Line) (ps : Parts) (s rest v : List WSym) (x : WSym) (from next : ℕ) → s ≡ x ∷ rest → IsBound line x from v next
    → weights line ((ps ++ (rest, from) ∷ []) ++ (v, next) ∷ []) < weights line (ps ++ (s, from) ∷ [])
less-bound line ps s rest v x from next e b =
    let w : weight (drop from line) s ≡ weight (drop from line) (x ∷ []) + weight (drop from line) rest = ap (weight (drop from line)) e ∙ weight-append (drop from line) (x ∷ []) rest in
    let l = b.less in
    omega (arith, w, weights-push line (ps ++ (rest, from) ∷ []) v next, weights-push line ps rest from, weights-push line ps s from)
