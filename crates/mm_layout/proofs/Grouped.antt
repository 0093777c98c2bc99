-- Tokens fall into lines in one way.
use Rattle.std.proofs.Common.{◌≡◌, ℕ, ◌+◌, ◌<◌, ◌≤◌, inl, inr, Bool, true, false, List, [], ◌∷◌, ◌++◌, map, length, refl, sym, ◌∙◌, ap, subst, append_assoc, if◌then◌else◌, arith, length-append}
use Rattle.std.specs.List.{AllByRecursion, flat_map}
use Rattle.std.proofs.lemmas.Bool.Decides.{nat_tests}
use Rattle.std.proofs.lemmas.List.{append-nil}
use Rattle.std.proofs.lemmas.List.Concat.{flat_map-append}
use Rattle.std.proofs.lemmas.List.Elements.{All-from_recursion, recursion_from_All}
use Rattle.mm_layout.specs.Normal.{margin, fits, filled, lines_of}
use Rattle.mm_layout.specs.Lines.{Group, tokens_of, line_of, IsShort, IsFullBefore, AreFull, AreGroups}

abbrev group : List ℕ → List (List ℕ) → Group
group first later = record { first = first; later = later }

abbrev behind : List (List ℕ) → List ℕ
behind ts = flat_map (λ (t : List ℕ). 32 ∷ t) ts

abbrev line_by : List ℕ → List (List ℕ) → List ℕ
line_by first later = line_of (group first later)

-- the groups, as lines are filled
abbrev grouped : List ℕ → List (List ℕ) → List (List ℕ) → List Group
grouped f l [] = group f l ∷ []
grouped f l (t ∷ ts) = if fits (length (line_by f l)) t then grouped f (l ++ t ∷ []) ts else (group f l ∷ grouped t [] ts)

line-longer : (f : List ℕ) (l m : List (List ℕ)) → line_by f (l ++ m) ≡ line_by f l ++ behind m
line-longer f l m = ap (λ x. (margin ++ f) ++ x) (flat_map-append (λ (t : List ℕ). 32 ∷ t) l m) ∙ sym (append_assoc (margin ++ f) (behind l) (behind m))

line-more : (f : List ℕ) (l : List (List ℕ)) (t : List ℕ) → line_by f (l ++ t ∷ []) ≡ line_by f l ++ 32 ∷ t
line-more f l t = line-longer f l (t ∷ []) ∙ ap (λ x. line_by f l ++ 32 ∷ x) (append-nil t)

length-more : (f : List ℕ) (l : List (List ℕ)) (t : List ℕ) → length (line_by f (l ++ t ∷ [])) ≡ length (line_by f l) + 1 + length t
length-more f l t = ap length (line-more f l t) ∙ length-append (line_by f l) (32 ∷ t) ∙ omega arith

first-line : (t : List ℕ) → line_by t [] ≡ margin ++ t
first-line t = append-nil (margin ++ t)

fits-yes : (column : ℕ) (t : List ℕ) → fits column t ≡ true → column + 1 + length t ≤ 79
fits-yes column t h = grind (arith, nat_tests, h)

fits-no : (column : ℕ) (t : List ℕ) → fits column t ≡ false → 79 < column + 1 + length t
fits-no column t h = grind (arith, nat_tests, h)

yes-fits : (column : ℕ) (t : List ℕ) → column + 1 + length t ≤ 79 → fits column t ≡ true
yes-fits column t h = grind (arith, nat_tests, h)

no-fits : (column : ℕ) (t : List ℕ) → 79 < column + 1 + length t → fits column t ≡ false
no-fits column t h = grind (arith, nat_tests, h)

-- the lines are those of the groups

lines_by : (b : Bool) (f t : List ℕ) (l ts : List (List ℕ))
    → filled (line_by f (l ++ t ∷ [])) ts ≡ map line_of (grouped f (l ++ t ∷ []) ts) → filled (line_by t []) ts ≡ map line_of (grouped t [] ts)
    → (if b then filled (line_by f l ++ 32 ∷ t) ts else (line_by f l ∷ filled (margin ++ t) ts)) ≡ map line_of (if b then grouped f (l ++ t ∷ []) ts else (group f l ∷ grouped t [] ts))
lines_by true f t l ts same next = ap (λ line. filled line ts) (sym (line-more f l t)) ∙ same
lines_by false f t l ts same next = ap (λ x. line_by f l ∷ x) (ap (λ line. filled line ts) (sym (first-line t)) ∙ next)

lines-grouped : (ts : List (List ℕ)) (f : List ℕ) (l : List (List ℕ)) → filled (line_by f l) ts ≡ map line_of (grouped f l ts)
unfolding filled
lines-grouped [] f l = refl
lines-grouped (t ∷ ts) f l = lines_by (fits (length (line_by f l)) t) f t l ts (lines-grouped ts f (l ++ t ∷ [])) (lines-grouped ts t [])

-- the groups are the tokens

whole_by : (b : Bool) (f t : List ℕ) (l ts : List (List ℕ))
    → flat_map tokens_of (grouped f (l ++ t ∷ []) ts) ≡ f ∷ ((l ++ t ∷ []) ++ ts) → flat_map tokens_of (grouped t [] ts) ≡ t ∷ ts
    → flat_map tokens_of (if b then grouped f (l ++ t ∷ []) ts else (group f l ∷ grouped t [] ts)) ≡ f ∷ (l ++ t ∷ ts)
whole_by true f t l ts same next = same ∙ ap (λ x. f ∷ x) (append_assoc l (t ∷ []) ts)
whole_by false f t l ts same next = ap (λ x. f ∷ (l ++ x)) next

whole-grouped : (ts : List (List ℕ)) (f : List ℕ) (l : List (List ℕ)) → flat_map tokens_of (grouped f l ts) ≡ f ∷ (l ++ ts)
whole-grouped [] f l = refl
whole-grouped (t ∷ ts) f l = whole_by (fits (length (line_by f l)) t) f t l ts (whole-grouped ts f (l ++ t ∷ [])) (whole-grouped ts t [])

-- they are short and full

short_by : (b : Bool) (f t : List ℕ) (l ts : List (List ℕ)) → fits (length (line_by f l)) t ≡ b → IsShort (group f l)
    → (IsShort (group f (l ++ t ∷ [])) → AllByRecursion IsShort (grouped f (l ++ t ∷ []) ts)) → AllByRecursion IsShort (grouped t [] ts)
    → AllByRecursion IsShort (if b then grouped f (l ++ t ∷ []) ts else (group f l ∷ grouped t [] ts))
short_by true f t l ts is short same next = same (inl (omega (arith, length-more f l t, fits-yes (length (line_by f l)) t is)))
short_by false f t l ts is short same next = (short, next)

short-grouped : (ts : List (List ℕ)) (f : List ℕ) (l : List (List ℕ)) → IsShort (group f l) → AllByRecursion IsShort (grouped f l ts)
short-grouped [] f l short = (short, tt)
short-grouped (t ∷ ts) f l short = short_by (fits (length (line_by f l)) t) f t l ts refl short (short-grouped ts f (l ++ t ∷ [])) (short-grouped ts t [] (inr refl))

before_by : (b : Bool) (g : Group) (f t : List ℕ) (l ts : List (List ℕ)) → 79 < length (line_of g) + 1 + length f → IsFullBefore g (grouped f (l ++ t ∷ []) ts)
    → IsFullBefore g (if b then grouped f (l ++ t ∷ []) ts else (group f l ∷ grouped t [] ts))
before_by true g f t l ts full same = same
before_by false g f t l ts full same = full

full-before : (ts : List (List ℕ)) (g : Group) (f : List ℕ) (l : List (List ℕ)) → 79 < length (line_of g) + 1 + length f → IsFullBefore g (grouped f l ts)
full-before [] g f l full = full
full-before (t ∷ ts) g f l full = before_by (fits (length (line_by f l)) t) g f t l ts full (full-before ts g f (l ++ t ∷ []) full)

full_by : (b : Bool) (f t : List ℕ) (l ts : List (List ℕ)) → fits (length (line_by f l)) t ≡ b → AreFull (grouped f (l ++ t ∷ []) ts) → AreFull (grouped t [] ts)
    → AreFull (if b then grouped f (l ++ t ∷ []) ts else (group f l ∷ grouped t [] ts))
full_by true f t l ts is same next = same
full_by false f t l ts is same next = (full-before ts (group f l) t [] (fits-no (length (line_by f l)) t is), next)

full-grouped : (ts : List (List ℕ)) (f : List ℕ) (l : List (List ℕ)) → AreFull (grouped f l ts)
full-grouped [] f l = (tt, tt)
full-grouped (t ∷ ts) f l = full_by (fits (length (line_by f l)) t) f t l ts refl (full-grouped ts f (l ++ t ∷ [])) (full-grouped ts t [])

pub lines-are : (tokens : List (List ℕ)) → (groups : List Group) × (AreGroups tokens groups × (lines_of tokens ≡ map line_of groups))
unfolding lines_of
lines-are [] = ([], (record { whole = refl; short = λ k d h. absurd (omega arith); full = tt }, refl))
lines-are (t ∷ ts) = (
  grouped t [] ts,
  (
    record { whole = whole-grouped ts t []; short = All-from_recursion IsShort (grouped t [] ts) (short-grouped ts t [] (inr refl)); full = full-grouped ts t [] },
    ap (λ line. filled line ts) (sym (first-line t)) ∙ lines-grouped ts t [],
  ),
)

-- no other groups are so

none-empty : (p q : List (List ℕ)) (t : List ℕ) → (p ++ t ∷ q) ≡ [] → ⊥
none-empty p q t h = let e : length (p ++ t ∷ q) ≡ 0 = ap length h in omega (arith, length-append p (t ∷ q))

short-front : (f t : List ℕ) (p q : List (List ℕ)) → IsShort (group f (p ++ t ∷ q)) → length (line_by f p) + 1 + length t ≤ 79
short-front f t p q (inl h) = omega (
  arith,
  length-more f p t,
  ap length (line-longer f (p ++ t ∷ []) q),
  length-append (line_by f (p ++ t ∷ [])) (behind q),
  ap (λ l. length (line_by f l)) (append_assoc p (t ∷ []) q),
)
short-front f t p q (inr h) = absurd (none-empty p q t h)

same-line : (q : List (List ℕ)) (f : List ℕ) (p rest : List (List ℕ)) → IsShort (group f (p ++ q)) → grouped f p (q ++ rest) ≡ grouped f (p ++ q) rest
same-line [] f p rest short = ap (λ l. grouped f l rest) (sym (append-nil p))
same-line (t ∷ q) f p rest short =
    let fit : fits (length (line_by f p)) t ≡ true = yes-fits (length (line_by f p)) t (short-front f t p q short) in
    let again : IsShort (group f ((p ++ t ∷ []) ++ q)) = subst (λ l. IsShort (group f l)) (sym (append_assoc p (t ∷ []) q)) short in
    ap (λ b. if b then grouped f (p ++ t ∷ []) (q ++ rest) else (group f p ∷ grouped t [] (q ++ rest))) fit
    ∙ same-line q f (p ++ t ∷ []) rest again
    ∙ ap (λ l. grouped f l rest) (append_assoc p (t ∷ []) q)

only-grouped : (gs : List Group) (f : List ℕ) (l : List (List ℕ)) → IsFullBefore (group f l) gs → AllByRecursion IsShort gs → AreFull gs
    → grouped f l (flat_map tokens_of gs) ≡ group f l ∷ gs
only-grouped [] f l before short full = refl
only-grouped (g ∷ gs) f l before short full =
    let none : fits (length (line_by f l)) g.first ≡ false = no-fits (length (line_by f l)) g.first before in
    ap (λ b. if b then grouped f (l ++ g.first ∷ []) (g.later ++ flat_map tokens_of gs) else (group f l ∷ grouped g.first [] (g.later ++ flat_map tokens_of gs))) none
    ∙ ap (λ x. group f l ∷ x) (same-line g.later g.first [] (flat_map tokens_of gs) short.0 ∙ only-grouped gs g.first g.later full.0 short.1 full.1)

only-by : (groups : List Group) → AllByRecursion IsShort groups → AreFull groups → lines_of (flat_map tokens_of groups) ≡ map line_of groups
unfolding lines_of
only-by [] short full = refl
only-by (g ∷ gs) short full =
    ap (λ line. filled line (g.later ++ flat_map tokens_of gs)) (sym (first-line g.first))
    ∙ lines-grouped (g.later ++ flat_map tokens_of gs) g.first []
    ∙ ap (map line_of) (same-line g.later g.first [] (flat_map tokens_of gs) short.0 ∙ only-grouped gs g.first g.later full.0 short.1 full.1)

pub lines-only : (tokens : List (List ℕ)) (groups : List Group) → AreGroups tokens groups → lines_of tokens ≡ map line_of groups
lines-only tokens groups are = ap lines_of (sym are.whole) ∙ only-by groups (recursion_from_All IsShort groups are.short) are.full
