-- The walk over a conclusion.
use Rattle.mm_subst.specs.declared.symbol.WSym.{WSym}
use Rattle.std.proofs.Common.{◌≡◌, ℕ, zero, suc, ◌+◌, ◌-◌, ◌≤◌, ◌<◌, List, [], ◌∷◌, ◌++◌, Option, None, Some, Bool, true, false, cond, ◌&&◌, refl, sym, ◌∙◌, ap, arith, leb, ltb, inl, inr, subst, length, get_or, drop, take}
use Rattle.std.specs.List.{list_all, flat_map}
use Rattle.std.proofs.lemmas.Bool.{cases_Bool, cases_lt, lt-ltb, le-ltb, le-leb, lt-leb, and_left, and_right}
use Rattle.std.proofs.lemmas.List.{append-nil, map-append, take_at, length-append}
use Rattle.std.proofs.lemmas.List.Concat.{flat_map-append}
use Rattle.std.proofs.lemmas.List.Folds.{list_all-append}
use Rattle.std.specs.Option.{IfSome}
use Rattle.mm_chart.specs.declared.grammar.Item.{Item}
use Rattle.mm_chart.specs.declared.grammar.Item.TheVariants.{Fixed, Again, New}
use Rattle.mm_chart.specs.declared.table.Part.{Part}
use Rattle.mm_chart.specs.Options.{or_else, first}
use Rattle.mm_unify.specs.Matching.{behind, lengths}
use Rattle.mm_unify.specs.Parts.{part}
use Rattle.mm_chart.specs.Items.{Goal, no_goal, matches, whole}
use Rattle.mm_unify.specs.Matching.{onward}
use Rattle.mm_chart.specs.Charts.{Noted, Rows, entry_at, rank_of, at_most, Agrees, FindsAt, found_of, goal_of, goals_of, IsNext, IsNextOrNone, less, AreWithin, no_symbol}
use Rattle.mm_chart.proofs.Firsts.{first-append, FindsAt-append, FindsAt-skip}
use Rattle.mm_chart.proofs.Parts.{part-none, part-cons, take-part, drop-part, length-part}

and_true : (b : Bool) → (b && true) ≡ b
and_true true = refl
and_true false = refl

pub all-push : (p : Goal → Bool) (v : List Goal) (g : Goal) → list_all p (v ++ g ∷ []) ≡ (list_all p v && p g)
all-push p v g = list_all-append p v (g ∷ []) ∙ ap (λ (b : Bool). list_all p v && b) (and_true (p g))

first_onward : (q : List Goal → Bool) (f : List WSym → List (List Goal)) (o : Option (List WSym)) → ((s : List WSym) → first q (f s) ≡ None) → first q (onward f o) ≡ None
first_onward q f None h = refl
first_onward q f (Some s) h = h s

first_flat : {X : Type 0} (q : List Goal → Bool) (f : X → List (List Goal)) (xs : List X) → ((x : X) → first q (f x) ≡ None) → first q (flat_map f xs) ≡ None
first_flat q f [] h = refl
first_flat q f (x ∷ xs) h = first-append q (f x) (flat_map f xs) ∙ ap (λ (o : Option (List Goal)). or_else o (first q (flat_map f xs))) (h x) ∙ first_flat q f xs h

first_whole : (ok : List Goal → Bool) (p : Goal → Bool) (v : List Goal) (s : List WSym) → list_all p v ≡ false → first (list_all p) (whole ok v s) ≡ None
first_whole ok p v [] h = elim (cases_Bool (ok v)) [
  | inl e ↦ ap (λ (b : Bool). first (list_all p) (cond b (v ∷ []) [])) e ∙ ap (λ (b : Bool). cond b (Some v) None) h
  | inr e ↦ ap (λ (b : Bool). first (list_all p) (cond b (v ∷ []) [])) e
]
first_whole ok p v (c ∷ s) h = refl

-- where a part doesn't pass no match does
pub none_passes : (ok : List Goal → Bool) (p : Goal → Bool) (items : List Item) (v : List Goal) (s : List WSym) → list_all p v ≡ false → first (list_all p) (matches ok items v s) ≡ None
none_passes ok p [] v s h = first_whole ok p v s h
none_passes ok p (Fixed c ∷ items) v s h = first_onward (list_all p) (matches ok items v) (behind (c ∷ []) s) (λ r. none_passes ok p items v r h)
none_passes ok p (Again k ∷ items) v s h = first_onward (list_all p) (matches ok items v) (behind (get_or v k no_goal).1 s) (λ r. none_passes ok p items v r h)
none_passes ok p (New code ∷ items) v s h =
    first_flat (list_all p) (λ n. matches ok items (v ++ (code, take n s) ∷ []) (drop n s)) (lengths (length s))
    (λ n. none_passes ok p items (v ++ (code, take n s) ∷ []) (drop n s) (all-push p v (code, take n s) ∙ and_left (list_all p v) (p (code, take n s)) h))

-- the matches that give the next variable a value of each length
abbrev pub branch : (List Goal → Bool) → List Item → List Goal → WSym → List WSym → ℕ → List (List Goal)
branch ok items v code s n = matches ok items (v ++ (code, take n s) ∷ []) (drop n s)

abbrev pub upto : (List Goal → Bool) → List Item → List Goal → WSym → List WSym → ℕ → List (List Goal)
upto ok items v code s n = flat_map (branch ok items v code s) (lengths n)

pub upto-suc : (ok : List Goal → Bool) (items : List Item) (v : List Goal) (code : WSym) (s : List WSym) (n : ℕ) → upto ok items v code s (suc n) ≡ upto ok items v code s n ++ branch ok items v code s (suc n)
upto-suc ok items v code s n = flat_map-append (branch ok items v code s) (lengths n) (suc n ∷ []) ∙ ap (λ (xs : List (List Goal)). upto ok items v code s n ++ xs) (append-nil (branch ok items v code s (suc n)))

pub branch-part : (ok : List Goal → Bool) (items : List Item) (v : List Goal) (code : WSym) (t : List WSym) (at n to : ℕ) → at + n ≤ to → branch ok items v code (part t at to) n ≡ matches ok items (v ++ (code, part t at (at + n)) ∷ []) (part t (at + n) to)
branch-part ok items v code t at n to h =
    let e : at + n - at ≡ n = omega arith in
    let a : take n (part t at to) ≡ part t at (at + n) = ap (λ (k : ℕ). take k (part t at to)) (sym e) ∙ take-part t at (at + n) to (omega arith) h in
    let b : drop n (part t at to) ≡ part t (at + n) to = ap (λ (k : ℕ). drop k (part t at to)) (sym e) ∙ drop-part t at (at + n) to (omega arith) h in
    ap (λ (x : List WSym). matches ok items (v ++ (code, x) ∷ []) (drop n (part t at to))) a ∙ ap (λ (x : List WSym). matches ok items (v ++ (code, part t at (at + n)) ∷ []) x) b

pub narrow : (p : Goal → Bool) (r : ℕ) (t : List WSym) (rows : Rows) (at from to : ℕ) → at ≤ from → Agrees p r t rows at to → Agrees p r t rows from to
narrow p r t rows at from to h a = record { each = λ i j code l m k. a.each i j code (omega arith) m k }

-- a part with no entry
pub branch-none : (ok : List Goal → Bool) (p : Goal → Bool) (r : ℕ) (t : List WSym) (rows : Rows) (items : List Item) (v : List Goal) (code : WSym) (at n to : ℕ) → 0 < n → at + n ≤ to → Agrees p r t rows at to → entry_at rows at code (at + n) ≡ None →
    first (list_all p) (branch ok items v code (part t at to) n) ≡ None
branch-none ok p r t rows items v code at n to z h a e =
    ap (first (list_all p)) (branch-part ok items v code t at n to h)
    ∙ none_passes ok p items (v ++ (code, part t at (at + n)) ∷ []) (part t (at + n) to)
    (all-push p v (code, part t at (at + n)) ∙ and_right (list_all p v) (p (code, part t at (at + n))) (a.each at (at + n) code (omega arith) (omega arith) h ∙ ap (λ (o : Option Noted). at_most (rank_of o) r) e))

-- what is found for the values up to a length
abbrev pub Told : (List Goal → Bool) → (Goal → Bool) → ℕ → List WSym → List Item → List Goal → WSym → ℕ → ℕ → ℕ → Option (ℕ × List Goal) → Type 0
Told ok p r t items v code at to n found = FindsAt r (list_all p) (upto ok items v code (part t at to) n) found

pub told_skip : (ok : List Goal → Bool) (p : Goal → Bool) (r : ℕ) (t : List WSym) (rows : Rows) (items : List Item) (v : List Goal) (code : WSym) (at to n k : ℕ) (found : Option (ℕ × List Goal)) → n ≤ k → at + k ≤ to → Agrees p r t rows at to →
    ((j : ℕ) → at + n < j → j ≤ at + k → entry_at rows at code j ≡ None) → Told ok p r t items v code at to n found → Told ok p r t items v code at to k found
told_skip ok p r t rows items v code at to n zero found h w a e d = subst (λ (m : ℕ). Told ok p r t items v code at to m found) (let q : n ≡ 0 = omega arith in q) d
told_skip ok p r t rows items v code at to n (suc k) found h w a e d = elim (cases_lt k n) [
  | inl m ↦ subst (λ (m : ℕ). Told ok p r t items v code at to m found) (let q : n ≡ suc k = omega arith in q) d
  | inr m ↦ subst (λ (xs : List (List Goal)). FindsAt r (list_all p) xs found) (sym (upto-suc ok items v code (part t at to) k))
      (FindsAt-skip r (list_all p) (upto ok items v code (part t at to) k) (branch ok items v code (part t at to) (suc k)) found
      (told_skip ok p r t rows items v code at to n k found m (omega arith) a (λ j l q. e j l (omega arith)) d)
      (branch-none ok p r t rows items v code at (suc k) to (omega arith) w a (e (at + suc k) (omega arith) (omega arith))))
]

-- what a walk has found
abbrev pub Walked : (List Goal → Bool) → List WSym → Rows → List Item → List Goal → ℕ → ℕ → ℕ → Option (ℕ × List Part) → Type 0
Walked ok t rows items v at to so_far found = (p : Goal → Bool) (r : ℕ) → Agrees p r t rows at to → list_all p v ≡ leb so_far r → FindsAt r (list_all p) (matches ok items v (part t at to)) (found_of t found)

abbrev pub Extended : (List Goal → Bool) → List WSym → Rows → List Item → List Goal → WSym → ℕ → ℕ → ℕ → ℕ → Option (ℕ × List Part) → Type 0
Extended ok t rows items v code at to so_far last found = (p : Goal → Bool) (r : ℕ) → Agrees p r t rows at to → list_all p v ≡ leb so_far r → Told ok p r t items v code at to (last - at) (found_of t found)

found-less : (t : List WSym) (a b : Option (ℕ × List Part)) → found_of t (less a b) ≡ less (found_of t a) (found_of t b)
found-less t None b = refl
found-less t (Some a) None = refl
found-less t (Some a) (Some b) = elim (ltb b.0 a.0) as (λ c. found_of t (cond c (Some b) (Some a)) ≡ cond c (found_of t (Some b)) (found_of t (Some a))) [ true ↦ refl | false ↦ refl ]

pub extended_none : (ok : List Goal → Bool) (t : List WSym) (rows : Rows) (items : List Item) (v : List Goal) (code : WSym) (at to so_far : ℕ) → Extended ok t rows items v code at to so_far at None
extended_none ok t rows items v code at to so_far p r a e = subst (λ (n : ℕ). Told ok p r t items v code at to n None) (let q : 0 ≡ at - at = omega arith in q) refl

pub extended_more : (ok : List Goal → Bool) (t : List WSym) (rows : Rows) (items : List Item) (ps : List Part) (code : WSym) (at to so_far last next rank top : ℕ) (found more : Option (ℕ × List Part)) → at ≤ last → to ≤ length t →
    IsNext (get_or rows at []) code last to next rank → ((r : ℕ) → leb top r ≡ (leb so_far r && leb rank r)) →
    Extended ok t rows items (goals_of t ps) code at to so_far last found →
    Walked ok t rows items (goals_of t (ps ++ record { code = code; from = at; to = next } ∷ [])) next to top more →
    Extended ok t rows items (goals_of t ps) code at to so_far next (less found more)
extended_more ok t rows items ps code at to so_far last next rank top found more h w n g d m p r a e =
    let later = n.later in
    let within = n.within in
    let v = goals_of t ps in
    let x : Part = record { code = code; from = at; to = next } in
    let k : ℕ = next - at - 1 in
    let q : next ≡ at + suc k = omega arith in
    let c : goals_of t (ps ++ x ∷ []) ≡ v ++ (code, part t at next) ∷ [] = map-append (goal_of t) ps (x ∷ []) in
    let passes : list_all p (goals_of t (ps ++ x ∷ [])) ≡ leb top r =
    ap (list_all p) c ∙ all-push p v (code, part t at next) ∙ ap (λ (b : Bool). b && p (code, part t at next)) e
    ∙ ap (λ (b : Bool). leb so_far r && b) (a.each at next code (omega arith) (omega arith) within ∙ ap (λ (o : Option ℕ). at_most o r) n.there) ∙ sym (g r) in
    let rest : FindsAt r (list_all p) (branch ok items v code (part t at to) (suc k)) (found_of t more) =
    subst (λ (xs : List (List Goal)). FindsAt r (list_all p) xs (found_of t more))
    (
    ap (λ (u : List Goal). matches ok items u (part t next to)) c ∙ ap (λ (j : ℕ). matches ok items (v ++ (code, part t at j) ∷ []) (part t j to)) q ∙ sym (branch-part ok items v code t at (suc k) to (omega arith))
    )
    (m p r (narrow p r t rows at next to (omega arith) a) passes) in
    let before : Told ok p r t items v code at to k (found_of t found) =
    told_skip ok p r t rows items v code at to (last - at) k (found_of t found) (omega arith) (omega arith) a (λ j l z. n.skipped j (omega arith) (omega arith)) (d p r a e) in
    subst (λ (j : ℕ). Told ok p r t items v code at to j (found_of t (less found more))) (let z : suc k ≡ next - at = omega arith in z)
    (subst (λ (o : Option (ℕ × List Goal)). Told ok p r t items v code at to (suc k) o) (sym (found-less t found more))
    (subst (λ (xs : List (List Goal)). FindsAt r (list_all p) xs (less (found_of t found) (found_of t more))) (sym (upto-suc ok items v code (part t at to) k))
    (FindsAt-append r (list_all p) (upto ok items v code (part t at to) k) (branch ok items v code (part t at to) (suc k)) (found_of t found) (found_of t more) before rest)))

pub extended_all : (ok : List Goal → Bool) (t : List WSym) (rows : Rows) (items : List Item) (v : List Goal) (code : WSym) (at to so_far last : ℕ) (found : Option (ℕ × List Part)) → at ≤ last → last ≤ to → to ≤ length t →
    IsNextOrNone (get_or rows at []) code last to None → Extended ok t rows items v code at to so_far last found → Walked ok t rows (New code ∷ items) v at to so_far found
extended_all ok t rows items v code at to so_far last found h l w n d p r a e =
    subst (λ (k : ℕ). Told ok p r t items v code at to k (found_of t found)) (sym (length-part t at to (omega arith) w))
    (told_skip ok p r t rows items v code at to (last - at) (to - at) (found_of t found) (omega arith) (omega arith) a (λ j m z. n j (omega arith) (omega arith)) (d p r a e))

-- a piece that stands there, or doesn't
pub walked_on : (ok : List Goal → Bool) (t : List WSym) (rows : Rows) (items : List Item) (x : Item) (piece : List WSym) (v : List Goal) (at end to so_far : ℕ) (found : Option (ℕ × List Part)) → at ≤ end →
    ((s : List WSym) → matches ok (x ∷ items) v s ≡ onward (matches ok items v) (behind piece s)) → behind piece (part t at to) ≡ Some (part t end to) → Walked ok t rows items v end to so_far found → Walked ok t rows (x ∷ items) v at to so_far found
walked_on ok t rows items x piece v at end to so_far found h m e d p r a q =
    subst (λ (xs : List (List Goal)). FindsAt r (list_all p) xs (found_of t found)) (sym (m (part t at to) ∙ ap (onward (matches ok items v)) e)) (d p r (narrow p r t rows at end to h a) q)

pub walked_off : (ok : List Goal → Bool) (t : List WSym) (rows : Rows) (items : List Item) (x : Item) (piece : List WSym) (v : List Goal) (at to so_far : ℕ) →
    ((s : List WSym) → matches ok (x ∷ items) v s ≡ onward (matches ok items v) (behind piece s)) → behind piece (part t at to) ≡ None → Walked ok t rows (x ∷ items) v at to so_far None
walked_off ok t rows items x piece v at to so_far m e p r a q = ap (first (list_all p)) (m (part t at to) ∙ ap (onward (matches ok items v)) e)

ended : (ok : List Goal → Bool) (t : List WSym) (v : List Goal) (at to : ℕ) (b : Bool) → to ≡ at → ok v ≡ b → whole ok v (part t at to) ≡ cond b (v ∷ []) []
ended ok t v at to b e q = ap (λ (n : ℕ). whole ok v (part t at n)) e ∙ ap (whole ok v) (part-none t at) ∙ ap (λ (c : Bool). cond c (v ∷ []) []) q

pub walked_end : (ok : List Goal → Bool) (t : List WSym) (rows : Rows) (items : List Item) (ps : List Part) (at to so_far : ℕ) → length items ≡ 0 → to ≡ at → ok (goals_of t ps) ≡ true → Walked ok t rows items (goals_of t ps) at to so_far (Some (so_far, ps))
walked_end ok t rows (x ∷ items) ps at to so_far z q f p r a e = absurd (omega arith)
walked_end ok t rows [] ps at to so_far z q f p r a e =
    let v = goals_of t ps in
    let w : matches ok [] v (part t at to) ≡ v ∷ [] = ended ok t v at to true q f in (
      λ l. ap (first (list_all p)) w ∙ ap (λ (b : Bool). cond b (Some v) None) (e ∙ lt-leb so_far r l),
      λ l. ap (first (list_all p)) w ∙ ap (λ (b : Bool). cond b (Some v) None) (e ∙ le-leb so_far r (omega arith)),
    )

pub walked_unfit : (ok : List Goal → Bool) (t : List WSym) (rows : Rows) (items : List Item) (v : List Goal) (at to so_far : ℕ) → length items ≡ 0 → to ≡ at → ok v ≡ false → Walked ok t rows items v at to so_far None
walked_unfit ok t rows (x ∷ items) v at to so_far z q f p r a e = absurd (omega arith)
walked_unfit ok t rows [] v at to so_far z q f p r a e = ap (first (list_all p)) (ended ok t v at to false q f)

pub walked_short : (ok : List Goal → Bool) (t : List WSym) (rows : Rows) (items : List Item) (v : List Goal) (at to so_far : ℕ) → length items ≡ 0 → at < to → to ≤ length t → Walked ok t rows items v at to so_far None
walked_short ok t rows [] v at to so_far z h w p r a e = ap (λ (s : List WSym). first (list_all p) (whole ok v s)) (part-cons t at to no_symbol h w)
walked_short ok t rows (x ∷ items) v at to so_far z h w p r a e = absurd (omega arith)

pub placed_less : (t : List WSym) (a b : Option (ℕ × List Part)) → IfSome a (λ x. AreWithin t x.1) → IfSome b (λ x. AreWithin t x.1) → IfSome (less a b) (λ x. AreWithin t x.1)
placed_less t None b h k = k
placed_less t (Some a) None h k = h
placed_less t (Some a) (Some b) h k = elim (cases_lt b.0 a.0) [
  | inl l ↦ rw (lt-ltb b.0 a.0 l) k
  | inr l ↦ rw (le-ltb b.0 a.0 l) h
]

pub popped : (xs ys : List Part) (x : Part) (n : ℕ) → xs ≡ ys ++ x ∷ [] → n ≡ length xs → take (n - 1) xs ≡ ys
popped xs ys x n e q = let l = length-append ys (x ∷ []) in let m = ap length e in let k : length ys ≡ n - 1 = omega arith in ap (take (n - 1)) e ∙ take_at ys (x ∷ []) (n - 1) k
