-- Where the next part may end that has a proof.
use Rattle.mm_subst.specs.Symbols.{is_same}
use Rattle.mm_chart.proofs.Symbols.{eq-same, ne-same, same_strings}
use Rattle.mm_subst.specs.declared.symbol.WSym.{WSym}
use Rattle.std.proofs.Common.{◌≡◌, ℕ, zero, suc, ◌+◌, ◌-◌, ◌≤◌, ◌<◌, List, [], ◌∷◌, ◌++◌, None, Some, Bool, false, cond, refl, sym, ◌∙◌, ap, arith, inl, inr, ◌⊎◌, subst, length, get_or, map}
use Rattle.std.specs.List.{list_all, flat_map}
use Rattle.std.proofs.lemmas.Bool.{and_right, false_from_ne_true, cases_lt}
use Rattle.mm_chart.specs.declared.grammar.Item.{Item}
use Rattle.mm_chart.specs.declared.grammar.Item.TheVariants.{Fixed, New}
use Rattle.mm_chart.specs.Options.{is_there, on, first}
use Rattle.mm_unify.specs.Matching.{behind}
use Rattle.mm_unify.specs.Parts.{part}
use Rattle.mm_chart.specs.Items.{Goal, Grammar, Assertion, Use, matches, whole, fits, uses_of}
use Rattle.mm_unify.specs.Matching.{onward}
use Rattle.mm_chart.specs.Charts.{Rows, entry_at, Agrees, IsNext, Nowhere, EndsOutside, AreIdle, AreAble, assertion_at, no_assertion, no_hypothesis, no_symbol, IsFilled}
use Rattle.mm_chart.specs.Items.{hypothesis, by_hypothesis, same_goal, same_string, chosen, serves}
use Rattle.mm_chart.proofs.Uses.{settles_none, one_none}
use Rattle.mm_chart.proofs.Settling.{filled_cell}
use Rattle.mm_chart.proofs.Firsts.{first-append, or_else-none}
use Rattle.mm_chart.proofs.Parts.{part-none, part-cons, length-part}
use Rattle.mm_chart.proofs.Walks.{branch, upto, upto-suc, branch-part, branch-none, narrow}

-- a lesser end
pub nowhere_less : (t : List WSym) (rows : Rows) (items : List Item) (at last end less : ℕ) → less ≤ end → Nowhere t rows items at last end → Nowhere t rows items at last less
nowhere_less t rows items at last end less h n ok v to a b c d p r e = n ok v to a b (omega arith) d p r e

pub nowhere_end : (t : List WSym) (rows : Rows) (items : List Item) (at last end : ℕ) → length items ≡ 0 → (last < at → end ≤ at) → Nowhere t rows items at last end
nowhere_end t rows (x ∷ items) at last end z h ok v to a b c d p r e = absurd (omega arith)
nowhere_end t rows [] at last end z h ok v to a b c d p r e = elim (cases_lt at to) [
  | inl l ↦ ap (λ (s : List WSym). first (list_all p) (whole ok v s)) (part-cons t at to no_symbol l d)
  | inr l ↦ let q : last < at = omega arith in let k = h q in absurd (omega arith)
]

pub nowhere_after : (t : List WSym) (rows : Rows) (items : List Item) (at last end : ℕ) → end ≤ suc last → Nowhere t rows items at last end
nowhere_after t rows items at last end h ok v to a b c d p r e = absurd (omega arith)

-- a constant that stands there, or doesn't
pub nowhere_on : (t : List WSym) (rows : Rows) (items : List Item) (x : WSym) (at last end : ℕ) → at < length t → get_or t at no_symbol ≡ x → Nowhere t rows items (at + 1) last end → Nowhere t rows (Fixed x ∷ items) at last end
nowhere_on t rows items x at last end l q n ok v to a b c d p r e = elim (cases_lt at to) [
  | inl m ↦
      ap (λ (s : List WSym). first (list_all p) (onward (matches ok items v) (behind (x ∷ []) s))) (part-cons t at to no_symbol m d)
      ∙ ap (λ (y : Bool). first (list_all p) (onward (matches ok items v) (cond y (Some (part t (at + 1) to)) None))) (eq-same x (get_or t at no_symbol) (sym q))
      ∙ n ok v to (omega arith) b c d p r (narrow p r t rows at (at + 1) to (omega arith) e)
  | inr m ↦ let z : to ≡ at = omega arith in ap (λ (k : ℕ). first (list_all p) (onward (matches ok items v) (behind (x ∷ []) (part t at k)))) z ∙ ap (λ (s : List WSym). first (list_all p) (onward (matches ok items v) (behind (x ∷ []) s))) (part-none t at)
]

pub nowhere_off : (t : List WSym) (rows : Rows) (items : List Item) (x : WSym) (at last end : ℕ) → (at < length t → get_or t at no_symbol ≡ x → ⊥) → Nowhere t rows (Fixed x ∷ items) at last end
nowhere_off t rows items x at last end f ok v to a b c d p r e = elim (cases_lt at to) [
  | inl m ↦
      ap (λ (s : List WSym). first (list_all p) (onward (matches ok items v) (behind (x ∷ []) s))) (part-cons t at to no_symbol m d)
      ∙ ap (λ (y : Bool). first (list_all p) (onward (matches ok items v) (cond y (Some (part t (at + 1) to)) None))) (ne-same x (get_or t at no_symbol) (λ q. f (omega arith) (sym q)))
  | inr m ↦ let z : to ≡ at = omega arith in ap (λ (k : ℕ). first (list_all p) (onward (matches ok items v) (behind (x ∷ []) (part t at k)))) z ∙ ap (λ (s : List WSym). first (list_all p) (onward (matches ok items v) (behind (x ∷ []) s))) (part-none t at)
]

-- the ends of the next variable's value up to a place
abbrev pub Tried : List WSym → Rows → List Item → WSym → ℕ → ℕ → ℕ → ℕ → Type 0
Tried t rows items code at last place end = (j : ℕ) → at < j → j ≤ place → (entry_at rows at code j ≡ None) ⊎ Nowhere t rows items j last end

pub tried_more : (t : List WSym) (rows : Rows) (items : List Item) (code : WSym) (at last place next rank to end reached less : ℕ) → IsNext (get_or rows at []) code place to next rank → less ≤ end → less ≤ reached →
    Nowhere t rows items next last reached → Tried t rows items code at last place end → Tried t rows items code at last next less
tried_more t rows items code at last place next rank to end reached less n l m w d j a b = elim (cases_lt place j) [
  | inl h ↦ elim (cases_lt j next) [
    | inl k ↦ inl (n.skipped j h k)
    | inr k ↦ let q : next ≡ j = omega arith in inr (subst (λ (i : ℕ). Nowhere t rows items i last less) q (nowhere_less t rows items next last reached less m w))
  ]
  | inr h ↦ elim (d j a h) [
    | inl e ↦ inl e
    | inr e ↦ inr (nowhere_less t rows items j last end less l e)
  ]
]

tried_upto : (t : List WSym) (rows : Rows) (items : List Item) (code : WSym) (at last end : ℕ) (ok : List Goal → Bool) (v : List Goal) (to k : ℕ) → last < to → to < end → to ≤ length t → at + k ≤ to → (p : Goal → Bool) (r : ℕ) → Agrees p r t rows at to →
    Tried t rows items code at last to end → first (list_all p) (upto ok items v code (part t at to) k) ≡ None
tried_upto t rows items code at last end ok v to zero b c d l p r e h = refl
tried_upto t rows items code at last end ok v to (suc k) b c d l p r e h =
    let here : first (list_all p) (branch ok items v code (part t at to) (suc k)) ≡ None = elim (h (at + suc k) (omega arith) l) [
      | inl n ↦ branch-none ok p r t rows items v code at (suc k) to (omega arith) l e n
      | inr n ↦ ap (first (list_all p)) (branch-part ok items v code t at (suc k) to l) ∙ n ok (v ++ (code, part t at (at + suc k)) ∷ []) to l b c d p r (narrow p r t rows at (at + suc k) to (omega arith) e)
    ] in
    ap (first (list_all p)) (upto-suc ok items v code (part t at to) k) ∙ first-append (list_all p) (upto ok items v code (part t at to) k) (branch ok items v code (part t at to) (suc k))
    ∙ or_else-none (first (list_all p) (upto ok items v code (part t at to) k)) (first (list_all p) (branch ok items v code (part t at to) (suc k))) (tried_upto t rows items code at last end ok v to k b c d (omega arith) p r e h) ∙ here

pub tried_all : (t : List WSym) (rows : Rows) (items : List Item) (code : WSym) (at last place end : ℕ) → ((j : ℕ) → place < j → j ≤ length t → entry_at rows at code j ≡ None) → Tried t rows items code at last place end → Nowhere t rows (New code ∷ items) at last end
tried_all t rows items code at last place end n h ok v to a b c d p r e =
    ap (λ (k : ℕ). first (list_all p) (upto ok items v code (part t at to) k)) (length-part t at to a d)
    ∙ tried_upto t rows items code at last end ok v to (to - at) b c d (omega arith) p r e
    (λ j l m. elim (cases_lt place j) [ inl q ↦ inl (n j q (omega arith)) | inr q ↦ h j l q ])

first_none_at : {X : Type 0} (q : X → Bool) (xs : List X) (d : X) → ((k : ℕ) → k < length xs → q (get_or xs k d) ≡ false) → first q xs ≡ None
first_none_at q [] d h = refl
first_none_at q (x ∷ xs) d h = ap (λ (b : Bool). cond b (Some x) (first q xs)) (h 0 (omega arith)) ∙ first_none_at q xs d (λ k l. h (suc k) (omega arith))

other_length : (s u : List WSym) → (length s ≡ length u → ⊥) → same_string s u ≡ false
other_length s u h = false_from_ne_true (same_string s u) (λ e. h (ap length (same_strings s u e)))

no_hypothesis_here : (G : Grammar) (t : List WSym) (at last end to : ℕ) (code : WSym) → at ≤ last → last < to → to < end → to ≤ length t → ((k : ℕ) → k < length G.hypotheses → EndsOutside at last end (length (get_or G.hypotheses k no_hypothesis).goal.1)) → hypothesis G (code, part t at to) ≡ None
no_hypothesis_here G t at last end to code o b c d h =
    ap (on by_hypothesis) (first_none_at (λ x. same_goal (code, part t at to) x.goal) G.hypotheses no_hypothesis (λ k m.
    let w = length-part t at to (omega arith) d in
    and_right (is_same code (get_or G.hypotheses k no_hypothesis).goal.0) (same_string (part t at to) (get_or G.hypotheses k no_hypothesis).goal.1)
    (other_length (part t at to) (get_or G.hypotheses k no_hypothesis).goal.1 (λ q. elim (h k m) [ inl z ↦ omega arith | inr z ↦ omega arith ]))))

first_able : (G : Grammar) (q : Use → Bool) (g : Goal) (able : List ℕ) → ((k : ℕ) → k < length able → first q (uses_of G g (assertion_at G (get_or able k 0))) ≡ None) → first q (flat_map (uses_of G g) (map (assertion_at G) able)) ≡ None
first_able G q g [] h = refl
first_able G q g (n ∷ able) h =
    first-append q (uses_of G g (assertion_at G n)) (flat_map (uses_of G g) (map (assertion_at G) able))
    ∙ or_else-none (first q (uses_of G g (assertion_at G n))) (first q (flat_map (uses_of G g) (map (assertion_at G) able))) (h 0 (omega arith))
    ∙ first_able G q g able (λ k l. h (suc k) (omega arith))

pub idle_cells : (G : Grammar) (t : List WSym) (rows : Rows) (able : List ℕ) (at last one other end : ℕ) → at < length t → at ≤ last → AreAble G (get_or t at no_symbol) able → end ≤ one → end ≤ other →
    ((k : ℕ) → k < length G.hypotheses → EndsOutside at last one (length (get_or G.hypotheses k no_hypothesis).goal.1)) →
    ((k : ℕ) → k < length able → Nowhere t rows (get_or G.assertions (get_or able k 0) no_assertion).items at last other) → AreIdle G t rows at last end
idle_cells G t rows able at last one other end i o a l m h n to b c d =
    settles_none G t rows at to (omega arith) d (λ code e. no_hypothesis_here G t at last one to code o b (omega arith) d h)
    (λ r code e z. ap (λ (xs : List Assertion). first (serves (chosen G r)) (flat_map (uses_of G (code, part t at to)) xs)) (sym a.are)
    ∙ first_able G (serves (chosen G r)) (code, part t at to) able (λ k q. one_none G r code (part t at to) (assertion_at G (get_or able k 0))
    (n k q (fits G (get_or G.assertions (get_or able k 0) no_assertion).apart) [] to (omega arith) b (omega arith) d (λ g. is_there (chosen G r g)) r z)))

pub filled_skip : (G : Grammar) (t : List WSym) (rows : Rows) (at last to : ℕ) → last < to → to ≤ suc (length t) → AreIdle G t rows at last to → IsFilled G t rows at (suc last) → IsFilled G t rows at to
filled_skip G t rows at last zero h w i f = absurd (omega arith)
filled_skip G t rows at last (suc to) h w i f = elim (cases_lt last to) [
  | inl l ↦ filled_cell G t rows at to (omega arith) (filled_skip G t rows at last to l (omega arith) (λ k b c d. i k b (omega arith) d) f) (i to l (omega arith) (omega arith))
  | inr l ↦ let q : suc last ≡ suc to = omega arith in subst (λ (n : ℕ). IsFilled G t rows at n) q f
]
