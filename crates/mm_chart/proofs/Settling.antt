-- The filling of a cell: each new entry is right, and at the end the others have no proof.
use Rattle.mm_subst.specs.Symbols.{is_same}
use Rattle.mm_chart.proofs.Symbols.{same-true}
use Rattle.mm_subst.specs.declared.symbol.WSym.{WSym}
use Rattle.std.proofs.Common.{◌≡◌, ℕ, zero, suc, ◌-◌, ◌≤◌, ◌<◌, List, [], ◌∷◌, ◌++◌, Option, None, Some, Bool, true, false, cond, refl, sym, ◌∙◌, ap, arith, leb, eqb, inl, inr, subst, length, get_or, set, take, replicate}
use Rattle.std.proofs.lemmas.Bool.{cases_lt, cases_eq, ne_eqb, and_parts, and_right}
use Rattle.std.proofs.lemmas.List.{get_or-set_same, get_or-set_other, take_all}
use Rattle.mm_chart.specs.Options.{is_there, or_else, on, first}
use Rattle.mm_unify.specs.Parts.{part}
use Rattle.mm_chart.specs.Items.{Goal, Grammar, Use, uses}
use Rattle.mm_chart.specs.Items.{Chosen, by_use, hypothesis, serves, chosen, limited, IsAnswer}
use Rattle.mm_chart.specs.Charts.{Noted, Rows, meaning, entry_in, entry_at, rank_of, at_most, is_for, Agrees, IsFilled, HasNone, IsLeast, IsNew, Settles, AreAnswers, AreWithin, ArePlaced}
use Rattle.mm_chart.proofs.Firsts.{first-append}
use Rattle.mm_chart.proofs.Ranks.{chosen-zero, chosen-suc, IsAnswer-some}

there_cond : (b : Bool) (c : Chosen) → is_there (cond b (Some c) None) ≡ b
there_cond true c = refl
there_cond false c = refl

there_limited : (t : List WSym) (r : ℕ) (o : Option Noted) → is_there (limited r (on (meaning t) o)) ≡ at_most (rank_of o) r
there_limited t r None = refl
there_limited t r (Some e) = there_cond (leb e.rank r) (meaning t e)

-- the codes of a cell that have no entry yet
abbrev NoneYet : Grammar → List WSym → Rows → ℕ → ℕ → ℕ → Type 0
NoneYet G t rows at to r = (code : WSym) → entry_at rows at code to ≡ None → chosen G r (code, part t at to) ≡ None

cell_here : (G : Grammar) (t : List WSym) (rows : Rows) (at to r : ℕ) (code : WSym) (o : Option Noted) → entry_at rows at code to ≡ o → IsFilled G t rows at to → NoneYet G t rows at to r →
    is_there (chosen G r (code, part t at to)) ≡ at_most (rank_of o) r
cell_here G t rows at to r code None e f n = ap is_there (n code e)
cell_here G t rows at to r code (Some x) e f n = ap is_there (f.right code x e r) ∙ there_limited t r (Some x)

pub cell_agrees : (G : Grammar) (t : List WSym) (rows : Rows) (at to r : ℕ) → to ≤ length t → IsFilled G t rows at to → NoneYet G t rows at to r → Agrees (λ g. is_there (chosen G r g)) r t rows at to
cell_agrees G t rows at to r w f n = record {
  each = λ i j code h l m. elim (cases_lt at i) [
    | inl a ↦ ap is_there (f.done i j code (inl a) l (omega arith) r) ∙ there_limited t r (entry_at rows i code j)
    | inr a ↦ let e : i ≡ at = omega arith in elim (cases_lt j to) [
      | inl b ↦ ap is_there (f.done i j code (inr (e, b)) l (omega arith) r) ∙ there_limited t r (entry_at rows i code j)
      | inr b ↦ let k : j ≡ to = omega arith in rw (e, k) (cell_here G t rows at to r code (entry_at rows at code to) refl f n)
    ]
  ];
}

-- what is found nowhere below a rank isn't there below that rank
pub none_below : (G : Grammar) (t : List WSym) (rows : Rows) (at to R k : ℕ) → to ≤ length t → IsFilled G t rows at to →
    ((q : ℕ) (code : WSym) → q < R → entry_at rows at code to ≡ None → HasNone G t rows at to q code) → ((code : WSym) → entry_at rows at code to ≡ None → hypothesis G (code, part t at to) ≡ None) →
    k ≤ R → NoneYet G t rows at to k
none_below G t rows at to R zero w f n h l = λ code e. chosen-zero G (code, part t at to) ∙ h code e
none_below G t rows at to R (suc k) w f n h l =
    let before = none_below G t rows at to R k w f n h (omega arith) in
    let agrees = cell_agrees G t rows at to k w f before in
    λ code e.
    let none = (n k code (omega arith) e).no_use agrees in
    let b = before code e in
    chosen-suc G k (code, part t at to) ∙ ap (λ (o : Option Chosen). or_else o (on (by_use (suc k)) (first (serves (chosen G k)) (uses G (code, part t at to))))) b ∙ ap (λ (o : Option Use). on (by_use (suc k)) o) none

least_answer : (G : Grammar) (t : List WSym) (rows : Rows) (at to : ℕ) (e : Noted) (n : ℕ) → to ≤ length t → IsFilled G t rows at to → entry_at rows at e.code to ≡ None → IsLeast G t rows at to e n → e.rank ≡ n →
    IsAnswer G (e.code, part t at to) (Some (meaning t e))
least_answer G t rows at to e zero w f new h q =
    let g : Goal = (e.code, part t at to) in
    IsAnswer-some G g (meaning t e) (ap (λ (k : ℕ). chosen G k g) q ∙ chosen-zero G g ∙ h) (λ s l. absurd (omega arith))
least_answer G t rows at to e (suc r) w f new h q =
    let g : Goal = (e.code, part t at to) in
    let below = λ (k : ℕ) (l : k ≤ r). none_below G t rows at to r k w f h.3 h.4 l in
    let agrees = cell_agrees G t rows at to r w f (below r (omega arith)) in
    IsAnswer-some G g (meaning t e)
    (
    ap (λ (k : ℕ). chosen G k g) q ∙ chosen-suc G r g ∙ ap (λ (o : Option Chosen). or_else o (on (by_use (suc r)) (first (serves (chosen G r)) (uses G g)))) (below r (omega arith) e.code new)
    ∙ ap (λ (o : Option Use). on (by_use (suc r)) o) (h.2 agrees) ∙ ap (λ (c : Chosen). Some c) (sym h.1)
    )
    (λ s l. below s (omega arith) e.code new)

pub new_answer : (G : Grammar) (t : List WSym) (rows : Rows) (at to : ℕ) (e : Noted) → to ≤ length t → IsFilled G t rows at to → IsNew G t rows at to e → IsAnswer G (e.code, part t at to) (Some (meaning t e))
new_answer G t rows at to e w f n = least_answer G t rows at to e e.rank w f n.new n.least refl

-- an entry added at the end of a row
pub entry_added : (es : List Noted) (e : Noted) (code : WSym) (j : ℕ) → entry_in (es ++ e ∷ []) code j ≡ or_else (entry_in es code j) (cond (is_for code j e) (Some e) None)
entry_added es e code j = first-append (is_for code j) es (e ∷ [])

pub or_none : {A : Type 0} (a : Option A) → or_else a None ≡ a
or_none None = refl
or_none (Some a) = refl

pub not_for : (e : Noted) (code : WSym) (j : ℕ) → (e.to ≡ j → ⊥) → is_for code j e ≡ false
not_for e code j h = and_right (is_same e.code code) (eqb e.to j) (ne_eqb e.to j h)

pub row_same : (es : List Noted) (e : Noted) (code : WSym) (j : ℕ) → (e.to ≡ j → ⊥) → entry_in (es ++ e ∷ []) code j ≡ entry_in es code j
row_same es e code j h = entry_added es e code j ∙ ap (λ (b : Bool). or_else (entry_in es code j) (cond b (Some e) None)) (not_for e code j h) ∙ or_none (entry_in es code j)

-- the rows with the new entry
abbrev pub with : Rows → ℕ → Noted → Rows
with rows at e = set rows at (get_or rows at [] ++ e ∷ [])

row_at : (rows : Rows) (at : ℕ) (e : Noted) → at < length rows → get_or (with rows at e) at [] ≡ get_or rows at [] ++ e ∷ []
row_at rows at e h = get_or-set_same rows at (get_or rows at [] ++ e ∷ []) [] h

pub entry_other_row : (rows : Rows) (at i : ℕ) (code : WSym) (j : ℕ) (e : Noted) → (i ≡ at → ⊥) → entry_at (with rows at e) i code j ≡ entry_at rows i code j
entry_other_row rows at i code j e h = ap (λ (es : List Noted). entry_in es code j) (get_or-set_other rows at i (get_or rows at [] ++ e ∷ []) [] h)

pub entry_other_cell : (rows : Rows) (at : ℕ) (code : WSym) (j : ℕ) (e : Noted) → at < length rows → (e.to ≡ j → ⊥) → entry_at (with rows at e) at code j ≡ entry_at rows at code j
entry_other_cell rows at code j e l h = ap (λ (es : List Noted). entry_in es code j) (row_at rows at e l) ∙ row_same (get_or rows at []) e code j h

pub entry_cell : (rows : Rows) (at : ℕ) (code : WSym) (j : ℕ) (e : Noted) → at < length rows → entry_at (with rows at e) at code j ≡ or_else (entry_at rows at code j) (cond (is_for code j e) (Some e) None)
entry_cell rows at code j e l = ap (λ (es : List Noted). entry_in es code j) (row_at rows at e l) ∙ entry_added (get_or rows at []) e code j

right_more : (G : Grammar) (t : List WSym) (rows : Rows) (at to : ℕ) (e : Noted) → to ≤ length t → IsFilled G t rows at to → IsNew G t rows at to e →
    (code : WSym) (x : Noted) (o : Option Noted) → entry_at rows at code to ≡ o → (b : Bool) → is_for code to e ≡ b → or_else o (cond b (Some e) None) ≡ Some x → IsAnswer G (code, part t at to) (Some (meaning t x))
right_more G t rows at to e w f n code x (Some y) q b k h = f.right code x (q ∙ h)
right_more G t rows at to e w f n code x None q true k h =
    let m = and_parts (is_same e.code code) (eqb e.to to) k in
    let c = same-true e.code code m.0 in
    let s : e ≡ x = cc in
    subst (λ (y : Noted). IsAnswer G (code, part t at to) (Some (meaning t y))) s (subst (λ (d : WSym). IsAnswer G (d, part t at to) (Some (meaning t e))) c (new_answer G t rows at to e w f n))
right_more G t rows at to e w f n code x None q false k h = absurd (cc)

or_else_cases : (P : Noted → Type 0) (a : Option Noted) (b : Bool) (e x : Noted) → or_else a (cond b (Some e) None) ≡ Some x → (a ≡ Some x → P x) → P e → P x
or_else_cases P (Some y) b e x h k p = k h
or_else_cases P None true e x h k p = subst P (let s : e ≡ x = cc in s) p
or_else_cases P None false e x h k p = absurd (cc)

placed_more : (t : List WSym) (rows : Rows) (at : ℕ) (e : Noted) → at < length rows → AreWithin t e.parts → ArePlaced t rows → ArePlaced t (with rows at e)
placed_more t rows at e l p f i j code x h = elim (cases_eq i at) [
  | inl q ↦ or_else_cases (λ y. AreWithin t y.parts) (entry_at rows i code j) (is_for code j e) e x (sym (rw q (entry_cell rows at code j e l)) ∙ h) (f i j code x) p
  | inr q ↦ f i j code x (sym (entry_other_row rows at i code j e q) ∙ h)
]

pub filled_more : (G : Grammar) (t : List WSym) (rows : Rows) (at to : ℕ) (e : Noted) → at < length rows → to ≤ length t → IsFilled G t rows at to → IsNew G t rows at to e → IsFilled G t (with rows at e) at to
filled_more G t rows at to e l w f n = record {
  done = λ i j code d m h. elim d [
    | inl a ↦ subst (λ (o : Option Noted). IsAnswer G (code, part t i j) (on (meaning t) o)) (sym (entry_other_row rows at i code j e (λ q. omega arith))) (f.done i j code (inl a) m h)
    | inr a ↦ let q = a.0 in subst (λ (o : Option Noted). IsAnswer G (code, part t i j) (on (meaning t) o))
        (sym (rw q (entry_other_cell rows at code j e l (λ p. let z = n.ends in let y = a.1 in omega arith)))) (f.done i j code (inr a) m h)
  ];
  blank = λ i j code d. elim d [
    | inl a ↦ entry_other_row rows at i code j e (λ q. omega arith) ∙ f.blank i j code (inl a)
    | inr a ↦ let q = a.0 in rw q (entry_other_cell rows at code j e l (λ p. let z = n.ends in let y = a.1 in omega arith)) ∙ f.blank i j code (inr a)
  ];
  placed = λ i j code x h. placed_more t rows at e l n.placed f.placed i j code x h;
  right = λ code x h. right_more G t rows at to e w f n code x (entry_at rows at code to) refl (is_for code to e) refl (sym (entry_cell rows at code to e l) ∙ h);
}

cell_done : (G : Grammar) (t : List WSym) (rows : Rows) (at to : ℕ) (code : WSym) (o : Option Noted) → entry_at rows at code to ≡ o → to ≤ length t → IsFilled G t rows at to → Settles G t rows at to None → IsAnswer G (code, part t at to) (on (meaning t) o)
cell_done G t rows at to code (Some e) q w f s = f.right code e q
cell_done G t rows at to code None q w f s = λ r. none_below G t rows at to r r w f (λ k d l h. s k d h) (λ d h. (s 0 d h).no_hypothesis) (omega arith) code q

-- a cell with no further entry is done
pub filled_cell : (G : Grammar) (t : List WSym) (rows : Rows) (at to : ℕ) → to ≤ length t → IsFilled G t rows at to → Settles G t rows at to None → IsFilled G t rows at (suc to)
filled_cell G t rows at to w f s = record {
  done = λ i j code d m h. elim d [
    | inl a ↦ f.done i j code (inl a) m h
    | inr a ↦ elim (cases_lt j to) [
      | inl b ↦ f.done i j code (inr (a.0, b)) m h
      | inr b ↦ let p = a.0 in let y = a.1 in let k : j ≡ to = omega arith in rw (p, k) (cell_done G t rows at to code (entry_at rows at code to) refl w f s)
    ]
  ];
  blank = λ i j code d. elim d [
    | inl a ↦ f.blank i j code (inl a)
    | inr a ↦ let y = a.1 in f.blank i j code (inr (a.0, omega arith))
  ];
  placed = f.placed;
  right = λ code e h. let z = f.blank at (suc to) code (inr (refl, omega arith)) in absurd (cc);
}

blank_row : (n i : ℕ) → get_or (replicate {A = List Noted} n []) i [] ≡ []
blank_row zero i = refl
blank_row (suc n) zero = refl
blank_row (suc n) (suc i) = blank_row n i

-- a table with no entries, before the last row
pub filled_start : (G : Grammar) (t : List WSym) (rows : Rows) → rows ≡ replicate (length t) [] → IsFilled G t rows (length t) (suc (length t))
filled_start G t rows e =
    let none : (i : ℕ) (code : WSym) (j : ℕ) → entry_at rows i code j ≡ None = λ i code j. ap (λ (es : List Noted). entry_in es code j) (ap (λ (rs : Rows). get_or rs i []) e ∙ blank_row (length t) i) in
    record {
      done = λ i j code d h l. elim d [ inl a ↦ absurd (omega arith) | inr a ↦ let q = a.0 in absurd (omega arith) ];
      blank = λ i j code d. none i code j;
      placed = λ i j code x h. let z = none i code j in absurd (cc);
      right = λ code x h. let z = none (length t) code (suc (length t)) in absurd (cc);
    }

pub filled_row : (G : Grammar) (t : List WSym) (rows : Rows) (at before n : ℕ) → before ≡ suc at → n ≡ suc (length t) → IsFilled G t rows before n → IsFilled G t rows at (suc at)
filled_row G t rows at before n e m f = record {
  done = λ i j code d h l. elim d [
    | inl a ↦ elim (cases_lt before i) [
      | inl b ↦ f.done i j code (inl b) h l
      | inr b ↦ let q : i ≡ before = omega arith in f.done i j code (inr (q, omega arith)) h l
    ]
    | inr a ↦ let q = a.0 in let z = a.1 in absurd (omega arith)
  ];
  blank = λ i j code d. elim d [
    | inl a ↦ f.blank i j code (inl (omega arith))
    | inr a ↦ let q = a.0 in f.blank i j code (inl (omega arith))
  ];
  placed = f.placed;
  right = λ code x h. let z = f.blank at (suc at) code (inl (omega arith)) in absurd (cc);
}

pub filled_all : (G : Grammar) (t : List WSym) (rows : Rows) (at : ℕ) → at ≡ 0 → IsFilled G t rows at (suc (length t)) → AreAnswers G t rows
filled_all G t rows at e f i j code h l = elim (cases_lt at i) [
  | inl a ↦ f.done i j code (inl a) h l
  | inr a ↦ let q : i ≡ at = omega arith in f.done i j code (inr (q, omega arith)) h l
]

pub part_whole : (t : List WSym) → 0 < length t → part t 0 (length t) ≡ t
part_whole t h = ap (λ (n : ℕ). take n t) (let q : length t - 0 ≡ length t = omega arith in q) ∙ take_all (length t) t (omega arith)

pub answer_whole : (G : Grammar) (t : List WSym) (rows : Rows) (code : WSym) (o : Option Noted) → 0 < length t → AreAnswers G t rows → entry_at rows 0 code (length t) ≡ o → IsAnswer G (code, t) (on (meaning t) o)
answer_whole G t rows code o h a e =
    let w : part t 0 (length t) ≡ t = ap (λ (n : ℕ). take n t) (let q : length t - 0 ≡ length t = omega arith in q) ∙ take_all (length t) t (omega arith) in
    subst (λ (s : List WSym). IsAnswer G (code, s) (on (meaning t) o)) w (subst (λ (x : Option Noted). IsAnswer G (code, part t 0 (length t)) (on (meaning t) x)) e (a 0 (length t) code h (omega arith)))
