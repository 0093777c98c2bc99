-- The next end in a row.
use Rattle.mm_subst.specs.Symbols.{is_same}
use Rattle.mm_subst.specs.declared.symbol.WSym.{WSym}
use Rattle.std.proofs.Common.{◌≡◌, ℕ, suc, ◌+◌, ◌≤◌, ◌<◌, List, [], ◌∷◌, ◌++◌, Option, None, Some, Bool, true, false, cond, ◌&&◌, refl, ◌∙◌, ap, arith, leb, ltb, eqb, inl, inr, length, get_or, drop}
use Rattle.std.proofs.lemmas.Bool.{cases_lt, le-leb, lt-leb, lt-ltb, leb-true, ltb-true, eqb-true, eq-eqb, cases_Bool, and_parts, and_from, false_from_ne_true, both_ways}
use Rattle.std.proofs.Math.Seq.{drop-cons}
use Rattle.mm_chart.specs.Options.{or_else}
use Rattle.mm_chart.specs.Charts.{Noted, entry_in, rank_of, is_for, closer, nearest, IsNext, IsNextOrNone}
use Rattle.mm_chart.proofs.Settling.{entry_added, or_none, row_same}

abbrev ends_within : Noted → WSym → ℕ → ℕ → Bool
ends_within e code last to = is_same e.code code && (ltb last e.to && leb e.to to)

not_fit : (e : Noted) (code : WSym) (last to j : ℕ) → ends_within e code last to ≡ false → last < j → j ≤ to → is_for code j e ≡ false
not_fit e code last to j h l m = false_from_ne_true (is_for code j e) (λ q.
    let p = and_parts (is_same e.code code) (eqb e.to j) q in
    let k = eqb-true e.to j p.1 in
    both_ways (ends_within e code last to) h (and_from (is_same e.code code) (ltb last e.to && leb e.to to) p.0 (and_from (ltb last e.to) (leb e.to to) (lt-ltb last e.to (omega arith)) (le-leb e.to to (omega arith)))))

same_unless : (es : List Noted) (e : Noted) (code : WSym) (j : ℕ) → is_for code j e ≡ false → entry_in (es ++ e ∷ []) code j ≡ entry_in es code j
same_unless es e code j h = entry_added es e code j ∙ ap (λ (b : Bool). or_else (entry_in es code j) (cond b (Some e) None)) h ∙ or_none (entry_in es code j)

here_if : (es : List Noted) (e : Noted) (code : WSym) → is_same e.code code ≡ true → entry_in es code e.to ≡ None → entry_in (es ++ e ∷ []) code e.to ≡ Some e
here_if es e code h n =
    entry_added es e code e.to ∙ ap (λ (o : Option Noted). or_else o (cond (is_for code e.to e) (Some e) None)) n
    ∙ ap (λ (b : Bool). cond b (Some e) None) (and_from (is_same e.code code) (eqb e.to e.to) h (eq-eqb e.to e.to refl))

rank_stays : (es : List Noted) (e : Noted) (code : WSym) (j rank : ℕ) (o : Option Noted) → entry_in es code j ≡ o → rank_of o ≡ Some rank → rank_of (entry_in (es ++ e ∷ []) code j) ≡ Some rank
rank_stays es e code j rank None q h = absurd (cc)
rank_stays es e code j rank (Some x) q h = ap rank_of (entry_added es e code j ∙ ap (λ (o : Option Noted). or_else o (cond (is_for code j e) (Some e) None)) q) ∙ h

new_next : (es : List Noted) (e : Noted) (code : WSym) (last to : ℕ) → ends_within e code last to ≡ true → ((j : ℕ) → last < j → j ≤ e.to → entry_in es code j ≡ None) → IsNext (es ++ e ∷ []) code last to e.to e.rank
new_next es e code last to h n =
    let p = and_parts (is_same e.code code) (ltb last e.to && leb e.to to) h in
    let q = and_parts (ltb last e.to) (leb e.to to) p.1 in
    let l = ltb-true last e.to q.0 in
    record {
      later = l;
      within = leb-true e.to to q.1;
      there = ap rank_of (here_if es e code p.0 (n e.to l (omega arith)));
      skipped = λ j m k. row_same es e code j (λ z. omega arith) ∙ n j m (omega arith);
    }

more_fits : (es : List Noted) (e : Noted) (code : WSym) (last to : ℕ) (o : Option (ℕ × ℕ)) → ends_within e code last to ≡ true → IsNextOrNone es code last to o → IsNextOrNone (es ++ e ∷ []) code last to (closer o (e.to, e.rank))
more_fits es e code last to None h n =
    let p = and_parts (is_same e.code code) (ltb last e.to && leb e.to to) h in
    let q = and_parts (ltb last e.to) (leb e.to to) p.1 in
    let l = leb-true e.to to q.1 in
    new_next es e code last to h (λ j m k. n j m (omega arith))
more_fits es e code last to (Some y) h n = elim (cases_lt e.to y.0) [
  | inl m ↦ rw (lt-leb y.0 e.to m) (new_next es e code last to h (λ j k q. n.skipped j k (omega arith)))
  | inr m ↦ rw (le-leb y.0 e.to m) (record {
    later = n.later;
    within = n.within;
    there = rank_stays es e code y.0 y.1 (entry_in es code y.0) refl n.there;
    skipped = λ j k q. row_same es e code j (λ z. omega arith) ∙ n.skipped j k q;
  })
]

more_not : (es : List Noted) (e : Noted) (code : WSym) (last to : ℕ) (o : Option (ℕ × ℕ)) → ends_within e code last to ≡ false → IsNextOrNone es code last to o → IsNextOrNone (es ++ e ∷ []) code last to o
more_not es e code last to None h n = λ j m k. same_unless es e code j (not_fit e code last to j h m k) ∙ n j m k
more_not es e code last to (Some y) h n =
    let w = n.within in
    record {
      later = n.later;
      within = n.within;
      there = rank_stays es e code y.0 y.1 (entry_in es code y.0) refl n.there;
      skipped = λ j k q. same_unless es e code j (not_fit e code last to j h k (omega arith)) ∙ n.skipped j k q;
    }

pub next_more : (es : List Noted) (e : Noted) (code : WSym) (last to : ℕ) (o : Option (ℕ × ℕ)) → IsNextOrNone es code last to o → IsNextOrNone (es ++ e ∷ []) code last to (nearest code last to o e)
next_more es e code last to o n = elim (cases_Bool (ends_within e code last to)) [
  | inl h ↦ rw h (more_fits es e code last to o h n)
  | inr h ↦ rw h (more_not es e code last to o h n)
]

-- a row read from its front
pub found_here : (es : List Noted) (code : WSym) (to i : ℕ) (d : Noted) → i < length es → is_for code to (get_or es i d) ≡ true → entry_in (drop i es) code to ≡ Some (get_or es i d)
found_here es code to i d l h = rw (drop-cons es i d) (ap (λ (b : Bool). cond b (Some (get_or es i d)) (entry_in (drop (suc i) es) code to)) h)

pub found_later : (es : List Noted) (code : WSym) (to i : ℕ) (d : Noted) → i < length es → is_for code to (get_or es i d) ≡ false → entry_in (drop i es) code to ≡ entry_in (drop (i + 1) es) code to
found_later es code to i d l h =
    let e : suc i ≡ i + 1 = omega arith in
    rw (drop-cons es i d) (ap (λ (b : Bool). cond b (Some (get_or es i d)) (entry_in (drop (suc i) es) code to)) h ∙ ap (λ (k : ℕ). entry_in (drop k es) code to) e)
