use Rattle.std.proofs.Common.{◌≡◌, ◌<◌, ◌≤◌, ◌+◌, ◌++◌, ◌∷◌, [], ℕ, List, inl, inr, arith, sym, ◌∙◌, ap, subst, length, get_or}
use Rattle.std.proofs.lemmas.List.{length-append, get_or_append_left, get_or_at, get_or_default}
use Rattle.std.proofs.lemmas.Bool.{cases_lt}
use Rattle.mm_chart.specs.Items.{Grammar, Assertion}
use Rattle.mm_chart.specs.Charts.{can_begin, no_assertion}
use Rattle.mm_chart.proofs.Stated.{AbleYet, able_more, able_same, able_all}
use Rattle.mm_chart.proofs.filling.able.Goals as goal
use Rattle.mm_chart.proofs.filling.able.Goals.{then-can_begin+in_ok-push, else-can_begin}

within_more : (xs ys : List ℕ) (x n : ℕ) → ys ≡ xs ++ x ∷ [] → x < n → ((k : ℕ) → k < length xs → get_or xs k 0 < n) → (k : ℕ) → k < length ys → get_or ys k 0 < n
within_more xs ys x n e l h k m =
    let p = length-append xs (x ∷ []) in
    let q = ap length e in
    subst (λ (zs : List ℕ). get_or zs k 0 < n) (sym e) (elim (cases_lt k (length xs)) [
      | inl a ↦ subst (λ (y : ℕ). y < n) (sym (get_or_append_left xs (x ∷ []) 0 k a)) (h k a)
      | inr a ↦ let z : length xs ≡ k = omega arith in subst (λ (y : ℕ). y < n) (sym (get_or_at xs x [] 0 k z)) l
    ])

pub loop-number-preserved : goal.loop-number-preserved
loop-number-preserved c =
    let G : Grammar = c.args.rules.now in
    let i = c.loop-number.number in
    let v : c.deref-assertion-items.result.now ≡ G.assertions = c.deref-assertion-items.ensures.value ∙ ap (λ (g : Grammar). g.assertions) c.rules.view_is in
    let l : i < length G.assertions = subst (λ (xs : List Assertion). i < length xs) v c.loop-number-test.true in
    let d = c.assertion-item.result in
    let e : d ≡ get_or G.assertions i no_assertion = c.assertion-item.is ∙ ap (λ (xs : List Assertion). get_or xs i d) v ∙ get_or_default G.assertions i d no_assertion l in
    let b : can_begin c.args.symbol (get_or G.assertions i no_assertion).items ≡ c.can_begin.result =
    ap (can_begin c.args.symbol) (sym (c.as_slice.ensures.value ∙ ap (λ (a : Assertion). a.items) (c.assertion.view_is ∙ e))) ∙ sym c.can_begin.ensures in
    elim c.if-can_begin.branch [
      | then-can_begin+in_ok-push w ↦ record {
        are = able_more G c.args.symbol i c.loop-number.numbers.items c.if-can_begin.numbers.items l (b ∙ w.if-can_begin.true) (ap (λ n. n.items) w.numbers-is ∙ w.in_ok-push.ensures.items) c.loop-number.invariant.are;
        within = within_more c.loop-number.numbers.items c.if-can_begin.numbers.items i (length G.assertions) (ap (λ n. n.items) w.numbers-is ∙ w.in_ok-push.ensures.items) l c.loop-number.invariant.within;
      }
      | else-can_begin w ↦ subst (λ v. record { are : AbleYet G c.args.symbol (i + 1) v.items; within : (k : ℕ) → k < length v.items → get_or v.items k 0 < length G.assertions }) (sym w.numbers-is)
          (record { are = able_same G c.args.symbol i c.loop-number.numbers.items l (b ∙ w.if-can_begin.false) c.loop-number.invariant.are; within = c.loop-number.invariant.within })
    ]

pub returns : goal.returns
returns c =
    let v : c.deref-assertion-items.result.now ≡ c.args.rules.now.assertions = c.deref-assertion-items.ensures.value ∙ ap (λ (g : Grammar). g.assertions) c.rules.view_is in
    let n : length c.args.rules.now.assertions ≤ c.loop-number.number = subst (λ (xs : List Assertion). length xs ≤ c.loop-number.number) v c.loop-number-test.false in
    record { are = able_all c.args.rules.now c.args.symbol c.loop-number.number c.loop-number.numbers.items n c.loop-number.invariant.are; within = c.loop-number.invariant.within }
