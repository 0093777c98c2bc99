-- The tables of the hypotheses hold what looking back finds.
use Rattle.std.proofs.Common.{◌≡◌, ℕ, ◌+◌, ◌<◌, ◌≤◌, Bool, true, false, cond, not, ◌&&◌, ◌||◌, List, [], ◌∷◌, ◌++◌, Option, None, Some, is_none, length, take, drop, fold, refl, sym, ap, ◌∙◌, subst, arith, nat_eq, nat_lt, nat_le, length-append, ◌⊎◌, inl, inr}
use Rattle.std.proofs.lemmas.Grind.{common_steps}
use Rattle.std.proofs.lemmas.Bool.{eqb-true, true≢false, false≢true}
use Rattle.std.proofs.lemmas.List.{get_or_append_left, get_or-set_same, take-append-drop}
use Rattle.std.proofs.Math.ListN.{get_or-eq_default, length-set}
use Rattle.std.proofs.Math.Seq.{get_or-append_seam}
use Rattle.std.specs.List.{list_any}
use Rattle.mm_scope.specs.Contents.{past_before}
use Rattle.mm_scope.specs.Contexts.{Context, add_to, closed_layers, ended}
use Rattle.mm_scope.specs.Events.{Event, opened, closed, labels, hypothesis_moves, active_hypotheses}
use Rattle.mm_tables.specs.Moves.{item, noted}
use Rattle.mm_scope.specs.Moves.{stack, pop, IsBalanced}
use Rattle.mm_scope.specs.Until.{until_at, is_before, is_active_by, is_open, ended_before}
use Rattle.mm_scope.specs.declared.ending.Block.{Block}
use Rattle.mm_scope.proofs.Booleans.{list_any-append}
use Rattle.mm_scope.proofs.Declared.{any_pushed, or_false}
use Rattle.mm_scope.proofs.LookBack.{holds}
use Rattle.mm_scope.proofs.Simulation.{Last, closing}
use Rattle.mm_scope.proofs.Stacks.{Once, once_pushed, once_taken, closed_flag, below_or, and_true, and_false}

-- how many hypotheses were active where each open block began, the innermost first
unfoldable pub counts_of : List Block → List ℕ
counts_of [] = []
counts_of (b ∷ bs) = counts_of bs ++ b.hypotheses ∷ []

pub record HypothesesAgree (past : List Event) (c : Context) : Type 0 where
  pub sizes : length c.until ≡ length (labels past)
  pub stacked : c.hypotheses ≡ (stack (hypothesis_moves past)).items
  pub counts : counts_of c.blocks ≡ (stack (hypothesis_moves past)).marks
  pub balanced : IsBalanced (hypothesis_moves past)
  pub open_flags : (h : ℕ) → is_open c.until h ≡ list_any (nat_eq h) c.hypotheses
  pub once : (h : ℕ) → Once (nat_eq h) c.hypotheses
  pub ended_flags : (h : ℕ) → is_before (length (labels past)) (until_at c.until h) ≡ is_open c.until h
  pub was : (h at : ℕ) → at < length (labels past) → list_any (nat_eq h) (active_hypotheses (past_before at past)) ≡ is_active_by c.until h at

-- so the active hypotheses are those of looking back
pub forced : (past : List Event) (c : Context) → HypothesesAgree past c → c.hypotheses ≡ active_hypotheses past
forced past c a = a.stacked ∙ (holds (hypothesis_moves past) a.balanced).now

pub above : (n at : ℕ) → at < n → nat_le n at ≡ false
above n at h = grind (arith, h)

pub upto : (n at : ℕ) → n ≤ at → nat_le n at ≡ true
upto n at h = grind (arith, h)

pub skip : (at : ℕ) (e : Event) (past : List Event) → at < length (labels (e ∷ past)) → past_before at (e ∷ past) ≡ past_before at past
unfolding past_before
skip at e past h = ap (λ b. cond b (e ∷ past) (past_before at past)) (above (length (labels (e ∷ past))) at h)

pub here : (at : ℕ) (past : List Event) → length (labels past) ≤ at → past_before at past ≡ past
unfolding past_before
here at [] h = refl
here at (e ∷ past) h = ap (λ b. cond b (e ∷ past) (past_before at past)) (upto (length (labels (e ∷ past))) at h)

-- an event that changes no hypothesis and no block
pub same_hypotheses : (e : Event) (past : List Event) (c d : Context) → d.until ≡ c.until → d.hypotheses ≡ c.hypotheses → d.blocks ≡ c.blocks
    → labels (e ∷ past) ≡ labels past → hypothesis_moves (e ∷ past) ≡ hypothesis_moves past → HypothesesAgree past c → HypothesesAgree (e ∷ past) d
same_hypotheses e past c d du dh db el em a = record {
  sizes = ap length du ∙ a.sizes ∙ sym (ap length el);
  stacked = dh ∙ a.stacked ∙ ap (λ ms. (stack ms).items) (sym em);
  counts = ap counts_of db ∙ a.counts ∙ ap (λ ms. (stack ms).marks) (sym em);
  balanced = subst IsBalanced (sym em) a.balanced;
  open_flags = λ h. ap (λ u. is_open u h) du ∙ a.open_flags h ∙ ap (list_any (nat_eq h)) (sym dh);
  once = λ h. subst (Once (nat_eq h)) (sym dh) (a.once h);
  ended_flags = λ h. subst (λ u. is_before (length (labels (e ∷ past))) (until_at u h) ≡ is_open u h) (sym du)
      (subst (λ n. is_before n (until_at c.until h) ≡ is_open c.until h) (sym (ap length el)) (a.ended_flags h));
  was = λ h at small. ap (λ p. list_any (nat_eq h) (active_hypotheses p)) (skip at e past small) ∙ a.was h at (subst (λ n. at < n) (ap length el) small)
      ∙ ap (λ u. is_active_by u h at) (sym du);
}

counts_push : (bs : List Block) (b : Block) → counts_of (bs ++ b ∷ []) ≡ b.hypotheses ∷ counts_of bs
unfolding counts_of
counts_push [] b = refl
counts_push (x ∷ xs) b = ap (λ ms. ms ++ x.hypotheses ∷ []) (counts_push xs b)

pub hypotheses_opened : (past : List Event) (c : Context) (p : ℕ) → HypothesesAgree past c → HypothesesAgree (opened p ∷ past) (add_to c (opened p))
unfolding add_to labels hypothesis_moves stack IsBalanced
hypotheses_opened past c p a = record {
  sizes = a.sizes;
  stacked = a.stacked;
  counts = counts_push c.blocks _ ∙ ap (λ ms. length c.hypotheses ∷ ms) a.counts ∙ ap (λ hs. length hs ∷ (stack (hypothesis_moves past)).marks) a.stacked;
  balanced = a.balanced;
  open_flags = a.open_flags;
  once = a.once;
  ended_flags = a.ended_flags;
  was = λ h at small. ap (λ p. list_any (nat_eq h) (active_hypotheses p)) (skip at (opened p) past small) ∙ a.was h at small;
}

-- one entry more
side : (k n : ℕ) → nat_eq k n ≡ false → (k < n) ⊎ (n < k)
side k n h = grind (arith, h)

pushed_by : (u : List (Option ℕ)) (x : Option ℕ) (h : ℕ) (b : Bool) → nat_eq h (length u) ≡ b → until_at (u ++ x ∷ []) h ≡ cond b x (until_at u h)
pushed_by u x h true e = let same : h ≡ length u = eqb-true h (length u) e in rw same (get_or-append_seam u x [] (Some 0))
pushed_by u x h false e = elim (side h (length u) e) [
  | inl less ↦ get_or_append_left u (x ∷ []) (Some 0) h less
  | inr more ↦ get_or-eq_default (u ++ x ∷ []) (Some 0) (omega (arith, more, length-append u (x ∷ []))) ∙ sym (get_or-eq_default u (Some 0) (omega (arith, more)))
]

pushed : (u : List (Option ℕ)) (x : Option ℕ) (h n : ℕ) → length u ≡ n → until_at (u ++ x ∷ []) h ≡ cond (nat_eq h n) x (until_at u h)
pushed u x h n e = subst (λ m. until_at (u ++ x ∷ []) h ≡ cond (nat_eq h m) x (until_at u h)) e (pushed_by u x h (nat_eq h (length u)) refl)

pub past_end : (u : List (Option ℕ)) (h : ℕ) → length u ≤ h → is_open u h ≡ false
past_end u h le = ap is_none (get_or-eq_default u (Some 0) le)

not_later : (n e : ℕ) → nat_lt n e ≡ false → nat_lt (n + 1) e ≡ false
not_later n e h = grind (arith, h)

later : (n : ℕ) (x : Option ℕ) → is_before n x ≡ is_none x → is_before (n + 1) x ≡ is_none x
later n None h = refl
later n (Some e) h = not_later n e h

not_below : (h at : ℕ) → at ≤ h → nat_lt h at ≡ false
not_below h at le = grind (arith, le)

is_below : (h at : ℕ) → h < at → nat_lt h at ≡ true
is_below h at le = grind (arith, le)

off_and : (a b c : Bool) → a ≡ false → (a && b) ≡ (a && c)
off_and true b c e = absurd (true≢false e)
off_and false b c e = refl

none_and : (a b : Bool) → a ≡ false → (a && b) ≡ false
none_and true b e = absurd (true≢false e)
none_and false b e = refl

at_new : (h n : ℕ) → nat_eq h n ≡ true → n ≤ h
at_new h n e = grind (arith, e)

module _ (e : Event) (past : List Event) (c d : Context) (x : Option ℕ) (l : List ℕ)
    (du : d.until ≡ c.until ++ x ∷ [])
    (el : length (labels (e ∷ past)) ≡ length (labels past) + 1)
    (fx : is_before (length (labels past) + 1) x ≡ is_none x)
    (a : HypothesesAgree past c) where
  more_sizes : length d.until ≡ length (labels (e ∷ past))
  more_sizes = ap length du ∙ omega (arith, length-append c.until (x ∷ []), a.sizes, el)

  more_ended_by : (h : ℕ) (b : Bool) → is_before (length (labels past) + 1) (cond b x (until_at c.until h)) ≡ is_none (cond b x (until_at c.until h))
  more_ended_by h true = fx
  more_ended_by h false = later (length (labels past)) (until_at c.until h) (a.ended_flags h)

  more_ended : (h : ℕ) → is_before (length (labels (e ∷ past))) (until_at d.until h) ≡ is_open d.until h
  more_ended h =
      subst (λ n. is_before n (until_at d.until h) ≡ is_open d.until h) (sym el)
      (subst (λ u. is_before (length (labels past) + 1) (until_at u h) ≡ is_open u h) (sym du)
      (subst (λ o. is_before (length (labels past) + 1) o ≡ is_none o) (sym (pushed c.until x h (length (labels past)) a.sizes)) (more_ended_by h (nat_eq h (length (labels past))))))

  -- at an earlier statement nothing changes
  earlier_by : (h at : ℕ) → at < length (labels past) → (b : Bool) → nat_eq h (length (labels past)) ≡ b
      → is_active_by c.until h at ≡ (nat_lt h at && is_before at (cond b x (until_at c.until h)))
  earlier_by h at small true eq = off_and (nat_lt h at) _ _ (not_below h at (omega (arith, small, at_new h (length (labels past)) eq)))
  earlier_by h at small false eq = refl

  now_by : (h : ℕ) → (h < length (labels past)) ⊎ (length (labels past) ≤ h)
      → is_open c.until h ≡ (nat_lt h (length (labels past)) && is_before (length (labels past)) (until_at c.until h))
  now_by h (inl less) = sym (a.ended_flags h) ∙ ap (λ b. b && is_before (length (labels past)) (until_at c.until h)) (sym (is_below h (length (labels past)) less))
  now_by h (inr more) = past_end c.until h (omega (arith, more, a.sizes)) ∙ sym (none_and (nat_lt h (length (labels past))) _ (not_below h (length (labels past)) more))

  entry : (h at : ℕ) → (nat_lt h at && is_before at (cond (nat_eq h (length (labels past))) x (until_at c.until h))) ≡ is_active_by d.until h at
  entry h at =
      ap (λ o. nat_lt h at && is_before at o) (sym (pushed c.until x h (length (labels past)) a.sizes)) ∙ ap (λ u. is_active_by u h at) (sym du)

  same_entry_by : (h : ℕ) (b : Bool) → nat_eq h (length (labels past)) ≡ b
      → (nat_lt h (length (labels past)) && is_before (length (labels past)) (until_at c.until h))
      ≡ (nat_lt h (length (labels past)) && is_before (length (labels past)) (cond b x (until_at c.until h)))
  same_entry_by h true eq = off_and (nat_lt h (length (labels past))) _ _ (not_below h (length (labels past)) (at_new h (length (labels past)) eq))
  same_entry_by h false eq = refl

  more_now : (h : ℕ) → list_any (nat_eq h) (active_hypotheses past) ≡ is_active_by d.until h (length (labels past))
  more_now h =
      ap (list_any (nat_eq h)) (sym (forced past c a)) ∙ sym (a.open_flags h) ∙ now_by h (below_or h (length (labels past)))
      ∙ same_entry_by h (nat_eq h (length (labels past))) refl ∙ entry h (length (labels past))

  more_was_by : (h at : ℕ) → (at < length (labels past)) ⊎ (at ≡ length (labels past)) → at < length (labels (e ∷ past))
      → list_any (nat_eq h) (active_hypotheses (past_before at (e ∷ past))) ≡ is_active_by d.until h at
  more_was_by h at (inl less) small =
      ap (λ p. list_any (nat_eq h) (active_hypotheses p)) (skip at e past small) ∙ a.was h at less
      ∙ earlier_by h at less (nat_eq h (length (labels past))) refl ∙ entry h at
  more_was_by h at (inr same) small =
      ap (λ p. list_any (nat_eq h) (active_hypotheses p)) (skip at e past small ∙ here at past (omega (arith, same))) ∙ more_now h
      ∙ ap (is_active_by d.until h) (sym same)

  low_or_last : (at n : ℕ) → at < n + 1 → (at < n) ⊎ (at ≡ n)
  low_or_last at n h = grind (arith, h)

  more_was : (h at : ℕ) → at < length (labels (e ∷ past)) → list_any (nat_eq h) (active_hypotheses (past_before at (e ∷ past))) ≡ is_active_by d.until h at
  more_was h at small = more_was_by h at (low_or_last at (length (labels past)) (subst (λ n. at < n) el small)) small

or_true : (b : Bool) → (b || true) ≡ true
or_true true = refl
or_true false = refl

-- an assertion
pub hypotheses_asserted : (e : Event) (past : List Event) (c d : Context) → d.until ≡ c.until ++ Some 0 ∷ [] → d.hypotheses ≡ c.hypotheses → d.blocks ≡ c.blocks
    → length (labels (e ∷ past)) ≡ length (labels past) + 1 → hypothesis_moves (e ∷ past) ≡ noted ∷ hypothesis_moves past → HypothesesAgree past c → HypothesesAgree (e ∷ past) d
unfolding stack IsBalanced
hypotheses_asserted e past c d du dh db el em a = record {
  sizes = more_sizes e past c d (Some 0) [] du el (never (length (labels past))) a;
  stacked = dh ∙ a.stacked ∙ ap (λ ms. (stack ms).items) (sym em);
  counts = ap counts_of db ∙ a.counts ∙ ap (λ ms. (stack ms).marks) (sym em);
  balanced = subst IsBalanced (sym em) a.balanced;
  open_flags = λ h. ap (λ u. is_open u h) du ∙ ap is_none (pushed c.until (Some 0) h (length (labels past)) a.sizes)
      ∙ opens h (nat_eq h (length (labels past))) refl ∙ a.open_flags h ∙ ap (list_any (nat_eq h)) (sym dh);
  once = λ h. subst (Once (nat_eq h)) (sym dh) (a.once h);
  ended_flags = more_ended e past c d (Some 0) [] du el (never (length (labels past))) a;
  was = more_was e past c d (Some 0) [] du el (never (length (labels past))) a;
}
  where
    never : (n : ℕ) → is_before (n + 1) (Some 0) ≡ is_none {T = ℕ} (Some 0)
    never n = grind arith

    opens : (h : ℕ) (b : Bool) → nat_eq h (length (labels past)) ≡ b → is_none {T = ℕ} (cond b (Some 0) (until_at c.until h)) ≡ is_open c.until h
    opens h true eq = sym (past_end c.until h (omega (arith, at_new h (length (labels past)) eq, a.sizes)))
    opens h false eq = refl

-- a hypothesis
pub hypotheses_stated : (e : Event) (past : List Event) (c d : Context) → d.until ≡ c.until ++ None ∷ [] → d.hypotheses ≡ c.hypotheses ++ length c.labels ∷ []
    → d.blocks ≡ c.blocks → c.labels ≡ labels past → length (labels (e ∷ past)) ≡ length (labels past) + 1
    → hypothesis_moves (e ∷ past) ≡ item (length (labels past) ∷ []) ∷ noted ∷ hypothesis_moves past → HypothesesAgree past c → HypothesesAgree (e ∷ past) d
unfolding stack IsBalanced
hypotheses_stated e past c d du dh db cl el em a = record {
  sizes = more_sizes e past c d None [] du el refl a;
  stacked = grown ∙ ap (λ hs. hs ++ n ∷ []) a.stacked ∙ ap (λ ms. (stack ms).items) (sym em);
  counts = ap counts_of db ∙ a.counts ∙ ap (λ ms. (stack ms).marks) (sym em);
  balanced = subst IsBalanced (sym em) a.balanced;
  open_flags = λ h. ap (λ u. is_open u h) du ∙ ap is_none (pushed c.until None h n a.sizes)
      ∙ opens h (nat_eq h n) refl ∙ sym (any_pushed (nat_eq h) c.hypotheses n) ∙ ap (list_any (nat_eq h)) (sym grown);
  once = λ h. subst (Once (nat_eq h)) (sym grown) (once_pushed (nat_eq h) c.hypotheses n (a.once h) (fresh h));
  ended_flags = more_ended e past c d None [] du el refl a;
  was = more_was e past c d None [] du el refl a;
}
  where
    n : ℕ
    n = length (labels past)

    grown : d.hypotheses ≡ c.hypotheses ++ n ∷ []
    grown = dh ∙ ap (λ ls. c.hypotheses ++ length ls ∷ []) cl

    fresh : (h : ℕ) → nat_eq h n ≡ true → list_any (nat_eq h) c.hypotheses ≡ false
    fresh h eq = sym (a.open_flags h) ∙ past_end c.until h (omega (arith, at_new h n eq, a.sizes))

    opens : (h : ℕ) (b : Bool) → nat_eq h n ≡ b → is_none (cond b None (until_at c.until h)) ≡ (list_any (nat_eq h) c.hypotheses || b)
    opens h true eq = sym (or_true (list_any (nat_eq h) c.hypotheses))
    opens h false eq = a.open_flags h ∙ sym (or_false (list_any (nat_eq h) c.hypotheses))

-- what ending a hypothesis does to the table
end_kept : (u : List (Option ℕ)) (n e h : ℕ) → nat_eq h e ≡ false → until_at (ended_before n u e) h ≡ until_at u h
end_kept u n e h eq = grind (arith, common_steps, eq)

end_here : (u : List (Option ℕ)) (n e : ℕ) → e < length u → until_at (ended_before n u e) e ≡ Some n
end_here u n e small = get_or-set_same u e (Some n) (Some 0) small

end_past : (u : List (Option ℕ)) (n e : ℕ) → length u ≤ e → until_at (ended_before n u e) e ≡ Some 0
end_past u n e more = get_or-eq_default (ended_before n u e) (Some 0) (omega (arith, more, length-set u e (Some n)))

end_there : (u : List (Option ℕ)) (n e : ℕ) → (e < length u) ⊎ (length u ≤ e) → is_open (ended_before n u e) e ≡ false
end_there u n e (inl small) = ap is_none (end_here u n e small)
end_there u n e (inr more) = ap is_none (end_past u n e more)

one_ended_by : (n : ℕ) (u : List (Option ℕ)) (e h : ℕ) (b : Bool) → nat_eq h e ≡ b → is_open (ended_before n u e) h ≡ (is_open u h && not b)
one_ended_by n u e h true eq =
    let same : h ≡ e = eqb-true h e eq in
    ap (is_open (ended_before n u e)) same ∙ end_there u n e (below_or e (length u)) ∙ and_false (is_open u h)
one_ended_by n u e h false eq = ap is_none (end_kept u n e h eq) ∙ and_true (is_open u h)

one_ended : (n : ℕ) (u : List (Option ℕ)) (e h : ℕ) → is_open (ended_before n u e) h ≡ (is_open u h && not (nat_eq h e))
one_ended n u e h = one_ended_by n u e h (nat_eq h e) refl

sizes_ended : (n : ℕ) (es : List ℕ) (u : List (Option ℕ)) → length (fold (ended_before n) u es) ≡ length u
sizes_ended n [] u = refl
sizes_ended n (e ∷ es) u = sizes_ended n es (ended_before n u e) ∙ length-set u e (Some n)

not_itself : (n : ℕ) → nat_lt n n ≡ false
not_itself n = grind arith

not_zero_end : (n : ℕ) → is_before n (Some 0) ≡ false
not_zero_end n = grind arith

-- a hypothesis that ended ended before the next statement
ended_there : (n : ℕ) (u : List (Option ℕ)) (e : ℕ) → (e < length u) ⊎ (length u ≤ e) → is_before n (until_at (ended_before n u e) e) ≡ is_open (ended_before n u e) e
ended_there n u e (inl small) = ap (is_before n) (end_here u n e small) ∙ not_itself n ∙ sym (ap is_none (end_here u n e small))
ended_there n u e (inr more) = ap (is_before n) (end_past u n e more) ∙ not_zero_end n ∙ sym (ap is_none (end_past u n e more))

one_before : (n : ℕ) (u : List (Option ℕ)) (e h : ℕ) (b : Bool) → nat_eq h e ≡ b → is_before n (until_at u h) ≡ is_open u h
    → is_before n (until_at (ended_before n u e) h) ≡ is_open (ended_before n u e) h
one_before n u e h true eq flag =
    let same : h ≡ e = eqb-true h e eq in
    subst (λ k. is_before n (until_at (ended_before n u e) k) ≡ is_open (ended_before n u e) k) (sym same) (ended_there n u e (below_or e (length u)))
one_before n u e h false eq flag = subst (λ o. is_before n o ≡ is_none o) (sym (end_kept u n e h eq)) flag

all_before : (n : ℕ) (es : List ℕ) (u : List (Option ℕ)) (h : ℕ) → is_before n (until_at u h) ≡ is_open u h
    → is_before n (until_at (fold (ended_before n) u es) h) ≡ is_open (fold (ended_before n) u es) h
all_before n [] u h flag = flag
all_before n (e ∷ es) u h flag = all_before n es (ended_before n u e) h (one_before n u e h (nat_eq h e) refl flag)

or_assoc : (a b c : Bool) → ((a || b) || c) ≡ (a || (b || c))
or_assoc true b c = refl
or_assoc false b c = refl

-- before an earlier statement no hypothesis ends
one_at : (n at : ℕ) → at < n → (u : List (Option ℕ)) (e h : ℕ) → h < length u → (b : Bool) → nat_eq h e ≡ b
    → is_before at (until_at (ended_before n u e) h) ≡ (is_before at (until_at u h) || b)
one_at n at less u e h small true eq =
    let same : h ≡ e = eqb-true h e eq in
    ap (λ k. is_before at (until_at (ended_before n u e) k)) same ∙ ap (is_before at) (end_here u n e (subst (λ k. k < length u) same small))
    ∙ is_below at n less ∙ sym (or_true (is_before at (until_at u h)))
one_at n at less u e h small false eq = ap (is_before at) (end_kept u n e h eq) ∙ sym (or_false (is_before at (until_at u h)))

all_at : (n at : ℕ) → at < n → (es : List ℕ) (u : List (Option ℕ)) (h : ℕ) → h < length u
    → is_before at (until_at (fold (ended_before n) u es) h) ≡ (is_before at (until_at u h) || list_any (nat_eq h) es)
all_at n at less [] u h small = sym (or_false (is_before at (until_at u h)))
all_at n at less (e ∷ es) u h small =
    all_at n at less es (ended_before n u e) h (subst (λ k. h < k) (sym (length-set u e (Some n))) small)
    ∙ ap (λ b. b || list_any (nat_eq h) es) (one_at n at less u e h small (nat_eq h e) refl)
    ∙ or_assoc (is_before at (until_at u h)) (nat_eq h e) (list_any (nat_eq h) es)

absorbed : (a b : Bool) → (b ≡ true → a ≡ true) → (a || b) ≡ a
absorbed true b f = refl
absorbed false true f = sym (f refl)
absorbed false false f = refl

open_before : (at : ℕ) (x : Option ℕ) → is_none x ≡ true → is_before at x ≡ true
open_before at None h = refl
open_before at (Some e) h = absurd (false≢true h)

later_part : (p : ℕ → Bool) (es : List ℕ) (k : ℕ) → list_any p (drop k es) ≡ true → list_any p es ≡ true
later_part p es k h =
    ap (list_any p) (sym (take-append-drop k es)) ∙ list_any-append p (take k es) (drop k es)
    ∙ ap (λ b. list_any p (take k es) || b) h ∙ or_true (list_any p (take k es))

same_at : (n at m : ℕ) (u : List (Option ℕ)) (hs : List ℕ) (h : ℕ) → length u ≡ n → at < n → is_open u h ≡ list_any (nat_eq h) hs
    → (h < length u) ⊎ (length u ≤ h) → is_active_by u h at ≡ is_active_by (fold (ended_before n) u (drop m hs)) h at
same_at n at m u hs h sizes less flag (inl small) =
    ap (λ b. nat_lt h at && b) (sym (all_at n at less (drop m hs) u h small ∙ absorbed (is_before at (until_at u h)) (list_any (nat_eq h) (drop m hs))
    (λ on. open_before at (until_at u h) (flag ∙ later_part (nat_eq h) hs m on))))
same_at n at m u hs h sizes less flag (inr more) = off_and (nat_lt h at) _ _ (not_below h at (omega (arith, sizes, less, more)))

-- a block is closed
pub hypotheses_closed : (past : List Event) (c : Context) (l : Last c.blocks) → c.labels ≡ labels past → HypothesesAgree past c → HypothesesAgree (closed ∷ past) (add_to c closed)
unfolding labels hypothesis_moves stack IsBalanced pop counts_of
hypotheses_closed past c l cl a =
    let n : ℕ = length (labels past) in
    let m : ℕ = l.last.hypotheses in
    let until : List (Option ℕ) = fold (ended_before n) c.until (drop m c.hypotheses) in
    let same : length c.labels ≡ n = ap length cl in
    let marks : m ∷ counts_of l.before ≡ (stack (hypothesis_moves past)).marks = sym (counts_push l.before l.last) ∙ ap counts_of (sym l.whole) ∙ a.counts in
    subst (HypothesesAgree (closed ∷ past)) (sym (closing c l)) (subst (λ k. HypothesesAgree (closed ∷ past) (record (closed_layers c) {
      table = fold ended c.table (drop l.last.endings c.endings);
      endings = take l.last.endings c.endings;
      until = fold (ended_before k) c.until (drop m c.hypotheses);
      hypotheses = take m c.hypotheses;
      blocks = l.before;
    })) (sym same) (record {
      sizes = sizes_ended n (drop m c.hypotheses) c.until ∙ a.sizes;
      stacked = ap (take m) a.stacked ∙ ap (λ ms. (pop ms (stack (hypothesis_moves past)).items).items) marks;
      counts = ap (λ ms. (pop ms (stack (hypothesis_moves past)).items).marks) marks;
      balanced = (subst (λ ms. 0 < length ms) marks (omega arith), a.balanced);
      open_flags = λ h. closed_flag (ended_before n) is_open (λ k e. nat_eq k e) (one_ended n) c.until c.hypotheses m h (a.open_flags h) (a.once h);
      once = λ h. once_taken (nat_eq h) c.hypotheses m (a.once h);
      ended_flags = λ h. all_before n (drop m c.hypotheses) c.until h (a.ended_flags h);
      was = λ h at small. ap (λ p. list_any (nat_eq h) (active_hypotheses p)) (skip at closed past small) ∙ a.was h at small
          ∙ same_at n at m c.until c.hypotheses h a.sizes small (a.open_flags h) (below_or h (length c.until));
    }))
