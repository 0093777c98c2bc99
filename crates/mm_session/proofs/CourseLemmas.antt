-- The lists of the commands that gave up.
use Rattle.std.proofs.Common.{◌≡◌, ◌≢◌, ◌==◌, ◌||◌, ◌<◌, ◌≤◌, ℕ, suc, Bool, true, false, List, [], ◌∷◌, ◌++◌, length, refl, sym, ◌∙◌, ap, subst, arith, length-append}
use Rattle.std.proofs.lemmas.List.Folds.{list_any-append}
use Rattle.std.proofs.lemmas.Bool.Decides.{nat_tests}
use Rattle.mm_base.specs.Outside.{CountsFaults, RoseBy}
use Rattle.mm_step.specs.declared.reply.Reply.{Reply}
use Rattle.mm_step.specs.declared.reply.Reply.TheVariants as reply
use Rattle.mm_step.specs.Effects.{Outcome, Fine, Starved, Faulted, outcome, is_faulted}
use Rattle.mm_session.specs.Session.{has, outcome_of}
use Rattle.mm_session.specs.Course.{Rise, AreApart}

-- the lists after command n has ended so
abbrev pub starved_after : Outcome → List ℕ → ℕ → List ℕ
starved_after Fine numbers n = numbers
starved_after Starved numbers n = numbers ++ n ∷ []
starved_after Faulted numbers n = numbers

abbrev pub faulted_after : Outcome → List ℕ → ℕ → List ℕ
faulted_after Fine numbers n = numbers
faulted_after Starved numbers n = numbers
faulted_after Faulted numbers n = numbers ++ n ∷ []

not_true : (b : Bool) → (b ≡ true → ⊥) → b ≡ false
not_true true h = absurd (h refl)
not_true false h = refl

or_false : (b : Bool) → (b || false) ≡ b
or_false true = refl
or_false false = refl

pub or_true : (b : Bool) → (b || true) ≡ true
or_true true = refl
or_true false = refl

has_last : (xs : List ℕ) (n : ℕ) → has (xs ++ n ∷ []) n ≡ true
has_last xs n =
    let same : (n == n) ≡ true = grind (arith, nat_tests) in
    list_any-append (λ m. m == n) xs (n ∷ []) ∙ rw same (or_true (has xs n))

has_other : (xs : List ℕ) (n k : ℕ) → k ≢ n → has (xs ++ n ∷ []) k ≡ has xs k
has_other xs n k other =
    let differs : (n == k) ≡ false = grind (arith, nat_tests) in
    list_any-append (λ m. m == k) xs (n ∷ []) ∙ rw differs (or_false (has xs k))

rise_le : (low high : ℕ) (xs : List ℕ) → Rise low high xs → low ≤ high
rise_le low high [] r = r
rise_le low high (x ∷ xs) r = let more : x ≤ high = rise_le x high xs r.1 in omega (arith, r.0)

within_first : (low high x : ℕ) (xs : List ℕ) (k : ℕ) (same : Bool) → (x == k) ≡ same → low < x → x ≤ high → (has xs k ≡ true → (x < k) × (k ≤ high)) → (same || has xs k) ≡ true → (low < k) × (k ≤ high)
within_first low high x xs k true e lt le more h = let is : x ≡ k = grind (arith, nat_tests) in (omega arith, omega arith)
within_first low high x xs k false e lt le more h = let m = more h in (omega (arith, m.0), m.1)

-- the numbers are between the bounds
pub rise_within : (low high : ℕ) (xs : List ℕ) (k : ℕ) → Rise low high xs → has xs k ≡ true → (low < k) × (k ≤ high)
rise_within low high [] k r h = let no : false ≡ true = h in absurd (cc)
rise_within low high (x ∷ xs) k r h =
    within_first low high x xs k (x == k) refl r.0 (rise_le x high xs r.1) (λ t. rise_within x high xs k r.1 t) h

pub rise_more : (low n : ℕ) (xs : List ℕ) → Rise low n xs → Rise low (suc n) xs
rise_more low n [] r = omega (arith, r)
rise_more low n (x ∷ xs) r = (r.0, rise_more x n xs r.1)

rise_last : (low n : ℕ) (xs : List ℕ) → Rise low n xs → Rise low (suc n) (xs ++ suc n ∷ [])
rise_last low n [] r = (omega (arith, r), omega arith)
rise_last low n (x ∷ xs) r = (r.0, rise_last x n xs r.1)

has_none : (n : ℕ) (xs : List ℕ) → Rise 0 n xs → has xs (suc n) ≡ false
has_none n xs low = not_true (has xs (suc n)) (λ h. let le : suc n ≤ n = (rise_within 0 n xs (suc n) low h).1 in omega arith)

-- the new command ends as it is noted
pub outcome_now : (o : Outcome) (S F : List ℕ) (n : ℕ) → Rise 0 n S → Rise 0 n F → outcome_of (starved_after o S (suc n)) (faulted_after o F (suc n)) (suc n) ≡ o
outcome_now Fine S F n s f = rw (has_none n S s, has_none n F f) refl
outcome_now Starved S F n s f = rw (has_last S (suc n)) refl
outcome_now Faulted S F n s f = rw (has_none n S s, has_last F (suc n)) refl

-- the earlier ones end as they did
pub outcome_before : (o : Outcome) (S F : List ℕ) (n k : ℕ) → k ≤ n → outcome_of (starved_after o S (suc n)) (faulted_after o F (suc n)) k ≡ outcome_of S F k
outcome_before Fine S F n k le = refl
outcome_before Starved S F n k le =
    let other : k ≢ suc n = λ e. omega (arith, e) in rw (has_other S (suc n) k other) refl
outcome_before Faulted S F n k le =
    let other : k ≢ suc n = λ e. omega (arith, e) in rw (has_other F (suc n) k other) refl

pub rise_starved : (o : Outcome) (xs : List ℕ) (n : ℕ) → Rise 0 n xs → Rise 0 (suc n) (starved_after o xs (suc n))
rise_starved Fine xs n low = rise_more 0 n xs low
rise_starved Starved xs n low = rise_last 0 n xs low
rise_starved Faulted xs n low = rise_more 0 n xs low

pub rise_faulted : (o : Outcome) (xs : List ℕ) (n : ℕ) → Rise 0 n xs → Rise 0 (suc n) (faulted_after o xs (suc n))
rise_faulted Fine xs n low = rise_more 0 n xs low
rise_faulted Starved xs n low = rise_more 0 n xs low
rise_faulted Faulted xs n low = rise_last 0 n xs low

apart_at : (S F : List ℕ) (n k : ℕ) (same : Bool) → (suc n == k) ≡ same → Rise 0 n F → AreApart S F → has (S ++ suc n ∷ []) k ≡ true → has F k ≡ false
apart_at S F n k true e low apart h = let is : suc n ≡ k = grind (arith, nat_tests) in subst (λ j. has F j ≡ false) is (has_none n F low)
apart_at S F n k false e low apart h =
    let other : k ≢ suc n = λ x. let y : (suc n == k) ≡ true = grind (arith, nat_tests) in cc in
    apart k (sym (has_other S (suc n) k other) ∙ h)

pub apart_after : (o : Outcome) (S F : List ℕ) (n : ℕ) → Rise 0 n S → Rise 0 n F → AreApart S F → AreApart (starved_after o S (suc n)) (faulted_after o F (suc n))
apart_after Fine S F n s f apart k h = apart k h
apart_after Starved S F n s f apart k h = apart_at S F n k (suc n == k) refl f apart h
apart_after Faulted S F n s f apart k h =
    let le : k ≤ n = (rise_within 0 n S k s h).1 in
    let other : k ≢ suc n = λ x. omega (arith, x) in
    has_other F (suc n) k other ∙ apart k h

pub rose_after : (r : Reply) (F : List ℕ) (n a b c : ℕ) → RoseBy (length F) a b → CountsFaults (is_faulted r) b c → RoseBy (length (faulted_after (outcome r) F n)) a c
rose_after (reply.Done text refused) F n a b c rose counts = let e : c ≡ b = counts.stays refl in omega arith
rose_after reply.Starved F n a b c rose counts = let e : c ≡ b = counts.stays refl in omega arith
rose_after reply.Faulted F n a b c rose counts = let e : RoseBy 1 b c = counts.rose refl in omega (arith, length-append F (n ∷ []))

pub held_after : (r : Reply) (F : List ℕ) (n a b c : ℕ) → (F ≡ [] → b ≡ a) → CountsFaults (is_faulted r) b c → faulted_after (outcome r) F n ≡ [] → c ≡ a
held_after (reply.Done text refused) F n a b c held counts e = counts.stays refl ∙ held e
held_after reply.Starved F n a b c held counts e = counts.stays refl ∙ held e
held_after reply.Faulted F n a b c held counts e = let l : length (F ++ n ∷ []) ≡ 0 = ap length e in absurd (omega (arith, length-append F (n ∷ []), l))

-- where none has starved by then, this command hasn't, and none before it
pub not_starved : (o : Outcome) (S : List ℕ) (n : ℕ) → starved_after o S n ≡ [] → o ≢ Starved
not_starved Fine S n e x = cc
not_starved Starved S n e x = let l : length (S ++ n ∷ []) ≡ 0 = ap length e in omega (arith, length-append S (n ∷ []))
not_starved Faulted S n e x = cc

pub was_none : (o : Outcome) (S : List ℕ) (n : ℕ) → starved_after o S n ≡ [] → S ≡ []
was_none Fine S n e = e
was_none Starved S n e = absurd (not_starved Starved S n e refl)
was_none Faulted S n e = e
