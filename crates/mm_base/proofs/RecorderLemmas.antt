-- What recorders have heard after calls on each of them.
use Rattle.std.proofs.Common.{nat_lt, if◌then◌else◌, get_or-set_same, Result, Ok, Err, is_ok, is_err, true≢false, ◌≡◌, ◌<◌, ◌≤◌, ◌+◌, ℕ, Bool, true, false, List, [], ◌∷◌, ◌++◌, length, get_or, set, refl, sym, ◌∙◌, ap, subst, append_assoc, arith}
use Rattle.std.specs.List.{All, AllByRecursion, remove}
use Rattle.std.proofs.lemmas.List.Elements.{recursion_from_All, All-from_recursion}
use Rattle.std.proofs.Math.ListN.{length-append}
use Rattle.std.proofs.lemmas.Bool.Decides.{nat_tests}
use Rattle.mm_base.specs.Outside.{RoseBy}
use Rattle.mm_base.specs.Memory.{CallCount, CountsCall, RecorderState, MemoryFailed}
use Rattle.mm_base.specs.Recorder.{Log, begun_with, heard_with, StartsWith, IsPart, HasHeard, HasFailed, SplitInOrder, none_left, one_stays, one_lost, CallsEach}
use Rattle.mm_base.proofs.SinkLemmas.{append_nil}

-- ## Parts of logs

pub part_same : (logs : List Log) → IsPart logs logs
part_same [] = tt
part_same (log ∷ []) = (refl, ([], sym (append_nil log.bytes)))
part_same (log ∷ (next ∷ logs)) = (refl, part_same (next ∷ logs))

pub part_begun : (name : List ℕ) (logs : List Log) → IsPart logs (begun_with name logs)
part_begun name [] = tt
part_begun name (log ∷ []) = (refl, ([], sym (append_nil log.bytes)))
part_begun name (log ∷ (next ∷ logs)) = (refl, part_begun name (next ∷ logs))

-- more of a piece is heard
pub part_longer : (piece front : List ℕ) → StartsWith piece front → (logs : List Log) → IsPart (heard_with front logs) (heard_with piece logs)
part_longer piece front starts [] = tt
part_longer piece front starts (log ∷ []) = (refl, (starts.0, ap (λ p. log.bytes ++ p) starts.1 ∙ sym (append_assoc log.bytes front starts.0)))
part_longer piece front starts (log ∷ (next ∷ [])) = (refl, part_longer piece front starts (next ∷ []))
part_longer piece front starts (log ∷ (next ∷ (third ∷ logs))) = (refl, part_longer piece front starts (next ∷ (third ∷ logs)))

pub heard_nothing : (logs : List Log) → heard_with [] logs ≡ logs
heard_nothing [] = refl
heard_nothing (log ∷ []) = ap (λ b. record { name = log.name; bytes = b } ∷ []) (append_nil log.bytes)
heard_nothing (log ∷ (next ∷ logs)) = ap (λ ls. log ∷ ls) (heard_nothing (next ∷ logs))

pub part_heard : (piece : List ℕ) (logs : List Log) → IsPart logs (heard_with piece logs)
part_heard piece logs = subst (λ ls. IsPart ls (heard_with piece logs)) (heard_nothing logs) (part_longer piece [] (piece, refl) logs)

-- ## Calls on each recorder

module _ {R : Type 0} (Stays Lost : R → R → Type 0) where
  split_stays : (rs live gone : List R) (r now : R) → SplitInOrder Stays Lost rs live gone → Stays r now → SplitInOrder Stays Lost (rs ++ r ∷ []) (live ++ now ∷ []) gone
  split_stays rs live gone r now none_left h = one_stays r now [] [] [] h none_left
  split_stays rs live gone r now (one_stays a b xs ys zs k rest) h = one_stays a b _ _ _ k (split_stays xs ys zs r now rest h)
  split_stays rs live gone r now (one_lost a b xs ys zs k rest) h = one_lost a b _ _ _ k (split_stays xs ys zs r now rest h)

  split_lost : (rs live gone : List R) (r now : R) → SplitInOrder Stays Lost rs live gone → Lost r now → SplitInOrder Stays Lost (rs ++ r ∷ []) live (gone ++ now ∷ [])
  split_lost rs live gone r now none_left h = one_lost r now [] [] [] h none_left
  split_lost rs live gone r now (one_stays a b xs ys zs k rest) h = one_stays a b _ _ _ k (split_lost xs ys zs r now rest h)
  split_lost rs live gone r now (one_lost a b xs ys zs k rest) h = one_lost a b _ _ _ k (split_lost xs ys zs r now rest h)

-- what is lost goes behind the others
pub record AreSplit {R : Type 0} (Stays Lost : R → R → Type 0) (whole others live lost : List R) : Type 0 where
  pub gone : List R
  pub lost_is : lost ≡ others ++ gone
  pub split : SplitInOrder Stays Lost whole live gone

-- How far the calls have come: the first recorders are split, and the rest is as it was.
pub record Passed {R : Type 0} (Stays Lost : R → R → Type 0) (Before After : R → Type 0) (whole live others lost : List R) (i : ℕ) : Type 0 where
  pub front : List R
  pub done : List R
  pub rest : List R
  pub gone : List R
  pub whole_is : whole ≡ front ++ rest
  pub live_is : live ≡ done ++ rest
  pub lost_is : lost ≡ others ++ gone
  pub here : length done ≡ i
  pub split : SplitInOrder Stays Lost front done gone
  pub after : AllByRecursion After done
  pub before : AllByRecursion Before rest

-- ## A list at a place

set_at : {R : Type 0} (done rest : List R) (r now : R) → set (done ++ r ∷ rest) (length done) now ≡ done ++ now ∷ rest
set_at [] rest r now = refl
set_at (x ∷ done) rest r now = ap (λ xs. x ∷ xs) (set_at done rest r now)

get_at : {R : Type 0} (done rest : List R) (r d : R) → get_or (done ++ r ∷ rest) (length done) d ≡ r
get_at [] rest r d = refl
get_at (x ∷ done) rest r d = get_at done rest r d

remove_at : {R : Type 0} (done rest : List R) (r : R) → remove (done ++ r ∷ rest) (length done) ≡ done ++ rest
remove_at [] rest r = refl
remove_at (x ∷ done) rest r = ap (λ xs. x ∷ xs) (remove_at done rest r)

every_more : {R : Type 0} (P : R → Type 0) (xs : List R) (x : R) → AllByRecursion P xs → P x → AllByRecursion P (xs ++ x ∷ [])
every_more P [] x h p = (p, tt)
every_more P (y ∷ xs) x h p = (h.0, every_more P xs x h.1 p)

move_over : {R : Type 0} (front rest : List R) (r : R) → front ++ (r ∷ rest) ≡ (front ++ r ∷ []) ++ rest
move_over front rest r = sym (append_assoc front (r ∷ []) rest)

-- ## The calls one after another

module _ {R : Type 0} (Stays Lost : R → R → Type 0) (Before After : R → Type 0) (whole others : List R) where
  pub passed_none : (lost : List R) → lost ≡ others → All Before whole → Passed Stays Lost Before After whole whole others lost 0
  passed_none lost same h = record {
    front = [];
    done = [];
    rest = whole;
    gone = [];
    whole_is = refl;
    live_is = refl;
    lost_is = same ∙ sym (append_nil others);
    here = refl;
    split = none_left;
    after = tt;
    before = recursion_from_All Before whole h;
  }

  -- the next one, before its call
  pub passed_next : (live lost : List R) (i : ℕ) (d : R) → Passed Stays Lost Before After whole live others lost i → i < length live → Before (get_or live i d)
  passed_next live lost i d p h = at p.rest p.live_is p.before where
    at : (rest : List R) → live ≡ p.done ++ rest → AllByRecursion Before rest → Before (get_or live i d)
    at [] is before = let n : length live ≡ length p.done + 0 = ap length is ∙ length-append p.done [] in absurd (omega (arith, n, p.here))
    at (r ∷ rest) is before = subst (λ i. Before (get_or live i d)) p.here (subst (λ xs. Before (get_or xs (length p.done) d)) (sym is) (subst Before (sym (get_at p.done rest r d)) before.0))

  -- it stays live
  pub passed_stays : (live lost : List R) (i : ℕ) (d now : R) → Passed Stays Lost Before After whole live others lost i → i < length live → Stays (get_or live i d) now → After now
      → Passed Stays Lost Before After whole (set live i now) others lost (i + 1)
  passed_stays live lost i d now p h k after = at p.rest p.whole_is p.live_is p.before where
    at : (rest : List R) → whole ≡ p.front ++ rest → live ≡ p.done ++ rest → AllByRecursion Before rest → Passed Stays Lost Before After whole (set live i now) others lost (i + 1)
    at [] whole_is is before = let n : length live ≡ length p.done + 0 = ap length is ∙ length-append p.done [] in absurd (omega (arith, n, p.here))
    at (r ∷ rest) whole_is is before =
        let same : get_or live i d ≡ r = rw (is, ← p.here) (get_at p.done rest r d) in
        record {
          front = p.front ++ r ∷ [];
          done = p.done ++ now ∷ [];
          rest = rest;
          gone = p.gone;
          whole_is = whole_is ∙ move_over p.front rest r;
          live_is = rw (is, ← p.here) (set_at p.done rest r now ∙ move_over p.done rest now);
          lost_is = p.lost_is;
          here = length-append p.done (now ∷ []) ∙ ap (λ n. n + 1) p.here;
          split = split_stays Stays Lost p.front p.done p.gone r now p.split (subst (λ x. Stays x now) same k);
          after = every_more After p.done now p.after after;
          before = before.1;
        }

  -- it is lost
  pub passed_lost : (live lost : List R) (i : ℕ) (d now gone : R) → Passed Stays Lost Before After whole live others lost i → i < length live → Lost (get_or live i d) now
      → gone ≡ get_or (set live i now) i gone → Passed Stays Lost Before After whole (remove (set live i now) i) others (lost ++ gone ∷ []) i
  passed_lost live lost i d now gone p h k is = subst (λ g. Passed Stays Lost Before After whole (remove (set live i now) i) others (lost ++ g ∷ []) i) (sym (is ∙ get_or-set_same live i now gone h)) (at p.rest p.whole_is p.live_is p.before) where
    at : (rest : List R) → whole ≡ p.front ++ rest → live ≡ p.done ++ rest → AllByRecursion Before rest → Passed Stays Lost Before After whole (remove (set live i now) i) others (lost ++ now ∷ []) i
    at [] whole_is is before = let n : length live ≡ length p.done + 0 = ap length is ∙ length-append p.done [] in absurd (omega (arith, n, p.here))
    at (r ∷ rest) whole_is is before =
        let same : get_or live i d ≡ r = rw (is, ← p.here) (get_at p.done rest r d) in
        record {
          front = p.front ++ r ∷ [];
          done = p.done;
          rest = rest;
          gone = p.gone ++ now ∷ [];
          whole_is = whole_is ∙ move_over p.front rest r;
          live_is = rw (is, ← p.here) (ap (λ xs. remove xs (length p.done)) (set_at p.done rest r now) ∙ remove_at p.done rest now);
          lost_is = ap (λ xs. xs ++ now ∷ []) p.lost_is ∙ append_assoc others p.gone (now ∷ []);
          here = p.here;
          split = split_lost Stays Lost p.front p.done p.gone r now p.split (subst (λ x. Lost x now) same k);
          after = p.after;
          before = before.1;
        }

  -- no one is left
  pub passed_all : (live lost : List R) (i : ℕ) → Passed Stays Lost Before After whole live others lost i → length live ≤ i
      → All After live × AreSplit Stays Lost whole others live lost
  passed_all live lost i p h = at p.rest p.whole_is p.live_is where
    at : (rest : List R) → whole ≡ p.front ++ rest → live ≡ p.done ++ rest → All After live × AreSplit Stays Lost whole others live lost
    at [] whole_is is =
        let same : live ≡ p.done = is ∙ append_nil p.done in
        let all : whole ≡ p.front = whole_is ∙ append_nil p.front in
        (All-from_recursion After live (subst (AllByRecursion After) (sym same) p.after), record { gone = p.gone; lost_is = p.lost_is; split = subst (λ w. SplitInOrder Stays Lost w live p.gone) (sym all) (subst (λ l. SplitInOrder Stays Lost p.front l p.gone) (sym same) p.split) })
    at (r ∷ rest) whole_is is = let n : length live ≡ length p.done + length (r ∷ rest) = ap length is ∙ length-append p.done (r ∷ rest) in absurd (omega (arith, n, p.here))

-- ## A call that fails

pub is_failed : {A E : Type 0} (r : Result A E) (b : Bool) → b ≡ is_ok r → b ≡ false → is_err r ≡ true
is_failed (Ok a) b is not = absurd (true≢false (sym is ∙ not))
is_failed (Err e) b is not = refl

pub grows_none : (old new : List Log) → new ≡ old → IsPart old new
grows_none old new is = subst (IsPart old) (sym is) (part_same old)

pub part_none : (after : List Log → List Log) (old new : List Log) → new ≡ old → IsPart old (after old) → IsPart new (after old)
part_none after old new is grows = subst (λ ls. IsPart ls (after old)) (sym is) grows

pub grows_heard : (front : List ℕ) (old new : List Log) → new ≡ heard_with front old → IsPart old new
grows_heard front old new is = subst (IsPart old) (sym is) (part_heard front old)

pub part_of_heard : (piece front : List ℕ) (old new : List Log) → StartsWith piece front → new ≡ heard_with front old → IsPart new (heard_with piece old)
part_of_heard piece front old new starts is = subst (λ ls. IsPart ls (heard_with piece old)) (sym is) (part_longer piece front starts old)

-- ## Where nothing is called

heard_none : {R : Type 0} (tells : R → Bool) (logs : R → List Log) (faults : R → ℕ) (r : R) → HasHeard tells logs faults (λ ls. ls) r r
heard_none tells logs faults r = record { told = λ t. t; whole = λ t. refl; stays = refl }

all_stay : {R : Type 0} (Stays Lost : R → R → Type 0) → ((r : R) → Stays r r) → (rs : List R) → SplitInOrder Stays Lost rs rs []
all_stay Stays Lost h [] = none_left
all_stay Stays Lost h (r ∷ rs) = one_stays r r rs rs [] (h r) (all_stay Stays Lost h rs)

pub no_calls : {R : Type 0} (tells : R → Bool) (logs : R → List Log) (faults : R → ℕ) (live lost : List R) → CallsEach tells logs faults (λ ls. ls) live lost live lost
no_calls tells logs faults live lost = record {
  gone = [];
  lost_is = sym (append_nil lost);
  split = all_stay (HasHeard tells logs faults (λ ls. ls)) (HasFailed tells logs faults (λ ls. ls)) (heard_none tells logs faults) live;
}

-- ## A recorder in memory that fails

counted : (n : ℕ) (b : Bool) → nat_lt n 18446744073709551615 ≡ b → (n ≤ (if b then n + 1 else n)) × RoseBy 1 n (if b then n + 1 else n)
counted n true is = (omega arith, omega arith)
counted n false is = (omega arith, grind (arith, nat_tests))

pub memory_failed : (after : List Log → List Log) (old : RecorderState) (calls : CallCount) → CountsCall old.calls calls true → ((ls : List Log) → IsPart ls (after ls))
    → MemoryFailed after old (record { kept = old.kept; begun = old.begun; calls = calls })
memory_failed after old calls counts grows =
    let n = old.calls.faults in
    let h = counted n (nat_lt n 18446744073709551615) refl in
    record {
      told = λ t. t;
      grows = λ t. part_same old.kept.logs;
      part = λ t. grows old.kept.logs;
      never_falls = subst (λ m. n ≤ m) (sym counts.faults) h.0;
      rose = subst (λ m. RoseBy 1 n m) (sym counts.faults) h.1;
    }
