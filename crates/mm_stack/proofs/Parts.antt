-- Results and entries in one buffer.
use Rattle.std.proofs.Common.{◌≡◌, ◌≤◌, ◌<◌, ◌+◌, ℕ, zero, suc, List, [], ◌∷◌, ◌++◌, length, take, drop, map, get_or, refl, ap, sym, ◌∙◌, arith, length-append, subst}
use Rattle.std.specs.Prelude.{slice_range}
use Rattle.std.specs.List.{AllByRecursion}
use Rattle.std.proofs.lemmas.Slice.{between_is}
use Rattle.std.proofs.lemmas.List.{take-take, take_at, take-map, map-append, get_or-map, get_or_past, get_or_append_left, length-map, append-nil}
use Rattle.std.proofs.Math.Seq.{get_or-append_seam}
use Rattle.mm_stack.specs.Entries.{symbols_of, results_in, result_at, entries_in, IsPart, AreKept}
use Rattle.mm_stack.specs.Running.{Progress, pushing}
use Rattle.mm_stack.specs.declared.stack.Part.{Part}

abbrev pub none : Part
none = record { start = 0; end = 0 }

-- the part of a buffer up to a place depends on no later symbol
range_up_to : (ss : List ℕ) (from to n : ℕ) → to ≤ n → slice_range ss from to ≡ slice_range (take n ss) from to
range_up_to ss from to n g =
    between_is ss from to ∙ ap (drop from) (sym (take-take to n ss g)) ∙ sym (between_is (take n ss) from to)

range_longer : (ss more : List ℕ) (from to : ℕ) → to ≤ length ss → slice_range (ss ++ more) from to ≡ slice_range ss from to
range_longer ss more from to h = range_up_to (ss ++ more) from to (length ss) h ∙ ap (λ xs. slice_range xs from to) (take_at ss more (length ss) refl)

-- where symbols are appended
pub results_longer : (ss more : List ℕ) (ps : List Part) → AllByRecursion (IsPart (length ss)) ps → results_in (ss ++ more) ps ≡ results_in ss ps
results_longer ss more [] h = refl
results_longer ss more (p ∷ ps) h =
    ap (λ e. e ∷ results_in (ss ++ more) ps) (range_longer ss more p.start p.end h.0.1) ∙ ap (λ es. symbols_of ss p ∷ es) (results_longer ss more ps h.1)

pub parts_fit : (n m : ℕ) (ps : List Part) → n ≤ m → AllByRecursion (IsPart n) ps → AllByRecursion (IsPart m) ps
parts_fit n m [] le h = tt
parts_fit n m (p ∷ ps) le h = ((h.0.0, omega (arith, h.0.1)), parts_fit n m ps le h.1)

pub all_more : {X : Type 0} (P : X → Type 0) (xs : List X) (x : X) → AllByRecursion P xs → P x → AllByRecursion P (xs ++ x ∷ [])
all_more P [] x h hx = (hx, tt)
all_more P (y ∷ ys) x h hx = (h.0, all_more P ys x h.1 hx)

pub all_taken : {X : Type 0} (P : X → Type 0) (n : ℕ) (xs : List X) → AllByRecursion P xs → AllByRecursion P (take n xs)
all_taken P zero xs h = tt
all_taken P (suc n) [] h = tt
all_taken P (suc n) (x ∷ xs) h = (h.0, all_taken P n xs h.1)

pub all_at : {X : Type 0} (P : X → Type 0) (xs : List X) (k : ℕ) (d : X) → AllByRecursion P xs → k < length xs → P (get_or xs k d)
all_at P [] k d h lt = absurd (omega arith)
all_at P (x ∷ xs) zero d h lt = h.0
all_at P (x ∷ xs) (suc k) d h lt = all_at P xs k d h.1 (omega arith)

pub numbers_fit : (n m : ℕ) (ks : List ℕ) → n ≤ m → AllByRecursion (λ k. k < n) ks → AllByRecursion (λ k. k < m) ks
numbers_fit n m [] le h = tt
numbers_fit n m (k ∷ ks) le h = (omega (arith, h.0), numbers_fit n m ks le h.1)

-- where a result is appended
pub entries_longer : (rs : List (List ℕ)) (e : List ℕ) (ks : List ℕ) → AllByRecursion (λ k. k < length rs) ks → entries_in (rs ++ e ∷ []) ks ≡ entries_in rs ks
entries_longer rs e [] h = refl
entries_longer rs e (k ∷ ks) h =
    ap (λ x. x ∷ entries_in (rs ++ e ∷ []) ks) (get_or_append_left rs (e ∷ []) [] k h.0) ∙ ap (λ es. result_at rs k ∷ es) (entries_longer rs e ks h.1)

-- a result more is an entry more
pub entries_more : (rs : List (List ℕ)) (e : List ℕ) (ks : List ℕ) (n : ℕ) → n ≡ length rs → AllByRecursion (λ k. k < length rs) ks
    → entries_in (rs ++ e ∷ []) (ks ++ n ∷ []) ≡ entries_in rs ks ++ e ∷ []
entries_more rs e ks n is h =
    map-append (result_at (rs ++ e ∷ [])) ks (n ∷ [])
    ∙ ap (λ es. es ++ result_at (rs ++ e ∷ []) n ∷ []) (entries_longer rs e ks h)
    ∙ ap (λ x. entries_in rs ks ++ x ∷ []) (ap (λ k. result_at (rs ++ e ∷ []) k) is ∙ get_or-append_seam rs e [] [])

-- the part with a number is a part of the buffer
pub part_is : (ss : List ℕ) (ps : List Part) (k : ℕ) → AllByRecursion (IsPart (length ss)) ps → IsPart (length ss) (get_or ps k none)
part_is ss [] k h = (omega arith, omega arith)
part_is ss (p ∷ ps) zero h = h.0
part_is ss (p ∷ ps) (suc k) h = part_is ss ps k h.1

-- and has the symbols of that result
pub part_symbols : (ss : List ℕ) (ps : List Part) (k : ℕ) → symbols_of ss (get_or ps k none) ≡ result_at (results_in ss ps) k
part_symbols ss [] k = refl
part_symbols ss (p ∷ ps) zero = refl
part_symbols ss (p ∷ ps) (suc k) = part_symbols ss ps k

-- the last part, behind all symbols that were there
pub last_symbols : (ss e : List ℕ) → slice_range (ss ++ e) (length ss) (length (ss ++ e)) ≡ e
last_symbols ss e = between_is (ss ++ e) (length ss) (length (ss ++ e)) ∙ by ss e
  where
    whole : (xs : List ℕ) → take (length xs) xs ≡ xs
    whole [] = refl
    whole (x ∷ xs) = ap (λ ys. x ∷ ys) (whole xs)

    dropped : (xs ys : List ℕ) → drop (length xs) (xs ++ ys) ≡ ys
    dropped [] ys = refl
    dropped (x ∷ xs) ys = dropped xs ys

    by : (xs ys : List ℕ) → drop (length xs) (take (length (xs ++ ys)) (xs ++ ys)) ≡ ys
    by xs ys = ap (drop (length xs)) (whole (xs ++ ys)) ∙ dropped xs ys

-- one part more
pub results_more : (ss more : List ℕ) (ps : List Part) (p : Part) → AllByRecursion (IsPart (length ss)) ps → results_in (ss ++ more) (ps ++ p ∷ []) ≡ results_in ss ps ++ symbols_of (ss ++ more) p ∷ []
results_more ss more ps p h = map-append (symbols_of (ss ++ more)) ps (p ∷ []) ∙ ap (λ rs. rs ++ symbols_of (ss ++ more) p ∷ []) (results_longer ss more ps h)

pub entries_taken : (rs : List (List ℕ)) (n : ℕ) (ks : List ℕ) → entries_in rs (take n ks) ≡ take n (entries_in rs ks)
entries_taken rs n ks = sym (take-map (result_at rs) n ks)

counted : (ss : List ℕ) (ps : List Part) → length (results_in ss ps) ≡ length ps
counted ss ps = length-map ps (symbols_of ss)

numbered : (ss : List ℕ) (ps : List Part) (ks : List ℕ) → AreKept ss ps ks → AllByRecursion (λ k. k < length (results_in ss ps)) ks
numbered ss ps ks kept = numbers_fit (length ps) (length (results_in ss ps)) ks (omega (arith, counted ss ps)) kept.own_numbers

-- where a run stands, by the buffer
abbrev stood : List ℕ → List Part → List ℕ → Progress
stood ss ps ks = record { stack = entries_in (results_in ss ps) ks; results = results_in ss ps }

-- one part more, which is the newest entry
part_more : (ss more : List ℕ) (ps : List Part) (p : Part) (ks : List ℕ) (e : List ℕ) → AreKept ss ps ks → symbols_of (ss ++ more) p ≡ e
    → stood (ss ++ more) (ps ++ p ∷ []) (ks ++ length ps ∷ []) ≡ pushing (stood ss ps ks) e
part_more ss more ps p ks e kept is =
    let rs : List (List ℕ) = results_in ss ps in
    let results : results_in (ss ++ more) (ps ++ p ∷ []) ≡ rs ++ e ∷ [] = results_more ss more ps p kept.own_parts ∙ ap (λ x. rs ++ x ∷ []) is in
    ap (λ xs. record { stack = entries_in xs (ks ++ length ps ∷ []); results = xs }) results
    ∙ ap (λ xs. record { stack = xs; results = rs ++ e ∷ [] }) (entries_more rs e ks (length ps) (sym (counted ss ps)) (numbered ss ps ks kept))

part_kept : (ss more : List ℕ) (ps : List Part) (p : Part) (ks : List ℕ) → AreKept ss ps ks → IsPart (length (ss ++ more)) p → AreKept (ss ++ more) (ps ++ p ∷ []) (ks ++ length ps ∷ [])
part_kept ss more ps p ks kept is = record {
  own_parts = all_more (IsPart (length (ss ++ more))) ps p (parts_fit (length ss) (length (ss ++ more)) ps (omega (arith, length-append ss more)) kept.own_parts) is;
  own_numbers = all_more (λ k. k < length (ps ++ p ∷ [])) ks (length ps) (numbers_fit (length ps) (length (ps ++ p ∷ [])) ks (omega (arith, length-append ps (p ∷ []))) kept.own_numbers)
      (omega (arith, length-append ps (p ∷ [])));
}

-- symbols that are laid behind all others
abbrev laid_part : List ℕ → List ℕ → Part
laid_part ss e = record { start = length ss; end = length (ss ++ e) }

pub laid : (ss e : List ℕ) (ps : List Part) (ks : List ℕ) → AreKept ss ps ks → stood (ss ++ e) (ps ++ laid_part ss e ∷ []) (ks ++ length ps ∷ []) ≡ pushing (stood ss ps ks) e
laid ss e ps ks kept = part_more ss e ps (laid_part ss e) ks e kept (last_symbols ss e)

pub laid_kept : (ss e : List ℕ) (ps : List Part) (ks : List ℕ) → AreKept ss ps ks → AreKept (ss ++ e) (ps ++ laid_part ss e ∷ []) (ks ++ length ps ∷ [])
laid_kept ss e ps ks kept = part_kept ss e ps (laid_part ss e) ks kept (omega (arith, length-append ss e), omega arith)

-- a part once more
pub again : (ss : List ℕ) (ps : List Part) (ks : List ℕ) (n : ℕ) → AreKept ss ps ks
    → stood ss (ps ++ get_or ps n none ∷ []) (ks ++ length ps ∷ []) ≡ pushing (stood ss ps ks) (result_at (results_in ss ps) n)
again ss ps ks n kept =
    ap (λ xs. stood xs (ps ++ get_or ps n none ∷ []) (ks ++ length ps ∷ [])) (sym (append-nil ss))
    ∙ part_more ss [] ps (get_or ps n none) ks (result_at (results_in ss ps) n) kept (ap (λ xs. symbols_of xs (get_or ps n none)) (append-nil ss) ∙ part_symbols ss ps n)

pub again_kept : (ss : List ℕ) (ps : List Part) (ks : List ℕ) (n : ℕ) → AreKept ss ps ks → AreKept ss (ps ++ get_or ps n none ∷ []) (ks ++ length ps ∷ [])
again_kept ss ps ks n kept =
    subst (λ xs. AreKept xs (ps ++ get_or ps n none ∷ []) (ks ++ length ps ∷ [])) (append-nil ss)
    (part_kept ss [] ps (get_or ps n none) ks kept (subst (λ xs. IsPart (length xs) (get_or ps n none)) (sym (append-nil ss)) (part_is ss ps n kept.own_parts)))

pub more_kept : (ss : List ℕ) (ps : List Part) (ks : List ℕ) (n : ℕ) → AreKept ss ps ks → AreKept ss (ps ++ get_or ps n none ∷ []) ks
more_kept ss ps ks n kept = record {
  own_parts = all_more (IsPart (length ss)) ps (get_or ps n none) kept.own_parts (part_is ss ps n kept.own_parts);
  own_numbers = numbers_fit (length ps) (length (ps ++ get_or ps n none ∷ [])) ks (omega (arith, length-append ps (get_or ps n none ∷ []))) kept.own_numbers;
}
