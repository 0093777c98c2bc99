-- What the parts of a pattern stand for, by their segments.
use Rattle.std.proofs.Common.{◌≡◌, ◌≤◌, ◌<◌, ◌+◌, ◌-◌, ◌==◌, ◌&&◌, ◌||◌, ◌⊎◌, nat_le, ℕ, zero, suc, Bool, true, false, List, [], ◌∷◌, ◌++◌, length, take, drop, get_or, length-drop, eqb-true, inl, inr, refl, sym, ◌∙◌, ap, subst, arith, true≢false, Option, None, Some, IfNone, IfSome}
use Rattle.std.specs.List.{list_any, slice_split}
use Rattle.std.proofs.lemmas.Bool.{cases_lt, false_from_ne_true}
use Rattle.std.proofs.lemmas.Bool.Decides.{nat_tests}
use Rattle.std.proofs.lemmas.List.{take_all, length-take-le}
use Rattle.memchr.specs.Find.{IsFirstByte, is_byte}
use Rattle.mm_trace.specs.Patterns.{suffixes, is_like, next_like, is_star, is_comma, spells, matches}
use Rattle.mm_trace.specs.Segments.{begins, ends, IsCut, IsFirst, IsNowhere}

neither : (a b : Bool) → (a || b) ≡ false → (a ≡ false) × (b ≡ false)
neither true b h = absurd (true≢false h)
neither false b h = (refl, h)

pub both : (a b : Bool) → (a && b) ≡ true → (a ≡ true) × (b ≡ true)
both true b h = (refl, h)
both false b h = absurd (true≢false (sym h))

-- a test of what is left behind a byte, in two parts
next_both : (p : ℕ) (text : List ℕ) (f g h : List ℕ → Bool) → ((t : List ℕ) → f t ≡ (g t && h t)) → next_like p text f ≡ (next_like p text g && h (drop 1 text))
next_both p [] f g h e = refl
next_both p (b ∷ t) f g h e = ap (λ (x : Bool). is_like p b && x) (e t) ∙ assoc (is_like p b) (g t) (h t) where
  assoc : (a b c : Bool) → (a && (b && c)) ≡ ((a && b) && c)
  assoc true b c = refl
  assoc false b c = refl

drop_one : (n : ℕ) (text : List ℕ) → drop n (drop 1 text) ≡ drop (suc n) text
drop_one n [] = at n where
  at : (n : ℕ) → drop n (let xs : List ℕ = [] in xs) ≡ []
  at zero = refl
  at (suc n) = refl
drop_one n (b ∷ t) = refl

-- ## Segments

-- bytes without `*` in front of another part stand for bytes like them, and then for what the other stands for
pub spells_front : (front rest text : List ℕ) → list_any is_star front ≡ false → spells (front ++ rest) text ≡ (begins front text && spells rest (drop (length front) text))
unfolding spells begins
spells_front [] rest text free = refl
spells_front (p ∷ front) rest text free =
    let h = neither (is_star p) (list_any is_star front) free in
    let step : next_like p text (spells (front ++ rest)) ≡ (next_like p text (begins front) && spells rest (drop (length front) (drop 1 text))) =
    next_both p text (spells (front ++ rest)) (begins front) (λ t. spells rest (drop (length front) t)) (λ t. spells_front front rest t h.1) in
    rw h.0 (step ∙ ap (λ (t : List ℕ). next_like p text (begins front) && spells rest t) (drop_one (length front) text))

-- ## Where a part is cut

pub whole_rest : (n : ℕ) (xs : List ℕ) → take (length xs - n) (drop n xs) ≡ drop n xs
whole_rest n xs = take_all (length xs - n) (drop n xs) (omega (arith, length-drop n xs))

cut_at : (c : ℕ) (xs : List ℕ) (i : ℕ) → i < length xs → (get_or xs i 0 == c) ≡ true → ((k : ℕ) → k < i → (get_or xs k 0 == c) ≡ false) → IsCut c xs (take i xs) (Some (drop (i + 1) xs))
cut_at c [] i lt at none = absurd (omega (arith, lt))
cut_at c (x ∷ xs) zero lt at none = record { free = refl; whole = ap (λ (b : ℕ). b ∷ xs) (eqb-true x c at) }
cut_at c (x ∷ xs) (suc i) lt at none =
    let more = cut_at c xs i (omega arith) at (λ k below. none (suc k) (omega arith)) in
    let step : drop (suc i + 1) (x ∷ xs) ≡ drop (i + 1) xs = (let e : suc i + 1 ≡ suc (i + 1) = omega arith in rw e refl) in
    record { free = rw (none 0 (omega arith)) more.free; whole = ap (λ (t : List ℕ). x ∷ t) (more.whole ∙ ap (λ (t : List ℕ). take i xs ++ c ∷ t) (sym step)) }

free_of : (c : ℕ) (xs : List ℕ) → ((k : ℕ) → k < length xs → (get_or xs k 0 == c) ≡ false) → list_any (λ b. b == c) xs ≡ false
free_of c [] none = refl
free_of c (x ∷ xs) none = rw (none 0 (omega arith)) (free_of c xs (λ k lt. none (suc k) (omega arith)))

pub finds_none : (c : ℕ) (bytes : List ℕ) (r : Option ℕ) → IsFirstByte (is_byte c) bytes r → IfNone r (IsCut c bytes bytes None)
finds_none c bytes None h = record { free = free_of c bytes (λ k below. false_from_ne_true _ (h k (omega arith) below)); whole = refl }
finds_none c bytes (Some i) h = tt

pub finds_some : (c : ℕ) (bytes : List ℕ) (r : Option ℕ) → IsFirstByte (is_byte c) bytes r → IfSome r (λ at. IsCut c bytes (take at bytes) (Some (drop (at + 1) bytes)))
finds_some c bytes None h = tt
finds_some c bytes (Some i) h = cut_at c bytes i h.0.high h.1 (λ k below. false_from_ne_true _ (h.0.before k (omega arith) below))

pub finds_within : (c : ℕ) (bytes : List ℕ) (r : Option ℕ) → IsFirstByte (is_byte c) bytes r → IfSome r (λ at. at < length bytes)
finds_within c bytes None h = tt
finds_within c bytes (Some i) h = h.0.high

-- ## Of a pattern

split_free : (xs : List ℕ) → list_any is_comma xs ≡ false → slice_split is_comma xs ≡ xs ∷ []
split_free [] free = refl
split_free (x ∷ xs) free = let h = neither (is_comma x) (list_any is_comma xs) free in rw h.0 (rw (split_free xs h.1) refl)

split_cut : (front rest : List ℕ) → list_any is_comma front ≡ false → slice_split is_comma (front ++ 44 ∷ rest) ≡ front ∷ slice_split is_comma rest
split_cut [] rest free = refl
split_cut (x ∷ front) rest free = let h = neither (is_comma x) (list_any is_comma front) free in rw h.0 (rw (split_cut front rest h.1) refl)

-- whether a part behind a comma matches
abbrev pub matches_behind : Option (List ℕ) → List ℕ → Bool
matches_behind None label = false
matches_behind (Some rest) label = matches rest label

-- a pattern matches by its first part or by a later one
pub matches_cut : (pattern part : List ℕ) (rest : Option (List ℕ)) (label : List ℕ) → IsCut 44 pattern part rest → matches pattern label ≡ (spells part label || matches_behind rest label)
matches_cut pattern part None label h = ap (λ (p : List ℕ). matches p label) h.whole ∙ rw (split_free part h.free) refl
matches_cut pattern part (Some rest) label h = ap (λ (p : List ℕ). matches p label) h.whole ∙ rw (split_cut part rest h.free) refl

-- ## Of a cut part

append_none : (xs : List ℕ) → xs ++ [] ≡ xs
append_none [] = refl
append_none (x ∷ xs) = ap (λ (t : List ℕ). x ∷ t) (append_none xs)

-- what stands behind the front of a part
abbrev pub spells_behind : Option (List ℕ) → List ℕ → Bool
spells_behind None text = spells [] text
spells_behind (Some rest) text = list_any (spells rest) (suffixes text)

pub spells_cut : (part front : List ℕ) (rest : Option (List ℕ)) (text : List ℕ) → IsCut 42 part front rest → spells part text ≡ (begins front text && spells_behind rest (drop (length front) text))
unfolding spells
spells_cut part front None text h =
    ap (λ (p : List ℕ). spells p text) (h.whole ∙ sym (append_none front)) ∙ spells_front front [] text h.free
spells_cut part front (Some rest) text h = ap (λ (p : List ℕ). spells p text) h.whole ∙ spells_front front (42 ∷ rest) text h.free

pub begins_short : (front text : List ℕ) → begins front text ≡ true → length front ≤ length text
unfolding begins
begins_short [] text h = omega arith
begins_short (p ∷ front) [] h = absurd (true≢false (sym h))
begins_short (p ∷ front) (b ∷ text) h = let more = begins_short front text (both (is_like p b) (begins front text) h).1 in omega (arith, more)

-- nothing is left of a text exactly where so many bytes are taken off it
spells_none : (n : ℕ) (text : List ℕ) → n ≤ length text → spells [] (drop n text) ≡ (n == length text)
unfolding spells
spells_none zero [] le = refl
spells_none zero (b ∷ text) le = let no : (0 == length (b ∷ text)) ≡ false = grind (arith, nat_tests) in sym no
spells_none (suc n) [] le = absurd (omega (arith, le))
spells_none (suc n) (b ∷ text) le =
    let same : (suc n == length (b ∷ text)) ≡ (n == length text) = grind (arith, nat_tests) in
    spells_none n text (omega (arith, le)) ∙ sym same

pub spells_whole : (part front text : List ℕ) → IsCut 42 part front None → begins front text ≡ true → spells part text ≡ (length front == length text)
spells_whole part front text h is =
    spells_cut part front None text h ∙ rw is (spells_none (length front) text (begins_short front text is))

-- where the text is seen as the front leaves it
pub spells_some : (part front rest text left : List ℕ) → IsCut 42 part front (Some rest) → begins front text ≡ true → left ≡ take (length text - length front) (drop (length front) text)
    → spells part text ≡ list_any (spells rest) (suffixes left)
spells_some part front rest text left h is e =
    spells_cut part front (Some rest) text h ∙ rw is (ap (λ (t : List ℕ). list_any (spells rest) (suffixes t)) (sym (e ∙ whole_rest (length front) text)))

pub spells_not : (part front : List ℕ) (rest : Option (List ℕ)) (text : List ℕ) → IsCut 42 part front rest → begins front text ≡ false → spells part text ≡ false
spells_not part front rest text h is = spells_cut part front rest text h ∙ rw is refl

-- ## Behind a `*`

pub same_by : (a b : Bool) → (a ≡ true → b ≡ true) → (b ≡ true → a ≡ true) → a ≡ b
same_by true b f g = sym (f refl)
same_by false true f g = g refl
same_by false false f g = refl

pub one_of : (a b : Bool) → (a || b) ≡ true → (a ≡ true) ⊎ (b ≡ true)
one_of true b h = inl refl
one_of false b h = inr h

pub or_true : (a b : Bool) → b ≡ true → (a || b) ≡ true
or_true true b h = refl
or_true false b h = h

at_once : (f : List ℕ → Bool) (text : List ℕ) → f text ≡ true → list_any f (suffixes text) ≡ true
at_once f [] h = rw h refl
at_once f (b ∷ text) h = rw h refl

drop_none : (n : ℕ) → drop n (let xs : List ℕ = [] in xs) ≡ []
drop_none zero = refl
drop_none (suc n) = refl

-- what holds of what is left from a later place on
later : (f : List ℕ → Bool) (n : ℕ) (text : List ℕ) → list_any f (suffixes (drop n text)) ≡ true → list_any f (suffixes text) ≡ true
later f zero text h = h
later f (suc n) [] h = h
later f (suc n) (b ∷ text) h = or_true (f (b ∷ text)) _ (later f n text h)

drop_next : (n b : ℕ) (text : List ℕ) → drop n text ≡ drop 1 (drop n (b ∷ text))
drop_next zero b text = refl
drop_next (suc n) b [] = drop_none (suc n) ∙ sym (ap (λ (t : List ℕ). drop 1 t) (drop_none n))
drop_next (suc n) b (c ∷ text) = drop_next n c text

module _ (front rest : List ℕ) (free : list_any is_star front ≡ false) where
  abbrev pub part : List ℕ
  part = front ++ 42 ∷ rest

  halves : (text : List ℕ) → spells part text ≡ true → (begins front text ≡ true) × (list_any (spells rest) (suffixes (drop (length front) text)) ≡ true)
  unfolding spells
  halves text h = both (begins front text) _ (sym (spells_front front (42 ∷ rest) text free) ∙ h)

  joins : (text : List ℕ) → begins front text ≡ true → list_any (spells rest) (suffixes (drop (length front) text)) ≡ true → spells part text ≡ true
  unfolding spells
  joins text is more = spells_front front (42 ∷ rest) text free ∙ rw is more

  -- the rest is found behind wherever the front may stand, so behind the first such place
  rest_found : (text : List ℕ) → list_any (spells part) (suffixes text) ≡ true → list_any (spells rest) (suffixes (drop (length front) text)) ≡ true
  rest_found [] h = elim (one_of (spells part []) false h) [ inl here ↦ (halves [] here).1 | inr never ↦ absurd (true≢false (sym never)) ]
  rest_found (b ∷ text) h = elim (one_of (spells part (b ∷ text)) _ h) [
    | inl here ↦ (halves (b ∷ text) here).1
    | inr there ↦ later (spells rest) 1 (drop (length front) (b ∷ text)) (subst (λ (t : List ℕ). list_any (spells rest) (suffixes t) ≡ true) (drop_next (length front) b text) (rest_found text there))
  ]

  found_behind : (at : ℕ) (text : List ℕ) → IsFirst front text at → list_any (spells part) (suffixes text) ≡ true → list_any (spells rest) (suffixes (drop (at + length front) text)) ≡ true
  found_behind zero text first h = let none : 0 + length front ≡ length front = omega arith in rw none (rest_found text h)
  found_behind (suc at) [] first h = absurd (omega (arith, first.within))
  found_behind (suc at) (b ∷ text) first h = elim (one_of (spells part (b ∷ text)) _ h) [
    | inl here ↦ absurd (true≢false (sym (halves (b ∷ text) here).0 ∙ first.before 0 (omega arith)))
    | inr there ↦ (let one : suc at + length front ≡ suc (at + length front) = omega arith in
        rw one (found_behind at text (record { within = omega (arith, first.within); there = first.there; before = λ k small. first.before (suc k) (omega (arith, small)) }) there))
  ]

  behind_found : (at : ℕ) (text : List ℕ) → IsFirst front text at → list_any (spells rest) (suffixes (drop (at + length front) text)) ≡ true → list_any (spells part) (suffixes text) ≡ true
  behind_found zero text first h =
      let none : 0 + length front ≡ length front = omega arith in
      at_once (spells part) text (joins text first.there (subst (λ (n : ℕ). list_any (spells rest) (suffixes (drop n text)) ≡ true) none h))
  behind_found (suc at) [] first h = absurd (omega (arith, first.within))
  behind_found (suc at) (b ∷ text) first h =
      let one : suc at + length front ≡ suc (at + length front) = omega arith in
      let there : list_any (spells rest) (suffixes (drop (at + length front) text)) ≡ true = subst (λ (n : ℕ). list_any (spells rest) (suffixes (drop n (b ∷ text))) ≡ true) one h in
      or_true (spells part (b ∷ text)) _ (behind_found at text (record { within = omega (arith, first.within); there = first.there; before = λ k small. first.before (suc k) (omega (arith, small)) }) there)

  -- behind a `*` the bytes up to the next one may be taken where they stand first
  pub first_is_enough : (at : ℕ) (text : List ℕ) → IsFirst front text at → list_any (spells part) (suffixes text) ≡ list_any (spells rest) (suffixes (drop (at + length front) text))
  first_is_enough at text first = same_by _ _ (found_behind at text first) (behind_found at text first)

  pub nowhere_spelled : (text : List ℕ) → IsNowhere front text → list_any (spells part) (suffixes text) ≡ false
  nowhere_spelled [] none = rw (false_from_ne_true _ (λ h. true≢false (sym (halves [] h).0 ∙ none 0 (omega arith)))) refl
  nowhere_spelled (b ∷ text) none =
      rw (false_from_ne_true _ (λ h. true≢false (sym (halves (b ∷ text) h).0 ∙ none 0 (omega arith)))) (nowhere_spelled text (λ k small. none (suc k) (omega (arith, small))))

-- ## At the end of a text

module _ (back : List ℕ) (free : list_any is_star back ≡ false) where
  whole : IsCut 42 back back None
  whole = record { free = free; whole = refl }

  ends_long : (text : List ℕ) → length text < length back → ends back text ≡ false
  ends_long text long = let no : nat_le (length back) (length text) ≡ false = grind (arith, nat_tests) in rw no refl

  ends_here : (text : List ℕ) → length back ≡ length text → ends back text ≡ begins back text
  ends_here text same =
      let yes : nat_le (length back) (length text) ≡ true = grind (arith, nat_tests) in
      let none : length text - length back ≡ 0 = omega (arith, same) in
      rw yes (rw none refl)

  ends_later : (b : ℕ) (text : List ℕ) → length back ≤ length text → ends back (b ∷ text) ≡ ends back text
  ends_later b text le =
      let yes : nat_le (length back) (length text) ≡ true = grind (arith, nat_tests) in
      let yes_too : nat_le (length back) (length (b ∷ text)) ≡ true = grind (arith, nat_tests) in
      let one : length (b ∷ text) - length back ≡ suc (length text - length back) = omega (arith, le) in
      rw yes (rw yes_too (rw one refl))

  -- a text that is longer, or shorter, is not what these bytes stand for
  not_as_long : (text : List ℕ) → (length back == length text) ≡ false → spells back text ≡ false
  not_as_long text differs = at (begins back text) refl where
    at : (x : Bool) → begins back text ≡ x → spells back text ≡ false
    at true is = spells_whole back back text whole is ∙ differs
    at false is = spells_not back back None text whole is

  as_long : (text : List ℕ) → (length back == length text) ≡ true → spells back text ≡ begins back text
  as_long text same = at (begins back text) refl where
    at : (x : Bool) → begins back text ≡ x → spells back text ≡ begins back text
    at true is = spells_whole back back text whole is ∙ (same ∙ sym is)
    at false is = spells_not back back None text whole is ∙ sym is

  pub spells_end : (text : List ℕ) → list_any (spells back) (suffixes text) ≡ ends back text
  spells_end [] = at (length back == 0) refl where
    at : (x : Bool) → (length back == 0) ≡ x → (spells back [] || false) ≡ ends back []
    at true is = (let same : length back ≡ 0 = eqb-true (length back) 0 is in rw (as_long [] is) (or_none (begins back []) ∙ sym (ends_here [] same))) where
      or_none : (a : Bool) → (a || false) ≡ a
      or_none true = refl
      or_none false = refl
    at false is = (let long : length (let xs : List ℕ = [] in xs) < length back = grind (arith, nat_tests) in rw (not_as_long [] is) (sym (ends_long [] long)))
  spells_end (b ∷ text) = elim (cases_lt (length text) (length back)) [
    | inl long ↦ at (length back == length (b ∷ text)) refl long (spells_end text)
    | inr short ↦ (let no : (length back == length (b ∷ text)) ≡ false = grind (arith, nat_tests) in rw (not_as_long (b ∷ text) no) (spells_end text ∙ sym (ends_later b text short)))
  ] where
    or_none : (a : Bool) → (a || false) ≡ a
    or_none true = refl
    or_none false = refl

    at : (x : Bool) → (length back == length (b ∷ text)) ≡ x → length text < length back → list_any (spells back) (suffixes text) ≡ ends back text → (spells back (b ∷ text) || list_any (spells back) (suffixes text)) ≡ ends back (b ∷ text)
    at true is long more =
        let same : length back ≡ length (b ∷ text) = eqb-true (length back) (length (b ∷ text)) is in
        rw (as_long (b ∷ text) is) (rw (more ∙ ends_long text long) (or_none (begins back (b ∷ text)) ∙ sym (ends_here (b ∷ text) same)))
    at false is long more =
        let longer : length (b ∷ text) < length back = grind (arith, nat_tests) in
        rw (not_as_long (b ∷ text) is) (more ∙ (ends_long text long ∙ sym (ends_long (b ∷ text) longer)))

-- ## In the words of places

-- a list up to a place within it
front_length : (at : ℕ) (bytes : List ℕ) → at < length bytes → length (take at bytes) ≡ at
front_length at bytes within = length-take-le at bytes (omega (arith, within))

-- a front that is longer than the text is not there
pub spells_long : (part text : List ℕ) (star : ℕ) (rest : Option (List ℕ)) → star < length part → IsCut 42 part (take star part) rest → length text < star → spells part text ≡ false
spells_long part text star rest within cut long =
    spells_not part (take star part) rest text cut (false_from_ne_true _ (λ is. let le = begins_short (take star part) text is in absurd (omega (arith, le, long, front_length star part within))))

pub small_left : (back : List ℕ) (star at n : ℕ) → star < length back → at + length (take star back) < n → at + star < n
small_left back star at n within lt = omega (arith, lt, front_length star back within)

pub within_left : (back left : List ℕ) (star at : ℕ) → star < length back → at + length (take star back) ≤ length left → at + star ≤ length left
within_left back left star at within le = omega (arith, le, front_length star back within)

-- a text that begins like the front of a part is what the part stands for where the rest is
pub spelled_behind : (part text rest left : List ℕ) (star : ℕ) → star < length part → IsCut 42 part (take star part) (Some (drop (star + 1) part)) → begins (take star part) text ≡ true
    → rest ≡ take (length part - (star + 1)) (drop (star + 1) part) → left ≡ take (length text - star) (drop star text) → spells part text ≡ list_any (spells rest) (suffixes left)
spelled_behind part text rest left star within cut is r l =
    let n : length (take star part) ≡ star = front_length star part within in
    spells_cut part (take star part) (Some (drop (star + 1) part)) text cut
    ∙ rw is (ap (λ (k : ℕ). list_any (spells (drop (star + 1) part)) (suffixes (drop k text))) n
    ∙ (ap (λ (t : List ℕ). list_any (spells (drop (star + 1) part)) (suffixes t)) (sym (l ∙ whole_rest star text))
    ∙ ap (λ (p : List ℕ). list_any (spells p) (suffixes left)) (sym (r ∙ whole_rest (star + 1) part))))

pub found_next : (back text rest left : List ℕ) (star at : ℕ) → star < length back → IsCut 42 back (take star back) (Some (drop (star + 1) back)) → IsFirst (take star back) text at
    → rest ≡ take (length back - (star + 1)) (drop (star + 1) back) → left ≡ take (length text - (at + star)) (drop (at + star) text)
    → list_any (spells back) (suffixes text) ≡ list_any (spells rest) (suffixes left)
found_next back text rest left star at within cut first r l =
    let n : length (take star back) ≡ star = front_length star back within in
    ap (λ (p : List ℕ). list_any (spells p) (suffixes text)) cut.whole
    ∙ (first_is_enough (take star back) (drop (star + 1) back) cut.free at text first
    ∙ (ap (λ (k : ℕ). list_any (spells (drop (star + 1) back)) (suffixes (drop (at + k) text))) n
    ∙ (ap (λ (t : List ℕ). list_any (spells (drop (star + 1) back)) (suffixes t)) (sym (l ∙ whole_rest (at + star) text))
    ∙ ap (λ (p : List ℕ). list_any (spells p) (suffixes left)) (sym (r ∙ whole_rest (star + 1) back)))))

pub found_nowhere : (back text : List ℕ) (star : ℕ) → IsCut 42 back (take star back) (Some (drop (star + 1) back)) → IsNowhere (take star back) text → list_any (spells back) (suffixes text) ≡ false
found_nowhere back text star cut none =
    ap (λ (p : List ℕ). list_any (spells p) (suffixes text)) cut.whole ∙ nowhere_spelled (take star back) (drop (star + 1) back) cut.free text none

pub spelled_whole : (part text : List ℕ) → IsCut 42 part part None → spells part text ≡ (length part == length text && begins part text)
spelled_whole part text cut = at (length part == length text) refl where
  at : (x : Bool) → (length part == length text) ≡ x → spells part text ≡ (x && begins part text)
  at true same = as_long part cut.free text same
  at false differs = not_as_long part cut.free text differs

-- ## In a pattern

pub matches_here : (left rest label : List ℕ) (comma : ℕ) → IsCut 44 left (take comma left) (Some (drop (comma + 1) left)) → spells (take comma left) label ≡ true → matches left label ≡ true
matches_here left rest label comma cut is = matches_cut left (take comma left) (Some (drop (comma + 1) left)) label cut ∙ rw is refl

pub matches_later : (left rest label : List ℕ) (comma : ℕ) → IsCut 44 left (take comma left) (Some (drop (comma + 1) left)) → spells (take comma left) label ≡ false
    → rest ≡ take (length left - (comma + 1)) (drop (comma + 1) left) → matches left label ≡ matches rest label
matches_later left rest label comma cut is r =
    matches_cut left (take comma left) (Some (drop (comma + 1) left)) label cut ∙ rw is (ap (λ (p : List ℕ). matches p label) (sym (r ∙ whole_rest (comma + 1) left)))

pub matches_last : (left label : List ℕ) → IsCut 44 left left None → matches left label ≡ spells left label
matches_last left label cut = matches_cut left left None label cut ∙ or_none (spells left label) where
  or_none : (a : Bool) → (a || false) ≡ a
  or_none true = refl
  or_none false = refl
