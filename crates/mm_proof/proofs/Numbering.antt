-- The numbers of steps, one by one.
use Rattle.std.proofs.Common.{◌≡◌, ℕ, suc, ◌+◌, ◌<◌, ◌≤◌, Bool, true, false, cond, eqb, ◌||◌, ◌⊎◌, inl, inr, List, [], ◌∷◌, ◌++◌, length, take, drop, get_or, Option, unwrap_or, refl, sym, ap, ◌∙◌, subst, arith, append_assoc, eq-eqb}
use Rattle.std.proofs.lemmas.List.{append-nil, drop_more, take-append-drop, get_or_append_left, get_or_push, length_push, length-take-le, drop_all, get_or_read}
use Rattle.std.specs.List.{flat_map}
use Rattle.std.proofs.lemmas.Option.{slice_get_within}
use Rattle.std.proofs.lemmas.Bool.Decides.{nat_tests, Decides-eqb}
use Rattle.mm_proof.specs.Backs.{IsBack, AreBacks}
use Rattle.mm_proof.specs.declared.written.Step.{Step}
use Rattle.mm_proof.specs.declared.written.Step.TheVariants.{Label, Unknown, Back}
use Rattle.mm_proof.specs.declared.spelling.Spelt.{Spelt}
use Rattle.mm_proof.specs.Spelling.{place_in, is_among, number_of, tags_then, is_named, spelled, with_tag, letters_from, letters}
use Rattle.mm_proof.specs.Numbered.{numbers_from, numbers_of, Names, number_by, HasNumbers, Numbers, names, spell}
use Rattle.mm_proof.proofs.Returns.{among_more, among_last}
use Rattle.mm_proof.proofs.Whole.{named_there}

or_none : (b : Bool) → b ≡ (b || false)
or_none true = refl
or_none false = refl

or_assoc : (a b c : Bool) → (a || (b || c)) ≡ ((a || b) || c)
or_assoc true b c = refl
or_assoc false b c = refl

one_named : (s : Step) (k : ℕ) → is_named (s ∷ []) k ≡ names s k
one_named (Label l) k = refl
one_named Unknown k = refl
one_named (Back j) k = sym (or_none (eqb j k))

pub named_more : (xs : List Step) (s : Step) (k : ℕ) → is_named (xs ++ s ∷ []) k ≡ (is_named xs k || names s k)
named_more [] s k = one_named s k
named_more (Label l ∷ xs) s k = named_more xs s k
named_more (Unknown ∷ xs) s k = named_more xs s k
named_more (Back j ∷ xs) s k = ap (λ b. eqb j k || b) (named_more xs s k) ∙ or_assoc (eqb j k) (is_named xs k) (names s k)

-- the numbers so far
pub record Counts (known : ℕ → Option ℕ) (count : ℕ) (steps : List Step) (tags : List ℕ) (next : ℕ) (out : List Spelt) (i : ℕ) : Type 0 where
  pub places : List ℕ
  pub tags_len : length tags ≡ i
  pub out_len : length out ≡ i
  pub below : (k : ℕ) → is_among places k ≡ true → k < i
  pub room : length places ≤ i
  pub next_is : next ≡ count + 1 + length places
  pub numbered : (k : ℕ) → k < i → is_named steps k ≡ true → (is_among places k ≡ true) × (get_or tags k 0 ≡ count + place_in places k + 1)
  pub left : (labels : List ℕ) → length labels ≡ count → HasNumbers known labels steps → AreBacks [] steps
      → numbers_of labels steps ≡ out ++ numbers_from labels (is_named steps) i places (drop i steps)

pub counts_none : (known : ℕ → Option ℕ) (count : ℕ) (steps : List Step) (tags : List ℕ) (next : ℕ) (out : List Spelt) → tags ≡ [] → next ≡ count + 1 → out ≡ [] → Counts known count steps tags next out 0
counts_none known count steps tags next out t n o = record {
  places = [];
  tags_len = ap length t;
  out_len = ap length o;
  below = λ k h. cc;
  room = omega arith;
  next_is = omega arith;
  numbered = λ k h t. absurd (omega arith);
  left = λ labels c h b. ap (λ x. x ++ numbers_of labels steps) (sym o);
}

HasNumber : (ℕ → Option ℕ) → List ℕ → Step → Type 0
HasNumber known labels (Label l) = unwrap_or (known l) 0 ≡ place_in labels l + 1
HasNumber known labels Unknown = Unit {0}
HasNumber known labels (Back k) = Unit {0}

number_at : (known : ℕ → Option ℕ) (labels : List ℕ) (xs : List Step) (s : Step) (ys : List Step) → HasNumbers known labels (xs ++ s ∷ ys) → HasNumber known labels s
unfolding HasNumber
number_at known labels [] (Label l) ys h = h.0
number_at known labels [] Unknown ys h = tt
number_at known labels [] (Back k) ys h = tt
number_at known labels (Label l ∷ xs) s ys h = number_at known labels xs s ys h.1
number_at known labels (Unknown ∷ xs) s ys h = number_at known labels xs s ys h
number_at known labels (Back k ∷ xs) s ys h = number_at known labels xs s ys h

back_at : (done xs : List Step) (s : Step) (ys : List Step) → AreBacks done (xs ++ s ∷ ys) → IsBack (done ++ xs) s
back_at done [] s ys h = let P : List Step → Type 0 = λ x. IsBack x s in subst P (sym (append-nil done)) h.0
back_at done (x ∷ xs) s ys h = let P : List Step → Type 0 = λ y. IsBack y s in subst P (append_assoc done (x ∷ []) xs) (back_at (done ++ x ∷ []) xs s ys h.1)

pub split_at : (steps : List Step) (i : ℕ) (s d : Step) → i < length steps → s ≡ get_or steps i d → steps ≡ take i steps ++ s ∷ drop (i + 1) steps
split_at steps i s d h e = sym (take-append-drop i steps) ∙ ap (λ x. take i steps ++ x) (drop_more steps i d h ∙ ap (λ x. x ∷ drop (i + 1) steps) (sym e))

pub place_more : (ms : List ℕ) (m n : ℕ) → is_among ms n ≡ true → place_in (ms ++ m ∷ []) n ≡ place_in ms n
place_more [] m n h = cc
place_more (x ∷ ms) m n h = by (eqb x n) h (place_more ms m n)
  where
    by : (b : Bool) → (b || is_among ms n) ≡ true → (is_among ms n ≡ true → place_in (ms ++ m ∷ []) n ≡ place_in ms n) → cond b 0 (1 + place_in (ms ++ m ∷ []) n) ≡ cond b 0 (1 + place_in ms n)
    by true e f = refl
    by false e f = ap (λ z. 1 + z) (f e)

pub place_last : (ms : List ℕ) (m : ℕ) → is_among ms m ≡ false → place_in (ms ++ m ∷ []) m ≡ length ms
place_last [] m h = ap (λ b. cond b 0 (1 + 0)) (eq-eqb m m refl)
place_last (x ∷ ms) m h = by (eqb x m) h (place_last ms m)
  where
    by : (b : Bool) → (b || is_among ms m) ≡ false → (is_among ms m ≡ false → place_in (ms ++ m ∷ []) m ≡ length ms) → cond b 0 (1 + place_in (ms ++ m ∷ []) m) ≡ suc (length ms)
    by true e f = cc
    by false e f = let g = f e in omega arith

pub is_false : (b : Bool) → (b ≡ true → ⊥) → b ≡ false
is_false true h = absurd (h refl)
is_false false h = refl

-- the number of the next step
next_number : (known : ℕ → Option ℕ) (count : ℕ) (steps : List Step) (tags : List ℕ) (next : ℕ) (out : List Spelt) (i : ℕ) (g : Counts known count steps tags next out i)
    (s : Step) (labels : List ℕ) → length labels ≡ count → i < length steps → steps ≡ take i steps ++ s ∷ drop (i + 1) steps → HasNumber known labels s → IsBack (take i steps) s
    → number_by known tags s ≡ number_of labels g.places s
unfolding HasNumber
next_number known count steps tags next out i g (Label l) labels c at e h b = h
next_number known count steps tags next out i g Unknown labels c at e h b = refl
next_number known count steps tags next out i g (Back k) labels c at e h b =
    let lt : k < i = let w = slice_get_within (take i steps) k (Label b.0) b.1 in let z = length-take-le i steps (omega arith) in omega arith in
    let named : is_named steps k ≡ true = ap (λ x. is_named x k) e ∙ named_there (take i steps) k (drop (i + 1) steps) in
    (g.numbered k lt named).1 ∙ ap (λ n. n + place_in g.places k + 1) (sym c)

pub among_cases : (ms : List ℕ) (m k : ℕ) → is_among (ms ++ m ∷ []) k ≡ true → (is_among ms k ≡ true) ⊎ (m ≡ k)
among_cases [] m k h = by (eqb m k) refl h
  where
    by : (b : Bool) → eqb m k ≡ b → (b || false) ≡ true → (false ≡ true) ⊎ (m ≡ k)
    by true e h = inr ((Decides-eqb m k).0 e)
    by false e h = cc
among_cases (x ∷ ms) m k h = by (eqb x k) h (among_cases ms m k)
  where
    by : (b : Bool) → (b || is_among (ms ++ m ∷ []) k) ≡ true → (is_among (ms ++ m ∷ []) k ≡ true → (is_among ms k ≡ true) ⊎ (m ≡ k)) → ((b || is_among ms k) ≡ true) ⊎ (m ≡ k)
    by true h f = inl refl
    by false h f = f h

-- the numbers of the steps with a tag, with one step more
next_tag : (steps : List Step) (count next : ℕ) (tags places : List ℕ) (i : ℕ) (b x : Bool) (k : ℕ) → length tags ≡ i → next ≡ count + 1 + length places
    → ((k : ℕ) → is_among places k ≡ true → k < i)
    → ((k : ℕ) → k < i → is_named steps k ≡ true → (is_among places k ≡ true) × (get_or tags k 0 ≡ count + place_in places k + 1))
    → is_named steps i ≡ b → eqb k i ≡ x → k < i + 1 → is_named steps k ≡ true
    → (is_among (tags_then b places i) k ≡ true) × (get_or (tags ++ cond b next 0 ∷ []) k 0 ≡ count + place_in (tags_then b places i) k + 1)
next_tag steps count next tags places i true true k tl ni below old f e lt named =
    let is : k ≡ i = (Decides-eqb k i).0 e in
    let out : is_among places i ≡ false = is_false (is_among places i) (λ a. let z = below i a in absurd (omega arith)) in (
      ap (is_among (places ++ i ∷ [])) is ∙ among_last places i,
      ap (λ m. get_or (tags ++ next ∷ []) m 0) is ∙ get_or_push tags next 0 i tl ∙ ni
          ∙ (let z : count + 1 + length places ≡ count + length places + 1 = omega arith in z)
          ∙ ap (λ m. count + m + 1) (sym (ap (place_in (places ++ i ∷ [])) is ∙ place_last places i out)),
    )
next_tag steps count next tags places i true false k tl ni below old f e lt named =
    let less : k < i = grind (arith, nat_tests) in
    let r = old k less named in
    (among_more places i k r.0, get_or_append_left tags (next ∷ []) 0 k (omega arith) ∙ r.1 ∙ ap (λ m. count + m + 1) (sym (place_more places i k r.0)))
next_tag steps count next tags places i false true k tl ni below old f e lt named =
    let is : k ≡ i = (Decides-eqb k i).0 e in
    let no_name = sym named ∙ ap (is_named steps) is ∙ f in cc
next_tag steps count next tags places i false false k tl ni below old f e lt named =
    let less : k < i = grind (arith, nat_tests) in
    let r = old k less named in
    (r.0, get_or_append_left tags (0 ∷ []) 0 k (omega arith) ∙ r.1)

pub counts_more : (known : ℕ → Option ℕ) (count : ℕ) (steps : List Step) (tags : List ℕ) (next : ℕ) (out : List Spelt) (i : ℕ) → Counts known count steps tags next out i
    → (s d : Step) (b : Bool) (tags' : List ℕ) (next' : ℕ) (out' : List Spelt) → i < length steps → s ≡ get_or steps i d → b ≡ is_named steps i
    → tags' ≡ tags ++ cond b next 0 ∷ [] → next' ≡ next + cond b 1 0 → out' ≡ out ++ record { number = number_by known tags s; tag = b } ∷ [] → Counts known count steps tags' next' out' (i + 1)
unfolding numbers_from
counts_more known count steps tags next out i g s d b tags' next' out' at is tag t n o = record {
  places = tags_then b g.places i;
  tags_len = ap length t ∙ length_push tags (cond b next 0) ∙ ap (λ m. m + 1) g.tags_len;
  out_len = ap length o ∙ length_push out (record { number = number_by known tags s; tag = b }) ∙ ap (λ m. m + 1) g.out_len;
  below = below b;
  room = room b;
  next_is = n ∙ next_by b;
  numbered = λ k lt named. let r = numbered b (sym tag) k lt named in (r.0, ap (λ y. get_or y k 0) t ∙ r.1);
  left = λ labels c h bs.
      let e = split_at steps i s d at is in
      let P : List Step → Type 0 = λ x. HasNumbers known labels x in
      let Q : List Step → Type 0 = λ x. AreBacks [] x in
      let num = next_number known count steps tags next out i g s labels c at e (number_at known labels (take i steps) s (drop (i + 1) steps) (subst P e h)) (back_at [] (take i steps) s (drop (i + 1) steps) (subst Q e bs)) in
      g.left labels c h bs
      ∙ ap (λ x. out ++ numbers_from labels (is_named steps) i g.places x) (drop_more steps i d at ∙ ap (λ x. x ∷ drop (i + 1) steps) (sym is))
      ∙ ap (λ m. out ++ record { number = m; tag = is_named steps i } ∷ numbers_from labels (is_named steps) (i + 1) (tags_then (is_named steps i) g.places i) (drop (i + 1) steps)) (sym num)
      ∙ ap (λ x. out ++ record { number = number_by known tags s; tag = x } ∷ numbers_from labels (is_named steps) (i + 1) (tags_then x g.places i) (drop (i + 1) steps)) (sym tag)
      ∙ sym (append_assoc out (record { number = number_by known tags s; tag = b } ∷ []) (numbers_from labels (is_named steps) (i + 1) (tags_then b g.places i) (drop (i + 1) steps)))
      ∙ ap (λ x. x ++ numbers_from labels (is_named steps) (i + 1) (tags_then b g.places i) (drop (i + 1) steps)) (sym o);
}
  where
    below : (b : Bool) (k : ℕ) → is_among (tags_then b g.places i) k ≡ true → k < i + 1
    below true k h = elim (among_cases g.places i k h) [ inl a ↦ let z = g.below k a in omega arith | inr a ↦ omega arith ]
    below false k h = let z = g.below k h in omega arith

    room : (b : Bool) → length (tags_then b g.places i) ≤ i + 1
    room true = let z = length_push g.places i in let y = g.room in omega arith
    room false = let y = g.room in omega arith

    next_by : (b : Bool) → next + cond b 1 0 ≡ count + 1 + length (tags_then b g.places i)
    next_by true = let z = length_push g.places i in let y = g.next_is in omega arith
    next_by false = let y = g.next_is in omega arith

    numbered : (b : Bool) → is_named steps i ≡ b → (k : ℕ) → k < i + 1 → is_named steps k ≡ true
        → (is_among (tags_then b g.places i) k ≡ true) × (get_or (tags ++ cond b next 0 ∷ []) k 0 ≡ count + place_in (tags_then b g.places i) k + 1)
    numbered b f k lt named = next_tag steps count next tags g.places i b (eqb k i) k g.tags_len g.next_is g.below g.numbered f refl lt named

pub counts_all : (known : ℕ → Option ℕ) (count : ℕ) (steps : List Step) (tags : List ℕ) (next : ℕ) (out : List Spelt) (i : ℕ) → Counts known count steps tags next out i → length steps ≤ i → Numbers known count steps out
unfolding numbers_from
counts_all known count steps tags next out i g h labels c has b =
    sym (g.left labels c has b ∙ ap (λ x. out ++ numbers_from labels (is_named steps) i g.places x) (drop_all i steps h) ∙ append-nil out)

pub counts_next : (known : ℕ → Option ℕ) (count : ℕ) (steps : List Step) (tags : List ℕ) (next : ℕ) (out : List Spelt) (i : ℕ) → Counts known count steps tags next out i → next ≤ count + 1 + i
counts_next known count steps tags next out i g = let a = g.next_is in let b = g.room in omega arith

pub spelt_is : (m n : ℕ) (b : Bool) → m ≡ n → ◌≡◌ {A = Spelt} (record { number = m; tag = b }) (record { number = n; tag = b })
spelt_is m n b h = let f : ℕ → Spelt = λ x. record { number = x; tag = b } in ap f h

pub tag_read : (steps : List Step) (named : List Bool) (b : Bool) (n i : ℕ) → Names steps named → n ≡ i → i < length steps → b ≡ get_or named n b → b ≡ is_named steps i
tag_read steps named b n i h e at is =
    let c = h.count in
    let f : b ≡ get_or named i b = is ∙ ap (λ m. get_or named m b) e in
    get_or_read named i b (omega arith) f false ∙ h.is i at

flat_by : (labels : List ℕ) (tagged : ℕ → Bool) (i : ℕ) (tags : List ℕ) (ss : List Step) → flat_map spell (numbers_from labels tagged i tags ss) ≡ letters_from labels tagged i tags ss
unfolding numbers_from letters_from
flat_by labels tagged i tags [] = refl
flat_by labels tagged i tags (s ∷ ss) =
    append_assoc (spelled (number_of labels tags s)) (with_tag (tagged i)) (flat_map spell (numbers_from labels tagged (i + 1) (tags_then (tagged i) tags i) ss))
    ∙ ap (λ x. spelled (number_of labels tags s) ++ (with_tag (tagged i) ++ x)) (flat_by labels tagged (i + 1) (tags_then (tagged i) tags i) ss)

-- the letters of the numbers are those of the steps
pub flat-numbers : (labels : List ℕ) (steps : List Step) → flat_map spell (numbers_of labels steps) ≡ letters labels steps
flat-numbers labels steps = flat_by labels (is_named steps) 0 [] steps
