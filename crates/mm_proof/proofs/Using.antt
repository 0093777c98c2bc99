-- The list of labels, step by step.
use Rattle.std.proofs.Common.{◌≡◌, ◌≢◌, ℕ, ◌+◌, ◌<◌, ◌≤◌, Bool, true, false, cond, eqb, inl, inr, List, [], ◌∷◌, ◌++◌, length, map, take, drop, get_or, Option, None, Some, refl, sym, ap, ◌∙◌, subst, arith, append_assoc, length-append}
use Rattle.std.proofs.lemmas.List.{append-nil, drop_more, drop_all, length_push, take_more, map_push, length-map, length-take-le}
use Rattle.std.proofs.lemmas.Option.{none-some}
use Rattle.std.proofs.lemmas.Bool.Decides.{nat_tests, Decides-eqb}
use Rattle.mm_proof.specs.declared.written.Step.{Step}
use Rattle.mm_proof.specs.declared.written.Step.TheVariants.{Label, Unknown, Back}
use Rattle.mm_proof.specs.Spelling.{place_in, is_among, used}
use Rattle.mm_proof.specs.Numbered.{IsTable, Lists, Adds, AddsNone, Gives}
use Rattle.mm_proof.proofs.Returns.{among_more, among_last}
use Rattle.mm_proof.proofs.Numbering.{place_more, place_last, among_cases, is_false}

pub record Holds (own : ℕ) (before now : ℕ → Option ℕ) (list : List ℕ) (steps : List Step) (i : ℕ) (labels : List ℕ) : Type 0 where
  pub uses : used labels list (drop i steps) ≡ used labels [] steps
  pub table : IsTable now (labels ++ list)

pub record Listing (own : ℕ) (before now : ℕ → Option ℕ) (list : List ℕ) (steps : List Step) (i : ℕ) : Type 0 where
  pub room : length list ≤ i
  pub holds : (labels : List ℕ) → length labels ≡ own → IsTable before labels → Holds own before now list steps i labels

pub listing_none : (own : ℕ) (before : ℕ → Option ℕ) (list : List ℕ) (steps : List Step) → list ≡ [] → Listing own before before list steps 0
listing_none own before list steps f = record {
  room = (let z = ap length f in omega arith);
  holds = λ labels c t. record {
    uses = ap (λ x. used labels x steps) f;
    table = (let Q : List ℕ → Type 0 = λ x. IsTable before x in subst Q (sym (ap (λ x. labels ++ x) f ∙ append-nil labels)) t);
  };
}

unlisted : (b : Bool) (n : Option ℕ) (p : ℕ) → n ≡ cond b (Some p) None → n ≡ None → b ≡ false
unlisted true n p h e = absurd (none-some p (sym e ∙ h))
unlisted false n p h e = refl

listed : (b : Bool) (n : Option ℕ) (p : ℕ) → n ≡ cond b (Some p) None → (n ≡ None → ⊥) → b ≡ true
listed true n p h e = refl
listed false n p h e = absurd (e h)

among_other : (ms : List ℕ) (m n : ℕ) → n ≢ m → is_among (ms ++ m ∷ []) n ≡ is_among ms n
among_other ms m n h = by (is_among ms n) refl
  where
    by : (b : Bool) → is_among ms n ≡ b → is_among (ms ++ m ∷ []) n ≡ is_among ms n
    by true e = among_more ms m n e ∙ sym e
    by false e = is_false (is_among (ms ++ m ∷ []) n) (λ a. elim (among_cases ms m n a) [ inl x ↦ let y = sym x ∙ e in cc | inr x ↦ h (sym x) ]) ∙ sym e

abbrev entry : List ℕ → ℕ → Option ℕ
entry labels m = cond (is_among labels m) (Some (place_in labels m + 1)) None

entry_other : (labels : List ℕ) (l m : ℕ) → m ≢ l → entry labels m ≡ entry (labels ++ l ∷ []) m
entry_other labels l m ne = by (is_among labels m) refl ∙ ap (λ b. cond b (Some (place_in (labels ++ l ∷ []) m + 1)) None) (sym (among_other labels l m ne))
  where
    by : (b : Bool) → is_among labels m ≡ b → cond b (Some (place_in labels m + 1)) None ≡ cond b (Some (place_in (labels ++ l ∷ []) m + 1)) None
    by true e = ap (λ x. Some (x + 1)) (sym (place_more labels l m e))
    by false e = refl

entry_last : (labels : List ℕ) (l : ℕ) → is_among labels l ≡ false → Some (length labels + 1) ≡ entry (labels ++ l ∷ []) l
entry_last labels l out =
    ap (λ x. Some (x + 1)) (sym (place_last labels l out)) ∙ ap (λ b. cond b (Some (place_in (labels ++ l ∷ []) l + 1)) None) (sym (among_last labels l))

-- a label more in the table
table_more : (now after : ℕ → Option ℕ) (labels : List ℕ) (l v : ℕ) → is_among labels l ≡ false → v ≡ length labels + 1 → IsTable now labels
    → ((m : ℕ) → after m ≡ cond (eqb l m) (Some v) (now m)) → IsTable after (labels ++ l ∷ [])
table_more now after labels l v out is t a m = a m ∙ by (eqb l m) refl
  where
    by : (b : Bool) → eqb l m ≡ b → cond b (Some v) (now m) ≡ entry (labels ++ l ∷ []) m
    by true e =
        let s : l ≡ m = (Decides-eqb l m).0 e in
        ap (λ x. Some x) is ∙ entry_last labels l out ∙ ap (entry (labels ++ l ∷ [])) s
    by false e =
        let ne : m ≢ l = grind (arith, nat_tests) in
        t m ∙ entry_other labels l m ne

-- a label that is there once more
table_same : (now after : ℕ → Option ℕ) (labels : List ℕ) (l : ℕ) → is_among labels l ≡ true → IsTable now labels → ((m : ℕ) → after m ≡ now m) → IsTable after (labels ++ l ∷ [])
table_same now after labels l there t a m = a m ∙ t m ∙ by (eqb l m) refl
  where
    by : (b : Bool) → eqb l m ≡ b → entry labels m ≡ entry (labels ++ l ∷ []) m
    by true e =
        let s : l ≡ m = (Decides-eqb l m).0 e in
        let i : is_among labels m ≡ true = ap (is_among labels) (sym s) ∙ there in
        ap (λ b. cond b (Some (place_in labels m + 1)) None) i
        ∙ ap (λ x. Some (x + 1)) (sym (place_more labels l m i))
        ∙ ap (λ b. cond b (Some (place_in (labels ++ l ∷ []) m + 1)) None) (sym (among_more labels l m i))
    by false e = let ne : m ≢ l = grind (arith, nat_tests) in entry_other labels l m ne

uses_new : (labels list : List ℕ) (l : ℕ) (ss : List Step) → is_among (labels ++ list) l ≡ false → used labels list (Label l ∷ ss) ≡ used labels (list ++ l ∷ []) ss
uses_new labels list l ss h = ap (λ b. cond b (used labels list ss) (used labels (list ++ l ∷ []) ss)) h

uses_old : (labels list : List ℕ) (l : ℕ) (ss : List Step) → is_among (labels ++ list) l ≡ true → used labels list (Label l ∷ ss) ≡ used labels list ss
uses_old labels list l ss h = ap (λ b. cond b (used labels list ss) (used labels (list ++ l ∷ []) ss)) h

step_first : (labels list : List ℕ) (steps : List Step) (i : ℕ) (s d : Step) → i < length steps → s ≡ get_or steps i d → used labels list (drop i steps) ≡ used labels list (s ∷ drop (i + 1) steps)
step_first labels list steps i s d at is = ap (used labels list) (drop_more steps i d at ∙ ap (λ x. x ∷ drop (i + 1) steps) (sym is))

table_kept : (now after : ℕ → Option ℕ) (labels : List ℕ) → ((m : ℕ) → after m ≡ now m) → IsTable now labels → IsTable after labels
table_kept now after labels a t m = a m ∙ t m

-- nothing is added, and the step uses nothing new
keeps : (own : ℕ) (before now after : ℕ → Option ℕ) (list longer : List ℕ) (steps : List Step) (i : ℕ) → Listing own before now list steps i → AddsNone now after list longer
    → ((labels : List ℕ) → length labels ≡ own → IsTable before labels → used labels list (drop i steps) ≡ used labels list (drop (i + 1) steps))
    → Listing own before after longer steps (i + 1)
keeps own before now after list longer steps i g a f = record {
  room = (let z = ap length a.list_is in let y = g.room in omega arith);
  holds = λ labels c t. let h = g.holds labels c t in record {
    uses = ap (λ x. used labels x (drop (i + 1) steps)) a.list_is ∙ sym (f labels c t) ∙ h.uses;
    table = table_kept now after (labels ++ longer) a.table_is (let Q : List ℕ → Type 0 = λ x. IsTable now (labels ++ x) in subst Q (sym a.list_is) h.table);
  };
}

pub listing_more : (own : ℕ) (before now after : ℕ → Option ℕ) (list longer : List ℕ) (steps : List Step) (i : ℕ) → Listing own before now list steps i → (s d : Step) → i < length steps → s ≡ get_or steps i d
    → Adds own now after list longer s → Listing own before after longer steps (i + 1)
listing_more own before now after list longer steps i g Unknown d at is a = keeps own before now after list longer steps i g a (λ labels c t. step_first labels list steps i Unknown d at is)
listing_more own before now after list longer steps i g (Back k) d at is a = keeps own before now after list longer steps i g a (λ labels c t. step_first labels list steps i (Back k) d at is)
listing_more own before now after list longer steps i g (Label l) d at is (inr a) =
    keeps own before now after list longer steps i g a.0 (λ labels c t.
    let h = g.holds labels c t in
    step_first labels list steps i (Label l) d at is
    ∙ uses_old labels list l (drop (i + 1) steps) (listed (is_among (labels ++ list) l) (now l) (place_in (labels ++ list) l + 1) (h.table l) a.1))
listing_more own before now after list longer steps i g (Label l) d at is (inl a) = record {
  room = (let z = ap length a.list_is in let y = g.room in let x = length_push list l in omega arith);
  holds = λ labels c t.
      let h = g.holds labels c t in
      let out = unlisted (is_among (labels ++ list) l) (now l) (place_in (labels ++ list) l + 1) (h.table l) a.new in
      let value : own + (length list + 1) ≡ length (labels ++ list) + 1 = omega (arith, length-append labels list) in
      let Q : List ℕ → Type 0 = λ x. IsTable after x in
      record {
        uses = ap (λ x. used labels x (drop (i + 1) steps)) a.list_is ∙ sym (uses_new labels list l (drop (i + 1) steps) out) ∙ sym (step_first labels list steps i (Label l) d at is) ∙ h.uses;
        table = subst Q (append_assoc labels list (l ∷ []) ∙ ap (λ x. labels ++ x) (sym a.list_is))
            (table_more now after (labels ++ list) l (own + (length list + 1)) out value h.table a.table_is);
      };
}

pub listing_all : (own : ℕ) (before now : ℕ → Option ℕ) (list : List ℕ) (steps : List Step) (i : ℕ) → Listing own before now list steps i → length steps ≤ i
    → (labels : List ℕ) → length labels ≡ own → IsTable before labels → Lists labels now list steps
listing_all own before now list steps i g e labels c t =
    let h = g.holds labels c t in
    record { list_is = sym (ap (used labels list) (drop_all i steps e)) ∙ h.uses; table = h.table }

-- the numbers of labels by their places
pub given_none : (now : ℕ → Option ℕ) → ((m : ℕ) → now m ≡ None) → IsTable now []
given_none now h m = h m

pub given_more : (now after : ℕ → Option ℕ) (ids : List ℕ) (i x d n : ℕ) → i < length ids → x ≡ get_or ids i d → n ≡ i + 1 → IsTable now (map (λ k. k + 1) (take i ids)) → Gives now after (x + 1) n
    → IsTable after (map (λ k. k + 1) (take (i + 1) ids))
given_more now after ids i x d n at is num t g =
    let P : List ℕ → Type 0 = λ y. IsTable after y in
    let labels = map (λ k. k + 1) (take i ids) in
    let e : labels ++ (x + 1) ∷ [] ≡ map (λ k. k + 1) (take (i + 1) ids) =
    ap (λ y. labels ++ (y + 1) ∷ []) is ∙ sym (map_push (λ k. k + 1) (take i ids) (get_or ids i d)) ∙ ap (map (λ k. k + 1)) (sym (take_more ids i d at)) in
    let count : n ≡ length labels + 1 = let a = length-map (take i ids) (λ k. k + 1) in let b = length-take-le i ids (omega arith) in omega arith in
    subst P e (elim g [
      | inl a ↦ table_more now after labels (x + 1) n (unlisted (is_among labels (x + 1)) (now (x + 1)) (place_in labels (x + 1) + 1) (t (x + 1)) a.new) count t a.table_is
      | inr a ↦ table_same now after labels (x + 1) (listed (is_among labels (x + 1)) (now (x + 1)) (place_in labels (x + 1) + 1) (t (x + 1)) a.old) t a.table_is
    ])
