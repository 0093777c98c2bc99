-- The best use among the assertions.
use Rattle.mm_subst.specs.Symbols.{is_same}
use Rattle.mm_chart.proofs.Symbols.{same-true, eq-same}
use Rattle.mm_subst.specs.declared.symbol.WSym.{WSym}
use Rattle.std.proofs.Common.{Result, Ok, Err, ◌≡◌, ℕ, suc, ◌+◌, ◌≤◌, ◌<◌, List, [], ◌∷◌, ◌++◌, Option, None, Some, Bool, true, false, cond, refl, sym, ◌∙◌, ap, arith, inl, inr, subst, length, get_or, map}
use Rattle.std.specs.List.{list_all, flat_map, filter}
use Rattle.std.proofs.lemmas.Bool.{cases_lt, cases_Bool, lt-ltb, le-ltb, le-leb, both_ways}
use Rattle.std.proofs.lemmas.List.{append-nil}
use Rattle.std.proofs.lemmas.List.Concat.{flat_map-append}
use Rattle.std.specs.Result.{IfOk}
use Rattle.std.specs.Option.{IfSome}
use Rattle.mm_chart.specs.declared.grammar.Item.{Item}
use Rattle.mm_chart.specs.declared.grammar.Item.TheVariants.{Fixed, Again, New}
use Rattle.mm_chart.specs.declared.table.Part.{Part}
use Rattle.mm_chart.specs.Options.{is_there, or_else, on, first}
use Rattle.mm_unify.specs.Parts.{part}
use Rattle.mm_chart.specs.Items.{Goal, Assertion, Grammar, Use, matches, fits, uses, uses_of}
use Rattle.mm_unify.specs.Matching.{onward}
use Rattle.mm_chart.specs.Items.{Chosen, by_use, hypothesis, serves, chosen}
use Rattle.mm_chart.specs.Charts.{Noted, Rows, entry_at, goals_of, Agrees, FindsAt, found_of, HasCode, AreWithin, IsLeast, Settles, can_begin, able_of, FirstUse, IsBest, Best, noted, bettered, IsStated, no_symbol}
use Rattle.mm_chart.proofs.Firsts.{first-append, or_else-none}
use Rattle.mm_chart.proofs.Parts.{part-cons}
use Rattle.mm_chart.proofs.Walks.{Walked}

first_map : (proof : Goal → Option Chosen) (n : ℕ) (ms : List (List Goal)) → first (serves proof) (map (λ v. (n, v)) ms) ≡ on (λ v. (n, v)) (first (list_all (λ g. is_there (proof g))) ms)
first_map proof n [] = refl
first_map proof n (v ∷ ms) = elim (list_all (λ g. is_there (proof g)) v) as (λ b. cond b (Some (n, v)) (first (serves proof) (map (λ u. (n, u)) ms)) ≡ on (λ u. (n, u)) (cond b (Some v) (first (list_all (λ g. is_there (proof g))) ms)))
    [ true ↦ refl | false ↦ first_map proof n ms ]

first_push : {X : Type 0} (q : Use → Bool) (f : X → List Use) (xs : List X) (x : X) → first q (flat_map f (xs ++ x ∷ [])) ≡ or_else (first q (flat_map f xs)) (first q (f x))
first_push q f xs x =
    ap (first q) (flat_map-append f xs (x ∷ []) ∙ ap (λ (ys : List Use). flat_map f xs ++ ys) (append-nil (f x))) ∙ first-append q (flat_map f xs) (f x)

push_none : {X : Type 0} (q : Use → Bool) (f : X → List Use) (xs : List X) (x : X) (o : Option Use) → first q (flat_map f xs) ≡ None → first q (f x) ≡ o → first q (flat_map f (xs ++ x ∷ [])) ≡ o
push_none q f xs x o h k = first_push q f xs x ∙ or_else-none (first q (flat_map f xs)) (first q (f x)) h ∙ k

push_some : {X : Type 0} (q : Use → Bool) (f : X → List Use) (xs : List X) (x : X) (u : Use) → first q (flat_map f xs) ≡ Some u → first q (flat_map f (xs ++ x ∷ [])) ≡ Some u
push_some q f xs x u h = first_push q f xs x ∙ ap (λ (o : Option Use). or_else o (first q (f x))) h

not_there : {A : Type 0} (o : Option A) → is_there o ≡ false → o ≡ None
not_there None h = refl
not_there (Some a) h = absurd (cc)

-- an assertion that adds nothing
abbrev pub AddsNone : Grammar → List WSym → Rows → ℕ → ℕ → Assertion → ℕ → WSym → Type 0
AddsNone G t rows at to x r code = Agrees (λ g. is_there (chosen G r g)) r t rows at to → first (serves (chosen G r)) (uses_of G (code, part t at to) x) ≡ None

pub best_skip : (G : Grammar) (t : List WSym) (rows : Rows) (at to : ℕ) (xs : List Assertion) (x : Assertion) (o : Option Noted) → Best G t rows at to xs o →
    ((r : ℕ) (code : WSym) → entry_at rows at code to ≡ None → AddsNone G t rows at to x r code) → Best G t rows at to (xs ++ x ∷ []) o
best_skip G t rows at to xs x None b n = λ r code e a. push_none (serves (chosen G r)) (uses_of G (code, part t at to)) xs x None (b r code e a) (n r code e a)
best_skip G t rows at to xs x (Some y) b n = record {
  ends = b.ends;
  new = b.new;
  has_code = b.has_code;
  placed = b.placed;
  rank = b.rank;
  use_ = b.use_;
  is = b.is;
  here = λ a. push_some (serves (chosen G b.rank)) (uses_of G (y.code, part t at to)) xs x b.use_ (b.here a);
  below = λ k code l e a. push_none (serves (chosen G k)) (uses_of G (code, part t at to)) xs x None (b.below k code l e a) (n k code e a);
}

-- the uses of one assertion
one_other : (G : Grammar) (r : ℕ) (code : WSym) (s : List WSym) (x : Assertion) → is_same x.code code ≡ false → first (serves (chosen G r)) (uses_of G (code, s) x) ≡ None
one_other G r code s x h = ap (λ (b : Bool). first (serves (chosen G r)) (cond b (map (λ v. (x.id, v)) (matches (fits G x.apart) x.items [] s)) [])) h

one_same : (G : Grammar) (r : ℕ) (code : WSym) (s : List WSym) (x : Assertion) → is_same x.code code ≡ true → first (serves (chosen G r)) (uses_of G (code, s) x) ≡ on (λ v. (x.id, v)) (first (list_all (λ g. is_there (chosen G r g))) (matches (fits G x.apart) x.items [] s))
one_same G r code s x h = ap (λ (b : Bool). first (serves (chosen G r)) (cond b (map (λ v. (x.id, v)) (matches (fits G x.apart) x.items [] s)) [])) h ∙ first_map (chosen G r) x.id (matches (fits G x.apart) x.items [] s)

pub one_none : (G : Grammar) (r : ℕ) (code : WSym) (s : List WSym) (x : Assertion) → first (list_all (λ g. is_there (chosen G r g))) (matches (fits G x.apart) x.items [] s) ≡ None → first (serves (chosen G r)) (uses_of G (code, s) x) ≡ None
one_none G r code s x h = elim (cases_Bool (is_same x.code code)) [
  | inl e ↦ one_same G r code s x e ∙ ap (λ (o : Option (List Goal)). on (λ v. (x.id, v)) o) h
  | inr e ↦ one_other G r code s x e
]

-- an assertion whose typecode has an entry
pub adds_none_settled : (G : Grammar) (t : List WSym) (rows : Rows) (at to : ℕ) (x : Assertion) → is_there (entry_at rows at x.code to) ≡ true → (r : ℕ) (code : WSym) → entry_at rows at code to ≡ None → AddsNone G t rows at to x r code
adds_none_settled G t rows at to x h r code e a = elim (cases_Bool (is_same x.code code)) [
  | inl q ↦ absurd (let z : x.code ≡ code = same-true x.code code q in
      both_ways (is_there (entry_at rows at x.code to)) (ap (λ (c : WSym). is_there (entry_at rows at c to)) z ∙ ap is_there e) h)
  | inr q ↦ one_other G r code (part t at to) x q
]

walk_at : (G : Grammar) (t : List WSym) (rows : Rows) (at to r : ℕ) (x : Assertion) (found : Option (ℕ × List Part)) → Walked (fits G x.apart) t rows x.items [] at to 0 found → Agrees (λ g. is_there (chosen G r g)) r t rows at to →
    FindsAt r (list_all (λ g. is_there (chosen G r g))) (matches (fits G x.apart) x.items [] (part t at to)) (found_of t found)
walk_at G t rows at to r x found w a = w (λ g. is_there (chosen G r g)) r a (sym (le-leb 0 r (omega arith)))

none_yet : (t : List WSym) (rows : Rows) (at to : ℕ) (code : WSym) → is_there (entry_at rows at code to) ≡ false → entry_at rows at code to ≡ None
none_yet t rows at to code h = not_there (entry_at rows at code to) h

best_new : (G : Grammar) (t : List WSym) (rows : Rows) (at to : ℕ) (xs : List Assertion) (x : Assertion) (f : ℕ × List Part) → entry_at rows at x.code to ≡ None → HasCode G x.code → AreWithin t f.1 → Walked (fits G x.apart) t rows x.items [] at to 0 (Some f) →
    ((r : ℕ) (code : WSym) → r ≤ f.0 → entry_at rows at code to ≡ None → FirstUse G t rows at to xs r code None) → IsBest G t rows at to (xs ++ x ∷ []) (noted x.code to x.id f)
best_new G t rows at to xs x f new has p w b = record {
  ends = refl;
  new = new;
  has_code = has;
  placed = p;
  rank = f.0;
  use_ = (x.id, goals_of t f.1);
  is = ap (λ (k : ℕ). by_use k (x.id, goals_of t f.1)) (let e : f.0 + 1 ≡ suc f.0 = omega arith in e);
  here = λ a. push_none (serves (chosen G f.0)) (uses_of G (x.code, part t at to)) xs x (Some (x.id, goals_of t f.1)) (b f.0 x.code (omega arith) new a)
      (one_same G f.0 x.code (part t at to) x (eq-same x.code x.code refl) ∙ ap (λ (o : Option (List Goal)). on (λ v. (x.id, v)) o) ((walk_at G t rows at to f.0 x (Some f) w a).1 refl));
  below = λ k code l e a. push_none (serves (chosen G k)) (uses_of G (code, part t at to)) xs x None (b k code (omega arith) e a)
      (one_none G k code (part t at to) x ((walk_at G t rows at to k x (Some f) w a).0 l));
}

best_kept : (G : Grammar) (t : List WSym) (rows : Rows) (at to : ℕ) (xs : List Assertion) (x : Assertion) (f : ℕ × List Part) (y : Noted) → Walked (fits G x.apart) t rows x.items [] at to 0 (Some f) → y.rank ≤ f.0 + 1 →
    IsBest G t rows at to xs y → IsBest G t rows at to (xs ++ x ∷ []) y
best_kept G t rows at to xs x f y w l b =
    let q : y.rank ≡ suc b.rank = ap (λ (c : Chosen). c.rank) b.is in
    record {
      ends = b.ends;
      new = b.new;
      has_code = b.has_code;
      placed = b.placed;
      rank = b.rank;
      use_ = b.use_;
      is = b.is;
      here = λ a. push_some (serves (chosen G b.rank)) (uses_of G (y.code, part t at to)) xs x b.use_ (b.here a);
      below = λ k code m e a. push_none (serves (chosen G k)) (uses_of G (code, part t at to)) xs x None (b.below k code m e a)
          (one_none G k code (part t at to) x ((walk_at G t rows at to k x (Some f) w a).0 (omega arith)));
    }

pub best_more : (G : Grammar) (t : List WSym) (rows : Rows) (at to : ℕ) (xs : List Assertion) (x : Assertion) (found : Option (ℕ × List Part)) (o : Option Noted) → is_there (entry_at rows at x.code to) ≡ false → HasCode G x.code →
    IfSome found (λ y. AreWithin t y.1) → Walked (fits G x.apart) t rows x.items [] at to 0 found → Best G t rows at to xs o → Best G t rows at to (xs ++ x ∷ []) (bettered o x.code to x.id found)
best_more G t rows at to xs x None o new has p w b = best_skip G t rows at to xs x o b (λ r code e a. one_none G r code (part t at to) x (walk_at G t rows at to r x None w a))
best_more G t rows at to xs x (Some f) None new has p w b = best_new G t rows at to xs x f (none_yet t rows at to x.code new) has p w (λ r code l e. b r code e)
best_more G t rows at to xs x (Some f) (Some y) new has p w b =
    let q : y.rank ≡ suc b.rank = ap (λ (c : Chosen). c.rank) b.is in
    elim (cases_lt (f.0 + 1) y.rank) [
      | inl l ↦ rw (lt-ltb (f.0 + 1) y.rank l) (best_new G t rows at to xs x f (none_yet t rows at to x.code new) has p w (λ r code m e. b.below r code (omega arith) e))
      | inr l ↦ rw (le-ltb (f.0 + 1) y.rank l) (best_kept G t rows at to xs x f y w l b)
    ]

pub best_none : (G : Grammar) (t : List WSym) (rows : Rows) (at to : ℕ) → Best G t rows at to [] None
best_none G t rows at to = λ r code e a. refl

-- the assertions that can't begin with the first symbol add nothing
begin_none : (ok : List Goal → Bool) (c : WSym) (r : List WSym) (items : List Item) → can_begin c items ≡ false → matches ok items [] (c ∷ r) ≡ []
begin_none ok c r [] h = refl
begin_none ok c r (Fixed x ∷ items) h = ap (λ (b : Bool). onward (matches ok items []) (cond b (Some r) None)) h
begin_none ok c r (Again k ∷ items) h = absurd (cc)
begin_none ok c r (New code ∷ items) h = absurd (cc)

cond_same : (b : Bool) (us : List Use) → us ≡ [] → cond b us [] ≡ []
cond_same true us h = h
cond_same false us h = refl

uses_none : (G : Grammar) (g : Goal) (c : WSym) (r : List WSym) (x : Assertion) → g.1 ≡ c ∷ r → can_begin c x.items ≡ false → uses_of G g x ≡ []
uses_none G g c r x q h =
    cond_same (is_same x.code g.0) (map (λ v. (x.id, v)) (matches (fits G x.apart) x.items [] g.1)) (ap (λ (ms : List (List Goal)). map (λ v. (x.id, v)) ms) (ap (matches (fits G x.apart) x.items []) q ∙ begin_none (fits G x.apart) c r x.items h))

flat_filter : {X : Type 0} (f : X → List Use) (k : X → Bool) (xs : List X) → ((x : X) → k x ≡ false → f x ≡ []) → flat_map f (filter k xs) ≡ flat_map f xs
flat_filter f k [] h = refl
flat_filter f k (x ∷ xs) h = elim (cases_Bool (k x)) [
  | inl e ↦ rw e (ap (λ (ys : List Use). f x ++ ys) (flat_filter f k xs h))
  | inr e ↦ rw (e, h x e) (flat_filter f k xs h)
]

uses_able : (G : Grammar) (t : List WSym) (at to : ℕ) (code : WSym) → at < to → to ≤ length t → flat_map (uses_of G (code, part t at to)) (able_of (get_or t at no_symbol) G) ≡ uses G (code, part t at to)
uses_able G t at to code h w = flat_filter (uses_of G (code, part t at to)) (λ x. can_begin (get_or t at no_symbol) x.items) G.assertions
    (λ x k. uses_none G (code, part t at to) (get_or t at no_symbol) (part t (at + 1) to) x (part-cons t at to no_symbol h w) k)

pub settles_none : (G : Grammar) (t : List WSym) (rows : Rows) (at to : ℕ) → at < to → to ≤ length t → ((code : WSym) → entry_at rows at code to ≡ None → hypothesis G (code, part t at to) ≡ None) →
    Best G t rows at to (able_of (get_or t at no_symbol) G) None → Settles G t rows at to None
settles_none G t rows at to h w n b = λ r code e. record {
  no_hypothesis = n code e;
  no_use = λ a. ap (first (serves (chosen G r))) (sym (uses_able G t at to code h w)) ∙ b r code e a;
}

pub settles_use : (G : Grammar) (t : List WSym) (rows : Rows) (at to : ℕ) (y : Noted) → at < to → to ≤ length t → ((code : WSym) → entry_at rows at code to ≡ None → hypothesis G (code, part t at to) ≡ None) →
    Best G t rows at to (able_of (get_or t at no_symbol) G) (Some y) → Settles G t rows at to (Some y)
settles_use G t rows at to y h w n b =
    let q : y.rank ≡ suc b.rank = ap (λ (c : Chosen). c.rank) b.is in
    record {
      ends = b.ends;
      new = b.new;
      has_code = b.has_code;
      placed = b.placed;
      least = subst (λ (k : ℕ). IsLeast G t rows at to y k) (sym q) (
        b.use_,
        b.is,
        λ a. ap (first (serves (chosen G b.rank))) (sym (uses_able G t at to y.code h w)) ∙ b.here a,
        λ k code l e. record {
          no_hypothesis = n code e;
          no_use = λ a. ap (first (serves (chosen G k))) (sym (uses_able G t at to code h w)) ∙ b.below k code l e a;
        },
        n,
      );
    }

pub settles_stated : (G : Grammar) (t : List WSym) (rows : Rows) (at to : ℕ) (y : Noted) → IsStated G t rows at to y → Settles G t rows at to (Some y)
settles_stated G t rows at to y s = record {
  ends = s.ends;
  new = s.new;
  has_code = s.has_code;
  placed = subst (AreWithin t) (sym s.no_parts) (record { each = λ k l d. absurd (omega arith) });
  least = subst (λ (k : ℕ). IsLeast G t rows at to y k) (sym s.rank) s.is;
}

pub settles_best : (G : Grammar) (t : List WSym) (rows : Rows) (at to : ℕ) {E : Type 0} (r : Result (Option Noted) E) → at < to → to ≤ length t → ((code : WSym) → entry_at rows at code to ≡ None → hypothesis G (code, part t at to) ≡ None) →
    IfOk r (λ o. Best G t rows at to (able_of (get_or t at no_symbol) G) o) → IfOk r (λ o. Settles G t rows at to o)
settles_best G t rows at to (Ok None) h w n b = settles_none G t rows at to h w n b
settles_best G t rows at to (Ok (Some y)) h w n b = settles_use G t rows at to y h w n b
settles_best G t rows at to (Err e) h w n b = b
