-- One step more of a proof that is laid out.
use Rattle.std.proofs.Common.{◌≡◌, ℕ, zero, suc, ◌+◌, ◌-◌, ◌≤◌, ◌<◌, Bool, true, false, not, List, [], ◌∷◌, ◌++◌, length, map, take, drop, get_or, Option, None, Some, refl, sym, ap, ◌∙◌, subst, arith, append_assoc, eqb-true}
use Rattle.std.specs.Prelude.{nat_eq}
use Rattle.std.specs.Option.{option_eq}
use Rattle.std.proofs.lemmas.Bool.{false≢true, true≢false}
use Rattle.std.specs.List.{All, AllByRecursion as ByRecursion}
use Rattle.std.proofs.lemmas.List.{append-nil, get_or-map, get_or-drop, length-drop, length-map, take_all, take_more, take_more_same, map_more}
use Rattle.std.proofs.lemmas.List.Elements.{recursion_from_All, All-from_recursion}
use Rattle.std.specs.Cmp.Lexicographic.{pointwise}
use Rattle.mm_subst.specs.declared.symbol.WSym.{WSym}
use Rattle.mm_subst.specs.Applied.{most_symbols}
use Rattle.mm_subst.specs.Statements.{statement_of}
use Rattle.mm_subst.specs.Substitutions.{Pairs, applied}
use Rattle.mm_subst.specs.Symbols.{is_same}
use Rattle.mm_unify.specs.declared.listing.Settings.{Settings}
use Rattle.mm_plain.specs.Premises.{premise_ids}
use Rattle.mm_plain.specs.Shape.{known, target_of}
use Rattle.mm_tree.specs.Plans.{Grove, grown, no_tree}
use Rattle.mm_edit.specs.Built.{is_surely_found}
use Rattle.mm_edit.specs.LaidOut.{AreValues, LaysKnown, last_targets, value_by, values_by}
use Rattle.mm_edit.proofs.BuiltParts.{same_string}

-- the strings of the last trees

pub length-last : (g : Grove) (n : ℕ) → n ≤ length g.standing → length (last_targets g n) ≡ n
length-last g n h = length-map (drop (length g.standing - n) g.standing) target_of ∙ length-drop (length g.standing - n) g.standing ∙ omega arith

pub last-at : (g : Grove) (n from i at : ℕ) (t : List WSym) → n ≤ length g.standing → i < n → from ≡ length g.standing - n → at ≡ from + i → t ≡ target_of (get_or g.standing at no_tree)
    → t ≡ get_or (last_targets g n) i []
last-at g n from i at t h l f a e =
    let k : ℕ = length g.standing - n in
    let within : i < length (drop k g.standing) = omega (arith, length-drop k g.standing) in
    let place : at ≡ k + i = a ∙ ap (λ (m : ℕ). m + i) f in
    e ∙ ap (λ (m : ℕ). target_of (get_or g.standing m no_tree)) place
    ∙ ap target_of (sym (get_or-drop k g.standing i no_tree))
    ∙ sym (get_or-map target_of (drop k g.standing) i no_tree [] within)

-- values, one more

values_by-append : (bytes : List ℕ) (ids ms : List ℕ) (ts us : List (List WSym)) → length ids ≡ length ts → values_by bytes (ids ++ ms) (ts ++ us) ≡ values_by bytes ids ts ++ values_by bytes ms us
values_by-append bytes [] ms [] us e = refl
values_by-append bytes [] ms (t ∷ ts) us e = absurd (omega (arith, e))
values_by-append bytes (m ∷ ids) ms [] us e = absurd (omega (arith, e))
values_by-append bytes (m ∷ ids) ms (t ∷ ts) us e =
    ap (λ (v : Pairs). value_by bytes m t ++ v) (values_by-append bytes ids ms ts us (omega (arith, e)))
    ∙ sym (append_assoc (value_by bytes m t) (values_by bytes ids ts) (values_by bytes ms us))

append_all : {A : Type 0} (P : A → Type 0) (s t : List A) → ByRecursion P s → ByRecursion P t → ByRecursion P (s ++ t)
append_all P [] t a b = b
append_all P (x ∷ xs) t a b = (a.0, append_all P xs t a.1 b)

abbrev IsFound : List ℕ → Settings → WSym × List WSym → Type 0
IsFound bytes set p = is_surely_found bytes set p.1 ≡ true

abbrev pub HasValues : List ℕ → Settings → List ℕ → List (List WSym) → ℕ → Pairs → Type 0
HasValues bytes set ids ts i s = AreValues bytes set (take i ids) (take i ts) s

pub values-none : (bytes : List ℕ) (set : Settings) (ids : List ℕ) (ts : List (List WSym)) (s : Pairs) → s ≡ [] → HasValues bytes set ids ts 0 s
values-none bytes set ids ts s e = record { are = e; found = All-from_recursion (IsFound bytes set) s (subst (ByRecursion (IsFound bytes set)) (sym e) tt) }

taken : {A : Type 0} (xs : List A) (i : ℕ) → i ≤ length xs → length (take i xs) ≡ i
taken xs zero h = refl
taken [] (suc i) h = absurd (omega (arith, h))
taken (x ∷ xs) (suc i) h = ap suc (taken xs i (omega (arith, h)))

pub values-more : (bytes : List ℕ) (set : Settings) (ids : List ℕ) (ts : List (List WSym)) (i m : ℕ) (t : List WSym) (s r : Pairs) → HasValues bytes set ids ts i s → i < length ids → length ts ≡ length ids
    → m ≡ get_or ids i 0 → t ≡ get_or ts i [] → r ≡ s ++ value_by bytes m t → All (λ p. is_surely_found bytes set p.1 ≡ true) (value_by bytes m t) → HasValues bytes set ids ts (i + 1) r
values-more bytes set ids ts i m t s r h l e at_m at_t more found =
    let n : ℕ = get_or ids i 0 in
    let u : List WSym = get_or ts i [] in
    let long : i < length ts = omega (arith, l, e) in
    let last : value_by bytes m t ≡ values_by bytes (n ∷ []) (u ∷ []) =
    ap (λ (k : ℕ). value_by bytes k t) at_m ∙ ap (value_by bytes n) at_t ∙ sym (append-nil (value_by bytes n u)) in
    let is : r ≡ values_by bytes (take (i + 1) ids) (take (i + 1) ts) =
    more ∙ ap (λ (v : Pairs). v ++ value_by bytes m t) h.are ∙ ap (λ (v : Pairs). values_by bytes (take i ids) (take i ts) ++ v) last
    ∙ sym (values_by-append bytes (take i ids) (n ∷ []) (take i ts) (u ∷ []) (taken ids i (omega (arith, l)) ∙ sym (taken ts i (omega (arith, long)))))
    ∙ ap (λ (v : List ℕ). values_by bytes v (take i ts ++ u ∷ [])) (sym (take_more ids i 0 l))
    ∙ ap (values_by bytes (take (i + 1) ids)) (sym (take_more ts i [] long)) in
    record {
      are = is;
      found = All-from_recursion (IsFound bytes set) r (subst (ByRecursion (IsFound bytes set)) (sym more)
          (append_all (IsFound bytes set) s (value_by bytes m t) (recursion_from_All (IsFound bytes set) s h.found) (recursion_from_All (IsFound bytes set) (value_by bytes m t) found)));
    }

pub values-all : (bytes : List ℕ) (set : Settings) (ids : List ℕ) (ts : List (List WSym)) (i : ℕ) (s : Pairs) → HasValues bytes set ids ts i s → length ids ≤ i → length ts ≡ length ids → AreValues bytes set ids ts s
values-all bytes set ids ts i s h l e =
    let long : length ts ≤ i = omega (arith, l, e) in
    record { are = h.are ∙ ap (λ (v : List ℕ). values_by bytes v (take i ts)) (take_all i ids l) ∙ ap (values_by bytes ids) (take_all i ts long); found = h.found }

-- strings that fit, one more

abbrev pub source_of : List ℕ → Pairs → ℕ → List WSym
source_of bytes s m = applied s (statement_of bytes m)

abbrev pub sources_of : List ℕ → Pairs → List ℕ → List (List WSym)
sources_of bytes s ids = map (applied s) (map (statement_of bytes) ids)

sources-map : (bytes : List ℕ) (s : Pairs) (ids : List ℕ) → sources_of bytes s ids ≡ map (source_of bytes s) ids
sources-map bytes s [] = refl
sources-map bytes s (m ∷ ms) = ap (λ (v : List (List WSym)). source_of bytes s m ∷ v) (sources-map bytes s ms)

pub fits-more : (bytes : List ℕ) (s : Pairs) (ids : List ℕ) (ts : List (List WSym)) (i m : ℕ) (t : List WSym) → take i ts ≡ sources_of bytes s (take i ids) → i < length ids → length ts ≡ length ids
    → m ≡ get_or ids i 0 → t ≡ get_or ts i [] → pointwise is_same t (applied s (statement_of bytes m)) ≡ true → take (i + 1) ts ≡ sources_of bytes s (take (i + 1) ids)
fits-more bytes s ids ts i m t h l e at_m at_t fit =
    let long : i < length ts = omega (arith, l, e) in
    let last : get_or ts i [] ≡ source_of bytes s (get_or ids i 0) = sym at_t ∙ same_string t (applied s (statement_of bytes m)) fit ∙ ap (source_of bytes s) at_m in
    take_more ts i [] long
    ∙ ap (λ (v : List (List WSym)). v ++ get_or ts i [] ∷ []) (h ∙ sources-map bytes s (take i ids))
    ∙ ap (λ (v : List WSym). map (source_of bytes s) (take i ids) ++ v ∷ []) last
    ∙ sym (map_more (source_of bytes s) ids i 0 l)
    ∙ sym (sources-map bytes s (take (i + 1) ids))

pub fits-all : (bytes : List ℕ) (s : Pairs) (ids : List ℕ) (ts : List (List WSym)) (i : ℕ) → take i ts ≡ sources_of bytes s (take i ids) → length ids ≤ i → length ts ≡ length ids → ts ≡ sources_of bytes s ids
fits-all bytes s ids ts i h l e =
    let long : length ts ≤ i = omega (arith, l, e) in
    sym (take_all i ts long) ∙ h ∙ ap (sources_of bytes s) (take_all i ids l)

-- labels that are the same, one more

pub labels-more : (labels : List (Option ℕ)) (a b i many : ℕ) → a + many ≤ length labels → b + many ≤ length labels → i < many → take i (drop a labels) ≡ take i (drop b labels)
    → get_or labels (a + i) None ≡ get_or labels (b + i) None → take (i + 1) (drop a labels) ≡ take (i + 1) (drop b labels)
labels-more labels a b i many f s l h e =
    take_more_same (drop a labels) (drop b labels) i None (omega (arith, length-drop a labels)) (omega (arith, length-drop b labels)) h
    (get_or-drop a labels i None ∙ e ∙ sym (get_or-drop b labels i None))

pub same_label : (x y : Option ℕ) → option_eq nat_eq x y ≡ true → x ≡ y
same_label None None h = refl
same_label None (Some y) h = absurd (false≢true h)
same_label (Some x) None h = absurd (false≢true h)
same_label (Some x) (Some y) h = ap Some (eqb-true x y h)

pub kept_label : (x y : Option ℕ) → not (option_eq nat_eq x y) ≡ false → x ≡ y
kept_label x y h = same_label x y (so (option_eq nat_eq x y) h)
  where
    so : (b : Bool) → not b ≡ false → b ≡ true
    so true e = refl
    so false e = absurd (true≢false e)

-- a step that names a statement, whose hypotheses have these ids

pub lays_known : (bytes : List ℕ) (set : Settings) (id : ℕ) (g h : Grove) (ids : List ℕ) (sigma : Pairs) (target : List WSym) → ids ≡ premise_ids bytes id → length ids ≤ length g.standing
    → AreValues bytes set ids (last_targets g (length ids)) sigma → last_targets g (length ids) ≡ sources_of bytes sigma ids → target ≡ applied sigma (statement_of bytes id) → length target ≤ most_symbols
    → h ≡ grown g (length g.standing - length ids) (known target id sigma (drop (length g.standing - length ids) g.standing)) → LaysKnown bytes set id g h
lays_known bytes set id g h ids sigma target e many values fits is short more = record {
  sigma = sigma;
  target = target;
  many = subst (λ (ms : List ℕ). length ms ≤ length g.standing) e many;
  values = subst (λ (ms : List ℕ). AreValues bytes set ms (last_targets g (length ms)) sigma) e values;
  fits = subst (λ (ms : List ℕ). last_targets g (length ms) ≡ sources_of bytes sigma ms) e fits;
  target_is = is;
  short = short;
  more = subst (λ (ms : List ℕ). h ≡ grown g (length g.standing - length ms) (known target id sigma (drop (length g.standing - length ms) g.standing))) e more;
}
