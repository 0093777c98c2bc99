-- The visits of a tree that one substitution settles.
use Rattle.std.proofs.Common.{◌≡◌, ℕ, zero, suc, ◌+◌, ◌-◌, Bool, true, false, not, List, [], ◌∷◌, ◌++◌, map, length, drop, get_or, Option, None, Some, refl, sym, ap, ◌∙◌, subst, inl, inr, ◌⊎◌, arith, if◌then◌else◌}
use Rattle.std.specs.Prelude.{Result, Ok}
use Rattle.std.proofs.lemmas.Bool.{true≢false}
use Rattle.std.proofs.lemmas.List.Concat.{flat_map-cons}
use Rattle.std.proofs.lemmas.List.Elements.{recursion_from_All}
use Rattle.std.specs.Cmp.Lexicographic.{pointwise}
use Rattle.std.specs.List.{flat_map, AllByRecursion as ByRecursion, range_with_len}
use Rattle.mm_base.specs.Refusals.{given}
use Rattle.mm_scope.specs.Contents.{stated_at}
use Rattle.mm_stated.specs.Stated.{is_hypothesis}
use Rattle.mm_subst.specs.declared.symbol.WSym.{WSym}
use Rattle.mm_subst.specs.declared.symbol.WSym.TheVariants.{Const, Work}
use Rattle.mm_subst.specs.Statements.{statement_of}
use Rattle.mm_subst.specs.Symbols.{is_same, is_work, has_work}
use Rattle.mm_subst.specs.Substitutions.{Pairs, value_at, value_of, or_itself, applied, with_values, then_by}
use Rattle.mm_subst.proofs.Replaced.{applied-empty}
use Rattle.mm_unify.specs.declared.listing.Settings.{Settings}
use Rattle.mm_plain.specs.declared.plain.Plain.{Plain}
use Rattle.mm_plain.specs.declared.plain.Plain.TheOpen as L
use Rattle.mm_plain.specs.declared.plain.Plain.TheOpen.{Plain-F}
use Rattle.mm_plain.specs.declared.plain.Plain.TheViews as V
use Rattle.mm_plain.specs.Binding.{bound, bound_in, HasWorkKeys}
use Rattle.mm_plain.specs.Lengths.{first_long}
use Rattle.mm_plain.specs.Premises.{premises_of}
use Rattle.mm_plain.specs.Shape.{Each, Proof, known, unknown, steps_of, size_of, step_at, target_of}
use Rattle.mm_plain.specs.Sources.{source_of, sigma_of}
use Rattle.mm_plain.proofs.Binding.{bound-unknown, bound-known, same_known, bound-then_by, steps_of-bound, each_itself}
use Rattle.mm_plain.proofs.Equations.{by_trees, steps_of-unknown, steps_of-known, target_of-known, length-steps_of}
use Rattle.mm_plain.proofs.Read.{source_of-known, is_pending-known, sigma_of-known}
use Rattle.mm_plain.proofs.Works.{neither, statement_plain, statement-with_values}
use Rattle.mm_edit.specs.Applying.{applying, unless_long}
use Rattle.mm_edit.specs.Listed.{listed, listed_with, only_unifier}
use Rattle.mm_edit.specs.Loading.{visited, all_visited}
use Rattle.mm_edit.specs.Unifying.{unifier_in, unifier_at, going_on}
use Rattle.mm_edit.specs.declared.edit_fault.EditFault.{EditFault}
use Rattle.mm_edit.proofs.BuiltParts.{FindsParts, choice, then_opt, turned}
use Rattle.mm_edit.proofs.PartialBinding.{IsPart, IsGround, AllFound, nothing_found, string_found}

-- the only unifier of two strings
abbrev pub found_for : List ℕ → Settings → List WSym → List WSym → Option Pairs
found_for bytes set a b = unifier_in (only_unifier (listed bytes set a b))

-- one of the targets is a typecode and the work variable
abbrev pub HasFloat : ℕ → List (List WSym) → Type 0
HasFloat n [] = ⊥
HasFloat n (t ∷ ts) = ((c : ℕ) × (t ≡ Const c ∷ Work n ∷ [])) ⊎ HasFloat n ts

-- a value is a work variable, and a child is for it
abbrev pub IsShown : List (List WSym) → WSym × List WSym → Type 0
IsShown targets p = (n : ℕ) × (p.1 ≡ Work n ∷ []) × HasFloat n targets

-- The substitution makes target and source one string without work variables; the children are to prove the premises; and each
-- value is a work variable for which there is a child.
pub record IsReady (bytes : List ℕ) (gamma : Pairs) (t : List WSym) (l : ℕ) (s : Pairs) (targets : List (List WSym)) : Type 0 where
  pub equal : applied gamma t ≡ applied gamma (applied s (statement_of bytes l))
  pub fixed : has_work (applied gamma (applied s (statement_of bytes l))) ≡ false
  pub children : targets ≡ map (applied s) (premises_of bytes l)
  pub shown : ByRecursion (IsShown targets) s

abbrev pub ready_layer : List ℕ → Pairs → Plain-F Plain → Type 0
ready_layer bytes gamma (L.Unknown t) = ⊥
ready_layer bytes gamma (L.Known t l s kids) = IsReady bytes gamma t l s (map target_of kids)

unfoldable pub IsReadyStep : List ℕ → Pairs → Plain → Type 0
IsReadyStep bytes gamma y = ready_layer bytes gamma (V.out-Plain y)

pub ready-known : (bytes : List ℕ) (gamma : Pairs) (t : List WSym) (l : ℕ) (s : Pairs) (kids : List Plain) → IsReadyStep bytes gamma (known t l s kids) → IsReady bytes gamma t l s (map target_of kids)
unfolding IsReadyStep
ready-known bytes gamma t l s kids h = subst (ready_layer bytes gamma) (V.out-roll-Plain (L.Known t l s kids)) h

pub known-ready : (bytes : List ℕ) (gamma : Pairs) (t : List WSym) (l : ℕ) (s : Pairs) (kids : List Plain) → IsReady bytes gamma t l s (map target_of kids) → IsReadyStep bytes gamma (known t l s kids)
unfolding IsReadyStep
known-ready bytes gamma t l s kids h = subst (ready_layer bytes gamma) (sym (V.out-roll-Plain (L.Known t l s kids))) h

ready-unknown : (bytes : List ℕ) (gamma : Pairs) (t : List WSym) → IsReadyStep bytes gamma (unknown t) → ⊥
unfolding IsReadyStep
ready-unknown bytes gamma t h = subst (ready_layer bytes gamma) (V.out-roll-Plain (L.Unknown t)) h

-- facts of the steps of a tree

each-left : (P : Plain → Type 0) (xs ys : List Plain) → Each P (xs ++ ys) → Each P xs
each-left P [] ys e = tt
each-left P (x ∷ xs) ys e = (e.0, each-left P xs ys e.1)

each-right : (P : Plain → Type 0) (xs ys : List Plain) → Each P (xs ++ ys) → Each P ys
each-right P [] ys e = e
each-right P (x ∷ xs) ys e = each-right P xs ys e.1

each-kids : (P : Plain → Type 0) (kids : List Plain) → Each P (flat_map steps_of kids) → Each (λ x. Each P (steps_of x)) kids
each-kids P [] e = tt
each-kids P (x ∷ xs) e =
    let f = subst (Each P) (flat_map-cons steps_of x xs) e in
    (each-left P (steps_of x) (flat_map steps_of xs) f, each-kids P xs (each-right P (steps_of x) (flat_map steps_of xs) f))

pub split : (P : Plain → Type 0) (t : List WSym) (l : ℕ) (s : Pairs) (kids : List Plain) → Each P (steps_of (known t l s kids)) → Each (λ x. Each P (steps_of x)) kids × P (known t l s kids)
split P t l s kids e =
    let f = subst (Each P) (steps_of-known t l s kids) e in
    (each-kids P kids (each-left P (flat_map steps_of kids) (known t l s kids ∷ []) f), (each-right P (flat_map steps_of kids) (known t l s kids ∷ []) f).0)

found_at : {A : Type 0} (f : A → A) (xs : List A) (k : ℕ) (z : A) (zs : List A) (d : A) → drop k xs ≡ z ∷ zs → (get_or (map f xs) k d ≡ f z) × (drop (k + 1) xs ≡ zs)
found_at f [] zero z zs d e = cc
found_at f [] (suc k) z zs d e = cc
found_at f (x ∷ xs) zero z zs d e = let h : x ≡ z = cc in let t : xs ≡ zs = cc in (ap f h, t)
found_at f (x ∷ xs) (suc k) z zs d e = let ih = found_at f xs k z zs d e in (ih.0, ap (λ n. drop n (x ∷ xs)) n+1 ∙ ih.1)
  where
    n+1 : suc k + 1 ≡ suc (k + 1)
    n+1 = omega arith

values_empty : (s : Pairs) → with_values [] s ≡ s
values_empty [] = refl
values_empty (p ∷ ps) = ap (λ v. (p.0, v) ∷ with_values [] ps) (applied-empty p.1) ∙ ap (λ q. p ∷ q) (values_empty ps)

bound-empty : (x : Plain) → bound [] x ≡ x
bound-empty = by_trees (λ x. bound [] x ≡ x)
    (λ t. bound-unknown [] t ∙ ap unknown (applied-empty t))
    (λ t l s kids h. bound-known [] t l s kids ∙ same_known l _ _ _ _ _ _ (applied-empty t) (values_empty s) (each_itself (bound []) kids h))

-- what is applied at a step under a substitution
unifier_at-bound : (bytes : List ℕ) (set : Settings) (beta : Pairs) (t : List WSym) (l : ℕ) (s : Pairs) (kids : List Plain) → HasWorkKeys beta
    → unifier_at bytes set (bound beta (known t l s kids)) ≡ choice (found_for bytes set) (applied beta t) (applied beta (applied s (statement_of bytes l)))
unifier_at-bound bytes set beta t l s kids k =
    let t' : List WSym = applied beta t in
    let s' : Pairs = with_values beta s in
    let y : Plain = known t' l s' (map (bound beta) kids) in
    let src : List WSym = applied s' (statement_of bytes l) in
    ap (unifier_at bytes set) (bound-known beta t l s kids)
    ∙ ap (λ b. if b then unifier_in (only_unifier (listed_with bytes set (target_of y) (source_of bytes y))) else None) (is_pending-known bytes t' l s' (map (bound beta) kids))
    ∙ ap (λ u. if not (pointwise is_same t' src) then unifier_in (only_unifier (listed_with bytes set u (source_of bytes y))) else None) (target_of-known t' l s' (map (bound beta) kids))
    ∙ ap (λ o. if not (pointwise is_same t' src) then unifier_in (only_unifier (listed_with bytes set t' o)) else None) (source_of-known bytes t' l s' (map (bound beta) kids))
    ∙ ap (λ u. choice (found_for bytes set) t' u) (statement-with_values bytes beta s l k)

module _ (bytes : List ℕ) (set : Settings) (gamma : Pairs) (works : HasWorkKeys gamma) (ground : IsGround gamma) (facts : FindsParts gamma (found_for bytes set)) where
  -- what is found after a step, and after several
  abbrev turn : Pairs → Plain → Pairs
  turn beta y = then_opt (unifier_at bytes set (bound beta y)) beta

  unfoldable turns : Pairs → List Plain → Pairs
  turns beta [] = beta
  turns beta (y ∷ ys) = turns (turn beta y) ys

  -- it is a part of the whole after each
  unfoldable Path : Pairs → List Plain → Type 0
  Path beta [] = Unit {0}
  Path beta (y ∷ ys) = IsPart gamma (turn beta y) × Path (turn beta y) ys

  turns-append : (beta : Pairs) (xs ys : List Plain) → turns beta (xs ++ ys) ≡ turns (turns beta xs) ys
  unfolding turns
  turns-append beta [] ys = refl
  turns-append beta (x ∷ xs) ys = turns-append (turn beta x) xs ys

  path-append : (beta : Pairs) (xs ys : List Plain) → Path beta xs → Path (turns beta xs) ys → Path beta (xs ++ ys)
  unfolding turns Path
  path-append beta [] ys p q = q
  path-append beta (x ∷ xs) ys p q = (p.0, path-append (turn beta x) xs ys p.1 q)

  abbrev Has : Pairs → WSym → Type 0
  Has beta w = value_of beta w ≡ value_of gamma w

  -- where a tree's target is a typecode and a work variable, this variable is found
  abbrev Floats : Pairs → Plain → Type 0
  Floats beta x = (c n : ℕ) → target_of x ≡ Const c ∷ Work n ∷ [] → Has beta (Work n)

  abbrev ValuesFound : Pairs → Pairs → Type 0
  ValuesFound beta s = ByRecursion (λ p. AllFound gamma beta p.1) s

  -- each work variable of a step's values is found
  abbrev Values : Pairs → Plain → Type 0
  Values beta x = ValuesFound beta (sigma_of x)

  record Done (ys : List Plain) (beta : Pairs) : Type 0 where
    is_part : IsPart gamma (turns beta ys)
    path : Path beta ys
    keeps : (w : WSym) → Has beta w → Has (turns beta ys) w
    found : Each (Values (turns beta ys)) ys

  record Settled (x : Plain) (beta : Pairs) : Type 0 where
    done : Done (steps_of x) beta
    float : Floats (turns beta (steps_of x)) x

  record AllSettled (xs : List Plain) (beta : Pairs) : Type 0 where
    done : Done (flat_map steps_of xs) beta
    floats : Each (Floats (turns beta (flat_map steps_of xs))) xs

  abbrev Settles : Plain → Type 0
  Settles x = (beta : Pairs) → IsPart gamma beta → Settled x beta

  string_kept : (beta tau : Pairs) → ((w : WSym) → Has beta w → Has tau w) → (s : List WSym) → AllFound gamma beta s → AllFound gamma tau s
  string_kept beta tau k [] h = tt
  string_kept beta tau k (w ∷ ws) h = ((λ on. k w (h.0 on)), string_kept beta tau k ws h.1)

  values_kept : (beta tau : Pairs) → ((w : WSym) → Has beta w → Has tau w) → (s : Pairs) → ValuesFound beta s → ValuesFound tau s
  values_kept beta tau k [] h = tt
  values_kept beta tau k (p ∷ ps) h = (string_kept beta tau k p.1 h.0, values_kept beta tau k ps h.1)

  each_kept : (beta tau : Pairs) → ((w : WSym) → Has beta w → Has tau w) → (xs : List Plain) → Each (Values beta) xs → Each (Values tau) xs
  each_kept beta tau k [] h = tt
  each_kept beta tau k (x ∷ xs) h = (values_kept beta tau k (sigma_of x) h.0, each_kept beta tau k xs h.1)

  each_join : (P : Plain → Type 0) (xs ys : List Plain) → Each P xs → Each P ys → Each P (xs ++ ys)
  each_join P [] ys a b = b
  each_join P (x ∷ xs) ys a b = (a.0, each_join P xs ys a.1 b)

  none_done : (beta : Pairs) → IsPart gamma beta → Done [] beta
  unfolding turns Path
  none_done beta p = record { is_part = p; path = tt; keeps = λ w h. h; found = tt }

  both_done : (xs ys : List Plain) (beta : Pairs) → Done xs beta → Done ys (turns beta xs) → Done (xs ++ ys) beta
  both_done xs ys beta d e = record {
    is_part = subst (IsPart gamma) (sym (turns-append beta xs ys)) e.is_part;
    path = path-append beta xs ys d.path e.path;
    keeps = λ w h. subst (λ b. Has b w) (sym (turns-append beta xs ys)) (e.keeps w (d.keeps w h));
    found = subst (λ b. Each (Values b) (xs ++ ys)) (sym (turns-append beta xs ys)) (each_join (Values (turns (turns beta xs) ys)) xs ys (each_kept (turns beta xs) (turns (turns beta xs) ys) e.keeps xs d.found) e.found);
  }

  all_settled : (xs : List Plain) → Each Settles xs → (beta : Pairs) → IsPart gamma beta → AllSettled xs beta
  unfolding turns
  all_settled [] e beta p = record { done = none_done beta p; floats = tt }
  all_settled (x ∷ xs) e beta p =
      let first = e.0 beta p in
      let more = all_settled xs e.1 (turns beta (steps_of x)) first.done.is_part in
      let joined : Done (steps_of x ++ flat_map steps_of xs) beta = both_done (steps_of x) (flat_map steps_of xs) beta first.done more.done in
      let after : turns beta (steps_of x ++ flat_map steps_of xs) ≡ turns (turns beta (steps_of x)) (flat_map steps_of xs) = turns-append beta (steps_of x) (flat_map steps_of xs) in
      record {
        done = subst (λ ys. Done ys beta) (sym (flat_map-cons steps_of x xs)) joined;
        floats = subst (λ ys. Each (Floats (turns beta ys)) (x ∷ xs)) (sym (flat_map-cons steps_of x xs))
            (subst (λ b. Each (Floats b) (x ∷ xs)) (sym after) ((λ c n t. more.done.keeps (Work n) (first.float c n t)), more.floats));
      }

  -- the variables of the source are found, where the children are done
  lookup : (beta : Pairs) (kids : List Plain) (n : ℕ) → Each (Floats beta) kids → HasFloat n (map target_of kids) → Has beta (Work n)
  lookup beta [] n e h = absurd h
  lookup beta (x ∷ xs) n e (inl h) = e.0 h.0 n h.1
  lookup beta (x ∷ xs) n e (inr h) = lookup beta xs n e.1 h

  values_found : (beta : Pairs) (kids : List Plain) (s : Pairs) → Each (Floats beta) kids → ByRecursion (IsShown (map target_of kids)) s → ValuesFound beta s
  values_found beta kids [] e h = tt
  values_found beta kids (p ∷ ps) e h = (subst (AllFound gamma beta) (sym h.0.1) ((λ on. lookup beta kids h.0.0 e h.0.2), tt), values_found beta kids ps e h.1)

  value_found : (beta sigma : Pairs) (x : WSym) → ValuesFound beta sigma → (is_work x ≡ true → Has beta x) → AllFound gamma beta (value_of sigma x)
  value_found beta [] x a h = (h, tt)
  value_found beta (p ∷ ps) x a h = elim (is_same p.0 x) as (λ b. AllFound gamma beta (or_itself x (if b then Some p.1 else value_at ps x))) [ true ↦ a.0 | false ↦ value_found beta ps x a.1 h ]

  join_found : (beta : Pairs) (s t : List WSym) → AllFound gamma beta s → AllFound gamma beta t → AllFound gamma beta (s ++ t)
  join_found beta [] t a b = b
  join_found beta (x ∷ xs) t a b = (a.0, join_found beta xs t a.1 b)

  applied_found : (beta sigma : Pairs) (s : List WSym) → ValuesFound beta sigma → AllFound gamma beta s → AllFound gamma beta (applied sigma s)
  unfolding applied
  applied_found beta sigma [] a h = tt
  applied_found beta sigma (x ∷ xs) a h = join_found beta (value_of sigma x) (applied sigma xs) (value_found beta sigma x a h.0) (applied_found beta sigma xs a h.1)

  statement_found : (beta sigma : Pairs) (l : ℕ) → ValuesFound beta sigma → AllFound gamma beta (applied sigma (statement_of bytes l))
  statement_found beta sigma l h = applied_found beta sigma (statement_of bytes l) h
      (recursion_from_All _ (statement_of bytes l) (statement_plain (λ w. is_work w ≡ true → Has beta w) (λ w off on. absurd (true≢false (sym on ∙ off))) bytes l))

  module _ (t : List WSym) (l : ℕ) (s : Pairs) (kids : List Plain) (ready : IsReady bytes gamma t l s (map target_of kids)) where
    abbrev y : Plain
    y = known t l s kids

    abbrev src : List WSym
    src = applied s (statement_of bytes l)

    root_turned : (beta : Pairs) (p : IsPart gamma beta) → Each (Floats beta) kids → (IsPart gamma (turn beta y) × ((w : WSym) → Has beta w → Has (turn beta y) w)) × Floats (turn beta y) y
    root_turned beta p e =
        let found : applied beta src ≡ applied gamma src = string_found gamma beta works p.works src (statement_found beta s l (values_found beta kids s e ready.shown)) in
        let r = turned (found_for bytes set) gamma works ground facts beta p t src ready.equal found ready.fixed (unifier_at bytes set (bound beta y)) (sym (unifier_at-bound bytes set beta t l s kids p.works)) in
        ((r.is_part, r.keeps), λ c n f. r.float c n (sym (target_of-known t l s kids) ∙ f))

    known_settles : Each Settles kids → Settles y
    unfolding turns Path
    known_settles e beta p =
        let below = all_settled kids e beta p in
        let mid : Pairs = turns beta (flat_map steps_of kids) in
        let r = root_turned mid below.done.is_part below.floats in
        let root : Done (y ∷ []) mid = record { is_part = r.0.0; path = (r.0.0, tt); keeps = r.0.1; found = (subst (ValuesFound (turn mid y)) (sym (sigma_of-known t l s kids)) (values_kept mid (turn mid y) r.0.1 s (values_found mid kids s below.floats ready.shown)), tt) } in
        let whole : Done (flat_map steps_of kids ++ y ∷ []) beta = both_done (flat_map steps_of kids) (y ∷ []) beta below.done root in
        let last : turns beta (flat_map steps_of kids ++ y ∷ []) ≡ turn mid y = turns-append beta (flat_map steps_of kids) (y ∷ []) in
        record {
          done = subst (λ ys. Done ys beta) (sym (steps_of-known t l s kids)) whole;
          float = subst (λ ys. Floats (turns beta ys) y) (sym (steps_of-known t l s kids)) (subst (λ b. Floats b y) (sym last) r.1);
        }

  each_with : (P Q : Plain → Type 0) (xs : List Plain) → Each (λ x. P x → Q x) xs → Each P xs → Each Q xs
  each_with P Q [] f a = tt
  each_with P Q (x ∷ xs) f a = (f.0 a.0, each_with P Q xs f.1 a.1)

  abbrev AreReady : Plain → Type 0
  AreReady x = Each (IsReadyStep bytes gamma) (steps_of x)

  tree_settles : (x : Plain) → AreReady x → Settles x
  tree_settles = by_trees (λ x. AreReady x → Settles x)
      (λ t h. absurd (ready-unknown bytes gamma t (subst (Each (IsReadyStep bytes gamma)) (steps_of-unknown t) h).0))
      (λ t l s kids e h.
      let parts = split (IsReadyStep bytes gamma) t l s kids h in
      known_settles t l s kids (ready-known bytes gamma t l s kids parts.1) (each_with AreReady Settles kids e parts.0))

  -- what is found of a whole tree makes the same of it as the whole substitution
  values_same : (beta : Pairs) → IsPart gamma beta → (s : Pairs) → ValuesFound beta s → with_values beta s ≡ with_values gamma s
  values_same beta p [] h = refl
  values_same beta p (q ∷ qs) h = ap (λ v. (q.0, v) ∷ with_values beta qs) (string_found gamma beta works p.works q.1 h.0) ∙ ap (λ rs. (q.0, applied gamma q.1) ∷ rs) (values_same beta p qs h.1)

  premises_found : (beta sigma : Pairs) (ms : List ℕ) → ValuesFound beta sigma → ByRecursion (AllFound gamma beta) (map (applied sigma) (map (statement_of bytes) ms))
  premises_found beta sigma [] h = tt
  premises_found beta sigma (m ∷ ms) h = (statement_found beta sigma m h, premises_found beta sigma ms h)

  children_found : (beta sigma : Pairs) (l : ℕ) (b : Bool) → ValuesFound beta sigma → ByRecursion (AllFound gamma beta) (map (applied sigma) (if b then [] else map (statement_of bytes) (stated_at bytes l).mandatory))
  children_found beta sigma l true h = tt
  children_found beta sigma l false h = premises_found beta sigma (stated_at bytes l).mandatory h

  targets_found : (beta : Pairs) (t : List WSym) (l : ℕ) (s : Pairs) (kids : List Plain) → IsReady bytes gamma t l s (map target_of kids) → ValuesFound beta s → ByRecursion (AllFound gamma beta) (map target_of kids)
  unfolding premises_of
  targets_found beta t l s kids r h = subst (ByRecursion (AllFound gamma beta)) (sym r.children) (children_found beta s l (is_hypothesis (stated_at bytes l).kind) h)

  abbrev Same : Pairs → Plain → Type 0
  Same beta x = AreReady x → Each (Values beta) (steps_of x) → AllFound gamma beta (target_of x) → bound beta x ≡ bound gamma x

  kids_same : (beta : Pairs) (kids : List Plain) → Each (Same beta) kids → Each AreReady kids → Each (λ x. Each (Values beta) (steps_of x)) kids → ByRecursion (AllFound gamma beta) (map target_of kids)
      → map (bound beta) kids ≡ map (bound gamma) kids
  kids_same beta [] e r v f = refl
  kids_same beta (x ∷ xs) e r v f = ap (λ z. z ∷ map (bound beta) xs) (e.0 r.0 v.0 f.0) ∙ ap (λ zs. bound gamma x ∷ zs) (kids_same beta xs e.1 r.1 v.1 f.1)

  tree_same : (beta : Pairs) → IsPart gamma beta → (x : Plain) → Same beta x
  tree_same beta p = by_trees (Same beta)
      (λ t r v f. absurd (ready-unknown bytes gamma t (subst (Each (IsReadyStep bytes gamma)) (steps_of-unknown t) r).0))
      (λ t l s kids e r v f.
      let rs = split (IsReadyStep bytes gamma) t l s kids r in
      let vs = split (Values beta) t l s kids v in
      let ready = ready-known bytes gamma t l s kids rs.1 in
      let own = subst (ValuesFound beta) (sigma_of-known t l s kids) vs.1 in
      bound-known beta t l s kids
      ∙ same_known l _ _ _ _ _ _ (string_found gamma beta works p.works t (subst (AllFound gamma beta) (target_of-known t l s kids) f)) (values_same beta p s own)
      (kids_same beta kids e rs.0 vs.0 (targets_found beta t l s kids ready own))
      ∙ sym (bound-known gamma t l s kids))

  plain_found : (beta : Pairs) (s : List WSym) → has_work s ≡ false → AllFound gamma beta s
  plain_found beta [] h = tt
  plain_found beta (w ∷ ws) h = let e = neither (is_work w) (has_work ws) h in ((λ on. absurd (true≢false (sym on ∙ e.0))), plain_found beta ws e.1)

  -- the visits of the whole tree are the turns of its steps
  module _ (q : Proof) (short : (beta : Pairs) → IsPart gamma beta → first_long bytes (bound beta q.plain) ≡ None) where
    visit_is : (beta : Pairs) (o : Option Pairs) → IsPart gamma (then_opt o beta) → going_on o (bound_in beta q) (λ theta. applying bytes theta (bound_in beta q)) ≡ Ok (bound_in (then_opt o beta) q)
    visit_is beta None p = refl
    visit_is beta (Some theta) p =
        ap (λ z. unless_long (first_long bytes z) (record { plain = z; next = q.next })) (sym (bound-then_by theta beta q.plain))
        ∙ ap (λ o. unless_long o (bound_in (then_by theta beta) q)) (short (then_by theta beta) p)

    at_is : (beta : Pairs) (k : ℕ) (z : Plain) (zs : List Plain) → drop k (steps_of q.plain) ≡ z ∷ zs → step_at (bound beta q.plain) (k + 1) ≡ bound beta z
    at_is beta k z zs e =
        let n : (k + 1) - 1 ≡ k = omega arith in
        ap (λ i. get_or (steps_of (bound beta q.plain)) i (bound beta q.plain)) n
        ∙ ap (λ ys. get_or ys k (bound beta q.plain)) (steps_of-bound beta q.plain)
        ∙ (found_at (bound beta) (steps_of q.plain) k z zs (bound beta q.plain) e).0

    visits_are : (n k : ℕ) (beta : Pairs) (ys : List Plain) → drop k (steps_of q.plain) ≡ ys → length ys ≡ n → Path beta ys
        → visited bytes set (bound_in beta q) (range_with_len (k + 1) n) ≡ Ok (bound_in (turns beta ys) q)
    unfolding turns Path given
    visits_are zero k beta [] e h p = refl
    visits_are zero k beta (y ∷ ys) e h p = absurd (omega (arith, h))
    visits_are (suc n) k beta [] e h p = absurd (omega (arith, h))
    visits_are (suc n) k beta (y ∷ ys) e h p =
        ap (λ z. given (going_on (unifier_at bytes set z) (bound_in beta q) (λ theta. applying bytes theta (bound_in beta q))) (λ r. visited bytes set r (range_with_len ((k + 1) + 1) n))) (at_is beta k y ys e)
        ∙ ap (λ o. given o (λ r. visited bytes set r (range_with_len ((k + 1) + 1) n))) (visit_is beta (unifier_at bytes set (bound beta y)) p.0)
        ∙ visits_are n (k + 1) (turn beta y) ys (found_at (bound beta) (steps_of q.plain) k y ys (bound beta q.plain) e).1 (omega (arith, h)) p.1

    -- after all visits the tree is that with the whole substitution applied
    pub visits_settle : AreReady q.plain → has_work (target_of q.plain) ≡ false → all_visited bytes set q ≡ Ok (bound_in gamma q)
    visits_settle ready goal =
        let s = tree_settles q.plain ready [] (nothing_found gamma) in
        let beta : Pairs = turns [] (steps_of q.plain) in
        ap (λ z. visited bytes set (record { plain = z; next = q.next }) (range_with_len 1 (size_of q.plain))) (sym (bound-empty q.plain))
        ∙ visits_are (size_of q.plain) 0 [] (steps_of q.plain) refl (length-steps_of q.plain) s.done.path
        ∙ ap (λ z. let r : Result Proof EditFault = Ok (record { plain = z; next = q.next }) in r) (tree_same beta s.done.is_part q.plain ready s.done.found (plain_found beta (target_of q.plain) goal))
