-- What is found for a string is a proof of it.
use Rattle.std.proofs.Common.{◌≡◌, ◌<◌, ◌==◌, ℕ, zero, suc, Bool, true, false, ◌&&◌, ◌||◌, nat_eq, nat_lt, List, [], ◌∷◌, All, Option, None, Some, length, map, refl, sym, ◌∙◌, ap, inl, inr, subst, if◌then◌else◌, cond}
use Rattle.std.specs.List.{flat_map, list_any, AllByRecursion}
use Rattle.std.proofs.lemmas.Bool.{false≢true, eq-eqb, ltb-false}
use Rattle.std.proofs.lemmas.List.Elements.{recursion_from_All, All-from_recursion, All-nil}
use Rattle.std.specs.Cmp.Lexicographic.{pointwise}
use Rattle.mm_scope.specs.Contents.{labels_of, statements_of, stated_at, active_at, distinct_at}
use Rattle.mm_stated.specs.Mandatory.{variables_of}
use Rattle.mm_stated.specs.Stated.{is_hypothesis, is_essential}
use Rattle.mm_subst.specs.Applied.{most_symbols}
use Rattle.mm_subst.specs.declared.symbol.WSym.{WSym}
use Rattle.mm_subst.specs.declared.symbol.WSym.TheVariants.{Var}
use Rattle.mm_subst.specs.Statements.{statement_of}
use Rattle.mm_subst.specs.Substitutions.{value_of, applied}
use Rattle.mm_subst.specs.Symbols.{is_same}
use Rattle.mm_subst.proofs.Replaced.{applied-empty}
use Rattle.mm_unify.proofs.Sorted.{Among, among_all, among_either, among_mapped, among_filtered}
use Rattle.mm_plain.specs.declared.plain.Plain.{Plain}
use Rattle.mm_plain.specs.Lengths.{is_long}
use Rattle.mm_plain.specs.Premises.{premise_ids, premises_of, variables_for, may_stand}
use Rattle.mm_plain.specs.Shape.{Each, known, target_of}
use Rattle.mm_plain.specs.Valid.{Setting, first_setting, IsKnownSymbol, IsString}
use Rattle.mm_plain.proofs.Bounds.{applied-known}
use Rattle.mm_plain.proofs.Forms.{string_of_statement}
use Rattle.mm_sound.specs.Apart.{AreParted}
use Rattle.mm_sound.proofs.Paired.{is_key, pairs_among_keys}
use Rattle.mm_chart.specs.Options.{is_there, or_else, on, first, first_there, all_there}
use Rattle.mm_improve.specs.Assertions.{Terms, may_be_used, has_essential, plain_assertions, matches, parts}
use Rattle.mm_improve.specs.Ranks.{Use, Chosen, at_rank, uses, serves, chosen, tree}
use Rattle.mm_improve.specs.Proving.{rank_limit, chosen_tree, essential_assertions, essential_uses, premise_proof, proof_by, proof_of}
use Rattle.mm_improve.specs.Proofs.{IsProofFor}
use Rattle.mm_improve.proofs.ActiveKinds.{active_are_hypotheses}
use Rattle.mm_improve.proofs.Agreeing.{IsUsable, VariablesDiffer, usable, plain_usable}
use Rattle.mm_improve.proofs.ProofSteps.{IsProof, step_proves}
use Rattle.mm_improve.proofs.ProofUses.{IsUse, match_is_use}
use Rattle.mm_chart.proofs.Symbols.{same_strings}
use Rattle.mm_improve.proofs.Unfolding.{all_weaker, at-zero, at-suc, short_of, is_short, some_there, no_parts, served, tree-at-zero, tree-at-suc}

-- ## Lists

first_among : {X : Type 0} (p : X → Bool) (xs : List X) (x : X) → first p xs ≡ Some x → Among x xs × (p x ≡ true)
first_among p [] x e = absurd (cc)
first_among p (y ∷ xs) x e = by (p y) refl e (first_among p xs x)
  where
    by : (b : Bool) → p y ≡ b → cond b (Some y) (first p xs) ≡ Some x → (first p xs ≡ Some x → Among x xs × (p x ≡ true)) → Among x (y ∷ xs) × (p x ≡ true)
    by true q k f = let z : x ≡ y = cc in (inl z, ap p z ∙ q)
    by false q k f = let r = f k in (inr r.0, r.1)

among_flat : {X Y : Type 0} (f : X → List Y) (xs : List X) (y : Y) → Among y (flat_map f xs) → (x : X) × Among x xs × Among y (f x)
among_flat f [] y a = absurd a
among_flat f (x ∷ xs) y a = elim (among_either y (f x) (flat_map f xs) a) [
  | inl h ↦ (x, inl refl, h)
  | inr h ↦ let r = among_flat f xs y h in (r.0, inr r.1, r.2)
]

among_any : (v : ℕ) (ns : List ℕ) → Among v ns → list_any (λ n. v == n) ns ≡ true
among_any v [] a = absurd a
among_any v (n ∷ ns) (inl e) = ap (λ (b : Bool). b || list_any (λ k. v == k) ns) (eq-eqb v n e)
among_any v (n ∷ ns) (inr a) = or_true (v == n) (list_any (λ k. v == k) ns) (among_any v ns a)
  where
    or_true : (a b : Bool) → b ≡ true → (a || b) ≡ true
    or_true true b h = refl
    or_true false b h = h

both : {X : Type 0} (P Q R : X → Type 0) → ((x : X) → P x → Q x → R x) → (xs : List X) → AllByRecursion P xs → AllByRecursion Q xs → AllByRecursion R xs
both P Q R f [] h k = tt
both P Q R f (x ∷ xs) h k = (f x h.0 k.0, both P Q R f xs h.1 k.1)

map_twice : {X Y Z : Type 0} (f : X → Y) (g : Y → Z) (xs : List X) → map g (map f xs) ≡ map (λ x. g (f x)) xs
map_twice f g [] = refl
map_twice f g (x ∷ xs) = ap (λ zs. g (f x) ∷ zs) (map_twice f g xs)

there_first : {X Y : Type 0} (f : X → Option Y) (xs : List X) (y : Y) → first_there (map f xs) ≡ Some y → (x : X) × Among x xs × (f x ≡ Some y)
there_first f [] y h = absurd (cc)
there_first f (x ∷ xs) y h = by (f x) refl h (there_first f xs y)
  where
    by : (o : Option _) → f x ≡ o → or_else o (first_there (map f xs)) ≡ Some y → (first_there (map f xs) ≡ Some y → (z : _) × Among z xs × (f z ≡ Some y)) → (z : _) × Among z (x ∷ xs) × (f z ≡ Some y)
    by (Some a) e k g = (x, inl refl, e ∙ k)
    by None e k g = let r = g k in (r.0, inr r.1, r.2)

-- ## Hypotheses of statements

premises_are : (bytes : List ℕ) (id : ℕ) → premises_of bytes id ≡ map (statement_of bytes) (premise_ids bytes id)
unfolding premises_of premise_ids
premises_are bytes id = by (is_hypothesis (stated_at bytes id).kind) (stated_at bytes id).mandatory
  where
    by : (b : Bool) (ms : List ℕ) → (if b then [] else map (statement_of bytes) ms) ≡ map (statement_of bytes) (if b then [] else ms)
    by true ms = refl
    by false ms = refl

no_variables : (bytes : List ℕ) (id : ℕ) → is_hypothesis (stated_at bytes id).kind ≡ true → variables_for bytes id ≡ []
unfolding variables_for
no_variables bytes id h = ap (λ (b : Bool). if b then [] else variables_of (statements_of bytes) (stated_at bytes id).mandatory) h

stands_active : (bytes : List ℕ) (at id : ℕ) → is_hypothesis (stated_at bytes id).kind ≡ true → Among id (active_at bytes at) → may_stand bytes at id ≡ true
unfolding may_stand
stands_active bytes at id h a = ap (λ (b : Bool). if b then list_any (λ n. id == n) (active_at bytes at) else nat_lt id at) h ∙ among_any id (active_at bytes at) a

module _ (c : Terms) (differ : VariablesDiffer c.bytes) (low : c.at < length (labels_of c.bytes)) where
  abbrev S : Setting
  S = first_setting c.bytes c.at

  abbrev Proves : List WSym → Plain → Type 0
  Proves = IsProofFor c.bytes c.at

  -- ## Uses

  hypothesis_is_use : (g : List WSym) (id : ℕ) → IsString S g → first (λ m. pointwise is_same g (statement_of c.bytes m)) (active_at c.bytes c.at) ≡ Some id → IsUse c g (record { id = id; sigma = [] })
  hypothesis_is_use g id string h =
      let f = first_among (λ m. pointwise is_same g (statement_of c.bytes m)) (active_at c.bytes c.at) id h in
      let is = among_all (λ m. is_hypothesis (stated_at c.bytes m).kind ≡ true) (active_at c.bytes c.at) (active_are_hypotheses c.bytes c.at) id f.0 in
      let none : variables_for c.bytes id ≡ [] = no_variables c.bytes id is in
      let source : applied [] (statement_of c.bytes id) ≡ g = applied-empty (statement_of c.bytes id) ∙ sym (same_strings g (statement_of c.bytes id) f.1) in
      record {
        names = record {
          stands = stands_active c.bytes c.at id is f.0;
          keys = ap (map Var) (sym none);
          values = All-nil _;
          source = subst (IsString S) (sym source) string;
        };
        source = source;
        parted = All-from_recursion _ (stated_at c.bytes id).pairs
            (all_weaker (λ p. (is_key c.bytes id p.0 ≡ true) × (is_key c.bytes id p.1 ≡ true)) (λ p. AreParted (distinct_at c.bytes c.at) (value_of [] (Var p.0)) (value_of [] (Var p.1)))
            (λ p k. absurd (false≢true (sym (ap (list_any (λ n. nat_eq p.0 n)) none) ∙ k.0))) (stated_at c.bytes id).pairs
            (recursion_from_All _ (stated_at c.bytes id).pairs (pairs_among_keys c.bytes id)));
      }

  listed_is_use : (g : List WSym) → IsString S g → (ids : List ℕ) → ((id : ℕ) → Among id ids → IsUsable c id) → (u : Use) → Among u (flat_map (λ id. map (λ sigma. record { id = id; sigma = sigma }) (matches c g id)) ids) → IsUse c g u
  listed_is_use g string ids usable_ids u a =
      let r = among_flat (λ id. map (λ sigma. record { id = id; sigma = sigma }) (matches c g id)) ids u a in
      let m = among_mapped (λ sigma. record { id = r.0; sigma = sigma }) u (matches c g r.0) r.2 in
      subst (IsUse c g) (sym m.2) (match_is_use c differ g r.0 m.0 (usable_ids r.0 r.1) string m.1)

  plain_use : (g : List WSym) → IsString S g → (u : Use) → Among u (uses c g) → IsUse c g u
  plain_use g string = listed_is_use g string (plain_assertions c) (λ id a. (plain_usable c low id a).0)

  essential_usable : (id : ℕ) → Among id (essential_assertions c) → IsUsable c id
  essential_usable id a =
      let f = among_filtered (λ m. may_be_used c m && has_essential c.bytes m) id _ a in
      (usable c low id (has_essential c.bytes id) f.0 f.1).0

  essential_use : (g : List WSym) → IsString S g → (u : Use) → Among u (essential_uses c g) → IsUse c g u
  essential_use g string = listed_is_use g string (essential_assertions c) essential_usable

  -- ## Chosen proofs

  chosen_is_use : (r : ℕ) (g : List WSym) (x : Chosen) → IsString S g → chosen c r g ≡ Some x → IsUse c g x.use_
  chosen_is_use zero g x string h = by (first (λ m. pointwise is_same g (statement_of c.bytes m)) (active_at c.bytes c.at)) refl (short_of c g _ x (sym (at-zero c g) ∙ h)).1
    where
      by : (o : Option ℕ) → first (λ m. pointwise is_same g (statement_of c.bytes m)) (active_at c.bytes c.at) ≡ o → on (at_rank 0) (on (λ id. record { id = id; sigma = [] }) o) ≡ Some x → IsUse c g x.use_
      by None e k = absurd (cc)
      by (Some id) e k = let q : at_rank 0 (record { id = id; sigma = [] }) ≡ x = cc in subst (λ (y : Chosen). IsUse c g y.use_) q (hypothesis_is_use g id string e)
  chosen_is_use (suc r) g x string h = by (chosen c r g) refl (short_of c g _ x (sym (at-suc c r g) ∙ h)).1 (chosen_is_use r g x string)
    where
      used : (o : Option Use) → first (serves c (chosen c r)) (uses c g) ≡ o → on (at_rank (suc r)) o ≡ Some x → IsUse c g x.use_
      used None e k = absurd (cc)
      used (Some u) e k =
          let q : at_rank (suc r) u ≡ x = cc in
          subst (λ (y : Chosen). IsUse c g y.use_) q (plain_use g string u (first_among (serves c (chosen c r)) (uses c g) u e).0)

      by : (o : Option Chosen) → chosen c r g ≡ o → or_else o (on (at_rank (suc r)) (first (serves c (chosen c r)) (uses c g))) ≡ Some x → (chosen c r g ≡ Some x → IsUse c g x.use_) → IsUse c g x.use_
      by (Some y) e k f = f (e ∙ k)
      by None e k f = used (first (serves c (chosen c r)) (uses c g)) refl k

  -- the goal of a hypothesis is one of known symbols
  known_goal : (g : List WSym) (u : Use) → IsUse c g u → (m : ℕ) → All (IsKnownSymbol S) (applied u.sigma (statement_of c.bytes m))
  known_goal g u use_ m = applied-known (IsKnownSymbol S) u.sigma (λ k d less. (use_.names.values k d less).symbols) (statement_of c.bytes m) (string_of_statement S m).symbols

  known_goals : (g : List WSym) (u : Use) → IsUse c g u → (ms : List ℕ) → AllByRecursion (All (IsKnownSymbol S)) (map (applied u.sigma) (map (statement_of c.bytes) ms))
  known_goals g u use_ [] = tt
  known_goals g u use_ (m ∷ ms) = (known_goal g u use_ m, known_goals g u use_ ms)

  known_parts : (g : List WSym) (u : Use) → IsUse c g u → AllByRecursion (All (IsKnownSymbol S)) (parts c.bytes u.id u.sigma)
  known_parts g u use_ = subst (λ (hs : List (List WSym)). AllByRecursion (All (IsKnownSymbol S)) (map (applied u.sigma) hs)) (sym (premises_are c.bytes u.id)) (known_goals g u use_ (premise_ids c.bytes u.id))

  short_string : (g : List WSym) → All (IsKnownSymbol S) g → is_long g ≡ false → IsString S g
  short_string g h e = record { symbols = h; short = ltb-false most_symbols (length g) e }

  part_trees : (part : List WSym → Plain) (gs : List (List WSym)) → AllByRecursion (λ p. Proves p (part p)) gs → Each (IsProof c) (map part gs) × (map target_of (map part gs) ≡ gs)
  part_trees part [] h = (tt, refl)
  part_trees part (p ∷ gs) h =
      let rest = part_trees part gs h.1 in (
        (subst (λ (t : List WSym). Proves t (part p)) (sym h.0.goal_is) h.0, rest.0),
        ap (λ (t : List WSym). t ∷ map target_of (map part gs)) h.0.goal_is ∙ ap (λ (ts : List (List WSym)). p ∷ ts) rest.1,
      )

  tree_proves : (r : ℕ) (g : List WSym) (x : Chosen) → IsString S g → chosen c r g ≡ Some x → Proves g (tree c r g)
  tree_proves zero g x string h = subst (Proves g) (sym (tree-at-zero c g x h)) (step_proves c g x.use_ [] string (chosen_is_use zero g x string h) tt (sym (no_parts c g x h)))
  tree_proves (suc r) g x string h =
      let use_ = chosen_is_use (suc r) g x string h in
      let ps : List (List WSym) = parts c.bytes x.use_.id x.use_.sigma in
      let proofs = both (All (IsKnownSymbol S)) (λ p. is_there (chosen c r p) ≡ true) (λ p. Proves p (tree c r p))
      (λ p k t. let y = some_there (chosen c r p) t in tree_proves r p y.0 (short_string p k (is_short c r p y.0 y.1)) y.1) ps (known_parts g x.use_ use_) (served c r g x h) in
      let trees = part_trees (tree c r) ps proofs in
      subst (Proves g) (sym (tree-at-suc c r g x h)) (step_proves c g x.use_ (map (tree c r) ps) string use_ trees.0 trees.1)

  -- ## What is found

  -- what is there for a goal of known symbols proves it
  abbrev Finds : (List WSym → Option Plain) → Type 0
  Finds below = (g : List WSym) (x : Plain) → All (IsKnownSymbol S) g → below g ≡ Some x → Proves g x

  chosen_finds : Finds (chosen_tree c)
  chosen_finds g x known_ h = by (chosen c (rank_limit c.bytes g) g) refl h
    where
      by : (o : Option Chosen) → chosen c (rank_limit c.bytes g) g ≡ o → on (λ _. tree c (rank_limit c.bytes g) g) o ≡ Some x → Proves g x
      by None e k = absurd (cc)
      by (Some y) e k =
          let q : tree c (rank_limit c.bytes g) g ≡ x = cc in
          subst (Proves g) q (tree_proves (rank_limit c.bytes g) g y (short_string g known_ (is_short c (rank_limit c.bytes g) g y e)) e)

  premise_proves : (below : List WSym → Option Plain) → Finds below → (g : List WSym) (u : Use) → IsUse c g u → (m : ℕ) (x : Plain) → premise_proof c below u.sigma m ≡ Some x → Proves (applied u.sigma (statement_of c.bytes m)) x
  premise_proves below finds g u use_ m x h = by (is_essential (stated_at c.bytes m).kind) h
    where
      by : (b : Bool) → (if b then below (applied u.sigma (statement_of c.bytes m)) else chosen_tree c (applied u.sigma (statement_of c.bytes m))) ≡ Some x → Proves (applied u.sigma (statement_of c.bytes m)) x
      by true k = finds (applied u.sigma (statement_of c.bytes m)) x (known_goal g u use_ m) k
      by false k = chosen_finds (applied u.sigma (statement_of c.bytes m)) x (known_goal g u use_ m) k

  abbrev ProveAll : (ℕ → List WSym) → List ℕ → List Plain → Type 0
  ProveAll goal ms kids = Each (IsProof c) kids × (map target_of kids ≡ map goal ms)

  all_prove : (f : ℕ → Option Plain) (goal : ℕ → List WSym) → ((m : ℕ) (x : Plain) → f m ≡ Some x → Proves (goal m) x) → (ms : List ℕ) (kids : List Plain) → all_there (map f ms) ≡ Some kids → ProveAll goal ms kids
  all_prove f goal finds [] kids h = let q : [] ≡ kids = cc in subst (ProveAll goal []) q (tt, refl)
  all_prove f goal finds (m ∷ ms) kids h = by (f m) refl h (all_prove f goal finds ms)
    where
      more : (x : Plain) → f m ≡ Some x → (o : Option (List Plain)) → all_there (map f ms) ≡ o → on (λ xs. x ∷ xs) o ≡ Some kids → ((xs : List Plain) → all_there (map f ms) ≡ Some xs → ProveAll goal ms xs) → ProveAll goal (m ∷ ms) kids
      more x e None d k later = absurd (cc)
      more x e (Some xs) d k later =
          let q : x ∷ xs ≡ kids = cc in
          let p = finds m x e in
          let rest = later xs d in
          subst (ProveAll goal (m ∷ ms)) q (
            (subst (λ (t : List WSym). Proves t x) (sym p.goal_is) p, rest.0),
            ap (λ (t : List WSym). t ∷ map target_of xs) p.goal_is ∙ ap (λ (ts : List (List WSym)). goal m ∷ ts) rest.1,
          )

      by : (o : Option Plain) → f m ≡ o → all_there (o ∷ map f ms) ≡ Some kids → ((xs : List Plain) → all_there (map f ms) ≡ Some xs → ProveAll goal ms xs) → ProveAll goal (m ∷ ms) kids
      by None e k later = absurd (cc)
      by (Some x) e k later = more x e (all_there (map f ms)) refl k later

  use_proves : (below : List WSym → Option Plain) → Finds below → (g : List WSym) (u : Use) → IsString S g → IsUse c g u → (x : Plain) → proof_by c below g u ≡ Some x → Proves g x
  use_proves below finds g u string use_ x h = by (all_there (map (premise_proof c below u.sigma) (premise_ids c.bytes u.id))) refl h
    where
      by : (o : Option (List Plain)) → all_there (map (premise_proof c below u.sigma) (premise_ids c.bytes u.id)) ≡ o → on (known g u.id u.sigma) o ≡ Some x → Proves g x
      by None e k = absurd (cc)
      by (Some kids) e k =
          let q : known g u.id u.sigma kids ≡ x = cc in
          let a = all_prove (premise_proof c below u.sigma) (λ m. applied u.sigma (statement_of c.bytes m)) (premise_proves below finds g u use_) (premise_ids c.bytes u.id) kids e in
          let targets : map target_of kids ≡ map (applied u.sigma) (premises_of c.bytes u.id) =
          a.1 ∙ sym (map_twice (statement_of c.bytes) (applied u.sigma) (premise_ids c.bytes u.id)) ∙ ap (map (applied u.sigma)) (sym (premises_are c.bytes u.id)) in
          subst (Proves g) q (step_proves c g u kids string use_ a.0 targets)

  pub finds : (depth : ℕ) → Finds (proof_of c depth)
  unfolding proof_of
  finds zero g x known_ h = chosen_finds g x known_ h
  finds (suc depth) g x known_ h = by (is_long g) refl h (finds depth)
    where
      used : IsString S g → Finds (proof_of c depth) → first_there (map (proof_by c (proof_of c depth) g) (essential_uses c g)) ≡ Some x → Proves g x
      used string below k =
          let r = there_first (proof_by c (proof_of c depth) g) (essential_uses c g) x k in
          use_proves (proof_of c depth) below g r.0 string (essential_use g string r.0 r.1) x r.2

      or : (o : Option Plain) → chosen_tree c g ≡ o → is_long g ≡ false → Finds (proof_of c depth) → or_else o (first_there (map (proof_by c (proof_of c depth) g) (essential_uses c g))) ≡ Some x → Proves g x
      or (Some y) e short below k = chosen_finds g x known_ (e ∙ k)
      or None e short below k = used (short_string g known_ short) below k

      by : (b : Bool) → is_long g ≡ b → (if b then None else or_else (chosen_tree c g) (first_there (map (proof_by c (proof_of c depth) g) (essential_uses c g)))) ≡ Some x → Finds (proof_of c depth) → Proves g x
      by true e k below = absurd (cc)
      by false e k below = or (chosen_tree c g) refl e below k
