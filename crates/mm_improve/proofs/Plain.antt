-- The plain assertions of a database have one form.
use Rattle.std.proofs.Common.{◌≡◌, ◌<◌, ◌==◌, ℕ, zero, suc, Bool, true, false, cond, ◌&&◌, ◌||◌, List, [], ◌∷◌, ◌++◌, Option, None, Some, length, map, get_or, slice_get, refl, sym, ◌∙◌, ap, arith, inl, inr, subst, if◌then◌else◌}
use Rattle.std.specs.List.{list_all, list_any, cons_option, AllByRecursion}
use Rattle.std.proofs.lemmas.Bool.{cases_Bool, cases_eq, cases_lt, eq-eqb, ne_eqb, false≢true, true≢false}
use Rattle.std.proofs.lemmas.List.Elements.{recursion_from_All}
use Rattle.mm_scope.specs.Contents.{labels_of, symbols_of, statements_of, stated_at, is_variable_of}
use Rattle.mm_scope.specs.Laws.{AllDiffer}
use Rattle.mm_stated.specs.Mandatory.{variables_of}
use Rattle.mm_stated.specs.Stated.{is_hypothesis, is_essential, floated_by, typecode_of, variable_of}
use Rattle.mm_stated.specs.declared.statement.Kind.{Kind}
use Rattle.mm_stated.specs.declared.statement.Kind.TheVariants as kind
use Rattle.mm_subst.specs.declared.symbol.WSym.{WSym}
use Rattle.mm_subst.specs.declared.symbol.WSym.TheVariants.{Const, Var, Work}
use Rattle.mm_subst.specs.Statements.{symbol_of, statement_of}
use Rattle.mm_subst.specs.Symbols.{is_work, has_work}
use Rattle.mm_plain.specs.Premises.{premise_ids, premises_of, variables_for}
use Rattle.mm_plain.proofs.Forms.{counted, formed, no_other}
use Rattle.mm_sound.proofs.Mandatory.{mandatory_hypotheses}
use Rattle.mm_sound.proofs.Paired.{pairs_among_keys}
use Rattle.mm_chart.specs.Options.{on}
use Rattle.mm_improve.specs.Assertions.{has_essential, are_concluded}
use Rattle.mm_improve.specs.Grammars.{split, place, with_variable, seen_with, seen_in, codes_for}
use Rattle.mm_improve.proofs.Forms.{typed, IsPlainAssertion}
use Rattle.mm_improve.proofs.Limits.{IsOwnCode}
use Rattle.mm_improve.proofs.Translating.{place-at}

-- ## Places of variables

any_at : (p : ℕ → Bool) (xs : List ℕ) (i : ℕ) → list_any p xs ≡ false → i < length xs → p (get_or xs i 0) ≡ false
any_at p [] i h l = absurd (omega arith)
any_at p (x ∷ xs) zero h l = left (p x) h
  where
    left : (b : Bool) → (b || list_any p xs) ≡ false → b ≡ false
    left true h = h
    left false h = refl
any_at p (x ∷ xs) (suc i) h l = any_at p xs i (right (p x) h) (omega arith)
  where
    right : (b : Bool) → (b || list_any p xs) ≡ false → list_any p xs ≡ false
    right true h = absurd (true≢false h)
    right false h = h

-- variables that differ have places of their own
own_places : (vs : List ℕ) → AllDiffer vs → (i : ℕ) → i < length vs → place vs (get_or vs i 0) ≡ Some i
own_places [] d i l = absurd (omega arith)
own_places (v ∷ vs) d zero l = ap (λ (b : Bool). cond b (Some 0) (on suc (place vs v))) (eq-eqb v v refl)
own_places (v ∷ vs) d (suc i) l =
    let n = get_or vs i 0 in
    ap (λ (b : Bool). cond b (Some 0) (on suc (place vs n))) (any_at (λ m. v == m) vs i d.0 (omega arith)) ∙ ap (on suc) (own_places vs d.1 i (omega arith))

abbrev HasPlace : List ℕ → ℕ → Type 0
HasPlace vs n = (i : ℕ) × (place vs n ≡ Some i)

has_later : (v : ℕ) (vs : List ℕ) (n : ℕ) → HasPlace vs n → HasPlace (v ∷ vs) n
has_later v vs n h = elim (cases_Bool (v == n)) [
  | inl e ↦ (0, ap (λ (b : Bool). cond b (Some 0) (on suc (place vs n))) e)
  | inr e ↦ (suc h.0, ap (λ (b : Bool). cond b (Some 0) (on suc (place vs n))) e ∙ ap (on suc) h.1)
]

has_here : (v : ℕ) (vs : List ℕ) (n : ℕ) → v ≡ n → HasPlace (v ∷ vs) n
has_here v vs n e = (0, ap (λ (b : Bool). cond b (Some 0) (on suc (place vs n))) (eq-eqb v n e))

any_place : (vs : List ℕ) (n : ℕ) → list_any (λ m. n == m) vs ≡ true → HasPlace vs n
any_place [] n h = absurd (false≢true h)
any_place (v ∷ vs) n h = elim (cases_eq n v) [
  | inl e ↦ has_here v vs n (sym e)
  | inr e ↦ has_later v vs n (any_place vs n (sym (ap (λ (b : Bool). b || list_any (λ m. n == m) vs) (ne_eqb n v e)) ∙ h))
]

has_more : (vs : List ℕ) (m n : ℕ) → HasPlace vs n → HasPlace (vs ++ m ∷ []) n
has_more [] m n h = absurd (let z = h.1 in cc)
has_more (v ∷ vs) m n h = elim (cases_eq v n) [
  | inl e ↦ has_here v (vs ++ m ∷ []) n e
  | inr e ↦ has_later v (vs ++ m ∷ []) n (has_more vs m n (later (place vs n) refl (sym (ap (λ (b : Bool). cond b (Some 0) (on suc (place vs n))) (ne_eqb v n e)) ∙ h.1)))
]
  where
    later : (o : Option ℕ) → place vs n ≡ o → on suc (place vs n) ≡ Some h.0 → HasPlace vs n
    later None q z = absurd (let y : on suc (place vs n) ≡ None = ap (on suc) q in cc)
    later (Some j) q z = (j, q)

has_last : (vs : List ℕ) (n : ℕ) → HasPlace (vs ++ n ∷ []) n
has_last [] n = has_here n [] n refl
has_last (v ∷ vs) n = has_later v (vs ++ n ∷ []) n (has_last vs n)

-- ## Variables that have occurred

stays_with : (seen : List ℕ) (m n : ℕ) (k j : Option ℕ) → HasPlace seen n → HasPlace (with_variable seen m k j) n
stays_with seen m n None j h = h
stays_with seen m n (Some k) None h = has_more seen m n h
stays_with seen m n (Some k) (Some j) h = h

stays_seen : (keys seen : List ℕ) (x : WSym) (n : ℕ) → HasPlace seen n → HasPlace (seen_with keys seen x) n
stays_seen keys seen (Const m) n h = h
stays_seen keys seen (Var m) n h = stays_with seen m n (place keys m) (place seen m) h
stays_seen keys seen (Work m) n h = h

stays_in : (keys seen : List ℕ) (s : List WSym) (n : ℕ) → HasPlace seen n → HasPlace (seen_in keys seen s) n
stays_in keys seen [] n h = h
stays_in keys seen (x ∷ s) n h = stays_in keys (seen_with keys seen x) s n (stays_seen keys seen x n h)

now_seen : (keys seen : List ℕ) (n i : ℕ) → place keys n ≡ Some i → HasPlace (seen_with keys seen (Var n)) n
now_seen keys seen n i h = subst (λ (o : Option ℕ). HasPlace (with_variable seen n o (place seen n)) n) (sym h) (by (place seen n) refl)
  where
    by : (o : Option ℕ) → place seen n ≡ o → HasPlace (with_variable seen n (Some i) o) n
    by None e = has_last seen n
    by (Some j) e = (j, e)

module _ (bytes : List ℕ) where
  -- a key that stands among the numbers of a string has occurred behind it
  occurred : (keys : List ℕ) (n i : ℕ) → place keys n ≡ Some i → is_variable_of bytes n ≡ true → (ns seen : List ℕ) → list_any (λ m. n == m) ns ≡ true → HasPlace (seen_in keys seen (map (symbol_of bytes) ns)) n
  occurred keys n i h v [] seen a = absurd (false≢true a)
  occurred keys n i h v (m ∷ ns) seen a = elim (cases_eq n m) [
    | inl e ↦
        let x : symbol_of bytes m ≡ Var n = ap (symbol_of bytes) (sym e) ∙ ap (λ (b : Bool). if b then Var n else Const n) v in
        stays_in keys (seen_with keys seen (symbol_of bytes m)) (map (symbol_of bytes) ns) n (subst (λ (x : WSym). HasPlace (seen_with keys seen x) n) (sym x) (now_seen keys seen n i h))
    | inr e ↦ occurred keys n i h v ns (seen_with keys seen (symbol_of bytes m)) (sym (ap (λ (b : Bool). b || list_any (λ k. n == k) ns) (ne_eqb n m e)) ∙ a)
  ]

  -- ## Hypotheses

  -- a `$f`
  pub record IsFloated (m : ℕ) : Type 0 where
    pub code : ℕ
    pub key : ℕ
    pub labelled : m < length (statements_of bytes)
    pub typecode : typecode_of (stated_at bytes m) ≡ Some code
    pub own : code < length (symbols_of bytes)
    pub varies : is_variable_of bytes key ≡ true
    pub statement : statement_of bytes m ≡ Const code ∷ Var key ∷ []
    pub variable : variable_of (stated_at bytes m) ≡ Some key

  two : (ss : List ℕ) → length ss ≡ 2 → ss ≡ get_or ss 0 0 ∷ get_or ss 1 0 ∷ []
  two [] h = absurd (omega arith)
  two (x ∷ []) h = absurd (omega arith)
  two (x ∷ y ∷ []) h = refl
  two (x ∷ y ∷ z ∷ zs) h = absurd (omega arith)

  is_float_kind : (k : Kind) → is_hypothesis k ≡ true → is_essential k ≡ false → k ≡ kind.Float
  is_float_kind kind.Float h e = refl
  is_float_kind kind.Essential h e = absurd (true≢false e)
  is_float_kind kind.Axiom h e = absurd (false≢true h)
  is_float_kind kind.Theorem h e = absurd (false≢true h)

  floated : (m : ℕ) → is_hypothesis (stated_at bytes m).kind ≡ true → is_essential (stated_at bytes m).kind ≡ false → IsFloated m
  unfolding statement_of
  floated m h e = elim (cases_lt m (length (labels_of bytes))) [
    | inl own ↦
        let f = formed bytes m own in
        let k = is_float_kind (stated_at bytes m).kind h e in
        let ss = (stated_at bytes m).symbols in
        let pair : ss ≡ get_or ss 0 0 ∷ get_or ss 1 0 ∷ [] = two ss (f.pair k) in
        record {
          code = get_or ss 0 0;
          key = get_or ss 1 0;
          labelled = subst (λ n. m < n) (sym (counted bytes)) own;
          typecode = ap (λ (x : Kind). floated_by x ss 0) k ∙ ap (λ (xs : List ℕ). slice_get xs 0) pair;
          own = f.symbols 0 0 f.some;
          varies = f.variable k;
          statement = ap (map (symbol_of bytes)) pair
              ∙ ap (λ (b : Bool). (if b then Var (get_or ss 0 0) else Const (get_or ss 0 0)) ∷ symbol_of bytes (get_or ss 1 0) ∷ []) f.typecode
              ∙ ap (λ (b : Bool). Const (get_or ss 0 0) ∷ (if b then Var (get_or ss 1 0) else Const (get_or ss 1 0)) ∷ []) (f.variable k);
          variable = ap (λ (x : Kind). floated_by x ss 1) k ∙ ap (λ (xs : List ℕ). slice_get xs 1) pair;
        }
    | inr other ↦ absurd (false≢true (ap (λ s. is_hypothesis s.kind) (sym (no_other bytes m other)) ∙ h))
  ]

  all_floated : (ms : List ℕ) → AllByRecursion (λ m. is_hypothesis (stated_at bytes m).kind ≡ true) ms → list_any (λ m. is_essential (stated_at bytes m).kind) ms ≡ false → AllByRecursion IsFloated ms
  all_floated [] h e = tt
  all_floated (m ∷ ms) h e =
      let p = neither (is_essential (stated_at bytes m).kind) e in
      (floated m h.0 p.0, all_floated ms h.1 p.1)
    where
      neither : (b : Bool) → (b || list_any (λ m. is_essential (stated_at bytes m).kind) ms) ≡ false → (b ≡ false) × (list_any (λ m. is_essential (stated_at bytes m).kind) ms ≡ false)
      neither true h = absurd (true≢false h)
      neither false h = (refl, h)

  abbrev vars : List ℕ → List ℕ
  vars ms = variables_of (statements_of bytes) ms

  abbrev codes : List ℕ → List WSym
  codes ms = map (λ h. (split h).0) (map (statement_of bytes) ms)

  are_typed : (ms : List ℕ) → AllByRecursion IsFloated ms → map (statement_of bytes) ms ≡ typed (codes ms) (vars ms)
  unfolding variables_of
  are_typed [] h = refl
  are_typed (m ∷ ms) h =
      let f = h.0 in
      ap (λ s. s ∷ map (statement_of bytes) ms) f.statement ∙ ap (λ xs. (Const f.code ∷ Var f.key ∷ []) ∷ xs) (are_typed ms h.1)
      ∙ sym (ap (λ s. typed ((split s).0 ∷ codes ms) (cons_option (variable_of (stated_at bytes m)) (vars ms))) f.statement
      ∙ ap (λ (o : Option ℕ). typed (Const f.code ∷ codes ms) (cons_option o (vars ms))) f.variable)

  as_many : (ms : List ℕ) → AllByRecursion IsFloated ms → length (codes ms) ≡ length (vars ms)
  unfolding variables_of
  as_many [] h = refl
  as_many (m ∷ ms) h = ap suc (as_many ms h.1) ∙ sym (ap (λ (o : Option ℕ). length (cons_option o (vars ms))) h.0.variable)

  pub are_constants : (ms : List ℕ) → AllByRecursion IsFloated ms → AllByRecursion (λ c. (m : ℕ) × (c ≡ Const m)) (codes ms)
  are_constants [] h = tt
  are_constants (m ∷ ms) h = ((h.0.code, ap (λ s. (split s).0) h.0.statement), are_constants ms h.1)

  pub are_own : (ms : List ℕ) → AllByRecursion IsFloated ms → AllByRecursion (IsOwnCode (length (symbols_of bytes))) (codes ms)
  are_own [] h = tt
  are_own (m ∷ ms) h = ((h.0.code, h.0.own, ap (λ s. (split s).0) h.0.statement), are_own ms h.1)

  all_vary : (ms : List ℕ) → AllByRecursion IsFloated ms → AllByRecursion (λ n. is_variable_of bytes n ≡ true) (vars ms)
  unfolding variables_of
  all_vary [] h = tt
  all_vary (m ∷ ms) h = subst (λ (o : Option ℕ). AllByRecursion (λ n. is_variable_of bytes n ≡ true) (cons_option o (vars ms))) (sym h.0.variable) (h.0.varies, all_vary ms h.1)

  vary_at : (vs : List ℕ) (i : ℕ) → AllByRecursion (λ n. is_variable_of bytes n ≡ true) vs → i < length vs → is_variable_of bytes (get_or vs i 0) ≡ true
  vary_at [] i h l = absurd (omega arith)
  vary_at (v ∷ vs) zero h l = h.0
  vary_at (v ∷ vs) (suc i) h l = vary_at vs i h.1 (omega arith)

  all_at : (p : ℕ → Bool) (vs : List ℕ) (i : ℕ) → list_all p vs ≡ true → i < length vs → p (get_or vs i 0) ≡ true
  all_at p [] i h l = absurd (omega arith)
  all_at p (v ∷ vs) zero h l = left (p v) h
    where
      left : (b : Bool) → (b && list_all p vs) ≡ true → b ≡ true
      left true h = refl
      left false h = h
  all_at p (v ∷ vs) (suc i) h l = all_at p vs i (right (p v) h) (omega arith)
    where
      right : (b : Bool) → (b && list_all p vs) ≡ true → list_all p vs ≡ true
      right true h = h
      right false h = absurd (false≢true h)

  -- ## The assertion

  plain_symbols : (ns : List ℕ) → has_work (map (symbol_of bytes) ns) ≡ false
  plain_symbols [] = refl
  plain_symbols (n ∷ ns) = ap (λ (b : Bool). b || has_work (map (symbol_of bytes) ns)) (own (is_variable_of bytes n)) ∙ plain_symbols ns
    where
      own : (b : Bool) → is_work (if b then Var n else Const n) ≡ false
      own true = refl
      own false = refl

  pair_places : (keys : List ℕ) (ps : List (ℕ × ℕ)) → AllByRecursion (λ p. (list_any (λ n. p.0 == n) keys ≡ true) × (list_any (λ n. p.1 == n) keys ≡ true)) ps → AllByRecursion (λ p. HasPlace keys p.0 × HasPlace keys p.1) ps
  pair_places keys [] h = tt
  pair_places keys (p ∷ ps) h = ((any_place keys p.0 h.0.0, any_place keys p.1 h.0.1), pair_places keys ps h.1)

  split_symbols : (ss : List ℕ) → 0 < length ss → (n : ℕ) × (ns : List ℕ) × (ss ≡ n ∷ ns)
  split_symbols [] h = absurd (omega arith)
  split_symbols (n ∷ ns) h = (n, ns, refl)

  premises_are : (id : ℕ) → is_hypothesis (stated_at bytes id).kind ≡ false → premises_of bytes id ≡ map (statement_of bytes) (stated_at bytes id).mandatory
  unfolding premises_of
  premises_are id h = ap (λ (b : Bool). if b then [] else map (statement_of bytes) (stated_at bytes id).mandatory) h

  ids_are : (id : ℕ) → is_hypothesis (stated_at bytes id).kind ≡ false → premise_ids bytes id ≡ (stated_at bytes id).mandatory
  unfolding premise_ids
  ids_are id h = ap (λ (b : Bool). if b then [] else (stated_at bytes id).mandatory) h

  variables_are : (id : ℕ) → is_hypothesis (stated_at bytes id).kind ≡ false → variables_for bytes id ≡ vars (stated_at bytes id).mandatory
  unfolding variables_for
  variables_are id h = ap (λ (b : Bool). if b then [] else vars (stated_at bytes id).mandatory) h

  statement_is : (id n : ℕ) (ns : List ℕ) → (stated_at bytes id).symbols ≡ n ∷ ns → is_variable_of bytes n ≡ false → statement_of bytes id ≡ Const n ∷ map (symbol_of bytes) ns
  unfolding statement_of
  statement_is id n ns e f = ap (map (symbol_of bytes)) e ∙ ap (λ (b : Bool). (if b then Var n else Const n) ∷ map (symbol_of bytes) ns) f

  pub all_floats : (id : ℕ) → is_hypothesis (stated_at bytes id).kind ≡ false → has_essential bytes id ≡ false → AllByRecursion IsFloated (stated_at bytes id).mandatory
  all_floats id h e =
      let ms = (stated_at bytes id).mandatory in
      all_floated ms (recursion_from_All _ ms (mandatory_hypotheses bytes id)) (sym (ap (list_any (λ m. is_essential (stated_at bytes m).kind)) (ids_are id h)) ∙ e)

  -- an assertion without `$e`, all of whose variables are in its conclusion, has the form
  pub plain_form : (id : ℕ) → id < length (labels_of bytes) → AllDiffer (variables_of (statements_of bytes) (stated_at bytes id).mandatory) → is_hypothesis (stated_at bytes id).kind ≡ false → are_concluded bytes id ≡ true → has_essential bytes id ≡ false → IsPlainAssertion bytes id
  plain_form id own differ h concluded e =
      let ms = (stated_at bytes id).mandatory in
      let keys = variables_for bytes id in
      let same : keys ≡ vars ms = variables_are id h in
      let f = formed bytes id own in
      let w = split_symbols (stated_at bytes id).symbols f.some in
      let n = w.0 in
      let ns = w.1 in
      let symbols : (stated_at bytes id).symbols ≡ n ∷ ns = w.2 in
      let first : is_variable_of bytes n ≡ false = ap (λ (ss : List ℕ). is_variable_of bytes (get_or ss 0 0)) (sym symbols) ∙ f.typecode in
      let floats = all_floats id h e in
      let premises : premises_of bytes id ≡ map (statement_of bytes) ms = premises_are id h in
      let codes_are : codes_for bytes id ≡ codes ms = ap (map (λ h. (split h).0)) premises in
      let varies : (m i : ℕ) → place keys m ≡ Some i → is_variable_of bytes m ≡ true = λ m i q.
      let p = place-at keys m i q in
      ap (is_variable_of bytes) (sym p.1) ∙ vary_at keys i (subst (AllByRecursion (λ n. is_variable_of bytes n ≡ true)) (sym same) (all_vary ms floats)) p.0 in
      record {
        code = n;
        text = map (symbol_of bytes) ns;
        statement = statement_is id n ns symbols first;
        plain = plain_symbols ns;
        own = λ i l. own_places keys (subst AllDiffer (sym same) differ) i l;
        concluded = λ m i q.
            let p = place-at keys m i q in
            let v = varies m i q in
            let among : list_any (λ k. m == k) (stated_at bytes id).symbols ≡ true = subst (λ k. list_any (λ j. k == j) (stated_at bytes id).symbols ≡ true) p.1 (all_at (λ v. list_any (λ k. v == k) (stated_at bytes id).symbols) keys i concluded p.0) in
            occurred keys m i q v ns [] (behind m n ns v first (sym (ap (list_any (λ k. m == k)) symbols) ∙ among));
        hypotheses = premises ∙ are_typed ms floats ∙ ap (λ (cs : List WSym). typed cs (vars ms)) (sym codes_are) ∙ ap (typed (codes_for bytes id)) (sym same);
        constants = subst (AllByRecursion (λ c. (m : ℕ) × (c ≡ Const m))) (sym codes_are) (are_constants ms floats);
        as_many = ap length codes_are ∙ as_many ms floats ∙ ap length (sym same);
        pairs = pair_places keys (stated_at bytes id).pairs (recursion_from_All _ (stated_at bytes id).pairs (pairs_among_keys bytes id));
      }
    where
      behind : (m n : ℕ) (ns : List ℕ) → is_variable_of bytes m ≡ true → is_variable_of bytes n ≡ false → list_any (λ k. m == k) (n ∷ ns) ≡ true → list_any (λ k. m == k) ns ≡ true
      behind m n ns v f a = elim (cases_eq m n) [
        | inl e ↦ absurd (true≢false (sym v ∙ ap (is_variable_of bytes) e ∙ f))
        | inr e ↦ sym (ap (λ (b : Bool). b || list_any (λ k. m == k) ns) (ne_eqb m n e)) ∙ a
      ]

  pub codes_are_of : (id : ℕ) → is_hypothesis (stated_at bytes id).kind ≡ false → codes_for bytes id ≡ codes (stated_at bytes id).mandatory
  codes_are_of id h = ap (map (λ h. (split h).0)) (premises_are id h)

  pub count_of_codes : (id : ℕ) → is_hypothesis (stated_at bytes id).kind ≡ false → has_essential bytes id ≡ false → length (codes_for bytes id) ≡ length (variables_for bytes id)
  count_of_codes id h e =
      let ms = (stated_at bytes id).mandatory in
      ap length (codes_are_of id h) ∙ as_many ms (all_floats id h e) ∙ ap length (sym (variables_are id h))

  -- its typecodes are constants of the database
  pub own_codes : (id : ℕ) → is_hypothesis (stated_at bytes id).kind ≡ false → has_essential bytes id ≡ false → AllByRecursion (IsOwnCode (length (symbols_of bytes))) (codes_for bytes id)
  own_codes id h e =
      let ms = (stated_at bytes id).mandatory in
      subst (AllByRecursion (IsOwnCode (length (symbols_of bytes)))) (sym (ap (map (λ h. (split h).0)) (premises_are id h))) (are_own ms (all_floats id h e))

  pub own_code : (id : ℕ) → id < length (labels_of bytes) → IsOwnCode (length (symbols_of bytes)) (split (statement_of bytes id)).0
  own_code id own =
      let f = formed bytes id own in
      let w = split_symbols (stated_at bytes id).symbols f.some in
      let first : is_variable_of bytes w.0 ≡ false = ap (λ (ss : List ℕ). is_variable_of bytes (get_or ss 0 0)) (sym w.2) ∙ f.typecode in
      let small : w.0 < length (symbols_of bytes) = subst (λ (ss : List ℕ). get_or ss 0 0 < length (symbols_of bytes)) w.2 (f.symbols 0 0 f.some) in
      (w.0, small, ap (λ s. (split s).0) (statement_is id w.0 w.1 w.2 first))
