-- One step of the machine, and the tree of what it pushes.
use Rattle.std.proofs.Common.{◌≡◌, ◌≤◌, ℕ, suc, Bool, true, false, not, ◌&&◌, ◌||◌, nat_eq, is_some, List, [], ◌∷◌, ◌++◌, map, length, drop, Some, refl, sym, ap, ◌∙◌, subst, arith, length-drop, if◌then◌else◌, All}
use Rattle.std.proofs.lemmas.Bool.{false≢true, eqb-true}
use Rattle.std.proofs.lemmas.List.{length-map}
use Rattle.std.proofs.lemmas.List.Elements.{All-from_recursion, recursion_from_All, All-drop}
use Rattle.std.specs.Cmp.Lexicographic.{pointwise}
use Rattle.std.specs.List.{flat_map, list_any, AllByRecursion as ByRecursion}
use Rattle.mm_tables.specs.Distinct.{are_distinct}
use Rattle.mm_scope.specs.Contents.{stated_at, is_variable_of}
use Rattle.mm_subst.specs.declared.symbol.WSym.{WSym}
use Rattle.mm_subst.specs.declared.symbol.WSym.TheVariants.{Const, Var}
use Rattle.mm_subst.specs.Statements.{symbol_of, statement_of}
use Rattle.mm_subst.specs.Substitutions.{Pairs, value_at, or_itself, applied}
use Rattle.mm_subst.specs.Substitutions as string
use Rattle.mm_subst.specs.Symbols.{is_same}
use Rattle.mm_subst.proofs.Keys.{is_same-itself}
use Rattle.mm_stack.specs.Differing as machine
use Rattle.mm_stack.specs.Laws.{AreDifferent}
use Rattle.mm_stack.specs.Substitution.{instance}
use Rattle.mm_stack.specs.Running.{most_symbols}
use Rattle.mm_plain.specs.declared.plain.Plain.{Plain}
use Rattle.mm_plain.specs.Premises.{premise_ids, may_stand}
use Rattle.mm_plain.specs.Shape.{Each, known, steps_of, target_of}
use Rattle.mm_plain.specs.Sources.{sigma_of}
use Rattle.mm_plain.specs.Valid.{Setting, IsKnownSymbol, IsString, IsSound}
use Rattle.mm_plain.proofs.Equations.{steps_of-known, target_of-known}
use Rattle.mm_plain.proofs.Floats.{target-sound}
use Rattle.mm_plain.proofs.Forms.{string_of_statement}
use Rattle.mm_plain.proofs.Kept.{sound-known}
use Rattle.mm_plain.proofs.Read.{label_of-known, sigma_of-known, is_pending-known}
use Rattle.mm_sound.specs.Apart.{variables_in, AreParted, KeepsPairs, IsApart, pairs_by}
use Rattle.mm_sound.specs.Complete.{IsDone, IsComplete}
use Rattle.mm_sound.specs.Pushed.{values_by, pushed_over}
use Rattle.mm_sound.proofs.NoWork.{each-append, from_kids}
use Rattle.mm_sound.proofs.Paired.{is_key, pairs_among_keys}
use Rattle.mm_sound.proofs.PushedValues.{floats, variables_are, premises_are, float_variables, text, value_in, values, gives, statement_text, premise_texts, keys_are, values_of_kind}

-- a step's own facts, added to those of the steps below it
pub whole : (P : Plain → Type 0) (t : List WSym) (l : ℕ) (s : Pairs) (kids : List Plain) → Each (λ x. Each P (steps_of x)) kids → P (known t l s kids) → Each P (steps_of (known t l s kids))
whole P t l s kids e h = subst (Each P) (sym (steps_of-known t l s kids)) (each-append P (flat_map steps_of kids) (known t l s kids ∷ []) (from_kids P kids e) (h, tt))

-- ## Strings

-- a string under values is one of known symbols
value_known : (c : Setting) (s : Pairs) (x : WSym) → ByRecursion (λ p. IsString c p.1) s → IsKnownSymbol c x → ByRecursion (IsKnownSymbol c) (string.value_of s x)
value_known c [] x strings own = (own, tt)
value_known c (p ∷ ps) x strings own = by (is_same p.0 x) (recursion_from_All (IsKnownSymbol c) p.1 strings.0.symbols) (value_known c ps x strings.1 own)
  where
    by : (b : Bool) → ByRecursion (IsKnownSymbol c) p.1 → ByRecursion (IsKnownSymbol c) (string.value_of ps x) → ByRecursion (IsKnownSymbol c) (or_itself x (if b then Some p.1 else value_at ps x))
    by true here later = here
    by false here later = later

both_known : (P : WSym → Type 0) (xs ys : List WSym) → ByRecursion P xs → ByRecursion P ys → ByRecursion P (xs ++ ys)
both_known P [] ys a b = b
both_known P (x ∷ xs) ys a b = (a.0, both_known P xs ys a.1 b)

applied_known : (c : Setting) (s : Pairs) (xs : List WSym) → ByRecursion (λ p. IsString c p.1) s → ByRecursion (IsKnownSymbol c) xs → ByRecursion (IsKnownSymbol c) (applied s xs)
unfolding applied
applied_known c s [] strings own = tt
applied_known c s (x ∷ xs) strings own = both_known (IsKnownSymbol c) (string.value_of s x) (applied s xs) (value_known c s x strings own.0) (applied_known c s xs strings own.1)

dropped_string : (c : Setting) (t : List WSym) → IsString c t → IsString c (drop 1 t)
dropped_string c t h = record { symbols = All-drop (IsKnownSymbol c) 1 t h.symbols; short = omega (arith, h.short, length-drop 1 t) }

-- ## Pairs of variables

text_by : (b : Bool) (n : ℕ) (rest : List ℕ) (more : List WSym) → variables_in more ≡ rest → variables_in ((if b then Var n else Const n) ∷ more) ≡ (if b then n ∷ rest else rest)
text_by true n rest more e = ap (λ ys. n ∷ ys) e
text_by false n rest more e = e

-- the variables of an entry, as a string and by number
variables_of_text : (bytes ns : List ℕ) → variables_in (text bytes ns) ≡ machine.variables_in bytes ns
variables_of_text bytes [] = refl
variables_of_text bytes (n ∷ ns) = text_by (is_variable_of bytes n) n (machine.variables_in bytes ns) (text bytes ns) (variables_of_text bytes ns)

parted : (bytes : List ℕ) (groups : List (List ℕ)) (left right : List ℕ) → AreDifferent bytes groups left right → AreParted groups (text bytes left) (text bytes right)
parted bytes groups left right e =
    subst (λ us. All (λ u. All (λ v. are_distinct groups u v ≡ true) (variables_in (text bytes right))) us) (sym (variables_of_text bytes left))
    (subst (λ vs. All (λ u. All (λ v. are_distinct groups u v ≡ true) vs) (machine.variables_in bytes left)) (sym (variables_of_text bytes right)) e)

symbol_var : (bytes : List ℕ) (n : ℕ) → is_variable_of bytes n ≡ true → symbol_of bytes n ≡ Var n
symbol_var bytes n e = ap (λ b. if b then Var n else Const n) e

-- a mandatory variable is a variable
one_variable : (bytes vs : List ℕ) (v : ℕ) → ByRecursion (λ u. is_variable_of bytes u ≡ true) vs → list_any (λ n. nat_eq v n) vs ≡ true → is_variable_of bytes v ≡ true
one_variable bytes [] v h e = absurd (false≢true e)
one_variable bytes (u ∷ us) v h e = by (nat_eq v u) refl (one_variable bytes us v h.1) e
  where
    by : (b : Bool) → nat_eq v u ≡ b → (list_any (λ n. nat_eq v n) us ≡ true → is_variable_of bytes v ≡ true) → (b || list_any (λ n. nat_eq v n) us) ≡ true → is_variable_of bytes v ≡ true
    by true s later g = ap (is_variable_of bytes) (eqb-true v u s) ∙ h.0
    by false s later g = later g

key_variable : (bytes : List ℕ) (l v : ℕ) → is_key bytes l v ≡ true → is_variable_of bytes v ≡ true
key_variable bytes l v h = one_variable bytes (floats bytes (premise_ids bytes l)) v (float_variables bytes (premise_ids bytes l)) (ap (λ (vs : List ℕ). list_any (λ n. nat_eq v n) vs) (sym (variables_are bytes l)) ∙ h)

pairs_by_recursion : (bytes : List ℕ) (groups : List (List ℕ)) (l : ℕ) (ms : List ℕ) (es : List (List ℕ)) (ps : List (ℕ × ℕ)) → ByRecursion (λ p. (is_key bytes l p.0 ≡ true) × (is_key bytes l p.1 ≡ true)) ps
    → ByRecursion (λ p. AreDifferent bytes groups (value_in bytes ms es p.0) (value_in bytes ms es p.1)) ps
    → ByRecursion (λ p. AreParted groups (string.value_of (values bytes ms es) (Var p.0)) (string.value_of (values bytes ms es) (Var p.1))) ps
pairs_by_recursion bytes groups l ms es [] own d = tt
pairs_by_recursion bytes groups l ms es (p ∷ ps) own d =
    let is : (n : ℕ) → is_key bytes l n ≡ true → text bytes (value_in bytes ms es n) ≡ string.value_of (values bytes ms es) (Var n) =
    λ n k. sym (gives bytes ms es n) ∙ ap (string.value_of (values bytes ms es)) (symbol_var bytes n (key_variable bytes l n k)) in (
      subst (λ q. AreParted groups q (string.value_of (values bytes ms es) (Var p.1))) (is p.0 own.0.0)
          (subst (λ q. AreParted groups (text bytes (value_in bytes ms es p.0)) q) (is p.1 own.0.1) (parted bytes groups (value_in bytes ms es p.0) (value_in bytes ms es p.1) d.0)),
      pairs_by_recursion bytes groups l ms es ps own.1 d.1,
    )

keeps : (bytes : List ℕ) (groups : List (List ℕ)) (t : List WSym) (l : ℕ) (s : Pairs) (kids : List Plain)
    → All (λ p. AreParted groups (string.value_of s (Var p.0)) (string.value_of s (Var p.1))) (stated_at bytes l).pairs → KeepsPairs bytes groups (known t l s kids)
keeps bytes groups t l s kids h =
    subst (λ o. All (λ p. AreParted groups (string.value_of (sigma_of (known t l s kids)) (Var p.0)) (string.value_of (sigma_of (known t l s kids)) (Var p.1))) (pairs_by bytes o)) (sym (label_of-known t l s kids))
    (subst (λ u. All (λ p. AreParted groups (string.value_of u (Var p.0)) (string.value_of u (Var p.1))) (stated_at bytes l).pairs) (sym (sigma_of-known t l s kids)) h)

-- ## A step that is done

same_itself : (s : List WSym) → pointwise is_same s s ≡ true
same_itself [] = refl
same_itself (x ∷ xs) = ap (λ b. b && pointwise is_same xs xs) (is_same-itself x) ∙ same_itself xs

done : (bytes : List ℕ) (l : ℕ) (s : Pairs) (kids : List Plain) → IsDone bytes (known (applied s (statement_of bytes l)) l s kids)
done bytes l s kids =
    let t : List WSym = applied s (statement_of bytes l) in
    record { known = ap (λ o. is_some o) (label_of-known t l s kids); settled = is_pending-known bytes t l s kids ∙ ap not (same_itself t) }

-- ## The tree of an entry

abbrev pub HasPassed : (List WSym → Bool) → Plain → Type 0
HasPassed test y = All (λ p. test p.1 ≡ true) (sigma_of y)

-- a tree proves an entry, soundly and completely, it keeps the pairs, and its values pass a test
pub record Stands (c : Setting) (groups : List (List ℕ)) (test : List WSym → Bool) (x : Plain) (e : List ℕ) : Type 0 where
  pub target : target_of x ≡ text c.bytes e
  pub sound : IsSound c x
  pub complete : IsComplete c.bytes x
  pub apart : IsApart c.bytes groups x
  pub pass : Each (HasPassed test) (steps_of x)

-- so do several
abbrev pub StandAll : Setting → List (List ℕ) → (List WSym → Bool) → List Plain → List (List ℕ) → Type 0
StandAll c groups test [] [] = Unit {0}
StandAll c groups test [] (e ∷ es) = ⊥
StandAll c groups test (x ∷ xs) [] = ⊥
StandAll c groups test (x ∷ xs) (e ∷ es) = Stands c groups test x e × StandAll c groups test xs es

module _ (c : Setting) (groups : List (List ℕ)) (test : List WSym → Bool) where
  pub targets_are : (xs : List Plain) (es : List (List ℕ)) → StandAll c groups test xs es → map target_of xs ≡ map (text c.bytes) es
  targets_are [] [] h = refl
  targets_are [] (e ∷ es) h = absurd h
  targets_are (x ∷ xs) [] h = absurd h
  targets_are (x ∷ xs) (e ∷ es) h = ap (λ t. t ∷ map target_of xs) h.0.target ∙ ap (λ ts. text c.bytes e ∷ ts) (targets_are xs es h.1)

  each_of : (P : Plain → Type 0) (xs : List Plain) (es : List (List ℕ)) → ((x : Plain) (e : List ℕ) → Stands c groups test x e → P x) → StandAll c groups test xs es → Each P xs
  each_of P [] [] f h = tt
  each_of P [] (e ∷ es) f h = absurd h
  each_of P (x ∷ xs) [] f h = absurd h
  each_of P (x ∷ xs) (e ∷ es) f h = (f x e h.0, each_of P xs es f h.1)

  strings_of : (xs : List Plain) (es : List (List ℕ)) → StandAll c groups test xs es → ByRecursion (λ t. IsString c (drop 1 t)) (map target_of xs)
  strings_of [] [] h = tt
  strings_of [] (e ∷ es) h = absurd h
  strings_of (x ∷ xs) [] h = absurd h
  strings_of (x ∷ xs) (e ∷ es) h = (dropped_string c (target_of x) (target-sound c x h.0.sound), strings_of xs es h.1)

  pub as_many : (xs : List Plain) (es : List (List ℕ)) → StandAll c groups test xs es → length xs ≡ length es
  as_many xs es h = sym (length-map xs target_of) ∙ ap (λ (ts : List (List WSym)). length ts) (targets_are xs es h) ∙ length-map es (text c.bytes)

  -- what a step names with hypotheses of these ids, the entries that it takes, and the one that it gives
  pub record StepsBy (l : ℕ) (ms : List ℕ) (es : List (List ℕ)) (e : List ℕ) : Type 0 where
    pub stands : may_stand c.bytes c.at l ≡ true
    pub many : length ms ≡ length es
    pub entries : map (λ h. instance (value_in c.bytes ms es) h.symbols) (map (stated_at c.bytes) ms) ≡ es
    pub gives : instance (value_in c.bytes ms es) (stated_at c.bytes l).symbols ≡ e
    pub short : length e ≤ most_symbols
    pub distinct : All (λ p. AreDifferent c.bytes groups (value_in c.bytes ms es p.0) (value_in c.bytes ms es p.1)) (stated_at c.bytes l).pairs
    pub pass : ByRecursion (λ p. test p.1 ≡ true) (values c.bytes ms es)

  abbrev pub Steps : ℕ → List (List ℕ) → List ℕ → Type 0
  Steps l es e = StepsBy l (premise_ids c.bytes l) es e

  -- a step over trees of the entries that it takes is a tree of the one that it gives
  pub tree_stands : (l : ℕ) (kids : List Plain) (es : List (List ℕ)) (e : List ℕ) → StandAll c groups test kids es → Steps l es e → Stands c groups test (pushed_over c.bytes (suc l) kids) e
  tree_stands l kids es e h w =
      let ms : List ℕ = premise_ids c.bytes l in
      let s : Pairs = values_by c.bytes ms (map target_of kids) in
      let t : List WSym = applied s (statement_of c.bytes l) in
      let targets : map target_of kids ≡ map (text c.bytes) es = targets_are kids es h in
      let same : values c.bytes ms es ≡ s = ap (values_by c.bytes ms) (sym targets) in
      let is : t ≡ text c.bytes e = ap (λ q. applied q (statement_of c.bytes l)) (sym same) ∙ statement_text c.bytes ms es l ∙ ap (text c.bytes) w.gives in
      let strings : ByRecursion (λ p. IsString c p.1) s = values_of_kind (IsString c) c.bytes ms (map target_of kids) (strings_of kids es h) in
      let whole_target : IsString c t = record {
        symbols = All-from_recursion (IsKnownSymbol c) t (applied_known c s (statement_of c.bytes l) strings (recursion_from_All (IsKnownSymbol c) (statement_of c.bytes l) (string_of_statement c l).symbols));
        short = omega (arith, ap (λ (q : List WSym). length q) is, length-map e (symbol_of c.bytes), w.short);
      } in
      let kept : All (λ p. AreParted groups (string.value_of s (Var p.0)) (string.value_of s (Var p.1))) (stated_at c.bytes l).pairs =
      subst (λ q. All (λ p. AreParted groups (string.value_of q (Var p.0)) (string.value_of q (Var p.1))) (stated_at c.bytes l).pairs) same
      (All-from_recursion _ (stated_at c.bytes l).pairs
      (pairs_by_recursion c.bytes groups l ms es (stated_at c.bytes l).pairs (recursion_from_All _ (stated_at c.bytes l).pairs (pairs_among_keys c.bytes l)) (recursion_from_All _ (stated_at c.bytes l).pairs w.distinct))) in
      record {
        target = target_of-known t l s kids ∙ is;
        sound = sound-known c t l s kids (each_of (IsSound c) kids es (λ x d g. g.sound) h) (record {
          target = whole_target;
          names = record {
            stands = w.stands;
            keys = keys_are c.bytes ms (map target_of kids) (w.many ∙ sym (as_many kids es h) ∙ sym (length-map kids target_of)) ∙ ap (map Var) (sym (variables_are c.bytes l));
            values = All-from_recursion _ s strings;
            source = whole_target;
          };
          children = targets ∙ ap (map (text c.bytes)) (sym w.entries) ∙ sym (premise_texts c.bytes ms es ms) ∙ ap (λ q. map (applied q) (map (statement_of c.bytes) ms)) same
              ∙ ap (map (applied s)) (sym (premises_are c.bytes l));
        });
        complete = whole (IsDone c.bytes) t l s kids (each_of (IsComplete c.bytes) kids es (λ x d g. g.complete) h) (done c.bytes l s kids);
        apart = whole (KeepsPairs c.bytes groups) t l s kids (each_of (IsApart c.bytes groups) kids es (λ x d g. g.apart) h) (keeps c.bytes groups t l s kids kept);
        pass = whole (HasPassed test) t l s kids (each_of (λ x. Each (HasPassed test) (steps_of x)) kids es (λ x d g. g.pass) h)
            (subst (λ q. All (λ p. test p.1 ≡ true) q) (sym (sigma_of-known t l s kids)) (All-from_recursion (λ p. test p.1 ≡ true) s (subst (ByRecursion (λ p. test p.1 ≡ true)) same w.pass)));
      }
