-- A complete proof has no work variable.
use Rattle.std.proofs.Common.{◌≡◌, ℕ, Bool, true, false, ◌||◌, ◌==◌, List, [], ◌∷◌, ◌++◌, map, nat_eq, Option, None, Some, is_some, IfSome, slice_index, refl, sym, ap, ◌∙◌, subst, if◌then◌else◌}
use Rattle.std.proofs.lemmas.Bool.{true≢false, false≢true, eqb-true, or_parts, or_from}
use Rattle.std.proofs.lemmas.List.Concat.{flat_map-cons}
use Rattle.std.proofs.lemmas.List.Folds.{list_any-append}
use Rattle.std.specs.List.{flat_map, list_any, cons_option, AllByRecursion as ByRecursion}
use Rattle.mm_scope.specs.Contents.{stated_at, statements_of, is_variable_of}
use Rattle.mm_stated.specs.Mandatory.{variables_of}
use Rattle.mm_stated.specs.Stated.{is_hypothesis}
use Rattle.mm_subst.specs.Statements.{symbol_of, statement_of}
use Rattle.mm_subst.specs.Substitutions.{Pairs, value_at, value_of, or_itself, applied}
use Rattle.mm_subst.specs.Symbols.{is_work, has_work}
use Rattle.mm_subst.specs.declared.symbol.WSym.{WSym}
use Rattle.mm_subst.specs.declared.symbol.WSym.TheVariants.{Const, Var, Work}
use Rattle.mm_plain.specs.declared.plain.Plain.{Plain}
use Rattle.mm_plain.specs.Shape.{Each, Proof, known, steps_of, target_of}
use Rattle.mm_plain.specs.Valid.{Setting, setting_of, IsInstance, IsSound, IsValid}
use Rattle.mm_plain.proofs.Keys.{is_among, keys_among}
use Rattle.mm_plain.proofs.Equations.{by_trees, steps_of-known, target_of-known}
use Rattle.mm_plain.proofs.Kept.{kids-sound}
use Rattle.mm_plain.proofs.Read.{source_of-known, sigma_of-known}
use Rattle.mm_stack.specs.Running.{is_float}
use Rattle.mm_sound.specs.Complete.{IsDone, IsComplete, IsPlain, IsPlainStep}
use Rattle.mm_sound.proofs.Popped.{IsFloat, is_formed_float, float_varies, other_varies_by}
use Rattle.mm_sound.proofs.Runs.{split, settled, never_unknown, premises_by, variables_by, premises_are, variables_are}

parts : (s t : List WSym) → IsPlain (s ++ t) → IsPlain s × IsPlain t
parts s t h = or_parts (has_work s) (has_work t) (sym (list_any-append is_work s t) ∙ h)

joined : (s t : List WSym) → IsPlain s → IsPlain t → IsPlain (s ++ t)
joined s t h g = list_any-append is_work s t ∙ or_from (has_work s) (has_work t) h g

own_symbol : (b : Bool) (n : ℕ) → IsPlain ((if b then Var n else Const n) ∷ [])
own_symbol true n = refl
own_symbol false n = refl

-- the value of a `$f`'s variable stands in its instance
float_value : (bytes : List ℕ) (s : Pairs) (m : ℕ) → IsFloat bytes m → IsPlain (applied s (statement_of bytes m)) → IsPlain (value_of s (symbol_of bytes (slice_index (stated_at bytes m).symbols 1)))
unfolding applied statement_of
float_value bytes s m f h =
    let t : ℕ = slice_index (stated_at bytes m).symbols 0 in
    let v : ℕ = slice_index (stated_at bytes m).symbols 1 in
    let whole = subst (λ ns. IsPlain (flat_map (value_of s) (map (symbol_of bytes) ns))) f.pair h in
    (parts (value_of s (symbol_of bytes v)) [] (parts (value_of s (symbol_of bytes t)) (value_of s (symbol_of bytes v) ++ []) whole).1).0

split_or : (a b : Bool) → (a || b) ≡ true → (a ≡ false → b ≡ true)
split_or true b h e = absurd (true≢false e)
split_or false b h e = h

module _ (bytes : List ℕ) (s : Pairs) where
  -- so it is with each mandatory variable, where it is so with each mandatory hypothesis
  abbrev ValuePlain : List ℕ → ℕ → Type 0
  ValuePlain ms n = list_any (λ v. n == v) (variables_of (statements_of bytes) ms) ≡ true → IsPlain (value_of s (symbol_of bytes n))

  same_by : (b : Bool) (n v : ℕ) → nat_eq n v ≡ b → IsPlain (value_of s (symbol_of bytes v)) → (b ≡ false → IsPlain (value_of s (symbol_of bytes n))) → IsPlain (value_of s (symbol_of bytes n))
  same_by true n v e h later = subst (λ k. IsPlain (value_of s (symbol_of bytes k))) (sym (eqb-true n v e)) h
  same_by false n v e h later = later refl

  value_by : (b : Bool) (m : ℕ) (ms : List ℕ) (n : ℕ) → is_float (stated_at bytes m).kind ≡ b → IsPlain (applied s (statement_of bytes m)) → ValuePlain ms n → ValuePlain (m ∷ ms) n
  unfolding variables_of
  value_by true m ms n e h later is =
      let f : IsFloat bytes m = is_formed_float bytes m e in
      let v : ℕ = slice_index (stated_at bytes m).symbols 1 in
      let vs : List ℕ = variables_of (statements_of bytes) ms in
      let found = ap (λ o. list_any (λ w. n == w) (cons_option o vs)) (sym (float_varies (stated_at bytes m) e f.pair)) ∙ is in
      same_by (n == v) n v refl (float_value bytes s m f h) (λ other. later (split_or (n == v) (list_any (λ w. n == w) vs) found other))
  value_by false m ms n e h later is =
      let vs : List ℕ = variables_of (statements_of bytes) ms in
      later (ap (λ o. list_any (λ w. n == w) (cons_option o vs)) (sym (other_varies_by (stated_at bytes m).kind (stated_at bytes m).symbols e)) ∙ is)

  mandatory_plain : (ms : List ℕ) → ByRecursion (λ m. IsPlain (applied s (statement_of bytes m))) ms → (n : ℕ) → ValuePlain ms n
  unfolding variables_of
  mandatory_plain [] all n is = absurd (false≢true is)
  mandatory_plain (m ∷ ms) all n is = value_by (is_float (stated_at bytes m).kind) m ms n refl all.0 (mandatory_plain ms all.1 n) is

  kept_by : (vs : List ℕ) (n : ℕ) (b : Bool) (o : Option (List WSym)) → value_at s (if b then Var n else Const n) ≡ o → is_some o ≡ is_among vs (if b then Var n else Const n)
      → (list_any (λ v. n == v) vs ≡ true → IsPlain (value_of s (if b then Var n else Const n))) → IsPlain (value_of s (if b then Var n else Const n))
  kept_by vs n b None e keys h = subst (λ o. IsPlain (or_itself (if b then Var n else Const n) o)) (sym e) (own_symbol b n)
  kept_by vs n true (Some w) e keys h = h (sym keys)
  kept_by vs n false (Some w) e keys h = absurd (true≢false keys)

  each_plain : (ns : List ℕ) → ((n : ℕ) → IsPlain (value_of s (symbol_of bytes n))) → IsPlain (flat_map (value_of s) (map (symbol_of bytes) ns))
  each_plain [] all = refl
  each_plain (n ∷ ns) all = joined (value_of s (symbol_of bytes n)) (flat_map (value_of s) (map (symbol_of bytes) ns)) (all n) (each_plain ns all)

  source_plain : (l : ℕ) → ((n : ℕ) → IsPlain (value_of s (symbol_of bytes n))) → IsPlain (applied s (statement_of bytes l))
  unfolding applied statement_of
  source_plain l all = each_plain (stated_at bytes l).symbols all

targets_plain : (kids : List Plain) → Each (λ x. IsPlain (target_of x)) kids → ByRecursion IsPlain (map target_of kids)
targets_plain [] e = tt
targets_plain (x ∷ xs) e = (e.0, targets_plain xs e.1)

premises_plain : (bytes : List ℕ) (s : Pairs) (ms : List ℕ) → ByRecursion IsPlain (map (applied s) (map (statement_of bytes) ms)) → ByRecursion (λ m. IsPlain (applied s (statement_of bytes m))) ms
premises_plain bytes s [] all = tt
premises_plain bytes s (m ∷ ms) all = (all.0, premises_plain bytes s ms all.1)

values_by : (c : Setting) (t : List WSym) (l : ℕ) (s : Pairs) (kids : List Plain) (b : Bool) → is_hypothesis (stated_at c.bytes l).kind ≡ b → IsInstance c t l s (map target_of kids)
    → Each (λ x. IsPlain (target_of x)) kids → (n : ℕ) → list_any (λ v. n == v) (variables_by c.bytes l b) ≡ true → IsPlain (value_of s (symbol_of c.bytes n))
unfolding variables_by premises_by
values_by c t l s kids true e is plain n found = absurd (false≢true found)
values_by c t l s kids false e is plain n found =
    let ms : List ℕ = (stated_at c.bytes l).mandatory in
    let premises = subst (ByRecursion IsPlain) (is.children ∙ ap (map (applied s)) (premises_are c.bytes l false e)) (targets_plain kids plain) in
    mandatory_plain c.bytes s ms (premises_plain c.bytes s ms premises) n found

target_plain : (c : Setting) (t : List WSym) (l : ℕ) (s : Pairs) (kids : List Plain) → IsInstance c t l s (map target_of kids) → t ≡ applied s (statement_of c.bytes l)
    → Each (λ x. IsPlain (target_of x)) kids → IsPlain t
target_plain c t l s kids is source plain =
    let b : Bool = is_hypothesis (stated_at c.bytes l).kind in
    let vs : List ℕ = variables_by c.bytes l b in
    subst IsPlain (sym source) (source_plain c.bytes s l (λ n. kept_by c.bytes s vs n (is_variable_of c.bytes n) (value_at s (symbol_of c.bytes n)) refl
    (keys_among s vs (is.names.keys ∙ ap (map Var) (variables_are c.bytes l b refl)) (symbol_of c.bytes n)) (values_by c t l s kids b refl is plain n)))

each_of_two : (A B R : Plain → Type 0) (xs : List Plain) → Each (λ x. A x → B x → R x) xs → Each A xs → Each B xs → Each R xs
each_of_two A B R [] f a b = tt
each_of_two A B R (x ∷ xs) f a b = (f.0 a.0 b.0, each_of_two A B R xs f.1 a.1 b.1)

-- the target of a sound and complete tree
pub tree_plain : (c : Setting) (x : Plain) → IsSound c x → IsComplete c.bytes x → IsPlain (target_of x)
tree_plain c = by_trees (λ x. IsSound c x → IsComplete c.bytes x → IsPlain (target_of x))
    (λ t v d. absurd (never_unknown c.bytes t d))
    (λ t l s kids h v d.
    let vs = kids-sound c t l s kids v in
    let ds = split (IsDone c.bytes) t l s kids d in
    subst IsPlain (sym (target_of-known t l s kids)) (target_plain c t l s kids vs.1 (settled c.bytes t l s kids ds.1)
    (each_of_two (IsSound c) (IsComplete c.bytes) (λ x. IsPlain (target_of x)) kids h vs.0 ds.0)))

pub each-append : (P : Plain → Type 0) (xs ys : List Plain) → Each P xs → Each P ys → Each P (xs ++ ys)
each-append P [] ys a b = b
each-append P (x ∷ xs) ys a b = (a.0, each-append P xs ys a.1 b)

pub from_kids : (P : Plain → Type 0) (kids : List Plain) → Each (λ x. Each P (steps_of x)) kids → Each P (flat_map steps_of kids)
from_kids P [] e = tt
from_kids P (x ∷ xs) e = subst (Each P) (sym (flat_map-cons steps_of x xs)) (each-append P (steps_of x) (flat_map steps_of xs) e.0 (from_kids P xs e.1))

-- the mandatory variables are variables of the database
same_varies : (bytes : List ℕ) (b : Bool) (n v : ℕ) → nat_eq n v ≡ b → is_variable_of bytes v ≡ true → (b ≡ false → is_variable_of bytes n ≡ true) → is_variable_of bytes n ≡ true
same_varies bytes true n v e h later = subst (λ k. is_variable_of bytes k ≡ true) (sym (eqb-true n v e)) h
same_varies bytes false n v e h later = later refl

varies_by : (bytes : List ℕ) (b : Bool) (m : ℕ) (ms : List ℕ) (n : ℕ) → is_float (stated_at bytes m).kind ≡ b
    → (list_any (λ v. n == v) (variables_of (statements_of bytes) ms) ≡ true → is_variable_of bytes n ≡ true)
    → list_any (λ v. n == v) (variables_of (statements_of bytes) (m ∷ ms)) ≡ true → is_variable_of bytes n ≡ true
unfolding variables_of
varies_by bytes true m ms n e later is =
    let f : IsFloat bytes m = is_formed_float bytes m e in
    let v : ℕ = slice_index (stated_at bytes m).symbols 1 in
    let vs : List ℕ = variables_of (statements_of bytes) ms in
    let found = ap (λ o. list_any (λ w. n == w) (cons_option o vs)) (sym (float_varies (stated_at bytes m) e f.pair)) ∙ is in
    same_varies bytes (n == v) n v refl f.variable (λ other. later (split_or (n == v) (list_any (λ w. n == w) vs) found other))
varies_by bytes false m ms n e later is =
    let vs : List ℕ = variables_of (statements_of bytes) ms in
    later (ap (λ o. list_any (λ w. n == w) (cons_option o vs)) (sym (other_varies_by (stated_at bytes m).kind (stated_at bytes m).symbols e)) ∙ is)

mandatory_vary : (bytes ms : List ℕ) (n : ℕ) → list_any (λ v. n == v) (variables_of (statements_of bytes) ms) ≡ true → is_variable_of bytes n ≡ true
unfolding variables_of
mandatory_vary bytes [] n is = absurd (false≢true is)
mandatory_vary bytes (m ∷ ms) n is = varies_by bytes (is_float (stated_at bytes m).kind) m ms n refl (mandatory_vary bytes ms n) is

keys_vary : (bytes : List ℕ) (l : ℕ) (b : Bool) (n : ℕ) → list_any (λ v. n == v) (variables_by bytes l b) ≡ true → is_variable_of bytes n ≡ true
unfolding variables_by
keys_vary bytes l true n is = absurd (false≢true is)
keys_vary bytes l false n is = mandatory_vary bytes (stated_at bytes l).mandatory n is

-- the value of a key
key_plain : (s : Pairs) (vs : List ℕ) (k : WSym) (v : List WSym) → value_at s k ≡ Some v → is_among vs k ≡ true
    → ((n : ℕ) → list_any (λ w. n == w) vs ≡ true → IsPlain (value_of s (Var n))) → IsPlain v
key_plain s vs (Const n) v e found all = absurd (false≢true found)
key_plain s vs (Work n) v e found all = absurd (false≢true found)
key_plain s vs (Var n) v e found all = subst IsPlain (ap (or_itself (Var n)) e) (all n found)

value_plain : (s : Pairs) (vs : List ℕ) (k : WSym) (o : Option (List WSym)) → value_at s k ≡ o → is_some o ≡ is_among vs k
    → ((n : ℕ) → list_any (λ w. n == w) vs ≡ true → IsPlain (value_of s (Var n))) → IfSome o IsPlain
value_plain s vs k None e keys all = tt
value_plain s vs k (Some v) e keys all = key_plain s vs k v e (sym keys) all

values_plain : (c : Setting) (t : List WSym) (l : ℕ) (s : Pairs) (kids : List Plain) → IsInstance c t l s (map target_of kids) → Each (λ x. IsPlain (target_of x)) kids
    → (k : WSym) → IfSome (value_at s k) IsPlain
values_plain c t l s kids is plain k =
    let b : Bool = is_hypothesis (stated_at c.bytes l).kind in
    let vs : List ℕ = variables_by c.bytes l b in
    value_plain s vs k (value_at s k) refl (keys_among s vs (is.names.keys ∙ ap (map Var) (variables_are c.bytes l b refl)) k)
    (λ n found. subst (λ x. IsPlain (value_of s x)) (ap (λ v. if v then Var n else Const n) (keys_vary c.bytes l b n found)) (values_by c t l s kids b refl is plain n found))

each_always : (P : Plain → Type 0) → ((x : Plain) → P x) → (xs : List Plain) → Each P xs
each_always P h [] = tt
each_always P h (x ∷ xs) = (h x, each_always P h xs)

step_plain : (c : Setting) (t : List WSym) (l : ℕ) (s : Pairs) (kids : List Plain) → IsSound c (known t l s kids) → IsComplete c.bytes (known t l s kids) → IsPlainStep c.bytes (known t l s kids)
step_plain c t l s kids v d =
    let vs = kids-sound c t l s kids v in
    let ds = split (IsDone c.bytes) t l s kids d in
    let below = each_of_two (IsSound c) (IsComplete c.bytes) (λ x. IsPlain (target_of x)) kids
    (each_always (λ x. IsSound c x → IsComplete c.bytes x → IsPlain (target_of x)) (tree_plain c) kids) vs.0 ds.0 in
    let source = settled c.bytes t l s kids ds.1 in
    let plain = target_plain c t l s kids vs.1 source below in
    record {
      target = subst IsPlain (sym (target_of-known t l s kids)) plain;
      source = subst (λ o. IfSome o IsPlain) (sym (source_of-known c.bytes t l s kids)) (subst IsPlain source plain);
      values = subst (λ u. (k : WSym) → IfSome (value_at u k) IsPlain) (sym (sigma_of-known t l s kids)) (values_plain c t l s kids vs.1 below);
    }

-- and of each step of it
pub steps_plain : (c : Setting) (x : Plain) → IsSound c x → IsComplete c.bytes x → Each (IsPlainStep c.bytes) (steps_of x)
steps_plain c = by_trees (λ x. IsSound c x → IsComplete c.bytes x → Each (IsPlainStep c.bytes) (steps_of x))
    (λ t v d. absurd (never_unknown c.bytes t d))
    (λ t l s kids h v d.
    let vs = kids-sound c t l s kids v in
    let ds = split (IsDone c.bytes) t l s kids d in
    let below = each_of_two (IsSound c) (IsComplete c.bytes) (λ x. Each (IsPlainStep c.bytes) (steps_of x)) kids h vs.0 ds.0 in
    subst (Each (IsPlainStep c.bytes)) (sym (steps_of-known t l s kids))
    (each-append (IsPlainStep c.bytes) (flat_map steps_of kids) (known t l s kids ∷ []) (from_kids (IsPlainStep c.bytes) kids below) (step_plain c t l s kids v d, tt)))

-- a valid and complete proof has none
pub proof_plain : (bytes : List ℕ) (at : ℕ) (goal : List WSym) (p : Proof) → IsValid bytes at goal p → IsComplete bytes p.plain → Each (IsPlainStep bytes) (steps_of p.plain)
proof_plain bytes at goal p v d = steps_plain (setting_of bytes at p) p.plain v.steps d
