-- A unifier that is applied keeps a proof valid.
use Rattle.std.proofs.Common.{zero, suc, ◌≡◌, ℕ, ◌+◌, ◌-◌, ◌≤◌, ◌<◌, Bool, true, false, List, [], ◌∷◌, length, Option, None, Some, refl, sym, ◌∙◌, ap, subst, arith, not, ◌&&◌}
use Rattle.std.specs.Prelude.{Result, Ok, Err, nat_le, nat_lt, slice_get, is_none}
use Rattle.std.specs.List.{All, AllByRecursion as ByRecursion}
use Rattle.std.proofs.lemmas.List.Elements.{recursion_from_All, All-from_recursion}
use Rattle.std.proofs.lemmas.Option.{none-some}
use Rattle.mm_base.specs.Refusals.{unless, given, found_or}
use Rattle.mm_base.proofs.Refusing.{unless-ok, unless-end}
use Rattle.mm_subst.specs.declared.symbol.WSym.{WSym}
use Rattle.mm_subst.specs.Substitutions.{Pairs, applied}
use Rattle.mm_subst.specs.Symbols.{has_work, is_work}
use Rattle.mm_unify.specs.declared.listing.Ended.{Ended}
use Rattle.mm_unify.specs.declared.listing.Ended.TheVariants.{Whole, Trials, Length}
use Rattle.mm_unify.specs.declared.listing.Settings.{Settings}
use Rattle.mm_unify.specs.Forbidden.{forbidden}
use Rattle.mm_unify.specs.Search.{Answer}
use Rattle.mm_plain.specs.declared.plain.Plain.{Plain}
use Rattle.mm_plain.specs.Binding.{bound, bound_in, HasWorkKeys, IsBinding}
use Rattle.mm_plain.specs.Lengths.{first_long}
use Rattle.mm_plain.specs.Shape.{Proof, known, unknown, size_of, step_at, target_of}
use Rattle.mm_plain.specs.Sources.{source_of, label_of}
use Rattle.mm_plain.specs.Valid.{Setting, setting_of, IsKnownSymbol, IsString, IsGood, IsValid}
use Rattle.mm_plain.proofs.Bounds.{valid-bound}
use Rattle.mm_plain.proofs.Equations.{by_trees}
use Rattle.mm_plain.proofs.Kept.{step-good, target-good, known-good}
use Rattle.mm_plain.proofs.Read.{source_of-unknown, source_of-known}
use Rattle.mm_plain.proofs.Works.{applied-plain}
use Rattle.mm_edit.specs.Applying.{unless_long, applying, applying_only}
use Rattle.mm_edit.specs.Keeping.{IsKept, IsProofOf}
use Rattle.mm_edit.specs.Listed.{listed, listed_with, listed_at, has_none, only_among, only_unifier, chosen}
use Rattle.mm_edit.specs.Steps.{has_step, is_unknown}
use Rattle.mm_edit.specs.declared.edit_fault.EditFault.{EditFault}
use Rattle.mm_edit.specs.declared.edit_fault.EditFault.TheVariants.{NoUnifier, NoSuchChoice}
use Rattle.mm_edit.proofs.Unifiers.{HasPair, answer-has}

-- what is applied

unless_long-ok : (o : Option ℕ) (p q : Proof) → unless_long o p ≡ Ok q → (o ≡ None) × (p ≡ q)
unless_long-ok None p q h = let z : p ≡ q = cc in (refl, z)
unless_long-ok (Some k) p q h = cc

pub applying-ok : (bytes : List ℕ) (theta : Pairs) (p q : Proof) → applying bytes theta p ≡ Ok q → (first_long bytes (bound theta p.plain) ≡ None) × (bound_in theta p ≡ q)
applying-ok bytes theta p q h = unless_long-ok (first_long bytes (bound theta p.plain)) (bound_in theta p) q h

pub kept-applying : (bytes : List ℕ) (at : ℕ) (goal : List WSym) (theta : Pairs) (p q : Proof) → IsProofOf bytes at goal p → IsBinding (setting_of bytes at p) theta → applying bytes theta p ≡ Ok q → IsKept bytes at goal p q
kept-applying bytes at goal theta p q v b h =
    let e = applying-ok bytes theta p q h in
    subst (IsKept bytes at goal p) e.1 (record {
      valid = subst (λ g. IsValid bytes at g (bound_in theta p)) (applied-plain theta b.keys goal v.fixed) (valid-bound bytes at goal p theta v.valid b e.0);
      drawn = omega arith;
    })

-- what is listed

abbrev IsListed : Setting → Pairs → Type 0
IsListed c u = ByRecursion (HasPair (IsKnownSymbol c)) u

keys-listed : (P : WSym → Type 0) (u : Pairs) → ByRecursion (HasPair P) u → ByRecursion (λ (p : WSym × List WSym). is_work p.0 ≡ true) u
keys-listed P [] h = tt
keys-listed P (p ∷ u) h = (h.0.0, keys-listed P u h.1)

values-listed : (P : WSym → Type 0) (u : Pairs) → ByRecursion (HasPair P) u → ByRecursion (λ (p : WSym × List WSym). All P p.1) u
values-listed P [] h = tt
values-listed P (p ∷ u) h = (All-from_recursion P p.1 h.0.1, values-listed P u h.1)

binding-listed : (c : Setting) (u : Pairs) → IsListed c u → IsBinding c u
binding-listed c u h = record {
  keys = All-from_recursion _ u (keys-listed (IsKnownSymbol c) u h);
  values = All-from_recursion (λ (p : WSym × List WSym). All (IsKnownSymbol c) p.1) u (values-listed (IsKnownSymbol c) u h);
}

pub only-among : (P : Pairs → Type 0) (e : Ended) (found : List Pairs) (u : Pairs) → ByRecursion P found → only_among e found ≡ Ok u → P u
only-among P Trials found u a h = cc
only-among P Length found u a h = cc
only-among P Whole [] u a h = cc
only-among P Whole (v ∷ []) u a h = let z : v ≡ u = cc in subst P z a.0
only-among P Whole (v ∷ w ∷ found) u a h = cc

pub at-place : (P : Pairs → Type 0) (found : List Pairs) (i : ℕ) (f : EditFault) (u : Pairs) → ByRecursion P found → found_or (slice_get found i) f ≡ Ok u → P u
at-place P [] i f u a h = cc
at-place P (v ∷ found) zero f u a h = let z : v ≡ u = cc in subst P z a.0
at-place P (v ∷ found) (suc i) f u a h = at-place P found i f u a.1 h

pub binding-only : (bytes : List ℕ) (at : ℕ) (set : Settings) (p : Proof) (a b : List WSym) (u : Pairs) → IsString (setting_of bytes at p) a → IsString (setting_of bytes at p) b
    → only_unifier (listed bytes set a b) ≡ Ok u → IsBinding (setting_of bytes at p) u
binding-only bytes at set p a b u h k e =
    let c = setting_of bytes at p in
    let l = listed bytes set a b in
    binding-listed c u (only-among (IsListed c) l.ended l.found u
    (answer-has (IsKnownSymbol c) (forbidden bytes set.rule) (Some set.trials) a b (recursion_from_All _ a h.symbols) (recursion_from_All _ b k.symbols)) e)

pub binding-chosen : (bytes : List ℕ) (at : ℕ) (set : Settings) (p : Proof) (a b : List WSym) (choice : Option ℕ) (u : Pairs) → IsString (setting_of bytes at p) a → IsString (setting_of bytes at p) b
    → chosen choice (listed bytes set a b) ≡ Ok u → IsBinding (setting_of bytes at p) u
binding-chosen bytes at set p a b None u h k e = binding-only bytes at set p a b u h k e
binding-chosen bytes at set p a b (Some n) u h k e =
    let c = setting_of bytes at p in
    let l = listed bytes set a b in
    let f = unless-ok (has_none l) NoUnifier [] (found_or (slice_get l.found (n - 1)) (NoSuchChoice (length l.found))) u e in
    binding-listed c u (at-place (IsListed c) l.found (n - 1) (NoSuchChoice (length l.found)) u
    (answer-has (IsKnownSymbol c) (forbidden bytes set.rule) (Some set.trials) a b (recursion_from_All _ a h.symbols) (recursion_from_All _ b k.symbols))
    (sym (unless-end (found_or (slice_get l.found (n - 1)) (NoSuchChoice (length l.found)))) ∙ f.1))

-- the strings of a step

abbrev pub IsSource : Setting → Option (List WSym) → Type 0
IsSource c None = Unit {0}
IsSource c (Some s) = IsString c s

pub source-good : (c : Setting) (x : Plain) → IsGood c x → IsSource c (source_of c.bytes x)
source-good c = by_trees (λ x. IsGood c x → IsSource c (source_of c.bytes x))
    (λ t g. subst (IsSource c) (sym (source_of-unknown c.bytes t)) tt)
    (λ t l s kids h g. subst (IsSource c) (sym (source_of-known c.bytes t l s kids)) (known-good c t l s kids g).names.source)

-- a step that is there
at-most : (m n : ℕ) → nat_le m n ≡ true → m ≤ n
at-most m n h = grind arith

both : (a b : Bool) → not (a && b) ≡ false → (a ≡ true) × (b ≡ true)
both true true h = (refl, refl)
both true false h = cc
both false b h = cc

pub stands-there : (x : Plain) (k : ℕ) → not (has_step x k) ≡ false → (1 ≤ k) × (k ≤ size_of x)
stands-there x k h =
    let w = both (nat_le 1 k) (nat_le k (size_of x)) h in
    (at-most 1 k w.0, at-most k (size_of x) w.1)

pub target-string : (bytes : List ℕ) (at : ℕ) (goal : List WSym) (p : Proof) (k : ℕ) → IsValid bytes at goal p → 1 ≤ k → k ≤ size_of p.plain → IsString (setting_of bytes at p) (target_of (step_at p.plain k))
target-string bytes at goal p k v l u = target-good (setting_of bytes at p) (step_at p.plain k) (step-good (setting_of bytes at p) p.plain k l u v.steps)

pub source-string : (bytes : List ℕ) (at : ℕ) (goal : List WSym) (p : Proof) (k : ℕ) (s : List WSym) → IsValid bytes at goal p → 1 ≤ k → k ≤ size_of p.plain → source_of bytes (step_at p.plain k) ≡ Some s → IsString (setting_of bytes at p) s
source-string bytes at goal p k s v l u e =
    let c = setting_of bytes at p in
    subst (IsSource c) e (source-good c (step_at p.plain k) (step-good c p.plain k l u v.steps))
