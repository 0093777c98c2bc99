-- An accepted REPLACE keeps a proof valid.
use Rattle.std.proofs.Common.{◌≡◌, ℕ, ◌+◌, ◌-◌, ◌≤◌, ◌<◌, Bool, true, false, ◌&&◌, List, [], ◌∷◌, map, length, Option, None, Some, refl, sym, ◌∙◌, ap, subst, arith, not, if◌then◌else◌}
use Rattle.std.specs.Prelude.{Result, Ok, Err, is_some}
use Rattle.std.specs.List.{list_any, sum_by}
use Rattle.std.specs.Cmp.Lexicographic.{pointwise}
use Rattle.std.proofs.lemmas.Bool.{true≢false}
use Rattle.std.proofs.lemmas.List.Sums.{sum_by-cons}
use Rattle.mm_base.specs.Refusals.{unless, given}
use Rattle.mm_base.proofs.Refusing.{unless-ok, unless-end, given-ok}
use Rattle.mm_subst.specs.declared.symbol.WSym.{WSym}
use Rattle.mm_subst.specs.Symbols.{is_same, has_work}
use Rattle.mm_subst.specs.Statements.{statement_of}
use Rattle.mm_subst.specs.Substitutions.{Pairs, applied}
use Rattle.mm_unify.specs.declared.listing.Settings.{Settings}
use Rattle.mm_unify.specs.Search.{Answer}
use Rattle.mm_plain.specs.declared.plain.Plain.{Plain}
use Rattle.mm_plain.specs.Binding.{bound, bound_in, IsBinding}
use Rattle.mm_plain.specs.Drawing.{fresh_for}
use Rattle.mm_plain.specs.Grafts.{cleared, cleared_in, grafted_in, raised}
use Rattle.mm_plain.specs.Lengths.{first_long}
use Rattle.mm_plain.specs.Premises.{may_stand, premises_of}
use Rattle.mm_plain.specs.Shape.{Each, Proof, unknown, unknowns, known, size_of, height_of, step_at, put, target_of}
use Rattle.mm_plain.specs.Valid.{Setting, setting_of, Fits, IsString, IsInstance, IsSound, IsValid, most_works, most_steps, most_levels}
use Rattle.mm_plain.proofs.Binding.{size_of-bound, target_of-bound}
use Rattle.mm_plain.proofs.Bounds.{sound-bound}
use Rattle.mm_plain.proofs.Equations.{by_trees, size_of-unknown, size_of-known, target_of-unknown, target_of-known}
use Rattle.mm_plain.proofs.Fresh.{fits-fresh}
use Rattle.mm_plain.proofs.Grafts.{sound-part, valid-cleared}
use Rattle.mm_plain.proofs.Kept.{placed-kept, put-kept, sound-unknown, sound-known, kids-sound, step-good, target-good}
use Rattle.mm_plain.proofs.Moved.{sound-raised}
use Rattle.mm_plain.proofs.Parts.{size-cleared}
use Rattle.mm_plain.proofs.Puts.{size-before, at-put}
use Rattle.mm_plain.proofs.Sizes.{size-put}
use Rattle.mm_plain.proofs.Works.{applied-plain, neither}
use Rattle.mm_edit.specs.Applying.{applying, applying_only, bound_by}
use Rattle.mm_edit.specs.Assigning.{draws, named, listed_named}
use Rattle.mm_edit.specs.Keeping.{IsKept, IsProofOf}
use Rattle.mm_edit.specs.Listed.{only_unifier}
use Rattle.mm_tree.specs.Replacing.{number_cleared, number_over, first_with, refilled, refilled_in, are_long}
use Rattle.mm_tree.proofs.Refilled.{refilled-known, refilled-unknown}
use Rattle.mm_edit.specs.Replacing.{refilling, replaced}
use Rattle.mm_plain.specs.Children.{children_of}
use Rattle.mm_plain.proofs.Children.{children_of-unknown, children_of-known}
use Rattle.mm_edit.specs.Steps.{has_many, is_deep}
use Rattle.mm_edit.specs.declared.edit_fault.EditFault.{EditFault}
use Rattle.mm_edit.proofs.Applied.{applying-ok, binding-only, stands-there}
use Rattle.mm_edit.proofs.Assigning.{IsNaming, raised_for, fits-named, binding-named, not-above, from-not}
use Rattle.mm_plain.proofs.Floats.{target-sound}
use Rattle.mm_edit.proofs.Falling.{same-string}

-- the children of a step

pub children-sound : (c : Setting) (x : Plain) → IsSound c x → Each (IsSound c) (children_of x)
children-sound c = by_trees (λ x. IsSound c x → Each (IsSound c) (children_of x))
    (λ t h. subst (Each (IsSound c)) (sym (children_of-unknown t)) tt)
    (λ t l s kids e h. subst (Each (IsSound c)) (sym (children_of-known t l s kids)) (kids-sound c t l s kids h).0)

-- a step whose children take other trees

pub target_of-first : (olds : List Plain) (t : List WSym) → target_of (first_with olds t) ≡ t
target_of-first [] t = target_of-unknown t
target_of-first (x ∷ xs) t = go (pointwise is_same (target_of x) t) refl (target_of-first xs t)
  where
    go : (b : Bool) → pointwise is_same (target_of x) t ≡ b → target_of (first_with xs t) ≡ t → target_of (if b then x else first_with xs t) ≡ t
    go true e h = same-string (target_of x) t e
    go false e h = h

sound-first : (c : Setting) (olds : List Plain) (t : List WSym) → Each (IsSound c) olds → IsString c t → IsSound c (first_with olds t)
sound-first c [] t e h = sound-unknown c t h
sound-first c (x ∷ xs) t e h = go (pointwise is_same (target_of x) t) (sound-first c xs t e.1 h)
  where
    go : (b : Bool) → IsSound c (first_with xs t) → IsSound c (if b then x else first_with xs t)
    go true later = e.0
    go false later = later

targets-first : (olds kids : List Plain) → map target_of (map (λ y. first_with olds (target_of y)) kids) ≡ map target_of kids
targets-first olds [] = refl
targets-first olds (x ∷ xs) = ap (λ t. t ∷ map target_of (map (λ y. first_with olds (target_of y)) xs)) (target_of-first olds (target_of x)) ∙ ap (λ ts. target_of x ∷ ts) (targets-first olds xs)

all-first : (c : Setting) (olds kids : List Plain) → Each (IsSound c) olds → Each (IsSound c) kids → Each (IsSound c) (map (λ y. first_with olds (target_of y)) kids)
all-first c olds [] e h = tt
all-first c olds (x ∷ xs) e h = (sound-first c olds (target_of x) e (target-sound c x h.0), all-first c olds xs e h.1)

sound-refilled : (c : Setting) (olds : List Plain) → Each (IsSound c) olds → (x : Plain) → IsSound c x → IsSound c (refilled olds x) × (target_of (refilled olds x) ≡ target_of x)
sound-refilled c olds e = by_trees (λ x. IsSound c x → IsSound c (refilled olds x) × (target_of (refilled olds x) ≡ target_of x))
    (λ t h. (subst (IsSound c) (sym (refilled-unknown olds t)) h, ap target_of (refilled-unknown olds t)))
    (λ t l s kids ih h.
    let w = kids-sound c t l s kids h in
    let news = map (λ y. first_with olds (target_of y)) kids in (
      subst (IsSound c) (sym (refilled-known olds t l s kids)) (sound-known c t l s news (all-first c olds kids e w.0) (subst (IsInstance c t l s) (sym (targets-first olds kids)) w.1)),
      ap target_of (refilled-known olds t l s kids) ∙ target_of-known t l s news ∙ sym (target_of-known t l s kids),
    ))

-- sound proofs, whatever their size

pub record IsSoundProof (bytes : List ℕ) (at : ℕ) (goal : List WSym) (p : Proof) : Type 0 where
  pub goal_is : target_of p.plain ≡ goal
  pub steps : IsSound (setting_of bytes at p) p.plain
  pub counter : (1 ≤ p.next) × (p.next ≤ most_works + 1)

sound-valid : (bytes : List ℕ) (at : ℕ) (goal : List WSym) (p : Proof) → IsValid bytes at goal p → IsSoundProof bytes at goal p
sound-valid bytes at goal p v = record { goal_is = v.goal_is; steps = v.steps; counter = v.counter }

pub sound-named : (bytes : List ℕ) (at : ℕ) (goal : List WSym) (p : Proof) (k id : ℕ) → IsValid bytes at goal p → IsNaming bytes at p k id → IsSoundProof bytes at goal (named bytes p k id)
sound-named bytes at goal p k id v n =
    let c = setting_of bytes at p in
    let kept = placed-kept (setting_of bytes at (raised_for bytes p id)) p.plain k id (fresh_for bytes p.next id) n.low n.high (fits-named bytes at goal p k id v n) (sound-raised c (p.next + draws bytes id) (omega arith) p.plain v.steps) in
    record { goal_is = kept.1 ∙ v.goal_is; steps = kept.0; counter = (let a = v.counter.0 in omega arith, n.drawn) }

-- the proof under the only unifier, and old trees under it

record IsUnder (bytes : List ℕ) (at : ℕ) (goal : List WSym) (p r : Proof) (u : Result Pairs EditFault) : Type 0 where
  pub sound : IsSoundProof bytes at goal r
  pub size : size_of r.plain ≡ size_of p.plain
  pub next : r.next ≡ p.next
  pub olds : (x : Plain) → IsSound (setting_of bytes at p) x → first_long bytes (bound_by u x) ≡ None → IsSound (setting_of bytes at r) (bound_by u x)

under : (bytes : List ℕ) (at : ℕ) (goal : List WSym) (p r : Proof) (u : Result Pairs EditFault) → has_work goal ≡ false → IsSoundProof bytes at goal p
    → ((theta : Pairs) → u ≡ Ok theta → IsBinding (setting_of bytes at p) theta) → applying_only bytes u p ≡ Ok r → IsUnder bytes at goal p r u
under bytes at goal p r (Ok theta) fixed v b h =
    let e = applying-ok bytes theta p r h in
    let w = b theta refl in
    subst (λ q. IsUnder bytes at goal p q (Ok theta)) e.1 (record {
      sound = record {
        goal_is = target_of-bound theta p.plain ∙ ap (applied theta) v.goal_is ∙ applied-plain theta w.keys goal fixed;
        steps = sound-bound (setting_of bytes at p) theta w p.plain v.steps e.0;
        counter = v.counter;
      };
      size = size_of-bound theta p.plain;
      next = refl;
      olds = λ x s short. sound-bound (setting_of bytes at p) theta w x s short;
    })
under bytes at goal p r (Err f) fixed v b h =
    let z : p ≡ r = cc in
    subst (λ q. IsUnder bytes at goal p q (Err f)) z (record { sound = v; size = refl; next = refl; olds = λ x s short. s })

short-all : (bytes : List ℕ) (xs : List Plain) → are_long bytes xs ≡ false → Each (λ x. first_long bytes x ≡ None) xs
short-all bytes [] h = tt
short-all bytes (x ∷ xs) h =
    let w = neither (is_some (first_long bytes x)) (list_any (λ y. is_some (first_long bytes y)) xs) h in
    (go (first_long bytes x) w.0, short-all bytes xs w.1)
  where
    go : (o : Option ℕ) → is_some o ≡ false → o ≡ None
    go None e = refl
    go (Some n) e = absurd (true≢false e)

olds-sound : (bytes : List ℕ) (at : ℕ) (goal : List WSym) (p r : Proof) (u : Result Pairs EditFault) → IsUnder bytes at goal p r u → (xs : List Plain) → Each (IsSound (setting_of bytes at p)) xs
    → Each (λ x. first_long bytes x ≡ None) (map (bound_by u) xs) → Each (IsSound (setting_of bytes at r)) (map (bound_by u) xs)
olds-sound bytes at goal p r u w [] s h = tt
olds-sound bytes at goal p r u w (x ∷ xs) s h = (w.olds x s.0 h.0, olds-sound bytes at goal p r u w xs s.1 h.1)

raised-all : (c : Setting) (n : ℕ) → c.next ≤ n → (xs : List Plain) → Each (IsSound c) xs → Each (IsSound (record { bytes = c.bytes; at = c.at; next = n })) xs
raised-all c n h [] s = tt
raised-all c n h (x ∷ xs) s = (sound-raised c n h x s.0, raised-all c n h xs s.1)

-- the numbers of the step

sizes-unknown : (sigma : Pairs) (hs : List (List WSym)) → sum_by size_of (unknowns sigma hs) ≡ length hs
sizes-unknown sigma [] = refl
sizes-unknown sigma (h ∷ hs) = sum_by-cons size_of (unknown (applied sigma h)) (unknowns sigma hs) ∙ omega (arith, sizes-unknown sigma hs, size_of-unknown (applied sigma h))

pub size-over : (t : List WSym) (id : ℕ) (sigma : Pairs) (hs : List (List WSym)) → size_of (known t id sigma (unknowns sigma hs)) ≡ length hs + 1
size-over t id sigma hs = omega (arith, size_of-known t id sigma (unknowns sigma hs), sizes-unknown sigma hs)

record IsNumbered (bytes : List ℕ) (p : Proof) (k id : ℕ) : Type 0 where
  pub first : 1 ≤ number_cleared p.plain k
  pub within : number_cleared p.plain k ≤ size_of (cleared p.plain k)
  pub over : number_over bytes p.plain k id ≤ size_of (named bytes (cleared_in p k) (number_cleared p.plain k) id).plain

numbered : (bytes : List ℕ) (p : Proof) (k id : ℕ) → 1 ≤ k → k ≤ size_of p.plain → IsNumbered bytes p k id
numbered bytes p k id l h =
    let j = number_cleared p.plain k in
    let t = target_of (step_at p.plain k) in
    let before = size-before p.plain k l h in
    let whole = size-cleared p.plain k l h in
    let first : 1 ≤ j = omega arith in
    let within : j ≤ size_of (cleared p.plain k) = omega arith in
    let there : step_at (cleared p.plain k) j ≡ unknown t = at-put (unknown t) p.plain k j l h (omega (arith, size_of-unknown t)) in
    let hs = premises_of bytes id in
    let sigma = fresh_for bytes p.next id in
    let x = cleared p.plain k in
    record {
      first = first;
      within = within;
      over = omega (
        arith,
        size-put (known (target_of (step_at x j)) id sigma (unknowns sigma hs)) x j first within,
        size-over (target_of (step_at x j)) id sigma hs,
        ap size_of there,
        size_of-unknown t,
      );
    }

pub kept-replaced : (bytes : List ℕ) (at : ℕ) (set : Settings) (goal : List WSym) (p q : Proof) (k id : ℕ) → IsProofOf bytes at goal p → replaced bytes at set p k id ≡ Ok q → IsKept bytes at goal p q
unfolding replaced
kept-replaced bytes at set goal p q k id v h =
    let a = unless-ok _ _ _ _ q h in
    let b = unless-ok _ _ _ _ q a.1 in
    let c = unless-ok _ _ _ _ q b.1 in
    let d = unless-ok _ _ _ _ q c.1 in
    let e = unless-ok _ _ _ _ q d.1 in
    let there = stands-there p.plain k b.0 in
    let pc : Proof = cleared_in p k in
    let j : ℕ = number_cleared p.plain k in
    let m : ℕ = number_over bytes p.plain k id in
    let u : Result Pairs EditFault = only_unifier (listed_named bytes set pc j id) in
    let kids : List Plain = children_of (step_at p.plain k) in
    let olds : List Plain = map (bound_by u) kids in
    let n : Proof = named bytes pc j id in
    let f = given-ok (applying_only bytes u n) (λ r. refilling bytes r m olds) q (sym (unless-end _) ∙ e.1) in
    let r : Proof = f.0 in
    let g = unless-ok _ _ _ _ q f.2 in
    let i = unless-ok _ _ _ _ q g.1 in
    let o = unless-ok _ _ _ _ q i.1 in
    let w : Proof = refilled_in r m olds in
    let last : Ok w ≡ Ok q = sym (unless-end _) ∙ o.1 in
    let z : w ≡ q = cc in
    let num = numbered bytes p k id there.0 there.1 in
    let naming : IsNaming bytes at pc j id = record { stands = from-not (may_stand bytes at id) a.0; low = num.first; high = num.within; drawn = not-above _ _ d.0 } in
    let vc = valid-cleared bytes at goal p k v.valid there.0 there.1 in
    let un = under bytes at goal n r u v.fixed (sound-named bytes at goal pc j id vc naming) (λ theta e. binding-named bytes at set goal pc j id theta vc naming e) f.1 in
    let sr = setting_of bytes at r in
    let s0 = setting_of bytes at p in
    let kids-good = raised-all s0 n.next (omega arith) kids (children-sound s0 (step_at p.plain k) (sound-part s0 p.plain k there.0 there.1 v.valid.steps)) in
    let olds-good = olds-sound bytes at goal n r u un kids kids-good (short-all bytes olds g.0) in
    let first : 1 ≤ m = (let x = num.first in omega arith) in
    let high : m ≤ size_of r.plain = (let x = num.over in let y = un.size in omega arith) in
    let full = sound-refilled sr olds olds-good (step_at r.plain m) (sound-part sr r.plain m first high un.sound.steps) in
    let kept = put-kept sr (refilled olds (step_at r.plain m)) full.0 r.plain m first high un.sound.steps full.1 in
    subst (IsKept bytes at goal p) z (record {
      valid = record {
        goal_is = kept.1 ∙ un.sound.goal_is;
        steps = kept.0;
        counter = un.sound.counter;
        few = not-above _ _ i.0;
        low = not-above _ _ o.0;
      };
      drawn = let x = un.next in omega arith;
    })
