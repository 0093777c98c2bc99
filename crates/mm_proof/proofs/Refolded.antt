-- The steps that are read of written ones fold as these do.
use Rattle.std.proofs.Common.{◌≡◌, ℕ, zero, suc, ◌+◌, ◌-◌, Bool, true, false, cond, eqb, List, [], ◌∷◌, ◌++◌, Option, None, Some, refl, ap, ◌∙◌, arith}
use Rattle.std.proofs.lemmas.Bool.Decides.{nat_tests}
use Rattle.mm_scope.specs.Contents.{stated_at}
use Rattle.mm_stated.specs.Stated.{is_hypothesis}
use Rattle.mm_proof.specs.Trees.{Tree, Trees, none, more, tree, trees_of, AreWhole}
use Rattle.mm_proof.specs.Compacting.{Writing, start, earlier, named, put, written, compact}
use Rattle.mm_proof.specs.Encoding.{kind_of}
use Rattle.mm_proof.specs.Folding.{fold}
use Rattle.mm_proof.specs.Forests.{arity_of, plain, plain_steps, trees_in}
use Rattle.mm_proof.specs.Spelling.{steps_tagged, is_named, steps_read}
use Rattle.mm_proof.specs.declared.step.StepKind.TheVariants as kind
use Rattle.mm_proof.specs.declared.written.Step.{Step}
use Rattle.mm_proof.specs.declared.written.Step.TheVariants.{Label, Unknown, Back}
use Rattle.mm_proof.proofs.Folds.{fold-compact}
use Rattle.mm_proof.proofs.Shaped.{arity_none}

-- a written label is no `?`
abbrev AreSome : List Step → Type 0
AreSome [] = Unit {0}
AreSome (Label l ∷ ss) = (l ≡ 0 → ⊥) × AreSome ss
AreSome (Unknown ∷ ss) = AreSome ss
AreSome (Back k ∷ ss) = AreSome ss

some_more : (xs : List Step) (s : Step) → AreSome xs → AreSome (s ∷ []) → AreSome (xs ++ s ∷ [])
some_more [] s h i = i
some_more (Label l ∷ xs) s h i = (h.0, some_more xs s h.1 i)
some_more (Unknown ∷ xs) s h i = some_more xs s h i
some_more (Back k ∷ xs) s h i = some_more xs s h i

some_named : (l : ℕ) → AreSome (named l ∷ [])
some_named l = by (eqb l 0) refl
  where
    by : (b : Bool) → eqb l 0 ≡ b → AreSome (cond b Unknown (Label l) ∷ [])
    by true e = tt
    by false e = (grind (arith, nat_tests), tt)

some_put : (o : Option ℕ) (t : Tree) (w walked : Writing) → AreSome w.steps → AreSome walked.steps → AreSome (put o t w walked).steps
some_put (Some k) t w walked a b = some_more w.steps (Back k) a tt
some_put None t w walked a b = some_more walked.steps (named t.label) b (some_named t.label)

some_written : (ts : Trees) (w : Writing) → AreSome w.steps → AreSome (written w ts).steps
unfolding written
some_written none w h = h
some_written (more l cs rest) w h =
    some_written rest (put (earlier w.seen (tree l cs)) (tree l cs) w (written w cs)) (some_put (earlier w.seen (tree l cs)) (tree l cs) w (written w cs) h (some_written cs w h))

plain_kind : (bytes : List ℕ) (l : ℕ) → (l ≡ 0 → ⊥) → plain (kind_of bytes l) ≡ Label l
unfolding kind_of
plain_kind bytes zero h = absurd (h refl)
plain_kind bytes (suc n) h = by (is_hypothesis (stated_at bytes n).kind)
  where
    more_is : n + 1 ≡ suc n
    more_is = omega arith

    by : (b : Bool) → plain (cond b (kind.Hyp (record { 0 = n })) (kind.Apply (record { 0 = n }))) ≡ Label (suc n)
    by true = ap Label more_is
    by false = ap Label more_is

plain_back : (k : ℕ) → Back (k + 1 - 1) ≡ Back k
plain_back k = ap Back (let e : k + 1 - 1 ≡ k = omega arith in e)

plain_read : (bytes : List ℕ) (tagged : ℕ → Bool) (i : ℕ) (ss : List Step) → AreSome ss → plain_steps (steps_tagged (kind_of bytes) tagged i ss) ≡ ss
plain_read bytes tagged i [] h = refl
plain_read bytes tagged i (Label l ∷ ss) h = ap (λ x. x ∷ plain_steps (steps_tagged (kind_of bytes) tagged (i + 1) ss)) (plain_kind bytes l h.0) ∙ ap (λ x. Label l ∷ x) (plain_read bytes tagged (i + 1) ss h.1)
plain_read bytes tagged i (Unknown ∷ ss) h = ap (λ x. Unknown ∷ x) (plain_read bytes tagged (i + 1) ss h)
plain_read bytes tagged i (Back k ∷ ss) h = ap (λ x. x ∷ plain_steps (steps_tagged (kind_of bytes) tagged (i + 1) ss)) (plain_back k) ∙ ap (λ x. Back k ∷ x) (plain_read bytes tagged (i + 1) ss h)

-- the steps that are read of a tree's fold to it
pub trees_read : (bytes : List ℕ) (t : Tree) → AreWhole (arity_of bytes) (trees_of (t ∷ [])) → trees_in bytes (steps_read (kind_of bytes) (compact t)) ≡ Some (t ∷ [])
trees_read bytes t h =
    ap (fold (arity_of bytes)) (plain_read bytes (is_named (compact t)) 0 (compact t) (some_written (trees_of (t ∷ [])) start tt))
    ∙ fold-compact (arity_of bytes) t (arity_none bytes) h
