-- A step whose target and source a unifier does not change keeps what its search finds.
use Rattle.std.proofs.Common.{◌≡◌, ℕ, ◌≤◌, true, false, List, [], ◌∷◌, ◌++◌, is_some, Option, None, Some, refl, sym, ◌∙◌, ap, subst, arith, if◌then◌else◌}
use Rattle.std.specs.Prelude.{Ok}
use Rattle.std.specs.Option.{option_map}
use Rattle.std.proofs.lemmas.Bool.{true≢false}
use Rattle.mm_subst.specs.declared.symbol.WSym.{WSym}
use Rattle.mm_subst.specs.Substitutions.{Pairs, applied, or_itself, value_at}
use Rattle.mm_subst.proofs.Replaced.{applied-nil, applied-cons}
use Rattle.mm_unify.specs.declared.listing.Settings.{Settings}
use Rattle.mm_plain.specs.declared.plain.Plain.{Plain}
use Rattle.mm_plain.specs.Binding.{HasWorkKeys, bound}
use Rattle.mm_plain.specs.Shape.{Proof, size_of, step_at, target_of}
use Rattle.mm_plain.specs.Sources.{is_pending, source_of, differs_from}
use Rattle.mm_plain.proofs.Binding.{size_of-bound, step_at-bound, target_of-bound}
use Rattle.mm_plain.proofs.Works.{neither, source_of-bound}
use Rattle.mm_edit.specs.Applying.{applying}
use Rattle.mm_edit.specs.Listed.{listed_with, only_unifier}
use Rattle.mm_edit.specs.Quiet.{AreQuiet, has_key, has_key_at, has_key_in, is_quiet}
use Rattle.mm_edit.specs.Unifying.{unifier_at, unifier_in}
use Rattle.mm_edit.specs.declared.quiet.Quiet.{Quiet}
use Rattle.mm_edit.proofs.Applied.{applying-ok}

itself : (x : WSym) (o : Option (List WSym)) → is_some o ≡ false → or_itself x o ≡ x ∷ []
itself x None h = refl
itself x (Some v) h = absurd (true≢false h)

keyless : (theta : Pairs) (s : List WSym) → has_key theta s ≡ false → applied theta s ≡ s
keyless theta [] h = applied-nil theta
keyless theta (x ∷ xs) h =
    let w = neither (is_some (value_at theta x)) (has_key theta xs) h in
    applied-cons theta x xs ∙ ap (λ (v : List WSym). v ++ applied theta xs) (itself x (value_at theta x) w.0) ∙ ap (λ (t : List WSym). x ∷ t) (keyless theta xs w.1)

keyless-source : (theta : Pairs) (o : Option (List WSym)) → has_key_in theta o ≡ false → option_map (applied theta) o ≡ o
keyless-source theta None h = refl
keyless-source theta (Some s) h = ap Some (keyless theta s h)

-- the only unifier by the target and the source
abbrev found : List ℕ → Settings → List WSym → Option (List WSym) → Option Pairs
found bytes set t s = if differs_from s t then unifier_in (only_unifier (listed_with bytes set t s)) else None

unifier-found : (bytes : List ℕ) (set : Settings) (y : Plain) → unifier_at bytes set y ≡ found bytes set (target_of y) (source_of bytes y)
unfolding is_pending
unifier-found bytes set y = refl

same-unifier : (bytes : List ℕ) (set : Settings) (theta : Pairs) (y : Plain) → HasWorkKeys theta → has_key_at bytes theta y ≡ false → unifier_at bytes set (bound theta y) ≡ unifier_at bytes set y
same-unifier bytes set theta y keys h =
    let w = neither (has_key theta (target_of y)) (has_key_in theta (source_of bytes y)) h in
    unifier-found bytes set (bound theta y)
    ∙ ap (λ (t : List WSym). found bytes set t (source_of bytes (bound theta y))) (target_of-bound theta y ∙ keyless theta (target_of y) w.0)
    ∙ ap (found bytes set (target_of y)) (source_of-bound bytes theta keys y ∙ keyless-source theta (source_of bytes y) w.1)
    ∙ sym (unifier-found bytes set y)

-- what is known of steps is known still under a unifier, but for those that it changes
pub quiet-bound : (bytes : List ℕ) (set : Settings) (theta : Pairs) (p q : Proof) (old new : Quiet) → HasWorkKeys theta → applying bytes theta p ≡ Ok q → AreQuiet bytes set p.plain old
    → ((k : ℕ) → is_quiet new k ≡ true → is_quiet old k ≡ true) → ((k : ℕ) → 1 ≤ k → k ≤ size_of p.plain → is_quiet new k ≡ true → has_key_at bytes theta (step_at p.plain k) ≡ false) → AreQuiet bytes set q.plain new
quiet-bound bytes set theta p q old new keys h quiet fewer same =
    subst (λ (r : Proof). AreQuiet bytes set r.plain new) (applying-ok bytes theta p q h).1 (λ k first last is.
    let within : k ≤ size_of p.plain = omega (arith, last, size_of-bound theta p.plain) in
    ap (unifier_at bytes set) (step_at-bound theta p.plain k) ∙ same-unifier bytes set theta (step_at p.plain k) keys (same k first within is) ∙ quiet k first within (fewer k is))

-- at first nothing is known
pub quiet-none : (bytes : List ℕ) (set : Settings) (x : Plain) (q : Quiet) → ((k : ℕ) → is_quiet q k ≡ false) → AreQuiet bytes set x q
quiet-none bytes set x q none k first last is = absurd (true≢false (sym is ∙ none k))
