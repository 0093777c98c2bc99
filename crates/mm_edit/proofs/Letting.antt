-- An accepted LET keeps a proof valid.
use Rattle.std.proofs.Common.{◌≡◌, ℕ, ◌+◌, ◌≤◌, ◌<◌, Bool, true, false, List, [], ◌∷◌, length, refl, sym, ◌∙◌, ap, subst, arith, not}
use Rattle.std.specs.Prelude.{Result, Ok, Err}
use Rattle.std.specs.List.{All}
use Rattle.std.proofs.lemmas.List.Elements.{All-nil, All-cons}
use Rattle.mm_base.specs.Refusals.{unless, given}
use Rattle.mm_base.proofs.Refusing.{unless-ok, unless-end, given-ok}
use Rattle.mm_subst.specs.declared.symbol.WSym.{WSym}
use Rattle.mm_subst.specs.declared.symbol.WSym.TheVariants.{Work}
use Rattle.mm_subst.specs.Substitutions.{Pairs}
use Rattle.mm_subst.specs.Symbols.{is_work}
use Rattle.mm_unify.specs.declared.listing.Settings.{Settings}
use Rattle.mm_plain.specs.Binding.{IsBinding}
use Rattle.mm_plain.specs.Shape.{Proof, step_at, target_of}
use Rattle.mm_plain.specs.Valid.{Setting, setting_of, IsKnownSymbol, IsString}
use Rattle.mm_edit.specs.Applying.{applying}
use Rattle.mm_edit.specs.Keeping.{IsKept, IsProofOf}
use Rattle.mm_edit.specs.Letting.{variable_let, step_let}
use Rattle.mm_edit.specs.Listed.{listed, only_unifier}
use Rattle.mm_edit.proofs.Applied.{kept-applying, binding-only, stands-there, target-string}

binding-one : (c : Setting) (n : ℕ) (value : List WSym) → All (IsKnownSymbol c) value → IsBinding c ((Work n, value) ∷ [])
binding-one c n value h = record {
  keys = All-cons (λ (p : WSym × List WSym). is_work p.0 ≡ true) (Work n, value) [] refl (All-nil _);
  values = All-cons (λ (p : WSym × List WSym). All (IsKnownSymbol c) p.1) (Work n, value) [] h (All-nil _);
}

pub kept-variable_let : (bytes : List ℕ) (at : ℕ) (goal : List WSym) (p q : Proof) (n : ℕ) (value : List WSym) → IsProofOf bytes at goal p → All (IsKnownSymbol (setting_of bytes at p)) value
    → variable_let bytes p n value ≡ Ok q → IsKept bytes at goal p q
unfolding variable_let
kept-variable_let bytes at goal p q n value v k h =
    let a = unless-ok _ _ _ _ q h in
    let b = unless-ok _ _ _ _ q a.1 in
    kept-applying bytes at goal ((Work n, value) ∷ []) p q v (binding-one (setting_of bytes at p) n value k) (sym (unless-end _) ∙ b.1)

pub kept-step_let : (bytes : List ℕ) (at : ℕ) (set : Settings) (goal : List WSym) (p q : Proof) (k : ℕ) (text : List WSym) → IsProofOf bytes at goal p → IsString (setting_of bytes at p) text
    → step_let bytes set p k text ≡ Ok q → IsKept bytes at goal p q
unfolding step_let
kept-step_let bytes at set goal p q k text v s h =
    let a = unless-ok _ _ _ _ q h in
    let there = stands-there p.plain k a.0 in
    let g = given-ok (only_unifier (listed bytes set (target_of (step_at p.plain k)) text)) (λ theta. applying bytes theta p) q (sym (unless-end _) ∙ a.1) in
    kept-applying bytes at goal g.0 p q v
    (binding-only bytes at set p (target_of (step_at p.plain k)) text g.0 (target-string bytes at goal p k v.valid there.0 there.1) s g.1) g.2
