-- Where a substitution has the mandatory variables as its keys, it has a value for both variables of each mandatory pair.
use Rattle.std.proofs.Common.{◌≡◌, refl, ℕ, true, false, List, Option, None, Some, map, All, ◌∙◌}
use Rattle.std.proofs.lemmas.Bool.{false≢true}
use Rattle.std.proofs.lemmas.List.Elements.{All-weaker}
use Rattle.std.specs.Prelude.{is_none, is_some}
use Rattle.mm_scope.specs.Contents.{stated_at}
use Rattle.mm_subst.specs.Substitutions.{Pairs, value_at}
use Rattle.mm_subst.specs.declared.symbol.WSym.{WSym}
use Rattle.mm_subst.specs.declared.symbol.WSym.TheVariants.{Var}
use Rattle.mm_plain.specs.Premises.{variables_for}
use Rattle.mm_plain.proofs.Keys.{keys_among}
use Rattle.mm_sound.proofs.Paired.{is_key, pairs_among_keys}
use Rattle.mm_save.specs.Clashes.{HasBoth}

some_is : (o : Option (List WSym)) → is_some o ≡ true → is_none o ≡ false
some_is None h = absurd (false≢true h)
some_is (Some s) h = refl

pub pairs_have : (bytes : List ℕ) (id : ℕ) (sigma : Pairs) → map (λ p. p.0) sigma ≡ map Var (variables_for bytes id) → All (HasBoth sigma) (stated_at bytes id).pairs
pairs_have bytes id sigma keys =
    All-weaker (λ p. (is_key bytes id p.0 ≡ true) × (is_key bytes id p.1 ≡ true)) (HasBoth sigma) (λ p g. (has p.0 g.0, has p.1 g.1)) (stated_at bytes id).pairs (pairs_among_keys bytes id)
  where
    has : (v : ℕ) → is_key bytes id v ≡ true → is_none (value_at sigma (Var v)) ≡ false
    has v h = some_is (value_at sigma (Var v)) (keys_among sigma (variables_for bytes id) keys (Var v) ∙ h)
