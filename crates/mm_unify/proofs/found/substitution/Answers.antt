use Rattle.std.proofs.Common.{◌≡◌, List, ◌∷◌, ◌++◌, sym, ◌∙◌, ap, subst}
use Rattle.mm_subst.specs.declared.symbol.WSym.{WSym}
use Rattle.mm_subst.specs.Substitutions.{value_at, HasDistinctKeys}
use Rattle.mm_unify.proofs.Distinct.{distinct_before}
use Rattle.mm_unify.proofs.found.substitution.Goals as goal

pub put-requires : goal.put-requires
put-requires c =
    let e : c.args.values ≡ c.loop-value.out ++ c.in-Some.value ∷ c.next.new.self.rest.items = sym c.loop-value.invariant ∙ ap (λ t. c.loop-value.out ++ t) c.in-Some.ensures.steps.0 in
    let d = distinct_before c.loop-value.out c.next.new.self.rest.items c.in-Some.value (subst HasDistinctKeys e c.requires) in
    ap (λ (p : WSym × List WSym). value_at c.loop-value.out p.0) c.value.view_is ∙ d
