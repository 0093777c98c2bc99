use Rattle.std.proofs.Common.{◌≡◌, None, ap, sym, subst, ◌∙◌}
use Rattle.mm_subst.specs.Substitutions.{Pairs, applied}
use Rattle.mm_plain.specs.Binding.{bound, bound_in}
use Rattle.mm_plain.specs.Lengths.{first_long}
use Rattle.mm_plain.specs.Valid.{IsValid}
use Rattle.mm_plain.proofs.Bounds.{valid-bound}
use Rattle.mm_tree.proofs.Longs.{none-is}
use Rattle.mm_tree.proofs.tree.Tree.bind.Goals as goal

pub returns-clause-valid : goal.returns-clause-valid
returns-clause-valid c =
    let short : first_long c.args.db.now (bound c.args.theta.now c.args.self.now.proof.plain) ≡ None = sym (none-is c.in_ok-step.field-0 c.in_default.not-Some ∙ c.in_ok-step.ensures) in
    λ at goal v fits.
    subst (IsValid c.args.db.now at (applied c.args.theta.now goal)) (sym (c.in_ok-add_binding.ensures.ok ∙ ap (λ (t : Pairs). bound_in t c.args.self.now.proof) c.in_ok-theta.ensures))
    (valid-bound c.args.db.now at goal c.args.self.now.proof c.args.theta.now v fits short)
