use Rattle.std.proofs.Common.{◌∙◌, ap}
use Rattle.mm_subst.proofs.Replaced.{applied-nil}
use Rattle.mm_unify.specs.Frames.{bound_path}
use Rattle.mm_unify.proofs.Opened.{fair_by}
use Rattle.mm_unify.proofs.Visiting.{ok_map, ok_both, come_now, short_now, early_now, visits_whole, visits_longer}
use Rattle.mm_unify.proofs.visit.step.Goals as goal

pub go_on-requires-clause-come : goal.go_on-requires-clause-come
go_on-requires-clause-come c = applied-nil _

pub go_on-requires-in-Whole-clause-come : goal.go_on-requires-in-Whole-clause-come
go_on-requires-in-Whole-clause-come c =
    come_now _ (fair_by c.args.pairs.now) c.args.pattern.now c.args.target.now c.requires.plain c.args.frame.now c.args.path.now c.requires.fits c.in-Whole.is c.args.path.now
    (c.requires.bound ∙ ap (λ k. bound_path k c.args.frame.now c.args.path.now) c.in-Whole.is)

pub go_on-requires-in-Whole-clause-short : goal.go_on-requires-in-Whole-clause-short
go_on-requires-in-Whole-clause-short c =
    short_now _ (fair_by c.args.pairs.now) c.args.pattern.now c.args.target.now c.requires.plain c.args.frame.now c.args.path.now c.requires.fits c.in-Whole.is c.args.path.now
    (c.requires.bound ∙ ap (λ k. bound_path k c.args.frame.now c.args.path.now) c.in-Whole.is) c.requires.short

pub go_on-requires-in-Whole-clause-early : goal.go_on-requires-in-Whole-clause-early
go_on-requires-in-Whole-clause-early c =
    early_now _ (fair_by c.args.pairs.now) c.args.pattern.now c.args.target.now c.requires.plain c.args.frame.now c.args.path.now c.requires.fits c.in-Whole.is c.args.path.now
    (c.requires.bound ∙ ap (λ k. bound_path k c.args.frame.now c.args.path.now) c.in-Whole.is)

pub returns-in-Whole : goal.returns-in-Whole
returns-in-Whole c =
    ok_both c.go_on-in-Whole.result _ _ _ (λ _ h k.
    visits_whole _ (fair_by c.args.pairs.now) c.args.pattern.now c.args.target.now c.requires.plain c.args.frame.now c.args.path.now c.requires.fits c.in-Whole.is c.args.path.now
    (c.requires.bound ∙ ap (λ k. bound_path k c.args.frame.now c.args.path.now) c.in-Whole.is) _ _ _ _ c.requires.depth h k) c.go_on-in-Whole.ensures.adds c.go_on-in-Whole.ensures.found

pub returns-in-Longer : goal.returns-in-Longer
returns-in-Longer c =
    ok_map c.grow.result _ _ (λ _ h.
    visits_longer _ (fair_by c.args.pairs.now) c.args.pattern.now c.args.target.now c.requires.plain c.args.frame.now c.args.path.now c.requires.fits c.in-Longer.is c.args.path.now _ _ _ c.requires.depth
    (c.requires.bound ∙ ap (λ k. bound_path k c.args.frame.now c.args.path.now) c.in-Longer.is) h) c.grow.ensures
