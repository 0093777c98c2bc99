use Rattle.std.proofs.Common.{rules, List, [], ◌∷◌, ◌++◌, refl, sym, ◌∙◌, ap, subst, inr}
use Rattle.mm_unify.specs.declared.bound.Bound.{Bound}
use Rattle.mm_unify.specs.Forbidden.{forbidden_by}
use Rattle.mm_unify.specs.Search.{is_too_long}
use Rattle.mm_unify.specs.Frames.{Fits, Visits, node_at}
use Rattle.mm_unify.proofs.Weight.{plain_from_test}
use Rattle.mm_unify.proofs.Searching.{begins, none_any, top_fits, long_top, ends_spent, ends_long, ends_whole, goes_on, gets_less, bound_keeps, to_within}
use Rattle.mm_unify.proofs.search.search_parts.Goals as goal

pub loop-frame-init : goal.loop-frame-init
loop-frame-init c =
    begins c.args.pairs.now c.args.pattern.now c.args.target.now c.args.trials _ _ _ _ (none_any c.args.trials _ (inr c.requires)) refl c.new-path.ensures.items
    (c.in_ok-push.ensures.items ∙ ap (λ s. s ++ c.first_frame.result ∷ []) c.new-frames.ensures.items ∙ ap (λ f. f ∷ []) c.first_frame.ensures) c.new-found.ensures.items

pub bind-requires-clause-depth : goal.bind-requires-clause-depth
bind-requires-clause-depth c = (top_fits _ _ c.args.pattern.now c.args.target.now c.loop-frame.path.items c.loop-frame.frames.items c.pop.new.self.items c.in-Some.frame c.loop-frame.found.items c.loop-frame.left c.in-Some.ensures.items c.loop-frame.invariant).0

pub bind-requires-clause-to : goal.bind-requires-clause-to
bind-requires-clause-to c = to_within _ c.args.pattern.now c.args.target.now _ c.in-Some.frame (top_fits _ _ c.args.pattern.now c.args.target.now c.loop-frame.path.items c.loop-frame.frames.items c.pop.new.self.items c.in-Some.frame c.loop-frame.found.items c.loop-frame.left c.in-Some.ensures.items c.loop-frame.invariant).1

pub step-requires-clause-plain : goal.step-requires-clause-plain
step-requires-clause-plain c = plain_from_test c.args.target.now c.requires

pub step-requires-clause-depth : goal.step-requires-clause-depth
step-requires-clause-depth c = (bound_keeps c.in-Some.frame c.loop-frame.path.items c.as_slice-in-Some.result.now (top_fits _ _ c.args.pattern.now c.args.target.now c.loop-frame.path.items c.loop-frame.frames.items c.pop.new.self.items c.in-Some.frame c.loop-frame.found.items c.loop-frame.left c.in-Some.ensures.items c.loop-frame.invariant).0 (c.as_slice-in-Some.ensures.value ∙ c.in_ok-bind.ensures)).1

pub step-requires-clause-bound : goal.step-requires-clause-bound
step-requires-clause-bound c = (bound_keeps c.in-Some.frame c.loop-frame.path.items c.as_slice-in-Some.result.now (top_fits _ _ c.args.pattern.now c.args.target.now c.loop-frame.path.items c.loop-frame.frames.items c.pop.new.self.items c.in-Some.frame c.loop-frame.found.items c.loop-frame.left c.in-Some.ensures.items c.loop-frame.invariant).0 (c.as_slice-in-Some.ensures.value ∙ c.in_ok-bind.ensures)).2

pub step-requires-clause-fits : goal.step-requires-clause-fits
step-requires-clause-fits c =
    subst (λ (q : List Bound). Fits (forbidden_by c.args.pairs.now) c.args.pattern.now c.args.target.now q c.in-Some.frame) (sym (bound_keeps c.in-Some.frame c.loop-frame.path.items c.as_slice-in-Some.result.now (top_fits _ _ c.args.pattern.now c.args.target.now c.loop-frame.path.items c.loop-frame.frames.items c.pop.new.self.items c.in-Some.frame c.loop-frame.found.items c.loop-frame.left c.in-Some.ensures.items c.loop-frame.invariant).0 (c.as_slice-in-Some.ensures.value ∙ c.in_ok-bind.ensures)).0) (top_fits _ _ c.args.pattern.now c.args.target.now c.loop-frame.path.items c.loop-frame.frames.items c.pop.new.self.items c.in-Some.frame c.loop-frame.found.items c.loop-frame.left c.in-Some.ensures.items c.loop-frame.invariant).1

pub step-requires-clause-short : goal.step-requires-clause-short
step-requires-clause-short c =
    ap (λ (q : List Bound). is_too_long (node_at c.args.pattern.now c.args.target.now q c.in-Some.frame)) (bound_keeps c.in-Some.frame c.loop-frame.path.items c.as_slice-in-Some.result.now (top_fits _ _ c.args.pattern.now c.args.target.now c.loop-frame.path.items c.loop-frame.frames.items c.pop.new.self.items c.in-Some.frame c.loop-frame.found.items c.loop-frame.left c.in-Some.ensures.items c.loop-frame.invariant).0 (c.as_slice-in-Some.ensures.value ∙ c.in_ok-bind.ensures)).0
    ∙ long_top _ _ c.args.pattern.now c.args.target.now c.loop-frame.path.items c.loop-frame.frames.items c.pop.new.self.items c.in-Some.frame c.loop-frame.found.items c.loop-frame.left c.in-Some.ensures.items c.loop-frame.invariant (plain_from_test c.args.target.now c.requires) ∙ sym c.if-is_too_long.ensures

pub loop-frame-preserved : goal.loop-frame-preserved
loop-frame-preserved c =
    rw c.fewer-left.ensures
    (goes_on _ _ c.args.pattern.now c.args.target.now c.loop-frame.path.items c.loop-frame.frames.items c.pop.new.self.items c.in-Some.frame c.loop-frame.found.items c.loop-frame.left c.in-Some.ensures.items c.loop-frame.invariant c.bind.new.path.items c.step.new.frames.items c.step.new.found.items (bound_keeps c.in-Some.frame c.loop-frame.path.items c.bind.new.path.items (top_fits _ _ c.args.pattern.now c.args.target.now c.loop-frame.path.items c.loop-frame.frames.items c.pop.new.self.items c.in-Some.frame c.loop-frame.found.items c.loop-frame.left c.in-Some.ensures.items c.loop-frame.invariant).0 c.in_ok-bind.ensures).0
    (subst (λ (q : List Bound). Visits (forbidden_by c.args.pairs.now) c.args.pattern.now c.args.target.now c.in-Some.frame q q c.pop.new.self.items c.step.new.frames.items c.loop-frame.found.items c.step.new.found.items) c.as_slice-in-Some.ensures.value c.in_ok-step.ensures)
    (sym c.if-is_spent.ensures) (long_top _ _ c.args.pattern.now c.args.target.now c.loop-frame.path.items c.loop-frame.frames.items c.pop.new.self.items c.in-Some.frame c.loop-frame.found.items c.loop-frame.left c.in-Some.ensures.items c.loop-frame.invariant (plain_from_test c.args.target.now c.requires) ∙ sym c.if-is_too_long.ensures))

pub loop-frame-smaller : goal.loop-frame-smaller
loop-frame-smaller c =
    rw c.fewer-left.ensures
    (gets_less _ _ c.args.pattern.now c.args.target.now c.loop-frame.path.items c.loop-frame.frames.items c.pop.new.self.items c.in-Some.frame c.loop-frame.found.items c.loop-frame.left c.in-Some.ensures.items c.loop-frame.invariant c.bind.new.path.items c.step.new.frames.items c.step.new.found.items (bound_keeps c.in-Some.frame c.loop-frame.path.items c.bind.new.path.items (top_fits _ _ c.args.pattern.now c.args.target.now c.loop-frame.path.items c.loop-frame.frames.items c.pop.new.self.items c.in-Some.frame c.loop-frame.found.items c.loop-frame.left c.in-Some.ensures.items c.loop-frame.invariant).0 c.in_ok-bind.ensures).0
    (subst (λ (q : List Bound). Visits (forbidden_by c.args.pairs.now) c.args.pattern.now c.args.target.now c.in-Some.frame q q c.pop.new.self.items c.step.new.frames.items c.loop-frame.found.items c.step.new.found.items) c.as_slice-in-Some.ensures.value c.in_ok-step.ensures)
    (sym c.if-is_spent.ensures))

pub returns-then-is_spent-clause-found : goal.returns-then-is_spent-clause-found
returns-then-is_spent-clause-found c = (ends_spent _ _ c.args.pattern.now c.args.target.now c.loop-frame.path.items c.loop-frame.frames.items c.pop.new.self.items c.in-Some.frame c.loop-frame.found.items c.loop-frame.left c.in-Some.ensures.items c.loop-frame.invariant (sym c.if-is_spent.ensures)).0

pub returns-then-is_spent-clause-ended : goal.returns-then-is_spent-clause-ended
returns-then-is_spent-clause-ended c = (ends_spent _ _ c.args.pattern.now c.args.target.now c.loop-frame.path.items c.loop-frame.frames.items c.pop.new.self.items c.in-Some.frame c.loop-frame.found.items c.loop-frame.left c.in-Some.ensures.items c.loop-frame.invariant (sym c.if-is_spent.ensures)).1

pub returns-then-is_too_long-clause-found : goal.returns-then-is_too_long-clause-found
returns-then-is_too_long-clause-found c = (ends_long _ _ c.args.pattern.now c.args.target.now c.loop-frame.path.items c.loop-frame.frames.items c.pop.new.self.items c.in-Some.frame c.loop-frame.found.items c.loop-frame.left c.in-Some.ensures.items c.loop-frame.invariant (sym c.if-is_spent.ensures) (long_top _ _ c.args.pattern.now c.args.target.now c.loop-frame.path.items c.loop-frame.frames.items c.pop.new.self.items c.in-Some.frame c.loop-frame.found.items c.loop-frame.left c.in-Some.ensures.items c.loop-frame.invariant (plain_from_test c.args.target.now c.requires) ∙ sym c.if-is_too_long.ensures)).0

pub returns-then-is_too_long-clause-ended : goal.returns-then-is_too_long-clause-ended
returns-then-is_too_long-clause-ended c = (ends_long _ _ c.args.pattern.now c.args.target.now c.loop-frame.path.items c.loop-frame.frames.items c.pop.new.self.items c.in-Some.frame c.loop-frame.found.items c.loop-frame.left c.in-Some.ensures.items c.loop-frame.invariant (sym c.if-is_spent.ensures) (long_top _ _ c.args.pattern.now c.args.target.now c.loop-frame.path.items c.loop-frame.frames.items c.pop.new.self.items c.in-Some.frame c.loop-frame.found.items c.loop-frame.left c.in-Some.ensures.items c.loop-frame.invariant (plain_from_test c.args.target.now c.requires) ∙ sym c.if-is_too_long.ensures)).1

pub returns-clause-found : goal.returns-clause-found
returns-clause-found c = (ends_whole _ _ c.args.pattern.now c.args.target.now c.loop-frame.path.items c.loop-frame.frames.items c.loop-frame.found.items c.loop-frame.left (search rules) c.loop-frame.invariant).0

pub returns-clause-ended : goal.returns-clause-ended
returns-clause-ended c = (ends_whole _ _ c.args.pattern.now c.args.target.now c.loop-frame.path.items c.loop-frame.frames.items c.loop-frame.found.items c.loop-frame.left (search rules) c.loop-frame.invariant).1
