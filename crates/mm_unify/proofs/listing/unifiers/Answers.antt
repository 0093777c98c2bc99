use Rattle.std.proofs.Common.{◌≡◌, ◌≢◌, All, Some, None, IfNone, sym, ◌∙◌, ap, subst, if◌then◌else◌}
use Rattle.mm_subst.specs.Substitutions.{applied, HasDistinctKeys}
use Rattle.mm_unify.specs.declared.listing.Ended.{Ended}
use Rattle.mm_unify.specs.declared.listing.Ended.TheVariants.{Trials}
use Rattle.mm_subst.specs.Brackets.{brackets_of}
use Rattle.mm_unify.specs.Forbidden.{forbidden, forbidden_by, heeded}
use Rattle.mm_unify.specs.Unifying.{IsComplete}
use Rattle.mm_unify.specs.Listings.{answer, HasKeys, HasBalanced}
use Rattle.mm_unify.proofs.Theorems.{answer_sound, answer_keys, answer_complete, answer_balanced, never_by_trials, answer_distinct}
use Rattle.mm_unify.proofs.listing.unifiers.Goals as goal

found_is : (c : goal.In_ok-found-2) → c.in_ok-found-2.found.items ≡ (answer (forbidden c.args.db.now c.args.rule) c.args.trials c.args.a.now c.args.b.now).found
found_is c = c.in_ok-found-2.ensures ∙ c.in_ok-found.ensures.found ∙ ap (λ o. (answer (forbidden_by o) c.args.trials c.args.a.now c.args.b.now).found) c.heeded.ensures

ended_is : (c : goal.In_ok-found-2) → c.in_ok-found.ended ≡ (answer (forbidden c.args.db.now c.args.rule) c.args.trials c.args.a.now c.args.b.now).ended
ended_is c = c.in_ok-found.ensures.ended ∙ ap (λ o. (answer (forbidden_by o) c.args.trials c.args.a.now c.args.b.now).ended) c.heeded.ensures

pub substitutions-requires : goal.substitutions-requires
substitutions-requires c =
    subst (All HasDistinctKeys) (sym c.in_ok-found.ensures.found) (answer_distinct (forbidden_by c.heeded.result) c.args.trials c.args.a.now c.args.b.now)

pub returns-clause-unlimited : goal.returns-clause-unlimited
returns-clause-unlimited c =
    subst (λ (e : Ended). IfNone c.args.trials (e ≢ Trials)) (sym (ended_is c)) (never_by_trials (forbidden c.args.db.now c.args.rule) c.args.trials c.args.a.now c.args.b.now c.requires.finite)

pub returns-clause-sound : goal.returns-clause-sound
returns-clause-sound c =
    subst (All (λ u. applied u c.args.a.now ≡ applied u c.args.b.now)) (sym (found_is c)) (answer_sound (forbidden c.args.db.now c.args.rule) c.args.trials c.args.a.now c.args.b.now)

pub returns-clause-keys : goal.returns-clause-keys
returns-clause-keys c =
    subst (All (HasKeys c.args.a.now c.args.b.now)) (sym (found_is c)) (answer_keys (forbidden c.args.db.now c.args.rule) c.args.trials c.args.a.now c.args.b.now)

pub returns-clause-complete : goal.returns-clause-complete
returns-clause-complete c off whole =
    subst (IsComplete c.args.a.now c.args.b.now) (sym (found_is c))
    (answer_complete (heeded c.args.db.now c.args.rule) c.args.trials c.args.a.now c.args.b.now (ap (λ b. if b then Some (brackets_of c.args.db.now) else None) off) (sym (ended_is c) ∙ whole))

pub returns-clause-balanced : goal.returns-clause-balanced
returns-clause-balanced c whole side =
    subst (HasBalanced (forbidden c.args.db.now c.args.rule) c.args.a.now c.args.b.now) (sym (found_is c))
    (answer_balanced (heeded c.args.db.now c.args.rule) c.args.trials c.args.a.now c.args.b.now (sym (ended_is c) ∙ whole) side)
