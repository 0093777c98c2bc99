use Rattle.std.proofs.Common.{sym, ◌∙◌, ap, inl}
use Rattle.mm_unify.specs.Forbidden.{forbidden_by}
use Rattle.mm_unify.specs.Listings.{answer}
use Rattle.mm_unify.proofs.Mirror.{answer-mirror}
use Rattle.mm_unify.proofs.Visiting.{ok_map}
use Rattle.mm_unify.proofs.search.search.Goals as goal

pub returns-then-not-has_work-2-clause-found : goal.returns-then-not-has_work-2-clause-found
returns-then-not-has_work-2-clause-found c =
    let f = forbidden_by c.args.pairs in
    ok_map c.search_parts-then-not-has_work-2.result _ _ (λ t h.
    h
    ∙ ap (λ s. (answer f c.args.trials s c.symbols-then-not-has_work-2-2.result.now).found) c.symbols-then-not-has_work-2.ensures
    ∙ ap (λ s. (answer f c.args.trials c.args.b.now s).found) c.symbols-then-not-has_work-2-2.ensures
    ∙ ap (λ r. r.found) (answer-mirror f c.args.trials c.args.a.now c.args.b.now (inl (sym c.if-not-has_work-2.ensures)))) c.search_parts-then-not-has_work-2.ensures.found

pub returns-then-not-has_work-2-clause-ended : goal.returns-then-not-has_work-2-clause-ended
returns-then-not-has_work-2-clause-ended c =
    let f = forbidden_by c.args.pairs in
    ok_map c.search_parts-then-not-has_work-2.result _ _ (λ t h.
    h
    ∙ ap (λ s. (answer f c.args.trials s c.symbols-then-not-has_work-2-2.result.now).ended) c.symbols-then-not-has_work-2.ensures
    ∙ ap (λ s. (answer f c.args.trials c.args.b.now s).ended) c.symbols-then-not-has_work-2-2.ensures
    ∙ ap (λ r. r.ended) (answer-mirror f c.args.trials c.args.a.now c.args.b.now (inl (sym c.if-not-has_work-2.ensures)))) c.search_parts-then-not-has_work-2.ensures.ended
