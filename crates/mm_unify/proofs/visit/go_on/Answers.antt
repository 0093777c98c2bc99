use Rattle.std.proofs.Common.{◌++◌, ◌∷◌, [], cond, sym, ◌∙◌, ap}
use Rattle.std.specs.List.{list_any}
use Rattle.mm_unify.specs.Forbidden.{forbidden_by}
use Rattle.mm_unify.specs.Search.{visit}
use Rattle.mm_unify.specs.Frames.{node_of}
use Rattle.mm_unify.specs.Unifying.{restricted}
use Rattle.mm_unify.specs.Parts.{parts_of}
use Rattle.mm_unify.proofs.Opened.{fair_by}
use Rattle.mm_unify.proofs.Growing.{no_found}
use Rattle.mm_unify.proofs.Advancing.{visit_stuck, visit_before_end, visit_at_end}
use Rattle.mm_unify.proofs.Visiting.{ok_map, ok_any, adds_same, no_adds, none_more, may_grow, fresh_visit}
use Rattle.mm_unify.proofs.visit.go_on.Goals as goal

pub returns-then-to-target-clause-adds : goal.returns-then-to-target-clause-adds
returns-then-to-target-clause-adds c =
    no_adds _ _ _ _ _ _ (ap (λ v. v.children) (visit_before_end _ c.args.pattern.now c.args.target.now c.args.path.now _ c.in-AtEnd.to c.in-AtEnd.ensures c.if-to-target.true))

pub returns-then-to-target-clause-found : goal.returns-then-to-target-clause-found
returns-then-to-target-clause-found c =
    none_more _ (visit (forbidden_by c.args.pairs.now) (node_of c.args.pattern.now c.args.target.now (parts_of c.args.target.now c.args.path.now) c.args.from.1)) (ap (λ v. v.found) (visit_before_end _ c.args.pattern.now c.args.target.now c.args.path.now _ c.in-AtEnd.to c.in-AtEnd.ensures c.if-to-target.true))

pub grow-requires-clause-grow : goal.grow-requires-clause-grow
grow-requires-clause-grow c =
    may_grow c.args.pattern.now c.args.target.now c.args.path.now _ c.in-AtOpen.place c.in-AtOpen.ensures _ _ _ c.requires.within c.requires.short c.requires.total c.requires.early

pub returns-else-to-target-clause-adds : goal.returns-else-to-target-clause-adds
returns-else-to-target-clause-adds c =
    ok_any c.list.result _ (λ _. no_adds _ _ _ _ _ _ (ap (λ v. v.children) (visit_at_end _ c.args.pattern.now c.args.target.now c.args.path.now _ c.in-AtEnd.to c.in-AtEnd.ensures c.if-to-target.false)))

pub returns-else-to-target-clause-found : goal.returns-else-to-target-clause-found
returns-else-to-target-clause-found c =
    let theta = parts_of c.args.target.now c.args.path.now in
    let rule = forbidden_by c.args.pairs.now in
    ok_map c.list.result _ _ (λ _ h.
    h
    ∙ ap (λ ks. c.args.found.now.items ++ cond (list_any (λ q. rule.at_end q.1) (restricted theta ks)) [] (restricted theta ks ∷ [])) c.requires.keys
    ∙ ap (λ v. c.args.found.now.items ++ v.found) (sym (visit_at_end rule c.args.pattern.now c.args.target.now c.args.path.now c.args.from.1 c.in-AtEnd.to c.in-AtEnd.ensures c.if-to-target.false))) c.list.ensures

pub returns-in-AtOpen-clause-adds : goal.returns-in-AtOpen-clause-adds
returns-in-AtOpen-clause-adds c =
    ok_map c.grow.result _ _ (λ _ h. adds_same _ _ _ _ _ _ _ _ (sym (fresh_visit c.args.pattern.now c.args.target.now c.args.path.now _ c.in-AtOpen.place c.in-AtOpen.ensures _ c.requires.plain)) h) c.grow.ensures

pub returns-in-AtOpen-clause-found : goal.returns-in-AtOpen-clause-found
returns-in-AtOpen-clause-found c =
    let rule = forbidden_by c.args.pairs.now in
    let grown = may_grow c.args.pattern.now c.args.target.now c.args.path.now _ c.in-AtOpen.place c.in-AtOpen.ensures rule c.args.frame.now.total c.args.frame.now.early c.requires.within c.requires.short c.requires.total c.requires.early in
    let e = fresh_visit c.args.pattern.now c.args.target.now c.args.path.now c.args.from.1 c.in-AtOpen.place c.in-AtOpen.ensures rule c.requires.plain in
    ok_any c.grow.result _ (λ _. none_more _ (visit (forbidden_by c.args.pairs.now) (node_of c.args.pattern.now c.args.target.now (parts_of c.args.target.now c.args.path.now) c.args.from.1)) (ap (λ v. v.found) e ∙ no_found rule (fair_by c.args.pairs.now) c.args.pattern.now c.args.target.now c.args.path.now c.in-AtOpen.place c.requires.plain c.args.frame.now.total c.args.frame.now.early grown))

pub returns-in-Stuck-clause-adds : goal.returns-in-Stuck-clause-adds
returns-in-Stuck-clause-adds c = no_adds _ _ _ _ _ _ (ap (λ v. v.children) (visit_stuck _ c.args.pattern.now c.args.target.now c.args.path.now _ c.requires.plain c.in-Stuck.ensures))

pub returns-in-Stuck-clause-found : goal.returns-in-Stuck-clause-found
returns-in-Stuck-clause-found c = none_more _ (visit (forbidden_by c.args.pairs.now) (node_of c.args.pattern.now c.args.target.now (parts_of c.args.target.now c.args.path.now) c.args.from.1)) (ap (λ v. v.found) (visit_stuck _ c.args.pattern.now c.args.target.now c.args.path.now _ c.requires.plain c.in-Stuck.ensures))
