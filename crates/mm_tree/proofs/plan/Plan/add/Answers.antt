use Rattle.std.proofs.Common.{List, [], ◌∷◌, ◌++◌, refl, ◌∙◌, ap}
use Rattle.mm_tree.specs.declared.plan.Note.{Note}
use Rattle.mm_tree.specs.declared.plan.Plan.{Plan}
use Rattle.mm_tree.proofs.PlanLemmas.{grove-more, kept-same, plan-more}
use Rattle.mm_tree.proofs.plan.Plan.add.Goals as goal

pub returns-clause-plan : goal.returns-clause-plan
returns-clause-plan c =
    let q : Plan = record { items = c.push.new.self; standing = c.push-2.new.self; made = c.push-3.new.self; total = c.args.total } in
    plan-more c.args.self.now q c.args.step c.args.stay c.args.total c.args.note c.in_ok-again.again c.requires.plan c.requires.stay c.requires.fits c.requires.note
    (kept-same c.in_ok-again.again c.args.note c.in_ok-again.ensures) c.requires.total c.requires.room c.requires.more c.in_ok-push.ensures.items
    (c.in_ok-push-2.ensures.items ∙ ap (λ (l : List Note). l ++ c.args.note ∷ []) c.truncate.ensures.items) c.in_ok-push-3.ensures.items refl

pub returns-clause-grove : goal.returns-clause-grove
returns-clause-grove c =
    let q : Plan = record { items = c.push.new.self; standing = c.push-2.new.self; made = c.push-3.new.self; total = c.args.total } in
    grove-more c.args.self.now q c.args.step c.args.stay c.requires.stay c.in_ok-push.ensures.items
