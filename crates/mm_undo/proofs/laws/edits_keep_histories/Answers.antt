use Rattle.std.proofs.Common.{sym, ap, ◌∙◌}
use Rattle.mm_undo.specs.Histories.{Place}
use Rattle.mm_undo.proofs.Orders.{stands}
use Rattle.mm_undo.proofs.Lasting.{keeps-edited, keeps-lasting, begins, held-kept, lists-kept, begun-kept, begun-marked}
use Rattle.mm_undo.proofs.laws.edits_keep_histories.Goals as goal

pub returns-clause-mark : goal.returns-clause-mark
returns-clause-mark c = begun-marked

pub returns-clause-edit : goal.returns-clause-edit
returns-clause-edit c v w h keeps alike holds = (held-kept v w h keeps (begins v w alike) holds, lists-kept v w h keeps holds)

pub returns-clause-begun : goal.returns-clause-begun
returns-clause-begun c v w m keeps alike b = (begun-kept v w m keeps (begins v w alike) b, (keeps m b.lasting.settled b.lasting.alive).same)

pub returns-clause-kept : goal.returns-clause-kept
returns-clause-kept c = keeps-edited

pub returns-clause-kept_back : goal.returns-clause-kept_back
returns-clause-kept_back c = keeps-lasting

pub returns-clause-back : goal.returns-clause-back
returns-clause-back c v w m b none at =
    let e = sym (stands w m none at) ∙ b.place in
    (ap (λ (p : Place). p.root) e, ap (λ (p : Place). p.bindings) e)
