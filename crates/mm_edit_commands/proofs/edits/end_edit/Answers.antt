use Rattle.std.proofs.Common.{ap, ◌∙◌}
use Rattle.mm_plain.specs.Shape.{Proof, size_of}
use Rattle.mm_plain.specs.Numbers.{labels_in, unknowns_among}
use Rattle.mm_edit_commands.proofs.EditLemmas.{counted_so}
use Rattle.mm_edit_commands.proofs.KeepLemmas.{kept_so, taken_back}
use Rattle.mm_edit_commands.proofs.edits.end_edit.Goals as goal

pub returns-in-Err : goal.returns-in-Err
returns-in-Err c =
    taken_back c.args.tree.now c.back.new.self c.args.history.now c.args.before c.requires.held c.requires.begun c.back.ensures.proof c.back.ensures.settled c.back.ensures.marks c.back.ensures.hand

pub returns-in-Ok : goal.returns-in-Ok
returns-in-Ok c =
    kept_so c.args.database.now c.args.before c.args.tree.now c.accept.new.tree c.args.history.now c.accept.new.self _
    (counted_so c.args.database.now c.args.tree.now.proof c.size.result c.unknown_steps.result c.in-Ok.pending
    (c.size.ensures ∙ ap (λ (x : Proof). size_of x.plain) c.accept.ensures.proof)
    (c.unknown_steps.ensures ∙ ap (λ (x : Proof). unknowns_among (labels_in x.plain)) c.accept.ensures.proof)
    c.in-Ok.ensures)
    c.accept.ensures.proof c.accept.ensures.past c.accept.ensures.future c.accept.ensures.depth c.accept.ensures.held c.accept.ensures.settled
