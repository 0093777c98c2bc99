use Rattle.std.proofs.Common.{sym, ap, ◌∙◌}
use Rattle.mm_command.specs.Words.{cut, pieces_of, cut_and_more}
use Rattle.mm_command.proofs.Cutting.{pieces_next}
use Rattle.mm_command.proofs.words.Words.next.Goals as goal

pub returns-in_default-clause-end : goal.returns-in_default-clause-end
returns-in_default-clause-end c =
    pieces_next c.args.self.rest.now
    ∙ ap (cut_and_more pieces_of) (ap cut (sym c.skip_blanks.ensures) ∙ c.in_default.ensures.none)

pub returns-clause-word : goal.returns-clause-word
returns-clause-word c =
    pieces_next c.args.self.rest.now
    ∙ ap (cut_and_more pieces_of) (ap cut (sym c.skip_blanks.ensures) ∙ c.in-Some.ensures.some)
