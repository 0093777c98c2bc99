use Rattle.mm_session.proofs.ComingLemmas.{word_next, line_next}
use Rattle.mm_session.proofs.commands.Commands.next.Goals as goal

pub returns-then-self-clause-next : goal.returns-then-self-clause-next
returns-then-self-clause-next g c = word_next g.S.Source c.args.self.now c.args.input.now c.if-self.true

pub returns-clause-next : goal.returns-clause-next
returns-clause-next g c =
    line_next g.S.Source c.args.self.now c.args.input.now c.next_line.new.self c.next_line.new.source c.if-self.false c.next_line.result
    c.next_line.ensures.reads c.next_line.ensures.over c.next_line.ensures.silent c.next_line.ensures.most c.next_line.ensures.few
