use Rattle.mm_edit_commands.proofs.ValueLemmas.{parsed_bad, parsed_long, parsed_ok}
use Rattle.mm_edit_commands.proofs.let_text.value_of.Goals as goal

pub returns-in-Ok : goal.returns-in-Ok
returns-in-Ok c = parsed_ok c.args.database.now c.args.theorem.0 c.next_work.result c.args.tree.now.proof c.args.text.now c.in-Ok.value c.next_work.ensures c.in-Ok.ensures

pub returns-in-Err-BadSymbol : goal.returns-in-Err-BadSymbol
returns-in-Err-BadSymbol c =
    parsed_bad c.args.database.now c.args.theorem.0 c.next_work.result c.args.tree.now.proof c.args.text.now c.in-Err-BadSymbol.word c.next_work.ensures (rw c.in-Err-BadSymbol.field-0-is at c.in-Err-BadSymbol.ensures)

pub returns-in-Err-TooLong : goal.returns-in-Err-TooLong
returns-in-Err-TooLong c =
    parsed_long c.args.database.now c.args.theorem.0 c.next_work.result c.args.tree.now.proof c.args.text.now c.next_work.ensures (rw c.in-Err-TooLong.field-0-is at c.in-Err-TooLong.ensures)
