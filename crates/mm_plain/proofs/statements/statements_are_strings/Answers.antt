use Rattle.mm_plain.specs.Valid.{first_setting}
use Rattle.mm_plain.proofs.Forms.{string_of_statement}
use Rattle.mm_plain.proofs.statements.statements_are_strings.Goals as goal

pub returns : goal.returns
returns c = λ at id. string_of_statement (first_setting c.args.bytes.now at) id
