use Rattle.std.proofs.Common.{◌∙◌}
use Rattle.mm_edit_commands.proofs.ValueLemmas.{white_alone}
use Rattle.mm_edit_commands.proofs.let_text.is_empty.Goals as goal

pub returns : goal.returns
returns c = c.is_white_alone.ensures ∙ white_alone c.args.text.now
