use Rattle.mm_tokens.proofs.Places.{rest_slice, no_closing, no_closing_after}
use Rattle.mm_tokens.proofs.runs.next_dollar.Goals as goal

pub returns-in_err-skip-clause-none : goal.returns-in_err-skip-clause-none
returns-in_err-skip-clause-none c =
    let found = rw rest_slice at c.in_err-skip.ensures in
    rw c.from_residual.ensures (no_closing_after c.args.bytes.now c.args.from found)

pub returns-clause-before : goal.returns-clause-before
returns-clause-before c =
    let found = rw rest_slice at c.in_ok-skip.ensures in
    no_closing c.args.bytes.now c.args.from c.in_ok-skip.skip found.0.before
