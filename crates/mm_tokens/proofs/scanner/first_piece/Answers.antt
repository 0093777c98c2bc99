use Rattle.std.proofs.Common.{◌∙◌, sym, arith}
use Rattle.mm_tokens.proofs.Places.{RunAt, first_run}
use Rattle.mm_tokens.proofs.Cuts.{pieces_skip, pieces_end, token_piece, open_piece, comment_piece}
use Rattle.mm_tokens.proofs.scanner.first_piece.Goals as goal
use Rattle.mm_tokens.proofs.scanner.first_piece.Goals.{After-run_end-end}

-- what `run_end` says of the run at the first token byte
run_of : (c : After-run_end-end) → RunAt c.args.bytes.now c.first_graphic-first.result c.run_end-end.result
run_of c = first_run c.args.bytes.now c.args.at c.first_graphic-first.result c.run_end-end.result
    c.requires.boundary c.first_graphic-first.ensures.low c.first_graphic-first.ensures.none
    (c.first_graphic-first.ensures.graphic (omega arith)) c.run_end-end.ensures.low c.run_end-end.ensures.within
    (sym c.run_end-end.ensures.end) c.run_end-end.ensures.graphic c.run_end-end.ensures.stops

pub returns-then-first-bytes-clause-none : goal.returns-then-first-bytes-clause-none
returns-then-first-bytes-clause-none c =
    pieces_skip c.args.bytes.now c.args.at c.first_graphic-first.result c.first_graphic-first.ensures.low c.first_graphic-first.ensures.within c.first_graphic-first.ensures.none
    ∙ pieces_end c.args.bytes.now c.first_graphic-first.result (omega arith)

pub returns-then-not-opens-clause-some : goal.returns-then-not-opens-clause-some
returns-then-not-opens-clause-some c =
    pieces_skip c.args.bytes.now c.args.at c.first_graphic-first.result c.first_graphic-first.ensures.low c.first_graphic-first.ensures.within c.first_graphic-first.ensures.none
    ∙ token_piece c.args.bytes.now c.first_graphic-first.result c.run_end-end.result (run_of (goal.at.returns-then-not-opens-clause-some c).After-run_end-end)
    (sym c.opens.ensures ∙ c.if-not-opens.true)

pub returns-in_default-clause-some : goal.returns-in_default-clause-some
returns-in_default-clause-some c =
    pieces_skip c.args.bytes.now c.args.at c.first_graphic-first.result c.first_graphic-first.ensures.low c.first_graphic-first.ensures.within c.first_graphic-first.ensures.none
    ∙ open_piece c.args.bytes.now c.first_graphic-first.result c.run_end-end.result (run_of (goal.at.returns-in_default-clause-some c).After-run_end-end)
    (sym c.opens.ensures ∙ c.if-not-opens.false) c.in_default.ensures.none

pub returns-clause-some : goal.returns-clause-some
returns-clause-some c =
    pieces_skip c.args.bytes.now c.args.at c.first_graphic-first.result c.first_graphic-first.ensures.low c.first_graphic-first.ensures.within c.first_graphic-first.ensures.none
    ∙ comment_piece c.args.bytes.now c.first_graphic-first.result c.run_end-end.result c.in-Some.close (run_of (goal.at.returns-clause-some c).After-run_end-end)
    (sym c.opens.ensures ∙ c.if-not-opens.false) c.in-Some.ensures.low c.in-Some.ensures.before c.in-Some.ensures.some
