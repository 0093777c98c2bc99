use Rattle.std.proofs.Common.{ap, sym, ◌∙◌, subst}
use Rattle.std.proofs.lemmas.Result.{err_from_is_err_and}
use Rattle.mm_tokens.specs.Pieces.{open_in}
use Rattle.mm_scope.specs.Contexts.{state_of, Fails}
use Rattle.mm_scope.proofs.Loops.{token_more, token_fails, token_open, comment_more, comment_open, open_stops, open_there, none_left}
use Rattle.mm_scope.proofs.reading.read_pieces.Goals as goal

pub loop-piece-preserved-in-Continue-1 : goal.loop-piece-preserved-in-Continue-1
loop-piece-preserved-in-Continue-1 c = (
  c.next.ensures.bytes ∙ c.loop-piece.invariant.0,
  sym (token_more c.args.bytes.now (state_of c.loop-piece.reader) c.loop-piece.scanner.left c.next.new.self.left c.in-Some.piece c.in-Some.ensures.some
      (state_of c.read_token.new.reader) c.in-Token.token c.in-Token.is c.in_ok-read_token-in-Token.ensures) ∙ c.loop-piece.invariant.1,
  sym (token_open c.args.bytes.now (state_of c.loop-piece.reader) c.loop-piece.scanner.left c.next.new.self.left c.in-Some.piece c.in-Some.ensures.some c.in-Token.token c.in-Token.is)
      ∙ c.loop-piece.invariant.2,
)

pub returns-in_err-read_token-in-Token : goal.returns-in_err-read_token-in-Token
returns-in_err-read_token-in-Token c =
    let p = err_from_is_err_and c.from_residual.result c.from_residual.ensures.1 in
    rw (p.1, p.2) (subst (Fails c.in_err-read_token-in-Token.field-0.0) c.loop-piece.invariant.1
    (token_fails c.args.bytes.now (state_of c.loop-piece.reader) c.loop-piece.scanner.left c.next.new.self.left c.in-Some.piece c.in-Some.ensures.some
    c.in_err-read_token-in-Token.field-0.0 c.in-Token.token c.in-Token.is c.in_err-read_token-in-Token.ensures))

pub loop-piece-preserved : goal.loop-piece-preserved
loop-piece-preserved c = (
  c.next.ensures.bytes ∙ c.loop-piece.invariant.0,
  sym (comment_more c.args.bytes.now (state_of c.loop-piece.reader) c.loop-piece.scanner.left c.next.new.self.left c.in-Some.piece c.in-Some.ensures.some c.in-Comment.span c.in-Comment.is)
      ∙ c.loop-piece.invariant.1,
  sym (comment_open c.args.bytes.now (state_of c.loop-piece.reader) c.loop-piece.scanner.left c.next.new.self.left c.in-Some.piece c.in-Some.ensures.some c.in-Comment.span c.in-Comment.is)
      ∙ c.loop-piece.invariant.2,
)

pub returns-in-Open : goal.returns-in-Open
returns-in-Open c = (
  sym c.loop-piece.invariant.1
      ∙ open_stops c.args.bytes.now (state_of c.loop-piece.reader) c.loop-piece.scanner.left c.next.new.self.left c.in-Some.piece c.in-Some.ensures.some c.in-Open.place c.in-Open.is,
  sym (open_there c.args.bytes.now (state_of c.loop-piece.reader) c.loop-piece.scanner.left c.next.new.self.left c.in-Some.piece c.in-Some.ensures.some c.in-Open.place c.in-Open.is)
      ∙ c.loop-piece.invariant.2,
)

pub returns : goal.returns
returns c = (
  sym c.loop-piece.invariant.1 ∙ none_left c.args.bytes.now (state_of c.loop-piece.reader) c.loop-piece.scanner.left c.in_default.ensures.none,
  sym (ap open_in c.in_default.ensures.none) ∙ c.loop-piece.invariant.2,
)
