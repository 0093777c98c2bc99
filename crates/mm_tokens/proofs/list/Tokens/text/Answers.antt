use Rattle.std.proofs.Common.{◌-◌, arith}
use Rattle.mm_tokens.specs.Parts.{IsToken}
use Rattle.mm_tokens.proofs.Words.{token_stands}
use Rattle.mm_tokens.proofs.list.Tokens.text.Goals as goal
use Rattle.mm_tokens.proofs.list.Tokens.text.Goals.{After-token-token}

-- the token stands among the bytes
stands : (c : After-token-token) → IsToken c.args.bytes.now c.token-token.result.start c.token-token.result.end
stands c = token_stands c.args.bytes.now c.args.self.now (c.args.number - 1) c.token-token.result c.requires.read c.token-token.ensures

pub slice_bounds-result-count : goal.slice_bounds-result-count
slice_bounds-result-count c =
    let is = stands (goal.at.slice_bounds-result-count c).After-token-token in omega (arith, is.run.some)

pub slice_bounds-result-start : goal.slice_bounds-result-start
slice_bounds-result-start c =
    let is = stands (goal.at.slice_bounds-result-start c).After-token-token in search (arith, is.run.some, is.run.within)

pub slice_bounds-result-end : goal.slice_bounds-result-end
slice_bounds-result-end c =
    let is = stands (goal.at.slice_bounds-result-end c).After-token-token in search (arith, is.run.within)
