use Rattle.std.proofs.Common.{◌∙◌, ap, ℕ, List, take}
use Rattle.mm_lines.specs.Lines.{kept}
use Rattle.mm_lines.proofs.PieceLemmas.{take_min}
use Rattle.mm_lines.proofs.cut.cut.Goals as goal

pub returns : goal.returns
returns c = c.split_at.ensures.front ∙ (ap (λ (k : ℕ). take k c.line_of-line.result.now) c.min.ensures ∙ (take_min 65537 c.line_of-line.result.now ∙ ap (λ (t : List ℕ). kept t) c.line_of-line.ensures))
