use Rattle.std.proofs.Common.{◌∙◌, ap, List, ℕ, ◌++◌}
use Rattle.mm_lines.specs.Lines.{kept}
use Rattle.mm_lines.specs.Parts.{held, line_of}
use Rattle.mm_lines.proofs.PieceLemmas.{held_kept}
use Rattle.mm_lines.proofs.cut.give.Goals as goal

pub returns-clause-line : goal.returns-clause-line
returns-clause-line c =
    c.add.ensures
    ∙ (ap (λ (xs : List ℕ). held (xs ++ c.cut.result.now)) c.clear.ensures
    ∙ (ap held (c.cut.ensures ∙ ap (λ (xs : List ℕ). kept (line_of c.args.has_lf xs)) c.bytes.ensures)
    ∙ held_kept (line_of c.args.has_lf c.args.begun.now)))
