use Rattle.std.proofs.Common.{ap, ◌∙◌, List, ℕ}
use Rattle.mm_scope.specs.Contents.{labels_of}
use Rattle.mm_trace.specs.Patterns.{matches}
use Rattle.mm_minimize.proofs.BaseLemmas.{label_got}
use Rattle.mm_minimize.proofs.bases.is_named.Goals as goal

pub returns : goal.returns
returns c = c.matches.ensures ∙ ap (λ (l : List ℕ). matches c.args.pattern.now l) (label_got (labels_of c.args.db.now) c.args.id.0 c.label.result.now c.label.ensures)
