use Rattle.std.proofs.Common.{◌++◌, take, true, ap, ◌∙◌}
use Rattle.mm_tree.specs.Lines.{Line}
use Rattle.mm_tree.specs.Trees.{State}
use Rattle.mm_tree.specs.Versions.{line_of}
use Rattle.mm_tree.proofs.tree.Tree.line.Goals as goal

pub returns : goal.returns
returns c = ap (λ (l : Line). take c.self.inside.begun_length l ++ c.as_slice.result.now) c.deref.ensures.value
    ∙ ap (λ (l : Line). take c.self.inside.begun_length c.self.inside.trail.items ++ l) c.as_slice.ensures.value
    ∙ ap (λ (s : State). line_of s.versions true) c.self.view_is
