use Rattle.std.proofs.Common.{◌++◌, ap, sym, subst, ◌∙◌}
use Rattle.std.specs.List.{All}
use Rattle.mm_plain.specs.Binding.{HasWorkKeys}
use Rattle.mm_tree.specs.Lines.{Line}
use Rattle.mm_tree.proofs.Keying.{works-keyed}
use Rattle.mm_tree.proofs.line.Line.copy.Goals as goal

pub returns-clause-keys : goal.returns-clause-keys
returns-clause-keys c = subst (All HasWorkKeys)
    (sym (c.in_ok-append_copies-2.ensures ∙ ap (λ (l : Line). l ++ c.self.inside.drafts.now) (c.in_ok-append_copies.ensures ∙ ap (λ (l : Line). l ++ c.self.inside.settled.now) c.in_ok-copies.ensures.items)))
    (works-keyed c.self.inside.keyed.now (c.self.inside.settled.now ++ c.self.inside.drafts.now) c.self.invariant)
