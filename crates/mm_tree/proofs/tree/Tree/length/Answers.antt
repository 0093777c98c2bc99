use Rattle.std.proofs.Common.{◌≡◌, ◌+◌, length, true, ap, sym, ◌∙◌, arith}
use Rattle.mm_tree.specs.Trees.{State, versions_of}
use Rattle.mm_tree.specs.Versions.{hand_length, line_of}
use Rattle.mm_tree.proofs.Keeping.{length-line}
use Rattle.mm_tree.proofs.tree.Tree.length.Goals as goal

pub returns-clause-hand : goal.returns-clause-hand
returns-clause-hand c =
    let z : c.self.inside.begun_length + c.len.result ≡ c.self.inside.begun_length + length c.self.inside.draft_bindings.items = omega (arith, c.len.ensures, c.self.inside.draft_bindings.ok.0) in
    z ∙ ap (λ (s : State). hand_length s.versions) c.self.view_is

pub returns-clause-line : goal.returns-clause-line
returns-clause-line c =
    let z : c.self.inside.begun_length + length c.self.inside.draft_bindings.items ≡ c.self.inside.begun_length + c.len.result = omega (arith, c.len.ensures, c.self.inside.draft_bindings.ok.0) in
    sym (ap (λ (s : State). length (line_of s.versions true)) c.self.view_is) ∙ length-line (versions_of c.self.inside) c.self.inside.next c.self.invariant.whole ∙ z
