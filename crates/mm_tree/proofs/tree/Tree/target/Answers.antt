use Rattle.std.proofs.Common.{◌≡◌, List, true, IfOk, ap, subst, ◌∙◌, arith}
use Rattle.mm_plain.specs.declared.plain.Plain.{Plain}
use Rattle.mm_plain.specs.Shape.{size_of, step_at, target_of}
use Rattle.mm_subst.specs.declared.symbol.WSym.{WSym}
use Rattle.mm_tree.specs.Lines.{Line}
use Rattle.mm_tree.specs.Meanings.{mean}
use Rattle.mm_tree.specs.Versions.{line_of}
use Rattle.mm_tree.proofs.Shapes.{size_of-mean}
use Rattle.mm_tree.proofs.tree.Tree.target.Goals as goal

pub at-requires : goal.at-requires
at-requires c = (omega (arith, c.from.ensures, c.requires.0), omega (arith, c.from.ensures, c.requires.1, size_of-mean (line_of c.args.self.now.versions true) c.hand.result.now, ap size_of c.hand.ensures.plain))

pub returns : goal.returns
returns c = subst (λ (s : List WSym). IfOk c.target.result (λ t. t ≡ s))
    (ap (λ (l : Line). target_of (mean c.at.result.now l)) c.line.ensures ∙ ap target_of (c.at.ensures.same (line_of c.args.self.now.versions true) ∙ (ap (λ (x : Plain). step_at x c.from.result) c.hand.ensures.plain ∙ ap (step_at c.args.self.now.proof.plain) c.from.ensures))) c.target.ensures
