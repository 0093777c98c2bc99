use Rattle.std.proofs.Common.{map, length, ap, ◌∙◌, arith}
use Rattle.mm_tree.specs.Versions.{named}
use Rattle.mm_undo.proofs.Lasting.{IsMadeLasting, made-lasting, newest-proofs}
use Rattle.mm_undo.proofs.history.History.accept.Goals as goal

made : (c : goal.After-settle) → IsMadeLasting c.args.tree.now.versions c.settle.new.self.versions c.keep.new.self
made c = made-lasting c.args.tree.now.versions c.settle.new.self.versions c.keep.new.self c.keep.ensures.future (c.keep.ensures.held c.args.tree.now.versions c.requires.held c.requires.begun) c.settle.ensures.marks
    (omega (arith, c.settle.ensures.hand.0, ap length c.settle.ensures.settled.no_roots), omega (arith, c.settle.ensures.hand.1, ap length c.settle.ensures.settled.no_bindings))

pub returns-clause-past : goal.returns-clause-past
returns-clause-past c = (made c).same ∙ ap (map (named c.args.tree.now.versions)) c.keep.ensures.past ∙ newest-proofs c.args.tree.now.versions c.args.self.now.past c.args.m c.args.self.now.depth

pub returns-clause-held : goal.returns-clause-held
returns-clause-held c = (made c).held
