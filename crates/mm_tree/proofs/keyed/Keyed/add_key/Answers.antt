use Rattle.std.proofs.Common.{OnOk, sym, subst}
use Rattle.mm_subst.specs.declared.symbol.WSym.{WSym}
use Rattle.mm_tree.specs.Keyed.{IsPlaced}
use Rattle.mm_tree.proofs.Keying.{keeps-all, placed-ok}
use Rattle.mm_tree.proofs.keyed.Keyed.add_key.Goals as goal

pub returns-in-Work-clause-kept : goal.returns-in-Work-clause-kept
returns-in-Work-clause-kept c = keeps-all c.add.result c.args.self.now c.add.new.self c.in-Work.number c.args.place c.add.ensures.ok c.add.ensures.err

pub returns-in-Work-clause-ok : goal.returns-in-Work-clause-ok
returns-in-Work-clause-ok c = subst (λ (x : WSym). OnOk c.add.result (IsPlaced c.add.new.self c.args.place x)) (sym c.in-Work.is) (placed-ok c.add.result c.args.self.now c.add.new.self c.in-Work.number c.args.place c.add.ensures.ok)
