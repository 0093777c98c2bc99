use Rattle.std.proofs.Common.{drop, sym, ap, ◌∙◌, arith, List}
use Rattle.std.proofs.lemmas.List.{drop_all}
use Rattle.mm_subst.specs.declared.symbol.WSym.{WSym}
use Rattle.mm_unify.proofs.Cut.{cut_end}
use Rattle.mm_unify.proofs.waiting.equal_heads.Goals as goal

pub returns-else-k-r-clause-left : goal.returns-else-k-r-clause-left
returns-else-k-r-clause-left c =
    let e = drop_all c.loop-k.k c.args.r.now (omega arith) in
    let f = cut_end (drop c.loop-k.k c.args.l.now) (drop c.loop-k.k c.args.r.now) e in
    ap (λ (t : List WSym × List WSym). t.0) (sym f ∙ c.loop-k.invariant.same)

pub returns-else-k-r-clause-right : goal.returns-else-k-r-clause-right
returns-else-k-r-clause-right c =
    let e = drop_all c.loop-k.k c.args.r.now (omega arith) in
    let f = cut_end (drop c.loop-k.k c.args.l.now) (drop c.loop-k.k c.args.r.now) e in
    ap (λ (t : List WSym × List WSym). t.1) (sym f ∙ c.loop-k.invariant.same)
