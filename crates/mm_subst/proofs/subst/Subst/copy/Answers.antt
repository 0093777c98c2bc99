use Rattle.std.proofs.Common.{◌∙◌, ap, arith, sym, subst, take}
use Rattle.mm_subst.specs.Substitutions.{Pairs, value_at, HasDistinctKeys}
use Rattle.mm_subst.specs.declared.symbol.WSym.{WSym}
use Rattle.std.proofs.Common.{List}
use Rattle.mm_subst.proofs.Keys.{value_at-take}
use Rattle.mm_subst.proofs.subst.Subst.copy.Goals as goal

pub put-requires : goal.put-requires
put-requires c =
    let pairs : Pairs = c.pairs-k-items.result.now in
    let distinct : HasDistinctKeys pairs = subst (λ ps. HasDistinctKeys ps) (sym c.pairs-k-items.ensures.pairs) c.pairs-k-items.ensures.distinct in
    ap (λ ps. value_at ps c.loop-k-item.result.0) c.loop-k.invariant
    ∙ ap (λ (q : WSym × List WSym). value_at (take c.loop-k.k-index pairs) q.0) c.loop-k-item.is
    ∙ value_at-take pairs c.loop-k.k-index c.loop-k-item.result (omega arith) distinct
