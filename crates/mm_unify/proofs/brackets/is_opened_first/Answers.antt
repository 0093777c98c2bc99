use Rattle.std.proofs.Common.{sym, ◌∙◌, arith}
use Rattle.mm_unify.proofs.Opened.{closes_early}
use Rattle.mm_subst.proofs.Prefixes.{opened_first}
use Rattle.mm_unify.proofs.brackets.is_opened_first.Goals as goal
use Rattle.mm_unify.proofs.brackets.is_opened_first.Goals.{then-is_numbered, else-is_numbered}

pub returns-then-open-eq0 : goal.returns-then-open-eq0
returns-then-open-eq0 c = elim c.if-is_numbered.branch [
  | then-is_numbered w ↦ absurd (omega arith)
  | else-is_numbered w ↦
      sym (closes_early c.args.bracket.now c.args.symbols.now c.loop-symbol.symbol-index _ (omega arith) (omega arith)
      (sym c.is_numbered.ensures ∙ w.if-is_numbered.false) (sym c.is_numbered-in-loop-symbol.ensures ∙ c.if-is_numbered-2.true))
]

pub returns : goal.returns
returns c = sym (opened_first c.args.bracket.now c.args.symbols.now (λ k l. c.loop-symbol.invariant.before k (omega arith)))
