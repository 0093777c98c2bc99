use Rattle.std.proofs.Common.{◌≡◌, ◌++◌, [], drop}
use Rattle.mm_improve.specs.Grammars.{items_of, seen_in}
use Rattle.mm_improve.proofs.conclusion.itemized.Given as goal

abbrev pub invariant-loop-symbol : goal.invariant-loop-symbol
invariant-loop-symbol l = record {
  items : l.items.items ++ items_of l.keys l.codes l.order.items (drop l.symbol-index l.text) ≡ items_of l.keys l.codes [] l.text;
  order : seen_in l.keys l.order.items (drop l.symbol-index l.text) ≡ seen_in l.keys [] l.text;
}
