-- No label is a symbol, in each database.
use Rattle.std.proofs.Common.{ℕ, List, All}
use Rattle.mm_scope.specs.Contents.{events_of, labels_of, symbols_of}
use Rattle.mm_grammar.specs.Apart.{IsNoSymbol}
use Rattle.mm_grammar.proofs.Following.{followed}
use Rattle.mm_grammar.proofs.Parting.{all_apart}

pub apart : (bytes : List ℕ) → All (IsNoSymbol bytes) (labels_of bytes)
unfolding labels_of symbols_of
apart bytes = all_apart (events_of bytes) (followed bytes)
