use Rattle.std.proofs.Common.{◌≡◌, ◌++◌, map, take, get_or}
use Rattle.mm_improve.specs.Grammars.{place, place_or_none}
use Rattle.mm_improve.specs.Traces.{no_part}
use Rattle.mm_improve.proofs.tracing.push_each.Given as goal

abbrev pub invariant-loop-key : goal.invariant-loop-key
invariant-loop-key l =
    l.stack.items ≡ l.initial.stack.items ++ map (λ n. get_or l.parts (place_or_none (place l.order n)) no_part) (take l.key-index l.keys)
