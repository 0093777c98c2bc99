use Rattle.mm_trace.specs.Uses.{depends, uses}
use Rattle.mm_trace.proofs.Earlier.{uses_earlier}
use Rattle.mm_trace.proofs.Ways.{depends_true, true_depends}
use Rattle.mm_trace.proofs.laws.ways_are_found.Goals as goal

pub returns : goal.returns
unfolding depends
returns c =
    let bytes = c.args.bytes.now in
    record {
      earlier = uses_earlier bytes;
      sound = λ id on h. true_depends (uses bytes) id on h;
      complete = λ id on d. depends_true (uses bytes) (uses_earlier bytes) id on d;
    }
