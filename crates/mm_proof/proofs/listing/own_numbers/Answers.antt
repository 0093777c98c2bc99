use Rattle.std.proofs.Common.{◌+◌, get_or, refl, ap}
use Rattle.mm_proof.specs.Numbered.{number_in}
use Rattle.mm_proof.proofs.Using.{given_more}
use Rattle.mm_proof.proofs.listing.own_numbers.Goals as goal

pub loop-id-preserved : goal.loop-id-preserved
loop-id-preserved c =
    let i = c.loop-id.id-index in
    let x = get_or c.args.mandatory.now i 0 in
    record {
      next = ap (λ n. n + 1) c.loop-id.invariant.next;
      table = given_more (number_in c.loop-id.known) (number_in c.give.new.known) c.args.mandatory.now i x 0 c.loop-id.next c.loop-id-test.true refl c.loop-id.invariant.next c.loop-id.invariant.table c.in_ok-give.ensures;
    }
