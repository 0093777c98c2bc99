use Rattle.std.proofs.Common.{refl, sym, inr, arith}
use Rattle.mm_proof.proofs.table.Table.grown.Goals as goal

pub returns : goal.returns
returns c =
    let d = c.in_default.ensures in
    let n = c.in-Some-checked_add.ensures in
    let u = c.in_ok-insert.ensures.updates in
    inr (record {
      hasnt = sym d.value;
      next = omega arith;
      first = refl;
      places = c.in_ok-push.ensures.items;
      pairs = λ i j. u.0 (i, j);
    })
