use Rattle.std.proofs.Common.{◌≡◌, ◌+◌, ℕ, length, ap, arith}
use Rattle.mm_plain.specs.Floats.{has_float_among}
use Rattle.mm_tree.specs.Meanings.{mean, means}
use Rattle.mm_tree.specs.View.{values}
use Rattle.mm_tree.proofs.Floating.{among-found, among-more, among-end}
use Rattle.mm_tree.proofs.Kids.{many-means, mean-at}
use Rattle.mm_tree.proofs.floats.has_float_among.Goals as goal

pub returns-then-is_known_float : goal.returns-then-is_known_float
returns-then-is_known_float c = λ line. among-found c.args.db.now c.args.premises.now (means line (values c.args.kids.now)) c.loop-kid.kid-index c.loop-kid.at (mean c.deref.result.now line) c.is_known_float.result (has_float_among c.args.db.now c.args.premises.now (means line (values c.args.kids.now))) (omega (arith, c.loop-kid-test.true, many-means line c.args.kids.now)) c.loop-kid.invariant.at (mean-at line c.args.kids.now c.loop-kid.kid-index c.kid-item.result c.deref.result.now c.loop-kid-test.true c.kid-item.is c.deref.ensures) (c.is_known_float.ensures line) c.if-is_known_float.true (c.loop-kid.invariant.left line)

pub loop-kid-preserved : goal.loop-kid-preserved
loop-kid-preserved c = record {
  at = ap (λ (n : ℕ). n + 1) c.loop-kid.invariant.at;
  left = λ line. among-more c.args.db.now c.args.premises.now (means line (values c.args.kids.now)) c.loop-kid.kid-index c.loop-kid.at (mean c.deref.result.now line) c.is_known_float.result (has_float_among c.args.db.now c.args.premises.now (means line (values c.args.kids.now))) (omega (arith, c.loop-kid-test.true, many-means line c.args.kids.now)) c.loop-kid.invariant.at (mean-at line c.args.kids.now c.loop-kid.kid-index c.kid-item.result c.deref.result.now c.loop-kid-test.true c.kid-item.is c.deref.ensures) (c.is_known_float.ensures line) c.if-is_known_float.false (c.loop-kid.invariant.left line);
}

pub returns : goal.returns
returns c = λ line. among-end c.args.db.now c.args.premises.now (means line (values c.args.kids.now)) c.loop-kid.kid-index (has_float_among c.args.db.now c.args.premises.now (means line (values c.args.kids.now))) (omega (arith, c.loop-kid-test.false, many-means line c.args.kids.now)) (c.loop-kid.invariant.left line)
