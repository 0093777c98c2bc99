use Rattle.std.proofs.Common.{◌≡◌, ◌+◌, ◌-◌, length, take, drop, ap, arith, length-drop}
use Rattle.std.proofs.lemmas.List.{take_all}
use Rattle.mm_subst.specs.Substitutions.{applied}
use Rattle.mm_unify.specs.Parts.{parts_of}
use Rattle.mm_unify.proofs.Advancing.{stuck_come, come_further}
use Rattle.mm_unify.proofs.advance.advance.Goals as goal

pub returns-then-heads-symbols : goal.returns-then-heads-symbols
returns-then-heads-symbols c =
    let theta = parts_of c.args.target.now c.args.path.now in
    let j = c.loop-index.place in
    let in_target = c.loop-index.invariant.in_target in
    let f : take (length c.args.target.now - j) (drop j c.args.target.now) ≡ drop j c.args.target.now = take_all _ _ (omega (arith, length-drop j c.args.target.now)) in
    let g = rw f at c.equal_heads-heads.ensures.left in
    let l = c.if-heads-symbols.true in
    let e = ap length g in
    record {
      place = j;
      later = c.loop-index.invariant.later;
      within = in_target;
      next = c.in-Some.symbols.now;
      rest = applied theta (drop (c.loop-index.index + 1) c.args.pattern.now);
      come = stuck_come theta c.args.pattern.now c.args.target.now c.loop-index.index j _ c.in-Some.symbols.now c.loop-index-test.true c.loop-index.invariant.come c.in-Some.ensures.value;
      plain = c.in-Some.ensures.plain;
      left = omega (arith, length-drop c.equal_heads-heads.result c.in-Some.symbols.now);
    }

pub loop-index-preserved : goal.loop-index-preserved
loop-index-preserved c =
    let j = c.loop-index.place in
    let in_target = c.loop-index.invariant.in_target in
    let later = c.loop-index.invariant.later in
    let f : take (length c.args.target.now - j) (drop j c.args.target.now) ≡ drop j c.args.target.now = take_all _ _ (omega (arith, length-drop j c.args.target.now)) in
    let g = rw f at c.equal_heads-heads.ensures.left in
    record {
      in_pattern = omega arith;
      in_target = let w = rw f at c.equal_heads-heads.ensures.within_right in omega (arith, length-drop j c.args.target.now);
      later = omega arith;
      come = come_further _ c.args.pattern.now c.args.target.now c.loop-index.index j _ c.in-Some.symbols.now c.equal_heads-heads.result c.loop-index-test.true c.loop-index.invariant.come c.in-Some.ensures.value g c.if-heads-symbols.false c.equal_heads-heads.ensures.within_left;
    }
