use Rattle.std.proofs.Common.{refl, arith, ◌∙◌}
use Rattle.mm_lines.proofs.ReadingLemmas.{reading_begins, reading_goes_on, moves_to_lf, moves_all, must_ask}
use Rattle.mm_lines.proofs.reader.read_line.Goals as goal

pub loop-chunk-init : goal.loop-chunk-init
loop-chunk-init g c = record {
  reading = reading_begins g.S.Source c.args.chunk.now c.args.begun.now c.args.taken.now c.args.source.now;
  most = c.requires;
  faults = refl;
  silent = λ s. (refl, refl, refl);
}

pub returns-then-move_to_lf-clause-moves : goal.returns-then-move_to_lf-clause-moves
returns-then-move_to_lf-clause-moves g c = moves_to_lf g.S.Source _ _ _ _ _ _ _ _ _ _ c.loop-chunk.invariant.reading c.if-move_to_lf.ensures.moves

pub loop-chunk-preserved : goal.loop-chunk-preserved
loop-chunk-preserved g c = record {
  reading = reading_goes_on g.S.Source c.args.chunk.now c.args.begun.now c.args.taken.now c.args.source.now _ _ _ _ _ _ _ _
      (moves_all g.S.Source _ _ _ _ _ _ _ _ _ _ c.loop-chunk.invariant.reading c.if-move_to_lf.ensures.moves)
      c.in_ok-count.ensures.given c.in_ok-count.ensures.count refl;
  most = omega (arith, c.in_ok-count.ensures.within, c.loop-chunk.invariant.most);
  faults = c.in_ok-count.ensures.cause.stays refl ∙ c.loop-chunk.invariant.faults;
  silent = λ s. let first = c.loop-chunk.invariant.silent s in absurd (must_ask _ _ _ _ s first.1 first.2 c.if-move_to_lf.ensures.moves.0 c.loop-chunk.invariant.most c.if-taken-eq-MOST_TAKEN.false);
}
