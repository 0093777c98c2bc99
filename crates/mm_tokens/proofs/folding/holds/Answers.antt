use Rattle.std.proofs.Common.{sym, ◌∙◌}
use Rattle.mm_tokens.proofs.Phrases.{found_here, found_later, found_nowhere, other_place}
use Rattle.mm_tokens.proofs.folding.holds.Goals as goal
use Rattle.mm_tokens.proofs.folding.holds.Goals.{else-byte-eq40-via-then-byte-eq40+else-begins, else-byte-eq40-via-else-byte-eq40}

pub returns-then-begins : goal.returns-then-begins
returns-then-begins c = sym (found_here c.args.phrase.now c.args.text.now c.loop-place.place c.loop-place.invariant (sym c.begins.ensures ∙ c.if-begins.true))

pub loop-place-preserved : goal.loop-place-preserved
loop-place-preserved c =
    elim c.else-byte-eq40.branch [
      | else-byte-eq40-via-then-byte-eq40+else-begins w ↦
          found_later c.args.phrase.now c.args.text.now c.loop-place.place c.requires c.loop-place-test.true (sym w.begins.ensures ∙ w.if-begins.false) ∙ c.loop-place.invariant
      | else-byte-eq40-via-else-byte-eq40 w ↦
          found_later c.args.phrase.now c.args.text.now c.loop-place.place c.requires c.loop-place-test.true
          (other_place c.args.phrase.now c.args.text.now c.loop-place.place c.requires c.loop-place-test.true w.if-byte-eq40.false) ∙ c.loop-place.invariant
    ]

pub returns : goal.returns
returns c = sym (found_nowhere c.args.phrase.now c.args.text.now c.loop-place.place c.requires c.loop-place-test.false) ∙ c.loop-place.invariant
