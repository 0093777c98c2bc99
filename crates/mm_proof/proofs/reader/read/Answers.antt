use Rattle.std.proofs.Common.{◌∙◌}
use Rattle.std.proofs.lemmas.Result.{err_from_is_err_and}
use Rattle.mm_proof.proofs.Capped.{goes_more, goes_stops, goes_open, goes_ended, some_by, none_by}
use Rattle.mm_proof.proofs.Lettered.{letter}
use Rattle.mm_proof.proofs.reader.read.Goals as goal

pub loop-letter-preserved : goal.loop-letter-preserved
loop-letter-preserved c =
    let l = c.in-Some.letter in
    goes_more c.args.kinds.now c.args.letters c.loop-letter.letters c.next.new.self (letter l.place l.byte) c.loop-letter.reader c.take.new.self c.letter_of.result c.loop-letter.invariant
    c.in-Some.ensures.some c.letter_of.ensures.value c.in_ok-take.ensures.value c.in_ok-take.ensures.small

pub returns-in_err-take : goal.returns-in_err-take
returns-in_err-take c =
    let p = err_from_is_err_and c.from_residual.result c.from_residual.ensures.1 in
    let l = c.in-Some.letter in
    rw (p.1, p.2) (goes_stops c.args.kinds.now c.args.letters c.loop-letter.letters c.next.new.self (letter l.place l.byte) c.loop-letter.reader c.letter_of.result c.in_err-take.field-0.0 c.loop-letter.invariant
    c.in-Some.ensures.some c.letter_of.ensures.value c.in_err-take.ensures.value)

pub returns-then-number-ne0 : goal.returns-then-number-ne0
returns-then-number-ne0 c =
    goes_open c.args.kinds.now c.args.letters c.loop-letter.letters c.loop-letter.reader c.loop-letter.invariant c.in_default.ensures.none c.if-number-ne0.true

pub returns-then-is_empty : goal.returns-then-is_empty
returns-then-is_empty c =
    goes_ended c.args.kinds.now c.args.letters c.loop-letter.letters c.loop-letter.reader c.loop-letter.invariant c.in_default.ensures.none c.if-number-ne0.false
    ∙ none_by c.loop-letter.reader.steps.len c.loop-letter.reader.steps.items c.if-is_empty.ensures c.loop-letter.reader.steps.ok.0

pub returns : goal.returns
returns c =
    goes_ended c.args.kinds.now c.args.letters c.loop-letter.letters c.loop-letter.reader c.loop-letter.invariant c.in_default.ensures.none c.if-number-ne0.false
    ∙ some_by c.loop-letter.reader.steps.len c.loop-letter.reader.steps.items c.if-is_empty.ensures c.loop-letter.reader.steps.ok.0
