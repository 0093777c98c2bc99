use Rattle.std.proofs.Common.{◌+◌, ◌*◌, length, ap, sym, ◌∙◌, arith}
use Rattle.mm_proof.specs.Reading.{read_letter}
use Rattle.mm_proof.specs.Readers.{reading}
use Rattle.mm_proof.proofs.Capped.{capped}
use Rattle.mm_proof.proofs.Linked.{length-tag_last}
use Rattle.mm_proof.proofs.reader.Reader.take.Goals as goal

pub returns-in-Lead-clause-value : goal.returns-in-Lead-clause-value
returns-in-Lead-clause-value c n e = record {
  number = 5 * n + c.in-Lead.digit;
  kept = capped n c.args.self.now.number c.in-Lead.digit e ∙ sym c.min-self.ensures;
  reads = ap (read_letter c.args.kinds.now c.args.place (reading n c.args.self.now)) c.in-Lead.is;
}

pub returns-in_ok-push_tag-in-Tag-clause-small : goal.returns-in_ok-push_tag-in-Tag-clause-small
returns-in_ok-push_tag-in-Tag-clause-small c =
    let e = ap length c.tag_last.ensures ∙ length-tag_last c.args.self.now.steps.items in
    let s = c.requires.small.steps in
    record { tags = c.in_ok-push_tag-in-Tag.ensures.small; steps = omega arith; number = c.requires.small.number }
