use Rattle.std.proofs.Common.{◌-◌, ◌<◌, length, arith}
use Rattle.mm_proof.proofs.Linked.{tag_at}
use Rattle.mm_proof.proofs.reader.tag_last.Goals as goal

pub returns-in-Some : goal.returns-in-Some
returns-in-Some c =
    let xs = c.args.steps.now.items in
    let e = c.args.steps.now.ok.0 in
    let i = c.in-Some.ensures.item in
    let some : 0 < length xs = i.3.0 in
    tag_at xs (c.args.steps.now.len - 1) c.in-Some.last.now (omega arith) i.1
