use Rattle.std.proofs.Common.{List, sym, take, subst, get_or, false}
use Rattle.std.proofs.lemmas.List.{take_more}
use Rattle.mm_proof.specs.TreeNames.{Joins}
use Rattle.mm_proof.specs.declared.table.Part.{Part}
use Rattle.mm_proof.proofs.Naming.{joins_more}
use Rattle.mm_proof.proofs.table.joined.Goals as goal

pub loop-part-preserved : goal.loop-part-preserved
loop-part-preserved c =
    let d : Part = record { name = 0; start = 0; known = false } in
    let i = c.loop-part.part-index in
    let p = get_or c.args.children.now i d in
    let e = take_more c.args.children.now i d c.loop-part-test.true in
    let P : List Part → Type 0 = λ ps. Joins c.args.table.now c.grown.new.self ps c.args.label c.in_ok-name.name in
    subst P (sym e) (joins_more c.args.table.now c.loop-part.table c.grown.new.self (take i c.args.children.now) p c.args.label c.loop-part.name c.in_ok-name.name c.loop-part.invariant c.in_ok-name.ensures)
