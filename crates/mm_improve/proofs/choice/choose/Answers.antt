use Rattle.std.proofs.Common.{◌≡◌, ◌<◌, length, sym, ◌∙◌, arith, subst}
use Rattle.mm_improve.specs.Searches.{terms}
use Rattle.mm_improve.proofs.Agreeing.{VariablesDiffer}
use Rattle.mm_improve.proofs.ChoiceLemmas.{bare_none, bare_some, charted, empty_text, not_charted}
use Rattle.mm_improve.proofs.choice.choose.Goals as goal

pub returns-in-Some : goal.returns-in-Some
returns-in-Some c =
    let differ = subst VariablesDiffer c.bytes.ensures.value c.mandatory_variables_differ.ensures in
    let none : length c.args.text.now ≡ 0 = grind (arith, c.is_empty.ensures, c.if-is_empty.true) in
    bare_some (terms c.args.db.now c.args.prover.now.search) differ c.requires.ready.own c.args.code c.args.text.now c.requires.string (empty_text c.args.text.now none) c.in-Some.id (sym c.in-Some.is ∙ c.in_ok-id.ensures)

pub returns-in-None : goal.returns-in-None
returns-in-None c =
    let differ = subst VariablesDiffer c.bytes.ensures.value c.mandatory_variables_differ.ensures in
    let none : length c.args.text.now ≡ 0 = grind (arith, c.is_empty.ensures, c.if-is_empty.true) in
    bare_none (terms c.args.db.now c.args.prover.now.search) differ c.requires.ready.own c.args.code c.args.text.now c.requires.string (empty_text c.args.text.now none) (sym c.in-None.is ∙ c.in_ok-id.ensures)

pub returns-then-has : goal.returns-then-has
returns-then-has c =
    let differ = subst VariablesDiffer c.bytes.ensures.value c.mandatory_variables_differ.ensures in
    let some : 0 < length c.args.text.now = grind (arith, c.is_empty.ensures, c.if-is_empty.false) in
    charted (terms c.args.db.now c.args.prover.now.search) differ c.requires.ready.own c.args.code c.args.text.now c.requires.string c.in_ok-rows.rows c.in_ok-rows.ensures.answers some c.in_ok-rows.ensures.placed (sym c.has.ensures ∙ c.if-has.true)

pub returns-else-has : goal.returns-else-has
returns-else-has c =
    let differ = subst VariablesDiffer c.bytes.ensures.value c.mandatory_variables_differ.ensures in
    let some : 0 < length c.args.text.now = grind (arith, c.is_empty.ensures, c.if-is_empty.false) in
    not_charted (terms c.args.db.now c.args.prover.now.search) differ c.requires.ready.own c.args.code c.args.text.now c.requires.string c.in_ok-rows.rows c.in_ok-rows.ensures.answers some (sym c.has.ensures ∙ c.if-has.false)
