use Rattle.std.proofs.Common.{subst}
use Rattle.mm_improve.specs.Searches.{terms}
use Rattle.mm_improve.proofs.Agreeing.{VariablesDiffer}
use Rattle.mm_improve.proofs.TraceLemmas.{over, own_entry, missing}
use Rattle.mm_improve.proofs.tracing.step_down.Goals as goal

pub push_kids-requires : goal.push_kids-requires
push_kids-requires c =
    let differ = subst VariablesDiffer c.bytes.ensures.value c.mandatory_variables_differ.ensures in
    λ l. own_entry (terms c.args.db.now c.args.search) differ c.requires.own c.args.goal c.args.text.now c.args.rows.now c.requires.answers c.requires.placed c.args.part c.in-Some.entry.now c.in-Some.ensures c.requires.leads c.requires.ordered c.requires.within l

pub returns-in_ok-push_kids-in-Some : goal.returns-in_ok-push_kids-in-Some
returns-in_ok-push_kids-in-Some c =
    let differ = subst VariablesDiffer c.bytes.ensures.value c.mandatory_variables_differ.ensures in
    over (terms c.args.db.now c.args.search) differ c.requires.own c.args.goal c.args.text.now c.args.rows.now c.requires.answers c.requires.placed c.args.part c.in-Some.entry.now c.in-Some.ensures c.args.stack.now.items c.push_kids.new.stack.items c.in_ok-push_kids-in-Some.ensures.kids

pub returns-in-None : goal.returns-in-None
returns-in-None c =
    let differ = subst VariablesDiffer c.bytes.ensures.value c.mandatory_variables_differ.ensures in
    λ r h. absurd (missing (terms c.args.db.now c.args.search) differ c.requires.own c.args.goal c.args.text.now c.args.rows.now c.requires.answers c.requires.placed c.args.part c.in-None.ensures r h)
