use Rattle.std.proofs.Common.{◌∷◌, ◌++◌, List, ◌∙◌, ap, subst}
use Rattle.mm_chart.specs.declared.table.Part.{Part}
use Rattle.mm_chart.specs.Charts.{Noted}
use Rattle.mm_improve.specs.Proving.{rank_limit}
use Rattle.mm_improve.specs.Searches.{terms}
use Rattle.mm_improve.specs.Traces.{kids_of}
use Rattle.mm_improve.proofs.Agreeing.{VariablesDiffer}
use Rattle.mm_improve.proofs.StepLemmas.{step}
use Rattle.mm_improve.proofs.TraceLemmas.{own_entry, missing}
use Rattle.mm_improve.proofs.laying.step_of.Goals as goal

pub push_kids-requires : goal.push_kids-requires
push_kids-requires c =
    let differ = subst VariablesDiffer c.bytes.ensures.value c.mandatory_variables_differ.ensures in
    let h = c.requires.ranked in
    λ l. own_entry (terms c.args.db.now c.args.search) differ c.requires.own c.args.goal c.args.text.now c.args.rows.now c.requires.answers c.requires.placed c.args.part c.in-Some.entry.now c.in-Some.ensures h.leads h.ordered h.within l

pub unreachable-requires : goal.unreachable-requires
unreachable-requires c =
    let differ = subst VariablesDiffer c.bytes.ensures.value c.mandatory_variables_differ.ensures in
    missing (terms c.args.db.now c.args.search) differ c.requires.own c.args.goal c.args.text.now c.args.rows.now c.requires.answers c.requires.placed c.args.part c.in-None.ensures (rank_limit c.args.db.now (c.args.goal ∷ c.args.text.now)) c.requires.ranked

pub returns : goal.returns
returns c =
    let differ = subst VariablesDiffer c.bytes.ensures.value c.mandatory_variables_differ.ensures in
    let e : Noted = c.in-Some.entry.now in
    step (terms c.args.db.now c.args.search) differ c.requires.own c.args.goal c.args.text.now c.args.rows.now c.requires.answers c.requires.placed (rank_limit c.args.db.now (c.args.goal ∷ c.args.text.now)) c.args.part e c.in-Some.ensures c.requires.ranked
    c.entry.inside.id c.in_ok-keys-in-Some.keys.items c.push_kids.new.stack.items (ap (λ (x : Noted). x.id) c.entry.view_is) c.in_ok-keys-in-Some.ensures.keys
    (c.in_ok-keys-in-Some.ensures.kids ∙ ap (λ (xs : List Part). xs ++ kids_of c.args.db.now e) c.new-kids.ensures.items)
