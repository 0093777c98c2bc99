use Rattle.std.proofs.Common.{◌≡◌, ℕ, refl, subst}
use Rattle.mm_plain.specs.declared.plain.Plain.{Plain}
use Rattle.mm_improve.specs.Proofs.{FindsProofs}
use Rattle.mm_improve.specs.Proving.{proof_of}
use Rattle.mm_improve.specs.Searches.{terms}
use Rattle.mm_improve.proofs.FoundTrees.{alone, found_tree, only_tree, valid_tree}
use Rattle.mm_improve.proofs.prover.Prover.tree_for.Goals as goal

pub returns-in-Ok-true-clause-found : goal.returns-in-Ok-true-clause-found
returns-in-Ok-true-clause-found g c =
    let k = terms c.args.db.now c.args.self.now.search in
    let o = proof_of k c.args.depth c.args.goal.now in
    let a = alone c.new-plan.result c.lay_found.new.plan o c.in-Ok-true.field-0 c.in-Ok-true.field-0-test c.new-plan.ensures.grove c.in-Ok-true.ensures in
    found_tree o c.lay_found.new.plan c.in_ok-tree-in-Ok-true.tree a c.in_ok-tree-in-Ok-true.ensures.proof

pub returns-in-Ok-true-clause-valid : goal.returns-in-Ok-true-clause-valid
returns-in-Ok-true-clause-valid g c =
    let k = terms c.args.db.now c.args.self.now.search in
    let at : ℕ = c.args.self.now.search.at.0 in
    let o = proof_of k c.args.depth c.args.goal.now in
    let a = alone c.new-plan.result c.lay_found.new.plan o c.in-Ok-true.field-0 c.in-Ok-true.field-0-test c.new-plan.ensures.grove c.in-Ok-true.ensures in
    let law = subst FindsProofs c.bytes.ensures.value c.found_proofs_are_proofs.ensures in
    valid_tree c.args.db.now at c.args.goal.now o c.lay_found.new.plan c.in_ok-tree-in-Ok-true.tree.proof a c.in_ok-tree-in-Ok-true.ensures.proof
    (law k c.args.depth c.args.goal.now (only_tree c.lay_found.new.plan) refl c.requires.ready.own c.requires.ready.assertion c.requires.string a.is)
