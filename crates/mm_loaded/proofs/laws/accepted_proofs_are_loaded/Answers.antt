use Rattle.mm_edit.specs.Built.{is_surely_found}
use Rattle.mm_loaded.proofs.Loads.{tree_found, tree_loads, tree_spells}
use Rattle.mm_loaded.proofs.laws.accepted_proofs_are_loaded.Goals as goal

pub returns-clause-tree : goal.returns-clause-tree
returns-clause-tree c = λ at v. let w = c.accepted_proofs_are_trees.ensures.tree at v in (w.0, tree_found c.args.bytes.now at w.0 w.1)

pub returns-clause-loads : goal.returns-clause-loads
returns-clause-loads c = λ at set t v found light sure.
    let s = tree_spells c.args.bytes.now at t found in
    let laws = c.accepted_proofs_are_trees.ensures in
    tree_loads c.args.bytes.now c.built_proofs_are_loaded.ensures.loaded at set t (λ next small. laws.proves at next t v s small) (laws.labels at t v s) (laws.plain at t v s) found light (laws.values at (is_surely_found c.args.bytes.now set) t v s sure)
