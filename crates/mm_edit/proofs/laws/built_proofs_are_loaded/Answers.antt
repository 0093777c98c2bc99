use Rattle.mm_edit.proofs.BuiltLaw.{built_loads, loading_built}
use Rattle.mm_edit.proofs.laws.built_proofs_are_loaded.Goals as goal

pub returns-clause-visited : goal.returns-clause-visited
returns-clause-visited c = λ at set labels p q b h. built_loads c.args.bytes.now at set labels p q c.mandatory_variables_differ.ensures b h

pub returns-clause-loaded : goal.returns-clause-loaded
returns-clause-loaded c = λ at set t p m may b. loading_built c.args.bytes.now at set t p c.mandatory_variables_differ.ensures m may b
