use Rattle.mm_minimize.proofs.ChainLemmas.{brings_no_axiom, uses_allowed}
use Rattle.mm_minimize.proofs.laws.used_statements_are_allowed.Goals as goal

pub returns : goal.returns
returns c = record { forbidden = uses_allowed; axioms = brings_no_axiom }
