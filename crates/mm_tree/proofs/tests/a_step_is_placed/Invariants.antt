use Rattle.mm_tree.proofs.tests.a_step_is_placed.Given as goal

abbrev pub ghosts-grow_in : goal.ghosts-grow_in
ghosts-grow_in g a = record { name = a.blank.name; parts = a.blank.parts }
