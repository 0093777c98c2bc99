use Rattle.mm_tree.proofs.tree.Tree.start.Given as goal

abbrev pub ghosts-start_in : goal.ghosts-start_in
ghosts-start_in a = record { name = a.blank.name; parts = a.blank.parts }
