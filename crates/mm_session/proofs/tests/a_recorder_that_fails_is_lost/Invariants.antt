use Rattle.mm_session.proofs.tests.a_recorder_that_fails_is_lost.Given as goal

abbrev pub ghosts-run_in : goal.ghosts-run_in
ghosts-run_in a b = record { name = b.blank.name; parts = b.blank.parts }
