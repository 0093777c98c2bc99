-- The limits of lines and of the numbers in them.
use Rattle.std.specs.Prelude.{ℕ}

-- how many bytes a line may have
abbrev pub most_line : ℕ
most_line = 65536

-- the greatest number of a work variable
abbrev pub most_work : ℕ
most_work = 4000000000

-- the greatest depth of SET UNDO
abbrev pub most_undo : ℕ
most_undo = 1000

-- the greatest number of SET UNIFICATION_TIMEOUT
abbrev pub most_trials : ℕ
most_trials = 10000000

-- the greatest number of DEMO
abbrev pub most_demo : ℕ
most_demo = 1000

-- the greatest number of /CHOICE
abbrev pub most_choice : ℕ
most_choice = 4294967295

-- the greatest number of /DEPTH
abbrev pub most_depth : ℕ
most_depth = 100
