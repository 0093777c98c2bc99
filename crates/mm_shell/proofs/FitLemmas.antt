-- How the parts of a definition fit: its rows, what it finds, and its end.
use Rattle.std.proofs.Common.{◌≡◌, ℕ, Bool, true, false, List, [], ◌∷◌, Option, None, Some, Result, Ok, Err, refl, subst}
use Rattle.mm_base.specs.Files.{Map}
use Rattle.mm_shell.specs.Actions.{Origin, Nowhere, Action, Does, Fetches, Puts, Plan, answer_in, origin_in, without_files}
use Rattle.mm_shell.specs.Answers.{Answer, unless, given}
use Rattle.mm_shell.specs.Fitting.{IsFit, IsSilentEnd, Holding, Fits, PlanFits}
use Rattle.mm_shell.specs.declared.answer.Done.{Done}
use Rattle.mm_shell.specs.declared.state.State.{State}
use Rattle.mm_shell.specs.declared.refusal.Refusal.{Refusal}

-- ## Of answers

-- after its rows
pub rows_fit : (origin : Origin) (s : State) (rows : List (Bool × Refusal)) (a : Answer) → Fits origin s a → Fits origin s (unless rows a)
unfolding Fits unless
rows_fit origin s [] a h = h
rows_fit origin s ((true, r) ∷ rows) a h = tt
rows_fit origin s ((false, r) ∷ rows) a h = rows_fit origin s rows a h

-- after what is found
pub given_fits : {A : Type 0} (origin : Origin) (s : State) (found : Result A Refusal) (answer : A → Answer) → ((a : A) → found ≡ Ok a → Fits origin s (answer a)) → Fits origin s (given found answer)
unfolding Fits given
given_fits origin s (Ok a) answer h = h a refl
given_fits origin s (Err r) answer h = tt

-- at its end
pub done_fits : (origin : Origin) (s : State) (done : Done) → IsFit origin s done.change → IsSilentEnd done.change done.report → Holding s done.report → Fits origin s (Ok done)
unfolding Fits
done_fits origin s done h silent holds = (h, silent, holds)

pub refused_fits : (origin : Origin) (s : State) (r : Refusal) → Fits origin s (Err r)
unfolding Fits
refused_fits origin s r = tt

-- ## Of plans

pub rows_plan : (s : State) (rows : List (Bool × Refusal)) (plan : Plan) → PlanFits s plan → PlanFits s (unless rows plan)
unfolding Fits unless
rows_plan s [] plan h = h
rows_plan s ((true, r) ∷ rows) plan h = λ map. tt
rows_plan s ((false, r) ∷ rows) plan h = rows_plan s rows plan h

pub given_plan : {A : Type 0} (s : State) (found : Result A Refusal) (plan : A → Plan) → ((a : A) → found ≡ Ok a → PlanFits s (plan a)) → PlanFits s (given found plan)
unfolding Fits given
given_plan s (Ok a) plan h = h a refl
given_plan s (Err r) plan h = λ map. tt

-- a command that leaves the files alone
pub answer_plan : (s : State) (a : Answer) → Fits Nowhere s a → PlanFits s (without_files a)
answer_plan s (Ok done) h = λ map. h
answer_plan s (Err r) h = λ map. h

-- ## What a definition comes to

-- after the rows that don't hold
pub rows_end : {A : Type 0} (rows : List (Bool × Refusal)) (r : Result A Refusal) (a : A) → unless rows r ≡ Ok a → r ≡ Ok a
unfolding unless
rows_end [] r a e = e
rows_end ((true, x) ∷ rows) r a e = cc
rows_end ((false, x) ∷ rows) r a e = rows_end rows r a e
