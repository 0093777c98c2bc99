-- The plans of the commands on the database fit a sound state.
use Rattle.std.proofs.Common.{◌≡◌, ℕ, Bool, true, false, is_ok, is_some, List, [], ◌∷◌, All, Option, None, Some, Result, Ok, Err, refl, sym, ◌∙◌, ap, subst}
use Rattle.mm_base.specs.Files.{Map}
use Rattle.mm_scope.specs.Contents.{is_read}
use Rattle.mm_scope.specs.Databases.{database_of as contents_of}
use Rattle.mm_scope.specs.Events.{Event}
use Rattle.mm_scope.specs.declared.fault.ReadFault.{ReadFault}
use Rattle.mm_command.specs.Meanings as meaning
use Rattle.mm_command.specs.Meanings.{Meaning}
use Rattle.mm_shell.specs.Actions.{Origin, Nowhere, File, Action, Does, Fetches, Puts, Plan, answer_in, origin_in, origin_of, put_by, without_files}
use Rattle.mm_shell.specs.Answers.{Answer, unless, given, found_or, or_refusal, reports}
use Rattle.mm_shell.specs.Fitting.{IsLoading, IsFit, Fits, PlanFits}
use Rattle.mm_shell.specs.OpenProofs.{ProofState}
use Rattle.mm_shell.specs.declared.state.State.{State}
use Rattle.mm_shell.specs.declared.refusal.Refusal.{Refusal}
use Rattle.mm_shell.specs.declared.refusal.Refusal.TheVariants.{AlreadyRead, BadDatabase, NoDatabase, NoFile, NotBuilt, ProofOpen}
use Rattle.mm_shell.specs.declared.report.Report.TheVariants.{Verified}
use Rattle.mm_shell.proofs.FindLemmas.{found_is}
use Rattle.mm_shell.proofs.FitLemmas.{rows_fit, given_fits, done_fits, rows_plan, given_plan, answer_plan}
use Rattle.mm_database_commands.specs.Commands.{IsTheorem, checked, loaded, read, trace_back, usage, verify, write, database_plan}
use Rattle.mm_database_commands.proofs.VerifyLemmas.{all_checked, meant_theorems}

-- ## READ

is_read_by : (bytes : List ℕ) (events : List Event) → or_refusal (contents_of bytes) BadDatabase ≡ Ok events → is_read bytes ≡ true
unfolding is_read
is_read_by bytes events e = at (contents_of bytes) e where
  at : (r : Result (List Event) ReadFault) → or_refusal r BadDatabase ≡ Ok events → is_ok r ≡ true
  at (Ok x) e = refl
  at (Err f) e = cc

loaded_fits : (s : State) (name : List ℕ) (found : Option (List ℕ)) → s.open_proof ≡ None → s.database ≡ None → Fits (origin_of found) s (loaded name found)
loaded_fits s name found closed none =
    given_fits (origin_of found) s _ _ (λ bytes is. given_fits (origin_of found) s _ _ (λ events read. done_fits (origin_of found) s _
    (record { none = none; closed = closed; read = is_read_by bytes events read; comes = ap origin_of (found_is found (NoFile name) bytes is) }) tt tt))

read_fits : (s : State) (name : List ℕ) → PlanFits s (read s name)
unfolding Fits unless
read_fits s name = at s.open_proof refl s.database refl where
  at : (p : Option ProofState) → s.open_proof ≡ p → (d : Option (List ℕ)) → s.database ≡ d → PlanFits s (unless ((is_some p, ProofOpen) ∷ (is_some d, AlreadyRead) ∷ []) (Ok (Fetches name (loaded name))))
  at (Some p) is d was = λ map. tt
  at None is (Some d) was = λ map. tt
  at None is None was = λ map. loaded_fits s name (map name) is was

-- ## VERIFY PROOF

verify_fits : (s : State) (word : List ℕ) → Fits Nowhere s (verify s word)
verify_fits s word =
    given_fits Nowhere s _ _ (λ bytes is. given_fits Nowhere s _ _ (λ ids found.
    done_fits Nowhere s _ tt tt (record { here = found_is s.database NoDatabase bytes is; each = all_checked bytes ids (meant_theorems bytes word ids (sym found)) })))

-- ## SHOW TRACE_BACK and SHOW USAGE

trace_back_fits : (s : State) (label : List ℕ) (only_axioms : Bool) → Fits Nowhere s (trace_back s label only_axioms)
trace_back_fits s label only_axioms = given_fits Nowhere s _ _ (λ bytes is. given_fits Nowhere s _ _ (λ id found. done_fits Nowhere s _ tt tt tt))

usage_fits : (s : State) (label : List ℕ) (recursive : Bool) → Fits Nowhere s (usage s label recursive)
usage_fits s label recursive = given_fits Nowhere s _ _ (λ bytes is. given_fits Nowhere s _ _ (λ id found. done_fits Nowhere s _ tt tt tt))

-- ## WRITE SOURCE

write_fits : (s : State) (name : List ℕ) → PlanFits s (write s name)
unfolding Fits
write_fits s name = given_plan s _ _ (λ bytes is map. (tt, tt, tt))

pub database_fits : (m : Meaning) (s : State) → PlanFits s (database_plan m s)
unfolding database_plan Fits
database_fits (meaning.Read name) s = read_fits s name
database_fits (meaning.VerifyProof pattern) s = answer_plan s _ (verify_fits s pattern)
database_fits (meaning.ShowTraceBack label axioms) s = answer_plan s _ (trace_back_fits s label axioms)
database_fits (meaning.ShowUsage label recursive) s = answer_plan s _ (usage_fits s label recursive)
database_fits (meaning.WriteSource name) s = write_fits s name
database_fits _ s = λ map. tt

-- ## A database comes from the file that READ names

-- what is asked fetches this file
pub record IsFetching (m : Meaning) (map : Map) (bytes : List ℕ) : Type 0 where
  pub name : List ℕ
  pub is : m ≡ meaning.Read name
  pub found : map name ≡ Some bytes

file_same : (a b : List ℕ) → File a ≡ File b → a ≡ b
file_same a b e = cc

origin_found : (found : Option (List ℕ)) (bytes : List ℕ) → origin_of found ≡ File bytes → found ≡ Some bytes
origin_found None bytes e = cc
origin_found (Some b) bytes e = ap (λ (x : List ℕ). let o : Option (List ℕ) = Some x in o) (file_same b bytes e)

read_origin : (s : State) (name : List ℕ) (map : Map) (bytes : List ℕ) → origin_in (read s name) map ≡ File bytes → map name ≡ Some bytes
unfolding unless
read_origin s name map bytes e = at (is_some s.open_proof) (is_some s.database) e where
  at : (a b : Bool) → origin_in (unless ((a, ProofOpen) ∷ (b, AlreadyRead) ∷ []) (Ok (Fetches name (loaded name)))) map ≡ File bytes → map name ≡ Some bytes
  at true b e = cc
  at false true e = cc
  at false false e = origin_found (map name) bytes e

pub no_origin : (a : Answer) (map : Map) (bytes : List ℕ) → origin_in (without_files a) map ≡ File bytes → ⊥
no_origin (Ok done) map bytes e = cc
no_origin (Err r) map bytes e = cc

write_origin : (s : State) (name : List ℕ) (map : Map) (bytes : List ℕ) → origin_in (write s name) map ≡ File bytes → ⊥
unfolding given
write_origin s name map bytes e = at s.database e where
  at : (d : Option (List ℕ)) → origin_in (write (record s { database = d }) name) map ≡ File bytes → ⊥
  at None e = cc
  at (Some b) e = cc

pub database_origin : (m : Meaning) (s : State) (map : Map) (bytes : List ℕ) → origin_in (database_plan m s) map ≡ File bytes → IsFetching m map bytes
unfolding database_plan
database_origin (meaning.Read name) s map bytes e = record { name = name; is = refl; found = read_origin s name map bytes e }
database_origin (meaning.VerifyProof pattern) s map bytes e = absurd (no_origin (verify s pattern) map bytes e)
database_origin (meaning.ShowTraceBack label axioms) s map bytes e = absurd (no_origin (trace_back s label axioms) map bytes e)
database_origin (meaning.ShowUsage label recursive) s map bytes e = absurd (no_origin (usage s label recursive) map bytes e)
database_origin (meaning.WriteSource name) s map bytes e = absurd (write_origin s name map bytes e)
database_origin _ s map bytes e = cc

-- ## What WRITE SOURCE puts

pair_same : (p q : List ℕ × List ℕ) → (let x : Option (List ℕ × List ℕ) = Some p in x) ≡ Some q → p ≡ q
pair_same p q e = cc

-- it is the database
pub write_puts : (s : State) (name : List ℕ) (put : List ℕ × List ℕ) → put_by (write s name) ≡ Some put → s.database ≡ Some put.1
unfolding given
write_puts s name put e = at s.database refl e where
  at : (d : Option (List ℕ)) → s.database ≡ d → put_by (write (record s { database = d }) name) ≡ Some put → s.database ≡ Some put.1
  at None is e = cc
  at (Some bytes) is e = is ∙ ap (λ (p : List ℕ × List ℕ). let x : Option (List ℕ) = Some p.1 in x) (pair_same (name, bytes) put e)
