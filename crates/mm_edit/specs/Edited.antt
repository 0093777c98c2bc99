-- What an edit of a tree answers, and what it leaves of the tree's versions.
use Rattle.std.specs.Prelude.{◌≡◌, ◌≢◌, ℕ, Bool, false, Option, None, Some, Result, Ok, Err, is_some, if◌then◌else◌}
use Rattle.mm_unify.specs.declared.listing.Listing.{Listing}
use Rattle.mm_unify.specs.Search.{Answer}
use Rattle.mm_plain.specs.Shape.{Proof}
use Rattle.mm_tree.specs.Versions.{Versions, IsAlive, IsKept, is_draft}
use Rattle.mm_tree.specs.declared.tree.Mark.{Mark}
use Rattle.mm_tree.specs.declared.fault.BindFault.{BindFault}
use Rattle.mm_tree.specs.declared.fault.BindFault.TheVariants as bind
use Rattle.mm_tree.specs.declared.fault.GraftFault.{GraftFault}
use Rattle.mm_tree.specs.declared.fault.GraftFault.TheVariants as graft
use Rattle.mm_tree.specs.declared.fault.ReplaceFault.{ReplaceFault}
use Rattle.mm_tree.specs.declared.fault.ReplaceFault.TheVariants as replace
use Rattle.mm_improve.specs.declared.fault.ImproveFault.{ImproveFault}
use Rattle.mm_improve.specs.declared.fault.ImproveFault.TheVariants as improve
use Rattle.mm_plain.specs.declared.plain.Plain.{Plain}
use Rattle.mm_edit.specs.Improving.{ProofMap, all_filled, filled_by, proved_count}
use Rattle.mm_edit.specs.Unifying.{shows_listing}
use Rattle.mm_edit.specs.declared.edit_fault.EditFault.{EditFault}
use Rattle.mm_edit.specs.declared.unification.UnifyFault.{UnifyFault}
use Rattle.mm_edit.specs.declared.edit_fault.EditFault.TheVariants.{TooManySteps, TooDeep, TooLong, Memory}

-- a refusal is the one that the meaning has; want of memory says nothing
abbrev pub IsRefusal : {A : Type 0} → Result A EditFault → EditFault → Type 0
IsRefusal meaning f = f ≢ Memory → meaning ≡ Err f

-- The proof now is the meaning; or the edit is refused, or memory ran out, and nothing is said of the proof.
abbrev pub IsTried : Result Proof EditFault → Result Unit EditFault → Proof → Type 0
IsTried meaning (Ok u) now = meaning ≡ Ok now
IsTried meaning (Err f) now = IsRefusal meaning f

-- The proof now is the meaning; or the edit is refused, or memory ran out, and the proof is as before.
abbrev pub IsDone : Result Proof EditFault → Result Unit EditFault → Proof → Proof → Type 0
IsDone meaning (Ok u) old now = meaning ≡ Ok now
IsDone meaning (Err f) old now = IsRefusal meaning f × (now ≡ old)

-- each mark of a settled version that is alive keeps its proof
abbrev pub KeepsSettled : Versions → Versions → Type 0
KeepsSettled v w = (m : Mark) → is_draft m ≡ false → IsAlive v m → IsKept v w m

-- a listing has the unifiers of a search, and ended as it did
abbrev pub IsListing : Listing → Answer → Type 0
IsListing t l = (t.found.items ≡ l.found) × (t.ended ≡ l.ended)

-- a listing as what a search answers; how many nodes were visited is not told
abbrev pub answer_in : Listing → Answer
answer_in t = record { found = t.found.items; visited = 0; ended = t.ended }

-- the listing that a refusal has is that of an answer; or neither is there
abbrev pub Shows : Option Listing → Option Answer → Type 0
Shows None None = Unit {0}
Shows None (Some l) = ⊥
Shows (Some t) None = ⊥
Shows (Some t) (Some l) = IsListing t l

-- the listing, where a refusal shows one
abbrev pub listing_told : EditFault → Listing → Option Listing
listing_told f t = if shows_listing f then Some t else None

-- The same as IsDone, where a refusal may have a listing.
abbrev pub IsUnified : Result Proof EditFault → Result Unit UnifyFault → Proof → Proof → Type 0
IsUnified meaning (Ok u) old now = meaning ≡ Ok now
IsUnified meaning (Err u) old now = IsRefusal meaning u.fault × (now ≡ old)

-- the fault of a binding, as one of an edit
abbrev pub edit_fault_of : BindFault → EditFault
edit_fault_of (bind.TooLong step) = TooLong step
edit_fault_of bind.Memory = Memory

-- and that of a tree that does not grow
abbrev pub graft_fault_of : GraftFault → EditFault
graft_fault_of graft.TooManySteps = TooManySteps
graft_fault_of graft.TooDeep = TooDeep
graft_fault_of graft.Memory = Memory

-- and that of a step that does not name another statement
abbrev pub replace_fault_of : ReplaceFault → EditFault
replace_fault_of (replace.TooLong step) = TooLong step
replace_fault_of replace.TooManySteps = TooManySteps
replace_fault_of replace.TooDeep = TooDeep
replace_fault_of replace.Memory = Memory

-- and that of a goal's proof
abbrev pub improve_fault_of : ImproveFault → EditFault
improve_fault_of improve.TooManySteps = TooManySteps
improve_fault_of improve.TooDeep = TooDeep
improve_fault_of improve.Memory = Memory

-- What is found stands in the place of a step now, and it is told whether something is; or that is refused, or memory ran out.
abbrev pub IsFilled : Option Plain → Proof → ℕ → Result Bool EditFault → Proof → Type 0
IsFilled found p k (Ok b) now = (filled_by found p k ≡ Ok now) × (is_some found ≡ b)
IsFilled found p k (Err f) now = IsRefusal (filled_by found p k) f

-- Each step that gets a proof is replaced by it now, and it is told how many they were; or that is refused, or memory ran out.
abbrev pub IsFilledTimes : ProofMap → Proof → Result ℕ EditFault → Proof → Type 0
IsFilledTimes prove p (Ok n) now = (all_filled prove p ≡ Ok now) × (n ≡ proved_count prove p.plain)
IsFilledTimes prove p (Err f) now = IsRefusal (all_filled prove p) f

-- The same, where the proof is as before in the latter cases.
abbrev pub IsDoneTimes : ProofMap → Result ℕ EditFault → Proof → Proof → Type 0
IsDoneTimes prove (Ok n) old now = (all_filled prove old ≡ Ok now) × (n ≡ proved_count prove old.plain)
IsDoneTimes prove (Err f) old now = IsRefusal (all_filled prove old) f × (now ≡ old)
