-- What ASSIGN comes to, from what its parts answer.
use Rattle.std.proofs.Common.{◌≡◌, ◌≢◌, ℕ, ◌+◌, ◌<◌, ◌≤◌, Bool, true, false, List, [], ◌∷◌, length, refl, sym, ◌∙◌, ap, subst, arith, not}
use Rattle.std.specs.Prelude.{Result, Ok, Err, None, nat_lt}
use Rattle.std.specs.List.{All}
use Rattle.mm_base.specs.Refusals.{unless}
use Rattle.mm_subst.specs.declared.symbol.WSym.{WSym}
use Rattle.mm_subst.specs.Statements.{statement_of}
use Rattle.mm_subst.specs.Substitutions.{Pairs, applied}
use Rattle.mm_unify.specs.declared.listing.Listing.{Listing}
use Rattle.mm_unify.specs.declared.listing.Settings.{Settings}
use Rattle.mm_plain.specs.Drawing.{fresh_for}
use Rattle.mm_plain.specs.Grafts.{raised}
use Rattle.mm_plain.specs.Premises.{may_stand, premises_of}
use Rattle.mm_plain.specs.Shape.{Proof, placed, size_of, height_of, step_at, target_of}
use Rattle.mm_plain.specs.Sources.{label_of}
use Rattle.mm_plain.specs.Valid.{IsValid, placed_in, most_steps, most_levels}
use Rattle.mm_plain.proofs.Read.{unlabelled-one}
use Rattle.mm_tree.proofs.Grown.{size-placed}
use Rattle.mm_tree.specs.Placed.{HasRoom, IsPlaced}
use Rattle.mm_tree.specs.Trees.{State}
use Rattle.mm_tree.specs.declared.fault.GraftFault.{GraftFault}
use Rattle.mm_tree.specs.declared.fault.GraftFault.TheVariants as G
use Rattle.mm_edit.specs.Applying.{applying_only}
use Rattle.mm_edit.specs.Assigning.{assigned, draws, listed_named, named}
use Rattle.mm_edit.specs.Edited.{IsDone, IsListing, IsRefusal, IsTried, answer_in, graft_fault_of}
use Rattle.mm_edit.specs.Listed.{has_none, listed, only_unifier}
use Rattle.mm_edit.specs.Steps.{has_step, is_unknown, is_spent, not_standing}
use Rattle.mm_edit.specs.declared.edit_fault.EditFault.{EditFault}
use Rattle.mm_edit.specs.declared.edit_fault.EditFault.TheVariants.{NoUnifier, WorkSpent, Memory}
use Rattle.mm_edit.proofs.Assigning.{IsNaming, fits-named, not-above}
use Rattle.mm_edit.proofs.Listings.{chosen-in, none-in}

pub naming-of : (bytes : List ℕ) (at : ℕ) (p : Proof) (k id : ℕ) → may_stand bytes at id ≡ true → (1 ≤ k) × (k ≤ size_of p.plain) → is_spent p (draws bytes id) ≡ false → IsNaming bytes at p k id
naming-of bytes at p k id stands e spent = record { stands = stands; low = e.0; high = e.1; drawn = not-above _ _ spent }

pub source-short : (bytes : List ℕ) (at : ℕ) (goal : List WSym) (p : Proof) (k id : ℕ) → IsValid bytes at goal p → IsNaming bytes at p k id → length (applied (fresh_for bytes p.next id) (statement_of bytes id)) ≤ 32768
source-short bytes at goal p k id v n = (fits-named bytes at goal p k id v n).names.source.short

pub premises-short : (bytes : List ℕ) (at : ℕ) (goal : List WSym) (p : Proof) (k id : ℕ) → IsValid bytes at goal p → IsNaming bytes at p k id → All (λ h. length (applied (fresh_for bytes p.next id) h) ≤ 32768) (premises_of bytes id)
premises-short bytes at goal p k id v n = λ i d less. ((fits-named bytes at goal p k id v n).premises i d less).short

-- ## Room

yes : (m n : ℕ) → m < n → nat_lt m n ≡ true
yes m n h = grind arith

no : (m n : ℕ) → n ≤ m → nat_lt m n ≡ false
no m n h = grind arith

pub no-room : (bytes : List ℕ) (at : ℕ) (set : Settings) (p : Proof) (k id : ℕ) (g : GraftFault) → may_stand bytes at id ≡ true → has_step p.plain k ≡ true → is_unknown p.plain k ≡ true
    → HasRoom (Err g) (named bytes p k id) → assigned bytes at set p k id ≡ Err (graft_fault_of g)
unfolding assigned unless
no-room bytes at set p k id G.TooManySteps a b c h = rw (a, b, c, yes most_steps (size_of (named bytes p k id).plain) h) refl
no-room bytes at set p k id G.TooDeep a b c h = rw (a, b, c, no most_steps (size_of (named bytes p k id).plain) h.0, yes most_levels (height_of (named bytes p k id).plain) h.1) refl
no-room bytes at set p k id G.Memory a b c h = absurd h

abbrev pub naming : List ℕ → Settings → Proof → ℕ → ℕ → Result Proof EditFault
naming bytes set p k id =
    unless ((is_spent p (draws bytes id), WorkSpent) ∷ (has_none (listed_named bytes set p k id), NoUnifier) ∷ []) (applying_only bytes (only_unifier (listed_named bytes set p k id)) (named bytes p k id))

pub with-room : (bytes : List ℕ) (at : ℕ) (set : Settings) (p : Proof) (k id : ℕ) → may_stand bytes at id ≡ true → has_step p.plain k ≡ true → is_unknown p.plain k ≡ true
    → size_of (named bytes p k id).plain ≤ most_steps → height_of (named bytes p k id).plain ≤ most_levels → assigned bytes at set p k id ≡ naming bytes set p k id
unfolding assigned unless
with-room bytes at set p k id a b c f l = rw (a, b, c, no most_steps (size_of (named bytes p k id).plain) f, no most_levels (height_of (named bytes p k id).plain) l) refl

-- where there is room, only memory can be missing
pub place-fault : (old now : State) (p : Proof) (g : GraftFault) → IsPlaced (Err g) old now p → size_of p.plain ≤ most_steps → height_of p.plain ≤ most_levels → graft_fault_of g ≡ Memory
place-fault old now p G.TooManySteps h f l = let more = h.1 in absurd (omega arith)
place-fault old now p G.TooDeep h f l = let more = h.2 in absurd (omega arith)
place-fault old now p G.Memory h f l = refl

-- ## The last refusals

pub spent-so : (bytes : List ℕ) (set : Settings) (p : Proof) (k id : ℕ) (f : EditFault) → (f ≢ Memory → (f ≡ WorkSpent) × (is_spent p (draws bytes id) ≡ true)) → IsRefusal (naming bytes set p k id) f
unfolding unless
spent-so bytes set p k id f h other = let w = h other in rw w.1 (ap (λ (e : EditFault). let r : Result Proof EditFault = Err e in r) (sym w.0))

pub none-so : (bytes : List ℕ) (set : Settings) (p : Proof) (k id : ℕ) → is_spent p (draws bytes id) ≡ false → has_none (listed_named bytes set p k id) ≡ true → naming bytes set p k id ≡ Err NoUnifier
unfolding unless
none-so bytes set p k id e h = rw (e, h) refl

pub unified-so : (bytes : List ℕ) (set : Settings) (p : Proof) (k id : ℕ) → is_spent p (draws bytes id) ≡ false → has_none (listed_named bytes set p k id) ≡ false
    → naming bytes set p k id ≡ applying_only bytes (only_unifier (listed_named bytes set p k id)) (named bytes p k id)
unfolding unless
unified-so bytes set p k id e h = rw (e, h) refl

-- the listing of the step, in the tree whose work variables are drawn
pub listing-so : (bytes : List ℕ) (set : Settings) (p q : Proof) (k id : ℕ) (sigma : Pairs) (t : Listing) → q ≡ raised (draws bytes id) p → sigma ≡ fresh_for bytes p.next id
    → IsListing t (listed bytes set (target_of (step_at q.plain k)) (applied sigma (statement_of bytes id))) → IsListing t (listed_named bytes set p k id)
listing-so bytes set p q k id sigma t e f h =
    subst (λ (s : Pairs). IsListing t (listed bytes set (target_of (step_at p.plain k)) (applied s (statement_of bytes id)))) f
    (subst (λ (r : Proof). IsListing t (listed bytes set (target_of (step_at r.plain k)) (applied sigma (statement_of bytes id)))) e h)

-- what is applied where the search was not in vain
pub applied-so : (bytes : List ℕ) (set : Settings) (p q : Proof) (k id : ℕ) (t : Listing) → is_spent p (draws bytes id) ≡ false → IsListing t (listed_named bytes set p k id) → has_none (answer_in t) ≡ false
    → q ≡ named bytes p k id → naming bytes set p k id ≡ applying_only bytes (only_unifier (answer_in t)) q
applied-so bytes set p q k id t e l h s =
    unified-so bytes set p k id e (none-in t (listed_named bytes set p k id) l ∙ h)
    ∙ ap (λ r. applying_only bytes r (named bytes p k id)) (chosen-in t (listed_named bytes set p k id) None l)
    ∙ ap (applying_only bytes (only_unifier (answer_in t))) (sym s)

pub none-listed : (bytes : List ℕ) (set : Settings) (p : Proof) (k id : ℕ) (t : Listing) → is_spent p (draws bytes id) ≡ false → IsListing t (listed_named bytes set p k id) → has_none (answer_in t) ≡ true
    → naming bytes set p k id ≡ Err NoUnifier
none-listed bytes set p k id t e l h = none-so bytes set p k id e (none-in t (listed_named bytes set p k id) l ∙ h)

-- ## The answers of the calls

pub tried-err : (meaning : Result Proof EditFault) (r : Result Unit EditFault) (f : EditFault) (now : Proof) → r ≡ Err f → IsRefusal meaning f → IsTried meaning r now
tried-err meaning r f now e h = subst (λ (x : Result Unit EditFault). IsTried meaning x now) (sym e) h

pub tried-of : (meaning other : Result Proof EditFault) (r : Result Unit EditFault) (old now : Proof) → meaning ≡ other → IsDone other r old now → IsTried meaning r now
tried-of meaning other (Ok u) old now e h = e ∙ h
tried-of meaning other (Err f) old now e h = λ n. e ∙ h.0 n

pub done-err : (meaning : Result Proof EditFault) (r : Result Unit EditFault) (f : EditFault) (old : Proof) → r ≡ Err f → IsRefusal meaning f → IsDone meaning r old old
done-err meaning r f old e h = subst (λ (x : Result Unit EditFault). IsDone meaning x old old) (sym e) (h, refl)

-- the step is placed
pub named-so : (bytes : List ℕ) (p q r : Proof) (k id : ℕ) (sigma : Pairs) → q ≡ raised (draws bytes id) p → sigma ≡ fresh_for bytes p.next id → r ≡ placed_in bytes q k id sigma → r ≡ named bytes p k id
named-so bytes p q r k id sigma e f h = h ∙ ap (λ (x : Proof). placed_in bytes x k id sigma) e ∙ ap (placed_in bytes (raised (draws bytes id) p) k id) f

pub few-premises : (bytes : List ℕ) (p : Proof) (k id : ℕ) → (1 ≤ k) × (k ≤ size_of p.plain) → label_of (step_at p.plain k) ≡ None → size_of (named bytes p k id).plain ≤ most_steps → length (premises_of bytes id) ≤ 1000000
few-premises bytes p k id there e few =
    let one : size_of (step_at p.plain k) ≡ 1 = unlabelled-one (step_at p.plain k) e in
    let s : size_of (placed p.plain k id (fresh_for bytes p.next id) (premises_of bytes id)) ≡ size_of p.plain + length (premises_of bytes id) = size-placed p.plain k id (fresh_for bytes p.next id) (premises_of bytes id) there.0 there.1 one in
    let f : size_of (placed p.plain k id (fresh_for bytes p.next id) (premises_of bytes id)) ≤ 1000000 = few in
    omega arith
