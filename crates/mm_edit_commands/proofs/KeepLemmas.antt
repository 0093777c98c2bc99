-- What the ending of an edit makes of the open proof.
use Rattle.std.proofs.Common.{◌≡◌, ℕ, Bool, true, false, List, [], ◌∷◌, ◌++◌, map, sym, ◌∙◌, ap}
use Rattle.circular_buffer.specs.Buffer.{keep_last}
use Rattle.mm_plain.specs.Shape.{Proof}
use Rattle.mm_tree.specs.Trees as trees
use Rattle.mm_tree.specs.Versions.{Versions, BeginsAlike, HasNoDrafts, KeepsUpTo, StandsAt, is_draft, named}
use Rattle.mm_tree.specs.declared.tree.Mark.{Mark}
use Rattle.mm_undo.specs.Histories.{IsHistoryOf, IsMarkOfBeginning, KeepsSettled, Lists, Marks, lists_of}
use Rattle.mm_undo.proofs.Lasting.{begins, begun-kept, held-kept, keeps-lasting, lists-kept}
use Rattle.mm_undo.proofs.Orders.{stands}
use Rattle.mm_shell.specs.OpenProofs.{IsAtRest, ProofState, after_edit, seen_as}
use Rattle.mm_edit_commands.specs.Edits.{counts_of}
use Rattle.mm_edit_commands.specs.Ending.{IsKept, IsTakenBack}
use Rattle.mm_edit_commands.specs.declared.edits.Counts.{Counts}

-- the open proof by its lists
abbrev seen_by : ℕ → Proof → Lists → Bool → ProofState
seen_by theorem q l changed = record { theorem = theorem; proof = q; past = l.past; future = l.future; depth = l.depth; changed = changed }

seen_same : (theorem : ℕ) {q q' : Proof} {l l' : Lists} (changed : Bool) → q ≡ q' → l ≡ l' → seen_by theorem q l changed ≡ seen_by theorem q' l' changed
seen_same theorem changed x y = λ i. seen_by theorem (x i) (y i) changed

-- after an edit of a tree at rest the history is still its own, and the mark still names the proof before
pub record IsDrafted (v w : Versions) (h : Marks) (m : Mark) : Type 0 where
  pub held : IsHistoryOf w h
  pub lists : lists_of w h ≡ lists_of v h
  pub begun : IsMarkOfBeginning w m
  pub same : named w m ≡ named v m

pub drafted : (v w : Versions) (h : Marks) (m : Mark) → IsHistoryOf v h → IsMarkOfBeginning v m → KeepsSettled v w → BeginsAlike v w → IsDrafted v w h m
drafted v w h m held begun keeps alike = record {
  held = held-kept v w h keeps (begins v w alike) held;
  lists = lists-kept v w h keeps held;
  begun = begun-kept v w m keeps (begins v w alike) begun;
  same = (keeps m begun.lasting.settled begun.lasting.alive).same;
}

-- going back to the mark
pub taken_back : (t t' : trees.State) (h : Marks) (m : Mark) → IsHistoryOf t.versions h → IsMarkOfBeginning t.versions m → t'.proof ≡ named t.versions m → (is_draft m ≡ false → HasNoDrafts t'.versions)
    → KeepsUpTo m t.versions t'.versions → StandsAt t'.versions m.root m.length → IsTakenBack m t h t' h
taken_back t t' h m held begun is settled keeps at =
    let none : HasNoDrafts t'.versions = settled begun.lasting.settled in
    let lasting : KeepsSettled t.versions t'.versions = keeps-lasting t.versions t'.versions m keeps in
    let there = sym (stands t'.versions m none at) ∙ begun.place in
    record {
      proof = is;
      lists = lists-kept t.versions t'.versions h lasting held;
      rest = record { held = held-kept t.versions t'.versions h lasting there held; settled = none };
    }

-- ## Of the open proof

-- a refused edit leaves it
pub refused_open : (theorem : ℕ) (t t' : trees.State) (h : Marks) (changed : Bool) → IsHistoryOf t.versions h → KeepsSettled t.versions t'.versions → t'.proof ≡ t.proof → seen_as theorem t' h changed ≡ seen_as theorem t h changed
refused_open theorem t t' h changed held keeps same = seen_same theorem changed same (lists-kept t.versions t'.versions h keeps held)

pub refused_rests : (t t' : trees.State) (h : Marks) → IsAtRest t.versions h → KeepsSettled t.versions t'.versions → BeginsAlike t.versions t'.versions → HasNoDrafts t'.versions → IsAtRest t'.versions h
refused_rests t t' h rest keeps alike none = record { held = held-kept t.versions t'.versions h keeps (begins t.versions t'.versions alike) rest.held; settled = none }

-- one that is taken back too
pub back_open : (theorem : ℕ) (t t' t'' : trees.State) (h h' : Marks) (m : Mark) (changed : Bool) → named t.versions m ≡ t.proof → IsDrafted t.versions t'.versions h m → IsTakenBack m t' h t'' h' → seen_as theorem t'' h' changed ≡ seen_as theorem t h changed
back_open theorem t t' t'' h h' m changed names drafts back = seen_same theorem changed (back.proof ∙ drafts.same ∙ names) (back.lists ∙ drafts.lists)

-- one that is kept appends it to the past
pub kept_open : (bytes : List ℕ) (theorem : ℕ) (t t' t'' : trees.State) (h h' : Marks) (m : Mark) (changed : Bool) (counts : Counts) → named t.versions m ≡ t.proof → IsDrafted t.versions t'.versions h m → IsKept bytes m t' h counts t'' h'
    → seen_as theorem t'' h' true ≡ after_edit (seen_as theorem t h changed) t'.proof
kept_open bytes theorem t t' t'' h h' m changed counts names drafts kept =
    seen_same theorem true kept.proof (kept.lists
    ∙ ap (λ (l : Lists). let r : Lists = record { past = keep_last h.depth (l.past ++ named t'.versions m ∷ []); future = []; depth = h.depth } in r) drafts.lists
    ∙ ap (λ (q : Proof). let r : Lists = record { past = keep_last h.depth ((lists_of t.versions h).past ++ q ∷ []); future = []; depth = h.depth } in r) (drafts.same ∙ names))

-- ## Of the ending

pub kept_so : (bytes : List ℕ) (m : Mark) (t t' : trees.State) (h h' : Marks) (counts : Counts) → counts ≡ counts_of bytes t.proof → t'.proof ≡ t.proof
    → map (named t'.versions) h'.past ≡ keep_last h.depth (map (named t.versions) h.past ++ named t.versions m ∷ []) → h'.future ≡ [] → h'.depth ≡ h.depth → IsHistoryOf t'.versions h' → HasNoDrafts t'.versions
    → IsKept bytes m t h counts t' h'
kept_so bytes m t t' h h' counts counted same past future depth held settled = record {
  counted = counted;
  proof = same;
  lists = λ i. record { past = past i; future = map (named t'.versions) (future i); depth = depth i };
  rest = record { held = held; settled = settled };
}
