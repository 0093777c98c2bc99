use Rattle.std.proofs.Common.{◌≡◌, ℕ, ◌≤◌, List, map, None, length, refl, ap, sym, subst, ◌∙◌}
use Rattle.std.specs.Prelude.{Result, Ok, Err}
use Rattle.std.specs.List.{All}
use Rattle.mm_subst.specs.declared.symbol.WSym.{WSym}
use Rattle.mm_subst.specs.Statements.{statement_of}
use Rattle.mm_subst.specs.Substitutions.{Pairs, applied}
use Rattle.mm_plain.specs.Binding.{HasWorkKeys, bound, bound_in}
use Rattle.mm_plain.specs.Children.{children_of}
use Rattle.mm_plain.specs.declared.plain.Plain.{Plain}
use Rattle.mm_plain.specs.Lengths.{first_long}
use Rattle.mm_plain.specs.Numbers.{HasOwnLabels}
use Rattle.mm_plain.specs.Premises.{premises_of}
use Rattle.mm_plain.specs.Shape.{Each, Proof, step_at, target_of}
use Rattle.mm_plain.specs.Valid.{IsSound, Setting, placed_in, setting_of}
use Rattle.mm_plain.proofs.Grafts.{sound-part}
use Rattle.mm_tree.specs.Replacing.{number_over}
use Rattle.mm_tree.proofs.Rooms.{same_error}
use Rattle.mm_edit.specs.Assigning.{named}
use Rattle.mm_edit.specs.Edited.{IsRefusal, answer_in, replace_fault_of}
use Rattle.mm_edit.specs.Listed.{only_unifier}
use Rattle.mm_edit.specs.Replacing.{only_or_none, renamed}
use Rattle.mm_edit.specs.declared.edit_fault.EditFault.{EditFault}
use Rattle.mm_edit.proofs.AssignLemmas.{listing-so, named-so, naming-of, premises-short, source-short, tried-err}
use Rattle.mm_edit.proofs.Listings.{keys-in}
use Rattle.mm_edit.proofs.ReplaceLemmas.{done-so, keys-only-or-none, moved, none-renamed, own-all, own-sound, refused-so, rename-so, short-all, short-sound, spent-renamed}
use Rattle.mm_edit.proofs.Replacing.{children-sound, sound-named}
use Rattle.mm_edit.proofs.replacement.rename.Goals as goal

pub returns-in_err-sigma-clause-tried : goal.returns-in_err-sigma-clause-tried
returns-in_err-sigma-clause-tried g c =
    let p : Proof = c.args.tree.now.proof in
    let k : ℕ = c.args.step in
    let id : ℕ = c.args.id.0 in
    let aim : List WSym = target_of p.plain in
    let f = c.in_err-sigma.field-0.0 in
    tried-err (renamed c.args.db.now c.args.set.now p k id) c.from_residual.result f c.draw.new.tree.proof
    (same_error c.from_residual.result f c.from_residual.ensures.1 c.from_residual.ensures.0)
    (spent-renamed c.args.db.now c.args.set.now p k id f c.in_err-sigma.ensures.drawn)

pub list_named-requires-clause-short : goal.list_named-requires-clause-short
list_named-requires-clause-short g c =
    let p : Proof = c.args.tree.now.proof in
    let k : ℕ = c.args.step in
    let id : ℕ = c.args.id.0 in
    let aim : List WSym = target_of p.plain in
    let drawn = c.in_ok-sigma.ensures.drawn in
    let n = naming-of c.args.db.now c.args.at.0 p k id c.requires.stands c.requires.exists drawn.2 in
    subst (λ (s : Pairs). length (applied s (statement_of c.args.db.now id)) ≤ 32768) (sym drawn.0) (source-short c.args.db.now c.args.at.0 aim p k id c.requires.valid.valid n)

pub returns-then-has_none-clause-tried : goal.returns-then-has_none-clause-tried
returns-then-has_none-clause-tried g c =
    let p : Proof = c.args.tree.now.proof in
    let k : ℕ = c.args.step in
    let id : ℕ = c.args.id.0 in
    let aim : List WSym = target_of p.plain in
    let drawn = c.in_ok-sigma.ensures.drawn in
    let n = naming-of c.args.db.now c.args.at.0 p k id c.requires.stands c.requires.exists drawn.2 in
    λ other. none-renamed c.args.db.now c.args.set.now p k id c.in_ok-listing.listing c.requires.exists drawn.2 (listing-so c.args.db.now c.args.set.now p c.draw.new.tree.proof k id c.in_ok-sigma.sigma c.in_ok-listing.listing drawn.1 drawn.0 c.in_ok-listing.ensures.listing) (sym c.has_none.ensures ∙ c.if-has_none.true)

pub replace-requires-clause-goals : goal.replace-requires-clause-goals
replace-requires-clause-goals g c =
    let p : Proof = c.args.tree.now.proof in
    let k : ℕ = c.args.step in
    let id : ℕ = c.args.id.0 in
    let aim : List WSym = target_of p.plain in
    let drawn = c.in_ok-sigma.ensures.drawn in
    let n = naming-of c.args.db.now c.args.at.0 p k id c.requires.stands c.requires.exists drawn.2 in
    subst (λ (s : Pairs). All (λ h. length (applied s h) ≤ 32768) (premises_of c.args.db.now id)) (sym drawn.0) (premises-short c.args.db.now c.args.at.0 aim p k id c.requires.valid.valid n)

pub replace-requires-clause-labels : goal.replace-requires-clause-labels
replace-requires-clause-labels g c =
    let p : Proof = c.args.tree.now.proof in
    let k : ℕ = c.args.step in
    let id : ℕ = c.args.id.0 in
    let aim : List WSym = target_of p.plain in
    let drawn = c.in_ok-sigma.ensures.drawn in
    let n = naming-of c.args.db.now c.args.at.0 p k id c.requires.stands c.requires.exists drawn.2 in
    let full = sound-named c.args.db.now c.args.at.0 aim p k id c.requires.valid.valid n in
    let new : Proof = named c.args.db.now p k id in
    let is : placed_in c.args.db.now c.draw.new.tree.proof k id c.in_ok-sigma.sigma ≡ new = named-so c.args.db.now p c.draw.new.tree.proof (placed_in c.args.db.now c.draw.new.tree.proof k id c.in_ok-sigma.sigma) k id c.in_ok-sigma.sigma drawn.1 drawn.0 refl in
    subst (λ (r : Proof). HasOwnLabels c.args.db.now r.plain) (sym is) (own-sound (setting_of c.args.db.now c.args.at.0 new) new.plain c.requires.at full.steps)

pub replace-requires-clause-old_labels : goal.replace-requires-clause-old_labels
replace-requires-clause-old_labels g c =
    let p : Proof = c.args.tree.now.proof in
    let k : ℕ = c.args.step in
    let id : ℕ = c.args.id.0 in
    let aim : List WSym = target_of p.plain in
    let drawn = c.in_ok-sigma.ensures.drawn in
    let n = naming-of c.args.db.now c.args.at.0 p k id c.requires.stands c.requires.exists drawn.2 in
    let s : Setting = setting_of c.args.db.now c.args.at.0 p in
    let kids : Each (IsSound s) (children_of (step_at p.plain k)) = children-sound s (step_at p.plain k) (sound-part s p.plain k c.requires.exists.0 c.requires.exists.1 c.requires.valid.valid.steps) in
    subst (λ (q : Proof). Each (HasOwnLabels c.args.db.now) (children_of (step_at q.plain k))) (sym drawn.1) (own-all s (children_of (step_at p.plain k)) c.requires.at kids)

pub replace-requires-clause-keys : goal.replace-requires-clause-keys
replace-requires-clause-keys g c = subst HasWorkKeys (sym c.in_ok-theta.ensures) (keys-only-or-none (only_unifier (answer_in c.in_ok-listing.listing)) (λ u e.
    keys-in c.args.db.now c.args.set.now (target_of (step_at c.draw.new.tree.proof.plain c.args.step)) (applied c.in_ok-sigma.sigma (statement_of c.args.db.now c.args.id.0)) c.in_ok-listing.listing u c.in_ok-listing.ensures.listing e))

pub replace-requires-clause-short : goal.replace-requires-clause-short
replace-requires-clause-short g c =
    let p : Proof = c.args.tree.now.proof in
    let k : ℕ = c.args.step in
    let id : ℕ = c.args.id.0 in
    let aim : List WSym = target_of p.plain in
    let drawn = c.in_ok-sigma.ensures.drawn in
    let n = naming-of c.args.db.now c.args.at.0 p k id c.requires.stands c.requires.exists drawn.2 in
    let full = sound-named c.args.db.now c.args.at.0 aim p k id c.requires.valid.valid n in
    let new : Proof = named c.args.db.now p k id in
    let is : placed_in c.args.db.now c.draw.new.tree.proof k id c.in_ok-sigma.sigma ≡ new = named-so c.args.db.now p c.draw.new.tree.proof (placed_in c.args.db.now c.draw.new.tree.proof k id c.in_ok-sigma.sigma) k id c.in_ok-sigma.sigma drawn.1 drawn.0 refl in
    subst (λ (r : Proof). first_long c.args.db.now r.plain ≡ None) (sym is) (short-sound (setting_of c.args.db.now c.args.at.0 new) new.plain full.steps)

pub replace-requires-clause-old_short : goal.replace-requires-clause-old_short
replace-requires-clause-old_short g c =
    let p : Proof = c.args.tree.now.proof in
    let k : ℕ = c.args.step in
    let id : ℕ = c.args.id.0 in
    let aim : List WSym = target_of p.plain in
    let drawn = c.in_ok-sigma.ensures.drawn in
    let n = naming-of c.args.db.now c.args.at.0 p k id c.requires.stands c.requires.exists drawn.2 in
    let s : Setting = setting_of c.args.db.now c.args.at.0 p in
    let kids : Each (IsSound s) (children_of (step_at p.plain k)) = children-sound s (step_at p.plain k) (sound-part s p.plain k c.requires.exists.0 c.requires.exists.1 c.requires.valid.valid.steps) in
    subst (λ (q : Proof). Each (λ x. first_long c.args.db.now x ≡ None) (children_of (step_at q.plain k))) (sym drawn.1) (short-all s (children_of (step_at p.plain k)) kids)

pub returns-in_err-replace-clause-tried : goal.returns-in_err-replace-clause-tried
returns-in_err-replace-clause-tried g c =
    let p : Proof = c.args.tree.now.proof in
    let k : ℕ = c.args.step in
    let id : ℕ = c.args.id.0 in
    let aim : List WSym = target_of p.plain in
    let drawn = c.in_ok-sigma.ensures.drawn in
    let n = naming-of c.args.db.now c.args.at.0 p k id c.requires.stands c.requires.exists drawn.2 in
    let full = sound-named c.args.db.now c.args.at.0 aim p k id c.requires.valid.valid n in
    let new : Proof = named c.args.db.now p k id in
    let is : placed_in c.args.db.now c.draw.new.tree.proof k id c.in_ok-sigma.sigma ≡ new = named-so c.args.db.now p c.draw.new.tree.proof (placed_in c.args.db.now c.draw.new.tree.proof k id c.in_ok-sigma.sigma) k id c.in_ok-sigma.sigma drawn.1 drawn.0 refl in
    let whole = rename-so c.args.db.now c.args.set.now p k id c.in_ok-listing.listing c.requires.exists drawn.2 (listing-so c.args.db.now c.args.set.now p c.draw.new.tree.proof k id c.in_ok-sigma.sigma c.in_ok-listing.listing drawn.1 drawn.0 c.in_ok-listing.ensures.listing) (sym c.has_none.ensures ∙ c.if-has_none.false) (short-sound (setting_of c.args.db.now c.args.at.0 new) new.plain full.steps) in
    let theta : Pairs = only_or_none (only_unifier (answer_in c.in_ok-listing.listing)) in
    let m : ℕ = number_over c.args.db.now p.plain k id in
    let olds : List Plain = map (bound theta) (children_of (step_at p.plain k)) in
    let f = c.in_err-replace.field-0.0 in
    tried-err (renamed c.args.db.now c.args.set.now p k id) c.from_residual-in_err-replace.result (replace_fault_of f) c.replace.new.self.proof
    (same_error c.from_residual-in_err-replace.result (replace_fault_of f) c.from_residual-in_err-replace.ensures.1 c.from_residual-in_err-replace.ensures.0)
    (λ other. whole ∙ refused-so c.args.db.now (bound_in theta new) m olds (first_long c.args.db.now (bound theta new.plain)) c.replace.new.self.proof f
    (moved c.args.db.now p c.draw.new.tree.proof k id c.in_ok-sigma.sigma c.in_ok-theta.theta theta (Err f) c.replace.new.self.proof drawn.1 drawn.0 c.in_ok-theta.ensures c.in_err-replace.ensures.replaced) other)

pub returns-clause-tried : goal.returns-clause-tried
returns-clause-tried g c =
    let p : Proof = c.args.tree.now.proof in
    let k : ℕ = c.args.step in
    let id : ℕ = c.args.id.0 in
    let aim : List WSym = target_of p.plain in
    let drawn = c.in_ok-sigma.ensures.drawn in
    let n = naming-of c.args.db.now c.args.at.0 p k id c.requires.stands c.requires.exists drawn.2 in
    let full = sound-named c.args.db.now c.args.at.0 aim p k id c.requires.valid.valid n in
    let new : Proof = named c.args.db.now p k id in
    let is : placed_in c.args.db.now c.draw.new.tree.proof k id c.in_ok-sigma.sigma ≡ new = named-so c.args.db.now p c.draw.new.tree.proof (placed_in c.args.db.now c.draw.new.tree.proof k id c.in_ok-sigma.sigma) k id c.in_ok-sigma.sigma drawn.1 drawn.0 refl in
    let whole = rename-so c.args.db.now c.args.set.now p k id c.in_ok-listing.listing c.requires.exists drawn.2 (listing-so c.args.db.now c.args.set.now p c.draw.new.tree.proof k id c.in_ok-sigma.sigma c.in_ok-listing.listing drawn.1 drawn.0 c.in_ok-listing.ensures.listing) (sym c.has_none.ensures ∙ c.if-has_none.false) (short-sound (setting_of c.args.db.now c.args.at.0 new) new.plain full.steps) in
    let theta : Pairs = only_or_none (only_unifier (answer_in c.in_ok-listing.listing)) in
    let m : ℕ = number_over c.args.db.now p.plain k id in
    let olds : List Plain = map (bound theta) (children_of (step_at p.plain k)) in
    whole ∙ done-so c.args.db.now (bound_in theta new) m olds (first_long c.args.db.now (bound theta new.plain)) c.replace.new.self.proof tt
    (moved c.args.db.now p c.draw.new.tree.proof k id c.in_ok-sigma.sigma c.in_ok-theta.theta theta (Ok tt) c.replace.new.self.proof drawn.1 drawn.0 c.in_ok-theta.ensures c.in_ok-replace.ensures.replaced)
