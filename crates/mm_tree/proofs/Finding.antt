-- The keys of all bindings are found as versions change.
use Rattle.std.proofs.Common.{◌≡◌, ℕ, ◌<◌, true, false, [], ◌∷◌, take, length, is_none, sym, ◌∙◌, ap, subst, arith, append-nil}
use Rattle.std.proofs.lemmas.List.{get_or-take}
use Rattle.std.proofs.lemmas.Grind.{common_steps}
use Rattle.mm_subst.specs.declared.symbol.WSym.{WSym}
use Rattle.mm_subst.specs.Substitutions.{Pairs, value_at}
use Rattle.mm_tree.specs.Lines.{Line}
use Rattle.mm_tree.specs.Keyed.{IsPlaced, IsKeyed}
use Rattle.mm_tree.specs.Trees.{IsWhole, FindsKeys}
use Rattle.mm_tree.specs.Versions.{Versions, IsAlive, line_of, hand_length, is_draft}
use Rattle.mm_tree.specs.declared.keyed.Keyed.{Keyed}
use Rattle.mm_tree.specs.declared.timed.TimedTree.{TimedTree}
use Rattle.mm_tree.specs.declared.tree.Mark.{Mark}
use Rattle.mm_tree.proofs.Keying.{Keeps, keyed-more}
use Rattle.mm_tree.proofs.Keeping.{take-all, seven, settled, line-settled, set_to, cut_to, line-cut, draft-mark, with_binding, line-more, length-line}

pub keyed-kept : (old new : Keyed) (line : Line) → Keeps old new → IsKeyed old line → IsKeyed new line
keyed-kept old new line keeps k i x h e = keeps i x (k i x h e)

keyed-take : (keyed : Keyed) (n : ℕ) (line : Line) → IsKeyed keyed line → IsKeyed keyed (take n line)
keyed-take keyed n line k i x h e =
    let at : i < n = grind (arith, common_steps) in
    let within : i < length line = grind (arith, common_steps) in
    k i x within (sym (ap (λ (t : Pairs). is_none (value_at t x)) (get_or-take n line i [] at)) ∙ e)

pub finds-kept : (old new : Keyed) (v : Versions) → Keeps old new → FindsKeys old v → FindsKeys new v
finds-kept old new v keeps f = (keyed-kept old new v.trail keeps f.0, keyed-kept old new (line_of v true) keeps f.1)

pub finds-bound : (old new : Keyed) (v : Versions) (next place : ℕ) (theta : Pairs) → IsWhole v next → place ≡ hand_length v → Keeps old new → FindsKeys old v
    → ((x : WSym) → is_none (value_at theta x) ≡ false → IsPlaced new place x) → FindsKeys new (with_binding v theta)
finds-bound old new v next place theta w at keeps f g = (
  keyed-kept old new v.trail keeps f.0,
  subst (IsKeyed new) (sym (line-more v theta)) (keyed-more old new (line_of v true) theta keeps f.1 (λ x e. subst (λ (j : ℕ). IsPlaced new j x) (at ∙ sym (length-line v next w)) (g x e))),
)

pub finds-settled : (keyed : Keyed) (v : Versions) (turn next : ℕ) → IsWhole v next → FindsKeys keyed v → FindsKeys keyed (settled v turn)
finds-settled keyed v turn next w f = (f.1, subst (IsKeyed keyed) (sym (line-settled v turn next w)) f.1)

pub finds-set : (keyed : Keyed) (v : Versions) (m : Mark) (turn : ℕ) → FindsKeys keyed v → FindsKeys keyed (set_to v m turn)
finds-set keyed v m turn f = (f.0, subst (IsKeyed keyed) (sym (append-nil (take m.length v.trail))) (keyed-take keyed m.length v.trail f.0))

pub finds-cut : (keyed : Keyed) (v : Versions) (m : Mark) (next : ℕ) → IsWhole v next → is_draft m ≡ true → IsAlive v m → FindsKeys keyed v → FindsKeys keyed (cut_to v m)
finds-cut keyed v m next w e a f = (f.0, subst (IsKeyed keyed) (sym (line-cut v m next w (draft-mark v m e a).later_length)) (keyed-take keyed m.length (line_of v true) f.1))

pub finds-rooted : (keyed : Keyed) (x : TimedTree) (line : Line) (n : ℕ) → n ≡ length line → IsKeyed keyed line → FindsKeys keyed (seven (x ∷ []) line [] [] 0 n 1)
finds-rooted keyed x line n e k = (k, subst (IsKeyed keyed) (sym (append-nil (take n line) ∙ take-all n line (omega (arith, e)))) k)
