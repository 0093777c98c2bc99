use Rattle.std.proofs.Common.{◌≡◌, ◌-◌, List, length, ap, sym, ◌∙◌, arith}
use Rattle.std.specs.List.{slice_get}
use Rattle.mm_tree.specs.Trees.{State, versions_of}
use Rattle.mm_tree.specs.Versions.{hand_node}
use Rattle.mm_tree.specs.View.{Shared}
use Rattle.mm_tree.proofs.Shapes.{length-values}
use Rattle.mm_tree.proofs.Keeping.{last-root, first-root}
use Rattle.mm_tree.proofs.Made.{root-sound, root-plain, root-young}
use Rattle.mm_tree.proofs.tree.Tree.root.Goals as goal

pub returns-in-Some-clause-node : goal.returns-in-Some-clause-node
returns-in-Some-clause-node c =
    sym (last-root c.self.inside.roots.items c.self.inside.draft_roots.items c.self.inside.begun_root c.in-Some.root.now (let b = c.self.invariant.whole.begun_root in omega (arith, length-values c.self.inside.roots.items))
    (c.in-Some.ensures.value ∙ ap (λ (xs : List Shared). slice_get xs (length xs - 1)) c.deref.ensures.value))
    ∙ ap (λ (s : State). hand_node s.versions) c.self.view_is

pub returns-in-None-clause-node : goal.returns-in-None-clause-node
returns-in-None-clause-node c =
    sym (first-root c.self.inside.roots.items c.self.inside.draft_roots.items c.self.inside.begun_root c.index.result.now (let b = c.self.invariant.whole.begun_root in omega (arith, length-values c.self.inside.roots.items))
    (c.in-None.ensures.value ∙ ap (λ (xs : List Shared). slice_get xs (length xs - 1)) c.deref.ensures.value) c.index.ensures)
    ∙ ap (λ (s : State). hand_node s.versions) c.self.view_is

pub returns-in-Some-clause-plain : goal.returns-in-Some-clause-plain
returns-in-Some-clause-plain c = root-plain (versions_of c.self.inside) c.self.inside.next c.args.self.now c.in-Some.root.now.value c.self.view_is
    (sym (last-root c.self.inside.roots.items c.self.inside.draft_roots.items c.self.inside.begun_root c.in-Some.root.now (let b = c.self.invariant.whole.begun_root in omega (arith, length-values c.self.inside.roots.items))
    (c.in-Some.ensures.value ∙ ap (λ (xs : List Shared). slice_get xs (length xs - 1)) c.deref.ensures.value))
    ∙ ap (λ (s : State). hand_node s.versions) c.self.view_is)

pub returns-in-Some-clause-sound : goal.returns-in-Some-clause-sound
returns-in-Some-clause-sound c = root-sound (versions_of c.self.inside) c.self.inside.next c.args.self.now c.in-Some.root.now.value c.self.view_is c.self.invariant.whole
    (sym (last-root c.self.inside.roots.items c.self.inside.draft_roots.items c.self.inside.begun_root c.in-Some.root.now (let b = c.self.invariant.whole.begun_root in omega (arith, length-values c.self.inside.roots.items))
    (c.in-Some.ensures.value ∙ ap (λ (xs : List Shared). slice_get xs (length xs - 1)) c.deref.ensures.value))
    ∙ ap (λ (s : State). hand_node s.versions) c.self.view_is)

pub returns-in-None-clause-plain : goal.returns-in-None-clause-plain
returns-in-None-clause-plain c = root-plain (versions_of c.self.inside) c.self.inside.next c.args.self.now c.index.result.now.value c.self.view_is
    (sym (first-root c.self.inside.roots.items c.self.inside.draft_roots.items c.self.inside.begun_root c.index.result.now (let b = c.self.invariant.whole.begun_root in omega (arith, length-values c.self.inside.roots.items))
    (c.in-None.ensures.value ∙ ap (λ (xs : List Shared). slice_get xs (length xs - 1)) c.deref.ensures.value) c.index.ensures)
    ∙ ap (λ (s : State). hand_node s.versions) c.self.view_is)

pub returns-in-None-clause-sound : goal.returns-in-None-clause-sound
returns-in-None-clause-sound c = root-sound (versions_of c.self.inside) c.self.inside.next c.args.self.now c.index.result.now.value c.self.view_is c.self.invariant.whole
    (sym (first-root c.self.inside.roots.items c.self.inside.draft_roots.items c.self.inside.begun_root c.index.result.now (let b = c.self.invariant.whole.begun_root in omega (arith, length-values c.self.inside.roots.items))
    (c.in-None.ensures.value ∙ ap (λ (xs : List Shared). slice_get xs (length xs - 1)) c.deref.ensures.value) c.index.ensures)
    ∙ ap (λ (s : State). hand_node s.versions) c.self.view_is)

pub returns-in-Some-clause-born : goal.returns-in-Some-clause-born
returns-in-Some-clause-born c = root-young (versions_of c.self.inside) c.self.inside.next c.args.self.now c.in-Some.root.now.value c.self.view_is c.self.invariant.whole
    (sym (last-root c.self.inside.roots.items c.self.inside.draft_roots.items c.self.inside.begun_root c.in-Some.root.now (let b = c.self.invariant.whole.begun_root in omega (arith, length-values c.self.inside.roots.items))
    (c.in-Some.ensures.value ∙ ap (λ (xs : List Shared). slice_get xs (length xs - 1)) c.deref.ensures.value))
    ∙ ap (λ (s : State). hand_node s.versions) c.self.view_is)

pub returns-in-None-clause-born : goal.returns-in-None-clause-born
returns-in-None-clause-born c = root-young (versions_of c.self.inside) c.self.inside.next c.args.self.now c.index.result.now.value c.self.view_is c.self.invariant.whole
    (sym (first-root c.self.inside.roots.items c.self.inside.draft_roots.items c.self.inside.begun_root c.index.result.now (let b = c.self.invariant.whole.begun_root in omega (arith, length-values c.self.inside.roots.items))
    (c.in-None.ensures.value ∙ ap (λ (xs : List Shared). slice_get xs (length xs - 1)) c.deref.ensures.value) c.index.ensures)
    ∙ ap (λ (s : State). hand_node s.versions) c.self.view_is)
