use Rattle.std.proofs.Common.{◌≡◌, ◌++◌, ◌∷◌, [], List, ℕ, Vec, length, take, ap, ◌∙◌, arith}
use Rattle.std.proofs.lemmas.List.{length-map, map-append}
use Rattle.mm_tables.specs.Layered.{pushed}
use Rattle.mm_tables.specs.Texts.{texts}
use Rattle.mm_tables.proofs.Numbered.{on_err}
use Rattle.mm_tables.proofs.Layering.{spare_kept, with_spare, pushes, in_pushed, taken_off}
use Rattle.mm_tables.proofs.partings.Partings.part.Goals as goal

-- one group more is kept
kept_more : {Z : Type 0} (groups new : List (Vec ℕ Z)) (kept : Vec ℕ Z) (g : List ℕ) → new ≡ groups ++ kept ∷ [] → kept.items ≡ g → texts new ≡ texts groups ++ g ∷ []
kept_more groups new kept g h e = ap texts h ∙ map-append (λ v. v.items) groups (kept ∷ []) ∙ ap (λ g. texts groups ++ g ∷ []) e

pub invariant_of-self-in_err-push-2 : goal.invariant_of-self-in_err-push-2
invariant_of-self-in_err-push-2 c =
    let groups = c.self.inside.groups.items in
    let more = kept_more groups c.push.new.self.items c.in_ok-kept.kept c.args.group.now c.in_ok-push.ensures.items c.in_ok-kept.ensures.items in
    rw (more, c.in_err-push-2.ensures.err) (with_spare (texts groups) c.args.group.now c.self.inside.numbers c.self.inside.parted c.self.inside.heights.items c.self.invariant)

pub returns-in_err-push-2-clause-err : goal.returns-in_err-push-2-clause-err
returns-in_err-push-2-clause-err c =
    let groups = c.self.inside.groups.items in
    let more = kept_more groups c.push.new.self.items c.in_ok-kept.kept c.args.group.now c.in_ok-push.ensures.items c.in_ok-kept.ensures.items in
    on_err c.from_residual-in_err-push-2.result _ (rw more (spare_kept (texts groups) c.args.group.now c.self.inside.numbers c.self.invariant.knows) ∙ c.self.view_is)

pub invariant_of-self-in-Ok : goal.invariant_of-self-in-Ok
invariant_of-self-in-Ok c =
    let groups = c.self.inside.groups.items in
    let more = kept_more groups c.push.new.self.items c.in_ok-kept.kept c.args.group.now c.in_ok-push.ensures.items c.in_ok-kept.ensures.items in
    let number : c.len-number.result ≡ length (texts groups) = omega (arith, c.len-number.ensures, length-map groups (λ v. v.items)) in
    rw (more, c.in-Ok.ensures.ok, c.in_ok-push-2.ensures.ok) (
    in_pushed (texts groups) c.args.group.now c.self.inside.numbers c.self.inside.parted c.self.inside.heights.items c.len-number.result c.self.invariant number)

pub invariant_of-self-in-Err : goal.invariant_of-self-in-Err
invariant_of-self-in-Err c =
    let groups = c.self.inside.groups.items in
    let parted = c.self.inside.parted in
    let more = kept_more groups c.push.new.self.items c.in_ok-kept.kept c.args.group.now c.in_ok-push.ensures.items c.in_ok-kept.ensures.items in
    let same : c.truncate.new.self ≡ parted =
    c.truncate.ensures ∙ ap (take c.len-before.result) c.in_ok-push-2.ensures.ok ∙ taken_off parted c.args.group.now c.len-before.result c.len-before.ensures in
    rw (more, c.in-Err.ensures.err, same) (with_spare (texts groups) c.args.group.now c.self.inside.numbers parted c.self.inside.heights.items c.self.invariant)

pub returns-in-Ok-clause-ok : goal.returns-in-Ok-clause-ok
returns-in-Ok-clause-ok c =
    let groups = c.self.inside.groups.items in
    let more = kept_more groups c.push.new.self.items c.in_ok-kept.kept c.args.group.now c.in_ok-push.ensures.items c.in_ok-kept.ensures.items in
    let number : c.len-number.result ≡ length (texts groups) = omega (arith, c.len-number.ensures, length-map groups (λ v. v.items)) in
    rw (more, c.in-Ok.ensures.ok) (pushes (texts groups) c.args.group.now c.self.inside.numbers c.len-number.result number c.self.invariant.knows)
    ∙ ap (λ l. pushed l (c.args.group.now ∷ [])) c.self.view_is

pub returns-in-Err-clause-err : goal.returns-in-Err-clause-err
returns-in-Err-clause-err c =
    let groups = c.self.inside.groups.items in
    let more = kept_more groups c.push.new.self.items c.in_ok-kept.kept c.args.group.now c.in_ok-push.ensures.items c.in_ok-kept.ensures.items in
    rw (more, c.in-Err.ensures.err) (spare_kept (texts groups) c.args.group.now c.self.inside.numbers c.self.invariant.knows) ∙ c.self.view_is
