use Rattle.std.proofs.Common.{◌≡◌, ◌++◌, ◌∷◌, [], ap, ◌∙◌, arith, length}
use Rattle.std.proofs.lemmas.List.{length-map, map-append}
use Rattle.mm_tables.specs.Numbering.{AreNumbers}
use Rattle.mm_tables.specs.Texts.{texts}
use Rattle.mm_tables.proofs.Numbered.{pushed}
use Rattle.mm_tables.proofs.parted.Parted.push.Goals as goal

pub invariant_of-self-in-Ok : goal.invariant_of-self-in-Ok
invariant_of-self-in-Ok c =
    let groups = c.self.inside.groups.items in
    let whole : texts c.push.new.self.items ≡ texts groups ++ c.args.group.now ∷ [] =
    ap texts c.in-Ok.ensures.items ∙ map-append (λ v. v.items) groups (c.in_ok-kept.kept ∷ []) ∙ ap (λ g. texts groups ++ g ∷ []) c.in_ok-kept.ensures.items in
    let number : c.len-2.result ≡ length (texts groups) = omega (arith, c.len-2.ensures, length-map groups (λ v. v.items)) in
    let are : AreNumbers c.add_all.new.self (texts groups ++ c.args.group.now ∷ []) =
    pushed c.self.inside.holders c.add_all.new.self (texts groups) c.args.group.now c.len-2.result number c.self.invariant.0 c.in_ok-add_all.ensures.ok in
    (rw whole are, omega (arith, c.if-len.false, c.len.ensures, c.in-Ok.ensures.len))
