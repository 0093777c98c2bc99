use Rattle.std.proofs.Common.{◌≡◌, ◌≤◌, ◌++◌, ◌∷◌, [], ap, sym, ◌∙◌, arith, length, take, nat_eq, filter, length-append}
use Rattle.std.proofs.lemmas.List.{length-map, map-append, take-append-le}
use Rattle.mm_tables.specs.Numbering.{AreNumbers, numbers_of, shorter}
use Rattle.mm_tables.specs.Texts.{texts}
use Rattle.mm_tables.proofs.Numbered.{popped}
use Rattle.mm_tables.proofs.parted.Parted.truncate.Goals as goal

pub loop-self-preserved-in-Some : goal.loop-self-preserved-in-Some
loop-self-preserved-in-Some c =
    let left = c.pop.new.self.items in
    let before = c.loop-self.self-inside.groups.items in
    let whole : texts before ≡ texts left ++ c.in-Some.group.items ∷ [] =
    ap texts c.in-Some.ensures.items ∙ map-append (λ v. v.items) left (c.in-Some.group ∷ []) in
    let len : length before ≡ length (texts left ++ c.in-Some.group.items ∷ []) = sym (length-map before (λ v. v.items)) ∙ ap length whole in
    let enough : c.args.groups ≤ length (texts left) =
    omega (arith, c.loop-self-test.true, c.len.ensures, len, length-append (texts left) (c.in-Some.group.items ∷ [])) in
    let are : AreNumbers c.loop-self.self-inside.holders (texts left ++ c.in-Some.group.items ∷ []) = rw (← whole) c.loop-self.invariant.1 in (
      sym (take-append-le c.args.groups (texts left) (c.in-Some.group.items ∷ []) enough) ∙ sym (ap (take c.args.groups) whole) ∙ c.loop-self.invariant.0,
      popped c.loop-self.self-inside.holders c.remove_all.new.self (texts left) c.in-Some.group.items are
          (λ v. c.remove_all.ensures v ∙ ap (λ g. shorter (length (filter (nat_eq v) g)) (numbers_of c.loop-self.self-inside.holders v)) c.as_slice.ensures.value),
      omega (arith, c.loop-self.invariant.2, len, length-append (texts left) (c.in-Some.group.items ∷ []), length-map left (λ v. v.items)),
    )
