use Rattle.std.proofs.Common.{◌≡◌, ◌+◌, ◌-◌, ◌++◌, ◌∷◌, [], length, refl, sym, ap, ◌∙◌, arith, length-append}
use Rattle.mm_stack.proofs.Parts.{again, again_kept, more_kept}
use Rattle.mm_stack.proofs.stack.Stack.repeat.Goals as goal

pub invariant_of-self-in_err-push-2 : goal.invariant_of-self-in_err-push-2
invariant_of-self-in_err-push-2 c =
    let ps = c.self.inside.parts.items in
    rw (c.in_ok-push.ensures.items, c.in_err-push-2.ensures.items, c.part_at-part.ensures, c.deref.ensures.value)
    (more_kept c.self.inside.symbols.items ps c.self.inside.numbers.items c.args.number c.self.invariant)

pub invariant_of-self-2 : goal.invariant_of-self-2
invariant_of-self-2 c =
    let ps = c.self.inside.parts.items in
    let number : c.len.result - 1 ≡ length ps = omega (arith, c.len.ensures, c.push.new.self.ok.0, ap length c.in_ok-push.ensures.items, length-append ps (c.part_at-part.result ∷ [])) in
    rw (c.in_ok-push-2.ensures.items, number, c.in_ok-push.ensures.items, c.part_at-part.ensures, c.deref.ensures.value)
    (again_kept c.self.inside.symbols.items ps c.self.inside.numbers.items c.args.number c.self.invariant)

pub returns : goal.returns
returns c =
    let ps = c.self.inside.parts.items in
    let number : c.len.result - 1 ≡ length ps = omega (arith, c.len.ensures, c.push.new.self.ok.0, ap length c.in_ok-push.ensures.items, length-append ps (c.part_at-part.result ∷ [])) in
    rw (c.in_ok-push-2.ensures.items, number, c.in_ok-push.ensures.items, c.part_at-part.ensures, c.deref.ensures.value, ← c.self.view_is)
    (again c.self.inside.symbols.items ps c.self.inside.numbers.items c.args.number c.self.invariant)
