use Rattle.std.proofs.Common.{◌≡◌, ◌+◌, ◌-◌, ◌++◌, ◌∷◌, [], length, refl, sym, ap, ◌∙◌, arith, length-append}
use Rattle.mm_stack.specs.Entries.{IsPart}
use Rattle.mm_stack.specs.declared.stack.Part.{Part}
use Rattle.mm_stack.proofs.Parts.{laid, laid_kept}
use Rattle.mm_stack.proofs.stack.Stack.push.Goals as goal

pub invariant_of-self-2 : goal.invariant_of-self-2
invariant_of-self-2 c =
    let ss = c.self.inside.symbols.items in
    let ps = c.self.inside.parts.items in
    let e = c.args.entry.now in
    let begin : c.len-start.result ≡ length ss = c.len-start.ensures ∙ c.self.inside.symbols.ok.0 in
    let end : c.len.result ≡ length (ss ++ e) = c.len.ensures ∙ c.extend_from_slice.new.self.ok.0 ∙ ap length c.in_ok-extend_from_slice.ensures.items in
    let number : c.len-2.result - 1 ≡ length ps = omega (arith, c.len-2.ensures, c.push.new.self.ok.0, ap length c.in_ok-push.ensures.items, length-append ps (record { start = c.len-start.result; end = c.len.result } ∷ [])) in
    rw (c.in_ok-extend_from_slice.ensures.items, c.in_ok-push.ensures.items, c.in_ok-push-2.ensures.items, begin, end, number) (laid_kept ss e ps c.self.inside.numbers.items c.self.invariant)

pub returns : goal.returns
returns c =
    let ss = c.self.inside.symbols.items in
    let ps = c.self.inside.parts.items in
    let e = c.args.entry.now in
    let begin : c.len-start.result ≡ length ss = c.len-start.ensures ∙ c.self.inside.symbols.ok.0 in
    let end : c.len.result ≡ length (ss ++ e) = c.len.ensures ∙ c.extend_from_slice.new.self.ok.0 ∙ ap length c.in_ok-extend_from_slice.ensures.items in
    let number : c.len-2.result - 1 ≡ length ps = omega (arith, c.len-2.ensures, c.push.new.self.ok.0, ap length c.in_ok-push.ensures.items, length-append ps (record { start = c.len-start.result; end = c.len.result } ∷ [])) in
    rw (c.in_ok-extend_from_slice.ensures.items, c.in_ok-push.ensures.items, c.in_ok-push-2.ensures.items, begin, end, number, ← c.self.view_is) (laid ss e ps c.self.inside.numbers.items c.self.invariant)
