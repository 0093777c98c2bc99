use Rattle.std.proofs.Common.{◌+◌, ◌-◌, ◌/◌, ◌%◌, ◌∷◌, ◌++◌, [], ap, sym, ◌∙◌, append_assoc}
use Rattle.mm_proof.specs.Numbers.{leading}
use Rattle.mm_proof.proofs.Digits.{letters_are}
use Rattle.mm_proof.proofs.number.push_number.Goals as goal

pub returns : goal.returns
returns c =
    let n = c.args.number in
    let last = (65 + (n - 1) % 20) ∷ [] in
    c.in_ok-push.ensures.items
    ∙ ap (λ x. x ++ last) c.in_ok-push_leading.ensures
    ∙ append_assoc c.args.out.now.items (leading ((n - 1) / 20)) last
    ∙ ap (λ x. c.args.out.now.items ++ x) (sym (letters_are n))
