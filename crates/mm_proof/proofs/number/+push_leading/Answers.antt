use Rattle.std.proofs.Common.{◌+◌, ◌-◌, ◌/◌, ◌%◌, ◌<◌, ◌∷◌, ◌++◌, [], ap, sym, ◌∙◌, arith, append_assoc}
use Rattle.std.proofs.lemmas.List.{append-nil}
use Rattle.mm_proof.specs.Numbers.{leading}
use Rattle.mm_proof.proofs.Digits.{leading_zero, leading_step}
use Rattle.mm_proof.proofs.number.+push_leading.Goals as goal

pub returns-then-quotient-eq0 : goal.returns-then-quotient-eq0
returns-then-quotient-eq0 t c =
    sym (append-nil c.args.out.now.items) ∙ ap (λ x. c.args.out.now.items ++ x) (sym (leading_zero c.args.quotient c.if-quotient-eq0.true))

pub returns : goal.returns
returns t c =
    let q = c.args.quotient in
    let some : 0 < q = omega arith in
    let last = (85 + (q - 1) % 5) ∷ [] in
    c.in_ok-push.ensures.items
    ∙ ap (λ x. x ++ last) c.in_ok-push_leading.ensures
    ∙ append_assoc c.args.out.now.items (leading ((q - 1) / 5)) last
    ∙ ap (λ x. c.args.out.now.items ++ x) (sym (leading_step q some))
