use Rattle.std.proofs.Common.{◌≡◌, ◌<◌, ◌-◌, ◌+◌, ℕ, List, Option, None, Some, Bor, length, map, take, get_or, ap, sym, ◌∙◌, arith}
use Rattle.std.proofs.lemmas.List.{take-map, length-map, get_or-map}
use Rattle.mm_subst.specs.Parsing.{meaning, first_bad}
use Rattle.mm_subst.specs.declared.symbol.WSym.{WSym}
use Rattle.mm_subst.proofs.Meanings.{one_bad}
use Rattle.mm_subst.proofs.parsing.symbols_of.Goals as goal

pub returns-in-None : goal.returns-in-None
returns-in-None c =
    let f : Bor (List ℕ) → Option WSym = λ w. meaning c.args.db.now c.args.at.0 c.args.next w.now in
    let words : List (Bor (List ℕ)) = c.args.words.now in
    let i : ℕ = c.loop-word.word-index in
    let symbols : List WSym = c.loop-word.symbols.items in
    let small : i < length (map f words) = omega (arith, length-map words f) in
    let none : get_or (map f words) i None ≡ None = get_or-map f words i _ None (omega arith) ∙ sym c.in-None.ensures in
    let bad : first_bad (map f words) ≡ Some (length symbols) = one_bad symbols (map f words) i small (c.loop-word.invariant ∙ sym (take-map f i words)) none in
    let len : length symbols ≡ (c.len.result + 1) - 1 = omega (arith, c.len.ensures) in
    (omega arith, bad ∙ ap Some len)
