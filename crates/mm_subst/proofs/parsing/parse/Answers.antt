use Rattle.std.proofs.Common.{◌≡◌, ◌≤◌, ◌<◌, ℕ, List, Option, Err, Some, Bor, length, map, ap, sym, ◌∙◌, subst, arith}
use Rattle.std.specs.Vec.{vec_len}
use Rattle.std.proofs.lemmas.Result.{err_from_is_err_and}
use Rattle.std.proofs.lemmas.List.{length-map}
use Rattle.mm_subst.specs.Applied.{most_symbols}
use Rattle.mm_subst.specs.Parsing.{words, meaning, meanings, IsParsed, AreMeant}
use Rattle.mm_subst.specs.declared.symbol.WSym.{WSym}
use Rattle.mm_subst.proofs.Meanings.{none_bad, some_there, lent_meanings, still_fails}
use Rattle.mm_subst.proofs.parsing.parse.Goals as goal

pub returns-in_err-string : goal.returns-in_err-string
returns-in_err-string c =
    let p = err_from_is_err_and c.from_residual-in_err-string.result c.from_residual-in_err-string.ensures.1 in
    let f : List ℕ → Option WSym = meaning c.args.db.now c.args.at.0 c.args.next in
    let same = lent_meanings (λ (w : Bor (List ℕ)). w.now) f c.as_slice.result.now (words c.args.text.now) (ap (map (λ (w : Bor (List ℕ)). w.now)) c.as_slice.ensures.value ∙ c.in_ok-words.ensures) in
    rw (p.1, p.2) (still_fails c.in_err-string.field-0.0 (meanings c.args.db.now c.args.at.0 c.args.next c.args.text.now) (subst (λ ms. AreMeant (Err c.in_err-string.field-0.0) ms) same c.in_err-string.ensures))

pub returns-then-len-gt-MOST_SYMBOLS : goal.returns-then-len-gt-MOST_SYMBOLS
returns-then-len-gt-MOST_SYMBOLS c =
    let f : List ℕ → Option WSym = meaning c.args.db.now c.args.at.0 c.args.next in
    let ms : List (Option WSym) = meanings c.args.db.now c.args.at.0 c.args.next c.args.text.now in
    let same = lent_meanings (λ (w : Bor (List ℕ)). w.now) f c.as_slice.result.now (words c.args.text.now) (ap (map (λ (w : Bor (List ℕ)). w.now)) c.as_slice.ensures.value ∙ c.in_ok-words.ensures) in
    let len : length ms ≡ length c.in_ok-words.words.items = length-map (words c.args.text.now) f ∙ ap length (sym c.in_ok-words.ensures) ∙ length-map c.in_ok-words.words.items (λ (w : Bor (List ℕ)). w.now) in
    (none_bad c.in_ok-string.string ms (sym same ∙ c.in_ok-string.ensures), omega (arith, len, c.len.ensures, c.if-len-gt-MOST_SYMBOLS.true))

pub returns : goal.returns
returns c =
    let f : List ℕ → Option WSym = meaning c.args.db.now c.args.at.0 c.args.next in
    let ms : List (Option WSym) = meanings c.args.db.now c.args.at.0 c.args.next c.args.text.now in
    let same = lent_meanings (λ (w : Bor (List ℕ)). w.now) f c.as_slice.result.now (words c.args.text.now) (ap (map (λ (w : Bor (List ℕ)). w.now)) c.as_slice.ensures.value ∙ c.in_ok-words.ensures) in
    let len : length ms ≡ length c.in_ok-words.words.items = length-map (words c.args.text.now) f ∙ ap length (sym c.in_ok-words.ensures) ∙ length-map c.in_ok-words.words.items (λ (w : Bor (List ℕ)). w.now) in
    (sym same ∙ c.in_ok-string.ensures, omega (arith, len, some_there (vec_len c.in_ok-words.words) c.if-is_empty.ensures), omega (arith, len, c.len.ensures, c.if-len-gt-MOST_SYMBOLS.false))
