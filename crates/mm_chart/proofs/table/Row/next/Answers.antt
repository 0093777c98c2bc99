use Rattle.std.proofs.Common.{◌≡◌, ◌<◌, ◌+◌, ◌++◌, ◌∷◌, [], ℕ, List, Option, sym, ◌∙◌, ap, subst, take, length, get_or}
use Rattle.std.proofs.lemmas.List.{take_more}
use Rattle.mm_chart.specs.Charts.{Noted, IsNextOrNone, nearest}
use Rattle.mm_chart.proofs.Nexts.{next_more}
use Rattle.mm_chart.proofs.table.Row.next.Goals as goal

pub loop-entry-preserved : goal.loop-entry-preserved
loop-entry-preserved c =
    let es = c.args.self.now in
    let i = c.loop-entry.entry-index in
    let x = c.entry-item.result in
    let q : c.deref-entry-items.result.now ≡ es = cc in
    let l : i < length es = subst (λ (xs : List Noted). i < length xs) q c.loop-entry-test.true in
    let a : x ≡ get_or es i x = c.entry-item.is ∙ ap (λ (xs : List Noted). get_or xs i x) q in
    let t : take i es ++ x ∷ [] ≡ take (i + 1) es = ap (λ (y : Noted). take i es ++ y ∷ []) a ∙ sym (take_more es i x l) in
    subst (λ (o : Option (ℕ × ℕ)). IsNextOrNone (take (i + 1) es) c.args.code c.args.last c.args.to o) (sym c.nearest-next.ensures)
    (subst (λ (xs : List Noted). IsNextOrNone xs c.args.code c.args.last c.args.to (nearest c.args.code c.args.last c.args.to c.loop-entry.next x)) t
    (next_more (take i es) x c.args.code c.args.last c.args.to c.loop-entry.next c.loop-entry.invariant))
