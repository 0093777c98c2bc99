use Rattle.std.proofs.Common.{◌≡◌, ◌++◌, ◌∷◌, [], ℕ, List, Option, arith, sym, ◌∙◌, ap, subst}
use Rattle.std.specs.Option.{IfSome}
use Rattle.mm_chart.specs.declared.table.Part.{Part}
use Rattle.mm_chart.specs.Items.{fits}
use Rattle.mm_chart.specs.Charts.{goals_of, AreWithin}
use Rattle.mm_chart.proofs.Walks.{Extended, Walked, extended_more, extended_all, walked_short, popped, placed_less}
use Rattle.mm_chart.proofs.search.+walk.Goals as goal

pub extend-loop-next-preserved : goal.extend-loop-next-preserved
extend-loop-next-preserved t c =
    let i = c.loop-next.invariant in
    let n = c.in-Some.ensures in
    let s = c.args.text.now in
    let rows = c.args.rows.now in
    let from = i.from in
    let within = n.within in
    let later = n.later in
    let w = c.requires.within in
    let x : Part = record { code = c.args.code; from = c.args.at; to = c.in-Some.next } in
    let ps = c.args.parts.now.items in
    let more : c.walk.new.parts.items ≡ ps ++ x ∷ [] = c.in_ok-more.ensures.parts ∙ c.in_ok-push.ensures.items ∙ ap (λ (ys : List Part). ys ++ x ∷ []) i.parts in
    record {
      from = omega arith;
      within = n.within;
      parts = c.pop.ensures.rest ∙ popped c.walk.new.parts.items ps x _ more c.walk.new.parts.ok.0;
      placed = subst (λ (o : Option (ℕ × List Part)). IfSome o (λ x. AreWithin s x.1)) (sym c.lesser-found.ensures) (placed_less s c.loop-next.found c.in_ok-more.more i.placed c.in_ok-more.ensures.placed);
      told = subst (λ (o : Option (ℕ × List Part)). Extended (fits c.args.rules.now c.args.pairs.now) s rows c.args.rest.now (goals_of s ps) c.args.code c.args.at c.args.to c.args.so_far c.in-Some.next o) (sym c.lesser-found.ensures)
          (extended_more (fits c.args.rules.now c.args.pairs.now) s rows c.args.rest.now ps c.args.code c.args.at c.args.to c.args.so_far c.loop-next.last c.in-Some.next c.in-Some.rank c.greater-rank.result c.loop-next.found c.in_ok-more.more i.from w n
          c.greater-rank.ensures i.told (subst (λ (ys : List Part). Walked (fits c.args.rules.now c.args.pairs.now) s rows c.args.rest.now (goals_of s ys) c.in-Some.next c.args.to c.greater-rank.result c.in_ok-more.more) (c.in_ok-push.ensures.items ∙ ap (λ (ys : List Part). ys ++ x ∷ []) i.parts) c.in_ok-more.ensures.found));
    }

pub extend-returns-clause-found : goal.extend-returns-clause-found
extend-returns-clause-found t c =
    let i = c.loop-next.invariant in
    extended_all (fits c.args.rules.now c.args.pairs.now) c.args.text.now c.args.rows.now c.args.rest.now (goals_of c.args.text.now c.args.parts.now.items) c.args.code c.args.at c.args.to c.args.so_far c.loop-next.last c.loop-next.found i.from i.within c.requires.within c.in_default.ensures i.told

pub walk-returns-then-at-to-clause-found : goal.walk-returns-then-at-to-clause-found
walk-returns-then-at-to-clause-found t c =
    walked_short (fits c.args.rules.now c.args.pairs.now) c.args.text.now c.args.rows.now c.args.items.now (goals_of c.args.text.now c.args.parts.now.items) c.args.at c.args.to c.args.so_far c.in_default.ensures.cases c.if-at-to.true c.requires.within
