use Rattle.std.proofs.Common.{◌≡◌, ℕ, ◌+◌, ◌-◌, ◌≤◌, ◌<◌, List, [], ◌∷◌, map, drop, length, reverse, get_or, refl, ap, sym, ◌∙◌, arith}
use Rattle.std.specs.List.{sum_by}
use Rattle.mm_subst.specs.declared.symbol.WSym.{WSym}
use Rattle.mm_subst.specs.Statements.{statement_of}
use Rattle.mm_subst.specs.Substitutions.{Pairs, applied}
use Rattle.mm_plain.specs.declared.plain.Plain.{Plain}
use Rattle.mm_plain.specs.Drawing.{draws_of, fresh_for, with_fresh_kids}
use Rattle.mm_plain.specs.Premises.{premises_of}
use Rattle.mm_plain.specs.Shape.{size_of}
use Rattle.mm_plain.proofs.Walks.{own-kid, own-label}
use Rattle.mm_tree.specs.Falls.{count-unknown}
use Rattle.mm_tree.specs.Meanings.{count, mean, means, known_timed, unknown_timed, text_now, sigma_now}
use Rattle.mm_tree.specs.View.{timed_of, values}
use Rattle.mm_tree.specs.Written.{written}
use Rattle.mm_tree.specs.declared.timed.Text.{Text}
use Rattle.mm_tree.proofs.Keeping.{values-append}
use Rattle.mm_tree.proofs.Kids.{is-known, many-means, mean-at}
use Rattle.mm_tree.proofs.Made.{if-ok}
use Rattle.mm_tree.proofs.Renewed.{all-made, counts-fresh, draws-known, draws-unknown, known-fresh, made-earlier, on-any, steps-left, sum-earlier, unknown-fresh}
use Rattle.mm_tree.proofs.Shapes.{size_of-mean}
use Rattle.mm_tree.proofs.renewal.+renewed.Goals as goal

pub premises-premises-requires : goal.premises-premises-requires
premises-premises-requires g t c = own-label c.args.db.now (text_now [] c.in-Known.field-0.value) c.in-Known.label (sigma_now [] c.in-Known.field-2.value) (means [] (values c.in-Known.kids.items)) (mean c.args.node.now []) (is-known c.in-Known.field-0.value c.in-Known.label c.in-Known.field-2.value (values c.in-Known.kids.items) c.args.node.now (ap timed_of (sym c.in-Known.is) ∙ c.node.view_is) []) c.requires.own

pub last_fresh-requires-clause-own : goal.last_fresh-requires-clause-own
last_fresh-requires-clause-own g t c = own-label c.args.db.now (text_now [] c.in-Known.field-0.value) c.in-Known.label (sigma_now [] c.in-Known.field-2.value) (means [] (values c.in-Known.kids.items)) (mean c.args.node.now []) (is-known c.in-Known.field-0.value c.in-Known.label c.in-Known.field-2.value (values c.in-Known.kids.items) c.args.node.now (ap timed_of (sym c.in-Known.is) ∙ c.node.view_is) []) c.requires.own

pub last_fresh-requires-clause-drawn : goal.last_fresh-requires-clause-drawn
last_fresh-requires-clause-drawn g t c = omega (arith, c.requires.drawn, draws-known c.args.db.now c.in-Known.field-0.value c.in-Known.label c.in-Known.field-2.value (values c.in-Known.kids.items) c.args.node.now (ap timed_of (sym c.in-Known.is) ∙ c.node.view_is))

pub goal_at-requires : goal.goal_at-requires
goal_at-requires g t c = λ k d h. (let e = c.premises-premises.ensures.earlier k d h in omega (arith, e, own-label c.args.db.now (text_now [] c.in-Known.field-0.value) c.in-Known.label (sigma_now [] c.in-Known.field-2.value) (means [] (values c.in-Known.kids.items)) (mean c.args.node.now []) (is-known c.in-Known.field-0.value c.in-Known.label c.in-Known.field-2.value (values c.in-Known.kids.items) c.args.node.now (ap timed_of (sym c.in-Known.is) ∙ c.node.view_is) []) c.requires.own))

pub returns-in_err-goal-in-Known-clause-cost : goal.returns-in_err-goal-in-Known-clause-cost
returns-in_err-goal-in-Known-clause-cost g t c = omega (arith, c.loop-at.invariant.counted, steps-left c.in-Known.field-0.value c.in-Known.label c.in-Known.field-2.value c.in-Known.kids.items c.args.node.now c.loop-at.at (ap timed_of (sym c.in-Known.is) ∙ c.node.view_is))

pub renewed-requires : goal.renewed-requires
renewed-requires g t c κs within =
    let is : known_timed c.in-Known.field-0.value c.in-Known.label c.in-Known.field-2.value (values c.in-Known.kids.items) ≡ c.args.node.now = ap timed_of (sym c.in-Known.is) ∙ c.node.view_is in
    let ms : List Plain = means [] (values c.in-Known.kids.items) in
    let own : ℕ = c.last_fresh.new.end in
    let ts : List (List WSym) = map (applied (fresh_for c.args.db.now own c.in-Known.label)) (premises_of c.args.db.now c.in-Known.label) in
    let i : ℕ = c.loop-at.at - 1 in
    let z : i + 1 ≡ c.loop-at.at = omega (arith, c.loop-at-test.true) in
    let low : i < length c.in-Known.kids.items = omega (arith, c.loop-at-test.true, c.loop-at.invariant.some) in
    let h : i < length ms = omega (arith, low, many-means [] c.in-Known.kids.items) in
    let kid : Plain = mean c.deref.result.now [] in
    let at : kid ≡ get_or ms i kid = mean-at [] c.in-Known.kids.items i c.index.result.now c.deref.result.now low c.index.ensures c.deref.ensures in
    let drawn = sum-earlier (draws_of c.args.db.now) ms i kid h at in
    let more : sum_by (draws_of c.args.db.now) (drop (i + 1) ms) ≡ sum_by (draws_of c.args.db.now) (drop c.loop-at.at ms) = ap (λ (n : ℕ). sum_by (draws_of c.args.db.now) (drop n ms)) z in
    let sized = sum-earlier size_of ms i kid h at in
    let more_steps : sum_by size_of (drop (i + 1) ms) ≡ sum_by size_of (drop c.loop-at.at ms) = ap (λ (n : ℕ). sum_by size_of (drop n ms)) z in
    let steps_of_kid : size_of kid ≡ count c.deref.result.now = size_of-mean [] c.deref.result.now in
    let all : sum_by size_of ms + 1 ≤ count c.args.node.now = steps-left c.in-Known.field-0.value c.in-Known.label c.in-Known.field-2.value c.in-Known.kids.items c.args.node.now 0 is in
    let taken = c.in_ok-sigma-in-Known.ensures.taken in
    let enough = draws-known c.args.db.now c.in-Known.field-0.value c.in-Known.label c.in-Known.field-2.value (values c.in-Known.kids.items) c.args.node.now (ap timed_of (sym c.in-Known.is) ∙ c.node.view_is) in (
      omega (arith, c.decreases, steps_of_kid, sized.1, all),
      (
        within,
        (
          omega (arith, c.requires.few, steps_of_kid, sized.1, all),
          (
            own-kid c.args.db.now (text_now [] c.in-Known.field-0.value) c.in-Known.label (sigma_now [] c.in-Known.field-2.value) ms ms (mean c.args.node.now []) kid i (is-known c.in-Known.field-0.value c.in-Known.label c.in-Known.field-2.value (values c.in-Known.kids.items) c.args.node.now is []) refl c.requires.own h at,
            (
              omega (arith, c.loop-at.invariant.taken, drawn.1, more, taken, enough, c.requires.drawn),
              omega (arith, c.loop-at.invariant.taken, taken, c.requires.below),
            ),
          ),
        ),
      ),
    )

pub returns-in_err-renewed-in-Known-clause-cost : goal.returns-in_err-renewed-in-Known-clause-cost
returns-in_err-renewed-in-Known-clause-cost g t c =
    let is : known_timed c.in-Known.field-0.value c.in-Known.label c.in-Known.field-2.value (values c.in-Known.kids.items) ≡ c.args.node.now = ap timed_of (sym c.in-Known.is) ∙ c.node.view_is in
    let ms : List Plain = means [] (values c.in-Known.kids.items) in
    let own : ℕ = c.last_fresh.new.end in
    let ts : List (List WSym) = map (applied (fresh_for c.args.db.now own c.in-Known.label)) (premises_of c.args.db.now c.in-Known.label) in
    let i : ℕ = c.loop-at.at - 1 in
    let z : i + 1 ≡ c.loop-at.at = omega (arith, c.loop-at-test.true) in
    let low : i < length c.in-Known.kids.items = omega (arith, c.loop-at-test.true, c.loop-at.invariant.some) in
    let h : i < length ms = omega (arith, low, many-means [] c.in-Known.kids.items) in
    let kid : Plain = mean c.deref.result.now [] in
    let at : kid ≡ get_or ms i kid = mean-at [] c.in-Known.kids.items i c.index.result.now c.deref.result.now low c.index.ensures c.deref.ensures in
    let drawn = sum-earlier (draws_of c.args.db.now) ms i kid h at in
    let more : sum_by (draws_of c.args.db.now) (drop (i + 1) ms) ≡ sum_by (draws_of c.args.db.now) (drop c.loop-at.at ms) = ap (λ (n : ℕ). sum_by (draws_of c.args.db.now) (drop n ms)) z in
    let sized = sum-earlier size_of ms i kid h at in
    let more_steps : sum_by size_of (drop (i + 1) ms) ≡ sum_by size_of (drop c.loop-at.at ms) = ap (λ (n : ℕ). sum_by size_of (drop n ms)) z in
    let steps_of_kid : size_of kid ≡ count c.deref.result.now = size_of-mean [] c.deref.result.now in
    let all : sum_by size_of ms + 1 ≤ count c.args.node.now = steps-left c.in-Known.field-0.value c.in-Known.label c.in-Known.field-2.value c.in-Known.kids.items c.args.node.now 0 is in
    omega (arith, c.renewed.ensures.cost, c.loop-at.invariant.counted, steps_of_kid, sized.1, more_steps, all)

pub loop-at-preserved : goal.loop-at-preserved
loop-at-preserved g t c =
    let is : known_timed c.in-Known.field-0.value c.in-Known.label c.in-Known.field-2.value (values c.in-Known.kids.items) ≡ c.args.node.now = ap timed_of (sym c.in-Known.is) ∙ c.node.view_is in
    let ms : List Plain = means [] (values c.in-Known.kids.items) in
    let own : ℕ = c.last_fresh.new.end in
    let ts : List (List WSym) = map (applied (fresh_for c.args.db.now own c.in-Known.label)) (premises_of c.args.db.now c.in-Known.label) in
    let i : ℕ = c.loop-at.at - 1 in
    let z : i + 1 ≡ c.loop-at.at = omega (arith, c.loop-at-test.true) in
    let low : i < length c.in-Known.kids.items = omega (arith, c.loop-at-test.true, c.loop-at.invariant.some) in
    let h : i < length ms = omega (arith, low, many-means [] c.in-Known.kids.items) in
    let kid : Plain = mean c.deref.result.now [] in
    let at : kid ≡ get_or ms i kid = mean-at [] c.in-Known.kids.items i c.index.result.now c.deref.result.now low c.index.ensures c.deref.ensures in
    let drawn = sum-earlier (draws_of c.args.db.now) ms i kid h at in
    let more : sum_by (draws_of c.args.db.now) (drop (i + 1) ms) ≡ sum_by (draws_of c.args.db.now) (drop c.loop-at.at ms) = ap (λ (n : ℕ). sum_by (draws_of c.args.db.now) (drop n ms)) z in
    let sized = sum-earlier size_of ms i kid h at in
    let more_steps : sum_by size_of (drop (i + 1) ms) ≡ sum_by size_of (drop c.loop-at.at ms) = ap (λ (n : ℕ). sum_by size_of (drop n ms)) z in
    let steps_of_kid : size_of kid ≡ count c.deref.result.now = size_of-mean [] c.deref.result.now in
    let all : sum_by size_of ms + 1 ≤ count c.args.node.now = steps-left c.in-Known.field-0.value c.in-Known.label c.in-Known.field-2.value c.in-Known.kids.items c.args.node.now 0 is in
    let taken = c.in_ok-renewed-in-Known.ensures.taken in
    let goal_is : c.in_ok-goal-in-Known.goal ≡ get_or ts i []
    = c.in_ok-goal-in-Known.ensures
    ∙ ap (λ (hs : List (List WSym)). get_or (map (applied c.in_ok-sigma-in-Known.sigma) hs) i []) c.premises-premises.ensures.value
    ∙ ap (λ (ps : Pairs). get_or (map (applied ps) (premises_of c.args.db.now c.in-Known.label)) i []) c.in_ok-sigma-in-Known.ensures.values in
    record {
      some = omega (arith, c.loop-at.invariant.some);
      made = made-earlier c.args.birth c.args.db.now ms i c.renewed.new.end c.loop-at.end ts kid c.in_ok-goal-in-Known.goal c.in_ok-renewed-in-Known.field-0.value (values c.loop-at.nodes.items) (values c.push.new.self.items)
          h at goal_is taken c.in_ok-renewed-in-Known.ensures.node
          (c.loop-at.invariant.made ∙ ap (λ (n : ℕ). reverse (map (written c.args.birth) (with_fresh_kids c.args.db.now (drop n ms) c.loop-at.end (drop n ts)))) (sym z))
          (ap values c.in_ok-push-in-Known.ensures.items ∙ values-append c.loop-at.nodes.items (c.in_ok-renewed-in-Known.field-0 ∷ []));
      taken = omega (arith, c.loop-at.invariant.taken, taken, drawn.0, more);
      counted = omega (arith, c.renewed.ensures.cost, c.loop-at.invariant.counted, steps_of_kid, sized.0, more_steps);
    }

pub returns-in_err-push-in-Known-clause-cost : goal.returns-in_err-push-in-Known-clause-cost
returns-in_err-push-in-Known-clause-cost g t c =
    let is : known_timed c.in-Known.field-0.value c.in-Known.label c.in-Known.field-2.value (values c.in-Known.kids.items) ≡ c.args.node.now = ap timed_of (sym c.in-Known.is) ∙ c.node.view_is in
    let ms : List Plain = means [] (values c.in-Known.kids.items) in
    let own : ℕ = c.last_fresh.new.end in
    let ts : List (List WSym) = map (applied (fresh_for c.args.db.now own c.in-Known.label)) (premises_of c.args.db.now c.in-Known.label) in
    let i : ℕ = c.loop-at.at - 1 in
    let z : i + 1 ≡ c.loop-at.at = omega (arith, c.loop-at-test.true) in
    let low : i < length c.in-Known.kids.items = omega (arith, c.loop-at-test.true, c.loop-at.invariant.some) in
    let h : i < length ms = omega (arith, low, many-means [] c.in-Known.kids.items) in
    let kid : Plain = mean c.deref.result.now [] in
    let at : kid ≡ get_or ms i kid = mean-at [] c.in-Known.kids.items i c.index.result.now c.deref.result.now low c.index.ensures c.deref.ensures in
    let drawn = sum-earlier (draws_of c.args.db.now) ms i kid h at in
    let more : sum_by (draws_of c.args.db.now) (drop (i + 1) ms) ≡ sum_by (draws_of c.args.db.now) (drop c.loop-at.at ms) = ap (λ (n : ℕ). sum_by (draws_of c.args.db.now) (drop n ms)) z in
    let sized = sum-earlier size_of ms i kid h at in
    let more_steps : sum_by size_of (drop (i + 1) ms) ≡ sum_by size_of (drop c.loop-at.at ms) = ap (λ (n : ℕ). sum_by size_of (drop n ms)) z in
    let steps_of_kid : size_of kid ≡ count c.deref.result.now = size_of-mean [] c.deref.result.now in
    let all : sum_by size_of ms + 1 ≤ count c.args.node.now = steps-left c.in-Known.field-0.value c.in-Known.label c.in-Known.field-2.value c.in-Known.kids.items c.args.node.now 0 is in
    omega (arith, c.renewed.ensures.cost, c.loop-at.invariant.counted, steps_of_kid, sized.1, more_steps, all)

pub known_new-requires : goal.known_new-requires
known_new-requires g t c =
    let is : known_timed c.in-Known.field-0.value c.in-Known.label c.in-Known.field-2.value (values c.in-Known.kids.items) ≡ c.args.node.now = ap timed_of (sym c.in-Known.is) ∙ c.node.view_is in
    let ms : List Plain = means [] (values c.in-Known.kids.items) in
    let own : ℕ = c.last_fresh.new.end in
    let ts : List (List WSym) = map (applied (fresh_for c.args.db.now own c.in-Known.label)) (premises_of c.args.db.now c.in-Known.label) in
    let none : c.loop-at.at ≡ 0 = omega (arith, c.loop-at-test.false) in
    let made : values c.reverse.new.self.items ≡ map (written c.args.birth) (with_fresh_kids c.args.db.now ms c.loop-at.end ts)
    = all-made c.args.birth c.args.db.now ms c.loop-at.at c.loop-at.end ts c.loop-at.nodes.items c.reverse.new.self.items none c.loop-at.invariant.made c.reverse.ensures.items in
    let taken : c.loop-at.end + sum_by (draws_of c.args.db.now) ms ≡ own = omega (arith, c.loop-at.invariant.taken, ap (λ (n : ℕ). sum_by (draws_of c.args.db.now) (drop n ms)) none) in
    omega (arith, c.requires.few, counts-fresh c.args.birth c.args.db.now ms c.loop-at.end ts c.reverse.new.self.items made, steps-left c.in-Known.field-0.value c.in-Known.label c.in-Known.field-2.value c.in-Known.kids.items c.args.node.now 0 is)

pub returns-after-loop-at-clause-node : goal.returns-after-loop-at-clause-node
returns-after-loop-at-clause-node g t c =
    let is : known_timed c.in-Known.field-0.value c.in-Known.label c.in-Known.field-2.value (values c.in-Known.kids.items) ≡ c.args.node.now = ap timed_of (sym c.in-Known.is) ∙ c.node.view_is in
    let ms : List Plain = means [] (values c.in-Known.kids.items) in
    let own : ℕ = c.last_fresh.new.end in
    let ts : List (List WSym) = map (applied (fresh_for c.args.db.now own c.in-Known.label)) (premises_of c.args.db.now c.in-Known.label) in
    let none : c.loop-at.at ≡ 0 = omega (arith, c.loop-at-test.false) in
    let made : values c.reverse.new.self.items ≡ map (written c.args.birth) (with_fresh_kids c.args.db.now ms c.loop-at.end ts)
    = all-made c.args.birth c.args.db.now ms c.loop-at.at c.loop-at.end ts c.loop-at.nodes.items c.reverse.new.self.items none c.loop-at.invariant.made c.reverse.ensures.items in
    let taken : c.loop-at.end + sum_by (draws_of c.args.db.now) ms ≡ own = omega (arith, c.loop-at.invariant.taken, ap (λ (n : ℕ). sum_by (draws_of c.args.db.now) (drop n ms)) none) in
    if-ok c.known_new.result _ _
    (λ r e. known-fresh c.args.birth c.args.db.now c.in-Known.field-0.value c.in-Known.label c.in-Known.field-2.value (values c.in-Known.kids.items) c.args.node.now r.value c.loop-at.end own c.args.target (values c.reverse.new.self.items) is taken made
    (e ∙ ap (λ (ps : Pairs). known_timed (record { birth = c.args.birth; string = c.args.target }) c.in-Known.label (record { birth = c.args.birth; pairs = ps }) (values c.reverse.new.self.items)) c.in_ok-sigma-in-Known.ensures.values)) c.known_new.ensures.node

pub returns-after-loop-at-clause-taken : goal.returns-after-loop-at-clause-taken
returns-after-loop-at-clause-taken g t c =
    let is : known_timed c.in-Known.field-0.value c.in-Known.label c.in-Known.field-2.value (values c.in-Known.kids.items) ≡ c.args.node.now = ap timed_of (sym c.in-Known.is) ∙ c.node.view_is in
    let ms : List Plain = means [] (values c.in-Known.kids.items) in
    let own : ℕ = c.last_fresh.new.end in
    let ts : List (List WSym) = map (applied (fresh_for c.args.db.now own c.in-Known.label)) (premises_of c.args.db.now c.in-Known.label) in
    let none : c.loop-at.at ≡ 0 = omega (arith, c.loop-at-test.false) in
    let made : values c.reverse.new.self.items ≡ map (written c.args.birth) (with_fresh_kids c.args.db.now ms c.loop-at.end ts)
    = all-made c.args.birth c.args.db.now ms c.loop-at.at c.loop-at.end ts c.loop-at.nodes.items c.reverse.new.self.items none c.loop-at.invariant.made c.reverse.ensures.items in
    let taken : c.loop-at.end + sum_by (draws_of c.args.db.now) ms ≡ own = omega (arith, c.loop-at.invariant.taken, ap (λ (n : ℕ). sum_by (draws_of c.args.db.now) (drop n ms)) none) in
    on-any c.known_new.result _ (omega (arith, taken, c.in_ok-sigma-in-Known.ensures.taken, draws-known c.args.db.now c.in-Known.field-0.value c.in-Known.label c.in-Known.field-2.value (values c.in-Known.kids.items) c.args.node.now (ap timed_of (sym c.in-Known.is) ∙ c.node.view_is)))

pub returns-after-loop-at-clause-cost : goal.returns-after-loop-at-clause-cost
returns-after-loop-at-clause-cost g t c = omega (arith, c.known_new.ensures.cost, c.loop-at.invariant.counted, steps-left c.in-Known.field-0.value c.in-Known.label c.in-Known.field-2.value c.in-Known.kids.items c.args.node.now c.loop-at.at (ap timed_of (sym c.in-Known.is) ∙ c.node.view_is))

pub returns-in_ok-target-in-Unknown-clause-node : goal.returns-in_ok-target-in-Unknown-clause-node
returns-in_ok-target-in-Unknown-clause-node g t c = if-ok c.unknown_node.result _ _
    (λ r e. unknown-fresh c.args.birth c.args.db.now c.in-Unknown.field-0.value c.args.node.now r.value c.args.end.now c.args.target (ap timed_of (sym c.in-Unknown.is) ∙ c.node.view_is) (e ∙ ap unknown_timed c.in_ok-target-in-Unknown.ensures)) c.unknown_node.ensures.node

pub returns-in_ok-target-in-Unknown-clause-taken :
    goal.returns-in_ok-target-in-Unknown-clause-taken
returns-in_ok-target-in-Unknown-clause-taken g t c = on-any c.unknown_node.result _ (omega (arith, draws-unknown c.args.db.now c.in-Unknown.field-0.value c.args.node.now (ap timed_of (sym c.in-Unknown.is) ∙ c.node.view_is)))

pub returns-in_ok-target-in-Unknown-clause-cost : goal.returns-in_ok-target-in-Unknown-clause-cost
returns-in_ok-target-in-Unknown-clause-cost g t c = omega (arith, c.unknown_node.ensures.cost, ap count (ap timed_of (sym c.in-Unknown.is) ∙ c.node.view_is), count-unknown c.in-Unknown.field-0.value)
