use Rattle.std.proofs.Common.{◌≡◌, ◌<◌, ◌+◌, List, map, length, None, true, false, ap, sym, ◌∙◌, arith}
use Rattle.std.proofs.lemmas.List.Sums.{sum_by_more}
use Rattle.mm_subst.specs.declared.symbol.WSym.{WSym}
use Rattle.mm_subst.specs.Statements.{statement_of}
use Rattle.mm_subst.specs.Substitutions.{applied, with_values}
use Rattle.mm_plain.specs.Binding.{bound}
use Rattle.mm_plain.specs.Lengths.{is_long, is_long_step}
use Rattle.mm_plain.specs.Shape.{size_of}
use Rattle.mm_plain.proofs.Binding.{size_of-bound}
use Rattle.mm_plain.proofs.Walks.{kid-below, own-kid, own-label}
use Rattle.mm_tree.specs.Bound.{is_long_known}
use Rattle.mm_tree.specs.Lines.{string_now}
use Rattle.mm_tree.specs.Meanings.{count, is_live, mean, means, text_now, sigma_now}
use Rattle.mm_tree.specs.View.{Shared, timed_of, values}
use Rattle.mm_tree.specs.declared.timed.Text.{Text}
use Rattle.mm_tree.specs.declared.timed.Values.{Values}
use Rattle.mm_tree.proofs.Shapes.{size_of-mean}
use Rattle.mm_tree.proofs.Kids.{is-known, is-unknown, many-means, mean-at}
use Rattle.mm_tree.proofs.Longs.{many-bound, none-is, first-more, first-early, first-end, none-of-kid, bound-at, bound-is, first-unknown, first-dead, long-known-bound}
use Rattle.mm_tree.proofs.node.Node.+first_long.Goals as goal

pub returns-then-not-self : goal.returns-then-not-self
returns-then-not-self t c = first-dead c.args.db.now c.args.theta.now c.requires.keys c.args.line.now c.args.self.now c.args.first (ap is_live (sym c.self.view_is) ∙ sym c.self.invariant.live_is ∙ c.if-not-self.true) c.requires.short

pub first_long-requires : goal.first_long-requires
first_long-requires t c =
    let line = c.args.line.now in
    let x = mean c.args.self.now line in
    let kid = mean c.deref.result.now line in
    let kids = means line (values c.in-Known.kids.items) in
    let items = means line (values c.deref-kid-items.result.now) in
    let theta = c.args.theta.now in
    let target = text_now line c.in-Known.target.value in
    let sigma = sigma_now line c.in-Known.sigma.value in
    let is = is-known c.in-Known.target.value c.in-Known.label c.in-Known.sigma.value (values c.in-Known.kids.items) c.args.self.now (ap timed_of (sym c.in-Known.is) ∙ c.self.view_is) line in
    let same = ap (λ (ks : List Shared). means line (values ks)) c.deref-kid-items.ensures.value in
    let h : c.loop-kid.kid-index < length items = omega (arith, c.loop-kid-test.true, many-means line c.deref-kid-items.result.now) in
    let at = mean-at line c.deref-kid-items.result.now c.loop-kid.kid-index c.kid-item.result c.deref.result.now c.loop-kid-test.true c.kid-item.is c.deref.ensures in
    let below = kid-below (applied theta target) c.in-Known.label (with_values theta sigma) (map (bound theta) kids) (map (bound theta) items) (bound theta x) (bound theta kid) c.loop-kid.kid-index
    (bound-is theta target c.in-Known.label sigma kids x is) (ap (map (bound theta)) same) (omega (arith, h, many-bound theta items)) (bound-at theta items c.loop-kid.kid-index kid h at) in (
      omega (arith, c.decreases, below, size_of-bound theta x, size_of-bound theta kid, size_of-mean line c.deref.result.now, size_of-mean line c.args.self.now),
      (
        omega (arith, c.requires.few, c.loop-kid.invariant.number, below, size_of-bound theta x, size_of-bound theta kid, size_of-mean line c.deref.result.now, size_of-mean line c.args.self.now),
        (
          own-kid c.args.db.now target c.in-Known.label sigma kids items x kid c.loop-kid.kid-index is same c.requires.own h at,
          (c.requires.keys, none-of-kid (is_long_step c.args.db.now) target c.in-Known.label sigma kids items x kid c.loop-kid.kid-index is same c.requires.short h at),
        ),
      ),
    )

pub returns-in-Some : goal.returns-in-Some
returns-in-Some t c =
    let line = c.args.line.now in
    let x = mean c.args.self.now line in
    let kid = mean c.deref.result.now line in
    let kids = means line (values c.in-Known.kids.items) in
    let items = means line (values c.deref-kid-items.result.now) in
    let theta = c.args.theta.now in
    let target = text_now line c.in-Known.target.value in
    let sigma = sigma_now line c.in-Known.sigma.value in
    let is = is-known c.in-Known.target.value c.in-Known.label c.in-Known.sigma.value (values c.in-Known.kids.items) c.args.self.now (ap timed_of (sym c.in-Known.is) ∙ c.self.view_is) line in
    let same = ap (λ (ks : List Shared). means line (values ks)) c.deref-kid-items.ensures.value in
    let h : c.loop-kid.kid-index < length items = omega (arith, c.loop-kid-test.true, many-means line c.deref-kid-items.result.now) in
    let at = mean-at line c.deref-kid-items.result.now c.loop-kid.kid-index c.kid-item.result c.deref.result.now c.loop-kid-test.true c.kid-item.is c.deref.ensures in
    first-early (is_long_step c.args.db.now) (applied theta target) c.in-Known.label (with_values theta sigma) (map (bound theta) kids) (map (bound theta) items) (bound theta x) (c.loop-kid.kid-index + 1) c.args.first c.in-Some.step
    (bound-is theta target c.in-Known.label sigma kids x is) (ap (map (bound theta)) same)
    (first-more (is_long_step c.args.db.now) (map (bound theta) items) c.loop-kid.kid-index c.args.first c.loop-kid.next (bound theta kid) _ (omega (arith, h, many-bound theta items)) (bound-at theta items c.loop-kid.kid-index kid h at)
    c.loop-kid.invariant.number c.loop-kid.invariant.so_far (sym c.in-Some.is ∙ c.in_ok-step-in-Known.ensures))

pub overflow_add-next : goal.overflow_add-next
overflow_add-next t c =
    let line = c.args.line.now in
    let x = mean c.args.self.now line in
    let kid = mean c.deref.result.now line in
    let kids = means line (values c.in-Known.kids.items) in
    let items = means line (values c.deref-kid-items.result.now) in
    let theta = c.args.theta.now in
    let target = text_now line c.in-Known.target.value in
    let sigma = sigma_now line c.in-Known.sigma.value in
    let is = is-known c.in-Known.target.value c.in-Known.label c.in-Known.sigma.value (values c.in-Known.kids.items) c.args.self.now (ap timed_of (sym c.in-Known.is) ∙ c.self.view_is) line in
    let same = ap (λ (ks : List Shared). means line (values ks)) c.deref-kid-items.ensures.value in
    let h : c.loop-kid.kid-index < length items = omega (arith, c.loop-kid-test.true, many-means line c.deref-kid-items.result.now) in
    let at = mean-at line c.deref-kid-items.result.now c.loop-kid.kid-index c.kid-item.result c.deref.result.now c.loop-kid-test.true c.kid-item.is c.deref.ensures in
    let below = kid-below (applied theta target) c.in-Known.label (with_values theta sigma) (map (bound theta) kids) (map (bound theta) items) (bound theta x) (bound theta kid) c.loop-kid.kid-index
    (bound-is theta target c.in-Known.label sigma kids x is) (ap (map (bound theta)) same) (omega (arith, h, many-bound theta items)) (bound-at theta items c.loop-kid.kid-index kid h at) in
    omega (arith, c.requires.few, c.loop-kid.invariant.number, below, c.size.ensures, ap count (c.deref-in-loop-kid.ensures ∙ sym c.deref.ensures), size_of-bound theta x, size_of-bound theta kid, size_of-mean line c.deref.result.now, size_of-mean line c.args.self.now)

pub loop-kid-preserved : goal.loop-kid-preserved
loop-kid-preserved t c =
    let line = c.args.line.now in
    let kid = mean c.deref.result.now line in
    let items = means line (values c.deref-kid-items.result.now) in
    let theta = c.args.theta.now in
    let h : c.loop-kid.kid-index < length items = omega (arith, c.loop-kid-test.true, many-means line c.deref-kid-items.result.now) in
    let at = mean-at line c.deref-kid-items.result.now c.loop-kid.kid-index c.kid-item.result c.deref.result.now c.loop-kid-test.true c.kid-item.is c.deref.ensures in
    let hb : c.loop-kid.kid-index < length (map (bound theta) items) = omega (arith, h, many-bound theta items) in
    let atb = bound-at theta items c.loop-kid.kid-index kid h at in
    record {
      number = omega (arith, sum_by_more size_of (map (bound theta) items) c.loop-kid.kid-index (bound theta kid) hb, ap size_of atb, size_of-bound theta kid, c.loop-kid.invariant.number, c.size.ensures, ap count (c.deref-in-loop-kid.ensures ∙ sym c.deref.ensures), size_of-mean line c.deref.result.now);
      so_far = sym (first-more (is_long_step c.args.db.now) (map (bound theta) items) c.loop-kid.kid-index c.args.first c.loop-kid.next (bound theta kid) None hb atb c.loop-kid.invariant.number c.loop-kid.invariant.so_far
          (none-is c.in_ok-step-in-Known.field-0 c.in_default.not-Some ∙ c.in_ok-step-in-Known.ensures));
    }

pub is_long_known-requires : goal.is_long_known-requires
is_long_known-requires t c =
    let is = is-known c.in-Known.target.value c.in-Known.label c.in-Known.sigma.value (values c.in-Known.kids.items) c.args.self.now (ap timed_of (sym c.in-Known.is) ∙ c.self.view_is) c.args.line.now in
    own-label c.args.db.now (text_now c.args.line.now c.in-Known.target.value) c.in-Known.label (sigma_now c.args.line.now c.in-Known.sigma.value) (means c.args.line.now (values c.in-Known.kids.items)) (mean c.args.self.now c.args.line.now) is c.requires.own

pub returns-then-branch : goal.returns-then-branch
returns-then-branch t c =
    let line = c.args.line.now in
    let x = mean c.args.self.now line in
    let kids = means line (values c.in-Known.kids.items) in
    let items = means line (values c.deref-kid-items.result.now) in
    let theta = c.args.theta.now in
    let target = text_now line c.in-Known.target.value in
    let sigma = sigma_now line c.in-Known.sigma.value in
    let is = is-known c.in-Known.target.value c.in-Known.label c.in-Known.sigma.value (values c.in-Known.kids.items) c.args.self.now (ap timed_of (sym c.in-Known.is) ∙ c.self.view_is) line in
    let same = ap (λ (ks : List Shared). means line (values ks)) c.deref-kid-items.ensures.value in
    let test : is_long_step c.args.db.now (bound theta x) ≡ true = long-known-bound c.args.db.now theta c.requires.keys target c.in-Known.label sigma kids x is
    ∙ ap (λ (t : Text). is_long_known theta (text_now line t) (applied sigma (statement_of c.args.db.now c.in-Known.label)) sigma) (sym c.deref-in-Known.ensures)
    ∙ ap (λ (v : Values). is_long_known theta (text_now line c.deref-in-Known.result.now) (applied (sigma_now line v) (statement_of c.args.db.now c.in-Known.label)) (sigma_now line v)) (sym c.deref-in-Known-2.ensures)
    ∙ sym c.in_ok-is_long_known-in-Known.ensures ∙ c.if-branch.true in
    first-end (is_long_step c.args.db.now) true (applied theta target) c.in-Known.label (with_values theta sigma) (map (bound theta) kids) (map (bound theta) items) (bound theta x) c.loop-kid.kid-index c.args.first c.loop-kid.next
    (bound-is theta target c.in-Known.label sigma kids x is) (ap (map (bound theta)) same) (omega (arith, c.loop-kid-test.false, many-means line c.deref-kid-items.result.now, many-bound theta items))
    c.loop-kid.invariant.number c.loop-kid.invariant.so_far test

pub returns-else-branch : goal.returns-else-branch
returns-else-branch t c =
    let line = c.args.line.now in
    let x = mean c.args.self.now line in
    let kids = means line (values c.in-Known.kids.items) in
    let items = means line (values c.deref-kid-items.result.now) in
    let theta = c.args.theta.now in
    let target = text_now line c.in-Known.target.value in
    let sigma = sigma_now line c.in-Known.sigma.value in
    let is = is-known c.in-Known.target.value c.in-Known.label c.in-Known.sigma.value (values c.in-Known.kids.items) c.args.self.now (ap timed_of (sym c.in-Known.is) ∙ c.self.view_is) line in
    let same = ap (λ (ks : List Shared). means line (values ks)) c.deref-kid-items.ensures.value in
    let test : is_long_step c.args.db.now (bound theta x) ≡ false = long-known-bound c.args.db.now theta c.requires.keys target c.in-Known.label sigma kids x is
    ∙ ap (λ (t : Text). is_long_known theta (text_now line t) (applied sigma (statement_of c.args.db.now c.in-Known.label)) sigma) (sym c.deref-in-Known.ensures)
    ∙ ap (λ (v : Values). is_long_known theta (text_now line c.deref-in-Known.result.now) (applied (sigma_now line v) (statement_of c.args.db.now c.in-Known.label)) (sigma_now line v)) (sym c.deref-in-Known-2.ensures)
    ∙ sym c.in_ok-is_long_known-in-Known.ensures ∙ c.if-branch.false in
    first-end (is_long_step c.args.db.now) false (applied theta target) c.in-Known.label (with_values theta sigma) (map (bound theta) kids) (map (bound theta) items) (bound theta x) c.loop-kid.kid-index c.args.first c.loop-kid.next
    (bound-is theta target c.in-Known.label sigma kids x is) (ap (map (bound theta)) same) (omega (arith, c.loop-kid-test.false, many-means line c.deref-kid-items.result.now, many-bound theta items))
    c.loop-kid.invariant.number c.loop-kid.invariant.so_far test

pub returns-then-is_long : goal.returns-then-is_long
returns-then-is_long t c =
    let line = c.args.line.now in
    let is = is-unknown c.in-Unknown.target.value c.args.self.now (ap timed_of (sym c.in-Unknown.is) ∙ c.self.view_is) line in
    let told : c.in_ok-string-in-Unknown.string ≡ text_now line c.in-Unknown.target.value = c.in_ok-string-in-Unknown.ensures
    ∙ ap (λ (t : Text). string_now line t.birth c.deref-in-Unknown-2.result.now.string) c.deref-in-Unknown.ensures
    ∙ ap (λ (t : Text). string_now line c.in-Unknown.target.value.birth t.string) c.deref-in-Unknown-2.ensures in
    first-unknown c.args.db.now c.args.theta.now (text_now line c.in-Unknown.target.value) (mean c.args.self.now line) c.args.first true is (ap (λ (s : List WSym). is_long (applied c.args.theta.now s)) (sym told) ∙ sym c.is_long.ensures ∙ c.if-is_long.true)

pub returns-else-is_long : goal.returns-else-is_long
returns-else-is_long t c =
    let line = c.args.line.now in
    let is = is-unknown c.in-Unknown.target.value c.args.self.now (ap timed_of (sym c.in-Unknown.is) ∙ c.self.view_is) line in
    let told : c.in_ok-string-in-Unknown.string ≡ text_now line c.in-Unknown.target.value = c.in_ok-string-in-Unknown.ensures
    ∙ ap (λ (t : Text). string_now line t.birth c.deref-in-Unknown-2.result.now.string) c.deref-in-Unknown.ensures
    ∙ ap (λ (t : Text). string_now line c.in-Unknown.target.value.birth t.string) c.deref-in-Unknown-2.ensures in
    first-unknown c.args.db.now c.args.theta.now (text_now line c.in-Unknown.target.value) (mean c.args.self.now line) c.args.first false is (ap (λ (s : List WSym). is_long (applied c.args.theta.now s)) (sym told) ∙ sym c.is_long.ensures ∙ c.if-is_long.false)
