use Rattle.std.proofs.Common.{◌≡◌, ℕ, ◌<◌, ◌||◌, Bool, List, length, ap, sym, ◌∙◌, arith}
use Rattle.std.specs.List.{list_any}
use Rattle.mm_subst.specs.declared.symbol.WSym.{WSym}
use Rattle.mm_subst.specs.Substitutions.{Pairs}
use Rattle.mm_plain.specs.Occurring.{holds, occurs_in}
use Rattle.mm_tree.specs.Lines.{string_now}
use Rattle.mm_tree.specs.Meanings.{mean, means, text_now, sigma_now}
use Rattle.mm_tree.specs.View.{Shared, timed_of, values}
use Rattle.mm_tree.specs.declared.timed.Text.{Text}
use Rattle.mm_tree.specs.declared.timed.Values.{Values}
use Rattle.mm_tree.proofs.Kids.{is-known, is-unknown, many-means, mean-at}
use Rattle.mm_tree.proofs.Made.{if-ok}
use Rattle.mm_tree.proofs.Occurs.{occurs-dead, occurs-unknown, occurs-early, occurs-more, occurs-end}
use Rattle.mm_tree.proofs.occurring.+occurs_in.Goals as goal

abbrev any_holds : ℕ → Pairs → Bool
any_holds n s = list_any (λ (p : WSym × List WSym). holds n p.1) s

pub returns-then-not-is_live : goal.returns-then-not-is_live
returns-then-not-is_live t c = occurs-dead c.args.number c.args.line.now c.args.node.now (sym c.is_live.ensures ∙ c.if-not-is_live.true)

pub returns-then-branch : goal.returns-then-branch
returns-then-branch t c =
    let line = c.args.line.now in
    let items = means line (values c.deref-kid-items.result.now) in
    let h : c.loop-kid.kid-index < length items = omega (arith, c.loop-kid-test.true, many-means line c.deref-kid-items.result.now) in
    occurs-early c.args.number (text_now line c.in-Known.target.value) c.in-Known.field-1 (sigma_now line c.in-Known.sigma.value) (means line (values c.in-Known.kids.items)) items (mean c.args.node.now line) (mean c.deref.result.now line) c.loop-kid.kid-index
    (is-known c.in-Known.target.value c.in-Known.field-1 c.in-Known.sigma.value (values c.in-Known.kids.items) c.args.node.now (ap timed_of (sym c.in-Known.is) ∙ c.node.view_is) line)
    (ap (λ (ks : List Shared). means line (values ks)) c.deref-kid-items.ensures.value) h
    (mean-at line c.deref-kid-items.result.now c.loop-kid.kid-index c.kid-item.result c.deref.result.now c.loop-kid-test.true c.kid-item.is c.deref.ensures)
    (sym c.in_ok-occurs_in-in-Known.ensures ∙ c.if-branch.true)

pub loop-kid-preserved : goal.loop-kid-preserved
loop-kid-preserved t c =
    let line = c.args.line.now in
    let items = means line (values c.deref-kid-items.result.now) in
    let h : c.loop-kid.kid-index < length items = omega (arith, c.loop-kid-test.true, many-means line c.deref-kid-items.result.now) in
    occurs-more c.args.number items c.loop-kid.kid-index (mean c.deref.result.now line) h
    (mean-at line c.deref-kid-items.result.now c.loop-kid.kid-index c.kid-item.result c.deref.result.now c.loop-kid-test.true c.kid-item.is c.deref.ensures)
    c.loop-kid.invariant (sym c.in_ok-occurs_in-in-Known.ensures ∙ c.if-branch.false)

pub returns-then-branch-2 : goal.returns-then-branch-2
returns-then-branch-2 t c =
    let line = c.args.line.now in
    let n = c.args.number in
    let sigma = sigma_now line c.in-Known.sigma.value in
    let told : c.in_ok-holds_now-in-Known.field-0 ≡ holds n (text_now line c.in-Known.target.value) = c.in_ok-holds_now-in-Known.ensures
    ∙ ap (λ (u : Text). holds n (string_now line u.birth c.deref-in-Known-2.result.now.string)) c.deref-in-Known.ensures
    ∙ ap (λ (u : Text). holds n (string_now line c.in-Known.target.value.birth u.string)) c.deref-in-Known-2.ensures in
    sym (ap (λ (b : Bool). b || any_holds n sigma) (sym told ∙ c.if-branch-2.true))
    ∙ occurs-end n (text_now line c.in-Known.target.value) c.in-Known.field-1 sigma (means line (values c.in-Known.kids.items)) (means line (values c.deref-kid-items.result.now)) (mean c.args.node.now line) c.loop-kid.kid-index
    (is-known c.in-Known.target.value c.in-Known.field-1 c.in-Known.sigma.value (values c.in-Known.kids.items) c.args.node.now (ap timed_of (sym c.in-Known.is) ∙ c.node.view_is) line)
    (ap (λ (ks : List Shared). means line (values ks)) c.deref-kid-items.ensures.value) (omega (arith, c.loop-kid-test.false, many-means line c.deref-kid-items.result.now)) c.loop-kid.invariant

pub returns-else-branch-2 : goal.returns-else-branch-2
returns-else-branch-2 t c =
    let line = c.args.line.now in
    let n = c.args.number in
    let sigma = sigma_now line c.in-Known.sigma.value in
    let told : c.in_ok-holds_now-in-Known.field-0 ≡ holds n (text_now line c.in-Known.target.value) = c.in_ok-holds_now-in-Known.ensures
    ∙ ap (λ (u : Text). holds n (string_now line u.birth c.deref-in-Known-2.result.now.string)) c.deref-in-Known.ensures
    ∙ ap (λ (u : Text). holds n (string_now line c.in-Known.target.value.birth u.string)) c.deref-in-Known-2.ensures in
    if-ok c.has_value_with.result (λ b. b ≡ any_holds n (sigma_now line c.deref-in-Known-3.result.now)) (λ b. b ≡ occurs_in n (mean c.args.node.now line))
    (λ b e. e ∙ ap (λ (s : Values). any_holds n (sigma_now line s)) c.deref-in-Known-3.ensures
    ∙ sym (ap (λ (b : Bool). b || any_holds n sigma) (sym told ∙ c.if-branch-2.false))
    ∙ occurs-end n (text_now line c.in-Known.target.value) c.in-Known.field-1 sigma (means line (values c.in-Known.kids.items)) (means line (values c.deref-kid-items.result.now)) (mean c.args.node.now line) c.loop-kid.kid-index
    (is-known c.in-Known.target.value c.in-Known.field-1 c.in-Known.sigma.value (values c.in-Known.kids.items) c.args.node.now (ap timed_of (sym c.in-Known.is) ∙ c.node.view_is) line)
    (ap (λ (ks : List Shared). means line (values ks)) c.deref-kid-items.ensures.value) (omega (arith, c.loop-kid-test.false, many-means line c.deref-kid-items.result.now)) c.loop-kid.invariant)
    c.has_value_with.ensures

pub returns-in-Unknown : goal.returns-in-Unknown
returns-in-Unknown t c =
    let line = c.args.line.now in
    let n = c.args.number in
    if-ok c.holds_now-in-Unknown.result (λ b. b ≡ holds n (string_now line c.deref-in-Unknown.result.now.birth c.deref-in-Unknown-2.result.now.string)) (λ b. b ≡ occurs_in n (mean c.args.node.now line))
    (λ b e. occurs-unknown n (text_now line c.in-Unknown.target.value) (mean c.args.node.now line) b
    (is-unknown c.in-Unknown.target.value c.args.node.now (ap timed_of (sym c.in-Unknown.is) ∙ c.node.view_is) line)
    (e ∙ ap (λ (u : Text). holds n (string_now line u.birth c.deref-in-Unknown-2.result.now.string)) c.deref-in-Unknown.ensures
    ∙ ap (λ (u : Text). holds n (string_now line c.in-Unknown.target.value.birth u.string)) c.deref-in-Unknown-2.ensures))
    c.holds_now-in-Unknown.ensures
