use Rattle.std.proofs.Common.{◌++◌, ◌∷◌, [], ap, sym, subst, ◌∙◌, map, ◌≡◌, ◌<◌, List}
use Rattle.mm_subst.specs.declared.symbol.WSym.{WSym}
use Rattle.mm_tree.specs.Reading.{Parts, meant, weights}
use Rattle.mm_tree.proofs.Readings.{part, push-part, same-empty, less-empty, same-plain, less-plain, same-bound, less-bound}
use Rattle.mm_tree.proofs.line.read_symbol.Goals as goal

pub returns-in_default-clause-same : goal.returns-in_default-clause-same
returns-in_default-clause-same c = same-empty c.args.line.now (map part c.args.left.now.items) c.args.out.now.items c.args.symbols.now c.args.from c.in_default.ensures.cases

pub returns-in_default-clause-less : goal.returns-in_default-clause-less
returns-in_default-clause-less c = less-empty c.args.line.now (map part c.args.left.now.items) c.args.symbols.now c.args.from

pub returns-in_ok-push-in-Some-bound-clause-same : goal.returns-in_ok-push-in-Some-bound-clause-same
returns-in_ok-push-in-Some-bound-clause-same c =
    let ps : Parts = map part c.args.left.now.items in
    let one : map part c.push.new.self.items ≡ ps ++ (c.in-Some.rest.now, c.args.from) ∷ [] = push-part c.args.left.now.items c.push.new.self.items _ c.in_ok-push.ensures.items in
    let two : map part c.push-in-Some-bound.new.self.items ≡ map part c.push.new.self.items ++ part c.in-Some-bound.value ∷ [] = push-part c.push.new.self.items c.push-in-Some-bound.new.self.items _ c.in_ok-push-in-Some-bound.ensures.items in
    ap (λ (qs : Parts). c.args.out.now.items ++ meant c.args.line.now qs) (two ∙ ap (λ (qs : Parts). qs ++ part c.in-Some-bound.value ∷ []) one)
    ∙ same-bound c.args.line.now ps c.args.out.now.items c.args.symbols.now c.in-Some.rest.now c.in-Some-bound.value.0.now c.in-Some.first.now c.args.from c.in-Some-bound.value.1 c.in-Some.ensures.cases.0 c.in-Some-bound.ensures

pub returns-in_ok-push-in-Some-bound-clause-less : goal.returns-in_ok-push-in-Some-bound-clause-less
returns-in_ok-push-in-Some-bound-clause-less c =
    let ps : Parts = map part c.args.left.now.items in
    let one : map part c.push.new.self.items ≡ ps ++ (c.in-Some.rest.now, c.args.from) ∷ [] = push-part c.args.left.now.items c.push.new.self.items _ c.in_ok-push.ensures.items in
    let two : map part c.push-in-Some-bound.new.self.items ≡ map part c.push.new.self.items ++ part c.in-Some-bound.value ∷ [] = push-part c.push.new.self.items c.push-in-Some-bound.new.self.items _ c.in_ok-push-in-Some-bound.ensures.items in
    subst (λ (qs : Parts). weights c.args.line.now qs < weights c.args.line.now (ps ++ (c.args.symbols.now, c.args.from) ∷ [])) (sym (two ∙ ap (λ (qs : Parts). qs ++ part c.in-Some-bound.value ∷ []) one))
    (less-bound c.args.line.now ps c.args.symbols.now c.in-Some.rest.now c.in-Some-bound.value.0.now c.in-Some.first.now c.args.from c.in-Some-bound.value.1 c.in-Some.ensures.cases.0 c.in-Some-bound.ensures)

pub returns-in_ok-push-in-None-clause-same : goal.returns-in_ok-push-in-None-clause-same
returns-in_ok-push-in-None-clause-same c =
    let ps : Parts = map part c.args.left.now.items in
    let one : map part c.push.new.self.items ≡ ps ++ (c.in-Some.rest.now, c.args.from) ∷ [] = push-part c.args.left.now.items c.push.new.self.items _ c.in_ok-push.ensures.items in
    ap (λ (qs : Parts). c.push-in-None.new.self.items ++ meant c.args.line.now qs) one
    ∙ ap (λ (t : List WSym). t ++ meant c.args.line.now (ps ++ (c.in-Some.rest.now, c.args.from) ∷ [])) c.in_ok-push-in-None.ensures.items
    ∙ same-plain c.args.line.now ps c.args.out.now.items c.args.symbols.now c.in-Some.rest.now c.in-Some.first.now c.args.from c.in-Some.ensures.cases.0 c.in-None.ensures

pub returns-in_ok-push-in-None-clause-less : goal.returns-in_ok-push-in-None-clause-less
returns-in_ok-push-in-None-clause-less c =
    let ps : Parts = map part c.args.left.now.items in
    let one : map part c.push.new.self.items ≡ ps ++ (c.in-Some.rest.now, c.args.from) ∷ [] = push-part c.args.left.now.items c.push.new.self.items _ c.in_ok-push.ensures.items in
    subst (λ (qs : Parts). weights c.args.line.now qs < weights c.args.line.now (ps ++ (c.args.symbols.now, c.args.from) ∷ [])) (sym one)
    (less-plain c.args.line.now ps c.args.symbols.now c.in-Some.rest.now c.in-Some.first.now c.args.from c.in-Some.ensures.cases.0)
