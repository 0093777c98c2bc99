use Rattle.std.proofs.Common.{◌≡◌, ◌++◌, ℕ, List, ◌∙◌, sym, ap, get_or, arith, None, Some}
use Rattle.std.proofs.lemmas.Bool.Decides.{Decides-eqb}
use Rattle.std.proofs.lemmas.Slice.Eq.{strip_prefix_is}
use Rattle.mm_stack.specs.Seats.{value_in}
use Rattle.mm_stack.proofs.Instances.{begins_otherwise, begins_so}
use Rattle.mm_stack.proofs.instance.is_instance.Goals as goal

pub returns-in-None : goal.returns-in-None
returns-in-None c =
    let value = value_in c.args.values.now c.args.stack.now.stack in
    let symbols = c.args.symbols.now in
    let i = c.loop-symbol.symbol-index in
    let rest = c.loop-symbol.rest.now in
    let differs : (more : List ℕ) → rest ≡ value (get_or symbols i 0) ++ more → ⊥ =
    λ more e. strip_prefix_is Decides-eqb rest c.value.result.now None c.in-None.ensures.cases more (e ∙ ap (λ v. v ++ more) (sym c.value.ensures)) in
    sym (begins_otherwise value symbols rest i (omega arith) differs) ∙ c.loop-symbol.invariant

pub loop-symbol-preserved : goal.loop-symbol-preserved
loop-symbol-preserved c =
    let value = value_in c.args.values.now c.args.stack.now.stack in
    let symbols = c.args.symbols.now in
    let i = c.loop-symbol.symbol-index in
    let rest = c.loop-symbol.rest.now in
    let left = c.in-Some.left.now in
    let begins : rest ≡ value (get_or symbols i 0) ++ left =
    strip_prefix_is Decides-eqb rest c.value.result.now (Some c.in-Some.left) c.in-Some.ensures.cases ∙ ap (λ v. v ++ left) c.value.ensures in
    begins_so value symbols rest left i (omega arith) begins ∙ c.loop-symbol.invariant
