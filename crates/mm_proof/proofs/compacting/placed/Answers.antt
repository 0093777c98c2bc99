use Rattle.std.proofs.Common.{◌≡◌, ℕ, ◌∷◌, ◌++◌, [], ap, ◌∙◌, take, length, subst}
use Rattle.mm_proof.specs.Trees.{trees_of}
use Rattle.mm_proof.specs.Compacting.{written}
use Rattle.mm_proof.specs.Parts.{start_of, Keeps}
use Rattle.mm_proof.specs.declared.written.Step.TheVariants.{Back}
use Rattle.mm_proof.proofs.Placing.{placed_back, placed_whole}
use Rattle.mm_proof.proofs.compacting.placed.Goals as goal

pub returns-in-Some : goal.returns-in-Some
returns-in-Some c first known w ts is closed parts below steps =
    let count : c.len.result ≡ length (written w (trees_of ts)).steps = c.len.ensures ∙ c.args.steps.now.ok.0 ∙ ap length steps in
    let starts = c.start_of-start.ensures ∙ ap (λ m. start_of m c.args.children.now) count in
    let left = c.in_ok-push.ensures.items ∙ ap (λ x. x ++ Back c.in-Some.place ∷ []) (c.truncate.ensures.items ∙ ap (take c.start_of-start.result) steps) in
    placed_back first c.args.table.now c.joined.new.table known w ts c.args.children.now c.args.label c.in_ok-name.name c.start_of-start.result c.is_known-known.result
    is closed parts below c.in_ok-name.ensures c.is_known-known.ensures starts c.in-Some.place c.push.new.self.items c.in-Some.ensures left

pub returns : goal.returns
returns c first known w ts is closed parts below steps =
    let count : c.len.result ≡ length (written w (trees_of ts)).steps = c.len.ensures ∙ c.args.steps.now.ok.0 ∙ ap length steps in
    let again : c.len-2.result ≡ length (written w (trees_of ts)).steps = c.len-2.ensures ∙ c.args.steps.now.ok.0 ∙ ap length steps in
    let starts = c.start_of-start.ensures ∙ ap (λ m. start_of m c.args.children.now) count in
    let P : ℕ → Type 0 = λ m. Keeps c.is_known-known.result c.joined.new.table c.keep.new.table c.in_ok-name.name m in
    let left = c.in_ok-push-2.ensures.items ∙ ap (λ x. x ++ c.step_named.result ∷ []) steps ∙ ap (λ s. (written w (trees_of ts)).steps ++ s ∷ []) c.step_named.ensures in
    placed_whole first c.args.table.now c.joined.new.table known w ts c.args.children.now c.args.label c.in_ok-name.name c.start_of-start.result c.is_known-known.result
    is closed parts below c.in_ok-name.ensures c.is_known-known.ensures starts c.keep.new.table c.push-2.new.self.items c.in_default.ensures (subst P again c.keep.ensures) left
