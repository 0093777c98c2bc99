use Rattle.std.proofs.Common.{◌≡◌, ◌+◌, ℕ, List, [], ◌∷◌, ap, sym, subst, ◌∙◌, arith, length}
use Rattle.std.specs.List.{All}
use Rattle.mm_subst.specs.Statements.{statement_of}
use Rattle.mm_plain.specs.Numbers.{IsOwnLabel}
use Rattle.mm_plain.specs.Rows.{Row}
use Rattle.mm_plain.specs.Valid.{IsValid}
use Rattle.mm_tree.specs.Labelled.{draws_all}
use Rattle.mm_tree.specs.Written.{written}
use Rattle.mm_tree.proofs.BegunLemmas.{Begun, begun, few_works, is_the_one, none_popped, one_node, own_all, popped_root, proof_root, refused, sound_root, valid_begun}
use Rattle.mm_tree.proofs.RowLemmas.{count_rows, own_rows}
use Rattle.mm_tree.proofs.tree.Tree.of_labels.Goals as goal

pub draws-requires : goal.draws-requires
draws-requires g c = own_all c.args.db.now c.args.at.0 c.args.labels.now c.requires.own c.requires.stand

pub returns-in_err-next-clause-begun : goal.returns-in_err-next-clause-begun
returns-in_err-next-clause-begun g c =
    refused c.args.db.now c.args.at.0 c.args.labels.now (begun c.args.db.now c.args.at.0 c.args.labels.now c.requires.fold) c.from_residual.result c.in_err-next.field-0.0 c.from_residual.ensures.1 c.from_residual.ensures.0 c.in_err-next.ensures

pub fresh_rows-requires-clause-own : goal.fresh_rows-requires-clause-own
fresh_rows-requires-clause-own g c = own_all c.args.db.now c.args.at.0 c.args.labels.now c.requires.own c.requires.stand

pub nodes_of-requires-clause-own : goal.nodes_of-requires-clause-own
nodes_of-requires-clause-own g c =
    let own = own_all c.args.db.now c.args.at.0 c.args.labels.now c.requires.own c.requires.stand in
    subst (λ (rows : List Row). All (λ (r : Row). IsOwnLabel c.args.db.now r.label) rows) (sym c.in_ok-rows.ensures)
    (own_rows c.args.db.now (c.in_ok-next.field-0 + 1) (c.in_ok-goal.goal ∷ []) c.args.labels.now own)

pub nodes_of-requires-clause-few : goal.nodes_of-requires-clause-few
nodes_of-requires-clause-few g c = omega (arith, c.requires.few, ap length c.in_ok-rows.ensures, count_rows c.args.db.now (c.in_ok-next.field-0 + 1) (c.in_ok-goal.goal ∷ []) c.args.labels.now)

pub returns-in_err-nodes-clause-cost : goal.returns-in_err-nodes-clause-cost
returns-in_err-nodes-clause-cost g c = omega (arith, c.nodes_of.ensures.cost, ap length c.in_ok-rows.ensures, count_rows c.args.db.now (c.in_ok-next.field-0 + 1) (c.in_ok-goal.goal ∷ []) c.args.labels.now)

pub rooted-requires-clause-sound : goal.rooted-requires-clause-sound
rooted-requires-clause-sound g c =
    let b : Begun c.args.db.now c.args.at.0 c.args.labels.now = begun c.args.db.now c.args.at.0 c.args.labels.now c.requires.fold in
    let next : c.in_ok-next.field-0 + 1 ≡ draws_all c.args.db.now c.args.labels.now + 1 = ap (λ (n : ℕ). n + 1) c.in_ok-next.ensures.0 in
    sound_root c.args.db.now c.args.at.0 c.args.labels.now b c.in-Some.root.value (length c.new.result.items) (c.in_ok-next.field-0 + 1)
    (popped_root c.in_ok-nodes.nodes.items c.pop.new.self.items c.in-Some.root (written 0 b.proof.plain)
    (one_node c.args.db.now c.args.at.0 c.args.labels.now b c.in_ok-rows.rows.items c.in_ok-nodes.nodes.items c.in_ok-goal.goal (c.in_ok-next.field-0 + 1) c.requires.stand c.in_ok-goal.ensures next c.in_ok-rows.ensures c.in_ok-nodes.ensures.nodes)
    c.in-Some.ensures.items) c.requires.few next c.in_ok-next.ensures.1

pub returns-in_err-rooted-in-Some-clause-cost : goal.returns-in_err-rooted-in-Some-clause-cost
returns-in_err-rooted-in-Some-clause-cost g c = omega (arith, c.nodes_of.ensures.cost, ap length c.in_ok-rows.ensures, count_rows c.args.db.now (c.in_ok-next.field-0 + 1) (c.in_ok-goal.goal ∷ []) c.args.labels.now)

pub unreachable-requires : goal.unreachable-requires
unreachable-requires g c =
    let b : Begun c.args.db.now c.args.at.0 c.args.labels.now = begun c.args.db.now c.args.at.0 c.args.labels.now c.requires.fold in
    let next : c.in_ok-next.field-0 + 1 ≡ draws_all c.args.db.now c.args.labels.now + 1 = ap (λ (n : ℕ). n + 1) c.in_ok-next.ensures.0 in
    none_popped c.in_ok-nodes.nodes.items (written 0 b.proof.plain)
    (one_node c.args.db.now c.args.at.0 c.args.labels.now b c.in_ok-rows.rows.items c.in_ok-nodes.nodes.items c.in_ok-goal.goal (c.in_ok-next.field-0 + 1) c.requires.stand c.in_ok-goal.ensures next c.in_ok-rows.ensures c.in_ok-nodes.ensures.nodes)
    (omega (arith, c.in-None.ensures.cases.0, c.in_ok-nodes.nodes.ok.0))

pub returns-clause-begun : goal.returns-clause-begun
returns-clause-begun g c = λ p h.
    let b : Begun c.args.db.now c.args.at.0 c.args.labels.now = begun c.args.db.now c.args.at.0 c.args.labels.now c.requires.fold in
    let next : c.in_ok-next.field-0 + 1 ≡ draws_all c.args.db.now c.args.labels.now + 1 = ap (λ (n : ℕ). n + 1) c.in_ok-next.ensures.0 in
    let one = one_node c.args.db.now c.args.at.0 c.args.labels.now b c.in_ok-rows.rows.items c.in_ok-nodes.nodes.items c.in_ok-goal.goal (c.in_ok-next.field-0 + 1) c.requires.stand c.in_ok-goal.ensures next c.in_ok-rows.ensures c.in_ok-nodes.ensures.nodes in
    let root = popped_root c.in_ok-nodes.nodes.items c.pop.new.self.items c.in-Some.root (written 0 b.proof.plain) one c.in-Some.ensures.items in
    let same : b.proof ≡ p = is_the_one c.args.db.now c.args.at.0 c.args.labels.now b p h in (
      proof_root c.args.db.now c.args.at.0 c.args.labels.now b c.in-Some.root.value c.new.result.items (c.in_ok-next.field-0 + 1) c.in_ok-rooted-in-Some.field-0.proof root c.new.ensures.items next c.in_ok-rooted-in-Some.ensures.proof ∙ same,
      few_works c.args.db.now c.args.at.0 c.args.labels.now b p same c.in_ok-next.ensures.1,
    )

pub returns-clause-valid : goal.returns-clause-valid
returns-clause-valid g c =
    let b : Begun c.args.db.now c.args.at.0 c.args.labels.now = begun c.args.db.now c.args.at.0 c.args.labels.now c.requires.fold in
    let next : c.in_ok-next.field-0 + 1 ≡ draws_all c.args.db.now c.args.labels.now + 1 = ap (λ (n : ℕ). n + 1) c.in_ok-next.ensures.0 in
    let one = one_node c.args.db.now c.args.at.0 c.args.labels.now b c.in_ok-rows.rows.items c.in_ok-nodes.nodes.items c.in_ok-goal.goal (c.in_ok-next.field-0 + 1) c.requires.stand c.in_ok-goal.ensures next c.in_ok-rows.ensures c.in_ok-nodes.ensures.nodes in
    let root = popped_root c.in_ok-nodes.nodes.items c.pop.new.self.items c.in-Some.root (written 0 b.proof.plain) one c.in-Some.ensures.items in
    subst (IsValid c.args.db.now c.args.at.0 (statement_of c.args.db.now c.args.at.0))
    (sym (proof_root c.args.db.now c.args.at.0 c.args.labels.now b c.in-Some.root.value c.new.result.items (c.in_ok-next.field-0 + 1) c.in_ok-rooted-in-Some.field-0.proof root c.new.ensures.items next c.in_ok-rooted-in-Some.ensures.proof))
    (valid_begun c.args.db.now c.args.at.0 c.args.labels.now b c.requires.stand c.requires.few c.in_ok-next.ensures.1)

pub returns-clause-cost : goal.returns-clause-cost
returns-clause-cost g c = omega (arith, c.nodes_of.ensures.cost, ap length c.in_ok-rows.ensures, count_rows c.args.db.now (c.in_ok-next.field-0 + 1) (c.in_ok-goal.goal ∷ []) c.args.labels.now)
