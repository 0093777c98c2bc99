-- The proof of a goal, laid out alone, becomes a tree.
use Rattle.std.proofs.Common.{◌≡◌, ◌≤◌, ◌<◌, ◌+◌, ℕ, Bool, true, false, List, [], ◌∷◌, ◌++◌, Option, None, Some, Result, Ok, Err, length, get_or, refl, sym, ◌∙◌, ap, subst, arith}
use Rattle.std.specs.List.{sum_by}
use Rattle.std.proofs.lemmas.Bool.{true≢false}
use Rattle.std.proofs.lemmas.List.Sums.{sum_by-cons}
use Rattle.mm_subst.specs.declared.symbol.WSym.{WSym}
use Rattle.mm_plain.specs.declared.plain.Plain.{Plain}
use Rattle.mm_plain.specs.Shape.{Proof, height_of, size_of}
use Rattle.mm_plain.specs.Valid.{IsValid, most_levels, most_steps}
use Rattle.mm_tree.specs.Plans.{Grove, IsPlan, grove_of, no_grove, no_tree}
use Rattle.mm_tree.specs.Trees.{State}
use Rattle.mm_tree.specs.declared.plan.Plan.{Plan}
use Rattle.mm_improve.specs.Laying.{LaysFound}
use Rattle.mm_improve.specs.Proofs.{IsProofFor}
use Rattle.mm_improve.specs.Proving.{IsFound}
use Rattle.mm_improve.proofs.FoundKids.{plan-few}

-- the one tree of a plan
abbrev pub only_tree : Plan → Plain
only_tree p = get_or (grove_of p).standing 0 no_tree

pub record IsAlone (o : Option Plain) (p : Plan) : Type 0 where
  pub plan : IsPlan p
  pub one : length (grove_of p).standing ≡ 1
  pub is : o ≡ Some (only_tree p)
  pub few : size_of (only_tree p) ≤ most_steps
  pub low : height_of (only_tree p) ≤ most_levels

pub alone : (old new : Plan) (o : Option Plain) (b : Bool) → b ≡ true → grove_of old ≡ no_grove → LaysFound old o most_levels (Ok b) new → IsAlone o new
alone old new None b t e h = absurd (true≢false (sym t ∙ h.0))
alone old new (Some x) b t e h =
    let laid = h.1 in
    let standing : (grove_of new).standing ≡ x ∷ [] = laid.standing ∙ ap (λ (g : Grove). g.standing ++ x ∷ []) e in
    let same : only_tree new ≡ x = ap (λ xs. get_or xs 0 no_tree) standing in
    let few = plan-few new laid.plan in
    let low = laid.low in
    record {
      plan = laid.plan;
      one = ap length standing;
      is = ap (λ y. Some y) (sym same);
      few = omega (arith, few, ap (sum_by size_of) standing, sum_by-cons size_of x [], ap size_of same);
      low = omega (arith, low, ap height_of same);
    }

pub found_tree : (o : Option Plain) (p : Plan) (t : State) → IsAlone o p → t.proof ≡ record { plain = only_tree p; next = 1 } → IsFound (Ok (Some t)) o
found_tree o p t a e =
    let plain : t.proof.plain ≡ only_tree p = ap (λ (q : Proof). q.plain) e in
    let few = a.few in
    let low = a.low in
    (a.is ∙ ap (λ y. Some y) (sym plain), ap (λ (q : Proof). q.next) e, omega (arith, few, ap size_of plain), omega (arith, low, ap height_of plain))

pub valid_tree : (bytes : List ℕ) (at : ℕ) (goal : List WSym) (o : Option Plain) (p : Plan) (t : Proof) → IsAlone o p → t ≡ record { plain = only_tree p; next = 1 } → IsProofFor bytes at goal (only_tree p) → IsValid bytes at goal t
valid_tree bytes at goal o p t a e h = subst (IsValid bytes at goal) (sym e) (record {
  goal_is = h.goal_is;
  steps = h.sound;
  counter = (omega arith, omega arith);
  few = a.few;
  low = a.low;
})
