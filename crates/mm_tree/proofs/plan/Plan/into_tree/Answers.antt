use Rattle.std.proofs.Common.{length, get_or}
use Rattle.mm_plain.specs.declared.plain.Plain.{Plain}
use Rattle.mm_tree.specs.Plans.{grove_of, no_tree}
use Rattle.mm_tree.proofs.Made.{if-ok}
use Rattle.mm_tree.proofs.PlanLemmas.{planned-proof, planned-sound, root-is}
use Rattle.mm_tree.proofs.plan.Plan.into_tree.Goals as goal

pub rooted-requires-clause-sound : goal.rooted-requires-clause-sound
rooted-requires-clause-sound g c = planned-sound c.args.self.now c.in-Some.root.value (length c.new.result.items) c.args.next c.requires.plan c.requires.one c.requires.low c.requires.next.0 c.requires.next.1
    (root-is (grove_of c.args.self.now).standing c.in_ok-nodes.nodes.items c.pop.new.self.items c.in-Some.root c.requires.one c.in_ok-nodes.ensures.nodes c.in-Some.ensures.items)

pub returns-clause-proof : goal.returns-clause-proof
returns-clause-proof g c =
    let x : Plain = get_or (grove_of c.args.self.now).standing 0 no_tree in
    if-ok c.rooted.result _ _
    (λ t h. planned-proof x c.in-Some.root.value c.new.result.items c.args.next t.proof
    (root-is (grove_of c.args.self.now).standing c.in_ok-nodes.nodes.items c.pop.new.self.items c.in-Some.root c.requires.one c.in_ok-nodes.ensures.nodes c.in-Some.ensures.items) c.new.ensures.items h) c.rooted.ensures.proof
