use Rattle.std.proofs.Common.{true, ap, sym, ◌∙◌, arith}
use Rattle.mm_plain.specs.declared.plain.Plain.{Plain}
use Rattle.mm_plain.specs.Numbers.{labels_in, unknowns_among}
use Rattle.mm_tree.specs.Versions.{line_of}
use Rattle.mm_tree.proofs.Shapes.{unknowns-mean}
use Rattle.mm_tree.proofs.Kids.{unknown_count-le-count}
use Rattle.mm_tree.proofs.tree.Tree.unknown_steps.Goals as goal

pub overflow_cast-result : goal.overflow_cast-result
overflow_cast-result c = omega (arith, c.unknowns.ensures, unknown_count-le-count c.hand.result.now, c.hand.ensures.few)

pub returns : goal.returns
returns c = c.unknowns.ensures ∙ sym (unknowns-mean (line_of c.args.self.now.versions true) c.hand.result.now) ∙ ap (λ (x : Plain). unknowns_among (labels_in x)) c.hand.ensures.plain
