use Rattle.std.proofs.Common.{◌∷◌, [], sym, ◌∙◌, ap, Some, None}
use Rattle.std.proofs.lemmas.Bool.Decides.{Decides-eqb}
use Rattle.std.proofs.lemmas.Slice.Eq.{strip_suffix_is}
use Rattle.mm_lines.specs.Parts.{without_cr}
use Rattle.mm_lines.proofs.PieceLemmas.{without_cr_yes, without_cr_no}
use Rattle.mm_lines.proofs.cut.without_cr.Goals as goal

pub returns-in-Some : goal.returns-in-Some
returns-in-Some c =
    let is = strip_suffix_is Decides-eqb c.args.bytes.now (13 ∷ []) (Some c.in-Some.front) c.in-Some.ensures.cases in
    sym (ap without_cr is ∙ without_cr_yes c.in-Some.front.now)

pub returns-in-None : goal.returns-in-None
returns-in-None c = sym (without_cr_no c.args.bytes.now (strip_suffix_is Decides-eqb c.args.bytes.now (13 ∷ []) None c.in-None.ensures.cases))
