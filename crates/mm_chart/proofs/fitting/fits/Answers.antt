use Rattle.std.proofs.Common.{◌≡◌, ◌&&◌, List, Option, Bool, true, not, sym, ◌∙◌, ap}
use Rattle.std.specs.List.{list_all}
use Rattle.mm_subst.specs.declared.brackets.Brackets.{Brackets}
use Rattle.mm_unify.specs.Forbidden.{forbidden_by}
use Rattle.mm_chart.specs.Items.{are_parted}
use Rattle.mm_chart.specs.Items.{Goal, Grammar, value}
use Rattle.mm_chart.specs.Charts.{goals_of}
use Rattle.mm_chart.proofs.fitting.fits.Goals as goal

pub returns : goal.returns
returns c =
    let G : Grammar = c.args.rules.now in
    let gs : List Goal = goals_of c.args.text.now c.args.parts.now in
    let b : c.rules.inside.brackets ≡ G.brackets = ap (λ (g : Grammar). g.brackets) c.rules.view_is in
    let a : list_all (λ g. not ((forbidden_by G.brackets).at_end g.1)) gs ≡ true =
    ap (λ (o : Option Brackets). list_all (λ g. not ((forbidden_by o).at_end g.1)) gs) (sym b) ∙ sym c.in_ok-are_allowed.ensures ∙ c.if-not-branch.false in
    c.are_apart.ensures
    ∙ ap (λ (g : Grammar). list_all (λ p. are_parted g.groups (value gs p.0) (value gs p.1)) c.args.pairs.now) c.rules.view_is
    ∙ sym (ap (λ (k : Bool). k && list_all (λ p. are_parted G.groups (value gs p.0) (value gs p.1)) c.args.pairs.now) a)
