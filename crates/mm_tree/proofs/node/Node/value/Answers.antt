use Rattle.std.proofs.Common.{◌≡◌, IfOk, ap, sym, subst, ◌∙◌}
use Rattle.mm_subst.specs.Substitutions.{Pairs, value_at}
use Rattle.mm_subst.specs.declared.symbol.WSym.TheVariants.{Var}
use Rattle.mm_plain.specs.declared.plain.Plain.{Plain}
use Rattle.mm_plain.specs.Sources.{sigma_of}
use Rattle.mm_plain.proofs.Read.{sigma_of-known, sigma_of-unknown}
use Rattle.mm_tree.specs.Meanings.{means, text_now, sigma_now}
use Rattle.mm_tree.specs.View.{timed_of, values}
use Rattle.mm_tree.proofs.Kids.{is-known, is-unknown}
use Rattle.mm_tree.proofs.node.Node.value.Goals as goal

pub returns-in-Known : goal.returns-in-Known
returns-in-Known c =
    let line = c.args.line.now in
    subst (λ (ps : Pairs). IfOk c.value_now.result (λ s. s ≡ value_at ps (Var c.args.v.0)))
    (ap (sigma_now line) c.deref.ensures
    ∙ sym (sigma_of-known (text_now line c.in-Known.field-0.value) c.in-Known.field-1 (sigma_now line c.in-Known.sigma.value) (means line (values c.in-Known.field-3.items)))
    ∙ ap sigma_of (is-known c.in-Known.field-0.value c.in-Known.field-1 c.in-Known.sigma.value (values c.in-Known.field-3.items) c.args.self.now (ap timed_of (sym c.in-Known.is) ∙ c.self.view_is) line))
    c.value_now.ensures

pub returns-in-Unknown : goal.returns-in-Unknown
returns-in-Unknown c =
    let line = c.args.line.now in
    sym (ap (λ (x : Plain). value_at (sigma_of x) (Var c.args.v.0)) (sym (is-unknown c.in-Unknown.field-0.value c.args.self.now (ap timed_of (sym c.in-Unknown.is) ∙ c.self.view_is) line))
    ∙ ap (λ (ps : Pairs). value_at ps (Var c.args.v.0)) (sigma_of-unknown (text_now line c.in-Unknown.field-0.value)))
