use Rattle.std.proofs.Common.{refl, sym, ◌∙◌}
use Rattle.mm_layout.proofs.Growing.{laid-same, laid-next}
use Rattle.mm_layout.proofs.layout.Layout.token.Goals as goal

pub returns-in_ok-append-clause-ok : goal.returns-in_ok-append-clause-ok
returns-in_ok-append-clause-ok c = λ ts is.
    laid-same ts c.args.token.now c.args.self.now c.self.inside.text.items c.append.new.text.items c.self.inside.column _ c.self.view_is is (sym c.fits.ensures ∙ c.if-fits.true) c.in_ok-append.ensures.ok refl

pub returns-in_ok-append-2-clause-ok : goal.returns-in_ok-append-2-clause-ok
returns-in_ok-append-2-clause-ok c = λ ts is.
    laid-next ts c.args.token.now c.args.self.now c.self.inside.text.items c.append-else-fits.new.text.items c.self.inside.column c.self.view_is is (sym c.fits.ensures ∙ c.if-fits.false) c.in_ok-append-2.ensures.ok
