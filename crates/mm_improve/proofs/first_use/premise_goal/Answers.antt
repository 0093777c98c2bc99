use Rattle.std.proofs.Common.{◌≤◌, List, subst, sym, length}
use Rattle.mm_subst.specs.Applied.{most_symbols}
use Rattle.mm_subst.specs.Substitutions.{applied}
use Rattle.mm_subst.specs.declared.symbol.WSym.{WSym}
use Rattle.mm_plain.specs.Valid.{IsString, first_setting}
use Rattle.mm_improve.proofs.FoundValues.{premise_string}
use Rattle.mm_improve.proofs.first_use.premise_goal.Goals as goal

pub returns-in-Ok-clause-string : goal.returns-in-Ok-clause-string
returns-in-Ok-clause-string c = λ at h.
    subst (IsString (first_setting c.args.db.now at)) (sym c.in-Ok.ensures.0)
    (subst (λ (s : List WSym). IsString (first_setting c.args.db.now at) (applied c.args.sigma.now s)) (sym c.in_ok-hypothesis.ensures)
    (premise_string c.args.db.now at c.args.sigma.now c.args.id.0 h (subst (λ (s : List WSym). length (applied c.args.sigma.now s) ≤ most_symbols) c.in_ok-hypothesis.ensures c.in-Ok.ensures.1)))
