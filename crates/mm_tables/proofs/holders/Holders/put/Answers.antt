use Rattle.std.proofs.Common.{◌<◌, ap, arith, length}
use Rattle.std.proofs.lemmas.List.{length-map}
use Rattle.mm_tables.proofs.Numbered.{put_ok, put_err, on_err}
use Rattle.mm_tables.proofs.holders.Holders.put.Goals as goal

pub returns-in_err-push-clause-err : goal.returns-in_err-push-clause-err
returns-in_err-push-clause-err c =
    let vs = c.self.inside.numbers.items in
    let small : c.args.variable < length vs = omega (arith, c.requires, ap length c.self.view_is, length-map vs (λ v. v.items)) in
    on_err c.from_residual.result _ (λ n. put_err vs c.args.variable n c.index_mut.result.now c.push.new.self c.args.self.now small c.index_mut.ensures.value c.in_err-push.ensures.items c.self.view_is)

pub returns-clause-ok : goal.returns-clause-ok
returns-clause-ok c = λ n.
    let vs = c.self.inside.numbers.items in
    let small : c.args.variable < length vs = omega (arith, c.requires, ap length c.self.view_is, length-map vs (λ v. v.items)) in
    put_ok vs c.args.variable c.args.number n c.index_mut.result.now c.push.new.self c.args.self.now small c.index_mut.ensures.value c.in_ok-push.ensures.items c.self.view_is
