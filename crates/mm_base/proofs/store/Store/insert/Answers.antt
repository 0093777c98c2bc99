use Rattle.std.proofs.Common.{ap}
use Rattle.mm_base.specs.Memory.{NamedFile}
use Rattle.mm_base.proofs.StoreLemmas.{replaced, added}
use Rattle.mm_base.proofs.store.Store.insert.Goals as goal

pub returns-in-Some-clause-ok : goal.returns-in-Some-clause-ok
returns-in-Some-clause-ok c =
    replaced c.self.inside.files.items c.args.self.now c.args.name.now c.args.bytes.now c.in-Some.place c.index_mut-file.result.now _ c.self.view_is c.in-Some.ensures c.index_mut-file.ensures.value (ap (λ (f : NamedFile). f.name) c.file.view_is) (c.in_ok-bytes.ensures.items_if_clones_equal (λ x y e. e))

pub returns-in_ok-push-in-None-clause-ok : goal.returns-in_ok-push-in-None-clause-ok
returns-in_ok-push-in-None-clause-ok c =
    added c.self.inside.files.items c.args.self.now c.push.new.self.items c.args.name.now c.args.bytes.now (record { name = c.in_ok-name-in-None.name.items; bytes = c.in_ok-bytes.bytes.items }) c.self.view_is c.in-None.ensures (c.in_ok-name-in-None.ensures.items_if_clones_equal (λ x y e. e)) (c.in_ok-bytes.ensures.items_if_clones_equal (λ x y e. e)) c.in_ok-push-in-None.ensures.items
