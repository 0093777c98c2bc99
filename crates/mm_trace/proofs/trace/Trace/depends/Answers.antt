use Rattle.std.proofs.Common.{◌≡◌, arith, subst, ℕ}
use Rattle.mm_trace.specs.Marks.{AreMarks}
use Rattle.mm_trace.specs.Traces.{depends_in}
use Rattle.mm_trace.proofs.Spreading.{depends_by_marks, depends_more}
use Rattle.mm_trace.proofs.trace.Trace.depends.Goals as goal

pub loop-place-preserved : goal.loop-place-preserved
loop-place-preserved c =
    depends_more c.args.self.now c.requires c.loop-place.place c.args.on.0 c.loop-place.marks.items c.as_slice.result.now c.push.new.self.items c.used_at.result.now c.some_rests-rests.result c.loop-place.invariant
    c.used_at.ensures c.as_slice.ensures.value c.some_rests-rests.ensures c.in_ok-push.ensures.items

pub returns : goal.returns
returns c =
    let whole : c.loop-place.place ≡ c.args.id.0 = omega arith in
    let marks : AreMarks (λ n. depends_in c.args.self.now n c.args.on.0) c.args.id.0 c.loop-place.marks.items =
    subst (λ (k : ℕ). AreMarks (λ n. depends_in c.args.self.now n c.args.on.0) k c.loop-place.marks.items) whole c.loop-place.invariant in
    depends_by_marks c.args.self.now c.requires c.args.id.0 c.args.on.0 c.loop-place.marks.items c.as_slice-2.result.now c.used_at-2.result.now c.some_rests.result marks c.used_at-2.ensures c.as_slice-2.ensures.value c.some_rests.ensures
