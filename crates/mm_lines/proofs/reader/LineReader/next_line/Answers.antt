use Rattle.std.proofs.Common.{◌≡◌, refl, ap, ◌∙◌, sym, Ok, Err, true, false}
use Rattle.mm_lines.specs.declared.next.Next.TheVariants.{Line, End}
use Rattle.std.proofs.lemmas.Result.{err_from_is_err_and}
use Rattle.mm_lines.proofs.NextLemmas.{finds_line, finds_last, finds_end, finds_none, lines_follow, over_follow, still_open, silent_there, sound_held, sound_anew, used_up, none_of, some_of}
use Rattle.mm_lines.proofs.reader.LineReader.next_line.Goals as goal

pub returns-in_err-read_line-clause-reads : goal.returns-in_err-read_line-clause-reads
returns-in_err-read_line-clause-reads g c = let p = err_from_is_err_and c.from_residual.result c.from_residual.ensures.1 in rw (p.1, p.2)
    (finds_none g.S.Source c.self.inside.begun c.self.inside.chunk c.self.inside.line c.self.inside.taken c.args.source.now c.args.self.now c.self.inside.ended c.self.view_is c.if-self.false c.self.invariant.free _ _ _ _ _ c.in_err-read_line.ensures.moves (λ e. c.in_err-read_line.ensures.spent (ap Err e)) (λ e. c.in_err-read_line.ensures.failed (ap Err e)))

pub returns-then-branch-clause-reads : goal.returns-then-branch-clause-reads
returns-then-branch-clause-reads g c =
    finds_line g.S.Source c.self.inside.begun c.self.inside.chunk c.self.inside.line c.self.inside.taken c.args.source.now c.args.self.now c.self.inside.ended c.self.view_is c.if-self.false c.self.invariant.free _ _ _ _ _ _ _ c.in_ok-read_line.ensures.moves c.if-branch.true c.give.ensures.line c.give.ensures.anew

pub returns-then-is_empty-clause-reads : goal.returns-then-is_empty-clause-reads
returns-then-is_empty-clause-reads g c =
    finds_end g.S.Source c.self.inside.begun c.self.inside.chunk c.self.inside.line c.self.inside.taken c.args.source.now c.args.self.now c.self.inside.ended c.self.view_is c.if-self.false c.self.invariant.free _ _ _ _ _ c.in_ok-read_line.ensures.moves c.if-branch.false (c.in_ok-read_line.ensures.end (ap Ok c.if-branch.false)) (c.in_ok-read_line.ensures.unspent (ap Ok c.if-branch.false)) (sym c.bytes.ensures ∙ none_of _ (sym c.is_empty.ensures ∙ c.if-is_empty.true))

pub returns-clause-reads : goal.returns-clause-reads
returns-clause-reads g c =
    finds_last g.S.Source c.self.inside.begun c.self.inside.chunk c.self.inside.line c.self.inside.taken c.args.source.now c.args.self.now c.self.inside.ended c.self.view_is c.if-self.false c.self.invariant.free _ _ _ _ _ _ _ c.in_ok-read_line.ensures.moves c.if-branch.false (c.in_ok-read_line.ensures.end (ap Ok c.if-branch.false)) (c.in_ok-read_line.ensures.unspent (ap Ok c.if-branch.false)) (λ e. some_of _ (sym c.is_empty.ensures ∙ c.if-is_empty.false) (c.bytes.ensures ∙ e)) c.give-2.ensures.line c.give-2.ensures.anew

pub returns-then-branch-clause-silent : goal.returns-then-branch-clause-silent
returns-then-branch-clause-silent g c = λ s. c.in_ok-read_line.ensures.silent (silent_there g.S.Source c.self.inside.begun c.self.inside.chunk c.self.inside.line c.self.inside.taken c.args.source.now c.args.self.now c.self.inside.ended c.self.view_is c.if-self.false c.self.invariant.free s)

pub returns-then-self-clause-lines : goal.returns-then-self-clause-lines
returns-then-self-clause-lines g c = λ told.
    let none = over_follow c.args.self.now (g.S.Source.left c.args.source.now) (sym (ap (λ s. s.ended) c.self.view_is) ∙ c.if-self.true) (sym (ap (λ s. s.ahead) c.self.view_is) ∙ c.self.invariant.over c.if-self.true) in
    (none, none)

pub invariant_of-self : goal.invariant_of-self
invariant_of-self g c = sound_held g.S.Source c.self.inside.begun c.self.inside.chunk c.self.inside.line c.self.inside.taken c.args.source.now c.args.self.now c.self.inside.ended c.self.view_is c.if-self.false c.self.invariant.free _ _ _ _ _ c.in_err-read_line.ensures.moves refl c.in_err-read_line.ensures.most

pub returns-in_err-read_line-clause-lines : goal.returns-in_err-read_line-clause-lines
returns-in_err-read_line-clause-lines g c = λ told. lines_follow g.S.Source c.args.self.now c.args.source.now _ _ c.from_residual.result (returns-in_err-read_line-clause-reads g c) (still_open g.S.Source c.self.inside.begun c.self.inside.chunk c.self.inside.line c.self.inside.taken c.args.source.now c.args.self.now c.self.inside.ended c.self.view_is c.if-self.false) told

pub invariant_of-self-then-branch : goal.invariant_of-self-then-branch
invariant_of-self-then-branch g c = sound_anew _ _ _ _ c.give.ensures.anew c.in_ok-read_line.ensures.most (λ e. let never : true ≡ false = sym e ∙ c.if-self.false in cc)

pub returns-then-branch-clause-lines : goal.returns-then-branch-clause-lines
returns-then-branch-clause-lines g c = λ told. lines_follow g.S.Source c.args.self.now c.args.source.now _ _ (Ok Line) (returns-then-branch-clause-reads g c) (still_open g.S.Source c.self.inside.begun c.self.inside.chunk c.self.inside.line c.self.inside.taken c.args.source.now c.args.self.now c.self.inside.ended c.self.view_is c.if-self.false) told

pub returns-then-branch-clause-over : goal.returns-then-branch-clause-over
returns-then-branch-clause-over g c = λ e. let never : true ≡ false = sym e ∙ still_open g.S.Source c.self.inside.begun c.self.inside.chunk c.self.inside.line c.self.inside.taken c.args.source.now c.args.self.now c.self.inside.ended c.self.view_is c.if-self.false in cc

pub returns-then-branch-clause-few : goal.returns-then-branch-clause-few
returns-then-branch-clause-few g c = rw c.give.ensures.anew c.in_ok-read_line.ensures.few

pub returns-then-is_empty-clause-lines : goal.returns-then-is_empty-clause-lines
returns-then-is_empty-clause-lines g c = λ told. lines_follow g.S.Source c.args.self.now c.args.source.now _ _ (Ok End) (returns-then-is_empty-clause-reads g c) (still_open g.S.Source c.self.inside.begun c.self.inside.chunk c.self.inside.line c.self.inside.taken c.args.source.now c.args.self.now c.self.inside.ended c.self.view_is c.if-self.false) told

pub invariant_of-self-2 : goal.invariant_of-self-2
invariant_of-self-2 g c = sound_anew _ _ _ _ c.give-2.ensures.anew c.in_ok-read_line.ensures.most (λ e. used_up g.S.Source _ _ _ _ _ _ _ _ _ c.in_ok-read_line.ensures.moves c.if-branch.false)

pub returns-clause-lines : goal.returns-clause-lines
returns-clause-lines g c = λ told. lines_follow g.S.Source c.args.self.now c.args.source.now _ _ (Ok Line) (returns-clause-reads g c) (still_open g.S.Source c.self.inside.begun c.self.inside.chunk c.self.inside.line c.self.inside.taken c.args.source.now c.args.self.now c.self.inside.ended c.self.view_is c.if-self.false) told

pub returns-clause-over : goal.returns-clause-over
returns-clause-over g c = λ e. let never : true ≡ false = sym e ∙ still_open g.S.Source c.self.inside.begun c.self.inside.chunk c.self.inside.line c.self.inside.taken c.args.source.now c.args.self.now c.self.inside.ended c.self.view_is c.if-self.false in cc

pub returns-clause-silent : goal.returns-clause-silent
returns-clause-silent g c = λ s. c.in_ok-read_line.ensures.silent (silent_there g.S.Source c.self.inside.begun c.self.inside.chunk c.self.inside.line c.self.inside.taken c.args.source.now c.args.self.now c.self.inside.ended c.self.view_is c.if-self.false c.self.invariant.free s)
