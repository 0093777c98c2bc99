use Rattle.std.proofs.Common.{◌<◌, ℕ, Bool, List, [], length, if◌then◌else◌, sym, ◌∙◌, ap, subst}
use Rattle.std.specs.List.{All}
use Rattle.mm_scope.specs.Contents.{labels_of, active_at}
use Rattle.mm_improve.proofs.Active.{active_own}
use Rattle.mm_improve.proofs.database.rules_for.Goals as goal

pub hypotheses-requires : goal.hypotheses-requires
hypotheses-requires c =
    let bytes : List ℕ = c.args.db.now in
    let at : ℕ = c.args.search.at.0 in
    let active = ap (λ (b : Bool). if b then [] else active_at bytes at) c.requires.assertion in
    subst (λ (xs : List ℕ). All (λ m. m < length (labels_of bytes)) xs)
    (sym (c.as_slice.ensures.value ∙ c.in_ok-ids.ensures ∙ c.frame.ensures.active ∙ active))
    (active_own bytes at c.requires.own)
