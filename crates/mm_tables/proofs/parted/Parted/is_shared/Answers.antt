use Rattle.std.proofs.Common.{ap, ◌∙◌, List, ℕ, subst, sym}
use Rattle.std.specs.List.{list_any}
use Rattle.mm_tables.specs.Distinct.{holds_both}
use Rattle.mm_tables.specs.Numbering.{share, IsRising, numbers_from}
use Rattle.mm_tables.specs.Texts.{texts}
use Rattle.mm_tables.proofs.Numbered.{shared, numbers_rise}
use Rattle.mm_tables.proofs.parted.Parted.is_shared.Goals as goal

pub have_common-requires : goal.have_common-requires
have_common-requires c =
    let groups : List (List ℕ) = texts c.self.inside.groups.items in
    let P : List ℕ → Type 0 = λ xs. IsRising xs in
    record {
      left = subst P (sym (c.numbers.ensures ∙ c.self.invariant.0 c.args.u)) (numbers_rise 0 groups c.args.u);
      right = subst P (sym (c.numbers-2.ensures ∙ c.self.invariant.0 c.args.v)) (numbers_rise 0 groups c.args.v);
    }

pub returns : goal.returns
returns c =
    let groups : List (List ℕ) = texts c.self.inside.groups.items in
    c.have_common.ensures
    ∙ ap (λ xs. share xs c.numbers-2.result.now) (c.numbers.ensures ∙ c.self.invariant.0 c.args.u)
    ∙ ap (λ xs. share (numbers_from 0 groups c.args.u) xs) (c.numbers-2.ensures ∙ c.self.invariant.0 c.args.v)
    ∙ shared 0 groups c.args.u c.args.v
    ∙ ap (list_any (holds_both c.args.u c.args.v)) c.self.view_is
