use Rattle.std.proofs.Common.{◌≡◌, true, ℕ}
use Rattle.std.proofs.lemmas.List.Elements.{All-contains}
use Rattle.mm_tables.specs.Distinct.{are_distinct, pairs_among, StandsBefore}
use Rattle.mm_tables.proofs.Distinct.{listed, has}
use Rattle.mm_tables.proofs.parted.pairs_stand_in_order.Goals as goal

pub returns : goal.returns
returns c =
    let P : ℕ × ℕ → Type 0 = λ q. StandsBefore c.args.variables.now q.0 q.1 × (are_distinct c.args.parted.now q.0 q.1 ≡ true) in (
      λ h. All-contains P (pairs_among c.args.parted.now c.args.variables.now) (c.args.u, c.args.v) (listed c.args.parted.now c.args.variables.now) h,
      λ h. has c.args.parted.now c.args.variables.now c.args.u c.args.v h.0 h.1,
    )
