use Rattle.std.proofs.Common.{◌≡◌, map, take}
use Rattle.std.specs.List.{flat_map}
use Rattle.mm_shell.specs.Listings.{statement_line}
use Rattle.mm_shell.proofs.listing.statements_text.Given as goal

abbrev pub invariant-loop-id : goal.invariant-loop-id
invariant-loop-id l = l.text.items ≡ flat_map (statement_line l.database) (map (λ i. i.0) (take l.id-index l.ids))
