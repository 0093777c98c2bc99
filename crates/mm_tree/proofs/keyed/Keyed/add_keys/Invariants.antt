use Rattle.std.proofs.Common.{◌≡◌, ℕ, false, is_none, take}
use Rattle.mm_subst.specs.Substitutions.{value_at}
use Rattle.mm_subst.specs.declared.symbol.WSym.{WSym}
use Rattle.mm_tree.specs.Keyed.{IsPlaced}
use Rattle.mm_tree.proofs.keyed.Keyed.add_keys.Given as goal

abbrev pub invariant-loop-key : goal.invariant-loop-key
invariant-loop-key l = record {
  kept : (i : ℕ) (x : WSym) → IsPlaced l.initial.self i x → IsPlaced l.self i x;
  done : (x : WSym) → is_none (value_at (take l.key-index l.key-items) x) ≡ false → IsPlaced l.self l.place x;
}
