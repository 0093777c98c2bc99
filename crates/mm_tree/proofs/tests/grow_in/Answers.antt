use Rattle.std.proofs.Common.{◌≡◌, ℕ, List, None, ap, refl, ◌∙◌, subst}
use Rattle.std.specs.List.{All}
use Rattle.mm_subst.specs.declared.symbol.WSym.{WSym}
use Rattle.mm_plain.specs.Shape.{Proof, unknown, step_at}
use Rattle.mm_plain.specs.Sources.{label_of}
use Rattle.mm_plain.specs.Numbers.{IsOwnLabel}
use Rattle.mm_plain.proofs.Owned.{own-labels}
use Rattle.mm_plain.proofs.Read.{label_of-unknown}
use Rattle.mm_plain.proofs.Trees.{at-leaf}
use Rattle.mm_tree.proofs.Grown.{proof_of}
use Rattle.mm_tree.proofs.tests.grow_in.Goals as goal

first-unknown : (p : Proof) (t : List WSym) (next : ℕ) → p ≡ proof_of (unknown t) next → label_of (step_at p.plain 1) ≡ None
first-unknown p t next is = ap (λ (q : Proof). label_of (step_at q.plain 1)) is ∙ ap label_of (at-leaf t 1 refl) ∙ label_of-unknown t

pub place-requires-clause-unknown : goal.place-requires-clause-unknown
place-requires-clause-unknown g c = first-unknown _ _ _ c.in_ok-tree.ensures.start

pub pending_steps-requires : goal.pending_steps-requires
pending_steps-requires g c =
    own-labels c.in_ok-db.db c.place.new.self.proof.plain (subst (All (IsOwnLabel c.in_ok-db.db)) c.in_ok-labels.ensures (subst (All (IsOwnLabel c.in_ok-db.db)) c.as_slice-4.ensures.value c.in_ok-check_own.ensures))
