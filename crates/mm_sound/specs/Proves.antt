-- When a proof proves its theorem.
use Rattle.std.specs.Prelude.{ℕ, List}
use Rattle.mm_scope.specs.Contents.{distinct_at}
use Rattle.mm_subst.specs.Statements.{statement_of}
use Rattle.mm_plain.specs.Shape.{Proof}
use Rattle.mm_plain.specs.Valid.{IsValid}
use Rattle.mm_sound.specs.Apart.{IsApart}
use Rattle.mm_sound.specs.Complete.{IsComplete}

-- a valid and complete proof of the statement with an id, which keeps the pairs of variables that must differ there
pub record Proves (bytes : List ℕ) (at : ℕ) (p : Proof) : Type 0 where
  pub valid : IsValid bytes at (statement_of bytes at) p
  pub complete : IsComplete bytes p.plain
  pub apart : IsApart bytes (distinct_at bytes at) p.plain
