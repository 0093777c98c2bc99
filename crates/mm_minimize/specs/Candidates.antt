-- The assertions that are tried for the steps of a proof.
use Rattle.std.specs.Prelude.{ℕ, Bool, true, false, not, ◌==◌, ◌&&◌, ◌||◌, List, Option, None, Some, Result, Ok, Err}
use Rattle.std.specs.List.{list_any}
use Rattle.mm_scope.specs.Contents.{stated_at}
use Rattle.mm_scope.specs.Description.{is_usage_guarded}
use Rattle.mm_stated.specs.Stated.{is_hypothesis, is_same_kind}
use Rattle.mm_stated.specs.declared.statement.Kind.TheVariants.{Theorem}
use Rattle.mm_proof.specs.Decoding.{decoded}
use Rattle.mm_proof.specs.declared.fault.ProofFault.{ProofFault}
use Rattle.mm_proof.specs.declared.step.ProofStep.{ProofStep}
use Rattle.mm_proof.specs.declared.step.StepKind.{StepKind}
use Rattle.mm_proof.specs.declared.step.StepKind.TheVariants.{Hyp, Apply, Back, Unknown}
use Rattle.mm_trace.specs.Patterns.{matches}
use Rattle.mm_trace.specs.Uses.{depends, is_axiom, some_below}
use Rattle.mm_plain.specs.declared.plain.Plain.{Plain}
use Rattle.mm_plain.specs.Labels.{label_at}
use Rattle.mm_plain.specs.Numbers.{labels_in}

-- what is asked: patterns of labels, whether the proof may get longer, and whether assertions are tried that are guarded
-- against new usage
pub record Terms : Type 0 where
  pub pattern : List ℕ
  pub except : List ℕ
  pub forbid : List ℕ
  pub no_new_axioms : List ℕ
  pub may_grow : Bool
  pub guarded_too : Bool

-- whether a pattern matches the label of a statement
abbrev pub is_named : List ℕ → List ℕ → ℕ → Bool
is_named bytes pattern id = matches pattern (label_at bytes id)

-- whether a statement passes a test, or depends on one that does
abbrev pub rests_on : List ℕ → (ℕ → Bool) → ℕ → Bool
rests_on bytes test id = test id || some_below id (λ m. test m && depends bytes id m)

abbrev pub is_unknown : StepKind → Bool
is_unknown (Hyp s) = false
is_unknown (Apply s) = false
is_unknown (Back k) = false
is_unknown Unknown = true

-- whether a text decodes, and no step of it is unknown
abbrev pub is_whole : Result (List ProofStep) ProofFault → Bool
is_whole (Ok steps) = not (list_any (λ s. is_unknown s.kind) steps)
is_whole (Err e) = false

-- whether a statement has no proof to read, or a whole one
unfoldable pub is_proved : List ℕ → ℕ → Bool
is_proved bytes id = not (is_same_kind Theorem (stated_at bytes id).kind) || is_whole (decoded bytes id)

-- Whether an assertion is tried, as far as the proof doesn't matter: it matches the pattern and doesn't match the excepted
-- one; it isn't guarded, unless that doesn't matter; it doesn't rest on a forbidden statement; its own proof is whole.
unfoldable pub is_eligible : List ℕ → Terms → ℕ → Bool
is_eligible bytes t id =
    not (is_hypothesis (stated_at bytes id).kind) && is_named bytes t.pattern id && not (is_named bytes t.except id)
    && (t.guarded_too || not (is_usage_guarded bytes id)) && not (rests_on bytes (is_named bytes t.forbid) id) && is_proved bytes id

abbrev pub names_base : List ℕ → ℕ → Option ℕ → Bool
names_base bytes a None = false
names_base bytes a (Some id) = rests_on bytes (λ m. m == a) id

-- whether a proof uses a statement or depends on it: a step names it, or one that depends on it
unfoldable pub has_base : List ℕ → Plain → ℕ → Bool
has_base bytes x a = list_any (names_base bytes a) (labels_in x)

-- whether a statement is an axiom of the pattern on which a proof doesn't rest yet
abbrev pub is_new_axiom : List ℕ → Terms → Plain → ℕ → Bool
is_new_axiom bytes t x a = is_axiom bytes a && is_named bytes t.no_new_axioms a && not (has_base bytes x a)

-- whether an assertion is a candidate for a proof: it is eligible, and brings no new axiom
abbrev pub is_candidate : List ℕ → Terms → Plain → ℕ → Bool
is_candidate bytes t x id = is_eligible bytes t id && not (rests_on bytes (is_new_axiom bytes t x) id)
