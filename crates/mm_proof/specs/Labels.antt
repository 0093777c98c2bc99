-- What the tokens of a proof name.
use Rattle.std.specs.Prelude.{ℕ, ◌+◌, Bool, ◌==◌, nat_lt, List, [], ◌∷◌, ◌++◌, Option, None, Some, Result, Ok, Err, map, slice_range, if◌then◌else◌}
use Rattle.std.specs.List.{list_any}
use Rattle.std.specs.Str.{bytes_eq}
use Rattle.mm_tokens.specs.declared.pieces.Token.{Token}
use Rattle.mm_scope.specs.Contents.{stated_at, find_label, active_at}
use Rattle.mm_stated.specs.declared.statement.Kind.{Kind}
use Rattle.mm_stated.specs.declared.statement.Kind.TheVariants as kind
use Rattle.mm_proof.specs.Faults.{after}
use Rattle.mm_proof.specs.declared.fault.ProofFault.{ProofFault}
use Rattle.mm_proof.specs.declared.fault.ProofFault.TheVariants.{NoSuchLabel, NotEarlier, HypothesisNotActive, MandatoryListed, ListNotClosed}
use Rattle.mm_proof.specs.declared.step.StepKind.{StepKind}
use Rattle.mm_proof.specs.declared.step.StepKind.TheVariants.{Hyp, Apply, Back, Unknown}

-- the bytes of a token
abbrev pub text_of : List ℕ → Token → List ℕ
text_of proof t = slice_range proof t.start t.end

-- whether a hypothesis is active at a theorem
abbrev pub is_active : List ℕ → ℕ → ℕ → Bool
is_active bytes id n = list_any (λ m. n == m) (active_at bytes id)

-- whether a statement is a mandatory hypothesis of a theorem
abbrev pub is_mandatory : List ℕ → ℕ → ℕ → Bool
is_mandatory bytes id n = list_any (λ m. n == m) (stated_at bytes id).mandatory

abbrev pub hypothesis : ℕ → StepKind
hypothesis n = Hyp (record { 0 = n })

abbrev pub assertion : ℕ → StepKind
assertion n = Apply (record { 0 = n })

-- the statement n as token k of the proof of a theorem
abbrev pub step_by : List ℕ → ℕ → ℕ → ℕ → Kind → Result StepKind ProofFault
step_by bytes id k n kind.Float = if is_active bytes id n then Ok (hypothesis n) else Err (HypothesisNotActive k)
step_by bytes id k n kind.Essential = if is_active bytes id n then Ok (hypothesis n) else Err (HypothesisNotActive k)
step_by bytes id k n kind.Axiom = if nat_lt n id then Ok (assertion n) else Err (NotEarlier k)
step_by bytes id k n kind.Theorem = if nat_lt n id then Ok (assertion n) else Err (NotEarlier k)

abbrev pub labelled : List ℕ → ℕ → ℕ → Option ℕ → Result StepKind ProofFault
labelled bytes id k None = Err (NoSuchLabel k)
labelled bytes id k (Some n) = step_by bytes id k n (stated_at bytes n).kind

-- what the label names that stands as token k
unfoldable pub named_of : List ℕ → ℕ → ℕ → List ℕ → Result StepKind ProofFault
named_of bytes id k text = labelled bytes id k (find_label bytes text)

-- the step that a text spells as token k of a normal proof: `?`, or a label
unfoldable pub step_of : List ℕ → ℕ → ℕ → List ℕ → Result StepKind ProofFault
step_of bytes id k text = if bytes_eq text (63 ∷ []) then Ok Unknown else named_of bytes id k text

-- a mandatory hypothesis has its number unlisted
abbrev pub unless_mandatory : List ℕ → ℕ → ℕ → StepKind → Result StepKind ProofFault
unless_mandatory bytes id k (Hyp s) = if is_mandatory bytes id s.0 then Err (MandatoryListed k) else Ok (Hyp s)
unless_mandatory bytes id k (Apply s) = Ok (Apply s)
unless_mandatory bytes id k (Back n) = Ok (Back n)
unless_mandatory bytes id k Unknown = Ok Unknown

-- the label that a text is as token k of a compressed proof, which lists it
unfoldable pub listed_of : List ℕ → ℕ → ℕ → List ℕ → Result StepKind ProofFault
listed_of bytes id k text = after (named_of bytes id k text) (unless_mandatory bytes id k)

-- what stands for the numbers of a compressed proof that name statements, in order, and the tokens behind the list
pub record Numbered : Type 0 where
  pub kinds : List StepKind
  pub rest : List Token

-- the list goes on with token k, up to `)`
unfoldable pub listed_from : List ℕ → ℕ → List ℕ → ℕ → List StepKind → List Token → Result Numbered ProofFault
listed_from bytes id proof k kinds [] = Err ListNotClosed
listed_from bytes id proof k kinds (t ∷ ts) =
    if bytes_eq (text_of proof t) (41 ∷ []) then Ok (record { kinds = kinds; rest = ts })
    else after (listed_of bytes id k (text_of proof t)) (λ s. listed_from bytes id proof (k + 1) (kinds ++ s ∷ []) ts)

-- the mandatory hypotheses in order, then the labels of the list, which begins behind the `(`
abbrev pub numbered : List ℕ → ℕ → List ℕ → List Token → Result Numbered ProofFault
numbered bytes id proof tokens = listed_from bytes id proof 2 (map hypothesis (stated_at bytes id).mandatory) tokens
