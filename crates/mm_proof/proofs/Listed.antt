-- The list of a compressed proof, token by token.
use Rattle.std.proofs.Common.{◌≡◌, ◌+◌, ◌<◌, ℕ, true, false, cond, List, [], ◌∷◌, ◌++◌, Ok, Err, Result, Vec, All, length, map, ap, sym, ◌∙◌, subst, arith}
use Rattle.std.specs.Global.{Global}
use Rattle.std.specs.List.{AllByRecursion}
use Rattle.std.specs.Str.{bytes_eq}
use Rattle.std.proofs.lemmas.List.Elements.{recursion_from_All, All-from_recursion}
use Rattle.mm_scope.specs.Contents.{labels_of}
use Rattle.mm_tokens.specs.declared.pieces.Token.{Token}
use Rattle.mm_proof.specs.Faults.{after}
use Rattle.mm_proof.specs.Labels.{Numbered, text_of, hypothesis, listed_of, listed_from}
use Rattle.mm_proof.specs.Readers.{IsLabel, GivesItems, GivesNumbered}
use Rattle.mm_proof.specs.declared.fault.ProofFault.{ProofFault}
use Rattle.mm_proof.specs.declared.fault.ProofFault.TheVariants.{ListNotClosed}
use Rattle.mm_proof.specs.declared.step.StepKind.{StepKind}

pub listed_ends : (bytes : List ℕ) (id : ℕ) (proof : List ℕ) (k : ℕ) (kinds : List StepKind) (left rest : List Token) (t : Token) → left ≡ t ∷ rest → bytes_eq (text_of proof t) (41 ∷ []) ≡ true
    → listed_from bytes id proof k kinds left ≡ Ok (record { kinds = kinds; rest = rest })
unfolding listed_from
listed_ends bytes id proof k kinds left rest t is h =
    ap (listed_from bytes id proof k kinds) is
    ∙ ap (λ b. cond b (Ok (record { kinds = kinds; rest = rest })) (after (listed_of bytes id k (text_of proof t)) (λ s. listed_from bytes id proof (k + 1) (kinds ++ s ∷ []) rest))) h

goes_on : (bytes : List ℕ) (id : ℕ) (proof : List ℕ) (k : ℕ) (kinds : List StepKind) (left rest : List Token) (t : Token) → left ≡ t ∷ rest → bytes_eq (text_of proof t) (41 ∷ []) ≡ false
    → listed_from bytes id proof k kinds left ≡ after (listed_of bytes id k (text_of proof t)) (λ s. listed_from bytes id proof (k + 1) (kinds ++ s ∷ []) rest)
unfolding listed_from
goes_on bytes id proof k kinds left rest t is h =
    ap (listed_from bytes id proof k kinds) is
    ∙ ap (λ b. cond b (Ok (record { kinds = kinds; rest = rest })) (after (listed_of bytes id k (text_of proof t)) (λ s. listed_from bytes id proof (k + 1) (kinds ++ s ∷ []) rest))) h

pub listed_more : (bytes : List ℕ) (id : ℕ) (proof : List ℕ) (k : ℕ) (kinds : List StepKind) (left rest : List Token) (t : Token) (s : StepKind) → left ≡ t ∷ rest → bytes_eq (text_of proof t) (41 ∷ []) ≡ false
    → listed_of bytes id k (text_of proof t) ≡ Ok s → listed_from bytes id proof k kinds left ≡ listed_from bytes id proof (k + 1) (kinds ++ s ∷ []) rest
listed_more bytes id proof k kinds left rest t s is h e =
    goes_on bytes id proof k kinds left rest t is h ∙ ap (λ r. after r (λ s. listed_from bytes id proof (k + 1) (kinds ++ s ∷ []) rest)) e

pub listed_fails : (bytes : List ℕ) (id : ℕ) (proof : List ℕ) (k : ℕ) (kinds : List StepKind) (left rest : List Token) (t : Token) (f : ProofFault) → left ≡ t ∷ rest → bytes_eq (text_of proof t) (41 ∷ []) ≡ false
    → listed_of bytes id k (text_of proof t) ≡ Err f → listed_from bytes id proof k kinds left ≡ Err f
listed_fails bytes id proof k kinds left rest t f is h e =
    goes_on bytes id proof k kinds left rest t is h ∙ ap (λ r. after r (λ s. listed_from bytes id proof (k + 1) (kinds ++ s ∷ []) rest)) e

pub listed_none : (bytes : List ℕ) (id : ℕ) (proof : List ℕ) (k : ℕ) (kinds : List StepKind) (left : List Token) → left ≡ [] → listed_from bytes id proof k kinds left ≡ Err ListNotClosed
unfolding listed_from
listed_none bytes id proof k kinds left is = ap (listed_from bytes id proof k kinds) is

own_by : (bytes : List ℕ) (id : ℕ) (ms : List ℕ) → id < length (labels_of bytes) → AllByRecursion (λ m. m < id) ms → AllByRecursion (IsLabel bytes) (map hypothesis ms)
own_by bytes id [] own h = tt
own_by bytes id (m ∷ ms) own h = (let e = h.0 in omega arith, own_by bytes id ms own h.1)

-- mandatory hypotheses are the database's own
pub hypotheses_own : (bytes : List ℕ) (id : ℕ) (ms : List ℕ) → id < length (labels_of bytes) → All (λ m. m < id) ms → All (IsLabel bytes) (map hypothesis ms)
hypotheses_own bytes id ms own h = All-from_recursion (IsLabel bytes) (map hypothesis ms) (own_by bytes id ms own (recursion_from_All (λ m. m < id) ms h))

pub few_gives : (r : Result (Vec StepKind Global) ProofFault) (kinds : List StepKind) (left : List Token) (read : Result Numbered ProofFault) → GivesItems r kinds
    → read ≡ Ok (record { kinds = kinds; rest = left }) → GivesNumbered r left read
few_gives (Ok v) kinds left read h e = e ∙ ap (λ x. Ok (record { kinds = x; rest = left })) (sym h)
few_gives (Err f) kinds left read h e = let P : ProofFault → Type 0 = λ x. GivesNumbered (Err x) left read in subst P (sym h) tt
