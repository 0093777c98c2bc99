-- For each database what is found for a string is a proof of it.
use Rattle.std.proofs.Common.{◌<◌, ℕ, List, length, sym, subst}
use Rattle.mm_scope.specs.Contents.{labels_of}
use Rattle.mm_scope.proofs.Bridge.{variables_differ}
use Rattle.mm_plain.specs.Valid.{IsString, first_setting}
use Rattle.mm_improve.specs.Proofs.{IsProofFor, FindsProofs}
use Rattle.mm_improve.proofs.ProofTrees.{finds}

pub finds_proofs : (bytes : List ℕ) → FindsProofs bytes
finds_proofs bytes c depth goal x e low assertion string h =
    let own : c.at < length (labels_of c.bytes) = subst (λ b. c.at < length (labels_of b)) (sym e) low in
    let here : IsProofFor c.bytes c.at goal x = finds c (variables_differ c.bytes) own depth goal x (subst (λ b. IsString (first_setting b c.at) goal) (sym e) string).symbols h in
    subst (λ b. IsProofFor b c.at goal x) e here
