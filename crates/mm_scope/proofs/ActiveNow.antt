-- Whether a hypothesis is active, by the table.
use Rattle.std.proofs.Common.{◌≡◌, ◌<◌, ℕ, true, ◌&&◌, List, Option, Some, length, get_or, nat_eq, nat_lt, sym, ap, ◌∙◌, arith}
use Rattle.std.proofs.lemmas.Grind.{common_steps}
use Rattle.std.specs.List.{list_any}
use Rattle.mm_scope.specs.Contents.{labels_of, active_at}
use Rattle.mm_scope.specs.Until.{is_before, is_active_by, until_at}

at_once : {A : Type 0} (xs : List A) (i : ℕ) (d e : A) → i < length xs → get_or xs i d ≡ get_or xs i e
at_once xs i d e h = grind (arith, common_steps, h)

below : (a b : ℕ) → a < b → nat_lt a b ≡ true
below a b h = grind (arith, h)

pub active_now : (bytes now : List ℕ) (until : List (Option ℕ)) (id at : ℕ) → bytes ≡ now
    → ((i a : ℕ) → i < length (labels_of bytes) → a < length (labels_of bytes) → list_any (nat_eq i) (active_at bytes a) ≡ is_active_by until i a)
    → length until ≡ length (labels_of bytes) → id < length (labels_of now) → at < length (labels_of now) → id < at
    → (r : Option ℕ) → r ≡ get_or until id r → is_before at r ≡ list_any (nat_eq id) (active_at now at)
active_now bytes now until id at same active sizes own at_own earlier r e =
    let ours : id < length (labels_of bytes) = rw same own in
    let its : at < length (labels_of bytes) = rw same at_own in
    ap (is_before at) (e ∙ at_once until id r (Some 0) (omega (arith, ours, sizes)))
    ∙ ap (λ b. b && is_before at (until_at until id)) (sym (below id at earlier))
    ∙ sym (active id at ours its)
    ∙ ap (λ b. list_any (nat_eq id) (active_at b at)) same
