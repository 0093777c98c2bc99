-- The label of each labelled statement.
use Rattle.std.proofs.Common.{◌≡◌, ◌<◌, ℕ, true, List, [], None, Some, cond, length, nat_lt, ap, ◌∙◌, arith}
use Rattle.mm_scope.specs.Contents.{labels_of}
use Rattle.mm_plain.specs.Labels.{IsLabelled}
use Rattle.mm_plain.proofs.Places.{AreLabels}
use Rattle.mm_plain.proofs.Labelling.{all_labelled}

all_at : (bytes : List ℕ) → AreLabels (labels_of bytes)
unfolding labels_of
all_at bytes = all_labelled bytes

is_less : (a b : ℕ) → a < b → nat_lt a b ≡ true
is_less a b h = grind arith

pub has_label : (bytes : List ℕ) (id : ℕ) → id < length (labels_of bytes) → IsLabelled bytes id
has_label bytes id small =
    let ls : List (List ℕ) = labels_of bytes in
    let all = all_at bytes in
    record {
      fit = all.fit id [] small;
      some = all.some id [] small;
      short = all.short id [] small;
      found = ap (λ n. cond (nat_lt n (length ls)) (Some n) None) (all.first id small) ∙ ap (λ b. cond b (Some id) None) (is_less id (length ls) small);
    }
