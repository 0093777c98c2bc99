-- What a source has given after several calls.
use Rattle.std.proofs.Common.{ℕ, Bool, List, [], ◌++◌, refl, sym, ◌∙◌, ap, append_assoc}
use Rattle.mm_base.specs.Source.{Gives}

module _ {S : Type 0} (tells : S → Bool) (left : S → List ℕ) where
  -- nothing yet
  pub gives_none : (s : S) → Gives tells left s s []
  gives_none s = record { told = λ t. t; gave = λ t. refl }

  -- some bytes after others
  pub gives_then : (a b c : S) (xs ys : List ℕ) → Gives tells left a b xs → Gives tells left b c ys → Gives tells left a c (xs ++ ys)
  gives_then a b c xs ys first then = record {
    told = λ t. first.told (then.told t);
    gave = λ t. first.gave (then.told t) ∙ (ap (λ l. xs ++ l) (then.gave t) ∙ sym (append_assoc xs ys (left c)));
  }
