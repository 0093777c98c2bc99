-- Proofs whose steps have the strings that the steps below them give: each known, and none pending.
use Rattle.std.specs.Prelude.{◌≡◌, ◌&&◌, ℕ, ◌+◌, ◌*◌, Bool, true, false, not, List, length, nat_le, nat_lt, Option, All}
use Rattle.mm_subst.specs.Applied.{most_symbols}
use Rattle.mm_subst.specs.Statements.{statement_of}
use Rattle.mm_subst.specs.Substitutions.{Pairs, applied}
use Rattle.mm_subst.specs.declared.symbol.WSym.{WSym}
use Rattle.mm_unify.specs.Forbidden.{forbidden}
use Rattle.mm_unify.specs.declared.listing.Settings.{Settings}
use Rattle.mm_plain.specs.Binding.{has_works}
use Rattle.mm_plain.specs.Numbers.{labels_in}
use Rattle.mm_plain.specs.Shape.{Each, Proof, steps_of}
use Rattle.mm_plain.specs.Valid.{IsValid}
use Rattle.mm_plain.specs.declared.plain.Plain.{Plain}
use Rattle.mm_plain.specs.declared.plain.Plain.TheOpen.{Plain-F}
use Rattle.mm_plain.specs.declared.plain.Plain.TheOpen as P
use Rattle.mm_plain.specs.declared.plain.Plain.TheViews as V
use Rattle.mm_tree.specs.Labelled.{draws_all}

-- Whether a search under the settings surely finds this text as the value of a work variable: it is not empty, it is shorter
-- than a string may be, its brackets are in pairs where these are heeded, and the trials are enough.
abbrev pub is_surely_found : List ℕ → Settings → List WSym → Bool
is_surely_found bytes set v =
    nat_lt 0 (length v) && nat_lt (length v) most_symbols && nat_le (1 + 2 * length v) set.trials && not ((forbidden bytes set.rule).at_end v)

-- a known step proves what its statement says under its values, and these are surely found
pub record HasOwnStrings (bytes : List ℕ) (set : Settings) (t : List WSym) (l : ℕ) (s : Pairs) : Type 0 where
  pub target : t ≡ applied s (statement_of bytes l)
  pub values : All (λ p. is_surely_found bytes set p.1 ≡ true) s

abbrev pub own_layer : List ℕ → Settings → Plain-F Plain → Type 0
own_layer bytes set (P.Unknown t) = ⊥
own_layer bytes set (P.Known t l s kids) = HasOwnStrings bytes set t l s

unfoldable pub IsOwnStep : List ℕ → Settings → Plain → Type 0
IsOwnStep bytes set y = own_layer bytes set (V.out-Plain y)

-- The proof of the theorem at, by these labels, whose steps are all known and have their own strings, without work variables.
-- So many work variables were drawn as the labels need.
pub record IsBuiltProof (bytes : List ℕ) (at : ℕ) (set : Settings) (labels : List (Option ℕ)) (p : Proof) : Type 0 where
  pub valid : IsValid bytes at (statement_of bytes at) p
  pub labels_are : labels_in p.plain ≡ labels
  pub drawn : p.next ≡ 1 + draws_all bytes labels
  pub fixed : has_works p.plain ≡ false
  pub steps : Each (IsOwnStep bytes set) (steps_of p.plain)
