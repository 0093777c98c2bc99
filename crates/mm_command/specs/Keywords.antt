-- Keywords, which have no case and may be shortened.
use Rattle.std.specs.Prelude.{ℕ, Bool, ◌==◌, ◌&&◌, nat_le, List, length, take, Option, None, Some, Result, Ok, Err, if◌then◌else◌, position, count_by}
use Rattle.std.specs.Str.{str_eq_ignore_ascii_case}
use Rattle.mm_command.specs.declared.keyword.Unfit.{Unfit}
use Rattle.mm_command.specs.declared.keyword.Unfit.TheVariants.{NoKeyword, Ambiguous}

abbrev pub is_beginning : List ℕ → List ℕ → Bool
is_beginning word keyword = nat_le (length word) (length keyword) && str_eq_ignore_ascii_case (take (length word) keyword) word

-- the first keyword that the word begins, where it is the only one
abbrev pub if_unique : List (List ℕ) → List ℕ → Option ℕ → Result ℕ Unfit
if_unique keywords word None = Err NoKeyword
if_unique keywords word (Some i) = if count_by (is_beginning word) keywords == 1 then Ok i else Err Ambiguous

abbrev pub or_else : Option ℕ → Result ℕ Unfit → Result ℕ Unfit
or_else (Some i) other = Ok i
or_else None other = other

-- the place of the word among the keywords: an exact one wins, then a unique beginning
unfoldable pub keyword_of : List (List ℕ) → List ℕ → Result ℕ Unfit
keyword_of keywords word =
    or_else (position (λ k. str_eq_ignore_ascii_case k word) keywords) (if_unique keywords word (position (is_beginning word) keywords))
