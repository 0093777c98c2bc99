-- Lines of replies.
use Rattle.std.specs.Prelude.{ℕ, List, [], ◌∷◌, ◌++◌, codes}
use Rattle.std.specs.Fmt.{decimal}

-- a text and LF
abbrev pub line_of : List ℕ → List ℕ
line_of text = text ++ 10 ∷ []

-- a refusal by its number and its words
unfoldable pub numbered : ℕ → List ℕ → List ℕ
numbered n words = codes "?C" ++ (decimal n ++ (codes ": " ++ words))

-- the counts of a proof's steps
unfoldable pub counts_text : ℕ → ℕ → ℕ → List ℕ
counts_text steps unknown pending =
    codes "Steps " ++ (decimal steps ++ (codes ", unknown " ++ (decimal unknown ++ (codes ", pending " ++ (decimal pending ++ (codes "." ++ 10 ∷ []))))))
