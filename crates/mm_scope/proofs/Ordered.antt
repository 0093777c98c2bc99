-- The pieces of a database stand one after another.
use Rattle.std.proofs.Common.{◌≡◌, ◌<◌, ◌≤◌, ℕ, zero, suc, ◌+◌, ◌-◌, Bool, true, false, cond, not, ◌&&◌, ◌||◌, List, [], ◌∷◌, Option, None, Some, length, drop, get_or, nat_eq, refl, sym, ap, ◌∙◌, arith, ◌⊎◌, inl, inr, length-drop}
use Rattle.std.proofs.lemmas.List.{get_or-drop}
use Rattle.std.proofs.lemmas.List.Sums.{prefix_len_passes, prefix_len-le-length}
use Rattle.std.proofs.lemmas.Bool.{true≢false, false≢true}
use Rattle.mm_tokens.specs.Bytes.{is_graphic}
use Rattle.mm_tokens.specs.Runs.{is_start, run_end, runs_from, runs, is_mark}
use Rattle.mm_tokens.specs.Pieces.{pieces_from, pieces_of}
use Rattle.mm_tokens.specs.declared.pieces.Token.{Token as Run}
use Rattle.mm_tokens.specs.declared.pieces.Piece.{Piece}
use Rattle.mm_tokens.specs.declared.pieces.Piece.TheVariants.{Token, Comment, Open}
use Rattle.mm_scope.proofs.Stacks.{below_or}

-- the runs stand from a place on, one after another, among n bytes
abbrev pub RunsInOrder : ℕ → ℕ → List Run → Type 0
RunsInOrder n low [] = Unit {0}
RunsInOrder n low (r ∷ rs) = (low ≤ r.start) × (r.start ≤ r.end) × (r.end ≤ n) × RunsInOrder n r.end rs

-- so do the tokens
abbrev pub InOrder : ℕ → ℕ → List Piece → Type 0
InOrder n low [] = Unit {0}
InOrder n low (Token k ∷ ps) = (low ≤ k.start) × (k.start ≤ k.end) × (k.end ≤ n) × InOrder n k.end ps
InOrder n low (Comment c ∷ ps) = InOrder n low ps
InOrder n low (Open p ∷ ps) = InOrder n low ps

twice : (b : Bool) → not (not b) ≡ true → b ≡ true
twice true h = refl
twice false h = absurd (false≢true h)

-- within a run each byte is a token's
graphic_within : (bytes : List ℕ) (p k : ℕ) → p ≤ k → k < run_end bytes p → is_graphic (get_or bytes k 0) ≡ true
graphic_within bytes p k low high =
    let same : p + (k - p) ≡ k = omega (arith, low) in
    twice _ (ap (λ j. not (not (is_graphic (get_or bytes j 0)))) (sym same)
    ∙ ap (λ b. not (not (is_graphic b))) (sym (get_or-drop p bytes (k - p) 0))
    ∙ prefix_len_passes (λ b. not (not (is_graphic b))) (drop p bytes) (k - p) 0 (omega (arith, low, high)))

run_within : (bytes : List ℕ) (p : ℕ) → p ≤ length bytes → run_end bytes p ≤ length bytes
run_within bytes p h =
    omega (arith, h, prefix_len-le-length (λ b. not (not (is_graphic b))) (drop p bytes), length-drop p bytes)

and_not : (a b : Bool) → b ≡ false → (a && b) ≡ false
and_not true b e = e
and_not false b e = refl

after_first : (q : ℕ) → 0 < q → nat_eq q 0 ≡ false
after_first q h = grind (arith, h)

-- so no run starts there but at its first
no_start_within : (bytes : List ℕ) (p q : ℕ) → p < q → q < run_end bytes p → is_start bytes q ≡ false
no_start_within bytes p q low high =
    and_not (is_graphic (get_or bytes q 0)) _ (ap (λ b. b || not (is_graphic (get_or bytes (q - 1) 0))) (after_first q (omega (arith, low)))
    ∙ ap not (graphic_within bytes p (q - 1) (omega (arith, low)) (omega (arith, low, high))))

runs_by : (bytes : List ℕ) (p n low : ℕ) (b : Bool) → is_start bytes p ≡ b → p < length bytes
    → ((q : ℕ) → p ≤ q → q < low → is_start bytes q ≡ false)
    → ((low : ℕ) → ((q : ℕ) → p + 1 ≤ q → q < low → is_start bytes q ≡ false) → RunsInOrder (length bytes) low (runs_from bytes (p + 1) n))
    → RunsInOrder (length bytes) low (cond b (record { start = p; end = run_end bytes p } ∷ runs_from bytes (p + 1) n) (runs_from bytes (p + 1) n))
runs_by bytes p n low true e small none later =
    (reached (below_or p low), omega arith, run_within bytes p (omega (arith, small)), later (run_end bytes p) (λ q more less. no_start_within bytes p q (omega (arith, more)) less))
  where
    reached : (p < low) ⊎ (low ≤ p) → low ≤ p
    reached (inl h) = absurd (true≢false (sym e ∙ none p (omega arith) h))
    reached (inr h) = h
runs_by bytes p n low false e small none later = later low (λ q more less. none q (omega (arith, more)) less)

runs_ordered : (bytes : List ℕ) (n p low : ℕ) → p + n ≡ length bytes → ((q : ℕ) → p ≤ q → q < low → is_start bytes q ≡ false)
    → RunsInOrder (length bytes) low (runs_from bytes p n)
unfolding runs_from
runs_ordered bytes zero p low sum none = tt
runs_ordered bytes (suc n) p low sum none =
    runs_by bytes p n low (is_start bytes p) refl (omega (arith, sum)) none (λ l f. runs_ordered bytes n (p + 1) l (omega (arith, sum)) f)

lower : (n low high : ℕ) (rs : List Run) → low ≤ high → RunsInOrder n high rs → RunsInOrder n low rs
lower n low high [] h o = tt
lower n low high (r ∷ rs) h o = (omega (arith, h, o.0), o.1, o.2, o.3)

pieces_ordered : (bytes : List ℕ) (n : ℕ) (begun : Option ℕ) (rs : List Run) (low : ℕ) → RunsInOrder n low rs → InOrder n low (pieces_from bytes begun rs)
unfolding pieces_from
pieces_ordered bytes n None [] low o = tt
pieces_ordered bytes n (Some p) [] low o = tt
pieces_ordered bytes n None (r ∷ rs) low o =
    by (is_mark bytes 40 r) (pieces_ordered bytes n (Some r.start) rs low (lower n low r.end rs (omega (arith, o.0, o.1)) o.3)) (pieces_ordered bytes n None rs r.end o.3)
  where
    by : (b : Bool) → InOrder n low (pieces_from bytes (Some r.start) rs) → InOrder n r.end (pieces_from bytes None rs)
        → InOrder n low (cond b (pieces_from bytes (Some r.start) rs) (Token r ∷ pieces_from bytes None rs))
    by true skipped taken = skipped
    by false skipped taken = (o.0, o.1, o.2, taken)
pieces_ordered bytes n (Some p) (r ∷ rs) low o =
    by (is_mark bytes 41 r) (pieces_ordered bytes n None rs low later) (pieces_ordered bytes n (Some p) rs low later)
  where
    later : RunsInOrder n low rs
    later = lower n low r.end rs (omega (arith, o.0, o.1)) o.3

    by : (b : Bool) → InOrder n low (pieces_from bytes None rs) → InOrder n low (pieces_from bytes (Some p) rs)
        → InOrder n low (cond b (Comment (record { start = p; end = r.end }) ∷ pieces_from bytes None rs) (pieces_from bytes (Some p) rs))
    by true ended going = ended
    by false ended going = going

pub ordered : (bytes : List ℕ) → InOrder (length bytes) 0 (pieces_of bytes)
ordered bytes =
    pieces_ordered bytes (length bytes) None (runs bytes) 0 (runs_ordered bytes (length bytes - 0) 0 0 (omega arith) (λ q low high. absurd (omega (arith, high))))
