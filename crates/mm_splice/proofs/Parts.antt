-- The pieces of a part of a list of bytes, and the same pieces where that part stands in other bytes.
use Rattle.std.proofs.Common.{◌≡◌, ◌≢◌, ℕ, ◌+◌, ◌-◌, ◌<◌, ◌≤◌, Bool, true, false, List, [], ◌∷◌, ◌++◌, map, None, length, get_or, refl, sym, ◌∙◌, ap, subst, arith, ◌⊎◌, inl, inr}
use Rattle.mm_tokens.specs.Bytes.{is_graphic}
use Rattle.mm_tokens.specs.Parts.{IsBlank, IsRun, IsMark, IsToken, IsComment, IsPiece, AreParts, piece_start, piece_end}
use Rattle.mm_tokens.specs.Pieces.{open_in}
use Rattle.std.proofs.lemmas.Bool.{true≢false}
use Rattle.mm_tokens.specs.declared.pieces.Piece.{Piece}
use Rattle.mm_tokens.specs.declared.pieces.Piece.TheVariants.{Token, Comment, Open}
use Rattle.mm_splice.specs.Moved.{move_piece}

below_or : (k n : ℕ) → (k < n) ⊎ (n ≤ k)
below_or k n = grind arith

order : (p q : ℕ) → (p < q) ⊎ (p ≡ q) ⊎ (q < p)
order p q = grind arith

not_both : (b : Bool) → b ≡ false → b ≡ true → ⊥
not_both b off on = true≢false (sym on ∙ off)

-- each comment is ended
abbrev pub AreEnded : List Piece → Type 0
AreEnded [] = Unit {0}
AreEnded (Token t ∷ ps) = AreEnded ps
AreEnded (Comment c ∷ ps) = AreEnded ps
AreEnded (Open p ∷ ps) = ⊥

pub ended : (ps : List Piece) → open_in ps ≡ None → AreEnded ps
ended [] e = tt
ended (Token t ∷ ps) e = ended ps e
ended (Comment c ∷ ps) e = ended ps e
ended (Open p ∷ ps) e = cc

pub none_open : (ps : List Piece) → AreEnded ps → open_in ps ≡ None
none_open [] e = refl
none_open (Token t ∷ ps) e = none_open ps e
none_open (Comment c ∷ ps) e = none_open ps e
none_open (Open p ∷ ps) e = absurd e

pub ended_front : (ps qs : List Piece) → AreEnded (ps ++ qs) → AreEnded ps
ended_front [] qs e = tt
ended_front (Token t ∷ ps) qs e = ended_front ps qs e
ended_front (Comment c ∷ ps) qs e = ended_front ps qs e
ended_front (Open p ∷ ps) qs e = absurd e

pub ended_rest : (ps qs : List Piece) → AreEnded (ps ++ qs) → AreEnded qs
ended_rest [] qs e = e
ended_rest (Token t ∷ ps) qs e = ended_rest ps qs e
ended_rest (Comment c ∷ ps) qs e = ended_rest ps qs e
ended_rest (Open p ∷ ps) qs e = absurd e

pub ended_both : (ps qs : List Piece) → AreEnded ps → AreEnded qs → AreEnded (ps ++ qs)
ended_both [] qs d e = e
ended_both (Token t ∷ ps) qs d e = ended_both ps qs d e
ended_both (Comment c ∷ ps) qs d e = ended_both ps qs d e
ended_both (Open p ∷ ps) qs d e = absurd d

pub ended_moved : (f : ℕ → ℕ) (ps : List Piece) → AreEnded ps → AreEnded (map (move_piece f) ps)
ended_moved f [] e = tt
ended_moved f (Token t ∷ ps) e = ended_moved f ps e
ended_moved f (Comment c ∷ ps) e = ended_moved f ps e
ended_moved f (Open p ∷ ps) e = absurd e

-- these are the pieces from place p up to place q
abbrev pub UpTo : List ℕ → ℕ → List Piece → ℕ → Type 0
UpTo bytes p [] q = (p ≤ q) × IsBlank bytes p q
UpTo bytes p (x ∷ xs) q = (p ≤ piece_start x) × IsBlank bytes p (piece_start x) × IsPiece bytes x × UpTo bytes (piece_end bytes x) xs q

pub piece_rises : (bytes : List ℕ) (x : Piece) → IsPiece bytes x → piece_start x < piece_end bytes x
piece_rises bytes (Token t) is = is.run.some
piece_rises bytes (Comment c) is = omega (arith, is.room)
piece_rises bytes (Open p) is = omega (arith, is.opens.run.within)

piece_within : (bytes : List ℕ) (x : Piece) → IsPiece bytes x → piece_end bytes x ≤ length bytes
piece_within bytes (Token t) is = is.run.within
piece_within bytes (Comment c) is = omega (arith, is.room, is.closes.run.within)
piece_within bytes (Open p) is = omega arith

pub upto_rises : (bytes : List ℕ) (p : ℕ) (xs : List Piece) (q : ℕ) → UpTo bytes p xs q → p ≤ q
upto_rises bytes p [] q u = u.0
upto_rises bytes p (x ∷ xs) q u = omega (arith, u.0, piece_rises bytes x u.2, upto_rises bytes (piece_end bytes x) xs q u.3)

pub upto_end : (bytes : List ℕ) (p : ℕ) (xs : List Piece) → p ≤ length bytes → AreParts bytes p xs → UpTo bytes p xs (length bytes)
upto_end bytes p [] h parts = (h, parts)
upto_end bytes p (x ∷ xs) h parts = (parts.0, parts.1, parts.2, upto_end bytes (piece_end bytes x) xs (piece_within bytes x parts.2) parts.3)

pub parts_end : (bytes : List ℕ) (p : ℕ) (xs : List Piece) → UpTo bytes p xs (length bytes) → AreParts bytes p xs
parts_end bytes p [] u = u.1
parts_end bytes p (x ∷ xs) u = (u.0, u.1, u.2, parts_end bytes (piece_end bytes x) xs u.3)

-- the pieces before one, and those from it on
pub split : (bytes : List ℕ) (p q : ℕ) (xs : List Piece) (y : Piece) (ys : List Piece) → UpTo bytes p (xs ++ y ∷ ys) q
    → UpTo bytes p xs (piece_start y) × UpTo bytes (piece_start y) (y ∷ ys) q
split bytes p q [] y ys u = ((u.0, u.1), (omega arith, λ k a b. absurd (omega (arith, a, b)), u.2, u.3))
split bytes p q (x ∷ xs) y ys u =
    let r : UpTo bytes (piece_end bytes x) xs (piece_start y) × UpTo bytes (piece_start y) (y ∷ ys) q = split bytes (piece_end bytes x) q xs y ys u.3 in
    ((u.0, u.1, u.2, r.0), r.1)

pub glue : (bytes : List ℕ) (p m q : ℕ) (xs ys : List Piece) → UpTo bytes p xs m → UpTo bytes m ys q → UpTo bytes p (xs ++ ys) q
glue bytes p m q [] [] u v = (omega (arith, u.0, v.0), λ k a b. elim (below_or k m) [ inl h ↦ u.1 k a h | inr h ↦ v.1 k h b ])
glue bytes p m q [] (y ∷ ys) u v = (omega (arith, u.0, v.0), λ k a b. elim (below_or k m) [ inl h ↦ u.1 k a h | inr h ↦ v.1 k h b ], v.2, v.3)
glue bytes p m q (x ∷ xs) ys u v = (u.0, u.1, u.2, glue bytes (piece_end bytes x) m q xs ys u.3 v)

run_same : (bytes : List ℕ) (p e d : ℕ) → IsRun bytes p e → IsRun bytes p d → e ≡ d
run_same bytes p e d one two =
    elim (order e d) [
      | inl less ↦ absurd (not_both _ one.after (two.graphic e (omega (arith, one.some)) less))
      | inr other ↦ elim other [ inl same ↦ same | inr more ↦ absurd (not_both _ two.after (one.graphic d (omega (arith, two.some)) more)) ]
    ]

at_or_after : (a p : ℕ) → a ≤ p → (p ≡ a) ⊎ (a < p)
at_or_after a p h = grind arith

at_or_before : (p a : ℕ) → p ≤ a → (p ≡ a) ⊎ (p < a)
at_or_before p a h = grind arith

-- The n bytes of old from a on stand in new from b on, f moves their places, and no run goes on across their ends in new.
module _ (old new : List ℕ) (f : ℕ → ℕ) (a b n : ℕ)
    (old_room : a + n ≤ length old) (new_room : b + n ≤ length new)
    (rise : (p : ℕ) → a ≤ p → p ≤ a + n → f p + a ≡ p + b)
    (same : (p q : ℕ) → q + a ≡ p + b → a ≤ p → p < a + n → get_or new q 0 ≡ get_or old p 0)
    (edge : is_graphic (get_or old a 0) ≡ true → b ≢ 0 → is_graphic (get_or new (b - 1) 0) ≡ false)
    (rim : is_graphic (get_or old ((a + n) - 1) 0) ≡ true → is_graphic (get_or new (b + n) 0) ≡ false) where
  kind : (p q : ℕ) (c : Bool) → q + a ≡ p + b → a ≤ p → p < a + n → is_graphic (get_or old p 0) ≡ c → is_graphic (get_or new q 0) ≡ c
  kind p q c e low high h = ap is_graphic (same p q e low high) ∙ h

  kind_back : (p q : ℕ) (c : Bool) → q + a ≡ p + b → a ≤ p → p < a + n → is_graphic (get_or new q 0) ≡ c → is_graphic (get_or old p 0) ≡ c
  kind_back p q c e low high h = ap is_graphic (sym (same p q e low high)) ∙ h

  before_run : (s e : ℕ) → a ≤ s → e ≤ a + n → IsRun old s e → (s ≡ a) ⊎ (a < s) → f s ≢ 0 → is_graphic (get_or new (f s - 1) 0) ≡ false
  before_run s e low high run (inl here) nz =
      let first : f s ≡ b = omega (arith, here, rise s low (omega (arith, high, run.some))) in
      let there : is_graphic (get_or old a 0) ≡ true = subst (λ k. is_graphic (get_or old k 0) ≡ true) here (run.graphic s (omega arith) run.some) in
      subst (λ k. is_graphic (get_or new (k - 1) 0) ≡ false) (sym first) (edge there (λ z. nz (first ∙ z)))
  before_run s e low high run (inr later) nz =
      let moved : f s + a ≡ s + b = rise s low (omega (arith, high, run.some)) in
      kind (s - 1) (f s - 1) false (omega (arith, moved, later)) (omega (arith, later)) (omega (arith, later, high, run.some)) (run.before (λ z. omega (arith, z, later)))

  after_run : (e : ℕ) → a ≤ e → e ≤ a + n → is_graphic (get_or old (e - 1) 0) ≡ true → is_graphic (get_or old e 0) ≡ false → (e ≡ a + n) ⊎ (e < a + n)
      → is_graphic (get_or new (f e) 0) ≡ false
  after_run e low high goes stops (inl last) =
      let moved : f e ≡ b + n = omega (arith, rise e low high, last) in
      subst (λ k. is_graphic (get_or new k 0) ≡ false) (sym moved) (rim (subst (λ k. is_graphic (get_or old (k - 1) 0) ≡ true) last goes))
  after_run e low high goes stops (inr within) = kind e (f e) false (omega (arith, rise e low high)) low within stops

  run_moved : (s e : ℕ) → a ≤ s → e ≤ a + n → IsRun old s e → IsRun new (f s) (f e)
  run_moved s e low high run =
      let start : f s + a ≡ s + b = rise s low (omega (arith, high, run.some)) in
      let end : f e + a ≡ e + b = rise e (omega (arith, low, run.some)) high in
      record {
        some = omega (arith, start, end, run.some);
        within = omega (arith, end, new_room, high);
        graphic = λ k from to. kind ((k + a) - b) k true (omega (arith, from, start, low)) (omega (arith, from, start, low)) (omega (arith, from, to, start, end, low, high)) (run.graphic ((k + a) - b) (omega (arith, from, start, low)) (omega (arith, from, to, start, end, low)));
        before = before_run s e low high run (at_or_after a s low);
        after = after_run e (omega (arith, low, run.some)) high (run.graphic (e - 1) (omega (arith, run.some)) (omega (arith, run.some))) run.after (at_or_before e (a + n) high);
      }

  mark_moved : (c s : ℕ) → a ≤ s → s + 2 ≤ a + n → IsMark old c s → IsMark new c (f s)
  mark_moved c s low high mark =
      let start : f s + a ≡ s + b = rise s low (omega (arith, high)) in
      let end : f (s + 2) ≡ f s + 2 = omega (arith, start, rise (s + 2) (omega (arith, low)) high) in
      record {
        run = subst (IsRun new (f s)) end (run_moved s (s + 2) low high mark.run);
        dollar = same s (f s) start low (omega (arith, high)) ∙ mark.dollar;
        second = same (s + 1) (f s + 1) (omega (arith, start)) (omega (arith, low)) (omega (arith, high)) ∙ mark.second;
      }

  mark_back : (c p q : ℕ) → q + a ≡ p + b → a < p → p + 2 < a + n → IsMark new c q → IsMark old c p
  mark_back c p q e low high mark = record {
    run = record {
      some = omega arith;
      within = omega (arith, old_room, high);
      graphic = λ k from to. kind_back k ((k + b) - a) true (omega (arith, from, low)) (omega (arith, from, low)) (omega (arith, to, high)) (mark.run.graphic ((k + b) - a) (omega (arith, from, low, e)) (omega (arith, to, low, e, from)));
      before = λ _. kind_back (p - 1) (q - 1) false (omega (arith, e, low)) (omega (arith, low)) (omega (arith, high)) (mark.run.before (λ z. omega (arith, z, e, low)));
      after = kind_back (p + 2) (q + 2) false (omega (arith, e)) (omega (arith, low)) high mark.run.after;
    };
    dollar = sym (same p q e (omega (arith, low)) (omega (arith, high))) ∙ mark.dollar;
    second = sym (same (p + 1) (q + 1) (omega (arith, e)) (omega (arith, low)) (omega (arith, high))) ∙ mark.second;
  }

  token_moved : (s e : ℕ) → a ≤ s → e ≤ a + n → IsToken old s e → IsToken new (f s) (f e)
  token_moved s e low high is =
      let start : f s + a ≡ s + b = rise s low (omega (arith, high, is.run.some)) in
      let end : f e + a ≡ e + b = rise e (omega (arith, low, is.run.some)) high in
      record {
        run = run_moved s e low high is.run;
        opens_none = λ mark.
            let two : f e ≡ f s + 2 = run_same new (f s) (f e) (f s + 2) (run_moved s e low high is.run) mark.run in
            let last : e ≡ s + 2 = omega (arith, two, start, end) in
            is.opens_none (record {
              run = subst (IsRun old s) last is.run;
              dollar = sym (same s (f s) start low (omega (arith, high, is.run.some))) ∙ mark.dollar;
              second = sym (same (s + 1) (f s + 1) (omega (arith, start)) (omega (arith, low)) (omega (arith, high, last))) ∙ mark.second;
            });
      }

  comment_moved : (s e : ℕ) → a ≤ s → e ≤ a + n → IsComment old s e → IsComment new (f s) (f e)
  comment_moved s e low high is =
      let start : f s + a ≡ s + b = rise s low (omega (arith, high, is.room)) in
      let end : f e + a ≡ e + b = rise e (omega (arith, low, is.room)) high in
      let close : f (e - 2) ≡ f e - 2 = omega (arith, end, rise (e - 2) (omega (arith, low, is.room)) (omega (arith, high)), is.room) in
      record {
        opens = mark_moved 40 s low (omega (arith, high, is.room)) is.opens;
        room = omega (arith, start, end, is.room);
        closes = subst (IsMark new 41) close (mark_moved 41 (e - 2) (omega (arith, low, is.room)) (omega (arith, high, is.room)) is.closes);
        first = λ k from to mark. is.first ((k + a) - b) (omega (arith, from, start, low)) (omega (arith, from, to, start, end, low))
            (mark_back 41 ((k + a) - b) k (omega (arith, from, start, low)) (omega (arith, from, start, low)) (omega (arith, from, to, start, end, low, high)) mark);
      }

  blank_moved : (p q : ℕ) → a ≤ p → q ≤ a + n → p ≤ q → IsBlank old p q → IsBlank new (f p) (f q)
  blank_moved p q low high up blank k from to =
      let start : f p + a ≡ p + b = rise p low (omega (arith, high, up)) in
      let end : f q + a ≡ q + b = rise q (omega (arith, low, up)) high in
      kind ((k + a) - b) k false (omega (arith, from, start, low)) (omega (arith, from, start, low)) (omega (arith, from, to, start, end, low, high)) (blank ((k + a) - b) (omega (arith, from, start, low)) (omega (arith, from, to, start, end, low)))

  -- a place that comes no later moves no further
  up_moved : (p q : ℕ) → a ≤ p → q ≤ a + n → p ≤ q → f p ≤ f q
  up_moved p q low high up = omega (arith, rise p low (omega (arith, high, up)), rise q (omega (arith, low, up)) high, up)

  pub upto_moved : (p : ℕ) (xs : List Piece) (q : ℕ) → AreEnded xs → a ≤ p → q ≤ a + n → UpTo old p xs q → UpTo new (f p) (map (move_piece f) xs) (f q)
  upto_moved p [] q all low high u = (up_moved p q low high u.0, blank_moved p q low high u.0 u.1)
  upto_moved p (Token t ∷ xs) q all low high u =
      let rest : t.end ≤ q = upto_rises old t.end xs q u.3 in
      let room : t.end ≤ a + n = omega (arith, rest, high) in
      let near : t.start ≤ a + n = omega (arith, room, u.2.run.some) in (
        up_moved p t.start low near u.0,
        blank_moved p t.start low near u.0 u.1,
        token_moved t.start t.end (omega (arith, low, u.0)) room u.2,
        upto_moved t.end xs q all (omega (arith, low, u.0, u.2.run.some)) high u.3,
      )
  upto_moved p (Comment c ∷ xs) q all low high u =
      let rest : c.end ≤ q = upto_rises old c.end xs q u.3 in
      let room : c.end ≤ a + n = omega (arith, rest, high) in
      let near : c.start ≤ a + n = omega (arith, room, u.2.room) in (
        up_moved p c.start low near u.0,
        blank_moved p c.start low near u.0 u.1,
        comment_moved c.start c.end (omega (arith, low, u.0)) room u.2,
        upto_moved c.end xs q all (omega (arith, low, u.0, u.2.room)) high u.3,
      )
  upto_moved p (Open o ∷ xs) q all low high u = absurd all
