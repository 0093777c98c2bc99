-- A file of such statements is read, and says what they say.
use Rattle.std.proofs.Common.{◌≡◌, ◌≤◌, ℕ, suc, Bool, false, List, [], ◌∷◌, ◌++◌, Option, None, All, length, position, flat_map, reverse, nat_lt, Result, Ok, refl, sym, ap, ◌∙◌, subst, arith, append-nil, append_assoc}
use Rattle.std.proofs.lemmas.List.{reverse-append}
use Rattle.mm_tokens.specs.Bytes.{is_bad}
use Rattle.mm_tokens.specs.Pieces.{pieces_of, open_in}
use Rattle.mm_tokens.specs.declared.pieces.Span.{Span}
use Rattle.mm_scope.specs.Databases.{nothing_read, at_the_end, unless_open, database_of}
use Rattle.mm_scope.specs.Events.{Event, put, symbols}
use Rattle.mm_scope.specs.Judged.{most_bytes, is_long, before_bad}
use Rattle.mm_scope.specs.Looks.{look_back}
use Rattle.mm_scope.specs.Reading.{after, read_from}
use Rattle.mm_scope.specs.Steps.{State}
use Rattle.mm_scope.specs.declared.fault.ReadFault.{ReadFault}
use Rattle.mm_scope.specs.declared.mode.Mode.TheVariants as mode
use Rattle.mm_grammar.specs.Phrases.{Noted, Phrase, noted_from, tokens, symbols_in, told, IsForm, IsSymbol}
use Rattle.mm_grammar.specs.Readable.{IsReadable, past_of}
use Rattle.mm_grammar.specs.Rules.{FollowsRules}
use Rattle.mm_grammar.proofs.Going.{at, commented, EndsIn, Goal, ReadsTo, IsBetween, reads_none, pieces_read}
use Rattle.mm_grammar.proofs.Saying.{each_of, phrase_read}
use Rattle.mm_grammar.proofs.Taking.{onto, rules_before}
use Rattle.mm_grammar.proofs.Written.{all_judged}

pub onto_is : (es past : List Event) → onto es past ≡ reverse es ++ past
onto_is [] past = refl
onto_is (e ∷ es) past = onto_is es (e ∷ past) ∙ sym (append_assoc (reverse es) (e ∷ []) past) ∙ ap (λ l. l ++ past) (sym (reverse-append (e ∷ []) es))

onto_both : (es fs past : List Event) → onto (es ++ fs) past ≡ onto fs (onto es past)
onto_both [] fs past = refl
onto_both (e ∷ es) fs past = onto_both es fs (e ∷ past)

rules_dropped : (zs past : List Event) → FollowsRules (zs ++ past) → FollowsRules past
rules_dropped [] past r = r
rules_dropped (z ∷ zs) past r = rules_dropped zs past r.1

-- statements are read where others and the beginning of one come after them
module _ (bytes : List ℕ) (rest : List Noted) (final : List Event) (goal : Goal) (rules : FollowsRules final) (zs : List Event) where
  pub phrases_read : (xs : List Phrase) (past : List Event) → final ≡ zs ++ onto (flat_map (told bytes) xs) past → All (IsForm bytes) xs → All (λ x. All (IsSymbol bytes (symbols final)) (symbols_in x)) xs
      → ((begun : ℕ) (label : List ℕ) (described : Option Span) (buffer : List ℕ) (proof : ℕ)
      → ReadsTo bytes (at mode.Start (onto (flat_map (told bytes) xs) past) begun label described buffer proof None) rest goal)
      → (begun : ℕ) (label : List ℕ) (described : Option Span) (buffer : List ℕ) (proof : ℕ) → ReadsTo bytes (at mode.Start past begun label described buffer proof None) (flat_map tokens xs ++ rest) goal
  phrases_read [] past e formed named next b l d buf pr = next b l d buf pr
  phrases_read (x ∷ xs) past e formed named next b l d buf pr =
      let es : List Event = told bytes x in
      let fs : List Event = flat_map (told bytes) xs in
      let f : final ≡ zs ++ onto fs (onto es past) = e ∙ ap (λ q. zs ++ q) (onto_both es fs past) in
      subst (λ ns. ReadsTo bytes (at mode.Start past b l d buf pr None) ns goal) (sym (append_assoc (tokens x) (flat_map tokens xs) rest))
      (phrase_read bytes (flat_map tokens xs ++ rest) final goal x (zs ++ reverse (es ++ fs)) past (formed 0 x (omega arith))
      (e ∙ ap (λ q. zs ++ q) (onto_is (es ++ fs) past) ∙ sym (append_assoc zs (reverse (es ++ fs)) past))
      (each_of (IsSymbol bytes (symbols final)) (symbols_in x) (named 0 x (omega arith))) (rules_before fs (onto es past) (rules_dropped zs (onto fs (onto es past)) (subst FollowsRules f rules)))
      (phrases_read xs (onto es past) f (λ k y small. formed (suc k) y (omega (arith, small))) (λ k y small. named (suc k) y (omega (arith, small)))
      (λ b l d buf pr. subst (λ q. ReadsTo bytes (at mode.Start q b l d buf pr None) rest goal) (onto_both es fs past) (next b l d buf pr))) b l d buf pr)

pub not_long : (n : ℕ) → n ≤ most_bytes → nat_lt most_bytes n ≡ false
not_long n h = grind (arith, h)

-- reading bytes up to the first bad one
abbrev read_up_to : List ℕ → Option ℕ → Bool → Result (List Event) ReadFault
read_up_to b bad long =
    after (read_from put look_back (before_bad b bad) nothing_read (pieces_of (before_bad b bad))) (λ s. at_the_end s bad long (open_in (pieces_of (before_bad b bad))))

module _ (bytes : List ℕ) (xs : List Phrase) (r : IsReadable bytes xs) where
  all_read : database_of bytes ≡ after (read_from put look_back bytes nothing_read (pieces_of bytes)) (λ s. at_the_end s None false None)
  unfolding database_of
  all_read =
      let short : is_long bytes ≡ false = not_long (length bytes) r.short in
      ap (λ b. read_up_to b (position is_bad b) (is_long bytes)) (all_judged bytes short)
      ∙ ap (λ bad. read_up_to bytes bad (is_long bytes)) r.clean
      ∙ ap (read_up_to bytes None) short
      ∙ ap (λ unclosed. after (read_from put look_back bytes nothing_read (pieces_of bytes)) (λ s. at_the_end s None false unclosed)) r.ended

  reads : ReadsTo bytes nothing_read (noted_from None (pieces_of bytes)) (IsBetween (past_of bytes xs))
  reads =
      let from : past_of bytes xs ≡ onto (flat_map (told bytes) xs) [] = sym (onto_is (flat_map (told bytes) xs) [] ∙ append-nil (past_of bytes xs)) in
      subst (λ ns. ReadsTo bytes nothing_read ns (IsBetween (past_of bytes xs))) (append-nil (flat_map tokens xs) ∙ r.whole)
      (phrases_read bytes [] (past_of bytes xs) (IsBetween (past_of bytes xs)) r.asked [] xs [] from r.formed r.named
      (λ b l d buf pr. subst (λ q. ReadsTo bytes (at mode.Start q b l d buf pr None) [] (IsBetween (past_of bytes xs))) from (reads_none bytes (past_of bytes xs) b l d buf pr None)) 0 [] None [] 0)

  pub read_so : database_of bytes ≡ Ok (past_of bytes xs)
  read_so =
      let t : State (List Event) = at mode.Start (past_of bytes xs) reads.begun reads.label reads.described reads.buffer reads.proof reads.comment in
      let ends : EndsIn (read_from put look_back bytes nothing_read (pieces_of bytes)) t = pieces_read bytes (pieces_of bytes) nothing_read t (record { comment = reads.comment; is = reads.is }) in
      all_read ∙ ap (λ x. after x (λ s. at_the_end s None false None)) ends.is ∙ ap (unless_open (commented t ends.comment)) r.closed
