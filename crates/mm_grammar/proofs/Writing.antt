-- What has been written when so many tokens are read.
use Rattle.std.proofs.Common.{◌≡◌, ◌≤◌, ◌<◌, ◌+◌, ℕ, List, [], ◌∷◌, ◌++◌, Option, All, length, map, flat_map, reverse, codes, refl, sym, ap, ◌∙◌, subst, append_assoc, append-nil, arith, length-append}
use Rattle.std.proofs.lemmas.List.{map_push, reverse-append, length-map}
use Rattle.std.proofs.lemmas.List.Elements.{All-push, All-nil}
use Rattle.std.proofs.lemmas.Grind.{flat_map-append}
use Rattle.mm_tokens.specs.declared.pieces.Span.{Span}
use Rattle.mm_tables.specs.Texts.{with_text}
use Rattle.mm_scope.specs.Events.{Event, constant, variable, symbols}
use Rattle.mm_scope.specs.Steps.{State, most_symbols}
use Rattle.mm_scope.specs.declared.mode.Mode.{Mode}
use Rattle.mm_scope.specs.declared.mode.Mode.TheVariants as mode
use Rattle.mm_grammar.specs.Phrases.{Noted, Symbol, Phrase, places, numbers, tokens, symbols_in, text_at, told, Reads, IsPlain, IsLabel, IsForm, IsSymbol}
use Rattle.mm_grammar.specs.Readable.{past_of}
use Rattle.mm_grammar.proofs.Known.{kept_named}

abbrev pub AreSymbols : List ℕ → List (List ℕ) → List Symbol → Type 0
AreSymbols bytes all ss = All (IsSymbol bytes all) ss

flat_push : {A : Type 0} (f : Phrase → List A) (ps : List Phrase) (p : Phrase) → flat_map f (ps ++ (p ∷ [])) ≡ flat_map f ps ++ f p
flat_push f ps p = flat_map-append f ps (p ∷ []) ∙ ap (λ l. flat_map f ps ++ l) (append-nil (f p))

pub past_push : (bytes : List ℕ) (ps : List Phrase) (p : Phrase) → past_of bytes (ps ++ (p ∷ [])) ≡ reverse (told bytes p) ++ past_of bytes ps
past_push bytes ps p = ap reverse (flat_push (told bytes) ps p) ∙ reverse-append (flat_map (told bytes) ps) (told bytes p)

-- the statements that are done, and the tokens of the one that is begun
pub record IsDone (bytes : List ℕ) (all : List (List ℕ)) (read : List Noted) (ps : List Phrase) (begun : List Noted) : Type 0 where
  pub whole : read ≡ flat_map tokens ps ++ begun
  pub formed : All (IsForm bytes) ps
  pub named : All (λ p. AreSymbols bytes all (symbols_in p)) ps

pub none_done : (bytes : List ℕ) (all : List (List ℕ)) → IsDone bytes all [] [] []
none_done bytes all = record { whole = refl; formed = All-nil (IsForm bytes); named = All-nil (λ p. AreSymbols bytes all (symbols_in p)) }

module _ (bytes : List ℕ) (all : List (List ℕ)) (read : List Noted) (ps : List Phrase) (begun : List Noted) (d : IsDone bytes all read ps begun) where
  -- one token more
  pub one_token : (n : Noted) → IsDone bytes all (read ++ (n ∷ [])) ps (begun ++ (n ∷ []))
  one_token n = record { whole = ap (λ r. r ++ (n ∷ [])) d.whole ∙ append_assoc (flat_map tokens ps) begun (n ∷ []); formed = d.formed; named = d.named }

  -- the last token of a statement
  pub one_phrase : (p : Phrase) (n : Noted) → tokens p ≡ begun ++ (n ∷ []) → IsForm bytes p → AreSymbols bytes all (symbols_in p) → IsDone bytes all (read ++ (n ∷ [])) (ps ++ (p ∷ [])) []
  one_phrase p n ends form named = record {
    whole = (one_token n).whole ∙ ap (λ l. flat_map tokens ps ++ l) (sym ends) ∙ sym (flat_push tokens ps p) ∙ sym (append-nil (flat_map tokens (ps ++ (p ∷ []))));
    formed = All-push (IsForm bytes) ps p d.formed form;
    named = All-push (λ q. AreSymbols bytes all (symbols_in q)) ps p d.named named;
  }

-- one declared text more
pub symbols_kept : (bytes : List ℕ) (all : List (List ℕ)) (t : List ℕ) (ss : List Symbol) → AreSymbols bytes all ss → AreSymbols bytes (with_text all t) ss
symbols_kept bytes all t ss h k d small = let w = h k d small in record { plain = w.plain; named = kept_named all t _ _ w.named }

pub one_text : (bytes : List ℕ) (all : List (List ℕ)) (read : List Noted) (ps : List Phrase) (begun : List Noted) (t : List ℕ)
    → IsDone bytes all read ps begun → IsDone bytes (with_text all t) read ps begun
one_text bytes all read ps begun t d = record { whole = d.whole; formed = d.formed; named = λ k p small. symbols_kept bytes all t _ (d.named k p small) }

-- of the statement that is begun its keyword and its symbols so far
pub record Listing (bytes keyword : List ℕ) (all : List (List ℕ)) (buffer : List ℕ) (listed : List Symbol) (begun : List Noted) : Type 0 where
  pub first : Noted
  pub reads : Reads bytes first keyword
  pub stands : begun ≡ first ∷ places listed
  pub numbered : buffer ≡ numbers listed
  pub few : length buffer ≤ most_symbols
  pub named : AreSymbols bytes all listed

-- its label
pub record Labelling (bytes label : List ℕ) (described : Option Span) (begun rest : List Noted) : Type 0 where
  pub name : Noted
  pub is : IsLabel bytes name
  pub text : label ≡ text_at bytes name
  pub comment : described ≡ name.comment
  pub stands : begun ≡ name ∷ rest

-- both
pub record Stating (bytes keyword label : List ℕ) (described : Option Span) (all : List (List ℕ)) (buffer : List ℕ) (begun : List Noted) : Type 0 where
  pub rest : List Noted
  pub listed : List Symbol
  pub labelling : Labelling bytes label described begun rest
  pub listing : Listing bytes keyword all buffer listed rest

-- both, the `$=` and the proof so far
pub record Proving (bytes label : List ℕ) (described : Option Span) (all : List (List ℕ)) (buffer : List ℕ) (from : ℕ) (begun : List Noted) : Type 0 where
  pub front : List Noted
  pub stating : Stating bytes (codes "$p") label described all buffer front
  pub some : 0 < length buffer
  pub equals : Noted
  pub reads : Reads bytes equals (codes "$=")
  pub proof : List Noted
  pub plain : All (IsPlain bytes) proof
  pub starts : from ≡ equals.token.start + 2
  pub stands : begun ≡ front ++ (equals ∷ proof)

-- a declaration says each of its symbols at once
abbrev pub told_by : List ℕ → (List ℕ → ℕ → Event) → Symbol → Event
told_by bytes event s = event (text_at bytes s.place) s.number

pub record Declaring (bytes keyword : List ℕ) (event : List ℕ → ℕ → Event) (past : List Event) (ps : List Phrase) (buffer : List ℕ) (begun : List Noted) : Type 0 where
  pub listed : List Symbol
  pub listing : Listing bytes keyword (symbols past) buffer listed begun
  pub said : past ≡ reverse (map (told_by bytes event) listed) ++ past_of bytes ps

pub listing_begun : (bytes keyword : List ℕ) (all : List (List ℕ)) (begun : List Noted) (n : Noted) → begun ≡ [] → Reads bytes n keyword → Listing bytes keyword all [] [] (begun ++ (n ∷ []))
listing_begun bytes keyword all begun n none reads = record {
  first = n;
  reads = reads;
  stands = ap (λ b. b ++ (n ∷ [])) none;
  numbered = refl;
  few = omega arith;
  named = All-nil (IsSymbol bytes all);
}

pub listing_more : (bytes keyword : List ℕ) (all : List (List ℕ)) (buffer : List ℕ) (listed : List Symbol) (begun : List Noted) (x : Symbol)
    → Listing bytes keyword all buffer listed begun → IsSymbol bytes all x → length buffer < most_symbols → Listing bytes keyword all (buffer ++ x.number ∷ []) (listed ++ x ∷ []) (begun ++ x.place ∷ [])
listing_more bytes keyword all buffer listed begun x l is room = record {
  first = l.first;
  reads = l.reads;
  stands = ap (λ b. b ++ x.place ∷ []) l.stands ∙ ap (λ xs. l.first ∷ xs) (sym (map_push (λ (s : Symbol). s.place) listed x));
  numbered = ap (λ b. b ++ x.number ∷ []) l.numbered ∙ sym (map_push (λ (s : Symbol). s.number) listed x);
  few = omega (arith, room, length-append buffer (x.number ∷ []));
  named = All-push (IsSymbol bytes all) listed x l.named is;
}

pub as_long : (buffer : List ℕ) (ss : List Symbol) → buffer ≡ numbers ss → length buffer ≡ length ss
as_long buffer ss e = ap length e ∙ length-map ss (λ (s : Symbol). s.number)

pub labelling_more : (bytes label : List ℕ) (described : Option Span) (begun rest : List Noted) (n : Noted)
    → Labelling bytes label described begun rest → Labelling bytes label described (begun ++ (n ∷ [])) (rest ++ (n ∷ []))
labelling_more bytes label described begun rest n l = record { name = l.name; is = l.is; text = l.text; comment = l.comment; stands = ap (λ b. b ++ (n ∷ [])) l.stands }

pub stating_more : (bytes keyword label : List ℕ) (described : Option Span) (all : List (List ℕ)) (buffer : List ℕ) (begun : List Noted) (x : Symbol)
    → Stating bytes keyword label described all buffer begun → IsSymbol bytes all x → length buffer < most_symbols → Stating bytes keyword label described all (buffer ++ x.number ∷ []) (begun ++ (x.place ∷ []))
stating_more bytes keyword label described all buffer begun x s is room = record {
  rest = s.rest ++ (x.place ∷ []);
  listed = s.listed ++ x ∷ [];
  labelling = labelling_more bytes label described begun s.rest x.place s.labelling;
  listing = listing_more bytes keyword all buffer s.listed s.rest x s.listing is room;
}

pub proving_more : (bytes label : List ℕ) (described : Option Span) (all : List (List ℕ)) (buffer : List ℕ) (from : ℕ) (begun : List Noted) (n : Noted)
    → Proving bytes label described all buffer from begun → IsPlain bytes n → Proving bytes label described all buffer from (begun ++ (n ∷ []))
proving_more bytes label described all buffer from begun n p plain = record {
  front = p.front;
  stating = p.stating;
  some = p.some;
  equals = p.equals;
  reads = p.reads;
  proof = p.proof ++ (n ∷ []);
  plain = All-push (IsPlain bytes) p.proof n p.plain plain;
  starts = p.starts;
  stands = ap (λ b. b ++ (n ∷ [])) p.stands ∙ append_assoc p.front (p.equals ∷ p.proof) (n ∷ []);
}

pub declaring_more : (bytes keyword : List ℕ) (event : List ℕ → ℕ → Event) (past : List Event) (ps : List Phrase) (buffer : List ℕ) (begun : List Noted) (x : Symbol)
    → symbols (event (text_at bytes x.place) x.number ∷ past) ≡ with_text (symbols past) (text_at bytes x.place)
    → IsSymbol bytes (with_text (symbols past) (text_at bytes x.place)) x → length buffer < most_symbols → Declaring bytes keyword event past ps buffer begun
    → Declaring bytes keyword event (event (text_at bytes x.place) x.number ∷ past) ps (buffer ++ x.number ∷ []) (begun ++ (x.place ∷ []))
declaring_more bytes keyword event past ps buffer begun x same is room d = record {
  listed = d.listed ++ x ∷ [];
  listing = subst (λ all. Listing bytes keyword all (buffer ++ x.number ∷ []) (d.listed ++ x ∷ []) (begun ++ x.place ∷ [])) (sym same) (listing_more bytes keyword (with_text (symbols past) (text_at bytes x.place)) buffer d.listed begun x l is room);
  said = ap (λ q. told_by bytes event x ∷ q) d.said ∙ ap (λ q. q ++ past_of bytes ps) (sym (ap reverse (map_push (told_by bytes event) d.listed x) ∙ reverse-append (map (told_by bytes event) d.listed) (told_by bytes event x ∷ [])));
}
  where
    l : Listing bytes keyword (with_text (symbols past) (text_at bytes x.place)) buffer d.listed begun
    l = record {
      first = d.listing.first;
      reads = d.listing.reads;
      stands = d.listing.stands;
      numbered = d.listing.numbered;
      few = d.listing.few;
      named = symbols_kept bytes (symbols past) (text_at bytes x.place) d.listed d.listing.named;
    }

-- what has been read of the statement that is begun, and what is said by then
abbrev pub BegunAs : List ℕ → Mode → List Event → List ℕ → Option Span → List ℕ → ℕ → List Phrase → List Noted → Type 0
BegunAs bytes mode.Start past label described buffer from ps begun = (begun ≡ []) × (past ≡ past_of bytes ps)
BegunAs bytes mode.Labelled past label described buffer from ps begun = Labelling bytes label described begun [] × (past ≡ past_of bytes ps)
BegunAs bytes mode.Constants past label described buffer from ps begun = Declaring bytes (codes "$c") constant past ps buffer begun
BegunAs bytes mode.Variables past label described buffer from ps begun = Declaring bytes (codes "$v") variable past ps buffer begun
BegunAs bytes mode.Distinct past label described buffer from ps begun =
    ((ss : List Symbol) × Listing bytes (codes "$d") (symbols past) buffer ss begun) × (past ≡ past_of bytes ps)
BegunAs bytes mode.Float past label described buffer from ps begun = Stating bytes (codes "$f") label described (symbols past) buffer begun × (past ≡ past_of bytes ps)
BegunAs bytes mode.Essential past label described buffer from ps begun = Stating bytes (codes "$e") label described (symbols past) buffer begun × (past ≡ past_of bytes ps)
BegunAs bytes mode.Axiom past label described buffer from ps begun = Stating bytes (codes "$a") label described (symbols past) buffer begun × (past ≡ past_of bytes ps)
BegunAs bytes mode.Theorem past label described buffer from ps begun = Stating bytes (codes "$p") label described (symbols past) buffer begun × (past ≡ past_of bytes ps)
BegunAs bytes mode.Proof past label described buffer from ps begun = Proving bytes label described (symbols past) buffer from begun × (past ≡ past_of bytes ps)

abbrev pub Begun : List ℕ → Mode → State (List Event) → List Phrase → List Noted → Type 0
Begun bytes m s ps begun = BegunAs bytes m s.context s.label s.described s.buffer s.proof ps begun

-- where its first token stands, or its second
abbrev pub FirstAt : ℕ → List Noted → Type 0
FirstAt p [] = ⊥
FirstAt p (n ∷ ns) = n.token.start ≡ p

abbrev pub SecondAt : ℕ → List Noted → Type 0
SecondAt p [] = ⊥
SecondAt p (n ∷ ns) = FirstAt p ns

-- the label alone, or the keyword, stands there
abbrev pub IsPlaced : Mode → ℕ → List Noted → Type 0
IsPlaced mode.Start p begun = Unit {0}
IsPlaced mode.Labelled p begun = FirstAt p begun
IsPlaced mode.Constants p begun = FirstAt p begun
IsPlaced mode.Variables p begun = FirstAt p begun
IsPlaced mode.Distinct p begun = FirstAt p begun
IsPlaced mode.Float p begun = SecondAt p begun
IsPlaced mode.Essential p begun = SecondAt p begun
IsPlaced mode.Axiom p begun = SecondAt p begun
IsPlaced mode.Theorem p begun = SecondAt p begun
IsPlaced mode.Proof p begun = SecondAt p begun

first_more : (p : ℕ) (begun : List Noted) (n : Noted) → FirstAt p begun → FirstAt p (begun ++ (n ∷ []))
first_more p [] n h = absurd h
first_more p (x ∷ xs) n h = h

second_more : (p : ℕ) (begun : List Noted) (n : Noted) → SecondAt p begun → SecondAt p (begun ++ (n ∷ []))
second_more p [] n h = absurd h
second_more p (x ∷ xs) n h = first_more p xs n h

pub placed_more : (m : Mode) (p : ℕ) (begun : List Noted) (n : Noted) → IsPlaced m p begun → IsPlaced m p (begun ++ (n ∷ []))
placed_more mode.Start p begun n h = tt
placed_more mode.Labelled p begun n h = first_more p begun n h
placed_more mode.Constants p begun n h = first_more p begun n h
placed_more mode.Variables p begun n h = first_more p begun n h
placed_more mode.Distinct p begun n h = first_more p begun n h
placed_more mode.Float p begun n h = second_more p begun n h
placed_more mode.Essential p begun n h = second_more p begun n h
placed_more mode.Axiom p begun n h = second_more p begun n h
placed_more mode.Theorem p begun n h = second_more p begun n h
placed_more mode.Proof p begun n h = second_more p begun n h

pub record ReadAt (bytes : List ℕ) (read : List Noted) (s : State (List Event)) (m : Mode) : Type 0 where
  pub phrases : List Phrase
  pub begun : List Noted
  pub placed : IsPlaced m s.begun begun
  pub done : IsDone bytes (symbols s.context) read phrases begun
  pub now : Begun bytes m s phrases begun
