-- The proofs of the statements with an id, and their order.
use Rattle.std.proofs.Common.{◌≡◌, ℕ, ◌+◌, ◌<◌, ◌≤◌, Bool, true, false, List, [], ◌∷◌, ◌++◌, length, Result, Ok, Err, refl, sym, ◌∙◌, ap, subst, arith, length-append, ◌⊎◌, inl, inr}
use Rattle.std.proofs.lemmas.Bool.{false≢true}
use Rattle.std.proofs.lemmas.List.{get_or_append_left, get_or_past}
use Rattle.std.proofs.Math.Seq.{get_or-append_seam}
use Rattle.mm_tokens.specs.Parts.{IsToken}
use Rattle.mm_tokens.specs.Pieces.{pieces_of}
use Rattle.mm_tokens.specs.declared.pieces.Piece.{Piece}
use Rattle.mm_tokens.specs.declared.pieces.Piece.TheVariants.{Token}
use Rattle.mm_scope.specs.Databases.{unless_open, unless_begun, nothing_read}
use Rattle.mm_scope.specs.Events.{Event, constant, variable, float, essential, asserted, theorem, distinct, opened, closed, statements, open_blocks}
use Rattle.mm_stated.specs.Mandatory.{statement_at}
use Rattle.mm_stated.specs.Stated.{Stated, no_statement}
use Rattle.mm_scope.specs.declared.fault.ReadFault.{ReadFault}
use Rattle.mm_scope.specs.declared.mode.Mode.{Mode}
use Rattle.mm_scope.specs.declared.mode.Mode.TheVariants as mode
use Rattle.mm_stated.specs.declared.statement.Kind.{Kind}
use Rattle.mm_stated.specs.declared.statement.Kind.TheVariants as kind
use Rattle.mm_splice.proofs.Parts.{ended, UpTo, upto_rises, split}
use Rattle.mm_splice.proofs.Proofs.{IsProof, AreProofs, Follows, is_proof_up, reading_follows}
use Rattle.mm_splice.proofs.Replacing.{IsWhole}
use Rattle.mm_splice.proofs.Stepping.{Reading}
use Rattle.mm_splice.proofs.Texts.{proof_size}
use Rattle.mm_splice.proofs.Turning.{reading, IfFine}

which : (id n : ℕ) → (id < n) ⊎ (id ≡ n) ⊎ (n < id)
which id n = grind arith

-- the statement with an id, among statements and one more
pub last_or : (ss : List Stated) (x : Stated) (id : ℕ) → ((id ≡ length ss) × (statement_at (ss ++ x ∷ []) id ≡ x)) ⊎ (statement_at (ss ++ x ∷ []) id ≡ statement_at ss id)
last_or ss x id = elim (which id (length ss)) [
  | inl less ↦ inr (get_or_append_left ss (x ∷ []) no_statement id less)
  | inr other ↦ elim other [
    | inl same ↦ inl (same, ap (λ k. statement_at (ss ++ x ∷ []) k) same ∙ get_or-append_seam ss x [] no_statement)
    | inr more ↦ inr (get_or_past (ss ++ x ∷ []) id no_statement (omega (arith, length-append ss (x ∷ []), more)) ∙ sym (get_or_past ss id no_statement (omega (arith, more))))
  ]
]

abbrev is_theorem : Kind → Bool
is_theorem kind.Float = false
is_theorem kind.Essential = false
is_theorem kind.Axiom = false
is_theorem kind.Theorem = true

module _ (bytes : List ℕ) where
  abbrev ProofOf : List Piece → Stated → Type 0
  ProofOf pieces x = x.kind ≡ kind.Theorem → IsProof bytes pieces x.from x.to

  -- one statement more that is no theorem
  skipped : (pieces : List Piece) (ss : List Stated) (x : Stated) (id : ℕ) → is_theorem x.kind ≡ false → ProofOf pieces (statement_at ss id) → ProofOf pieces (statement_at (ss ++ x ∷ []) id)
  skipped pieces ss x id other later = elim (last_or ss x id) [
    | inl last ↦ λ k. absurd (false≢true (sym other ∙ ap (λ y. is_theorem y.kind) (sym last.1) ∙ ap is_theorem k))
    | inr same ↦ subst (ProofOf pieces) (sym same) later
  ]

  met : (pieces : List Piece) (ss : List Stated) (x : Stated) (id : ℕ) → (is : IsProof bytes pieces x.from x.to) → ProofOf is.front (statement_at ss id) → ProofOf pieces (statement_at (ss ++ x ∷ []) id)
  met pieces ss x id is later = elim (last_or ss x id) [
    | inl last ↦ subst (ProofOf pieces) (sym last.1) (λ _. is)
    | inr same ↦ subst (ProofOf pieces) (sym same) (λ k. subst (λ ps. IsProof bytes ps (statement_at ss id).from (statement_at ss id).to) (sym is.whole)
        (is_proof_up bytes is.front (Token is.begin ∷ (is.mid ++ Token is.end ∷ is.rest)) (statement_at ss id).from (statement_at ss id).to (later k)))
  ]

  -- where a theorem's proof stands
  pub proof_found : (pieces : List Piece) (past : List Event) (id : ℕ) → AreProofs bytes pieces past → ProofOf pieces (statement_at (statements past) id)
  unfolding statements
  proof_found pieces [] id p = λ k. absurd (false≢true (ap is_theorem k))
  proof_found pieces (theorem l ss from to d ∷ past) id p = met pieces (statements past) _ id p.0 (proof_found p.0.front past id p.1)
  proof_found pieces (constant t n ∷ past) id p = proof_found pieces past id p
  proof_found pieces (variable t n ∷ past) id p = proof_found pieces past id p
  proof_found pieces (float l ss d ∷ past) id p = skipped pieces (statements past) _ id refl (proof_found pieces past id p)
  proof_found pieces (essential l ss d ∷ past) id p = skipped pieces (statements past) _ id refl (proof_found pieces past id p)
  proof_found pieces (asserted l ss d ∷ past) id p = skipped pieces (statements past) _ id refl (proof_found pieces past id p)
  proof_found pieces (distinct ss ∷ past) id p = proof_found pieces past id p
  proof_found pieces (opened q ∷ past) id p = proof_found pieces past id p
  proof_found pieces (closed ∷ past) id p = proof_found pieces past id p

-- proofs stand in order before a place
abbrev pub InOrder : ℕ → List Event → Type 0
InOrder high [] = Unit {0}
InOrder high (theorem l ss from to d ∷ past) = (from ≤ to) × (to ≤ high) × InOrder from past
InOrder high (constant t n ∷ past) = InOrder high past
InOrder high (variable t n ∷ past) = InOrder high past
InOrder high (float l ss d ∷ past) = InOrder high past
InOrder high (essential l ss d ∷ past) = InOrder high past
InOrder high (asserted l ss d ∷ past) = InOrder high past
InOrder high (distinct ss ∷ past) = InOrder high past
InOrder high (opened q ∷ past) = InOrder high past
InOrder high (closed ∷ past) = InOrder high past

order_up : (low high : ℕ) → low ≤ high → (past : List Event) → InOrder low past → InOrder high past
order_up low high up [] o = tt
order_up low high up (theorem l ss from to d ∷ past) o = (o.0, omega (arith, o.1, up), o.2)
order_up low high up (constant t n ∷ past) o = order_up low high up past o
order_up low high up (variable t n ∷ past) o = order_up low high up past o
order_up low high up (float l ss d ∷ past) o = order_up low high up past o
order_up low high up (essential l ss d ∷ past) o = order_up low high up past o
order_up low high up (asserted l ss d ∷ past) o = order_up low high up past o
order_up low high up (distinct ss ∷ past) o = order_up low high up past o
order_up low high up (opened q ∷ past) o = order_up low high up past o
order_up low high up (closed ∷ past) o = order_up low high up past o

-- a proof's places, and what stands before it
record Stands (bytes : List ℕ) (pieces : List Piece) (from to q : ℕ) (is : IsProof bytes pieces from to) : Type 0 where
  front : UpTo bytes 0 is.front is.begin.start
  rises : from ≤ to
  within : to ≤ q

stands : (bytes : List ℕ) (pieces : List Piece) (from to q : ℕ) (is : IsProof bytes pieces from to) → UpTo bytes 0 pieces q → Stands bytes pieces from to q is
stands bytes pieces from to q is u =
    let whole : UpTo bytes 0 (is.front ++ Token is.begin ∷ (is.mid ++ Token is.end ∷ is.rest)) q = subst (λ ps. UpTo bytes 0 ps q) is.whole u in
    let one : UpTo bytes 0 is.front is.begin.start × UpTo bytes is.begin.start (Token is.begin ∷ (is.mid ++ Token is.end ∷ is.rest)) q
    = split bytes 0 q is.front (Token is.begin) (is.mid ++ Token is.end ∷ is.rest) whole in
    let begin : IsToken bytes is.begin.start is.begin.end = one.1.2 in
    let size : is.begin.end ≡ is.begin.start + 2 = proof_size bytes is.begin begin.run.some begin.run.within is.begins in
    let two : UpTo bytes is.begin.end is.mid is.end.start × UpTo bytes is.end.start (Token is.end ∷ is.rest) q
    = split bytes is.begin.end q is.mid (Token is.end) is.rest one.1.3 in
    record {
      front = one.0;
      rises = omega (arith, is.from_is, is.to_is, size, upto_rises bytes is.begin.end is.mid is.end.start two.0);
      within = omega (arith, is.to_is, upto_rises bytes is.end.start (Token is.end ∷ is.rest) q two.1);
    }

pub in_order : (bytes : List ℕ) (pieces : List Piece) (q : ℕ) (past : List Event) → UpTo bytes 0 pieces q → AreProofs bytes pieces past → InOrder q past
in_order bytes pieces q [] u p = tt
in_order bytes pieces q (theorem l ss from to d ∷ past) u p =
    let s : Stands bytes pieces from to q p.0 = stands bytes pieces from to q p.0 u in
    (s.rises, s.within, order_up p.0.begin.start from (omega (arith, p.0.from_is)) past (in_order bytes p.0.front p.0.begin.start past s.front p.1))
in_order bytes pieces q (constant t n ∷ past) u p = in_order bytes pieces q past u p
in_order bytes pieces q (variable t n ∷ past) u p = in_order bytes pieces q past u p
in_order bytes pieces q (float l ss d ∷ past) u p = in_order bytes pieces q past u p
in_order bytes pieces q (essential l ss d ∷ past) u p = in_order bytes pieces q past u p
in_order bytes pieces q (asserted l ss d ∷ past) u p = in_order bytes pieces q past u p
in_order bytes pieces q (distinct ss ∷ past) u p = in_order bytes pieces q past u p
in_order bytes pieces q (opened o ∷ past) u p = in_order bytes pieces q past u p
in_order bytes pieces q (closed ∷ past) u p = in_order bytes pieces q past u p

-- the proof rises, and ends before a place
abbrev Below : ℕ → Stated → Type 0
Below high x = (x.from ≤ x.to) × (x.to ≤ high)

below_one : (high : ℕ) (ss : List Stated) (x : Stated) (id : ℕ) → Below high x → Below high (statement_at ss id) → Below high (statement_at (ss ++ x ∷ []) id)
below_one high ss x id here there = elim (last_or ss x id) [ inl last ↦ subst (Below high) (sym last.1) here | inr same ↦ subst (Below high) (sym same) there ]

below_up : (low high : ℕ) (x : Stated) → low ≤ high → Below low x → Below high x
below_up low high x up b = (b.0, omega (arith, b.1, up))

pub below_all : (high : ℕ) (past : List Event) (id : ℕ) → InOrder high past → Below high (statement_at (statements past) id)
unfolding statements
below_all high [] id o = (omega arith, omega arith)
below_all high (theorem l ss from to d ∷ past) id o =
    below_one high (statements past) _ id (o.0, o.1) (below_up from high (statement_at (statements past) id) (omega (arith, o.0, o.1)) (below_all from past id o.2))
below_all high (constant t n ∷ past) id o = below_all high past id o
below_all high (variable t n ∷ past) id o = below_all high past id o
below_all high (float l ss d ∷ past) id o = below_one high (statements past) _ id (omega arith, omega arith) (below_all high past id o)
below_all high (essential l ss d ∷ past) id o = below_one high (statements past) _ id (omega arith, omega arith) (below_all high past id o)
below_all high (asserted l ss d ∷ past) id o = below_one high (statements past) _ id (omega arith, omega arith) (below_all high past id o)
below_all high (distinct ss ∷ past) id o = below_all high past id o
below_all high (opened q ∷ past) id o = below_all high past id o
below_all high (closed ∷ past) id o = below_all high past id o

-- the first proof ends before the second begins, or the second is none
abbrev pub Precedes : Stated → Stated → Type 0
Precedes x y = (x.to ≤ y.from) ⊎ ((y.from ≡ 0) × (y.to ≡ 0))

none_past : (ss : List Stated) (x y : Stated) (j : ℕ) → length ss ≤ j → Precedes x (statement_at ss j)
none_past ss x y j h = subst (Precedes x) (sym (get_or_past ss j no_statement h)) (inr (refl, refl))

-- one statement more
precedes_one : (ss : List Stated) (x : Stated) (i j : ℕ) → i < j → Precedes (statement_at ss i) x → Precedes (statement_at ss i) (statement_at ss j)
    → Precedes (statement_at (ss ++ x ∷ []) i) (statement_at (ss ++ x ∷ []) j)
precedes_one ss x i j up here there = elim (which j (length ss)) [
  | inl less ↦
      let one : statement_at (ss ++ x ∷ []) i ≡ statement_at ss i = get_or_append_left ss (x ∷ []) no_statement i (omega (arith, up, less)) in
      let two : statement_at (ss ++ x ∷ []) j ≡ statement_at ss j = get_or_append_left ss (x ∷ []) no_statement j less in
      subst (λ y. Precedes y (statement_at (ss ++ x ∷ []) j)) (sym one) (subst (Precedes (statement_at ss i)) (sym two) there)
  | inr other ↦ elim other [
    | inl same ↦
        let one : statement_at (ss ++ x ∷ []) i ≡ statement_at ss i = get_or_append_left ss (x ∷ []) no_statement i (omega (arith, up, same)) in
        let two : statement_at (ss ++ x ∷ []) j ≡ x = ap (λ k. statement_at (ss ++ x ∷ []) k) same ∙ get_or-append_seam ss x [] no_statement in
        subst (λ y. Precedes y (statement_at (ss ++ x ∷ []) j)) (sym one) (subst (Precedes (statement_at ss i)) (sym two) here)
    | inr more ↦ none_past (ss ++ x ∷ []) (statement_at (ss ++ x ∷ []) i) x j (omega (arith, length-append ss (x ∷ []), more))
  ]
]

pub precedes : (high : ℕ) (past : List Event) (i j : ℕ) → i < j → InOrder high past → Precedes (statement_at (statements past) i) (statement_at (statements past) j)
unfolding statements
precedes high [] i j up o = inr (refl, refl)
precedes high (theorem l ss from to d ∷ past) i j up o = precedes_one (statements past) _ i j up (inl (below_all from past i o.2).1) (precedes from past i j up o.2)
precedes high (constant t n ∷ past) i j up o = precedes high past i j up o
precedes high (variable t n ∷ past) i j up o = precedes high past i j up o
precedes high (float l ss d ∷ past) i j up o = precedes_one (statements past) _ i j up (inr (refl, refl)) (precedes high past i j up o)
precedes high (essential l ss d ∷ past) i j up o = precedes_one (statements past) _ i j up (inr (refl, refl)) (precedes high past i j up o)
precedes high (asserted l ss d ∷ past) i j up o = precedes_one (statements past) _ i j up (inr (refl, refl)) (precedes high past i j up o)
precedes high (distinct ss ∷ past) i j up o = precedes high past i j up o
precedes high (opened q ∷ past) i j up o = precedes high past i j up o
precedes high (closed ∷ past) i j up o = precedes high past i j up o

-- so it is in a database that is read
err_ok : {A : Type 0} (e : ReadFault) (x : A) → Err e ≡ Ok x → ⊥
err_ok e x h = cc

abbrev context_or : Result (List Event) ReadFault → List Event → List Event
context_or (Ok past) other = past
context_or (Err e) other = other

begun_context : (s : Reading) (past : List Event) (m : Mode) → unless_begun s m ≡ Ok past → s.context ≡ past
begun_context s past mode.Start h = ap (λ r. context_or r past) h
begun_context s past mode.Labelled h = absurd (err_ok _ past h)
begun_context s past mode.Constants h = absurd (err_ok _ past h)
begun_context s past mode.Variables h = absurd (err_ok _ past h)
begun_context s past mode.Distinct h = absurd (err_ok _ past h)
begun_context s past mode.Float h = absurd (err_ok _ past h)
begun_context s past mode.Essential h = absurd (err_ok _ past h)
begun_context s past mode.Axiom h = absurd (err_ok _ past h)
begun_context s past mode.Theorem h = absurd (err_ok _ past h)
begun_context s past mode.Proof h = absurd (err_ok _ past h)

pub open_context : (s : Reading) (past : List Event) (ps : List ℕ) → unless_open s ps ≡ Ok past → s.context ≡ past
open_context s past [] h = begun_context s past s.mode h
open_context s past (p ∷ ps) h = absurd (err_ok _ past h)

pub whole_proofs : (bytes : List ℕ) (past : List Event) → IsWhole bytes past → AreProofs bytes (pieces_of bytes) past
whole_proofs bytes past w =
    let context : w.state.context ≡ past = open_context w.state past (open_blocks w.state.context) w.closes in
    let follows : IfFine (reading bytes nothing_read (pieces_of bytes)) (Follows bytes (pieces_of bytes))
    = reading_follows bytes [] nothing_read (pieces_of bytes) (ended (pieces_of bytes) w.ended) (record { proofs = tt; begun = tt }) in
    let there : Follows bytes (pieces_of bytes) w.state = subst (λ r. IfFine r (Follows bytes (pieces_of bytes))) w.read follows in
    subst (AreProofs bytes (pieces_of bytes)) context there.proofs
