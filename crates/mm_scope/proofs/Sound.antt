-- What holds of each labelled statement, as events come.
use Rattle.std.proofs.Common.{◌≡◌, ℕ, ◌+◌, ◌<◌, ◌≤◌, true, false, List, [], ◌∷◌, ◌++◌, length, take, All, sym, ap, ◌∙◌, subst, arith, length-append, ◌⊎◌, inl, inr}
use Rattle.std.proofs.lemmas.Bool.{false≢true}
use Rattle.std.proofs.lemmas.List.{get_or_append_left}
use Rattle.std.proofs.lemmas.List.Elements.{All-push, All-nil, All-filter, All-take}
use Rattle.std.proofs.Math.Seq.{get_or-append_seam}
use Rattle.mm_scope.specs.Contexts.{Context}
use Rattle.mm_scope.specs.Events.{Event, labels, statements, active_hypotheses}
use Rattle.mm_stated.specs.Mandatory.{statement_at, symbols_with, is_mandatory, mandatory_of}
use Rattle.mm_stated.specs.Stated.{Stated, no_statement, is_hypothesis}
use Rattle.mm_stated.specs.declared.statement.Kind.TheVariants as kind
use Rattle.mm_scope.proofs.Stacks.{below_or}

pub record StatementSound (ss : List Stated) (id : ℕ) : Type 0 where
  pub earlier : All (λ m. m < id) (statement_at ss id).mandatory
  pub hypotheses : All (λ m. is_hypothesis (statement_at ss m).kind ≡ true) (statement_at ss id).mandatory
  pub stated : 0 < length (statement_at ss id).symbols
  pub pair : (statement_at ss id).kind ≡ kind.Float → length (statement_at ss id).symbols ≡ 2

abbrev pub AllSound : List Stated → Type 0
AllSound ss = (id : ℕ) → id < length ss → StatementSound ss id

-- the id is of a hypothesis
abbrev pub IsHypothesis : List Stated → ℕ → Type 0
IsHypothesis ss h = (h < length ss) × (is_hypothesis (statement_at ss h).kind ≡ true)

abbrev pub AreHypotheses : List Stated → List ℕ → Type 0
AreHypotheses ss hs = All (IsHypothesis ss) hs

-- what has to hold of a new statement
pub record NewSound (ss : List Stated) (x : Stated) : Type 0 where
  pub mandatory : AreHypotheses ss x.mandatory
  pub stated : 0 < length x.symbols
  pub pair : x.kind ≡ kind.Float → length x.symbols ≡ 2

before_kept : (ss : List Stated) (x : Stated) (id : ℕ) → id < length ss → statement_at (ss ++ x ∷ []) id ≡ statement_at ss id
before_kept ss x id h = get_or_append_left ss (x ∷ []) no_statement id h

new_there : (ss : List Stated) (x : Stated) → statement_at (ss ++ x ∷ []) (length ss) ≡ x
new_there ss x = get_or-append_seam ss x [] no_statement

kept_hypothesis : (ss : List Stated) (x : Stated) (m : ℕ) → m < length ss → is_hypothesis (statement_at ss m).kind ≡ true → is_hypothesis (statement_at (ss ++ x ∷ []) m).kind ≡ true
kept_hypothesis ss x m h e = subst (λ s. is_hypothesis s.kind ≡ true) (sym (before_kept ss x m h)) e

old_sound : (ss : List Stated) (x : Stated) (id : ℕ) → id < length ss → StatementSound ss id → StatementSound (ss ++ x ∷ []) id
old_sound ss x id h s =
    let same : statement_at (ss ++ x ∷ []) id ≡ statement_at ss id = before_kept ss x id h in
    record {
      earlier = subst (λ y. All (λ m. m < id) y.mandatory) (sym same) s.earlier;
      hypotheses = subst (λ y. All (λ m. is_hypothesis (statement_at (ss ++ x ∷ []) m).kind ≡ true) y.mandatory) (sym same)
          (λ k d small. kept_hypothesis ss x _ (omega (arith, h, s.earlier k d small)) (s.hypotheses k d small));
      stated = subst (λ y. 0 < length y.symbols) (sym same) s.stated;
      pair = subst (λ y. y.kind ≡ kind.Float → length y.symbols ≡ 2) (sym same) s.pair;
    }

new_sound : (ss : List Stated) (x : Stated) → NewSound ss x → StatementSound (ss ++ x ∷ []) (length ss)
new_sound ss x s =
    let same : statement_at (ss ++ x ∷ []) (length ss) ≡ x = new_there ss x in
    record {
      earlier = subst (λ y. All (λ m. m < length ss) y.mandatory) (sym same) (λ k d small. (s.mandatory k d small).0);
      hypotheses = subst (λ y. All (λ m. is_hypothesis (statement_at (ss ++ x ∷ []) m).kind ≡ true) y.mandatory) (sym same)
          (λ k d small. kept_hypothesis ss x _ (s.mandatory k d small).0 (s.mandatory k d small).1);
      stated = subst (λ y. 0 < length y.symbols) (sym same) s.stated;
      pair = subst (λ y. y.kind ≡ kind.Float → length y.symbols ≡ 2) (sym same) s.pair;
    }

last_id : (ss : List Stated) (x : Stated) (id : ℕ) → id < length (ss ++ x ∷ []) → length ss ≤ id → length ss ≡ id
last_id ss x id h more = omega (arith, length-append ss (x ∷ []), h, more)

sound_by : (ss : List Stated) (x : Stated) → AllSound ss → NewSound ss x → (id : ℕ) → id < length (ss ++ x ∷ []) → (id < length ss) ⊎ (length ss ≤ id) → StatementSound (ss ++ x ∷ []) id
sound_by ss x all new id h (inl less) = old_sound ss x id less (all id less)
sound_by ss x all new id h (inr more) = subst (StatementSound (ss ++ x ∷ [])) (last_id ss x id h more) (new_sound ss x new)

all_pushed : (ss : List Stated) (x : Stated) → AllSound ss → NewSound ss x → AllSound (ss ++ x ∷ [])
all_pushed ss x all new id h = sound_by ss x all new id h (below_or id (length ss))

-- the hypotheses stay hypotheses
still : (ss : List Stated) (x : Stated) (hs : List ℕ) → AreHypotheses ss hs → AreHypotheses (ss ++ x ∷ []) hs
still ss x hs all k d small =
    (omega (arith, length-append ss (x ∷ []), (all k d small).0), kept_hypothesis ss x _ (all k d small).0 (all k d small).1)

pub record SoundAt (past : List Event) (c : Context) : Type 0 where
  pub all : AllSound (statements past)
  pub hypotheses : AreHypotheses (statements past) c.hypotheses
  pub counted : length (statements past) ≡ length (labels past)

pub sound_same : (e : Event) (past : List Event) (c d : Context) → statements (e ∷ past) ≡ statements past → labels (e ∷ past) ≡ labels past → d.hypotheses ≡ c.hypotheses
    → SoundAt past c → SoundAt (e ∷ past) d
sound_same e past c d es el dh s = record {
  all = subst AllSound (sym es) s.all;
  hypotheses = subst (λ ss. AreHypotheses ss d.hypotheses) (sym es) (subst (AreHypotheses (statements past)) (sym dh) s.hypotheses);
  counted = ap length es ∙ s.counted ∙ sym (ap length el);
}

pub sound_closed : (e : Event) (past : List Event) (c d : Context) (m : ℕ) → statements (e ∷ past) ≡ statements past → labels (e ∷ past) ≡ labels past → d.hypotheses ≡ take m c.hypotheses
    → SoundAt past c → SoundAt (e ∷ past) d
sound_closed e past c d m es el dh s = record {
  all = subst AllSound (sym es) s.all;
  hypotheses = subst (λ ss. AreHypotheses ss d.hypotheses) (sym es) (subst (AreHypotheses (statements past)) (sym dh) (All-take (IsHypothesis (statements past)) m c.hypotheses s.hypotheses));
  counted = ap length es ∙ s.counted ∙ sym (ap length el);
}

one_counted : (past : List Event) (e : Event) (x : Stated) → statements (e ∷ past) ≡ statements past ++ x ∷ [] → length (labels (e ∷ past)) ≡ length (labels past) + 1
    → length (statements past) ≡ length (labels past) → length (statements (e ∷ past)) ≡ length (labels (e ∷ past))
one_counted past e x es el same = ap length es ∙ omega (arith, length-append (statements past) (x ∷ []), same, el)

pub sound_stated : (e : Event) (past : List Event) (c d : Context) (x : Stated) → statements (e ∷ past) ≡ statements past ++ x ∷ [] → length (labels (e ∷ past)) ≡ length (labels past) + 1
    → d.hypotheses ≡ c.hypotheses ++ length c.labels ∷ [] → c.labels ≡ labels past → x.mandatory ≡ [] → is_hypothesis x.kind ≡ true → 0 < length x.symbols
    → (x.kind ≡ kind.Float → length x.symbols ≡ 2) → SoundAt past c → SoundAt (e ∷ past) d
sound_stated e past c d x es el dh cl none is some two s =
    let ss : List Stated = statements past in
    let new : NewSound ss x = record { mandatory = subst (AreHypotheses ss) (sym none) (All-nil (IsHypothesis ss)); stated = some; pair = two } in
    let id : length c.labels ≡ length ss = ap length cl ∙ sym s.counted in
    let last : is_hypothesis (statement_at (ss ++ x ∷ []) (length ss)).kind ≡ true = subst (λ y. is_hypothesis y.kind ≡ true) (sym (new_there ss x)) is in
    let newest : IsHypothesis (ss ++ x ∷ []) (length ss) = (omega (arith, length-append ss (x ∷ [])), last) in
    record {
      all = subst AllSound (sym es) (all_pushed ss x s.all new);
      hypotheses = subst (λ ts. AreHypotheses ts d.hypotheses) (sym es) (subst (AreHypotheses (ss ++ x ∷ [])) (sym (dh ∙ ap (λ n. c.hypotheses ++ n ∷ []) id))
          (All-push (IsHypothesis (ss ++ x ∷ [])) c.hypotheses (length ss) (still ss x c.hypotheses s.hypotheses) newest));
      counted = one_counted past e x es el s.counted;
    }

mandatory_are : (ss : List Stated) (hs symbols : List ℕ) → AreHypotheses ss hs → AreHypotheses ss (mandatory_of ss hs symbols)
unfolding mandatory_of
mandatory_are ss hs symbols all = All-filter (λ id. is_mandatory (symbols_with ss hs symbols) (statement_at ss id)) (IsHypothesis ss) hs all

pub sound_asserted : (e : Event) (past : List Event) (c d : Context) (x : Stated) → statements (e ∷ past) ≡ statements past ++ x ∷ [] → length (labels (e ∷ past)) ≡ length (labels past) + 1
    → d.hypotheses ≡ c.hypotheses → c.hypotheses ≡ active_hypotheses past → x.mandatory ≡ mandatory_of (statements past) (active_hypotheses past) x.symbols
    → is_hypothesis x.kind ≡ false → 0 < length x.symbols → SoundAt past c → SoundAt (e ∷ past) d
sound_asserted e past c d x es el dh act m not some s =
    let ss : List Stated = statements past in
    let new : NewSound ss x = record {
      mandatory = subst (AreHypotheses ss) (sym m) (mandatory_are ss (active_hypotheses past) x.symbols (subst (AreHypotheses ss) act s.hypotheses));
      stated = some;
      pair = λ is. absurd (false≢true (sym not ∙ ap is_hypothesis is));
    } in
    record {
      all = subst AllSound (sym es) (all_pushed ss x s.all new);
      hypotheses = subst (λ ts. AreHypotheses ts d.hypotheses) (sym es) (subst (AreHypotheses (ss ++ x ∷ [])) (sym dh) (still ss x c.hypotheses s.hypotheses));
      counted = one_counted past e x es el s.counted;
    }
