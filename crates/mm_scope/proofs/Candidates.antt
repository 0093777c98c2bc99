-- The mandatory hypotheses by the tables are those by looking back.
use Rattle.std.proofs.Common.{◌≡◌, ℕ, zero, Bool, true, false, cond, ◌&&◌, ◌||◌, List, [], ◌∷◌, ◌++◌, filter, flat_map, None, Some, nat_eq, slice_index, refl, sym, ap, ◌∙◌, arith}
use Rattle.std.proofs.lemmas.Bool.{eqb-true, true≢false, false≢true, or_left, or_right}
use Rattle.std.specs.List.{list_any, cons_option}
use Rattle.mm_tables.proofs.LookBack.{in_force_now}
use Rattle.mm_tables.specs.Moves.{in_force}
use Rattle.mm_tables.specs.Standings.{Standings}
use Rattle.mm_tables.specs.Tables.{standing_at}
use Rattle.mm_tables.specs.declared.table.Standing.{Standing}
use Rattle.mm_scope.specs.Contexts.{Context}
use Rattle.mm_scope.specs.Events.{Event, statements, active_hypotheses}
use Rattle.mm_scope.specs.Looks.{moves, is_floated_of}
use Rattle.mm_stated.specs.Mandatory.{statement_at, symbols_with, is_mandatory, is_mandatory_by, mandatory_of}
use Rattle.mm_stated.specs.Needed.{rising, floats_of, candidates, needed_by}
use Rattle.mm_stated.specs.Stated.{Stated, is_essential, is_same_kind}
use Rattle.mm_stated.specs.declared.statement.Kind.{Kind}
use Rattle.mm_stated.specs.declared.statement.Kind.TheVariants as kind
use Rattle.mm_scope.proofs.Booleans.{list_any-append}
use Rattle.mm_scope.proofs.Floats.{last_float, floats_it, FloatsKnown, active_rises, floated_as, essential_moves, essentials_in, essentials_as, any_of}
use Rattle.mm_scope.proofs.Layering.{LayersAgree}
use Rattle.mm_scope.proofs.LookBack.{holds}
use Rattle.mm_stated.proofs.Rising.{same_rising, rises_filter, rising_rises, rising_any}
use Rattle.mm_scope.proofs.Simulation.{Agrees}

any_filter : (k : ℕ) (p : ℕ → Bool) (xs : List ℕ) → list_any (nat_eq k) (filter p xs) ≡ (p k && list_any (nat_eq k) xs)
any_filter k p [] = none (p k)
  where
    none : (b : Bool) → false ≡ (b && false)
    none true = refl
    none false = refl
any_filter k p (x ∷ xs) = by (p x) refl (nat_eq k x) refl (any_filter k p xs)
  where
    none : (a b : Bool) → a ≡ false → (a && b) ≡ false
    none true b e = absurd (true≢false e)
    none false b e = refl

    all : (a b : Bool) → a ≡ true → true ≡ (a && (true || b))
    all true b e = refl
    all false b e = absurd (false≢true e)

    by : (b : Bool) → p x ≡ b → (c : Bool) → nat_eq k x ≡ c → list_any (nat_eq k) (filter p xs) ≡ (p k && list_any (nat_eq k) xs)
        → list_any (nat_eq k) (cond b (x ∷ filter p xs) (filter p xs)) ≡ (p k && (c || list_any (nat_eq k) xs))
    by true e true f rest = ap (λ a. a || list_any (nat_eq k) (filter p xs)) f ∙ all (p k) (list_any (nat_eq k) xs) (ap p (eqb-true k x f) ∙ e)
    by true e false f rest = ap (λ a. a || list_any (nat_eq k) (filter p xs)) f ∙ rest
    by false e true f rest = rest ∙ none (p k) (list_any (nat_eq k) xs) (ap p (eqb-true k x f) ∙ e) ∙ sym (none (p k) (true || list_any (nat_eq k) xs) (ap p (eqb-true k x f) ∙ e))
    by false e false f rest = rest

-- whether an id is that of the active `$f` of a symbol
abbrev pub gives : ℕ → Standing → Bool
gives k s = s.floated && nat_eq k s.float

any_floats : (t : Standings) (k : ℕ) (ns : List ℕ) → list_any (nat_eq k) (floats_of t ns) ≡ list_any (λ n. gives k (standing_at t n)) ns
any_floats t k [] = refl
any_floats t k (n ∷ ns) = by (standing_at t n).floated (any_floats t k ns)
  where
    by : (b : Bool) → list_any (nat_eq k) (floats_of t ns) ≡ list_any (λ n. gives k (standing_at t n)) ns
        → list_any (nat_eq k) (cons_option (cond b (Some (standing_at t n).float) None) (floats_of t ns)) ≡ ((b && nat_eq k (standing_at t n).float) || list_any (λ n. gives k (standing_at t n)) ns)
    by true rest = ap (λ a. nat_eq k (standing_at t n).float || a) rest
    by false rest = rest

any_same : (p q : ℕ → Bool) (xs : List ℕ) → ((x : ℕ) → p x ≡ q x) → list_any p xs ≡ list_any q xs
any_same p q [] same = refl
any_same p q (x ∷ xs) same = ap (λ b. b || list_any p xs) (same x) ∙ ap (λ b. q x || b) (any_same p q xs same)

any_where : (a b : Bool) (p : ℕ → Bool) (xs : List ℕ) → list_any (λ n. a && (b && p n)) xs ≡ (a && (b && list_any p xs))
any_where true true p xs = refl
any_where true false p xs = nowhere xs
  where
    nowhere : (ys : List ℕ) → list_any (λ n. false) ys ≡ false
    nowhere [] = refl
    nowhere (y ∷ ys) = nowhere ys
any_where false b p xs = nowhere xs
  where
    nowhere : (ys : List ℕ) → list_any (λ n. false) ys ≡ false
    nowhere [] = refl
    nowhere (y ∷ ys) = nowhere ys

-- the symbols of some of the statements
flat_some : (f : ℕ → List ℕ) (p : ℕ → Bool) (xs : List ℕ) → flat_map f (filter p xs) ≡ flat_map (λ x. cond (p x) (f x) []) xs
flat_some f p [] = refl
flat_some f p (x ∷ xs) = by (p x) (flat_some f p xs)
  where
    by : (b : Bool) → flat_map f (filter p xs) ≡ flat_map (λ x. cond (p x) (f x) []) xs
        → flat_map f (cond b (x ∷ filter p xs) (filter p xs)) ≡ cond b (f x) [] ++ flat_map (λ x. cond (p x) (f x) []) xs
    by true rest = ap (λ ys. f x ++ ys) rest
    by false rest = rest

record Found (p : ℕ → Bool) (xs : List ℕ) : Type 0 where
  pub one : ℕ
  pub among : list_any (nat_eq one) xs ≡ true
  pub passes : p one ≡ true

itself : (n : ℕ) → nat_eq n n ≡ true
itself n = grind arith

found : (p : ℕ → Bool) (xs : List ℕ) → list_any p xs ≡ true → Found p xs
found p [] on = absurd (false≢true on)
found p (x ∷ xs) on = by (p x) refl (found p xs)
  where
    by : (b : Bool) → p x ≡ b → (list_any p xs ≡ true → Found p xs) → Found p (x ∷ xs)
    by true e later = record { one = x; among = or_left (nat_eq x x) (list_any (nat_eq x) xs) (itself x); passes = e }
    by false e later =
        let f = later (ap (λ b. b || list_any p xs) (sym e) ∙ on) in
        record { one = f.one; among = or_right (nat_eq f.one x) (list_any (nat_eq f.one) xs) f.among; passes = f.passes }

both : (a b : Bool) → (a && b) ≡ true → (a ≡ true) × (b ≡ true)
both true b e = (refl, e)
both false b e = absurd (false≢true e)

all_of : (a b : Bool) → a ≡ true → b ≡ true → (a && b) ≡ true
all_of a b e f = rw (e, f) refl

off_unless : (b : Bool) → (b ≡ true → false ≡ true) → b ≡ false
off_unless true f = absurd (false≢true (f refl))
off_unless false f = refl

-- a `$f` is the active one of a symbol where it is active and has this variable
gives_active : (past : List Event) (t : Standings) → ((v : ℕ) → (standing_at t v).floated ≡ list_any (is_floated_of v) (in_force zero (moves past)))
    → ((v : ℕ) → (standing_at t v).float ≡ last_float past v) → FloatsKnown past → (k n : ℕ)
    → gives k (standing_at t n) ≡ (list_any (nat_eq k) (active_hypotheses past) && floats_it (statements past) k n)
gives_active past t flags ids known k n = by (list_any (nat_eq k) (active_hypotheses past) && floats_it (statements past) k n) refl
  where
    any : (standing_at t n).floated ≡ list_any (λ j. floats_it (statements past) j n) (active_hypotheses past)
    any = flags n ∙ floated_as n zero past

    by : (b : Bool) → (list_any (nat_eq k) (active_hypotheses past) && floats_it (statements past) k n) ≡ b → gives k (standing_at t n) ≡ b
    by true e =
        let two = both _ _ e in
        all_of (standing_at t n).floated (nat_eq k (standing_at t n).float)
        (any ∙ any_of (λ j. floats_it (statements past) j n) k (active_hypotheses past) two.0 two.1)
        (ap (nat_eq k) (ids n ∙ known k n two.0 two.1) ∙ itself k)
    by false e = off_unless (gives k (standing_at t n)) (λ on.
        let two = both _ _ on in
        let f = found (λ j. floats_it (statements past) j n) (active_hypotheses past) (sym any ∙ two.0) in
        let same : k ≡ f.one = eqb-true k (standing_at t n).float two.1 ∙ ids n ∙ known f.one n f.among f.passes in
        sym e ∙ all_of _ _ (ap (λ j. list_any (nat_eq j) (active_hypotheses past)) same ∙ f.among) (ap (λ j. floats_it (statements past) j n) same ∙ f.passes))

by_kind : (k : Kind) (a m : Bool) → ((is_essential k && a) || (a && (is_same_kind kind.Float k && m))) ≡ (is_mandatory_by k m && a)
by_kind kind.Essential true m = refl
by_kind kind.Essential false m = refl
by_kind kind.Float true true = refl
by_kind kind.Float true false = refl
by_kind kind.Float false true = refl
by_kind kind.Float false false = refl
by_kind kind.Axiom true m = refl
by_kind kind.Axiom false m = refl
by_kind kind.Theorem true m = refl
by_kind kind.Theorem false m = refl

module _ (past : List Event) (t : Standings) (symbols : List ℕ)
    (flags : (v : ℕ) → (standing_at t v).floated ≡ list_any (is_floated_of v) (in_force zero (moves past)))
    (ids : (v : ℕ) → (standing_at t v).float ≡ last_float past v) (known : FloatsKnown past) where
  abbrev ss : List Stated
  ss = statements past

  abbrev hs : List ℕ
  hs = active_hypotheses past

  abbrev es : List ℕ
  es = essentials_in ss hs

  abbrev all : List ℕ
  all = symbols ++ flat_map (λ id. (statement_at ss id).symbols) es

  all_needed : all ≡ symbols_with ss hs symbols
  unfolding symbols_with
  all_needed = ap (λ xs. symbols ++ xs) (flat_some (λ id. (statement_at ss id).symbols) (λ id. is_essential (statement_at ss id).kind) hs)

  among : (k : ℕ) → list_any (nat_eq k) (candidates t ss es symbols) ≡ list_any (nat_eq k) (filter (λ id. is_mandatory (symbols_with ss hs symbols) (statement_at ss id)) hs)
  among k =
      let a : Bool = list_any (nat_eq k) hs in
      let s : Stated = statement_at ss k in
      let w : ℕ = slice_index s.symbols 1 in
      list_any-append (nat_eq k) es (floats_of t all)
      ∙ ap (λ b. b || list_any (nat_eq k) (floats_of t all)) (any_filter k (λ id. is_essential (statement_at ss id).kind) hs)
      ∙ ap (λ b. (is_essential s.kind && a) || b)
      (any_floats t k all ∙ any_same _ (λ n. a && floats_it ss k n) all (gives_active past t flags ids known k)
      ∙ any_where a (is_same_kind kind.Float s.kind) (nat_eq w) all ∙ ap (λ xs. a && (is_same_kind kind.Float s.kind && list_any (nat_eq w) xs)) all_needed)
      ∙ by_kind s.kind a (list_any (nat_eq w) (symbols_with ss hs symbols))
      ∙ sym (any_filter k (λ id. is_mandatory (symbols_with ss hs symbols) (statement_at ss id)) hs)

  needed_now : needed_by t ss es symbols ≡ mandatory_of ss hs symbols
  unfolding needed_by mandatory_of
  needed_now =
      same_rising (rising (candidates t ss es symbols)) (filter (λ id. is_mandatory (symbols_with ss hs symbols) (statement_at ss id)) hs) 0
      (rising_rises (candidates t ss es symbols)) (rises_filter _ 0 hs (active_rises zero past).0) (λ k. rising_any k (candidates t ss es symbols) ∙ among k)

pub needed_is : (past : List Event) (c : Context) (symbols : List ℕ) → Agrees past c → LayersAgree past c → c.hypotheses ≡ active_hypotheses past → FloatsKnown past
    → needed_by c.table c.statements c.essentials.now symbols ≡ mandatory_of c.statements c.hypotheses symbols
needed_is past c symbols a layers act known =
    let flags : (v : ℕ) → (standing_at c.table v).floated ≡ list_any (is_floated_of v) (in_force zero (moves past)) =
    λ v. a.floated_flags v ∙ ap (list_any (is_floated_of v)) (a.endings ∙ (holds (moves past) a.balanced).now) in
    ap (λ xs. needed_by c.table xs c.essentials.now symbols) a.stated
    ∙ ap (λ xs. needed_by c.table (statements past) xs symbols) (ap (λ l. l.now) layers.essentials ∙ in_force_now (essential_moves past) ∙ essentials_as zero past)
    ∙ needed_now past c.table symbols flags a.float_ids known
    ∙ ap (λ xs. mandatory_of xs (active_hypotheses past) symbols) (sym a.stated)
    ∙ ap (λ xs. mandatory_of c.statements xs symbols) (sym act)
