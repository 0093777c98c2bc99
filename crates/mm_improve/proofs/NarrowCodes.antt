-- The typecodes of variables in a grammar are those of `$f` statements.
use Rattle.std.proofs.Common.{◌≡◌, ◌<◌, ◌==◌, ℕ, zero, suc, Bool, true, false, cond, ◌||◌, filter, List, [], ◌∷◌, Option, None, Some, length, map, get_or, refl, sym, ◌∙◌, ap, arith, inl, inr, subst}
use Rattle.std.specs.List.{filter_map, cons_option, list_any, AllByRecursion}
use Rattle.std.proofs.lemmas.Bool.{eq-eqb}
use Rattle.mm_scope.specs.Contents.{labels_of, stated_at, statements_of, is_typecode_of}
use Rattle.mm_stated.specs.Stated.{Stated, typecode_of, is_hypothesis}
use Rattle.mm_subst.specs.declared.symbol.WSym.{WSym}
use Rattle.mm_subst.specs.declared.symbol.WSym.TheVariants.{Const, Var, Work}
use Rattle.mm_subst.specs.Statements.{statement_of}
use Rattle.mm_unify.specs.Parts.{part}
use Rattle.mm_unify.proofs.Sorted.{Among, among_all, among_at, among_mapped}
use Rattle.mm_plain.specs.Premises.{premises_of, variables_for}
use Rattle.mm_chart.specs.declared.grammar.Item.{Item}
use Rattle.mm_chart.specs.declared.grammar.Item.TheVariants.{Fixed, Again, New}
use Rattle.mm_improve.specs.Assertions.{Terms, has_essential, plain_assertions}
use Rattle.mm_chart.specs.Items.{Assertion, Grammar, new_codes, part_codes}
use Rattle.mm_improve.specs.Grammars.{assertion_of, codes_for, grammar_of, item_of, items_of, place, seen_with, split, variable_item}
use Rattle.mm_chart.specs.Charts.{Rows, AreAnswers, AreAnswersFor}
use Rattle.mm_improve.specs.Narrow.{IsEnough, is_float_code, is_taken, narrowed}
use Rattle.mm_improve.proofs.Agreeing.{plain_usable}
use Rattle.mm_improve.proofs.Narrowing.{is_enough}
use Rattle.mm_improve.proofs.Plain.{IsFloated, all_floats, codes_are_of, count_of_codes}
use Rattle.mm_improve.proofs.Ranking.{among_flat}
use Rattle.mm_improve.proofs.Translating.{place-at}

-- the typecode of a first occurrence is that of a hypothesis
new_code : (keys : List ℕ) (codes : List WSym) → length codes ≡ length keys → (s : List WSym) (seen : List ℕ) (x : WSym) → Among x (new_codes (items_of keys codes seen s)) → Among x codes
new_code keys codes m [] seen x h = absurd h
new_code keys codes m (Const n ∷ s) seen x h = new_code keys codes m s seen x h
new_code keys codes m (Work n ∷ s) seen x h = new_code keys codes m s seen x h
new_code keys codes m (Var n ∷ s) seen x h = by (place keys n) (place seen n) refl h (λ k. new_code keys codes m s (seen_with keys seen (Var n)) x k)
  where
    rest : List Item
    rest = items_of keys codes (seen_with keys seen (Var n)) s

    by : (o j : Option ℕ) → place keys n ≡ o → Among x (new_codes (variable_item codes n o j ∷ rest)) → (Among x (new_codes rest) → Among x codes) → Among x codes
    by None j e k ih = ih k
    by (Some i) None e (inl q) ih = subst (λ y. Among y codes) (sym q) (among_at codes i (Const 0) (let p = (place-at keys n i e).0 in omega (arith, m, p)))
    by (Some i) None e (inr k) ih = ih k
    by (Some i) (Some j) e k ih = ih k

typecode_among : (s : ℕ) (xs : List Stated) (k : ℕ) (d : Stated) → k < length xs → typecode_of (get_or xs k d) ≡ Some s → list_any (λ n. s == n) (filter_map typecode_of xs) ≡ true
typecode_among s [] k d l e = absurd (omega arith)
typecode_among s (x ∷ xs) zero d l e = ap (λ (o : Option ℕ). list_any (λ n. s == n) (cons_option o (filter_map typecode_of xs))) e ∙ ap (λ (b : Bool). b || list_any (λ n. s == n) (filter_map typecode_of xs)) (eq-eqb s s refl)
typecode_among s (x ∷ xs) (suc k) d l e = by (typecode_of x) (typecode_among s xs k d (omega arith) e)
  where
    by : (o : Option ℕ) → list_any (λ n. s == n) (filter_map typecode_of xs) ≡ true → list_any (λ n. s == n) (cons_option o (filter_map typecode_of xs)) ≡ true
    by None h = h
    by (Some m) h = ap (λ (b : Bool). (s == m) || b) h ∙ or-true (s == m)
      where
        or-true : (b : Bool) → (b || true) ≡ true
        or-true true = refl
        or-true false = refl

float_code : (bytes : List ℕ) (m : ℕ) → IsFloated bytes m → is_float_code bytes (split (statement_of bytes m)).0 ≡ true
float_code bytes m f = ap (λ s. is_float_code bytes (split s).0) f.statement ∙ typecode_among f.code (statements_of bytes) m _ f.labelled f.typecode

closed : (c : Terms) → c.at < length (labels_of c.bytes) → (x : WSym) → Among x (part_codes (grammar_of c)) → is_float_code c.bytes x ≡ true
closed c own x h =
    let a = among_flat (λ (a : Assertion). new_codes a.items) (map (assertion_of c.bytes) (plain_assertions c)) x h in
    let i = among_mapped (assertion_of c.bytes) a.0 (plain_assertions c) a.1 in
    let id = i.0 in
    let u = plain_usable c own id i.1 in
    let ms = (stated_at c.bytes id).mandatory in
    let floats = all_floats c.bytes id u.0.assertion u.1 in
    let k : Among x (new_codes (assertion_of c.bytes id).items) = subst (λ (b : Assertion). Among x (new_codes b.items)) i.2 a.2 in
    let y = new_code (variables_for c.bytes id) (codes_for c.bytes id) (count_of_codes c.bytes id u.0.assertion u.1) (split (statement_of c.bytes id)).1 [] x k in
    let z : Among x (map (λ h. (split h).0) (map (statement_of c.bytes) ms)) = subst (λ (cs : List WSym). Among x cs) (codes_are_of c.bytes id u.0.assertion) y in
    let v = among_mapped (λ (h : List WSym). (split h).0) x (map (statement_of c.bytes) ms) z in
    let w = among_mapped (statement_of c.bytes) v.0 ms v.1 in
    ap (is_float_code c.bytes) (v.2 ∙ ap (λ (h : List WSym). (split h).0) w.2) ∙ float_code c.bytes w.0 (among_all (IsFloated c.bytes) ms floats w.0 w.1)

-- a goal that has the typecode of a `$f` needs no more than the assertions with such typecodes
pub parts_enough : (c : Terms) → c.at < length (labels_of c.bytes) → (code : WSym) → is_float_code c.bytes code ≡ true → IsEnough (grammar_of c) code (narrowed (is_taken c.bytes true) (grammar_of c))
parts_enough c own code h = is_enough (grammar_of c) (is_taken c.bytes true) (closed c own) code h

-- a filter that passes all
filter_all : {X : Type 0} (p : X → Bool) (xs : List X) → ((x : X) → p x ≡ true) → filter p xs ≡ xs
filter_all p [] h = refl
filter_all p (x ∷ xs) h = ap (λ (b : Bool). cond b (x ∷ filter p xs) (filter p xs)) (h x) ∙ ap (λ ys. x ∷ ys) (filter_all p xs h)

-- where all typecodes are taken the grammar is as it was
pub all_taken : (bytes : List ℕ) (G : Grammar) → narrowed (is_taken bytes false) G ≡ G
all_taken bytes G = ap (λ (xs : List Assertion). record { hypotheses = G.hypotheses; assertions = xs; brackets = G.brackets; groups = G.groups }) (filter_all (λ (a : Assertion). is_taken bytes false a.code) G.assertions (λ a. refl))

-- the table of a grammar that is enough has the answers
pub answers_enough : (G : Grammar) (code : WSym) (H : Grammar) (t : List WSym) (rows : Rows) → IsEnough G code H → AreAnswers H t rows → AreAnswersFor G code t rows
answers_enough G code H t rows e h i j k m l w r = sym (e r (k, part t i j) m) ∙ h i j k l w r
