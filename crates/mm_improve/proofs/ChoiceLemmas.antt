-- What the table of a goal tells of its chosen proof.
use Rattle.std.proofs.Common.{◌≡◌, ◌≤◌, ◌<◌, ◌-◌, ◌||◌, ◌&&◌, ℕ, Bool, true, false, cond, filter, List, [], ◌∷◌, Option, None, Some, Result, Ok, Err, length, map, take, drop, refl, sym, ◌∙◌, ap, arith, subst}
use Rattle.std.specs.Prelude.{reverse}
use Rattle.std.specs.List.{All, AllByRecursion, list_any}
use Rattle.std.proofs.lemmas.Bool.{true≢false, false≢true, cases_Bool}
use Rattle.std.proofs.lemmas.List.{length-map, length-reverse}
use Rattle.std.proofs.lemmas.List.Elements.{recursion_from_All}
use Rattle.std.proofs.Math.Seq.{take-length}
use Rattle.mm_scope.specs.Contents.{labels_of}
use Rattle.mm_subst.specs.declared.symbol.WSym.{WSym}
use Rattle.mm_subst.specs.declared.symbol.WSym.TheVariants.{Const, Var, Work}
use Rattle.mm_subst.specs.Applied.{most_symbols}
use Rattle.mm_subst.specs.Symbols.{is_same, has_work, is_work}
use Rattle.mm_subst.proofs.Keys.{is_same-itself, is_same-true}
use Rattle.mm_unify.specs.Parts.{part}
use Rattle.mm_plain.specs.declared.plain.Plain.{Plain}
use Rattle.mm_plain.specs.Shape.{known, size_of, steps_of}
use Rattle.mm_plain.specs.Valid.{IsKnownSymbol, IsString, first_setting, most_steps}
use Rattle.mm_plain.proofs.Equations.{length-steps_of, size_of-known}
use Rattle.mm_tree.specs.declared.plan.Plan.{Plan}
use Rattle.mm_improve.specs.declared.fault.ImproveFault.{ImproveFault}
use Rattle.mm_improve.specs.declared.fault.ImproveFault.TheVariants.{TooManySteps, TooDeep, Memory}
use Rattle.mm_chart.specs.declared.grammar.Item.{Item}
use Rattle.mm_chart.specs.declared.table.Part.{Part}
use Rattle.mm_improve.specs.Laying.{IsCounted, IsLaid, LaysFound, LaysTree}
use Rattle.mm_chart.specs.Options.{is_there, on, first, or_else}
use Rattle.mm_improve.specs.Assertions.{Terms}
use Rattle.mm_improve.specs.Ranks as ranks
use Rattle.mm_chart.specs.Items.{Assertion, Chosen, Grammar, IsAnswer, may_lead, part_codes, same_string}
use Rattle.mm_chart.specs.Charts.{Noted, Rows, AreAnswersFor, ArePlaced, entry_at, meaning}
use Rattle.mm_improve.specs.Choices.{IsCharted, bare_hypothesis, bare_id, is_bare, has_no_items}
use Rattle.mm_improve.specs.Grammars.{chosen_by, grammar_of}
use Rattle.mm_improve.specs.Narrow.{narrowed}
use Rattle.mm_improve.specs.Proving.{chosen_tree, rank_limit}
use Rattle.mm_improve.specs.Traces.{string_of, tree_at, whole}
use Rattle.mm_improve.proofs.Agreeing.{VariablesDiffer, answers_agree}
use Rattle.mm_improve.proofs.Bare.{Told, bare_told}
use Rattle.mm_improve.proofs.Limited.{ranks_are_limited}

symbol_plain : (bytes : List ℕ) (at : ℕ) (x : WSym) → IsKnownSymbol (first_setting bytes at) x → is_work x ≡ false
symbol_plain bytes at (Const n) h = refl
symbol_plain bytes at (Var n) h = refl
symbol_plain bytes at (Work n) h = absurd (let a = h.0 in let b = h.1 in omega (arith, a, b))

symbols_plain : (bytes : List ℕ) (at : ℕ) (s : List WSym) → AllByRecursion (IsKnownSymbol (first_setting bytes at)) s → has_work s ≡ false
symbols_plain bytes at [] h = refl
symbols_plain bytes at (x ∷ s) h = ap (λ (b : Bool). b || has_work s) (symbol_plain bytes at x h.0) ∙ symbols_plain bytes at s h.1

pub string_plain : (bytes : List ℕ) (at : ℕ) (s : List WSym) → IsString (first_setting bytes at) s → has_work s ≡ false
string_plain bytes at s h = symbols_plain bytes at s (recursion_from_All (IsKnownSymbol (first_setting bytes at)) s h.symbols)

part-all : (t : List WSym) → part t 0 (length t) ≡ t
part-all t = ap (λ (n : ℕ). take n t) (let e : length t - 0 ≡ length t = omega arith in e) ∙ take-length t

leads-itself : (G : Grammar) (code : WSym) → may_lead G code code ≡ true
leads-itself G code = ap (λ (b : Bool). b || list_any (is_same code) (part_codes G)) (is_same-itself code)

not_there : {A : Type 0} (o : Option A) → is_there o ≡ false → o ≡ None
not_there None h = refl
not_there (Some a) h = absurd (true≢false h)

found_there : {A : Type 0} (o : Option A) → is_there o ≡ true → (a : A) × (o ≡ Some a)
found_there None h = absurd (false≢true h)
found_there (Some a) h = (a, refl)

module _ (c : Terms) (differ : VariablesDiffer c.bytes) (low : c.at < length (labels_of c.bytes)) (code : WSym) (t : List WSym) (s : IsString (first_setting c.bytes c.at) (code ∷ t)) (rows : Rows) (answers : AreAnswersFor (grammar_of c) code t rows) (some : 0 < length t) where
  abbrev limit : ℕ
  limit = rank_limit c.bytes (code ∷ t)

  abbrev entry : Option Noted
  entry = entry_at rows 0 code (length t)

  whole-string : string_of t (whole code t) ≡ code ∷ t
  whole-string = ap (λ (u : List WSym). code ∷ u) (part-all t)

  chosen_is : ranks.chosen c limit (code ∷ t) ≡ on (chosen_by c.bytes) (on (meaning t) entry)
  chosen_is =
      let o : Option Chosen = on (meaning t) entry in
      let plain = string_plain c.bytes c.at (code ∷ t) s in
      let a : IsAnswer (grammar_of c) (code, t) o = subst (λ (u : List WSym). IsAnswer (grammar_of c) (code, u) o) (part-all t) (answers 0 (length t) code (leads-itself (grammar_of c) code) some (omega arith)) in
      ranks_are_limited c.bytes differ c refl low code t plain s.short (on (chosen_by c.bytes) o) (answers_agree c.bytes differ c refl low code t plain s.short o a)

  pub not_charted : is_there entry ≡ false → chosen_tree c (code ∷ t) ≡ None
  not_charted h = ap (on (λ _. ranks.tree c limit (code ∷ t))) (chosen_is ∙ ap (λ (o : Option Noted). on (chosen_by c.bytes) (on (meaning t) o)) (not_there entry h))

  pub charted : ArePlaced t rows → is_there entry ≡ true → IsCharted c code t rows
  charted placed h =
      let e = found_there entry h in
      let x : ranks.Chosen = chosen_by c.bytes (meaning t e.0) in
      let now : ranks.chosen c limit (code ∷ t) ≡ Some x = chosen_is ∙ ap (λ (o : Option Noted). on (chosen_by c.bytes) (on (meaning t) o)) e.1 in
      record {
        answers = answers;
        placed = placed;
        ranked = record {
          ordered = some;
          within = omega arith;
          plain = ap has_work whole-string ∙ string_plain c.bytes c.at (code ∷ t) s;
          short = subst (λ (u : List WSym). length u ≤ most_symbols) (sym whole-string) s.short;
          there = ap (λ (u : List WSym). is_there (ranks.chosen c limit u)) whole-string ∙ ap is_there now;
          leads = leads-itself (grammar_of c) code;
        };
        tree = ap (on (λ _. ranks.tree c limit (code ∷ t))) now ∙ ap (λ (u : List WSym). Some (ranks.tree c limit u)) (sym whole-string);
      }

-- ## The first that is a typecode alone

pub no_items : (xs : List Item) → length xs ≡ 0 → has_no_items xs ≡ true
no_items [] h = refl
no_items (x ∷ xs) h = absurd (omega (arith, h))

pub some_items : (xs : List Item) → 0 < length xs → has_no_items xs ≡ false
some_items [] h = absurd (omega (arith, h))
some_items (x ∷ xs) h = refl

pub no_symbols : (t : List WSym) → length t ≡ 0 → same_string [] t ≡ true
no_symbols [] h = refl
no_symbols (x ∷ t) h = absurd (omega (arith, h))

pub some_symbols : (t : List WSym) → 0 < length t → same_string [] t ≡ false
some_symbols [] h = absurd (omega (arith, h))
some_symbols (x ∷ t) h = refl

pub empty_text : (t : List WSym) → length t ≡ 0 → t ≡ []
empty_text [] h = refl
empty_text (x ∷ t) h = absurd (omega (arith, h))

-- ## A typecode alone in a narrow grammar

-- what has the typecode is not left out
kept : (p : WSym → Bool) (code : WSym) → p code ≡ true → (xs : List Assertion) → first (is_bare code) (filter (λ a. p a.code) xs) ≡ first (is_bare code) xs
kept p code h [] = refl
kept p code h (a ∷ xs) = by (p a.code) (is_same a.code code) refl refl (kept p code h xs)
  where
    by : (b d : Bool) → p a.code ≡ b → is_same a.code code ≡ d → first (is_bare code) (filter (λ a. p a.code) xs) ≡ first (is_bare code) xs → first (is_bare code) (cond (p a.code) (a ∷ filter (λ a. p a.code) xs) (filter (λ a. p a.code) xs)) ≡ first (is_bare code) (a ∷ xs)
    by true d e f ih = ap (λ (b : Bool). first (is_bare code) (cond b (a ∷ filter (λ a. p a.code) xs) (filter (λ a. p a.code) xs))) e ∙ ap (λ (o : Option Assertion). cond (is_bare code a) (Some a) o) ih
    by false true e f ih = absurd (false≢true (sym e ∙ ap p (is_same-true a.code code f) ∙ h))
    by false false e f ih =
        ap (λ (b : Bool). first (is_bare code) (cond b (a ∷ filter (λ a. p a.code) xs) (filter (λ a. p a.code) xs))) e ∙ ih
        ∙ sym (ap (λ (b : Bool). cond (b && has_no_items a.items) (Some a) (first (is_bare code) xs)) f)

pub bare_kept : (p : WSym → Bool) (G : Grammar) (code : WSym) → p code ≡ true → bare_id (narrowed p G) code ≡ bare_id G code
bare_kept p G code h = ap (λ (o : Option Assertion). or_else (bare_hypothesis G.hypotheses code) (on (λ a. a.id) o)) (kept p code h G.assertions)

-- ## A typecode alone

module _ (c : Terms) (differ : VariablesDiffer c.bytes) (low : c.at < length (labels_of c.bytes)) (code : WSym) (t : List WSym) (s : IsString (first_setting c.bytes c.at) (code ∷ t)) (empty : t ≡ []) where
  plain_code : has_work (code ∷ []) ≡ false
  plain_code = subst (λ (u : List WSym). has_work (code ∷ u) ≡ false) empty (string_plain c.bytes c.at (code ∷ t) s)

  told : (o : Option ℕ) → o ≡ bare_id (grammar_of c) code → Told c differ low code plain_code o
  told o e = subst (Told c differ low code plain_code) (sym e) (bare_told c differ low code plain_code)

  pub bare_some : (id : ℕ) → Some id ≡ bare_id (grammar_of c) code → chosen_tree c (code ∷ t) ≡ Some (known (code ∷ t) id [] [])
  bare_some id e = subst (λ (u : List WSym). chosen_tree c (code ∷ u) ≡ Some (known (code ∷ u) id [] [])) (sym empty) (told (Some id) e)

  pub bare_none : None ≡ bare_id (grammar_of c) code → chosen_tree c (code ∷ t) ≡ None
  bare_none e = subst (λ (u : List WSym). chosen_tree c (code ∷ u) ≡ None) (sym empty) (told None e)

-- ## The size, by what is known

pub one_counted : (found : Option Plain) (t : List WSym) (id : ℕ) → found ≡ Some (known t id [] []) → IsCounted found (Ok 1)
one_counted found t id e x h =
    let same : known t id [] [] ≡ x = let z : Some (known t id [] []) ≡ Some x = sym e ∙ h in cc in
    (sym (ap size_of same) ∙ size_of-known t id [] [], omega arith)

pub all_counted : (c : Terms) (r : ℕ) (t : List WSym) (p : Part) (found : Option Plain) (parts : List Part) → found ≡ Some (tree_at c r t p) → reverse (map (tree_at c r t) parts) ≡ steps_of (tree_at c r t p) → length parts ≤ most_steps → IsCounted found (Ok (length parts))
all_counted c r t p found parts e s few x h =
    let same : tree_at c r t p ≡ x = let z : Some (tree_at c r t p) ≡ Some x = sym e ∙ h in cc in
    let size : size_of (tree_at c r t p) ≡ length parts = sym (length-steps_of (tree_at c r t p)) ∙ sym (ap length s) ∙ length-reverse (map (tree_at c r t) parts) ∙ length-map parts (tree_at c r t) in
    (sym (ap size_of same) ∙ size, few)
