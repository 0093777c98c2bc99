-- Each row's test decides the cause of its fault.
use Rattle.std.proofs.Common.{◌≡◌, ◌≤◌, ◌<◌, ℕ, Bool, true, false, not, ◌&&◌, ◌||◌, List, [], ◌∷◌, ◌++◌, Option, None, Some, length, position, slice_index, nat_eq, nat_lt, is_some, codes, refl, sym, ap, ◌∙◌, subst, arith, ◌⊎◌, inl, inr}
use Rattle.std.specs.Prelude.{Decides}
use Rattle.std.proofs.lemmas.Bool.{true≢false, false≢true, cases_lt}
use Rattle.std.proofs.lemmas.Bool.Decides.{Decides-and, Decides-or, Decides-not, Decides-at, Decides-like, Decides-eqb, Decides-ltb}
use Rattle.std.proofs.lemmas.List.{length-map}
use Rattle.std.proofs.lemmas.List.Folds.{list_any_at}
use Rattle.std.proofs.lemmas.List.Quantifiers.{position-Some}
use Rattle.std.proofs.lemmas.Slice.Eq.{bytes_eq-Decides}
use Rattle.std.specs.List.{list_any}
use Rattle.std.specs.Str.{bytes_eq}
use Rattle.mm_tokens.specs.Words.{word_of, keyword_of, is_bad_label, is_bad_symbol}
use Rattle.mm_tokens.specs.declared.word.Word.{Word}
use Rattle.mm_tokens.specs.declared.word.Word.TheVariants as word
use Rattle.mm_tables.specs.Moves.{in_force}
use Rattle.mm_scope.specs.Events.{Event, symbols, labels, open_blocks}
use Rattle.mm_scope.specs.Laws.{IsConstant, IsInScope}
use Rattle.mm_scope.specs.Looks.{look_back, known_as, moves, constants, is_active_of, is_floated_of}
use Rattle.mm_scope.specs.Steps.{Answers, most_symbols}
use Rattle.mm_scope.specs.declared.fault.ReadFault.{ReadFault}
use Rattle.mm_scope.specs.declared.fault.ReadFault.TheVariants as fault
use Rattle.mm_scope.specs.declared.mode.Mode.{Mode}
use Rattle.mm_scope.specs.declared.mode.Mode.TheVariants as mode
use Rattle.mm_grammar.specs.Phrases.{Noted, Symbol, numbers, text_at}
use Rattle.mm_grammar.specs.Rules.{HasFloat}
use Rattle.mm_grammar.specs.Beginnings.{Beginning, symbols_begun}
use Rattle.mm_grammar.specs.Beginnings as begun
use Rattle.mm_grammar.specs.Faults.{unlabelled_keywords, labelled_keywords, inner_keywords, keywords, inclusions, IsAmong, IsOther, IsTextOf, IsConstantText, IsVariableText, IsFloatedText, IsActiveText, TakesLabel, AfterLabel, TakesKeyword, InDeclaration, InExpression, TakesActive, IsRedeclared, IsMisplaced, IsFloatRepeated, IsNoParting, IsTooLong, IsCause}
use Rattle.mm_grammar.proofs.Answering.{label_as, deep_back, deep_now, outermost_back, shallow_now}
use Rattle.mm_grammar.proofs.Going.{plain_word}
use Rattle.mm_grammar.proofs.Keywords.{Spells, spelled}
use Rattle.mm_grammar.proofs.Known.{not_there, same_text}
use Rattle.mm_grammar.proofs.Numbering.{found_now}
use Rattle.mm_grammar.proofs.Rows.{is_plain, is_end, is_equals, is_constants, is_close, is_unknown, is_inclusion, is_labelled, is_unlabelled, is_inner, is_keyword, takes_label, has_label, takes_keyword, in_declaration, in_expression, takes_active, redeclared, first_variable, misplaced, float_repeated, no_parting, too_long, holds}
use Rattle.mm_grammar.proofs.Scoping.{in_scope, active_in_scope, has_float, floated_in_scope, is_constant, constant_in}

yes : Decides true (Unit {0})
yes = (λ _. tt, λ _. refl)

no : Decides false ⊥
no = (λ e. false≢true e, λ h. absurd h)

itself : (b : Bool) → Decides b (b ≡ true)
itself b = (λ e. e, λ e. e)

off_too : (b : Bool) → not b ≡ true → b ≡ false
off_too true h = absurd (false≢true h)
off_too false h = refl

abbrev is_known : Word → Bool
is_known w = not (is_unknown w)

-- of the token's text
abbrev AllTest : (Word → Bool) → List (List ℕ) → Type 0
AllTest test [] = Unit {0}
AllTest test (k ∷ ks) = (test (word_of k) ≡ true) × AllTest test ks

among_words : (test : Word → Bool) (t : List ℕ) (ks : List (List ℕ)) → AllTest test ks → IsAmong ks t → test (word_of t) ≡ true
among_words test t [] all h = absurd (false≢true h)
among_words test t (k ∷ ks) all h = by (bytes_eq t k) refl h (among_words test t ks all.1)
  where
    by : (b : Bool) → bytes_eq t k ≡ b → (b || list_any (bytes_eq t) ks) ≡ true → (IsAmong ks t → test (word_of t) ≡ true) → test (word_of t) ≡ true
    by true e g later = ap (λ u. test (word_of u)) ((bytes_eq-Decides t k).0 e) ∙ all.0
    by false e g later = later g

module _ (t : List ℕ) where
  plain_text : Decides (is_plain (word_of t)) (nat_eq (slice_index t 0) 36 ≡ false)
  plain_text = (by (word_of t) (spelled t), λ h. ap is_plain (plain_word t h))
    where
      by : (w : Word) → Spells w t → is_plain w ≡ true → nat_eq (slice_index t 0) 36 ≡ false
      by word.Text spells h = spells
      by _ spells h = absurd (false≢true h)

  end_text : Decides (is_end (word_of t)) (t ≡ codes "$.")
  unfolding word_of keyword_of
  end_text = (by (word_of t) (spelled t), λ e. ap (λ u. is_end (word_of u)) e)
    where
      by : (w : Word) → Spells w t → is_end w ≡ true → t ≡ codes "$."
      by word.End spells h = spells
      by _ spells h = absurd (false≢true h)

  equals_text : Decides (is_equals (word_of t)) (t ≡ codes "$=")
  unfolding word_of keyword_of
  equals_text = (by (word_of t) (spelled t), λ e. ap (λ u. is_equals (word_of u)) e)
    where
      by : (w : Word) → Spells w t → is_equals w ≡ true → t ≡ codes "$="
      by word.Proof spells h = spells
      by _ spells h = absurd (false≢true h)

  constants_text : Decides (is_constants (word_of t)) (t ≡ codes "$c")
  unfolding word_of keyword_of
  constants_text = (by (word_of t) (spelled t), λ e. ap (λ u. is_constants (word_of u)) e)
    where
      by : (w : Word) → Spells w t → is_constants w ≡ true → t ≡ codes "$c"
      by word.Constants spells h = spells
      by _ spells h = absurd (false≢true h)

  close_text : Decides (is_close (word_of t)) (t ≡ codes "$}")
  unfolding word_of keyword_of
  close_text = (by (word_of t) (spelled t), λ e. ap (λ u. is_close (word_of u)) e)
    where
      by : (w : Word) → Spells w t → is_close w ≡ true → t ≡ codes "$}"
      by word.Close spells h = spells
      by _ spells h = absurd (false≢true h)

  same : (ks : List (List ℕ)) (k : List ℕ) → t ≡ k → IsAmong ks k → IsAmong ks t
  same ks k e h = subst (IsAmong ks) (sym e) h

  unlabelled_text : Decides (is_unlabelled (word_of t)) (IsAmong unlabelled_keywords t)
  unfolding word_of keyword_of
  unlabelled_text = (by (word_of t) (spelled t), among_words is_unlabelled t unlabelled_keywords (refl, (refl, (refl, (refl, (refl, tt))))))
    where
      by : (w : Word) → Spells w t → is_unlabelled w ≡ true → IsAmong unlabelled_keywords t
      by word.Constants spells h = same unlabelled_keywords (codes "$c") spells refl
      by word.Variables spells h = same unlabelled_keywords (codes "$v") spells refl
      by word.Distinct spells h = same unlabelled_keywords (codes "$d") spells refl
      by word.Open spells h = same unlabelled_keywords (codes "${") spells refl
      by word.Close spells h = same unlabelled_keywords (codes "$}") spells refl
      by _ spells h = absurd (false≢true h)

  labelled_text : Decides (is_labelled (word_of t)) (IsAmong labelled_keywords t)
  unfolding word_of keyword_of
  labelled_text = (by (word_of t) (spelled t), among_words is_labelled t labelled_keywords (refl, (refl, (refl, (refl, tt)))))
    where
      by : (w : Word) → Spells w t → is_labelled w ≡ true → IsAmong labelled_keywords t
      by word.Float spells h = same labelled_keywords (codes "$f") spells refl
      by word.Essential spells h = same labelled_keywords (codes "$e") spells refl
      by word.Axiom spells h = same labelled_keywords (codes "$a") spells refl
      by word.Theorem spells h = same labelled_keywords (codes "$p") spells refl
      by _ spells h = absurd (false≢true h)

  inner_text : Decides (is_inner (word_of t)) (IsAmong inner_keywords t)
  unfolding word_of keyword_of
  inner_text = (by (word_of t) (spelled t), among_words is_inner t inner_keywords (refl, (refl, tt)))
    where
      by : (w : Word) → Spells w t → is_inner w ≡ true → IsAmong inner_keywords t
      by word.Proof spells h = same inner_keywords (codes "$=") spells refl
      by word.End spells h = same inner_keywords (codes "$.") spells refl
      by _ spells h = absurd (false≢true h)

  inclusion_text : Decides (is_inclusion (word_of t)) (IsAmong inclusions t)
  unfolding word_of keyword_of
  inclusion_text = (by (word_of t) (spelled t), among_words is_inclusion t inclusions (refl, (refl, tt)))
    where
      by : (w : Word) → Spells w t → is_inclusion w ≡ true → IsAmong inclusions t
      by word.Inclusion (inl e) h = same inclusions (codes "$[") e refl
      by word.Inclusion (inr e) h = same inclusions (codes "$]") e refl
      by _ spells h = absurd (false≢true h)

  keyword_there : (ks : List (List ℕ)) (w : Word) → Spells w t → is_keyword w ≡ true → IsAmong (keywords ++ ks) t
  keyword_there ks word.Constants spells h = same (keywords ++ ks) (codes "$c") spells refl
  keyword_there ks word.Variables spells h = same (keywords ++ ks) (codes "$v") spells refl
  keyword_there ks word.Distinct spells h = same (keywords ++ ks) (codes "$d") spells refl
  keyword_there ks word.Open spells h = same (keywords ++ ks) (codes "${") spells refl
  keyword_there ks word.Close spells h = same (keywords ++ ks) (codes "$}") spells refl
  keyword_there ks word.Float spells h = same (keywords ++ ks) (codes "$f") spells refl
  keyword_there ks word.Essential spells h = same (keywords ++ ks) (codes "$e") spells refl
  keyword_there ks word.Axiom spells h = same (keywords ++ ks) (codes "$a") spells refl
  keyword_there ks word.Theorem spells h = same (keywords ++ ks) (codes "$p") spells refl
  keyword_there ks word.Proof spells h = same (keywords ++ ks) (codes "$=") spells refl
  keyword_there ks word.End spells h = same (keywords ++ ks) (codes "$.") spells refl
  keyword_there ks word.Text spells h = absurd (false≢true h)
  keyword_there ks word.Unknown spells h = absurd (false≢true h)
  keyword_there ks word.Inclusion spells h = absurd (false≢true h)

  keyword_text : Decides (is_keyword (word_of t)) (IsAmong keywords t)
  unfolding word_of keyword_of
  keyword_text = (keyword_there [] (word_of t) (spelled t), among_words is_keyword t keywords (refl, (refl, (refl, (refl, (refl, (refl, (refl, (refl, (refl, (refl, (refl, tt))))))))))))

  unknown_text : Decides (is_unknown (word_of t)) ((slice_index t 0 ≡ 36) × (¬ IsAmong (keywords ++ inclusions) t))
  unfolding word_of keyword_of
  unknown_text = (λ h. (first (word_of t) (spelled t) h, known_not h), λ h. unknown (word_of t) (spelled t) h.0 h.1)
    where
      first : (w : Word) → Spells w t → is_unknown w ≡ true → slice_index t 0 ≡ 36
      first word.Unknown spells h = spells
      first _ spells h = absurd (false≢true h)

      known_not : is_unknown (word_of t) ≡ true → ¬ IsAmong (keywords ++ inclusions) t
      known_not h among = true≢false (sym h ∙ off_too (is_unknown (word_of t)) (among_words is_known t (keywords ++ inclusions) (refl, (refl, (refl, (refl, (refl, (refl, (refl, (refl, (refl, (refl, (refl, (refl, (refl, tt))))))))))))) among))

      unknown : (w : Word) → Spells w t → slice_index t 0 ≡ 36 → ¬ IsAmong (keywords ++ inclusions) t → is_unknown w ≡ true
      unknown word.Unknown spells e none = refl
      unknown word.Text spells e none = absurd (true≢false (sym (ap (λ a. nat_eq a 36) e) ∙ spells))
      unknown word.Inclusion (inl spells) e none = absurd (none (same (keywords ++ inclusions) (codes "$[") spells refl))
      unknown word.Inclusion (inr spells) e none = absurd (none (same (keywords ++ inclusions) (codes "$]") spells refl))
      unknown word.Constants spells e none = absurd (none (keyword_there inclusions word.Constants spells refl))
      unknown word.Variables spells e none = absurd (none (keyword_there inclusions word.Variables spells refl))
      unknown word.Distinct spells e none = absurd (none (keyword_there inclusions word.Distinct spells refl))
      unknown word.Open spells e none = absurd (none (keyword_there inclusions word.Open spells refl))
      unknown word.Close spells e none = absurd (none (keyword_there inclusions word.Close spells refl))
      unknown word.Float spells e none = absurd (none (keyword_there inclusions word.Float spells refl))
      unknown word.Essential spells e none = absurd (none (keyword_there inclusions word.Essential spells refl))
      unknown word.Axiom spells e none = absurd (none (keyword_there inclusions word.Axiom spells refl))
      unknown word.Theorem spells e none = absurd (none (keyword_there inclusions word.Theorem spells refl))
      unknown word.Proof spells e none = absurd (none (keyword_there inclusions word.Proof spells refl))
      unknown word.End spells e none = absurd (none (keyword_there inclusions word.End spells refl))

  other_text : Decides (is_keyword (word_of t) && not (is_end (word_of t))) (IsOther (codes "$.") t)
  other_text = Decides-and (is_keyword (word_of t)) (not (is_end (word_of t))) keyword_text (Decides-not (is_end (word_of t)) end_text)

  other_than_equals : Decides (is_keyword (word_of t) && not (is_equals (word_of t))) (IsOther (codes "$=") t)
  other_than_equals = Decides-and (is_keyword (word_of t)) (not (is_equals (word_of t))) keyword_text (Decides-not (is_equals (word_of t)) equals_text)

-- of what the text names
any_of : (ℕ → Bool) → Option ℕ → Bool
any_of q None = false
any_of q (Some n) = q n

module _ (past : List Event) (t : List ℕ) where
  module _ (P : ℕ → Type 0) (q : ℕ → Bool) (each : (n : ℕ) → Decides (q n) (P n)) where
    names_by : (r : Option ℕ) → position (bytes_eq t) (symbols past) ≡ r → Decides (any_of q r) (IsTextOf past P t)
    unfolding any_of
    names_by None e = (λ h. absurd (false≢true h), λ h. absurd (false≢true (ap is_some (sym e ∙ found_now past t h.number h.named))))
    names_by (Some n) e = (λ h. record { number = n; named = same_text t (symbols past) n e; is = (each n).0 h }, λ h. (each n).1 (subst P (as_found h) h.is))
      where
        value : Option ℕ → ℕ
        value None = 0
        value (Some k) = k

        as_found : (h : IsTextOf past P t) → h.number ≡ n
        as_found h = ap value (sym (found_now past t h.number h.named) ∙ e)

    names : (test : Bool) → test ≡ any_of q (position (bytes_eq t) (symbols past)) → Decides test (IsTextOf past P t)
    names test e = Decides-at test _ e (names_by (position (bytes_eq t) (symbols past)) refl)

  constant_text : Decides (look_back past t).constant (IsConstantText past t)
  unfolding any_of
  constant_text = names (IsConstant past) (λ n. list_any (nat_eq n) (constants past)) (λ n. (is_constant past n, constant_in past n)) _ (by (position (bytes_eq t) (symbols past)))
    where
      by : (r : Option ℕ) → (known_as past t r).constant ≡ any_of (λ n. list_any (nat_eq n) (constants past)) r
      by None = refl
      by (Some n) = refl

  variable_text : Decides (look_back past t).active (IsVariableText past t)
  unfolding any_of
  variable_text = names (IsInScope past) (λ n. list_any (is_active_of n) (in_force 0 (moves past))) (λ n. (in_scope past n, active_in_scope past n)) _ (by (position (bytes_eq t) (symbols past)))
    where
      by : (r : Option ℕ) → (known_as past t r).active ≡ any_of (λ n. list_any (is_active_of n) (in_force 0 (moves past))) r
      by None = refl
      by (Some n) = refl

  floated_text : Decides (look_back past t).floated (IsFloatedText past t)
  unfolding any_of
  floated_text = names (HasFloat past) (λ n. list_any (is_floated_of n) (in_force 0 (moves past))) (λ n. (has_float past n, floated_in_scope past n)) _ (by (position (bytes_eq t) (symbols past)))
    where
      by : (r : Option ℕ) → (known_as past t r).floated ≡ any_of (λ n. list_any (is_floated_of n) (in_force 0 (moves past))) r
      by None = refl
      by (Some n) = refl

  there_text : (ss : List ℕ) → Decides ((look_back past t).active && list_any (nat_eq (look_back past t).number) ss) (IsTextOf past (λ v. IsInScope past v × (list_any (λ s. nat_eq v s) ss ≡ true)) t)
  unfolding any_of
  there_text ss = names _ (λ n. list_any (is_active_of n) (in_force 0 (moves past)) && list_any (nat_eq n) ss)
      (λ n. Decides-and _ _ (in_scope past n, active_in_scope past n) (itself (list_any (nat_eq n) ss))) _ (by (position (bytes_eq t) (symbols past)))
    where
      by : (r : Option ℕ) → ((known_as past t r).active && list_any (nat_eq (known_as past t r).number) ss)
          ≡ any_of (λ n. list_any (is_active_of n) (in_force 0 (moves past)) && list_any (nat_eq n) ss) r
      by None = refl
      by (Some n) = refl

  active_text : Decides ((look_back past t).constant || (look_back past t).active) (IsActiveText past t)
  active_text = Decides-or _ _ constant_text variable_text

  known_text : Decides (look_back past t).known (IsAmong (symbols past) t)
  known_text = by (position (bytes_eq t) (symbols past)) refl
    where
      by : (r : Option ℕ) → position (bytes_eq t) (symbols past) ≡ r → Decides (known_as past t r).known (IsAmong (symbols past) t)
      by None e = (λ h. absurd (false≢true h), λ h. absurd (true≢false (sym h ∙ not_there (bytes_eq t) (symbols past) e)))
      by (Some n) e = let found = position-Some (bytes_eq t) (symbols past) n [] e in (λ h. list_any_at (bytes_eq t) (symbols past) n [] found.0 found.1, λ h. refl)

  label_text : Decides (look_back past t).label (IsAmong (labels past) t)
  label_text = Decides-at _ _ (label_as past t (position (bytes_eq t) (symbols past))) (itself (list_any (bytes_eq t) (labels past)))

  deep_text : Decides (look_back past t).deep (0 < length (open_blocks past))
  deep_text = (deep_back past t, deep_now past t)

  flat_text : Decides (not (look_back past t).deep) (open_blocks past ≡ [])
  flat_text = (λ h. outermost_back past t (off_too (look_back past t).deep h), λ e. ap not (shallow_now past t e))

-- of the statement that is begun
abbrev pub mode_of : Beginning → Mode
mode_of begun.nothing = mode.Start
mode_of (begun.label l) = mode.Labelled
mode_of (begun.constants k ss) = mode.Constants
mode_of (begun.variables k ss) = mode.Variables
mode_of (begun.distinct k ss) = mode.Distinct
mode_of (begun.float l k ss) = mode.Float
mode_of (begun.essential l k ss) = mode.Essential
mode_of (begun.asserted l k ss) = mode.Axiom
mode_of (begun.theorem l k ss) = mode.Theorem
mode_of (begun.proof l k ss q ts) = mode.Proof

takes_label_begun : (b : Beginning) → Decides (takes_label (mode_of b)) (TakesLabel b)
takes_label_begun begun.nothing = yes
takes_label_begun (begun.label l) = no
takes_label_begun (begun.constants k ss) = no
takes_label_begun (begun.variables k ss) = no
takes_label_begun (begun.distinct k ss) = no
takes_label_begun (begun.float l k ss) = no
takes_label_begun (begun.essential l k ss) = no
takes_label_begun (begun.asserted l k ss) = no
takes_label_begun (begun.theorem l k ss) = no
takes_label_begun (begun.proof l k ss q ts) = no

has_label_begun : (b : Beginning) → Decides (has_label (mode_of b)) (AfterLabel b)
has_label_begun begun.nothing = no
has_label_begun (begun.label l) = yes
has_label_begun (begun.constants k ss) = no
has_label_begun (begun.variables k ss) = no
has_label_begun (begun.distinct k ss) = no
has_label_begun (begun.float l k ss) = no
has_label_begun (begun.essential l k ss) = no
has_label_begun (begun.asserted l k ss) = no
has_label_begun (begun.theorem l k ss) = no
has_label_begun (begun.proof l k ss q ts) = no

takes_keyword_begun : (b : Beginning) → Decides (takes_keyword (mode_of b)) (TakesKeyword b)
takes_keyword_begun begun.nothing = yes
takes_keyword_begun (begun.label l) = yes
takes_keyword_begun (begun.constants k ss) = no
takes_keyword_begun (begun.variables k ss) = no
takes_keyword_begun (begun.distinct k ss) = no
takes_keyword_begun (begun.float l k ss) = no
takes_keyword_begun (begun.essential l k ss) = no
takes_keyword_begun (begun.asserted l k ss) = no
takes_keyword_begun (begun.theorem l k ss) = no
takes_keyword_begun (begun.proof l k ss q ts) = no

in_declaration_begun : (b : Beginning) → Decides (in_declaration (mode_of b)) (InDeclaration b)
in_declaration_begun begun.nothing = no
in_declaration_begun (begun.label l) = no
in_declaration_begun (begun.constants k ss) = yes
in_declaration_begun (begun.variables k ss) = yes
in_declaration_begun (begun.distinct k ss) = no
in_declaration_begun (begun.float l k ss) = no
in_declaration_begun (begun.essential l k ss) = no
in_declaration_begun (begun.asserted l k ss) = no
in_declaration_begun (begun.theorem l k ss) = no
in_declaration_begun (begun.proof l k ss q ts) = no

in_expression_begun : (b : Beginning) → Decides (in_expression (mode_of b)) (InExpression b)
in_expression_begun begun.nothing = no
in_expression_begun (begun.label l) = no
in_expression_begun (begun.constants k ss) = no
in_expression_begun (begun.variables k ss) = no
in_expression_begun (begun.distinct k ss) = no
in_expression_begun (begun.float l k ss) = no
in_expression_begun (begun.essential l k ss) = yes
in_expression_begun (begun.asserted l k ss) = yes
in_expression_begun (begun.theorem l k ss) = yes
in_expression_begun (begun.proof l k ss q ts) = no

takes_active_begun : (b : Beginning) → Decides (takes_active (mode_of b)) (TakesActive b)
takes_active_begun begun.nothing = no
takes_active_begun (begun.label l) = no
takes_active_begun (begun.constants k ss) = no
takes_active_begun (begun.variables k ss) = no
takes_active_begun (begun.distinct k ss) = yes
takes_active_begun (begun.float l k ss) = yes
takes_active_begun (begun.essential l k ss) = yes
takes_active_begun (begun.asserted l k ss) = yes
takes_active_begun (begun.theorem l k ss) = yes
takes_active_begun (begun.proof l k ss q ts) = no

-- of the symbols so far
module _ (ss : List Symbol) where
  abbrev count : ℕ
  count = length (numbers ss)

  counted : count ≡ length ss
  counted = length-map ss (λ (s : Symbol). s.number)

  count_is : (n : ℕ) → Decides (nat_eq count n) (length ss ≡ n)
  count_is n = Decides-at (nat_eq count n) (nat_eq (length ss) n) (ap (λ k. nat_eq k n) counted) (Decides-eqb (length ss) n)

  fewer_than : (n : ℕ) → Decides (nat_lt count n) (length ss < n)
  fewer_than n = Decides-at (nat_lt count n) (nat_lt (length ss) n) (ap (λ k. nat_lt k n) counted) (Decides-ltb (length ss) n)

  more_than : (n : ℕ) → Decides (nat_lt n count) (n < length ss)
  more_than n = Decides-at (nat_lt n count) (nat_lt n (length ss)) (ap (λ k. nat_lt n k) counted) (Decides-ltb n (length ss))

  full : Decides (not (nat_lt count most_symbols)) (most_symbols ≤ length ss)
  full = Decides-like (not (nat_lt count most_symbols)) (no_fewer (length ss)) (λ h g. absurd (omega (arith, h, g))) (Decides-not (nat_lt count most_symbols) (fewer_than most_symbols))
    where
      no_fewer : (k : ℕ) → ¬ (k < most_symbols) → most_symbols ≤ k
      no_fewer k h = elim (cases_lt k most_symbols) [ inl less ↦ absurd (h less) | inr more ↦ more ]

module _ (bytes : List ℕ) (past : List Event) (n : Noted) where
  abbrev t : List ℕ
  t = text_at bytes n

  abbrev w : Word
  w = word_of (text_at bytes n)

  abbrev a : Answers
  a = look_back past (text_at bytes n)

  redeclared_here : (b : Beginning) → Decides (redeclared (length (numbers (symbols_begun b))) a (mode_of b)) (IsRedeclared past b t)
  redeclared_here begun.nothing = no
  redeclared_here (begun.label l) = no
  redeclared_here (begun.constants k ss) = Decides-or a.known a.label (known_text past t) (label_text past t)
  redeclared_here (begun.variables k ss) = Decides-or (a.constant || a.active) a.label (active_text past t) (label_text past t)
  redeclared_here (begun.distinct k ss) = no
  redeclared_here (begun.float l k ss) = no
  redeclared_here (begun.essential l k ss) = no
  redeclared_here (begun.asserted l k ss) = no
  redeclared_here (begun.theorem l k ss) = no
  redeclared_here (begun.proof l k ss q ts) = no

  -- the keyword that fits, too early
  early : (ss : List Symbol) → Decides (is_end w && nat_eq (length (numbers ss)) 0) ((t ≡ codes "$.") × (length ss ≡ 0))
  early ss = Decides-and (is_end w) _ (end_text t) (count_is ss 0)

  first_variable_here : (ss : List Symbol) → Decides (is_plain w && first_variable (length (numbers ss)) a) ((nat_eq (slice_index t 0) 36 ≡ false) × ((length ss ≡ 0) × IsVariableText past t))
  first_variable_here ss = Decides-and (is_plain w) _ (plain_text t) (Decides-and _ a.active (count_is ss 0) (variable_text past t))

  in_expression_here : (ss : List Symbol) → Decides (misplaced (length (numbers ss)) a mode.Essential w)
      (IsOther (codes "$.") t ⊎ (((t ≡ codes "$.") × (length ss ≡ 0)) ⊎ ((nat_eq (slice_index t 0) 36 ≡ false) × ((length ss ≡ 0) × IsVariableText past t))))
  in_expression_here ss = Decides-or _ _ (other_text t) (Decides-or _ _ (early ss) (first_variable_here ss))

  misplaced_here : (b : Beginning) → Decides (misplaced (length (numbers (symbols_begun b))) a (mode_of b) w) (IsMisplaced bytes past b n)
  misplaced_here begun.nothing = inner_text t
  misplaced_here (begun.label l) = Decides-or _ _ (plain_text t) (inner_text t)
  misplaced_here (begun.constants k ss) = Decides-or _ _ (other_text t) (early ss)
  misplaced_here (begun.variables k ss) = Decides-or _ _ (other_text t) (early ss)
  misplaced_here (begun.distinct k ss) = other_text t
  misplaced_here (begun.float l k ss) =
      Decides-or _ _ (other_text t) (Decides-or _ _ (Decides-and (is_end w) _ (end_text t) (Decides-not _ (count_is ss 2)))
      (Decides-and (is_plain w) _ (plain_text t) (Decides-or _ _ (Decides-and _ a.active (count_is ss 0) (variable_text past t))
      (Decides-or _ _ (Decides-and _ a.constant (count_is ss 1) (constant_text past t)) (more_than ss 1)))))
  misplaced_here (begun.essential l k ss) = in_expression_here ss
  misplaced_here (begun.asserted l k ss) = in_expression_here ss
  misplaced_here (begun.theorem l k ss) =
      Decides-or _ _ (other_than_equals t) (Decides-or _ _ (Decides-and (is_equals w) _ (equals_text t) (count_is ss 0)) (first_variable_here ss))
  misplaced_here (begun.proof l k ss q ts) = other_text t

  float_repeated_here : (b : Beginning) → Decides (float_repeated (length (numbers (symbols_begun b))) a (mode_of b)) (IsFloatRepeated past b t)
  float_repeated_here (begun.float l k ss) = Decides-and _ a.floated (count_is ss 1) (floated_text past t)
  float_repeated_here begun.nothing = no
  float_repeated_here (begun.label l) = no
  float_repeated_here (begun.constants k ss) = no
  float_repeated_here (begun.variables k ss) = no
  float_repeated_here (begun.distinct k ss) = no
  float_repeated_here (begun.essential l k ss) = no
  float_repeated_here (begun.asserted l k ss) = no
  float_repeated_here (begun.theorem l k ss) = no
  float_repeated_here (begun.proof l k ss q ts) = no

  no_parting_here : (b : Beginning) → Decides (no_parting (length (numbers (symbols_begun b))) a (mode_of b) w (list_any (nat_eq a.number) (numbers (symbols_begun b)))) (IsNoParting bytes past b n)
  no_parting_here (begun.distinct k ss) =
      Decides-or _ _ (Decides-and (is_end w) _ (end_text t) (fewer_than ss 2))
      (Decides-and (is_plain w) _ (plain_text t) (Decides-or a.constant _ (constant_text past t) (there_text past t (numbers ss))))
  no_parting_here begun.nothing = no
  no_parting_here (begun.label l) = no
  no_parting_here (begun.constants k ss) = no
  no_parting_here (begun.variables k ss) = no
  no_parting_here (begun.float l k ss) = no
  no_parting_here (begun.essential l k ss) = no
  no_parting_here (begun.asserted l k ss) = no
  no_parting_here (begun.theorem l k ss) = no
  no_parting_here (begun.proof l k ss q ts) = no

  too_long_here : (b : Beginning) → Decides (too_long (length t) (not (nat_lt (length (numbers (symbols_begun b))) most_symbols)) (mode_of b)) (IsTooLong b t)
  too_long_here begun.nothing = Decides-ltb 255 (length t)
  too_long_here (begun.label l) = no
  too_long_here (begun.constants k ss) = full ss
  too_long_here (begun.variables k ss) = full ss
  too_long_here (begun.distinct k ss) = full ss
  too_long_here (begun.float l k ss) = no
  too_long_here (begun.essential l k ss) = full ss
  too_long_here (begun.asserted l k ss) = full ss
  too_long_here (begun.theorem l k ss) = full ss
  too_long_here (begun.proof l k ss q ts) = no

  pub cause_decided : (b : Beginning) (f : ReadFault) → Decides (holds (mode_of b) (numbers (symbols_begun b)) a w t f) (IsCause bytes past b n f)
  cause_decided b (fault.UnknownKeyword p) = unknown_text t
  cause_decided b (fault.FileInclusion p) = inclusion_text t
  cause_decided b (fault.BadLabel p) = Decides-and (is_plain w) _ (plain_text t) (Decides-and _ _ (takes_label_begun b) (itself (is_bad_label t)))
  cause_decided b (fault.BadSymbol p) = Decides-and (is_plain w) _ (plain_text t) (Decides-and _ _ (in_declaration_begun b) (itself (is_bad_symbol t)))
  cause_decided b (fault.Redeclared p) = Decides-and (is_plain w) _ (plain_text t) (redeclared_here b)
  cause_decided b (fault.NotActive p) = Decides-and (is_plain w) _ (plain_text t) (Decides-and _ _ (takes_active_begun b) (Decides-not _ (active_text past t)))
  cause_decided b (fault.ConstantInBlock p) = Decides-and (is_constants w) _ (constants_text t) (Decides-and _ _ (takes_keyword_begun b) (deep_text past t))
  cause_decided b (fault.LabelUsed p) = Decides-and (is_plain w) _ (plain_text t) (Decides-and _ _ (takes_label_begun b) (Decides-or a.label a.known (label_text past t) (known_text past t)))
  cause_decided b (fault.LabelMissing p) = Decides-and (is_labelled w) _ (labelled_text t) (takes_label_begun b)
  cause_decided b (fault.LabelNotWanted p) = Decides-and (is_unlabelled w) _ (unlabelled_text t) (has_label_begun b)
  cause_decided b (fault.WrongForm p) = misplaced_here b
  cause_decided b (fault.FloatRepeated p) = Decides-and (is_plain w) _ (plain_text t) (float_repeated_here b)
  cause_decided b (fault.NoFloat p) =
      Decides-and (is_plain w) _ (plain_text t) (Decides-and _ _ (in_expression_begun b) (Decides-and a.active _ (variable_text past t) (Decides-not a.floated (floated_text past t))))
  cause_decided b (fault.DistinctForm p) = no_parting_here b
  cause_decided b (fault.BlockNotOpen p) = Decides-and (is_close w) _ (close_text t) (Decides-and _ _ (takes_keyword_begun b) (flat_text past t))
  cause_decided b (fault.TooLong p) = Decides-and (is_plain w) _ (plain_text t) (too_long_here b)
  cause_decided b (fault.BadByte p) = no
  cause_decided b (fault.CommentOpen p) = no
  cause_decided b (fault.BlockOpen p) = no
  cause_decided b (fault.NotClosed p) = no
  cause_decided b fault.Memory = no
