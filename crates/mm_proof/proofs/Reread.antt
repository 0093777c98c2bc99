-- A normal proof that is written is read as the steps of its tree.
use Rattle.std.proofs.Common.{◌≡◌, ◌<◌, ℕ, zero, suc, ◌+◌, ◌-◌, Bool, true, false, cond, not, ◌||◌, eqb, nat_lt, nat_le, List, [], ◌∷◌, ◌++◌, length, map, take, drop, Option, None, Some, Ok, Err, refl, sym, ap, ◌∙◌, arith}
use Rattle.std.specs.List.{AllByRecursion, list_any}
use Rattle.std.specs.Str.{bytes_eq}
use Rattle.std.proofs.lemmas.Bool.{true≢false}
use Rattle.std.proofs.lemmas.Bool.Decides.{nat_tests, Decides-eqb}
use Rattle.std.proofs.lemmas.Grind.{common_steps}
use Rattle.std.proofs.lemmas.List.{take_all, drop_all}
use Rattle.std.proofs.lemmas.List.Elements.{All-from_recursion}
use Rattle.std.proofs.lemmas.Slice.Eq.{bytes_eq-Decides}
use Rattle.mm_layout.specs.Words.{is_word_byte, IsWord}
use Rattle.mm_layout.proofs.Returned.{tokens_returned}
use Rattle.mm_tokens.specs.Pieces.{pieces_of, tokens_in}
use Rattle.mm_tokens.specs.Words.{is_label_byte, is_bad_label}
use Rattle.mm_tokens.specs.declared.pieces.Token.{Token}
use Rattle.mm_scope.specs.Contents.{stated_at}
use Rattle.mm_stated.specs.Stated.{is_hypothesis}
use Rattle.mm_stated.specs.declared.statement.Kind.{Kind}
use Rattle.mm_stated.specs.declared.statement.Kind.TheVariants as statement
use Rattle.mm_proof.specs.Compacting.{named}
use Rattle.mm_proof.specs.Decoding.{steps_from, normal, compressed, begins_list, spelled}
use Rattle.mm_proof.specs.Encoding.{word_of, kind_of, normal_proof}
use Rattle.mm_proof.specs.Faults.{after}
use Rattle.mm_proof.specs.Folding.{onward, has_enough, kept, joined, reduced, built, Folded, nothing, pushed, fold_step, folded, fold}
use Rattle.mm_proof.specs.Forests.{arity_of, plain, plain_steps, trees_in}
use Rattle.mm_proof.specs.Labels.{text_of, is_active, hypothesis, assertion, step_by, labelled, named_of, step_of}
use Rattle.mm_proof.specs.Reading.{unless_empty}
use Rattle.mm_proof.specs.Standing.{MayStand, MayProve, normal_steps}
use Rattle.mm_proof.specs.Steps.{untagged}
use Rattle.mm_proof.specs.Trees.{Tree, none, tree, trees_of, postorder}
use Rattle.mm_proof.specs.declared.fault.ProofFault.TheVariants.{HypothesisNotActive, NotEarlier}
use Rattle.mm_proof.specs.declared.step.StepKind.TheVariants as kind
use Rattle.mm_proof.specs.declared.written.Step.TheVariants.{Label, Unknown}
use Rattle.mm_proof.proofs.Folds.{built_whole}
use Rattle.mm_proof.proofs.Shaped.{arity_none}

neither : (a b : Bool) → (a || b) ≡ false → (a ≡ false) × (b ≡ false)
neither true b h = absurd (true≢false h)
neither false b h = (refl, h)

not_false : (b : Bool) → not b ≡ false → b ≡ true
not_false true h = refl
not_false false h = absurd (true≢false h)

graphic_label : (b : ℕ) → is_label_byte b ≡ true → is_word_byte b ≡ true
graphic_label b h = grind (arith, common_steps, h)

label_bytes : (t : List ℕ) → list_any (λ b. not (is_label_byte b)) t ≡ false → AllByRecursion (λ b. is_word_byte b ≡ true) t
label_bytes [] h = tt
label_bytes (b ∷ bs) h =
    let w : (not (is_label_byte b) ≡ false) × (list_any (λ c. not (is_label_byte c)) bs ≡ false) = neither (not (is_label_byte b)) (list_any (λ c. not (is_label_byte c)) bs) h in
    (graphic_label b (not_false (is_label_byte b) w.0), label_bytes bs w.1)

label_word : (t : List ℕ) → is_bad_label t ≡ false → 0 < length t → IsWord t
unfolding is_bad_label
label_word t fit some = record { some = some; bytes = All-from_recursion (λ b. is_word_byte b ≡ true) t (label_bytes t fit) }

-- what is written for a label is a word
pub word_is : (bytes : List ℕ) (at l : ℕ) → MayStand bytes at l → IsWord (word_of bytes l)
unfolding word_of
word_is bytes at zero h = record { some = omega arith; bytes = All-from_recursion (λ b. is_word_byte b ≡ true) (63 ∷ []) (refl, tt) }
word_is bytes at (suc n) h = label_word (word_of bytes (suc n)) h.fit h.some

words_are : (bytes : List ℕ) (at : ℕ) (ls : List ℕ) → AllByRecursion (MayStand bytes at) ls → AllByRecursion IsWord (map (word_of bytes) ls)
words_are bytes at [] h = tt
words_are bytes at (l ∷ ls) h = (word_is bytes at l h.0, words_are bytes at ls h.1)

-- no label is `?` or `(`
pub other_by : (text mark : List ℕ) (b : Bool) → is_bad_label mark ≡ true → bytes_eq text mark ≡ b → is_bad_label text ≡ false → b ≡ false
other_by text mark true bad e fit = absurd (true≢false (sym bad ∙ sym (ap is_bad_label ((bytes_eq-Decides text mark).0 e)) ∙ fit))
other_by text mark false bad e fit = refl

bad_query : is_bad_label (63 ∷ []) ≡ true
unfolding is_bad_label
bad_query = refl

bad_open : is_bad_label (40 ∷ []) ≡ true
unfolding is_bad_label
bad_open = refl

not_open : (bytes : List ℕ) (at l : ℕ) → MayStand bytes at l → bytes_eq (word_of bytes l) (40 ∷ []) ≡ false
unfolding word_of
not_open bytes at zero h = refl
not_open bytes at (suc n) h = other_by (word_of bytes (suc n)) (40 ∷ []) (bytes_eq (word_of bytes (suc n)) (40 ∷ [])) bad_open refl h.fit

-- a statement that may stand is the step for it
step_by_kind : (bytes : List ℕ) (at k n : ℕ) (kd : Kind) → cond (is_hypothesis kd) (is_active bytes at n) (nat_lt n at) ≡ true → step_by bytes at k n kd ≡ Ok (cond (is_hypothesis kd) (hypothesis n) (assertion n))
step_by_kind bytes at k n statement.Float h = ap (λ b. cond b (Ok (hypothesis n)) (Err (HypothesisNotActive k))) h
step_by_kind bytes at k n statement.Essential h = ap (λ b. cond b (Ok (hypothesis n)) (Err (HypothesisNotActive k))) h
step_by_kind bytes at k n statement.Axiom h = ap (λ b. cond b (Ok (assertion n)) (Err (NotEarlier k))) h
step_by_kind bytes at k n statement.Theorem h = ap (λ b. cond b (Ok (assertion n)) (Err (NotEarlier k))) h

pub named_word : (bytes : List ℕ) (at k n : ℕ) → MayStand bytes at (suc n) → named_of bytes at k (word_of bytes (suc n)) ≡ Ok (kind_of bytes (suc n))
unfolding named_of kind_of
named_word bytes at k n h = ap (labelled bytes at k) h.found ∙ step_by_kind bytes at k n (stated_at bytes n).kind h.stands

spells_step : (bytes : List ℕ) (at k l : ℕ) → MayStand bytes at l → step_of bytes at k (word_of bytes l) ≡ Ok (kind_of bytes l)
unfolding step_of word_of kind_of
spells_step bytes at k zero h = refl
spells_step bytes at k (suc n) h =
    ap (λ b. cond b (Ok kind.Unknown) (named_of bytes at k (word_of bytes (suc n)))) (other_by (word_of bytes (suc n)) (63 ∷ []) (bytes_eq (word_of bytes (suc n)) (63 ∷ [])) bad_query refl h.fit)
    ∙ named_word bytes at k n h

unfoldable pub tail : List (List ℕ) → List (List ℕ)
tail [] = []
tail (x ∷ xs) = xs

unfoldable pub head : List (List ℕ) → List ℕ
head [] = []
head (x ∷ xs) = x

spells_tokens : (bytes : List ℕ) (at : ℕ) (proof : List ℕ) (k : ℕ) (ts : List Token) (ls : List ℕ) → AllByRecursion (MayStand bytes at) ls → map (text_of proof) ts ≡ map (word_of bytes) ls
    → steps_from bytes at proof k ts ≡ Ok (map (λ l. untagged (kind_of bytes l)) ls)
unfolding steps_from head tail
spells_tokens bytes at proof k [] [] h e = refl
spells_tokens bytes at proof k [] (l ∷ ls) h e = absurd (omega (arith, ap length e))
spells_tokens bytes at proof k (t ∷ ts) [] h e = absurd (omega (arith, ap length e))
spells_tokens bytes at proof k (t ∷ ts) (l ∷ ls) h e =
    ap (λ r. after r (λ s. after (steps_from bytes at proof (k + 1) ts) (λ ss. Ok (untagged s ∷ ss)))) (ap (step_of bytes at k) (ap head e) ∙ spells_step bytes at k l h.0)
    ∙ ap (λ r. after r (λ ss. Ok (untagged (kind_of bytes l) ∷ ss))) (spells_tokens bytes at proof (k + 1) ts ls h.1 (ap tail e))

begins_no : (bytes : List ℕ) (at : ℕ) (proof : List ℕ) (ts : List Token) (ls : List ℕ) → AllByRecursion (MayStand bytes at) ls → map (text_of proof) ts ≡ map (word_of bytes) ls → begins_list proof ts ≡ false
unfolding head
begins_no bytes at proof [] ls h e = refl
begins_no bytes at proof (t ∷ ts) [] h e = absurd (omega (arith, ap length e))
begins_no bytes at proof (t ∷ ts) (l ∷ ls) h e = ap (λ x. bytes_eq x (40 ∷ [])) (ap head e) ∙ not_open bytes at l h.0

some_step : (bytes : List ℕ) (xs : List ℕ) (l : ℕ) → unless_empty (map (λ l. untagged (kind_of bytes l)) (xs ++ l ∷ [])) ≡ Ok (map (λ l. untagged (kind_of bytes l)) (xs ++ l ∷ []))
some_step bytes [] l = refl
some_step bytes (x ∷ xs) l = refl

-- the text of a normal proof spells the steps of its tree
pub normal_reads : (bytes : List ℕ) (at from : ℕ) (t : Tree) → MayProve bytes at t → spelled bytes at from (normal_proof bytes t) ≡ Ok (normal_steps bytes t)
unfolding spelled
normal_reads bytes at from t h =
    let ls = postorder (trees_of (t ∷ [])) in
    let proof = normal_proof bytes t in
    let tokens = tokens_in (pieces_of proof) in
    let texts : map (text_of proof) tokens ≡ map (word_of bytes) ls = tokens_returned (map (word_of bytes) ls) (All-from_recursion IsWord (map (word_of bytes) ls) (words_are bytes at ls h.labels)) in
    ap (λ b. cond b (compressed bytes at from proof (drop 1 tokens)) (normal bytes at proof tokens)) (begins_no bytes at proof tokens ls h.labels texts)
    ∙ ap (λ r. after r unless_empty) (spells_tokens bytes at proof 1 tokens ls h.labels texts)
    ∙ some_step bytes (postorder t.children) t.label

-- labels in postorder fold as they build
abbrev stack_of : Option Folded → Option (List Tree)
stack_of o = onward o (λ f. Some f.stack)

leaf_reduced : (arity : ℕ → ℕ) (stack : List Tree) → arity 0 ≡ 0 → reduced arity stack 0 ≡ Some (stack ++ tree 0 none ∷ [])
leaf_reduced arity stack z =
    let n : length stack - arity 0 ≡ length stack = omega arith in
    let yes : nat_le (arity 0) (length stack) ≡ true = grind (arith, nat_tests) in
    ap (λ b. cond b (Some (kept arity stack 0 ++ joined arity stack 0 ∷ [])) None) yes
    ∙ ap (λ m. Some (take m stack ++ tree 0 (trees_of (drop m stack)) ∷ [])) n
    ∙ ap (λ x. Some (x ++ tree 0 (trees_of (drop (length stack) stack)) ∷ [])) (take_all (length stack) stack (omega arith))
    ∙ ap (λ x. Some (stack ++ tree 0 (trees_of x) ∷ [])) (drop_all (length stack) stack (omega arith))

step_built : (arity : ℕ → ℕ) (f : Folded) (l : ℕ) (b : Bool) → arity 0 ≡ 0 → eqb l 0 ≡ b → stack_of (fold_step arity f (cond b Unknown (Label l))) ≡ reduced arity f.stack l
step_built arity f l true z e = sym (ap (reduced arity f.stack) ((Decides-eqb l 0).0 e) ∙ leaf_reduced arity f.stack z)
step_built arity f l false z e = by (has_enough arity f.stack l)
  where
    by : (c : Bool) → stack_of (cond c (Some (pushed f (kept arity f.stack l) (joined arity f.stack l))) None) ≡ cond c (Some (kept arity f.stack l ++ joined arity f.stack l ∷ [])) None
    by true = refl
    by false = refl

folds_built : (arity : ℕ → ℕ) (ls : List ℕ) (f : Folded) → arity 0 ≡ 0 → stack_of (folded arity f (map named ls)) ≡ built arity f.stack ls
unfolding folded built
folds_built arity [] f z = refl
folds_built arity (l ∷ ls) f z = by (fold_step arity f (named l)) (λ g. folds_built arity ls g z) ∙ ap (λ o. onward o (λ next. built arity next ls)) (step_built arity f l (eqb l 0) z refl)
  where
    by : (o : Option Folded) → ((g : Folded) → stack_of (folded arity g (map named ls)) ≡ built arity g.stack ls) → stack_of (onward o (λ g. folded arity g (map named ls))) ≡ onward (stack_of o) (λ next. built arity next ls)
    by None h = refl
    by (Some g) h = h g

plain_named : (bytes : List ℕ) (l : ℕ) → plain (kind_of bytes l) ≡ named l
unfolding kind_of
plain_named bytes zero = refl
plain_named bytes (suc n) = by (is_hypothesis (stated_at bytes n).kind) ∙ ap (λ b. cond b Unknown (Label (suc n))) (sym no)
  where
    more_is : n + 1 ≡ suc n
    more_is = omega arith

    no : eqb (suc n) 0 ≡ false
    no = grind (arith, nat_tests)

    by : (b : Bool) → plain (cond b (kind.Hyp (record { 0 = n })) (kind.Apply (record { 0 = n }))) ≡ Label (suc n)
    by true = ap Label more_is
    by false = ap Label more_is

plain_steps_named : (bytes : List ℕ) (ls : List ℕ) → plain_steps (map (λ l. untagged (kind_of bytes l)) ls) ≡ map named ls
plain_steps_named bytes [] = refl
plain_steps_named bytes (l ∷ ls) = ap (λ x. x ∷ plain_steps (map (λ l. untagged (kind_of bytes l)) ls)) (plain_named bytes l) ∙ ap (λ x. named l ∷ x) (plain_steps_named bytes ls)

-- the steps of a normal proof fold to its tree
pub normal_folds : (bytes : List ℕ) (at : ℕ) (t : Tree) → MayProve bytes at t → trees_in bytes (normal_steps bytes t) ≡ Some (t ∷ [])
normal_folds bytes at t h =
    ap (fold (arity_of bytes)) (plain_steps_named bytes (postorder (trees_of (t ∷ []))))
    ∙ folds_built (arity_of bytes) (postorder (trees_of (t ∷ []))) nothing (arity_none bytes)
    ∙ built_whole (arity_of bytes) t h.whole
