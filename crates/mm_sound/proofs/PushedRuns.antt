-- A run of the machine, and the trees of what it pushes.
use Rattle.std.proofs.Common.{◌≡◌, ◌≤◌, ◌<◌, ◌-◌, ◌+◌, ℕ, zero, suc, Bool, true, false, not, nat_eq, nat_lt, nat_le, List, [], ◌∷◌, ◌++◌, map, length, take, drop, slice_get, None, Some, Result, Ok, Err, refl, sym, ap, ◌∙◌, subst, arith, add-one, length-append, if◌then◌else◌, All}
use Rattle.std.proofs.lemmas.Bool.{false≢true}
use Rattle.std.proofs.lemmas.List.{length-map, drop_at, take_all, drop_all}
use Rattle.std.proofs.lemmas.List.Elements.{All-weaker}
use Rattle.std.specs.List.{list_any, list_all, AllByRecursion as ByRecursion}
use Rattle.mm_scope.specs.Contents.{stated_at, statements_of}
use Rattle.mm_scope.specs.Laws.{AllDiffer}
use Rattle.mm_stated.specs.Mandatory.{variables_of}
use Rattle.mm_stated.specs.Stated.{Stated, is_hypothesis}
use Rattle.mm_subst.specs.Statements.{symbol_of, statement_of}
use Rattle.mm_subst.specs.declared.symbol.WSym.{WSym}
use Rattle.mm_stack.specs.Entries.{result_at}
use Rattle.mm_stack.specs.Laws.{AreDifferent, hypotheses_of}
use Rattle.mm_stack.specs.Running.{Progress, start, pushing, after, unless, most_symbols, run_step, run_from, run}
use Rattle.mm_stack.specs.Running as machine
use Rattle.mm_stack.specs.Substitution.{value_of, instance}
use Rattle.mm_stack.specs.declared.outcome.StackFault.{StackFault}
use Rattle.mm_stack.specs.declared.outcome.Verdict.{Verdict}
use Rattle.mm_stack.proofs.Substituting.{applied_substitutes}
use Rattle.mm_plain.specs.Premises.{premise_ids, may_stand}
use Rattle.mm_plain.specs.Valid.{Setting}
use Rattle.mm_plain.proofs.Forms.{string_of_statement}
use Rattle.mm_proof.specs.Folding.{onward, has_enough, kept, joined, pushed, fold_step, folded, Folded, nothing}
use Rattle.mm_proof.specs.Forests.{arity_of, plain, plain_steps, trees_in}
use Rattle.mm_proof.specs.Trees.{Tree, tree, trees_of}
use Rattle.mm_proof.specs.declared.step.ProofStep.{ProofStep}
use Rattle.mm_proof.specs.declared.step.StepKind.{StepKind}
use Rattle.mm_proof.specs.declared.step.StepKind.TheVariants.{Hyp, Apply, Back, Unknown}
use Rattle.mm_sound.specs.Pushed.{pushed_over, pushed_trees, pushed_tree}
use Rattle.mm_sound.specs.Substituted.{substituted_at, going_on, substituted_from}
use Rattle.mm_sound.proofs.Fitting.{Fits, Points, AllFit}
use Rattle.mm_sound.proofs.Paired.{is_key, pairs_among_keys}
use Rattle.mm_sound.proofs.PushedValues.{floats, variables_are, apart, text, value_in, values_pass}
use Rattle.mm_sound.proofs.PushedSteps.{Stands, StandAll, StepsBy, Steps, tree_stands}

-- the ids of the premises
ids_by : (b : Bool) (ms : List ℕ) → length (if b then [] else ms) ≡ (if b then 0 else length ms)
ids_by true ms = refl
ids_by false ms = refl

arity_is : (bytes : List ℕ) (l : ℕ) → arity_of bytes (suc l) ≡ length (premise_ids bytes l)
unfolding arity_of premise_ids
arity_is bytes l = sym (ids_by (is_hypothesis (stated_at bytes l).kind) (stated_at bytes l).mandatory)

ids_none : (bytes : List ℕ) (l : ℕ) → is_hypothesis (stated_at bytes l).kind ≡ true → premise_ids bytes l ≡ []
unfolding premise_ids
ids_none bytes l e = ap (λ b. if b then [] else (stated_at bytes l).mandatory) e

ids_all : (bytes : List ℕ) (l : ℕ) → is_hypothesis (stated_at bytes l).kind ≡ false → premise_ids bytes l ≡ (stated_at bytes l).mandatory
unfolding premise_ids
ids_all bytes l e = ap (λ b. if b then [] else (stated_at bytes l).mandatory) e

-- the trees of a list of label trees
trees_are : (bytes : List ℕ) (ts : List Tree) → pushed_trees bytes (trees_of ts) ≡ map (pushed_tree bytes) ts
unfolding pushed_trees pushed_tree
trees_are bytes [] = refl
trees_are bytes (t ∷ ts) = ap (λ xs. pushed_over bytes t.label (pushed_trees bytes t.children) ∷ xs) (trees_are bytes ts)

tree_over : (bytes : List ℕ) (l : ℕ) (ts : List Tree) → pushed_tree bytes (tree l (trees_of ts)) ≡ pushed_over bytes l (map (pushed_tree bytes) ts)
unfolding pushed_tree
tree_over bytes l ts = ap (pushed_over bytes l) (trees_are bytes ts)

-- ## What an assertion pops and pushes

-- a check that did not hold
unless_ok : {A : Type 0} (b : Bool) (o : Verdict) (r : Result A Verdict) (x : A) → (if b then Err o else r) ≡ Ok x → (b ≡ false) × (r ≡ Ok x)
unless_ok true o r x h = absurd (cc)
unless_ok false o r x h = (refl, h)

no_violation : {A : Type 0} (fs : List StackFault) (cs : List (Bool × StackFault)) (r : Result A Verdict) (x : A)
    → unless (map (λ g. (true, g)) fs ++ cs) r ≡ Ok x → unless cs r ≡ Ok x
no_violation [] cs r x h = h
no_violation (g ∷ gs) cs r x h = absurd (cc)

not_above : (a b : ℕ) → nat_lt a b ≡ false → b ≤ a
not_above a b h = grind arith

ok_same : (s t : List (List ℕ)) → (let r : Result (List (List ℕ)) Verdict = Ok s in r) ≡ Ok t → t ≡ s
ok_same s t e = cc

record Passes (bytes : List ℕ) (a : Stated) (stack next : List (List ℕ)) : Type 0 where
  room : length a.mandatory ≤ length stack
  short : length (machine.conclusion_at bytes a stack) ≤ most_symbols
  after : next ≡ take (machine.kept a stack) stack ++ machine.conclusion_at bytes a stack ∷ []

passes : (bytes : List ℕ) (groups : List (List ℕ)) (a : Stated) (stack next : List (List ℕ)) (k : ℕ) → machine.applied bytes groups a stack k ≡ Ok next → Passes bytes a stack next
unfolding machine.applied
passes bytes groups a stack next k h =
    let args = machine.popped bytes a stack in
    let value = machine.values_at bytes a stack in
    let first = unless_ok (nat_lt (length stack) (length a.mandatory)) _ _ next h in
    let second = unless_ok (not (list_all machine.has_typecode args)) _ _ next first.1 in
    let third = unless_ok (not (list_all (machine.is_instance value) args)) _ _ next second.1 in
    let fourth = unless_ok (nat_lt most_symbols (length (machine.conclusion_at bytes a stack))) _ _ next (no_violation (machine.violations_at bytes groups a stack k) _ _ next third.1) in
    record {
      room = not_above (length stack) (length a.mandatory) first.0;
      short = not_above most_symbols (length (machine.conclusion_at bytes a stack)) fourth.0;
      after = ok_same (take (machine.kept a stack) stack ++ machine.conclusion_at bytes a stack ∷ []) next fourth.1;
    }

length_instances : (bytes : List ℕ) (f : Stated → List ℕ) (ms : List ℕ) → length (map f (map (stated_at bytes) ms)) ≡ length ms
length_instances bytes f ms = length-map (map (stated_at bytes) ms) f ∙ length-map ms (stated_at bytes)

alone : (ss : List ℕ) → instance (value_of []) ss ≡ ss
alone [] = refl
alone (n ∷ ns) = ap (λ xs. n ∷ xs) (alone ns)

module _ (c : Setting) (groups : List (List ℕ)) (test : List WSym → Bool) where
  -- these values pass the test
  abbrev pub Pass : List (List ℕ) → Type 0
  Pass vs = ByRecursion (λ v. test (text c.bytes v) ≡ true) vs

  -- an assertion
  assertion_steps : (l k : ℕ) (stack next : List (List ℕ)) → AllDiffer (variables_of (statements_of c.bytes) (stated_at c.bytes l).mandatory) → is_hypothesis (stated_at c.bytes l).kind ≡ false → may_stand c.bytes c.at l ≡ true
      → Pass (map (λ b. b.value) (machine.substitution_at c.bytes (stated_at c.bytes l) stack)) → machine.applied c.bytes groups (stated_at c.bytes l) stack k ≡ Ok next
      → StepsBy c groups test l (stated_at c.bytes l).mandatory (drop (length stack - length (stated_at c.bytes l).mandatory) stack) (machine.conclusion_at c.bytes (stated_at c.bytes l) stack)
  assertion_steps l k stack next differ is may sure h =
      let a : Stated = stated_at c.bytes l in
      let ms : List ℕ = a.mandatory in
      let p = passes c.bytes groups a stack next k h in
      let w = applied_substitutes c.bytes groups a stack next k (apart c.bytes ms differ) h in
      let left : List (List ℕ) = w.left in
      let es : List (List ℕ) = map (λ h. instance (value_of w.sigma) h.symbols) (hypotheses_of c.bytes a) in
      let many : length es ≡ length ms = length_instances c.bytes (λ h. instance (value_of w.sigma) h.symbols) ms in
      let at_left : length left ≡ length stack - length ms = omega (arith, ap (λ (q : List (List ℕ)). length q) w.before, length-append left es, many, p.room) in
      let newest : drop (length stack - length ms) stack ≡ es = ap (drop (length stack - length ms)) w.before ∙ drop_at left es (length stack - length ms) at_left in
      record {
        stands = may;
        many = sym (ap (λ (q : List (List ℕ)). length q) newest ∙ many);
        entries = ap (λ s. map (λ h. instance (value_of s) h.symbols) (hypotheses_of c.bytes a)) (sym w.own) ∙ sym newest;
        gives = refl;
        short = p.short;
        distinct = subst (λ s. All (λ p. AreDifferent c.bytes groups (value_of s p.0) (value_of s p.1)) a.pairs) w.own w.distinct;
        pass = values_pass test c.bytes ms (drop (length stack - length ms) stack) sure;
      }

  -- a hypothesis
  no_key : (l v : ℕ) → is_hypothesis (stated_at c.bytes l).kind ≡ true → is_key c.bytes l v ≡ false
  no_key l v is = ap (λ (vs : List ℕ). list_any (λ n. nat_eq v n) vs) (variables_are c.bytes l ∙ ap (floats c.bytes) (ids_none c.bytes l is))

  statement_short : (l : ℕ) → length (stated_at c.bytes l).symbols ≤ most_symbols
  unfolding statement_of
  statement_short l = omega (arith, (string_of_statement c l).short, length-map (stated_at c.bytes l).symbols (symbol_of c.bytes))

  hypothesis_steps : (l : ℕ) → is_hypothesis (stated_at c.bytes l).kind ≡ true → may_stand c.bytes c.at l ≡ true → StepsBy c groups test l [] [] (stated_at c.bytes l).symbols
  hypothesis_steps l is may = record {
    stands = may;
    many = refl;
    entries = refl;
    gives = alone (stated_at c.bytes l).symbols;
    short = statement_short l;
    distinct = All-weaker (λ p. (is_key c.bytes l p.0 ≡ true) × (is_key c.bytes l p.1 ≡ true)) (λ p. AreDifferent c.bytes groups (value_in c.bytes [] [] p.0) (value_in c.bytes [] [] p.1)) (λ p h. absurd (false≢true (sym (no_key l p.0 is) ∙ h.0))) (stated_at c.bytes l).pairs (pairs_among_keys c.bytes l);
    pass = tt;
  }

  -- ## Label trees, and the entries of their trees
  abbrev pub Match : List Tree → List (List ℕ) → Type 0
  Match [] [] = Unit {0}
  Match [] (e ∷ es) = ⊥
  Match (t ∷ ts) [] = ⊥
  Match (t ∷ ts) (e ∷ es) = Stands c groups test (pushed_tree c.bytes t) e × Match ts es

  same_many : (ts : List Tree) (es : List (List ℕ)) → Match ts es → length ts ≡ length es
  same_many [] [] h = refl
  same_many [] (e ∷ es) h = absurd h
  same_many (t ∷ ts) [] h = absurd h
  same_many (t ∷ ts) (e ∷ es) h = ap suc (same_many ts es h.1)

  match_more : (ts : List Tree) (es : List (List ℕ)) (t : Tree) (e : List ℕ) → Match ts es → Stands c groups test (pushed_tree c.bytes t) e → Match (ts ++ t ∷ []) (es ++ e ∷ [])
  match_more [] [] t e h w = (w, tt)
  match_more [] (f ∷ fs) t e h w = absurd h
  match_more (u ∷ us) [] t e h w = absurd h
  match_more (u ∷ us) (f ∷ fs) t e h w = (h.0, match_more us fs t e h.1 w)

  match_take : (n : ℕ) (ts : List Tree) (es : List (List ℕ)) → Match ts es → Match (take n ts) (take n es)
  match_take zero [] [] h = tt
  match_take zero [] (e ∷ es) h = absurd h
  match_take zero (t ∷ ts) [] h = absurd h
  match_take zero (t ∷ ts) (e ∷ es) h = tt
  match_take (suc n) [] [] h = tt
  match_take (suc n) [] (e ∷ es) h = absurd h
  match_take (suc n) (t ∷ ts) [] h = absurd h
  match_take (suc n) (t ∷ ts) (e ∷ es) h = (h.0, match_take n ts es h.1)

  match_drop : (n : ℕ) (ts : List Tree) (es : List (List ℕ)) → Match ts es → Match (drop n ts) (drop n es)
  match_drop zero [] [] h = tt
  match_drop zero [] (e ∷ es) h = absurd h
  match_drop zero (t ∷ ts) [] h = absurd h
  match_drop zero (t ∷ ts) (e ∷ es) h = h
  match_drop (suc n) [] [] h = tt
  match_drop (suc n) [] (e ∷ es) h = absurd h
  match_drop (suc n) (t ∷ ts) [] h = absurd h
  match_drop (suc n) (t ∷ ts) (e ∷ es) h = match_drop n ts es h.1

  match_at : (ts : List Tree) (es : List (List ℕ)) (k : ℕ) (t : Tree) → Match ts es → slice_get ts k ≡ Some t → Stands c groups test (pushed_tree c.bytes t) (result_at es k)
  match_at [] es k t h e = absurd (cc)
  match_at (u ∷ us) [] k t h e = absurd h
  match_at (u ∷ us) (f ∷ fs) zero t h e = subst (λ v. Stands c groups test (pushed_tree c.bytes v) f) (let g : u ≡ t = cc in g) h.0
  match_at (u ∷ us) (f ∷ fs) (suc k) t h e = match_at us fs k t h.1 e

  match_trees : (ts : List Tree) (es : List (List ℕ)) → Match ts es → StandAll c groups test (map (pushed_tree c.bytes) ts) es
  match_trees [] [] h = tt
  match_trees [] (e ∷ es) h = absurd h
  match_trees (t ∷ ts) [] h = absurd h
  match_trees (t ∷ ts) (e ∷ es) h = (h.0, match_trees ts es h.1)

  -- a label over the last trees of a stack
  joined_stands : (ts : List Tree) (stack : List (List ℕ)) (l : ℕ) (e : List ℕ) → Match ts stack → Steps c groups test l (drop (length stack - length (premise_ids c.bytes l)) stack) e
      → Stands c groups test (pushed_tree c.bytes (joined (arity_of c.bytes) ts (suc l))) e
  joined_stands ts stack l e h w =
      let n : ℕ = length stack - length (premise_ids c.bytes l) in
      let same : length ts - arity_of c.bytes (suc l) ≡ n = omega (arith, same_many ts stack h, arity_is c.bytes l) in
      subst (λ x. Stands c groups test x e) (sym (ap (λ m. pushed_tree c.bytes (tree (suc l) (trees_of (drop m ts)))) same ∙ tree_over c.bytes (suc l) (drop n ts)))
      (tree_stands c groups test l (map (pushed_tree c.bytes) (drop n ts)) (drop n stack) e (match_trees (drop n ts) (drop n stack) (match_drop n ts stack h)) w)

  kept_match : (ts : List Tree) (stack : List (List ℕ)) (l : ℕ) → Match ts stack → Match (kept (arity_of c.bytes) ts (suc l)) (take (length stack - length (premise_ids c.bytes l)) stack)
  kept_match ts stack l h =
      let n : ℕ = length stack - length (premise_ids c.bytes l) in
      let same : length ts - arity_of c.bytes (suc l) ≡ n = omega (arith, same_many ts stack h, arity_is c.bytes l) in
      subst (λ m. Match (take m ts) (take n stack)) (sym same) (match_take n ts stack h)

  -- the trees so far match the results, and the stack of trees the stack
  pub record Matches (f : Folded) (p : Progress) : Type 0 where
    pub trees : Match f.trees p.results
    pub stack : Match f.stack p.stack

  -- a label more
  label_more : (f : Folded) (p : Progress) (l : ℕ) (e : List ℕ) → Matches f p → Steps c groups test l (drop (length p.stack - length (premise_ids c.bytes l)) p.stack) e
      → Matches (pushed f (kept (arity_of c.bytes) f.stack (suc l)) (joined (arity_of c.bytes) f.stack (suc l))) (record { stack = take (length p.stack - length (premise_ids c.bytes l)) p.stack ++ e ∷ []; results = p.results ++ e ∷ [] })
  label_more f p l e h w =
      let x = joined_stands f.stack p.stack l e h.stack w in
      record {
        trees = match_more f.trees p.results (joined (arity_of c.bytes) f.stack (suc l)) e h.trees x;
        stack = match_more (kept (arity_of c.bytes) f.stack (suc l)) (take (length p.stack - length (premise_ids c.bytes l)) p.stack) (joined (arity_of c.bytes) f.stack (suc l)) e (kept_match f.stack p.stack l h.stack) x;
      }

  -- a tree more
  tree_more : (f : Folded) (p : Progress) (t : Tree) (e : List ℕ) → Matches f p → Stands c groups test (pushed_tree c.bytes t) e → Matches (pushed f f.stack t) (pushing p e)
  tree_more f p t e h x = record { trees = match_more f.trees p.results t e h.trees x; stack = match_more f.stack p.stack t e h.stack x }

  progress_same : (p q : Progress) → (let r : Result Progress Verdict = Ok p in r) ≡ Ok q → p ≡ q
  progress_same p q h = cc

  -- a step of the fold, as the machine's
  record Folds (f : Folded) (s : StepKind) (q : Progress) : Type 0 where
    next : Folded
    is : fold_step (arity_of c.bytes) f (plain s) ≡ Some next
    matches : Matches next q
    more : length next.trees ≡ suc (length f.trees)

  longer : (ts : List Tree) (t : Tree) → length (ts ++ t ∷ []) ≡ suc (length ts)
  longer ts t = omega (arith, length-append ts (t ∷ []))

  enough : (f : Folded) (p : Progress) (l : ℕ) → Matches f p → length (premise_ids c.bytes l) ≤ length p.stack → nat_le (arity_of c.bytes (suc l)) (length f.stack) ≡ true
  enough f p l h room = le_true (arity_of c.bytes (suc l)) (length f.stack) (omega (arith, room, arity_is c.bytes l, same_many f.stack p.stack h.stack))
    where
      le_true : (a b : ℕ) → a ≤ b → nat_le a b ≡ true
      le_true a b g = grind arith

  label_folds : (f : Folded) (p : Progress) (l m : ℕ) → m ≡ suc l → (e : List ℕ) → Matches f p → length (premise_ids c.bytes l) ≤ length p.stack → Steps c groups test l (drop (length p.stack - length (premise_ids c.bytes l)) p.stack) e
      → (g : Folded) × ((if has_enough (arity_of c.bytes) f.stack m then Some (pushed f (kept (arity_of c.bytes) f.stack m) (joined (arity_of c.bytes) f.stack m)) else None) ≡ Some g)
      × (Matches g (record { stack = take (length p.stack - length (premise_ids c.bytes l)) p.stack ++ e ∷ []; results = p.results ++ e ∷ [] }) × (length g.trees ≡ suc (length f.trees)))
  label_folds f p l m at_m e h room w =
      let g : Folded = pushed f (kept (arity_of c.bytes) f.stack (suc l)) (joined (arity_of c.bytes) f.stack (suc l)) in (
        g,
        ap (λ n. if has_enough (arity_of c.bytes) f.stack n then Some (pushed f (kept (arity_of c.bytes) f.stack n) (joined (arity_of c.bytes) f.stack n)) else None) at_m
            ∙ ap (λ b. if b then Some g else None) (enough f p l h room),
        (label_more f p l e h w, longer f.trees (joined (arity_of c.bytes) f.stack (suc l))),
      )

  hypothesis_folds : (f : Folded) (p q : Progress) (l : ℕ) → is_hypothesis (stated_at c.bytes l).kind ≡ true → may_stand c.bytes c.at l ≡ true → Matches f p → pushing p (stated_at c.bytes l).symbols ≡ q → Folds f (Hyp (record { 0 = l })) q
  hypothesis_folds f p q l is may h e =
      let none = ids_none c.bytes l is in
      let entry : List ℕ = (stated_at c.bytes l).symbols in
      let nothing_less : length p.stack - length (premise_ids c.bytes l) ≡ length p.stack = omega (arith, ap (λ (q : List ℕ). length q) none) in
      let no_entries : drop (length p.stack - length (premise_ids c.bytes l)) p.stack ≡ [] = ap (λ n. drop n p.stack) nothing_less ∙ drop_all (length p.stack) p.stack (omega arith) in
      let all_entries : take (length p.stack - length (premise_ids c.bytes l)) p.stack ≡ p.stack = ap (λ n. take n p.stack) nothing_less ∙ take_all (length p.stack) p.stack (omega arith) in
      let w : Steps c groups test l (drop (length p.stack - length (premise_ids c.bytes l)) p.stack) entry =
      subst (λ es. Steps c groups test l es entry) (sym no_entries) (subst (λ ms. StepsBy c groups test l ms [] entry) (sym none) (hypothesis_steps l is may)) in
      let d = label_folds f p l (l + 1) (add-one l) entry h (omega (arith, ap (λ (q : List ℕ). length q) none)) w in
      record {
        next = d.0;
        is = d.1;
        matches = subst (Matches d.0) (ap (λ (es : List (List ℕ)). record { stack = es ++ entry ∷ []; results = p.results ++ entry ∷ [] }) all_entries ∙ e) d.2.0;
        more = d.2.1;
      }

  assertion_folds : (f : Folded) (p q : Progress) (l : ℕ) (next : List (List ℕ)) → AllDiffer (variables_of (statements_of c.bytes) (stated_at c.bytes l).mandatory) → is_hypothesis (stated_at c.bytes l).kind ≡ false → may_stand c.bytes c.at l ≡ true
      → Matches f p → Pass (map (λ b. b.value) (machine.substitution_at c.bytes (stated_at c.bytes l) p.stack)) → machine.applied c.bytes groups (stated_at c.bytes l) p.stack (machine.next_number p) ≡ Ok next
      → record { stack = next; results = p.results ++ machine.conclusion_at c.bytes (stated_at c.bytes l) p.stack ∷ [] } ≡ q → Folds f (Apply (record { 0 = l })) q
  assertion_folds f p q l next differ is may h sure r e =
      let a : Stated = stated_at c.bytes l in
      let all = ids_all c.bytes l is in
      let entry : List ℕ = machine.conclusion_at c.bytes a p.stack in
      let k : ℕ = machine.next_number p in
      let w = passes c.bytes groups a p.stack next k r in
      let steps : Steps c groups test l (drop (length p.stack - length (premise_ids c.bytes l)) p.stack) entry =
      subst (λ ms. StepsBy c groups test l ms (drop (length p.stack - length ms) p.stack) entry) (sym all) (assertion_steps l k p.stack next differ is may sure r) in
      let d = label_folds f p l (l + 1) (add-one l) entry h (omega (arith, w.room, ap (λ (q : List ℕ). length q) all)) steps in
      let same : take (length p.stack - length (premise_ids c.bytes l)) p.stack ++ entry ∷ [] ≡ next = ap (λ (ms : List ℕ). take (length p.stack - length ms) p.stack ++ entry ∷ []) all ∙ sym w.after in
      record {
        next = d.0;
        is = d.1;
        matches = subst (Matches d.0) (ap (λ (es : List (List ℕ)). record { stack = es; results = p.results ++ entry ∷ [] }) same ∙ e) d.2.0;
        more = d.2.1;
      }

  applying_by : (f : Folded) (p q : Progress) (l : ℕ) → AllDiffer (variables_of (statements_of c.bytes) (stated_at c.bytes l).mandatory) → is_hypothesis (stated_at c.bytes l).kind ≡ false → may_stand c.bytes c.at l ≡ true → Matches f p
      → Pass (map (λ b. b.value) (machine.substitution_at c.bytes (stated_at c.bytes l) p.stack)) → (r : Result (List (List ℕ)) Verdict) → machine.applied c.bytes groups (stated_at c.bytes l) p.stack (machine.next_number p) ≡ r
      → after r (λ stack. Ok (record { stack = stack; results = p.results ++ machine.conclusion_at c.bytes (stated_at c.bytes l) p.stack ∷ [] })) ≡ Ok q → Folds f (Apply (record { 0 = l })) q
  applying_by f p q l differ is may h sure (Err v) r e = absurd (cc)
  applying_by f p q l differ is may h sure (Ok next) r e = assertion_folds f p q l next differ is may h sure r (progress_same _ q e)

  found_at : (ts : List Tree) (k : ℕ) → k < length ts → (t : Tree) × (slice_get ts k ≡ Some t)
  found_at [] k h = absurd (omega (arith, h))
  found_at (t ∷ ts) zero h = (t, refl)
  found_at (t ∷ ts) (suc k) h = found_at ts k (omega (arith, h))

  back_folds : (f : Folded) (p q : Progress) (k : ℕ) → Points c.bytes c.at (length f.trees) (Back k) → Matches f p → pushing p (result_at p.results (k - 1)) ≡ q → Folds f (Back k) q
  back_folds f p q k points h e =
      let w = found_at f.trees (k - 1) (omega (arith, points.0, points.1)) in
      record {
        next = pushed f f.stack w.0;
        is = ap (λ o. onward o (λ t. Some (pushed f f.stack t))) w.1;
        matches = subst (Matches (pushed f f.stack w.0)) e (tree_more f p w.0 (result_at p.results (k - 1)) h (match_at f.trees p.results (k - 1) w.0 h.trees w.1));
        more = longer f.trees w.0;
      }

  -- the mandatory variables of each statement differ
  abbrev pub HaveDistinct : Type 0
  HaveDistinct = (id : ℕ) → AllDiffer (variables_of (statements_of c.bytes) (stated_at c.bytes id).mandatory)

  step_folds : HaveDistinct → (f : Folded) (p q : Progress) (s : StepKind) → Fits c.bytes c.at s → Points c.bytes c.at (length f.trees) s → Matches f p → Pass (substituted_at c.bytes p s) → run_step c.bytes groups p s ≡ Ok q → Folds f s q
  step_folds differ f p q (Hyp s) fits points h sure e = hypothesis_folds f p q s.0 fits.0 fits.1 h (progress_same _ q e)
  step_folds differ f p q (Apply s) fits points h sure e = applying_by f p q s.0 (differ s.0) fits.0 fits.1 h sure (machine.applied c.bytes groups (stated_at c.bytes s.0) p.stack (machine.next_number p)) refl e
  step_folds differ f p q (Back k) fits points h sure e = back_folds f p q k points h (progress_same _ q e)
  step_folds differ f p q Unknown fits points h sure e = absurd (cc)

  pass_parts : (vs ws : List (List ℕ)) → Pass (vs ++ ws) → Pass vs × Pass ws
  pass_parts [] ws h = (tt, h)
  pass_parts (v ∷ vs) ws h = let w = pass_parts vs ws h.1 in ((h.0, w.0), w.1)

  -- the steps of a run that goes on fold, to label trees that match its stack
  runs_fold : HaveDistinct → (ss : List ProofStep) (f : Folded) (p q : Progress) → AllFit c.bytes c.at (length f.trees) ss → Matches f p → Pass (substituted_from c.bytes groups p ss) → run_from c.bytes groups p ss ≡ Ok q
      → (g : Folded) × ((folded (arity_of c.bytes) f (plain_steps ss) ≡ Some g) × Matches g q)
  unfolding run_from folded substituted_from
  runs_fold differ [] f p q fit h sure e = (f, (refl, subst (Matches f) (progress_same p q e) h))
  runs_fold differ (s ∷ ss) f p q fit h sure e =
      let parts = pass_parts (substituted_at c.bytes p s.kind) (going_on (run_step c.bytes groups p s.kind) (λ n. substituted_from c.bytes groups n ss)) sure in
      by (run_step c.bytes groups p s.kind) (λ n g. step_folds differ f p n s.kind fit.0.0 fit.0.1 h parts.0 g)
      (λ k n count m w g. runs_fold differ ss k n q (subst (λ i. AllFit c.bytes c.at i ss) (sym count) fit.1) m w g) parts.1 e
    where
      by : (r : Result Progress Verdict) → ((n : Progress) → r ≡ Ok n → Folds f s.kind n)
          → ((k : Folded) (n : Progress) → length k.trees ≡ suc (length f.trees) → Matches k n → Pass (substituted_from c.bytes groups n ss) → run_from c.bytes groups n ss ≡ Ok q → (g : Folded) × ((folded (arity_of c.bytes) k (plain_steps ss) ≡ Some g) × Matches g q))
          → Pass (going_on r (λ n. substituted_from c.bytes groups n ss)) → after r (λ n. run_from c.bytes groups n ss) ≡ Ok q
          → (g : Folded) × ((onward (fold_step (arity_of c.bytes) f (plain s.kind)) (λ k. folded (arity_of c.bytes) k (plain_steps ss)) ≡ Some g) × Matches g q)
      by (Err v) one later sure e = absurd (cc)
      by (Ok n) one later sure e =
          let d = one n refl in
          let w = later d.next n d.more d.matches sure e in
          (w.0, (ap (λ o. onward o (λ k. folded (arity_of c.bytes) k (plain_steps ss))) d.is ∙ w.1.0, w.1.1))

  -- an accepted run's steps fold to one label tree, whose tree stands for the entry that is left
  pub record Built (steps : List ProofStep) (e : List ℕ) : Type 0 where
    pub tree : Tree
    pub folds : trees_in c.bytes steps ≡ Some (tree ∷ [])
    pub stands : Stands c groups test (pushed_tree c.bytes tree) e

  one_match : (ts : List Tree) (e : List ℕ) → Match ts (e ∷ []) → (t : Tree) × ((ts ≡ t ∷ []) × Stands c groups test (pushed_tree c.bytes t) e)
  one_match [] e h = absurd h
  one_match (t ∷ []) e h = (t, (refl, h.0))
  one_match (t ∷ u ∷ ts) e h = absurd h.1

  ends_by : (steps : List ProofStep) (e : List ℕ) → ((q : Progress) → run_from c.bytes groups start steps ≡ Ok q → (g : Folded) × ((folded (arity_of c.bytes) nothing (plain_steps steps) ≡ Some g) × Matches g q))
      → (r : Result Progress Verdict) → run_from c.bytes groups start steps ≡ r → after r (λ p. Ok p.stack) ≡ Ok (e ∷ []) → Built steps e
  ends_by steps e all (Err v) r h = absurd (cc)
  ends_by steps e all (Ok q) r h =
      let w = all q r in
      let left : q.stack ≡ e ∷ [] = sym (ok_same q.stack (e ∷ []) h) in
      let one = one_match w.0.stack e (subst (Match w.0.stack) left w.1.1.stack) in
      record {
        tree = one.0;
        folds = ap (λ o. onward o (λ f. Some f.stack)) w.1.0 ∙ ap (λ ts. Some ts) one.1.0;
        stands = one.1.1;
      }

  pub run_builds : HaveDistinct → (steps : List ProofStep) (e : List ℕ) → AllFit c.bytes c.at 0 steps → Pass (substituted_from c.bytes groups start steps) → run c.bytes groups steps ≡ Ok (e ∷ []) → Built steps e
  run_builds differ steps e fit sure h =
      ends_by steps e (λ q g. runs_fold differ steps nothing start q fit (record { trees = tt; stack = tt }) sure g) (run_from c.bytes groups start steps) refl h
