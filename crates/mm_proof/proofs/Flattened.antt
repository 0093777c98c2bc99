-- The labels of trees, laid step by step.
use Rattle.std.proofs.Common.{◌≡◌, ℕ, zero, suc, ◌+◌, ◌-◌, ◌<◌, ◌≤◌, Bool, true, false, cond, nat_le, List, [], ◌∷◌, ◌++◌, length, take, drop, get_or, slice_get, slice_range, Option, None, Some, All, refl, sym, ap, ◌∙◌, subst, arith, append_assoc, length-append}
use Rattle.std.specs.List.{AllByRecursion}
use Rattle.std.proofs.lemmas.List.{drop_at, take-append-drop, drop_all, take_all, drop-append-le, take-append-le, length-drop, length-map, take_more, get_or-drop}
use Rattle.std.proofs.lemmas.List.Elements.{recursion_from_All, All-from_recursion}
use Rattle.std.proofs.lemmas.Bool.Decides.{nat_tests}
use Rattle.std.proofs.lemmas.Option.{none-some, same_Some}
use Rattle.mm_scope.specs.Contents.{labels_of}
use Rattle.mm_proof.specs.Trees.{Tree, none, tree, trees_of, postorder}
use Rattle.mm_proof.specs.Folding.{onward, has_enough, kept, joined, Folded, nothing, pushed, fold_step, folded}
use Rattle.mm_proof.specs.Forests.{arity_of, plain, plain_steps, trees_in}
use Rattle.mm_proof.specs.Arities.{takes}
use Rattle.mm_proof.specs.Parts.{one}
use Rattle.mm_proof.specs.Steps.{IsOwn}
use Rattle.mm_proof.specs.Flattening.{begin_at, laid_again, Lays, AreBegins, IsStretch, AreStretches}
use Rattle.mm_proof.specs.declared.flat.Stretch.{Stretch}
use Rattle.mm_proof.specs.declared.step.ProofStep.{ProofStep}
use Rattle.mm_proof.specs.declared.step.StepKind.{StepKind}
use Rattle.mm_proof.specs.declared.step.StepKind.TheVariants as kind
use Rattle.mm_proof.specs.declared.written.Step.{Step}
use Rattle.mm_proof.specs.declared.written.Step.TheVariants.{Label}
use Rattle.mm_proof.proofs.Shaped.{goes_on}

pub postorder-append : (xs ys : List Tree) → postorder (trees_of (xs ++ ys)) ≡ postorder (trees_of xs) ++ postorder (trees_of ys)
postorder-append [] ys = refl
postorder-append (t ∷ xs) ys =
    ap (λ x. postorder t.children ++ t.label ∷ x) (postorder-append xs ys)
    ∙ sym (append_assoc (postorder t.children) (t.label ∷ postorder (trees_of xs)) (postorder (trees_of ys)))

postorder-last : (xs : List Tree) (t : Tree) → postorder (trees_of (xs ++ t ∷ [])) ≡ postorder (trees_of xs) ++ postorder (one t)
postorder-last xs t = postorder-append xs (t ∷ [])

pub count_is : (n : ℕ) (bs : List ℕ) (ts : List Tree) → AreBegins n bs ts → length bs ≡ length ts
count_is n [] [] h = refl
count_is n [] (t ∷ ts) h = absurd h
count_is n (b ∷ bs) [] h = absurd h
count_is n (b ∷ bs) (t ∷ ts) h = ap (λ m. suc m) (count_is (n + length (postorder (one t))) bs ts h.1)

begins_front : (n m : ℕ) (bs : List ℕ) (ts : List Tree) → AreBegins n bs ts → AreBegins n (take m bs) (take m ts)
begins_front n zero bs ts h = tt
begins_front n (suc m) [] [] h = tt
begins_front n (suc m) [] (t ∷ ts) h = absurd h
begins_front n (suc m) (b ∷ bs) [] h = absurd h
begins_front n (suc m) (b ∷ bs) (t ∷ ts) h = (h.0, begins_front (n + length (postorder (one t))) m bs ts h.1)

one_more : (t : Tree) (ts : List Tree) → length (postorder (trees_of (t ∷ ts))) ≡ length (postorder (one t)) + length (postorder (trees_of ts))
one_more t ts = ap length (postorder-append (t ∷ []) ts) ∙ length-append (postorder (one t)) (postorder (trees_of ts))

begins_more : (n : ℕ) (bs : List ℕ) (ts : List Tree) (b : ℕ) (t : Tree) → AreBegins n bs ts → b ≡ n + length (postorder (trees_of ts)) → AreBegins n (bs ++ b ∷ []) (ts ++ t ∷ [])
begins_more n [] [] b t h e = (omega arith, tt)
begins_more n [] (u ∷ ts) b t h e = absurd h
begins_more n (c ∷ bs) [] b t h e = absurd h
begins_more n (c ∷ bs) (u ∷ ts) b t h e = (h.0, begins_more (n + length (postorder (one u))) bs ts b t h.1 (let f = one_more u ts in omega arith))

-- where the trees begin from one on
begin_is : (n m end : ℕ) (bs : List ℕ) (ts : List Tree) → AreBegins n bs ts → m ≤ length ts → end ≡ n + length (postorder (trees_of ts)) → begin_at bs m end ≡ n + length (postorder (trees_of (take m ts)))
begin_is n zero end [] [] h le e = e
begin_is n (suc m) end [] [] h le e = absurd (omega arith)
begin_is n m end [] (t ∷ ts) h le e = absurd h
begin_is n m end (b ∷ bs) [] h le e = absurd h
begin_is n zero end (b ∷ bs) (t ∷ ts) h le e = h.0 ∙ omega arith
begin_is n (suc m) end (b ∷ bs) (t ∷ ts) h le e =
    let f = one_more t ts in
    let g = one_more t (take m ts) in
    begin_is (n + length (postorder (one t))) m end bs ts h.1 (omega arith) (omega arith) ∙ omega arith

range_kept : (xs ys : List ℕ) (b e : ℕ) → e ≤ length xs → b ≤ e → slice_range (xs ++ ys) b e ≡ slice_range xs b e
range_kept xs ys b e h le =
    ap (take (e - b)) (drop-append-le b xs ys (omega arith))
    ∙ take-append-le (e - b) (drop b xs) ys (let l = length-drop b xs in omega arith)

stretch_kept : (labels extra : List ℕ) (s : Stretch) (t : Tree) → IsStretch labels s t → IsStretch (labels ++ extra) s t
stretch_kept labels extra s t h = record {
  ordered = h.ordered;
  within = (let a = h.within in omega (arith, length-append labels extra));
  is = range_kept labels extra s.begin s.end h.within h.ordered ∙ h.is;
}

stretches_kept : (labels extra : List ℕ) (ss : List Stretch) (ts : List Tree) → AreStretches labels ss ts → AreStretches (labels ++ extra) ss ts
stretches_kept labels extra [] [] h = tt
stretches_kept labels extra [] (t ∷ ts) h = absurd h
stretches_kept labels extra (s ∷ ss) [] h = absurd h
stretches_kept labels extra (s ∷ ss) (t ∷ ts) h = (stretch_kept labels extra s t h.0, stretches_kept labels extra ss ts h.1)

stretches_more : (labels : List ℕ) (ss : List Stretch) (ts : List Tree) (s : Stretch) (t : Tree) → AreStretches labels ss ts → IsStretch labels s t → AreStretches labels (ss ++ s ∷ []) (ts ++ t ∷ [])
stretches_more labels [] [] s t h i = (i, tt)
stretches_more labels [] (u ∷ ts) s t h i = absurd h
stretches_more labels (r ∷ ss) [] s t h i = absurd h
stretches_more labels (r ∷ ss) (u ∷ ts) s t h i = (h.0, stretches_more labels ss ts s t h.1 i)

pub record StretchAt (labels : List ℕ) (ss : List Stretch) (k : ℕ) (t : Tree) : Type 0 where
  pub stretch : Stretch
  pub at : slice_get ss k ≡ Some stretch
  pub is : IsStretch labels stretch t

stretch_at : (labels : List ℕ) (ss : List Stretch) (ts : List Tree) (k : ℕ) (t : Tree) → AreStretches labels ss ts → slice_get ts k ≡ Some t → StretchAt labels ss k t
stretch_at labels [] [] k t h e = absurd (none-some t e)
stretch_at labels [] (u ∷ ts) k t h e = absurd h
stretch_at labels (s ∷ ss) [] k t h e = absurd h
stretch_at labels (s ∷ ss) (u ∷ ts) zero t h e = record { stretch = s; at = refl; is = (let P : Tree → Type 0 = λ x. IsStretch labels s x in subst P (same_Some u t e) h.0) }
stretch_at labels (s ∷ ss) (u ∷ ts) (suc k) t h e = let r = stretch_at labels ss ts k t h.1 e in record { stretch = r.stretch; at = r.at; is = r.is }

-- so far: the labels of the trees on the stack, where these begin, and where those of all trees stand
pub record Flat (f : Folded) (labels : List ℕ) (trees : List Stretch) (stack : List ℕ) : Type 0 where
  pub labels_are : labels ≡ postorder (trees_of f.stack)
  pub begins : AreBegins 0 stack f.stack
  pub stretches : AreStretches labels trees f.trees

last_range : (xs ys : List ℕ) (b e : ℕ) → b ≡ length xs → e ≡ length xs + length ys → slice_range (xs ++ ys) b e ≡ ys
last_range xs ys b e h g = ap (take (e - b)) (drop_at xs ys b (sym h)) ∙ take_all (e - b) ys (omega arith)

flat_pushed : (f : Folded) (rest : List Tree) (t : Tree) (labels extra after : List ℕ) (trees : List Stretch) (stack bs : List ℕ) (begin end : ℕ) → Flat f labels trees stack
    → after ≡ labels ++ extra → after ≡ postorder (trees_of rest) ++ postorder (one t) → AreBegins 0 bs rest → begin ≡ length (postorder (trees_of rest)) → end ≡ length after
    → Flat (pushed f rest t) after (trees ++ record { begin = begin; end = end } ∷ []) (bs ++ begin ∷ [])
flat_pushed f rest t labels extra after trees stack bs begin end g grown is begins at all =
    let count : length after ≡ length (postorder (trees_of rest)) + length (postorder (one t)) = ap length is ∙ length-append (postorder (trees_of rest)) (postorder (one t)) in
    let P : List ℕ → Type 0 = λ x. AreStretches x trees f.trees in
    let kept_all = subst P (sym grown) (stretches_kept labels extra trees f.trees g.stretches) in
    record {
      labels_are = is ∙ sym (postorder-last rest t);
      begins = begins_more 0 bs rest begin t begins (omega (arith, at));
      stretches = stretches_more after trees f.trees (record { begin = begin; end = end }) t kept_all (record {
        ordered = omega arith;
        within = omega arith;
        is = ap (λ x. slice_range x begin end) is ∙ last_range (postorder (trees_of rest)) (postorder (one t)) begin end at (omega arith);
      });
    }

pub record FlatNext (o : Option Folded) (labels : List ℕ) (trees : List Stretch) (stack : List ℕ) : Type 0 where
  pub next : Folded
  pub is : o ≡ Some next
  pub flat : Flat next labels trees stack

flat_label : (arity : ℕ → ℕ) (f g : Folded) (l : ℕ) (labels after : List ℕ) (trees : List Stretch) (stack : List ℕ) (n begin end : ℕ) → Flat f labels trees stack → fold_step arity f (Label l) ≡ Some g
    → n ≡ length stack - arity l → begin ≡ begin_at stack n (length labels) → after ≡ labels ++ l ∷ [] → end ≡ length after
    → FlatNext (fold_step arity f (Label l)) after (trees ++ record { begin = begin; end = end } ∷ []) (take n stack ++ begin ∷ [])
flat_label arity f g l labels after trees stack n begin end h some is_n at grown all = by (has_enough arity f.stack l) refl some
  where
    count : length stack ≡ length f.stack
    count = count_is 0 stack f.stack h.begins

    m_is : n ≡ length f.stack - arity l
    m_is = is_n ∙ ap (λ x. x - arity l) count

    Q : Folded → Type 0
    Q x = Flat x after (trees ++ record { begin = begin; end = end } ∷ []) (take n stack ++ begin ∷ [])

    laid : after ≡ postorder (trees_of (take n f.stack)) ++ postorder (one (tree l (trees_of (drop n f.stack))))
    laid =
        grown ∙ ap (λ x. x ++ l ∷ []) (h.labels_are ∙ ap (λ x. postorder (trees_of x)) (sym (take-append-drop n f.stack)) ∙ postorder-append (take n f.stack) (drop n f.stack))
        ∙ append_assoc (postorder (trees_of (take n f.stack))) (postorder (trees_of (drop n f.stack))) (l ∷ [])

    begins_at : begin ≡ length (postorder (trees_of (take n f.stack)))
    begins_at = let e = begin_is 0 n (length labels) stack f.stack h.begins (omega (arith, m_is)) (let l = ap length h.labels_are in omega arith) in at ∙ omega arith

    by : (b : Bool) → has_enough arity f.stack l ≡ b → cond b (Some (pushed f (kept arity f.stack l) (joined arity f.stack l))) None ≡ Some g
        → FlatNext (cond b (Some (pushed f (kept arity f.stack l) (joined arity f.stack l))) None) after (trees ++ record { begin = begin; end = end } ∷ []) (take n stack ++ begin ∷ [])
    by true e s = record {
      next = pushed f (take n f.stack) (tree l (trees_of (drop n f.stack)));
      is = ap (λ m. Some (pushed f (take m f.stack) (tree l (trees_of (drop m f.stack))))) (sym m_is);
      flat = flat_pushed f (take n f.stack) (tree l (trees_of (drop n f.stack))) labels (l ∷ []) after trees stack (take n stack) begin end h grown laid (begins_front 0 n stack f.stack h.begins) begins_at all;
    }
    by false e s = absurd (none-some g s)

flat_leaf : (f : Folded) (t : Tree) (labels extra after : List ℕ) (trees : List Stretch) (stack : List ℕ) (n begin end : ℕ) → Flat f labels trees stack → n ≡ length stack - 0
    → begin ≡ begin_at stack n (length labels) → after ≡ labels ++ extra → extra ≡ postorder (one t) → end ≡ length after
    → FlatNext (Some (pushed f f.stack t)) after (trees ++ record { begin = begin; end = end } ∷ []) (take n stack ++ begin ∷ [])
flat_leaf f t labels extra after trees stack n begin end h is_n at grown is all =
    let count = count_is 0 stack f.stack h.begins in
    let whole : take n stack ≡ stack = take_all n stack (omega arith) in
    let front : take n f.stack ≡ f.stack = take_all n f.stack (omega arith) in
    let b : begin ≡ length (postorder (trees_of f.stack)) = (let e = begin_is 0 n (length labels) stack f.stack h.begins (omega arith) (let l = ap length h.labels_are in omega arith) in at ∙ omega arith) ∙ ap (λ x. length (postorder (trees_of x))) front in
    let P : List ℕ → Type 0 = λ x. AreBegins 0 x f.stack in
    record {
      next = pushed f f.stack t;
      is = refl;
      flat = flat_pushed f f.stack t labels extra after trees stack (take n stack) begin end h grown (grown ∙ ap (λ x. x ++ extra) h.labels_are ∙ ap (λ x. postorder (trees_of f.stack) ++ x) is) (subst P (sym whole) h.begins) b all;
    }

again_is : (labels : List ℕ) (s : Stretch) (t : Tree) → IsStretch labels s t → laid_again labels (Some s) ≡ labels ++ postorder (one t)
again_is labels s t h =
    let w = h.within in
    let yes : nat_le s.end (length labels) ≡ true = grind (arith, nat_tests) in
    ap (λ b. cond b (labels ++ slice_range labels s.begin s.end) labels) yes ∙ ap (λ x. labels ++ x) h.is

flat_back : (f g : Folded) (k : ℕ) (labels after : List ℕ) (trees : List Stretch) (stack : List ℕ) (n begin end : ℕ) (o : Option Tree) → Flat f labels trees stack → slice_get f.trees k ≡ o
    → onward o (λ t. Some (pushed f f.stack t)) ≡ Some g → n ≡ length stack - 0 → begin ≡ begin_at stack n (length labels) → after ≡ laid_again labels (slice_get trees k) → end ≡ length after
    → FlatNext (onward o (λ t. Some (pushed f f.stack t))) after (trees ++ record { begin = begin; end = end } ∷ []) (take n stack ++ begin ∷ [])
flat_back f g k labels after trees stack n begin end None h is some is_n at grown all = absurd (none-some g some)
flat_back f g k labels after trees stack n begin end (Some t) h is some is_n at grown all =
    let r = stretch_at labels trees f.trees k t h.stretches is in
    flat_leaf f t labels (postorder (one t)) after trees stack n begin end h is_n at (grown ∙ ap (laid_again labels) r.at ∙ again_is labels r.stretch t r.is) refl all

flat_step : (bytes : List ℕ) (f g : Folded) (k : StepKind) (labels after : List ℕ) (trees : List Stretch) (stack : List ℕ) (n begin end : ℕ) → Flat f labels trees stack → fold_step (arity_of bytes) f (plain k) ≡ Some g
    → n ≡ length stack - takes bytes k → begin ≡ begin_at stack n (length labels) → Lays labels after trees k → end ≡ length after
    → FlatNext (fold_step (arity_of bytes) f (plain k)) after (trees ++ record { begin = begin; end = end } ∷ []) (take n stack ++ begin ∷ [])
flat_step bytes f g (kind.Hyp s) labels after trees stack n begin end h some is_n at grown all = flat_label (arity_of bytes) f g (s.0 + 1) labels after trees stack n begin end h some is_n at grown all
flat_step bytes f g (kind.Apply s) labels after trees stack n begin end h some is_n at grown all = flat_label (arity_of bytes) f g (s.0 + 1) labels after trees stack n begin end h some is_n at grown all
flat_step bytes f g (kind.Back k) labels after trees stack n begin end h some is_n at grown all = flat_back f g (k - 1) labels after trees stack n begin end (slice_get f.trees (k - 1)) h refl some is_n at grown all
flat_step bytes f g kind.Unknown labels after trees stack n begin end h some is_n at grown all = flat_leaf f (tree 0 none) labels (0 ∷ []) after trees stack n begin end h is_n at grown refl all

-- so far, of steps that fold to one tree
pub record Flattens (bytes : List ℕ) (all : List ProofStep) (labels : List ℕ) (trees : List Stretch) (stack : List ℕ) (i : ℕ) : Type 0 where
  pub at : Folded
  pub goes : folded (arity_of bytes) nothing (plain_steps all) ≡ folded (arity_of bytes) at (drop i (plain_steps all))
  pub flat : Flat at labels trees stack

folds_on : (o : Option Folded) (g : Folded → Option Folded) (x : List Tree) → onward (onward o g) (λ f. Some f.stack) ≡ Some x → (next : Folded) × (o ≡ Some next)
folds_on None g x h = absurd (none-some x h)
folds_on (Some f) g x h = (f, refl)

pub flattens_more : (bytes : List ℕ) (all : List ProofStep) (labels after : List ℕ) (trees : List Stretch) (stack : List ℕ) (i n begin end : ℕ) (s : ProofStep) (t : Tree) → trees_in bytes all ≡ Some (t ∷ [])
    → Flattens bytes all labels trees stack i → i < length all → s ≡ get_or all i s → n ≡ length stack - takes bytes s.kind → begin ≡ begin_at stack n (length labels) → Lays labels after trees s.kind → end ≡ length after
    → Flattens bytes all after (trees ++ record { begin = begin; end = end } ∷ []) (take n stack ++ begin ∷ []) (i + 1)
flattens_more bytes all labels after trees stack i n begin end s t one_tree g at is is_n b grown last =
    let o = fold_step (arity_of bytes) g.at (plain s.kind) in
    let goes = g.goes ∙ goes_on bytes g.at all i s o at is refl in
    let some = folds_on o (λ next. folded (arity_of bytes) next (drop (i + 1) (plain_steps all))) (t ∷ []) (ap (λ x. onward x (λ f. Some f.stack)) (sym goes) ∙ one_tree) in
    let r = flat_step bytes g.at some.0 s.kind labels after trees stack n begin end g.flat some.1 is_n b grown last in
    record { at = r.next; goes = goes ∙ ap (λ x. onward x (λ next. folded (arity_of bytes) next (drop (i + 1) (plain_steps all)))) r.is; flat = r.flat }

pub flattens_start : (bytes : List ℕ) (all : List ProofStep) (labels : List ℕ) (trees : List Stretch) (stack : List ℕ) → labels ≡ [] → trees ≡ [] → stack ≡ [] → Flattens bytes all labels trees stack 0
flattens_start bytes all labels trees stack a b c = record {
  at = nothing;
  goes = refl;
  flat = record {
    labels_are = a;
    begins = (let P : List ℕ → Type 0 = λ x. AreBegins 0 x [] in subst P (sym c) tt);
    stretches = (let P : List Stretch → Type 0 = λ x. AreStretches labels x [] in subst P (sym b) tt);
  };
}

ended : (bytes : List ℕ) (f : Folded) (left : List Step) → left ≡ [] → folded (arity_of bytes) f left ≡ Some f
unfolding folded
ended bytes f left h = ap (folded (arity_of bytes) f) h

pub flattens_all : (bytes : List ℕ) (all : List ProofStep) (labels : List ℕ) (trees : List Stretch) (stack : List ℕ) (i : ℕ) (t : Tree) → trees_in bytes all ≡ Some (t ∷ []) → Flattens bytes all labels trees stack i
    → length all ≤ i → labels ≡ postorder (trees_of (t ∷ []))
flattens_all bytes all labels trees stack i t one_tree g h =
    let left = drop_all i (plain_steps all) (let e = length-map all (λ s. plain s.kind) in omega arith) in
    let stack_is : g.at.stack ≡ t ∷ [] = same_Some g.at.stack (t ∷ []) (ap (λ o. onward o (λ f. Some f.stack)) (sym (g.goes ∙ ended bytes g.at (drop i (plain_steps all)) left)) ∙ one_tree) in
    g.flat.labels_are ∙ ap (λ x. postorder (trees_of x)) stack_is

-- the labels stay the database's own
abbrev Below : ℕ → List ℕ → Type 0
Below n xs = AllByRecursion (λ l. l < n) xs

below_both : (n : ℕ) (xs ys : List ℕ) → Below n xs → Below n ys → Below n (xs ++ ys)
below_both n [] ys h i = i
below_both n (x ∷ xs) ys h i = (h.0, below_both n xs ys h.1 i)

below_take : (n m : ℕ) (xs : List ℕ) → Below n xs → Below n (take m xs)
below_take n zero xs h = tt
below_take n (suc m) [] h = tt
below_take n (suc m) (x ∷ xs) h = (h.0, below_take n m xs h.1)

below_drop : (n m : ℕ) (xs : List ℕ) → Below n xs → Below n (drop m xs)
below_drop n zero xs h = h
below_drop n (suc m) [] h = tt
below_drop n (suc m) (x ∷ xs) h = below_drop n m xs h.1

below_again : (n : ℕ) (xs : List ℕ) (b : Bool) (o : Option Stretch) → Below n xs → Below n (laid_again xs o)
below_again n xs b None h = h
below_again n xs b (Some s) h = by (nat_le s.end (length xs))
  where
    by : (c : Bool) → Below n (cond c (xs ++ slice_range xs s.begin s.end) xs)
    by true = below_both n xs (slice_range xs s.begin s.end) h (below_take n (s.end - s.begin) (drop s.begin xs) (below_drop n s.begin xs h))
    by false = h

below_lays : (bytes : List ℕ) (labels after : List ℕ) (trees : List Stretch) (k : StepKind) → IsOwn bytes k → Lays labels after trees k → Below (length (labels_of bytes) + 1) labels → Below (length (labels_of bytes) + 1) after
below_lays bytes labels after trees (kind.Hyp s) own e h = subst (Below (length (labels_of bytes) + 1)) (sym e) (below_both (length (labels_of bytes) + 1) labels ((s.0 + 1) ∷ []) h (omega arith, tt))
below_lays bytes labels after trees (kind.Apply s) own e h = subst (Below (length (labels_of bytes) + 1)) (sym e) (below_both (length (labels_of bytes) + 1) labels ((s.0 + 1) ∷ []) h (omega arith, tt))
below_lays bytes labels after trees (kind.Back k) own e h = subst (Below (length (labels_of bytes) + 1)) (sym e) (below_again (length (labels_of bytes) + 1) labels true (slice_get trees (k - 1)) h)
below_lays bytes labels after trees kind.Unknown own e h = subst (Below (length (labels_of bytes) + 1)) (sym e) (below_both (length (labels_of bytes) + 1) labels (0 ∷ []) h (omega arith, tt))

pub own_lays : (bytes : List ℕ) (labels after : List ℕ) (trees : List Stretch) (k : StepKind) → IsOwn bytes k → Lays labels after trees k → All (λ l. l < length (labels_of bytes) + 1) labels → All (λ l. l < length (labels_of bytes) + 1) after
own_lays bytes labels after trees k own e h =
    let P : ℕ → Type 0 = λ l. l < length (labels_of bytes) + 1 in
    All-from_recursion P after (below_lays bytes labels after trees k own e (recursion_from_All P labels h))

-- one label more of a stretch
pub range_end : (xs : List ℕ) (b e : ℕ) → b ≤ e → e < length xs → slice_range xs b (e + 1) ≡ slice_range xs b e ++ get_or xs e 0 ∷ []
range_end xs b e h lt =
    let more : e + 1 - b ≡ e - b + 1 = omega arith in
    let same : b + (e - b) ≡ e = omega arith in
    let len = length-drop b xs in
    ap (λ n. take n (drop b xs)) more ∙ take_more (drop b xs) (e - b) 0 (omega arith)
    ∙ ap (λ x. slice_range xs b e ++ x ∷ []) (get_or-drop b xs (e - b) 0 ∙ ap (λ n. get_or xs n 0) same)

pub range_none : (xs : List ℕ) (b : ℕ) → slice_range xs b b ≡ []
range_none xs b = let e : b - b ≡ 0 = omega arith in ap (λ n. take n (drop b xs)) e
