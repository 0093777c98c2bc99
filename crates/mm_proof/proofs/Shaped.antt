-- The shapes of the trees of steps, step by step.
use Rattle.std.proofs.Common.{◌≡◌, ◌≢◌, ℕ, ◌+◌, ◌-◌, ◌<◌, ◌≤◌, true, false, cond, min, List, [], ◌∷◌, ◌++◌, length, map, take, drop, get_or, slice_get, option_map, Option, None, Some, refl, sym, ap, ◌∙◌, subst, arith}
use Rattle.std.proofs.lemmas.List.{drop_more, drop_all, take-map, drop-map, map_push, length-map, take_all}
use Rattle.std.proofs.lemmas.Bool.Decides.{nat_tests}
use Rattle.std.proofs.lemmas.Option.{none-some, same_Some, slice_get-map}
use Rattle.mm_proof.specs.Trees.{Tree, none, tree, trees_of}
use Rattle.mm_proof.specs.Folding.{onward, has_enough, kept, joined, Folded, nothing, pushed, fold_step, folded}
use Rattle.mm_proof.specs.Forests.{arity_of, plain, plain_steps, trees_in}
use Rattle.mm_proof.specs.Arities.{takes}
use Rattle.mm_proof.specs.Shapes.{steps_in, height_in, most_told, shape_of, shape_by, total, greatest, joined_shape}
use Rattle.mm_proof.specs.Shaping.{shape_at}
use Rattle.mm_proof.specs.declared.extent.Shape.{Shape}
use Rattle.mm_proof.specs.declared.step.ProofStep.{ProofStep}
use Rattle.mm_proof.specs.declared.step.StepKind.{StepKind}
use Rattle.mm_proof.specs.declared.step.StepKind.TheVariants as kind
use Rattle.mm_proof.specs.declared.written.Step.{Step}
use Rattle.mm_proof.specs.declared.written.Step.TheVariants.{Label}

-- the shapes of children give that of their parent
steps_are : (n : ℕ) (ts : List Tree) → min most_told (n + total (map shape_of ts)) ≡ min most_told (n + steps_in (trees_of ts))
steps_are n [] = refl
steps_are n (t ∷ ts) =
    let a = steps_are (n + min most_told (1 + steps_in t.children)) ts in
    omega arith

height_are : (n : ℕ) (ts : List Tree) → min most_told (n + greatest (map shape_of ts)) ≡ min most_told (n + height_in (trees_of ts))
height_are n [] = refl
height_are n (t ∷ ts) =
    let a = height_are n ts in
    omega arith

shape_is : (a b c d : ℕ) → a ≡ c → b ≡ d → ◌≡◌ {A = Shape} (record { steps = a; height = b }) (record { steps = c; height = d })
shape_is a b c d e f =
    let g : ℕ → Shape = λ x. record { steps = x; height = b } in
    let h : ℕ → Shape = λ y. record { steps = c; height = y } in
    ap g e ∙ ap h f

pub joined_is : (l : ℕ) (ts : List Tree) → joined_shape (map shape_of ts) ≡ shape_of (tree l (trees_of ts))
joined_is l ts =
    shape_is (min most_told (1 + total (map shape_of ts))) (min most_told (1 + greatest (map shape_of ts))) (min most_told (1 + steps_in (trees_of ts))) (min most_told (1 + height_in (trees_of ts)))
    (steps_are 1 ts) (height_are 1 ts)

-- so far: the trees of the steps, and the stack
pub record Shaped (bytes : List ℕ) (all : List ProofStep) (trees stack : List Shape) (i : ℕ) : Type 0 where
  pub at : Folded
  pub goes : folded (arity_of bytes) nothing (plain_steps all) ≡ folded (arity_of bytes) at (drop i (plain_steps all))
  pub trees_are : trees ≡ map shape_of at.trees
  pub stack_are : stack ≡ map shape_of at.stack

label_stops : (arity : ℕ → ℕ) (f : Folded) (l : ℕ) → length f.stack < arity l → fold_step arity f (Label l) ≡ None
label_stops arity f l h =
    let b : has_enough arity f.stack l ≡ false = grind (arith, nat_tests) in
    ap (λ x. cond x (Some (pushed f (kept arity f.stack l) (joined arity f.stack l))) None) b

-- a step that takes more trees than there are
pub too_many : (bytes : List ℕ) (f : Folded) (k : StepKind) → length f.stack < takes bytes k → fold_step (arity_of bytes) f (plain k) ≡ None
too_many bytes f (kind.Hyp s) h = label_stops (arity_of bytes) f (s.0 + 1) h
too_many bytes f (kind.Apply s) h = label_stops (arity_of bytes) f (s.0 + 1) h
too_many bytes f (kind.Back n) h = absurd (omega arith)
too_many bytes f kind.Unknown h = absurd (omega arith)

-- what a step makes of the shapes
pub record Makes (f : Folded) (o : Option Folded) (trees stack : List Shape) (n : ℕ) (shape : Shape) : Type 0 where
  pub next : Folded
  pub is : o ≡ Some next
  pub trees_are : trees ++ shape ∷ [] ≡ map shape_of next.trees
  pub stack_are : take n stack ++ shape ∷ [] ≡ map shape_of next.stack

makes_pushed : (f : Folded) (trees stack : List Shape) (rest : List Tree) (t : Tree) (n : ℕ) (shape : Shape) → trees ≡ map shape_of f.trees → take n stack ≡ map shape_of rest → shape ≡ shape_of t
    → Makes f (Some (pushed f rest t)) trees stack n shape
makes_pushed f trees stack rest t n shape a b e = record {
  next = pushed f rest t;
  is = refl;
  trees_are = ap (λ x. x ++ shape ∷ []) a ∙ ap (λ x. map shape_of f.trees ++ x ∷ []) e ∙ sym (map_push shape_of f.trees t);
  stack_are = ap (λ x. x ++ shape ∷ []) b ∙ ap (λ x. map shape_of rest ++ x ∷ []) e ∙ sym (map_push shape_of rest t);
}

makes_label : (arity : ℕ → ℕ) (f : Folded) (trees stack : List Shape) (l n : ℕ) (shape : Shape) → trees ≡ map shape_of f.trees → stack ≡ map shape_of f.stack → arity l ≤ length f.stack
    → n ≡ length f.stack - arity l → shape ≡ joined_shape (drop n stack) → Makes f (fold_step arity f (Label l)) trees stack n shape
makes_label arity f trees stack l n shape a b enough is_n e =
    let yes : has_enough arity f.stack l ≡ true = grind (arith, nat_tests) in
    let P : Option Folded → Type 0 = λ o. Makes f o trees stack n shape in
    let Q : ℕ → Type 0 = λ m. Makes f (Some (pushed f (take m f.stack) (tree l (trees_of (drop m f.stack))))) trees stack n shape in
    subst P (sym (ap (λ x. cond x (Some (pushed f (kept arity f.stack l) (joined arity f.stack l))) None) yes))
    (subst Q is_n
    (makes_pushed f trees stack (take n f.stack) (tree l (trees_of (drop n f.stack))) n shape a
    (ap (take n) b ∙ take-map shape_of n f.stack)
    (e ∙ ap (λ x. joined_shape (drop n x)) b ∙ ap joined_shape (drop-map shape_of n f.stack) ∙ joined_is l (drop n f.stack))))

whole_taken : (f : Folded) (stack : List Shape) (n : ℕ) → stack ≡ map shape_of f.stack → n ≡ length f.stack - 0 → take n stack ≡ map shape_of f.stack
whole_taken f stack n b is_n =
    let e : length stack ≡ length f.stack = ap length b ∙ length-map f.stack shape_of in
    take_all n stack (omega arith) ∙ b

makes_back : (f : Folded) (trees stack : List Shape) (k n : ℕ) (shape : Shape) (o : Option Tree) → trees ≡ map shape_of f.trees → stack ≡ map shape_of f.stack → n ≡ length f.stack - 0
    → slice_get f.trees k ≡ o → option_map shape_of o ≡ Some shape → Makes f (onward o (λ t. Some (pushed f f.stack t))) trees stack n shape
makes_back f trees stack k n shape None a b is_n e h = absurd (none-some shape h)
makes_back f trees stack k n shape (Some t) a b is_n e h = makes_pushed f trees stack f.stack t n shape a (whole_taken f stack n b is_n) (sym (same_Some (shape_of t) shape h))

shape_got : (f : Folded) (trees : List Shape) (k : ℕ) → trees ≡ map shape_of f.trees → option_map shape_of (slice_get f.trees k) ≡ slice_get trees k
shape_got f trees k a = sym (slice_get-map shape_of f.trees k) ∙ ap (λ x. slice_get x k) (sym a)

pub makes : (bytes : List ℕ) (f : Folded) (trees stack : List Shape) (k : StepKind) (n : ℕ) (shape : Shape) → trees ≡ map shape_of f.trees → stack ≡ map shape_of f.stack → takes bytes k ≤ length f.stack
    → n ≡ length f.stack - takes bytes k → shape_at trees (drop n stack) k ≡ Some shape → Makes f (fold_step (arity_of bytes) f (plain k)) trees stack n shape
makes bytes f trees stack (kind.Hyp s) n shape a b enough is_n e = makes_label (arity_of bytes) f trees stack (s.0 + 1) n shape a b enough is_n (sym (same_Some (joined_shape (drop n stack)) shape e))
makes bytes f trees stack (kind.Apply s) n shape a b enough is_n e = makes_label (arity_of bytes) f trees stack (s.0 + 1) n shape a b enough is_n (sym (same_Some (joined_shape (drop n stack)) shape e))
makes bytes f trees stack (kind.Back k) n shape a b enough is_n e = makes_back f trees stack (k - 1) n shape (slice_get f.trees (k - 1)) a b is_n refl (shape_got f trees (k - 1) a ∙ e)
makes bytes f trees stack kind.Unknown n shape a b enough is_n e =
    let none_left : drop n stack ≡ [] = drop_all n stack (let l = ap length b ∙ length-map f.stack shape_of in omega arith) in
    makes_pushed f trees stack f.stack (tree 0 none) n shape a (whole_taken f stack n b is_n) (sym (same_Some (joined_shape (drop n stack)) shape e) ∙ ap joined_shape none_left ∙ joined_is 0 [])

-- a step that refers back to no step
pub makes_none : (bytes : List ℕ) (f : Folded) (trees children : List Shape) (k : StepKind) → trees ≡ map shape_of f.trees → shape_at trees children k ≡ None → fold_step (arity_of bytes) f (plain k) ≡ None
makes_none bytes f trees children (kind.Hyp s) a e = absurd (none-some (joined_shape children) (sym e))
makes_none bytes f trees children (kind.Apply s) a e = absurd (none-some (joined_shape children) (sym e))
makes_none bytes f trees children (kind.Back k) a e = by (slice_get f.trees (k - 1)) (shape_got f trees (k - 1) a ∙ e)
  where
    by : (o : Option Tree) → option_map shape_of o ≡ None → onward o (λ t. Some (pushed f f.stack t)) ≡ None
    by None h = refl
    by (Some t) h = absurd (none-some (shape_of t) (sym h))
makes_none bytes f trees children kind.Unknown a e = absurd (none-some (joined_shape children) (sym e))

pub goes_on : (bytes : List ℕ) (f : Folded) (all : List ProofStep) (i : ℕ) (s : ProofStep) (o : Option Folded) → i < length all → s ≡ get_or all i s → fold_step (arity_of bytes) f (plain s.kind) ≡ o
    → folded (arity_of bytes) f (drop i (plain_steps all)) ≡ onward o (λ next. folded (arity_of bytes) next (drop (i + 1) (plain_steps all)))
unfolding folded
goes_on bytes f all i s o at is h =
    ap (folded (arity_of bytes) f) (drop-map (λ s. plain s.kind) i all ∙ ap (map (λ s. plain s.kind)) (drop_more all i s at))
    ∙ ap (λ x. folded (arity_of bytes) f (plain x.kind ∷ map (λ s. plain s.kind) (drop (i + 1) all))) (sym is)
    ∙ ap (λ x. onward x (λ next. folded (arity_of bytes) next (map (λ s. plain s.kind) (drop (i + 1) all)))) h
    ∙ ap (λ x. onward o (λ next. folded (arity_of bytes) next x)) (sym (drop-map (λ s. plain s.kind) (i + 1) all))

pub shaped_more : (bytes : List ℕ) (all : List ProofStep) (trees stack : List Shape) (i n : ℕ) (s : ProofStep) (shape : Shape) → Shaped bytes all trees stack i → i < length all → s ≡ get_or all i s
    → takes bytes s.kind ≤ length stack → n ≡ length stack - takes bytes s.kind → shape_at trees (drop n stack) s.kind ≡ Some shape
    → Shaped bytes all (trees ++ shape ∷ []) (take n stack ++ shape ∷ []) (i + 1)
shaped_more bytes all trees stack i n s shape g at is enough is_n e =
    let count : length stack ≡ length g.at.stack = ap length g.stack_are ∙ length-map g.at.stack shape_of in
    let m = makes bytes g.at trees stack s.kind n shape g.trees_are g.stack_are (omega arith) (is_n ∙ ap (λ x. x - takes bytes s.kind) count) e in
    record { at = m.next; goes = g.goes ∙ goes_on bytes g.at all i s (Some m.next) at is m.is; trees_are = m.trees_are; stack_are = m.stack_are }

stopped : (bytes : List ℕ) (all : List ProofStep) → folded (arity_of bytes) nothing (plain_steps all) ≡ None → shape_by (trees_in bytes all) ≡ None
stopped bytes all h = ap (λ o. shape_by (onward o (λ f. Some f.stack))) h

pub shaped_few : (bytes : List ℕ) (all : List ProofStep) (trees stack : List Shape) (i : ℕ) (s : ProofStep) → Shaped bytes all trees stack i → i < length all → s ≡ get_or all i s
    → length stack < takes bytes s.kind → shape_by (trees_in bytes all) ≡ None
shaped_few bytes all trees stack i s g at is few =
    let count : length stack ≡ length g.at.stack = ap length g.stack_are ∙ length-map g.at.stack shape_of in
    stopped bytes all (g.goes ∙ goes_on bytes g.at all i s None at is (too_many bytes g.at s.kind (omega arith)))

pub shaped_none : (bytes : List ℕ) (all : List ProofStep) (trees stack children : List Shape) (i : ℕ) (s : ProofStep) → Shaped bytes all trees stack i → i < length all → s ≡ get_or all i s
    → shape_at trees children s.kind ≡ None → shape_by (trees_in bytes all) ≡ None
shaped_none bytes all trees stack children i s g at is h = stopped bytes all (g.goes ∙ goes_on bytes g.at all i s None at is (makes_none bytes g.at trees children s.kind g.trees_are h))

ended : (bytes : List ℕ) (f : Folded) (left : List Step) → left ≡ [] → folded (arity_of bytes) f left ≡ Some f
unfolding folded
ended bytes f left h = ap (folded (arity_of bytes) f) h

ends_as : (bytes : List ℕ) (all : List ProofStep) (trees stack : List Shape) (i : ℕ) (g : Shaped bytes all trees stack i) → length all ≤ i → shape_by (trees_in bytes all) ≡ shape_by (Some g.at.stack)
ends_as bytes all trees stack i g h =
    ap (λ o. shape_by (onward o (λ f. Some f.stack)))
    (g.goes ∙ ended bytes g.at (drop i (plain_steps all)) (drop_all i (plain_steps all) (let e = length-map all (λ s. plain s.kind) in omega arith)))

not_one : (ts : List Tree) → length ts ≢ 1 → shape_by (Some ts) ≡ None
not_one [] h = refl
not_one (t ∷ []) h = absurd (h refl)
not_one (t ∷ u ∷ ts) h = refl

is_one : (ts : List Tree) (ss : List Shape) (s : Shape) → length ts ≡ 1 → ss ≡ map shape_of ts → s ≡ get_or ss 0 s → shape_by (Some ts) ≡ Some s
is_one [] ss s h e is = absurd (omega arith)
is_one (t ∷ []) ss s h e is = ap (λ x. Some x) (sym (is ∙ ap (λ x. get_or x 0 s) e))
is_one (t ∷ u ∷ ts) ss s h e is = absurd (omega arith)

pub shaped_apart : (bytes : List ℕ) (all : List ProofStep) (trees stack : List Shape) (i : ℕ) → Shaped bytes all trees stack i → length all ≤ i → length stack ≢ 1 → shape_by (trees_in bytes all) ≡ None
shaped_apart bytes all trees stack i g h some =
    let count : length stack ≡ length g.at.stack = ap length g.stack_are ∙ length-map g.at.stack shape_of in
    ends_as bytes all trees stack i g h ∙ not_one g.at.stack (λ e. some (count ∙ e))

pub shaped_all : (bytes : List ℕ) (all : List ProofStep) (trees stack : List Shape) (i : ℕ) (s : Shape) → Shaped bytes all trees stack i → length all ≤ i → length stack ≡ 1 → s ≡ get_or stack 0 s
    → shape_by (trees_in bytes all) ≡ Some s
shaped_all bytes all trees stack i s g h one is =
    let count : length stack ≡ length g.at.stack = ap length g.stack_are ∙ length-map g.at.stack shape_of in
    ends_as bytes all trees stack i g h ∙ is_one g.at.stack stack s (omega arith) g.stack_are is

pub shaped_start : (bytes : List ℕ) (all : List ProofStep) (trees stack : List Shape) → trees ≡ [] → stack ≡ [] → Shaped bytes all trees stack 0
shaped_start bytes all trees stack a b = record { at = nothing; goes = refl; trees_are = a; stack_are = b }

-- `?` takes no tree
pub arity_none : (bytes : List ℕ) → arity_of bytes 0 ≡ 0
unfolding arity_of
arity_none bytes = refl
