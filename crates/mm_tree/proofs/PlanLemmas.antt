-- Plans: what is kept of their trees, and the nodes that their steps make.
use Rattle.std.proofs.Common.{◌≡◌, ℕ, ◌+◌, ◌-◌, ◌≤◌, ◌<◌, List, [], ◌∷◌, ◌++◌, map, take, drop, length, get_or, refl, sym, ◌∙◌, ap, subst, arith}
use Rattle.std.specs.List.{sum_by}
use Rattle.std.proofs.lemmas.List.{map-append, take-map, drop-map, length-map, get_or-map, length_push, get_or_read, drop_more, take_rest}
use Rattle.std.proofs.lemmas.List.Sums.{sum_by_push, sum_by-cons}
use Rattle.std.specs.declared.rc.Rc.{Rc}
use Rattle.std.specs.declared.alloc.Global.{Global}
use Rattle.mm_subst.specs.declared.symbol.WSym.{WSym}
use Rattle.mm_subst.specs.Substitutions.{Pairs}
use Rattle.mm_plain.specs.declared.plain.Plain.{Plain}
use Rattle.mm_plain.specs.Shape.{Proof, height_of, known, size_of, target_of}
use Rattle.mm_plain.specs.Valid.{most_levels, most_steps, most_works}
use Rattle.mm_plain.proofs.Equations.{size_of-known, sum_by-map, target_of-known}
use Rattle.mm_tree.specs.Lines.{Line}
use Rattle.mm_tree.specs.Meanings.{known_timed, mean}
use Rattle.mm_tree.specs.Plans.{AreFit, Grove, IsFit, IsNew, IsNoteOf, IsPlan, IsThere, grove_of, grown, kept_of, no_grove, no_tree, note_of, stay_of, timed_by, tree_by, with_step, with_steps}
use Rattle.mm_tree.specs.Versions.{IsSound}
use Rattle.mm_tree.specs.View.{Shared, values, counts}
use Rattle.mm_tree.specs.Written.{written}
use Rattle.mm_tree.specs.declared.plan.Note.{Note}
use Rattle.mm_tree.specs.declared.plan.Plan.{Plan}
use Rattle.mm_tree.specs.declared.plan.PlanStep.{PlanStep}
use Rattle.mm_tree.specs.declared.plan.PlanStep.TheVariants.{Known, Again}
use Rattle.mm_tree.specs.declared.timed.Text.{Text}
use Rattle.mm_tree.specs.declared.timed.Values.{Values}
use Rattle.mm_tree.specs.declared.timed.TimedTree.{TimedTree}
use Rattle.mm_tree.proofs.Keeping.{values-append}
use Rattle.mm_tree.proofs.RowLemmas.{as_many, values_left, values_taken}
use Rattle.mm_tree.proofs.Written.{count-written, counts-made, mean-written, tall-written, written-known, young-written}
use Rattle.mm_tree.proofs.BegunLemmas.{popped_root}

-- one step more

steps-append : (os : List PlanStep) (o : PlanStep) (g : Grove) → with_steps (os ++ o ∷ []) g ≡ with_step o (with_steps os g)
steps-append [] o g = refl
steps-append (p ∷ os) o g = steps-append os o (with_step p g)

fit-append : (os : List PlanStep) (o : PlanStep) (g : Grove) → AreFit g os → IsFit (with_steps os g) o → sum_by size_of (with_step o (with_steps os g)).standing ≤ most_steps → AreFit g (os ++ o ∷ [])
fit-append [] o g h f few = (h, f, few)
fit-append (p ∷ os) o g h f few = (h.0, h.1, fit-append os o (with_step p g) h.2 f few)

pub fit-few : (os : List PlanStep) (g : Grove) → AreFit g os → sum_by size_of g.standing ≤ most_steps
fit-few [] g h = h
fit-few (o ∷ os) g h = h.0

-- what is kept of trees

cut-same : (n : ℕ) (ns : List Note) (xs : List Plain) → map kept_of ns ≡ map note_of xs → map kept_of (take n ns) ≡ map note_of (take n xs)
cut-same n ns xs e = sym (take-map kept_of n ns) ∙ ap (take n) e ∙ take-map note_of n xs

left-same : (n : ℕ) (ns : List Note) (xs : List Plain) → map kept_of ns ≡ map note_of xs → map kept_of (drop n ns) ≡ map note_of (drop n xs)
left-same n ns xs e = sym (drop-map kept_of n ns) ∙ ap (drop n) e ∙ drop-map note_of n xs

more-same : (ns : List Note) (xs : List Plain) (n : Note) (x : Plain) → map kept_of ns ≡ map note_of xs → kept_of n ≡ note_of x → map kept_of (ns ++ n ∷ []) ≡ map note_of (xs ++ x ∷ [])
more-same ns xs n x e k =
    map-append kept_of ns (n ∷ [])
    ∙ ap (λ (l : List (Text × ℕ)). l ++ kept_of n ∷ []) e
    ∙ ap (λ (v : Text × ℕ). map note_of xs ++ v ∷ []) k
    ∙ sym (map-append note_of xs (x ∷ []))

pub many-same : (ns : List Note) (xs : List Plain) → map kept_of ns ≡ map note_of xs → length ns ≡ length xs
many-same ns xs e = sym (length-map ns kept_of) ∙ ap length e ∙ length-map xs note_of

sums-same : (ns : List Note) (xs : List Plain) → map kept_of ns ≡ map note_of xs → sum_by (λ (n : Note). n.steps) ns ≡ sum_by size_of xs
sums-same ns xs e =
    sym (sum_by-map (λ (v : Text × ℕ). v.1) kept_of ns) ∙ ap (sum_by (λ (v : Text × ℕ). v.1)) e ∙ sum_by-map (λ (v : Text × ℕ). v.1) note_of xs

pub sums-left : (n : ℕ) (ns : List Note) (xs : List Plain) → map kept_of ns ≡ map note_of xs → sum_by (λ (n : Note). n.steps) (drop n ns) ≡ sum_by size_of (drop n xs)
sums-left n ns xs e = sums-same (drop n ns) (drop n xs) (left-same n ns xs e)

pub note-at : (ns : List Note) (xs : List Plain) (i : ℕ) (n : Note) (d : Plain) → map kept_of ns ≡ map note_of xs → i < length xs → n ≡ get_or ns i n → kept_of n ≡ note_of (get_or xs i d)
note-at ns xs i n d e l h =
    ap kept_of h
    ∙ sym (get_or-map kept_of ns i n (note_of d) (omega (arith, l, many-same ns xs e)))
    ∙ ap (λ (vs : List (Text × ℕ)). get_or vs i (note_of d)) e
    ∙ get_or-map note_of xs i d (note_of d) l

pub grove-more : (p q : Plan) (o : PlanStep) (stay : ℕ) → stay ≡ stay_of o (length (grove_of p).standing) → q.items.items ≡ p.items.items ++ o ∷ [] → grove_of q ≡ grown (grove_of p) stay (tree_by o (grove_of p))
grove-more p q o stay s e =
    ap (λ (os : List PlanStep). with_steps os no_grove) e ∙ steps-append p.items.items o no_grove
    ∙ ap (λ (n : ℕ). grown (grove_of p) n (tree_by o (grove_of p))) (sym s)

pub plan-more : (p q : Plan) (o : PlanStep) (stay total : ℕ) (n m : Note) → IsPlan p → stay ≡ stay_of o (length (grove_of p).standing) → IsFit (grove_of p) o
    → IsNoteOf n (tree_by o (grove_of p)) → kept_of m ≡ kept_of n → total ≡ sum_by size_of (take stay (grove_of p).standing) + n.steps → total ≤ most_steps
    → sum_by size_of (grove_of p).standing < total → q.items.items ≡ p.items.items ++ o ∷ [] → q.standing.items ≡ take stay p.standing.items ++ n ∷ []
    → q.made.items ≡ p.made.items ++ m ∷ [] → q.total ≡ total → IsPlan q
plan-more p q o stay total n m h s f note same t few more items standing made is =
    let g : Grove = grove_of p in
    let x : Plain = tree_by o g in
    let whole : grove_of q ≡ grown g stay x = grove-more p q o stay s items in
    let sized : n.steps ≡ size_of x = ap (λ (v : Text × ℕ). v.1) note in
    let sum : sum_by size_of (take stay g.standing ++ x ∷ []) ≡ total = sum_by_push size_of (take stay g.standing) x ∙ ap (λ (k : ℕ). sum_by size_of (take stay g.standing) + k) (sym sized) ∙ sym t in
    record {
      standing = ap (map kept_of) standing ∙ more-same (take stay p.standing.items) (take stay g.standing) n x (cut-same stay p.standing.items g.standing h.standing) note
          ∙ ap (λ (v : Grove). map note_of v.standing) (sym whole);
      made = ap (map kept_of) made ∙ more-same p.made.items g.made m x h.made (same ∙ note) ∙ ap (λ (v : Grove). map note_of v.made) (sym whole);
      total = is ∙ sym sum ∙ ap (λ (v : Grove). sum_by size_of v.standing) (sym whole);
      fit = subst (λ (os : List PlanStep). AreFit no_grove os) (sym items)
          (fit-append p.items.items o no_grove h.fit f
          (subst (λ (k : ℕ). sum_by size_of (take k g.standing ++ x ∷ []) ≤ most_steps) s (subst (λ (k : ℕ). k ≤ most_steps) (sym sum) few)));
      own = (let own = h.own in let old = h.total in omega (arith, own, old, more, is, ap length items, length_push p.items.items o));
    }

-- the nodes of steps

-- the nodes are those of trees that stand, behind which the steps that are left make what all steps make
pub record Lays (all left : List PlanStep) (standing made : List Shared) : Type 0 where
  pub grove : Grove
  pub standing_are : values standing ≡ map (written 0) grove.standing
  pub made_are : values made ≡ map (written 0) grove.made
  pub goes : with_steps left grove ≡ with_steps all no_grove
  pub fit : AreFit grove left

pub lays-start : (all : List PlanStep) (standing made : List Shared) → standing ≡ [] → made ≡ [] → AreFit no_grove all → Lays all all standing made
lays-start all standing made s m fit = record { grove = no_grove; standing_are = ap values s; made_are = ap values m; goes = refl; fit = fit }

text-new : (t : Text) → t.birth ≡ 0 → t ≡ record { birth = 0; string = t.string }
text-new t e = ap (λ (n : ℕ). record { birth = n; string = t.string }) e

values-new : (s : Values) → s.birth ≡ 0 → s ≡ record { birth = 0; pairs = s.pairs }
values-new s e = ap (λ (n : ℕ). record { birth = n; pairs = s.pairs }) e

-- a step's node is that of its tree
tree-node : (g : Grove) (o : PlanStep) (standing made : List Shared) → values standing ≡ map (written 0) g.standing → values made ≡ map (written 0) g.made → IsFit g o
    → timed_by o (values standing) (values made) ≡ written 0 (tree_by o g)
tree-node g (Known t l s takes) standing made sa ma fit =
    let kept : ℕ = length g.standing - takes in
    let new = fit.0 in
    ap (λ (xs : List TimedTree). known_timed t.value l s.value (drop (length xs - takes) xs)) sa
    ∙ ap (λ (k : ℕ). known_timed t.value l s.value (drop (k - takes) (map (written 0) g.standing))) (length-map g.standing (written 0))
    ∙ ap (λ (xs : List TimedTree). known_timed t.value l s.value xs) (drop-map (written 0) kept g.standing)
    ∙ ap (λ (u : Text). known_timed u l s.value (map (written 0) (drop kept g.standing))) (text-new t.value new.0)
    ∙ ap (λ (u : Values). known_timed (record { birth = 0; string = t.value.string }) l u (map (written 0) (drop kept g.standing))) (values-new s.value new.1)
    ∙ sym (written-known 0 t.value.string l s.value.pairs (drop kept g.standing))
tree-node g (Again k) standing made sa ma fit =
    ap (λ (xs : List TimedTree). get_or xs k (written 0 no_tree)) ma ∙ get_or-map (written 0) g.made k no_tree (written 0 no_tree) fit.1

pub lays-small : (all left : List PlanStep) (standing made : List Shared) → Lays all left standing made → counts standing ≤ most_steps
lays-small all left standing made h = omega (arith, counts-made 0 h.grove.standing standing h.standing_are, fit-few left h.grove h.fit)

there-by : (o : PlanStep) (n m : ℕ) → n ≡ m → IsThere n o → IsThere m o
there-by o n m e h = subst (λ (k : ℕ). IsThere k o) e h

pub lays-there : (all left : List PlanStep) (o : PlanStep) (standing made : List Shared) → Lays all (o ∷ left) standing made → IsThere (length made) o
lays-there all left o standing made h = there-by o (length h.grove.made) (length made) (sym (as_many made h.grove.made h.made_are)) h.fit.1.1

pub lays-more : (all left : List PlanStep) (o : PlanStep) (standing made cut standing2 made2 : List Shared) (node again : Shared) → Lays all (o ∷ left) standing made
    → node.value ≡ timed_by o (values standing) (values made) → cut ≡ take (stay_of o (length standing)) standing → again.value ≡ node.value
    → standing2 ≡ cut ++ node ∷ [] → made2 ≡ made ++ again ∷ [] → Lays all left standing2 made2
lays-more all left o standing made cut standing2 made2 node again h is c same s m =
    let g : Grove = h.grove in
    let x : Plain = tree_by o g in
    let n : ℕ = stay_of o (length g.standing) in
    let e : node.value ≡ written 0 x = is ∙ tree-node g o standing made h.standing_are h.made_are h.fit.1 in
    let long : stay_of o (length standing) ≡ n = ap (stay_of o) (as_many standing g.standing h.standing_are) in
    record {
      grove = with_step o g;
      standing_are = ap values s ∙ values-append cut (node ∷ [])
          ∙ ap (λ (vs : List TimedTree). vs ++ node.value ∷ []) (ap values c ∙ ap (λ (k : ℕ). values (take k standing)) long ∙ values_taken n standing g.standing h.standing_are)
          ∙ ap (λ (v : TimedTree). map (written 0) (take n g.standing) ++ v ∷ []) e
          ∙ sym (map-append (written 0) (take n g.standing) (x ∷ []));
      made_are = ap values m ∙ values-append made (again ∷ [])
          ∙ ap (λ (vs : List TimedTree). vs ++ again.value ∷ []) h.made_are
          ∙ ap (λ (v : TimedTree). map (written 0) g.made ++ v ∷ []) (same ∙ e)
          ∙ sym (map-append (written 0) g.made (x ∷ []));
      goes = h.goes;
      fit = h.fit.2;
    }

pub lays-all : (all left : List PlanStep) (standing made : List Shared) → Lays all left standing made → left ≡ [] → values standing ≡ map (written 0) (with_steps all no_grove).standing
lays-all all left standing made h none =
    h.standing_are ∙ ap (λ (v : Grove). map (written 0) v.standing) (ap (λ (os : List PlanStep). with_steps os h.grove) (sym none) ∙ h.goes)

-- the same note, and the steps that it keeps

pub kept-same : (a b : Note) → (a.text.value ≡ b.text.value) × (a.steps ≡ b.steps) → kept_of a ≡ kept_of b
kept-same a b h = ap (λ (t : Text). (t, a.steps)) h.0 ∙ ap (λ (n : ℕ). (b.text.value, n)) h.1

pub kept-steps : (n : Note) (x : Plain) → kept_of n ≡ note_of x → n.steps ≡ size_of x
kept-steps n x e = ap (λ (v : Text × ℕ). v.1) e

pub kept-text : (n : Note) (x : Plain) → kept_of n ≡ note_of x → n.text.value.string ≡ target_of x
kept-text n x e = ap (λ (v : Text × ℕ). v.0.string) e

-- a known step over the last nodes

pub known-timed : (o : PlanStep) (t : Rc Text Global) (l : ℕ) (s : Rc Values Global) (takes n : ℕ) (standing kids made : List Shared) → o ≡ Known t l s takes → n ≡ length standing - takes → kids ≡ drop n standing
    → known_timed t.value l s.value (values kids) ≡ timed_by o (values standing) (values made)
known-timed o t l s takes n standing kids made is e h =
    let node : List TimedTree → TimedTree = known_timed t.value l s.value in
    ap (λ (ks : List Shared). node (values ks)) h
    ∙ ap (λ (k : ℕ). node (values (drop k standing))) e
    ∙ ap node (sym (drop-map (λ (r : Shared). r.value) (length standing - takes) standing))
    ∙ ap (λ (k : ℕ). node (drop (k - takes) (values standing))) (sym (length-map standing (λ (r : Shared). r.value)))
    ∙ ap (λ (p : PlanStep). timed_by p (values standing) (values made)) (sym is)

-- what is kept of a known step over the trees behind the first ones

pub sums-behind : (ds ns : List Note) (xs : List Plain) (stay n : ℕ) → ds ≡ ns → map kept_of ns ≡ map note_of xs → stay ≡ n
    → sum_by (λ (n : Note). n.steps) (take (length ds - stay) (drop stay ds)) ≡ sum_by size_of (drop n xs)
sums-behind ds ns xs stay n h e s =
    ap (sum_by (λ (n : Note). n.steps)) (take_rest ds stay)
    ∙ ap (λ (ls : List Note). sum_by (λ (n : Note). n.steps) (drop stay ls)) h
    ∙ sums-left stay ns xs e
    ∙ ap (λ (k : ℕ). sum_by size_of (drop k xs)) s

pub known-note : (n : Note) (t : Text) (target : List WSym) (l : ℕ) (s : Pairs) (xs : List Plain) → n.text.value ≡ record { birth = 0; string = target } → t ≡ n.text.value
    → n.steps ≡ sum_by size_of xs + 1 → IsNoteOf n (known t.string l s xs)
known-note n t target l s xs is same many =
    let x : Plain = known t.string l s xs in
    let string : target ≡ target_of x = sym (ap (λ (u : Text). u.string) (same ∙ is)) ∙ sym (target_of-known t.string l s xs) in
    ap (λ (u : Text). (u, n.steps)) is
    ∙ ap (λ (u : List WSym). (record { birth = 0; string = u }, n.steps)) string
    ∙ ap (λ (k : ℕ). (record { birth = 0; string = target_of x }, k)) (many ∙ sym (size_of-known t.string l s xs))

-- the one tree that stands

pub alone : (xs : List Plain) → length xs ≡ 1 → xs ≡ get_or xs 0 no_tree ∷ []
alone [] h = absurd (omega (arith, h))
alone (x ∷ []) h = refl
alone (x ∷ y ∷ xs) h = absurd (omega (arith, h))

fit-all : (os : List PlanStep) (g : Grove) → AreFit g os → sum_by size_of (with_steps os g).standing ≤ most_steps
fit-all [] g h = h
fit-all (o ∷ os) g h = fit-all os (with_step o g) h.2

pub alone-size : (xs : List Plain) → length xs ≡ 1 → sum_by size_of xs ≡ size_of (get_or xs 0 no_tree)
alone-size xs h = omega (arith, ap (sum_by size_of) (alone xs h), sum_by-cons size_of (get_or xs 0 no_tree) [])

pub root-is : (xs : List Plain) (nodes rest : List Shared) (root : Shared) → length xs ≡ 1 → values nodes ≡ map (written 0) xs → nodes ≡ rest ++ root ∷ [] → root.value ≡ written 0 (get_or xs 0 no_tree)
root-is xs nodes rest root one e h = popped_root nodes rest root (written 0 (get_or xs 0 no_tree)) (e ∙ ap (map (written 0)) (alone xs one)) h

pub planned-sound : (p : Plan) (y : TimedTree) (n next : ℕ) → IsPlan p → length (grove_of p).standing ≡ 1 → height_of (get_or (grove_of p).standing 0 no_tree) ≤ most_levels → 1 ≤ next → next ≤ most_works + 1
    → y ≡ written 0 (get_or (grove_of p).standing 0 no_tree) → IsSound y n next
planned-sound p y n next h one low first last e =
    let x : Plain = get_or (grove_of p).standing 0 no_tree in
    let fit = h.fit in
    subst (λ (z : TimedTree). IsSound z n next) (sym e) (record {
      born = omega (arith, young-written 0 x);
      few = omega (arith, count-written 0 x, alone-size (grove_of p).standing one, fit-all p.items.items no_grove fit);
      low = omega (arith, low, tall-written 0 x);
      first = first;
      last = last;
    })

pub planned-proof : (x : Plain) (y : TimedTree) (line : Line) (next : ℕ) (p : Proof) → y ≡ written 0 x → line ≡ [] → p ≡ record { plain = mean y line; next = next } → p ≡ record { plain = x; next = next }
planned-proof x y line next p e none h =
    h ∙ ap (λ (z : TimedTree). record { plain = mean z line; next = next }) e
    ∙ ap (λ (t : Plain). record { plain = t; next = next }) (mean-written 0 line (omega (arith, ap length none)) x)
