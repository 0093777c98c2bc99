-- The search over frames.
use Rattle.std.proofs.Common.{ℕ, zero, suc, ◌+◌, ◌≡◌, ◌<◌, ◌≤◌, List, [], ◌∷◌, ◌++◌, true, false, map, take, length, reverse, Option, Some, None, IfNone, refl, sym, ap, ◌∙◌, subst, ◌⊎◌, arith, length-append, length-take}
use Rattle.std.specs.Prelude.{nat_lt}
use Rattle.std.specs.List.{AllByRecursion, list_any}
use Rattle.std.proofs.lemmas.List.{take_all}
use Rattle.std.proofs.lemmas.Bool.{or_from}
use Rattle.std.proofs.Math.Seq.{take-append_seam}
use Rattle.mm_subst.specs.declared.symbol.WSym.{WSym}
use Rattle.mm_subst.specs.declared.symbol.WSym.TheVariants.{Work}
use Rattle.mm_subst.specs.declared.brackets.Brackets.{Brackets}
use Rattle.mm_subst.specs.declared.brackets.Bracket.{Bracket}
use Rattle.mm_subst.specs.Symbols.{has_work}
use Rattle.mm_subst.specs.Applied.{most_symbols}
use Rattle.mm_subst.specs.Brackets.{is_opened_first, openings, closings}
use Rattle.mm_subst.specs.Substitutions.{Pairs}
use Rattle.mm_subst.proofs.Prefixes.{opened_first}
use Rattle.mm_subst.proofs.Replaced.{applied-empty}
use Rattle.mm_unify.specs.declared.bound.Bound.{Bound}
use Rattle.mm_unify.specs.declared.frame.Frame.{Frame}
use Rattle.mm_unify.specs.declared.frame.Kind.{Kind}
use Rattle.mm_unify.specs.declared.frame.Kind.TheVariants.{First, Whole, Longer}
use Rattle.mm_unify.specs.declared.listing.Ended.TheVariants.{Whole as Everything, Trials, Length}
use Rattle.mm_unify.specs.Unifying.{restricted}
use Rattle.mm_unify.specs.Variables.{numbers}
use Rattle.mm_unify.specs.Forbidden.{Forbidden, forbidden_by}
use Rattle.mm_unify.specs.Search.{Node, Answer, is_too_long, plain_count, visit, root}
use Rattle.mm_unify.specs.Listings.{answer}
use Rattle.mm_unify.specs.Trials.{is_spent, fewer}
use Rattle.mm_unify.specs.Parts.{IsPlain}
use Rattle.mm_unify.specs.Frames.{node_at, node_in, length_by, bound_path, first_of, StepFits, Fits, Visits}
use Rattle.mm_unify.proofs.Opened.{IsFair, fair_by, from_three, to_not}
use Rattle.mm_unify.proofs.Lists.{AllByRecursion-append}
use Rattle.mm_unify.proofs.Weight.{side_of}
use Rattle.mm_unify.proofs.Remains.{Remains, further, remains_first, remains_none, remains_zero, remains_long, remains_step, further_step}
use Rattle.mm_unify.proofs.Growing.{long_is}

-- no frame is deeper than a later one
abbrev pub Ordered : List Frame → Type 0
Ordered [] = Unit {0}
Ordered (f ∷ fs) = AllByRecursion (λ g. f.depth ≤ g.depth) fs × Ordered fs

pub record Searching (rule : Forbidden) (whole : Answer) (a b : List WSym) (path : List Bound) (frames : List Frame) (found : List Pairs) (left : Option ℕ) : Type 0 where
  pub stacked : AllByRecursion (λ f. (f.depth ≤ length path) × Fits rule a b (take f.depth path) f) frames
  pub ordered : Ordered frames
  pub remains : Remains rule whole found left (side_of (root a b)) (map (node_in a b path) frames)

last_of : (P : Frame → Type 0) (xs : List Frame) (f : Frame) → AllByRecursion P (xs ++ f ∷ []) → P f
last_of P [] f h = h.0
last_of P (x ∷ xs) f h = last_of P xs f h.1

front_of : (P : Frame → Type 0) (xs ys : List Frame) → AllByRecursion P (xs ++ ys) → AllByRecursion P xs
front_of P [] ys h = tt
front_of P (x ∷ xs) ys h = (h.0, front_of P xs ys h.1)

ordered_front : (xs : List Frame) (f : Frame) → Ordered (xs ++ f ∷ []) → Ordered xs
ordered_front [] f h = tt
ordered_front (x ∷ xs) f h = (front_of (λ g. x.depth ≤ g.depth) xs (f ∷ []) h.0, ordered_front xs f h.1)

below : (xs : List Frame) (f : Frame) → Ordered (xs ++ f ∷ []) → AllByRecursion (λ g. g.depth ≤ f.depth) xs
below [] f h = tt
below (x ∷ xs) f h = (last_of (λ g. x.depth ≤ g.depth) xs f h.0, below xs f h.1)

above : (d n : ℕ) → d ≤ n → (fs : List Frame) → AllByRecursion (λ g. g.depth ≡ n) fs → AllByRecursion (λ g. d ≤ g.depth) fs
above d n l [] h = tt
above d n l (f ∷ fs) h = (let e = h.0 in omega arith, above d n l fs h.1)

ordered_equal : (n : ℕ) (fs : List Frame) → AllByRecursion (λ g. g.depth ≡ n) fs → Ordered fs
ordered_equal n [] h = tt
ordered_equal n (f ∷ fs) h = (above f.depth n (let e = h.0 in omega arith) fs h.1, ordered_equal n fs h.1)

ordered_more : (m n : ℕ) → m ≤ n → (xs fs : List Frame) → Ordered xs → AllByRecursion (λ g. g.depth ≤ m) xs → AllByRecursion (λ g. g.depth ≡ n) fs → Ordered (xs ++ fs)
ordered_more m n l [] fs o h k = ordered_equal n fs k
ordered_more m n l (x ∷ xs) fs o h k =
    (AllByRecursion-append (λ g. x.depth ≤ g.depth) xs fs o.0 (above x.depth n (let e = h.0 in omega arith) fs k), ordered_more m n l xs fs o.1 h.1 k)

take-take : (X : Type 0) (m n : ℕ) (s : List X) → m ≤ n → take m (take n s) ≡ take m s
take-take X zero n s h = refl
take-take X (suc m) zero s h = absurd (omega arith)
take-take X (suc m) (suc n) [] h = refl
take-take X (suc m) (suc n) (c ∷ s) h = ap (λ t. c ∷ t) (take-take X m n s (omega arith))

-- frames that are not deeper than what stays of the path
same_take : (d m : ℕ) (path path' : List Bound) → d ≤ m → take m path' ≡ take m path → take d path' ≡ take d path
same_take d m path path' l e = sym (take-take Bound d m path' l) ∙ ap (take d) e ∙ take-take Bound d m path l

stack_kept : (rule : Forbidden) (a b : List WSym) (m : ℕ) (path path' : List Bound) → m ≤ length path' → take m path' ≡ take m path → (xs : List Frame) → AllByRecursion (λ g. g.depth ≤ m) xs →
    AllByRecursion (λ f. (f.depth ≤ length path) × Fits rule a b (take f.depth path) f) xs → AllByRecursion (λ f. (f.depth ≤ length path') × Fits rule a b (take f.depth path') f) xs
stack_kept rule a b m path path' l e [] h k = tt
stack_kept rule a b m path path' l e (f ∷ xs) h k =
    ((let i = h.0 in omega arith, subst (λ (q : List Bound). Fits rule a b q f) (sym (same_take f.depth m path path' h.0 e)) k.0.1), stack_kept rule a b m path path' l e xs h.1 k.1)

nodes_kept : (a b : List WSym) (m : ℕ) (path path' : List Bound) → take m path' ≡ take m path → (xs : List Frame) → AllByRecursion (λ g. g.depth ≤ m) xs → map (node_in a b path') xs ≡ map (node_in a b path) xs
nodes_kept a b m path path' e [] h = refl
nodes_kept a b m path path' e (f ∷ xs) h =
    ap (λ (q : List Bound). node_at a b q f ∷ map (node_in a b path') xs) (same_take f.depth m path path' h.0 e) ∙ ap (λ t. node_in a b path f ∷ t) (nodes_kept a b m path path' e xs h.1)

whole_take : (n : ℕ) (path : List Bound) → n ≡ length path → take n path ≡ path
whole_take n path e = take_all n path (omega arith)

nodes_fresh : (rule : Forbidden) (a b : List WSym) (path : List Bound) (fs : List Frame) → AllByRecursion (λ f. (f.depth ≡ length path) × Fits rule a b path f) fs → map (node_in a b path) fs ≡ map (node_at a b path) fs
nodes_fresh rule a b path [] h = refl
nodes_fresh rule a b path (f ∷ fs) h =
    ap (λ (q : List Bound). node_at a b q f ∷ map (node_in a b path) fs) (whole_take f.depth path h.0.0) ∙ ap (λ t. node_at a b path f ∷ t) (nodes_fresh rule a b path fs h.1)

stack_fresh : (rule : Forbidden) (a b : List WSym) (path : List Bound) (fs : List Frame) → AllByRecursion (λ f. (f.depth ≡ length path) × Fits rule a b path f) fs → AllByRecursion (λ f. (f.depth ≤ length path) × Fits rule a b (take f.depth path) f) fs
stack_fresh rule a b path [] h = tt
stack_fresh rule a b path (f ∷ fs) h =
    ((let e = h.0.0 in omega arith, subst (λ (q : List Bound). Fits rule a b q f) (sym (whole_take f.depth path h.0.0)) h.0.1), stack_fresh rule a b path fs h.1)

depths_of : (rule : Forbidden) (a b : List WSym) (path : List Bound) (fs : List Frame) → AllByRecursion (λ f. (f.depth ≡ length path) × Fits rule a b path f) fs → AllByRecursion (λ g. g.depth ≡ length path) fs
depths_of rule a b path [] h = tt
depths_of rule a b path (f ∷ fs) h = (h.0.0, depths_of rule a b path fs h.1)

map-append : (g : Frame → Node) (xs ys : List Frame) → map g (xs ++ ys) ≡ map g xs ++ map g ys
map-append g [] ys = refl
map-append g (x ∷ xs) ys = ap (λ t. g x ∷ t) (map-append g xs ys)

-- what binding does to the path
pub bound_keeps : (f : Frame) (path path' : List Bound) → f.depth ≤ length path → path' ≡ bound_path f.kind f path → (take f.depth path' ≡ take f.depth path) × (f.depth ≤ length path') × (path' ≡ bound_path f.kind f path')
bound_keeps f path path' d e = go f.kind e
  where
    l : length (take f.depth path) ≡ f.depth
    l = omega (arith, length-take f.depth path)

    go : (k : Kind) → path' ≡ bound_path k f path → (take f.depth path' ≡ take f.depth path) × (f.depth ≤ length path') × (path' ≡ bound_path k f path')
    go First e = let m = ap length e in let t = take_all f.depth path' (omega (arith, l)) in (t ∙ e, omega (arith, l), sym t)
    go Longer e = let m = ap length e in let t = take_all f.depth path' (omega (arith, l)) in (t ∙ e, omega (arith, l), sym t)
    go Whole e =
        let q : List Bound = record { number = f.number; from = f.from; to = f.to + 1 } ∷ [] in
        let m = ap length e in
        let t : take f.depth path' ≡ take f.depth path = ap (take f.depth) e ∙ ap (λ (n : ℕ). take n (take f.depth path ++ q)) (sym l) ∙ take-append_seam (take f.depth path) q in
        (t, omega (arith, l, length-append (take f.depth path) q), e ∙ ap (λ s. s ++ q) (sym t))

module _ (rule : Forbidden) (whole : Answer) (a b : List WSym) (path : List Bound) (frames xs : List Frame) (f : Frame) (found : List Pairs) (left : Option ℕ) (top : frames ≡ xs ++ f ∷ []) (h : Searching rule whole a b path frames found left) where
  stacked' : AllByRecursion (λ f. (f.depth ≤ length path) × Fits rule a b (take f.depth path) f) (xs ++ f ∷ [])
  stacked' = subst (AllByRecursion (λ f. (f.depth ≤ length path) × Fits rule a b (take f.depth path) f)) top h.stacked

  pub top_fits : (f.depth ≤ length path) × Fits rule a b (take f.depth path) f
  top_fits = last_of (λ f. (f.depth ≤ length path) × Fits rule a b (take f.depth path) f) xs f stacked'

  nodes_top : map (node_in a b path) frames ≡ map (node_in a b path) xs ++ node_in a b path f ∷ []
  nodes_top = ap (map (node_in a b path)) top ∙ map-append (node_in a b path) xs (f ∷ [])

  pub long_top : IsPlain b → is_too_long (node_in a b path f) ≡ nat_lt most_symbols (length_by f.kind f.from f.to)
  long_top plain = long_is rule a b plain (take f.depth path) f top_fits.1

  pub ends_spent : is_spent left ≡ true → (found ≡ whole.found) × (Trials ≡ whole.ended)
  ends_spent s = remains_zero rule whole found left (side_of (root a b)) (map (node_in a b path) frames) (map (node_in a b path) xs) (node_in a b path f) nodes_top s h.remains

  pub ends_long : is_spent left ≡ false → is_too_long (node_in a b path f) ≡ true → (found ≡ whole.found) × (Length ≡ whole.ended)
  ends_long s t = remains_long rule whole found left (side_of (root a b)) (map (node_in a b path) frames) (map (node_in a b path) xs) (node_in a b path f) s nodes_top t h.remains

  module _ (path' : List Bound) (frames' : List Frame) (found' : List Pairs) (kept : take f.depth path' ≡ take f.depth path) (v : Visits rule a b f path' path' xs frames' found found') where
    node_kept : node_in a b path' f ≡ node_in a b path f
    node_kept = ap (λ (q : List Bound). node_at a b q f) kept

    low : AllByRecursion (λ g. g.depth ≤ f.depth) xs
    low = below xs f (subst Ordered top h.ordered)

    nodes_now : map (node_in a b path') frames' ≡ map (node_in a b path) xs ++ reverse (visit rule (node_in a b path f)).children
    nodes_now =
        ap (map (node_in a b path')) v.adds.now_is
        ∙ map-append (node_in a b path') xs v.adds.fresh
        ∙ ap (λ t. t ++ map (node_in a b path') v.adds.fresh) (nodes_kept a b f.depth path path' kept xs low)
        ∙ ap (λ t. map (node_in a b path) xs ++ t) (nodes_fresh rule a b path' v.adds.fresh v.adds.fit ∙ v.adds.nodes ∙ ap (λ n. reverse (visit rule n).children) node_kept)

    found_now : found' ≡ found ++ (visit rule (node_in a b path f)).found
    found_now = v.found_is ∙ ap (λ n. found ++ (visit rule n).found) node_kept

    pub goes_on : is_spent left ≡ false → is_too_long (node_in a b path f) ≡ false → Searching rule whole a b path' frames' found' (fewer left)
    goes_on s t = record {
      stacked = subst (AllByRecursion (λ f. (f.depth ≤ length path') × Fits rule a b (take f.depth path') f)) (sym v.adds.now_is)
          (AllByRecursion-append (λ f. (f.depth ≤ length path') × Fits rule a b (take f.depth path') f) xs v.adds.fresh
          (stack_kept rule a b f.depth path path' v.deep kept xs low (front_of (λ f. (f.depth ≤ length path) × Fits rule a b (take f.depth path) f) xs (f ∷ []) stacked'))
          (stack_fresh rule a b path' v.adds.fresh v.adds.fit));
      ordered = subst Ordered (sym v.adds.now_is) (ordered_more f.depth (length path') v.deep xs v.adds.fresh (ordered_front xs f (subst Ordered top h.ordered)) low (depths_of rule a b path' v.adds.fresh v.adds.fit));
      remains = remains_step rule whole found found' left (side_of (root a b)) (map (node_in a b path) frames) (map (node_in a b path) xs) (map (node_in a b path') frames') (node_in a b path f) s nodes_top t nodes_now found_now h.remains;
    }

    pub gets_less : is_spent left ≡ false → further (fewer left) (side_of (root a b)) (map (node_in a b path') frames') < further left (side_of (root a b)) (map (node_in a b path) frames)
    gets_less s = further_step rule whole found left (side_of (root a b)) (map (node_in a b path) frames) (map (node_in a b path) xs) (map (node_in a b path') frames') (node_in a b path f) s nodes_top nodes_now h.remains

pub ends_whole : (rule : Forbidden) (whole : Answer) (a b : List WSym) (path : List Bound) (frames : List Frame) (found : List Pairs) (left : Option ℕ) → frames ≡ [] → Searching rule whole a b path frames found left → (found ≡ whole.found) × (Everything ≡ whole.ended)
ends_whole rule whole a b path frames found left e h = remains_none rule whole found left (side_of (root a b)) (map (node_in a b path) frames) (ap (map (node_in a b path)) e) h.remains

selves_short : (ms : List ℕ) → list_any (λ (q : WSym × List WSym). nat_lt most_symbols (length q.1)) (restricted [] ms) ≡ false
selves_short [] = refl
selves_short (m ∷ ms) = selves_short ms

opened_nothing : (b : Bracket) → is_opened_first b [] ≡ true
opened_nothing b = opened_first b [] (λ k l.
    let e : take k [] ≡ [] = take_all {A = WSym} k [] (omega arith) in
    let P : List WSym → Type 0 = λ s. closings b s ≤ openings b s in
    subst P (sym e) (let z : 0 ≤ 0 = omega arith in z))

nothing_early : (o : Option Brackets) → (forbidden_by o).so_far [] ≡ false
nothing_early None = refl
nothing_early (Some bs) = to_not _ (from_three bs [] (opened_nothing bs.round) (opened_nothing bs.curly) (opened_nothing bs.square))

selves_fine : (rule : Forbidden) → IsFair rule → rule.so_far [] ≡ false → (ms : List ℕ) → list_any (λ (q : WSym × List WSym). rule.so_far q.1) (restricted [] ms) ≡ false
selves_fine rule fair e [] = refl
selves_fine rule fair e (m ∷ ms) =
    or_from (rule.so_far (Work m ∷ [])) (list_any (λ (q : WSym × List WSym). rule.so_far q.1) (restricted [] ms)) (fair.neutral [] (Work m) refl e) (selves_fine rule fair e ms)

pub begins : (o : Option Brackets) (a b : List WSym) (trials : Option ℕ) (total : ℕ) (path : List Bound) (frames : List Frame) (found : List Pairs) → IfNone trials ((has_work a ≡ false) ⊎ (has_work b ≡ false)) → total ≡ plain_count a → path ≡ [] → frames ≡ first_of total ∷ [] → found ≡ [] →
    Searching (forbidden_by o) (answer (forbidden_by o) trials a b) a b path frames found trials
begins o a b trials total path frames found side t p f e =
    subst (λ (q : List Bound). Searching (forbidden_by o) (answer (forbidden_by o) trials a b) a b q frames found trials) (sym p)
    (subst (λ (fs : List Frame). Searching (forbidden_by o) (answer (forbidden_by o) trials a b) a b [] fs found trials) (sym f) (record {
      stacked = ((omega arith, fits), tt);
      ordered = (tt, tt);
      remains = remains_first (forbidden_by o) trials a b (map (node_in a b []) (first_of total ∷ [])) found side nodes e;
    }))
  where
    fits : Fits (forbidden_by o) a b [] (first_of total)
    fits = record {
      step = (refl, refl);
      within = tt;
      short = selves_short (numbers (a ++ b));
      total = t ∙ ap plain_count (sym (applied-empty a));
      early = sym (selves_fine (forbidden_by o) (fair_by o) (nothing_early o) (numbers (a ++ b)));
    }

    nodes : map (node_in a b []) (first_of total ∷ []) ≡ root a b ∷ []
    nodes = ap (λ s. record { left = s; right = b; values = restricted [] (numbers (a ++ b)) } ∷ []) (applied-empty a)

-- a frame's last symbol is in the target
pub to_within : (rule : Forbidden) (a b : List WSym) (path : List Bound) (f : Frame) → Fits rule a b path f → f.to ≤ length b
to_within rule a b path f h = go f.kind h.step
  where
    go : (k : Kind) → StepFits k rule a b path f → f.to ≤ length b
    go First s = let e = s.1 in omega arith
    go Whole s = let l = s.1 in omega arith
    go Longer s = let l = s.1 in omega arith

pub none_any : (o : Option ℕ) (P : Type 0) → P → IfNone o P
none_any None P p = p
none_any (Some n) P p = tt
