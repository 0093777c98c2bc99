-- Walking a chain of nodes.
use Rattle.std.proofs.Common.{◌≡◌, ◌≢◌, ℕ, zero, suc, ◌-◌, ◌<◌, ◌≤◌, ◌⊎◌, inl, inr, Bool, true, false, ◌||◌, List, [], ◌∷◌, ◌++◌, length, map, reverse, get_or, take, All, refl, sym, ap, ◌∙◌, arith, length-append, nat_eq, ◌^◌, ◌+◌, lit<, Option, None, Some}
use Rattle.std.specs.List.{list_any}
use Rattle.std.specs.Option.{MatchOption, unwrap_or}
use Rattle.std.proofs.Math.ListN.{get_or-eq_default}
use Rattle.std.proofs.lemmas.Grind.{common_steps}
use Rattle.std.proofs.lemmas.List.{reverse-append, length-reverse, get_or-reverse, length-map, take-map}
use Rattle.std.proofs.lemmas.List.Elements.{All-tail}
use Rattle.std.proofs.lemmas.List.Folds.{list_any-append}
use Rattle.std.proofs.lemmas.Bool.{eq-eqb, ne_eqb}
use Rattle.mm_tables.specs.declared.trail.Node.{Node}
use Rattle.mm_tables.specs.Trails.{chain, trail, Falls, LinksFall, AreChains, layers_of}
use Rattle.mm_tables.specs.Layered.{pushed, ended}

-- a newer node is passed over
passed : (node : Node) (older : List Node) (top : ℕ) → top ≤ length older → chain (node ∷ older) top ≡ chain older top
unfolding chain
passed node older top h = grind (arith, common_steps)

newest : (node : Node) (older : List Node) (top : ℕ) → top ≡ suc (length older) → chain (node ∷ older) top ≡ chain older node.below ++ node.value ∷ []
unfolding chain
newest node older top h = grind (arith, common_steps)

none : (nodes : List Node) → chain nodes 0 ≡ []
unfolding chain
none [] = refl
none (node ∷ older) = grind (arith, common_steps, none older)

-- from a node the chain goes on below it
record Splits (nodes : List Node) (top : ℕ) (node : Node) : Type 0 where
  whole : chain nodes top ≡ chain nodes node.below ++ node.value ∷ []
  earlier : node.below < top

below_or : (k n : ℕ) → k < suc n → (k < n) ⊎ (k ≡ n)
below_or k n h = grind (arith, h)

at_first : (node : Node) (older : List Node) (i : ℕ) (d : Node) → i ≡ 0 → get_or (node ∷ older) i d ≡ node
at_first node older i d h = rw h refl

at_later : (node : Node) (older : List Node) (i j : ℕ) (d : Node) → i ≡ suc j → get_or (node ∷ older) i d ≡ get_or older j d
at_later node older i j d h = rw h refl

splits_at : (nodes : List Node) (k : ℕ) (d : Node) → Falls nodes → k < length nodes → Splits nodes (suc k) (get_or nodes (length nodes - 1 - k) d)
unfolding Falls
splits_at [] k d falls h = absurd (omega (arith, h))
splits_at (node ∷ older) k d falls h = elim (below_or k (length older) h) [
  | inl small ↦
      let before = splits_at older k d falls.1 small in
      let same : get_or (node ∷ older) (length (node ∷ older) - 1 - k) d ≡ get_or older (length older - 1 - k) d =
      at_later node older (length (node ∷ older) - 1 - k) (length older - 1 - k) d (omega (arith, small)) in
      rw same record {
        whole = passed node older (suc k) small ∙ before.whole
            ∙ ap (λ xs. xs ++ (get_or older (length older - 1 - k) d).value ∷ []) (sym (passed node older (get_or older (length older - 1 - k) d).below (omega (arith, before.earlier, small))));
        earlier = before.earlier;
      }
  | inr last ↦
      let same : get_or (node ∷ older) (length (node ∷ older) - 1 - k) d ≡ node = at_first node older (length (node ∷ older) - 1 - k) d (omega (arith, last)) in
      rw same record {
        whole = newest node older (suc k) (ap suc last) ∙ ap (λ xs. xs ++ node.value ∷ []) (sym (passed node older node.below falls.0));
        earlier = omega (arith, falls.0, last);
      }
]

mirrored : (n m k : ℕ) → m ≡ n → suc k ≤ n → n - 1 - (m - 1 - k) ≡ suc k - 1
mirrored n m k e h = omega (arith, e, h)

-- what a node of a chain parts: what is below it, and its value
pub record Parts (nodes : List Node) (top : ℕ) (node : Node) : Type 0 where
  pub whole : trail nodes top ≡ trail nodes node.below ++ node.value ∷ []
  pub earlier : node.below < top

pub parts : (nodes : List Node) (top : ℕ) (d : Node) → LinksFall nodes → top ≢ 0 → top ≤ length nodes → Parts nodes top (get_or nodes (top - 1) d)
parts nodes zero d falls some h = absurd (some refl)
parts nodes (suc k) d falls some h =
    let small : k < length (reverse nodes) = omega (arith, length-reverse nodes) in
    let same : get_or (reverse nodes) (length (reverse nodes) - 1 - k) d ≡ get_or nodes (suc k - 1) d =
    get_or-reverse nodes (length (reverse nodes) - 1 - k) d (omega (arith, length-reverse nodes, small))
    ∙ ap (λ i. get_or nodes i d) (mirrored (length nodes) (length (reverse nodes)) k (length-reverse nodes) h) in
    let found = rw same at (splits_at (reverse nodes) k d falls small) in
    record { whole = found.whole; earlier = found.earlier }

pub no_trail : (nodes : List Node) → trail nodes 0 ≡ []
no_trail nodes = none (reverse nodes)

reversed : (nodes : List Node) (node : Node) → reverse (nodes ++ node ∷ []) ≡ node ∷ reverse nodes
reversed nodes node = reverse-append nodes (node ∷ [])

-- a node more changes no chain of the nodes before it
pub kept : (nodes : List Node) (node : Node) (top : ℕ) → top ≤ length nodes → trail (nodes ++ node ∷ []) top ≡ trail nodes top
kept nodes node top h = rw (reversed nodes node) (passed node (reverse nodes) top (omega (arith, length-reverse nodes)))

pub all_kept : (nodes : List Node) (node : Node) (tops : List ℕ) → All (λ t. t ≤ length nodes) tops → map (trail (nodes ++ node ∷ [])) tops ≡ map (trail nodes) tops
all_kept nodes node [] all = refl
all_kept nodes node (top ∷ tops) all =
    let here : trail (nodes ++ node ∷ []) top ≡ trail nodes top = kept nodes node top (all 0 top (omega arith)) in
    let rest : map (trail (nodes ++ node ∷ [])) tops ≡ map (trail nodes) tops = all_kept nodes node tops (All-tail (λ t. t ≤ length nodes) top tops all) in
    ap (λ x. x ∷ map (trail (nodes ++ node ∷ [])) tops) here ∙ ap (λ xs. trail nodes top ∷ xs) rest

-- and its own chain goes on with it
pub grown : (nodes : List Node) (node : Node) (top : ℕ) → top ≡ suc (length nodes) → trail (nodes ++ node ∷ []) top ≡ trail nodes node.below ++ node.value ∷ []
grown nodes node top h = rw (reversed nodes node) (newest node (reverse nodes) top (omega (arith, length-reverse nodes, h)))

pub still_falls : (nodes : List Node) (node : Node) → LinksFall nodes → node.below ≤ length nodes → LinksFall (nodes ++ node ∷ [])
unfolding Falls
still_falls nodes node falls h = rw (reversed nodes node) (omega (arith, length-reverse nodes, h), falls)

pub no_links : LinksFall []
unfolding Falls
no_links = tt

or_none : (a b : Bool) → b ≡ false → (a || (b || false)) ≡ a
or_none true b h = refl
or_none false b h = rw h refl

or_one : (a b : Bool) → b ≡ true → (a || (b || false)) ≡ true
or_one true b h = refl
or_one false b h = rw h refl

-- a value that stands on top is held
pub held_on_top : (value : ℕ) (xs : List ℕ) (x : ℕ) → value ≡ x → list_any (nat_eq value) (xs ++ x ∷ []) ≡ true
held_on_top value xs x h = list_any-append (nat_eq value) xs (x ∷ []) ∙ or_one (list_any (nat_eq value) xs) (nat_eq value x) (eq-eqb value x h)

-- one that does not is held below or not at all
pub held_below : (value : ℕ) (xs : List ℕ) (x : ℕ) → value ≢ x → list_any (nat_eq value) (xs ++ x ∷ []) ≡ list_any (nat_eq value) xs
held_below value xs x h = list_any-append (nat_eq value) xs (x ∷ []) ∙ or_none (list_any (nat_eq value) xs) (nat_eq value x) (ne_eqb value x h)

-- what is in force where no block is open
last_mapped : (f : ℕ → List ℕ) (tops : List ℕ) → f 0 ≡ [] → get_or (map f tops) (length (map f tops) - 1) [] ≡ f (get_or tops (length tops - 1) 0)
last_mapped f tops h = grind (arith, common_steps, h)

take_mapped : (f : ℕ → List ℕ) (tops : List ℕ) → take (length (map f tops) - 1) (map f tops) ≡ map f (take (length tops - 1) tops)
take_mapped f tops = rw (length-map tops f) (take-map f (length tops - 1) tops)

-- the number that a list gives away, 0 where it is empty
pub last_of : (outer : List ℕ) (n k : ℕ) (last : Option ℕ) → n ≡ length outer → (0 < n → last ≡ Some (get_or outer (n - 1) 0))
    → MatchOption last ((n ≡ 0) × (k ≡ 0)) (λ _. k + 1 ≡ n) → unwrap_or last 0 ≡ get_or outer (length outer - 1) 0
last_of outer n k None len h cases = sym (get_or-eq_default outer 0 (omega (arith, cases.0, len)))
last_of outer n k (Some x) len h cases =
    let same : Some x ≡ Some (get_or outer (n - 1) 0) = h (omega (arith, cases)) in
    let given : x ≡ get_or outer (n - 1) 0 = cc in
    given ∙ ap (λ m. get_or outer (m - 1) 0) len

-- a value comes into force
pub pushes : (nodes : List Node) (node : Node) (top : ℕ) (outer moments : List ℕ) → AreChains nodes node.below outer moments → top ≡ suc (length nodes)
    → layers_of (nodes ++ node ∷ []) top outer moments ≡ pushed (layers_of nodes node.below outer moments) (node.value ∷ [])
pushes nodes node top outer moments are h = rw (grown nodes node top h, all_kept nodes node outer are.blocks, all_kept nodes node moments are.noted) refl

more_chains : (n m : ℕ) (tops : List ℕ) → n ≤ m → All (λ t. t ≤ n) tops → All (λ t. t ≤ m) tops
more_chains n m tops h all = λ k d small. (let here = all k d small in omega (arith, here, h))

pub chains_pushed : (nodes : List Node) (node : Node) (top : ℕ) (outer moments : List ℕ) → AreChains nodes node.below outer moments → top ≡ suc (length nodes) → top < 2 ^ 32
    → AreChains (nodes ++ node ∷ []) top outer moments
chains_pushed nodes node top outer moments are h small =
    let len : length (nodes ++ node ∷ []) ≡ suc (length nodes) = omega (arith, length-append nodes (node ∷ [])) in
    record {
      falls = still_falls nodes node are.falls are.now;
      now = omega (arith, len, h);
      blocks = more_chains (length nodes) (length (nodes ++ node ∷ [])) outer (omega (arith, len)) are.blocks;
      noted = more_chains (length nodes) (length (nodes ++ node ∷ [])) moments (omega (arith, len)) are.noted;
      small = omega (arith, len, h, small);
    }

-- the innermost block ends
pub closes : (nodes : List Node) (top last : ℕ) (outer moments : List ℕ) → last ≡ get_or outer (length outer - 1) 0
    → layers_of nodes last (take (length outer - 1) outer) moments ≡ ended (layers_of nodes top outer moments)
closes nodes top last outer moments h =
    rw (h, last_mapped (trail nodes) outer (no_trail nodes), take_mapped (trail nodes) outer) refl

pub no_chains : AreChains [] 0 [] []
no_chains = record {
  falls = no_links;
  now = omega arith;
  blocks = λ k d h. absurd (omega (arith, h));
  noted = λ k d h. absurd (omega (arith, h));
  small = lit< tt;
}
