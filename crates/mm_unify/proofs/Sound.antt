-- Each listed unifier has the work variables of the two strings as its keys, in order, and makes them equal.
use Rattle.std.proofs.Common.{ℕ, zero, suc, ◌≡◌, List, [], ◌∷◌, ◌++◌, Bool, true, false, cond, if◌then◌else◌, Some, ◌||◌, map, refl, sym, ap, ◌∙◌, inl, inr, ◌⊎◌}
use Rattle.std.specs.List.{AllByRecursion, list_any}
use Rattle.std.proofs.lemmas.Bool.{cond_both}
use Rattle.mm_subst.specs.declared.symbol.WSym.{WSym}
use Rattle.mm_subst.specs.declared.symbol.WSym.TheVariants.{Const, Var, Work}
use Rattle.mm_subst.specs.Symbols.{is_same, is_work}
use Rattle.mm_subst.specs.Substitutions.{Pairs, value_of, value_at, or_itself, applied, with_values}
use Rattle.mm_unify.specs.Search.{Node, Visit, Answer, dead_end, cut, falls_short, child, steps, visit, visit_cut, explore, is_too_long, unless_long, root, selves}
use Rattle.mm_unify.specs.Forbidden.{Forbidden}
use Rattle.mm_unify.specs.Variables.{numbers}
use Rattle.mm_subst.proofs.Keys.{is_same-true, is_same-itself}
use Rattle.mm_subst.proofs.Replaced.{applied-append, applied-empty, applied-one}
use Rattle.mm_unify.proofs.Mapping.{applied-behind, behind, is_same-false, value_cases, value_later}
use Rattle.mm_unify.proofs.Cut.{cut_front}
use Rattle.mm_unify.proofs.Lists.{AllByRecursion-append}
use Rattle.mm_unify.proofs.Root.{Has, Numbered, numbered, numbered_left, numbered_right}
use Rattle.mm_unify.proofs.Explored.{all_map}

abbrev pub keys : Pairs → List WSym
keys u = map (λ q. q.0) u

pub keys-step : (p : WSym × List WSym) (values : Pairs) → keys (with_values (p ∷ []) values) ≡ keys values
keys-step p [] = refl
keys-step p (q ∷ values) = ap (λ t. q.0 ∷ t) (keys-step p values)

-- the value of a key, or of a symbol that is none and no step's variable, after a step
stepped_value : (p : WSym × List WSym) (values : Pairs) (c : WSym) → (is_same p.0 c ≡ false) ⊎ (list_any (λ k. is_same k c) (keys values) ≡ true) →
    value_of (with_values (p ∷ []) values) c ≡ applied (p ∷ []) (value_of values c)
stepped_value p [] c (inl e) = sym (applied-one (p ∷ []) c ∙ value_later p [] c e)
stepped_value p [] c (inr e) = cc
stepped_value p (q ∷ values) c h = go (is_same q.0 c) h (stepped_value p values c)
  where
    go : (b : Bool) → (is_same p.0 c ≡ false) ⊎ ((b || list_any (λ k. is_same k c) (keys values)) ≡ true) →
        ((is_same p.0 c ≡ false) ⊎ (list_any (λ k. is_same k c) (keys values) ≡ true) → value_of (with_values (p ∷ []) values) c ≡ applied (p ∷ []) (value_of values c)) →
        or_itself c (if b then Some (applied (p ∷ []) q.1) else value_at (with_values (p ∷ []) values) c) ≡ applied (p ∷ []) (or_itself c (if b then Some q.1 else value_at values c))
    go true h ih = refl
    go false h ih = ih h

any_key : (ms : List ℕ) (n : ℕ) → Has n ms → list_any (λ k. is_same k (Work n)) (map Work ms) ≡ true
any_key [] n h = absurd h
any_key (m ∷ ms) n (inl e) = let f = ap (λ (i : ℕ). is_same (Work i) (Work n)) e in let g = is_same-itself (Work n) in rw (sym f ∙ g) refl
any_key (m ∷ ms) n (inr h) = go (is_same (Work m) (Work n)) (any_key ms n h)
  where
    go : (b : Bool) → list_any (λ k. is_same k (Work n)) (map Work ms) ≡ true → (b || list_any (λ k. is_same k (Work n)) (map Work ms)) ≡ true
    go true e = refl
    go false e = e

pub stepped_apply : (p : WSym × List WSym) (values : Pairs) (ms : List ℕ) → is_work p.0 ≡ true → keys values ≡ map Work ms → (s : List WSym) → Numbered ms s →
    applied (with_values (p ∷ []) values) s ≡ applied (p ∷ []) (applied values s)
unfolding applied
stepped_apply p values ms w k [] h = refl
stepped_apply p values ms w k (c ∷ s) h =
    let ih = stepped_apply p values ms w k s h.1 in
    let own = stepped_value p values c (go c h.0) in
    cc (own, ih, applied-append (p ∷ []) (value_of values c) (applied values s))
  where
    plain : (d : WSym) → is_work d ≡ false → is_same p.0 d ≡ false
    plain d e = is_same-false p.0 d (λ f. let g = ap is_work f in cc)

    go : (d : WSym) → ((n : ℕ) → d ≡ Work n → Has n ms) → (is_same p.0 d ≡ false) ⊎ (list_any (λ k. is_same k d) (keys values) ≡ true)
    go (Work n) f = inr (rw k (any_key ms n (f n refl)))
    go (Const n) f = inl (plain (Const n) refl)
    go (Var n) f = inl (plain (Var n) refl)

-- what makes the rest equal makes the two strings equal through the values
pub record Faithful (a b : List WSym) (node : Node) : Type 0 where
  pub keys_are : keys node.values ≡ map Work (numbers (a ++ b))
  pub equal : (phi : Pairs) → applied phi node.left ≡ applied phi node.right → applied phi (applied node.values a) ≡ applied phi (applied node.values b)

pub record Solves (a b : List WSym) (u : Pairs) : Type 0 where
  pub keys_are : keys u ≡ map Work (numbers (a ++ b))
  pub equal : applied u a ≡ applied u b

pub faithful_child : (a b l r : List WSym) (values : Pairs) (p : WSym × List WSym) → is_work p.0 ≡ true →
    Faithful a b (record { left = l; right = r; values = values }) → Faithful a b (child l r values p)
faithful_child a b l r values p w h = record { keys_are = keys-step p values ∙ h.keys_are; equal = equal' }
  where
    at : (phi : Pairs) (s : List WSym) → Numbered (numbers (a ++ b)) s → applied phi (applied (with_values (p ∷ []) values) s) ≡ applied (behind phi p.0 p.1) (applied values s)
    at phi s n = ap (applied phi) (stepped_apply p values (numbers (a ++ b)) w h.keys_are s n) ∙ applied-behind phi p.0 p.1 (applied values s)

    equal' : (phi : Pairs) → applied phi (applied (p ∷ []) l) ≡ applied phi (applied (p ∷ []) r) → applied phi (applied (with_values (p ∷ []) values) a) ≡ applied phi (applied (with_values (p ∷ []) values) b)
    equal' phi e =
        let n = numbered (a ++ b) in
        at phi a (numbered_left (numbers (a ++ b)) a b n)
        ∙ h.equal (behind phi p.0 p.1) (sym (applied-behind phi p.0 p.1 l) ∙ e ∙ applied-behind phi p.0 p.1 r)
        ∙ sym (at phi b (numbered_right (numbers (a ++ b)) a b n))

pub work_steps : (x y : WSym) → AllByRecursion (λ p. is_work p.0 ≡ true) (steps x y)
work_steps x y =
    cond_both (is_work x)
    ((x, y ∷ []) ∷ (x, y ∷ x ∷ []) ∷ cond (is_work y) ((y, x ∷ y ∷ []) ∷ []) [])
    (cond (is_work y) ((y, x ∷ []) ∷ (y, x ∷ y ∷ []) ∷ []) [])
    (λ ps. AllByRecursion (λ p. is_work p.0 ≡ true) ps)
    (λ e. (e, (e, cond_both (is_work y) ((y, x ∷ y ∷ []) ∷ []) [] (λ ps. AllByRecursion (λ p. is_work p.0 ≡ true) ps) (λ f. (f, tt)) (λ f. tt))))
    (λ e. cond_both (is_work y) ((y, x ∷ []) ∷ (y, x ∷ y ∷ []) ∷ []) [] (λ ps. AllByRecursion (λ p. is_work p.0 ≡ true) ps) (λ f. (f, (f, tt))) (λ f. tt))

all_weaker : {X : Type 0} (P Q : X → Type 0) → ((x : X) → P x → Q x) → (xs : List X) → AllByRecursion P xs → AllByRecursion Q xs
all_weaker P Q f [] h = tt
all_weaker P Q f (x ∷ xs) h = (f x h.0, all_weaker P Q f xs h.1)

abbrev FaithfulVisit : List WSym → List WSym → Visit → Type 0
FaithfulVisit a b v = AllByRecursion (Solves a b) v.found × AllByRecursion (Faithful a b) v.children

faithful_cut : (rule : Forbidden) (a b : List WSym) (values : Pairs) (l r : List WSym) → Faithful a b (record { left = l; right = r; values = values }) → FaithfulVisit a b (visit_cut rule values l r)
faithful_cut rule a b values [] [] h =
    cond_both (list_any (λ q. rule.at_end q.1) values) [] (values ∷ []) (λ f. AllByRecursion (Solves a b) f × Unit {0}) (λ e. (tt, tt))
    (λ e. ((record { keys_are = h.keys_are; equal = sym (applied-empty (applied values a)) ∙ h.equal [] refl ∙ applied-empty (applied values b) }, tt), tt))
faithful_cut rule a b values [] (y ∷ r) h = (tt, tt)
faithful_cut rule a b values (x ∷ l) [] h = (tt, tt)
faithful_cut rule a b values (x ∷ l) (y ∷ r) h =
    cond_both (falls_short (x ∷ l) (y ∷ r) || falls_short (y ∷ r) (x ∷ l) || list_any (λ q. rule.so_far q.1) values)
    dead_end (record { found = []; children = map (child (x ∷ l) (y ∷ r) values) (steps x y) }) (FaithfulVisit a b)
    (λ e. (tt, tt))
    (λ e. (
      tt,
      all_map (Faithful a b) (child (x ∷ l) (y ∷ r) values) (steps x y)
          (all_weaker (λ p. is_work p.0 ≡ true) (λ p. Faithful a b (child (x ∷ l) (y ∷ r) values p)) (λ p w. faithful_child a b (x ∷ l) (y ∷ r) values p w h) (steps x y) (work_steps x y)),
    ))

pub faithful_without : (a b l r q l' r' : List WSym) (values : Pairs) → l ≡ q ++ l' → r ≡ q ++ r' → Faithful a b (record { left = l; right = r; values = values }) → Faithful a b (record { left = l'; right = r'; values = values })
faithful_without a b l r q l' r' values f g h = record {
  keys_are = h.keys_are;
  equal = (λ phi e.
      h.equal phi (ap (applied phi) f ∙ applied-append phi q l' ∙ ap (λ t. applied phi q ++ t) e ∙ sym (applied-append phi q r') ∙ ap (applied phi) (sym g)));
}

pub solved : (a b : List WSym) (values : Pairs) → Faithful a b (record { left = []; right = []; values = values }) → Solves a b values
solved a b values h = record { keys_are = h.keys_are; equal = sym (applied-empty (applied values a)) ∙ h.equal [] refl ∙ applied-empty (applied values b) }

faithful_visit : (rule : Forbidden) (a b : List WSym) (node : Node) → Faithful a b node → FaithfulVisit a b (visit rule node)
unfolding visit
faithful_visit rule a b node h =
    let c = cut_front node.left node.right in
    faithful_cut rule a b node.values (cut node.left node.right).0 (cut node.left node.right).1 (record {
      keys_are = h.keys_are;
      equal = (λ phi e.
          h.equal phi (ap (applied phi) c.1 ∙ applied-append phi c.0 (cut node.left node.right).0 ∙ ap (λ t. applied phi c.0 ++ t) e ∙ sym (applied-append phi c.0 (cut node.left node.right).1) ∙ ap (applied phi) (sym c.2)));
    })

pub sound_from : (rule : Forbidden) (a b : List WSym) (n : ℕ) (nodes : List Node) → AllByRecursion (Faithful a b) nodes → AllByRecursion (Solves a b) (explore rule n nodes).found
unfolding explore
sound_from rule a b n [] h = tt
sound_from rule a b zero (node ∷ rest) h = tt
sound_from rule a b (suc n) (node ∷ rest) h =
    let v = faithful_visit rule a b node h.0 in
    go (is_too_long node) v.0 (sound_from rule a b n ((visit rule node).children ++ rest) (AllByRecursion-append (Faithful a b) (visit rule node).children rest v.1 h.1))
  where
    later : Answer
    later = explore rule n ((visit rule node).children ++ rest)

    go : (t : Bool) → AllByRecursion (Solves a b) (visit rule node).found → AllByRecursion (Solves a b) later.found → AllByRecursion (Solves a b) (unless_long t (visit rule node).found later).found
    go true v k = tt
    go false v k = AllByRecursion-append (Solves a b) (visit rule node).found later.found v k

pub selves_apply : (ms : List ℕ) (c : WSym) → value_of (selves ms) c ≡ c ∷ []
selves_apply [] c = refl
selves_apply (m ∷ ms) c = value_cases (Work m, Work m ∷ []) (selves ms) c (λ t. t ≡ c ∷ []) (λ e. ap (λ d. d ∷ []) (is_same-true (Work m) c e)) (λ e. selves_apply ms c)

pub selves_string : (ms : List ℕ) (s : List WSym) → applied (selves ms) s ≡ s
unfolding applied
selves_string ms [] = refl
selves_string ms (c ∷ s) = let h = selves_apply ms c in let k = selves_string ms s in cc

selves_keys : (ms : List ℕ) → keys (selves ms) ≡ map Work ms
selves_keys [] = refl
selves_keys (m ∷ ms) = ap (λ t. Work m ∷ t) (selves_keys ms)

pub faithful_root : (a b : List WSym) → Faithful a b (root a b)
faithful_root a b = record {
  keys_are = selves_keys (numbers (a ++ b));
  equal = (λ phi e. ap (applied phi) (selves_string (numbers (a ++ b)) a) ∙ e ∙ ap (applied phi) (sym (selves_string (numbers (a ++ b)) b)));
}

pub sound : (rule : Forbidden) (a b : List WSym) (n : ℕ) → AllByRecursion (Solves a b) (explore rule n (root a b ∷ [])).found
sound rule a b n = sound_from rule a b n (root a b ∷ []) (faithful_root a b, tt)
