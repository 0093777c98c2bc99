-- The whole search: with no brackets, what the waiting nodes cover is listed exactly once.
use Rattle.std.proofs.Common.{ℕ, zero, suc, ◌≡◌, List, [], ◌∷◌, ◌++◌, Bool, true, false, ◌||◌, map, length, refl, sym, ap, ◌∙◌, subst, inl, inr, ◌⊎◌, arith}
use Rattle.std.specs.List.{AllByRecursion, list_any}
use Rattle.std.proofs.lemmas.List.{append_cancel_left}
use Rattle.std.proofs.lemmas.Bool.{cond_both, or_from}
use Rattle.mm_subst.specs.declared.symbol.WSym.{WSym}
use Rattle.mm_subst.specs.Substitutions.{Pairs, applied}
use Rattle.mm_unify.specs.Search.{Node, Visit, Answer, dead_end, cut, falls_short, child, steps, visit, visit_cut, explore, is_too_long, unless_long}
use Rattle.mm_unify.specs.Forbidden.{Forbidden}
use Rattle.mm_unify.specs.declared.listing.Ended.TheVariants.{Whole}
use Rattle.mm_subst.proofs.Replaced.{applied-append}
use Rattle.mm_unify.proofs.Proper.{Good, full_after}
use Rattle.mm_unify.proofs.Lengths.{shorter}
use Rattle.mm_unify.proofs.Opened.{IsOff}
use Rattle.mm_unify.proofs.Cut.{cut_front, HeadsDiffer, cut-HeadsDiffer}
use Rattle.mm_unify.proofs.Lists.{NoneOf, OneOf, NoneOf-append, OneOf-append_left, OneOf-append_right, AllByRecursion-append, list_any_none}
use Rattle.mm_unify.proofs.Cover.{Agrees, Covers, Alike, Determined}
use Rattle.mm_unify.proofs.Choice.{one_child, no_child, determined_children}

-- theta goes through the listed values
pub record Lists (theta tau : Pairs) : Type 0 where
  pub rho : Pairs
  pub good : Good rho
  pub agrees : Agrees theta rho tau

-- what theta makes of a visit, where the node covers it and where not
abbrev pub Once : Pairs → Visit → Type 0
Once theta v = (OneOf (Lists theta) v.found × NoneOf (Covers theta) v.children) ⊎ (NoneOf (Lists theta) v.found × OneOf (Covers theta) v.children)

abbrev pub Never : Pairs → Visit → Type 0
Never theta v = NoneOf (Lists theta) v.found × NoneOf (Covers theta) v.children

pub all_map : {X Y : Type 0} (P : Y → Type 0) (f : X → Y) (xs : List X) → AllByRecursion (λ x. P (f x)) xs → AllByRecursion P (map f xs)
all_map P f [] h = tt
all_map P f (x ∷ xs) h = (h.0, all_map P f xs h.1)

pub one_map : {X Y : Type 0} (P : Y → Type 0) (f : X → Y) (xs : List X) → OneOf (λ x. P (f x)) xs → OneOf P (map f xs)
one_map P f [] h = absurd h
one_map P f (x ∷ xs) (inl h) = inl (h.0, all_map (λ y. P y → ⊥) f xs h.1)
one_map P f (x ∷ xs) (inr h) = inr (h.0, one_map P f xs h.1)

-- the length rule, both ways
pub alive_lengths : (phi : Pairs) → Good phi → (l r : List WSym) → applied phi l ≡ applied phi r → (falls_short l r || falls_short r l) ≡ false
alive_lengths phi g l r e = or_from (falls_short l r) (falls_short r l) (long l r e) (long r l (sym e))
  where
    long : (s t : List WSym) → applied phi s ≡ applied phi t → falls_short s t ≡ false
    long s t e = go (falls_short s t) refl
      where
        go : (b : Bool) → falls_short s t ≡ b → b ≡ false
        go true f = let k = shorter phi s t g f in let n = ap length e in absurd (omega arith)
        go false f = refl

-- the three tests of a dead end fail where theta is covered
alive : (rule : Forbidden) → IsOff rule → (theta : Pairs) (l r : List WSym) (values : Pairs) → Covers theta (record { left = l; right = r; values = values }) →
    (falls_short l r || falls_short r l || list_any (λ q. rule.so_far q.1) values) ≡ false
alive rule off theta l r values h =
    or_from (falls_short l r || falls_short r l) (list_any (λ q. rule.so_far q.1) values)
    (alive_lengths h.phi h.good l r h.equal)
    (list_any_none (λ q. rule.so_far q.1) values (λ q. off.so_far q.1))

once_cut : (rule : Forbidden) → IsOff rule → (theta : Pairs) (values : Pairs) (l r : List WSym) → HeadsDiffer l r → Determined (record { left = l; right = r; values = values }) →
    Covers theta (record { left = l; right = r; values = values }) → Once theta (visit_cut rule values l r)
unfolding applied
once_cut rule off theta values [] [] d det h =
    rw (list_any_none (λ q. rule.at_end q.1) values (λ q. off.at_end q.1))
    (inl (inl (record { rho = h.phi; good = h.good; agrees = h.agrees }, tt), tt))
once_cut rule off theta values [] (y ∷ r) d det h = let k = full_after h.phi y r h.good in let n = ap length h.equal in absurd (omega arith)
once_cut rule off theta values (x ∷ l) [] d det h = let k = full_after h.phi x l h.good in let n = ap length h.equal in absurd (omega arith)
once_cut rule off theta values (x ∷ l) (y ∷ r) d det h =
    rw (alive rule off theta (x ∷ l) (y ∷ r) values h)
    (inr (tt, one_map (Covers theta) (child (x ∷ l) (y ∷ r) values) (steps x y) (one_child theta x y l r values d det h)))

never_cut : (rule : Forbidden) → IsOff rule → (theta : Pairs) (values : Pairs) (l r : List WSym) → HeadsDiffer l r → Determined (record { left = l; right = r; values = values }) →
    (Covers theta (record { left = l; right = r; values = values }) → ⊥) → Never theta (visit_cut rule values l r)
never_cut rule off theta values [] [] d det n =
    rw (list_any_none (λ q. rule.at_end q.1) values (λ q. off.at_end q.1))
    (((λ k. n (record { phi = k.rho; good = k.good; equal = refl; agrees = k.agrees })), tt), tt)
never_cut rule off theta values [] (y ∷ r) d det n = (tt, tt)
never_cut rule off theta values (x ∷ l) [] d det n = (tt, tt)
never_cut rule off theta values (x ∷ l) (y ∷ r) d det n =
    cond_both (falls_short (x ∷ l) (y ∷ r) || falls_short (y ∷ r) (x ∷ l) || list_any (λ q. rule.so_far q.1) values)
    dead_end (record { found = []; children = map (child (x ∷ l) (y ∷ r) values) (steps x y) }) (λ v. Never theta v)
    (λ e. (tt, tt))
    (λ e. (tt, all_map (λ v. Covers theta v → ⊥) (child (x ∷ l) (y ∷ r) values) (steps x y) (no_child theta x y l r values d det n)))

determined_cut : (rule : Forbidden) (values : Pairs) (l r : List WSym) → HeadsDiffer l r → Determined (record { left = l; right = r; values = values }) →
    AllByRecursion Determined (visit_cut rule values l r).children
determined_cut rule values [] [] d det = tt
determined_cut rule values [] (y ∷ r) d det = tt
determined_cut rule values (x ∷ l) [] d det = tt
determined_cut rule values (x ∷ l) (y ∷ r) d det =
    cond_both (falls_short (x ∷ l) (y ∷ r) || falls_short (y ∷ r) (x ∷ l) || list_any (λ q. rule.so_far q.1) values)
    dead_end (record { found = []; children = map (child (x ∷ l) (y ∷ r) values) (steps x y) }) (λ v. AllByRecursion Determined v.children)
    (λ e. tt)
    (λ e. all_map Determined (child (x ∷ l) (y ∷ r) values) (steps x y) (determined_children [] x y l r values d det))

-- equal heads change nothing
pub without : (theta : Pairs) (l r q l' r' : List WSym) (values : Pairs) → l ≡ q ++ l' → r ≡ q ++ r' → Covers theta (record { left = l; right = r; values = values }) → Covers theta (record { left = l'; right = r'; values = values })
without theta l r q l' r' values e f h = record {
  phi = h.phi;
  good = h.good;
  agrees = h.agrees;
  equal = append_cancel_left (applied h.phi q) (applied h.phi l') (applied h.phi r')
      (sym (applied-append h.phi q l') ∙ ap (applied h.phi) (sym e) ∙ h.equal ∙ ap (applied h.phi) f ∙ applied-append h.phi q r');
}

with_heads : (theta : Pairs) (l r q l' r' : List WSym) (values : Pairs) → l ≡ q ++ l' → r ≡ q ++ r' → Covers theta (record { left = l'; right = r'; values = values }) → Covers theta (record { left = l; right = r; values = values })
with_heads theta l r q l' r' values e f h = record {
  phi = h.phi;
  good = h.good;
  agrees = h.agrees;
  equal = ap (applied h.phi) e ∙ applied-append h.phi q l' ∙ ap (λ t. applied h.phi q ++ t) h.equal ∙ sym (applied-append h.phi q r') ∙ ap (applied h.phi) (sym f);
}

alike_rest : (phi psi : Pairs) (q s : List WSym) → Alike phi psi (q ++ s) → Alike phi psi s
alike_rest phi psi [] s h = h
alike_rest phi psi (c ∷ q) s h = alike_rest phi psi q s h.1

pub determined_rest : (l r q l' r' : List WSym) (values : Pairs) → l ≡ q ++ l' → r ≡ q ++ r' → Determined (record { left = l; right = r; values = values }) → Determined (record { left = l'; right = r'; values = values })
determined_rest l r q l' r' values e f det phi psi g g' a =
    let d = det phi psi g g' a in
    (alike_rest phi psi q l' (subst (Alike phi psi) e d.0), alike_rest phi psi q r' (subst (Alike phi psi) f d.1))

once_visit : (rule : Forbidden) → IsOff rule → (theta : Pairs) (node : Node) → Determined node → Covers theta node → Once theta (visit rule node)
unfolding visit
once_visit rule off theta node det h =
    let c = cut_front node.left node.right in
    once_cut rule off theta node.values (cut node.left node.right).0 (cut node.left node.right).1 (cut-HeadsDiffer node.left node.right)
    (determined_rest node.left node.right c.0 (cut node.left node.right).0 (cut node.left node.right).1 node.values c.1 c.2 det)
    (without theta node.left node.right c.0 (cut node.left node.right).0 (cut node.left node.right).1 node.values c.1 c.2 h)

never_visit : (rule : Forbidden) → IsOff rule → (theta : Pairs) (node : Node) → Determined node → (Covers theta node → ⊥) → Never theta (visit rule node)
unfolding visit
never_visit rule off theta node det n =
    let c = cut_front node.left node.right in
    never_cut rule off theta node.values (cut node.left node.right).0 (cut node.left node.right).1 (cut-HeadsDiffer node.left node.right)
    (determined_rest node.left node.right c.0 (cut node.left node.right).0 (cut node.left node.right).1 node.values c.1 c.2 det)
    (λ k. n (with_heads theta node.left node.right c.0 (cut node.left node.right).0 (cut node.left node.right).1 node.values c.1 c.2 k))

determined_visit : (rule : Forbidden) (node : Node) → Determined node → AllByRecursion Determined (visit rule node).children
unfolding visit
determined_visit rule node det =
    let c = cut_front node.left node.right in
    determined_cut rule node.values (cut node.left node.right).0 (cut node.left node.right).1 (cut-HeadsDiffer node.left node.right)
    (determined_rest node.left node.right c.0 (cut node.left node.right).0 (cut node.left node.right).1 node.values c.1 c.2 det)

-- the two facts of a search
abbrev pub Sorts : Pairs → List Node → List Pairs → Type 0
Sorts theta nodes found = (OneOf (Covers theta) nodes → OneOf (Lists theta) found) × (NoneOf (Covers theta) nodes → NoneOf (Lists theta) found)

sorts_step : (rule : Forbidden) → IsOff rule → (theta : Pairs) (node : Node) (rest : List Node) (found : List Pairs) → Determined node →
    Sorts theta ((visit rule node).children ++ rest) found → Sorts theta (node ∷ rest) ((visit rule node).found ++ found)
sorts_step rule off theta node rest found det ih = (one, (λ h. none h.0 h.1))
  where
    none : (Covers theta node → ⊥) → NoneOf (Covers theta) rest → NoneOf (Lists theta) ((visit rule node).found ++ found)
    none n k =
        let v = never_visit rule off theta node det n in
        NoneOf-append (Lists theta) (visit rule node).found found v.0 (ih.1 (NoneOf-append (Covers theta) (visit rule node).children rest v.1 k))

    one : OneOf (Covers theta) (node ∷ rest) → OneOf (Lists theta) ((visit rule node).found ++ found)
    one (inl h) = elim (once_visit rule off theta node det h.0) [
      | inl v ↦ OneOf-append_left (Lists theta) (visit rule node).found found v.0 (ih.1 (NoneOf-append (Covers theta) (visit rule node).children rest v.1 h.1))
      | inr v ↦ OneOf-append_right (Lists theta) (visit rule node).found found v.0 (ih.0 (OneOf-append_left (Covers theta) (visit rule node).children rest v.1 h.1))
    ]
    one (inr h) =
        let v = never_visit rule off theta node det h.0 in
        OneOf-append_right (Lists theta) (visit rule node).found found v.0 (ih.0 (OneOf-append_right (Covers theta) (visit rule node).children rest v.1 h.1))

pub explored : (rule : Forbidden) → IsOff rule → (theta : Pairs) (n : ℕ) (nodes : List Node) → AllByRecursion Determined nodes →
    (explore rule n nodes).ended ≡ Whole → Sorts theta nodes (explore rule n nodes).found
unfolding explore
explored rule off theta n [] det e = ((λ h. h), (λ h. tt))
explored rule off theta zero (node ∷ rest) det e = cc
explored rule off theta (suc n) (node ∷ rest) det e =
    go (is_too_long node) e (λ f. explored rule off theta n ((visit rule node).children ++ rest)
    (AllByRecursion-append Determined (visit rule node).children rest (determined_visit rule node det.0) det.1) f)
  where
    later : Answer
    later = explore rule n ((visit rule node).children ++ rest)

    go : (b : Bool) → (unless_long b (visit rule node).found later).ended ≡ Whole →
        (later.ended ≡ Whole → Sorts theta ((visit rule node).children ++ rest) later.found) →
        Sorts theta (node ∷ rest) (unless_long b (visit rule node).found later).found
    go true f ih = cc
    go false f ih = sorts_step rule off theta node rest later.found det.0 (ih f)
