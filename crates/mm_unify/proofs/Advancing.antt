-- Pattern and target along each other.
use Rattle.std.proofs.Common.{ℕ, ◌+◌, ◌≡◌, ◌<◌, ◌≤◌, List, [], ◌∷◌, ◌++◌, Bool, true, false, cond, ◌||◌, if◌then◌else◌, map, take, drop, get_or, length, Some, refl, sym, ap, ◌∙◌, subst, arith, append_assoc, length-drop, drop-cons, add-one}
use Rattle.std.specs.List.{list_any}
use Rattle.std.proofs.lemmas.List.{append-nil, drop_all, take-append-drop}
use Rattle.std.proofs.Math.Seq.{take-append_seam, take-add}
use Rattle.mm_subst.specs.declared.symbol.WSym.{WSym}
use Rattle.mm_subst.specs.declared.symbol.WSym.TheVariants.{Const, Var, Work}
use Rattle.mm_subst.specs.Symbols.{is_same, is_work}
use Rattle.mm_subst.specs.Substitutions.{Pairs, value_at, value_of, applied}
use Rattle.mm_subst.proofs.Replaced.{applied-append, applied-cons, applied_more}
use Rattle.mm_unify.specs.declared.bound.Bound.{Bound}
use Rattle.mm_unify.specs.Forbidden.{Forbidden}
use Rattle.mm_unify.specs.Unifying.{restricted}
use Rattle.mm_unify.specs.Variables.{numbers}
use Rattle.mm_unify.specs.Search.{dead_end, cut, falls_short, steps, child, visit, visit_cut}
use Rattle.mm_unify.specs.Parts.{IsPlain, part, parts_of, IsStuck, IsThrough}
use Rattle.mm_unify.specs.Frames.{node_of}
use Rattle.mm_unify.proofs.Mapping.{is_same-false, value_later}
use Rattle.mm_unify.proofs.Cut.{cut_front, HeadsDiffer, cut-HeadsDiffer}
use Rattle.mm_unify.proofs.Balanced.{plain_right}
use Rattle.mm_unify.proofs.Alone.{cut-same}
use Rattle.mm_unify.proofs.Along.{plain_drop, plain_part, visit_further}

-- a symbol that is no work variable
pub plain_symbol : (c : WSym) → ((n : ℕ) → c ≡ Work n → ⊥) → is_work c ≡ false
plain_symbol (Const m) h = refl
plain_symbol (Var m) h = refl
plain_symbol (Work m) h = absurd (h m refl)

pub unkeyed : (b : List WSym) (path : List Bound) (c : WSym) → ((n : ℕ) → c ≡ Work n → ⊥) → value_of (parts_of b path) c ≡ c ∷ []
unkeyed b [] c h = refl
unkeyed b (q ∷ path) c h = value_later (Work q.number, part b q.from q.to) (parts_of b path) c (is_same-false (Work q.number) c (λ e. h q.number (sym e))) ∙ unkeyed b path c h

-- a value that is found is a part of the target
pub plain_value : (b : List WSym) (path : List Bound) (c : WSym) (u : List WSym) → IsPlain b → value_at (parts_of b path) c ≡ Some u → IsPlain u
plain_value b [] c u p e = cc
plain_value b (q ∷ path) c u p e = go (is_same (Work q.number) c) e (plain_value b path c u p)
  where
    go : (t : Bool) → (if t then Some (part b q.from q.to) else value_at (parts_of b path) c) ≡ Some u → (value_at (parts_of b path) c ≡ Some u → IsPlain u) → IsPlain u
    go true e ih = subst IsPlain (let k : part b q.from q.to ≡ u = cc in k) (plain_part b q.from q.to p)
    go false e ih = ih e

-- the pattern at a symbol
pub at_symbol : (theta : Pairs) (a : List WSym) (k : ℕ) (d : WSym) → k < length a → applied theta a ≡ applied theta (take k a) ++ (value_of theta (get_or a k d) ++ applied theta (drop (k + 1) a))
at_symbol theta a k d h =
    let e : drop k a ≡ get_or a k d ∷ drop (k + 1) a = rw add-one (drop-cons a k d h) in
    ap (applied theta) (sym (take-append-drop k a))
    ∙ applied-append theta (take k a) (drop k a)
    ∙ ap (λ s. applied theta (take k a) ++ applied theta s) e
    ∙ ap (λ s. applied theta (take k a) ++ s) (applied-cons theta (get_or a k d) (drop (k + 1) a))

pub stuck_come : (theta : Pairs) (a b : List WSym) (k j : ℕ) (d : WSym) (u : List WSym) → k < length a → applied theta (take k a) ≡ take j b → u ≡ value_of theta (get_or a k d) →
    applied theta a ≡ take j b ++ (u ++ applied theta (drop (k + 1) a))
stuck_come theta a b k j d u h e f =
    at_symbol theta a k d h
    ∙ ap (λ s. s ++ (value_of theta (get_or a k d) ++ applied theta (drop (k + 1) a))) e
    ∙ ap (λ s. take j b ++ (s ++ applied theta (drop (k + 1) a))) (sym f)

-- all of a string is found at the beginning of another
pub all_heads : (u s : List WSym) → (cut u s).0 ≡ [] → take (length u) s ≡ u
all_heads u s e =
    let c = cut_front u s in
    let f : u ≡ c.0 = c.1 ∙ ap (λ t. c.0 ++ t) e ∙ append-nil c.0 in
    ap (λ (n : ℕ). take n s) (ap length f) ∙ ap (take (length c.0)) c.2 ∙ take-append_seam c.0 (cut u s).1 ∙ sym f

pub come_further : (theta : Pairs) (a b : List WSym) (k j : ℕ) (d : WSym) (u : List WSym) (n : ℕ) → k < length a → applied theta (take k a) ≡ take j b → u ≡ value_of theta (get_or a k d) →
    drop n u ≡ (cut u (drop j b)).0 → length u ≤ n → n ≤ length u → applied theta (take (k + 1) a) ≡ take (j + n) b
come_further theta a b k j d u n h e f g l m =
    let z : (cut u (drop j b)).0 ≡ [] = sym g ∙ drop_all n u l in
    let o : length u ≡ n = omega arith in
    applied_more theta a k d h
    ∙ ap (λ s. s ++ value_of theta (get_or a k d)) e
    ∙ ap (λ s. take j b ++ s) (sym f ∙ sym (all_heads u (drop j b) z) ∙ ap (λ (i : ℕ). take i (drop j b)) o)
    ∙ sym (take-add j n b)

-- heads that differ and are no work variables
plain_heads : (rule : Forbidden) (values : Pairs) (d e : WSym) (l r : List WSym) → is_work d ≡ false → is_work e ≡ false → visit_cut rule values (d ∷ l) (e ∷ r) ≡ dead_end
plain_heads rule values d e l r p q =
    let s : steps d e ≡ [] = rw (p, q) refl in
    ap (λ ps. cond (falls_short (d ∷ l) (e ∷ r) || falls_short (e ∷ r) (d ∷ l) || list_any (λ q. rule.so_far q.1) values) dead_end (record { found = []; children = map (child (d ∷ l) (e ∷ r) values) ps })) s
    ∙ same (falls_short (d ∷ l) (e ∷ r) || falls_short (e ∷ r) (d ∷ l) || list_any (λ q. rule.so_far q.1) values)
  where
    same : (b : Bool) → cond b dead_end (record { found = []; children = [] }) ≡ dead_end
    same true = refl
    same false = refl

stuck_cut : (rule : Forbidden) (values : Pairs) (l r rest : List WSym) → 0 < length l → HeadsDiffer l r → IsPlain l → IsPlain r → visit_cut rule values (cut (l ++ rest) r).0 (cut (l ++ rest) r).1 ≡ dead_end
stuck_cut rule values [] r rest h d p q = absurd (omega arith)
stuck_cut rule values (c ∷ l) [] rest h d p q = refl
stuck_cut rule values (c ∷ l) (e ∷ r) rest h d p q =
    ap (λ b. visit_cut rule values (cond b (cut (l ++ rest) r) (c ∷ (l ++ rest), e ∷ r)).0 (cond b (cut (l ++ rest) r) (c ∷ (l ++ rest), e ∷ r)).1) d
    ∙ plain_heads rule values c e (l ++ rest) r p.0 q.0

pub visit_stuck : (rule : Forbidden) (a b : List WSym) (path : List Bound) (j : ℕ) → IsPlain b → IsStuck a b path j → visit rule (node_of a b (parts_of b path) j) ≡ dead_end
visit_stuck rule a b path j plain h =
    let values = restricted (parts_of b path) (numbers (a ++ b)) in
    let s = drop h.place b in
    let c = cut_front h.next s in
    let l = (cut h.next s).0 in
    let r = (cut h.next s).1 in
    let pl : IsPlain l = plain_right c.0 l (subst IsPlain c.1 h.plain) in
    let pr : IsPlain r = plain_right c.0 r (subst IsPlain c.2 (plain_drop h.place b plain)) in
    let left : h.next ++ h.rest ≡ c.0 ++ (l ++ h.rest) = ap (λ t. t ++ h.rest) c.1 ∙ append_assoc c.0 l h.rest in
    let k : cut (h.next ++ h.rest) s ≡ cut (l ++ h.rest) r = ap (λ t. cut t s) left ∙ ap (cut (c.0 ++ (l ++ h.rest))) c.2 ∙ cut-same c.0 (l ++ h.rest) r in
    visit_further rule a b (parts_of b path) j h.place (h.next ++ h.rest) h.later h.within h.come
    ∙ ap (λ t. visit_cut rule values t.0 t.1) k
    ∙ stuck_cut rule values l r h.rest h.left (cut-HeadsDiffer h.next s) pl pr

-- the pattern is at its end
visit_through : (rule : Forbidden) (a b : List WSym) (path : List Bound) (j i : ℕ) → IsThrough a b path j i → visit rule (node_of a b (parts_of b path) j) ≡ visit_cut rule (restricted (parts_of b path) (numbers (a ++ b))) [] (drop i b)
visit_through rule a b path j i h = visit_further rule a b (parts_of b path) j i [] h.later h.within (h.come ∙ sym (append-nil (take i b)))

pub visit_before_end : (rule : Forbidden) (a b : List WSym) (path : List Bound) (j i : ℕ) → IsThrough a b path j i → i < length b → visit rule (node_of a b (parts_of b path) j) ≡ dead_end
visit_before_end rule a b path j i h l = visit_through rule a b path j i h ∙ go (drop i b) refl
  where
    go : (s : List WSym) → drop i b ≡ s → visit_cut rule (restricted (parts_of b path) (numbers (a ++ b))) [] s ≡ dead_end
    go [] e = absurd (let k = ap length e in omega (arith, length-drop i b))
    go (y ∷ s) e = refl

pub visit_at_end : (rule : Forbidden) (a b : List WSym) (path : List Bound) (j i : ℕ) → IsThrough a b path j i → length b ≤ i →
    visit rule (node_of a b (parts_of b path) j) ≡ record { found = cond (list_any (λ q. rule.at_end q.1) (restricted (parts_of b path) (numbers (a ++ b)))) [] (restricted (parts_of b path) (numbers (a ++ b)) ∷ []); children = [] }
visit_at_end rule a b path j i h l = visit_through rule a b path j i h ∙ ap (visit_cut rule (restricted (parts_of b path) (numbers (a ++ b))) []) (drop_all i b l)
