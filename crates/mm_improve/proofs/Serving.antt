-- The goals of a match, in the order of the hypotheses and in that of first occurrence.
use Rattle.std.proofs.Common.{◌≡◌, ℕ, zero, suc, ◌<◌, List, [], ◌∷◌, ◌++◌, Option, None, Some, Bool, true, false, cond, refl, sym, ◌∙◌, ap, arith, eqb, inl, inr, subst, length, get_or, map}
use Rattle.std.specs.List.{list_all, AllByRecursion}
use Rattle.std.proofs.lemmas.Bool.{cases_Bool, cases_lt, eq-eqb, and_parts, and_from}
use Rattle.std.proofs.lemmas.List.{length-append, length-map}
use Rattle.mm_subst.specs.declared.symbol.WSym.{WSym}
use Rattle.mm_subst.specs.declared.symbol.WSym.TheVariants.{Const, Var, Work}
use Rattle.mm_subst.specs.Substitutions.{Pairs, value_of, applied}
use Rattle.mm_subst.proofs.Replaced.{applied-cons, applied-one}
use Rattle.mm_chart.specs.Options.{on}
use Rattle.mm_chart.specs.Items.{Goal, no_goal, value}
use Rattle.mm_improve.specs.Grammars.{joined, place, place_or_none, with_variable, seen_in}
use Rattle.mm_improve.proofs.Forms.{typed}
use Rattle.mm_improve.proofs.Translating.{AreSeen, goals, code_of, place-at}

-- the variables that have occurred differ
abbrev pub Differ : List ℕ → Type 0
Differ seen = (j : ℕ) → j < length seen → place seen (get_or seen j 0) ≡ Some j

place-front : (seen : List ℕ) (n m j : ℕ) → place seen m ≡ Some j → place (seen ++ n ∷ []) m ≡ Some j
place-front [] n m j h = absurd (cc)
place-front (v ∷ seen) n m j h = elim (cases_Bool (eqb v m)) [
  | inl e ↦ ap (λ (b : Bool). cond b (Some 0) (on suc (place (seen ++ n ∷ []) m))) e ∙ sym (ap (λ (b : Bool). cond b (Some 0) (on suc (place seen m))) e) ∙ h
  | inr e ↦
      ap (λ (b : Bool). cond b (Some 0) (on suc (place (seen ++ n ∷ []) m))) e
      ∙ step (place seen m) refl (sym (ap (λ (b : Bool). cond b (Some 0) (on suc (place seen m))) e) ∙ h) (λ i q. place-front seen n m i q)
]
  where
    step : (o : Option ℕ) → place seen m ≡ o → on suc (place seen m) ≡ Some j → ((i : ℕ) → place seen m ≡ Some i → place (seen ++ n ∷ []) m ≡ Some i) → on suc (place (seen ++ n ∷ []) m) ≡ Some j
    step None q z ih = absurd (let y : on suc (place seen m) ≡ None = ap (on suc) q in cc)
    step (Some i) q z ih = ap (on suc) (ih i q) ∙ sym (ap (on suc) q) ∙ z

place-last : (seen : List ℕ) (n : ℕ) → place seen n ≡ None → place (seen ++ n ∷ []) n ≡ Some (length seen)
place-last [] n h = ap (λ (b : Bool). cond b (Some 0) None) (eq-eqb n n refl)
place-last (v ∷ seen) n h = elim (cases_Bool (eqb v n)) [
  | inl e ↦ absurd (let y : Some 0 ≡ None = sym (ap (λ (b : Bool). cond b (Some 0) (on suc (place seen n))) e) ∙ h in cc)
  | inr e ↦
      ap (λ (b : Bool). cond b (Some 0) (on suc (place (seen ++ n ∷ []) n))) e
      ∙ ap (on suc) (place-last seen n (none (place seen n) (sym (ap (λ (b : Bool). cond b (Some 0) (on suc (place seen n))) e) ∙ h)))
]
  where
    none : (o : Option ℕ) → on suc o ≡ None → o ≡ None
    none None q = refl
    none (Some i) q = absurd (cc)

get-front : (seen : List ℕ) (n j : ℕ) → j < length seen → get_or (seen ++ n ∷ []) j 0 ≡ get_or seen j 0
get-front [] n j l = absurd (omega arith)
get-front (v ∷ seen) n zero l = refl
get-front (v ∷ seen) n (suc j) l = get-front seen n j (omega arith)

get-last : (seen : List ℕ) (n : ℕ) → get_or (seen ++ n ∷ []) (length seen) 0 ≡ n
get-last [] n = refl
get-last (v ∷ seen) n = get-last seen n

differ-push : (seen : List ℕ) (n : ℕ) → Differ seen → place seen n ≡ None → Differ (seen ++ n ∷ [])
differ-push seen n d h j l = elim (cases_lt j (length seen)) [
  | inl m ↦ ap (place (seen ++ n ∷ [])) (get-front seen n j m) ∙ place-front seen n (get_or seen j 0) j (d j m)
  | inr m ↦
      let k = length-append seen (n ∷ []) in
      let e : j ≡ length seen = omega arith in
      ap (λ (i : ℕ). place (seen ++ n ∷ []) (get_or (seen ++ n ∷ []) i 0)) e ∙ ap (place (seen ++ n ∷ [])) (get-last seen n) ∙ place-last seen n h ∙ ap (λ (i : ℕ). Some i) (sym e)
]

differ-variable : (seen : List ℕ) (n : ℕ) (o p : Option ℕ) → Differ seen → place seen n ≡ p → Differ (with_variable seen n o p)
differ-variable seen n None p d h = d
differ-variable seen n (Some k) None d h = differ-push seen n d h
differ-variable seen n (Some k) (Some j) d h = d

pub differ-in : (keys seen : List ℕ) (s : List WSym) → Differ seen → Differ (seen_in keys seen s)
differ-in keys seen [] d = d
differ-in keys seen (Const n ∷ s) d = differ-in keys seen s d
differ-in keys seen (Var n ∷ s) d = differ-in keys (with_variable seen n (place keys n) (place seen n)) s (differ-variable seen n (place keys n) (place seen n) d refl)
differ-in keys seen (Work n ∷ s) d = differ-in keys seen s d

module _ (keys : List ℕ) (codes : List WSym) where
  pub seen-length : (seen : List ℕ) (v : Pairs) → AreSeen keys codes seen v → length v ≡ length seen
  seen-length [] [] h = refl
  seen-length [] (q ∷ v) h = absurd h
  seen-length (n ∷ seen) [] h = absurd h
  seen-length (n ∷ seen) (q ∷ v) h = ap suc (seen-length seen v h.1)

  -- the goal of a variable that has occurred
  seen-code : (seen : List ℕ) (v : Pairs) (j : ℕ) → AreSeen keys codes seen v → j < length seen → (i : ℕ) × (place keys (get_or seen j 0) ≡ Some i) × ((get_or (goals keys codes v) j no_goal).0 ≡ get_or codes i (Const 0))
  seen-code [] [] j h l = absurd (omega arith)
  seen-code [] (q ∷ v) j h l = absurd h
  seen-code (n ∷ seen) [] j h l = absurd h
  seen-code (n ∷ seen) (q ∷ v) zero h l = (h.0.0, h.0.1, ap (code_of keys codes) h.0.2)
  seen-code (n ∷ seen) (q ∷ v) (suc j) h l = seen-code seen v j h.1 (omega arith)

  some_same : (i j : ℕ) (o : Option ℕ) → o ≡ Some i → o ≡ Some j → i ≡ j
  some_same i j o a b = let z : Some i ≡ Some j = sym a ∙ b in cc

  pub goal-here : (seen : List ℕ) (v : Pairs) (n i j : ℕ) → AreSeen keys codes seen v → place keys n ≡ Some i → place seen n ≡ Some j → get_or (goals keys codes v) j no_goal ≡ (get_or codes i (Const 0), value (goals keys codes v) (place_or_none (place seen n)))
  goal-here seen v n i j h e f =
      let p = place-at seen n j f in
      let z = seen-code seen v j h p.0 in
      let k : z.0 ≡ i = some_same z.0 i (place keys (get_or seen j 0)) z.1 (ap (place keys) p.1 ∙ e) in
      let g = get_or (goals keys codes v) j no_goal in
      ap (λ (x : WSym). (x, g.1)) (z.2 ∙ ap (λ (m : ℕ). get_or codes m (Const 0)) k) ∙ ap (λ (m : Option ℕ). (get_or codes i (Const 0), value (goals keys codes v) (place_or_none m))) (sym f)

all_at : {X : Type 0} (q : X → Bool) (xs : List X) (i : ℕ) (d : X) → i < length xs → list_all q xs ≡ true → q (get_or xs i d) ≡ true
all_at q [] i d l h = absurd (omega arith)
all_at q (x ∷ xs) zero d l h = (and_parts (q x) (list_all q xs) h).0
all_at q (x ∷ xs) (suc i) d l h = all_at q xs i d (omega arith) (and_parts (q x) (list_all q xs) h).1

all_from : {X : Type 0} (q : X → Bool) (xs : List X) (d : X) → ((i : ℕ) → i < length xs → q (get_or xs i d) ≡ true) → list_all q xs ≡ true
all_from q [] d h = refl
all_from q (x ∷ xs) d h = and_from (q x) (list_all q xs) (h 0 (omega arith)) (all_from q xs d (λ i l. h (suc i) (omega arith)))

both : (a b : Bool) → (a ≡ true → b ≡ true) → (b ≡ true → a ≡ true) → a ≡ b
both true b f g = sym (f refl)
both false true f g = g refl
both false false f g = refl

-- the goals of the hypotheses
abbrev pub parts_of : List WSym → List ℕ → (ℕ → List WSym) → List (List WSym)
parts_of [] ns F = []
parts_of (c ∷ cs) [] F = []
parts_of (c ∷ cs) (n ∷ ns) F = (c ∷ F n) ∷ parts_of cs ns F

pub parts-length : (cs : List WSym) (ns : List ℕ) (F : ℕ → List WSym) → length cs ≡ length ns → length (parts_of cs ns F) ≡ length ns
parts-length [] [] F h = refl
parts-length [] (n ∷ ns) F h = absurd (cc)
parts-length (c ∷ cs) [] F h = absurd (cc)
parts-length (c ∷ cs) (n ∷ ns) F h = ap suc (parts-length cs ns F (let z : length cs ≡ length ns = cc in z))

pub part-at : (cs : List WSym) (ns : List ℕ) (F : ℕ → List WSym) (i : ℕ) → length cs ≡ length ns → i < length ns → get_or (parts_of cs ns F) i [] ≡ get_or cs i (Const 0) ∷ F (get_or ns i 0)
part-at [] [] F i h l = absurd (omega arith)
part-at [] (n ∷ ns) F i h l = absurd (cc)
part-at (c ∷ cs) [] F i h l = absurd (cc)
part-at (c ∷ cs) (n ∷ ns) F zero h l = refl
part-at (c ∷ cs) (n ∷ ns) F (suc i) h l = part-at cs ns F i (let z : length cs ≡ length ns = cc in z) (omega arith)

-- a test of all goals in either order
pub same_test : (keys : List ℕ) (codes : List WSym) (order : List ℕ) (v : Pairs) (P : List WSym → Bool) (Q : Goal → Bool) → length codes ≡ length keys → AreSeen keys codes order v → Differ order →
    ((i : ℕ) → i < length keys → place keys (get_or keys i 0) ≡ Some i) → ((n i : ℕ) → place keys n ≡ Some i → (j : ℕ) × (place order n ≡ Some j)) →
    ((j : ℕ) → j < length (goals keys codes v) → P (joined (get_or (goals keys codes v) j no_goal)) ≡ Q (get_or (goals keys codes v) j no_goal)) →
    list_all P (parts_of codes keys (λ n. value (goals keys codes v) (place_or_none (place order n)))) ≡ list_all Q (goals keys codes v)
same_test keys codes order v P Q m h d own all e =
    let gs = goals keys codes v in
    let F : ℕ → List WSym = λ n. value gs (place_or_none (place order n)) in
    let long : length gs ≡ length order = length-map v _ ∙ seen-length keys codes order v h in
    both (list_all P (parts_of codes keys F)) (list_all Q gs)
    (λ y. all_from Q gs no_goal (λ j l.
    let z = seen-code keys codes order v j h (subst (λ (k : ℕ). j < k) long l) in
    let n = get_or order j 0 in
    let i = z.0 in
    let p = place-at keys n i z.1 in
    let g = goal-here keys codes order v n i j h z.1 (d j (subst (λ (k : ℕ). j < k) long l)) in
    sym (e j l) ∙ ap (λ (x : Goal). P (joined x)) g ∙ ap (λ (k : ℕ). P (get_or codes i (Const 0) ∷ F k)) (sym p.1)
    ∙ ap P (sym (part-at codes keys F i m p.0)) ∙ all_at P (parts_of codes keys F) i [] (subst (λ (k : ℕ). i < k) (sym (parts-length codes keys F m)) p.0) y))
    (λ y. all_from P (parts_of codes keys F) [] (λ i l.
    let l' = subst (λ (k : ℕ). i < k) (parts-length codes keys F m) l in
    let n = get_or keys i 0 in
    let j = all n i (own i l') in
    let p = place-at order n j.0 j.1 in
    let l'' = subst (λ (k : ℕ). j.0 < k) (sym long) p.0 in
    let g = goal-here keys codes order v n i j.0 h (own i l') j.1 in
    ap P (part-at codes keys F i m l') ∙ sym (ap (λ (x : Goal). P (joined x)) g) ∙ e j.0 l'' ∙ all_at Q gs j.0 no_goal l'' y))

-- the hypotheses under a substitution
pub applied-typed : (sigma : Pairs) (cs : List WSym) (ns : List ℕ) (F : ℕ → List WSym) → AllByRecursion (λ c. value_of sigma c ≡ c ∷ []) cs → AllByRecursion (λ n. value_of sigma (Var n) ≡ F n) ns → map (applied sigma) (typed cs ns) ≡ parts_of cs ns F
applied-typed sigma [] ns F h k = refl
applied-typed sigma (c ∷ cs) [] F h k = refl
applied-typed sigma (c ∷ cs) (n ∷ ns) F h k =
    let one : applied sigma (c ∷ Var n ∷ []) ≡ c ∷ F n = applied-cons sigma c (Var n ∷ []) ∙ ap (λ (w : List WSym). w ++ applied sigma (Var n ∷ [])) h.0 ∙ ap (λ (w : List WSym). c ∷ w) (applied-one sigma (Var n) ∙ k.0) in
    ap (λ (w : List WSym). w ∷ map (applied sigma) (typed cs ns)) one ∙ ap (λ ws. (c ∷ F n) ∷ ws) (applied-typed sigma cs ns F h.1 k.1)
