-- The typecodes of the parts of a match.
use Rattle.std.proofs.Common.{◌≡◌, ℕ, zero, suc, ◌<◌, List, [], ◌∷◌, ◌++◌, Option, None, Some, Bool, true, false, cond, ◌||◌, refl, sym, ◌∙◌, ap, arith, inl, inr, subst, length, get_or, map, take, drop}
use Rattle.std.specs.List.{flat_map, list_any, AllByRecursion}
use Rattle.std.proofs.lemmas.Bool.{cases_Bool}
use Rattle.mm_subst.specs.declared.symbol.WSym.{WSym}
use Rattle.mm_subst.specs.Symbols.{is_same}
use Rattle.mm_subst.proofs.Keys.{is_same-itself}
use Rattle.mm_unify.specs.Matching.{behind, onward}
use Rattle.mm_unify.proofs.Sorted.{Among, among_left, among_mapped, among_right, among_some_length}
use Rattle.mm_chart.specs.declared.grammar.Item.{Item}
use Rattle.mm_chart.specs.declared.grammar.Item.TheVariants.{Fixed, Again, New}
use Rattle.mm_chart.specs.Items.{Goal, Grammar, Assertion, Use, fits, matches, may_lead, new_codes, no_goal, part_codes, uses, uses_of, value}
use Rattle.mm_improve.proofs.Ranking.{among_flat}

-- the typecodes are some of these
abbrev pub AreOf : List WSym → List Goal → Type 0
AreOf cs v = AllByRecursion (λ (g : Goal). Among g.0 cs) v

more : (cs : List WSym) (v : List Goal) (g : Goal) → AreOf cs v → Among g.0 cs → AreOf cs (v ++ g ∷ [])
more cs [] g h k = (k, tt)
more cs (x ∷ v) g h k = (h.0, more cs v g h.1 k)

matched : (cs : List WSym) (ok : List Goal → Bool) (is : List Item) (v : List Goal) (s : List WSym) (m : List Goal) → ((x : WSym) → Among x (new_codes is) → Among x cs) → AreOf cs v → Among m (matches ok is v s) → AreOf cs m
matched cs ok [] v [] m k a h = ended (ok v) h
  where
    ended : (b : Bool) → Among m (cond b (v ∷ []) []) → AreOf cs m
    ended true (inl e) = subst (AreOf cs) (sym e) a
    ended true (inr z) = absurd z
    ended false z = absurd z
matched cs ok [] v (c ∷ s) m k a h = absurd h
matched cs ok (Fixed c ∷ is) v s m k a h = fixed (behind (c ∷ []) s) h (λ r z. matched cs ok is v r m k a z)
  where
    fixed : (o : Option (List WSym)) → Among m (onward (matches ok is v) o) → ((r : List WSym) → Among m (matches ok is v r) → AreOf cs m) → AreOf cs m
    fixed None z ih = absurd z
    fixed (Some r) z ih = ih r z
matched cs ok (Again i ∷ is) v s m k a h = again (behind (value v i) s) h (λ r z. matched cs ok is v r m k a z)
  where
    again : (o : Option (List WSym)) → Among m (onward (matches ok is v) o) → ((r : List WSym) → Among m (matches ok is v r) → AreOf cs m) → AreOf cs m
    again None z ih = absurd z
    again (Some r) z ih = ih r z
matched cs ok (New code ∷ is) v s m k a h =
    let r = among_some_length (λ n. matches ok is (v ++ (code, take n s) ∷ []) (drop n s)) (length s) m h in
    matched cs ok is (v ++ (code, take r.0 s) ∷ []) (drop r.0 s) m (λ x z. k x (inr z)) (more cs v (code, take r.0 s) a (k code (inl refl))) r.3

among_flat_in : {X Y : Type 0} (f : X → List Y) (x : X) (xs : List X) (y : Y) → Among x xs → Among y (f x) → Among y (flat_map f xs)
among_flat_in f x [] y h k = absurd h
among_flat_in f x (z ∷ xs) y (inl e) k = among_left y (f z) (flat_map f xs) (subst (λ w. Among y (f w)) e k)
among_flat_in f x (z ∷ xs) y (inr h) k = among_right y (f z) (flat_map f xs) (among_flat_in f x xs y h k)

or-true : (b : Bool) → (b || true) ≡ true
or-true true = refl
or-true false = refl

any_same : (x : WSym) (cs : List WSym) → Among x cs → list_any (is_same x) cs ≡ true
any_same x [] h = absurd h
any_same x (c ∷ cs) (inl e) = ap (λ (b : Bool). b || list_any (is_same x) cs) (ap (is_same x) (sym e) ∙ is_same-itself x)
any_same x (c ∷ cs) (inr h) = ap (λ (b : Bool). is_same x c || b) (any_same x cs h) ∙ or-true (is_same x c)

at : (cs : List WSym) (v : List Goal) (j : ℕ) → j < length v → AreOf cs v → Among (get_or v j no_goal).0 cs
at cs [] j l h = absurd (omega arith)
at cs (g ∷ v) zero l h = h.0
at cs (g ∷ v) (suc j) l h = at cs v j (omega arith) h.1

pub used : (G : Grammar) (g : Goal) (a : Assertion) (u : Use) → Among a G.assertions → Among u (uses_of G g a) → AreOf (part_codes G) u.1
used G g a u i h = by (is_same a.code g.0) h
  where
    by : (b : Bool) → Among u (cond b (map (λ v. (a.id, v)) (matches (fits G a.apart) a.items [] g.1)) []) → AreOf (part_codes G) u.1
    by false k = absurd k
    by true k =
        let y = among_mapped (λ v. (a.id, v)) u (matches (fits G a.apart) a.items [] g.1) k in
        subst (λ (z : Use). AreOf (part_codes G) z.1) (sym y.2) (matched (part_codes G) (fits G a.apart) a.items [] g.1 y.0 (λ x z. among_flat_in (λ (b : Assertion). new_codes b.items) a G.assertions x i z) tt y.1)

-- the parts of a use may lead to any goal
pub leads : (G : Grammar) (g : Goal) (u : Use) (goal : WSym) → Among u (uses G g) → (j : ℕ) → j < length u.1 → may_lead G goal (get_or u.1 j no_goal).0 ≡ true
leads G g u goal h j l =
    let x = among_flat (uses_of G g) G.assertions u h in
    let code = (get_or u.1 j no_goal).0 in
    ap (λ (b : Bool). is_same code goal || b) (any_same code (part_codes G) (at (part_codes G) u.1 j l (used G g x.0 u x.1 x.2))) ∙ or-true (is_same code goal)
