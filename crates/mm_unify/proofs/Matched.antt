-- The matches of a pattern: each makes the string, each substitution that makes it is among them, and they are in order.
use Rattle.std.proofs.Common.{ℕ, zero, suc, ◌≡◌, ◌≤◌, ◌<◌, List, [], ◌∷◌, ◌++◌, Bool, true, false, cond, Option, None, Some, map, take, drop, length, refl, sym, ap, ◌∙◌, subst, inl, inr, ◌⊎◌, arith, length-append, append_assoc}
use Rattle.std.specs.List.{AllByRecursion, flat_map}
use Rattle.std.proofs.lemmas.Bool.{cond_both}
use Rattle.std.proofs.lemmas.List.{append-nil, take-append-drop}
use Rattle.mm_subst.specs.declared.symbol.WSym.{WSym}
use Rattle.mm_subst.specs.declared.symbol.WSym.TheVariants.{Work}
use Rattle.mm_subst.specs.Symbols.{is_same, is_work}
use Rattle.mm_subst.specs.Substitutions.{Pairs, value_at, value_of, or_itself, applied}
use Rattle.mm_subst.proofs.Replaced.{applied-cons, applied-nil}
use Rattle.mm_subst.proofs.Keys.{is_same-true, is_same-itself}
use Rattle.mm_unify.specs.Matching.{lengths, behind, onward, known_value, by_value, matches}
use Rattle.mm_unify.specs.Ordering.{IsBefore}
use Rattle.mm_unify.proofs.Lists.{AllByRecursion-append}
use Rattle.mm_unify.proofs.Root.{Has, Numbered}
use Rattle.mm_unify.proofs.Sorted.{Among, Sorted, among_lengths, among_some_length, sorted_lengths}

by_same : (x y : WSym) (P : Bool → Type 0) → (is_same x y ≡ true → P true) → (is_same x y ≡ false → P false) → P (is_same x y)
by_same x y P f g = go (is_same x y) refl
  where
    go : (b : Bool) → is_same x y ≡ b → P b
    go true e = f e
    go false e = g e

behind-append : (w s : List WSym) → behind w (w ++ s) ≡ Some s
behind-append [] s = refl
behind-append (x ∷ w) s = ap (λ (b : Bool). cond b (behind w (w ++ s)) None) (is_same-itself x) ∙ behind-append w s

pub behind-some : (w s r : List WSym) → behind w s ≡ Some r → s ≡ w ++ r
behind-some [] s r h = let e : s ≡ r = cc in e
behind-some (x ∷ w) [] r h = absurd (cc)
behind-some (x ∷ w) (y ∷ s) r h =
    by_same x y (λ b. cond b (behind w s) None ≡ Some r → y ∷ s ≡ x ∷ (w ++ r))
    (λ e k. ap (λ (z : WSym). z ∷ s) (sym (is_same-true x y e)) ∙ ap (λ (t : List WSym). x ∷ t) (behind-some w s r k))
    (λ e k. absurd (cc)) h

-- keys that are work variables, with full values
abbrev pub Fit : Pairs → Type 0
Fit v = AllByRecursion (λ q. (is_work q.0 ≡ true) × (0 < length q.1)) v

at_front : (v u : Pairs) (x : WSym) (w : List WSym) → value_at v x ≡ Some w → value_at (v ++ u) x ≡ Some w
at_front [] u x w h = absurd (cc)
at_front (q ∷ v) u x w h =
    by_same q.0 x (λ b. cond b (Some q.1) (value_at v x) ≡ Some w → cond b (Some q.1) (value_at (v ++ u) x) ≡ Some w) (λ e k. k) (λ e k. at_front v u x w k) h

at_new : (v u : Pairs) (x : WSym) (w : List WSym) → value_at v x ≡ None → value_at ((v ++ (x, w) ∷ []) ++ u) x ≡ Some w
at_new [] u x w h = ap (λ (b : Bool). cond b (Some w) (value_at u x)) (is_same-itself x)
at_new (q ∷ v) u x w h =
    by_same q.0 x (λ b. cond b (Some q.1) (value_at v x) ≡ None → cond b (Some q.1) (value_at ((v ++ (x, w) ∷ []) ++ u) x) ≡ Some w) (λ e k. absurd (cc)) (λ e k. at_new v u x w k) h

-- a symbol that is no work variable has no value
no_value : (v : Pairs) (x : WSym) → Fit v → is_work x ≡ false → value_at v x ≡ None
no_value [] x f h = refl
no_value (q ∷ v) x f h =
    by_same q.0 x (λ b. cond b (Some q.1) (value_at v x) ≡ None)
    (λ e. absurd (let k = is_same-true q.0 x e in let g = ap is_work k in let t = f.0.0 in cc))
    (λ e. no_value v x f.1 h)

-- a known value
abbrev Known : Pairs → WSym → List WSym → Type 0
Known v x w = ((is_work x ≡ true) × (value_at v x ≡ Some w)) ⊎ ((is_work x ≡ false) × (w ≡ x ∷ []))

abbrev Unknown : Pairs → WSym → Type 0
Unknown v x = (is_work x ≡ true) × (value_at v x ≡ None)

cases_known : (v : Pairs) (x : WSym) (P : Option (List WSym) → Type 0) → ((w : List WSym) → Known v x w → P (Some w)) → (Unknown v x → P None) → P (known_value v x)
cases_known v x P f g = go (is_work x) (value_at v x) refl refl
  where
    go : (b : Bool) (o : Option (List WSym)) → is_work x ≡ b → value_at v x ≡ o → P (cond b o (Some (x ∷ [])))
    go true None e h = g (e, h)
    go true (Some w) e h = f w (inl (e, h))
    go false o e h = f (x ∷ []) (inr (e, refl))

-- what is known stays
known_later : (v u : Pairs) (x : WSym) (w : List WSym) → Fit (v ++ u) → Known v x w → value_of (v ++ u) x ≡ w
known_later v u x w f (inl h) = ap (or_itself x) (at_front v u x w h.1)
known_later v u x w f (inr h) = ap (or_itself x) (no_value (v ++ u) x f h.0) ∙ sym h.1

-- each work variable of a string has a value
abbrev pub Covered : Pairs → List WSym → Type 0
Covered m s = AllByRecursion (λ c. is_work c ≡ true → (w : List WSym) × (value_at m c ≡ Some w)) s

-- each key is a work variable with one of some numbers
abbrev pub AreNamed : List ℕ → Pairs → Type 0
AreNamed ms m = AllByRecursion (λ q. (n : ℕ) → q.0 ≡ Work n → Has n ms) m

-- a match with some values so far
pub record Made (b : List WSym) (v : Pairs) (s : List WSym) (m : Pairs) : Type 0 where
  pub more : Pairs
  pub whole : m ≡ v ++ more
  pub fit : Fit m
  pub equal : applied m b ≡ s
  pub covered : Covered m b
  pub named : (ms : List ℕ) → Numbered ms b → AreNamed ms more

known_covered : (v u : Pairs) (x : WSym) (w : List WSym) → Known v x w → is_work x ≡ true → (w : List WSym) × (value_at (v ++ u) x ≡ Some w)
known_covered v u x w (inl h) e = (w, at_front v u x w h.1)
known_covered v u x w (inr h) e = absurd (let a = h.0 in cc)

empty_take : (n : ℕ) (s : List WSym) → 1 ≤ n → n ≤ length s → length (take n s) ≡ n
empty_take zero s a b = absurd (omega arith)
empty_take (suc n) [] a b = absurd (omega arith)
empty_take (suc zero) (c ∷ s) a b = refl
empty_take (suc (suc n)) (c ∷ s) a b = ap suc (empty_take (suc n) s (omega arith) (omega arith))

pub made : (b : List WSym) (v : Pairs) (s : List WSym) (m : Pairs) → Fit v → Among m (matches b v s) → Made b v s m
made [] v [] m f (inl e) = record { more = []; whole = e ∙ sym (append-nil v); fit = subst (Fit) (sym e) f; equal = applied-nil m; covered = tt; named = λ ms n. tt }
made [] v [] m f (inr h) = absurd h
made [] v (c ∷ s) m f h = absurd h
made (x ∷ b) v s m f h =
    cases_known v x (λ o. Among m (by_value (λ v s. matches b v s) x v s o) → Made (x ∷ b) v s m)
    (λ w k a. known (λ t z. made b v t m f z) w k (behind w s) refl a)
    (λ k a.
    let r = among_some_length (λ n. matches b (v ++ (x, take n s) ∷ []) (drop n s)) (length s) m a in
    let n = r.0 in
    let l = empty_take n s r.1 r.2 in
    let low = r.1 in
    let g : Fit (v ++ (x, take n s) ∷ []) = AllByRecursion-append (λ q. (is_work q.0 ≡ true) × (0 < length q.1)) v ((x, take n s) ∷ []) f ((k.0, omega arith), tt) in
    let i = made b (v ++ (x, take n s) ∷ []) (drop n s) m g r.3 in
    let z : value_at m x ≡ Some (take n s) = ap (λ (p : Pairs). value_at p x) i.whole ∙ at_new v i.more x (take n s) k.1 in
    record {
      more = (x, take n s) ∷ i.more;
      whole = i.whole ∙ append_assoc v ((x, take n s) ∷ []) i.more;
      fit = i.fit;
      equal = applied-cons m x b ∙ ap (λ t. t ++ applied m b) (ap (or_itself x) z) ∙ ap (λ t. take n s ++ t) i.equal ∙ take-append-drop n s;
      covered = ((λ e. (take n s, z)), i.covered);
      named = λ ms y. (y.0, i.named ms y.1);
    })
    h
  where
    known : ((t : List WSym) → Among m (matches b v t) → Made b v t m) → (w : List WSym) → Known v x w → (o : Option (List WSym)) → behind w s ≡ o → Among m (onward (matches b v) o) → Made (x ∷ b) v s m
    known ih w k None e a = absurd a
    known ih w k (Some t) e a =
        let i = ih t a in
        let z : value_of m x ≡ w = ap (λ (p : Pairs). value_of p x) i.whole ∙ known_later v i.more x w (subst Fit i.whole i.fit) k in
        record {
          more = i.more;
          whole = i.whole;
          fit = i.fit;
          equal = applied-cons m x b ∙ ap (λ t. t ++ applied m b) z ∙ ap (λ t. w ++ t) i.equal ∙ sym (behind-some w s t e);
          covered = ((λ y. subst (λ (p : Pairs). (w : List WSym) × (value_at p x ≡ Some w)) (sym i.whole) (known_covered v i.more x w k y)), i.covered);
          named = λ ms y. i.named ms y.1;
        }

-- theta has the values of v
abbrev pub Agrees : Pairs → Pairs → Type 0
Agrees theta v = AllByRecursion (λ q. value_of theta q.0 ≡ q.1) v

pub agrees_at : (theta v : Pairs) (x : WSym) (w : List WSym) → Agrees theta v → value_at v x ≡ Some w → value_of theta x ≡ w
agrees_at theta [] x w a h = absurd (cc)
agrees_at theta (q ∷ v) x w a h =
    by_same q.0 x (λ b. cond b (Some q.1) (value_at v x) ≡ Some w → value_of theta x ≡ w)
    (λ e k. let z : q.1 ≡ w = cc in ap (value_of theta) (sym (is_same-true q.0 x e)) ∙ a.0 ∙ z)
    (λ e k. agrees_at theta v x w a.1 k) h

-- the work variables of a string have full values
abbrev pub AreFull : Pairs → List WSym → Type 0
AreFull theta b = AllByRecursion (λ c. is_work c ≡ true → 0 < length (value_of theta c)) b

take_front : (w t : List WSym) → take (length w) (w ++ t) ≡ w
take_front [] t = refl
take_front (c ∷ w) t = ap (λ u. c ∷ u) (take_front w t)

drop_front : (w t : List WSym) → drop (length w) (w ++ t) ≡ t
drop_front [] t = refl
drop_front (c ∷ w) t = drop_front w t

pub found : (theta : Pairs) → ((c : WSym) → is_work c ≡ false → value_of theta c ≡ c ∷ []) → (b : List WSym) (v : Pairs) (s : List WSym) → Agrees theta v → AreFull theta b → applied theta b ≡ s →
    (m : Pairs) × Among m (matches b v s) × Agrees theta m
found theta p [] v s a f e = subst (λ (s : List WSym). (m : Pairs) × Among m (matches [] v s) × Agrees theta m) (sym (applied-nil theta) ∙ e) (v, inl refl, a)
found theta p (x ∷ b) v s a f e =
    let w = value_of theta x in
    let r = applied theta b in
    let q : w ++ r ≡ s = sym (applied-cons theta x b) ∙ e in
    subst (λ (s : List WSym). (m : Pairs) × Among m (matches (x ∷ b) v s) × Agrees theta m) q
    (cases_known v x (λ o. (m : Pairs) × Among m (by_value (λ v s. matches b v s) x v (w ++ r) o) × Agrees theta m)
    (λ u k.
    let same : u ≡ w = elim k [ inl h ↦ sym (agrees_at theta v x u a h.1) | inr h ↦ h.1 ∙ sym (p x h.0) ] in
    let i = found theta p b v r a f.1 refl in
    subst (λ (o : Option (List WSym)). (m : Pairs) × Among m (onward (matches b v) o) × Agrees theta m) (sym (ap (λ (t : List WSym). behind t (w ++ r)) same ∙ behind-append w r)) i)
    (λ k.
    let full = f.0 k.0 in
    let step : ℕ → List Pairs = λ n. matches b (v ++ (x, take n (w ++ r)) ∷ []) (drop n (w ++ r)) in
    let i = found theta p b (v ++ (x, w) ∷ []) r (AllByRecursion-append (λ q. value_of theta q.0 ≡ q.1) v ((x, w) ∷ []) a (refl, tt)) f.1 refl in
    let here : step (length w) ≡ matches b (v ++ (x, w) ∷ []) r =
    ap (λ (t : List WSym). matches b (v ++ (x, t) ∷ []) (drop (length w) (w ++ r))) (take_front w r)
    ∙ ap (λ (t : List WSym). matches b (v ++ (x, w) ∷ []) t) (drop_front w r) in
    let n = length-append w r in
    (i.0, among_lengths step (length (w ++ r)) (length w) i.0 (omega arith) (omega arith) (subst (Among i.0) (sym here) i.1), i.2)))

pub before_one_way : (s : List WSym) (u v : Pairs) → IsBefore s u v → IsBefore s v u → ⊥
before_one_way [] u v h k = h
before_one_way (c ∷ s) u v (inl h) (inl k) = omega arith
before_one_way (c ∷ s) u v (inl h) (inr k) = let e = ap length k.0 in omega arith
before_one_way (c ∷ s) u v (inr h) (inl k) = let e = ap length h.0 in omega arith
before_one_way (c ∷ s) u v (inr h) (inr k) = before_one_way s u v h.1 k.1

pub in_order : (b : List WSym) (v : Pairs) (s : List WSym) → Fit v → Sorted (IsBefore b) (matches b v s)
in_order [] v [] f = ((λ y k. absurd k), tt)
in_order [] v (c ∷ s) f = tt
in_order (x ∷ b) v s f =
    cases_known v x (λ o. Sorted (IsBefore (x ∷ b)) (by_value (λ v s. matches b v s) x v s o))
    (λ w k. on (λ t. in_order b v t f) (behind w s) w k)
    (λ k. sorted_lengths (IsBefore (x ∷ b)) step (length s) (λ n l h. one n (in_order b (v ++ (x, take n s) ∷ []) (drop n s)) k l h) (λ i j m q z l h a c.
    let e = value k i m z (omega arith) a in
    let g = value k j q (omega arith) h c in
    let n = ap length e ∙ empty_take i s z (omega arith) in
    let o = ap length g ∙ empty_take j s (omega arith) h in
    inl (omega arith)))
  where
    step : ℕ → List Pairs
    step n = matches b (v ++ (x, take n s) ∷ []) (drop n s)

    later : (ms : List Pairs) (w : List WSym) → ((m : Pairs) → Among m ms → value_of m x ≡ w) → Sorted (IsBefore b) ms → Sorted (IsBefore (x ∷ b)) ms
    later [] w h k = tt
    later (m ∷ ms) w h k = ((λ y a. inr (h m (inl refl) ∙ sym (h y (inr a)), k.0 y a)), later ms w (λ y a. h y (inr a)) k.1)

    on : ((t : List WSym) → Sorted (IsBefore b) (matches b v t)) → (o : Option (List WSym)) (w : List WSym) → Known v x w → Sorted (IsBefore (x ∷ b)) (onward (matches b v) o)
    on ih None w k = tt
    on ih (Some t) w k =
        later (matches b v t) w (λ m a.
        let i = made b v t m f a in
        ap (λ (p : Pairs). value_of p x) i.whole ∙ known_later v i.more x w (subst Fit i.whole i.fit) k) (ih t)

    longer : Unknown v x → (n : ℕ) → 1 ≤ n → n ≤ length s → Fit (v ++ (x, take n s) ∷ [])
    longer k n l h =
        let z = empty_take n s l h in
        AllByRecursion-append (λ q. (is_work q.0 ≡ true) × (0 < length q.1)) v ((x, take n s) ∷ []) f ((k.0, omega arith), tt)

    value : Unknown v x → (n : ℕ) (m : Pairs) → 1 ≤ n → n ≤ length s → Among m (step n) → value_of m x ≡ take n s
    value k n m l h a =
        let i = made b (v ++ (x, take n s) ∷ []) (drop n s) m (longer k n l h) a in
        ap (λ (p : Pairs). value_of p x) i.whole ∙ ap (or_itself x) (at_new v i.more x (take n s) k.1)

    one : (n : ℕ) → (Fit (v ++ (x, take n s) ∷ []) → Sorted (IsBefore b) (step n)) → Unknown v x → 1 ≤ n → n ≤ length s → Sorted (IsBefore (x ∷ b)) (step n)
    one n ih k l h = later (step n) (take n s) (λ m a. value k n m l h a) (ih (longer k n l h))
