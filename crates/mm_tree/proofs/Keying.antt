-- The places of bindings are kept as more of them are, and as bindings are added, cut off and joined.
use Rattle.std.proofs.Common.{zero, suc, ◌≡◌, ℕ, ◌+◌, ◌<◌, ◌==◌, Bool, true, false, List, [], ◌∷◌, ◌++◌, take, length, get_or, is_none, nat_eq, Contains, Option, None, Some, Result, Ok, Err, OnOk, OnErr, if◌then◌else◌, refl, sym, ◌∙◌, ap, subst, arith, length-append}
use Rattle.std.proofs.lemmas.Bool.{true≢false}
use Rattle.std.proofs.lemmas.List.{take_more}
use Rattle.std.proofs.lemmas.List.Elements.{Contains-push}
use Rattle.std.proofs.lemmas.Grind.{common_steps}
use Rattle.std.specs.List.{All}
use Rattle.mm_subst.specs.declared.symbol.WSym.{WSym}
use Rattle.mm_subst.specs.declared.symbol.WSym.TheVariants.{Const, Var, Work}
use Rattle.mm_subst.specs.Substitutions.{Pairs, value_at}
use Rattle.mm_subst.specs.Symbols.{is_same, is_work}
use Rattle.mm_subst.proofs.Keys.{is_same-true, is_same-itself}
use Rattle.mm_plain.specs.Binding.{HasWorkKeys}
use Rattle.mm_tree.specs.Lines.{Line}
use Rattle.mm_tree.specs.Keyed.{places_at, IsPlaced, IsKeyed}
use Rattle.mm_tree.specs.declared.keyed.Keyed.{Keyed}

-- one place more

abbrev pub Adds : Keyed → Keyed → ℕ → ℕ → Type 0
Adds old new number place = (n : ℕ) → places_at new n ≡ (if nat_eq number n then places_at old n ++ place ∷ [] else places_at old n)

contains-more : (xs : List ℕ) (x y : ℕ) → Contains xs x → Contains (xs ++ y ∷ []) x
contains-more xs x y h = grind (arith, common_steps)

still : (xs ys : List ℕ) (place i : ℕ) (b : Bool) → ys ≡ (if b then xs ++ place ∷ [] else xs) → Contains xs i → Contains ys i
still xs ys place i true e h = subst (λ (zs : List ℕ). Contains zs i) (sym e) (contains-more xs i place h)
still xs ys place i false e h = subst (λ (zs : List ℕ). Contains zs i) (sym e) h

pub still-placed : (old new : Keyed) (number place : ℕ) → Adds old new number place → (i : ℕ) (x : WSym) → IsPlaced old i x → IsPlaced new i x
still-placed old new number place adds i (Work n) h = still (places_at old n) (places_at new n) place i (nat_eq number n) (adds n) h
still-placed old new number place adds i (Const n) h = h
still-placed old new number place adds i (Var n) h = h

pub same-placed : (old new : Keyed) → ((n : ℕ) → places_at new n ≡ places_at old n) → (i : ℕ) (x : WSym) → IsPlaced old i x → IsPlaced new i x
same-placed old new same i (Work n) h = subst (λ (zs : List ℕ). Contains zs i) (sym (same n)) h
same-placed old new same i (Const n) h = h
same-placed old new same i (Var n) h = h

pub now-placed : (old new : Keyed) (number place : ℕ) → Adds old new number place → IsPlaced new place (Work number)
now-placed old new number place adds = subst (λ (zs : List ℕ). Contains zs place) (sym (adds number ∙ grind arith)) (Contains-push (places_at old number) place)

pub keeps-all : {A E : Type 0} (r : Result A E) (old new : Keyed) (number place : ℕ) → OnOk r (Adds old new number place) → OnErr r ((n : ℕ) → places_at new n ≡ places_at old n)
    → (i : ℕ) (x : WSym) → IsPlaced old i x → IsPlaced new i x
keeps-all (Ok a) old new number place f g = still-placed old new number place f
keeps-all (Err e) old new number place f g = same-placed old new g

pub placed-ok : {A E : Type 0} (r : Result A E) (old new : Keyed) (number place : ℕ) → OnOk r (Adds old new number place) → OnOk r (IsPlaced new place (Work number))
placed-ok (Ok a) old new number place f = now-placed old new number place f
placed-ok (Err e) old new number place f = tt

-- one key more

next-key : {Q : Type 0} (b : Bool) (v : List WSym) (old new : Option (List WSym)) → (is_none (if b then Some v else old) ≡ false → Q) → ((is_none old ≡ false → Q) → is_none new ≡ false → Q)
    → is_none (if b then Some v else new) ≡ false → Q
next-key true v old new h ih e = h refl
next-key false v old new h ih e = ih h e

last-key : (P : WSym → Type 0) (qs : Pairs) (p : WSym × List WSym) (x : WSym) → (is_none (value_at qs x) ≡ false → P x) → P p.0 → is_none (value_at (qs ++ p ∷ []) x) ≡ false → P x
last-key P [] p x h g e = by_kind (is_same p.0 x) refl
  where
    by_kind : (b : Bool) → is_same p.0 x ≡ b → P x
    by_kind true is = subst P (is_same-true p.0 x is) g
    by_kind false is = absurd (true≢false (sym (ap (λ (c : Bool). is_none (if c then Some p.1 else None)) is) ∙ e))
last-key P (q ∷ qs) p x h g e = next-key (is_same q.0 x) q.1 (value_at qs x) (value_at (qs ++ p ∷ []) x) h (λ f. last-key P qs p x f g) e

pub key-more : (P : WSym → Type 0) (ps : Pairs) (i : ℕ) (p : WSym × List WSym) → i < length ps → p ≡ get_or ps i p
    → ((x : WSym) → is_none (value_at (take i ps) x) ≡ false → P x) → P p.0 → (x : WSym) → is_none (value_at (take (i + 1) ps) x) ≡ false → P x
key-more P ps i p h e so_far new x g =
    last-key P (take i ps) p x (so_far x) new (sym (ap (λ (qs : Pairs). is_none (value_at qs x)) (take_more ps i p h ∙ ap (λ (q : WSym × List WSym). take i ps ++ q ∷ []) (sym e))) ∙ g)

-- one binding more

abbrev pub Keeps : Keyed → Keyed → Type 0
Keeps old new = (i : ℕ) (x : WSym) → IsPlaced old i x → IsPlaced new i x

front-at : (line : Line) (theta : Pairs) (i : ℕ) → i < length line → get_or (line ++ theta ∷ []) i [] ≡ get_or line i []
front-at line theta i h = grind (arith, common_steps)

last-at : (line : Line) (theta : Pairs) (i : ℕ) → i ≡ length line → get_or (line ++ theta ∷ []) i [] ≡ theta
last-at line theta i h = grind (arith, common_steps)

pub keyed-nil : (keyed : Keyed) → IsKeyed keyed []
keyed-nil keyed i x h e = absurd (omega arith)

pub keyed-more : (old new : Keyed) (line : Line) (theta : Pairs) → Keeps old new → IsKeyed old line
    → ((x : WSym) → is_none (value_at theta x) ≡ false → IsPlaced new (length line) x) → IsKeyed new (line ++ theta ∷ [])
keyed-more old new line theta keeps k g i x h e = by_place (i == length line) refl
  where
    by_place : (b : Bool) → (i == length line) ≡ b → IsPlaced new i x
    by_place true is =
        let at : i ≡ length line = grind (arith, is) in
        subst (λ (j : ℕ). IsPlaced new j x) (sym at) (g x (sym (ap (λ (t : Pairs). is_none (value_at t x)) (last-at line theta i at)) ∙ e))
    by_place false is =
        let at : i < length line = grind (arith, h, length-append line (theta ∷ []), is) in
        keeps i x (k i x at (sym (ap (λ (t : Pairs). is_none (value_at t x)) (front-at line theta i at)) ∙ e))

pub keyed-next : (old new : Keyed) (line : Line) (theta : Pairs) (i place : ℕ) → i < length line → theta ≡ get_or line i theta → place ≡ i → Keeps old new → IsKeyed old (take i line)
    → ((x : WSym) → is_none (value_at theta x) ≡ false → IsPlaced new place x) → IsKeyed new (take (i + 1) line)
keyed-next old new line theta i place h e is keeps k g =
    let same : take i line ++ theta ∷ [] ≡ take (i + 1) line = ap (λ (t : Pairs). take i line ++ t ∷ []) e ∙ sym (take_more line i theta h) in
    let many : place ≡ length (take i line) = grind (arith, common_steps) in
    subst (IsKeyed new) same (keyed-more old new (take i line) theta keeps k (λ x f. subst (λ (j : ℕ). IsPlaced new j x) many (g x f)))

-- the bindings of an index are of work variables

or-there : (b : Bool) (v : List WSym) (o : Option (List WSym)) → is_none o ≡ false → is_none (if b then Some v else o) ≡ false
or-there true v o h = refl
or-there false v o h = h

key-there : (ps : Pairs) (k : ℕ) (d : WSym × List WSym) → k < length ps → is_none (value_at ps (get_or ps k d).0) ≡ false
key-there [] k d h = absurd (omega arith)
key-there (p ∷ ps) zero d h = ap (λ (b : Bool). is_none (if b then Some p.1 else value_at ps p.0)) (is_same-itself p.0)
key-there (p ∷ ps) (suc k) d h = or-there (is_same p.0 (get_or ps k d).0) p.1 (value_at ps (get_or ps k d).0) (key-there ps k d (omega arith))

work-placed : (keyed : Keyed) (i : ℕ) (x : WSym) → IsPlaced keyed i x → is_work x ≡ true
work-placed keyed i (Work n) h = refl
work-placed keyed i (Const n) h = absurd h
work-placed keyed i (Var n) h = absurd h

pub works-keyed : (keyed : Keyed) (line : Line) → IsKeyed keyed line → All HasWorkKeys line
works-keyed keyed line k i d h j e g =
    let t : Pairs = get_or line i d in
    let same : get_or line i [] ≡ t = grind (arith, common_steps, h) in
    work-placed keyed i (get_or t j e).0 (k i (get_or t j e).0 h (ap (λ (u : Pairs). is_none (value_at u (get_or t j e).0)) same ∙ key-there t j e g))
