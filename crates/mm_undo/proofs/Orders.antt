-- Places in the order in which versions became lasting.
use Rattle.std.proofs.Common.{zero, suc, ◌≡◌, ℕ, ◌-◌, List, [], ◌∷◌, ◌++◌, map, drop, length, sym, ap, subst, ◌∙◌, arith}
use Rattle.std.proofs.lemmas.List.{append_assoc, map-append, drop-map, length-map}
use Rattle.std.specs.List.{AllByRecursion as ByRecursion}
use Rattle.mm_tree.specs.Versions.{Versions, HasNoDrafts, StandsAt}
use Rattle.mm_tree.specs.declared.tree.Mark.{Mark}
use Rattle.mm_undo.specs.Histories.{Place, place_of, beginning, IsNoLater, AreInOrder}

abbrev pub place-at : ℕ → ℕ → Place
place-at r b = record { root = r; bindings = b }

pub place-by : {r r' b b' : ℕ} → r ≡ r' → b ≡ b' → place-at r b ≡ place-at r' b'
place-by x y = λ i. place-at (x i) (y i)

-- a mark of the version in hand, where there are no drafts
pub stands : (v : Versions) (m : Mark) → HasNoDrafts v → StandsAt v m.root m.length → place_of m ≡ beginning v
stands v m none at = place-by (omega (arith, at.0, ap length none.no_roots)) (omega (arith, at.1, ap length none.no_bindings))

no-later-trans : (a b c : Place) → IsNoLater a b → IsNoLater b c → IsNoLater a c
no-later-trans a b c h g = (omega (arith, h.0, g.0), omega (arith, h.1, g.1))

rest : (a : Place) (ps : List Place) → AreInOrder (a ∷ ps) → AreInOrder ps
rest a [] h = tt
rest a (b ∷ ps) h = h.1

-- each before a place is no later than it
pub before : (xs : List Place) (y : Place) (zs : List Place) → AreInOrder (xs ++ y ∷ zs) → ByRecursion (λ x. IsNoLater x y) xs
before [] y zs h = tt
before (x ∷ []) y zs h = (h.0, tt)
before (x ∷ w ∷ xs) y zs h = let r = before (w ∷ xs) y zs h.1 in (no-later-trans x w y h.0 r.0, r)

-- a later place in place of the one at which the future begins, and no future
pub moved-on : (xs : List Place) (y z : Place) (zs : List Place) → AreInOrder (xs ++ y ∷ zs) → IsNoLater y z → AreInOrder (xs ++ z ∷ [])
moved-on [] y z zs h l = tt
moved-on (x ∷ []) y z zs h l = (no-later-trans x y z h.0 l, tt)
moved-on (x ∷ w ∷ xs) y z zs h l = (h.0, moved-on (w ∷ xs) y z zs h.1 l)

pub pushed : (xs : List Place) (y z : Place) (zs : List Place) → AreInOrder (xs ++ y ∷ zs) → IsNoLater y z → AreInOrder ((xs ++ y ∷ []) ++ z ∷ [])
pushed [] y z zs h l = (l, tt)
pushed (x ∷ []) y z zs h l = (h.0, (l, tt))
pushed (x ∷ w ∷ xs) y z zs h l = (h.0, pushed (w ∷ xs) y z zs h.1 l)

pub cut : (k : ℕ) (ys zs : List Place) → AreInOrder (ys ++ zs) → AreInOrder (drop k ys ++ zs)
cut zero ys zs h = h
cut (suc k) [] zs h = h
cut (suc k) (y ∷ ys) zs h = cut k ys zs (rest y (ys ++ zs) h)

pub cut-marks : (k : ℕ) (ms : List Mark) (zs : List Place) → AreInOrder (map place_of ms ++ zs) → AreInOrder (map place_of (drop k ms) ++ zs)
cut-marks k ms zs h = subst (λ (l : List Place). AreInOrder (l ++ zs)) (drop-map place_of k ms) (cut k (map place_of ms) zs h)

-- the newest of a list, by what its elements stand for
pub map-newest : {X Y : Type 0} (f : X → Y) (d : ℕ) (xs : List X) → map f (drop (length xs - d) xs) ≡ drop (length (map f xs) - d) (map f xs)
map-newest f d xs = sym (drop-map f (length xs - d) xs) ∙ ap (λ (n : ℕ). drop (n - d) (map f xs)) (sym (length-map xs f))

-- the marks before, a place, and the marks after
abbrev pub places_by : List Mark → Place → List Mark → List Place
places_by past p future = map place_of past ++ p ∷ map place_of future

-- the same places, the last mark of the past being where one stands
pub stepped : (past : List Mark) (m : Mark) (p q : Place) (n : Mark) (future : List Mark) → place_of m ≡ p → place_of n ≡ q → places_by (past ++ m ∷ []) q future ≡ places_by past p (n ∷ future)
stepped past m p q n future e f =
    ap (λ (l : List Place). l ++ q ∷ map place_of future) (map-append place_of past (m ∷ []))
    ∙ append_assoc (map place_of past) (place_of m ∷ []) (q ∷ map place_of future)
    ∙ ap (λ (r : Place). map place_of past ++ r ∷ q ∷ map place_of future) e
    ∙ ap (λ (r : Place). map place_of past ++ p ∷ r ∷ map place_of future) (sym f)
