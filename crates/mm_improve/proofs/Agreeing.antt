-- For each database the chosen proof by items is the chosen proof by unifiers.
use Rattle.std.proofs.Common.{◌≡◌, ◌<◌, ◌+◌, ℕ, zero, suc, Bool, true, false, not, ◌&&◌, List, [], ◌∷◌, length, sym, arith, inl, inr, subst, nat_lt}
use Rattle.std.specs.List.{All, AllByRecursion, range_with_len}
use Rattle.std.proofs.lemmas.Bool.{and_parts, not-true}
use Rattle.std.proofs.lemmas.List.Elements.{recursion_from_All}
use Rattle.mm_scope.specs.Contents.{labels_of, statements_of, stated_at, active_at}
use Rattle.mm_scope.specs.Description.{is_usage_guarded}
use Rattle.mm_scope.specs.Laws.{AllDiffer}
use Rattle.mm_stated.specs.Mandatory.{variables_of}
use Rattle.mm_stated.specs.Stated.{is_hypothesis}
use Rattle.mm_unify.proofs.Sorted.{Among, among_filtered}
use Rattle.mm_plain.proofs.Forms.{formed}
use Rattle.mm_improve.specs.Assertions.{Terms, may_be_used, has_essential, are_concluded, plain_assertions}
use Rattle.mm_improve.specs.Grammars.{AnswersAgree}
use Rattle.mm_improve.proofs.Forms.{IsPlainAssertion, IsStatedAs}
use Rattle.mm_improve.proofs.Plain.{plain_form}
use Rattle.mm_improve.proofs.Active.{active_stated}
use Rattle.mm_improve.proofs.Ranking.{answered}

among_all : {X : Type 0} (P : X → Type 0) (xs : List X) → All P xs → (x : X) → Among x xs → P x
among_all P xs h x a = go xs (recursion_from_All P xs h) a
  where
    go : (ys : List _) → AllByRecursion P ys → Among x ys → P x
    go [] k a = absurd a
    go (y ∷ ys) k (inl e) = subst P (sym e) k.0
    go (y ∷ ys) k (inr a) = go ys k.1 a

among_range : (a n x : ℕ) → Among x (range_with_len a n) → x < a + n
among_range a zero x h = absurd h
among_range a (suc n) x (inl e) = omega (arith, e)
among_range a (suc n) x (inr h) = let l = among_range (a + 1) n x h in omega (arith, l)

abbrev pub VariablesDiffer : List ℕ → Type 0
VariablesDiffer bytes = (id : ℕ) → AllDiffer (variables_of (statements_of bytes) (stated_at bytes id).mandatory)

-- what holds of an assertion that may be used
pub record IsUsable (c : Terms) (id : ℕ) : Type 0 where
  pub own : id < length (labels_of c.bytes)
  pub earlier : id < c.at
  pub assertion : is_hypothesis (stated_at c.bytes id).kind ≡ false
  pub concluded : are_concluded c.bytes id ≡ true

pub usable : (c : Terms) → c.at < length (labels_of c.bytes) → (id : ℕ) → (p : Bool) → Among id (range_with_len 0 c.at) → (may_be_used c id && p) ≡ true → IsUsable c id × (p ≡ true)
usable c own id p a h =
    let g = not (is_usage_guarded c.bytes id) in
    let d = not (c.no_distinct && nat_lt 0 (length (stated_at c.bytes id).pairs)) in
    let k = not (is_hypothesis (stated_at c.bytes id).kind) in
    let u = and_parts (may_be_used c id) p h in
    let v = and_parts (k && are_concluded c.bytes id && g) d u.0 in
    let w = and_parts (k && are_concluded c.bytes id) g v.0 in
    let x = and_parts k (are_concluded c.bytes id) w.0 in
    let low = among_range 0 c.at id a in
    (record { own = omega (arith, own, low); earlier = omega (arith, low); assertion = not-true (is_hypothesis (stated_at c.bytes id).kind) x.0; concluded = x.1 }, u.1)

pub plain_usable : (c : Terms) → c.at < length (labels_of c.bytes) → (id : ℕ) → Among id (plain_assertions c) → IsUsable c id × (has_essential c.bytes id ≡ false)
plain_usable c own id a =
    let f = among_filtered (λ id. may_be_used c id && not (has_essential c.bytes id)) id (range_with_len 0 c.at) a in
    let u = usable c own id (not (has_essential c.bytes id)) f.0 f.1 in
    (u.0, not-true (has_essential c.bytes id) u.1)

pub are_plain : (c : Terms) → VariablesDiffer c.bytes → c.at < length (labels_of c.bytes) → (id : ℕ) → Among id (plain_assertions c) → IsPlainAssertion c.bytes id
are_plain c differ own id a =
    let u = plain_usable c own id a in
    plain_form c.bytes id u.0.own (differ id) u.0.assertion u.0.concluded u.1

pub are_stated : (c : Terms) → c.at < length (labels_of c.bytes) → (id : ℕ) → Among id (active_at c.bytes c.at) → IsStatedAs c.bytes id
are_stated c own = among_all (IsStatedAs c.bytes) (active_at c.bytes c.at) (active_stated c.bytes (formed c.bytes) c.at own)

pub answers_agree : (bytes : List ℕ) → VariablesDiffer bytes → AnswersAgree bytes
answers_agree bytes differ c e low code t plain short o h =
    let own : c.at < length (labels_of c.bytes) = subst (λ b. c.at < length (labels_of b)) (sym e) low in
    answered c (are_plain c (subst VariablesDiffer (sym e) differ) own) (are_stated c own) code t (plain, short) o h
