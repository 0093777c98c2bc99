-- Plans that are laid out, one step more and all.
use Rattle.std.proofs.Common.{◌≡◌, ℕ, ◌+◌, ◌-◌, ◌≤◌, ◌<◌, true, List, [], ◌∷◌, ◌++◌, length, take, drop, get_or, Option, None, Some, refl, sym, ap, ◌∙◌, subst, arith}
use Rattle.std.specs.Prelude.{Result, Ok, Err, IfOk, IfSome}
use Rattle.std.specs.List.{All, sum_by}
use Rattle.std.proofs.lemmas.List.{get_or_push}
use Rattle.std.proofs.lemmas.List.Sums.{sum_by_push}
use Rattle.std.specs.Cmp.Lexicographic.{pointwise}
use Rattle.mm_subst.specs.declared.symbol.WSym.{WSym}
use Rattle.mm_subst.specs.Substitutions.{Pairs, applied}
use Rattle.mm_subst.specs.Symbols.{is_same}
use Rattle.mm_subst.proofs.Replaced.{applied-empty}
use Rattle.mm_subst.specs.Statements.{statement_of}
use Rattle.mm_unify.specs.declared.listing.Settings.{Settings}
use Rattle.mm_plain.specs.LabelTrees.{MayStand}
use Rattle.mm_plain.specs.declared.plain.Plain.{Plain}
use Rattle.mm_plain.specs.Shape.{known, size_of, target_of}
use Rattle.mm_plain.specs.Valid.{most_steps, most_works}
use Rattle.mm_tree.specs.Labelled.{FoldLow, draws_all}
use Rattle.mm_tree.specs.Plans.{Grove, IsPlan, grove_of, grown, no_tree}
use Rattle.mm_tree.specs.declared.plan.Plan.{Plan}
use Rattle.mm_edit.specs.Built.{IsBuiltProof}
use Rattle.mm_edit.specs.LaidOut.{IsLaidOut, LaysAgain, LaysKnown, takes}
use Rattle.mm_edit.specs.Laying.{HasOneMore, IsLaidPlan, IsWhole, begin_of}
use Rattle.mm_edit.proofs.BuiltParts.{same_string}
use Rattle.mm_edit.proofs.LaidLemmas.{laid_again, laid_known}
use Rattle.mm_edit.proofs.LaidValid.{laid_built}

-- what two clauses say of an answer
pub if_both : {X E : Type 0} (r : Result X E) (P Q R : X → Type 0) → IfOk r P → IfOk r Q → ((x : X) → P x → Q x → R x) → IfOk r R
if_both (Ok x) P Q R p q f = f x p q
if_both (Err e) P Q R p q f = tt

last_is : (g : Grove) (stay n : ℕ) (x : Plain) → n ≡ length g.made → get_or (grown g stay x).made n no_tree ≡ x
last_is g stay n x e = get_or_push g.made x no_tree n (sym e)

one_more : (bytes : List ℕ) (at : ℕ) (set : Settings) (labels : List (Option ℕ)) (begins : List ℕ) (g : Grove) (q : Plan) (stay : ℕ) (x : Plain) → IsLaidOut bytes at set labels g begins → IsPlan q
    → grove_of q ≡ grown g stay x → IsLaidOut bytes at set labels (grove_of q) (begins ++ begin_of (grove_of q) (length begins) ∷ []) → HasOneMore bytes at set labels begins q
one_more bytes at set labels begins g q stay x before plan e laid =
    let made : get_or (grove_of q).made (length begins) no_tree ≡ x = ap (λ (h : Grove). get_or h.made (length begins) no_tree) e ∙ last_is g stay (length begins) x before.count in
    let sum : sum_by size_of (grove_of q).standing ≡ sum_by size_of (take stay g.standing) + size_of x = ap (λ (h : Grove). sum_by size_of h.standing) e ∙ sum_by_push size_of (take stay g.standing) x in
    record { all = record { plan = plan; laid = laid }; last = omega (arith, ap size_of made, sum) }

pub named_more : (bytes : List ℕ) (at : ℕ) (set : Settings) (labels : List (Option ℕ)) (begins : List ℕ) (p q : Plan) (id : ℕ) → IsLaidPlan bytes at set labels begins p → All (MayStand bytes at) labels
    → sum_by size_of (grove_of p).standing < length labels → get_or labels (sum_by size_of (grove_of p).standing) None ≡ Some id → IsPlan q → LaysKnown bytes set id (grove_of p) (grove_of q) → HasOneMore bytes at set labels begins q
named_more bytes at set labels begins p q id h stand l e plan lays =
    let g : Grove = grove_of p in
    let stay : ℕ = length g.standing - takes bytes id in
    one_more bytes at set labels begins g q stay (known lays.target id lays.sigma (drop stay g.standing)) h.laid plan lays.more
    (laid_known bytes at set labels id g (grove_of q) begins (begins ++ begin_of (grove_of q) (length begins) ∷ []) h.laid lays (subst (MayStand bytes at) e (stand (sum_by size_of g.standing) None l)) l e refl)

pub again_more : (bytes : List ℕ) (at : ℕ) (set : Settings) (labels : List (Option ℕ)) (begins : List ℕ) (p q : Plan) (begin step : ℕ) → IsLaidPlan bytes at set labels begins p → begin ≡ get_or begins step 0
    → IsPlan q → LaysAgain labels begin step (grove_of p) (grove_of q) → HasOneMore bytes at set labels begins q
again_more bytes at set labels begins p q begin step h e plan lays =
    let g : Grove = grove_of p in
    one_more bytes at set labels begins g q (length g.standing) (get_or g.made step no_tree) h.laid plan lays.more
    (laid_again bytes at set labels step g (grove_of q) begins (begins ++ begin_of (grove_of q) (length begins) ∷ []) h.laid (subst (λ (k : ℕ). LaysAgain labels k step g (grove_of q)) e lays) refl)

-- one that is whole

pub plan_built : (bytes : List ℕ) (at : ℕ) (set : Settings) (labels : List (Option ℕ)) (o : Option Plan) (p : Plan) (next : ℕ) → IfSome o (λ q. (begins : List ℕ) × IsLaidPlan bytes at set labels begins q) → o ≡ Some p
    → IsWhole bytes at labels (grove_of p) → FoldLow bytes labels → length labels ≤ most_steps → (next ≡ 1 + draws_all bytes labels) × (next ≤ most_works + 1)
    → IsBuiltProof bytes at set labels (record { plain = get_or (grove_of p).standing 0 no_tree; next = next })
plan_built bytes at set labels o p next h is w low few drawn =
    let P : Plan → Type 0 = λ q. (begins : List ℕ) × IsLaidPlan bytes at set labels begins q in
    let laid : P p = subst (λ (r : Option Plan). IfSome r P) is h in
    let fit : draws_all bytes labels ≤ most_works = omega (arith, drawn.0, drawn.1) in
    let b = laid_built bytes at set labels (grove_of p) laid.0 laid.1.laid w.one w.steps w.goal few fit low in
    subst (λ (n : ℕ). IsBuiltProof bytes at set labels (record { plain = get_or (grove_of p).standing 0 no_tree; next = n })) (sym drawn.0) b.1

pub whole_so : (bytes : List ℕ) (at : ℕ) (labels : List (Option ℕ)) (g : Grove) (t : List WSym) (s : Pairs) → length g.standing ≡ 1 → sum_by size_of g.standing ≡ length labels → s ≡ [] → t ≡ target_of (get_or g.standing 0 no_tree)
    → pointwise is_same t (applied s (statement_of bytes at)) ≡ true → IsWhole bytes at labels g
whole_so bytes at labels g t s one steps none is same = record {
  one = one;
  steps = steps;
  goal = sym is ∙ same_string t (applied s (statement_of bytes at)) same ∙ ap (λ (r : Pairs). applied r (statement_of bytes at)) none ∙ applied-empty (statement_of bytes at);
}
