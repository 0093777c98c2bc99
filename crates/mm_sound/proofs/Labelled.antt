-- The label tree of a valid proof.
use Rattle.std.proofs.Common.{◌≡◌, ◌<◌, ℕ, zero, suc, Bool, true, false, List, [], ◌∷◌, ◌++◌, map, length, slice_index_or, Option, None, Some, Ok, refl, sym, ap, ◌∙◌, subst, arith, if◌then◌else◌}
use Rattle.std.proofs.lemmas.List.{length-map, map-append}
use Rattle.std.proofs.lemmas.List.Concat.{flat_map-cons}
use Rattle.std.specs.List.{flat_map, AllByRecursion as ByRecursion}
use Rattle.mm_scope.specs.Contents.{stated_at, labels_of, find_label, distinct_at}
use Rattle.mm_stated.specs.Stated.{is_hypothesis}
use Rattle.mm_tokens.specs.Words.{is_bad_label}
use Rattle.mm_subst.specs.Statements.{statement_of}
use Rattle.mm_subst.specs.Substitutions.{Pairs, applied}
use Rattle.mm_subst.specs.declared.symbol.WSym.{WSym}
use Rattle.mm_plain.specs.declared.plain.Plain.{Plain}
use Rattle.mm_plain.specs.declared.plain.Plain.TheOpen as L
use Rattle.mm_plain.specs.declared.plain.Plain.TheFolds as F
use Rattle.mm_plain.specs.Labels.{label_at}
use Rattle.mm_plain.specs.Premises.{premises_of, may_stand}
use Rattle.mm_plain.specs.Shape.{Each, Proof, known, unknown, steps_of, target_of}
use Rattle.mm_plain.specs.Sources.{label_of}
use Rattle.mm_plain.specs.Valid.{Setting, setting_of, IsInstance, IsSound, IsValid}
use Rattle.mm_plain.proofs.Equations.{by_trees, steps_of-known, steps_of-unknown, target_of-known}
use Rattle.mm_plain.proofs.Kept.{kids-sound}
use Rattle.mm_plain.proofs.Labels.{has_label}
use Rattle.mm_plain.proofs.Read.{label_of-known, label_of-unknown}
use Rattle.mm_proof.specs.Decoding.{spelled as read_text}
use Rattle.mm_proof.specs.Encoding.{word_of, kind_of, compressed_proof}
use Rattle.mm_proof.specs.Compacting.{compact}
use Rattle.mm_proof.specs.Forests.{arity_of, trees_in}
use Rattle.mm_proof.specs.Spelling.{steps_read}
use Rattle.mm_proof.specs.Standing.{MayProve, normal_steps}
use Rattle.mm_proof.specs.Steps.{untagged}
use Rattle.mm_proof.specs.Standing as proof
use Rattle.mm_proof.specs.Trees.{Tree, none, more, tree, trees_of, list_of, postorder, AreWhole}
use Rattle.mm_proof.proofs.Lines.{compressed_reads}
use Rattle.mm_proof.proofs.Reread.{normal_folds}
use Rattle.mm_proof.proofs.Same.{list-trees}
use Rattle.mm_stack.specs.Accepting.{verdict_after, verdict_by}
use Rattle.mm_stack.specs.Running.{run_step, run}
use Rattle.mm_stack.specs.declared.outcome.StackFault.TheVariants.{WrongResult}
use Rattle.mm_stack.specs.declared.outcome.Verdict.TheVariants.{Accepted, Faulty}
use Rattle.mm_sound.specs.Apart.{KeepsPairs, IsApart}
use Rattle.mm_sound.specs.Complete.{IsDone, IsComplete, labels_in, kind_for, step_for, spelled}
use Rattle.mm_sound.specs.LabelTrees.{label_step, label_tree}
use Rattle.mm_sound.specs.Numbers.{numbers}
use Rattle.mm_sound.proofs.Runs.{at, entry_of, split, is_step, done_by, never_unknown, premises_are, premises_by}
use Rattle.mm_sound.specs.Proves.{Proves}
use Rattle.mm_sound.proofs.Mandatory.{mandatory_hypotheses}
use Rattle.mm_sound.proofs.Popped.{bytes_eq-itself}
use Rattle.mm_sound.proofs.Shared.{Derive, Pushes, compact_runs}
use Rattle.mm_sound.proofs.Strings.{numbers-statement}
use Rattle.mm_sound.proofs.Spelled.{MayStand, labels_stand, own_label}

label_tree-unknown : (t : List WSym) → label_tree (unknown t) ≡ tree 0 none
unfolding label_tree
label_tree-unknown t = F.fold-roll-Plain Tree label_step (L.Unknown t)

pub label_tree-known : (t : List WSym) (l : ℕ) (s : Pairs) (kids : List Plain) → label_tree (known t l s kids) ≡ tree (suc l) (trees_of (map label_tree kids))
unfolding label_tree
label_tree-known t l s kids = F.fold-roll-Plain Tree label_step (L.Known t l s kids)

-- the number of a label
abbrev pub number_for : Option ℕ → ℕ
number_for None = 0
number_for (Some l) = suc l

-- the labels of trees in postorder
postorder-append : (t : Tree) (ts : List Tree) → postorder (trees_of (t ∷ ts)) ≡ postorder (trees_of (t ∷ [])) ++ postorder (trees_of ts)
postorder-append t ts = by (postorder t.children) t.label (postorder (trees_of ts))
  where
    by : (cs : List ℕ) (l : ℕ) (rest : List ℕ) → cs ++ l ∷ rest ≡ (cs ++ l ∷ []) ++ rest
    by [] l rest = refl
    by (c ∷ cs) l rest = ap (λ xs. c ∷ xs) (by cs l rest)

abbrev IsPostorder : Plain → Type 0
IsPostorder x = postorder (trees_of (label_tree x ∷ [])) ≡ map number_for (labels_in x)

kids_postorder : (kids : List Plain) → Each IsPostorder kids → postorder (trees_of (map label_tree kids)) ≡ map number_for (map label_of (flat_map steps_of kids))
kids_postorder [] h = refl
kids_postorder (x ∷ xs) h =
    postorder-append (label_tree x) (map label_tree xs)
    ∙ ap (λ ns. ns ++ postorder (trees_of (map label_tree xs))) h.0
    ∙ ap (λ ns. map number_for (labels_in x) ++ ns) (kids_postorder xs h.1)
    ∙ sym (map-append number_for (labels_in x) (map label_of (flat_map steps_of xs)))
    ∙ ap (map number_for) (sym (map-append label_of (steps_of x) (flat_map steps_of xs)) ∙ ap (map label_of) (sym (flat_map-cons steps_of x xs)))

pub is_postorder : (x : Plain) → IsPostorder x
is_postorder = by_trees IsPostorder
    (λ t. ap (λ u. postorder (trees_of (u ∷ []))) (label_tree-unknown t) ∙ sym (ap (λ xs. map number_for (map label_of xs)) (steps_of-unknown t) ∙ ap (λ o. number_for o ∷ []) (label_of-unknown t)))
    (λ t l s kids h.
    ap (λ u. postorder (trees_of (u ∷ []))) (label_tree-known t l s kids)
    ∙ ap (λ ns. ns ++ suc l ∷ []) (kids_postorder kids h)
    ∙ ap (λ o. map number_for (map label_of (flat_map steps_of kids)) ++ number_for o ∷ []) (sym (label_of-known t l s kids))
    ∙ sym (map-append number_for (map label_of (flat_map steps_of kids)) (label_of (known t l s kids) ∷ []))
    ∙ ap (map number_for) (sym (map-append label_of (flat_map steps_of kids) (known t l s kids ∷ [])) ∙ ap (map label_of) (sym (steps_of-known t l s kids))))

-- each label has as many children as it pops entries
whole_kids : (arity : ℕ → ℕ) (kids : List Plain) → Each (λ x. AreWhole arity (trees_of (label_tree x ∷ []))) kids → AreWhole arity (trees_of (map label_tree kids))
whole_kids arity [] h = tt
whole_kids arity (x ∷ xs) h = (h.0.0, (h.0.1.0, whole_kids arity xs h.1))

arity_by : (bytes : List ℕ) (l : ℕ) (b : Bool) → is_hypothesis (stated_at bytes l).kind ≡ b → length (premises_by bytes l b) ≡ arity_of bytes (suc l)
unfolding arity_of premises_by
arity_by bytes l true e = sym (ap (λ b. if b then 0 else length (stated_at bytes l).mandatory) e)
arity_by bytes l false e = length-map (stated_at bytes l).mandatory (statement_of bytes) ∙ sym (ap (λ b. if b then 0 else length (stated_at bytes l).mandatory) e)

children_many : (c : Setting) (t : List WSym) (l : ℕ) (s : Pairs) (kids : List Plain) → IsInstance c t l s (map target_of kids) → length (list_of (trees_of (map label_tree kids))) ≡ arity_of c.bytes (suc l)
children_many c t l s kids is =
    ap length (list-trees (map label_tree kids))
    ∙ length-map kids label_tree ∙ sym (length-map kids target_of)
    ∙ ap length is.children
    ∙ length-map (premises_of c.bytes l) (applied s)
    ∙ ap length (premises_are c.bytes l (is_hypothesis (stated_at c.bytes l).kind) refl)
    ∙ arity_by c.bytes l (is_hypothesis (stated_at c.bytes l).kind) refl

no_arity : (bytes : List ℕ) → 0 ≡ arity_of bytes 0
unfolding arity_of
no_arity bytes = refl

pub is_whole : (c : Setting) (x : Plain) → IsSound c x → AreWhole (arity_of c.bytes) (trees_of (label_tree x ∷ []))
is_whole c = by_trees (λ x. IsSound c x → AreWhole (arity_of c.bytes) (trees_of (label_tree x ∷ [])))
    (λ t v. subst (λ u. AreWhole (arity_of c.bytes) (trees_of (u ∷ []))) (sym (label_tree-unknown t)) (no_arity c.bytes, (tt, tt)))
    (λ t l s kids h v.
    let vs = kids-sound c t l s kids v in
    subst (λ u. AreWhole (arity_of c.bytes) (trees_of (u ∷ []))) (sym (label_tree-known t l s kids))
    (children_many c t l s kids vs.1, (whole_kids (arity_of c.bytes) kids (all_whole c kids h vs.0), tt)))
  where
    all_whole : (c : Setting) (kids : List Plain) → Each (λ x. IsSound c x → AreWhole (arity_of c.bytes) (trees_of (label_tree x ∷ []))) kids → Each (IsSound c) kids
        → Each (λ x. AreWhole (arity_of c.bytes) (trees_of (label_tree x ∷ []))) kids
    all_whole c [] h v = tt
    all_whole c (x ∷ xs) h v = (h.0 v.0, all_whole c xs h.1 v.1)

-- and may stand
word_is : (ls : List (List ℕ)) (n : ℕ) (d e : List ℕ) → n < length ls → slice_index_or ls n d ≡ slice_index_or ls n e
word_is [] n d e h = absurd (omega arith)
word_is (l ∷ ls) zero d e h = refl
word_is (l ∷ ls) (suc n) d e h = word_is ls n d e (omega arith)

named : (bytes : List ℕ) (l : ℕ) → l < length (labels_of bytes) → word_of bytes (suc l) ≡ label_at bytes l
unfolding word_of
named bytes l own = word_is (labels_of bytes) l (63 ∷ []) [] own

one_stands : (bytes : List ℕ) (at_id : ℕ) (o : Option ℕ) → at_id < length (labels_of bytes) → MayStand bytes at_id o → proof.MayStand bytes at_id (number_for o)
unfolding may_stand
one_stands bytes at_id None own h = tt
one_stands bytes at_id (Some l) own h =
    let mine : l < length (labels_of bytes) = own_label bytes at_id l own h in
    let label = has_label bytes l mine in
    let word = named bytes l mine in
    record {
      found = ap (find_label bytes) word ∙ label.found;
      fit = ap is_bad_label word ∙ label.fit;
      some = subst (λ w. 0 < length w) (sym word) label.some;
      stands = h;
    }

all_stand : (bytes : List ℕ) (at_id : ℕ) (os : List (Option ℕ)) → at_id < length (labels_of bytes) → ByRecursion (MayStand bytes at_id) os → ByRecursion (proof.MayStand bytes at_id) (map number_for os)
all_stand bytes at_id [] own h = tt
all_stand bytes at_id (o ∷ os) own h = (one_stands bytes at_id o own h.0, all_stand bytes at_id os own h.1)

-- so a valid proof may be written
pub may_prove : (bytes : List ℕ) (at_id : ℕ) (goal : List WSym) (p : Proof) → at_id < length (labels_of bytes) → IsValid bytes at_id goal p → MayProve bytes at_id (label_tree p.plain)
may_prove bytes at_id goal p own v = record {
  whole = is_whole (setting_of bytes at_id p) p.plain v.steps;
  labels = subst (ByRecursion (proof.MayStand bytes at_id)) (sym (is_postorder p.plain)) (all_stand bytes at_id (labels_in p.plain) own (labels_stand (setting_of bytes at_id p) p.plain v.steps));
}

-- the label of a step is read as the step
pub kind_is : (bytes : List ℕ) (o : Option ℕ) → kind_of bytes (number_for o) ≡ kind_for bytes o
unfolding kind_of
kind_is bytes None = refl
kind_is bytes (Some l) = refl

-- the entries of a complete proof are those of its label tree
abbrev Derives : List ℕ → List (List ℕ) → Plain → Type 0
Derives bytes groups x = Derive bytes groups (trees_of (label_tree x ∷ [])) (entry_of x ∷ [])

derive_kids : (bytes : List ℕ) (groups : List (List ℕ)) (kids : List Plain) → Each (Derives bytes groups) kids → Derive bytes groups (trees_of (map label_tree kids)) (map entry_of kids)
derive_kids bytes groups [] h = tt
derive_kids bytes groups (x ∷ xs) h = (h.0.0, (h.0.1.0, (h.0.1.1.0, derive_kids bytes groups xs h.1)))

each_by : (A B C R : Plain → Type 0) (xs : List Plain) → Each (λ x. A x → B x → C x → R x) xs → Each A xs → Each B xs → Each C xs → Each R xs
each_by A B C R [] f a b c = tt
each_by A B C R (x ∷ xs) f a b c = (f.0 a.0 b.0 c.0, each_by A B C R xs f.1 a.1 b.1 c.1)

pub tree_derives : (c : Setting) (groups : List (List ℕ)) (x : Plain) → IsSound c x → IsComplete c.bytes x → IsApart c.bytes groups x → Derives c.bytes groups x
tree_derives c groups = by_trees (λ x. IsSound c x → IsComplete c.bytes x → IsApart c.bytes groups x → Derives c.bytes groups x)
    (λ t v d a. absurd (never_unknown c.bytes t d))
    (λ t l s kids h v d a.
    let vs = kids-sound c t l s kids v in
    let ds = split (IsDone c.bytes) t l s kids d in
    let ps = split (KeepsPairs c.bytes groups) t l s kids a in
    let all = each_by (IsSound c) (IsComplete c.bytes) (IsApart c.bytes groups) (Derives c.bytes groups) kids h vs.0 ds.0 ps.0 in
    let done : Pushes c.bytes groups (suc l) (map entry_of kids) (numbers t) = λ stack results.
    ap (run_step c.bytes groups (at (stack ++ map entry_of kids) results)) (kind_is c.bytes (Some l))
    ∙ done_by c groups t l s kids (is_step c groups t l s kids vs.1 ds.1 ps.1) (is_hypothesis (stated_at c.bytes l).kind) refl stack results in
    subst (λ u. Derive c.bytes groups (trees_of (u ∷ [])) (entry_of (known t l s kids) ∷ [])) (sym (label_tree-known t l s kids))
    (subst (λ u. Derive c.bytes groups (more (suc l) (trees_of (map label_tree kids)) none) (numbers u ∷ [])) (sym (target_of-known t l s kids))
    (map entry_of kids, (derive_kids c.bytes groups kids all, (done, tt)))))

-- the steps that a proof spells are those of its label tree
steps_same : (bytes : List ℕ) (os : List (Option ℕ)) → map (step_for bytes) os ≡ map (λ l. untagged (kind_of bytes l)) (map number_for os)
steps_same bytes [] = refl
steps_same bytes (o ∷ os) = ap (λ k. untagged k ∷ map (step_for bytes) os) (sym (kind_is bytes o)) ∙ ap (λ ss. untagged (kind_of bytes (number_for o)) ∷ ss) (steps_same bytes os)

pub spelled_is : (bytes : List ℕ) (x : Plain) → spelled bytes x ≡ normal_steps bytes (label_tree x)
spelled_is bytes x = steps_same bytes (labels_in x) ∙ ap (map (λ l. untagged (kind_of bytes l))) (sym (is_postorder x))

-- and fold to it
pub spelled_folds : (bytes : List ℕ) (at_id : ℕ) (goal : List WSym) (p : Proof) → at_id < length (labels_of bytes) → IsValid bytes at_id goal p → trees_in bytes (spelled bytes p.plain) ≡ Some (label_tree p.plain ∷ [])
spelled_folds bytes at_id goal p own v = ap (trees_in bytes) (spelled_is bytes p.plain) ∙ normal_folds bytes at_id (label_tree p.plain) (may_prove bytes at_id goal p own v)

-- a complete proof runs to its goal with back references too
pub compressed_runs : (bytes : List ℕ) (at_id : ℕ) (goal : List WSym) (p : Proof) (groups : List (List ℕ)) → IsValid bytes at_id goal p → IsComplete bytes p.plain → IsApart bytes groups p.plain
    → run bytes groups (steps_read (kind_of bytes) (compact (label_tree p.plain))) ≡ Ok (numbers goal ∷ [])
compressed_runs bytes at_id goal p groups v d a =
    compact_runs bytes groups (label_tree p.plain) (entry_of p.plain) (tree_derives (setting_of bytes at_id p) groups p.plain v.steps d a)
    ∙ ap (λ g. Ok (numbers g ∷ [])) v.goal_is

pub theorem_compressed : (bytes : List ℕ) (at_id : ℕ) (p : Proof) → Proves bytes at_id p
    → run bytes (distinct_at bytes at_id) (steps_read (kind_of bytes) (compact (label_tree p.plain))) ≡ Ok ((stated_at bytes at_id).symbols ∷ [])
theorem_compressed bytes at_id p v =
    compressed_runs bytes at_id (statement_of bytes at_id) p (distinct_at bytes at_id) v.valid v.complete v.apart ∙ ap (λ x. Ok (x ∷ [])) (numbers-statement bytes at_id)

pub compressed_accepted : (bytes : List ℕ) (at_id : ℕ) (p : Proof) → Proves bytes at_id p → verdict_by bytes at_id (Ok (steps_read (kind_of bytes) (compact (label_tree p.plain)))) ≡ Accepted
compressed_accepted bytes at_id p v = accepted_at bytes at_id (theorem_compressed bytes at_id p v)
  where
    accepted_at : (bytes : List ℕ) (at_id : ℕ) → run bytes (distinct_at bytes at_id) (steps_read (kind_of bytes) (compact (label_tree p.plain))) ≡ Ok ((stated_at bytes at_id).symbols ∷ [])
        → verdict_by bytes at_id (Ok (steps_read (kind_of bytes) (compact (label_tree p.plain)))) ≡ Accepted
    accepted_at bytes at_id e =
        let goal : List ℕ = (stated_at bytes at_id).symbols in
        ap (verdict_after goal) e ∙ ap (λ b. if b then Accepted else Faulty WrongResult) (bytes_eq-itself goal)

-- so its text in the compressed form is accepted, wherever it stands
pub compressed_spells : (bytes : List ℕ) (at_id from : ℕ) (goal : List WSym) (p : Proof) → at_id < length (labels_of bytes) → IsValid bytes at_id goal p
    → read_text bytes at_id from (compressed_proof bytes at_id (label_tree p.plain)) ≡ Ok (steps_read (kind_of bytes) (compact (label_tree p.plain)))
compressed_spells bytes at_id from goal p own v = compressed_reads bytes at_id from (label_tree p.plain) (may_prove bytes at_id goal p own v) (mandatory_hypotheses bytes at_id)

pub text_accepted : (bytes : List ℕ) (at_id from : ℕ) (p : Proof) → at_id < length (labels_of bytes) → Proves bytes at_id p
    → verdict_by bytes at_id (read_text bytes at_id from (compressed_proof bytes at_id (label_tree p.plain))) ≡ Accepted
text_accepted bytes at_id from p own v =
    ap (verdict_by bytes at_id) (compressed_spells bytes at_id from (statement_of bytes at_id) p own v.valid) ∙ compressed_accepted bytes at_id p v
