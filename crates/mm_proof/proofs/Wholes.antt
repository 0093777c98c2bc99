-- The trees that steps fold to take as many children as their labels do; their labels are listed and spelled.
use Rattle.std.proofs.Common.{◌≡◌, ℕ, zero, suc, ◌+◌, ◌-◌, ◌≤◌, Bool, true, false, cond, List, [], ◌∷◌, ◌++◌, length, map, take, drop, slice_get, unwrap_or, Option, None, Some, Result, Ok, Err, IfOk, refl, sym, ap, ◌∙◌, subst, arith, length-append}
use Rattle.std.specs.List.{AllByRecursion, flat_map}
use Rattle.std.proofs.lemmas.List.{length-drop, length-map}
use Rattle.std.proofs.lemmas.Bool.Decides.{nat_tests}
use Rattle.std.proofs.lemmas.Option.{none-some, same_Some}
use Rattle.mm_proof.specs.Trees.{Tree, none, tree, trees_of, list_of, AreWhole, postorder}
use Rattle.mm_proof.specs.Folding.{onward, has_enough, kept, joined, built, Folded, nothing, pushed, fold_step, folded, fold}
use Rattle.mm_proof.specs.Backs.{AreBacks}
use Rattle.mm_proof.specs.Compacting.{compact, Compacts}
use Rattle.mm_proof.specs.Encoding.{listed_labels, letters_for, own_labels, one_line, word_of}
use Rattle.mm_proof.specs.Forests.{arity_of, plain_steps, trees_in}
use Rattle.mm_proof.specs.Parts.{one}
use Rattle.mm_proof.specs.Spelling.{place_in, used, letters, HasLabels, names_len}
use Rattle.mm_proof.specs.Numbered.{IsTable, Lists, HasNumbers, Numbers, spell}
use Rattle.mm_proof.specs.declared.spelling.Spelt.{Spelt}
use Rattle.mm_proof.specs.declared.step.ProofStep.{ProofStep}
use Rattle.mm_proof.specs.declared.written.Step.{Step}
use Rattle.mm_proof.specs.declared.written.Step.TheVariants.{Label, Unknown, Back}
use Rattle.mm_proof.proofs.Same.{list-trees}
use Rattle.mm_proof.proofs.Folds.{built_whole}
use Rattle.mm_proof.proofs.Backed.{compact_backs}
use Rattle.mm_proof.proofs.Whole.{used_has, length-line}
use Rattle.mm_proof.proofs.Numbering.{flat-numbers}
use Rattle.mm_proof.proofs.Shaped.{arity_none}

abbrev Wholes : (ℕ → ℕ) → List Tree → Type 0
Wholes arity ts = AllByRecursion (λ t. AreWhole arity (one t)) ts

wholes_both : (arity : ℕ → ℕ) (xs ys : List Tree) → Wholes arity xs → Wholes arity ys → Wholes arity (xs ++ ys)
wholes_both arity [] ys h i = i
wholes_both arity (x ∷ xs) ys h i = (h.0, wholes_both arity xs ys h.1 i)

wholes_take : (arity : ℕ → ℕ) (n : ℕ) (xs : List Tree) → Wholes arity xs → Wholes arity (take n xs)
wholes_take arity zero xs h = tt
wholes_take arity (suc n) [] h = tt
wholes_take arity (suc n) (x ∷ xs) h = (h.0, wholes_take arity n xs h.1)

wholes_drop : (arity : ℕ → ℕ) (n : ℕ) (xs : List Tree) → Wholes arity xs → Wholes arity (drop n xs)
wholes_drop arity zero xs h = h
wholes_drop arity (suc n) [] h = tt
wholes_drop arity (suc n) (x ∷ xs) h = wholes_drop arity n xs h.1

wholes_of : (arity : ℕ → ℕ) (ts : List Tree) → Wholes arity ts → AreWhole arity (trees_of ts)
wholes_of arity [] h = tt
wholes_of arity (t ∷ ts) h = (h.0.0, (h.0.1.0, wholes_of arity ts h.1))

whole_at : (arity : ℕ → ℕ) (ts : List Tree) (k : ℕ) (t : Tree) → Wholes arity ts → slice_get ts k ≡ Some t → AreWhole arity (one t)
whole_at arity [] k t h e = absurd (none-some t e)
whole_at arity (u ∷ ts) zero t h e = let P : Tree → Type 0 = λ x. AreWhole arity (one x) in subst P (same_Some u t e) h.0
whole_at arity (u ∷ ts) (suc k) t h e = whole_at arity ts k t h.1 e

pub record FoldsWhole (arity : ℕ → ℕ) (f : Folded) : Type 0 where
  pub trees : Wholes arity f.trees
  pub stack : Wholes arity f.stack

whole_pushed : (arity : ℕ → ℕ) (f : Folded) (rest : List Tree) (t : Tree) → FoldsWhole arity f → Wholes arity rest → AreWhole arity (one t) → FoldsWhole arity (pushed f rest t)
whole_pushed arity f rest t h r w = record { trees = wholes_both arity f.trees (t ∷ []) h.trees (w, tt); stack = wholes_both arity rest (t ∷ []) r (w, tt) }

whole_step : (arity : ℕ → ℕ) (f g : Folded) (s : Step) → arity 0 ≡ 0 → FoldsWhole arity f → fold_step arity f s ≡ Some g → FoldsWhole arity g
whole_step arity f g (Label l) z h e = by (has_enough arity f.stack l) refl e
  where
    n : ℕ
    n = length f.stack - arity l

    by : (b : Bool) → has_enough arity f.stack l ≡ b → cond b (Some (pushed f (kept arity f.stack l) (joined arity f.stack l))) None ≡ Some g → FoldsWhole arity g
    by true enough s =
        let le : arity l ≤ length f.stack = grind (arith, nat_tests) in
        let left = wholes_drop arity (length f.stack - arity l) f.stack h.stack in
        let count : length (list_of (trees_of (drop (length f.stack - arity l) f.stack))) ≡ arity l =
        ap length (list-trees (drop (length f.stack - arity l) f.stack)) ∙ length-drop (length f.stack - arity l) f.stack ∙ omega arith in
        subst (FoldsWhole arity) (same_Some (pushed f (kept arity f.stack l) (joined arity f.stack l)) g s)
        (whole_pushed arity f (kept arity f.stack l) (joined arity f.stack l) h (wholes_take arity (length f.stack - arity l) f.stack h.stack)
        (count, (wholes_of arity (drop (length f.stack - arity l) f.stack) left, tt)))
    by false enough s = absurd (none-some g s)
whole_step arity f g Unknown z h e = subst (FoldsWhole arity) (same_Some (pushed f f.stack (tree 0 none)) g e) (whole_pushed arity f f.stack (tree 0 none) h h.stack (sym z, (tt, tt)))
whole_step arity f g (Back k) z h e = by (slice_get f.trees k) (λ t i. whole_at arity f.trees k t h.trees i) e
  where
    by : (o : Option Tree) → ((t : Tree) → o ≡ Some t → AreWhole arity (one t)) → onward o (λ t. Some (pushed f f.stack t)) ≡ Some g → FoldsWhole arity g
    by None w s = absurd (none-some g s)
    by (Some t) w s = subst (FoldsWhole arity) (same_Some (pushed f f.stack t) g s) (whole_pushed arity f f.stack t h h.stack (w t refl))

whole_steps : (arity : ℕ → ℕ) (ss : List Step) (f g : Folded) → arity 0 ≡ 0 → FoldsWhole arity f → folded arity f ss ≡ Some g → FoldsWhole arity g
unfolding folded
whole_steps arity [] f g z h e = subst (FoldsWhole arity) (same_Some f g e) h
whole_steps arity (s ∷ ss) f g z h e = by (fold_step arity f s) (λ n i. whole_step arity f n s z h i) (λ n i j. whole_steps arity ss n g z i j) e
  where
    by : (o : Option Folded) → ((n : Folded) → o ≡ Some n → FoldsWhole arity n) → ((n : Folded) → FoldsWhole arity n → folded arity n ss ≡ Some g → FoldsWhole arity g) → onward o (λ n. folded arity n ss) ≡ Some g → FoldsWhole arity g
    by None a b i = absurd (none-some g i)
    by (Some n) a b i = b n (a n refl) i

-- the trees that steps fold to are whole
pub fold_whole : (arity : ℕ → ℕ) (ss : List Step) (ts : List Tree) → arity 0 ≡ 0 → fold arity ss ≡ Some ts → AreWhole arity (trees_of ts)
fold_whole arity ss ts z e = by (folded arity nothing ss) (λ g i. whole_steps arity ss nothing g z (record { trees = tt; stack = tt }) i) e
  where
    by : (o : Option Folded) → ((g : Folded) → o ≡ Some g → FoldsWhole arity g) → onward o (λ f. Some f.stack) ≡ Some ts → AreWhole arity (trees_of ts)
    by None a i = absurd (none-some ts i)
    by (Some g) a i = let P : List Tree → Type 0 = λ x. AreWhole arity (trees_of x) in subst P (same_Some g.stack ts i) (wholes_of arity g.stack (a g refl).stack)

numbers_from_table : (known : ℕ → Option ℕ) (labels : List ℕ) (ss : List Step) → IsTable known labels → HasLabels labels ss → HasNumbers known labels ss
numbers_from_table known labels [] t h = tt
numbers_from_table known labels (Label l ∷ ss) t h = (ap (λ o. unwrap_or o 0) (t l ∙ ap (λ b. cond b (Some (place_in labels l + 1)) None) h.0), numbers_from_table known labels ss t h.1)
numbers_from_table known labels (Unknown ∷ ss) t h = numbers_from_table known labels ss t h
numbers_from_table known labels (Back k ∷ ss) t h = numbers_from_table known labels ss t h

pub record Listed (bytes : List ℕ) (at : ℕ) (t : Tree) (list : List ℕ) (spelt : List Spelt) : Type 0 where
  pub list_is : list ≡ listed_labels bytes at t
  pub letters_are : flat_map spell spelt ≡ letters_for bytes at t

-- the list and the numbers of a tree
pub listed_tree : (bytes : List ℕ) (at : ℕ) (t : Tree) (all : List ProofStep) (labels mandatory list : List ℕ) (written : List Step) (spelt : List Spelt) (before after : ℕ → Option ℕ) (own count : ℕ)
    → trees_in bytes all ≡ Some (t ∷ []) → labels ≡ postorder (trees_of (t ∷ [])) → Compacts (arity_of bytes) labels written → own_labels bytes at ≡ map (λ n. n + 1) mandatory → own ≡ length mandatory
    → IsTable before (map (λ n. n + 1) mandatory)
    → ((ls : List ℕ) → length ls ≡ own → IsTable before ls → Lists ls after list written) → count ≡ own + length list → Numbers after count written spelt → Listed bytes at t list spelt
listed_tree bytes at t all labels mandatory list written spelt before after own count one_tree flat compacts own_is own_count table lists count_is numbered =
    let arity = arity_of bytes in
    let whole = fold_whole arity (plain_steps all) (t ∷ []) (arity_none bytes) one_tree in
    let w : written ≡ compact t = compacts t (ap (built arity []) flat ∙ built_whole arity t whole) in
    let mine = own_labels bytes at in
    let len : length mine ≡ own = ap length own_is ∙ length-map mandatory (λ n. n + 1) ∙ sym own_count in
    let P : List ℕ → Type 0 = λ x. IsTable before x in
    let l = lists mine len (subst P (sym own_is) table) in
    let list_is : list ≡ used mine [] (compact t) = l.list_is ∙ ap (used mine []) w in
    let Q : List ℕ → Type 0 = λ x. HasLabels (mine ++ x) (compact t) in
    let has = subst Q (sym list_is) (used_has mine [] (compact t)) in
    let R : List Step → Type 0 = λ x. HasLabels (mine ++ list) x in
    let S : List Step → Type 0 = λ x. AreBacks [] x in
    let has_all = numbers_from_table after (mine ++ list) written l.table (subst R (sym w) has) in
    let n = numbered (mine ++ list) (omega (arith, length-append mine list, len, count_is)) has_all (subst S (sym w) (compact_backs t)) in
    record {
      list_is = list_is;
      letters_are = ap (flat_map spell) n ∙ flat-numbers (mine ++ list) written ∙ ap (λ x. letters (mine ++ x) written) list_is ∙ ap (letters (mine ++ used mine [] (compact t))) w;
    }

pub line_length : (bytes : List ℕ) (at : ℕ) (t : Tree) (list : List ℕ) (spelt : List Spelt) (words n : ℕ) → list ≡ listed_labels bytes at t → flat_map spell spelt ≡ letters_for bytes at t
    → words ≡ names_len (word_of bytes) list → n ≡ 4 + words + length (flat_map spell spelt) → n ≡ length (one_line bytes at t)
line_length bytes at t list spelt words n list_is letters_are w e =
    let a = ap length letters_are in
    let b = ap (names_len (word_of bytes)) list_is in
    let c = length-line (word_of bytes) (listed_labels bytes at t) (letters_for bytes at t) in
    omega arith

-- what holds of a value holds of an answer that is this value
pub of_same : {X E : Type 0} (r : Result X E) (x : X) (P : X → Type 0) → IfOk r (λ s. s ≡ x) → P x → IfOk r P
of_same (Ok y) x P h p = subst P (sym h) p
of_same (Err e) x P h p = tt

pub of_ok : {X E : Type 0} (r : Result X E) (P Q : X → Type 0) → IfOk r P → ((x : X) → P x → Q x) → IfOk r Q
of_ok (Ok y) P Q h f = f y h
of_ok (Err e) P Q h f = tt
