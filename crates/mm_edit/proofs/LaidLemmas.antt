-- A proof that is laid out by its own steps: what one step more comes to.
use Rattle.std.proofs.Common.{◌≡◌, ℕ, ◌+◌, ◌-◌, ◌≤◌, ◌<◌, Bool, true, false, List, [], ◌∷◌, ◌++◌, map, length, take, drop, get_or, Option, None, Some, refl, sym, ap, ◌∙◌, subst, inl, inr, arith, append_assoc, if◌then◌else◌}
use Rattle.std.specs.List.{All, flat_map, filter_map, cons_option, sum_by, AllByRecursion}
use Rattle.std.proofs.Math.ListN.{get_or-append}
use Rattle.std.proofs.Math.Seq.{drop-append_seam, take-add, take-length}
use Rattle.std.proofs.lemmas.Bool.{cases_lt}
use Rattle.std.proofs.lemmas.List.{drop-take, get_or_push, length-drop, append-nil, length-map, length_push, take-append-drop, take_more}
use Rattle.std.proofs.lemmas.List.Concat.{flat_map-append, flat_map-cons, length-flat_map}
use Rattle.std.proofs.lemmas.List.Elements.{All-drop, All-from_recursion, All-get_or, All-take, recursion_from_All}
use Rattle.std.proofs.lemmas.List.Sums.{sum_by_push, sum_by-take-drop}
use Rattle.mm_scope.specs.Contents.{stated_at}
use Rattle.mm_stated.specs.Stated.{is_hypothesis, variable_of}
use Rattle.mm_subst.specs.Applied.{most_symbols}
use Rattle.mm_subst.specs.Statements.{statement_of}
use Rattle.mm_subst.specs.Substitutions.{Pairs, applied}
use Rattle.mm_subst.specs.declared.symbol.WSym.{WSym}
use Rattle.mm_subst.specs.declared.symbol.WSym.TheVariants.{Var}
use Rattle.mm_unify.specs.declared.listing.Settings.{Settings}
use Rattle.mm_unify.proofs.Lists.{AllByRecursion-append}
use Rattle.mm_plain.specs.declared.plain.Plain.{Plain}
use Rattle.mm_plain.specs.declared.plain.Plain.TheOpen as P
use Rattle.mm_plain.specs.declared.plain.Plain.TheViews as V
use Rattle.mm_plain.specs.Numbers.{labels_in}
use Rattle.mm_plain.specs.Premises.{may_stand, premise_ids, premises_of}
use Rattle.mm_plain.specs.Shape.{Each, known, size_of, steps_of, target_of}
use Rattle.mm_plain.specs.Valid.{Setting, IsInstance, IsKnownSymbol, IsSound, IsString, first_setting}
use Rattle.mm_plain.proofs.Bounds.{applied-known}
use Rattle.mm_plain.proofs.Equations.{size_of-known, steps_of-known}
use Rattle.mm_plain.proofs.Floats.{target-sound}
use Rattle.mm_plain.proofs.Forms.{string_of_statement}
use Rattle.mm_plain.proofs.Kept.{each-join, sound-known}
use Rattle.mm_plain.proofs.Walks.{labels_in-known, length-labels_in}
use Rattle.mm_tree.specs.Plans.{Grove, grown, no_grove, no_tree}
use Rattle.mm_tree.proofs.FreshVariables.{variables-premises}
use Rattle.mm_edit.specs.Built.{HasOwnStrings, IsOwnStep, own_layer}
use Rattle.mm_edit.specs.LaidOut.{BeginsAt, HasOwnSteps, IsLaidOut, LaysAgain, LaysKnown, takes, value_of_float, values_by}

-- ## The values that trees give

-- their keys are the variables
keys_by : (bytes ids : List ℕ) (ts : List (List WSym)) → length ts ≡ length ids → map (λ (p : WSym × List WSym). p.0) (values_by bytes ids ts) ≡ map Var (filter_map (λ i. variable_of (stated_at bytes i)) ids)
keys_by bytes [] ts h = refl
keys_by bytes (m ∷ ms) [] h = absurd (omega (arith, h))
keys_by bytes (m ∷ ms) (t ∷ ts) h = go (variable_of (stated_at bytes m)) (keys_by bytes ms ts (omega (arith, h)))
  where
    go : (o : Option ℕ) → map (λ (p : WSym × List WSym). p.0) (values_by bytes ms ts) ≡ map Var (filter_map (λ i. variable_of (stated_at bytes i)) ms)
        → map (λ (p : WSym × List WSym). p.0) (value_of_float o t ++ values_by bytes ms ts) ≡ map Var (cons_option o (filter_map (λ i. variable_of (stated_at bytes i)) ms))
    go None e = e
    go (Some v) e = ap (λ (ks : List WSym). Var v ∷ ks) e

rest_string : (c : Setting) (t : List WSym) → IsString c t → IsString c (drop 1 t)
rest_string c t h = record { symbols = All-drop (IsKnownSymbol c) 1 t h.symbols; short = (let few = h.short in omega (arith, few, length-drop 1 t)) }

-- and they are strings where those of the trees are
strings_by : (c : Setting) (ids : List ℕ) (ts : List (List WSym)) → AllByRecursion (IsString c) ts → AllByRecursion (λ p. IsString c p.1) (values_by c.bytes ids ts)
strings_by c [] ts a = tt
strings_by c (m ∷ ms) [] a = tt
strings_by c (m ∷ ms) (t ∷ ts) a = go (variable_of (stated_at c.bytes m)) (strings_by c ms ts a.1)
  where
    go : (o : Option ℕ) → AllByRecursion (λ p. IsString c p.1) (values_by c.bytes ms ts) → AllByRecursion (λ p. IsString c p.1) (value_of_float o t ++ values_by c.bytes ms ts)
    go None e = e
    go (Some v) e = (rest_string c t a.0, e)

-- the premises are the strings of the hypotheses
premises-ids : (bytes : List ℕ) (id : ℕ) → premises_of bytes id ≡ map (statement_of bytes) (premise_ids bytes id)
unfolding premises_of premise_ids
premises-ids bytes id = go (is_hypothesis (stated_at bytes id).kind)
  where
    go : (b : Bool) → (if b then [] else map (statement_of bytes) (stated_at bytes id).mandatory) ≡ map (statement_of bytes) (if b then [] else (stated_at bytes id).mandatory)
    go true = refl
    go false = refl

-- ## The tree of a step that names a statement

known-own : (bytes : List ℕ) (set : Settings) (t : List WSym) (l : ℕ) (s : Pairs) (kids : List Plain) → HasOwnStrings bytes set t l s → IsOwnStep bytes set (known t l s kids)
unfolding IsOwnStep
known-own bytes set t l s kids h = subst (own_layer bytes set) (sym (V.out-roll-Plain (P.Known t l s kids))) h

each_sound : (bytes : List ℕ) (at : ℕ) (set : Settings) (xs : List Plain) → AllByRecursion (HasOwnSteps bytes at set) xs → Each (IsSound (first_setting bytes at)) xs
each_sound bytes at set [] a = tt
each_sound bytes at set (x ∷ xs) a = (a.0.sound, each_sound bytes at set xs a.1)

all_own : (bytes : List ℕ) (at : ℕ) (set : Settings) (xs : List Plain) → AllByRecursion (HasOwnSteps bytes at set) xs → Each (IsOwnStep bytes set) (flat_map steps_of xs)
all_own bytes at set [] a = tt
all_own bytes at set (x ∷ xs) a = subst (Each (IsOwnStep bytes set)) (sym (flat_map-cons steps_of x xs)) (each-join (IsOwnStep bytes set) (steps_of x) (flat_map steps_of xs) a.0.own (all_own bytes at set xs a.1))

targets_are : (c : Setting) (xs : List Plain) → Each (IsSound c) xs → AllByRecursion (IsString c) (map target_of xs)
targets_are c [] e = tt
targets_are c (x ∷ xs) e = (target-sound c x e.0, targets_are c xs e.1)

-- it is an instance of what it names, under the values that its children give
known_instance : (c : Setting) (t : List WSym) (l : ℕ) (s : Pairs) (kids : List Plain) → Each (IsSound c) kids → length kids ≡ takes c.bytes l → s ≡ values_by c.bytes (premise_ids c.bytes l) (map target_of kids)
    → may_stand c.bytes c.at l ≡ true → t ≡ applied s (statement_of c.bytes l) → length t ≤ most_symbols → map target_of kids ≡ map (applied s) (map (statement_of c.bytes) (premise_ids c.bytes l))
    → IsInstance c t l s (map target_of kids)
known_instance c t l s kids e many are may is short fits =
    let ids : List ℕ = premise_ids c.bytes l in
    let ts : List (List WSym) = map target_of kids in
    let values : All (λ p. IsString c p.1) s = subst (λ (r : Pairs). All (λ p. IsString c p.1) r) (sym are)
    (All-from_recursion (λ (p : WSym × List WSym). IsString c p.1) (values_by c.bytes ids ts) (strings_by c ids ts (targets_are c kids e))) in
    let source : IsString c (applied s (statement_of c.bytes l)) = record {
      symbols = applied-known (IsKnownSymbol c) s (λ k d less. (values k d less).symbols) (statement_of c.bytes l) (string_of_statement c l).symbols;
      short = subst (λ (u : List WSym). length u ≤ most_symbols) is short;
    } in
    record {
      target = subst (IsString c) (sym is) source;
      names = record {
        stands = may;
        keys = ap (map (λ (p : WSym × List WSym). p.0)) are ∙ keys_by c.bytes ids ts (length-map kids target_of ∙ many) ∙ ap (map Var) (variables-premises c.bytes l);
        values = values;
        source = source;
      };
      children = fits ∙ ap (map (applied s)) (sym (premises-ids c.bytes l));
    }

-- the trees that a step takes
abbrev kids_of : List ℕ → ℕ → Grove → List Plain
kids_of bytes id g = drop (length g.standing - takes bytes id) g.standing

known_steps : (bytes : List ℕ) (at : ℕ) (set : Settings) (id : ℕ) (g h : Grove) → AllByRecursion (HasOwnSteps bytes at set) g.standing → (l : LaysKnown bytes set id g h) → may_stand bytes at id ≡ true
    → HasOwnSteps bytes at set (known l.target id l.sigma (kids_of bytes id g))
known_steps bytes at set id g h a l may =
    let stay : ℕ = length g.standing - takes bytes id in
    let kids : List Plain = kids_of bytes id g in
    let all : AllByRecursion (HasOwnSteps bytes at set) kids =
    recursion_from_All (HasOwnSteps bytes at set) kids (All-drop (HasOwnSteps bytes at set) stay g.standing (All-from_recursion (HasOwnSteps bytes at set) g.standing a)) in
    let sound : Each (IsSound (first_setting bytes at)) kids = each_sound bytes at set kids all in
    let some = l.many in
    let many : length kids ≡ takes bytes id = omega (arith, some, length-drop stay g.standing) in
    record {
      sound = sound-known (first_setting bytes at) l.target id l.sigma kids sound (known_instance (first_setting bytes at) l.target id l.sigma kids sound many l.values.are may l.target_is l.short l.fits);
      own = subst (Each (IsOwnStep bytes set)) (sym (steps_of-known l.target id l.sigma kids))
          (each-join (IsOwnStep bytes set) (flat_map steps_of kids) (known l.target id l.sigma kids ∷ []) (all_own bytes at set kids all)
          (known-own bytes set l.target id l.sigma kids (record { target = l.target_is; values = l.values.found }), tt));
    }

-- ## One step more

labels-sum : (xs : List Plain) → length (flat_map labels_in xs) ≡ sum_by size_of xs
labels-sum xs = length-flat_map labels_in xs ∙ ap (λ (f : Plain → ℕ). sum_by f xs) (λ i x. length-labels_in x i)

-- a tree whose labels come behind those of the first ones
begins_behind : (labels : List (Option ℕ)) (front : List Plain) (x : Plain) → sum_by size_of front + size_of x ≤ length labels → flat_map labels_in front ++ labels_in x ≡ take (sum_by size_of front + size_of x) labels
    → BeginsAt labels (sum_by size_of front) x
begins_behind labels front x room same = record {
  within = room;
  labels_are = sym (drop-append_seam (flat_map labels_in front) (labels_in x))
      ∙ ap (λ (n : ℕ). drop n (flat_map labels_in front ++ labels_in x)) (labels-sum front)
      ∙ ap (drop (sum_by size_of front)) same
      ∙ drop-take (sum_by size_of front) (size_of x) labels;
}

push_all : {X : Type 0} (Q : X → Type 0) (xs : List X) (x : X) → AllByRecursion Q xs → Q x → AllByRecursion Q (xs ++ x ∷ [])
push_all Q xs x a h = AllByRecursion-append Q xs (x ∷ []) a (h, tt)

begins_all : (labels : List (Option ℕ)) (begins : List ℕ) (made : List Plain) (b : ℕ) (x : Plain) → length begins ≡ length made → ((j : ℕ) → j < length made → BeginsAt labels (get_or begins j 0) (get_or made j no_tree))
    → BeginsAt labels b x → (j : ℕ) → j < length (made ++ x ∷ []) → BeginsAt labels (get_or (begins ++ b ∷ []) j 0) (get_or (made ++ x ∷ []) j no_tree)
begins_all labels begins made b x many old new j less = elim (cases_lt j (length made)) [
  | inl before ↦
      subst (λ (n : ℕ). BeginsAt labels n (get_or (made ++ x ∷ []) j no_tree)) (sym (get_or-append begins (b ∷ []) 0 j (omega (arith, before, many))))
      (subst (BeginsAt labels (get_or begins j 0)) (sym (get_or-append made (x ∷ []) no_tree j before)) (old j before))
  | inr past ↦
      let last : length made ≡ j = omega (arith, past, less, length_push made x) in
      subst (λ (n : ℕ). BeginsAt labels n (get_or (made ++ x ∷ []) j no_tree)) (sym (get_or_push begins b 0 j (many ∙ last)))
      (subst (BeginsAt labels b) (sym (get_or_push made x no_tree j last)) new)
]

grown_laid : (bytes : List ℕ) (at : ℕ) (set : Settings) (labels : List (Option ℕ)) (g : Grove) (begins : List ℕ) (stay : ℕ) (x : Plain) → IsLaidOut bytes at set labels g begins → HasOwnSteps bytes at set x
    → sum_by size_of (take stay g.standing) + size_of x ≤ length labels
    → flat_map labels_in (take stay g.standing) ++ labels_in x ≡ take (sum_by size_of (take stay g.standing) + size_of x) labels
    → IsLaidOut bytes at set labels (grown g stay x) (begins ++ sum_by size_of (take stay g.standing) ∷ [])
grown_laid bytes at set labels g begins stay x h own room same =
    let front : List Plain = take stay g.standing in
    let total : sum_by size_of (front ++ x ∷ []) ≡ sum_by size_of front + size_of x = sum_by_push size_of front x in
    let first : AllByRecursion (HasOwnSteps bytes at set) front =
    recursion_from_All (HasOwnSteps bytes at set) front (All-take (HasOwnSteps bytes at set) stay g.standing (All-from_recursion (HasOwnSteps bytes at set) g.standing h.standing)) in
    record {
      standing = push_all (HasOwnSteps bytes at set) front x first own;
      made = push_all (HasOwnSteps bytes at set) g.made x h.made own;
      within = omega (arith, total, room);
      labels_are = flat_map-append labels_in front (x ∷ []) ∙ ap (λ (ls : List (Option ℕ)). flat_map labels_in front ++ ls) (append-nil (labels_in x)) ∙ same ∙ ap (λ (n : ℕ). take n labels) (sym total);
      count = length_push begins (sum_by size_of front) ∙ ap (λ (n : ℕ). n + 1) h.count ∙ sym (length_push g.made x);
      begin = begins_all labels begins g.made (sum_by size_of front) x h.count h.begin (begins_behind labels front x room same);
    }

-- where the labels of a step's tree begin
abbrev pub begin_in : Grove → ℕ → ℕ
begin_in h j = sum_by size_of h.standing - size_of (get_or h.made j no_tree)

begin_is : (g h : Grove) (j stay : ℕ) (x : Plain) → h ≡ grown g stay x → length g.made ≡ j → begin_in h j ≡ sum_by size_of (take stay g.standing)
begin_is g h j stay x e last =
    let front : List Plain = take stay g.standing in
    ap (λ (v : Grove). begin_in v j) e
    ∙ ap (λ (y : Plain). sum_by size_of (front ++ x ∷ []) - size_of y) (get_or_push g.made x no_tree j last)
    ∙ ap (λ (n : ℕ). n - size_of x) (sum_by_push size_of front x)
    ∙ back (sum_by size_of front) (size_of x)
  where
    back : (m n : ℕ) → m + n - n ≡ m
    back m n = omega arith

laid_more : (bytes : List ℕ) (at : ℕ) (set : Settings) (labels : List (Option ℕ)) (g h : Grove) (begins later : List ℕ) (stay : ℕ) (x : Plain) → IsLaidOut bytes at set labels g begins → HasOwnSteps bytes at set x → h ≡ grown g stay x
    → later ≡ begins ++ begin_in h (length begins) ∷ [] → sum_by size_of (take stay g.standing) + size_of x ≤ length labels
    → flat_map labels_in (take stay g.standing) ++ labels_in x ≡ take (sum_by size_of (take stay g.standing) + size_of x) labels
    → IsLaidOut bytes at set labels h later
laid_more bytes at set labels g h begins later stay x laid own more next room same =
    let all : begins ++ sum_by size_of (take stay g.standing) ∷ [] ≡ later = sym (next ∙ ap (λ (n : ℕ). begins ++ n ∷ []) (begin_is g h (length begins) stay x more (sym laid.count))) in
    subst (IsLaidOut bytes at set labels h) all
    (subst (λ (v : Grove). IsLaidOut bytes at set labels v (begins ++ sum_by size_of (take stay g.standing) ∷ [])) (sym more) (grown_laid bytes at set labels g begins stay x laid own room same))

-- ## The steps

-- before any step
pub laid_nothing : (bytes : List ℕ) (at : ℕ) (set : Settings) (labels : List (Option ℕ)) → IsLaidOut bytes at set labels no_grove []
laid_nothing bytes at set labels = record { standing = tt; made = tt; within = omega arith; labels_are = refl; count = refl; begin = λ j less. absurd (omega (arith, less)) }

-- a step that names a statement
pub laid_known : (bytes : List ℕ) (at : ℕ) (set : Settings) (labels : List (Option ℕ)) (id : ℕ) (g h : Grove) (begins later : List ℕ) → IsLaidOut bytes at set labels g begins → LaysKnown bytes set id g h → may_stand bytes at id ≡ true
    → sum_by size_of g.standing < length labels → get_or labels (sum_by size_of g.standing) None ≡ Some id
    → later ≡ begins ++ (sum_by size_of h.standing - size_of (get_or h.made (length begins) no_tree)) ∷ [] → IsLaidOut bytes at set labels h later
laid_known bytes at set labels id g h begins later laid l may small label next =
    let stay : ℕ = length g.standing - takes bytes id in
    let front : List Plain = take stay g.standing in
    let kids : List Plain = kids_of bytes id g in
    let x : Plain = known l.target id l.sigma kids in
    let end : ℕ = sum_by size_of g.standing in
    let total : end + 1 ≡ sum_by size_of front + size_of x = omega (arith, size_of-known l.target id l.sigma kids, sum_by-take-drop size_of g.standing stay) in
    laid_more bytes at set labels g h begins later stay x laid (known_steps bytes at set id g h laid.standing l may) l.more next
    (omega (arith, total, small))
    (ap (λ (ls : List (Option ℕ)). flat_map labels_in front ++ ls) (labels_in-known l.target id l.sigma kids)
    ∙ sym (append_assoc (flat_map labels_in front) (flat_map labels_in kids) (Some id ∷ []))
    ∙ ap (λ (ls : List (Option ℕ)). ls ++ Some id ∷ []) (sym (flat_map-append labels_in front kids) ∙ ap (flat_map labels_in) (take-append-drop stay g.standing) ∙ laid.labels_are)
    ∙ ap (λ (o : Option ℕ). take end labels ++ o ∷ []) (sym label)
    ∙ sym (take_more labels end None small)
    ∙ ap (λ (n : ℕ). take n labels) total)

-- a step that refers back
pub laid_again : (bytes : List ℕ) (at : ℕ) (set : Settings) (labels : List (Option ℕ)) (step : ℕ) (g h : Grove) (begins later : List ℕ) → IsLaidOut bytes at set labels g begins → LaysAgain labels (get_or begins step 0) step g h
    → later ≡ begins ++ (sum_by size_of h.standing - size_of (get_or h.made (length begins) no_tree)) ∷ [] → IsLaidOut bytes at set labels h later
laid_again bytes at set labels step g h begins later laid l next =
    let stay : ℕ = length g.standing in
    let x : Plain = get_or g.made step no_tree in
    let end : ℕ = sum_by size_of g.standing in
    let whole : take stay g.standing ≡ g.standing = take-length g.standing in
    let total : sum_by size_of (take stay g.standing) ≡ end = ap (sum_by size_of) whole in
    let room = l.room in
    laid_more bytes at set labels g h begins later stay x laid (All-get_or (HasOwnSteps bytes at set) g.made step no_tree l.there (All-from_recursion (HasOwnSteps bytes at set) g.made laid.made)) l.more next
    (omega (arith, total, room))
    (ap (λ (xs : List Plain). flat_map labels_in xs ++ labels_in x) whole
    ∙ ap (λ (ls : List (Option ℕ)). ls ++ labels_in x) laid.labels_are
    ∙ ap (λ (ls : List (Option ℕ)). take end labels ++ ls) ((laid.begin step l.there).labels_are ∙ l.same)
    ∙ sym (take-add end (size_of x) labels)
    ∙ ap (λ (n : ℕ). take (n + size_of x) labels) (sym total))
