-- What `find_file` finds once a file is put.
use Rattle.std.proofs.Common.{◌≡◌, ℕ, Bool, true, false, List, [], ◌∷◌, ◌++◌, get_or, set, refl, sym, ◌∙◌, ap, subst, Some, None, cond, arith}
use Rattle.std.specs.Prelude.{option_map, find, position}
use Rattle.std.specs.List.{position_or_len}
use Rattle.std.specs.Str.{bytes_eq}
use Rattle.std.proofs.lemmas.List.Folds.{find-set, find_past, find-append, find_at}
use Rattle.std.proofs.lemmas.List.Quantifiers.{position-Some}
use Rattle.std.proofs.lemmas.Option.{slice_get_past}
use Rattle.std.proofs.lemmas.Slice.Eq.{bytes_eq-Decides}
use Rattle.mm_base.specs.Memory.{NamedFile, find_file}
use Rattle.mm_base.specs.Files.{put}

-- whether a file has the name
abbrev is_named : List ℕ → NamedFile → Bool
is_named name f = bytes_eq f.name name

same_bytes : (xs ys : List ℕ) → bytes_eq xs ys ≡ true → xs ≡ ys
same_bytes xs ys e = grind (arith, bytes_eq-Decides xs ys)

place_is : {X : Type 0} (p : X → Bool) (xs : List X) (i : ℕ) → position p xs ≡ Some i → i ≡ position_or_len p xs
place_is p xs i is = grind arith

none_found : {X : Type 0} (p : X → Bool) (xs : List X) → position p xs ≡ None → find p xs ≡ None
none_found p xs is = grind (arith, find_at, slice_get_past)

-- a file in place of the one of its name
replaced_at : (files : List NamedFile) (name asked : List ℕ) (i : ℕ) (old new : NamedFile) → position (is_named name) files ≡ Some i → old ≡ get_or files i old → new.name ≡ old.name → (b : Bool) → bytes_eq name asked ≡ b → find_file (set files i new) asked ≡ cond b (Some new.bytes) (find_file files asked)
replaced_at files name asked i old new is stands same true e =
    let told : position (is_named asked) files ≡ Some i = subst (λ n. position (is_named n) files ≡ Some i) (same_bytes name asked e) is in
    let found = position-Some (is_named name) files i old is in
    let fits : bytes_eq new.name asked ≡ true = ap (λ n. bytes_eq n asked) (same ∙ (ap (λ (f : NamedFile). f.name) stands ∙ same_bytes (get_or files i old).name name found.1)) ∙ e in
    ap (option_map (λ (f : NamedFile). f.bytes)) (find-set (is_named asked) files i new (place_is (is_named asked) files i told) found.0 fits)
replaced_at files name asked i old new is stands same false e =
    let found = position-Some (is_named name) files i old is in
    let stood : (get_or files i old).name ≡ name = same_bytes (get_or files i old).name name found.1 in
    let past : bytes_eq (get_or files i old).name asked ≡ false = ap (λ n. bytes_eq n asked) stood ∙ e in
    let fails : bytes_eq new.name asked ≡ false = ap (λ n. bytes_eq n asked) (same ∙ (ap (λ (f : NamedFile). f.name) stands ∙ stood)) ∙ e in
    ap (option_map (λ (f : NamedFile). f.bytes)) (find_past (is_named asked) files i new old past fails)

pub replaced : (files whole : List NamedFile) (name bytes : List ℕ) (i : ℕ) (old new : NamedFile) → files ≡ whole → Some i ≡ position (is_named name) whole → old ≡ get_or files i old → new.name ≡ old.name → new.bytes ≡ bytes → find_file (set files i new) ≡ put (find_file whole) name bytes
replaced files whole name bytes i old new same_files is stands same_name same_content =
    let is' : position (is_named name) files ≡ Some i = ap (position (is_named name)) same_files ∙ sym is in
    let each : (asked : List ℕ) → find_file (set files i new) asked ≡ put (find_file whole) name bytes asked = λ asked.
    replaced_at files name asked i old new is' stands same_name (bytes_eq name asked) refl
    ∙ (ap (λ bs. cond (bytes_eq name asked) (Some bs) (find_file files asked)) same_content ∙ ap (λ fs. cond (bytes_eq name asked) (Some bytes) (find_file fs asked)) same_files) in
    λ j asked. each asked j

find_behind_none : {X : Type 0} (p : X → Bool) (xs : List X) (y : X) → find p xs ≡ None → p y ≡ true → find p (xs ++ y ∷ []) ≡ Some y
find_behind_none p xs y none passes = grind (arith, find-append)

find_behind : {X : Type 0} (p : X → Bool) (xs : List X) (y : X) → p y ≡ false → find p (xs ++ y ∷ []) ≡ find p xs
find_behind p [] y fails = grind arith
find_behind p (x ∷ xs) y fails = grind (arith, find_behind p xs y fails)

-- a file behind those of other names
added_at : (files : List NamedFile) (name asked : List ℕ) (new : NamedFile) → position (is_named name) files ≡ None → new.name ≡ name → (b : Bool) → bytes_eq name asked ≡ b → find_file (files ++ new ∷ []) asked ≡ cond b (Some new.bytes) (find_file files asked)
added_at files name asked new is same true e =
    let told : position (is_named asked) files ≡ None = subst (λ n. position (is_named n) files ≡ None) (same_bytes name asked e) is in
    let fits : is_named asked new ≡ true = ap (λ n. bytes_eq n asked) same ∙ e in
    ap (option_map (λ (f : NamedFile). f.bytes)) (find_behind_none (is_named asked) files new (none_found (is_named asked) files told) fits)
added_at files name asked new is same false e =
    let fails : is_named asked new ≡ false = ap (λ n. bytes_eq n asked) same ∙ e in
    ap (option_map (λ (f : NamedFile). f.bytes)) (find_behind (is_named asked) files new fails)

pub added : (files whole after : List NamedFile) (name bytes : List ℕ) (new : NamedFile) → files ≡ whole → None ≡ position (is_named name) whole → new.name ≡ name → new.bytes ≡ bytes → after ≡ files ++ new ∷ [] → find_file after ≡ put (find_file whole) name bytes
added files whole after name bytes new same_files is same_name same_content pushed =
    let is' : position (is_named name) files ≡ None = ap (position (is_named name)) same_files ∙ sym is in
    let each : (asked : List ℕ) → find_file after asked ≡ put (find_file whole) name bytes asked = λ asked.
    ap (λ fs. find_file fs asked) pushed ∙ (added_at files name asked new is' same_name (bytes_eq name asked) refl
    ∙ (ap (λ bs. cond (bytes_eq name asked) (Some bs) (find_file files asked)) same_content ∙ ap (λ fs. cond (bytes_eq name asked) (Some bytes) (find_file fs asked)) same_files)) in
    λ j asked. each asked j
