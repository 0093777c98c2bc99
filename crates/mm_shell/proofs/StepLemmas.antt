-- The lines of steps, one step after the other.
use Rattle.std.proofs.Common.{◌≡◌, ◌+◌, ◌<◌, ◌≤◌, ℕ, Bool, true, false, List, [], ◌∷◌, ◌++◌, length, take, get_or, Option, refl, sym, ◌∙◌, ap, append_assoc, arith, if◌then◌else◌}
use Rattle.std.specs.List.{flat_map}
use Rattle.std.proofs.lemmas.List.{append-nil, length-take-le, take_all, take_more}
use Rattle.std.proofs.lemmas.List.Concat.{flat_map-append}
use Rattle.mm_subst.specs.declared.symbol.WSym.{WSym}
use Rattle.mm_plain.specs.declared.plain.Plain.{Plain}
use Rattle.mm_plain.specs.Numbers.{labels_in, numbers_from}
use Rattle.mm_plain.specs.Shape.{size_of, target_of}
use Rattle.mm_plain.specs.Sources.{label_of}
use Rattle.mm_plain.proofs.Walks.{length-labels_in, numbers_from-append}
use Rattle.mm_shell.specs.Lines.{line_of}
use Rattle.mm_shell.specs.Steps.{step_head, step_line}
use Rattle.mm_shell.specs.Strings.{string_text}

-- there is a label for each step
pub labels_count : (x : Plain) (labels : List (Option ℕ)) → labels ≡ labels_in x → length labels ≡ size_of x
labels_count x labels is = ap length is ∙ length-labels_in x

-- a head and a string are the line of the step that has this label and this target
pub line_pushed : (bytes : List ℕ) (k : ℕ) (x : Plain) (label : Option ℕ) (target : List WSym) (front head new : List ℕ)
    → label ≡ label_of x → target ≡ target_of x → head ≡ front ++ step_head bytes k label → new ≡ head ++ line_of (string_text bytes target) → new ≡ front ++ step_line bytes k x
unfolding step_line
line_pushed bytes k x label target front head new l t h n =
    n
    ∙ ap (λ s. s ++ line_of (string_text bytes target)) h
    ∙ append_assoc front (step_head bytes k label) (line_of (string_text bytes target))
    ∙ ap (λ o. front ++ (step_head bytes k o ++ line_of (string_text bytes target))) l
    ∙ ap (λ s. front ++ (step_head bytes k (label_of x) ++ line_of (string_text bytes s))) t

module _ {A : Type 0} (f : ℕ → List ℕ) (p : A → Bool) (xs : List A) where
  -- the numbers of the first items, and that of the next one where it is such
  next-number : (i : ℕ) (d : A) → i < length xs
      → numbers_from p 1 (take (i + 1) xs) ≡ numbers_from p 1 (take i xs) ++ (if p (get_or xs i d) then ((i + 1) ∷ []) else [])
  next-number i d h =
      let z : 1 + length (take i xs) ≡ i + 1 = omega (arith, length-take-le i xs (omega (arith, h))) in
      ap (numbers_from p 1) (take_more xs i d h)
      ∙ numbers_from-append p 1 (take i xs) (get_or xs i d ∷ [])
      ∙ ap (λ k. numbers_from p 1 (take i xs) ++ numbers_from p k (get_or xs i d ∷ [])) z

  made_of : (b : Bool) (n : ℕ) → flat_map f (if b then (n ∷ []) else []) ≡ (if b then f n else [])
  made_of true n = append-nil (f n)
  made_of false n = refl

  -- what is made of them
  pub next-made : (i : ℕ) (d : A) (front now new : List ℕ) → i < length xs → now ≡ front ++ flat_map f (numbers_from p 1 (take i xs))
      → new ≡ now ++ (if p (get_or xs i d) then f (i + 1) else []) → new ≡ front ++ flat_map f (numbers_from p 1 (take (i + 1) xs))
  next-made i d front now new h so_far is =
      is
      ∙ ap (λ t. t ++ (if p (get_or xs i d) then f (i + 1) else [])) so_far
      ∙ append_assoc front (flat_map f (numbers_from p 1 (take i xs))) (if p (get_or xs i d) then f (i + 1) else [])
      ∙ ap (λ t. front ++ t) (sym (ap (flat_map f) (next-number i d h)
      ∙ flat_map-append f (numbers_from p 1 (take i xs)) (if p (get_or xs i d) then ((i + 1) ∷ []) else [])
      ∙ ap (λ t. flat_map f (numbers_from p 1 (take i xs)) ++ t) (made_of (p (get_or xs i d)) (i + 1))))

  pub all-made : (i : ℕ) (front now : List ℕ) → length xs ≤ i → now ≡ front ++ flat_map f (numbers_from p 1 (take i xs)) → now ≡ front ++ flat_map f (numbers_from p 1 xs)
  all-made i front now h so_far = so_far ∙ ap (λ t. front ++ flat_map f (numbers_from p 1 t)) (take_all i xs h)
