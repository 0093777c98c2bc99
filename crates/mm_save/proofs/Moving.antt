-- A proof in hand after the database has changed.
use Rattle.std.proofs.Common.{◌≡◌, ◌<◌, ℕ, false, List, [], ◌∷◌, map, length, sym, ap, ◌∙◌, subst}
use Rattle.std.specs.List.{All}
use Rattle.mm_scope.specs.Contents.{distinct_at}
use Rattle.mm_subst.specs.Statements.{statement_of}
use Rattle.mm_subst.specs.Substitutions.{Pairs, applied, value_of}
use Rattle.mm_subst.specs.declared.symbol.WSym.{WSym}
use Rattle.mm_subst.specs.declared.symbol.WSym.TheVariants.{Const, Var, Work}
use Rattle.mm_plain.specs.declared.plain.Plain.{Plain}
use Rattle.mm_plain.specs.declared.plain.Plain.TheOpen.{Plain-F}
use Rattle.mm_plain.specs.declared.plain.Plain.TheOpen as P
use Rattle.mm_plain.specs.declared.plain.Plain.TheViews as V
use Rattle.mm_plain.specs.Shape.{Each, Proof, steps_of}
use Rattle.mm_plain.specs.Sources.{label_of, sigma_of, is_pending}
use Rattle.mm_plain.specs.Valid.{Setting, IsKnownSymbol, IsString, Names, good_layer, IsGood, IsSound, IsValid}
use Rattle.mm_sound.specs.Apart.{AreParted, KeepsPairs, IsApart}
use Rattle.mm_sound.specs.Complete.{IsDone, IsComplete, IsSettled}
use Rattle.mm_sound.specs.Proves.{Proves}
use Rattle.mm_save.proofs.Agreeing.{Agree, statement_same, premises_same, variables_same, stands_same, pending_same, pairs_same}

each_as : (F G : Plain → Type 0) → ((x : Plain) → F x → G x) → (xs : List Plain) → Each F xs → Each G xs
each_as F G h [] e = tt
each_as F G h (x ∷ xs) e = (h x e.0, each_as F G h xs e.1)

abbrev setting : List ℕ → ℕ → ℕ → Setting
setting bytes at next = record { bytes = bytes; at = at; next = next }

module _ (old new : List ℕ) (same : Agree old new) where
  symbol_moved : (at next : ℕ) (x : WSym) → IsKnownSymbol (setting old at next) x → IsKnownSymbol (setting new at next) x
  symbol_moved at next (Const n) h = (subst (λ (ss : List (List ℕ)). n < length ss) (sym same.symbols) h.0, same.variables n ∙ h.1)
  symbol_moved at next (Var n) h = (subst (λ (ss : List (List ℕ)). n < length ss) (sym same.symbols) h.0, same.variables n ∙ h.1)
  symbol_moved at next (Work n) h = h

  string_moved : (at next : ℕ) (s : List WSym) → IsString (setting old at next) s → IsString (setting new at next) s
  string_moved at next s h = record { symbols = λ k d small. symbol_moved at next _ (h.symbols k d small); short = h.short }

  names_moved : (at next id : ℕ) (sigma : Pairs) → Names (setting old at next) id sigma → Names (setting new at next) id sigma
  names_moved at next id sigma n = record {
    stands = stands_same old new same at id ∙ n.stands;
    keys = n.keys ∙ ap (map Var) (sym (variables_same old new same id));
    values = λ k d small. string_moved at next _ (n.values k d small);
    source = subst (λ h. IsString (setting new at next) (applied sigma h)) (sym (statement_same old new same id)) (string_moved at next _ n.source);
  }

  layer_moved : (at next : ℕ) (y : Plain-F Plain) → good_layer (setting old at next) y → good_layer (setting new at next) y
  layer_moved at next (P.Unknown t) g = string_moved at next t g
  layer_moved at next (P.Known t l s kids) g = record {
    target = string_moved at next t g.target;
    names = names_moved at next l s g.names;
    children = g.children ∙ ap (map (applied s)) (sym (premises_same old new same l));
  }

  good_moved : (at next : ℕ) (x : Plain) → IsGood (setting old at next) x → IsGood (setting new at next) x
  unfolding IsGood
  good_moved at next x g = layer_moved at next (V.out-Plain x) g

  sound_moved : (at next : ℕ) (x : Plain) → IsSound (setting old at next) x → IsSound (setting new at next) x
  unfolding IsSound
  sound_moved at next x e = each_as (IsGood (setting old at next)) (IsGood (setting new at next)) (good_moved at next) (steps_of x) e

  -- a valid proof stays valid
  pub valid_moved : (at : ℕ) (goal : List WSym) (p : Proof) → IsValid old at goal p → IsValid new at goal p
  valid_moved at goal p v = record { goal_is = v.goal_is; steps = sound_moved at p.next p.plain v.steps; counter = v.counter; few = v.few; low = v.low }

  done_moved : (x : Plain) → IsDone old x → IsDone new x
  done_moved x d = record { known = d.known; settled = pending_same old new same x ∙ d.settled }

  -- and a complete one complete
  pub complete_moved : (x : Plain) → IsComplete old x → IsComplete new x
  complete_moved x e = each_as (IsDone old) (IsDone new) done_moved (steps_of x) e

  pub settled_moved : (x : Plain) → IsSettled old x → IsSettled new x
  settled_moved x e = each_as (λ y. is_pending old y ≡ false) (λ y. is_pending new y ≡ false) (λ y h. pending_same old new same y ∙ h) (steps_of x) e

  apart_in : (groups : List (List ℕ)) (x : Plain) → KeepsPairs old groups x → KeepsPairs new groups x
  apart_in groups x h =
      subst (All (λ (p : ℕ × ℕ). AreParted groups (value_of (sigma_of x) (Var p.0)) (value_of (sigma_of x) (Var p.1)))) (sym (pairs_same old new same (label_of x))) h

  pub apart_moved : (at : ℕ) (x : Plain) → IsApart old (distinct_at old at) x → IsApart new (distinct_at new at) x
  apart_moved at x e =
      subst (λ (gs : List (List ℕ)). IsApart new gs x) (sym (same.groups at)) (each_as (KeepsPairs old (distinct_at old at)) (KeepsPairs new (distinct_at old at)) (apart_in (distinct_at old at)) (steps_of x) e)

  -- and it proves its theorem
  pub proves_moved : (at : ℕ) (p : Proof) → Proves old at p → Proves new at p
  proves_moved at p h = record {
    valid = subst (λ goal. IsValid new at goal p) (sym (statement_same old new same at)) (valid_moved at (statement_of old at) p h.valid);
    complete = complete_moved p.plain h.complete;
    apart = apart_moved at p.plain h.apart;
  }
