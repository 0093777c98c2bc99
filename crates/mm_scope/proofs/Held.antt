-- What holds after a past, event by event: the tables say what looking back finds, and each statement is sound.
use Rattle.std.proofs.Common.{◌≡◌, ◌<◌, ◌≤◌, ℕ, ◌+◌, Bool, true, false, List, [], ◌∷◌, ◌++◌, Option, None, Some, length, position, slice_index, refl, ap, ◌∙◌, arith, length-append}
use Rattle.std.proofs.lemmas.Bool.{true≢false}
use Rattle.std.specs.List.{list_any}
use Rattle.std.specs.Str.{bytes_eq}
use Rattle.mm_tokens.specs.declared.pieces.Span.{Span}
use Rattle.mm_scope.specs.Contexts.{Context, add_to}
use Rattle.mm_scope.specs.Events.{Event, constant, variable, float, essential, asserted, theorem, distinct, opened, closed, symbols, labels, statements, hypothesis_moves, active_hypotheses, open_blocks}
use Rattle.mm_scope.specs.Laws.{LabelsDiffer, VariablesDiffer}
use Rattle.mm_scope.specs.Looks.{known_as}
use Rattle.mm_stated.specs.declared.statement.Kind.{Kind}
use Rattle.mm_stated.specs.declared.statement.Kind.TheVariants as kind
use Rattle.mm_scope.proofs.Agreements.{IsReady, not_there, agrees_constant, agrees_variable, agrees_float, agrees_essential, agrees_asserted, agrees_theorem, agrees_distinct}
use Rattle.mm_scope.proofs.Candidates.{needed_is}
use Rattle.mm_scope.proofs.Differing.{one_float_each}
use Rattle.mm_scope.proofs.Floats.{FloatsKnown, last_float, known_float, known_essential, known_asserted, known_theorem, known_opened, known_closed}
use Rattle.mm_scope.proofs.Hypotheses.{HypothesesAgree, forced, same_hypotheses, hypotheses_opened, hypotheses_closed, hypotheses_stated, hypotheses_asserted}
use Rattle.mm_scope.proofs.Simulation.{Agrees, Last, split_last, deep_of, closing, agrees_opened, agrees_closed}
use Rattle.mm_scope.proofs.Layering.{LayersAgree, parted, layers_constant, layers_variable, layers_distinct, layers_float, layers_essential, layers_asserted, layers_theorem, layers_opened, layers_closed}
use Rattle.mm_scope.proofs.Sound.{SoundAt, sound_same, sound_closed, sound_stated, sound_asserted}
use Rattle.mm_scope.proofs.SymbolsThen.{ConstantsAreNew}
use Rattle.mm_scope.proofs.Whole.{context_at}

-- what holds after a past
pub record Held (past : List Event) : Type 0 where
  pub agrees : Agrees past (context_at past)
  pub hypotheses : HypothesesAgree past (context_at past)
  pub sound : SoundAt past (context_at past)
  pub differ : LabelsDiffer past
  pub layers : LayersAgree past (context_at past)
  pub floats : FloatsKnown past
  pub constants : ConstantsAreNew past
  pub one_float : VariablesDiffer past

one_label : (l : List ℕ) (ls : List (List ℕ)) → length (ls ++ l ∷ []) ≡ length ls + 1
one_label l ls = omega (arith, length-append ls (l ∷ []))

new_constant : (past : List Event) (t : List ℕ) (r : Option ℕ) → position (bytes_eq t) (symbols past) ≡ r → (known_as past t r).known ≡ false
    → Agrees past (context_at past) → Agrees (constant t (known_as past t r).number ∷ past) (context_at (constant t (known_as past t r).number ∷ past))
unfolding context_at
new_constant past t None e off a = agrees_constant past (context_at past) t (length (symbols past)) (a.sizes ∙ ap length a.texts) (not_there (bytes_eq t) (symbols past) e) a
new_constant past t (Some n) e off a = absurd (true≢false off)

new_number : (past : List Event) (t : List ℕ) (r : Option ℕ) → position (bytes_eq t) (symbols past) ≡ r → (known_as past t r).known ≡ false → length (symbols past) ≤ (known_as past t r).number
new_number past t None e off = omega arith
new_number past t (Some n) e off = absurd (true≢false off)

pub held_constant : (past : List Event) (t : List ℕ) (r : Option ℕ) → position (bytes_eq t) (symbols past) ≡ r → (known_as past t r).known ≡ false
    → Held past → Held (constant t (known_as past t r).number ∷ past)
unfolding context_at add_to statements labels hypothesis_moves last_float
held_constant past t r e off h = record {
  agrees = new_constant past t r e off h.agrees;
  hypotheses = same_hypotheses (constant t (known_as past t r).number) past (context_at past) _ refl refl refl refl refl h.hypotheses;
  sound = sound_same (constant t (known_as past t r).number) past (context_at past) _ refl refl refl h.sound;
  differ = h.differ;
  layers = layers_constant past (context_at past) t (known_as past t r).number h.layers;
  floats = h.floats;
  constants = (new_number past t r e off, h.constants);
  one_float = h.one_float;
}

new_variable : (past : List Event) (t : List ℕ) (r : Option ℕ) → position (bytes_eq t) (symbols past) ≡ r → (known_as past t r).active ≡ false
    → Agrees past (context_at past) → Agrees (variable t (known_as past t r).number ∷ past) (context_at (variable t (known_as past t r).number ∷ past))
unfolding context_at
new_variable past t r e off a = agrees_variable past (context_at past) t r e off a

pub held_variable : (past : List Event) (t : List ℕ) (r : Option ℕ) → position (bytes_eq t) (symbols past) ≡ r → (known_as past t r).active ≡ false
    → Held past → Held (variable t (known_as past t r).number ∷ past)
unfolding context_at add_to statements labels hypothesis_moves last_float
held_variable past t r e off h = record {
  agrees = new_variable past t r e off h.agrees;
  hypotheses = same_hypotheses (variable t (known_as past t r).number) past (context_at past) _ refl refl refl refl refl h.hypotheses;
  sound = sound_same (variable t (known_as past t r).number) past (context_at past) _ refl refl refl h.sound;
  differ = h.differ;
  layers = layers_variable past (context_at past) t (known_as past t r).number h.layers;
  floats = h.floats;
  constants = h.constants;
  one_float = h.one_float;
}

pub held_distinct : (past : List Event) (ss : List ℕ) → Held past → Held (distinct ss ∷ past)
unfolding context_at add_to statements labels hypothesis_moves last_float
held_distinct past ss h = record {
  agrees = agrees_distinct past (context_at past) ss h.agrees;
  hypotheses = same_hypotheses (distinct ss) past (context_at past) _ refl refl refl refl refl h.hypotheses;
  sound = sound_same (distinct ss) past (context_at past) _ refl refl refl h.sound;
  differ = h.differ;
  layers = layers_distinct past (context_at past) ss h.layers;
  floats = h.floats;
  constants = h.constants;
  one_float = h.one_float;
}

pub held_float : (past : List Event) (l ss : List ℕ) (d : Option Span) → list_any (bytes_eq l) (labels past) ≡ false → IsReady past (slice_index ss 1) → length ss ≡ 2
    → Held past → Held (float l ss d ∷ past)
unfolding context_at add_to statements labels hypothesis_moves last_float
held_float past l ss d fresh ready two h = record {
  agrees = agrees_float past (context_at past) l ss d fresh ready h.agrees;
  hypotheses = hypotheses_stated (float l ss d) past (context_at past) _ refl refl refl h.agrees.labelled (one_label l (labels past)) refl h.hypotheses;
  sound = sound_stated (float l ss d) past (context_at past) _ _ refl (one_label l (labels past)) refl h.agrees.labelled refl refl (omega (arith, two)) (λ _. two) h.sound;
  differ = (fresh, h.differ);
  layers = layers_float past (context_at past) l ss d h.agrees.labelled h.agrees.texts h.layers;
  floats = known_float past l ss d ready.1 h.floats;
  constants = h.constants;
  one_float = h.one_float;
}

not_float : kind.Essential ≡ kind.Float → {n : ℕ} → n ≡ 2
not_float e = absurd (true≢false (ap is_it e))
  where
    is_it : Kind → Bool
    is_it kind.Essential = true
    is_it _ = false

pub held_essential : (past : List Event) (l ss : List ℕ) (d : Option Span) → list_any (bytes_eq l) (labels past) ≡ false → 0 < length ss
    → Held past → Held (essential l ss d ∷ past)
unfolding context_at add_to statements labels hypothesis_moves last_float
held_essential past l ss d fresh some h = record {
  agrees = agrees_essential past (context_at past) l ss d fresh h.agrees;
  hypotheses = hypotheses_stated (essential l ss d) past (context_at past) _ refl refl refl h.agrees.labelled (one_label l (labels past)) refl h.hypotheses;
  sound = sound_stated (essential l ss d) past (context_at past) _ _ refl (one_label l (labels past)) refl h.agrees.labelled refl refl some (λ e. not_float e) h.sound;
  differ = (fresh, h.differ);
  layers = layers_essential past (context_at past) l ss d h.agrees.labelled h.agrees.texts h.layers;
  floats = known_essential past l ss d h.floats;
  constants = h.constants;
  one_float = h.one_float;
}

pub held_asserted : (past : List Event) (l ss : List ℕ) (d : Option Span) → list_any (bytes_eq l) (labels past) ≡ false → 0 < length ss
    → Held past → Held (asserted l ss d ∷ past)
unfolding context_at add_to statements labels hypothesis_moves last_float
held_asserted past l ss d fresh some h =
    let act : (context_at past).hypotheses ≡ active_hypotheses past = forced past (context_at past) h.hypotheses in
    record {
      agrees = agrees_asserted past (context_at past) l ss d fresh (needed_is past (context_at past) ss h.agrees h.layers act h.floats) act (parted past (context_at past) h.layers) h.agrees;
      hypotheses = hypotheses_asserted (asserted l ss d) past (context_at past) _ refl refl refl (one_label l (labels past)) refl h.hypotheses;
      sound = sound_asserted (asserted l ss d) past (context_at past) _ _ refl (one_label l (labels past)) refl act refl refl some h.sound;
      differ = (fresh, h.differ);
      layers = layers_asserted past (context_at past) l ss d h.agrees.texts h.layers;
      floats = known_asserted past l ss d h.floats;
      constants = h.constants;
      one_float = (one_float_each past ss h.floats, h.one_float);
    }

pub held_theorem : (past : List Event) (l ss : List ℕ) (from to : ℕ) (d : Option Span) → list_any (bytes_eq l) (labels past) ≡ false → 0 < length ss
    → Held past → Held (theorem l ss from to d ∷ past)
unfolding context_at add_to statements labels hypothesis_moves last_float
held_theorem past l ss from to d fresh some h =
    let act : (context_at past).hypotheses ≡ active_hypotheses past = forced past (context_at past) h.hypotheses in
    record {
      agrees = agrees_theorem past (context_at past) l ss from to d fresh (needed_is past (context_at past) ss h.agrees h.layers act h.floats) act (parted past (context_at past) h.layers) h.agrees;
      hypotheses = hypotheses_asserted (theorem l ss from to d) past (context_at past) _ refl refl refl (one_label l (labels past)) refl h.hypotheses;
      sound = sound_asserted (theorem l ss from to d) past (context_at past) _ _ refl (one_label l (labels past)) refl act refl refl some h.sound;
      differ = (fresh, h.differ);
      layers = layers_theorem past (context_at past) l ss from to d h.agrees.texts h.layers;
      floats = known_theorem past l ss from to d h.floats;
      constants = h.constants;
      one_float = (one_float_each past ss h.floats, h.one_float);
    }

opened_sound : (past : List Event) (p : ℕ) → SoundAt past (context_at past) → SoundAt (opened p ∷ past) (add_to (context_at past) (opened p))
unfolding add_to statements labels
opened_sound past p s = sound_same (opened p) past (context_at past) _ refl refl refl s

closed_sound : (past : List Event) (l : Last (context_at past).blocks) → SoundAt past (context_at past) → SoundAt (closed ∷ past) (add_to (context_at past) closed)
unfolding statements labels
closed_sound past l s = sound_closed closed past (context_at past) _ l.last.hypotheses refl refl (ap (λ c. c.hypotheses) (closing (context_at past) l)) s

pub held_opened : (past : List Event) (p : ℕ) → Held past → Held (opened p ∷ past)
unfolding context_at
held_opened past p h = record {
  agrees = agrees_opened past (context_at past) p h.agrees;
  hypotheses = hypotheses_opened past (context_at past) p h.hypotheses;
  sound = opened_sound past p h.sound;
  differ = h.differ;
  layers = layers_opened past (context_at past) p h.layers;
  floats = known_opened past p h.floats;
  constants = h.constants;
  one_float = h.one_float;
}

pub held_closed : (past : List Event) → 0 < length (open_blocks past) → Held past → Held (closed ∷ past)
unfolding context_at
held_closed past some h =
    let c : Context = context_at past in
    let l : Last c.blocks = split_last c.blocks (omega (arith, deep_of past c h.agrees, some)) in
    record {
      agrees = agrees_closed past c some h.agrees;
      hypotheses = hypotheses_closed past c l h.agrees.labelled h.hypotheses;
      sound = closed_sound past l h.sound;
      differ = h.differ;
      layers = layers_closed past c h.layers;
      floats = known_closed past h.floats;
      constants = h.constants;
      one_float = h.one_float;
    }
