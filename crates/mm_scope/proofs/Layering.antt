-- What the reader keeps in layers is what is kept of the moves.
use Rattle.std.proofs.Common.{◌≡◌, ℕ, ◌-◌, List, [], ◌∷◌, ◌++◌, Option, None, Some, length, slice_get, ap, ◌∙◌}
use Rattle.mm_tables.specs.Layered.{layered, pushed, begun, ended, marked}
use Rattle.mm_tables.proofs.LookBack.{in_force_now}
use Rattle.mm_scope.specs.Contexts.{Context, add_to, close, closed_layers}
use Rattle.mm_scope.specs.Events.{Event, constant, variable, float, essential, asserted, theorem, distinct, opened, closed, symbols, labels, hypothesis_moves, variable_moves, distinct_moves, active_distinct}
use Rattle.mm_tokens.specs.declared.pieces.Span.{Span}
use Rattle.mm_scope.proofs.Floats.{essential_moves}
use Rattle.mm_scope.specs.declared.ending.Block.{Block}

-- how many symbols were declared before each labelled statement
unfoldable pub knowns : List Event → List ℕ
knowns [] = []
knowns (float l ss d ∷ past) = knowns past ++ length (symbols past) ∷ []
knowns (essential l ss d ∷ past) = knowns past ++ length (symbols past) ∷ []
knowns (asserted l ss d ∷ past) = knowns past ++ length (symbols past) ∷ []
knowns (theorem l ss from to d ∷ past) = knowns past ++ length (symbols past) ∷ []
knowns (_ ∷ past) = knowns past

pub record LayersAgree (past : List Event) (c : Context) : Type 0 where
  pub partings : c.partings ≡ layered (distinct_moves past)
  pub actives : c.actives ≡ layered (hypothesis_moves past)
  pub essentials : c.essentials ≡ layered (essential_moves past)
  pub variables : c.variables ≡ layered (variable_moves past)
  pub known : c.known ≡ knowns past

-- so the groups in force are those of looking back
pub parted : (past : List Event) (c : Context) → LayersAgree past c → c.partings.now ≡ active_distinct past
parted past c a = ap (λ l. l.now) a.partings ∙ in_force_now (distinct_moves past)

-- a declaration
pub layers_constant : (past : List Event) (c : Context) (t : List ℕ) (n : ℕ) → LayersAgree past c → LayersAgree (constant t n ∷ past) (add_to c (constant t n))
unfolding add_to layered hypothesis_moves essential_moves variable_moves distinct_moves knowns
layers_constant past c t n a = record {
  partings = a.partings;
  actives = a.actives;
  essentials = a.essentials;
  variables = a.variables;
  known = a.known;
}

pub layers_variable : (past : List Event) (c : Context) (t : List ℕ) (n : ℕ) → LayersAgree past c → LayersAgree (variable t n ∷ past) (add_to c (variable t n))
unfolding add_to layered hypothesis_moves essential_moves variable_moves distinct_moves knowns
layers_variable past c t n a = record {
  partings = a.partings;
  actives = a.actives;
  essentials = a.essentials;
  variables = ap (λ l. pushed l (n ∷ [])) a.variables;
  known = a.known;
}

pub layers_distinct : (past : List Event) (c : Context) (ss : List ℕ) → LayersAgree past c → LayersAgree (distinct ss ∷ past) (add_to c (distinct ss))
unfolding add_to layered hypothesis_moves essential_moves variable_moves distinct_moves knowns
layers_distinct past c ss a = record {
  partings = ap (λ l. pushed l (ss ∷ [])) a.partings;
  actives = a.actives;
  essentials = a.essentials;
  variables = a.variables;
  known = a.known;
}

one_known : (past : List Event) (c : Context) → c.table.texts ≡ symbols past → c.known ≡ knowns past → c.known ++ length c.table.texts ∷ [] ≡ knowns past ++ length (symbols past) ∷ []
one_known past c texts known = ap (λ ks. ks ++ length c.table.texts ∷ []) known ∙ ap (λ ts. knowns past ++ length ts ∷ []) texts

one_active : (past : List Event) (c : Context) → c.labels ≡ labels past → c.actives ≡ layered (hypothesis_moves past)
    → pushed (marked c.actives) (length c.labels ∷ []) ≡ pushed (marked (layered (hypothesis_moves past))) (length (labels past) ∷ [])
one_active past c labelled actives =
    ap (λ l. pushed (marked l) (length c.labels ∷ [])) actives ∙ ap (λ ls. pushed (marked (layered (hypothesis_moves past))) (length ls ∷ [])) labelled

one_essential : (past : List Event) (c : Context) → c.labels ≡ labels past → c.essentials ≡ layered (essential_moves past)
    → pushed c.essentials (length c.labels ∷ []) ≡ pushed (layered (essential_moves past)) (length (labels past) ∷ [])
one_essential past c labelled essentials =
    ap (λ l. pushed l (length c.labels ∷ [])) essentials ∙ ap (λ ls. pushed (layered (essential_moves past)) (length ls ∷ [])) labelled

-- a labelled statement
pub layers_float : (past : List Event) (c : Context) (l ss : List ℕ) (d : Option Span) → c.labels ≡ labels past → c.table.texts ≡ symbols past → LayersAgree past c → LayersAgree (float l ss d ∷ past) (add_to c (float l ss d))
unfolding add_to layered hypothesis_moves essential_moves variable_moves distinct_moves knowns
layers_float past c l ss d labelled texts a = record {
  partings = ap marked a.partings;
  actives = one_active past c labelled a.actives;
  essentials = a.essentials;
  variables = ap marked a.variables;
  known = one_known past c texts a.known;
}

pub layers_essential : (past : List Event) (c : Context) (l ss : List ℕ) (d : Option Span) → c.labels ≡ labels past → c.table.texts ≡ symbols past → LayersAgree past c → LayersAgree (essential l ss d ∷ past) (add_to c (essential l ss d))
unfolding add_to layered hypothesis_moves essential_moves variable_moves distinct_moves knowns
layers_essential past c l ss d labelled texts a = record {
  partings = ap marked a.partings;
  actives = one_active past c labelled a.actives;
  essentials = one_essential past c labelled a.essentials;
  variables = ap marked a.variables;
  known = one_known past c texts a.known;
}

pub layers_asserted : (past : List Event) (c : Context) (l ss : List ℕ) (d : Option Span) → c.table.texts ≡ symbols past → LayersAgree past c → LayersAgree (asserted l ss d ∷ past) (add_to c (asserted l ss d))
unfolding add_to layered hypothesis_moves essential_moves variable_moves distinct_moves knowns
layers_asserted past c l ss d texts a = record {
  partings = ap marked a.partings;
  actives = ap marked a.actives;
  essentials = a.essentials;
  variables = ap marked a.variables;
  known = one_known past c texts a.known;
}

pub layers_theorem : (past : List Event) (c : Context) (l ss : List ℕ) (from to : ℕ) (d : Option Span) → c.table.texts ≡ symbols past → LayersAgree past c → LayersAgree (theorem l ss from to d ∷ past) (add_to c (theorem l ss from to d))
unfolding add_to layered hypothesis_moves essential_moves variable_moves distinct_moves knowns
layers_theorem past c l ss from to d texts a = record {
  partings = ap marked a.partings;
  actives = ap marked a.actives;
  essentials = a.essentials;
  variables = ap marked a.variables;
  known = one_known past c texts a.known;
}

-- a block begins
pub layers_opened : (past : List Event) (c : Context) (p : ℕ) → LayersAgree past c → LayersAgree (opened p ∷ past) (add_to c (opened p))
unfolding add_to layered hypothesis_moves essential_moves variable_moves distinct_moves knowns
layers_opened past c p a = record {
  partings = ap begun a.partings;
  actives = ap begun a.actives;
  essentials = ap begun a.essentials;
  variables = ap begun a.variables;
  known = a.known;
}

close_keeps : (c : Context) (o : Option Block) (past : List Event) → LayersAgree past c → LayersAgree past (close c o)
close_keeps c None past a = a
close_keeps c (Some b) past a = record { partings = a.partings; actives = a.actives; essentials = a.essentials; variables = a.variables; known = a.known }

-- a block ends
pub layers_closed : (past : List Event) (c : Context) → LayersAgree past c → LayersAgree (closed ∷ past) (add_to c closed)
unfolding add_to layered hypothesis_moves essential_moves variable_moves distinct_moves knowns
layers_closed past c a = close_keeps (closed_layers c) (slice_get c.blocks (length c.blocks - 1)) (closed ∷ past) (record {
  partings = ap ended a.partings;
  actives = ap ended a.actives;
  essentials = ap ended a.essentials;
  variables = ap ended a.variables;
  known = a.known;
})
