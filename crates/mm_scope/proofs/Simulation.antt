-- The tables hold what looking back finds.
use Rattle.std.proofs.Common.{◌≡◌, ℕ, zero, ◌-◌, ◌<◌, List, [], ◌∷◌, ◌++◌, Option, None, Some, length, take, drop, fold, position, slice_get, refl, sym, ap, ◌∙◌, subst, arith, nat_eq, length-append}
use Rattle.std.proofs.lemmas.Grind.{common_steps}
use Rattle.std.proofs.Math.ListN.{length-set}
use Rattle.std.specs.List.{list_any}
use Rattle.std.specs.Str.{bytes_eq}
use Rattle.mm_scope.specs.Contexts.{Context, add_to, answers, close, closed_layers, ended}
use Rattle.mm_tables.specs.Standings.{Standings}
use Rattle.mm_tables.specs.Tables.{standing_at}
use Rattle.mm_scope.specs.Until.{ended_before}
use Rattle.mm_scope.specs.Events.{Event, opened, closed, symbols, labels, statements, open_blocks}
use Rattle.mm_scope.specs.Looks.{look_back, known_as, moves, constants, is_active_of, is_floated_of}
use Rattle.mm_tables.specs.Moves.{in_force}
use Rattle.mm_scope.specs.Moves.{stack, pop, IsBalanced}
use Rattle.mm_scope.specs.declared.ending.Ending.{Ending}
use Rattle.mm_scope.specs.declared.ending.Ending.TheVariants.{Active, Floated}
use Rattle.mm_scope.specs.declared.ending.Block.{Block}
use Rattle.mm_scope.proofs.LookBack.{holds}
use Rattle.mm_scope.proofs.Flags.{active_ended, floated_ended, constant_after, float_after}
use Rattle.mm_scope.proofs.Floats.{last_float}
use Rattle.mm_scope.proofs.Stacks.{Once, once_taken, closed_flag}

-- the marks of the open blocks, the innermost first
unfoldable pub marks_of : List Block → List ℕ
marks_of [] = []
marks_of (b ∷ bs) = marks_of bs ++ b.endings ∷ []

-- where the open blocks began, the innermost first
unfoldable pub places_of : List Block → List ℕ
places_of [] = []
places_of (b ∷ bs) = places_of bs ++ b.place ∷ []

pub record Agrees (past : List Event) (c : Context) : Type 0 where
  pub texts : c.table.texts ≡ symbols past
  pub sizes : length c.table.standings ≡ length c.table.texts
  pub labelled : c.labels ≡ labels past
  pub constant_flags : (n : ℕ) → (standing_at c.table n).constant ≡ list_any (nat_eq n) (constants past)
  pub active_flags : (n : ℕ) → (standing_at c.table n).active ≡ list_any (is_active_of n) c.endings
  pub floated_flags : (n : ℕ) → (standing_at c.table n).floated ≡ list_any (is_floated_of n) c.endings
  pub float_ids : (n : ℕ) → (standing_at c.table n).float ≡ last_float past n
  pub once_active : (n : ℕ) → Once (is_active_of n) c.endings
  pub once_floated : (n : ℕ) → Once (is_floated_of n) c.endings
  pub endings : c.endings ≡ (stack (moves past)).items
  pub marks : marks_of c.blocks ≡ (stack (moves past)).marks
  pub balanced : IsBalanced (moves past)
  pub places : places_of c.blocks ≡ open_blocks past
  pub stated : c.statements ≡ statements past

length_places : (bs : List Block) → length (places_of bs) ≡ length bs
unfolding places_of
length_places [] = refl
length_places (b ∷ bs) = omega (arith, length-append (places_of bs) (b.place ∷ []), length_places bs)

pub deep_of : (past : List Event) (c : Context) → Agrees past c → length c.blocks ≡ length (open_blocks past)
deep_of past c a = sym (length_places c.blocks) ∙ ap length a.places

-- so the answers are those of looking back
found_as : (past : List Event) (c : Context) (t : List ℕ) → Agrees past c → (r : Option ℕ) → position (bytes_eq t) c.table.texts ≡ r
    → answers c t ≡ known_as past t r
found_as past c t a None e = rw (e, a.texts, a.labelled, deep_of past c a) refl
found_as past c t a (Some n) e =
    let force : c.endings ≡ in_force zero (moves past) = a.endings ∙ (holds (moves past) a.balanced).now in
    rw (e, a.constant_flags n, a.active_flags n, a.floated_flags n, a.labelled, deep_of past c a, force) refl

pub answers_look_back : (past : List Event) (c : Context) (t : List ℕ) → Agrees past c → answers c t ≡ look_back past t
answers_look_back past c t a = found_as past c t a (position (bytes_eq t) c.table.texts) refl ∙ ap (λ ts. known_as past t (position (bytes_eq t) ts)) a.texts

marks_push : (bs : List Block) (b : Block) → marks_of (bs ++ b ∷ []) ≡ b.endings ∷ marks_of bs
unfolding marks_of
marks_push [] b = refl
marks_push (x ∷ xs) b = ap (λ ms. ms ++ x.endings ∷ []) (marks_push xs b)

pub places_push : (bs : List Block) (b : Block) → places_of (bs ++ b ∷ []) ≡ b.place ∷ places_of bs
unfolding places_of
places_push [] b = refl
places_push (x ∷ xs) b = ap (λ ms. ms ++ x.place ∷ []) (places_push xs b)

-- a block begins
pub agrees_opened : (past : List Event) (c : Context) (p : ℕ) → Agrees past c → Agrees (opened p ∷ past) (add_to c (opened p))
unfolding add_to symbols labels statements constants moves stack IsBalanced open_blocks last_float
agrees_opened past c p a = record {
  texts = a.texts;
  sizes = a.sizes;
  labelled = a.labelled;
  constant_flags = a.constant_flags;
  active_flags = a.active_flags;
  floated_flags = a.floated_flags;
  float_ids = a.float_ids;
  once_active = a.once_active;
  once_floated = a.once_floated;
  endings = a.endings;
  marks = marks_push c.blocks _ ∙ ap (λ ms. length c.endings ∷ ms) a.marks ∙ ap (λ es. length es ∷ (stack (moves past)).marks) a.endings;
  balanced = a.balanced;
  places = places_push c.blocks _ ∙ ap (λ ps. p ∷ ps) a.places;
  stated = a.stated;
}

pub record Last (bs : List Block) : Type 0 where
  pub last : Block
  pub before : List Block
  pub whole : bs ≡ before ++ last ∷ []

pub split_last : (bs : List Block) → 0 < length bs → Last bs
split_last [] h = absurd (omega arith)
split_last (b ∷ []) h = record { last = b; before = []; whole = refl }
split_last (b ∷ x ∷ xs) h =
    let more = split_last (x ∷ xs) (omega arith) in
    record { last = more.last; before = b ∷ more.before; whole = ap (λ l. b ∷ l) more.whole }

there : (bs : List Block) (b : Block) → slice_get (bs ++ b ∷ []) (length bs) ≡ Some b
there [] b = refl
there (x ∷ xs) b = grind (arith, common_steps, there xs b)

pub last_there : (bs : List Block) (b : Block) → slice_get (bs ++ b ∷ []) (length (bs ++ b ∷ []) - 1) ≡ Some b
last_there bs b = let same : length (bs ++ b ∷ []) - 1 ≡ length bs = omega (arith, length-append bs (b ∷ [])) in rw same (there bs b)

before_there : (bs : List Block) (b : Block) → take (length (bs ++ b ∷ []) - 1) (bs ++ b ∷ []) ≡ bs
before_there bs b = grind (arith, common_steps, length-append bs (b ∷ []))

-- closing a block, by its last
pub closing : (c : Context) (l : Last c.blocks) → add_to c closed ≡ record (closed_layers c) {
  table = fold ended c.table (drop l.last.endings c.endings);
  endings = take l.last.endings c.endings;
  until = fold (ended_before (length c.labels)) c.until (drop l.last.hypotheses c.hypotheses);
  hypotheses = take l.last.hypotheses c.hypotheses;
  blocks = l.before;
}
unfolding add_to
closing c l =
    let there : slice_get c.blocks (length c.blocks - 1) ≡ Some l.last = rw l.whole (last_there l.before l.last) in
    let rest : take (length c.blocks - 1) c.blocks ≡ l.before = rw l.whole (before_there l.before l.last) in
    ap (close (closed_layers c)) there ∙ ap (λ bs. record (closed_layers c) { table = fold ended c.table (drop l.last.endings c.endings); endings = take l.last.endings c.endings; until = fold (ended_before (length c.labels)) c.until (drop l.last.hypotheses c.hypotheses); hypotheses = take l.last.hypotheses c.hypotheses; blocks = bs }) rest

texts_ended : (es : List Ending) (t : Standings) → (fold ended t es).texts ≡ t.texts
texts_ended [] t = refl
texts_ended (Active m ∷ es) t = texts_ended es (ended t (Active m))
texts_ended (Floated m ∷ es) t = texts_ended es (ended t (Floated m))

sizes_ended : (es : List Ending) (t : Standings) → length (fold ended t es).standings ≡ length t.standings
sizes_ended [] t = refl
sizes_ended (Active m ∷ es) t = sizes_ended es (ended t (Active m)) ∙ length-set t.standings m _
sizes_ended (Floated m ∷ es) t = sizes_ended es (ended t (Floated m)) ∙ length-set t.standings m _

-- a block that is open is closed
pub agrees_closed : (past : List Event) (c : Context) → 0 < length (open_blocks past) → Agrees past c → Agrees (closed ∷ past) (add_to c closed)
unfolding symbols labels statements constants moves stack IsBalanced open_blocks pop marks_of last_float
agrees_closed past c some a =
    let l = split_last c.blocks (omega (arith, deep_of past c a)) in
    let marks : l.last.endings ∷ marks_of l.before ≡ (stack (moves past)).marks = sym (marks_push l.before l.last) ∙ ap marks_of (sym l.whole) ∙ a.marks in
    subst (Agrees (closed ∷ past)) (sym (closing c l)) (record {
      texts = texts_ended (drop l.last.endings c.endings) c.table ∙ a.texts;
      sizes = sizes_ended (drop l.last.endings c.endings) c.table ∙ a.sizes ∙ ap length (sym (texts_ended (drop l.last.endings c.endings) c.table));
      labelled = a.labelled;
      constant_flags = λ n. constant_after (drop l.last.endings c.endings) c.table n ∙ a.constant_flags n;
      active_flags = λ n. closed_flag ended (λ t k. (standing_at t k).active) is_active_of active_ended c.table c.endings l.last.endings n (a.active_flags n) (a.once_active n);
      floated_flags = λ n. closed_flag ended (λ t k. (standing_at t k).floated) is_floated_of floated_ended c.table c.endings l.last.endings n (a.floated_flags n) (a.once_floated n);
      float_ids = λ n. float_after (drop l.last.endings c.endings) c.table n ∙ a.float_ids n;
      once_active = λ n. once_taken (is_active_of n) c.endings l.last.endings (a.once_active n);
      once_floated = λ n. once_taken (is_floated_of n) c.endings l.last.endings (a.once_floated n);
      endings = ap (take l.last.endings) a.endings ∙ ap (λ ms. (pop ms (stack (moves past)).items).items) marks;
      marks = ap (λ ms. (pop ms (stack (moves past)).items).marks) marks;
      balanced = (subst (λ ms. 0 < length ms) marks (omega arith), a.balanced);
      places = ap (drop 1) (sym (places_push l.before l.last) ∙ ap places_of (sym l.whole) ∙ a.places);
      stated = a.stated;
    })
