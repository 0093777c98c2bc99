-- What recorders have heard after calls one after another.
use Rattle.std.proofs.Common.{◌≡◌, ◌≤◌, ℕ, Bool, true, false, List, [], ◌∷◌, ◌++◌, refl, sym, ◌∙◌, ap, subst, append_assoc}
use Rattle.mm_base.specs.Outside.{RoseBy}
use Rattle.mm_base.specs.Recorder.{Log, heard_with, IsPart, HasHeard, HasFailed, SplitInOrder, none_left, one_stays, one_lost, CallsEach, Split, no_one, stays_live, gets_lost, CallsMany, HaveHeard, heard_where}
use Rattle.mm_base.proofs.SinkLemmas.{append_nil}
use Rattle.mm_base.proofs.RecorderLemmas.{part_same, part_heard}

-- ## Parts of logs

pub part_trans : (a b c : List Log) → IsPart a b → IsPart b c → IsPart a c
part_trans [] b c h k = tt
part_trans (x ∷ a) [] c h k = absurd h
part_trans (x ∷ []) (y ∷ []) [] h k = absurd k
part_trans (x ∷ []) (y ∷ []) (z ∷ c) h k = (h.0 ∙ k.0, (h.1.0 ++ k.1.0, k.1.1 ∙ (ap (λ bs. bs ++ k.1.0) h.1.1 ∙ append_assoc x.bytes h.1.0 k.1.0)))
part_trans (x ∷ []) (y ∷ (y' ∷ b)) [] h k = absurd k
part_trans (x ∷ []) (y ∷ (y' ∷ b)) (z ∷ c) h k = (h.0 ∙ ap (λ (log : Log). log.name) k.0, (h.1.0, sym (ap (λ (log : Log). log.bytes) k.0) ∙ h.1.1))
part_trans (x ∷ (x' ∷ a)) (y ∷ []) c h k = absurd h.1
part_trans (x ∷ (x' ∷ a)) (y ∷ (y' ∷ b)) [] h k = absurd k
part_trans (x ∷ (x' ∷ a)) (y ∷ (y' ∷ b)) (z ∷ c) h k = (h.0 ∙ k.0, part_trans (x' ∷ a) (y' ∷ b) c h.1 k.1)

-- logs behind others
pub part_behind : (logs more : List Log) → IsPart logs (logs ++ more)
part_behind [] more = tt
part_behind (log ∷ []) more = (refl, ([], sym (append_nil log.bytes)))
part_behind (log ∷ (next ∷ logs)) more = (refl, part_behind (next ∷ logs) more)

-- a part behind others
pub part_of_behind : (logs part more : List Log) → IsPart part more → IsPart (logs ++ part) (logs ++ more)
part_of_behind [] part more h = h
part_of_behind (log ∷ []) [] more h = (refl, ([], sym (append_nil log.bytes)))
part_of_behind (log ∷ []) (p ∷ part) more h = (refl, h)
part_of_behind (log ∷ (next ∷ logs)) part more h = (refl, part_of_behind (next ∷ logs) part more h)

pub heard_behind : (piece : List ℕ) (logs : List Log) (log : Log) (more : List Log) → heard_with piece (logs ++ (log ∷ more)) ≡ logs ++ heard_with piece (log ∷ more)
heard_behind piece [] log more = refl
heard_behind piece (x ∷ []) log more = refl
heard_behind piece (x ∷ (y ∷ logs)) log more = ap (λ ls. x ∷ ls) (heard_behind piece (y ∷ logs) log more)

-- ## Two calls

module _ {R : Type 0} (tells : R → Bool) (logs : R → List Log) (faults : R → ℕ) (f g h : List Log → List Log) (same : (ls : List Log) → g (f ls) ≡ h ls) where
  pub heard_then_heard : (a b c : R) → HasHeard tells logs faults f a b → HasHeard tells logs faults g b c → HasHeard tells logs faults h a c
  heard_then_heard a b c first later = record {
    told = λ t. first.told (later.told t);
    whole = λ t. later.whole t ∙ (ap g (first.whole (later.told t)) ∙ same (logs a));
    stays = later.stays ∙ first.stays;
  }

  pub heard_then_failed : ((ls : List Log) → IsPart ls (f ls)) → (a b c : R) → HasHeard tells logs faults f a b → HasFailed tells logs faults g b c → HasFailed tells logs faults h a c
  heard_then_failed grows a b c first later = record {
    told = λ t. first.told (later.told t);
    grows = λ t. part_trans (logs a) (logs b) (logs c) (subst (IsPart (logs a)) (sym (first.whole (later.told t))) (grows (logs a))) (later.grows t);
    part = λ t. subst (IsPart (logs c)) (ap g (first.whole (later.told t)) ∙ same (logs a)) (later.part t);
    never_falls = subst (λ n. n ≤ faults c) first.stays later.never_falls;
    rose = subst (λ n. RoseBy 1 n (faults c)) first.stays later.rose;
  }

  pub failed_before : ((ls : List Log) → IsPart (f ls) (g (f ls))) → (a b : R) → HasFailed tells logs faults f a b → HasFailed tells logs faults h a b
  failed_before grows a b first = record {
    told = first.told;
    grows = first.grows;
    part = λ t. subst (IsPart (logs b)) (same (logs a)) (part_trans (logs b) (f (logs a)) (g (f (logs a))) (first.part t) (grows (logs a)));
    never_falls = first.never_falls;
    rose = first.rose;
  }

-- ## Of each recorder

module _ {R : Type 0} (S1 L1 S2 L2 S L : R → R → Type 0) (both : (a b c : R) → S1 a b → S2 b c → S a c) (late : (a b c : R) → S1 a b → L2 b c → L a c) (early : (a b : R) → L1 a b → L a b) where
  split_again : (old mid new gone more : List R) → Split S1 L1 old mid gone → Split S2 L2 mid new more → Split S L old new (gone ++ more)
  split_again old mid new gone more no_one no_one = no_one
  split_again old mid new gone more (stays_live r now rs live lost k rest) (stays_live x y xs ys zs k' rest') = stays_live r y rs ys (lost ++ zs) (both r now y k k') (split_again rs live ys lost zs rest rest')
  split_again old mid new gone more (stays_live r now rs live gone' k rest) (gets_lost x y xs ys before after k' rest') =
      subst (λ g. Split S L (r ∷ rs) ys g) (append_assoc gone' before (y ∷ after))
      (gets_lost r y rs ys (gone' ++ before) after (late r now y k k') (subst (λ g. Split S L rs ys g) (sym (append_assoc gone' before after)) (split_again rs live ys gone' (before ++ after) rest rest')))
  split_again old mid new gone more (gets_lost r now rs live before after k rest) second =
      subst (λ g. Split S L (r ∷ rs) new g) (sym (append_assoc before (now ∷ after) more))
      (gets_lost r now rs new before (after ++ more) (early r now k) (subst (λ g. Split S L rs new g) (append_assoc before after more) (split_again rs mid new (before ++ after) more rest second)))

split_once : {R : Type 0} (S L : R → R → Type 0) (old new gone : List R) → SplitInOrder S L old new gone → Split S L old new gone
split_once S L old new gone none_left = no_one
split_once S L old new gone (one_stays r now rs live lost k rest) = stays_live r now rs live lost k (split_once S L rs live lost rest)
split_once S L old new gone (one_lost r now rs live lost k rest) = gets_lost r now rs live [] lost k (split_once S L rs live lost rest)

split_none : {R : Type 0} (tells : R → Bool) (logs : R → List Log) (faults : R → ℕ) (rs : List R) → Split (HasHeard tells logs faults (λ ls. ls)) (HasFailed tells logs faults (λ ls. ls)) rs rs []
split_none tells logs faults [] = no_one
split_none tells logs faults (r ∷ rs) = stays_live r r rs rs [] (record { told = λ t. t; whole = λ t. refl; stays = refl }) (split_none tells logs faults rs)

-- ## Of all of them

module _ {R : Type 0} (tells : R → Bool) (logs : R → List Log) (faults : R → ℕ) where
  -- no call
  pub many_none : (live lost : List R) → CallsMany tells logs faults (λ ls. ls) live lost live lost
  many_none live lost = record { gone = []; lost_is = sym (append_nil lost); split = split_none tells logs faults live }

  -- one call
  pub many_one : (after : List Log → List Log) (live lost live' lost' : List R) → CallsEach tells logs faults after live lost live' lost' → CallsMany tells logs faults after live lost live' lost'
  many_one after live lost live' lost' h = record { gone = h.gone; lost_is = h.lost_is; split = split_once _ _ _ _ _ h.split }

  -- some calls and then others
  pub many_then : (f g h : List Log → List Log) (live lost live' lost' live'' lost'' : List R) → CallsMany tells logs faults f live lost live' lost' → CallsMany tells logs faults g live' lost' live'' lost''
      → ((ls : List Log) → g (f ls) ≡ h ls) → ((ls : List Log) → IsPart ls (f ls)) → ((ls : List Log) → IsPart (f ls) (g (f ls))) → CallsMany tells logs faults h live lost live'' lost''
  many_then f g h live lost live' lost' live'' lost'' first later same grows more = record {
    gone = first.gone ++ later.gone;
    lost_is = later.lost_is ∙ (ap (λ rs. rs ++ later.gone) first.lost_is ∙ append_assoc lost first.gone later.gone);
    split = split_again _ _ _ _ _ _ (heard_then_heard tells logs faults f g h same) (heard_then_failed tells logs faults f g h same grows) (failed_before tells logs faults f g h same more)
        live live' live'' first.gone later.gone first.split later.split;
  }

-- ## Pieces

pub pieces_heard : (a b : List ℕ) (logs : List Log) → heard_with b (heard_with a logs) ≡ heard_with (a ++ b) logs
pieces_heard a b [] = refl
pieces_heard a b (log ∷ []) = ap (λ bs. record { name = log.name; bytes = bs } ∷ []) (append_assoc log.bytes a b)
pieces_heard a b (log ∷ (next ∷ [])) = ap (λ ls. log ∷ ls) (pieces_heard a b (next ∷ []))
pieces_heard a b (log ∷ (next ∷ (third ∷ logs))) = ap (λ ls. log ∷ ls) (pieces_heard a b (next ∷ (third ∷ logs)))

pub where_grows : (open_log : Bool) (piece : List ℕ) (logs : List Log) → IsPart logs (heard_where open_log piece logs)
where_grows true piece logs = part_heard piece logs
where_grows false piece logs = part_same logs

-- a piece after another, where a log is open or not
pub where_heard : (open_log : Bool) (a b : List ℕ) (logs : List Log) → heard_where open_log b (heard_where open_log a logs) ≡ heard_where open_log (a ++ b) logs
where_heard true a b logs = pieces_heard a b logs
where_heard false a b logs = refl

module _ {R : Type 0} (tells : R → Bool) (logs : R → List Log) (faults : R → ℕ) where
  -- a piece after another, of all recorders
  pub many_pieces : (open_log : Bool) (a b : List ℕ) (live lost live' lost' live'' lost'' : List R) → CallsMany tells logs faults (heard_where open_log a) live lost live' lost' → CallsMany tells logs faults (heard_where open_log b) live' lost' live'' lost''
      → CallsMany tells logs faults (heard_where open_log (a ++ b)) live lost live'' lost''
  many_pieces open_log a b live lost live' lost' live'' lost'' first later =
      many_then tells logs faults (heard_where open_log a) (heard_where open_log b) (heard_where open_log (a ++ b)) live lost live' lost' live'' lost'' first later
      (where_heard open_log a b) (where_grows open_log a) (λ ls. where_grows open_log b (heard_where open_log a ls))

  -- a call after these logs
  pub have_heard_more : (heard more : List Log) (after : List Log → List Log) (live lost live' lost' live'' lost'' : List R) → HaveHeard tells logs faults heard live lost live' lost' → CallsMany tells logs faults after live' lost' live'' lost''
      → ((ls : List Log) → after (ls ++ heard) ≡ ls ++ more) → IsPart heard more → HaveHeard tells logs faults more live lost live'' lost''
  have_heard_more heard more after live lost live' lost' live'' lost'' first later same part =
      many_then tells logs faults (λ ls. ls ++ heard) after (λ ls. ls ++ more) live lost live' lost' live'' lost'' first later same (λ ls. part_behind ls heard)
      (λ ls. subst (IsPart (ls ++ heard)) (sym (same ls)) (part_of_behind ls heard more part))
