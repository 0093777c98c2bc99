-- Logs that stand one behind the other in one text.
use Rattle.std.proofs.Common.{Bool, true, false, ◌&&◌, nat_lt, nat_le, true≢false, ltb-true, leb-true, ◌≡◌, ◌<◌, ◌≤◌, ◌+◌, ◌-◌, ℕ, zero, suc, List, [], ◌∷◌, ◌++◌, length, get_or, take, drop, Some, None, refl, sym, ◌∙◌, ap, arith}
use Rattle.std.specs.Prelude.{slice_get}
use Rattle.std.specs.List.{slice_range}
use Rattle.std.proofs.lemmas.List.{drop-append-le, take-append-le}
use Rattle.std.proofs.Math.ListN.{length-append, length-drop, drop_of_length-le}
use Rattle.std.proofs.Math.Seq.{drop-append_seam}
use Rattle.std.proofs.Math.Numerals.{add-one}
use Rattle.mm_base.specs.Memory.{KeptLogs, has_room_for_log, has_room_for_piece, kept_begun, kept_heard}
use Rattle.mm_base.specs.Recorder.{begun_with, heard_with}
use Rattle.mm_base.specs.Places.{AreInOrder, end_at, log_between, logs_in}
use Rattle.mm_base.specs.declared.log_buffer.Place.{Place}

-- a part of a text that grows at its end
range_kept : (text more : List ℕ) (i j : ℕ) → i ≤ j → j ≤ length text → slice_range (text ++ more) i j ≡ slice_range text i j
range_kept text more i j h k =
    let low : i ≤ length text = omega arith in
    ap (take (j - i)) (drop-append-le i text more low) ∙ take-append-le (j - i) (drop i text) more (simp length-drop (omega arith))

take_all : (xs : List ℕ) (n : ℕ) → length xs ≤ n → take n xs ≡ xs
take_all [] zero h = refl
take_all [] (suc n) h = refl
take_all (x ∷ xs) zero h = absurd (omega arith)
take_all (x ∷ xs) (suc n) h = ap (λ ys. x ∷ ys) (take_all xs n (omega arith))

range_end : (text : List ℕ) (i : ℕ) → slice_range text i (length text) ≡ drop i text
range_end text i = take_all (drop i text) (length text - i) (simp length-drop (omega arith))

range_longer : (text more : List ℕ) (i : ℕ) → i ≤ length text → slice_range (text ++ more) i (length (text ++ more)) ≡ slice_range text i (length text) ++ more
range_longer text more i h = range_end (text ++ more) i ∙ (drop-append-le i text more h ∙ ap (λ xs. xs ++ more) (sym (range_end text i)))

log_kept : (text more : List ℕ) (p : Place) (end : ℕ) → p.name ≤ p.bytes → p.bytes ≤ end → end ≤ length text → log_between (text ++ more) p end ≡ log_between text p end
log_kept text more p end a b c = rw (range_kept text more p.name p.bytes a (omega arith), range_kept text more p.bytes end b c) refl

-- ## What a call makes of the logs

-- a piece behind the last log
pub logs_heard : (text piece : List ℕ) (ps : List Place) → AreInOrder (length text) ps → logs_in (text ++ piece) ps ≡ heard_with piece (logs_in text ps)
logs_heard text piece [] h = refl
logs_heard text piece (p ∷ []) h = rw (range_kept text piece p.name p.bytes h.0 h.1, range_longer text piece p.bytes h.1) refl
logs_heard text piece (p ∷ (q ∷ [])) h =
    ap (λ log. log ∷ logs_in (text ++ piece) (q ∷ [])) (log_kept text piece p q.name h.0 h.1 h.2) ∙ ap (λ ls. log_between text p q.name ∷ ls) (logs_heard text piece (q ∷ []) h.3)
logs_heard text piece (p ∷ (q ∷ (r ∷ ps))) h =
    ap (λ log. log ∷ logs_in (text ++ piece) (q ∷ (r ∷ ps))) (log_kept text piece p q.name h.0 h.1 h.2) ∙ ap (λ ls. log_between text p q.name ∷ ls) (logs_heard text piece (q ∷ (r ∷ ps)) h.3)

-- where a new log begins behind a text
abbrev new_place : List ℕ → List ℕ → Place
new_place text name = record { name = length text; bytes = length text + length name }

one_begun : (text name : List ℕ) → logs_in (text ++ name) (new_place text name ∷ []) ≡ record { name = name; bytes = [] } ∷ []
one_begun text name =
    let first : slice_range (text ++ name) (length text) (length text + length name) ≡ name = ap (take (length text + length name - length text)) (drop-append_seam text name) ∙ take_all name (length text + length name - length text) (omega arith) in
    let rest : slice_range (text ++ name) (length text + length name) (length (text ++ name)) ≡ [] = range_end (text ++ name) (length text + length name) ∙ drop_of_length-le (text ++ name) (simp length-append (omega arith)) in
    rw (first, rest) refl

-- a new log behind the others
pub logs_begun : (text name : List ℕ) (ps : List Place) → AreInOrder (length text) ps → logs_in (text ++ name) (ps ++ new_place text name ∷ []) ≡ begun_with name (logs_in text ps)
logs_begun text name [] h = one_begun text name
logs_begun text name (p ∷ []) h =
    ap (λ log. log ∷ logs_in (text ++ name) (new_place text name ∷ [])) (log_kept text name p (length text) h.0 h.1 (omega arith)) ∙ ap (λ ls. log_between text p (length text) ∷ ls) (one_begun text name)
logs_begun text name (p ∷ (q ∷ ps)) h =
    ap (λ log. log ∷ logs_in (text ++ name) ((q ∷ ps) ++ new_place text name ∷ [])) (log_kept text name p q.name h.0 h.1 h.2) ∙ ap (λ ls. log_between text p q.name ∷ ls) (logs_begun text name (q ∷ ps) h.3)

order_longer : (end more : ℕ) (ps : List Place) → AreInOrder end ps → AreInOrder (end + more) ps
order_longer end more [] h = tt
order_longer end more (p ∷ []) h = (h.0, omega arith)
order_longer end more (p ∷ (q ∷ ps)) h = (h.0, h.1, omega arith, order_longer end more (q ∷ ps) h.3)

order_behind : (end more : ℕ) (ps : List Place) → AreInOrder end ps → AreInOrder (end + more) (ps ++ record { name = end; bytes = end + more } ∷ [])
order_behind end more [] h = (omega arith, omega arith)
order_behind end more (p ∷ []) h = (h.0, h.1, omega arith, (omega arith, omega arith))
order_behind end more (p ∷ (q ∷ ps)) h = (h.0, h.1, omega arith, order_behind end more (q ∷ ps) h.3)

pub order_begun : (end more new here : ℕ) (ps places : List Place) → AreInOrder end ps → new ≡ end + more → here ≡ end → places ≡ ps ++ record { name = here; bytes = here + more } ∷ [] → AreInOrder new places
order_begun end more new here ps places h new_is here_is is = rw (new_is, is, here_is) (order_behind end more ps h)

pub order_heard : (end more new : ℕ) (ps : List Place) → AreInOrder end ps → new ≡ end + more → AreInOrder new ps
order_heard end more new ps h new_is = rw new_is (order_longer end more ps h)

pub length_logs : (text : List ℕ) (ps : List Place) → length (logs_in text ps) ≡ length ps
length_logs text [] = refl
length_logs text (p ∷ []) = refl
length_logs text (p ∷ (q ∷ ps)) = ap suc (length_logs text (q ∷ ps))

-- ## The log with an index

pub record IsLogAt (text : List ℕ) (ps : List Place) (k : ℕ) (p : Place) : Type 0 where
  pub low : p.name ≤ p.bytes
  pub high : p.bytes ≤ end_at (length text) ps k
  pub end : end_at (length text) ps k ≤ length text
  pub log : slice_get (logs_in text ps) k ≡ Some (log_between text p (end_at (length text) ps k))

pub log_is : (text : List ℕ) (ps : List Place) (k : ℕ) (d : Place) → AreInOrder (length text) ps → k < length ps → IsLogAt text ps k (get_or ps k d)
log_is text [] k d h n = absurd (omega arith)
log_is text (p ∷ []) zero d h n = record { low = h.0; high = h.1; end = omega arith; log = refl }
log_is text (p ∷ []) (suc k) d h n = absurd (omega arith)
log_is text (p ∷ (q ∷ ps)) zero d h n = record { low = h.0; high = h.1; end = h.2; log = refl }
log_is text (p ∷ (q ∷ ps)) (suc k) d h n =
    let r : IsLogAt text (q ∷ ps) k (get_or (q ∷ ps) k d) = log_is text (q ∷ ps) k d h.3 (omega arith) in
    record { low = r.low; high = r.high; end = r.end; log = r.log }

pub no_log : (text : List ℕ) (ps : List Place) (k : ℕ) → length ps ≤ k → slice_get (logs_in text ps) k ≡ None
no_log text [] k h = refl
no_log text (p ∷ []) zero h = absurd (omega arith)
no_log text (p ∷ []) (suc k) h = refl
no_log text (p ∷ (q ∷ ps)) zero h = absurd (omega arith)
no_log text (p ∷ (q ∷ ps)) (suc k) h = no_log text (q ∷ ps) k (omega arith)

end_inner : (end : ℕ) (ps : List Place) (k : ℕ) (d : Place) → suc k < length ps → end_at end ps k ≡ (get_or ps (suc k) d).name
end_inner end [] k d h = absurd (omega arith)
end_inner end (p ∷ []) k d h = absurd (omega arith)
end_inner end (p ∷ (q ∷ ps)) zero d h = refl
end_inner end (p ∷ (q ∷ ps)) (suc k) d h = end_inner end (q ∷ ps) k d (omega arith)

pub end_is_next : (end : ℕ) (ps : List Place) (k : ℕ) (d : Place) → k + 1 < length ps → (get_or ps (k + 1) d).name ≡ end_at end ps k
end_is_next end ps k d h = rw add-one (sym (end_inner end ps k d (rw add-one at h)))

pub end_is_last : (end : ℕ) (ps : List Place) (k : ℕ) → length ps ≤ k + 1 → end ≡ end_at end ps k
end_is_last end [] k h = refl
end_is_last end (p ∷ []) k h = refl
end_is_last end (p ∷ (q ∷ ps)) zero h = absurd (omega arith)
end_is_last end (p ∷ (q ∷ ps)) (suc k) h = end_is_last end (q ∷ ps) k (omega arith)

-- ## Room

abbrev kept_in : List ℕ → List Place → ℕ → ℕ → ℕ → Bool → KeptLogs
kept_in text ps n pairs room told = record { logs = logs_in text ps; used = n; pairs = pairs; room = room; told = told }

pub room_for_log : (text : List ℕ) (ps : List Place) (n pairs room : ℕ) (told : Bool) (name : List ℕ) (k : ℕ) (b : Bool) → k ≡ length ps → b ≡ nat_le (n + length name) room
    → (told && nat_lt k pairs && b) ≡ has_room_for_log (kept_in text ps n pairs room told) name
room_for_log text ps n pairs room told name k b k_is b_is = rw (k_is, b_is, length_logs text ps) refl

test_true : (a b c : Bool) → (a && b && c) ≡ true → (b ≡ true) × (c ≡ true)
test_true true true true e = (refl, refl)
test_true true true false e = absurd (true≢false (sym e))
test_true true false c e = absurd (true≢false (sym e))
test_true false b c e = absurd (true≢false (sym e))

pub has_place : (text : List ℕ) (ps : List Place) (n pairs room : ℕ) (told : Bool) (name : List ℕ) → has_room_for_log (kept_in text ps n pairs room told) name ≡ true → (length ps < pairs) × (n + length name ≤ room)
has_place text ps n pairs room told name e =
    let t = test_true told (nat_lt (length (logs_in text ps)) pairs) (nat_le (n + length name) room) e in
    let k : length (logs_in text ps) < pairs = ltb-true _ _ t.0 in
    (rw (length_logs text ps) at k, leb-true _ _ t.1)

two_true : (a b : Bool) → (a && b) ≡ true → b ≡ true
two_true true b e = e
two_true false b e = absurd (true≢false (sym e))

pub has_bytes : (text : List ℕ) (ps : List Place) (n pairs room : ℕ) (told : Bool) (piece : List ℕ) → has_room_for_piece (kept_in text ps n pairs room told) piece ≡ true → n + length piece ≤ room
has_bytes text ps n pairs room told piece e = leb-true _ _ (two_true told (nat_le (n + length piece) room) e)

pub begun_kept : (text new name : List ℕ) (ps places : List Place) (n m here pairs room : ℕ) (told : Bool) → new ≡ text ++ name → places ≡ ps ++ record { name = here; bytes = here + length name } ∷ []
    → here ≡ n → n ≡ length text → m ≡ n + length name → AreInOrder n ps → has_room_for_log (kept_in text ps n pairs room told) name ≡ true
    → kept_in new places m pairs room told ≡ kept_begun name (kept_in text ps n pairs room told)
begun_kept text new name ps places n m here pairs room told new_is places_is here_is n_is m_is order e =
    let logs : logs_in new places ≡ begun_with name (logs_in text ps) = rw (new_is, places_is, here_is, n_is) (logs_begun text name ps (rw n_is at order)) in
    rw (e, logs, m_is) refl

pub heard_kept : (text new piece : List ℕ) (ps : List Place) (n m pairs room : ℕ) (told : Bool) → new ≡ text ++ piece
    → n ≡ length text → m ≡ n + length piece → AreInOrder n ps → has_room_for_piece (kept_in text ps n pairs room told) piece ≡ true
    → kept_in new ps m pairs room told ≡ kept_heard piece (kept_in text ps n pairs room told)
heard_kept text new piece ps n m pairs room told new_is n_is m_is order e =
    let logs : logs_in new ps ≡ heard_with piece (logs_in text ps) = rw new_is (logs_heard text piece ps (rw n_is at order)) in
    rw (e, logs, m_is) refl
