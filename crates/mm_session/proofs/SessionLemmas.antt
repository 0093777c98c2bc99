-- A session goes on as the machine does.
use Rattle.std.proofs.Common.{◌≡◌, ◌≢◌, ◌==◌, ◌||◌, ◌+◌, ◌<◌, ◌≤◌, ℕ, zero, suc, Bool, true, false, IsTrue, List, [], ◌++◌, refl, sym, ◌∙◌, ap, subst, arith, slice_index_or, ◌⊎◌, Option, Some, None, inl, inr, if◌then◌else◌}
use Rattle.std.proofs.lemmas.Bool.{cases_lt}
use Rattle.std.proofs.lemmas.Bool.Decides.{nat_tests}
use Rattle.mm_base.specs.declared.files.Files.{Ghosts as FilesOf}
use Rattle.mm_base.specs.Files.{Map, put}
use Rattle.mm_base.specs.Outside.{CountsFaults}
use Rattle.mm_shell.specs.declared.state.State.{State}
use Rattle.mm_step.specs.declared.reply.Reply.{Reply}
use Rattle.mm_step.specs.declared.reply.Reply.TheVariants as reply
use Rattle.mm_session.specs.declared.run.Run.{Run}
use Rattle.mm_step.specs.Effects.{Effect, Outcome, Fine, Starved, Faulted, Meets, outcome, ended, is_faulted, is_refused, text_of, with_puts, add_put}
use Rattle.mm_step.specs.Asked.{Asked, asked_of}
use Rattle.mm_step.specs.Effects.{asked_effect, step_of}
use Rattle.mm_step.specs.Logs.{log_change}
use Rattle.mm_session.specs.Logs.{Event, said, said_in, said_by}
use Rattle.mm_session.specs.Session.{Script, Machine, Turn, Maps, session, turn, turn_in, after, outcome_of, effect_of, calls_of, starved_calls_of, done, prompt, echo}
use Rattle.mm_session.specs.Course.{Follows, script, script_of}
use Rattle.mm_step.specs.Calls.{Fails, one_more}
use Rattle.mm_step.proofs.LawLemmas.{ends_silently}
use Rattle.mm_shell.specs.Sound.{IsSound}
use Rattle.mm_session.proofs.SoundLemmas.{session_is_sound}
use Rattle.mm_session.specs.Calls.{HasCause, FaultsExactly, CallsRise, Counted, count_of}
use Rattle.mm_step.specs.Ran.{HasRun}
use Rattle.mm_session.specs.Advance.{IsLine, GoesOn, RunsOn}
use Rattle.mm_session.proofs.CourseLemmas.{starved_after, faulted_after, outcome_now, outcome_before, rise_starved, rise_faulted, apart_after, rose_after, held_after, not_starved, was_none}

pub session_suc : (s : Script) (n : ℕ) → session s (suc n) ≡ after (turn s n)
unfolding session
session_suc s n = refl

turn_same : (m m' : Machine) (s s' : Script) (n : ℕ) → m' ≡ m → s'.commands ≡ s.commands → s'.maps n ≡ s.maps n → outcome_of s'.starved s'.faulted (suc n) ≡ outcome_of s.starved s.faulted (suc n) → turn_in m' s' n ≡ turn_in m s n
turn_same m m' s s' n e c f o = λ i. record { machine = e i; map = f i (e i).puts; line = slice_index_or (c i) n []; outcome = o i }

-- the first commands of two scripts that agree on them
pub session_same : (s s' : Script) (n : ℕ) → s'.commands ≡ s.commands → ((k : ℕ) → k ≤ n → outcome_of s'.starved s'.faulted k ≡ outcome_of s.starved s.faulted k) → ((k : ℕ) → k < n → s'.maps k ≡ s.maps k) → session s' n ≡ session s n
unfolding session
session_same s s' zero c h g = refl
session_same s s' (suc n) c h g =
    ap after (turn_same (session s n) (session s' n) s s' n (session_same s s' n c (λ k le. h k (omega arith)) (λ k lt. g k (omega arith))) c (g n (omega arith)) (h (suc n) (omega arith)))

-- and what they say
pub said_same : (s s' : Script) (n : ℕ) → s'.commands ≡ s.commands → ((k : ℕ) → k ≤ n → outcome_of s'.starved s'.faulted k ≡ outcome_of s.starved s.faulted k) → ((k : ℕ) → k < n → s'.maps k ≡ s.maps k) → said s' n ≡ said s n
unfolding said
said_same s s' zero c h g = refl
said_same s s' (suc n) c h g =
    let before = session_same s s' n c (λ k le. h k (omega arith)) (λ k lt. g k (omega arith)) in
    ap (λ (es : List Event). es ++ said_in (turn s' n)) (said_same s s' n c (λ k le. h k (omega arith)) (λ k lt. g k (omega arith)))
    ∙ ap (λ (t : Turn). said s n ++ said_in t) (turn_same (session s n) (session s' n) s s' n before c (g n (omega arith)) (h (suc n) (omega arith)))

-- the maps with this one at command n, unless they are known to have it
abbrev pub next_maps : Bool → Maps → ℕ → Map → Maps
next_maps true maps n map k puts = maps k puts
next_maps false maps n map k puts = if k == n then map else maps k puts

next_told : (b : Bool) (maps : Maps) (n : ℕ) (map : Map) → IsTrue b → next_maps b maps n map ≡ maps
next_told true maps n map t = refl
next_told false maps n map t = let no : false ≡ true = t in cc

next_before : (b : Bool) (maps : Maps) (n k : ℕ) (map : Map) → k < n → next_maps b maps n map k ≡ maps k
next_before true maps n k map lt = refl
next_before false maps n k map lt = let no : (k == n) ≡ false = grind (arith, nat_tests) in λ i puts. (ap (λ (b : Bool). if b then map else maps k puts) no) i

next_at : (b : Bool) (maps : Maps) (n : ℕ) (map : Map) (puts : List (List ℕ × List ℕ)) → (IsTrue b → map ≡ maps n puts) → next_maps b maps n map n puts ≡ map
next_at true maps n map puts h = sym (h refl)
next_at false maps n map puts h = let yes : (n == n) ≡ true = grind (arith, nat_tests) in rw yes refl

put_more : (map begun : Map) (puts : List (List ℕ × List ℕ)) (p : Option (List ℕ × List ℕ)) → map ≡ with_puts begun puts → with_puts map (add_put p []) ≡ with_puts begun (add_put p puts)
put_more map begun puts None e = e
put_more map begun puts (Some p) e = ap (λ (m : Map). put m p.0 p.1) e

-- the machine, in the words of the run
abbrev machine_by : Machine → State → Bool → Machine
machine_by m state refused = record { state = state; puts = m.puts; text = m.text; refused = refused; calls = m.calls; starved_calls = m.starved_calls }

machine_is : (m : Machine) (state : State) (refused : Bool) → state ≡ m.state → refused ≡ m.refused → m ≡ machine_by m state refused
machine_is m state refused s r = λ i. record { state = sym s i; puts = m.puts; text = m.text; refused = sym r i; calls = m.calls; starved_calls = m.starved_calls }

turn_is : (m m' : Machine) (map map' : Map) (line line' : List ℕ) (o o' : Outcome) → m ≡ m' → map ≡ map' → line ≡ line' → o ≡ o' →
    (let t : Turn = record { machine = m; map = map; line = line; outcome = o } in t) ≡ (let t : Turn = record { machine = m'; map = map'; line = line'; outcome = o' } in t)
turn_is m m' map map' line line' o o' e f g h = λ i. record { machine = e i; map = f i; line = g i; outcome = h i }

ended_reaches : (o : Outcome) (s : State) (e : Effect) → (ended o s e).reaches_files ≡ e.reaches_files
ended_reaches Fine s e = refl
ended_reaches Starved s e = refl
ended_reaches Faulted s e = refl

add_call : (o : Outcome) → o ≢ Starved → (b : Bool) (c c' s m : ℕ) → count_of c ≡ count_of (s + m) → (b ≡ false → c' ≡ c) → (b ≡ true → c' ≡ one_more c) → count_of c' ≡ count_of (s + (m + calls_of o b))
add_call Starved fine b c c' s m e if_not if_so = absurd (fine refl)
add_call Fine fine true c c' s m e if_not if_so = let x : c' ≡ one_more c = if_so refl in omega arith
add_call Fine fine false c c' s m e if_not if_so = let x : c' ≡ c = if_not refl in omega arith
add_call Faulted fine true c c' s m e if_not if_so = let x : c' ≡ one_more c = if_so refl in omega arith
add_call Faulted fine false c c' s m e if_not if_so = let x : c' ≡ c = if_not refl in omega arith

-- the least and the most calls, once a command has ended so and made its own
add_least : (o : Outcome) (b : Bool) (c c' s m : ℕ) → count_of (s + m) ≤ count_of c → (b ≡ false → c' ≡ c) → (o ≢ Starved → b ≡ true → c' ≡ one_more c) → (c' ≡ c) ⊎ (c' ≡ one_more c) → count_of (s + (m + calls_of o b)) ≤ count_of c'
add_least Starved b c c' s m le if_not if_so (inl e) = omega (arith, le, e)
add_least Starved b c c' s m le if_not if_so (inr e) = omega (arith, le, e)
add_least Fine true c c' s m le if_not if_so most = let x : c' ≡ one_more c = if_so (λ y. cc) refl in omega (arith, le, x)
add_least Fine false c c' s m le if_not if_so most = let x : c' ≡ c = if_not refl in omega (arith, le, x)
add_least Faulted true c c' s m le if_not if_so most = let x : c' ≡ one_more c = if_so (λ y. cc) refl in omega (arith, le, x)
add_least Faulted false c c' s m le if_not if_so most = let x : c' ≡ c = if_not refl in omega (arith, le, x)

add_most : (o : Outcome) (b : Bool) (c c' s m k : ℕ) → count_of c ≤ count_of (s + (m + k)) → (b ≡ false → c' ≡ c) → (c' ≡ c) ⊎ (c' ≡ one_more c) → count_of c' ≤ count_of (s + ((m + calls_of o b) + (k + starved_calls_of o b)))
add_most o false c c' s m k le if_not most = let x : c' ≡ c = if_not refl in none o x
  where
    none : (o : Outcome) → c' ≡ c → count_of c' ≤ count_of (s + ((m + calls_of o false) + (k + starved_calls_of o false)))
    none Starved x = omega (arith, le, x)
    none Fine x = omega (arith, le, x)
    none Faulted x = omega (arith, le, x)
add_most Starved true c c' s m k le if_not (inl e) = omega (arith, le, e)
add_most Starved true c c' s m k le if_not (inr e) = omega (arith, le, e)
add_most Fine true c c' s m k le if_not (inl e) = omega (arith, le, e)
add_most Fine true c c' s m k le if_not (inr e) = omega (arith, le, e)
add_most Faulted true c c' s m k le if_not (inl e) = omega (arith, le, e)
add_most Faulted true c c' s m k le if_not (inr e) = omega (arith, le, e)

-- where the session has ended by a command, it ended as it should and has no text
ends_fine : (state state' : State) (map : Map) (line : List ℕ) (r : Reply) → IsSound state → state.ended ≡ false → Meets (step_of state map line) state r state' → state'.ended ≡ true → (outcome r ≡ Fine) × (text_of r ≡ [])
unfolding step_of
ends_fine state state' map line (reply.Done text refused) sound on m off = (refl, m.text ∙ ends_silently (asked_of line) state map sound on (ap (λ (s : State). s.ended) (sym m.state) ∙ off))
ends_fine state state' map line reply.Starved sound on m off = let no : true ≡ false = sym off ∙ (ap (λ (s : State). s.ended) m.state ∙ on) in absurd (cc)
ends_fine state state' map line reply.Faulted sound on m off = let no : true ≡ false = sym off ∙ (ap (λ (s : State). s.ended) m.state ∙ on) in absurd (cc)

fails_at : (xs : List ℕ) (a b : ℕ) → count_of a ≡ b → Fails xs a → Fails xs b
fails_at xs a b e f = let lt : a < 18446744073709551615 = f.0 in let is : a ≡ b = omega arith in subst (λ (n : ℕ). Fails xs n) is f

fails_back : (xs : List ℕ) (a b : ℕ) → count_of a ≡ b → Fails xs b → Fails xs a
fails_back xs a b e f = let lt : b < 18446744073709551615 = f.0 in let is : b ≡ a = omega arith in subst (λ (n : ℕ). Fails xs n) is f

-- A command is run after n others.
record IsNext {F : Type 0} (fs : FilesOf F) (s : Script) (begun : F) (n : ℕ) (state : State) (refused : Bool) (before : F) (line : List ℕ) (r : Reply) (state' : State) (refused' : Bool) (now : F) : Type 0 where
  pub follows : Follows fs s begun n state refused before
  pub at : slice_index_or s.commands n [] ≡ line
  pub open_still : state.ended ≡ false
  pub told : IsTrue (fs.tells now) → IsTrue (fs.tells before)
  pub has_run : HasRun fs (λ map. step_of state map line) state before r state' now
  pub counts : CountsFaults (is_faulted r) (fs.faults before) (fs.faults now)
  pub refused_is : refused' ≡ (refused || is_refused r)

module _ {F : Type 0} (fs : FilesOf F) (s : Script) (begun : F) (n : ℕ) (state : State) (refused : Bool) (before : F) (line : List ℕ) (r : Reply) (state' : State) (refused' : Bool) (now : F) (t : IsNext fs s begun n state refused before line r state' refused' now) where
  -- the script with the command that was run
  abbrev next : Script
  next = record {
    commands = s.commands;
    maps = next_maps (fs.tells now) s.maps n t.has_run.map;
    starved = starved_after (outcome r) s.starved (suc n);
    faulted = faulted_after (outcome r) s.faulted (suc n);
  }

  abbrev it : Turn
  it = record { machine = machine_by (session s n) state refused; map = t.has_run.map; line = line; outcome = outcome r }

  session_before : (k : ℕ) → k ≤ n → session next k ≡ session s k
  session_before k le = session_same s next k refl
      (λ j at. outcome_before (outcome r) s.starved s.faulted n j (omega arith)) (λ j lt. next_before (fs.tells now) s.maps n j t.has_run.map (omega arith))

  turn_before : (k : ℕ) → k < n → turn next k ≡ turn s k
  turn_before k lt = turn_same (session s k) (session next k) s next k (session_before k (omega arith)) refl
      (next_before (fs.tells now) s.maps n k t.has_run.map lt) (outcome_before (outcome r) s.starved s.faulted n (suc k) (omega arith))

  met : (m : Machine) → m ≡ session s n → next.maps n m.puts ≡ t.has_run.map
  met m e = next_at (fs.tells now) s.maps n t.has_run.map m.puts
      (λ u. t.has_run.same u ∙ (t.follows.map (t.told u) ∙ (ap (λ (x : Machine). with_puts (fs.lookup begun) x.puts) (sym e) ∙ sym (ap (λ (ms : Maps). ms n m.puts) (t.follows.same (t.told u))))))

  turn_now : turn next n ≡ it
  turn_now = let was : session next n ≡ session s n = session_before n (omega arith) in
      turn_is (session next n) (machine_by (session s n) state refused) (next.maps n (session next n).puts) t.has_run.map (slice_index_or s.commands n []) line (outcome_of next.starved next.faulted (suc n)) (outcome r)
      (was ∙ machine_is (session s n) state refused t.follows.state_is t.follows.refused_is)
      (met (session next n) was)
      t.at
      (outcome_now (outcome r) s.starved s.faulted n t.follows.starved t.follows.faulted)

  -- what holds of each command so far, and of this one, holds of each
  each_turn : (P : Turn → Type 0) → ((k : ℕ) → k < n → P (turn s k)) → P it → (k : ℕ) → k < suc n → P (turn next k)
  each_turn P old new k lt = elim (cases_lt k n) [
    | inl earlier ↦ subst P (sym (turn_before k earlier)) (old k earlier)
    | inr late ↦ (let is : n ≡ k = omega arith in subst (λ (j : ℕ). P (turn next j)) is (subst P (sym turn_now) new))
  ]

  goes : session next (suc n) ≡ after it
  goes = session_suc next n ∙ ap after turn_now

  said_before : said next n ≡ said s n
  said_before = said_same s next n refl
      (λ j at. outcome_before (outcome r) s.starved s.faulted n j (omega arith)) (λ j lt. next_before (fs.tells now) s.maps n j t.has_run.map (omega arith))

  goes_said : said next (suc n) ≡ said s n ++ said_by state line (log_change (is_refused r) (asked_of line)) (text_of r)
  unfolding said
  goes_said =
      let text = (done it).text in
      ap (λ (es : List Event). es ++ said_in (turn next n)) said_before
      ∙ (ap (λ (x : Turn). said s n ++ said_in x) turn_now
      ∙ (ap (λ (b : Bool). said s n ++ said_by state line (log_change b (asked_of line)) text) (sym t.has_run.meets.refused)
      ∙ ap (λ (x : List ℕ). said s n ++ said_by state line (log_change (is_refused r) (asked_of line)) x) (sym t.has_run.meets.text)))

  follows_on : Follows fs next begun (suc n) state' refused' now
  follows_on =
      let o = outcome r in
      let put = (ended o state (effect_of it)).put in
      let meets = t.has_run.meets in
      record {
        told = λ u. t.follows.told (t.told u);
        same = λ u. next_told (fs.tells now) s.maps n t.has_run.map u ∙ t.follows.same (t.told u);
        state_is = meets.state ∙ sym (ap (λ (m : Machine). m.state) goes);
        map = λ u. t.has_run.files u ∙ (put_more (fs.lookup before) (fs.lookup begun) (session s n).puts put (t.follows.map (t.told u))
            ∙ sym (ap (λ (m : Machine). with_puts (fs.lookup begun) m.puts) goes));
        refused_is = t.refused_is ∙ (ap (λ (b : Bool). refused || b) meets.refused ∙ sym (ap (λ (m : Machine). m.refused) goes));
        starved = rise_starved o s.starved n t.follows.starved;
        faulted = rise_faulted o s.faulted n t.follows.faulted;
        apart = apart_after o s.starved s.faulted n t.follows.starved t.follows.faulted t.follows.apart;
        rose = rose_after r s.faulted (suc n) (fs.faults begun) (fs.faults before) (fs.faults now) t.follows.rose t.counts;
        held = held_after r s.faulted (suc n) (fs.faults begun) (fs.faults before) (fs.faults now) t.follows.held t.counts;
        causes = each_turn HasCause t.follows.causes (record { goes_on = t.open_still; memory = meets.starved; files = meets.faulted });
      }

  faults_now : (IsTrue (fs.tells_failing now)) → outcome r ≢ Starved → fs.failing before ≡ fs.failing begun → count_of (fs.calls before) ≡ count_of (fs.calls begun + (session s n).calls) → FaultsExactly fs begun it
  faults_now u fine failing number =
      let calls = t.has_run.number in
      let known = count_of (fs.calls begun + (session s n).calls) in (
        λ y. record {
          reaches = t.has_run.meets.faulted y;
          fails = subst (λ (xs : List ℕ). Fails xs known) failing (fails_at (fs.failing before) (fs.calls before) known number (calls.fails u y));
        },
        λ cf. calls.faulted u fine cf.reaches
            (fails_back (fs.failing before) (fs.calls before) known number (subst (λ (xs : List ℕ). Fails xs known) (sym failing) cf.fails)),
      )

  -- the calls of the machine with the command
  calls_now : (session next (suc n)).calls ≡ (session s n).calls + calls_of (outcome r) (effect_of it).reaches_files
  calls_now = ap (λ (m : Machine). m.calls) goes ∙ ap (λ (b : Bool). (session s n).calls + calls_of (outcome r) b) (ended_reaches (outcome r) state (effect_of it))

  starved_calls_now : (session next (suc n)).starved_calls ≡ (session s n).starved_calls + starved_calls_of (outcome r) (effect_of it).reaches_files
  starved_calls_now = ap (λ (m : Machine). m.starved_calls) goes ∙ ap (λ (b : Bool). (session s n).starved_calls + starved_calls_of (outcome r) b) (ended_reaches (outcome r) state (effect_of it))

  rise_on : IsTrue (fs.tells_failing now) → CallsRise fs begun before (session s n) → CallsRise fs begun now (session next (suc n))
  rise_on u old =
      let calls = t.has_run.number in
      let reaches = (effect_of it).reaches_files in
      let known = (session s n).calls in
      let starved = (session s n).starved_calls in
      record {
        least = subst (λ (c : ℕ). count_of (fs.calls begun + c) ≤ count_of (fs.calls now)) (sym calls_now)
            (add_least (outcome r) reaches (fs.calls before) (fs.calls now) (fs.calls begun) known old.least (λ no. calls.none u no) (λ fine yes. calls.one u fine yes) (calls.most u));
        most = subst (λ (c : ℕ). count_of (fs.calls now) ≤ count_of (fs.calls begun + (c + (session next (suc n)).starved_calls))) (sym calls_now)
            (subst (λ (k : ℕ). count_of (fs.calls now) ≤ count_of (fs.calls begun + ((known + calls_of (outcome r) reaches) + k))) (sym starved_calls_now)
            (add_most (outcome r) reaches (fs.calls before) (fs.calls now) (fs.calls begun) known starved old.most (λ no. calls.none u no) (calls.most u)));
      }

  counted_on : Counted fs s begun n before → Counted fs next begun (suc n) now
  counted_on k =
      let calls = t.has_run.number in
      let reaches = (effect_of it).reaches_files in
      let known = (session s n).calls in
      record {
        told = λ u. k.told (calls.told u);
        same = λ u. calls.same u ∙ k.same (calls.told u);
        rise = λ u. rise_on u (k.rise (calls.told u));
        calls = λ u none.
            let fine : outcome r ≢ Starved = not_starved (outcome r) s.starved (suc n) none in
            let was = k.calls (calls.told u) (was_none (outcome r) s.starved (suc n) none) in
            add_call (outcome r) fine reaches (fs.calls before) (fs.calls now) (fs.calls begun) known was (λ no. calls.none u no) (λ yes. calls.one u fine yes)
            ∙ ap (λ (c : ℕ). count_of (fs.calls begun + c)) (sym calls_now);
        exactly = λ u none.
            let before_none = was_none (outcome r) s.starved (suc n) none in
            each_turn (FaultsExactly fs begun) (k.exactly (calls.told u) before_none)
            (faults_now u (not_starved (outcome r) s.starved (suc n) none) (k.same (calls.told u)) (k.calls (calls.told u) before_none));
      }

  goes_on : GoesOn fs begun n line r s state before next state' refused' now
  goes_on = record {
    follows = follows_on;
    earlier = session_before n (omega arith);
    said_earlier = said_before;
    said_is = goes_said;
    text = ap (λ (m : Machine). m.text) goes ∙ ap (λ (x : List ℕ). (session s n).text ++ ((prompt state ++ echo line) ++ x)) (sym t.has_run.meets.text);
    counted = counted_on;
    ends = ends_fine state state' t.has_run.map line r (subst IsSound (sym t.follows.state_is) (session_is_sound s n)) t.open_still t.has_run.meets;
  }

  -- the same, where the lists are named otherwise
  goes_on_as : (S F : List ℕ) → S ≡ starved_after (outcome r) s.starved (suc n) → F ≡ faulted_after (outcome r) s.faulted (suc n) →
      GoesOn fs begun n line r s state before (script s.commands next.maps S F) state' refused' now
  goes_on_as S F e f =
      subst (λ (xs : List ℕ). GoesOn fs begun n line r s state before (script s.commands next.maps xs F) state' refused' now) (sym e)
      (subst (λ (xs : List ℕ). GoesOn fs begun n line r s state before (script s.commands next.maps next.starved xs) state' refused' now) (sym f) goes_on)

module _ {F : Type 0} (fs : FilesOf F) where
  -- a run goes on by a command that was run
  pub runs_on : (commands : List (List ℕ)) (maps : Maps) (begun : F) (old : Run) (before : F) (line : List ℕ) (r : Reply) (state : State) (refused : Bool) (now : F) (starved faulted : List ℕ) →
      Follows fs (script_of commands maps old) begun old.lines old.state old.refused before → slice_index_or commands old.lines [] ≡ line → old.state.ended ≡ false →
      (IsTrue (fs.tells now) → IsTrue (fs.tells before)) → HasRun fs (λ map. step_of old.state map line) old.state before r state now → CountsFaults (is_faulted r) (fs.faults before) (fs.faults now) →
      refused ≡ (old.refused || is_refused r) → starved ≡ starved_after (outcome r) old.starved.items (old.lines + 1) → faulted ≡ faulted_after (outcome r) old.faulted.items (old.lines + 1) →
      RunsOn fs commands maps begun old before line r starved faulted state refused now
  runs_on commands maps begun old before line r state refused now starved faulted follows at open_still told has_run counts e s f =
      let t : IsNext fs (script_of commands maps old) begun old.lines old.state old.refused before line r state refused now = record { follows = follows; at = at; open_still = open_still; told = told; has_run = has_run; counts = counts; refused_is = e } in
      let one : old.lines + 1 ≡ suc old.lines = omega arith in
      record {
        maps' = next_maps (fs.tells now) maps old.lines has_run.map;
        goes = goes_on_as fs (script_of commands maps old) begun old.lines old.state old.refused before line r state refused now t starved faulted
            (s ∙ ap (starved_after (outcome r) old.starved.items) one) (f ∙ ap (faulted_after (outcome r) old.faulted.items) one);
      }

-- what is handed on of a line does what the whole line does
pub line_runs : {F : Type 0} (fs : FilesOf F) (s : State) (line whole : List ℕ) (before : F) (r : Reply) (s' : State) (now : F) → IsLine line whole →
    HasRun fs (λ map. step_of s map line) s before r s' now → HasRun fs (λ map. step_of s map whole) s before r s' now
unfolding step_of
line_runs fs s line whole before r s' now is has_run =
    subst (λ (a : Asked). HasRun fs (λ map. asked_effect a s map) s before r s' now) is.asks has_run
