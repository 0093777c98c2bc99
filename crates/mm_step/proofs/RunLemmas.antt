-- That a line has had its effect.
use Rattle.std.proofs.Common.{◌≡◌, ◌≢◌, not, ℕ, Bool, true, false, IsTrue, List, [], Option, Some, None, Result, Ok, Err, refl, sym, ◌∙◌, ap, subst, inl, inr}
use Rattle.std.proofs.lemmas.Bool.{cases_lt}
use Rattle.mm_base.specs.Files.{Map, Numbers, KeepsMap, Puts as PutsIn, put_on_ok, has_failed}
use Rattle.mm_base.specs.declared.fault.FilesFault.{FilesFault}
use Rattle.mm_base.specs.declared.fault.FilesFault.TheVariants as files_fault
use Rattle.mm_base.specs.declared.files.Files.{Ghosts as FilesOf}
use Rattle.mm_shell.specs.Actions.{Does, Fetches, Puts, Plan, plan_takes, reaches, without_files}
use Rattle.mm_shell.specs.Answers.{Answer, Gives, takes, refusal_takes}
use Rattle.mm_shell.specs.Changes.{apply_change}
use Rattle.mm_shell.specs.Texts.{report_text}
use Rattle.mm_shell.specs.declared.answer.Change.{Change}
use Rattle.mm_shell.specs.declared.answer.Done.{Done}
use Rattle.mm_shell.specs.declared.refusal.Refusal.{Refusal}
use Rattle.mm_shell.specs.declared.refusal.Refusal.TheVariants as refusal
use Rattle.mm_shell.specs.declared.state.State.{State}
use Rattle.mm_command.specs.Meanings.{Meaning}
use Rattle.mm_database_commands.specs.Commands.{Plans, action_of}
use Rattle.mm_database_commands.specs.declared.call.Call.{Call}
use Rattle.mm_step.specs.Asked.{Asked, asked_of}
use Rattle.mm_step.specs.Calls.{Calls}
use Rattle.mm_step.specs.Groups.{group_of}
use Rattle.mm_step.specs.declared.group.Group.{Group}
use Rattle.mm_step.proofs.ReplyLemmas.{refused_replies}
use Rattle.mm_step.specs.Effects.{Effect, Fine, Starved, Faulted, Outcome, Meets, effect_by, effect_in, plan_in, plan_of, command_plan, step_of, ended, outcome, is_faulted, with_puts, add_put}
use Rattle.mm_step.specs.Ran.{HasRun, Told, reply_in, state_in, Performs, Refuses, Replies, Tells}
use Rattle.mm_step.specs.declared.reply.Reply.{Reply}
use Rattle.mm_step.specs.declared.reply.Reply.TheVariants as reply

not_true : (b : Bool) → b ≡ true → not b ≡ false
not_true true e = refl
not_true false e = let no : false ≡ true = e in cc

-- a reply to an answer, whatever else the line does; it may starve where the line takes memory
meets_reply : (a : Answer) (s : State) (puts : Option (List ℕ × List ℕ)) (reaches takes_some : Bool) (r : Reply) (s' : State) → (takes a ≡ true → takes_some ≡ true) → Replies a s r s' → Meets (effect_by a s puts reaches takes_some) s r s'
meets_reply a s puts reaches t (reply.Done text refused) s' more h = record { text = h.0; refused = h.1; state = h.2; faulted = λ y. cc; starved = λ y. cc }
meets_reply a s puts reaches t reply.Starved s' more h = record { text = refl; refused = refl; state = h.0; faulted = λ y. cc; starved = λ y. not_true t (more h.1) }
meets_reply a s puts reaches t reply.Faulted s' more h = absurd h

-- a line that starves, or that a file fault meets
meets_starved : (a : Answer) (s : State) (puts : Option (List ℕ × List ℕ)) (reaches : Bool) → Meets (effect_by a s puts reaches true) s reply.Starved s
meets_starved a s puts reaches = record { text = refl; refused = refl; state = refl; faulted = λ y. cc; starved = λ y. refl }

meets_faulted : (a : Answer) (s : State) (puts : Option (List ℕ × List ℕ)) (t : Bool) → Meets (effect_by a s puts true t) s reply.Faulted s
meets_faulted a s puts t = record { text = refl; refused = refl; state = refl; faulted = λ y. refl; starved = λ y. cc }

-- the map that a fetch met: the files' own where it is told, and else any with what was found
abbrev met : Bool → Map → Option (List ℕ) → Map
met true map file asked = map asked
met false map file asked = file

met_told : (b : Bool) (map : Map) (file : Option (List ℕ)) → IsTrue b → met b map file ≡ map
met_told true map file t = refl
met_told false map file t = let no : false ≡ true = t in cc

met_at : (b : Bool) (map : Map) (file : Option (List ℕ)) (name : List ℕ) → (IsTrue b → file ≡ map name) → met b map file name ≡ file
met_at true map file name h = sym (h refl)
met_at false map file name h = refl

no_put : (o : Outcome) (s : State) (e : Effect) → e.put ≡ None → (ended o s e).put ≡ None
no_put Fine s e h = h
no_put Starved s e h = refl
no_put Faulted s e h = refl

outcome_is : (r : Reply) → is_faulted r ≡ true → outcome r ≡ Faulted
outcome_is (reply.Done text refused) e = let no : false ≡ true = e in cc
outcome_is reply.Starved e = let no : false ≡ true = e in cc
outcome_is reply.Faulted e = refl

outcome_was : (r : Reply) → outcome r ≡ Faulted → is_faulted r ≡ true
outcome_was (reply.Done text refused) e = cc
outcome_was reply.Starved e = cc
outcome_was reply.Faulted e = refl

reply_fine : (a : Answer) (s s' : State) (r : Reply) → Replies a s r s' → outcome r ≢ Faulted
reply_fine a s s' (reply.Done text refused) h y = cc
reply_fine a s s' reply.Starved h y = cc
reply_fine a s s' reply.Faulted h y = h

-- what was found is told of, or refused
pub found_told : (a : Answer) (s : State) (done : Done) (told : Told) → Gives a (Ok done) → Tells (Ok done) told → Meets (effect_by a s None true true) s (reply_in told) (state_in told s)
found_told a s done told is h = subst (λ (x : Answer). Meets (effect_by x s None true true) s (reply_in told) (state_in told s)) is (meets_reply (Ok done) s None true true (reply_in told) (state_in told s) (λ t. refl) (h s))

pub found_refused : (a : Answer) (s : State) (r : Refusal) (told : Reply) → Gives a (Err r) → Refuses r told → Meets (effect_by a s None true true) s told s
found_refused a s refusal.OutOfMemory told is h = rw h (meets_starved a s None true)
found_refused a s r told is h = subst (λ (x : Answer). Meets (effect_by x s None true true) s told s) is (meets_reply (Err r) s None true true told s (λ t. refl) (refused_replies r told (λ e. cc) h s))

module _ {F : Type 0} (fs : FilesOf F) where
  -- one call was made, and the reply tells whether it failed
  calls_once : (old new : F) (failed : Bool) (r : Reply) → Numbers fs.tells_failing fs.calls fs.failing old new failed → is_faulted r ≡ failed → Calls fs old new true r
  calls_once old new failed r n e = record {
    told = n.told;
    same = n.same;
    none = λ t no. let x : true ≡ false = no in cc;
    most = λ t. inr (n.counted t);
    one = λ t fine yes. n.counted t;
    fails = λ t y. let yes = outcome_was r y in elim (cases_lt (fs.calls old) 18446744073709551615) [
      | inl lt ↦ (lt, (n.fails t lt).0 (sym e ∙ yes))
      | inr ge ↦ (let no : failed ≡ false = n.never_past t ge in let yes' : failed ≡ true = sym e ∙ yes in cc)
    ];
    faulted = λ t fine yes f. outcome_is r (e ∙ (n.fails t f.0).1 f.1);
  }

  -- none was made
  calls_none : (files : F) (r : Reply) → outcome r ≢ Faulted → Calls fs files files false r
  calls_none files r n = record {
    told = λ t. t;
    same = λ t. refl;
    none = λ t no. refl;
    most = λ t. inl refl;
    one = λ t fine yes. let x : false ≡ true = yes in cc;
    fails = λ t y. absurd (n y);
    faulted = λ t fine yes f. let x : false ≡ true = yes in cc;
  }

  -- a line that leaves the files alone
  pub runs_apart : (plan : Plan) (a : Answer) (s : State) (files : F) (r : Reply) (s' : State) → plan ≡ without_files a → Replies a s r s' → HasRun fs (effect_in plan s) s files r s' files
  runs_apart plan a s files r s' is h = subst (λ (p : Plan). HasRun fs (effect_in p s) s files r s' files) (sym is) (by a h) where
    by : (a : Answer) → Replies a s r s' → HasRun fs (effect_in (without_files a) s) s files r s' files
    by (Ok done) h = record {
      map = fs.lookup files;
      same = λ t. refl;
      meets = meets_reply (Ok done) s None false (takes (Ok done)) r s' (λ t. t) h;
      files = λ t. sym (ap (λ (p : Option (List ℕ × List ℕ)). with_puts (fs.lookup files) (add_put p [])) (no_put (outcome r) s (effect_by (Ok done) s None false (takes (Ok done))) refl));
      number = calls_none files r (reply_fine (Ok done) s s' r h);
    }
    by (Err refusal) h = record {
      map = fs.lookup files;
      same = λ t. refl;
      meets = meets_reply (Err refusal) s None false (refusal_takes refusal) r s' (λ t. t) h;
      files = λ t. sym (ap (λ (p : Option (List ℕ × List ℕ)). with_puts (fs.lookup files) (add_put p [])) (no_put (outcome r) s (effect_by (Err refusal) s None false (refusal_takes refusal)) refl));
      number = calls_none files r (reply_fine (Err refusal) s s' r h);
    }

  pub tells_apart : (done : Done) (told : Told) (files : F) → Tells (Ok done) told → Performs fs (Ok (Does done)) files told files
  tells_apart done told files h = λ s. runs_apart (Ok (Does done)) (Ok done) s files (reply_in told) (state_in told s) refl (h s)

  -- a line that fetches a file
  pub runs_fetch : (name : List ℕ) (answer : Option (List ℕ) → Answer) (s : State) (old new : F) (r : Reply) (s' : State) (failed : Bool) (file : Option (List ℕ)) → (IsTrue (fs.tells new) → file ≡ fs.lookup old name)
      → Meets (effect_by (answer file) s None true true) s r s' → KeepsMap fs.tells fs.lookup old new → Numbers fs.tells_failing fs.calls fs.failing old new failed → is_faulted r ≡ failed
      → HasRun fs (effect_in (Ok (Fetches name answer)) s) s old r s' new
  runs_fetch name answer s old new r s' failed file same meets kept numbers e =
      let map = met (fs.tells new) (fs.lookup old) file in record {
        map = map;
        same = λ t. met_told (fs.tells new) (fs.lookup old) file t;
        meets = subst (λ (f : Option (List ℕ)). Meets (effect_by (answer f) s None true true) s r s') (sym (met_at (fs.tells new) (fs.lookup old) file name same)) meets;
        files = λ t. kept.same t ∙ sym (ap (λ (p : Option (List ℕ × List ℕ)). with_puts (fs.lookup old) (add_put p [])) (no_put (outcome r) s (effect_by (answer (map name)) s None true true) refl));
        number = calls_once old new failed r numbers e;
      }

  pub fetch_faulted : (name : List ℕ) (answer : Option (List ℕ) → Answer) (s : State) (old new : F) → KeepsMap fs.tells fs.lookup old new → Numbers fs.tells_failing fs.calls fs.failing old new true
      → HasRun fs (effect_in (Ok (Fetches name answer)) s) s old reply.Faulted s new
  fetch_faulted name answer s old new kept numbers = runs_fetch name answer s old new reply.Faulted s true (fs.lookup old name) (λ t. refl) (meets_faulted (answer (fs.lookup old name)) s None true) kept numbers refl

  pub fetch_starved : (name : List ℕ) (answer : Option (List ℕ) → Answer) (s : State) (old new : F) → KeepsMap fs.tells fs.lookup old new → Numbers fs.tells_failing fs.calls fs.failing old new false
      → HasRun fs (effect_in (Ok (Fetches name answer)) s) s old reply.Starved s new
  fetch_starved name answer s old new kept numbers = runs_fetch name answer s old new reply.Starved s false (fs.lookup old name) (λ t. refl) (meets_starved (answer (fs.lookup old name)) s None true) kept numbers refl

  -- a line that puts bytes, after which the files have what it has put
  runs_put : (name bytes : List ℕ) (done : Done) (s : State) (old new : F) (result : Result Unit FilesFault) (r : Reply) (s' : State) → PutsIn fs.tells fs.lookup old new result name bytes
      → Numbers fs.tells_failing fs.calls fs.failing old new (has_failed result) → is_faulted r ≡ has_failed result → Meets (effect_by (Ok done) s (Some (name, bytes)) true true) s r s'
      → ((map : Map) → with_puts map (add_put (ended (outcome r) s (effect_by (Ok done) s (Some (name, bytes)) true true)).put []) ≡ put_on_ok result map name bytes)
      → HasRun fs (effect_in (Ok (Puts name bytes done)) s) s old r s' new
  runs_put name bytes done s old new result r s' puts numbers e meets same = record {
    map = fs.lookup old;
    same = λ t. refl;
    meets = meets;
    files = λ t. puts.after t ∙ sym (same (fs.lookup old));
    number = calls_once old new (has_failed result) r numbers e;
  }

  -- a line that starves without a call
  pub runs_starved : (plan : Plan) (s : State) (files : F) → plan_takes plan ≡ true → HasRun fs (effect_in plan s) s files reply.Starved s files
  runs_starved plan s files takes_some = record {
    map = fs.lookup files;
    same = λ t. refl;
    meets = record { text = refl; refused = refl; state = refl; faulted = λ y. cc; starved = λ y. not_true (plan_takes plan) takes_some };
    files = λ t. refl;
    number = record {
      told = λ t. t;
      same = λ t. refl;
      none = λ t no. refl;
      most = λ t. inl refl;
      one = λ t fine yes. absurd (fine refl);
      fails = λ t y. cc;
      faulted = λ t fine yes f. absurd (fine refl);
    };
  }

  -- a plan that is refused
  pub runs_refused : (plan : Plan) (r : Refusal) (told : Reply) (s : State) (files : F) → Plans plan (Err r) → Refuses r told → HasRun fs (effect_in plan s) s files told s files
  runs_refused plan refusal.OutOfMemory told s files is h = rw h (runs_starved plan s files is)
  runs_refused plan r told s files is h = runs_apart plan (Err r) s files told s (sym is) (refused_replies r told (λ e. cc) h s)

  -- a plan that is carried out
  pub runs_planned : (plan : Plan) (call : Call) (old new : F) (told : Told) → Plans plan (Ok call) → Performs fs (Ok (action_of call)) old told new → Performs fs plan old told new
  runs_planned plan call old new told is h = subst (λ (p : Plan). Performs fs p old told new) is h

  pub runs_changed : (plan : Plan) (s s' : State) (old new : F) (text : List ℕ) (change : Change) → HasRun fs (effect_in plan s) s old (reply.Done text false) (apply_change change s) new → s' ≡ apply_change change s
      → HasRun fs (effect_in plan s) s old (reply.Done text false) s' new
  runs_changed plan s s' old new text change h is = subst (λ (x : State). HasRun fs (effect_in plan s) s old (reply.Done text false) x new) (sym is) h

  -- a command of a group
  pub runs_group : (g : Group) (m : Meaning) (s : State) (old new : F) (r : Reply) (s' : State) → g ≡ group_of m → HasRun fs (effect_in (plan_in g m s) s) s old r s' new → HasRun fs (effect_in (command_plan m s) s) s old r s' new
  unfolding command_plan
  runs_group g m s old new r s' is h = subst (λ (x : Group). HasRun fs (effect_in (plan_in x m s) s) s old r s' new) is h

  -- a line that asks this
  pub runs_line : (line : List ℕ) (asked : Asked) (s : State) (old new : F) (r : Reply) (s' : State) → asked_of line ≡ asked → HasRun fs (effect_in (plan_of asked s) s) s old r s' new → HasRun fs (λ map. step_of s map line) s old r s' new
  unfolding step_of
  runs_line line asked s old new r s' is h = subst (λ (a : Asked). HasRun fs (effect_in (plan_of a s) s) s old r s' new) (sym is) h

  pub put_faulted : (name bytes : List ℕ) (done : Done) (s : State) (old new : F) → PutsIn fs.tells fs.lookup old new (Err files_fault.Failed) name bytes → Numbers fs.tells_failing fs.calls fs.failing old new true
      → HasRun fs (effect_in (Ok (Puts name bytes done)) s) s old reply.Faulted s new
  put_faulted name bytes done s old new puts numbers = runs_put name bytes done s old new (Err files_fault.Failed) reply.Faulted s puts numbers refl (meets_faulted (Ok done) s (Some (name, bytes)) true) (λ map. refl)

  pub put_starved : (name bytes : List ℕ) (done : Done) (s : State) (old new : F) → PutsIn fs.tells fs.lookup old new (Err files_fault.Memory) name bytes → Numbers fs.tells_failing fs.calls fs.failing old new false
      → HasRun fs (effect_in (Ok (Puts name bytes done)) s) s old reply.Starved s new
  put_starved name bytes done s old new puts numbers = runs_put name bytes done s old new (Err files_fault.Memory) reply.Starved s puts numbers refl (meets_starved (Ok done) s (Some (name, bytes)) true) (λ map. refl)

  pub put_done : (name bytes : List ℕ) (done : Done) (s : State) (text : List ℕ) (old new : F) (u : Unit) → text ≡ report_text done.report → PutsIn fs.tells fs.lookup old new (Ok u) name bytes → Numbers fs.tells_failing fs.calls fs.failing old new false
      → HasRun fs (effect_in (Ok (Puts name bytes done)) s) s old (reply.Done text false) (apply_change done.change s) new
  put_done name bytes done s text old new u e puts numbers =
      runs_put name bytes done s old new (Ok u) (reply.Done text false) (apply_change done.change s) puts numbers refl (record { text = e; refused = refl; state = refl; faulted = λ y. cc; starved = λ y. cc }) (λ map. refl)
