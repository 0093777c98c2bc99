-- What is told of answers and refusals.
use Rattle.std.proofs.Common.{◌≡◌, ◌≢◌, ℕ, Bool, true, false, List, Ok, Err, refl, sym, ◌∙◌, ap, subst, arith, ◌||◌, true≢false}
use Rattle.mm_base.specs.Outside.{CountsFaults}
use Rattle.mm_shell.specs.Answers.{Answer, Answers, report_takes, change_takes, takes}
use Rattle.mm_shell.specs.Lines.{counts_text}
use Rattle.mm_shell.specs.Texts.{report_text}
use Rattle.mm_shell.specs.declared.refusal.Refusal.{Refusal}
use Rattle.mm_shell.specs.declared.refusal.Refusal.TheVariants as refusal
use Rattle.mm_shell.specs.declared.report.Report.TheVariants.{Counts as Counted}
use Rattle.mm_shell.specs.Changes.{apply_change, new_state}
use Rattle.mm_shell.specs.declared.answer.Change.{Change}
use Rattle.mm_shell.specs.declared.answer.Done.{Done}
use Rattle.mm_shell.specs.declared.state.State.{State}
use Rattle.mm_edit_commands.specs.Edits.{EditsState}
use Rattle.mm_edit_commands.specs.declared.edits.Counts.{Counts}
use Rattle.mm_step.specs.Effects.{is_faulted}
use Rattle.mm_step.specs.Ran.{Refuses, Replies, Tells, Told, reply_in}
use Rattle.mm_step.specs.declared.reply.Reply.{Reply}
use Rattle.mm_step.specs.declared.reply.Reply.TheVariants as reply

-- ## Answers

pub refused_replies : (r : Refusal) (told : Reply) → r ≢ refusal.OutOfMemory → Refuses r told → (s : State) → Replies (Err r) s told s
refused_replies refusal.OutOfMemory told other h s = absurd (other refl)
refused_replies r (reply.Done text refused) other h s = (h.0, h.1, refl)
refused_replies r reply.Starved other h s = (refl, h)
refused_replies r reply.Faulted other h s = absurd h

starved : (a : Answer) (told : Reply) → told ≡ reply.Starved → takes a ≡ true → (s : State) → Replies a s told s
starved a told e t s = rw e (refl, t)

pub refusal_told : (a : Answer) (r : Refusal) (told : Reply) → Answers a (Err r) → Refuses r told → (s : State) → Replies a s told s
refusal_told a refusal.OutOfMemory told is h s = starved a told h is s
refusal_told a r told is h s = subst (λ (x : Answer). Replies x s told s) is (refused_replies r told (λ e. cc) h s)

-- ## Edits

edit_starved : (a : Answer) (told : Reply) (before now : State) → told ≡ reply.Starved → takes a ≡ true → now ≡ before → Replies a before told now
edit_starved a told before now e t same = rw e (same, t)

edit_refused_by : (a : Answer) (r : Refusal) (told : Reply) (before now : State) → r ≢ refusal.OutOfMemory → (let x : Answer = Err r in x) ≡ a → now ≡ before → Refuses r told → Replies a before told now
edit_refused_by a r told before now other is same t =
    subst (λ (x : Answer). Replies x before told now) is (subst (λ (n : State). Replies (Err r) before told n) (sym same) (refused_replies r told other t before))

pub edit_refused : (a : Answer) (r : Refusal) (told : Reply) (before now : State) → EditsState a before (Err r) now → Refuses r told → Replies a before told now
edit_refused a refusal.OutOfMemory told before now h t = edit_starved a told before now t h.0 h.1
edit_refused a r told before now h t = edit_refused_by a r told before now (λ e. cc) h.0 h.1 t

pub edit_told : (a : Answer) (counts : Counts) (text : List ℕ) (before now : State) → EditsState a before (Ok counts) now → text ≡ counts_text counts.steps counts.unknown counts.pending → Replies a before (reply.Done text false) now
edit_told (Ok done) counts text before now h e = let t : done.report ≡ Counted counts.steps counts.unknown counts.pending = cc in (e ∙ sym (ap report_text t), refl, h.1)
edit_told (Err r) counts text before now h e = cc

-- ## No call has failed

pub counts_still : (n : ℕ) → CountsFaults false n n
counts_still n = record { never_falls = omega arith; rose = λ y. cc; stays = λ y. refl }

pub refusal_sound : (r : Refusal) (told : Reply) → Refuses r told → is_faulted told ≡ false
refusal_sound refusal.OutOfMemory told h = rw h refl
refusal_sound r (reply.Done text refused) h = refl
refusal_sound r reply.Starved h = refl
refusal_sound r reply.Faulted h = absurd h

pub reply_sound : (a : Answer) (s s' : State) (told : Reply) → Replies a s told s' → is_faulted told ≡ false
reply_sound a s s' (reply.Done text refused) h = refl
reply_sound a s s' reply.Starved h = refl
reply_sound a s s' reply.Faulted h = absurd h

-- ## What is done

pub told_sound : (done : Done) (told : Told) → Tells (Ok done) told → is_faulted (reply_in told) ≡ false
told_sound done (Ok t) h = refl
told_sound done (Err (reply.Done text refused)) h = refl
told_sound done (Err reply.Starved) h = refl
told_sound done (Err reply.Faulted) h = absurd (h new_state)

pub answer_told : (a : Answer) (done : Done) (told : Told) → Answers a (Ok done) → Tells (Ok done) told → Tells a told
answer_told a done told is h = subst (λ (x : Answer). Tells x told) is h

pub answer_changed : (a : Answer) (s s' : State) (text : List ℕ) (change : Change) → Replies a s (reply.Done text false) (apply_change change s) → s' ≡ apply_change change s → Replies a s (reply.Done text false) s'
answer_changed a s s' text change h is = (h.0, h.1, is ∙ h.2)

-- where there was no memory for the text of what is done, it takes some
pub told_starved : (done : Done) (fine : Bool) → (report_takes done.report ≡ false → fine ≡ true) → fine ≡ false → takes (Ok done) ≡ true
told_starved done fine free none = at (report_takes done.report) refl where
  at : (b : Bool) → report_takes done.report ≡ b → takes (Ok done) ≡ true
  at true e = ap (λ (b : Bool). b || change_takes done.change) e
  at false e = absurd (true≢false (sym (free e) ∙ none))
