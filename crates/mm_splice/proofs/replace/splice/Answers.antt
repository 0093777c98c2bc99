-- The bytes are those that the contract names, and they can be read.
use Rattle.std.proofs.Common.{◌≡◌, ◌≤◌, ◌+◌, ◌-◌, ℕ, List, length, arith, subst, ap, ◌∙◌}
use Rattle.mm_scope.specs.Contents.{stated_at}
use Rattle.mm_scope.specs.Contexts.{Fails}
use Rattle.mm_scope.specs.Databases.{database_of}
use Rattle.mm_scope.specs.Judged.{most_bytes}
use Rattle.mm_splice.specs.Keeping.{KeepsTheRest}
use Rattle.mm_splice.specs.Splicing.{put_between, spliced}
use Rattle.mm_splice.proofs.Keeping.{keeps_the_rest}
use Rattle.mm_splice.proofs.Memory.{only_memory, spliced_size}
use Rattle.mm_splice.proofs.Verdicts.{judges_the_rest}
use Rattle.mm_splice.proofs.replace.splice.Goals as goal

same_bytes : (old bytes text items : List ℕ) (id from to : ℕ) → old ≡ bytes → from ≡ (stated_at bytes id).from → to ≡ (stated_at bytes id).to
    → items ≡ put_between old from to text → items ≡ spliced bytes id text
same_bytes old bytes text items id from to value first last is =
    is ∙ ap (λ b. put_between b from to text) value ∙ ap (λ p. put_between bytes p to text) first ∙ ap (λ p. put_between bytes (stated_at bytes id).from p text) last

room : (old bytes text : List ℕ) (id from to : ℕ) → old ≡ bytes → from ≡ (stated_at bytes id).from → to ≡ (stated_at bytes id).to → from ≤ to → to ≤ length bytes
    → (length old - (to - from)) + length text ≤ most_bytes → length (spliced bytes id text) ≤ most_bytes
room old bytes text id from to value first last up within fits =
    omega (arith, ap length value, first, last, fits, spliced_size bytes id text (omega (arith, up, first, last)) (omega (arith, within, last)))

pub returns-in-Ok : goal.returns-in-Ok
returns-in-Ok c =
    let bytes : List ℕ = c.args.db.now in
    let id : ℕ = c.args.id.0 in
    let text : List ℕ = c.args.text.now in
    let from : ℕ = c.place-span.result.start in
    let to : ℕ = c.place-span.result.end in
    let kept : KeepsTheRest bytes id text
    = keeps_the_rest bytes id text c.bytes-old.ensures.read c.requires.theorem c.requires.text
    (room c.bytes-old.result.now bytes text id from to c.bytes-old.ensures.value c.place-span.ensures.from c.place-span.ensures.to c.place-span.ensures.ordered c.place-span.ensures.within
    (omega (arith, c.if-kept-text.false))) in (
      c.in-Ok.ensures.0
          ∙ same_bytes c.bytes-old.result.now bytes text c.in_ok-bytes.bytes.items id from to c.bytes-old.ensures.value c.place-span.ensures.from c.place-span.ensures.to c.in_ok-bytes.ensures,
      kept,
      judges_the_rest bytes id text c.bytes-old.ensures.read kept,
    )

pub want_of_memory-requires : goal.want_of_memory-requires
want_of_memory-requires c =
    let bytes : List ℕ = c.args.db.now in
    let id : ℕ = c.args.id.0 in
    let text : List ℕ = c.args.text.now in
    let from : ℕ = c.place-span.result.start in
    let to : ℕ = c.place-span.result.end in
    let kept : KeepsTheRest bytes id text
    = keeps_the_rest bytes id text c.bytes-old.ensures.read c.requires.theorem c.requires.text
    (room c.bytes-old.result.now bytes text id from to c.bytes-old.ensures.value c.place-span.ensures.from c.place-span.ensures.to c.place-span.ensures.ordered c.place-span.ensures.within
    (omega (arith, c.if-kept-text.false))) in
    let same : c.in_ok-bytes.bytes.items ≡ spliced bytes id text
    = same_bytes c.bytes-old.result.now bytes text c.in_ok-bytes.bytes.items id from to c.bytes-old.ensures.value c.place-span.ensures.from c.place-span.ensures.to c.in_ok-bytes.ensures in
    only_memory (spliced bytes id text) c.in-Err.fault kept.read (subst (λ b. Fails c.in-Err.fault (database_of b)) same c.in-Err.ensures.1)
