-- What can be read is not read only for want of memory.
use Rattle.std.proofs.Common.{◌≡◌, ◌≤◌, ℕ, ◌+◌, ◌-◌, true, List, length, Result, Err, is_ok, refl, sym, ◌∙◌, ap, arith}
use Rattle.std.proofs.lemmas.Bool.{false≢true}
use Rattle.mm_scope.specs.Contents.{is_read, stated_at}
use Rattle.mm_scope.specs.Contexts.{Fails}
use Rattle.mm_scope.specs.Databases.{database_of}
use Rattle.mm_scope.specs.Events.{Event}
use Rattle.mm_scope.specs.declared.fault.ReadFault.{ReadFault}
use Rattle.mm_scope.specs.declared.fault.ReadFault.TheVariants as fault
use Rattle.mm_splice.specs.Splicing.{spliced}
use Rattle.mm_splice.proofs.Bytes.{whole_size}

refused : (e : ReadFault) (r : Result (List Event) ReadFault) → is_ok r ≡ true → r ≡ Err e → ⊥
refused e r ok h = false≢true (sym (ap is_ok h) ∙ ok)

memory_by : (e : ReadFault) (r : Result (List Event) ReadFault) → is_ok r ≡ true → Fails e r → e ≡ fault.Memory
memory_by (fault.BadByte p) r ok h = absurd (refused (fault.BadByte p) r ok h)
memory_by (fault.CommentOpen p) r ok h = absurd (refused (fault.CommentOpen p) r ok h)
memory_by (fault.UnknownKeyword p) r ok h = absurd (refused (fault.UnknownKeyword p) r ok h)
memory_by (fault.FileInclusion p) r ok h = absurd (refused (fault.FileInclusion p) r ok h)
memory_by (fault.BadLabel p) r ok h = absurd (refused (fault.BadLabel p) r ok h)
memory_by (fault.BadSymbol p) r ok h = absurd (refused (fault.BadSymbol p) r ok h)
memory_by (fault.Redeclared p) r ok h = absurd (refused (fault.Redeclared p) r ok h)
memory_by (fault.NotActive p) r ok h = absurd (refused (fault.NotActive p) r ok h)
memory_by (fault.ConstantInBlock p) r ok h = absurd (refused (fault.ConstantInBlock p) r ok h)
memory_by (fault.LabelUsed p) r ok h = absurd (refused (fault.LabelUsed p) r ok h)
memory_by (fault.LabelMissing p) r ok h = absurd (refused (fault.LabelMissing p) r ok h)
memory_by (fault.LabelNotWanted p) r ok h = absurd (refused (fault.LabelNotWanted p) r ok h)
memory_by (fault.WrongForm p) r ok h = absurd (refused (fault.WrongForm p) r ok h)
memory_by (fault.FloatRepeated p) r ok h = absurd (refused (fault.FloatRepeated p) r ok h)
memory_by (fault.NoFloat p) r ok h = absurd (refused (fault.NoFloat p) r ok h)
memory_by (fault.DistinctForm p) r ok h = absurd (refused (fault.DistinctForm p) r ok h)
memory_by (fault.BlockNotOpen p) r ok h = absurd (refused (fault.BlockNotOpen p) r ok h)
memory_by (fault.BlockOpen p) r ok h = absurd (refused (fault.BlockOpen p) r ok h)
memory_by (fault.NotClosed p) r ok h = absurd (refused (fault.NotClosed p) r ok h)
memory_by (fault.TooLong p) r ok h = absurd (refused (fault.TooLong p) r ok h)
memory_by fault.Memory r ok h = refl

pub only_memory : (bytes : List ℕ) (e : ReadFault) → is_read bytes ≡ true → Fails e (database_of bytes) → e ≡ fault.Memory
unfolding is_read
only_memory bytes e read h = memory_by e (database_of bytes) read h

pub spliced_size : (bytes : List ℕ) (id : ℕ) (text : List ℕ) → (stated_at bytes id).from ≤ (stated_at bytes id).to → (stated_at bytes id).to ≤ length bytes
    → length (spliced bytes id text) ≡ (length bytes - ((stated_at bytes id).to - (stated_at bytes id).from)) + length text
spliced_size bytes id text up within = omega (arith, whole_size bytes (stated_at bytes id).from (stated_at bytes id).to text up within, up, within)
