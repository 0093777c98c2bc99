use Rattle.std.proofs.Common.{◌≡◌, ◌+◌, drop}
use Rattle.mm_proof.specs.Encoding.{word_of}
use Rattle.mm_proof.specs.Spelling.{names_len}
use Rattle.mm_proof.proofs.encoder.words_len.Given as goal

abbrev pub invariant-loop-label : goal.invariant-loop-label
invariant-loop-label l = l.count + names_len (word_of l.db) (drop l.label-index l.list) ≡ names_len (word_of l.db) l.list
