use Rattle.mm_proof.specs.Encoding.{kind_of, own_labels}
use Rattle.mm_proof.proofs.Digits.{letters_spell, only_spelling}
use Rattle.mm_proof.proofs.Refolded.{trees_read}
use Rattle.mm_proof.proofs.Orders.{read-other}
use Rattle.mm_proof.proofs.Whole.{read-compact}
use Rattle.mm_proof.proofs.laws.letters_come_back.Goals as goal

pub returns : goal.returns
returns c = record {
  spells = letters_spell;
  only = only_spelling;
  reads = λ bytes at place t. read-compact (kind_of bytes) (own_labels bytes at) t place;
  folds = trees_read;
  any_order = read-other;
}
