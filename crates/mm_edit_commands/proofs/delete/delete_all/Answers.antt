use Rattle.std.proofs.Common.{arith}
use Rattle.mm_plain.proofs.Equations.{size_of-pos}
use Rattle.mm_edit_commands.proofs.delete.delete_all.Goals as goal

pub label-requires : goal.label-requires
label-requires g c = (omega (arith, c.size-last.ensures, size_of-pos c.args.tree.now.proof.plain), omega (arith, c.size-last.ensures))
