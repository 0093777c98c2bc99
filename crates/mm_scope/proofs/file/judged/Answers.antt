use Rattle.std.proofs.Common.{◌+◌, sym, arith}
use Rattle.mm_scope.proofs.Closing.{take_small, take_whole}
use Rattle.mm_scope.proofs.file.judged.Goals as goal
use Rattle.mm_scope.specs.Judged.{most_bytes}

pub returns-then-bytes-gt-MOST_BYTES-clause-small : goal.returns-then-bytes-gt-MOST_BYTES-clause-small
returns-then-bytes-gt-MOST_BYTES-clause-small c = take_small (most_bytes + 1) c.args.bytes.now

pub returns-else-bytes-gt-MOST_BYTES-clause-value : goal.returns-else-bytes-gt-MOST_BYTES-clause-value
returns-else-bytes-gt-MOST_BYTES-clause-value c = sym (take_whole (most_bytes + 1) c.args.bytes.now (omega (arith, c.if-bytes-gt-MOST_BYTES.false)))
