use Rattle.mm_stack.proofs.Parts.{entries_taken}
use Rattle.mm_stack.proofs.stack.Stack.truncate.Goals as goal

pub returns-clause-stack : goal.returns-clause-stack
returns-clause-stack c = rw (c.truncate.ensures.items, ← c.self.view_is) (entries_taken _ c.args.count _)
