-- The number and the place of a database's first fault.
use Rattle.std.specs.Prelude.{ℕ}
use Rattle.mm_scope.specs.declared.fault.ReadFault.{ReadFault}
use Rattle.mm_scope.specs.declared.fault.ReadFault.TheVariants as fault

-- 0 for want of memory, which is no fault of a database
abbrev pub number_of : ReadFault → ℕ
number_of (fault.BadByte p) = 1
number_of (fault.CommentOpen p) = 2
number_of (fault.UnknownKeyword p) = 4
number_of (fault.FileInclusion p) = 5
number_of (fault.BadLabel p) = 6
number_of (fault.BadSymbol p) = 7
number_of (fault.Redeclared p) = 8
number_of (fault.NotActive p) = 9
number_of (fault.ConstantInBlock p) = 10
number_of (fault.LabelUsed p) = 11
number_of (fault.LabelMissing p) = 12
number_of (fault.LabelNotWanted p) = 13
number_of (fault.WrongForm p) = 14
number_of (fault.FloatRepeated p) = 15
number_of (fault.NoFloat p) = 16
number_of (fault.DistinctForm p) = 17
number_of (fault.BlockNotOpen p) = 18
number_of (fault.BlockOpen p) = 19
number_of (fault.NotClosed p) = 20
number_of (fault.TooLong p) = 21
number_of fault.Memory = 0

-- the place in bytes, counted from 0; 0 for want of memory
abbrev pub place_of : ReadFault → ℕ
place_of (fault.BadByte p) = p
place_of (fault.CommentOpen p) = p
place_of (fault.UnknownKeyword p) = p
place_of (fault.FileInclusion p) = p
place_of (fault.BadLabel p) = p
place_of (fault.BadSymbol p) = p
place_of (fault.Redeclared p) = p
place_of (fault.NotActive p) = p
place_of (fault.ConstantInBlock p) = p
place_of (fault.LabelUsed p) = p
place_of (fault.LabelMissing p) = p
place_of (fault.LabelNotWanted p) = p
place_of (fault.WrongForm p) = p
place_of (fault.FloatRepeated p) = p
place_of (fault.NoFloat p) = p
place_of (fault.DistinctForm p) = p
place_of (fault.BlockNotOpen p) = p
place_of (fault.BlockOpen p) = p
place_of (fault.NotClosed p) = p
place_of (fault.TooLong p) = p
place_of fault.Memory = 0
