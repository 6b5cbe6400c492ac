use Rattle.std.specs.Prelude.{ℕ, List, ◌++◌, codes, decimal}
use Rattle.knowledge.specs.declared.fault.Cause.{Cause}
use Rattle.knowledge.specs.declared.fault.Cause.TheVariants.{Long, Byte, Word, Fact, Party, Nodes, Deep, Knowledge, Child, Closed, Width, Lawless, Marks, Untrue, Sheet, Place, Full, Table, Memory}
use Rattle.knowledge.specs.declared.fault.Layer.{Layer}
use Rattle.knowledge.specs.declared.fault.Layer.TheVariants.{Plan, Notice, Formula, Board, Matter}
use Rattle.knowledge.specs.declared.fault.Fault.{Fault}

-- The number of each cause. 19 to 21 are kept for later.
abbrev pub number : Cause → ℕ
number Long = 1
number Byte = 2
number Word = 3
number Fact = 4
number Party = 5
number Nodes = 6
number Deep = 7
number Knowledge = 8
number Child = 9
number Closed = 10
number Width = 11
number Lawless = 12
number Marks = 13
number Untrue = 14
number Sheet = 15
number Place = 16
number Full = 17
number Table = 18
number Memory = 22

-- the letter of each layer
abbrev pub letter : Layer → List ℕ
letter Plan = codes "P"
letter Notice = codes "N"
letter Formula = codes "F"
letter Board = codes "B"
letter Matter = codes "M"

-- the bytes of the line that tells a refusal, as in "refused 14 M 0"
abbrev pub written : Fault → List ℕ
written f = codes "refused " ++ (decimal (number f.cause) ++ (codes " " ++ (letter f.layer ++ (codes " " ++ decimal f.place))))

-- a fault of a matter, whose place is always 0
abbrev pub in_matter : Cause → Fault
in_matter c = record { cause = c; layer = Matter; place = 0 }

-- a fault of a table, at a record
abbrev pub in_table : Cause → ℕ → Fault
in_table c k = record { cause = c; layer = Formula; place = k }

-- a fault of a board, at the first sheet of the call
abbrev pub in_board : Cause → ℕ → Fault
in_board c d = record { cause = c; layer = Board; place = d }
