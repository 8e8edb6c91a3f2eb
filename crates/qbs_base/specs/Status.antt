-- The numbers of the statuses.
use Rattle.std.specs.Prelude.{ℕ}
use Rattle.qbs_base.specs.declared.status.Status.{Status}
use Rattle.qbs_base.specs.declared.status.Status.TheVariants.{Ok, Refused, Words, ReadFault, WriteFault, Schema, Source, Types, Data, Faulted, Bundle, Turns, NoMemory, Limit, NotYet, Store, View}

-- the number that the process ends with
abbrev pub code_of : Status → ℕ
code_of Ok = 0
code_of Refused = 1
code_of Words = 2
code_of ReadFault = 3
code_of WriteFault = 4
code_of Schema = 5
code_of Source = 6
code_of Types = 7
code_of Data = 8
code_of Faulted = 9
code_of Bundle = 10
code_of Turns = 11
code_of NoMemory = 12
code_of Limit = 13
code_of NotYet = 14
code_of Store = 15
code_of View = 16

-- a status at which nothing was written to the output
abbrev pub KeepsOutput : Status → Type 0
KeepsOutput Ok = ⊥
KeepsOutput Refused = ⊥
KeepsOutput WriteFault = ⊥
KeepsOutput _ = Unit {0}
