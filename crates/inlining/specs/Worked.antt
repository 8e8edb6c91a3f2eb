-- A class in which a name ends in the mark that the first call would take, and the class in which the call is replaced.
use Rattle.std.specs.Prelude.{codes}
use Rattle.java_ast.specs.Tree.{Long, Declare, Statements, Then}
use Rattle.java_mean.specs.Worked.{somewhere}
use Rattle.java_calls.specs.Worked.{found, two, calling, collecting, size_returned}

abbrev pub with_mark : Statements → Statements
with_mark p = Then (Declare somewhere Long (codes "y_1") two) p

-- long y_1 = 2; List<User> found = ofRole(2); return found.size();
abbrev pub calling_marked : Statements
calling_marked = with_mark calling

-- the helper's variables have the mark of 2
abbrev pub replaced_marked : Statements
replaced_marked = with_mark (Then (Declare somewhere Long (codes "wanted_2") two) (collecting (codes "wanted_2") (codes "u_2") found size_returned))
