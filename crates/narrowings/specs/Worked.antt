-- A method that collects the users which it wants from all of them.
use Rattle.java_ast.specs.Tree.{Table, ListOf, Expression, NewList, Declare, Then, PlainProgram}
use Rattle.java_mean.specs.Worked.{somewhere, User, out}
use Rattle.spreads.specs.WorkedNarrow.{walking, declaring, program_of}

-- List<User> out = new ArrayList<>(); for (User u : e) { if (..) out.add(u); }
abbrev pub collecting : Expression → PlainProgram
collecting e = program_of (Then (Declare somewhere (ListOf (Table User)) out (NewList somewhere)) (walking e))

-- List<User> out = new ArrayList<>(); List<User> all = e; for (User u : all) { if (..) out.add(u); }
abbrev pub collecting_listed : Expression → PlainProgram
collecting_listed e = program_of (Then (Declare somewhere (ListOf (Table User)) out (NewList somewhere)) (declaring e))
