-- The value that the last statement on a variable gives it.
use Rattle.java_loops.proofs.Walks.Given.{given, given_still, declared_constant, assigned_constant}
use Rattle.java_loops.proofs.runs.last_statements_give_values.Goals as goal

pub returns-clause-given : goal.returns-clause-given
returns-clause-given c = given

pub returns-clause-still : goal.returns-clause-still
returns-clause-still c = given_still

pub returns-clause-declared : goal.returns-clause-declared
returns-clause-declared c = declared_constant

pub returns-clause-assigned : goal.returns-clause-assigned
returns-clause-assigned c = assigned_constant
