-- A program that was checked.
use Rattle.java_types.proofs.Checked.{plain_never, checked_never, checked_result}
use Rattle.java_types.proofs.laws.checked_programs_are_never_stuck.Goals as goal

pub returns-clause-never : goal.returns-clause-never
returns-clause-never c = plain_never

pub returns-clause-checked : goal.returns-clause-checked
returns-clause-checked c = checked_never

pub returns-clause-result : goal.returns-clause-result
returns-clause-result c = checked_result
