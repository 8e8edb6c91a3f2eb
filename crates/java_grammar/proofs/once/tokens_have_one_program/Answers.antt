use Rattle.java_grammar.specs.Grammar.{HasProgram}
use Rattle.java_grammar.specs.ReadingPrograms.{program_at}
use Rattle.java_grammar.proofs.Again.{Any}
use Rattle.java_grammar.proofs.OneTree.{one_tree}
use Rattle.java_grammar.proofs.ProgramLaws.{program_reads}
use Rattle.java_grammar.proofs.once.tokens_have_one_program.Goals as goal

pub returns : goal.returns
returns c = one_tree HasProgram Any program_at program_reads tt
