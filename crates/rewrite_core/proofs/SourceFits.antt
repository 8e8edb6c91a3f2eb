-- The program of a source is of the grammar and can be written.
use Rattle.std.specs.Prelude.{ℕ, List}
use Rattle.java_ast.specs.Tree.{PlainProgram}
use Rattle.java_grammar.specs.InGrammar.{IsInGrammar}
use Rattle.java_grammar.specs.Written.{IsWritten}
use Rattle.java_grammar.proofs.Fitted.{program_of_text_fits}
use Rattle.java_stretches.proofs.Kept.{readable}
use Rattle.rewrite_core.specs.Output.{IsSourceOf}

pub source_fits : (source : List ℕ) (p : PlainProgram) → IsSourceOf source p → IsInGrammar p × IsWritten p
source_fits source p h = program_of_text_fits source h.tokens p h.lexed_as (readable h.tokens.list p h.reads)
