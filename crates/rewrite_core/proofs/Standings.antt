-- What is said of the program in which a loop gives way: it is well typed, keeps what the first one does, and can be written.
use Rattle.std.proofs.Common.{◌≡◌, sym, subst}
use Rattle.qbs_base.specs.Values.{Schema}
use Rattle.java_ast.specs.Tree.{PlainProgram}
use Rattle.java_mean.specs.Keeps.{Keeps}
use Rattle.java_mean.specs.Queries.{Reader}
use Rattle.java_mean.specs.WellTyped.{IsWellTyped}
use Rattle.java_grammar.specs.InGrammar.{IsInGrammar}
use Rattle.java_grammar.specs.Written.{IsWritten}
use Rattle.java_types.specs.Texts.{read_by}
use Rattle.java_types.proofs.Found.{found_exactly}
use Rattle.rewrite_core.specs.Asked.{Place, replaced}
use Rattle.rewrite_core.specs.Asking.{HasAsks, MayBeAsked}
use Rattle.rewrite_core.proofs.StaysTyped.{replaced_well, loops_give_way}
use Rattle.rewrite_core.proofs.Writable.Asks.{replaced_fine}

abbrev reader_of : (schema : Schema) → Reader schema
reader_of schema = record { read = read_by schema; exact = found_exactly schema }

module _ (schema : Schema) (l : Place) (q : PlainProgram) (is : q ≡ replaced l) where
  module _ (has : HasAsks schema (read_by schema) l.program l.path l.setting l.candidate) where
    pub stands_typed : IsWellTyped schema (read_by schema) q
    stands_typed = subst (IsWellTyped schema (read_by schema)) (sym is) (replaced_well schema (reader_of schema) l has)

    -- it can be written, if the first program can
    pub stands_written : IsInGrammar l.program → IsWritten l.program → IsInGrammar q × IsWritten q
    stands_written grammar written = subst (λ (z : PlainProgram). IsInGrammar z × IsWritten z) (sym is) (replaced_fine schema (reader_of schema) l has (grammar, written))

  pub stands_kept : MayBeAsked schema (read_by schema) l.program l.path l.setting l.candidate → Keeps l.program q schema
  stands_kept may = subst (λ (z : PlainProgram). Keeps l.program z schema) (sym is) (loops_give_way schema (reader_of schema) l may)
