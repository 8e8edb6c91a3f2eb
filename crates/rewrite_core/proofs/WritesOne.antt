-- What comes of one loop by its spread is of the grammar and can be written, by the law of what unnesting writes.
use Rattle.qbs_base.specs.Values.{Schema}
use Rattle.java_ast.specs.Tree.{PlainProgram}
use Rattle.java_types.specs.Texts.{read_by}
use Rattle.rewrite_core.proofs.HasAsks.{has_asks}
use Rattle.rewrite_core.proofs.UnnestOne.{WritesOne}
use Rattle.rewrite_core.proofs.UnnestWrittenPrograms.{reader_by, unnested_is_fine}

pub one_writes : (schema : Schema) (p : PlainProgram) → WritesOne schema p
one_writes schema p l s z leads spreads is may grammar written =
    unnested_is_fine schema (reader_by schema) l p (record { loop = s; spread = z; leads = leads; spreads = spreads; is = is }) (has_asks schema (read_by schema) l.program l.path l.setting l.candidate may) (grammar, written)
