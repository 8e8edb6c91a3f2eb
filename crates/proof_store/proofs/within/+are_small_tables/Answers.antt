use Rattle.std.proofs.Common.{◌∙◌, refl, sym}
use Rattle.qbs_base.specs.Tables.{NamedRows}
use Rattle.store_parts.specs.Limits.{are_small_rows, is_small_table}
use Rattle.proof_store.proofs.Equal.{none_small, some_small}
use Rattle.proof_store.proofs.within.+are_small_tables.Goals as goal

pub returns-in-None : goal.returns-in-None
returns-in-None t c = λ e. none_small (λ (t : NamedRows). t.1) is_small_table c.args.db.now c.args.n c.rows.result c.rows.ensures c.in-None.is

pub returns-then-n-lt4294967295 : goal.returns-then-n-lt4294967295
returns-then-n-lt4294967295 t c =
    λ e. some_small is_small_table are_small_rows (λ t. refl) c.args.db.now c.args.n c.rows.result c.in-Some.rows c.rows.ensures c.in-Some.is (sym c.are_small_rows.ensures ∙ c.if-n-lt4294967295.true.0) (c.are_small_tables.ensures e)
