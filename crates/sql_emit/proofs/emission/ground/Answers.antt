use Rattle.std.proofs.Common.{sym, subst, ◌≤◌, length, List}
use Rattle.std.specs.List.{AllByRecursion}
use Rattle.kernel_lang.specs.declared.parts.Acc.{Acc}
use Rattle.sql_emit.proofs.Emitting.{accs_short}
use Rattle.sql_emit.proofs.emission.ground.Goals as goal

pub returns-clause-short : goal.returns-clause-short
returns-clause-short c = subst (λ (accs : List Acc). AllByRecursion (λ (a : Acc). length a.chain ≤ 3) accs) (sym c.as_slice-3.ensures) (accs_short c.args.frag.now)
