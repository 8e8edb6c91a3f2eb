use Rattle.std.specs.Prelude.{Some}
use Rattle.std.specs.List.{AllByRecursion, list_all}
use Rattle.std.proofs.Common.{◌≡◌, ◌++◌, true, drop, map}
use Rattle.sql_ast.specs.Reading.{query}
use Rattle.sql_ast.specs.Valid.{IsQueryOf}
use Rattle.loop_text.specs.Kernel.KernelConditions.{asked_for}
use Rattle.java_loops.specs.Lowering.Lowered.{query_asked}
use Rattle.lowering.specs.InCode.LoweredInCode.{has_query}
use Rattle.java_ast.specs.Names.{names_lent}
use Rattle.lowering.specs.InCode.Reading.{setting_in_code}
use Rattle.lowering.proofs.lowering.beside.queries_asked.Given as goal

abbrev pub invariant-loop-x : goal.invariant-loop-x
invariant-loop-x l =
    (list_all (has_query (setting_in_code l.w)) (names_lent (drop l.x-index l.known)) ≡ true)
    × (map (λ q. Some (query q)) l.queries ++ map (λ x. query_asked (setting_in_code l.w).read (asked_for (setting_in_code l.w).fragment.run x)) (names_lent (drop l.x-index l.known)) ≡ map (λ x. query_asked (setting_in_code l.w).read (asked_for (setting_in_code l.w).fragment.run x)) (names_lent l.known))
    × AllByRecursion (λ q. IsQueryOf (setting_in_code l.w).schema (query q)) l.queries
