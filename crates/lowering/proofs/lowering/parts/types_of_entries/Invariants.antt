use Rattle.std.proofs.Common.{◌≡◌, ◌++◌, drop, map}
use Rattle.java_loops.specs.Lowering.Lowered.{type_of_entry}
use Rattle.loop_text.specs.Sites.Reading.{exprs_lent}
use Rattle.lowering.specs.InCode.Reading.{setting_in_code}
use Rattle.lowering.proofs.lowering.parts.types_of_entries.Given as goal

abbrev pub invariant-loop-e : goal.invariant-loop-e
invariant-loop-e l = l.tys ++ map (type_of_entry (setting_in_code l.w).schema (setting_in_code l.w).types) (exprs_lent (drop l.e-index l.entries)) ≡ map (type_of_entry (setting_in_code l.w).schema (setting_in_code l.w).types) (exprs_lent l.entries)
