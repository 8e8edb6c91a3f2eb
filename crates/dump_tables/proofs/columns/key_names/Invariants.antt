use Rattle.std.proofs.Common.{◌≡◌, ◌++◌, drop, map}
use Rattle.dump_tables.specs.Columns.{first_names}
use Rattle.dump_tables.proofs.columns.key_names.Given as goal

abbrev pub invariant-loop-part : goal.invariant-loop-part
invariant-loop-part l = map (λ n. n.now) l.names.items ++ first_names (map (λ p. p.now) (drop l.part-index l.part-items)) ≡ first_names (map (λ p. p.now) l.part-items)
