use Rattle.std.proofs.Common.{◌≡◌, ◌+◌, ℕ, List, drop, subst}
use Rattle.std.specs.List.{flat_map}
use Rattle.java_calls.specs.ProgramNames.{dotted_parts}
use Rattle.call_rules.proofs.Numbers.{drop_item}
use Rattle.inlining.specs.Endings.{all_noted}
use Rattle.inlining.proofs.Noted.{one_listed}
use Rattle.inlining.proofs.class.note_imports.Goals as goal

pub loop-name-preserved : goal.loop-name-preserved
loop-name-preserved c =
    one_listed (dotted_parts c.name-item.result) (flat_map dotted_parts (drop (c.loop-name.name-index + 1) c.args.imports.now)) c.loop-name.tails c.put_parts.new.self (all_noted c.args.tails.now (flat_map dotted_parts c.args.imports.now)) c.in_ok-put_parts.ensures
    (subst (λ (l : List (List ℕ)). all_noted c.loop-name.tails (flat_map dotted_parts l) ≡ all_noted c.args.tails.now (flat_map dotted_parts c.args.imports.now)) (drop_item c.args.imports.now c.loop-name.name-index c.name-item.result c.loop-name-test.true c.name-item.is) c.loop-name.invariant)
