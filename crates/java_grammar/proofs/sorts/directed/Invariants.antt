use Rattle.std.proofs.Common.{◌≡◌, ◌∷◌, ◌++◌, drop}
use Rattle.java_grammar.specs.Statements.{is_turned, keys_in, downs_in}
use Rattle.java_grammar.proofs.sorts.directed.Given as goal

abbrev pub invariant-loop-part : goal.invariant-loop-part
invariant-loop-part l = record {
  keys_so_far : l.keys.items ++ keys_in (drop l.part-index l.parts) ≡ l.first ∷ keys_in l.parts;
  downs_so_far : l.downs.items ++ downs_in (drop l.part-index l.parts) ≡ is_turned l.parts ∷ downs_in l.parts;
  turned_now : l.turned ≡ is_turned (drop l.part-index l.parts);
}
