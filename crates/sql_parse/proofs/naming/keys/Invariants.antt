use Rattle.std.proofs.Common.{◌≡◌, drop}
use Rattle.sql_ast.specs.InSight.{in_sight}
use Rattle.sql_ast.specs.Knowns.{knowns_of}
use Rattle.sql_ast.specs.Names.{each_of, named_key}
use Rattle.sql_parse.specs.Said.{keys_of}
use Rattle.sql_parse.specs.Scopes.{scope_of}
use Rattle.sql_parse.proofs.Each.{after_front}
use Rattle.sql_parse.proofs.naming.keys.Given as goal

abbrev pub invariant-loop-raw_key : goal.invariant-loop-raw_key
invariant-loop-raw_key l = after_front l.keys (each_of (named_key (scope_of 0 (knowns_of (in_sight l.known)))) (keys_of (drop l.raw_key-index l.raw))) ≡ each_of (named_key (scope_of 0 (knowns_of (in_sight l.known)))) (keys_of l.raw)
