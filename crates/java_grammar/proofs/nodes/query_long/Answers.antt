use Rattle.std.proofs.Common.{rules}
use Rattle.java_grammar.proofs.Gathered.{query_long_node}
use Rattle.java_grammar.proofs.nodes.query_long.Goals as goal

pub returns-clause-ok : goal.returns-clause-ok
returns-clause-ok c = query_long_node c.in_ok-text.text c.args.text.now c.args.arguments (search rules)
