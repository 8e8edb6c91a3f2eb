-- Whether statements have a select, and what is put behind others where it isn't dropped.
use Rattle.std.specs.Prelude.{Bool, true, false, not, nat_eq}
use Rattle.std.specs.declared.option.Option.TheVariants.{None}
use Rattle.qbs_base.specs.Values.{Schema}
use Rattle.java_ast.specs.Names.{Names}
use Rattle.java_ast.specs.Path.{and_then}
use Rattle.java_ast.specs.Tree.{Statement, Statements, Nothing, Then}
use Rattle.spreads.specs.Spread.{Reads, selects_in, selects_among}

abbrev pub has_select : Schema → Reads → Names → Statement → Bool
has_select schema read assigned s = not (nat_eq (selects_in schema read assigned None s) 0)

abbrev pub have_select : Schema → Reads → Names → Statements → Bool
have_select schema read assigned p = not (nat_eq (selects_among schema read assigned None p) 0)

abbrev pub put_unless : Bool → Statements → Statement → Statements
put_unless true all s = all
put_unless false all s = and_then all (Then s Nothing)
