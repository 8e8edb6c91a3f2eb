use Rattle.schema_text.proofs.Named.{are_named}
use Rattle.schema_text.proofs.laws.declared_tables_are_named.Goals as goal

pub returns : goal.returns
returns c text tables h = are_named text tables h
