-- The renaming that a value of the code is.
use Rattle.std.specs.Prelude.{[]}
use Rattle.std.specs.declared.option.Option.TheVariants.{Some, None}
use Rattle.java_calls.specs.Renaming.{Renaming, as_they_are, marked_but}
use Rattle.renamed_copies.specs.declared.naming.Renaming.TheVariants as coded
use Rattle.renamed_copies.specs.declared.naming.Renaming.{Renaming as Coded}

abbrev pub renaming_of : Coded → Renaming
renaming_of coded.AsTheyAre = as_they_are
renaming_of (coded.Marked c) = marked_but None [] c
renaming_of (coded.MarkedBut kept to c) = marked_but (Some kept) to c
