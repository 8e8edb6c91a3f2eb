-- Options and commands with numbers in their ranges, as all plain words have them.
use Rattle.std.specs.Prelude.{◌≤◌, IfSome}
use Rattle.words.specs.declared.command.Command.{Command}
use Rattle.words.specs.declared.command.Command.TheVariants as commands
use Rattle.words.specs.declared.command.Options.{Options}

pub record AreWithin (o : Options) : Type 0 where
  pub size : IfSome o.size (λ n. n ≤ 8)
  pub candidates : IfSome o.candidates (λ n. n ≤ 1000000)

abbrev pub IsWithin : Command → Type 0
IsWithin (commands.Rewrite o schema source) = AreWithin o
IsWithin (commands.Prove o schema source) = AreWithin o
IsWithin (commands.Unnest o schema source) = AreWithin o
IsWithin (commands.Gather o schema source) = AreWithin o
IsWithin (commands.Run o schema source folder method words) = AreWithin o
IsWithin (commands.Make n) = n ≤ 100000
IsWithin _ = Unit {0}
