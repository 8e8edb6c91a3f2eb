-- Statements in states that are alike.
use Rattle.java_mean.specs.Refines.{Alike, Simulates, exits}
use Rattle.java_mean.specs.Statement.{meanings}
use Rattle.java_mean.specs.Types.{Types}
use Rattle.java_mean.specs.Typing.{Frame, IsWorld, TypedStatements}
use Rattle.java_mean.specs.World.{World}
use Rattle.java_ast.specs.Tree.{Statements}
use Rattle.std.specs.declared.option.Option.{Option}
use Rattle.java_mean.proofs.TypedRuns.{typed_statements}
use Rattle.java_mean.proofs.laws.only_typed_variables_matter.Goals as goal

does_alike : (c : Frame) (l : Option Types) (g z : Types) (p : Statements) → TypedStatements c l g p z → (w : World) → IsWorld c w → Simulates (Alike c.schema g) (Alike c.schema z) (exits c l ⊥) (meanings p w) (meanings p w)
does_alike c l g z p t w i = typed_statements c l g p z t w i

pub returns : goal.returns
returns c = does_alike
