-- Live variables and further ones are wanted.
use Rattle.std.specs.Prelude.{ℕ, List, true}
use Rattle.std.proofs.Common.{◌≡◌}
use Rattle.std.proofs.lemmas.Bool.{or_left, or_right}
use Rattle.java_ast.specs.Names.{Names, is_among}
use Rattle.loop_text.specs.Statements.Fragment.{Fragment, is_live, IsWanted, based}

pub live_wanted : (f : Fragment) (further : Names) (x : List ℕ) → is_live f x ≡ true → IsWanted f further x
live_wanted f further x h = based x (or_left (is_live f x) (is_among further x) h)

pub read_wanted : (f : Fragment) (further : Names) (x : List ℕ) → is_among further x ≡ true → IsWanted f further x
read_wanted f further x h = based x (or_right (is_live f x) (is_among further x) h)
