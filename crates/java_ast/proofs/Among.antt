-- What is among names that stand one behind the other.
use Rattle.std.specs.Prelude.{ℕ, ◌||◌, List, ◌++◌}
use Rattle.std.specs.Str.{bytes_eq}
use Rattle.std.proofs.Common.{◌≡◌}
use Rattle.std.proofs.lemmas.List.Folds.{list_any-append}
use Rattle.java_ast.specs.Names.{Names, is_among}

pub among_both : (xs ys : Names) (x : List ℕ) → is_among (xs ++ ys) x ≡ (is_among xs x || is_among ys x)
among_both xs ys x = list_any-append (bytes_eq x) xs ys

pub ruleset both = (among_both)
