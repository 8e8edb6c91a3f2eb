-- A text in which a query comes in place of a run and its loop.
use Rattle.std.specs.Prelude.{◌≡◌, List, [], ◌++◌, codes}
use Rattle.java_ast.specs.Path.{replaced_at}
use Rattle.java_ast.specs.Spans.{place_of}
use Rattle.java_ast.specs.Tree.{Long, QueryLong, NoMore, Declare, Statement, Statements, Nothing, Then}
use Rattle.java_grammar.specs.ReadBack.{IsReadBack}
use Rattle.java_stretches.specs.Worked.{front, old, rest, new, program, path, counter, walk}
use Rattle.java_stretches.specs.Carries.{Carries}
use Rattle.java_stretches.specs.Laid.{Patched, with_texts, with_one}

-- the query stands where the loop does
abbrev pub query : Statement
query = Declare (place_of walk) Long (codes "n") (QueryLong (place_of walk) (codes "SELECT COUNT(*) FROM T t1") NoMore)

abbrev pub block : Statements
block = Then query Nothing

abbrev pub patches : List Patched
patches = with_one [] (place_of counter).start (place_of walk).end new

-- The text carries its program, and with the patch the one in which the query stands: that text is read back.
pub record IsWorked : Type 0 where
  pub before : Carries (front ++ (old ++ rest)) [] program
  pub after : Carries (front ++ (old ++ rest)) patches (replaced_at path 0 block program)
  pub text : with_texts (front ++ (old ++ rest)) 0 patches ≡ front ++ (new ++ rest)
  pub read : IsReadBack (front ++ (new ++ rest)) (replaced_at path 0 block program)
