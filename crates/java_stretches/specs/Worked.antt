-- A class with a run and a loop, and the text in which a query stands in their place.
use Rattle.std.specs.Prelude.{◌≡◌, ℕ, pos, ◌+◌, ◌<◌, List, [], ◌∷◌, ◌++◌, length, false, codes, Ok}
use Rattle.std.specs.declared.option.Option.TheVariants.{Some, None}
use Rattle.qbs_base.specs.declared.scalar.Scalar.TheVariants as scalars
use Rattle.qbs_base.specs.declared.span.Span.{Span}
use Rattle.java_lex.specs.Lexing.{lexed}
use Rattle.java_lex.specs.declared.token.Token.{Token}
use Rattle.java_lex.specs.declared.token.TokenNode.TheVariants as nodes
use Rattle.java_lex.specs.declared.token.Tokens.{Tokens}
use Rattle.java_ast.specs.declared.tree.Access.TheVariants as accesses
use Rattle.java_ast.specs.declared.tree.Op.TheVariants as ops
use Rattle.java_ast.specs.Path.{last_of, replaced_at}
use Rattle.java_ast.specs.Tree.{Long, Table, Lit, Var, Binary, Fetch, QueryLong, NoMore, Declare, Assign, ForEach, Return, Statement, Statements, Nothing, Then, PlainProgram}
use Rattle.java_ast.specs.Unplaced.{nowhere}
use Rattle.java_text.specs.Canonical.{line_end}
use Rattle.java_grammar.specs.Grammar.{IsProgram}
use Rattle.java_grammar.specs.ReadBack.{IsReadBack}
use Rattle.java_stretches.specs.Lines.{joined_lines, CanStandFor}
use Rattle.java_stretches.specs.Stretch.{Stretch, GoesFrom}

-- ---- the text

abbrev pub front : List ℕ
front = codes "class A {" ++ (line_end ++ (codes "  long m(){ // counts" ++ (line_end ++ codes "    ")))

abbrev pub old : List ℕ
old = codes "long n = 0;" ++ (line_end ++ (codes "    for(T t: db.fetch(T.class))" ++ (line_end ++ codes "      n++;")))

abbrev pub rest : List ℕ
rest = codes "  // done" ++ (line_end ++ (codes "    return  n;" ++ (line_end ++ (codes "}}" ++ line_end))))

-- ---- its tokens and its program

abbrev pub at : ℕ → ℕ → ℕ → ℕ → Span
at line column start end = record { line = line; column = column; start = start; end = end }

abbrev word : ℕ → ℕ → ℕ → List ℕ → Token
word line column start text = record { span = at line column start (start + length text); node = nodes.Word text }

abbrev sign : ℕ → ℕ → ℕ → List ℕ → Token
sign line column start text = record { span = at line column start (start + length text); node = nodes.Sign text }

abbrev zero : Token
zero = record { span = at 3 14 45 46; node = nodes.Integer (pos 0) false }

abbrev all_tokens : List Token
all_tokens =
    word 1 1 0 (codes "class") ∷ word 1 7 6 (codes "A") ∷ sign 1 9 8 (codes "{") ∷
    word 2 3 12 (codes "long") ∷ word 2 8 17 (codes "m") ∷ sign 2 9 18 (codes "(") ∷ sign 2 10 19 (codes ")") ∷ sign 2 11 20 (codes "{") ∷
    word 3 5 36 (codes "long") ∷ word 3 10 41 (codes "n") ∷ sign 3 12 43 (codes "=") ∷ zero ∷ sign 3 15 46 (codes ";") ∷
    word 4 5 52 (codes "for") ∷ sign 4 8 55 (codes "(") ∷ word 4 9 56 (codes "T") ∷ word 4 11 58 (codes "t") ∷ sign 4 12 59 (codes ":") ∷ word 4 14 61 (codes "db") ∷ sign 4 16 63 (codes ".") ∷ word 4 17 64 (codes "fetch") ∷ sign 4 22 69 (codes "(") ∷ word 4 23 70 (codes "T") ∷ sign 4 24 71 (codes ".") ∷ word 4 25 72 (codes "class") ∷ sign 4 30 77 (codes ")") ∷ sign 4 31 78 (codes ")") ∷
    word 5 7 86 (codes "n") ∷ sign 5 8 87 (codes "++") ∷ sign 5 10 89 (codes ";") ∷
    word 6 5 104 (codes "return") ∷ word 6 13 112 (codes "n") ∷ sign 6 14 113 (codes ";") ∷
    sign 7 1 115 (codes "}") ∷ sign 7 2 116 (codes "}") ∷ []

abbrev pub tokens : Tokens
tokens = record { list = all_tokens; end = at 8 1 118 118 }

abbrev pub counter : Statement
counter = Declare (at 3 5 36 47) Long (codes "n") (Lit (at 3 14 45 46) (scalars.Long (pos 0)))

-- its body is read as n = n + 1, all at one place
abbrev counted : Span → Statement
counted here = Assign here (codes "n") (Binary here ops.Add (Var here (codes "n")) (Lit here (scalars.Long (pos 1))))

abbrev pub walk : Statement
walk = ForEach (at 4 5 52 90) (Table (codes "T")) (codes "t") (Fetch (at 4 14 61 78) (codes "T")) (Then (counted (at 5 7 86 90)) Nothing)

abbrev pub program : PlainProgram
program = record {
  «package» = None;
  imports = [];
  public = false;
  name = codes "A";
  methods = (record {
    access = accesses.Plain;
    fixed = false;
    result = Some Long;
    name = codes "m";
    params = [];
    body = Then counter (Then walk (Then (Return (at 6 5 104 114) (Some (Var (at 6 13 112 113) (codes "n")))) Nothing));
    span = at 2 3 12 116;
  }) ∷ [];
}

-- ---- what takes the place of the run and the loop

abbrev pub path : List ℕ
path = 0 ∷ 1 ∷ []

abbrev pub block : Statements
block = Then (Declare nowhere Long (codes "n") (QueryLong nowhere (codes "SELECT COUNT(*) FROM T t1") NoMore)) Nothing

abbrev pub new : List ℕ
new = codes "long n = db.queryLong(" ++ (34 ∷ (codes "SELECT COUNT(*) FROM T t1" ++ (34 ∷ codes ");")))

-- The text has this program, its bytes old are those of the run and the loop, and with the new ones in their place it has
-- the program with the query.
pub record IsWorked : Type 0 where
  pub lexed_as : lexed (front ++ (old ++ rest)) ≡ Ok tokens
  pub has : IsProgram tokens.list program
  pub run : 0 < last_of path
  pub stretch : Stretch tokens.list program path 0 walk
  pub goes : GoesFrom program path 0 front old
  pub lines : joined_lines (codes "    ") block ≡ new
  pub stands : CanStandFor new block
  pub read_back : IsReadBack (front ++ (new ++ rest)) (replaced_at path 0 block program)
