-- What a condition begins with that is no AND, OR or NOT of others, and how it goes on.
use Rattle.std.specs.Prelude.{Bool, if◌then◌else◌, List, [], ◌∷◌, codes}
use Rattle.std.specs.declared.option.Option.{Option}
use Rattle.std.specs.declared.option.Option.TheVariants.{Some, None}
use Rattle.sql_ast.specs.declared.tree.Cmp.{Cmp}
use Rattle.sql_ast.specs.Names.{◌>>=◌}
use Rattle.sql_ast.specs.Reader.{Read, given, is_word, after_word, after_open, after_close, after_one, col_at, opnd_at, in_at, source_at}
use Rattle.sql_ast.specs.Tokens.{Token, Open, Test}
use Rattle.sql_ast.specs.Written.{WrittenCol, WrittenOpnd, WrittenCondition}
use Rattle.sql_ast.specs.Written as written
use Rattle.sql_parse.specs.declared.begun.Begun as code
use Rattle.sql_parse.specs.declared.begun.Begun.TheVariants as begins
use Rattle.sql_parse.specs.ReadNames.{read_col_of, read_opnd_of}
use Rattle.sql_parse.specs.Seen.{tokens_of}

pub data Begun : Type 0 where
  Group : List Token → Begun
  Exists : List Token → Begun
  Within : WrittenOpnd → Bool → WrittenCol → List Token → Begun
  Compared : Cmp → WrittenOpnd → WrittenOpnd → List Token → Begun
  Bare : WrittenCol → List Token → Begun

abbrev pub begun_of : code.Begun → Begun
begun_of (begins.Group ts) = Group (tokens_of ts.now)
begun_of (begins.Exists ts) = Exists (tokens_of ts.now)
begun_of (begins.Within a negated col ts) = Within (read_opnd_of a) negated (read_col_of col) (tokens_of ts.now)
begun_of (begins.Compared cmp a b ts) = Compared cmp (read_opnd_of a) (read_opnd_of b) (tokens_of ts.now)
begun_of (begins.Bare col ts) = Bare (read_col_of col) (tokens_of ts.now)

-- behind `(SELECT 1`
abbrev pub one_begins : List Token → Option (List Token)
one_begins ts = after_open ts >>= λ us. after_word (codes "SELECT") us >>= λ vs. after_one vs

-- behind `(SELECT COLUMN`
abbrev pub column_begins : List Token → Read WrittenCol
column_begins ts = after_open ts >>= λ us. after_word (codes "SELECT") us >>= λ vs. col_at vs

abbrev pub bare_begun : WrittenOpnd → List Token → Option Begun
bare_begun (written.Column col) ts = Some (Bare col ts)
bare_begun _ ts = None

abbrev pub within_begun : WrittenOpnd → List Token → Option Begun
within_begun a ts = given (in_at ts) (λ x. column_begins x.1 >>= λ y. Some (Within a x.0 y.0 y.1)) (bare_begun a ts)

-- behind a first operand
abbrev pub begun_from : WrittenOpnd → List Token → Option Begun
begun_from a (Test cmp ∷ ts) = opnd_at ts >>= λ x. Some (Compared cmp a x.0 x.1)
begun_from a ts = within_begun a ts

abbrev pub other_begun : Token → List Token → Option Begun
other_begun t ts =
    if is_word (codes "EXISTS") t
    then (one_begins ts >>= λ us. Some (Exists us))
    else (opnd_at (t ∷ ts) >>= λ x. begun_from x.0 x.1)

unfoldable pub begun_at : List Token → Option Begun
begun_at [] = None
begun_at (Open ∷ ts) = Some (Group ts)
begun_at (t ∷ ts) = other_begun t ts

-- a value, if a parenthesis is closed behind it
abbrev pub closed_by : {A : Type 0} → A → List Token → Read A
closed_by x ts = after_close ts >>= λ us. Some (x, us)

-- how a condition goes on, where group reads one that stands inside parentheses
unfoldable pub after_begun : (List Token → Read WrittenCondition) → Begun → Read WrittenCondition
after_begun group (Group ts) = group ts >>= λ x. closed_by x.0 x.1
after_begun group (Exists ts) = source_at group ts >>= λ x. closed_by (written.Exists x.0.0 x.0.1) x.1
after_begun group (Within a negated col ts) = source_at group ts >>= λ x. closed_by (written.Within a negated col x.0.0 x.0.1) x.1
after_begun group (Compared cmp a b ts) = Some (written.Compare cmp a b, ts)
after_begun group (Bare col ts) = Some (written.Bare col, ts)
