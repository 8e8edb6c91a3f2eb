-- Two small tables, and what texts say of them.
use Rattle.std.specs.Prelude.{◌≡◌, ℕ, pos, Bool, true, false, List, [], ◌∷◌, codes}
use Rattle.qbs_base.specs.declared.columns.Column.{Column}
use Rattle.qbs_base.specs.declared.scalar.Kind.TheVariants as rows
use Rattle.qbs_base.specs.declared.scalar.Row.{Row}
use Rattle.qbs_base.specs.declared.scalar.Scalar.{Scalar}
use Rattle.qbs_base.specs.declared.scalar.Scalar.TheVariants as scalars
use Rattle.qbs_base.specs.declared.scalar.Ty.{Ty}
use Rattle.qbs_base.specs.declared.scalar.Ty.TheVariants as tys
use Rattle.qbs_base.specs.Values.{Schema, Database}
use Rattle.sql_ast.specs.declared.rule.SqlRule.{SqlRule}
use Rattle.sql_ast.specs.declared.rule.SqlRule.TheVariants as rules
use Rattle.sql_ast.specs.Meaning.{Answered, Rows, One, query_answer}
use Rattle.sql_ast.specs.Texts.{HasQuery, BreaksRule}
use Rattle.sql_ast.specs.Tree.{PlainQuery}

-- a column that may hold NULL for all that its schema says
abbrev column : List ℕ → Ty → Column
column name ty = record { name = name; ty = ty; not_null = false; primary = false }

abbrev pub staff_schema : Schema
staff_schema =
    record {
      name = codes "User";
      columns = column (codes "id") tys.Long ∷ column (codes "name") tys.Text ∷ column (codes "roleId") tys.Long ∷ column (codes "age") tys.Long ∷ column (codes "active") tys.Bool ∷ [];
    }
    ∷ record { name = codes "Role"; columns = column (codes "id") tys.Long ∷ column (codes "label") tys.Text ∷ [] }
    ∷ []

abbrev pub user : ℕ → List ℕ → ℕ → ℕ → Bool → Row
user id name role age active = record { kind = rows.Table 0; cells = scalars.Long (pos id) ∷ scalars.Text name ∷ scalars.Long (pos role) ∷ scalars.Long (pos age) ∷ scalars.Bool active ∷ [] }

abbrev pub ann : Row
ann = user 1 (codes "ann") 2 30 true

abbrev pub bob : Row
bob = user 2 (codes "bob") 1 25 false

abbrev pub cat : Row
cat = user 3 (codes "cat") 2 41 true

-- a second user called ann
abbrev pub ann_again : Row
ann_again = user 4 (codes "ann") 3 19 true

abbrev pub dan : Row
dan = user 5 (codes "dan") 1 25 false

abbrev pub role : ℕ → List ℕ → Row
role id label = record { kind = rows.Table 1; cells = scalars.Long (pos id) ∷ scalars.Text label ∷ [] }

abbrev pub staff_tables : Database
staff_tables = (codes "User", ann ∷ bob ∷ cat ∷ ann_again ∷ dan ∷ []) ∷ (codes "Role", role 1 (codes "admin") ∷ role 2 (codes "staff") ∷ role 2 (codes "crew") ∷ []) ∷ []

abbrev pub long : ℕ → Row
long n = record { kind = rows.Plain; cells = scalars.Long (pos n) ∷ [] }

abbrev pub text : List ℕ → Row
text t = record { kind = rows.Plain; cells = scalars.Text t ∷ [] }

abbrev pub one_long : ℕ → Answered
one_long n = One (scalars.Long (pos n))

abbrev pub one_truth : Bool → Answered
one_truth b = One (scalars.Bool b)

-- the text has a query, which answers this on the tables with these parameters
pub record Answering (query : List ℕ) (params : List Scalar) (answer : Answered) : Type 0 where
  pub q : PlainQuery
  pub has : HasQuery staff_schema query q
  pub answers : query_answer staff_tables params q ≡ answer

abbrev pub Gives : List ℕ → Answered → Type 0
Gives query answer = Answering query [] answer

abbrev pub GivesAt : List ℕ → ℕ → Answered → Type 0
GivesAt query n answer = Answering query (scalars.Long (pos n) ∷ []) answer

abbrev pub Breaks : List ℕ → SqlRule → Type 0
Breaks query rule = BreaksRule staff_schema query rule

pub record WorkedLists : Type 0 where
  pub filtered : Gives (codes "SELECT t1.* FROM User t1 WHERE t1.roleId = 2 ORDER BY t1._pos") (Rows (ann ∷ cat ∷ []))
  pub any_letter_case : Gives (codes "select * from User where roleId=2order by _pos asc") (Rows (ann ∷ cat ∷ []))
  pub joined : Gives (codes "SELECT t1.* FROM User t1, Role t2 WHERE t1.roleId = t2.id ORDER BY t1._pos, t2._pos") (Rows (ann ∷ ann ∷ bob ∷ cat ∷ cat ∷ dan ∷ []))
  pub joined_the_other_way : Gives (codes "SELECT t2.* FROM Role t1, User t2 WHERE t1.id = t2.roleId ORDER BY t1._pos, t2._pos") (Rows (bob ∷ dan ∷ ann ∷ cat ∷ ann ∷ cat ∷ []))
  pub column : Gives (codes "SELECT t2.label FROM User t1, Role t2 WHERE t1.roleId = t2.id ORDER BY t1._pos, t2._pos") (Rows (text (codes "staff") ∷ text (codes "crew") ∷ text (codes "admin") ∷ text (codes "staff") ∷ text (codes "crew") ∷ text (codes "admin") ∷ []))
  pub exists : Gives (codes "SELECT t1.* FROM User t1 WHERE EXISTS (SELECT 1 FROM Role t2 WHERE t1.roleId = t2.id) ORDER BY t1._pos") (Rows (ann ∷ bob ∷ cat ∷ dan ∷ []))
  pub within : Gives (codes "SELECT t1.* FROM User t1 WHERE t1.roleId IN (SELECT t2.id FROM Role t2 WHERE t2.label = 'staff') ORDER BY t1._pos") (Rows (ann ∷ cat ∷ []))
  pub not_within : Gives (codes "SELECT t1.* FROM User t1 WHERE t1.roleId NOT IN (SELECT t2.id FROM Role t2 WHERE t2.label = 'staff') ORDER BY t1._pos") (Rows (bob ∷ ann_again ∷ dan ∷ []))
  pub sorted : Gives (codes "SELECT t1.* FROM User t1 ORDER BY t1.name, t1._pos LIMIT 3") (Rows (ann ∷ ann_again ∷ bob ∷ []))
  pub sorted_down : Gives (codes "SELECT t1.* FROM User t1 ORDER BY t1.name DESC, t1._pos LIMIT 3") (Rows (dan ∷ cat ∷ bob ∷ []))
  pub limit_of_none : Gives (codes "SELECT t1.* FROM User t1 ORDER BY t1.name, t1._pos LIMIT 0") (Rows [])
  pub limit_past_all : Gives (codes "SELECT t1.* FROM User t1 ORDER BY t1.name, t1._pos LIMIT 9") (Rows (ann ∷ ann_again ∷ bob ∷ cat ∷ dan ∷ []))
  pub positions : Gives (codes "SELECT t1.* FROM User t1 WHERE t1._pos < 3 ORDER BY t1._pos") (Rows (ann ∷ bob ∷ cat ∷ []))
  pub grouped : Gives (codes "SELECT t1.name FROM User t1 GROUP BY t1.name ORDER BY MIN(t1._pos)") (Rows (text (codes "ann") ∷ text (codes "bob") ∷ text (codes "cat") ∷ text (codes "dan") ∷ []))
  pub no_aliases : Gives (codes "SELECT name FROM User WHERE age = 25 ORDER BY _pos") (Rows (text (codes "bob") ∷ text (codes "dan") ∷ []))
  pub positions_down : Gives (codes "SELECT id FROM Role ORDER BY _pos DESC") (Rows (long 2 ∷ long 2 ∷ long 1 ∷ []))
  pub two_conjuncts : Gives (codes "SELECT t1.* FROM User t1 WHERE t1.active = TRUE AND t1.age > 20 ORDER BY t1._pos") (Rows (ann ∷ cat ∷ []))
  pub parameter : GivesAt (codes "SELECT t1.* FROM User t1 WHERE t1.roleId = ?1 AND t1.active = TRUE ORDER BY t1._pos") 2 (Rows (ann ∷ cat ∷ []))
  pub quote : Gives (codes "SELECT t1.* FROM User t1 WHERE t1.name = 'O''N' ORDER BY t1._pos") (Rows [])
  pub unordered : Gives (codes "SELECT t1.* FROM User t1") (Rows (ann ∷ bob ∷ cat ∷ ann_again ∷ dan ∷ []))
  pub precedence : Gives (codes "SELECT * FROM User WHERE (NOT active AND age = 25 OR name = 'cat') AND id <> 5 ORDER BY _pos") (Rows (bob ∷ cat ∷ []))

pub record WorkedNumbers : Type 0 where
  pub greatest : Gives (codes "SELECT COALESCE(MAX(t1.age), 10) FROM User t1 WHERE t1.age > 10") (one_long 41)
  pub greatest_of_none : Gives (codes "SELECT COALESCE(MAX(t1.age), 10) FROM User t1 WHERE t1.age > 100") (one_long 10)
  pub least : Gives (codes "SELECT COALESCE(MIN(t1.age), 0) FROM User AS t1") (one_long 19)
  pub sum : Gives (codes "SELECT COALESCE(SUM(t1.age), 0) FROM User t1") (one_long 140)
  pub count : Gives (codes "SELECT COUNT(*) FROM User t1 WHERE t1.active = TRUE") (one_long 3)
  pub count_at : GivesAt (codes "SELECT COUNT(*) FROM Role t1 WHERE t1.id = ?1") 2 (one_long 2)
  pub count_of_none : GivesAt (codes "SELECT COUNT(*) FROM Role t1 WHERE t1.id = ?1") 3 (one_long 0)
  pub exists : Gives (codes "SELECT EXISTS (SELECT 1 FROM User t1 WHERE t1.active = TRUE)") (one_truth true)
  pub not_exists : Gives (codes "SELECT NOT EXISTS (SELECT 1 FROM User t1 WHERE t1.active = FALSE)") (one_truth false)

pub record WorkedFaults : Type 0 where
  pub two_counted : Breaks (codes "SELECT COUNT(*) FROM User, Role") rules.BadToken
  pub not_one : Breaks (codes "SELECT EXISTS (SELECT 01 FROM User)") rules.BadToken
  pub unbalanced : Breaks (codes "SELECT * FROM User WHERE (age = 1 ORDER BY _pos") rules.BadToken
  pub comment : Breaks (codes "SELECT * FROM User -- all") rules.BadToken
  pub open_quote : Breaks (codes "SELECT * FROM User WHERE name = 'ann") rules.BadToken
  pub large_limit : Breaks (codes "SELECT * FROM User ORDER BY _pos LIMIT 9223372036854775808") rules.BadToken
  pub least_down : Breaks (codes "SELECT name FROM User GROUP BY name ORDER BY MIN(_pos) DESC") rules.BadToken
  pub no_table : Breaks (codes "SELECT * FROM Nobody") rules.Unknown
  pub no_column : Breaks (codes "SELECT label FROM User") rules.Unknown
  pub two_items : Breaks (codes "SELECT name FROM User, Role") rules.Unknown
  pub equal_aliases : Breaks (codes "SELECT u.name FROM User u, Role u") rules.Unknown
  pub other_type : Breaks (codes "SELECT * FROM User WHERE age = 'x'") rules.Mismatch
  pub no_order_of_truths : Breaks (codes "SELECT * FROM User WHERE active < TRUE") rules.Mismatch
  pub no_truth : Breaks (codes "SELECT * FROM User WHERE name") rules.Mismatch
  pub other_group : Breaks (codes "SELECT name FROM User GROUP BY age ORDER BY MIN(_pos)") rules.BadGroup
  pub least_of_no_group : Breaks (codes "SELECT name FROM User ORDER BY MIN(_pos)") rules.BadGroup
  pub gap : Breaks (codes "SELECT * FROM User WHERE age = ?2") rules.BadParameter
  pub compared_with_none : Breaks (codes "SELECT * FROM User WHERE ?1 = ?1") rules.BadParameter
  pub two_types : Breaks (codes "SELECT * FROM User WHERE age = ?1 AND name = ?1") rules.BadParameter

-- texts with their answers on the two tables, and texts with no query
pub record Worked : Type 0 where
  pub lists : WorkedLists
  pub numbers : WorkedNumbers
  pub faults : WorkedFaults
