-- Expressions that are seen, and ones that are not.
use Rattle.std.specs.Prelude.{ℕ, List, [], ◌∷◌, ◌+◌, Bool, true, false, map, codes, Option, None}
use Rattle.qbs_base.specs.declared.columns.Column.{Column}
use Rattle.qbs_base.specs.declared.columns.Table.{Table}
use Rattle.qbs_base.specs.declared.scalar.Ty.{Ty}
use Rattle.qbs_base.specs.declared.scalar.Ty.TheVariants as tys
use Rattle.view_items.specs.declared.item.Item.{Item}
use Rattle.view_items.specs.declared.item.ItemKind.TheVariants as items
use Rattle.view_map.specs.declared.model.Constant.{Constant}
use Rattle.view_map.specs.declared.model.Member.{Member}
use Rattle.view_map.specs.declared.model.Part.TheVariants as parts
use Rattle.view_map.specs.declared.model.RowClass.{RowClass}
use Rattle.view_map.specs.declared.model.ScalarKind.{ScalarKind}
use Rattle.view_map.specs.declared.model.ScalarKind.TheVariants as kinds
use Rattle.view_map.specs.declared.model.ViewMap.{ViewMap}
use Rattle.view_rules.specs.declared.expression.NullTest.{NullTest}
use Rattle.view_rules.specs.declared.expression.Operator.TheVariants as ops
use Rattle.view_rules.specs.declared.java_type.JavaType.{JavaType}
use Rattle.view_rules.specs.declared.java_type.JavaType.TheVariants as types
use Rattle.view_rules.specs.declared.sight.Param.{Param}
use Rattle.view_rules.specs.declared.sight.Sighted.{Sighted}
use Rattle.view_rules.specs.Cells.{expression_cells}
use Rattle.view_rules.specs.Seen.{expression_of}
use Rattle.view_rules.specs.Names.{Seen}
use Rattle.view_rules.specs.Queries.{past_part}
use Rattle.view_rules.specs.Setting.{Within}
use Rattle.view_rules.specs.Tree.{PlainExpression}
use Rattle.view_rules.specs.Tree as plain

-- ---- A map and a schema

abbrev column : List ℕ → Ty → Column
column name ty = record { name = name; ty = ty; not_null = true; primary = false }

-- user_account (id, login, role_id, enabled, age)
abbrev pub accounts : Table
accounts =
    record {
      name = codes "user_account";
      columns =
          column (codes "id") tys.Long ∷ column (codes "login") tys.Text ∷ column (codes "role_id") tys.Long ∷ column (codes "enabled") tys.Bool
          ∷ column (codes "age") tys.Long ∷ [];
    }

abbrev pub member : ScalarKind → Bool → List ℕ → ℕ → Member
member kind boxed name column = record { java = record { kind = kind; boxed = boxed }; name = name; is_call = true; column = column }

-- Long getId(), String getLogin(), Long getRoleId(), boolean isEnabled(), int getAge()
abbrev pub account_class : RowClass
account_class =
    record {
      class = codes "UserAccount";
      within = None;
      table = 0;
      by_value = false;
      members =
          member kinds.Long true (codes "getId") 0 ∷ member kinds.Text true (codes "getLogin") 1 ∷ member kinds.Long true (codes "getRoleId") 2
          ∷ member kinds.Boolean false (codes "isEnabled") 3 ∷ member kinds.Int false (codes "getAge") 4 ∷ [];
    }

-- constant long Codes.LIMIT = 5
abbrev pub limit : Constant
limit =
    record { kind = kinds.Long; names = codes "Codes" ∷ codes "LIMIT" ∷ []; value = record { kind = kinds.Int; negative = false; bytes = codes "5" } }

abbrev pub accounts_map : ViewMap
accounts_map = record { classes = account_class ∷ []; fetches = []; constants = limit ∷ []; templates = []; texts_binary = true }

-- ---- A method

-- the items of these words, each of one byte
abbrev pub items_from : ℕ → List (List ℕ) → List Item
items_from n [] = []
items_from n (word ∷ words) = record { kind = items.Name; bytes = word; from = n; to = n + 1 } ∷ items_from (n + 1) words

abbrev pub param : List ℕ → Param
param name = record { variable = name; column = None; name = name }

-- of these words, where nothing obscures these names of classes
abbrev pub within_clear : List (List ℕ) → List (List ℕ) → Within
within_clear words clear =
    record {
      map = accounts_map;
      tables = accounts ∷ [];
      items = items_from 0 words;
      classes = 0 ∷ [];
      fetches = [];
      templates = [];
      map_constants = 0 ∷ [];
      constants = [];
      params = param (codes "roleId") ∷ param (codes "login") ∷ [];
      tested = [];
      clear = clear;
      gets = true;
    }

abbrev pub within : List (List ℕ) → Within
within words = within_clear words []

abbrev pub scalar : ScalarKind → Bool → JavaType
scalar kind boxed = types.Scalar (record { kind = kind; boxed = boxed })

abbrev sighted : List ℕ → JavaType → Bool → Sighted
sighted name java outside = record { name = name; java = java; outside = outside; column = None }

-- parameters of the method `Long roleId` and `String login`; of the slice's own a row `u`, an `int n` and a `List<Long> ids`
abbrev pub sight : List Sighted
sight =
    sighted (codes "roleId") (scalar kinds.Long true) true ∷ sighted (codes "login") (scalar kinds.Text true) true
    ∷ sighted (codes "u") (types.Row 0) false ∷ sighted (codes "n") (scalar kinds.Int false) false ∷ sighted (codes "ids") (types.Scalars kinds.Long) false ∷ []

abbrev pub seen : List (List ℕ) → PlainExpression → Option Seen
seen words e = expression_of (within words) sight e 0

abbrev pub tokens : List (List ℕ) → PlainExpression → List (List ℕ)
tokens words e = map (λ c. c.bytes) (expression_cells (within words) e)

-- `u.m()`, u being at an item
abbrev pub column_of : ℕ → ℕ → PlainExpression
column_of at number = plain.Column (plain.Variable at) (at + 1) 0 number

abbrev pub call : List ℕ → List (List ℕ) → List (List ℕ)
call name rest = codes "u" ∷ codes "." ∷ name ∷ codes "(" ∷ codes ")" ∷ rest

-- ---- The rules

-- roleId.equals(u.getRoleId()) && u.getLogin().equals(login)
abbrev pub both_words : List (List ℕ)
both_words =
    codes "roleId" ∷ codes "." ∷ codes "equals" ∷ codes "(" ∷ call (codes "getRoleId") (codes ")" ∷ codes "&&"
    ∷ call (codes "getLogin") (codes "." ∷ codes "equals" ∷ codes "(" ∷ codes "login" ∷ codes ")" ∷ []))

abbrev pub both : PlainExpression
both =
    plain.Binary ops.And (plain.Equals 0 false (plain.Parameter 0 0) 1 (column_of 4 2) 9) 10
    (plain.Equals 11 true (column_of 11 1) 16 (plain.Parameter 19 1) 20)

-- ( roleId == u . role_id ) && u . login . equals ( login )
abbrev pub both_tokens : List (List ℕ)
both_tokens =
    codes "(" ∷ codes "roleId" ∷ codes "==" ∷ codes "u" ∷ codes "." ∷ codes "role_id" ∷ codes ")" ∷ codes "&&" ∷ codes "u" ∷ codes "." ∷ codes "login"
    ∷ codes "." ∷ codes "equals" ∷ codes "(" ∷ codes "login" ∷ codes ")" ∷ []

-- u.getRoleId() == u.getId(): two boxed ones
abbrev pub boxes_words : List (List ℕ)
boxes_words = call (codes "getRoleId") (codes "==" ∷ call (codes "getId") [])

abbrev pub boxes : PlainExpression
boxes = plain.Binary ops.Same (column_of 0 2) 5 (column_of 6 0)

-- u.getRoleId() == n: one of them is primitive
abbrev pub box_words : List (List ℕ)
box_words = call (codes "getRoleId") (codes "==" ∷ codes "n" ∷ [])

abbrev pub box : PlainExpression
box = plain.Binary ops.Same (column_of 0 2) 5 (plain.Variable 6)

-- u.getRoleId().equals(n): a `Long` and an `int`
abbrev pub unlike_words : List (List ℕ)
unlike_words = call (codes "getRoleId") (codes "." ∷ codes "equals" ∷ codes "(" ∷ codes "n" ∷ codes ")" ∷ [])

abbrev pub unlike : PlainExpression
unlike = plain.Equals 0 false (column_of 0 2) 5 (plain.Variable 8) 9

abbrev pub test : ℕ → Bool → NullTest
test at null_first = record { at = at; wrapped = false; null_first = null_first; class = 0; member = 1 }

-- u.getLogin() != null && u.isEnabled()
abbrev pub before_words : List (List ℕ)
before_words = call (codes "getLogin") (codes "!=" ∷ codes "null" ∷ codes "&&" ∷ call (codes "isEnabled") [])

abbrev pub before : PlainExpression
before = plain.TestedBefore true (test 0 false ∷ []) (column_of 8 3)

-- u.isEnabled() || null == u.getLogin()
abbrev pub behind_words : List (List ℕ)
behind_words = call (codes "isEnabled") (codes "||" ∷ codes "null" ∷ codes "==" ∷ call (codes "getLogin") [])

abbrev pub behind : PlainExpression
behind = plain.TestedBehind false (column_of 0 3) (test 6 true ∷ [])

-- (u.getLogin() != null) && u.isEnabled()
abbrev pub wrapped_words : List (List ℕ)
wrapped_words = codes "(" ∷ call (codes "getLogin") (codes "!=" ∷ codes "null" ∷ codes ")" ∷ codes "&&" ∷ call (codes "isEnabled") [])

abbrev pub wrapped : PlainExpression
wrapped = plain.TestedBefore true (record { at = 0; wrapped = true; null_first = false; class = 0; member = 1 } ∷ []) (column_of 10 3)

-- u.getLogin() != null
abbrev pub alone_words : List (List ℕ)
alone_words = call (codes "getLogin") (codes "!=" ∷ codes "null" ∷ [])

-- Codes.LIMIT
abbrev pub limit_words : List (List ℕ)
limit_words = codes "Codes" ∷ codes "." ∷ codes "LIMIT" ∷ []

-- ids.contains(n): a `List` of `Long` and an `int`
abbrev pub contains_words : List (List ℕ)
contains_words = codes "ids" ∷ codes "." ∷ codes "contains" ∷ codes "(" ∷ codes "n" ∷ codes ")" ∷ []

-- ids.contains(u.getId())
abbrev pub contains_id_words : List (List ℕ)
contains_id_words = codes "ids" ∷ codes "." ∷ codes "contains" ∷ codes "(" ∷ call (codes "getId") (codes ")" ∷ [])

-- n + n * n
abbrev pub sum_words : List (List ℕ)
sum_words = codes "n" ∷ codes "+" ∷ codes "n" ∷ codes "*" ∷ codes "n" ∷ []

-- as it is read in Java, and as it isn't
abbrev pub sum : PlainExpression
sum = plain.Binary ops.Plus (plain.Variable 0) 1 (plain.Binary ops.Times (plain.Variable 2) 3 (plain.Variable 4))

abbrev pub product : PlainExpression
product = plain.Binary ops.Times (plain.Binary ops.Plus (plain.Variable 0) 1 (plain.Variable 2)) 3 (plain.Variable 4)

-- UserAccount.class, and UserAccount.of
abbrev pub literal_words : List (List ℕ)
literal_words = codes "UserAccount" ∷ codes "." ∷ codes "class" ∷ []

abbrev pub named_words : List (List ℕ)
named_words = codes "UserAccount" ∷ codes "." ∷ codes "of" ∷ []

-- where `$type` of a template ends, for a list of rows
abbrev pub type_end : List (List ℕ) → List (List ℕ) → Option ℕ
type_end words clear = past_part (within_clear words clear) 0 (types.Rows 0) parts.Type 0
