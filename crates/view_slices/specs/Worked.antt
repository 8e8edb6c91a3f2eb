-- Views of small classes, and what is no view of them.
use Rattle.std.specs.Prelude.{◌≡◌, ℕ, ◌+◌, List, [], ◌∷◌, ◌++◌, Bool, true, false, map, codes, Option, Some, None}
use Rattle.qbs_base.specs.declared.columns.Column.{Column}
use Rattle.qbs_base.specs.declared.columns.Table.{Table}
use Rattle.qbs_base.specs.declared.scalar.Ty.{Ty}
use Rattle.qbs_base.specs.declared.scalar.Ty.TheVariants as tys
use Rattle.view_items.specs.declared.item.ItemKind.TheVariants as items
use Rattle.view_items.specs.Items.{items_of}
use Rattle.view_map.specs.declared.model.FetchPattern.{FetchPattern}
use Rattle.view_map.specs.declared.model.Member.{Member}
use Rattle.view_map.specs.declared.model.Part.TheVariants as parts
use Rattle.view_map.specs.declared.model.PatternItem.{PatternItem}
use Rattle.view_map.specs.declared.model.QueryKind.TheVariants as queries
use Rattle.view_map.specs.declared.model.RowClass.{RowClass}
use Rattle.view_map.specs.declared.model.ScalarKind.{ScalarKind}
use Rattle.view_map.specs.declared.model.ScalarKind.TheVariants as kinds
use Rattle.view_map.specs.declared.model.Template.{Template}
use Rattle.view_map.specs.declared.model.ViewMap.{ViewMap}
use Rattle.view_rules.specs.declared.expression.Operator.TheVariants as signs
use Rattle.view_rules.specs.declared.java_type.JavaType.{JavaType}
use Rattle.view_rules.specs.declared.java_type.JavaType.TheVariants as types
use Rattle.view_rules.specs.declared.sight.Param.{Param}
use Rattle.view_rules.specs.declared.sight.Sighted.{Sighted}
use Rattle.view_rules.specs.Tree.{PlainExpression}
use Rattle.view_rules.specs.Tree as exprs
use Rattle.view_shapes.specs.declared.method.Method.{Method}
use Rattle.view_shapes.specs.declared.method.Parameter.{Parameter}
use Rattle.view_statements.specs.declared.slice.Printed.{Printed}
use Rattle.view_statements.specs.declared.slice.Words.{Words}
use Rattle.view_slices.specs.Slices.{File, PlainSlice, PlainEnding, Open, Grouped, Returned, is_slice}
use Rattle.view_slices.specs.Views.{PlainSliced, file_in, is_view, is_again, class_cells}
use Rattle.view_statements.specs.declared.statement.Step.TheVariants as counts
use Rattle.view_statements.specs.Tree.{PlainStatement, PlainStatements, Nothing, Then}
use Rattle.view_statements.specs.Tree as plain

-- ---- A schema and a map

abbrev column : List ℕ → Ty → Column
column name ty = record { name = name; ty = ty; not_null = true; primary = false }

abbrev accounts : Table
accounts =
    record {
      name = codes "user_account";
      columns = column (codes "id") tys.Long ∷ column (codes "enabled") tys.Bool ∷ column (codes "age") tys.Long ∷ column (codes "role_id") tys.Long ∷ [];
    }

abbrev member : ScalarKind → Bool → List ℕ → ℕ → Member
member kind boxed name column = record { java = record { kind = kind; boxed = boxed }; name = name; is_call = true; column = column }

-- Long getId(), boolean isEnabled(), int getAge(), Long getRoleId()
abbrev account_class : RowClass
account_class =
    record {
      class = codes "UserAccount";
      within = None;
      table = 0;
      by_value = false;
      members =
          member kinds.Long true (codes "getId") 0 ∷ member kinds.Boolean false (codes "isEnabled") 1 ∷ member kinds.Int false (codes "getAge") 2
          ∷ member kinds.Long true (codes "getRoleId") 3 ∷ [];
    }

abbrev word : List ℕ → PatternItem
word bytes = record { kind = items.Name; bytes = bytes }

abbrev sign : List ℕ → PatternItem
sign bytes = record { kind = items.Sign; bytes = bytes }

-- users.findAll()
abbrev find_all : FetchPattern
find_all =
    record { table = 0; within = None; items = word (codes "users") ∷ sign (codes ".") ∷ word (codes "findAll") ∷ sign (codes "(") ∷ sign (codes ")") ∷ [] }

-- db.queryBoolean($sql {, $arg})
abbrev query_boolean : Template
query_boolean =
    record {
      kind = queries.Boolean;
      front =
          parts.Item (word (codes "db")) ∷ parts.Item (sign (codes ".")) ∷ parts.Item (word (codes "queryBoolean")) ∷ parts.Item (sign (codes "(")) ∷ parts.Sql ∷ [];
      each = parts.Item (sign (codes ",")) ∷ parts.Argument ∷ [];
      back = parts.Item (sign (codes ")")) ∷ [];
    }

abbrev accounts_map : ViewMap
accounts_map =
    record { classes = account_class ∷ []; fetches = find_all ∷ []; constants = []; templates = query_boolean ∷ []; texts_binary = true }

abbrev words : Words
words = record { classes = 0 ∷ []; fetches = 0 ∷ []; templates = 0 ∷ []; map_constants = []; constants = []; clear = [] }

-- ---- Views

abbrev seen_in : Option File → List PlainSliced → Bool
seen_in None ms = false
seen_in (Some file) ms = is_view accounts_map (accounts ∷ []) file ms

-- these methods are what is seen of a source
abbrev pub is_seen : List ℕ → PlainSliced → Bool
is_seen source m = seen_in (file_in accounts_map source) (m ∷ [])

abbrev tokens_in : Option File → List PlainSliced → List (List ℕ)
tokens_in None ms = []
tokens_in (Some file) ms = map (λ c. c.bytes) (class_cells accounts_map (accounts ∷ []) file ms)

abbrev pub tokens : List ℕ → PlainSliced → List (List ℕ)
tokens source m = tokens_in (file_in accounts_map source) (m ∷ [])

abbrev pub words_of : List ℕ → List (List ℕ)
words_of source = map (λ i. i.bytes) (items_of source)

abbrev scalar : ScalarKind → Bool → JavaType
scalar kind boxed = types.Scalar (record { kind = kind; boxed = boxed })

abbrev outer : List ℕ → JavaType → Sighted
outer name java = record { name = name; java = java; outside = true; column = None }

abbrev param : List ℕ → Option ℕ → List ℕ → Param
param variable column name = record { variable = variable; column = column; name = name }

abbrev print : List ℕ → JavaType → Printed
print name java = record { name = name; java = java }

abbrev method : List Parameter → Bool → ℕ → ℕ → Method
method ps truth from to = record { name = 4; parameters = ps; gives_truth = truth; from = from; to = to }

abbrev sliced : Method → PlainSlice → PlainSliced
sliced m s = record { read = record { method = m; words = words }; slices = s ∷ [] }

abbrev one : PlainStatement → PlainStatements
one st = Then st Nothing

-- `for (UserAccount u : users.findAll()) { .. }`
abbrev each_account : ℕ → ℕ → ℕ → PlainStatements → ℕ → PlainStatement
each_account at name close body end = plain.ForEach at false name (types.Row 0) (exprs.Fetch (name + 2) 0) close true body end

-- `u.m()`, u being at an item
abbrev column_at : ℕ → ℕ → PlainExpression
column_at at number = exprs.Column (exprs.Variable at) (at + 1) 0 number

-- ---- A slice in the block of a loop: what it sets is read before it in the text, and after it in time

abbrev pub counting : List ℕ
counting = codes "class D { void f(int n) { while (g(n)) { n = 0; for (UserAccount u : users.findAll()) { n++; } } } }"

abbrev counting_slice : List ℕ → List Printed → PlainSlice
counting_slice each prints =
    record {
      from = 18;
      to = 38;
      block = record { from = 18; to = 38 };
      outside = outer (codes "n") (scalar kinds.Int false) ∷ [];
      declared = 7 ∷ [];
      params = param (codes "n") None (codes "n") ∷ [];
      kinds = kinds.Int ∷ [];
      tested = [];
      gets = true;
      prints = prints;
      each = each;
      statements = Then (plain.Assignment 18 (exprs.Literal 20) 21) (one (each_account 22 25 32 (one (plain.Stepped 34 counts.Up 34 35 36)) 37));
      ending = Open;
    }

abbrev counting_method : Method
counting_method = method (record { ty = 6; name = 7 } ∷ []) false 10 39

abbrev counting_with : List Printed → PlainSliced
counting_with prints = sliced counting_method (counting_slice (codes "each") prints)

abbrev pub printed : PlainSliced
printed = counting_with (print (codes "n") (scalar kinds.Int false) ∷ [])

abbrev pub unprinted : PlainSliced
unprinted = counting_with []

-- what a slice in the block of a loop sets is printed, since the loop's condition names it before
pub record WorkedLoops : Type 0 where
  pub with_print : is_seen counting printed ≡ true
  pub without_print : is_seen counting unprinted ≡ false
  pub its_tokens : tokens counting printed ≡ words_of (codes "class D { void s1(int n) { n = 0; for (user_account u : db.fetch(user_account.class)) { n++; } System.out.println(n); } }")

-- ---- Rows from outside: their columns are parameters

abbrev pub reporting : List ℕ
reporting =
    codes "class D { void r(String title) { for (UserAccount chief : users.findAll()) { int younger = 0; for (UserAccount u : users.findAll()) { if (u.getRoleId().equals(chief.getRoleId()) && u.getAge() < chief.getAge()) { younger++; } } say(title, chief, younger); } } }"

abbrev is_younger : PlainExpression
is_younger =
    exprs.Binary signs.And (exprs.Equals 41 false (column_at 41 3) 46 (exprs.OuterColumn 49 0 3 0) 54) 55
    (exprs.Binary signs.Less (column_at 56 2) 61 (exprs.OuterColumn 62 0 2 1))

-- with further parameters
abbrev reporting_slice : List Param → List ScalarKind → PlainSlice
reporting_slice params scalars =
    record {
      from = 22;
      to = 74;
      block = record { from = 22; to = 83 };
      outside = outer (codes "chief") (types.Row 0) ∷ [];
      declared = 13 ∷ [];
      params = param (codes "chief") (Some 3) (codes "chief_role_id") ∷ param (codes "chief") (Some 2) (codes "chief_age") ∷ params;
      kinds = kinds.Long ∷ kinds.Int ∷ scalars;
      tested = [];
      gets = true;
      prints = print (codes "younger") (scalar kinds.Int false) ∷ [];
      each = codes "each";
      statements =
          Then (plain.Declaration 22 23 (scalar kinds.Int false) (exprs.Literal 25) 26)
          (one (each_account 27 30 37 (one (plain.If 39 is_younger 67 true (one (plain.Stepped 69 counts.Up 69 70 71)) 72)) 73));
      ending = Open;
    }

abbrev reported_with : List Param → List ScalarKind → PlainSliced
reported_with params scalars = sliced (method (record { ty = 6; name = 7 } ∷ []) false 10 84) (reporting_slice params scalars)

abbrev pub reported : PlainSliced
reported = reported_with [] []

-- columns of a row from outside are parameters
pub record WorkedColumns : Type 0 where
  pub columns : is_seen reporting reported ≡ true
  pub their_tokens : tokens reporting reported ≡ words_of (codes "class D { void s1(long chief_role_id, int chief_age) { int younger = 0; for (user_account u : db.fetch(user_account.class)) { if ((u.role_id == chief_role_id) && u.age < chief_age) { younger++; } } System.out.println(younger); } }")

-- ---- A group, and what stands in its place when its loop gave way

abbrev pub asking : List ℕ
asking = codes "class D { boolean h() { for (UserAccount u : users.findAll()) { if (u.isEnabled()) { return true; } } return false; } }"

abbrev pub asked : List ℕ
asked = codes "class D { boolean h() { boolean found = db.queryBoolean(\"q\"); return found; } }"

abbrev asking_slice : ℕ → PlainStatements → PlainEnding → PlainSlice
asking_slice to statements ending =
    record {
      from = 8;
      to = to;
      block = record { from = 8; to = to };
      outside = [];
      declared = [];
      params = [];
      kinds = [];
      tested = [];
      gets = true;
      prints = print (codes "found") (scalar kinds.Boolean false) ∷ [];
      each = codes "each";
      statements = statements;
      ending = ending;
    }

abbrev walk_at : ℕ → PlainStatement
walk_at at =
    each_account at (at + 3) (at + 10)
    (one (plain.If (at + 12) (column_at (at + 14) 1) (at + 19) true (one (plain.Found (at + 21) (at + 22) (at + 23))) (at + 24))) (at + 25)

abbrev group_at : ℕ → PlainEnding
group_at at = Grouped (record { variable = codes "found"; value = true; walk = walk_at at })

abbrev pub group_slice : PlainSlice
group_slice = asking_slice 37 Nothing (group_at 8)

abbrev pub query_slice : PlainSlice
query_slice =
    asking_slice 21 (one (plain.Declaration 8 9 (scalar kinds.Boolean false) (exprs.Query 11 false 0 15 (scalar kinds.Boolean false) exprs.End) 17))
    (Returned (codes "found"))

abbrev pub grouped : PlainSliced
grouped = sliced (method [] true 8 37) group_slice

abbrev pub queried : PlainSliced
queried = sliced (method [] true 8 21) query_slice

-- the same without what is returned
abbrev pub unreturned : PlainSlice
unreturned = asking_slice 18 query_slice.statements Open

-- a slice whose loop gave way is one again, with what it returns
pub record WorkedGroups : Type 0 where
  pub before : is_seen asking grouped ≡ true
  pub behind : is_seen asked queried ≡ true
  pub again : is_again (items_of asking) group_slice (items_of asked) query_slice ≡ true
  pub without_return : is_again (items_of asking) group_slice (items_of asked) unreturned ≡ false
  pub tokens_before : tokens asking grouped ≡ words_of (codes "class D { void s1() { boolean found = false; for (user_account u : db.fetch(user_account.class)) { if (u.enabled) { found = true; } } System.out.println(found); } }")
  pub tokens_behind : tokens asked queried ≡ words_of (codes "class D { void s1() { boolean found = db.queryBoolean(\"q\"); System.out.println(found); } }")

-- ---- Two groups of a method, of which one gave way

abbrev pub searching : List ℕ
searching =
    codes "class D { boolean h(boolean c) { if (c) { for (UserAccount u : users.findAll()) { if (u.isEnabled()) { return true; } } return false; } for (UserAccount u : users.findAll()) { if (u.isEnabled()) { return true; } } return false; } }"

abbrev pub searched : List ℕ
searched =
    codes "class D { boolean h(boolean c) { if (c) { boolean found = db.queryBoolean(\"q\"); return found; } for (UserAccount u : users.findAll()) { if (u.isEnabled()) { return true; } } return false; } }"

abbrev pub search_slice : ℕ → ℕ → PlainSlice
search_slice from block =
    record {
      from = from;
      to = from + 29;
      block = record { from = block; to = from + 29 };
      outside = [];
      declared = [];
      params = [];
      kinds = [];
      tested = [];
      gets = true;
      prints = print (codes "found") (scalar kinds.Boolean false) ∷ [];
      each = codes "each";
      statements = Nothing;
      ending = group_at from;
    }

abbrev search_method : ℕ → Method
search_method to = method (record { ty = 6; name = 7 } ∷ []) true 10 to

abbrev pub both_searches : PlainSliced
both_searches = record { read = record { method = search_method 74; words = words }; slices = search_slice 15 15 ∷ search_slice 45 10 ∷ [] }

abbrev pub kept_search : PlainSliced
kept_search = sliced (search_method 58) (search_slice 29 10)

abbrev slice_in : Option File → Method → PlainSlice → Bool
slice_in None m s = false
slice_in (Some file) m s = is_slice accounts_map (accounts ∷ []) file words m s

-- a group that is kept is a slice again beside one that gave way, which has its variable in the method; a view asks that of the source alone
pub record WorkedSearches : Type 0 where
  pub both : is_seen searching both_searches ≡ true
  pub kept : slice_in (file_in accounts_map searched) (search_method 58) (search_slice 29 10) ≡ true
  pub again : is_again (items_of searching) (search_slice 45 10) (items_of searched) (search_slice 29 10) ≡ true
  pub no_source : is_seen searched kept_search ≡ false

-- ---- Parameters that a slice doesn't name

abbrev pub unnaming : List ℕ
unnaming = codes "class D { void f(int n, Long id) { while (g(n)) { n = 0; for (UserAccount u : users.findAll()) { n++; } } } }"

abbrev unnaming_slice : List Sighted → List ℕ → List Param → List ScalarKind → PlainSlice
unnaming_slice outside declared params scalars =
    record {
      from = 21;
      to = 41;
      block = record { from = 21; to = 41 };
      outside = outside;
      declared = declared;
      params = params;
      kinds = scalars;
      tested = [];
      gets = true;
      prints = print (codes "n") (scalar kinds.Int false) ∷ [];
      each = codes "each";
      statements = Then (plain.Assignment 21 (exprs.Literal 23) 24) (one (each_account 25 28 35 (one (plain.Stepped 37 counts.Up 37 38 39)) 40));
      ending = Open;
    }

abbrev unnaming_method : Method
unnaming_method = method (record { ty = 6; name = 7 } ∷ record { ty = 9; name = 10 } ∷ []) false 13 42

abbrev pub handed_all : PlainSliced
handed_all =
    sliced unnaming_method
    (unnaming_slice (outer (codes "n") (scalar kinds.Int false) ∷ outer (codes "id") (scalar kinds.Long true) ∷ []) (7 ∷ 10 ∷ [])
    (param (codes "n") None (codes "n") ∷ param (codes "id") None (codes "id") ∷ []) (kinds.Int ∷ kinds.Long ∷ []))

abbrev pub handed_named : PlainSliced
handed_named =
    sliced unnaming_method
    (unnaming_slice (outer (codes "n") (scalar kinds.Int false) ∷ outer (codes "id") (scalar kinds.Long true) ∷ []) (7 ∷ 10 ∷ [])
    (param (codes "n") None (codes "n") ∷ []) (kinds.Int ∷ []))

-- what a slice doesn't name is no parameter, since it may be null
pub record WorkedParameters : Type 0 where
  pub named : is_seen unnaming handed_named ≡ true
  pub unnamed : is_seen unnaming handed_all ≡ false

-- ---- Statements whose widths aren't seen

abbrev counted : List ℕ → JavaType → ScalarKind → ℕ → ℕ → List Printed → PlainStatements → PlainSlice
counted name java kind to end prints statements =
    record {
      from = 10;
      to = to;
      block = record { from = 10; to = end };
      outside = outer name java ∷ [];
      declared = 7 ∷ [];
      params = param name None name ∷ [];
      kinds = kind ∷ [];
      tested = [];
      gets = true;
      prints = prints;
      each = codes "each";
      statements = statements;
      ending = Open;
    }

abbrev counted_in : ℕ → PlainSlice → PlainSliced
counted_in end s = sliced (method (record { ty = 6; name = 7 } ∷ []) false 10 end) s

abbrev pub multiplied : List ℕ → List ℕ
multiplied literal = codes "class D { void f(long n) { for (UserAccount u : users.findAll()) { n = u.getAge() * " ++ (literal ++ codes "; } g(n); } }")

abbrev pub multiplied_slice : PlainSlice
multiplied_slice =
    counted (codes "n") (scalar kinds.Long false) kinds.Long 33 38 (print (codes "n") (scalar kinds.Long false) ∷ [])
    (one (each_account 10 13 20 (one (plain.Assignment 22 (exprs.Binary signs.Times (column_at 24 2) 29 (exprs.Literal 30)) 31)) 32))

abbrev pub named : List ℕ → List ℕ
named word = codes "class D { void f(long n) { for (UserAccount u : users.findAll()) { " ++ (word ++ codes " v = u.getAge(); n = v * v; } g(n); } }")

abbrev pub named_slice : ScalarKind → PlainSlice
named_slice kind =
    counted (codes "n") (scalar kinds.Long false) kinds.Long 38 43 (print (codes "n") (scalar kinds.Long false) ∷ [])
    (one (each_account 10 13 20
    (Then (plain.Named 22 23 (scalar kind false) (column_at 25 2) 30)
    (one (plain.Assignment 31 (exprs.Binary signs.Times (exprs.NamedColumn 33 13 0 2) 34 (exprs.NamedColumn 35 13 0 2)) 36))) 37))

-- a literal or a name of a column of another width is seen as the same, or nearly so, but it is none of the source's statements
pub record WorkedWidths : Type 0 where
  pub itself : is_again (items_of (multiplied (codes "9L"))) multiplied_slice (items_of (multiplied (codes "9L"))) multiplied_slice ≡ true
  pub seen_with_other : is_seen (multiplied (codes "9")) (counted_in 38 multiplied_slice) ≡ true
  pub other_literal : is_again (items_of (multiplied (codes "9L"))) multiplied_slice (items_of (multiplied (codes "9"))) multiplied_slice ≡ false
  pub named_itself : is_again (items_of (named (codes "long"))) (named_slice kinds.Long) (items_of (named (codes "long"))) (named_slice kinds.Long) ≡ true
  pub seen_with_name : is_seen (named (codes "int")) (counted_in 43 (named_slice kinds.Int)) ≡ true
  pub same_tokens : tokens (named (codes "int")) (counted_in 43 (named_slice kinds.Int)) ≡ tokens (named (codes "long")) (counted_in 43 (named_slice kinds.Long))
  pub other_name : is_again (items_of (named (codes "long"))) (named_slice kinds.Long) (items_of (named (codes "int"))) (named_slice kinds.Int) ≡ false

-- ---- Constants of Java

abbrev pub constant : List ℕ
constant = codes "class D { void f(int k) { final int n = 98; for (UserAccount u : users.findAll()) { k++; } g(k, n); } }"

abbrev pub changing : List ℕ
changing = codes "class D { void f(int k) { int n = 98; for (UserAccount u : users.findAll()) { k++; } g(k, n); } }"

-- where the declaration begins at 10, and its name is behind so many items
abbrev constant_slice : ℕ → PlainSlice
constant_slice front =
    counted (codes "k") (scalar kinds.Int false) kinds.Int (front + 20) (front + 27)
    (print (codes "n") (scalar kinds.Int false) ∷ print (codes "k") (scalar kinds.Int false) ∷ [])
    (Then (plain.Declaration 10 front (scalar kinds.Int false) (exprs.Literal (front + 2)) (front + 3))
    (one (each_account (front + 4) (front + 7) (front + 14) (one (plain.Stepped (front + 16) counts.Up (front + 16) (front + 17) (front + 18))) (front + 19))))

-- a `final` variable stays one where it is named behind the slice, since Java may take it for a constant
pub record WorkedConstants : Type 0 where
  pub seen : is_seen constant (counted_in 39 (constant_slice 12)) ≡ true
  pub seen_without : is_seen changing (counted_in 38 (constant_slice 11)) ≡ true
  pub same_tokens : tokens constant (counted_in 39 (constant_slice 12)) ≡ tokens changing (counted_in 38 (constant_slice 11))
  pub itself : is_again (items_of constant) (constant_slice 12) (items_of constant) (constant_slice 12) ≡ true
  pub without : is_again (items_of constant) (constant_slice 12) (items_of changing) (constant_slice 11) ≡ false

-- ---- A loop inside of a loop gives way

abbrev pub nested : List ℕ
nested =
    codes "class D { void f(int n) { for (UserAccount u : users.findAll()) { boolean b = false; for (UserAccount v : users.findAll()) { if (v.getAge() > u.getAge()) { b = true; } } if (b) { n++; } } g(n); } }"

abbrev pub nested_query : List ℕ
nested_query =
    codes "class D { void f(int n) { for (UserAccount u : users.findAll()) { boolean b = db.queryBoolean(\"q\", u.getAge()); if (b) { n++; } } g(n); } }"

abbrev counting_slice_to : ℕ → ℕ → PlainStatement → PlainSlice
counting_slice_to to end st =
    counted (codes "n") (scalar kinds.Int false) kinds.Int to end (print (codes "n") (scalar kinds.Int false) ∷ []) (one st)

-- `if (b) { n++; }`
abbrev if_found : ℕ → PlainStatement
if_found at = plain.If at (exprs.Variable (at + 2)) (at + 3) true (one (plain.Stepped (at + 5) counts.Up (at + 5) (at + 6) (at + 7))) (at + 8)

abbrev pub nested_slice : PlainSlice
nested_slice =
    counting_slice_to 70 75
    (each_account 10 13 20
    (Then (plain.Declaration 22 23 (scalar kinds.Boolean false) (exprs.Literal 25) 26)
    (Then (each_account 27 30 37
    (one (plain.If 39 (exprs.Binary signs.Greater (column_at 41 2) 46 (column_at 47 2)) 52 true (one (plain.Assignment 54 (exprs.Literal 56) 57)) 58)) 59)
    (one (if_found 60)))) 69)

abbrev pub nested_query_slice : PlainSlice
nested_query_slice =
    counting_slice_to 48 53
    (each_account 10 13 20
    (Then (plain.Declaration 22 23 (scalar kinds.Boolean false)
    (exprs.Query 25 false 0 29 (scalar kinds.Long false) (exprs.Next (column_at 31 2) exprs.End)) 37)
    (one (if_found 38))) 47)

-- a statement that asks stands in place of others in the body of one that is kept
pub record WorkedNested : Type 0 where
  pub before : is_seen nested (counted_in 75 nested_slice) ≡ true
  pub behind : is_seen nested_query (counted_in 53 nested_query_slice) ≡ true
  pub again : is_again (items_of nested) nested_slice (items_of nested_query) nested_query_slice ≡ true
  pub without_query : is_again (items_of nested_query) nested_query_slice (items_of nested) nested_slice ≡ false

-- ---- Declarations that ask

abbrev pub asked_constant : List ℕ
asked_constant = codes "class D { void f(int k) { final boolean n = db.queryBoolean(\"q\"); for (UserAccount u : users.findAll()) { k++; } g(k, n); } }"

abbrev pub asked_changing : List ℕ
asked_changing = codes "class D { void f(int k) { boolean n = db.queryBoolean(\"q\"); for (UserAccount u : users.findAll()) { k++; } g(k, n); } }"

-- where the declaration begins at 10, and its name is behind so many items
abbrev asked_slice : ℕ → PlainSlice
asked_slice front =
    counted (codes "k") (scalar kinds.Int false) kinds.Int (front + 25) (front + 32)
    (print (codes "n") (scalar kinds.Boolean false) ∷ print (codes "k") (scalar kinds.Int false) ∷ [])
    (Then (plain.Declaration 10 front (scalar kinds.Boolean false) (exprs.Query (front + 2) false 0 (front + 6) (scalar kinds.Boolean false) exprs.End) (front + 8))
    (one (each_account (front + 9) (front + 12) (front + 19) (one (plain.Stepped (front + 21) counts.Up (front + 21) (front + 22) (front + 23))) (front + 24))))

-- a declaration that asks is one again where it stands, `final` or not, and not without the source's `final`
pub record WorkedHeads : Type 0 where
  pub seen : is_seen asked_constant (counted_in 44 (asked_slice 12)) ≡ true
  pub itself : is_again (items_of asked_constant) (asked_slice 12) (items_of asked_constant) (asked_slice 12) ≡ true
  pub seen_without : is_seen asked_changing (counted_in 43 (asked_slice 11)) ≡ true
  pub without : is_again (items_of asked_constant) (asked_slice 12) (items_of asked_changing) (asked_slice 11) ≡ false

-- ---- Rows in sight

abbrev pub beside_row : List ℕ
beside_row = codes "class D { void f(int k, UserAccount a) { for (UserAccount u : users.findAll()) { k++; } g(k, a); } }"

abbrev beside_row_slice : List Sighted → List ℕ → PlainSlice
beside_row_slice outside declared =
    record {
      from = 13;
      to = 29;
      block = record { from = 13; to = 36 };
      outside = outside;
      declared = declared;
      params = param (codes "k") None (codes "k") ∷ [];
      kinds = kinds.Int ∷ [];
      tested = [];
      gets = true;
      prints = print (codes "k") (scalar kinds.Int false) ∷ [];
      each = codes "each";
      statements = one (each_account 13 16 23 (one (plain.Stepped 25 counts.Up 25 26 27)) 28);
      ending = Open;
    }

abbrev beside_row_method : Method
beside_row_method = method (record { ty = 6; name = 7 } ∷ record { ty = 9; name = 10 } ∷ []) false 13 36

abbrev pub with_row : PlainSliced
with_row =
    sliced beside_row_method
    (beside_row_slice (outer (codes "k") (scalar kinds.Int false) ∷ outer (codes "a") (types.Row 0) ∷ []) (7 ∷ 10 ∷ []))

abbrev pub without_row : PlainSliced
without_row = sliced beside_row_method (beside_row_slice (outer (codes "k") (scalar kinds.Int false) ∷ []) (7 ∷ []))

-- what is from outside names each row in sight, though the slice doesn't
pub record WorkedRows : Type 0 where
  pub named : is_seen beside_row with_row ≡ true
  pub unnamed : is_seen beside_row without_row ≡ false

-- ---- Slices without a bound

abbrev prints_twice : List Printed
prints_twice = print (codes "n") (scalar kinds.Int false) ∷ print (codes "n") (scalar kinds.Int false) ∷ []

abbrev pub printed_twice : PlainSlice
printed_twice = counting_slice (codes "each") prints_twice

-- of 97 bytes
abbrev pub named_long : PlainSlice
named_long =
    counting_slice (codes "e123456789012345678901234567890123456789012345678901234567890123456789012345678901234567890123456")
    (print (codes "n") (scalar kinds.Int false) ∷ [])

abbrev pub handed_twice : PlainSliced
handed_twice = reported_with (param (codes "chief") (Some 2) (codes "chief_age2") ∷ []) (kinds.Int ∷ [])

-- behind `n = 0;`, before the loop
abbrev pub without_items : PlainSlice
without_items =
    record {
      from = 22;
      to = 22;
      block = record { from = 18; to = 38 };
      outside = [];
      declared = [];
      params = [];
      kinds = [];
      tested = [];
      gets = true;
      prints = [];
      each = codes "each";
      statements = Nothing;
      ending = Open;
    }

abbrev pub is_counting_slice : PlainSlice → Bool
is_counting_slice s = slice_in (file_in accounts_map counting) counting_method s

abbrev pub is_counting_seen : PlainSlice → Bool
is_counting_seen s = is_seen counting (sliced counting_method s)

-- what prints or is handed a value twice, holds no item, or has a long name is none of the source, since any number or length would do
pub record WorkedBounds : Type 0 where
  pub twice : is_counting_slice printed_twice ≡ true
  pub seen_twice : is_counting_seen printed_twice ≡ false
  pub long : is_counting_slice named_long ≡ true
  pub seen_long : is_counting_seen named_long ≡ false
  pub empty : is_counting_slice without_items ≡ true
  pub seen_empty : is_counting_seen without_items ≡ false
  pub handed : is_seen reporting handed_twice ≡ false
