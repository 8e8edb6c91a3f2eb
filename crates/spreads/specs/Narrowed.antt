-- A walk over a table whose body is one `if`, narrowed: the rows are asked for of which the plain parts of its condition hold. The `if`
-- stays as it is.
use Rattle.std.specs.Prelude.{ℕ, zero, suc, List, [], ◌∷◌, ◌++◌, Bool, true, false, ◌&&◌, ◌||◌, length, nat_lt, if◌then◌else◌, slice_get}
use Rattle.std.specs.List.{list_any}
use Rattle.std.specs.Option.{option_map}
use Rattle.std.specs.Str.{bytes_eq}
use Rattle.std.specs.declared.option.Option.{Option}
use Rattle.std.specs.declared.option.Option.TheVariants.{Some, None}
use Rattle.qbs_base.specs.declared.columns.Column.{Column}
use Rattle.qbs_base.specs.declared.scalar.Scalar.TheVariants as scalars
use Rattle.qbs_base.specs.declared.span.Span.{Span}
use Rattle.qbs_base.specs.Columns.{columns_at, column_number, table_number}
use Rattle.qbs_base.specs.Values.{Schema}
use Rattle.sql_ast.specs.declared.tree.Cmp.{Cmp}
use Rattle.sql_ast.specs.declared.tree.Cmp.TheVariants as tests
use Rattle.sql_ast.specs.declared.tree.SqlCol.{SqlCol}
use Rattle.sql_ast.specs.declared.tree.SqlColumn.TheVariants as columns
use Rattle.sql_ast.specs.declared.tree.SqlItem.TheVariants as items
use Rattle.sql_ast.specs.declared.tree.SqlOpnd.{SqlOpnd}
use Rattle.sql_ast.specs.declared.tree.SqlOpnd.TheVariants as opnds
use Rattle.sql_ast.specs.Canonical.{canonical}
use Rattle.sql_ast.specs.Tree as sql
use Rattle.sql_ast.specs.Tree.{Condition, PlainListing, Listing}
use Rattle.java_ast.specs.declared.tree.Op.TheVariants as ops
use Rattle.java_ast.specs.Names.{Names}
use Rattle.java_ast.specs.Path.{found_in, numbered, branch_of, behind_of, last_of, replaced_at}
use Rattle.java_ast.specs.Tree.{Table, Expression, Lit, Var, Field, Binary, Not, Equals, Fetch, Query, Expressions, NoMore, And, Statement, Declare, If, ForEach, While, Statements, Nothing, Then, PlainMethod, PlainProgram}
use Rattle.spreads.specs.Alone.{walks_alone}
use Rattle.spreads.specs.Staying.{assigned_among, stays}

-- ---- Which parts of a condition are plain

-- the parts of the outermost `&&`
abbrev pub parts_of : Expression → List Expression
parts_of (Binary at ops.And a b) = parts_of a ++ parts_of b
parts_of e = e ∷ []

-- a column of the row
abbrev pub is_column : List ℕ → Expression → Bool
is_column x (Field at (Var at' y) f) = bytes_eq x y
is_column x e = false

-- a comparison with a column of the row on one side at least; the other is a column of it too, a literal, a variable, or a field of
-- another row, which stays through the loop
abbrev pub are_compared : Names → List ℕ → Expression → Expression → Bool
are_compared assigned x a b = (is_column x a && (is_column x b || stays assigned b)) || (is_column x b && stays assigned a)

abbrev pub is_plain : Names → List ℕ → Expression → Bool
is_plain assigned x (Binary at ops.And a b) = is_plain assigned x a && is_plain assigned x b
is_plain assigned x (Binary at ops.Or a b) = is_plain assigned x a && is_plain assigned x b
is_plain assigned x (Binary at ops.Eq a b) = are_compared assigned x a b
is_plain assigned x (Binary at ops.Ne a b) = are_compared assigned x a b
is_plain assigned x (Binary at ops.Lt a b) = are_compared assigned x a b
is_plain assigned x (Binary at ops.Le a b) = are_compared assigned x a b
is_plain assigned x (Binary at ops.Gt a b) = are_compared assigned x a b
is_plain assigned x (Binary at ops.Ge a b) = are_compared assigned x a b
is_plain assigned x (Not at a) = is_plain assigned x a
is_plain assigned x (Equals at a b) = are_compared assigned x a b
is_plain assigned x e = is_column x e

-- ---- Which arguments they read

-- one variable, or one field of one variable
abbrev pub same_argument : Expression → Expression → Bool
same_argument (Var at x) (Var at' y) = bytes_eq x y
same_argument (Field at (Var at' x) f) (Field at'' (Var at''' y) g) = bytes_eq x y && bytes_eq f g
same_argument a b = false

abbrev pub Arguments : Type 0
Arguments = List Expression

-- an argument behind others, where it isn't among them
abbrev pub with_argument : Arguments → Expression → Arguments
with_argument args e = if list_any (same_argument e) args then args else args ++ e ∷ []

-- an operand that is neither a column of the row nor a literal is an argument
abbrev pub with_operand : List ℕ → Arguments → Expression → Arguments
with_operand x args (Lit at value) = args
with_operand x args e = if is_column x e then args else with_argument args e

-- the arguments of a plain part behind others, in order of their first mention
abbrev pub with_part : List ℕ → Arguments → Expression → Arguments
with_part x args (Binary at ops.And a b) = with_part x (with_part x args a) b
with_part x args (Binary at ops.Or a b) = with_part x (with_part x args a) b
with_part x args (Binary at op a b) = with_operand x (with_operand x args a) b
with_part x args (Not at a) = with_part x args a
with_part x args (Equals at a b) = with_operand x (with_operand x args a) b
with_part x args e = args

-- a part that is plain, and with which there are nine arguments at most
abbrev pub is_taken : Names → List ℕ → Arguments → Expression → Bool
is_taken assigned x args e = is_plain assigned x e && nat_lt (length (with_part x args e)) 10

-- the parts that are taken, where these arguments are read before, and the arguments that they read
abbrev pub taken : Names → List ℕ → Arguments → List Expression → List Expression
taken assigned x args [] = []
taken assigned x args (e ∷ es) = if is_taken assigned x args e then e ∷ taken assigned x (with_part x args e) es else taken assigned x args es

abbrev pub all_read : List ℕ → Arguments → List Expression → Arguments
all_read x args [] = args
all_read x args (e ∷ es) = all_read x (with_part x args e) es

-- ---- The condition

abbrev pub column_at : List Column → List ℕ → Option SqlCol
column_at held f = option_map (λ n. (let col : SqlCol = record { item = 1; column = columns.Named f n } in col)) (column_number held f)

-- the number of an argument, counted from 1
abbrev pub number_of : Expression → Arguments → Option ℕ
number_of e [] = None
number_of e (a ∷ args) = if same_argument e a then Some 1 else option_map (λ n. suc n) (number_of e args)

abbrev pub operand_of : List Column → List ℕ → Arguments → Expression → Option SqlOpnd
operand_of held x args (Lit at value) = Some (opnds.Lit value)
operand_of held x args (Field at (Var at' y) f) = if bytes_eq x y then option_map opnds.Column (column_at held f) else option_map opnds.Param (number_of (Field at (Var at' y) f) args)
operand_of held x args e = option_map opnds.Param (number_of e args)

abbrev pub both_there : {A B C : Type 0} → (A → B → C) → Option A → Option B → Option C
both_there f (Some a) (Some b) = Some (f a b)
both_there f _ _ = None

abbrev pub compared : List Column → List ℕ → Arguments → Cmp → Expression → Expression → Option Condition
compared held x args cmp a b = both_there (sql.Compare cmp) (operand_of held x args a) (operand_of held x args b)

-- a Bool column of the row is compared with TRUE
abbrev pub is_true_column : List Column → Expression → Option Condition
is_true_column held (Field at (Var at' y) f) = option_map (λ col. sql.Compare tests.Eq (opnds.Column col) (opnds.Lit (scalars.Bool true))) (column_at held f)
is_true_column held e = None

-- the condition that a plain part is
abbrev pub condition_of : List Column → List ℕ → Arguments → Expression → Option Condition
condition_of held x args (Binary at ops.And a b) = both_there sql.Both (condition_of held x args a) (condition_of held x args b)
condition_of held x args (Binary at ops.Or a b) = both_there sql.Either (condition_of held x args a) (condition_of held x args b)
condition_of held x args (Binary at ops.Eq a b) = compared held x args tests.Eq a b
condition_of held x args (Binary at ops.Ne a b) = compared held x args tests.Ne a b
condition_of held x args (Binary at ops.Lt a b) = compared held x args tests.Lt a b
condition_of held x args (Binary at ops.Le a b) = compared held x args tests.Le a b
condition_of held x args (Binary at ops.Gt a b) = compared held x args tests.Gt a b
condition_of held x args (Binary at ops.Ge a b) = compared held x args tests.Ge a b
condition_of held x args (Not at a) = option_map sql.Not (condition_of held x args a)
condition_of held x args (Equals at a b) = compared held x args tests.Eq a b
condition_of held x args e = is_true_column held e

-- the conditions of parts, joined by AND, behind the first one
abbrev pub conditions_of : List Column → List ℕ → Arguments → Option Condition → List Expression → Option Condition
conditions_of held x args c [] = c
conditions_of held x args c (e ∷ es) = conditions_of held x args (both_there sql.Both c (condition_of held x args e)) es

-- the condition of the parts that are taken, none where there is no such part
abbrev pub taken_condition : List Column → List ℕ → Arguments → List Expression → Option Condition
taken_condition held x args [] = None
taken_condition held x args (e ∷ es) = conditions_of held x args (condition_of held x args e) es

-- ---- The query

abbrev pub expressions : List Expression → Expressions
expressions [] = NoMore
expressions (e ∷ es) = And e (expressions es)

-- SELECT t1.* FROM table t1 WHERE condition ORDER BY t1._pos
abbrev pub selecting : List ℕ → ℕ → Condition → PlainListing
selecting name table c =
    record {
      item = items.Whole 1;
      from = record { name = name; table = table } ∷ [];
      filter = sql.Where c;
      group = None;
      keys = record { least = false; col = record { item = 1; column = columns.Pos }; down = false } ∷ [];
      limit = None;
      params = [];
    }

-- the query in place of a fetch, at its place, where a part is taken
abbrev pub query_for : Schema → Span → List ℕ → ℕ → Names → List ℕ → Expression → Option Expression
query_for schema at name table assigned x c =
    let parts = taken assigned x [] (parts_of c) in
    let args = all_read x [] parts in
    option_map (λ d. Query at (Table name) (canonical (Listing (selecting name table d))) (expressions args)) (taken_condition (columns_at schema table) x args parts)

abbrev pub query_in_place : Schema → Span → List ℕ → Names → List ℕ → Expression → Option Expression
query_in_place schema at name assigned x c = found_in (λ table. query_for schema at name table assigned x c) (table_number schema name)

-- the query for the fetch that is the list of a for-each over this body
abbrev pub query_of_body : Schema → Expression → List ℕ → Statements → Option Expression
query_of_body schema (Fetch at name) x (Then (If at' c a) Nothing) = query_in_place schema at name (assigned_among (Then (If at' c a) Nothing)) x c
query_of_body schema e x body = None

-- ---- The program

abbrev pub is_no_loop : Statement → Bool
is_no_loop (ForEach at ty x e body) = false
is_no_loop (While at c body) = false
is_no_loop s = true

-- the block in which a statement stands, behind the number n of a statement of this block, where no loop stands round it
abbrev pub outer_block : List ℕ → ℕ → Statements → Option Statements
outer_block [] n block = Some block
outer_block (b ∷ []) n block = None
outer_block (b ∷ m ∷ path) n block = found_in (λ s. if is_no_loop s then found_in (outer_block path m) (branch_of b s) else None) (numbered n block)

abbrev pub outer_block_at : List ℕ → PlainProgram → Option Statements
outer_block_at (m ∷ n ∷ path) p = found_in (λ (method : PlainMethod). outer_block path n method.body) (slice_get p.methods m)
outer_block_at path p = None

-- the first of these statements narrowed: a for-each whose list is a fetch
abbrev pub narrowed_each : Schema → Statements → Option Statements
narrowed_each schema (Then (ForEach at ty x e body) p) = option_map (λ q. Then (ForEach at ty x q body) Nothing) (query_of_body schema e x body)
narrowed_each schema p = None

-- the first two of these statements narrowed: the declaration of a fetched list, and the for-each that it is for
abbrev pub narrowed_pair : Schema → Statements → Option Statements
narrowed_pair schema (Then (Declare at ty v value) (Then (ForEach at' ty' x e body) p)) =
    if walks_alone v (Then (ForEach at' ty' x e body) p)
    then option_map (λ q. Then (Declare at ty v q) (Then (ForEach at' ty' x e body) Nothing)) (query_of_body schema value x body)
    else None
narrowed_pair schema p = None

-- where its list is declared before the statement with this number
abbrev pub narrowed_before : Schema → List ℕ → ℕ → Statements → PlainProgram → Option PlainProgram
narrowed_before schema path zero block p = None
narrowed_before schema path (suc n) block p = option_map (λ q. replaced_at path n q p) (narrowed_pair schema (behind_of n block))

abbrev pub narrowed_in : Schema → List ℕ → ℕ → Statements → PlainProgram → Option PlainProgram
narrowed_in schema path n block p =
    elim (narrowed_each schema (behind_of n block)) as (λ _. Option PlainProgram) [
      | Some q ↦ Some (replaced_at path n q p)
      | None ↦ narrowed_before schema path n block p
    ]

-- the program in which only the fetch of the for-each at this path is another, where it can be narrowed
abbrev pub narrowed_at : Schema → List ℕ → PlainProgram → Option PlainProgram
narrowed_at schema path p = found_in (λ block. narrowed_in schema path (last_of path) block p) (outer_block_at path p)
