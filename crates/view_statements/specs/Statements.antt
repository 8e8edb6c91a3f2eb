-- Which items are seen as a statement: one clause a rule.
use Rattle.std.specs.Prelude.{ℕ, ◌+◌, Bool, true, false, ◌&&◌, ◌||◌, ◌==◌, not, List, [], ◌∷◌, take, length, codes, Option, Some, None, if◌then◌else◌}
use Rattle.view_rules.specs.declared.java_type.JavaType.{JavaType}
use Rattle.view_rules.specs.declared.java_type.JavaType.TheVariants as types
use Rattle.view_rules.specs.declared.sight.Sighted.{Sighted}
use Rattle.view_rules.specs.declared.sight.ColumnName.{ColumnName}
use Rattle.view_rules.specs.Decisions.{is_number, is_scalar, is_int, same_type, may_be_assigned, may_be_added, is_element}
use Rattle.view_rules.specs.Lists.{is_many, is_list, many_at}
use Rattle.view_rules.specs.Names.{Seen, variable_at}
use Rattle.view_rules.specs.Options.{◌>>=◌, where_so}
use Rattle.view_rules.specs.Seen.{expression_of, walked_of}
use Rattle.view_rules.specs.Setting.{Within, is_at, past, past_all, next, here, is_clear}
use Rattle.view_rules.specs.Spelled.{bytes_at, argument_at}
use Rattle.view_rules.specs.Tree.{PlainExpression}
use Rattle.view_rules.specs.Tree as exprs
use Rattle.view_statements.specs.declared.frame.Place.{Place}
use Rattle.view_statements.specs.declared.statement.Step.{Step}
use Rattle.view_statements.specs.declared.statement.Step.TheVariants as counts
use Rattle.view_statements.specs.declared.statement.SortPart.{SortPart}
use Rattle.view_statements.specs.Orders.{ordered_by}
use Rattle.view_statements.specs.Places.{Frame, inside, beside, in_loop, is_new_name, with_own, with_column, own_from_here, name_at, is_hashed, may_be_hashed}
use Rattle.view_statements.specs.Steps.{value_to, past_close, condition_in, declared_at, inferred_at, is_inferred, set_at, counted_at, walker, size_words, counted_words, get_words, iterator_words, next_words, are_unnamed}
use Rattle.view_statements.specs.Tree.{PlainStatement, PlainStatements, Nothing, Then}
use Rattle.view_statements.specs.Tree as plain

-- the number behind a statement, and the sight there
abbrev pub Passed : Type 0
Passed = ℕ × List Sighted

abbrev pub with_sight : List Sighted → Option ℕ → Option Passed
with_sight s None = None
with_sight s (Some i) = Some (i, s)

-- the last item has the number that is named
abbrev pub to_end : Frame → ℕ → ℕ → Option ℕ
to_end f end i = next f.within end >>= λ j. where_so (j == i) i

abbrev pub ended : Frame → ℕ → Option ℕ → Option ℕ
ended f end passed = passed >>= λ i. to_end f end i

abbrev pub semicolon : List (List ℕ)
semicolon = codes ";" ∷ []

-- ---- Declarations

-- a query is narrowed to an `int` for a variable that is one, since what is seen has no widths
abbrev pub is_narrowed_well : JavaType → PlainExpression → Bool
is_narrowed_well java (exprs.Query at cast number text element arguments) = not cast || is_int java
is_narrowed_well java e = true

-- the value may be that of a variable of this type, declared by this name
abbrev pub is_value_of : Frame → JavaType → JavaType → ℕ → PlainExpression → Seen → Bool
is_value_of f declared java name value e =
    same_type declared java && (may_be_assigned java e.1 && (is_narrowed_well java value && may_be_hashed f name value e.0))

-- `= e;` behind the name
abbrev pub assigned_to : Frame → List Sighted → List ℕ → ℕ → PlainExpression → Option Seen
assigned_to f s sign name value = next f.within name >>= λ i. past f.within sign i >>= λ j. value_to f s value semicolon j

abbrev pub declaration : Frame → List Sighted → ℕ → ℕ → JavaType → PlainExpression → ℕ → Option ℕ
declaration f s at name java value i =
    here at i >>= λ h. declared_at f s name h >>= λ declared. assigned_to f s (codes "=") name value >>= λ e.
    where_so (is_value_of f declared java name value e) e.0

abbrev pub inferred : Frame → List Sighted → ℕ → ℕ → JavaType → PlainExpression → ℕ → Option ℕ
inferred f s at name java value i =
    here at i >>= λ h. inferred_at f s name h >>= λ n. assigned_to f s (codes "=") n value >>= λ e.
    where_so (same_type e.1 java && is_inferred java) e.0

-- the column that a member of a row of the slice's own gives, for which a local name may stand
abbrev pub column_named : Frame → ℕ → ℕ → ℕ → ColumnName
column_named f at class member = record { row = bytes_at f.within at; class = class; member = member }

abbrev pub column_in : Frame → PlainExpression → ℕ → ℕ → Option ColumnName
column_in f (exprs.Variable at) class member = Some (column_named f at class member)
column_in f e class member = None

abbrev pub column_of : Frame → PlainExpression → Option ColumnName
column_of f (exprs.Column row dot class member) = column_in f row class member
column_of f e = None

abbrev pub named_column : Frame → Place → List Sighted → ℕ → ℕ → JavaType → PlainExpression → ℕ → Option ℕ
named_column f p s at name java value i =
    where_so p.looped i >>= λ g. here at g >>= λ h. declared_at f s name h >>= λ declared. assigned_to f s (codes "=") name value >>= λ e.
    where_so (same_type declared java && (is_scalar java && may_be_assigned java e.1)) e.0

-- with the name of the column in sight
abbrev pub with_columned : Frame → List Sighted → ℕ → JavaType → Option ColumnName → Option (List Sighted)
with_columned f s name java None = None
with_columned f s name java (Some column) = Some (with_column f s name java column)

-- a sight that counts where a test holds
abbrev pub told : Bool → List Sighted → Option (List Sighted)
told true s = Some s
told false s = None

abbrev pub with_named : Option (List Sighted) → Option ℕ → Option Passed
with_named None passed = None
with_named (Some s) passed = with_sight s passed

-- ---- What is set

-- a list or set from outside that is declared as such
abbrev pub outer_many_at : Frame → List Sighted → ℕ → Option JavaType
outer_many_at f s name = variable_at f.within s name >>= λ v. where_so (v.outside && is_many v.java) v.java

abbrev pub is_fresh_of : JavaType → JavaType → PlainExpression → Seen → Bool
is_fresh_of declared java value e = same_type declared java && (may_be_assigned java e.1 && not (is_hashed value))

-- at the slice's own level
abbrev pub first_set : Frame → Place → List Sighted → ℕ → JavaType → PlainExpression → ℕ → Option ℕ
first_set f p s name java value i =
    where_so p.top i >>= λ g. here name g >>= λ h. outer_many_at f s h >>= λ declared. assigned_to f s (codes "=") h value >>= λ e.
    where_so (is_fresh_of declared java value e) e.0

abbrev pub assignment : Frame → List Sighted → ℕ → PlainExpression → ℕ → Option ℕ
assignment f s name value i =
    here name i >>= λ h. set_at f s h >>= λ v. assigned_to f s (codes "=") h value >>= λ e.
    where_so (may_be_assigned v.java e.1 && (is_narrowed_well v.java value && not (is_hashed value))) e.0

-- `x += e` and `x -= e` of numbers
abbrev pub changed : Frame → List Sighted → List ℕ → ℕ → PlainExpression → ℕ → Option ℕ
changed f s sign name value i =
    here name i >>= λ h. counted_at f s h >>= λ v. assigned_to f s sign h value >>= λ e. where_so (is_number e.1) e.0

-- the name of a count stands at a number that is named
abbrev pub past_counted : Frame → List Sighted → ℕ → ℕ → Option ℕ
past_counted f s name i = here name i >>= λ h. counted_at f s h >>= λ v. next f.within h

abbrev pub past_sign_at : Frame → List ℕ → ℕ → ℕ → Option ℕ
past_sign_at f word sign i = here sign i >>= λ h. past f.within word h

abbrev pub stepped_behind : Frame → List Sighted → List ℕ → ℕ → ℕ → ℕ → Option ℕ
stepped_behind f s word name sign i = past_counted f s name i >>= λ j. past_sign_at f word sign j

abbrev pub stepped_before : Frame → List Sighted → List ℕ → ℕ → ℕ → ℕ → Option ℕ
stepped_before f s word name sign i = past_sign_at f word sign i >>= λ j. past_counted f s name j

abbrev pub stepped_by : Frame → List Sighted → Step → ℕ → ℕ → ℕ → Option ℕ
stepped_by f s counts.Up name sign i = stepped_behind f s (codes "++") name sign i
stepped_by f s counts.UpFirst name sign i = stepped_before f s (codes "++") name sign i
stepped_by f s counts.Down name sign i = stepped_behind f s (codes "--") name sign i
stepped_by f s counts.DownFirst name sign i = stepped_before f s (codes "--") name sign i

abbrev pub stepped : Frame → List Sighted → ℕ → Step → ℕ → ℕ → ℕ → Option ℕ
stepped f s at step name sign i = here at i >>= λ h. stepped_by f s step name sign h >>= λ j. past f.within (codes ";") j

abbrev pub extreme_word : Bool → List ℕ
extreme_word true = codes "max"
extreme_word false = codes "min"

-- the arguments: the variable and an expression, or the other way round; the number behind the semicolon, and the expression's type
abbrev pub extreme_arguments : Frame → List Sighted → ℕ → PlainExpression → Bool → ℕ → Option Seen
extreme_arguments f s name value true i =
    past_all f.within (bytes_at f.within name ∷ codes "," ∷ []) i >>= λ j. value_to f s value (codes ")" ∷ codes ";" ∷ []) j
extreme_arguments f s name value false i =
    value_to f s value (codes "," ∷ bytes_at f.within name ∷ codes ")" ∷ codes ";" ∷ []) i

-- `x = Math.max(x, e)`: of numbers, an `int` where x is one
abbrev pub is_no_longer : JavaType → JavaType → Bool
is_no_longer x e = is_number e && (not (is_int x) || is_int e)

abbrev pub extreme : Frame → List Sighted → ℕ → Bool → Bool → PlainExpression → ℕ → Option ℕ
extreme f s name greatest variable_first value i =
    where_so (is_clear f.within (codes "Math")) i >>= λ g. here name g >>= λ h. counted_at f s h >>= λ x. next f.within h >>= λ j.
    past_all f.within (codes "=" ∷ codes "Math" ∷ codes "." ∷ extreme_word greatest ∷ codes "(" ∷ []) j >>= λ k.
    extreme_arguments f s name value variable_first k >>= λ e. where_so (is_no_longer x e.1) e.0

-- `xs.add(e);` of a list or set of the slice's own
abbrev pub added : Frame → List Sighted → ℕ → PlainExpression → ℕ → ℕ → Option ℕ
added f s name value close i =
    here name i >>= λ h. many_at f.within s h >>= λ java. next f.within h >>= λ g.
    past_all f.within (codes "." ∷ codes "add" ∷ codes "(" ∷ []) g >>= λ j. expression_of f.within s value j >>= λ e.
    where_so (may_be_added java e.1) e.0 >>= λ k. past_close f close k >>= λ l. past f.within (codes ";") l

abbrev pub ordered : Frame → List Sighted → ℕ → Bool → ℕ → List SortPart → ℕ → Option ℕ
ordered f s at by_class list parts i = here at i >>= λ h. ordered_by f s by_class list parts h

-- ---- Bodies

abbrev pub is_nothing : PlainStatements → Bool
is_nothing Nothing = true
is_nothing (Then st sts) = false

-- without braces one statement, or a semicolon, which is a statement that does nothing
abbrev pub bare_from : Frame → PlainStatements → ℕ → Option ℕ
bare_from f Nothing i = past f.within (codes ";") i
bare_from f (Then st sts) i = where_so (is_nothing sts) i

abbrev pub body_from : Frame → Bool → PlainStatements → ℕ → Option ℕ
body_from f true body i = past f.within (codes "{") i
body_from f false body i = bare_from f body i

abbrev pub past_brace : Frame → Bool → ℕ → Option ℕ
past_brace f true i = past f.within (codes "}") i
past_brace f false i = Some i

abbrev pub past_body : Frame → Bool → ℕ → ℕ → Option ℕ
past_body f braces end i = past_brace f braces i >>= λ j. to_end f end j

-- an `else` that follows belongs to this `if`
abbrev pub past_then : Frame → Bool → ℕ → ℕ → Option ℕ
past_then f braces end i = past_body f braces end i >>= λ j. where_so (not (is_at f.within j (codes "else"))) j

-- `else`, and what begins its body
abbrev pub past_else : Frame → ℕ → Bool → PlainStatements → ℕ → Option ℕ
past_else f other_at braces other i = here other_at i >>= λ h. past f.within (codes "else") h >>= λ j. body_from f braces other j

-- where the second body begins, from behind the first
abbrev pub other_from : Frame → ℕ → Bool → PlainStatements → Option ℕ → Option ℕ
other_from f other_at braces other passed = passed >>= λ e. past_else f other_at braces other e

-- the brace of a number that is named
abbrev pub past_block : Frame → ℕ → ℕ → ℕ → Option ℕ
past_block f close end i = here close i >>= λ h. past f.within (codes "}") h >>= λ j. to_end f end j

-- all that is left in a block is skipped
abbrev pub past_rest : Frame → ℕ → ℕ → Option ℕ
past_rest f end i = where_so (is_at f.within i (codes "}")) i >>= λ j. to_end f end j

-- what is declared in a body, behind so many variables, is out of sight behind it
abbrev pub left : ℕ → (ℕ → Option ℕ) → Option Passed → Option Passed
left n past None = None
left n past (Some e) = with_sight (take n e.1) (past e.0)

-- ---- Loops and conditions, up to their bodies

abbrev pub conditional : Frame → List Sighted → List ℕ → ℕ → PlainExpression → ℕ → Bool → PlainStatements → ℕ → Option ℕ
conditional f s word at condition close braces body i = condition_in f s word condition at close i >>= λ j. body_from f braces body j

-- what is walked, with its type; the order of a hash set isn't known
abbrev pub walked_to : Frame → List Sighted → ℕ → PlainExpression → Option Seen
walked_to f s name walked =
    next f.within name >>= λ i. past f.within (codes ":") i >>= λ j. where_so (not (is_hashed walked)) j >>= λ k. walked_of f.within s walked k

-- `for (T x : e)`: the number behind it
abbrev pub each_head : Frame → List Sighted → ℕ → Bool → ℕ → JavaType → PlainExpression → ℕ → ℕ → Option ℕ
each_head f s at inferred name java walked close i =
    here at i >>= λ h. past_all f.within (codes "for" ∷ codes "(" ∷ []) h >>= λ j. walked_to f s name walked >>= λ many.
    walker f s inferred name j many.1 >>= λ declared. where_so (same_type declared java) many.0 >>= λ k. past_close f close k

abbrev pub each_from : Frame → List Sighted → ℕ → Bool → ℕ → JavaType → PlainExpression → ℕ → Bool → PlainStatements → ℕ → Option ℕ
each_from f s at inferred name java walked close braces body i =
    each_head f s at inferred name java walked close i >>= λ j. body_from f braces body j

-- `T x` with the name at a number, up to the words behind it
abbrev pub element_to : Frame → List Sighted → ℕ → JavaType → JavaType → List (List ℕ) → ℕ → Option ℕ
element_to f s name java many words i =
    walker f s false name i many >>= λ declared. where_so (same_type declared java) name >>= λ h. next f.within h >>= λ j. past_all f.within words j

-- the list of a number is the slice's own
abbrev pub own_list_at : Frame → List Sighted → ℕ → Option JavaType
own_list_at f s list = many_at f.within s list >>= λ java. where_so (is_list java) java

abbrev pub past_size : Frame → List ℕ → List ℕ → ℕ → Option ℕ
past_size f i xs at = past_all f.within (size_words i xs) at

abbrev pub past_count : Frame → List ℕ → Bool → ℕ → Option ℕ
past_count f i first at = past_all f.within (counted_words i first) at

-- behind `for (int` the index i: `= 0; i < xs.size(); i++) { T x = xs.get(i);`
abbrev pub index_to : Frame → List Sighted → ℕ → Bool → ℕ → JavaType → ℕ → Option ℕ
index_to f s list first name java i =
    own_list_at f s list >>= λ many. next f.within i >>= λ g. past_size f (bytes_at f.within i) (bytes_at f.within list) g >>= λ j.
    past_count f (bytes_at f.within i) first j >>= λ k.
    element_to f s name java many (get_words (bytes_at f.within i) (bytes_at f.within list)) k

-- neither i nor xs is named from there up to the brace
abbrev pub unnamed_to : Frame → ℕ → ℕ → ℕ → ℕ → Option ℕ
unnamed_to f a list close i = where_so (are_unnamed f (bytes_at f.within a) (bytes_at f.within list) i close) i

abbrev pub index_head : Frame → List Sighted → ℕ → ℕ → Bool → ℕ → JavaType → ℕ → ℕ → Option ℕ
index_head f s at list first name java close i =
    here at i >>= λ h. past_all f.within (codes "for" ∷ codes "(" ∷ codes "int" ∷ []) h >>= λ j. where_so (is_new_name f s j) j >>= λ k.
    index_to f s list first name java k >>= λ l. unnamed_to f k list close l

abbrev pub past_iterator : Frame → List ℕ → List ℕ → ℕ → Option ℕ
past_iterator f it xs at = past_all f.within (iterator_words it xs) at

-- behind `for (Iterator<E>` the iterator: `= xs.iterator(); it.hasNext();) { T x = it.next();`, with E what xs holds
abbrev pub iterator_to : Frame → List Sighted → ℕ → ℕ → JavaType → JavaType → ℕ → Option ℕ
iterator_to f s list name java element it =
    many_at f.within s list >>= λ many. where_so (is_element many element) it >>= λ h. next f.within h >>= λ g.
    past_iterator f (bytes_at f.within it) (bytes_at f.within list) g >>= λ j.
    element_to f s name java many (next_words (bytes_at f.within it)) j

abbrev pub iterator_head : Frame → List Sighted → ℕ → ℕ → ℕ → JavaType → ℕ → ℕ → Option ℕ
iterator_head f s at list name java close i =
    where_so (is_clear f.within (codes "Iterator")) i >>= λ g. here at g >>= λ h.
    past_all f.within (codes "for" ∷ codes "(" ∷ codes "Iterator" ∷ []) h >>= λ j. argument_at f.within j >>= λ e.
    where_so (is_new_name f s e.to) e.to >>= λ it. iterator_to f s list name java e.java it >>= λ l. unnamed_to f it list close l

-- ---- Ways out

abbrev pub broken_off : Frame → Place → ℕ → ℕ → Option ℕ
broken_off f p at i = where_so p.looped i >>= λ g. here at g >>= λ h. past_all f.within (codes "break" ∷ semicolon) h

abbrev pub truth_word : Bool → List ℕ
truth_word true = codes "true"
truth_word false = codes "false"

-- the `return` of a group
abbrev pub found_at : Frame → Place → ℕ → ℕ → ℕ → Option ℕ
found_at f p at literal i =
    p.found >>= λ value. here at i >>= λ h. past f.within (codes "return") h >>= λ j. here literal j >>= λ k.
    past_all f.within (truth_word value ∷ semicolon) k

-- `continue;` with or without braces
abbrev pub continue_words : Bool → List (List ℕ)
continue_words true = codes "{" ∷ codes "continue" ∷ codes ";" ∷ codes "}" ∷ []
continue_words false = codes "continue" ∷ semicolon

abbrev pub past_continue : Frame → Bool → ℕ → Option ℕ
past_continue f braces i = past_all f.within (continue_words braces) i

abbrev pub skip_head : Frame → Place → List Sighted → ℕ → PlainExpression → ℕ → Bool → ℕ → Option ℕ
skip_head f p s at condition close braces i =
    where_so p.direct i >>= λ h. condition_in f s (codes "if") condition at close h >>= λ j. past_continue f braces j

-- ---- Statements

-- a statement that ends with the item of a number, and leaves this sight
abbrev pub ending : Frame → ℕ → List Sighted → Option ℕ → Option Passed
ending f end s passed = with_sight s (ended f end passed)

abbrev mutual
  -- The tree says how the items from one on are seen as a statement: the number of the item behind it, and the sight there.
  pub statement_of : Frame → Place → List Sighted → PlainStatement → ℕ → Option Passed
  -- the same in both languages: a fresh value, which no other variable holds
  statement_of f p s (plain.Declaration at name java value end) i = ending f end (with_own f s name java) (declaration f s at name java value i)
  -- `var` is the type of the value
  statement_of f p s (plain.Inferred at name java value end) i = ending f end (with_own f s name java) (inferred f s at name java value i)
  -- from here on it is the slice's own, and nothing of the slice has named it before
  statement_of f p s (plain.FirstSet name java value end) i = ending f end (own_from_here (name_at f name) s) (first_set f p s name java value i)
  -- the value is evaluated before the name is set, and Java widens an `int` to the same `long`
  statement_of f p s (plain.Assignment name value end) i = ending f end s (assignment f s name value i)
  -- Java narrows the sum to the variable's type, and it is within that
  statement_of f p s (plain.Added name value end) i = ending f end s (changed f s (codes "+=") name value i)
  -- and so it does with the difference
  statement_of f p s (plain.Lessened name value end) i = ending f end s (changed f s (codes "-=") name value i)
  -- nobody reads what a step gives as an expression, so before and behind the name it is the same
  statement_of f p s (plain.Stepped at step name sign end) i = ending f end s (stepped f s at step name sign i)
  -- the greater one is x where e isn't above x, and e has no effect
  statement_of f p s (plain.Extreme name greatest variable_first value end) i = ending f end s (extreme f s name greatest variable_first value i)
  -- a list puts it last, and a linked set keeps the first place
  statement_of f p s (plain.Add name value close end) i = ending f end s (added f s name value close i)
  -- both sorts are stable
  statement_of f p s (plain.Sort at by_class list parts end) i = ending f end s (ordered f s at by_class list parts i)
  -- the condition is evaluated once, and what the body declares is out of sight behind it
  statement_of f p s (plain.If at condition close braces body end) i =
      conditional f s (codes "if") at condition close braces body i >>= λ b.
      left (length s) (past_then f braces end) (statements_of f (inside p) s body b)
  -- one of both bodies runs, and the `else` is that of this `if`
  statement_of f p s (plain.IfElse at condition close braces body other_at other_braces other end) i =
      conditional f s (codes "if") at condition close braces body i >>= λ b.
      left (length s) (past_brace f braces) (statements_of f (inside p) s body b) >>= λ e.
      past_else f other_at other_braces other e.0 >>= λ c.
      left (length s) (past_body f other_braces end) (statements_of f (inside p) e.1 other c)
  -- what is walked is evaluated once
  statement_of f p s (plain.ForEach at by_var name java walked close braces body end) i =
      each_from f s at by_var name java walked close braces body i >>= λ b.
      left (length s) (past_body f braces end) (statements_of f (in_loop p braces) (with_own f s name java) body b)
  -- each place from 0 to the size is come to once, since the body names neither the index nor the list
  statement_of f p s (plain.ForIndex at list first name java body close end) i =
      index_head f s at list first name java close i >>= λ b.
      left (length s) (past_block f close end) (statements_of f (in_loop p true) (with_own f s name java) body b)
  -- each element is come to once, in order, since the body names neither the iterator nor the list
  statement_of f p s (plain.ForIterator at list name java body close end) i =
      iterator_head f s at list name java close i >>= λ b.
      left (length s) (past_block f close end) (statements_of f (in_loop p true) (with_own f s name java) body b)
  -- a member gives one value throughout the slice, which sets neither the name nor the row
  statement_of f p s (plain.Named at name java value end) i =
      with_named (with_columned f s name java (column_of f value)) (ended f end (named_column f p s at name java value i))
  -- the condition is evaluated anew before each turn
  statement_of f p s (plain.While at condition close braces body end) i =
      conditional f s (codes "while") at condition close braces body i >>= λ b.
      left (length s) (past_body f braces end) (statements_of f (in_loop p false) s body b)
  -- it leaves the innermost loop, and there is one in the slice
  statement_of f p s (plain.Break at end) i = ending f end s (broken_off f p at i)
  -- the rest goes to the end of the block, so to skip it is to go on with the next turn
  statement_of f p s (plain.Skip at condition close braces rest end) i =
      skip_head f p s at condition close braces i >>= λ b. left (length s) (past_rest f end) (statements_of f (beside p) s rest b)
  -- the loop has no other effect and its conditions can't fault, so turns behind the first one that returns change nothing
  statement_of f p s (plain.Found at literal end) i = ending f end s (found_at f p at literal i)

  -- Statements one behind the other.
  pub statements_of : Frame → Place → List Sighted → PlainStatements → ℕ → Option Passed
  statements_of f p s Nothing i = Some (i, s)
  statements_of f p s (Then st sts) i = statement_of f p s st i >>= λ e. statements_of f p e.1 sts e.0

-- The statements of a body, from where it begins, if it does.
abbrev pub body_of : Frame → Place → List Sighted → PlainStatements → Option ℕ → Option Passed
body_of f p s body None = None
body_of f p s body (Some i) = statements_of f p s body i

-- Those behind `else`.
abbrev pub other_of : Frame → Place → List Sighted → PlainStatement → Option ℕ → Option Passed
other_of f p s (plain.IfElse at condition close braces body other_at other_braces other end) begun = body_of f (inside p) s other begun
other_of f p s st begun = None
