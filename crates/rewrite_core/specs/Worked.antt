-- Loops, the asks that stand for them, and the programs in which they do.
use Rattle.std.specs.Prelude.{◌≡◌, ℕ, List, [], ◌∷◌, codes}
use Rattle.std.specs.declared.option.Option.{Option}
use Rattle.std.specs.declared.option.Option.TheVariants.{Some, None}
use Rattle.sql_ast.specs.Worked.{staff_schema}
use Rattle.java_ast.specs.Tree.{Spelled, Long, String, Table, SetOf, Expression, Var, Query, QueryLong, NewSetOf, NoMore, And, Break, Nothing, PlainMethod, PlainProgram}
use Rattle.java_mean.specs.Asked.{staff_text, class_A_asking, count_text, class_J_asking, name_set_asking}
use Rattle.java_mean.specs.Keeps.{Keeps}
use Rattle.java_mean.specs.WellTyped.{IsWellTyped}
use Rattle.java_mean.specs.Worked.{User, somewhere, field, declare, give, method, block, users, out, u, class_A, class_C, class_J, name_set}
use Rattle.java_types.specs.Texts.{read_by}
use Rattle.java_loops.specs.Kernel.Kernel.{setting_at}
use Rattle.java_loops.specs.Kernel.Setting.{Setting, setting_of}
use Rattle.java_loops.specs.Kernel.Worked.{program_of}
use Rattle.java_loops.specs.Meant.Asking.{AskForLoop}
use Rattle.java_loops.specs.Walks.Replacing.{Ask}
use Rattle.lowering.specs.AskedWorked.{asking}
use Rattle.rewrite_core.specs.Asked.{Place, asks_of, replaced}
use Rattle.rewrite_core.specs.Asking.{MayBeAsked}

-- ---- Loops in programs

abbrev found_setting : Option Setting → Setting
found_setting (Some w) = w
found_setting None = setting_of staff_schema (read_by staff_schema) (λ x. None) (record { visible = []; run = Nothing; loop = Break somewhere; behind = Nothing })

-- the loop to which the path leads, with a candidate
abbrev pub loop_at : PlainProgram → List ℕ → List ℕ → Place
loop_at p path candidate = record { program = p; path = path; setting = found_setting (setting_at staff_schema (read_by staff_schema) path p); candidate = candidate }

-- The loop may be asked for with its candidate. These asks stand for it and ask for what it makes, and this is the program in
-- which they stand in its place, which is well typed and keeps what the program does.
pub record GivesWayTo (l : Place) (asks : List Ask) (q : PlainProgram) : Type 0 where
  pub may : MayBeAsked staff_schema (read_by staff_schema) l.program l.path l.setting l.candidate
  pub asks_are : asks_of l ≡ asks
  pub answer : AskForLoop staff_schema (read_by staff_schema) l.program l.path l.setting asks
  pub becomes : replaced l ≡ q
  pub typed : IsWellTyped staff_schema (read_by staff_schema) q
  pub keeps : Keeps l.program q staff_schema

-- one ask, which declares a variable
abbrev pub one_ask : Spelled → List ℕ → Expression → List Ask
one_ask ty x e = record { at = somewhere; ty = Some ty; name = x; value = e } ∷ []

-- a program whose method returns a value of this type
abbrev pub giving : Spelled → PlainMethod → PlainProgram
giving ty m = program_of (record m { result = Some ty })

-- ---- Rows

abbrev pub selection_asks : List Ask
selection_asks = one_ask users out (Query somewhere (Table User) staff_text NoMore)

-- ---- Numbers

abbrev pub best : List ℕ
best = codes "best"

abbrev best_asked : Expression
best_asked = QueryLong somewhere (codes "SELECT COALESCE(MAX(t1.age), 10) FROM User t1 WHERE t1.age > 10") NoMore

abbrev pub greatest_asks : List Ask
greatest_asks = one_ask Long best best_asked

abbrev pub class_C_asking : PlainMethod
class_C_asking = method (declare Long best best_asked ∷ give best ∷ [])

-- how many roles the user has, who is in sight of the loop
abbrev pub count_asks : List Ask
count_asks = one_ask Long (codes "n") (QueryLong somewhere count_text (And (field u (codes "roleId")) NoMore))

-- ---- Sets

abbrev pub names_asks : List Ask
names_asks = one_ask (SetOf String) (codes "names") (NewSetOf somewhere (Query somewhere String (codes "SELECT t1.name FROM User t1 GROUP BY t1.name ORDER BY MIN(t1._pos)") NoMore))

-- ---- Known lists

abbrev known_asked : Expression
known_asked =
    Query somewhere (Table User)
    (codes "SELECT t1.* FROM User t1 WHERE t1.roleId IN (SELECT t2.id FROM Role t2 WHERE t2.label = ?1) ORDER BY t1._pos")
    (And (Var somewhere (codes "label")) NoMore)

abbrev pub known_asks : List Ask
known_asks = one_ask users out known_asked

abbrev method_asked : List PlainMethod → List PlainMethod
method_asked [] = []
method_asked (m ∷ ms) = record m { body = block (declare users out known_asked ∷ give out ∷ []) } ∷ ms

-- the known list isn't asked for any more
abbrev pub asking_once : PlainProgram
asking_once = record asking { methods = method_asked asking.methods }

-- ---- All

pub record Worked : Type 0 where
  pub selection : GivesWayTo (loop_at (giving users class_A) (0 ∷ 1 ∷ []) (0 ∷ [])) selection_asks (giving users class_A_asking)
  pub greatest : GivesWayTo (loop_at (giving Long class_C) (0 ∷ 1 ∷ []) []) greatest_asks (giving Long class_C_asking)
  pub count : GivesWayTo (loop_at (program_of class_J) (0 ∷ 0 ∷ 0 ∷ 1 ∷ []) (0 ∷ [])) count_asks (program_of class_J_asking)
  pub set : GivesWayTo (loop_at (giving (SetOf String) name_set) (0 ∷ 1 ∷ []) []) names_asks (giving (SetOf String) name_set_asking)
  pub known : GivesWayTo (loop_at asking (0 ∷ 2 ∷ []) (0 ∷ [])) known_asks asking_once
