-- What a nest of loops makes of one variable by itself: only the statements that set the variable are run,
-- each list is walked to its end, and no turn is counted. A `break` counts for nothing here.
use Rattle.std.specs.Prelude.{ℕ, Bool, false, ◌||◌, List, [], ◌∷◌, Option, Some, None, Result, Ok, Err, if◌then◌else◌}
use Rattle.std.specs.Str.{bytes_eq}
use Rattle.qbs_base.specs.declared.scalar.Row.{Row}
use Rattle.qbs_base.specs.declared.scalar.Scalar.TheVariants as scalars
use Rattle.qbs_base.specs.declared.scalar.Value.{Value}
use Rattle.qbs_base.specs.declared.scalar.Value.TheVariants.{One, Many}
use Rattle.qbs_base.specs.Named.{at_name}
use Rattle.java_ast.specs.Tree.{Expression, Statement, Declare, Assign, Add, Sort, If, IfElse, ForEach, While, Print, Return, Break, Statements, Nothing, Then}
use Rattle.java_mean.specs.declared.ending.Ending.{Ending}
use Rattle.java_mean.specs.Endings.{◌>>=◌}
use Rattle.java_mean.specs.Expression.{value_of, as_rows, as_member, element}
use Rattle.java_mean.specs.Statement.{test_of, added, is_set_type}
use Rattle.java_mean.specs.Store.{Store, Variable, put, plainly}
use Rattle.java_mean.specs.World.{World}

-- ---- Which variables are set

-- a statement assigns the variable, adds to it or sorts it; a declaration is not meant
abbrev mutual
  pub sets : Statement → List ℕ → Bool
  sets (Declare at ty x e) a = false
  sets (Assign at x e) a = bytes_eq x a
  sets (Add at x e) a = bytes_eq x a
  sets (Sort at x keys down) a = bytes_eq x a
  sets (If at c p) a = all_set p a
  sets (IfElse at c p q) a = all_set p a || all_set q a
  sets (ForEach at ty x e b) a = all_set b a
  sets (While at c b) a = all_set b a
  sets (Print at e) a = false
  sets (Return at e) a = false
  sets (Break at) a = false

  pub all_set : Statements → List ℕ → Bool
  all_set Nothing a = false
  all_set (Then s p) a = sets s a || all_set p a

-- ---- What a statement makes of a variable

-- a condition that has no truth value is false, and a list that has no value has no row
abbrev pub truth_in : Result Bool Ending → Bool
truth_in (Ok b) = b
truth_in (Err e) = false

abbrev pub rows_in : Result (List Row) Ending → List Row
rows_in (Ok rows) = rows
rows_in (Err e) = []

abbrev pub truth_at : Expression → World → Store → Bool
truth_at c w env = truth_in (test_of c w env)

abbrev pub rows_at : Expression → World → Store → List Row
rows_at e w env = rows_in (value_of e w env >>= as_rows)

-- none where the new value has a fault
abbrev pub assigned : Result Value Ending → Variable → Option Variable
assigned (Ok u) v = Some (record { value = u; is_set = v.is_set })
assigned (Err e) v = None

abbrev pub with_rows : Result (List Row) Ending → Row → Variable → Option Variable
with_rows (Ok rows) row v = Some (record { value = Many (added v.is_set rows row); is_set = v.is_set })
with_rows (Err e) row v = None

abbrev pub with_member : Result Row Ending → Variable → Option Variable
with_member (Ok row) v = with_rows (as_rows v.value) row v
with_member (Err e) v = None

abbrev pub and_then : Option Variable → (Variable → Option Variable) → Option Variable
and_then (Some v) f = f v
and_then None f = None

-- one step for each row
abbrev pub folded : List Row → (Row → Variable → Option Variable) → Variable → Option Variable
folded [] f v = Some v
folded (row ∷ rows) f v = and_then (f row v) (folded rows f)

-- the value that a variable is declared with
abbrev pub declared : Bool → Result Value Ending → Variable
declared is_set (Ok u) = record { value = u; is_set = is_set }
declared is_set (Err e) = record { value = One (scalars.Bool false); is_set = is_set }

-- a flag with what it became, where it became something
abbrev pub put_flag : List ℕ → Option Variable → Store → Store
put_flag b (Some v) env = put env b v
put_flag b None env = env

-- what a variable of the store becomes, where it is there
abbrev pub became : Option Variable → (Variable → Option Variable) → Option Variable
became (Some v) g = g v
became None g = None

-- the flags of a block, each with what a statement makes of it by itself
abbrev pub settled : List (List ℕ) → (List ℕ → Store → Variable → Option Variable) → Store → Store
settled [] g env = env
settled (b ∷ bs) g env = put_flag b (became (at_name env b) (g b env)) (settled bs g env)

-- What a statement makes of the variable a with the value v, where env has the values of all else that it
-- reads; and what the statements of a block make of it, where bs are the variables declared so far in the
-- block. None where a value has a fault.
abbrev mutual
  pub effect : Statement → World → List ℕ → Store → Variable → Option Variable
  effect (Declare at ty x e) w a env v = Some v
  effect (Assign at x e) w a env v = if bytes_eq x a then assigned (value_of e w (put env a v)) v else Some v
  effect (Add at x e) w a env v = if bytes_eq x a then with_member (value_of e w (put env a v) >>= as_member) v else Some v
  effect (Sort at x keys down) w a env v = Some v
  effect (If at c p) w a env v = if all_set p a then (if truth_at c w (put env a v) then effects p [] w a env v else Some v) else Some v
  effect (IfElse at c p q) w a env v = if all_set p a || all_set q a then (if truth_at c w (put env a v) then effects p [] w a env v else effects q [] w a env v) else Some v
  effect (ForEach at ty x e b) w a env v = if all_set b a then folded (rows_at e w (put env a v)) (λ row. effects b [] w a (put env x (plainly (element row)))) v else Some v
  effect (While at c b) w a env v = Some v
  effect (Print at e) w a env v = Some v
  effect (Return at e) w a env v = Some v
  effect (Break at) w a env v = Some v

  pub effects : Statements → List (List ℕ) → World → List ℕ → Store → Variable → Option Variable
  effects Nothing bs w a env v = Some v
  effects (Then (Declare at ty b e) p) bs w a env v = effects p (b ∷ bs) w a (put env b (declared (is_set_type ty) (value_of e w env))) v
  effects (Then s p) bs w a env v = and_then (effect s w a env v) (effects p bs w a (settled bs (effect s w) env))
