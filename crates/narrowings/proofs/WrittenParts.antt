-- What holds of an expression holds of the arguments that its plain parts read, and the literals of their condition are its own.
use Rattle.std.proofs.Common.{◌≡◌, ℕ, Bool, true, false, cond, List, [], ◌∷◌, ◌++◌}
use Rattle.std.specs.List.{AllByRecursion, list_any}
use Rattle.qbs_base.specs.declared.scalar.Scalar.{Scalar}
use Rattle.qbs_base.specs.declared.scalar.Scalar.TheVariants as scalars
use Rattle.qbs_base.specs.declared.scalar.Ty.{Ty}
use Rattle.qbs_base.specs.declared.span.Span.{Span}
use Rattle.sql_ast.specs.declared.tree.Cmp.{Cmp}
use Rattle.sql_ast.specs.declared.tree.SqlOpnd.{SqlOpnd}
use Rattle.sql_ast.specs.Tree.{Condition}
use Rattle.sql_ast.specs.Utf8.{ScalarIsUtf8, OperandIsUtf8, ConditionIsUtf8}
use Rattle.java_ast.specs.declared.tree.Op.{Op}
use Rattle.java_ast.specs.declared.tree.Op.TheVariants as ops
use Rattle.java_ast.specs.Names.{Names}
use Rattle.java_ast.specs.Tree as tree
use Rattle.java_ast.specs.Tree.{Expression, Expressions}
use Rattle.java_grammar.specs.InGrammar.{InExpression, InExpressions}
use Rattle.java_grammar.specs.Written.{WrittenScalar, WrittenExpression, WrittenExpressions}
use Rattle.java_mean.specs.Types.{Types}
use Rattle.java_mean.specs.Typing.{Frame}
use Rattle.spreads.specs.Narrowed.{parts_of, is_column, same_argument, Arguments, with_argument, with_operand, with_part, taken, all_read, expressions, is_plain}
use Rattle.narrowings.proofs.Conjuncts.{all_joined, all_mapped, all_taken}
use Rattle.narrowings.proofs.Parts.{ComparedBy, by_op, by_equals, OperandIs, of_literal, of_column, of_argument, PartIs, both_parts, either_part, not_part, compared_part, true_part}

-- a property of expressions that goes down to operands
module _ (P : Expression → Type 0) (binary : (at : Span) (op : Op) (a b : Expression) → P (tree.Binary at op a b) → P a × P b) (negated : (at : Span) (a : Expression) → P (tree.Not at a) → P a) (equals : (at : Span) (a b : Expression) → P (tree.Equals at a b) → P a × P b) (x : List ℕ) where
  abbrev All : Arguments → Type 0
  All args = AllByRecursion P args

  pub all_parts : (e : Expression) → P e → AllByRecursion P (parts_of e)
  all_parts (tree.Binary at ops.And a b) h = (let both = binary at ops.And a b h in all_joined P (parts_of a) (parts_of b) (all_parts a both.0) (all_parts b both.1))
  all_parts e h = (h, tt)

  one_more : (args : Arguments) (e : Expression) → All args → P e → (b : Bool) → All (cond b args (args ++ e ∷ []))
  one_more args e h k true = h
  one_more args e h k false = all_joined P args (e ∷ []) h (k, tt)

  column_or : (args : Arguments) (e : Expression) → All args → P e → (b : Bool) → All (cond b args (with_argument args e))
  column_or args e h k true = h
  column_or args e h k false = one_more args e h k (list_any (same_argument e) args)

  operand_all : (args : Arguments) (e : Expression) → All args → P e → All (with_operand x args e)
  operand_all args (tree.Lit at v) h k = h
  operand_all args e h k = column_or args e h k (is_column x e)

  two_all : (args : Arguments) (a b : Expression) → All args → P a × P b → All (with_operand x (with_operand x args a) b)
  two_all args a b h k = operand_all (with_operand x args a) b (operand_all args a h k.0) k.1

  part_all : (e : Expression) → P e → (args : Arguments) → All args → All (with_part x args e)
  part_all (tree.Binary at ops.And a b) k args h = (let both = binary at ops.And a b k in part_all b both.1 (with_part x args a) (part_all a both.0 args h))
  part_all (tree.Binary at ops.Or a b) k args h = (let both = binary at ops.Or a b k in part_all b both.1 (with_part x args a) (part_all a both.0 args h))
  part_all (tree.Binary at op a b) k args h = two_all args a b h (binary at op a b k)
  part_all (tree.Not at a) k args h = part_all a (negated at a k) args h
  part_all (tree.Equals at a b) k args h = two_all args a b h (equals at a b k)
  part_all e k args h = h

  read_all : (es : List Expression) → AllByRecursion P es → (args : Arguments) → All args → All (all_read x args es)
  read_all [] k args h = h
  read_all (e ∷ es) k args h = read_all es k.1 (with_part x args e) (part_all e k.0 args h)

  -- the parts that are taken, and the arguments that they read
  pub taken_all : (assigned : Names) (test : Expression) → P test → AllByRecursion P (taken assigned x [] (parts_of test))
  taken_all assigned test h = all_mapped (λ (e : Expression). P e × (is_plain assigned x e ≡ true)) P (λ e k. k.0) (taken assigned x [] (parts_of test)) (all_taken P assigned x [] (parts_of test) (all_parts test h))

  pub arguments_all : (assigned : Names) (test : Expression) → P test → AllByRecursion P (all_read x [] (taken assigned x [] (parts_of test)))
  arguments_all assigned test h = read_all (taken assigned x [] (parts_of test)) (taken_all assigned test h) [] tt

pub expressions_in : (args : Arguments) → AllByRecursion InExpression args → InExpressions (expressions args)
expressions_in [] h = tt
expressions_in (e ∷ args) h = (h.0, expressions_in args h.1)

pub expressions_written : (args : Arguments) → AllByRecursion WrittenExpression args → WrittenExpressions (expressions args)
expressions_written [] h = tt
expressions_written (e ∷ args) h = (h.0, expressions_written args h.1)

-- ---- Literals

scalar_utf8 : (y : Scalar) → WrittenScalar y → ScalarIsUtf8 y
scalar_utf8 (scalars.Long i) h = tt
scalar_utf8 (scalars.Bool b) h = tt
scalar_utf8 (scalars.Text t) h = h

module _ (c : Frame) (g : Types) (x : List ℕ) (n : ℕ) (args : Arguments) where
  operand_utf8 : (ty : Ty) (e : Expression) (o : SqlOpnd) → OperandIs c g x n args ty e o → WrittenExpression e → OperandIsUtf8 o
  operand_utf8 _ _ _ (of_literal at y ty h) k = scalar_utf8 y k
  operand_utf8 _ _ _ (of_column at at' y f i column same there here) k = tt
  operand_utf8 _ _ _ (of_argument ty e j h m) k = tt

  two_written : (a b e : Expression) (cmp : Cmp) (ty : Ty) → ComparedBy a b cmp ty e → WrittenExpression e → WrittenExpression a × WrittenExpression b
  two_written a b _ _ _ (by_op at cmp ty may plain) h = h
  two_written a b _ _ _ (by_equals at) h = h

  pub part_utf8 : (e : Expression) (d : Condition) → PartIs c g x n args e d → WrittenExpression e → ConditionIsUtf8 d
  part_utf8 _ _ (both_parts at a b d f p r) h = (part_utf8 a d p h.0, part_utf8 b f r h.1)
  part_utf8 _ _ (either_part at a b d f p r) h = (part_utf8 a d p h.0, part_utf8 b f r h.1)
  part_utf8 _ _ (not_part at a d p) h = part_utf8 a d p h
  part_utf8 _ _ (compared_part e a b cmp ty o p by one two col) h = (let both = two_written a b e cmp ty by h in (operand_utf8 ty a o one both.0, operand_utf8 ty b p two both.1))
  part_utf8 _ _ (true_part e col is) h = (tt, tt)
