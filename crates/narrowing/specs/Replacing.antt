-- What stands in place of the statements that a narrowed for-each begins with: the for-each, or the declaration of its list and the for-each.
use Rattle.std.specs.Prelude.{ℕ, zero, suc, List, [], ◌∷◌, ◌++◌, Bool, true, false, if◌then◌else◌}
use Rattle.std.specs.Option.{option_map}
use Rattle.std.specs.declared.option.Option.{Option}
use Rattle.std.specs.declared.option.Option.TheVariants.{Some, None}
use Rattle.qbs_base.specs.declared.span.Span.{Span}
use Rattle.qbs_base.specs.Values.{Schema}
use Rattle.java_ast.specs.Path.{found_in, behind_of, last_of, replaced_at, statement_at}
use Rattle.java_ast.specs.Reading.{statements}
use Rattle.java_ast.specs.Tree.{Expression, Declare, ForEach, Statement, Statements, Nothing, Then, PlainProgram}
use Rattle.spreads.specs.Alone.{walks_alone}
use Rattle.spreads.specs.Narrowed.{outer_block_at, query_of_body}
use Rattle.text_patches.specs.declared.patch.TextPatch.{TextPatch}
use Rattle.narrowing.specs.declared.instead.Instead.{Instead}
use Rattle.narrowing.specs.declared.walk.Reason.{Reason}
use Rattle.narrowing.specs.declared.walk.Reason.TheVariants as reasons
use Rattle.narrowing.specs.declared.walk.Walk.{Walk}
use Rattle.narrowing.specs.Narrowing.{AllNarrowed, place_or_none, patch_of, first_there, asked_each, asked_pair}
use Rattle.narrowing.specs.Reasons.{reason_at}

-- ---- Statements

-- a for-each with another list
abbrev pub with_list : Expression → Statement → Statement
with_list q (ForEach at ty x e body) = ForEach at ty x q body
with_list q s = s

-- a declaration with another value
abbrev pub with_value : Expression → Statement → Statement
with_value q (Declare at ty v value) = Declare at ty v q
with_value q s = s

-- the first of these statements, with another list
abbrev pub listed : Statements → Expression → Statements
listed (Then s p) q = Then (with_list q s) Nothing
listed Nothing q = Nothing

-- the first two of these statements, with another value of the first
abbrev pub declared : Statements → Expression → Statements
declared (Then s (Then t p)) q = Then (with_value q s) (Then t Nothing)
declared p q = Nothing

-- ---- One for-each

-- the query for the first of these statements, where this value is declared for it under this name
abbrev pub asked_for : Schema → List ℕ → Expression → Statements → Option Expression
asked_for schema v value (Then (ForEach at ty x e body) p) = if walks_alone v (Then (ForEach at ty x e body) p) then query_of_body schema value x body else None
asked_for schema v value p = None

-- The number of the first statement that gives way, up to the for-each; what stands there; and the text in place of bytes of the source.
pub record Replacement : Type 0 where
  pub first : ℕ
  pub others : Statements
  pub patch : TextPatch

abbrev pub replacement_of : ℕ → Statements → TextPatch → Replacement
replacement_of first others patch = record { first = first; others = others; patch = patch }

abbrev pub replacement : Instead → Replacement
replacement i = replacement_of i.first (statements i.others.items) i.patch

abbrev pub replacing : ℕ → (Expression → Statements) → Expression → Replacement
replacing n others q = replacement_of n (others q) (patch_of q)

-- where the first of these statements, with this number, is a for-each over a fetch
abbrev pub each_replaced : Schema → ℕ → Statements → Option Replacement
each_replaced schema n p = option_map (replacing n (listed p)) (asked_each schema p)

-- where the first of these statements, with this number, declares a fetch for the second
abbrev pub pair_replaced : Schema → ℕ → Statements → Option Replacement
pair_replaced schema n p = option_map (replacing n (declared p)) (asked_pair schema p)

abbrev pub before_replaced : Schema → ℕ → Statements → Option Replacement
before_replaced schema zero block = None
before_replaced schema (suc n) block = pair_replaced schema n (behind_of n block)

-- for the for-each with this number of a block
abbrev pub block_replaced : Schema → ℕ → Statements → Option Replacement
block_replaced schema n block = first_there (each_replaced schema n (behind_of n block)) (before_replaced schema n block)

-- for the for-each at this path
abbrev pub replaced_for : Schema → List ℕ → PlainProgram → Option Replacement
replaced_for schema path p = found_in (block_replaced schema (last_of path)) (outer_block_at path p)

-- ---- One step

-- The program then, what is said of the for-each, and the text in place of bytes of the source, if there is one.
pub record OneNarrowed : Type 0 where
  pub program : PlainProgram
  pub walk : Walk
  pub patches : List TextPatch

abbrev pub said_at : Span → Option Reason → Walk
said_at at stays = record { at = at; stays = stays }

abbrev pub one_from : Bool → Span → List ℕ → PlainProgram → Option Replacement → OneNarrowed
one_from covered at path p None = record { program = p; walk = said_at at (Some (reason_at path p)); patches = [] }
one_from true at path p (Some r) = record { program = p; walk = said_at at (Some reasons.Covered); patches = [] }
one_from false at path p (Some r) = record { program = replaced_at path r.first r.others p; walk = said_at at None; patches = r.patch ∷ [] }

-- the for-each at this path narrowed, where it can be and no query stands for it anyway
abbrev pub one_narrowed : Schema → Bool → List ℕ → PlainProgram → OneNarrowed
one_narrowed schema covered path p = one_from covered (place_or_none (statement_at path p)) path p (replaced_for schema path p)

-- behind what is said of others
abbrev pub behind_others : List Walk → List TextPatch → AllNarrowed → AllNarrowed
behind_others walks patches n = record { program = n.program; walks = walks ++ n.walks; patches = patches ++ n.patches }
