-- The kernel form: the first rule that a loop breaks and the place, and else its lowered fragment.
use Rattle.std.specs.Prelude.{ℕ, Bool, not, ◌&&◌, ◌+◌, List, ◌∷◌, length, nat_le, slice_get}
use Rattle.std.specs.List.{list_all}
use Rattle.std.specs.declared.option.Option.{Option}
use Rattle.std.specs.declared.option.Option.TheVariants.{Some, None}
use Rattle.qbs_base.specs.declared.span.Span.{Span}
use Rattle.qbs_base.specs.Values.{Schema}
use Rattle.java_ast.specs.Path.{found_in}
use Rattle.java_ast.specs.Tree.{PlainMethod, PlainProgram}
use Rattle.java_mean.specs.Types.{Types, types_of_params, visible_at}
use Rattle.kernel_lang.specs.Plain.{Accumulator}
use Rattle.kernel_lang.specs.Plain as kernel
use Rattle.kernel_lang.specs.Validity.{count_conditions}
use Rattle.sql_ast.specs.Tree.{PlainQuery}
use Rattle.loop_text.specs.Statements.Fragment.{Fragment, accumulators, needed_of, fragment_at}
use Rattle.java_loops.specs.Kernel.KernelConditions.{broken_conditions}
use Rattle.java_loops.specs.Kernel.KernelForms.{broken_forms}
use Rattle.java_loops.specs.Kernel.KernelLists.{broken_lists, broken_depth}
use Rattle.java_loops.specs.Kernel.KernelLoop.{broken_loop}
use Rattle.java_loops.specs.Kernel.KernelStarts.{broken_starts}
use Rattle.java_loops.specs.Kernel.KernelStatements.{broken_statements, broken_updates}
use Rattle.java_loops.specs.Lowering.Lowered.{Lowering, fragment_with, lowering_with, needed_in_order}
use Rattle.java_loops.specs.Lowering.Numbering.{numbers_of, count_flags}
use Rattle.java_loops.specs.Kernel.Setting.{Setting, setting_of}
use Rattle.loop_text.specs.Sites.Sites.{place_of, place_where}

-- ---- K8

abbrev pub has_small_pool : Accumulator → Bool
has_small_pool a = nat_le (length a.pool) 16

-- the numbers of a fragment with so many accumulators and flags
abbrev pub is_small : ℕ → kernel.Fragment → Bool
is_small accs f =
    list_all has_small_pool f.accs
    && (nat_le (length f.lists) 256
    && (nat_le accs 8 && (nat_le (length f.atoms) 24 && (nat_le (length f.entries) 9 && nat_le (count_conditions f.accs) 4096))))

-- K8: pools have at most 16 members; there are at most 256 loops, 8 accumulators and flags, 24 atoms, 9 entry values and
-- 4096 conditions.
abbrev pub broken_counts : Setting → Option Span
broken_counts w =
    place_where
    (not (is_small (length (accumulators w.fragment) + count_flags w.sites) (fragment_with w (numbers_of w) (needed_of w.fragment))))
    (place_of w.fragment.loop)

-- ---- The rules in their order

pub record Broken : Type 0 where
  pub rule : ℕ
  pub at : Span

abbrev pub first_rule : ℕ → Option Span → Option Broken → Option Broken
first_rule rule (Some at) later = Some (record { rule = rule; at = at })
first_rule rule None later = later

-- The least rule that a fragment breaks, and the first place that breaks it.
abbrev pub broken : Setting → Option Broken
broken w =
    first_rule 1 (broken_loop w)
    (first_rule 2 (broken_lists w)
    (first_rule 3 (broken_depth w)
    (first_rule 4 (broken_statements w)
    (first_rule 5 (broken_updates w)
    (first_rule 6 (broken_forms w)
    (first_rule 7 (broken_conditions w)
    (first_rule 8 (broken_counts w)
    (first_rule 9 (broken_starts w) None))))))))

-- the lowered fragment of one that breaks no rule
abbrev pub lowering : Setting → Lowering
lowering w = lowering_with w (numbers_of w) (needed_in_order w)

-- ---- Of a loop in a program

abbrev pub types_in_method : Schema → ℕ → List ℕ → PlainMethod → Option Types
types_in_method schema n path m = visible_at schema (types_of_params schema m.params) m.body n path

-- the types of the variables that are visible before the statement that a path leads to
abbrev pub types_at : Schema → List ℕ → PlainProgram → Option Types
types_at schema (m ∷ n ∷ path) p = found_in (types_in_method schema n path) (slice_get p.methods m)
types_at schema _ p = None

abbrev pub setting_there : Schema → (List ℕ → Option PlainQuery) → Option Types → Option Fragment → Option Setting
setting_there schema read (Some types) (Some f) = Some (setting_of schema read types f)
setting_there schema read _ _ = None

-- the fragment of the loop to which a path leads, in its program
abbrev pub setting_at : Schema → (List ℕ → Option PlainQuery) → List ℕ → PlainProgram → Option Setting
setting_at schema read path p = setting_there schema read (types_at schema path p) (fragment_at path p)

abbrev pub outside_at : Schema → (List ℕ → Option PlainQuery) → List ℕ → PlainProgram → Option Broken
outside_at schema read path p = found_in broken (setting_at schema read path p)

abbrev pub lowering_unless : Option Broken → Setting → Option Lowering
lowering_unless (Some b) w = None
lowering_unless None w = Some (lowering w)

-- the lowered fragment of that loop, where it is of the kernel form
abbrev pub lowered_at : Schema → (List ℕ → Option PlainQuery) → List ℕ → PlainProgram → Option Lowering
lowered_at schema read path p = found_in (λ w. lowering_unless (broken w) w) (setting_at schema read path p)
