-- K4: which statements a loop may hold. K5: how often variables are updated.
use Rattle.std.specs.Prelude.{◌||◌}
use Rattle.std.specs.declared.option.Option.{Option}
use Rattle.qbs_base.specs.declared.span.Span.{Span}
use Rattle.loop_text.specs.Statements.Fragment.{needed_of}
use Rattle.java_loops.specs.Kernel.Setting.{Setting}
use Rattle.loop_text.specs.Sites.Sites.{place_of, place_where, first_place, first_broken, any_site}
use Rattle.loop_text.specs.Kernel.KernelStatements.{broken_statement, broken_update, is_idle_flag, is_none}

-- The loop holds `if`s, for-each loops, updates without queries, declarations of flags, and `break` directly behind
-- an update of a flag where the innermost loop is a for-each; and no condition has a query.
abbrev pub broken_statements : Setting → Option Span
broken_statements w = first_broken (broken_statement w.sites) 0 w.sites

-- Some accumulator is needed and each flag is updated, or else the place is the loop. Then nothing is updated
-- twice, and a loop that a `break` ends holds no update but the one before that `break`.
abbrev pub broken_updates : Setting → Option Span
broken_updates w =
    first_place
    (place_where (is_none (needed_of w.fragment) || any_site (is_idle_flag w.sites) 0 w.sites) (place_of w.fragment.loop))
    (first_broken (broken_update w.sites) 0 w.sites)
