-- K9: what accumulators and flags start with.
use Rattle.std.specs.declared.option.Option.{Option}
use Rattle.qbs_base.specs.declared.span.Span.{Span}
use Rattle.loop_text.specs.Statements.Fragment.{accumulators}
use Rattle.java_loops.specs.Kernel.Setting.{Setting}
use Rattle.loop_text.specs.Sites.Sites.{place_of, first_place, first_broken}
use Rattle.loop_text.specs.Kernel.KernelStarts.{broken_starts_of, broken_flag_start}

-- Exactly one statement of the run mentions each accumulator, and starts it with what its update asks for: an empty
-- collection, 0, an integer literal, or the opposite truth value. Flags are declared with the opposite.
abbrev pub broken_starts : Setting → Option Span
broken_starts w =
    first_place
    (broken_starts_of w.sites (place_of w.fragment.loop) (accumulators w.fragment) w.fragment.run)
    (first_broken (broken_flag_start w.sites) 0 w.sites)
