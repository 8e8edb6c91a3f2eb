-- K1: which loops are of the kernel form. All places are the loop itself.
use Rattle.std.specs.Prelude.{not, ◌||◌}
use Rattle.std.specs.declared.option.Option.{Option}
use Rattle.qbs_base.specs.declared.span.Span.{Span}
use Rattle.java_loops.specs.Kernel.Setting.{Setting}
use Rattle.loop_text.specs.Sites.Sites.{place_of, place_where}
use Rattle.loop_text.specs.Kernel.KernelLoop.{has_inner_while}
pub use Rattle.loop_text.specs.Kernel.KernelLoop.{counts_rightly, is_kernel_loop}

-- The loop is a for-each or counts from 0 to the size of a list or to a limit, and every inner loop is a for-each.
abbrev pub broken_loop : Setting → Option Span
broken_loop w = place_where (has_inner_while w.sites || not (is_kernel_loop w.fragment w.fragment.loop)) (place_of w.fragment.loop)
