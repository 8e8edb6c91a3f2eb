-- K2: the lists of loops. K3: how deep loops are nested.
use Rattle.std.specs.Prelude.{ℕ, Bool, true, false, not, ◌&&◌, List, nat_eq, slice_get}
use Rattle.std.specs.declared.option.Option.{Option}
use Rattle.std.specs.declared.option.Option.TheVariants.{Some, None}
use Rattle.qbs_base.specs.declared.span.Span.{Span}
use Rattle.java_ast.specs.Tree.{Statement}
use Rattle.java_ast.specs.Tree as plain
use Rattle.java_mean.specs.declared.types.JavaType.{JavaType}
use Rattle.java_mean.specs.declared.types.JavaType.TheVariants.{Listed}
use Rattle.loop_text.specs.Statements.Loops.{is_loop}
use Rattle.loop_text.specs.Kernel.KernelLoop.{counting_in, limit_of}
use Rattle.java_loops.specs.Kernel.Setting.{Setting}
use Rattle.loop_text.specs.Statements.Setting.{is_found}
use Rattle.loop_text.specs.declared.sites.bindings.Binding.{Binding}
use Rattle.loop_text.specs.declared.sites.bindings.Binding.TheVariants.{Row, Local, Outer}
use Rattle.loop_text.specs.Sites.Sites.{Site, binding_at, place_of, place_where, first_broken, any_site}
use Rattle.loop_text.specs.Kernel.KernelLists.{source_in, is_sorted_source, found_list, count_loops, too_deep}

-- ---- Limits

abbrev pub is_listed : Option JavaType → Bool
is_listed (Some (Listed a)) = true
is_listed _ = false

-- a name at a site is that of a list
abbrev pub is_list_bound : Setting → List ℕ → Binding → Bool
is_list_bound w x (Row n) = false
is_list_bound w x (Local n) = found_list (slice_get w.sites n)
is_list_bound w x Outer = is_listed (w.types x)

-- a statement that a sorted and cut list doesn't allow: an `if`, and an update that doesn't add to a list
abbrev pub is_barred : Setting → ℕ → Statement → Bool
is_barred w n (plain.If at c a) = true
is_barred w n (plain.IfElse at c a b) = true
is_barred w n (plain.Assign at x e) = true
is_barred w n (plain.Add at x e) = not (is_list_bound w x (binding_at w.sites n x))
is_barred w n _ = false

abbrev pub is_barred_site : Setting → ℕ → Site → Bool
is_barred_site w n s = is_barred w n s.statement

-- a limit stands in a fragment of one loop, and together with a sort only where all turns add to lists
abbrev pub allows_limit : Setting → Statement → Option ℕ → Bool
allows_limit w loop None = true
allows_limit w loop (Some c) =
    nat_eq (count_loops w.sites) 1
    && not (is_sorted_source (source_in w.fragment.run loop) && any_site (is_barred_site w) 0 w.sites)

-- ---- The rules

abbrev pub broken_list : Setting → ℕ → Site → Option Span
broken_list w n s =
    place_where
    (is_loop s.statement
    && not (is_found (source_in w.fragment.run s.statement) && allows_limit w s.statement (limit_of (counting_in s.statement))))
    (place_of s.statement)

-- K2: each loop goes over `db.fetch(T.class)`, or over a variable that the run sets by it and at most sorts once
-- behind that; and limits stand only where they are allowed.
abbrev pub broken_lists : Setting → Option Span
broken_lists w = first_broken (broken_list w) 0 w.sites

-- K3: at most three loops are nested.
abbrev pub broken_depth : Setting → Option Span
broken_depth w = first_broken too_deep 0 w.sites
