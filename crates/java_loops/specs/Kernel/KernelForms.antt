-- K6: the forms of updates.
use Rattle.std.specs.Prelude.{ℕ, Bool, true, false, not, ◌&&◌, ◌||◌, List, [], ◌∷◌}
use Rattle.std.specs.declared.option.Option.{Option}
use Rattle.std.specs.declared.option.Option.TheVariants.{Some, None}
use Rattle.qbs_base.specs.declared.span.Span.{Span}
use Rattle.java_mean.specs.declared.types.JavaType.{JavaType}
use Rattle.java_mean.specs.declared.types.JavaType.TheVariants.{Distinct}
use Rattle.loop_text.specs.Kernel.KernelLists.{source_in, is_sorted_source}
use Rattle.java_loops.specs.Kernel.Setting.{Setting}
use Rattle.loop_text.specs.declared.sites.bindings.Binding.{Binding}
use Rattle.loop_text.specs.declared.sites.bindings.Binding.TheVariants.{Row, Local, Outer}
use Rattle.loop_text.specs.Sites.Sites.{Site, binding_at, place_of, place_where, first_broken, target_of}
use Rattle.loop_text.specs.Kernel.KernelForms.{Form, adds, counts, marks, other, sums, takes, form_of, takes_best, is_once, fits_local}

abbrev pub is_distinct : Option JavaType → Bool
is_distinct (Some (Distinct a)) = true
is_distinct _ = false

abbrev pub first_is_sorted : Setting → List Site → Bool
first_is_sorted w [] = false
first_is_sorted w (s ∷ ss) = is_sorted_source (source_in w.fragment.run s.statement)

abbrev pub fits_outer : Setting → ℕ → Site → List ℕ → Form → Bool
fits_outer w n s x (adds t) = not (is_distinct (w.types x)) || (is_once s && not (first_is_sorted w w.sites))
fits_outer w n s x counts = is_once s
fits_outer w n s x (sums c) = is_once s
fits_outer w n s x (takes c) = takes_best w.sites n s x c
fits_outer w n s x (marks b) = true
fits_outer w n s x other = false

abbrev pub fits : Setting → ℕ → Site → List ℕ → Binding → Bool
fits w n s x (Row j) = false
fits w n s x (Local d) = fits_local w.sites s d (form_of w.sites n s.statement)
fits w n s x Outer = fits_outer w n s x (form_of w.sites n s.statement)

abbrev pub fits_target : Setting → ℕ → Site → Option (List ℕ) → Bool
fits_target w n s None = true
fits_target w n s (Some x) = fits w n s x (binding_at w.sites n x)

abbrev pub broken_form : Setting → ℕ → Site → Option Span
broken_form w n s = place_where (not (fits_target w n s (target_of s.statement))) (place_of s.statement)

-- Each update has one of the forms, and stands where this form may stand.
abbrev pub broken_forms : Setting → Option Span
broken_forms w = first_broken (broken_form w) 0 w.sites
