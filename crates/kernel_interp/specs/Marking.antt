-- Whether loops come to an update.
use Rattle.std.specs.Prelude.{ℕ, Bool, true, ◌&&◌, List, [], ◌∷◌}
use Rattle.std.specs.List.{list_any}
use Rattle.qbs_base.specs.declared.scalar.Row.{Row}
use Rattle.tor_terms.specs.declared.term.Atom.{Atom}
use Rattle.tor_terms.specs.Truth.{World}
use Rattle.kernel_lang.specs.Running.{Layer, passes, with_row}

-- some rows of the loops of these layers pass all guards
abbrev pub any_mark : World → List Atom → List Layer → (ℕ → Row) → Bool
any_mark w atoms [] rows = true
any_mark w atoms (y ∷ ys) rows =
    list_any (λ r. passes w atoms (with_row rows y.over r) y.guard && any_mark w atoms ys (with_row rows y.over r)) (w.lists y.over)

-- these loops have their rows from the first, all others from the second
abbrev pub bound : List ℕ → (ℕ → Row) → (ℕ → Row) → ℕ → Row
bound [] rows own = own
bound (j ∷ js) rows own = with_row (bound js rows own) j (rows j)
