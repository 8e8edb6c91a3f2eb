-- What a search remembers of a fragment.
use Rattle.std.specs.Prelude.{◌≡◌, ℕ, List, slice_get}
use Rattle.std.specs.declared.option.Option.TheVariants.{Some}
use Rattle.kernel_lang.specs.Plain.{Accumulator, Fragment}
use Rattle.vc_gen.specs.declared.outline.Outline.{Outline}
use Rattle.vc_gen.specs.Outlines.{IsOutlineOf}
use Rattle.query_search.specs.declared.choices.Kept.{Kept}
use Rattle.query_search.specs.declared.choices.Memory.{Memory}
use Rattle.query_search.specs.Choices.{conditions_at, FailAsKnown}
use Rattle.query_search.specs.Seen.{proofs_in}
use Rattle.query_search.specs.Verdicts.{all_derived}

-- of each accumulator that has one
abbrev pub AreOutlinesOf : List Accumulator → List Outline → Type 0
AreOutlinesOf accs outlines = (i : ℕ) (a : Accumulator) (o : Outline) → slice_get accs i ≡ Some a → slice_get outlines i ≡ Some o → IsOutlineOf a o

-- what is kept are the derivations of the conditions at its places
abbrev pub IsKeptOf : Fragment → Kept → Type 0
IsKeptOf f k = all_derived (conditions_at f k.places.items) ≡ Some (proofs_in k.proofs.items)

-- what has been decided to fail does, and what is kept is right
abbrev pub IsMemoryOf : Fragment → Memory → Type 0
IsMemoryOf f m = FailAsKnown f m.known.items × AreOutlinesOf f.accs m.outlines × IsKeptOf f m.kept
