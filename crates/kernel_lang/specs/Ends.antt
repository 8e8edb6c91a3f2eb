-- What is known of that with which a fragment ends.
use Rattle.std.specs.Prelude.{◌≡◌, false, IsTrue, List, [], ◌∷◌}
use Rattle.std.specs.List.{AllByRecursion, list_any}
use Rattle.std.specs.declared.option.Option.{Option}
use Rattle.std.specs.declared.option.Option.TheVariants.{Some, None}
use Rattle.qbs_base.specs.declared.scalar.Row.{Row}
use Rattle.qbs_base.specs.declared.scalar.Scalar.{Scalar}
use Rattle.qbs_base.specs.declared.scalar.Scalar.TheVariants as scalars
use Rattle.qbs_base.specs.declared.scalar.Value.{Value}
use Rattle.qbs_base.specs.declared.scalar.Value.TheVariants as values
use Rattle.qbs_base.specs.Scalar.{same_cells}
use Rattle.qbs_base.specs.Values.{fits_long}
use Rattle.kernel_lang.specs.Plain.{Fragment}

-- a scalar that is no number, or one of 64 bits
abbrev pub ScalarFits : Scalar → Type 0
ScalarFits (scalars.Long n) = IsTrue (fits_long n)
ScalarFits (scalars.Bool b) = Unit {0}
ScalarFits (scalars.Text t) = Unit {0}

abbrev pub RowFits : Row → Type 0
RowFits r = AllByRecursion ScalarFits r.cells

-- each number in a value has 64 bits
abbrev pub ValueFits : Value → Type 0
ValueFits (values.One x) = ScalarFits x
ValueFits (values.Whole r) = RowFits r
ValueFits (values.Many rows) = AllByRecursion RowFits rows

abbrev pub StartFits : Option Scalar → Type 0
StartFits None = Unit {0}
StartFits (Some x) = ScalarFits x

-- each number with which an accumulator starts has 64 bits
abbrev pub StartsFit : Fragment → Type 0
StartsFit f = AllByRecursion (λ a. StartFits a.start) f.accs

-- no row has the cells of a later one
abbrev pub AreDistinct : List Row → Type 0
AreDistinct [] = Unit {0}
AreDistinct (r ∷ rows) = (list_any (λ s. same_cells r.cells s.cells) rows ≡ false) × AreDistinct rows
