-- The sum of the numbers of a table, which is run.
use Rattle.std.specs.Prelude.{ℤ, pos, false, List, [], ◌∷◌, map, Some, None, codes}
use Rattle.qbs_base.specs.declared.scalar.Kind.TheVariants as kinds
use Rattle.qbs_base.specs.declared.scalar.Row.{Row}
use Rattle.qbs_base.specs.declared.scalar.Scalar.TheVariants as scalars
use Rattle.qbs_base.specs.Values.{Database}
use Rattle.tor_terms.specs.declared.term.Elem.TheVariants as elems
use Rattle.kernel_lang.specs.declared.parts.Entry.{Entry}
use Rattle.kernel_lang.specs.declared.parts.Update.TheVariants as updates
use Rattle.kernel_lang.specs.Plain.{Accumulator, Fragment}

abbrev pub number_row : ℤ → Row
number_row n = record { kind = kinds.Table 0; cells = scalars.Long n ∷ [] }

abbrev pub numbers : List ℤ → Database
numbers ns = (codes "Pay", map number_row ns) ∷ []

abbrev pub nothing : Entry
nothing = record { values = []; known = [] }

abbrev pub sum_of_column : Accumulator
sum_of_column =
    record {
      chain = 0 ∷ [];
      base = 0;
      guards = None ∷ [];
      update = updates.Plus (elems.Field 0 0);
      start = Some (scalars.Long (pos 0));
      opposite = false;
      pool = [];
    }

abbrev pub sum_of_numbers : Fragment
sum_of_numbers = record { lists = record { table = 0; keys = []; limit = None } ∷ []; atoms = []; accs = sum_of_column ∷ []; entries = []; known = 0 }
