-- The world of an environment: what isn't in the environment is empty, missing or false.
use Rattle.std.specs.Prelude.{if◌then◌else◌, Bool, true, false, ◌&&◌, List, [], ◌∷◌, map, get_or, slice_get}
use Rattle.std.specs.declared.option.Option.{Option}
use Rattle.std.specs.declared.option.Option.TheVariants.{Some, None}
use Rattle.qbs_base.specs.declared.scalar.Row.{Row}
use Rattle.qbs_base.specs.declared.scalar.Value.{Value}
use Rattle.qbs_base.specs.declared.scalar.Value.TheVariants as values
use Rattle.tor_terms.specs.declared.env.Env.{Env}
use Rattle.tor_terms.specs.declared.env.FlagTable.{FlagTable}
use Rattle.tor_terms.specs.Truth.{Datum, Element, World}
use Rattle.tor_terms.specs.Value.{plain_row, only, same_row}

-- a held value as a list
abbrev pub held_list : Option Value → List Datum
held_list (Some (values.One x)) = only x
held_list (Some (values.Whole r)) = Element r ∷ []
held_list (Some (values.Many rows)) = map Element rows
held_list None = []

abbrev pub same_rows : List Row → List Row → Bool
same_rows [] [] = true
same_rows (r ∷ rs) (s ∷ ss) = same_row r s && same_rows rs ss
same_rows _ _ = false

-- the truth at the first place of a choice of rows, and false where it isn't listed
abbrev pub listed_truth : List (List Row) → List Bool → List Row → Bool
listed_truth (choice ∷ choices) (b ∷ truths) rows = if same_rows choice rows then b else listed_truth choices truths rows
listed_truth _ _ rows = false

abbrev pub flag_truth : Option FlagTable → List Row → Bool
flag_truth None rows = false
flag_truth (Some table) rows = listed_truth table.rows table.truths rows

abbrev pub world_of : Env → World
world_of env =
    record {
      lists = λ j. get_or env.lists j [];
      turns = λ j. get_or env.at j 0;
      current = λ j. get_or env.cur j (plain_row None);
      entries = λ k. slice_get env.entries k;
      known = λ k. get_or env.known k [];
      held = λ n. held_list (slice_get env.holds n);
      flags = λ k. flag_truth (slice_get env.flags k);
    }
