-- The fetch patterns of a map.
use Rattle.std.specs.Prelude.{ℕ, List, [], ◌∷◌, ◌++◌, false, codes, position, Result, Ok, Err, if◌then◌else◌}
use Rattle.std.specs.declared.option.Option.{Option}
use Rattle.std.specs.declared.option.Option.TheVariants.{Some, None}
use Rattle.std.specs.Str.{bytes_eq}
use Rattle.view_items.specs.declared.item.Item.{Item}
use Rattle.view_map.specs.declared.fault.MapRule.TheVariants as rules
use Rattle.view_map.specs.declared.fault.MapFault.{MapFault}
use Rattle.view_map.specs.declared.draft.Placed.{Placed}
use Rattle.view_map.specs.declared.model.PatternItem.{PatternItem}
use Rattle.view_map.specs.declared.model.RowClass.{RowClass}
use Rattle.view_map.specs.declared.model.FetchPattern.{FetchPattern}
use Rattle.view_map.specs.Keys.{is_key}
use Rattle.view_map.specs.Reading.{◌>>=◌, Read, option_cases, fault_at, first_from, sign_at, name_at, within_at}
use Rattle.view_map.specs.Patterns.{pattern_at, pattern_items}

-- the number of the class of a name
abbrev pub class_number : List RowClass → List ℕ → Option ℕ
class_number classes name = position (λ (c : RowClass). bytes_eq c.class name) classes

unfoldable pub class_judged : List RowClass → Placed → Result ℕ MapFault
class_judged classes class = option_cases (class_number classes class.name) (Err (fault_at rules.Unknown class.at)) (λ n. Ok n)

-- items one by one
unfoldable pub spelled : List PatternItem → List ℕ
spelled [] = []
spelled (i ∷ is) = i.bytes ++ 10 ∷ spelled is

abbrev pub within_bytes : Option (List ℕ) → List ℕ
within_bytes None = []
within_bytes (Some name) = name

-- two patterns of one key are one pattern in the files of one class
abbrev pub pattern_key : FetchPattern → List ℕ
pattern_key f = within_bytes f.within ++ 10 ∷ spelled f.items

abbrev pub pattern_of : ℕ → Option (List ℕ) → List Item → FetchPattern
pattern_of number within is = record { table = number; within = within; items = pattern_items is }

-- behind patterns of these keys
abbrev pub pattern_judged : List (List ℕ) → FetchPattern → ℕ → Result FetchPattern MapFault
pattern_judged keys f at = if is_key keys (pattern_key f) then Err (fault_at rules.DoubleName at) else Ok f

-- what stands behind `fetch`, behind patterns of these keys
unfoldable pub fetch_at : List RowClass → List (List ℕ) → ℕ → List Item → Read FetchPattern
fetch_at classes keys end is =
    name_at end is >>= λ class. class_judged classes class.0 >>= λ number. within_at end class.1 >>= λ within.
    sign_at (codes "=") end within.1 >>= λ rest. pattern_at false end rest >>= λ p. sign_at (codes ";") end p.1 >>= λ after.
    pattern_judged keys (pattern_of number within.0 p.0) (first_from end rest) >>= λ f. Ok (f, after)
