-- Reading the items of a map from left to right, where the text ends behind so many bytes.
use Rattle.std.specs.Prelude.{◌≡◌, ℕ, List, [], ◌∷◌, Bool, true, false, codes, Result, Ok, Err, if◌then◌else◌}
use Rattle.std.specs.declared.option.Option.{Option}
use Rattle.std.specs.declared.option.Option.TheVariants.{Some, None}
use Rattle.qbs_base.specs.declared.memory.Fail.{Fail}
use Rattle.qbs_base.specs.Memory.{FailsBy}
use Rattle.view_items.specs.declared.item.Item.{Item}
use Rattle.view_map.specs.declared.fault.MapRule.{MapRule}
use Rattle.view_map.specs.declared.fault.MapRule.TheVariants as rules
use Rattle.view_map.specs.declared.fault.MapFault.{MapFault}
use Rattle.view_map.specs.declared.draft.Placed.{Placed}
use Rattle.view_map.specs.declared.model.ScalarType.{ScalarType}
use Rattle.view_map.specs.Words.{is_spelled, is_plain, is_keyword, type_of}

-- what comes of what was read, or its fault
infixl 10 ◌>>=◌
abbrev pub ◌>>=◌ : {A B : Type 0} → Result A MapFault → (A → Result B MapFault) → Result B MapFault
(Ok x) >>= f = f x
(Err e) >>= f = Err e

-- what a function gave, seen by view, is what is read, unless memory ran out
abbrev pub Gives : {X Y : Type 0} → (X → Y) → Result X (Fail MapFault) → Result Y MapFault → Type 0
Gives view (Ok x) read = read ≡ Ok (view x)
Gives view (Err e) read = FailsBy e read

abbrev pub option_cases : {A B : Type 0} → Option A → B → (A → B) → B
option_cases None b f = b
option_cases (Some a) b f = f a

abbrev pub fault_at : MapRule → ℕ → MapFault
fault_at rule at = record { rule = rule; at = at }

-- where the first of these items stands, or the end
abbrev pub first_from : ℕ → List Item → ℕ
first_from end [] = end
first_from end (i ∷ is) = i.from

-- no map goes on with the first of these items, or with the end
abbrev pub unexpected : ℕ → List Item → MapFault
unexpected end is = fault_at rules.Unexpected (first_from end is)

-- what is read, and the items behind it
abbrev pub Read : Type 0 → Type 0
Read A = Result (A × List Item) MapFault

-- one item, if f accepts it
abbrev pub token_at : {A : Type 0} → (Item → Option A) → ℕ → List Item → Read A
token_at f end [] = Err (unexpected end [])
token_at f end (i ∷ is) = option_cases (f i) (Err (unexpected end (i ∷ is))) (λ x. Ok (x, is))

abbrev pub begins : List ℕ → List Item → Bool
begins word [] = false
begins word (i ∷ is) = is_spelled word i

-- the item of these bytes
abbrev pub sign_at : List ℕ → ℕ → List Item → Result (List Item) MapFault
sign_at word end [] = Err (unexpected end [])
sign_at word end (i ∷ is) = if is_spelled word i then Ok is else Err (unexpected end (i ∷ is))

-- ---- Names and types

abbrev pub placed : Item → Placed
placed i = record { name = i.bytes; at = i.from }

abbrev pub word_in : Item → Option Placed
word_in i = if is_plain i then Some (placed i) else None

abbrev pub no_keyword : Placed → Option Placed
no_keyword word = if is_keyword word.name then None else Some word

abbrev pub name_in : Item → Option Placed
name_in i = option_cases (word_in i) None no_keyword

-- a name of a table or of a column
abbrev pub word_at : ℕ → List Item → Read Placed
word_at end is = token_at word_in end is

-- a name of Java
abbrev pub name_at : ℕ → List Item → Read Placed
name_at end is = token_at name_in end is

abbrev pub type_in : Item → Option (ScalarType × ℕ)
type_in i = option_cases (type_of i.bytes) None (λ t. Some (t, i.from))

abbrev pub type_at : ℕ → List Item → Read (ScalarType × ℕ)
type_at end is = token_at type_in end is

-- `in` and a name, where `in` is next
unfoldable pub within_at : ℕ → List Item → Read (Option (List ℕ))
within_at end is =
    if begins (codes "in") is
    then (sign_at (codes "in") end is >>= λ rest. name_at end rest >>= λ n. Ok (Some n.0.name, n.1))
    else Ok (None, is)

-- `=` and a name of the schema, where `=` is next
unfoldable pub given_at : ℕ → List Item → Read (Option Placed)
given_at end is =
    if begins (codes "=") is
    then (sign_at (codes "=") end is >>= λ rest. word_at end rest >>= λ n. Ok (Some n.0, n.1))
    else Ok (None, is)

-- one item and another, where the first is next
unfoldable pub pair_at : List ℕ → List ℕ → ℕ → List Item → Read Bool
pair_at first second end is =
    if begins first is
    then (sign_at first end is >>= λ rest. sign_at second end rest >>= λ after. Ok (true, after))
    else Ok (false, is)
