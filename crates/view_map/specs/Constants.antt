-- The constants of a map.
use Rattle.std.specs.Prelude.{ℕ, ℤ, pos, negsuc, zero, suc, ◌==◌, ◌||◌, ◌&&◌, ◌^◌, nat_lt, List, [], ◌∷◌, ◌++◌, length, take, drop, Bool, true, false, not, codes, is_some, Result, Ok, Err, if◌then◌else◌}
use Rattle.std.specs.declared.option.Option.{Option}
use Rattle.std.specs.declared.option.Option.TheVariants.{Some, None}
use Rattle.std.specs.List.{prefix_len}
use Rattle.qbs_base.specs.Bytes.{is_digit}
use Rattle.schema.specs.Rows.{long_of}
use Rattle.view_items.specs.declared.item.Item.{Item}
use Rattle.view_map.specs.declared.fault.MapRule.TheVariants as rules
use Rattle.view_map.specs.declared.fault.MapFault.{MapFault}
use Rattle.view_map.specs.declared.draft.ConstantDraft.{ConstantDraft}
use Rattle.view_map.specs.declared.model.ScalarKind.{ScalarKind}
use Rattle.view_map.specs.declared.model.ScalarKind.TheVariants as scalars
use Rattle.view_map.specs.declared.model.ScalarType.{ScalarType}
use Rattle.view_map.specs.declared.model.Literal.{Literal}
use Rattle.view_map.specs.declared.model.Constant.{Constant}
use Rattle.view_map.specs.Words.{is_spelled, is_number_kind, is_text_kind, type_of, is_constant_type, fits_literal}
use Rattle.view_map.specs.Keys.{is_key}
use Rattle.view_map.specs.Reading.{◌>>=◌, Read, option_cases, fault_at, begins, token_at, sign_at, name_at}

-- ---- Literals

-- the digits of a number, with its sign
abbrev pub signed : Bool → List ℕ → List ℕ
signed negative ds = if negative then 45 ∷ ds else ds

-- a number of 32 bits with a sign
abbrev pub fits_int : ℤ → Bool
fits_int (pos n) = nat_lt n (2 ^ 31)
fits_int (negsuc n) = nat_lt n (2 ^ 31)

abbrev pub is_int : Option ℤ → Bool
is_int None = false
is_int (Some z) = fits_int z

-- the first of several digits is not 0
abbrev pub is_decimal : List ℕ → Bool
is_decimal [] = false
is_decimal (d ∷ []) = true
is_decimal (d ∷ e ∷ ds) = not (d == 48)

-- the type of a number, by what stands behind its digits
abbrev pub suffix_type : List ℕ → Option ScalarKind
suffix_type [] = Some scalars.Int
suffix_type (b ∷ []) = if b == 76 then Some scalars.Long else None
suffix_type (b ∷ c ∷ bs) = None

-- a number of these digits is in the range of its type
abbrev pub in_range : ScalarKind → Option ℤ → Bool
in_range scalars.Int z = is_int z
in_range _ z = is_some z

abbrev pub number_by : Bool → List ℕ → ScalarKind → Option ScalarKind
number_by negative ds kind = if is_decimal ds && in_range kind (long_of (signed negative ds)) then Some kind else None

-- the type of a decimal number within it, behind a minus sign or not
unfoldable pub number_type : Bool → List ℕ → Option ScalarKind
number_type negative bs = option_cases (suffix_type (drop (prefix_len is_digit bs) bs)) None (number_by negative (take (prefix_len is_digit bs) bs))

abbrev pub literal : Bool → Item → ScalarKind → Literal
literal negative i kind = record { kind = kind; negative = negative; bytes = i.bytes }

abbrev pub number_in : Bool → Item → Option Literal
number_in negative i = if is_number_kind i.kind then option_cases (number_type negative i.bytes) None (λ kind. Some (literal negative i kind)) else None

abbrev pub is_truth : Item → Bool
is_truth i = is_spelled (codes "true") i || is_spelled (codes "false") i

abbrev pub literal_in : Item → Option Literal
literal_in i =
    if is_text_kind i.kind then Some (literal false i scalars.Text)
    else (if is_truth i then Some (literal false i scalars.Boolean) else number_in false i)

abbrev pub negative_at : ℕ → List Item → Read Literal
negative_at end is = token_at (number_in true) end is

abbrev pub positive_at : ℕ → List Item → Read Literal
positive_at end is = token_at literal_in end is

-- a minus sign stands before a number alone
unfoldable pub literal_at : ℕ → List Item → Read Literal
literal_at end is =
    if begins (codes "-") is then (sign_at (codes "-") end is >>= λ rest. negative_at end rest) else positive_at end is

-- ---- Constants

abbrev pub constant_type_of : ScalarType → ℕ → Option (ScalarKind × ℕ)
constant_type_of t at = if is_constant_type t then Some (t.kind, at) else None

abbrev pub constant_type_in : Item → Option (ScalarKind × ℕ)
constant_type_in i = option_cases (type_of i.bytes) None (λ t. constant_type_of t i.from)

abbrev pub constant_type_at : ℕ → List Item → Read (ScalarKind × ℕ)
constant_type_at end is = token_at constant_type_in end is

-- a dot and a name
unfoldable pub next_name_at : ℕ → List Item → Read (List ℕ)
next_name_at end is = sign_at (codes ".") end is >>= λ rest. name_at end rest >>= λ name. Ok (name.0.name, name.1)

-- names behind these, with a dot before each, no more than so many
unfoldable pub names_behind : List (List ℕ) → ℕ → ℕ → List Item → Read (List (List ℕ))
names_behind names zero end is = Ok (names, is)
names_behind names (suc n) end is =
    if begins (codes ".") is
    then (next_name_at end is >>= λ name. names_behind (names ++ name.0 ∷ []) n end name.1)
    else Ok (names, is)

-- what stands behind `constant`
unfoldable pub constant_at : ℕ → List Item → Read ConstantDraft
constant_at end is =
    constant_type_at end is >>= λ t. name_at end t.1 >>= λ first. names_behind (first.0.name ∷ []) (length first.1) end first.1 >>= λ names.
    sign_at (codes "=") end names.1 >>= λ rest. literal_at end rest >>= λ value. sign_at (codes ";") end value.1 >>= λ after.
    Ok (record { kind = t.0.0; at = t.0.1; names = names.0; names_at = first.0.at; value = value.0 }, after)

-- names with a dot behind each
unfoldable pub dotted : List (List ℕ) → List ℕ
dotted [] = []
dotted (n ∷ ns) = n ++ 46 ∷ dotted ns

abbrev pub constant_key : Constant → List ℕ
constant_key c = dotted c.names

abbrev pub constant_of : ConstantDraft → Constant
constant_of d = record { kind = d.kind; names = d.names; value = d.value }

-- behind constants of these keys; the type stands before the name
abbrev pub constant_judged : List (List ℕ) → ConstantDraft → Result Constant MapFault
constant_judged keys d =
    if not (fits_literal d.kind d.value.kind) then Err (fault_at rules.Mismatch d.at)
    else (if is_key keys (dotted d.names) then Err (fault_at rules.DoubleName d.names_at) else Ok (constant_of d))
