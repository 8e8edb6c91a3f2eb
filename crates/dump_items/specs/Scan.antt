-- How far what has been opened goes.
use Rattle.std.specs.Prelude.{ℕ, ◌+◌, Bool, ◌&&◌, ◌==◌, List, [], ◌∷◌, length, Option, Some, None, if◌then◌else◌}
use Rattle.std.specs.List.{starts_with}
use Rattle.dump_items.specs.declared.scan.Until.{Until}
use Rattle.dump_items.specs.declared.scan.Until.TheVariants.{Quote, Star, Data}

-- What is known after a byte, and none where the byte is the last one. Before a byte, 1 says of a quoted text that the byte is taken as
-- it stands, of a comment that a star stands before it, and of lines of data that it begins a line, where 2 is behind a backslash that
-- begins one.
abbrev pub quote_step : ℕ → Bool → ℕ → ℕ → Option ℕ
quote_step close escapes s b =
    if s == 1 then Some 0 else (if b == close then None else (if escapes && (b == 92) then Some 1 else Some 0))

abbrev pub star_step : ℕ → ℕ → Option ℕ
star_step s b = if (s == 1) && (b == 47) then None else (if b == 42 then Some 1 else Some 0)

abbrev pub data_step : ℕ → ℕ → Option ℕ
data_step s b =
    if b == 10 then Some 1 else (if (s == 1) && (b == 92) then Some 2 else (if (s == 2) && (b == 46) then None else Some 0))

abbrev pub step : Until → ℕ → ℕ → Option ℕ
step (Quote close escapes) s b = quote_step close escapes s b
step Star s b = star_step s b
step Data s b = data_step s b

abbrev pub option_cases : {A B : Type 0} → Option A → B → (A → B) → B
option_cases None b f = b
option_cases (Some a) b f = f a

-- how many bytes there are up to the last one and with it, or up to the end where there is none
unfoldable pub scan_len : Until → ℕ → List ℕ → ℕ
scan_len until s [] = 0
scan_len until s (b ∷ bs) = option_cases (step until s b) 1 (λ t. 1 + scan_len until t bs)

-- how many bytes there are up to the first place where the tag stands and with it, or up to the end where there is none
unfoldable pub tag_end : List ℕ → List ℕ → ℕ
tag_end tag [] = 0
tag_end tag (b ∷ bs) = if starts_with (λ x y. x == y) (b ∷ bs) tag then length tag else 1 + tag_end tag bs
