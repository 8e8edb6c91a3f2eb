-- Keywords and names among the items of a dump.
use Rattle.std.specs.Prelude.{ℕ, ◌-◌, Bool, true, false, ◌&&◌, List, [], ◌∷◌, length, take, drop, codes, if◌then◌else◌}
use Rattle.std.specs.List.{list_any}
use Rattle.dump_items.specs.declared.item.ItemKind.{ItemKind}
use Rattle.dump_items.specs.declared.item.ItemKind.TheVariants as kinds
use Rattle.dump_items.specs.declared.item.Item.{Item}
use Rattle.dump_items.specs.Bytes.{spells}

abbrev pub is_word_kind : ItemKind → Bool
is_word_kind kinds.Word = true
is_word_kind _ = false

abbrev pub is_quoted : ItemKind → Bool
is_quoted kinds.Quoted = true
is_quoted _ = false

abbrev pub is_name : ItemKind → Bool
is_name kinds.Word = true
is_name kinds.Quoted = true
is_name _ = false

abbrev pub is_open : ItemKind → Bool
is_open kinds.Open = true
is_open _ = false

abbrev pub is_close : ItemKind → Bool
is_close kinds.Close = true
is_close _ = false

abbrev pub is_comma : ItemKind → Bool
is_comma kinds.Comma = true
is_comma _ = false

abbrev pub is_dot : ItemKind → Bool
is_dot kinds.Dot = true
is_dot _ = false

-- a keyword, in any letter case and without quotes
abbrev pub is_word : List ℕ → Item → Bool
is_word keyword i = is_word_kind i.kind && spells keyword i.bytes

abbrev pub is_one_of : List (List ℕ) → Item → Bool
is_one_of keywords i = list_any (λ keyword. is_word keyword i) keywords

-- the items begin with these keywords
abbrev pub begins : List (List ℕ) → List Item → Bool
begins [] is = true
begins (k ∷ ks) [] = false
begins (k ∷ ks) (i ∷ is) = is_word k i && begins ks is

-- without these keywords, where the items begin with them
abbrev pub without : List (List ℕ) → List Item → List Item
without keywords is = if begins keywords is then drop (length keywords) is else is

abbrev pub if_not_exists : List (List ℕ)
if_not_exists = codes "IF" ∷ codes "NOT" ∷ codes "EXISTS" ∷ []

abbrev pub within_quotes : List ℕ → List ℕ
within_quotes bs = take (length bs - 2) (drop 1 bs)

-- what a name means: in quotes what stands between them
abbrev pub meaning_of : ItemKind → List ℕ → List ℕ
meaning_of kinds.Quoted bs = within_quotes bs
meaning_of _ bs = bs

abbrev pub meaning : Item → List ℕ
meaning i = meaning_of i.kind i.bytes
