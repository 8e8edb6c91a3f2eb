-- Commands and options by their words.
use Rattle.std.specs.Prelude.{ℕ, List, Bool, true, false, codes}
use Rattle.words.specs.declared.command.Key.{Key}
use Rattle.words.specs.declared.command.Key.TheVariants.{Size, Candidates, Turns, Rewritten, Store, View, Tables, Columns, Check, Schema}
use Rattle.words.specs.declared.command.Options.{Options}
use Rattle.words.specs.declared.command.Verb.{Verb}
use Rattle.words.specs.declared.command.Verb.TheVariants as verbs
use Rattle.std.specs.declared.option.Option.TheVariants.{None}

-- the word of a command
abbrev pub name_of : Verb → List ℕ
name_of verbs.Rewrite = codes "rewrite"
name_of verbs.Prove = codes "prove"
name_of verbs.Check = codes "check"
name_of verbs.Run = codes "run"
name_of verbs.Sql = codes "sql"
name_of verbs.Make = codes "make"
name_of verbs.Unnest = codes "unnest"
name_of verbs.Narrow = codes "narrow"
name_of verbs.Inline = codes "inline"
name_of verbs.Gather = codes "gather"
name_of verbs.Schema = codes "schema"
name_of verbs.View = codes "view"
name_of verbs.Map = codes "map"

-- the word of an option
abbrev pub word_of : Key → List ℕ
word_of Size = codes "--size"
word_of Candidates = codes "--candidates"
word_of Turns = codes "--turns"
word_of Rewritten = codes "--rewritten"
word_of Store = codes "--store"
word_of View = codes "--view"
word_of Tables = codes "--tables"
word_of Columns = codes "--columns"
word_of Check = codes "--check"
word_of Schema = codes "--schema"

abbrev pub has_value : Key → Bool
has_value Rewritten = false
has_value Check = false
has_value Schema = false
has_value _ = true

-- the options of a search
abbrev pub searches : Key → Bool
searches Size = true
searches Candidates = true
searches _ = false

abbrev pub views : Key → Bool
views View = true
views _ = false

abbrev pub views_and_searches : Key → Bool
views_and_searches View = true
views_and_searches key = searches key

abbrev pub searches_with_store : Key → Bool
searches_with_store Store = true
searches_with_store key = views_and_searches key

abbrev pub runs : Key → Bool
runs Turns = true
runs Rewritten = true
runs key = searches key

-- the options that choose of a dump
abbrev pub chooses : Key → Bool
chooses Tables = true
chooses Columns = true
chooses _ = false

-- what is made of entities, and whether a map is checked
abbrev pub maps : Key → Bool
maps Check = true
maps Schema = true
maps _ = false

-- which options a command takes
abbrev pub takes : Verb → Key → Bool
takes verbs.Rewrite key = searches_with_store key
takes verbs.Prove key = searches_with_store key
takes verbs.Check key = views key
takes verbs.Run key = runs key
takes verbs.Sql key = false
takes verbs.Make key = false
takes verbs.Unnest key = views_and_searches key
takes verbs.Narrow key = views key
takes verbs.Inline key = false
takes verbs.Gather key = searches key
takes verbs.Schema key = chooses key
takes verbs.View key = false
takes verbs.Map key = maps key

-- no option is set
abbrev pub unset : Options
unset = record { size = None; candidates = None; turns = None; rewritten = false; store = None; view = None; tables = None; columns = None; check = false; schema = false }
