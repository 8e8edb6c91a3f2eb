-- Reading words from left to right.
use Rattle.std.specs.Prelude.{◌≡◌, ◌↔◌, ℕ, List, [], ◌∷◌, Bool, true, false, codes, if◌then◌else◌}
use Rattle.std.proofs.Common.{Bor}
use Rattle.std.specs.Str.{bytes_eq}
use Rattle.std.specs.declared.option.Option.{Option}
use Rattle.std.specs.declared.option.Option.TheVariants.{Some, None}
use Rattle.word_values.specs.Values.{behind, number_within}
use Rattle.words.specs.declared.command.Command.{Command}
use Rattle.words.specs.declared.command.Command.TheVariants as commands
use Rattle.words.specs.declared.command.Key.{Key}
use Rattle.words.specs.declared.command.Key.TheVariants.{Size, Candidates, Turns, Rewritten, Store, View, Tables, Columns, Check, Schema}
use Rattle.words.specs.declared.command.Options.{Options}
use Rattle.words.specs.declared.command.Verb.{Verb}
use Rattle.words.specs.declared.command.Verb.TheVariants as verbs
use Rattle.words.specs.declared.read.Spelling.{Spelling}
use Rattle.words.specs.declared.read.Spelling.TheVariants as spellings
use Rattle.words.specs.Options.{takes, unset}
use Rattle.words.specs.Plain.{all_bare, HasWords}

-- the command of a word
abbrev pub verb_of : List ℕ → Option Verb
verb_of w =
    if bytes_eq w (codes "rewrite") then Some verbs.Rewrite
    else (if bytes_eq w (codes "prove") then Some verbs.Prove
    else (if bytes_eq w (codes "check") then Some verbs.Check
    else (if bytes_eq w (codes "run") then Some verbs.Run
    else (if bytes_eq w (codes "sql") then Some verbs.Sql
    else (if bytes_eq w (codes "make") then Some verbs.Make
    else (if bytes_eq w (codes "unnest") then Some verbs.Unnest
    else (if bytes_eq w (codes "narrow") then Some verbs.Narrow
    else (if bytes_eq w (codes "inline") then Some verbs.Inline
    else (if bytes_eq w (codes "gather") then Some verbs.Gather
    else (if bytes_eq w (codes "schema") then Some verbs.Schema
    else (if bytes_eq w (codes "view") then Some verbs.View
    else (if bytes_eq w (codes "map") then Some verbs.Map
    else None))))))))))))

-- how a word spells an option
pub data Spelled : Type 0 where
  Flag : Key → Spelled
  Next : Key → Spelled
  Same : Key → List ℕ → Spelled
  Other : Spelled

abbrev pub value_or : Key → Option (List ℕ) → Spelled → Spelled
value_or k (Some v) rest = Same k v
value_or k None rest = rest

-- with the value behind `=`
abbrev pub spelled_within : List ℕ → Spelled
spelled_within w =
    value_or Size (behind (codes "--size=") w)
    (value_or Candidates (behind (codes "--candidates=") w)
    (value_or Turns (behind (codes "--turns=") w)
    (value_or Store (behind (codes "--store=") w)
    (value_or View (behind (codes "--view=") w)
    (value_or Tables (behind (codes "--tables=") w)
    (value_or Columns (behind (codes "--columns=") w) Other))))))

abbrev pub spelled : List ℕ → Spelled
spelled w =
    if bytes_eq w (codes "--rewritten") then Flag Rewritten
    else (if bytes_eq w (codes "--check") then Flag Check
    else (if bytes_eq w (codes "--schema") then Flag Schema
    else (if bytes_eq w (codes "--size") then Next Size
    else (if bytes_eq w (codes "--candidates") then Next Candidates
    else (if bytes_eq w (codes "--turns") then Next Turns
    else (if bytes_eq w (codes "--store") then Next Store
    else (if bytes_eq w (codes "--view") then Next View
    else (if bytes_eq w (codes "--tables") then Next Tables
    else (if bytes_eq w (codes "--columns") then Next Columns
    else spelled_within w)))))))))

-- what the code's spelling is
abbrev pub spelling : Spelling → Spelled
spelling (spellings.Flag k) = Flag k
spelling (spellings.Next k) = Next k
spelling (spellings.Same k v) = Same k v.now
spelling spellings.Other = Other

abbrev pub set_number : Option ℕ → Option ℕ → (ℕ → Options) → Option Options
set_number None (Some n) make = Some (make n)
set_number None None make = None
set_number (Some held) n make = None

abbrev pub set_text : Option (List ℕ) → Options → Option Options
set_text None o = Some o
set_text (Some held) o = None

-- a flag has no value
abbrev pub set_flag : Bool → List ℕ → Options → Option Options
set_flag false [] o = Some o
set_flag false (b ∷ bs) o = None
set_flag true v o = None

-- the options with one more, where it isn't set yet and its value is one
abbrev pub set : Key → List ℕ → Options → Option Options
set Size v o = set_number o.size (number_within 0 8 v) (λ n. record o { size = Some n })
set Candidates v o = set_number o.candidates (number_within 1 1000000 v) (λ n. record o { candidates = Some n })
set Turns v o = set_number o.turns (number_within 1 100000000 v) (λ n. record o { turns = Some n })
set Rewritten v o = set_flag o.rewritten v (record o { rewritten = true })
set Store v o = set_text o.store (record o { store = Some v })
set View v o = set_text o.view (record o { view = Some v })
set Tables v o = set_text o.tables (record o { tables = Some v })
set Columns v o = set_text o.columns (record o { columns = Some v })
set Check v o = set_flag o.check v (record o { check = true })
set Schema v o = set_flag o.schema v (record o { schema = true })

abbrev pub set_for : Verb → Key → List ℕ → Options → Option Options
set_for verb k v o = if takes verb k then set k v o else None

-- goes on with the options, where there are any
abbrev pub with : {A B : Type 0} → Option A → (A → Option B) → Option B
with None f = None
with (Some x) f = f x

-- the options at the front, and the words after them
unfoldable mutual
  pub options_of : Verb → List (List ℕ) → Options → Option (Options × List (List ℕ))
  options_of verb [] o = Some (o, [])
  options_of verb (w ∷ ws) o =
      elim (spelled w) [
        | Flag k ↦ with (set_for verb k [] o) (λ p. options_of verb ws p)
        | Next k ↦ value_then verb k ws o
        | Same k v ↦ with (set_for verb k v o) (λ p. options_of verb ws p)
        | Other ↦ Some (o, w ∷ ws)
      ]

  -- the value of an option in the next word
  pub value_then : Verb → Key → List (List ℕ) → Options → Option (Options × List (List ℕ))
  value_then verb k [] o = None
  value_then verb k (v ∷ vs) o = with (set_for verb k v o) (λ p. options_of verb vs p)

-- what the code's options and words are
abbrev pub seen : Option (Options × Bor (List (List ℕ))) → Option (Options × List (List ℕ))
seen None = None
seen (Some r) = Some (r.0, r.1.now)

-- the other words
abbrev pub others_of : List (List ℕ) → Option (List (List ℕ))
others_of [] = Some []
others_of (w ∷ ws) = if bytes_eq w (codes "--") then Some ws else (if all_bare (w ∷ ws) then Some (w ∷ ws) else None)

abbrev pub made : Option ℕ → Option Command
made None = None
made (Some n) = Some (commands.Make n)

abbrev pub two_names : List (List ℕ) → (List ℕ → List ℕ → Command) → Option Command
two_names (s ∷ p ∷ []) make = Some (make s p)
two_names _ make = None

abbrev pub three_names : List (List ℕ) → (List ℕ → List ℕ → List ℕ → Command) → Option Command
three_names (s ∷ p ∷ b ∷ []) make = Some (make s p b)
three_names _ make = None

abbrev pub run_names : List (List ℕ) → Options → Option Command
run_names (s ∷ p ∷ d ∷ m ∷ args) o = Some (commands.Run o s p d m args)
run_names _ o = None

abbrev pub make_names : List (List ℕ) → Option Command
make_names (w ∷ []) = made (number_within 1 100000 w)
make_names _ = None

abbrev pub schema_names : List (List ℕ) → Options → Option Command
schema_names (d ∷ []) o = Some (commands.Schema o d)
schema_names _ o = None

abbrev pub entity_names : List (List ℕ) → Option Command
entity_names (e ∷ es) = Some (commands.Map (e ∷ es))
entity_names [] = None

abbrev pub schema_entity_names : List (List ℕ) → Option Command
schema_entity_names (e ∷ es) = Some (commands.MapSchema (e ∷ es))
schema_entity_names [] = None

abbrev pub checked_names : List (List ℕ) → Option Command
checked_names (m ∷ s ∷ []) = Some (commands.CheckMap m s None)
checked_names (m ∷ s ∷ p ∷ []) = Some (commands.CheckMap m s (Some p))
checked_names _ = None

-- whether it is checked, and whether a schema is made
abbrev pub map_names : Bool → Bool → List (List ℕ) → Option Command
map_names false false names = entity_names names
map_names false true names = schema_entity_names names
map_names true false names = checked_names names
map_names true true names = None

-- the command with its names
abbrev pub command_of : Verb → Options → List (List ℕ) → Option Command
command_of verbs.Rewrite o names = two_names names (commands.Rewrite o)
command_of verbs.Prove o names = two_names names (commands.Prove o)
command_of verbs.Check o names = three_names names (commands.Check o)
command_of verbs.Run o names = run_names names o
command_of verbs.Sql o names = three_names names commands.Sql
command_of verbs.Make o names = make_names names
command_of verbs.Unnest o names = two_names names (commands.Unnest o)
command_of verbs.Narrow o names = two_names names (commands.Narrow o)
command_of verbs.Inline o names = two_names names commands.Inline
command_of verbs.Gather o names = two_names names (commands.Gather o)
command_of verbs.Schema o names = schema_names names o
command_of verbs.View o names = three_names names commands.View
command_of verbs.Map o names = map_names o.check o.schema names

-- the command of a verb with the words after it
abbrev pub command_with : Verb → List (List ℕ) → Option Command
command_with verb ws =
    with (options_of verb ws unset) (λ r.
    with (others_of r.1) (λ names. command_of verb r.0 names))

-- the command of plain words
abbrev pub plain : List (List ℕ) → Option Command
plain [] = None
plain (w ∷ ws) = with (verb_of w) (λ verb. command_with verb ws)

-- reading finds exactly the command of plain words
abbrev pub ReadsPlainWords : Type 0
ReadsPlainWords = (ws : List (List ℕ)) (c : Command) → (plain ws ≡ Some c ↔ HasWords ws c)

-- SCHEMA of `rewrite`, `prove` and `run`
abbrev pub schema_of : Command → Option (List ℕ)
schema_of (commands.Rewrite o schema source) = Some schema
schema_of (commands.Prove o schema source) = Some schema
schema_of (commands.Run o schema source folder method arguments) = Some schema
schema_of _ = None

-- and of plain words, where they have one
abbrev pub schema_in : List (List ℕ) → Option (List ℕ)
schema_in words = with (plain words) schema_of
