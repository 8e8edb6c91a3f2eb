-- The whole: the plans that the top call may end with, for words and files.
use Rattle.std.specs.Prelude.{◌≡◌, ◌⊎◌, ℕ, List, Bool, true, false, is_none}
use Rattle.std.specs.declared.option.Option.{Option}
use Rattle.std.specs.declared.option.Option.TheVariants.{Some, None}
use Rattle.words.specs.declared.command.Command.{Command}
use Rattle.words.specs.declared.command.Command.TheVariants as commands
use Rattle.words.specs.declared.command.Options.{Options}
use Rattle.words.specs.Plain.{HasWords}
use Rattle.deliveries.specs.Plan.{Given, no_memory, not_yet, bad_words}
use Rattle.deliveries.specs.Steps.{Ends, ends, step}
use Rattle.qbs.specs.Check.{check}
use Rattle.qbs.specs.CheckByView.{check_by_view}
use Rattle.qbs.specs.Draw.{draw}
use Rattle.qbs.specs.Gather.{gather}
use Rattle.qbs.specs.Inline.{inline}
use Rattle.qbs.specs.Narrow.{narrow}
use Rattle.qbs.specs.Pruners.{May}
use Rattle.qbs.specs.Prove.{prove}
use Rattle.qbs.specs.ProveByView.{prove_by_view}
use Rattle.qbs.specs.Make.{make}
use Rattle.qbs.specs.Maps.{draws, checks_map}
use Rattle.qbs.specs.Rewrite.{rewrite}
use Rattle.qbs.specs.RewriteByView.{rewrite_by_view}
use Rattle.qbs.specs.Run.{run}
use Rattle.qbs.specs.Sql.{sql}
use Rattle.qbs.specs.Unnest.{unnest}
use Rattle.qbs.specs.View.{view}

-- no option is set that isn't built yet: a view
abbrev pub is_plain : Options → Bool
is_plain o = is_none o.view

-- which commands are built, and with which options
abbrev pub is_built : Command → Bool
is_built (commands.Rewrite o schema source) = true
is_built (commands.Prove o schema source) = true
is_built (commands.Check o schema source bundle) = true
is_built (commands.Run o schema source folder method words) = true
is_built (commands.Sql schema folder query) = true
is_built (commands.Make n) = true
is_built (commands.Schema o dump) = true
is_built (commands.Inline schema source) = true
is_built (commands.Narrow o schema source) = is_plain o
is_built (commands.Unnest o schema source) = is_plain o
is_built (commands.Gather o schema source) = is_plain o
is_built (commands.View words schema source) = true
is_built (commands.Map entities) = true
is_built (commands.MapSchema entities) = true
is_built (commands.CheckMap words schema source) = true

-- what is due by a view where the words name a map, and what is due else
abbrev pub by_view : Option (List ℕ) → (List ℕ → Ends) → Ends → Ends
by_view None through plainly = plainly
by_view (Some map) through plainly = through map

-- what is due for a command that is built
abbrev pub built : Given → May → Command → Ends
built files may (commands.Rewrite o schema source) plan = by_view o.view (λ map. rewrite_by_view files may o map schema source) (rewrite files may o schema source) plan
built files may (commands.Prove o schema source) plan = by_view o.view (λ map. prove_by_view files may o map schema source) (prove files may o schema source) plan
built files may (commands.Check o schema source bundle) plan = by_view o.view (λ map. check_by_view files map schema source bundle) (check files schema source bundle) plan
built files may (commands.Run o schema source folder method words) plan = run files o schema source folder (record { method = method; words = words }) plan
built files may (commands.Sql schema folder query) plan = sql files schema folder query plan
built files may (commands.Make n) plan = make n plan
built files may (commands.Schema o dump) plan = draw files o dump plan
built files may (commands.Inline schema source) plan = inline files schema source plan
built files may (commands.Narrow o schema source) plan = narrow files schema source plan
built files may (commands.Unnest o schema source) plan = unnest files o schema source plan
built files may (commands.Gather o schema source) plan = gather files o schema source plan
built files may (commands.View words schema source) plan = view files words schema source plan
built files may (commands.Map entities) plan = draws files entities plan
built files may (commands.MapSchema entities) plan = draws files entities plan
built files may (commands.CheckMap words schema source) plan = checks_map files words schema source plan

abbrev pub where_built : Bool → Ends → Ends
where_built true next plan = next plan
where_built false next plan = ends not_yet plan

-- what is due for a command; the others aren't built yet
abbrev pub command : Given → May → Command → Ends
command files may c plan = where_built (is_built c) (built files may c) plan

-- the words aren't plain
abbrev pub HasNoWords : List (List ℕ) → Type 0
HasNoWords words = (c : Command) → HasWords words c → ⊥

abbrev pub EndsUnbuilt : List (List ℕ) → Ends
EndsUnbuilt words plan = HasNoWords words × (plan ≡ bad_words)

-- what is due for words: nothing is read where they aren't plain
abbrev pub program : Given → May → List (List ℕ) → Ends
program files may words = step (HasWords words) (EndsUnbuilt words) (command files may)

-- want of memory is free
abbrev pub IsDue : Given → May → List (List ℕ) → Ends
IsDue files may words plan = (plan ≡ no_memory) ⊎ program files may words plan
