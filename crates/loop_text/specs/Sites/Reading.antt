-- What the code holds as plain records.
use Rattle.std.specs.Prelude.{List, map}
use Rattle.std.specs.Borrow.{Bor}
use Rattle.java_ast.specs.declared.tree.Expr.{Expr}
use Rattle.java_ast.specs.Tree.{Expression}
use Rattle.std.specs.Option.{option_map}
use Rattle.java_ast.specs.Reading.{expression, expressions, statement}
use Rattle.loop_text.specs.declared.sites.list.Test as code
use Rattle.loop_text.specs.declared.sites.list.Round as rounds
use Rattle.loop_text.specs.declared.sites.list.Site as sites
use Rattle.loop_text.specs.declared.sites.bindings.RowColumn as columns
use Rattle.loop_text.specs.declared.loops.lists.Source as sources
use Rattle.loop_text.specs.declared.loops.counting.Counting as countings
use Rattle.loop_text.specs.declared.loops.counting.Cap as caps
use Rattle.loop_text.specs.Kernel.Counting.{Counting, Cap}
pub use Rattle.java_ast.specs.Names.{names_lent}
use Rattle.loop_text.specs.declared.updates.best.Found as found
use Rattle.loop_text.specs.declared.conditions.asked.Asked as asked
use Rattle.loop_text.specs.declared.updates.forms.Taken.{Taken}
use Rattle.loop_text.specs.declared.updates.forms.Taken.TheVariants as taken
use Rattle.loop_text.specs.declared.updates.forms.Form.{Form}
use Rattle.loop_text.specs.declared.updates.forms.Form.TheVariants as forms
use Rattle.loop_text.specs.Kernel.KernelConditions.{Asked}
use Rattle.loop_text.specs.Kernel.KernelForms as kernel
use Rattle.loop_text.specs.Kernel.KernelLists.{Source}
use Rattle.loop_text.specs.Sites.Sites.{Test, Round, Site, RowColumn}

abbrev pub test_of : code.Test → Test
test_of t = record { number = t.number; level = t.level; condition = expression t.condition.now; holds = t.holds }

abbrev pub round_of : rounds.Round → Round
round_of r = record { loops = r.loops; tests = map test_of r.tests }

abbrev pub site_of : sites.Site → Site
site_of s = record { statement = statement s.statement.now; round = round_of s.round; previous = option_map (λ p. statement p.now) s.previous }

abbrev pub counting_in_code : countings.Counting → Counting
counting_in_code k = record { counter = k.counter.now; list = k.list.now; limit = k.limit }

abbrev pub cap_in_code : caps.Cap → Cap
cap_in_code c = record { counter = c.counter.now; most = c.most }

abbrev pub column_in_code : columns.RowColumn → RowColumn
column_in_code c = record { loop = c.looped; column = c.column.now }

abbrev pub source_in_code : sources.Source → Source
source_in_code s = record { table = s.table.now; keys = s.keys.now; downs = s.downs.now }

abbrev pub taken_in_code : Taken → kernel.Taken
taken_in_code (taken.Whole j) = kernel.whole j
taken_in_code (taken.Column c) = kernel.column (column_in_code c)

abbrev pub form_in_code : Form → kernel.Form
form_in_code (forms.Adds t) = kernel.adds (taken_in_code t)
form_in_code forms.Counts = kernel.counts
form_in_code (forms.Sums c) = kernel.sums (column_in_code c)
form_in_code (forms.Takes c) = kernel.takes (column_in_code c)
form_in_code (forms.Marks b) = kernel.marks b
form_in_code forms.Other = kernel.other

abbrev pub found_in_code : found.Found → kernel.Found
found_in_code f = record { number = f.number; claim = record { condition = expression f.condition.now; holds = f.holds } }

abbrev pub exprs_lent : List (Bor Expr) → List Expression
exprs_lent es = map (λ e. expression e.now) es

abbrev pub asked_in_code : asked.Asked → Asked
asked_in_code a = record { text = a.text.now; arguments = expressions a.arguments.now }
