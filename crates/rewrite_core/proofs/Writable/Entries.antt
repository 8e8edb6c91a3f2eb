-- What holds of the conditions of a loop holds of the entry values of its lowered fragment, where its run is of the grammar and can be written.
use Rattle.std.proofs.Common.{ℕ, Bool, true, false, cond, List, [], ◌∷◌, Option, Some, None, IsUtf8}
use Rattle.std.specs.List.{AllByRecursion}
use Rattle.std.specs.Str.{bytes_eq}
use Rattle.qbs_base.proofs.Order.{all_more}
use Rattle.java_ast.specs.Tree.{Expression, Expressions, NoMore, And, Statement, Declare, Assign, Add, Sort, If, IfElse, ForEach, While, Print, Return, Break, Statements, Nothing, Then}
use Rattle.java_ast.specs.Tree as tree
use Rattle.loop_text.specs.Kernel.KernelConditions.{Asked, asked_by_query, asked_by, asked_in, first_setting, asked_in_found, asked_for}
use Rattle.loop_text.specs.Sites.Sites.{sites_of}
use Rattle.loop_text.specs.Statements.Fragment.{set_by, Fragment}
use Rattle.java_ast.specs.Names.{Names}
use Rattle.java_loops.specs.Lowering.Numbering.{with_all_new, all_leaves, same_entry, entries_among, arguments, arguments_asked, with_arguments}
use Rattle.rewrite_core.proofs.Writable.Given.{Holds}
use Rattle.rewrite_core.proofs.Writable.Leaves.{all_new, OfParts, OfTests, of_all_leaves, of_entries_among}
use Rattle.rewrite_core.proofs.Writable.Replaced.{IsFine, AllFine, IsFineStatement, AreFineStatements, fine_first, fine_rest}

-- ---- What the run asks

-- a query's text is UTF-8, and its arguments are fine
pub record IsFineAsked (a : Asked) : Type 0 where
  pub text : IsUtf8 a.text
  pub arguments : AllFine a.arguments

asked_by_query_fine : (e : Expression) → IsFine e → Holds IsFineAsked (asked_by_query e)
asked_by_query_fine (tree.Query at ty text es) h = record { text = h.1.1; arguments = (h.0.1, h.1.2) }
asked_by_query_fine (tree.Lit at x) h = tt
asked_by_query_fine (tree.Var at x) h = tt
asked_by_query_fine (tree.Field at e m) h = tt
asked_by_query_fine (tree.Binary at op a b) h = tt
asked_by_query_fine (tree.Not at e) h = tt
asked_by_query_fine (tree.Equals at a b) h = tt
asked_by_query_fine (tree.Size at x) h = tt
asked_by_query_fine (tree.Get at x e) h = tt
asked_by_query_fine (tree.Contains at x e) h = tt
asked_by_query_fine (tree.Fetch at m) h = tt
asked_by_query_fine (tree.QueryLong at text es) h = tt
asked_by_query_fine (tree.QueryBoolean at text es) h = tt
asked_by_query_fine (tree.NewList at) h = tt
asked_by_query_fine (tree.NewSet at) h = tt
asked_by_query_fine (tree.NewSetOf at e) h = tt

asked_by_fine : (e : Expression) → IsFine e → Holds IsFineAsked (asked_by e)
asked_by_fine (tree.NewSetOf at e) h = asked_by_query_fine e (h.0.1, h.1)
asked_by_fine (tree.Query at ty text es) h = asked_by_query_fine (tree.Query at ty text es) h
asked_by_fine (tree.Lit at x) h = tt
asked_by_fine (tree.Var at x) h = tt
asked_by_fine (tree.Field at e m) h = tt
asked_by_fine (tree.Binary at op a b) h = tt
asked_by_fine (tree.Not at e) h = tt
asked_by_fine (tree.Equals at a b) h = tt
asked_by_fine (tree.Size at x) h = tt
asked_by_fine (tree.Get at x e) h = tt
asked_by_fine (tree.Contains at x e) h = tt
asked_by_fine (tree.Fetch at m) h = tt
asked_by_fine (tree.QueryLong at text es) h = tt
asked_by_fine (tree.QueryBoolean at text es) h = tt
asked_by_fine (tree.NewList at) h = tt
asked_by_fine (tree.NewSet at) h = tt

asked_in_fine : (s : Statement) → IsFineStatement s → Holds IsFineAsked (asked_in s)
asked_in_fine (Declare at ty x e) h = asked_by_fine e (h.0.2, h.1.2)
asked_in_fine (Assign at x e) h = asked_by_fine e (h.0.1, h.1.1)
asked_in_fine (Add at x e) h = tt
asked_in_fine (Sort at x keys downs) h = tt
asked_in_fine (If at c a) h = tt
asked_in_fine (IfElse at c a b) h = tt
asked_in_fine (ForEach at ty x e b) h = tt
asked_in_fine (While at c b) h = tt
asked_in_fine (Print at e) h = tt
asked_in_fine (Return at e) h = tt
asked_in_fine (Break at) h = tt

some_where : (b : Bool) (s : Statement) (o : Option Statement) → IsFineStatement s → Holds IsFineStatement o → Holds IsFineStatement (cond b (Some s) o)
some_where true s o h k = h
some_where false s o h k = k

setting_fine : (x : List ℕ) (run : Statements) → AreFineStatements run → Holds IsFineStatement (first_setting x run)
setting_fine x Nothing h = tt
setting_fine x (Then s run) h = some_where (bytes_eq (set_by s) x) s (first_setting x run) (fine_first s run h) (setting_fine x run (fine_rest s run h))

asked_in_found_fine : (o : Option Statement) → Holds IsFineStatement o → Holds IsFineAsked (asked_in_found o)
asked_in_found_fine (Some s) h = asked_in_fine s h
asked_in_found_fine None h = tt

pub asked_for_fine : (run : Statements) (x : List ℕ) → AreFineStatements run → Holds IsFineAsked (asked_for run x)
asked_for_fine run x h = asked_in_found_fine (first_setting x run) (setting_fine x run h)

arguments_fine : (es : Expressions) → AllFine es → AllByRecursion IsFine (arguments es)
arguments_fine NoMore h = tt
arguments_fine (And e es) h = ((h.0.0, h.1.0), arguments_fine es (h.0.1, h.1.1))

arguments_asked_fine : (o : Option Asked) → Holds IsFineAsked o → AllByRecursion IsFine (arguments_asked o)
arguments_asked_fine (Some a) h = arguments_fine a.arguments h.arguments
arguments_asked_fine None h = tt

-- Behind others of which a property holds, if it holds of what is of the grammar and can be written.
with_arguments_all : (P : Expression → Type 0) → ((e : Expression) → IsFine e → P e) → (run : Statements) (es : List Expression) (xs : Names) → AreFineStatements run → AllByRecursion P es → AllByRecursion P (with_arguments run es xs)
with_arguments_all P fine run es [] h k = k
with_arguments_all P fine run es (x ∷ xs) h k =
    with_arguments_all P fine run (with_all_new same_entry es (arguments_asked (asked_for run x))) xs h
    (all_new P same_entry es (arguments_asked (asked_for run x)) k (all_more IsFine P fine (arguments_asked (asked_for run x)) (arguments_asked_fine (asked_for run x) (asked_for_fine run x h))))

-- ---- Of a fragment

-- What holds of the conditions of the loop holds of the entry values.
pub of_entries : (P : Expression → Type 0) → OfParts P → ((e : Expression) → IsFine e → P e) → (f : Fragment) → AreFineStatements f.run → OfTests P f.loop → (xs : Names)
    → AllByRecursion P (with_arguments f.run (entries_among (sites_of f.loop) [] (all_leaves (sites_of f.loop))) xs)
of_entries P parts fine f run tests xs =
    with_arguments_all P fine f.run (entries_among (sites_of f.loop) [] (all_leaves (sites_of f.loop))) xs run
    (of_entries_among P parts (sites_of f.loop) [] (all_leaves (sites_of f.loop)) tt (of_all_leaves P parts f.loop tests))
