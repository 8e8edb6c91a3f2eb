-- K1: which loops are of the kernel form. All places are the loop itself.
use Rattle.std.specs.Prelude.{ℕ, Bool, true, false, not, ◌&&◌, List, drop}
use Rattle.std.specs.List.{list_any}
use Rattle.std.specs.Str.{bytes_eq}
use Rattle.std.specs.declared.option.Option.{Option}
use Rattle.std.specs.declared.option.Option.TheVariants.{Some, None}
use Rattle.java_ast.specs.Tree.{Spelled, Expression, Statement, Statements, Nothing, Then}
use Rattle.java_ast.specs.Tree as plain
use Rattle.java_ast.specs.Names.{is_among, mentioned_among}
use Rattle.loop_text.specs.Kernel.Counting.{Counting, counting}
use Rattle.loop_text.specs.Statements.Fragment.{Fragment, is_live}
use Rattle.loop_text.specs.Statements.Setting.{first_touching, touched_again, given_by, is_literal_number, is_variable, is_next_of}
use Rattle.loop_text.specs.Sites.Sites.{Site, without_first, without_last}

-- ---- The body of a loop that counts

abbrev pub is_table : Spelled → Bool
is_table (plain.Table name) = true
is_table _ = false

-- `xs.get(i)`
abbrev pub is_item : Counting → Expression → Bool
is_item k (plain.Get at xs e) = bytes_eq xs k.list && is_variable k.counter e
is_item k _ = false

-- `T x = xs.get(i);` with a table T
abbrev pub takes_row : Counting → Statement → Bool
takes_row k (plain.Declare at ty x e) = is_table ty && is_item k e
takes_row k _ = false

abbrev pub begins : Counting → Statements → Bool
begins k Nothing = false
begins k (Then s ss) = takes_row k s

-- `i = i + 1;`
abbrev pub goes_on : Counting → Statement → Bool
goes_on k (plain.Assign at i e) = bytes_eq i k.counter && is_next_of k.counter e
goes_on k _ = false

abbrev pub ends : Counting → Statements → Bool
ends k Nothing = false
ends k (Then s Nothing) = goes_on k s
ends k (Then s (Then t ss)) = ends k (Then t ss)

-- The body begins and ends so, and mentions the counter nowhere else.
abbrev pub counts_in : Counting → Statements → Bool
counts_in k body = begins k body && (ends k (without_first body) && not (is_among (mentioned_among (without_last (without_first body))) k.counter))

-- ---- The run before a loop that counts

abbrev pub is_zero_given : Option Expression → Bool
is_zero_given (Some e) = is_literal_number 0 e
is_zero_given None = false

abbrev pub sets_zero : List ℕ → Option Statement → Bool
sets_zero i (Some s) = is_zero_given (given_by i s)
sets_zero i None = false

-- one statement of the run mentions the counter, and gives it 0
abbrev pub starts_at_zero : List ℕ → Statements → Bool
starts_at_zero i run = sets_zero i (first_touching i run) && not (touched_again i run)

abbrev pub counts_rightly : Fragment → Option Counting → Statements → Bool
counts_rightly f None body = false
counts_rightly f (Some k) body = counts_in k body && (starts_at_zero k.counter f.run && not (is_live f k.counter))

-- ---- The rule

-- a for-each, or a loop that counts
abbrev pub is_kernel_loop : Fragment → Statement → Bool
is_kernel_loop f (plain.ForEach at ty x e b) = true
is_kernel_loop f (plain.While at c b) = counts_rightly f (counting c) b
is_kernel_loop f _ = false

abbrev pub is_while : Statement → Bool
is_while (plain.While at c b) = true
is_while _ = false

-- every inner loop is a for-each
abbrev pub has_inner_while : List Site → Bool
has_inner_while sites = list_any (λ (s : Site). is_while s.statement) (drop 1 sites)

-- what the loop counts, if it counts
abbrev pub counting_in : Statement → Option Counting
counting_in (plain.While at c b) = counting c
counting_in _ = None

abbrev pub limit_of : Option Counting → Option ℕ
limit_of (Some k) = k.limit
limit_of None = None
