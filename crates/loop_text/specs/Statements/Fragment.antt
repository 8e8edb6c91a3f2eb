-- A fragment: a loop and the statements before it that lead up to it. What of it is needed, and which
-- of those statements a rewrite keeps.
use Rattle.std.specs.Prelude.{◌≡◌, ℕ, Bool, true, false, not, ◌&&◌, ◌||◌, List, [], ◌∷◌, filter, slice_get, if◌then◌else◌}
use Rattle.std.specs.Str.{bytes_eq}
use Rattle.std.specs.declared.option.Option.{Option}
use Rattle.std.specs.declared.option.Option.TheVariants.{Some, None}
use Rattle.java_ast.specs.Tree.{Expression, Statement, Statements, Nothing, Then, PlainProgram}
use Rattle.java_ast.specs.Tree as plain
use Rattle.java_ast.specs.Path.{found_in, numbered, branch_of, first_of, behind_of}
use Rattle.loop_text.specs.Kernel.Counting.{Counting, counting}
use Rattle.loop_text.specs.Statements.Loops.{is_loop}
use Rattle.java_ast.specs.Names.{Names, is_among, with_names, mentioned_in, mentioned_among, updated_in, declared_among, walking, names_of_params}

-- ---- The parts of a fragment

-- a run has declarations, assignments and sorts
abbrev pub is_simple : Statement → Bool
is_simple (plain.Declare at ty x e) = true
is_simple (plain.Assign at x e) = true
is_simple (plain.Sort at x keys downs) = true
is_simple _ = false

abbrev pub are_simple : Statements → Bool
are_simple Nothing = true
are_simple (Then s ss) = is_simple s && are_simple ss

-- the longest run at the end of statements, and what stands before it
abbrev pub run_of : Statements → Statements
run_of Nothing = Nothing
run_of (Then s ss) = if are_simple (Then s ss) then Then s ss else run_of ss

abbrev pub before_run : Statements → Statements
before_run Nothing = Nothing
before_run (Then s ss) = if are_simple (Then s ss) then Nothing else Then s (before_run ss)

-- the variables that are visible before the run, the run, the loop, and what stands behind it in its block
pub record Fragment : Type 0 where
  pub visible : Names
  pub run : Statements
  pub loop : Statement
  pub behind : Statements

-- The fragment of a loop between other statements of its block, where names are visible at the block's start.
abbrev pub fragment_of : Names → Statements → Statement → Statements → Fragment
fragment_of visible before s behind = record { visible = with_names visible (declared_among (before_run before)); run = run_of before; loop = s; behind = behind }

abbrev pub fragment_where : Bool → Fragment → Option Fragment
fragment_where true f = Some f
fragment_where false f = None

-- what stands from a number of a block on begins with the loop
abbrev pub fragment_here : Names → Statements → Statements → Option Fragment
fragment_here visible before Nothing = None
fragment_here visible before (Then s ss) = fragment_where (is_loop s) (fragment_of visible before s ss)

-- The fragment of the loop to which a path leads behind the number n of a statement of this block.
abbrev pub fragment_in : Names → List ℕ → ℕ → Statements → Option Fragment
fragment_in visible [] n block = fragment_here visible (first_of n block) (behind_of n block)
fragment_in visible (b ∷ []) n block = None
fragment_in visible (b ∷ m ∷ path) n block =
    found_in (λ s. found_in (fragment_in (with_names (with_names visible (declared_among (first_of n block))) (walking s)) path m) (branch_of b s)) (numbered n block)

-- the fragment of the loop to which a path leads, if it leads to one
abbrev pub fragment_at : List ℕ → PlainProgram → Option Fragment
fragment_at (m ∷ n ∷ path) p = found_in (λ method. fragment_in (names_of_params method.params) path n method.body) (slice_get p.methods m)
fragment_at _ p = None

-- ---- Accumulators

abbrev pub counter_named : Option Counting → Option (List ℕ)
counter_named (Some k) = Some k.counter
counter_named None = None

abbrev pub counter : Statement → Option (List ℕ)
counter (plain.While at c b) = counter_named (counting c)
counter _ = None

abbrev pub is_name : Option (List ℕ) → List ℕ → Bool
is_name None x = false
is_name (Some y) x = bytes_eq x y

-- the variables that the run declares, and those that are mentioned behind the loop, each once
abbrev pub declared_in_run : Fragment → Names
declared_in_run f = with_names [] (declared_among f.run)

abbrev pub mentioned_behind : Fragment → Names
mentioned_behind f = with_names [] (mentioned_among f.behind)

-- declared outside of the loop, before the run or in it, and no counter of a loop that counts
abbrev pub is_outer : Names → Names → Option (List ℕ) → List ℕ → Bool
is_outer visible declared counter x = (is_among visible x || is_among declared x) && not (is_name counter x)

-- The accumulators: what is assigned or added to in the loop and declared outside of it, other than a
-- counter, each once, in the order of their updates.
abbrev pub accumulators_with : Names → Names → Option (List ℕ) → Names → Names
accumulators_with visible declared counter updated = with_names [] (filter (is_outer visible declared counter) updated)

abbrev pub accumulators : Fragment → Names
accumulators f = accumulators_with f.visible (declared_in_run f) (counter f.loop) (updated_in f.loop)

-- a variable is live that is visible before the run, or mentioned behind the loop
abbrev pub is_live_with : Names → Names → List ℕ → Bool
is_live_with visible mentioned x = is_among visible x || is_among mentioned x

abbrev pub is_live : Fragment → List ℕ → Bool
is_live f x = is_live_with f.visible (mentioned_behind f) x

-- the accumulators that are live
abbrev pub needed_with : Names → Names → Names → Option (List ℕ) → Names → Names
needed_with visible declared mentioned counter updated = filter (is_live_with visible mentioned) (accumulators_with visible declared counter updated)

abbrev pub needed_of : Fragment → Names
needed_of f = needed_with f.visible (declared_in_run f) (mentioned_behind f) (counter f.loop) (updated_in f.loop)

abbrev pub needed_there : Option Fragment → Names
needed_there None = []
needed_there (Some f) = needed_of f

-- the needed accumulators of the loop to which a path leads
abbrev pub needed_at : List ℕ → PlainProgram → Names
needed_at path p = needed_there (fragment_at path p)

-- ---- The statements that are kept

-- the variable that a statement of a run sets
abbrev pub set_by : Statement → List ℕ
set_by (plain.Declare at ty x e) = x
set_by (plain.Assign at x e) = x
set_by (plain.Sort at x keys downs) = x
set_by _ = []

-- the variables whose statements are dropped: accumulators and counters
abbrev pub drops : Fragment → List ℕ → Bool
drops f x = is_among (accumulators f) x || is_name (counter f.loop) x

-- a statement of a run that sets such a variable is dropped
abbrev pub is_dropped : Fragment → Statement → Bool
is_dropped f s = drops f (set_by s)

-- a statement of a run
pub data StandsIn : Statement → Statements → Type 0 where
  first : (s : Statement) (ss : Statements) → StandsIn s (Then s ss)
  after : (s a : Statement) (ss : Statements) → StandsIn s ss → StandsIn s (Then a ss)

-- The least set with the first variables, and with those that are mentioned in a kept statement: one that sets a
-- variable of the set, and none of those that are dropped.
pub data IsNeeded (base dropped : List ℕ → Bool) (run : Statements) : List ℕ → Type 0 where
  based : (x : List ℕ) → base x ≡ true → IsNeeded base dropped run x
  mentioned : (s : Statement) (x : List ℕ) → StandsIn s run → dropped (set_by s) ≡ false → IsNeeded base dropped run (set_by s) → is_among (mentioned_in s) x ≡ true → IsNeeded base dropped run x

-- a set with the first variables, and with what the statements mention that it keeps
pub record IsClosed (base dropped : List ℕ → Bool) (run : Statements) (r : List ℕ → Bool) : Type 0 where
  pub has_base : (x : List ℕ) → base x ≡ true → r x ≡ true
  pub has_mentioned : (s : Statement) (x : List ℕ) → StandsIn s run → dropped (set_by s) ≡ false → r (set_by s) ≡ true → is_among (mentioned_in s) x ≡ true → r x ≡ true

-- the variables that are live, and further ones (what the queries of the rewrite read)
abbrev pub live_or : Fragment → Names → List ℕ → Bool
live_or f further x = is_live f x || is_among further x

-- a variable that a rewrite of the loop needs
abbrev pub IsWanted : Fragment → Names → List ℕ → Type 0
IsWanted f further = IsNeeded (live_or f further) (drops f) f.run

-- a statement of the run is kept
pub record IsKept (f : Fragment) (further : Names) (s : Statement) : Type 0 where
  pub not_dropped : is_dropped f s ≡ false
  pub wanted : IsWanted f further (set_by s)
