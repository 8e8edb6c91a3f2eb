-- How the wanted variables of a fragment are found: which to begin with, and which follow from one.
use Rattle.std.specs.Prelude.{◌≡◌, ℕ, suc, Bool, true, not, ◌&&◌, ◌||◌, List, [], ◌∷◌, ◌++◌, if◌then◌else◌, Option, Some, None, map}
use Rattle.std.specs.Str.{bytes_eq}
use Rattle.std.specs.Borrow.{Bor}
use Rattle.java_ast.specs.declared.tree.Stmt.{Stmt}
use Rattle.java_ast.specs.Reading.{statement}
use Rattle.java_ast.specs.Tree.{Statement, Statements, Nothing, Then}
use Rattle.loop_text.specs.Statements.Fragment.{Fragment, IsWanted, set_by}
pub use Rattle.loop_text.specs.Statements.Fragment.{drops}
use Rattle.java_ast.specs.Names.{Names, is_among, with_names, mentioned_in, mentioned_among}

-- ---- The statements that set a variable

-- the plain statements of those that were found
abbrev pub found : Option (List (Bor Stmt)) → List Statement
found None = []
found (Some group) = map (λ s. statement s.now) group

abbrev pub one_where : Bool → Statement → List Statement
one_where b s = if b then s ∷ [] else []

-- the statements of a run that set a variable
abbrev pub setting : List ℕ → Statements → List Statement
setting x Nothing = []
setting x (Then s ss) = one_where (bytes_eq (set_by s) x) s ++ setting x ss

abbrev pub mentioned_in_all : List Statement → Names
mentioned_in_all [] = []
mentioned_in_all (s ∷ ss) = mentioned_in s ++ mentioned_in_all ss

-- ---- What is wanted

-- what the statements of the run mention that set a variable, where they aren't dropped
abbrev pub following : Fragment → List ℕ → Names
following f x = if drops f x then [] else mentioned_in_all (setting x f.run)

-- the statements that set this variable are kept, since it is visible before the run
abbrev pub keeps_visible : Fragment → List ℕ → Bool
keeps_visible f x = is_among f.visible x && not (drops f x)

abbrev pub mentioned_where : Bool → Statement → Names
mentioned_where b s = if b then mentioned_in s else []

abbrev pub mentioned_by_visible : Fragment → Statements → Names
mentioned_by_visible f Nothing = []
mentioned_by_visible f (Then s ss) = mentioned_where (keeps_visible f (set_by s)) s ++ mentioned_by_visible f ss

-- the variables that are mentioned behind the loop, further ones, and what the statements mention that are kept for a variable
-- that is visible before the run
abbrev pub wanted_first : Fragment → Names → Names
wanted_first f further = with_names (with_names (with_names [] (mentioned_among f.behind)) further) (mentioned_by_visible f f.run)

-- wanted variables alone
pub record AreWanted (f : Fragment) (further xs : Names) : Type 0 where
  pub by : (x : List ℕ) → is_among xs x ≡ true → IsWanted f further x

pub record HasAll (xs ys : Names) : Type 0 where
  pub by : (x : List ℕ) → is_among ys x ≡ true → is_among xs x ≡ true

-- names with what follows from each of some
pub record HasFollowing (f : Fragment) (xs seen : Names) : Type 0 where
  pub by : (x y : List ℕ) → is_among seen x ≡ true → is_among (following f x) y ≡ true → is_among xs y ≡ true

-- ---- The numbers

-- the statements that set this variable are kept, where these are wanted beside those that are visible before the run
abbrev pub keeps_setting : Fragment → Names → List ℕ → Bool
keeps_setting f wanted x = (is_among f.visible x || is_among wanted x) && not (drops f x)

abbrev pub kept_numbers : Fragment → Names → ℕ → Statements → List ℕ
kept_numbers f wanted n Nothing = []
kept_numbers f wanted n (Then s ss) = if keeps_setting f wanted (set_by s) then n ∷ kept_numbers f wanted (suc n) ss else kept_numbers f wanted (suc n) ss
