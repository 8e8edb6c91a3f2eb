-- Sets of names, and what mentions only variables of such a set.
use Rattle.std.specs.Prelude.{◌≡◌, ℕ, Bool, true, false, not, ◌||◌, List}
use Rattle.std.specs.Str.{bytes_eq}
use Rattle.qbs_base.specs.Named.{at_name}
use Rattle.java_ast.specs.Tree.{Expression, Expressions, Statement, Statements, Nothing, Then}
use Rattle.java_ast.specs.Tree as plain
use Rattle.java_mean.specs.Mentions.{EachIn, EachAmong, EachMentionedIn, EachMentioned}
use Rattle.java_mean.specs.Store.{Store}

-- a set of names, by a test
abbrev pub Set : Type 0
Set = List ℕ → Bool

-- all names but this one
abbrev pub other_than : List ℕ → Set
other_than x = λ y. not (bytes_eq x y)

-- each variable that an expression mentions is of the set
abbrev pub Reads : Set → Expression → Type 0
Reads f = EachIn (λ x. f x ≡ true)

abbrev pub AllRead : Set → Expressions → Type 0
AllRead f = EachAmong (λ x. f x ≡ true)

-- each variable that statements mention, other than to declare it, is of the set
abbrev pub Within : Set → Statement → Type 0
Within f = EachMentionedIn (λ x. f x ≡ true)

abbrev pub AllWithin : Set → Statements → Type 0
AllWithin f = EachMentioned (λ x. f x ≡ true)

-- a statement gives the variable a value, or declares it, in itself or below
abbrev mutual
  pub touches : Statement → Set
  touches (plain.Declare at ty x e) a = bytes_eq x a
  touches (plain.Assign at x e) a = bytes_eq x a
  touches (plain.Add at x e) a = bytes_eq x a
  touches (plain.Sort at x keys down) a = bytes_eq x a
  touches (plain.If at c p) a = all_touch p a
  touches (plain.IfElse at c p q) a = all_touch p a || all_touch q a
  touches (plain.ForEach at ty x e b) a = bytes_eq x a || all_touch b a
  touches (plain.While at c b) a = all_touch b a
  touches (plain.Print at e) a = false
  touches (plain.Return at e) a = false
  touches (plain.Break at) a = false

  pub all_touch : Statements → Set
  all_touch Nothing a = false
  all_touch (Then s p) a = touches s a || all_touch p a

-- the stores have the same at each name of the set
pub record SameOn (f : Set) (s t : Store) : Type 0 where
  pub by : (x : List ℕ) → f x ≡ true → at_name s x ≡ at_name t x
