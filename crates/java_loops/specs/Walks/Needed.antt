-- Which variables a replacement needs: the least set that holds some to begin with, and what the kept
-- statements of a run mention.
use Rattle.std.specs.Prelude.{◌≡◌, ℕ, zero, suc, Bool, true, false, not, ◌&&◌, ◌||◌, List}
use Rattle.java_ast.specs.Tree.{Statement, Statements, Nothing, Then}
use Rattle.java_loops.specs.Walks.Reads.{Set}
use Rattle.loop_text.specs.Statements.Fragment.{StandsIn, set_by, IsNeeded}
use Rattle.java_ast.specs.Names.{is_among, mentioned_in}

-- the names that a statement mentions, other than to declare them
abbrev pub mentions : Statement → Set
mentions s = is_among (mentioned_in s)

-- a set of needed variables alone
pub record AreNeeded (base dropped : Set) (run : Statements) (r : Set) : Type 0 where
  pub by : (x : List ℕ) → r x ≡ true → IsNeeded base dropped run x

-- whether a statement that sets this is kept
abbrev pub keeping : Set → Set → Set
keeping r dropped = λ x. r x && not (dropped x)

abbrev pub joined : Bool → Set → Set → Set
joined b f r = λ x. r x || (b && f x)

-- one walk through a run, which adds what the statements mention that are kept so far
abbrev pub walked : Set → Statements → Set → Set
walked dropped Nothing r = r
walked dropped (Then a p) r = walked dropped p (joined (keeping r dropped (set_by a)) (mentions a) r)

-- no statement that is kept mentions a variable whose statements are dropped
abbrev pub KeptAlone : Set → Statements → Type 0
KeptAlone dropped run = (a : Statement) (x : List ℕ) → StandsIn a run → dropped (set_by a) ≡ false → mentions a x ≡ true → dropped x ≡ false

-- ---- The set itself

-- how many statements a run has, and how many of them a set keeps
abbrev pub size : Statements → ℕ
size Nothing = zero
size (Then a p) = suc (size p)

abbrev pub one_where : Bool → ℕ → ℕ
one_where true n = suc n
one_where false n = n

abbrev pub how_many_kept : Set → Set → Statements → ℕ
how_many_kept dropped r Nothing = zero
how_many_kept dropped r (Then a p) = one_where (keeping r dropped (set_by a)) (how_many_kept dropped r p)

-- so many walks
abbrev pub walks : ℕ → Set → Statements → Set → Set
walks zero dropped run r = r
walks (suc n) dropped run r = walks n dropped run (walked dropped run r)

-- The needed variables: each walk but the last keeps a statement more.
abbrev pub needed : Set → Set → Statements → Set
needed base dropped run = walks (suc (size run)) dropped run base
