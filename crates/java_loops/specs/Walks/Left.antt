-- What a run of a nest leaves: each accumulator as its own effect says, and the rest as it was.
use Rattle.std.specs.Prelude.{◌≡◌, ℕ, ◌≤◌, true, false, List, Option, Some, None, Result, Ok, Err}
use Rattle.qbs_base.specs.declared.scalar.Value.TheVariants.{One}
use Rattle.qbs_base.specs.Named.{at_name}
use Rattle.java_mean.specs.declared.ending.Ending.{Ending}
use Rattle.java_mean.specs.Statement.{State, Passed, GoesOn, Leaves, Returns}
use Rattle.java_mean.specs.Store.{Store, Variable}
use Rattle.java_loops.specs.Walks.Nests.{is_among, Mark}
use Rattle.java_loops.specs.Walks.Reads.{Set, SameOn}

-- what becomes of one variable, in which values of the others, from which variable
abbrev pub Effect : Type 0
Effect = List ℕ → Store → Variable → Option Variable

-- what was to come is there
pub record Became (r o : Option Variable) : Type 0 where
  pub value : Variable
  pub is : r ≡ Some value
  pub held : o ≡ Some value

-- Each accumulator of a has become what its own effect says, from any store that is the first one's as far
-- as h goes. What is in f is as it was, nothing is printed, and no turns are made.
pub record LeftWith (a f h : Set) (g : Effect) (s t : State) : Type 0 where
  pub value : (x : List ℕ) → a x ≡ true → (v : Variable) → at_name s.store x ≡ Some v → (env : Store) → SameOn h env s.store → Became (g x env v) (at_name t.store x)
  pub fixed : SameOn f s.store t.store
  pub lines : s.lines ≡ t.lines
  pub turns : t.turns ≤ s.turns

abbrev pub Left : Set → Set → Effect → State → State → Type 0
Left a f g s t = LeftWith a f f g s t

-- a loop that is left has just assigned its mark
abbrev pub Marked : Option Mark → Store → Type 0
Marked None s = ⊥
Marked (Some m) s = (v : Variable) → at_name s m.name ≡ Some v → v.value ≡ One m.value

-- What is owed of a run: it goes on, or it leaves the innermost loop behind the mark. It returns nothing.
abbrev pub LeftByRun : Set → Set → Set → Option Mark → Effect → State → Result Passed Ending → Type 0
LeftByRun a f h m g s (Ok (GoesOn t)) = LeftWith a f h g s t
LeftByRun a f h m g s (Ok (Leaves t)) = LeftWith a f h g s t × Marked m t.store
LeftByRun a f h m g s (Ok (Returns t v)) = ⊥
LeftByRun a f h m g s (Err e) = Unit {0}

-- the store has each of these flags
pub record Have (bs : List (List ℕ)) (s : Store) : Type 0 where
  pub by : (x : List ℕ) → is_among bs x ≡ true → (v : Variable) × (at_name s x ≡ Some v)

-- no flag is fixed
pub record Distinct (f : Set) (bs : List (List ℕ)) : Type 0 where
  pub by : (x : List ℕ) → f x ≡ true → is_among bs x ≡ false

-- the run goes on, to what is left
pub record GoneOn (a f : Set) (g : Effect) (s : State) (z : Passed) : Type 0 where
  pub state : State
  pub is : z ≡ GoesOn state
  pub left : Left a f g s state
