-- Nests of loops whose variables can be taken one by one: what sets a variable reads only that variable
-- and what the nest leaves as it is.
use Rattle.std.specs.Prelude.{◌≡◌, ℕ, true, false, not, ◌&&◌, ◌||◌, List, [], ◌∷◌, Option, Some, None}
use Rattle.std.specs.List.{list_any}
use Rattle.std.specs.Str.{bytes_eq}
use Rattle.qbs_base.specs.declared.span.Span.{Span}
use Rattle.qbs_base.specs.declared.scalar.Scalar.{Scalar}
use Rattle.java_ast.specs.Tree.{Spelled, Expression, Statement, Statements}
use Rattle.java_ast.specs.Tree as tree
use Rattle.java_loops.specs.Walks.Effects.{sets, all_set}
use Rattle.java_loops.specs.Walks.Reads.{Set, Reads}

-- ---- Sets of names

-- with one name more
abbrev pub with_name : List ℕ → Set → Set
with_name x f = λ y. bytes_eq x y || f y

-- the names of a list
abbrev pub is_among : List (List ℕ) → Set
is_among bs x = list_any (λ b. bytes_eq b x) bs

-- no name is in both
pub record Apart (a f : Set) : Type 0 where
  pub by : (x : List ℕ) → f x ≡ true → a x ≡ false

-- ---- Guards

-- A condition round statements that set d reads, for each accumulator that is set there, only that one
-- and fixed variables. So it may read an accumulator only if no other one is set there.
pub record Guards (d a f : Set) (c : Expression) : Type 0 where
  pub by : (x : List ℕ) → a x ≡ true → d x ≡ true → Reads (with_name x f) c

-- ---- Flags of a block

-- what is known in a block with these flags, besides its accumulators
abbrev pub seen : Set → List (List ℕ) → Set
seen f bs = λ x. f x || is_among bs x

-- the flags that a statement sets
abbrev pub set_here : List (List ℕ) → Statement → Set
set_here bs s = λ x. is_among bs x && sets s x

-- a flag is an accumulator of the statement that sets it, and fixed in the others
abbrev pub accumulators_here : Set → List (List ℕ) → Statement → Set
accumulators_here a bs s = λ x. a x || set_here bs s x

abbrev pub fixed_here : Set → List (List ℕ) → Statement → Set
fixed_here f bs s = λ x. seen f bs x && not (set_here bs s x)

-- ---- Leaving a loop

-- the one update that stands before each `break` of a loop: a literal is assigned to a variable
pub record Mark : Type 0 where
  pub name : List ℕ
  pub value : Scalar

abbrev pub IsLiteral : Scalar → Expression → Type 0
IsLiteral c (tree.Lit at z) = z ≡ c
IsLiteral c _ = ⊥

-- where a loop may be left, it holds no other assignment
abbrev pub Allows : Option Mark → List ℕ → Expression → Type 0
Allows None x e = Unit {0}
Allows (Some m) x e = (x ≡ m.name) × IsLiteral m.value e

-- a loop inside one that may be left holds no other assignment either
abbrev pub HoldsMark : Option Mark → Option Mark → Type 0
HoldsMark None inner = Unit {0}
HoldsMark (Some m) inner = inner ≡ Some m

-- ---- Nests

-- A statement of a nest sets accumulators in a and the variables that it declares itself, and leaves what
-- is in f. Where the innermost loop round it may be left, each of its updates is the mark. In a block
-- stand also flags, declared by literals, and a `break` as the last statement, behind the mark.
mutual
  pub data IsNest : Statement → Set → Set → Option Mark → Type 0 where
    assign : (a f : Set) (m : Option Mark) (at : Span) (x : List ℕ) (e : Expression) → a x ≡ true → Reads (with_name x f) e → Allows m x e → IsNest (tree.Assign at x e) a f m
    add : (a f : Set) (at : Span) (x : List ℕ) (e : Expression) → a x ≡ true → Reads (with_name x f) e → IsNest (tree.Add at x e) a f None
    when : (a f : Set) (m : Option Mark) (at : Span) (c : Expression) (p : Statements) → Guards (all_set p) a f c → AreNest p a f [] m → IsNest (tree.If at c p) a f m
    choose : (a f : Set) (m : Option Mark) (at : Span) (c : Expression) (p q : Statements) → Guards (λ x. all_set p x || all_set q x) a f c → AreNest p a f [] m → AreNest q a f [] m → IsNest (tree.IfElse at c p q) a f m
    for_each : (a f : Set) (m inner : Option Mark) (at : Span) (ty : Spelled) (x : List ℕ) (e : Expression) (b : Statements) → a x ≡ false → f x ≡ false → Reads f e → HoldsMark m inner → AreNest b a (with_name x f) [] inner → IsNest (tree.ForEach at ty x e b) a f m

  pub data AreNest : Statements → Set → Set → List (List ℕ) → Option Mark → Type 0 where
    nothing : (a f : Set) (bs : List (List ℕ)) (m : Option Mark) → AreNest tree.Nothing a f bs m
    declare : (a f : Set) (bs : List (List ℕ)) (m : Option Mark) (at at' : Span) (ty : Spelled) (b : List ℕ) (c : Scalar) (p : Statements) → a b ≡ false → f b ≡ false → AreNest p a f (b ∷ bs) m → AreNest (tree.Then (tree.Declare at ty b (tree.Lit at' c)) p) a f bs m
    leave : (a f : Set) (bs : List (List ℕ)) (at at' at'' : Span) (y : List ℕ) (c : Scalar) → a y ≡ true → AreNest (tree.Then (tree.Assign at y (tree.Lit at' c)) (tree.Then (tree.Break at'') tree.Nothing)) a f bs (Some (record { name = y; value = c }))
    next : (a f : Set) (bs : List (List ℕ)) (m : Option Mark) (s : Statement) (p : Statements) → IsNest s (accumulators_here a bs s) (fixed_here f bs s) m → AreNest p a f bs m → AreNest (tree.Then s p) a f bs m
