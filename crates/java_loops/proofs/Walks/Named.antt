-- An expression whose names are of a set reads the set.
use Rattle.std.proofs.Common.{◌≡◌, ℕ, true, List, [], ◌∷◌, ◌++◌, ◌∙◌}
use Rattle.std.specs.Prelude.{bytes_eq}
use Rattle.std.proofs.lemmas.Bool.{or_left, or_right}
use Rattle.std.proofs.lemmas.List.Folds.{list_any-append}
use Rattle.java_ast.specs.Tree as tree
use Rattle.java_ast.specs.Tree.{Expression, Expressions, NoMore, And}
use Rattle.java_mean.proofs.Puts.{name_same}
use Rattle.java_ast.specs.Names.{Names, is_among, names_in, names_among}
use Rattle.java_loops.specs.Walks.Reads.{Set, Reads, AllRead}

pub among_front : (xs ys : Names) (x : List ℕ) → is_among xs x ≡ true → is_among (xs ++ ys) x ≡ true
among_front xs ys x h = list_any-append (bytes_eq x) xs ys ∙ or_left (is_among xs x) (is_among ys x) h

pub among_back : (xs ys : Names) (x : List ℕ) → is_among ys x ≡ true → is_among (xs ++ ys) x ≡ true
among_back xs ys x h = list_any-append (bytes_eq x) xs ys ∙ or_right (is_among xs x) (is_among ys x) h

pub among_first : (x : List ℕ) (xs : Names) → is_among (x ∷ xs) x ≡ true
among_first x xs = or_left (bytes_eq x x) (is_among xs x) (name_same x)

pub among_more : (x y : List ℕ) (xs : Names) → is_among xs y ≡ true → is_among (x ∷ xs) y ≡ true
among_more x y xs h = or_right (bytes_eq y x) (is_among xs y) h

-- an expression whose names are of a set reads the set
mutual
  pub reads_named : (e : Expression) (f : Set) → ((x : List ℕ) → is_among (names_in e) x ≡ true → f x ≡ true) → Reads f e
  reads_named (tree.Lit at x) f h = tt
  reads_named (tree.Var at x) f h = h x (among_first x [])
  reads_named (tree.Field at e n) f h = reads_named e f h
  reads_named (tree.Binary at op a b) f h = (reads_named a f (λ x i. h x (among_front (names_in a) (names_in b) x i)), reads_named b f (λ x i. h x (among_back (names_in a) (names_in b) x i)))
  reads_named (tree.Not at e) f h = reads_named e f h
  reads_named (tree.Equals at a b) f h = (reads_named a f (λ x i. h x (among_front (names_in a) (names_in b) x i)), reads_named b f (λ x i. h x (among_back (names_in a) (names_in b) x i)))
  reads_named (tree.Size at x) f h = h x (among_first x [])
  reads_named (tree.Get at x e) f h = (h x (among_first x (names_in e)), reads_named e f (λ y i. h y (among_more x y (names_in e) i)))
  reads_named (tree.Contains at x e) f h = (h x (among_first x (names_in e)), reads_named e f (λ y i. h y (among_more x y (names_in e) i)))
  reads_named (tree.Fetch at n) f h = tt
  reads_named (tree.Query at ty text es) f h = all_read_named es f h
  reads_named (tree.QueryLong at text es) f h = all_read_named es f h
  reads_named (tree.QueryBoolean at text es) f h = all_read_named es f h
  reads_named (tree.NewList at) f h = tt
  reads_named (tree.NewSet at) f h = tt
  reads_named (tree.NewSetOf at e) f h = reads_named e f h

  pub all_read_named : (es : Expressions) (f : Set) → ((x : List ℕ) → is_among (names_among es) x ≡ true → f x ≡ true) → AllRead f es
  all_read_named NoMore f h = tt
  all_read_named (And e es) f h = (reads_named e f (λ x i. h x (among_front (names_in e) (names_among es) x i)), all_read_named es f (λ x i. h x (among_back (names_in e) (names_among es) x i)))
