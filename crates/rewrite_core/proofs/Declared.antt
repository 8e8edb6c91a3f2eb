-- The type with which a variable is declared, as code finds it down a path.
use Rattle.std.proofs.Common.{◌≡◌, ℕ, List, [], ◌∷◌, slice_get, Option, Some, None, sym, ap, ◌∙◌}
use Rattle.java_ast.specs.Path.{found_in, numbered, branch_of, first_of}
use Rattle.java_ast.specs.Tree.{Spelled, Statement, Statements, PlainMethod, PlainProgram}
use Rattle.java_loops.specs.Lowering.Spelling.{spelled_past, spelled_inside, spelled_in, spelled_in_method, spelled_at}

module _ (x : List ℕ) where
  -- at the end of the path
  pub here_spelled : (path : List ℕ) (n : ℕ) (block before : Statements) (o r : Option Spelled) → path ≡ [] → before ≡ first_of n block → r ≡ spelled_past x o before → r ≡ spelled_in x o path n block
  here_spelled path n block before o r is first e = e ∙ ap (spelled_past x o) first ∙ ap (λ (q : List ℕ). spelled_in x o q n block) (sym is)

  -- a path that ends with a branch
  pub cut_spelled : (path below : List ℕ) (b n : ℕ) (block : Statements) (o : Option Spelled) → path ≡ b ∷ below → below ≡ [] → None ≡ spelled_in x o path n block
  cut_spelled path below b n block o is more = ap (λ (q : List ℕ). spelled_in x o q n block) (sym (is ∙ ap (λ (q : List ℕ). b ∷ q) more))

  module _ (path below rest : List ℕ) (b m n : ℕ) (block : Statements) (o : Option Spelled) (is : path ≡ b ∷ below) (more : below ≡ m ∷ rest) where
    whole : path ≡ b ∷ m ∷ rest
    whole = is ∙ ap (λ (q : List ℕ). b ∷ q) more

    abbrev inner_types : Statement → Statements → Option Spelled
    inner_types s body = spelled_in x (spelled_inside x (spelled_past x o (first_of n block)) s) rest m body

    pub no_statement_spelled : None ≡ numbered n block → None ≡ spelled_in x o path n block
    no_statement_spelled none =
        ap (found_in (λ (s : Statement). found_in (inner_types s) (branch_of b s))) none
        ∙ ap (λ (q : List ℕ). spelled_in x o q n block) (sym whole)

    pub no_branch_spelled : (s : Statement) → Some s ≡ numbered n block → None ≡ branch_of b s → None ≡ spelled_in x o path n block
    no_branch_spelled s number none =
        ap (found_in (inner_types s)) none
        ∙ ap (found_in (λ (t : Statement). found_in (inner_types t) (branch_of b t))) number
        ∙ ap (λ (q : List ℕ). spelled_in x o q n block) (sym whole)

    pub step_spelled : (s : Statement) (body before : Statements) (here within r : Option Spelled) → Some s ≡ numbered n block → Some body ≡ branch_of b s → before ≡ first_of n block → here ≡ spelled_past x o before → within ≡ spelled_inside x here s → r ≡ spelled_in x within rest m body → r ≡ spelled_in x o path n block
    step_spelled s body before here within r number branch first past inside there =
        there
        ∙ ap (λ (h : Option Spelled). spelled_in x h rest m body) (inside ∙ ap (λ (h : Option Spelled). spelled_inside x h s) (past ∙ ap (spelled_past x o) first))
        ∙ ap (found_in (inner_types s)) branch
        ∙ ap (found_in (λ (t : Statement). found_in (inner_types t) (branch_of b t))) number
        ∙ ap (λ (q : List ℕ). spelled_in x o q n block) (sym whole)

  -- in a program
  pub at_spelled : (path below rest : List ℕ) (m n : ℕ) (p : PlainProgram) (k : PlainMethod) (r : Option Spelled) → path ≡ m ∷ below → below ≡ n ∷ rest → Some k ≡ slice_get p.methods m → r ≡ spelled_in_method x rest n k → r ≡ spelled_at x path p
  at_spelled path below rest m n p k r is more found e =
      e
      ∙ ap (found_in (spelled_in_method x rest n)) found
      ∙ ap (λ (q : List ℕ). spelled_at x q p) (sym (is ∙ ap (λ (q : List ℕ). m ∷ q) more))

  pub no_method_spelled : (path below rest : List ℕ) (m n : ℕ) (p : PlainProgram) → path ≡ m ∷ below → below ≡ n ∷ rest → None ≡ slice_get p.methods m → None ≡ spelled_at x path p
  no_method_spelled path below rest m n p is more none =
      ap (found_in (spelled_in_method x rest n)) none
      ∙ ap (λ (q : List ℕ). spelled_at x q p) (sym (is ∙ ap (λ (q : List ℕ). m ∷ q) more))

  pub short_spelled : (path below : List ℕ) (m : ℕ) (p : PlainProgram) → path ≡ m ∷ below → below ≡ [] → None ≡ spelled_at x path p
  short_spelled path below m p is more = ap (λ (q : List ℕ). spelled_at x q p) (sym (is ∙ ap (λ (q : List ℕ). m ∷ q) more))

  pub empty_spelled : (path : List ℕ) (p : PlainProgram) → path ≡ [] → None ≡ spelled_at x path p
  empty_spelled path p is = ap (λ (q : List ℕ). spelled_at x q p) (sym is)
