-- The block in which a statement stands, where no loop stands round it.
use Rattle.std.specs.Prelude.{ℕ, zero, suc, Bool, true, false, cond, List, [], ◌∷◌, Option, Some, None, slice_get, if◌then◌else◌}
use Rattle.std.proofs.Common.{◌≡◌, ◌-◌, ◌≤◌, length, get_or, take, drop, refl, sym, ap, ◌∙◌, arith}
use Rattle.std.proofs.lemmas.List.{drop_all, take_all, length-drop}
use Rattle.java_ast.specs.declared.tree.Stmt.{Stmt}
use Rattle.java_ast.specs.Path.{found_in, numbered, behind_of, branch_of, last_of}
use Rattle.java_ast.specs.Reading.{statements}
use Rattle.java_ast.specs.Tree.{Statement, Statements, PlainMethod, PlainProgram}
use Rattle.java_copies.proofs.Ranges.{back_is}
use Rattle.spreads.specs.Narrowed.{is_no_loop, outer_block, outer_block_at}

-- the statements behind the end
pub none_behind : (n : ℕ) (block : List Stmt) → length block ≤ n → statements [] ≡ behind_of n (statements block)
none_behind n block above = ap statements (sym (drop_all n block above)) ∙ back_is n block

pub rest_is : (n : ℕ) (block : List Stmt) → statements (take (length block - n) (drop n block)) ≡ behind_of n (statements block)
rest_is n block =
    let k : length (drop n block) ≤ length block - n = omega (arith, length-drop n block) in
    ap statements (take_all (length block - n) (drop n block) k) ∙ back_is n block

-- the branch of a statement, if it is no loop
abbrev within : Bool → Option Statements → Option Statements
within b o = cond b o None

abbrev below : List ℕ → ℕ → ℕ → Statement → Option Statements
below rest m b s = within (is_no_loop s) (found_in (outer_block rest m) (branch_of b s))

joined : (path tail rest : List ℕ) (b m : ℕ) → path ≡ b ∷ tail → tail ≡ m ∷ rest → b ∷ m ∷ rest ≡ path
joined path tail rest b m is is_tail = sym (is ∙ ap (λ (p : List ℕ). b ∷ p) is_tail)

-- where a path leads in the branch of a statement, if it is no loop
led : (rest : List ℕ) (m : ℕ) (free : Bool) (o : Option Statements) → found_in (outer_block rest m) (within free o) ≡ within free (found_in (outer_block rest m) o)
led rest m true o = refl
led rest m false o = refl

led_to : (path tail rest : List ℕ) (b m n : ℕ) (block : Statements) (s : Statement) → path ≡ b ∷ tail → tail ≡ m ∷ rest → Some s ≡ numbered n block → found_in (outer_block rest m) (within (is_no_loop s) (branch_of b s)) ≡ outer_block path n block
led_to path tail rest b m n block s is is_tail found =
    led rest m (is_no_loop s) (branch_of b s)
    ∙ ap (found_in (below rest m b)) found
    ∙ ap (λ (p : List ℕ). outer_block p n block) (joined path tail rest b m is is_tail)

pub outer_is : (path tail rest : List ℕ) (b m n : ℕ) (block inner : Statements) (s : Statement) (r : Option Statements) → path ≡ b ∷ tail → tail ≡ m ∷ rest → Some s ≡ numbered n block → Some inner ≡ (if is_no_loop s then branch_of b s else None) → r ≡ outer_block rest m inner → r ≡ outer_block path n block
outer_is path tail rest b m n block inner s r is is_tail found branched e =
    e ∙ ap (found_in (outer_block rest m)) branched ∙ led_to path tail rest b m n block s is is_tail found

-- where a loop stands round it, or there is no such branch
pub none_there : (path tail rest : List ℕ) (b m n : ℕ) (block : Statements) (s : Statement) → path ≡ b ∷ tail → tail ≡ m ∷ rest → Some s ≡ numbered n block → None ≡ (if is_no_loop s then branch_of b s else None) → None ≡ outer_block path n block
none_there path tail rest b m n block s is is_tail found branched =
    ap (found_in (outer_block rest m)) branched ∙ led_to path tail rest b m n block s is is_tail found

pub outer_of : (path tail rest : List ℕ) (n m : ℕ) (p : PlainProgram) (k : PlainMethod) (r : Option Statements) → path ≡ n ∷ tail → tail ≡ m ∷ rest → Some k ≡ slice_get p.methods n → r ≡ outer_block rest m k.body → r ≡ outer_block_at path p
outer_of path tail rest n m p k r is is_tail found e =
    e
    ∙ ap (found_in (λ (k : PlainMethod). outer_block rest m k.body)) found
    ∙ ap (λ (q : List ℕ). outer_block_at q p) (joined path tail rest n m is is_tail)

-- ---- The last number of a path

last_is : (path : List ℕ) → get_or path (length path - 1) 0 ≡ last_of path
last_is [] = refl
last_is (n ∷ []) = refl
last_is (n ∷ m ∷ path) =
    let e : length (n ∷ m ∷ path) - 1 ≡ suc (length (m ∷ path) - 1) = omega arith in
    ap (λ (k : ℕ). get_or (n ∷ m ∷ path) k 0) e ∙ last_is (m ∷ path)

number_at : (path : List ℕ) (k n : ℕ) → Some n ≡ slice_get path k → n ≡ get_or path k 0
number_at [] k n e = absurd cc
number_at (m ∷ path) zero n e = cc
number_at (m ∷ path) (suc k) n e = number_at path k n e

none_at : (path : List ℕ) (k : ℕ) → None ≡ slice_get path k → 0 ≡ get_or path k 0
none_at [] k e = refl
none_at (m ∷ path) zero e = absurd cc
none_at (m ∷ path) (suc k) e = none_at path k e

pub last_number_is : (path : List ℕ) (n : ℕ) → Some n ≡ slice_get path (length path - 1) → n ≡ last_of path
last_number_is path n e = number_at path (length path - 1) n e ∙ last_is path

pub no_last_number : (path : List ℕ) → None ≡ slice_get path (length path - 1) → 0 ≡ last_of path
no_last_number path e = none_at path (length path - 1) e ∙ last_is path
