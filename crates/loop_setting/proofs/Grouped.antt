-- Statements under the variables that they set, in the entries of an IndexMap.
use Rattle.std.proofs.Common.{◌≡◌, ℕ, List, Bool, true, false, cond, refl, ap, ◌∙◌, Option, Some, None, map, Bor}
use Rattle.std.specs.Prelude.{bytes_eq, if◌then◌else◌}
use Rattle.std.specs.Map.{lookup}
use Rattle.java_ast.specs.declared.tree.Stmt.{Stmt}
use Rattle.java_ast.specs.Reading.{statement}
use Rattle.loop_text.specs.Statements.Wanted.{found}

abbrev pub Entries : Type 0
Entries = List (Bor (List ℕ) × List (Bor Stmt))

abbrev pub test : List ℕ → Bor (List ℕ) → Bool
test x k = bytes_eq x k.now

abbrev pub same : Bor (List ℕ) → Bor (List ℕ) → Bool
same j k = bytes_eq j.now k.now

-- a name as it is lent
abbrev lent : List ℕ → Bor (List ℕ)
lent x = record { ref_ptr = (0, 0); now = x }

found_some : (b : Bool) (group : List (Bor Stmt)) (r : Option (List (Bor Stmt))) → found (cond b (Some group) r) ≡ (if b then map (λ s. statement s.now) group else found r)
found_some true group r = refl
found_some false group r = refl

-- what is under the names once statements are given to one
pub under_given : (x : List ℕ) (group : List (Bor Stmt)) (old new : Entries) → ((q : Bor (List ℕ)) → lookup (same q) new ≡ cond (test x q) (Some group) (lookup (same q) old)) → (y : List ℕ) → found (lookup (test y) new) ≡ (if bytes_eq x y then map (λ s. statement s.now) group else found (lookup (test y) old))
under_given x group old new h y = ap found (h (lent y)) ∙ found_some (bytes_eq x y) group (lookup (test y) old)

found_none : (b : Bool) (r : Option (List (Bor Stmt))) → b ≡ false → found (cond b None r) ≡ found r
found_none true r h = cc
found_none false r h = refl

-- what is under the other names once the statements of one are taken out
pub under_taken : (x : List ℕ) (old new : Entries) → ((q : Bor (List ℕ)) → lookup (same q) new ≡ cond (test x q) None (lookup (same q) old)) → (y : List ℕ) → bytes_eq x y ≡ false → found (lookup (test y) new) ≡ found (lookup (test y) old)
under_taken x old new h y apart = ap found (h (lent y)) ∙ found_none (bytes_eq x y) (lookup (test y) old) apart
