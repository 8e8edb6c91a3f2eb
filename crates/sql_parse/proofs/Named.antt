-- What names mean among FROM items in sight.
use Rattle.std.proofs.Common.{◌≡◌, ℕ, zero, suc, List, [], ◌∷◌, ◌++◌, take, drop, Some, None, refl, ap}
use Rattle.sql_ast.specs.Knowns.{own_of}
use Rattle.sql_ast.specs.Names.{innermost, item_named}
use Rattle.sql_ast.specs.Names as names
use Rattle.sql_parse.specs.Scopes.{scope_of}

halves : {A : Type 0} (n : ℕ) (xs : List A) → take n xs ++ drop n xs ≡ xs
halves zero xs = refl
halves (suc n) [] = refl
halves (suc n) (x ∷ xs) = ap (λ (ys : List _). x ∷ ys) (halves n xs)

pub aliased : (around : ℕ) (alias : List ℕ) (ks : List names.Known) → item_named (scope_of around ks) (Some alias) ≡ innermost 1 alias ks
aliased around alias ks = ap (innermost 1 alias) (halves around ks)

pub unaliased : (around : ℕ) (ks : List names.Known) → item_named (scope_of around ks) None ≡ own_of around ks
unfolding own_of
unaliased around ks = refl
