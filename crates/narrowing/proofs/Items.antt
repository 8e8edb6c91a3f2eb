-- Items of lists, and lists that are lent.
use Rattle.std.proofs.Common.{◌≡◌, ℕ, ◌+◌, ◌<◌, ◌≤◌, true, false, List, [], ◌∷◌, ◌++◌, Bor, length, take, map, nat_lt, arith, ap, sym, ◌∙◌}
use Rattle.std.proofs.lemmas.Bool.Decides.{nat_tests}
use Rattle.std.proofs.lemmas.List.{map-append, length-map, take-map}
use Rattle.java_ast.specs.declared.tree.Expr.{Expr}
use Rattle.java_ast.specs.Tree.{Expression}
use Rattle.java_ast.specs.Reading.{expression}
use Rattle.spreads.specs.Narrowed.{is_column, with_argument, with_operand, with_part}
use Rattle.narrowing.proofs.Firsts.{part_grows, put_full, operand_none, part_none, all_fit, too_many, cut_back}
use Rattle.narrowing.specs.Lent.{expressions_lent}

pub lent_more : (xs new : List (Bor Expr)) (x : Bor Expr) → new ≡ xs ++ x ∷ [] → expressions_lent new ≡ expressions_lent xs ++ expression x.now ∷ []
lent_more xs new x e = ap expressions_lent e ∙ map-append (λ (y : Bor Expr). expression y.now) xs (x ∷ [])

pub lent_len : (xs : List (Bor Expr)) → length (expressions_lent xs) ≡ length xs
lent_len xs = length-map xs (λ (y : Bor Expr). expression y.now)

pub lent_first : (n : ℕ) (xs : List (Bor Expr)) → expressions_lent (take n xs) ≡ take n (expressions_lent xs)
lent_first n xs = sym (take-map (λ (y : Bor Expr). expression y.now) n xs)

-- ---- Arguments that are lent

pub lent_full : (n : ℕ) (xs : List (Bor Expr)) (e : Expression) → length xs ≤ n → n ≤ length xs → expressions_lent xs ≡ take n (with_argument (expressions_lent xs) e)
lent_full n xs e h k =
    let short : length (expressions_lent xs) ≤ n = omega (arith, lent_len xs) in
    let long : n ≤ length (expressions_lent xs) = omega (arith, lent_len xs) in
    put_full n (expressions_lent xs) e short long

pub lent_operand : (n : ℕ) (x : List ℕ) (e : Expression) (xs : List (Bor Expr)) → length xs ≤ n → is_column x e ≡ true → expressions_lent xs ≡ take n (with_operand x (expressions_lent xs) e)
lent_operand n x e xs h k = let short : length (expressions_lent xs) ≤ n = omega (arith, lent_len xs) in operand_none n x e (expressions_lent xs) short k

pub lent_part : (n : ℕ) (x : List ℕ) (e : Expression) (xs : List (Bor Expr)) → length xs ≤ n → with_part x (expressions_lent xs) e ≡ expressions_lent xs → expressions_lent xs ≡ take n (with_part x (expressions_lent xs) e)
lent_part n x e xs h k = let short : length (expressions_lent xs) ≤ n = omega (arith, lent_len xs) in part_none n x e (expressions_lent xs) short k

pub lent_fit : (n : ℕ) (r : List Expression) (found : List (Bor Expr)) → expressions_lent found ≡ take n r → length found < n → expressions_lent found ≡ r
lent_fit n r found e h = let short : length (expressions_lent found) < n = omega (arith, lent_len found) in all_fit n r (expressions_lent found) e short

pub lent_few : (n : ℕ) (r : List Expression) (found : List (Bor Expr)) → expressions_lent found ≡ take n r → length found < n → true ≡ nat_lt (length r) n
lent_few n r found e h =
    let same : length (expressions_lent found) ≡ length r = ap length (lent_fit n r found e h) in
    let few : length r < n = omega (arith, lent_len found, same) in
    grind (arith, nat_tests)

pub lent_many : (n : ℕ) (r : List Expression) (found : List (Bor Expr)) → expressions_lent found ≡ take n r → n ≤ length found → false ≡ nat_lt (length r) n
lent_many n r found e h =
    let long : n ≤ length (expressions_lent found) = omega (arith, lent_len found) in
    let many : n ≤ length r = too_many n r (expressions_lent found) e long in
    grind (arith, nat_tests)

pub lent_back : (n len : ℕ) (x : List ℕ) (e : Expression) (old found new : List (Bor Expr)) → length old ≤ n → len ≡ length old → expressions_lent found ≡ take n (with_part x (expressions_lent old) e) → new ≡ take len found
    → expressions_lent new ≡ expressions_lent old
lent_back n len x e old found new h l k cut =
    let short : length (expressions_lent old) ≤ n = omega (arith, lent_len old) in
    ap expressions_lent cut
    ∙ lent_first len found
    ∙ ap (λ (m : ℕ). take m (expressions_lent found)) (l ∙ sym (lent_len old))
    ∙ cut_back n (expressions_lent old) (with_part x (expressions_lent old) e) (expressions_lent found) short (part_grows x e (expressions_lent old)) k
