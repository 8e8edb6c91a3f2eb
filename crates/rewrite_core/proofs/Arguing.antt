-- The arguments that code lists, and what stands at a number of a list that is read.
use Rattle.std.proofs.Common.{◌≡◌, ℕ, zero, suc, ◌<◌, ◌≤◌, List, [], ◌∷◌, length, map, slice_get, get_or, Some, None, refl, sym, ap, ap₂, arith}
use Rattle.qbs_base.specs.declared.span.Span.{Span}
use Rattle.java_ast.specs.declared.tree.Expr.{Expr}
use Rattle.java_ast.specs.Reading.{expression, expressions}
use Rattle.java_ast.specs.Tree.{Expression, And}
use Rattle.rewrite_core.specs.Asked.{entry_at, arguments_of}

pub arguments_are : (at : Span) (entries : List Expression) (es : List Expr) (ks : List ℕ) → map expression es ≡ map (λ (k : ℕ). entry_at at (slice_get entries k)) ks → expressions es ≡ arguments_of at entries ks
arguments_are at entries [] [] e = refl
arguments_are at entries [] (k ∷ ks) e = absurd cc
arguments_are at entries (x ∷ es) [] e = absurd cc
arguments_are at entries (x ∷ es) (k ∷ ks) e =
    let both : expression x ∷ map expression es ≡ entry_at at (slice_get entries k) ∷ map (λ (k : ℕ). entry_at at (slice_get entries k)) ks = e in
    let first : expression x ≡ entry_at at (slice_get entries k) = cc in
    let rest : map expression es ≡ map (λ (k : ℕ). entry_at at (slice_get entries k)) ks = cc in
    ap₂ And first (arguments_are at entries es ks rest)

-- ---- What stands at a number

pub mapped_some : {A B : Type 0} (f : A → B) (xs : List A) (n : ℕ) (x d : A) → n < length xs → x ≡ get_or xs n d → slice_get (map f xs) n ≡ Some (f x)
mapped_some f [] n x d below h = absurd (omega arith)
mapped_some f (y ∷ ys) zero x d below h = ap (λ z. Some (f z)) (sym h)
mapped_some f (y ∷ ys) (suc n) x d below h = mapped_some f ys n x d (omega arith) h

pub mapped_none : {A B : Type 0} (f : A → B) (xs : List A) (n : ℕ) → length xs ≤ n → slice_get (map f xs) n ≡ None
mapped_none f [] n above = refl
mapped_none f (y ∷ ys) zero above = absurd (omega arith)
mapped_none f (y ∷ ys) (suc n) above = mapped_none f ys n (omega arith)
