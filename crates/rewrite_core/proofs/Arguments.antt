-- The arguments of an ask have the values of the entries whose numbers they have, and read what entry values read.
use Rattle.std.proofs.Common.{◌≡◌, ℕ, zero, suc, ◌<◌, true, List, [], ◌∷◌, length, slice_get, Option, Some, None, Ok, refl, sym, ap, ◌∙◌, arith}
use Rattle.std.specs.List.{AllByRecursion}
use Rattle.qbs_base.specs.declared.scalar.Scalar.{Scalar}
use Rattle.qbs_base.specs.declared.scalar.Ty.{Ty}
use Rattle.qbs_base.specs.declared.scalar.Value.TheVariants.{One}
use Rattle.qbs_base.specs.declared.span.Span.{Span}
use Rattle.qbs_base.specs.Values.{AreOf}
use Rattle.sql_parts.specs.Given.{value_or, values_at}
use Rattle.java_ast.specs.Placed.{placed, placed_all}
use Rattle.java_ast.specs.Tree as tree
use Rattle.java_ast.specs.Tree.{Expression, Expressions, NoMore, And}
use Rattle.java_mean.specs.Endings.{◌>>=◌}
use Rattle.java_mean.specs.Expression.{value_of, scalars_of, as_scalar}
use Rattle.java_mean.specs.Store.{Store}
use Rattle.java_mean.specs.World.{World}
use Rattle.java_mean.proofs.Placing.{value_kept}
use Rattle.java_ast.specs.Names.{is_among, names_in, names_read}
use Rattle.java_loops.specs.Meant.Means.{AreMatched, HasScalar}
use Rattle.java_loops.specs.Walks.Reads.{Set, Reads, AllRead}
use Rattle.java_loops.proofs.Walks.Named.{reads_named}
use Rattle.java_loops.proofs.Nested.NestNames.{among_left, among_right}
use Rattle.rewrite_core.specs.Asked.{entry_at, arguments_of}

-- ---- Values

-- as many scalars as types
value_there : (types : List Ty) (xs : List Scalar) → AreOf types xs → (k : ℕ) → k < length types → (x : Scalar) × (slice_get xs k ≡ Some x)
value_there [] xs h k below = absurd (omega (arith, below))
value_there (ty ∷ types) [] h k below = absurd h
value_there (ty ∷ types) (x ∷ xs) h zero below = (x, refl)
value_there (ty ∷ types) (x ∷ xs) h (suc k) below = value_there types xs h.1 k (omega (arith, below))

module _ (world : World) (s : Store) where
  -- the expression of an entry with a value
  entry_there : (es : List Expression) (xs : List Scalar) → AreMatched (HasScalar world s) es xs → (k : ℕ) (x : Scalar) → slice_get xs k ≡ Some x → (e : Expression) × (slice_get es k ≡ Some e) × HasScalar world s e x
  entry_there [] [] m k x h = absurd cc
  entry_there [] (y ∷ ys) m k x h = absurd m
  entry_there (e ∷ es) [] m k x h = absurd m
  entry_there (e ∷ es) (y ∷ ys) m zero x h = let same : y ≡ x = cc in (e, refl, m.0 ∙ ap (λ z. Ok (One z)) same)
  entry_there (e ∷ es) (y ∷ ys) m (suc k) x h = entry_there es ys m.1 k x h

  module _ (at : Span) (types : List Ty) (es : List Expression) (xs : List Scalar) (typed : AreOf types xs) (matched : AreMatched (HasScalar world s) es xs) where
    argument_has : (k : ℕ) → k < length types → (x : Scalar) × (slice_get xs k ≡ Some x) × (value_of (entry_at at (slice_get es k)) world s ≡ Ok (One x))
    argument_has k below =
        let v = value_there types xs typed k below in
        let e = entry_there es xs matched k v.0 v.1 in
        (v.0, v.1, ap (λ o. value_of (entry_at at o) world s) e.1 ∙ value_kept at e.0 world s (One v.0) e.2)

    -- Arguments for entries that are there have the values of these.
    pub arguments_have : (ks : List ℕ) → AllByRecursion (λ k. k < length types) ks → scalars_of (arguments_of at es ks) world s ≡ Ok (values_at xs ks)
    arguments_have [] h = refl
    arguments_have (k ∷ ks) h =
        let v = argument_has k h.0 in
        ap (λ o. o >>= λ u. as_scalar u >>= λ x. scalars_of (arguments_of at es ks) world s >>= λ zs. Ok (x ∷ zs)) v.2
        ∙ ap (λ o. o >>= λ zs. Ok (v.0 ∷ zs)) (arguments_have ks h.1)
        ∙ ap (λ z. Ok (z ∷ values_at xs ks)) (sym (ap value_or v.1))

-- ---- What is read

mutual
  -- places have no say in what is read
  placed_reads : (at : Span) (f : Set) (e : Expression) → Reads f e → Reads f (placed at e)
  placed_reads at f (tree.Lit to x) h = tt
  placed_reads at f (tree.Var to x) h = h
  placed_reads at f (tree.Field to e n) h = placed_reads at f e h
  placed_reads at f (tree.Binary to op a b) h = (placed_reads at f a h.0, placed_reads at f b h.1)
  placed_reads at f (tree.Not to e) h = placed_reads at f e h
  placed_reads at f (tree.Equals to a b) h = (placed_reads at f a h.0, placed_reads at f b h.1)
  placed_reads at f (tree.Size to x) h = h
  placed_reads at f (tree.Get to x e) h = (h.0, placed_reads at f e h.1)
  placed_reads at f (tree.Contains to x e) h = (h.0, placed_reads at f e h.1)
  placed_reads at f (tree.Fetch to n) h = tt
  placed_reads at f (tree.Query to ty text es) h = all_placed_read at f es h
  placed_reads at f (tree.QueryLong to text es) h = all_placed_read at f es h
  placed_reads at f (tree.QueryBoolean to text es) h = all_placed_read at f es h
  placed_reads at f (tree.NewList to) h = tt
  placed_reads at f (tree.NewSet to) h = tt
  placed_reads at f (tree.NewSetOf to e) h = placed_reads at f e h

  all_placed_read : (at : Span) (f : Set) (es : Expressions) → AllRead f es → AllRead f (placed_all at es)
  all_placed_read at f NoMore h = tt
  all_placed_read at f (And e es) h = (placed_reads at f e h.0, all_placed_read at f es h.1)

-- an entry reads what all entries read
pub entry_reads : (es : List Expression) (k : ℕ) (e : Expression) → slice_get es k ≡ Some e → (x : List ℕ) → is_among (names_in e) x ≡ true → is_among (names_read es) x ≡ true
entry_reads [] k e h x i = absurd cc
entry_reads (d ∷ ds) zero e h x i = let same : d ≡ e = cc in among_left (names_in d) (names_read ds) x (ap (λ z. is_among (names_in z) x) same ∙ i)
entry_reads (d ∷ ds) (suc k) e h x i = among_right (names_in d) (names_read ds) x (entry_reads ds k e h x i)

argument_reads : (at : Span) (es : List Expression) (k : ℕ) (o : Option Expression) → slice_get es k ≡ o → Reads (is_among (names_read es)) (entry_at at o)
argument_reads at es k (Some e) h = placed_reads at (is_among (names_read es)) e (reads_named e (is_among (names_read es)) (entry_reads es k e h))
argument_reads at es k None h = tt

-- Arguments read what entry values read.
pub arguments_read : (at : Span) (es : List Expression) (ks : List ℕ) → AllRead (is_among (names_read es)) (arguments_of at es ks)
arguments_read at es [] = tt
arguments_read at es (k ∷ ks) = (argument_reads at es k (slice_get es k) refl, arguments_read at es ks)
