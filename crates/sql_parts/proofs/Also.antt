-- Conditions one after the other.
use Rattle.std.proofs.Common.{◌≡◌, List, [], ◌∷◌, ◌++◌, map, slice_get, option_map, refl, ℕ, zero, suc}
use Rattle.sql_ast.specs.Tree.{Condition, Both, Filter, Everything, Where}
use Rattle.sql_parts.specs.Emitted.{joined_from, joined}
use Rattle.sql_build.specs.Filters.{with_also}
use Rattle.sql_parts.specs.Reading.{all_also}

pub also_append : (f : Filter) (xs ys : List Condition) → all_also f (xs ++ ys) ≡ all_also (all_also f xs) ys
also_append f [] ys = refl
also_append f (x ∷ xs) ys = also_append (with_also f x) xs ys

also_from : (a : Condition) (cs : List Condition) → all_also (Where a) cs ≡ Where (joined_from a cs)
also_from a [] = refl
also_from a (c ∷ cs) = also_from (Both a c) cs

pub also_joined : (cs : List Condition) → all_also Everything cs ≡ joined cs
also_joined [] = refl
also_joined (c ∷ cs) = also_from c cs

pub get_mapped : {X Y : Type 0} (f : X → Y) (xs : List X) (k : ℕ) → slice_get (map f xs) k ≡ option_map f (slice_get xs k)
get_mapped f [] k = refl
get_mapped f (x ∷ xs) zero = refl
get_mapped f (x ∷ xs) (suc k) = get_mapped f xs k

pub ruleset also = (also_append, also_joined, get_mapped)
