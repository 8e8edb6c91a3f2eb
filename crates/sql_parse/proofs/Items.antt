-- What is selected, by what stands at the front.
use Rattle.std.proofs.Common.{◌≡◌, ◌≤◌, ℕ, suc, length, ap, sym, ◌∙◌, arith, Bool, true, false, List, [], ◌∷◌, Some, None, refl, codes}
use Rattle.sql_ast.specs.Reader.{Read, given, is_word, after_star, item_at, listing_at, count_at, total_at, selected_at, query_at, condition_at, ended, query_in}
use Rattle.sql_ast.specs.Names.{◌>>=◌}
use Rattle.sql_ast.specs.Tokens.{Token, Word, Open, Dot, Star}
use Rattle.sql_ast.specs.Written.{WrittenCondition, WrittenQuery}
use Rattle.sql_ast.specs.Written as written
use Rattle.sql_parse.specs.declared.fault.Stop.{Stop}
use Rattle.sql_parse.specs.declared.fault.Stop.TheVariants as stops
use Rattle.sql_parse.specs.Seen.{Fails}
use Rattle.sql_parse.specs.Calls.{behind_call, named_item_at}

pub star_or_named : (ts : List Token) → item_at ts ≡ given (after_star ts) (λ rest. Some (written.Whole None, rest)) (named_item_at ts)
star_or_named [] = refl
star_or_named (Star ∷ ts) = refl
star_or_named (Word a ∷ []) = refl
star_or_named (Word a ∷ Dot ∷ []) = refl
star_or_named (Word a ∷ Dot ∷ Star ∷ ts) = refl
star_or_named (Word a ∷ Dot ∷ t ∷ ts) = refl
star_or_named (Word a ∷ t ∷ ts) = refl
star_or_named (t ∷ ts) = refl

pub selected_by_call : (group : List Token → Read WrittenCondition) (ts : List Token)
    → selected_at group ts ≡ given (behind_call (codes "COUNT") ts) (count_at group) (given (behind_call (codes "COALESCE") ts) (total_at group) (listing_at group ts))
selected_by_call group [] = refl
selected_by_call group (t ∷ []) = refl
selected_by_call group (t ∷ Open ∷ ts) = by (is_word (codes "COUNT") t) (is_word (codes "COALESCE") t) refl refl
  where
    by : (v w : Bool) → is_word (codes "COUNT") t ≡ v → is_word (codes "COALESCE") t ≡ w
        → selected_at group (t ∷ Open ∷ ts) ≡ given (behind_call (codes "COUNT") (t ∷ Open ∷ ts)) (count_at group) (given (behind_call (codes "COALESCE") (t ∷ Open ∷ ts)) (total_at group) (listing_at group (t ∷ Open ∷ ts)))
    by true w e f = rw e refl
    by false true e f = rw (e, f) refl
    by false false e f = rw (e, f) refl
selected_by_call group (t ∷ u ∷ ts) = refl

read_is : (room : ℕ) (ts : List Token) → room ≡ suc (length ts) → query_in ts ≡ (query_at (condition_at room) ts >>= ended)
read_is room ts e = ap (λ (n : ℕ). query_at (condition_at n) ts >>= ended) (sym e)

pub read_ends : (room : ℕ) (ts rest : List Token) (q : WrittenQuery) → room ≡ suc (length ts) → query_at (condition_at room) ts ≡ Some (q, rest) → query_in ts ≡ ended (q, rest)
read_ends room ts rest q e read = read_is room ts e ∙ ap (λ (r : Read WrittenQuery). r >>= ended) read

pub read_fails : (room : ℕ) (ts : List Token) (e : Stop) → room ≡ suc (length ts) → Fails e (query_at (condition_at room) ts) → Fails e (query_in ts)
read_fails room ts stops.NoMemory e f = tt
read_fails room ts stops.Broken e f = read_is room ts e ∙ ap (λ (r : Read WrittenQuery). r >>= ended) f

pub left_over : (q : WrittenQuery) (ts : List Token) → 1 ≤ length ts → ended (q, ts) ≡ None
left_over q [] h = absurd (omega (arith, h))
left_over q (t ∷ ts) h = refl
