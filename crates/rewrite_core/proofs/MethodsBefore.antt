-- Where a loop gives way, the methods before its own are as they were.
use Rattle.std.proofs.Common.{◌≡◌, ℕ, zero, suc, ◌+◌, ◌-◌, List, [], ◌∷◌, length, take, slice_get, Option, Some, None, refl, sym, ap, ◌∙◌}
use Rattle.java_ast.specs.Path.{with_method, replaced_at}
use Rattle.java_ast.specs.Tree.{Statements, PlainMethod, PlainProgram}
use Rattle.loop_text.specs.Statements.Loops.{loops_of_methods}
use Rattle.loop_lists.specs.declared.listing.Listed.{Listed}
use Rattle.loop_lists.specs.Lists.{loops_there, Lists}
use Rattle.loop_lists.proofs.Windows.{item_there}
use Rattle.rewrite_core.proofs.DistinctLoops.{begin_with_method}

begin_there : (n : ℕ) (o : Option PlainMethod) (i : ℕ) (x : List ℕ) → slice_get (loops_there n o) i ≡ Some x → (rest : List ℕ) × (x ≡ n ∷ rest)
begin_there n None i x there = absurd cc
begin_there n (Some m) i x there = begin_with_method n m.body i x there

earlier_stay : (n : ℕ) (change : PlainMethod → PlainMethod) (ms : List PlainMethod) → take n (with_method n change ms) ≡ take n ms
earlier_stay zero change [] = refl
earlier_stay zero change (m ∷ ms) = refl
earlier_stay (suc n) change [] = refl
earlier_stay (suc n) change (m ∷ ms) = ap (λ (ns : List PlainMethod). m ∷ ns) (earlier_stay n change ms)

replaced_below : (n : ℕ) (rest : List ℕ) (first : ℕ) (others : Statements) (p : PlainProgram) → take n (replaced_at (n ∷ rest) first others p).methods ≡ take n p.methods
replaced_below n [] first others p = refl
replaced_below n (m ∷ rest) first others p = earlier_stay n _ p.methods

-- Where a loop gives way that a list has, the methods before its own are as they were.
pub methods_before_stay : (ms : List PlainMethod) (standing : ℕ) (l : Listed) (p q : PlainProgram) (path : List ℕ) (first : ℕ) (others : Statements) → p.methods ≡ ms → Lists ms standing l → slice_get l.paths ((standing - l.before) - l.from) ≡ Some path → q ≡ replaced_at path first others p
    → l.before ≡ length (loops_of_methods 0 (take l.number q.methods))
methods_before_stay ms standing l p q path first others same lists there is =
    let k : (rest : List ℕ) × (path ≡ l.number ∷ rest) = begin_there l.number (slice_get ms l.number) (l.from + ((standing - l.before) - l.from)) path (item_there l.from l.upto ((standing - l.before) - l.from) (loops_there l.number (slice_get ms l.number)) path (ap (λ (ps : List (List ℕ)). slice_get ps ((standing - l.before) - l.from)) (sym lists.paths) ∙ there)) in
    let stay : take l.number q.methods ≡ take l.number ms =
    ap (λ (r : PlainProgram). take l.number r.methods) (is ∙ ap (λ (path' : List ℕ). replaced_at path' first others p) k.1)
    ∙ replaced_below l.number k.0 first others p
    ∙ ap (take l.number) same in
    lists.before ∙ ap (λ (ns : List PlainMethod). length (loops_of_methods 0 ns)) (sym stay)

-- So they are where the loop gives way behind a block that was put in its place.
pub methods_before_block : (ms : List PlainMethod) (standing : ℕ) (l : Listed) (p q : PlainProgram) (path : List ℕ) (last : ℕ) (block : Statements) → p.methods ≡ ms → Lists ms standing l → slice_get l.paths ((standing - l.before) - l.from) ≡ Some path → q ≡ replaced_at path last block p
    → (first : ℕ) (others : Statements) → l.before ≡ length (loops_of_methods 0 (take l.number (replaced_at path first others q).methods))
methods_before_block ms standing l p q path last block same lists there is first others =
    let k : (rest : List ℕ) × (path ≡ l.number ∷ rest) = begin_there l.number (slice_get ms l.number) (l.from + ((standing - l.before) - l.from)) path (item_there l.from l.upto ((standing - l.before) - l.from) (loops_there l.number (slice_get ms l.number)) path (ap (λ (ps : List (List ℕ)). slice_get ps ((standing - l.before) - l.from)) (sym lists.paths) ∙ there)) in
    let stay : take l.number (replaced_at path first others q).methods ≡ take l.number q.methods = ap (λ (path' : List ℕ). take l.number (replaced_at path' first others q).methods) k.1 ∙ replaced_below l.number k.0 first others q in
    methods_before_stay ms standing l p q path last block same lists there is ∙ ap (λ (ns : List PlainMethod). length (loops_of_methods 0 ns)) (sym stay)
