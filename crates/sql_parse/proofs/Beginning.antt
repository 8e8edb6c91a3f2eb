-- A condition is what it begins with and what goes on behind that.
use Rattle.std.proofs.Common.{◌≡◌, ◌≤◌, Bool, true, false, length, get_or, arith, List, [], ◌∷◌, Option, Some, None, refl, sym, ap, ◌∙◌, codes}
use Rattle.sql_ast.specs.declared.tree.Cmp.{Cmp}
use Rattle.sql_ast.specs.Names.{◌>>=◌}
use Rattle.sql_ast.specs.Reader.{Read, given, is_word, after_word, after_open, after_close, after_one, col_at, opnd_at, in_at, where_at, source_at, one_at, column_at, enclosed_at, bare_from, within_from, atom_from, other_atom, atom_at}
use Rattle.sql_ast.specs.Tokens.{Token, Open, Test}
use Rattle.sql_ast.specs.Written.{WrittenCol, WrittenOpnd, WrittenCondition, WrittenPart, WrittenFilter}
use Rattle.sql_ast.specs.Written as written
use Rattle.sql_parse.specs.Begins.{Begun, Group, Exists, Within, Compared, Bare, one_begins, column_begins, bare_begun, within_begun, begun_from, other_begun, begun_at, closed_by, after_begun}
use Rattle.sql_parse.specs.Calls.{test_at}
use Rattle.sql_parse.specs.declared.fault.Stop.{Stop}
use Rattle.sql_parse.specs.declared.fault.Stop.TheVariants as stops
use Rattle.sql_parse.specs.declared.token.Token as code
use Rattle.sql_parse.specs.Seen.{token_of, tokens_of, Fails}

pub where_is : (group : List Token → Read WrittenCondition) (ts : List Token) → where_at group ts ≡ given (after_word (codes "WHERE") ts) (λ us. group us >>= λ x. Some (written.Where x.0, x.1)) (Some (written.Everything, ts))
where_is group [] = refl
where_is group (t ∷ ts) = by (is_word (codes "WHERE") t) refl
  where
    by : (v : Bool) → is_word (codes "WHERE") t ≡ v → where_at group (t ∷ ts) ≡ given (after_word (codes "WHERE") (t ∷ ts)) (λ us. group us >>= λ x. Some (written.Where x.0, x.1)) (Some (written.Everything, t ∷ ts))
    by true e = rw e refl
    by false e = rw e refl

pub compared_or_within : (a : WrittenOpnd) (ts : List Token) → begun_from a ts ≡ given (test_at ts) (λ x. opnd_at x.1 >>= λ y. Some (Compared x.0 a y.0 y.1)) (within_begun a ts)
compared_or_within a [] = refl
compared_or_within a (Test cmp ∷ ts) = refl
compared_or_within a (t ∷ ts) = refl

-- ---- behind what stands in front of a source

two_steps : {A B C D : Type 0} (r : Option A) (f : A → Option B) (g : B → Option C) (k : C → Option D) → ((r >>= λ a. f a >>= g) >>= k) ≡ ((r >>= f) >>= λ b. g b >>= k)
two_steps None f g k = refl
two_steps (Some a) f g k = by (f a)
  where
    by : (s : Option _) → ((s >>= g) >>= k) ≡ (s >>= λ b. g b >>= k)
    by None = refl
    by (Some b) = refl

three_steps : {A B C D E : Type 0} (r : Option A) (f : A → Option B) (g : B → Option C) (h : C → Option D) (k : D → Option E)
    → (r >>= λ a. (f a >>= λ b. g b >>= h) >>= k) ≡ ((r >>= λ a. f a >>= g) >>= λ c. h c >>= k)
three_steps None f g h k = refl
three_steps (Some a) f g h k = two_steps (f a) g h k

pub one_is : (group : List Token → Read WrittenCondition) (ts : List Token) → enclosed_at (one_at group) ts ≡ (one_begins ts >>= λ us. source_at group us >>= λ x. closed_by x.0 x.1)
one_is group ts = three_steps (after_open ts) (after_word (codes "SELECT")) after_one (source_at group) (λ x. closed_by x.0 x.1)

abbrev Source : Type 0
Source = List WrittenPart × WrittenFilter

abbrev closing : {A : Type 0} → A → Option (List Token) → Read A
closing x s = s >>= λ us. Some (x, us)

abbrev close_behind : {A : Type 0} → A × List Token → Read A
close_behind x = closing x.0 (after_close x.1)

abbrev exists_of : Source × List Token → Read WrittenCondition
exists_of x = Some (written.Exists x.0.0 x.0.1, x.1)

abbrev closed_exists : Source × List Token → Read WrittenCondition
closed_exists x = closed_by (written.Exists x.0.0 x.0.1) x.1

exists_is : (group : List Token → Read WrittenCondition) (ts : List Token) → (enclosed_at (one_at group) ts >>= exists_of) ≡ ((one_begins ts >>= λ us. Some (Exists us)) >>= after_begun group)
unfolding after_begun
exists_is group ts = ap (λ (r : Read Source). r >>= exists_of) (one_is group ts) ∙ by (one_begins ts)
  where
    last : (x : Source) (s : Option (List Token)) → (closing x s >>= exists_of) ≡ closing (written.Exists x.0 x.1) s
    last x None = refl
    last x (Some us) = refl

    behind : (s : Read Source) → ((s >>= close_behind) >>= exists_of) ≡ (s >>= closed_exists)
    behind None = refl
    behind (Some x) = last x.0 (after_close x.1)

    by : (r : Option (List Token)) → ((r >>= λ us. source_at group us >>= close_behind) >>= exists_of) ≡ ((r >>= λ us. Some (Exists us)) >>= after_begun group)
    by None = refl
    by (Some us) = behind (source_at group us)

abbrev col_with : WrittenCol → Source × List Token → Read (WrittenCol × Source)
col_with col y = Some ((col, y.0), y.1)

abbrev within_of : WrittenOpnd → Bool → (WrittenCol × Source) × List Token → Read WrittenCondition
within_of a negated y = Some (written.Within a negated y.0.0 y.0.1.0 y.0.1.1, y.1)

abbrev begins_within : WrittenOpnd → Bool → WrittenCol × List Token → Option Begun
begins_within a negated y = Some (Within a negated y.0 y.1)

abbrev closed_within : WrittenOpnd → Bool → WrittenCol → Source × List Token → Read WrittenCondition
closed_within a negated col x = closed_by (written.Within a negated col x.0.0 x.0.1) x.1

column_is : (group : List Token → Read WrittenCondition) (a : WrittenOpnd) (negated : Bool) (ts : List Token)
    → (enclosed_at (column_at group) ts >>= within_of a negated) ≡ ((column_begins ts >>= begins_within a negated) >>= after_begun group)
unfolding after_begun
column_is group a negated ts = by_open (after_open ts)
  where
    last : (x : WrittenCol × Source) (s : Option (List Token)) → (closing x s >>= within_of a negated) ≡ closing (written.Within a negated x.0 x.1.0 x.1.1) s
    last x None = refl
    last x (Some us) = refl

    behind : (col : WrittenCol) (s : Read Source) → (((s >>= col_with col) >>= close_behind) >>= within_of a negated) ≡ (s >>= closed_within a negated col)
    behind col None = refl
    behind col (Some x) = last (col, x.0) (after_close x.1)

    by_col : (r : Read WrittenCol) → (((r >>= λ x. source_at group x.1 >>= col_with x.0) >>= close_behind) >>= within_of a negated) ≡ ((r >>= begins_within a negated) >>= after_begun group)
    by_col None = refl
    by_col (Some x) = behind x.0 (source_at group x.1)

    by_word : (r : Option (List Token))
        → (((r >>= λ us. col_at us >>= λ x. source_at group x.1 >>= col_with x.0) >>= close_behind) >>= within_of a negated) ≡ (((r >>= λ vs. col_at vs) >>= begins_within a negated) >>= after_begun group)
    by_word None = refl
    by_word (Some us) = by_col (col_at us)

    by_open : (r : Option (List Token))
        → ((r >>= λ us. column_at group us >>= close_behind) >>= within_of a negated) ≡ (((r >>= λ us. after_word (codes "SELECT") us >>= λ vs. col_at vs) >>= begins_within a negated) >>= after_begun group)
    by_open None = refl
    by_open (Some us) = by_word (after_word (codes "SELECT") us)

-- ---- all that is no chain

abbrev enclosed_within : (List Token → Read WrittenCondition) → WrittenOpnd → Bool × List Token → Read WrittenCondition
enclosed_within group a x = enclosed_at (column_at group) x.1 >>= within_of a x.0

abbrev begun_within : WrittenOpnd → Bool × List Token → Option Begun
begun_within a x = column_begins x.1 >>= begins_within a x.0

within_is : (group : List Token → Read WrittenCondition) (a : WrittenOpnd) (ts : List Token) → within_from group a ts ≡ (within_begun a ts >>= after_begun group)
unfolding after_begun
within_is group a ts = by (in_at ts)
  where
    bare : (b : WrittenOpnd) → bare_from b ts ≡ (bare_begun b ts >>= after_begun group)
    bare (written.Column col) = refl
    bare (written.Lit scalar) = refl
    bare (written.Param n) = refl

    by : (r : Read Bool) → given r (enclosed_within group a) (bare_from a ts) ≡ (given r (begun_within a) (bare_begun a ts) >>= after_begun group)
    by None = bare a
    by (Some x) = column_is group a x.0 x.1

abbrev compare_with : Cmp → WrittenOpnd → WrittenOpnd × List Token → Read WrittenCondition
compare_with cmp a x = Some (written.Compare cmp a x.0, x.1)

from_is : (group : List Token → Read WrittenCondition) (a : WrittenOpnd) (ts : List Token) → atom_from group a ts ≡ (begun_from a ts >>= after_begun group)
unfolding after_begun
from_is group a [] = within_is group a []
from_is group a (Test cmp ∷ ts) = by (opnd_at ts)
  where
    by : (r : Read WrittenOpnd) → (r >>= compare_with cmp a) ≡ ((r >>= λ x. Some (Compared cmp a x.0 x.1)) >>= after_begun group)
    by None = refl
    by (Some x) = refl
from_is group a (t ∷ ts) = within_is group a (t ∷ ts)

other_is : (group : List Token → Read WrittenCondition) (t : Token) (ts : List Token) → other_atom group t ts ≡ (other_begun t ts >>= after_begun group)
other_is group t ts = by (is_word (codes "EXISTS") t) refl
  where
    opnd : (r : Read WrittenOpnd) → (r >>= λ x. atom_from group x.0 x.1) ≡ ((r >>= λ x. begun_from x.0 x.1) >>= after_begun group)
    opnd None = refl
    opnd (Some x) = from_is group x.0 x.1

    by : (v : Bool) → is_word (codes "EXISTS") t ≡ v → other_atom group t ts ≡ (other_begun t ts >>= after_begun group)
    by true e = rw e (exists_is group ts)
    by false e = rw e (opnd (opnd_at (t ∷ ts)))

pub atom_is : (group : List Token → Read WrittenCondition) (ts : List Token) → atom_at group ts ≡ (begun_at ts >>= after_begun group)
unfolding atom_at begun_at after_begun
atom_is group [] = refl
atom_is group (Open ∷ ts) = refl
atom_is group (t ∷ ts) = other_is group t ts

pub begun_fails : (group : List Token → Read WrittenCondition) (ts : List Token) (e : Stop) → Fails e (begun_at ts) → Fails e (atom_at group ts)
begun_fails group ts stops.NoMemory f = tt
begun_fails group ts stops.Broken f = atom_is group ts ∙ ap (λ (r : Option Begun). r >>= after_begun group) f

module _ (group : List Token → Read WrittenCondition) (ts : List Token) (b : Begun) (read : begun_at ts ≡ Some b) where
  goes_on : atom_at group ts ≡ after_begun group b
  goes_on = atom_is group ts ∙ ap (λ (r : Option Begun). r >>= after_begun group) read

  pub group_fails : (us : List Token) (e : Stop) → b ≡ Group us → Fails e (group us) → Fails e (atom_at group ts)
  unfolding after_begun
  group_fails us stops.NoMemory h f = tt
  group_fails us stops.Broken h f = goes_on ∙ ap (after_begun group) h ∙ ap (λ (r : Read WrittenCondition). r >>= close_behind) f

  pub group_gives : (us vs : List Token) (c : WrittenCondition) → b ≡ Group us → group us ≡ Some (c, vs) → atom_at group ts ≡ closed_by c vs
  unfolding after_begun
  group_gives us vs c h f = goes_on ∙ ap (after_begun group) h ∙ ap (λ (r : Read WrittenCondition). r >>= close_behind) f

  pub exists_fails : (us : List Token) (e : Stop) → b ≡ Exists us → Fails e (source_at group us) → Fails e (atom_at group ts)
  unfolding after_begun
  exists_fails us stops.NoMemory h f = tt
  exists_fails us stops.Broken h f = goes_on ∙ ap (after_begun group) h ∙ ap (λ (r : Read Source). r >>= closed_exists) f

  pub exists_gives : (us vs : List Token) (s : Source) → b ≡ Exists us → source_at group us ≡ Some (s, vs) → atom_at group ts ≡ closed_by (written.Exists s.0 s.1) vs
  unfolding after_begun
  exists_gives us vs s h f = goes_on ∙ ap (after_begun group) h ∙ ap (λ (r : Read Source). r >>= closed_exists) f

  pub within_fails : (a : WrittenOpnd) (negated : Bool) (col : WrittenCol) (us : List Token) (e : Stop) → b ≡ Within a negated col us → Fails e (source_at group us) → Fails e (atom_at group ts)
  unfolding after_begun
  within_fails a negated col us stops.NoMemory h f = tt
  within_fails a negated col us stops.Broken h f = goes_on ∙ ap (after_begun group) h ∙ ap (λ (r : Read Source). r >>= closed_within a negated col) f

  pub within_gives : (a : WrittenOpnd) (negated : Bool) (col : WrittenCol) (us vs : List Token) (s : Source) → b ≡ Within a negated col us → source_at group us ≡ Some (s, vs) → atom_at group ts ≡ closed_by (written.Within a negated col s.0 s.1) vs
  unfolding after_begun
  within_gives a negated col us vs s h f = goes_on ∙ ap (after_begun group) h ∙ ap (λ (r : Read Source). r >>= closed_within a negated col) f

  pub compared_gives : (cmp : Cmp) (x y : WrittenOpnd) (us : List Token) (c : WrittenCondition) → b ≡ Compared cmp x y us → c ≡ written.Compare cmp x y → atom_at group ts ≡ Some (c, us)
  unfolding after_begun
  compared_gives cmp x y us c h e = goes_on ∙ ap (after_begun group) h ∙ ap (λ (d : WrittenCondition). Some (d, us)) (sym e)

  pub bare_gives : (col : WrittenCol) (us : List Token) (c : WrittenCondition) → b ≡ Bare col us → c ≡ written.Bare col → atom_at group ts ≡ Some (c, us)
  unfolding after_begun
  bare_gives col us c h e = goes_on ∙ ap (after_begun group) h ∙ ap (λ (d : WrittenCondition). Some (d, us)) (sym e)

-- ---- behind a first operand

other_opnd : (t : Token) (ts us : List Token) (a : WrittenOpnd) → is_word (codes "EXISTS") t ≡ false → opnd_at (t ∷ ts) ≡ Some (a, us) → other_begun t ts ≡ begun_from a us
other_opnd t ts us a e h = rw e (ap (λ (r : Read WrittenOpnd). r >>= λ x. begun_from x.0 x.1) h)

opnd_first : (t : Token) (ts us : List Token) (a : WrittenOpnd) → is_word (codes "EXISTS") t ≡ false → opnd_at (t ∷ ts) ≡ Some (a, us) → begun_at (t ∷ ts) ≡ begun_from a us
unfolding begun_at
opnd_first Open ts us a e h = absurd (cc)
opnd_first t ts us a e h = other_opnd t ts us a e h

pub opnd_begins : (xs : List code.Token) (x : code.Token) (us : List Token) (a : WrittenOpnd) (v : Bool) → 1 ≤ length xs → x ≡ get_or xs 0 x → v ≡ is_word (codes "EXISTS") (token_of x) → v ≡ false → opnd_at (tokens_of xs) ≡ Some (a, us)
    → begun_at (tokens_of xs) ≡ begun_from a us
opnd_begins [] x us a v h f e g k = absurd (omega (arith, h))
opnd_begins (y ∷ ys) x us a v h f e g k = opnd_first (token_of y) (tokens_of ys) us a (ap (λ (z : code.Token). is_word (codes "EXISTS") (token_of z)) (sym f) ∙ sym e ∙ g) k
