-- Rounds over the statements of a block, each with those behind it.
use Rattle.std.specs.Prelude.{ℕ, zero, suc, ◌+◌, ◌<◌, ◌≤◌, Bool, true, false, ◌||◌, List, [], ◌∷◌, drop, length}
use Rattle.std.specs.Borrow.{Bor}
use Rattle.std.specs.Option.{is_some, option_map, option_copied}
use Rattle.std.specs.declared.option.Option.{Option}
use Rattle.std.specs.declared.option.Option.TheVariants.{Some, None}
use Rattle.std.proofs.Common.{◌≡◌, refl, sym, ap, ◌∙◌, get_or, arith}
use Rattle.qbs_base.specs.Values.{Schema}
use Rattle.java_ast.specs.declared.tree.Expr.{Expr}
use Rattle.java_ast.specs.declared.tree.Stmt.{Stmt}
use Rattle.java_ast.specs.Names.{Names}
use Rattle.java_ast.specs.Path.{and_then}
use Rattle.java_ast.specs.Reading.{expression, statement, statements}
use Rattle.java_ast.specs.Tree.{Expression, Statement, Statements, Nothing, Then}
use Rattle.spreads.specs.Inner.{has_select, have_select, put_unless}
use Rattle.spreads.specs.Spread.{Reads, value_declared, spread_in, spread_among}
use Rattle.spreads.proofs.Counted.{select_in_block}
use Rattle.spreads.proofs.Items.{drop_item}

pub drop_next : (block rest next : List Stmt) (i : ℕ) (s : Stmt) → i < length block → s ≡ get_or block i s → rest ≡ drop i block → next ≡ drop 1 rest → next ≡ drop (i + 1) block
drop_next block rest next i s lt at e h = h ∙ ap (drop 1) (e ∙ drop_item block i s lt at)

pub statements_next : (block next : List Stmt) (i : ℕ) (s : Stmt) → i < length block → s ≡ get_or block i s → next ≡ drop (i + 1) block → statements (drop i block) ≡ Then (statement s) (statements next)
statements_next block next i s lt at e = ap statements (drop_item block i s lt at) ∙ ap (λ (l : List Stmt). Then (statement s) (statements l)) (sym e)

nothing_left : (block : List Stmt) (i : ℕ) → length block ≤ i → statements (drop i block) ≡ Nothing
nothing_left [] zero h = refl
nothing_left [] (suc i) h = refl
nothing_left (s ∷ block) zero h = absurd (omega arith)
nothing_left (s ∷ block) (suc i) h = nothing_left block i (omega arith)

nothing_behind : (p : Statements) → and_then p Nothing ≡ p
nothing_behind Nothing = refl
nothing_behind (Then s p) = ap (Then s) (nothing_behind p)

one_behind : (p r : Statements) (s : Statement) → and_then (and_then p (Then s Nothing)) r ≡ and_then p (Then s r)
one_behind Nothing r s = refl
one_behind (Then t p) r s = ap (Then t) (one_behind p r s)

pub put_as : (old new : Statements) (x y : Statement) → x ≡ y → new ≡ and_then old (Then x Nothing) → new ≡ and_then old (Then y Nothing)
put_as old new x y e h = h ∙ ap (λ (t : Statement). and_then old (Then t Nothing)) e

lent_there : (o : Option (Bor Expr)) → is_some (option_map expression (option_copied o)) ≡ is_some o
lent_there None = refl
lent_there (Some e) = refl

pub is_declared : (o : Option (Bor Expr)) (v : Option Expression) (b c : Bool) → option_map expression (option_copied o) ≡ v → b ≡ is_some o → b ≡ c → is_some v ≡ c
is_declared o v b c e h k = ap is_some (sym e) ∙ lent_there o ∙ sym h ∙ k

module _ (schema : Schema) (read : Reads) (A : Names) where
  abbrev spread_by : Option Expression → Option Expression → Statement → Statements → Statements
  spread_by d o s p = elim o as (λ _. Statements) [ Some v ↦ spread_among schema read A (Some v) p | None ↦ Then (spread_in schema read A d s) (spread_among schema read A None p) ]

  -- a declaration for the for-each behind it is dropped
  spread_declared : (d : Option Expression) (v : Expression) (s : Statement) (all p q whole : Statements) → q ≡ Then s p → Some v ≡ value_declared schema read A s p
      → and_then all (spread_among schema read A d q) ≡ whole → and_then all (spread_among schema read A (Some v) p) ≡ whole
  spread_declared d v s all p q whole is e h =
      ap (λ (o : Option Expression). and_then all (spread_by d o s p)) e ∙ ap (λ (x : Statements). and_then all (spread_among schema read A d x)) (sym is) ∙ h

  -- another statement is spread
  spread_one : (d : Option Expression) (s : Statement) (all more p q whole : Statements) → q ≡ Then s p → None ≡ value_declared schema read A s p → more ≡ and_then all (Then (spread_in schema read A d s) Nothing)
      → and_then all (spread_among schema read A d q) ≡ whole → and_then more (spread_among schema read A None p) ≡ whole
  spread_one d s all more p q whole is e put h =
      ap (λ (x : Statements). and_then x (spread_among schema read A None p)) put
      ∙ one_behind all (spread_among schema read A None p) (spread_in schema read A d s)
      ∙ ap (λ (o : Option Expression). and_then all (spread_by d o s p)) e
      ∙ ap (λ (x : Statements). and_then all (spread_among schema read A d x)) (sym is)
      ∙ h

  pub spread_round : (o : Option (Bor Expr)) (d : Option Expression) (s : Statement) (b : Bool) (all more p q whole : Statements) → q ≡ Then s p → option_map expression (option_copied o) ≡ value_declared schema read A s p → b ≡ is_some o
      → more ≡ put_unless b all (spread_in schema read A d s) → and_then all (spread_among schema read A d q) ≡ whole → and_then more (spread_among schema read A (option_map expression (option_copied o)) p) ≡ whole
  spread_round (Some v) d s b all more p q whole is e there put h =
      ap (λ (x : Statements). and_then x (spread_among schema read A (Some (expression v.now)) p)) (put ∙ ap (λ (c : Bool). put_unless c all (spread_in schema read A d s)) there)
      ∙ spread_declared d (expression v.now) s all p q whole is e h
  spread_round None d s b all more p q whole is e there put h = spread_one d s all more p q whole is e (put ∙ ap (λ (c : Bool). put_unless c all (spread_in schema read A d s)) there) h

  pub spread_all : (d : Option Expression) (block : List Stmt) (i : ℕ) (all whole : Statements) → length block ≤ i → and_then all (spread_among schema read A d (statements (drop i block))) ≡ whole → all ≡ whole
  spread_all d block i all whole h k =
      sym (nothing_behind all) ∙ ap (λ (p : Statements). and_then all (spread_among schema read A d p)) (sym (nothing_left block i h)) ∙ k

  -- a select is declared, or walked in the statement, or there is one behind it
  pub found_declared : (s : Statement) (p q : Statements) (whole : Bool) → q ≡ Then s p → is_some (value_declared schema read A s p) ≡ true → have_select schema read A q ≡ whole → true ≡ whole
  found_declared s p q whole is e h = ap (λ (b : Bool). b || (has_select schema read A s || have_select schema read A p)) (sym e) ∙ sym (select_in_block schema read A s p) ∙ ap (have_select schema read A) (sym is) ∙ h

  pub found_in_one : (s : Statement) (p q : Statements) (whole : Bool) → q ≡ Then s p → is_some (value_declared schema read A s p) ≡ false → has_select schema read A s ≡ true → have_select schema read A q ≡ whole → true ≡ whole
  found_in_one s p q whole is e k h =
      ap (λ (b : Bool). b || have_select schema read A p) (sym k)
      ∙ ap (λ (b : Bool). b || (has_select schema read A s || have_select schema read A p)) (sym e)
      ∙ sym (select_in_block schema read A s p) ∙ ap (have_select schema read A) (sym is) ∙ h

  pub found_behind : (s : Statement) (p q : Statements) (whole : Bool) → q ≡ Then s p → is_some (value_declared schema read A s p) ≡ false → has_select schema read A s ≡ false → have_select schema read A q ≡ whole → have_select schema read A p ≡ whole
  found_behind s p q whole is e k h =
      ap (λ (b : Bool). b || have_select schema read A p) (sym k)
      ∙ ap (λ (b : Bool). b || (has_select schema read A s || have_select schema read A p)) (sym e)
      ∙ sym (select_in_block schema read A s p) ∙ ap (have_select schema read A) (sym is) ∙ h

  pub found_none : (block : List Stmt) (i : ℕ) (whole : Bool) → length block ≤ i → have_select schema read A (statements (drop i block)) ≡ whole → false ≡ whole
  found_none block i whole h k = ap (have_select schema read A) (sym (nothing_left block i h)) ∙ k
