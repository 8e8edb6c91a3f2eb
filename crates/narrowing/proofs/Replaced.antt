-- What the program is in which a for-each is narrowed: others stand in place of statements of it.
use Rattle.std.specs.Prelude.{ℕ, zero, suc, Bool, true, false, cond, List, Option, Some, None}
use Rattle.std.proofs.Common.{◌≡◌, ◌≤◌, refl, sym, ap, ◌∙◌, arith}
use Rattle.std.specs.Option.{option_map}
use Rattle.qbs_base.specs.declared.span.Span.{Span}
use Rattle.qbs_base.specs.Values.{Schema}
use Rattle.java_ast.specs.Path.{found_in, behind_of, last_of, replaced_at}
use Rattle.java_ast.specs.Tree.{Spelled, Expression, Declare, ForEach, Statement, Statements, Nothing, Then, PlainProgram}
use Rattle.spreads.specs.Alone.{walks_alone}
use Rattle.spreads.specs.Narrowed.{outer_block_at, query_of_body, narrowed_each, narrowed_pair, narrowed_before, narrowed_in, narrowed_at}
use Rattle.text_patches.specs.declared.patch.TextPatch.{TextPatch}
use Rattle.narrowing.specs.Narrowing.{patch_of, first_there, asked_each, asked_pair, asked_before, asked_in, asked_at}
use Rattle.narrowing.specs.Replacing.{listed, declared, Replacement, replacing, asked_for, before_replaced, block_replaced, replaced_for}

-- ---- The program

each_is : (schema : Schema) (p : Statements) → narrowed_each schema p ≡ option_map (listed p) (asked_each schema p)
each_is schema (Then (ForEach at ty x e body) p) = refl
each_is schema p = refl

pair_is : (schema : Schema) (p : Statements) → narrowed_pair schema p ≡ option_map (declared p) (asked_pair schema p)
pair_is schema (Then (Declare at ty v value) (Then (ForEach at' ty' x e body) p)) = go (walks_alone v (Then (ForEach at' ty' x e body) p)) (query_of_body schema value x body)
  where
    go : (b : Bool) (q : Option Expression) → cond b (option_map (λ (q : Expression). Then (Declare at ty v q) (Then (ForEach at' ty' x e body) Nothing)) q) None ≡ option_map (declared (Then (Declare at ty v value) (Then (ForEach at' ty' x e body) p))) (cond b q None)
    go true q = refl
    go false q = refl
pair_is schema p = refl

-- others in place of statements of a program
abbrev pub put : List ℕ → PlainProgram → Replacement → PlainProgram
put path p r = replaced_at path r.first r.others p

put_pair : (path : List ℕ) (n : ℕ) (p : PlainProgram) (others : Expression → Statements) (a : Option Expression) → option_map (λ (q : Statements). replaced_at path n q p) (option_map others a) ≡ option_map (put path p) (option_map (replacing n others) a)
put_pair path n p others None = refl
put_pair path n p others (Some q) = refl

before_is : (schema : Schema) (path : List ℕ) (n : ℕ) (block : Statements) (p : PlainProgram) → narrowed_before schema path n block p ≡ option_map (put path p) (before_replaced schema n block)
before_is schema path zero block p = refl
before_is schema path (suc n) block p =
    ap (option_map (λ (q : Statements). replaced_at path n q p)) (pair_is schema (behind_of n block))
    ∙ put_pair path n p (declared (behind_of n block)) (asked_pair schema (behind_of n block))

abbrev picked : List ℕ → ℕ → PlainProgram → Option PlainProgram → Option Statements → Option PlainProgram
picked path n p rest w = elim w as (λ _. Option PlainProgram) [ Some q ↦ Some (replaced_at path n q p) | None ↦ rest ]

in_is : (schema : Schema) (path : List ℕ) (n : ℕ) (block : Statements) (p : PlainProgram) → narrowed_in schema path n block p ≡ option_map (put path p) (block_replaced schema n block)
in_is schema path n block p =
    ap (picked path n p (narrowed_before schema path n block p)) (each_is schema (behind_of n block)) ∙ go (asked_each schema (behind_of n block))
  where
    go : (a : Option Expression) → picked path n p (narrowed_before schema path n block p) (option_map (listed (behind_of n block)) a) ≡ option_map (put path p) (first_there (option_map (replacing n (listed (behind_of n block))) a) (before_replaced schema n block))
    go (Some q) = refl
    go None = before_is schema path n block p

pub narrowed_is : (schema : Schema) (path : List ℕ) (p : PlainProgram) → narrowed_at schema path p ≡ option_map (put path p) (replaced_for schema path p)
narrowed_is schema path p = go (outer_block_at path p)
  where
    go : (o : Option Statements) → found_in (λ (block : Statements). narrowed_in schema path (last_of path) block p) o ≡ option_map (put path p) (found_in (block_replaced schema (last_of path)) o)
    go None = refl
    go (Some block) = in_is schema path (last_of path) block p

-- ---- The text

abbrev pub its_patch : Replacement → TextPatch
its_patch r = r.patch

patched : (n : ℕ) (others : Expression → Statements) (a : Option Expression) → option_map patch_of a ≡ option_map its_patch (option_map (replacing n others) a)
patched n others None = refl
patched n others (Some q) = refl

patched_before : (schema : Schema) (n : ℕ) (block : Statements) → option_map patch_of (asked_before schema n block) ≡ option_map its_patch (before_replaced schema n block)
patched_before schema zero block = refl
patched_before schema (suc n) block = patched n (declared (behind_of n block)) (asked_pair schema (behind_of n block))

patched_in : (schema : Schema) (n : ℕ) (block : Statements) → option_map patch_of (asked_in schema n block) ≡ option_map its_patch (block_replaced schema n block)
patched_in schema n block = go (asked_each schema (behind_of n block))
  where
    go : (a : Option Expression) → option_map patch_of (first_there a (asked_before schema n block)) ≡ option_map its_patch (first_there (option_map (replacing n (listed (behind_of n block))) a) (before_replaced schema n block))
    go (Some q) = refl
    go None = patched_before schema n block

pub patch_is : (schema : Schema) (path : List ℕ) (p : PlainProgram) → option_map patch_of (asked_at schema path p) ≡ option_map its_patch (replaced_for schema path p)
patch_is schema path p = go (outer_block_at path p)
  where
    go : (o : Option Statements) → option_map patch_of (found_in (asked_in schema (last_of path)) o) ≡ option_map its_patch (found_in (block_replaced schema (last_of path)) o)
    go None = refl
    go (Some block) = patched_in schema (last_of path) block

-- ---- The first statement

first_is : (n : ℕ) (others : Expression → Statements) (a : Option Expression) (r : Replacement) → Some r ≡ option_map (replacing n others) a → r.first ≡ n
first_is n others None r e = absurd cc
first_is n others (Some q) r e = let f : r ≡ replacing n others q = cc in ap (λ (r : Replacement). r.first) f

first_before : (schema : Schema) (n : ℕ) (block : Statements) (r : Replacement) → Some r ≡ before_replaced schema n block → r.first ≤ n
first_before schema zero block r e = absurd cc
first_before schema (suc n) block r e =
    let f : r.first ≡ n = first_is n (declared (behind_of n block)) (asked_pair schema (behind_of n block)) r e in
    omega arith

first_in : (schema : Schema) (n : ℕ) (block : Statements) (r : Replacement) → Some r ≡ block_replaced schema n block → r.first ≤ n
first_in schema n block r e = go (asked_each schema (behind_of n block)) e
  where
    go : (a : Option Expression) → Some r ≡ first_there (option_map (replacing n (listed (behind_of n block))) a) (before_replaced schema n block) → r.first ≤ n
    go (Some q) e = let f : r.first ≡ n = first_is n (listed (behind_of n block)) (Some q) r e in omega arith
    go None e = first_before schema n block r e

pub first_within : (schema : Schema) (path : List ℕ) (p : PlainProgram) (r : Replacement) → Some r ≡ replaced_for schema path p → r.first ≤ last_of path
first_within schema path p r e = go (outer_block_at path p) e
  where
    go : (o : Option Statements) → Some r ≡ found_in (block_replaced schema (last_of path)) o → r.first ≤ last_of path
    go None e = absurd cc
    go (Some block) e = first_in schema (last_of path) block r e

-- ---- The query that is asked

pub asked_pair_is : (schema : Schema) (s : Statement) (p : Statements) (v : List ℕ) (value : Expression) → (o : Option Expression) → o ≡ asked_for schema v value p → (at : Span) (ty : Spelled) → s ≡ Declare at ty v value → o ≡ asked_pair schema (Then s p)
asked_pair_is schema s p v value o e at ty is = e ∙ go p ∙ ap (λ (s : Statement). asked_pair schema (Then s p)) (sym is)
  where
    go : (p : Statements) → asked_for schema v value p ≡ asked_pair schema (Then (Declare at ty v value) p)
    go (Then (ForEach at' ty' x e body) p) = refl
    go p = refl
