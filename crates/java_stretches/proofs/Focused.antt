-- The loop of a fragment, its run, and what comes in their place, through all blocks around.
use Rattle.std.proofs.Common.{◌≡◌, ℕ, zero, suc, ◌≤◌, ◌<◌, Bool, true, false, cond, List, [], ◌∷◌, Option, Some, None, refl, sym, ap, subst, ◌∙◌, arith}
use Rattle.std.specs.Prelude.{◌&&◌, slice_get}
use Rattle.std.proofs.lemmas.Bool.{and_parts}
use Rattle.java_ast.specs.Path.{found_in, numbered, branch_of, statement_in, statement_at, first_of, behind_of, with_range, with_branch, replaced_in, with_body, with_method, replaced_at, last_of}
use Rattle.java_ast.specs.Spans.{place_of}
use Rattle.java_ast.specs.Tree.{Statement, Declare, Assign, Add, Sort, If, IfElse, ForEach, While, Print, Return, Break, Statements, Nothing, Then, PlainMethod, PlainProgram}
use Rattle.java_grammar.proofs.Apart.{in_block}
use Rattle.java_stretches.specs.Stretch.{sibling}
use Rattle.java_stretches.proofs.Blocks.{down}
use Rattle.loop_text.specs.Statements.Fragment.{Fragment, is_simple, are_simple, run_of, before_run, fragment_of, fragment_where, fragment_here, fragment_in, fragment_at}
use Rattle.loop_text.specs.Statements.KeptStatements.{how_many, first_in, first_at}
use Rattle.loop_text.specs.Statements.Loops.{is_loop}
use Rattle.java_ast.specs.Names.{Names, with_names, declared_among, walking, names_of_params}
use Rattle.java_stretches.specs.Fit.{FitStatement, alone, if_alone, if_else, for_each, while, FitBlock, nothing, followed, FitMethods}
use Rattle.java_stretches.specs.Focus.{Chain, Focus}
use Rattle.java_stretches.proofs.Fitting.{wider, loosened, joined, Numbered, at_number, Branch, at_branch, branch_place, branch_simple}

-- ---- A run and its loop

no_loop : (s : Statement) → ((b : ℕ) → branch_of b s ≡ None) → is_loop s ≡ true → ⊥
no_loop (ForEach at ty x e body) none k = let f : Some body ≡ None = none 0 in absurd cc
no_loop (While at c body) none k = let f : Some body ≡ None = none 0 in absurd cc
no_loop (Declare at ty x e) none k = absurd cc
no_loop (Assign at x e) none k = absurd cc
no_loop (Add at x e) none k = absurd cc
no_loop (Sort at x keys downs) none k = absurd cc
no_loop (If at c body) none k = absurd cc
no_loop (IfElse at c body other) none k = absurd cc
no_loop (Print at e) none k = absurd cc
no_loop (Return at e) none k = absurd cc
no_loop (Break at) none k = absurd cc

not_simple : (s : Statement) → is_loop s ≡ true → is_simple s ≡ false
not_simple (ForEach at ty x e body) k = refl
not_simple (While at c body) k = refl
not_simple (Declare at ty x e) k = absurd cc
not_simple (Assign at x e) k = absurd cc
not_simple (Add at x e) k = refl
not_simple (Sort at x keys downs) k = absurd cc
not_simple (If at c body) k = refl
not_simple (IfElse at c body other) k = refl
not_simple (Print at e) k = refl
not_simple (Return at e) k = refl
not_simple (Break at) k = refl

loop_bounds : {lo hi : ℕ} {t s : Statement} → FitStatement lo hi t s → is_loop s ≡ true → (lo ≤ (place_of s).start) × ((place_of s).start < (place_of s).end) × ((place_of s).end ≤ hi)
loop_bounds (alone {s} from to n m e) k = absurd (no_loop s m k)
loop_bounds (if_alone from h) k = absurd cc
loop_bounds (if_else from h l) k = absurd cc
loop_bounds (for_each from grows to h) k = (from, grows, to)
loop_bounds (while from grows to h) k = (from, grows, to)

simple_bounds : {lo hi : ℕ} {t s : Statement} → FitStatement lo hi t s → is_simple s ≡ true → (lo ≤ (place_of s).start) × ((place_of s).start ≤ hi)
simple_bounds (alone from to n m e) k = (from, to)
simple_bounds (if_alone from h) k = absurd cc
simple_bounds (if_else from h l) k = absurd cc
simple_bounds (for_each from grows to h) k = absurd cc
simple_bounds (while from grows to h) k = absurd cc

chain_from : (q lo hi : ℕ) (block : Statements) → q ≤ lo → Chain lo hi block → Chain q hi block
chain_from q lo hi Nothing less h = omega (arith, less, h)
chain_from q lo hi (Then s ss) less h = (omega (arith, less, h.0), h.1, h.2)

-- from behind the first statement of a run up to its loop
record Walked (lo hi : ℕ) (ts ss : Statements) (n : ℕ) (loop : Statement) : Type 0 where
  loop' : Statement
  there : numbered n ts ≡ Some loop'
  ends : (place_of loop').end ≡ (place_of loop).end
  grows : (place_of loop).start < (place_of loop).end
  lined : (place_of loop).line ≡ 0 → ⊥
  chain : Chain lo (place_of loop).start (first_of n ss)
  rest : FitBlock (place_of loop).end hi false (behind_of (suc n) ts) (behind_of (suc n) ss)

walk : {lo hi : ℕ} {behind : Bool} {ts ss : Statements} → FitBlock lo hi behind ts ss → (n : ℕ) (loop : Statement) → numbered n ss ≡ Some loop → is_loop loop ≡ true → are_simple (first_of n ss) ≡ true → Walked lo hi ts ss n loop
walk (nothing h) n loop e k simple = absurd cc
walk {lo} {hi} (followed {m} {t} {s} {ts} {ss} p h r) zero loop e k simple =
    let is : s ≡ loop = cc in
    let is_one : is_loop s ≡ true = ap is_loop is ∙ k in
    let b = loop_bounds h is_one in
    subst (Walked lo hi (Then t ts) (Then s ss) zero) is
    (record {
      loop' = t;
      there = refl;
      ends = p.ends (not_simple s is_one);
      grows = b.1;
      lined = p.lined;
      chain = b.0;
      rest = wider (place_of s).end hi b.2 (omega arith) (subst (λ (v : Bool). FitBlock m hi v ts ss) (not_simple s is_one) r);
    })
walk {lo} {hi} (followed {m} {t} {s} {ts} {ss} p h r) (suc n) loop e k simple =
    let two = and_parts (is_simple s) (are_simple (first_of n ss)) simple in
    let w : Walked m hi ts ss n loop = walk r n loop e k two.1 in
    let b = simple_bounds h two.0 in
    record {
      loop' = w.loop';
      there = w.there;
      ends = w.ends;
      grows = w.grows;
      lined = w.lined;
      chain = (b.0, p.lined, chain_from (place_of s).start m (place_of loop).start (first_of n ss) b.1 w.chain);
      rest = w.rest;
    }

and_false : (a b : Bool) → (a && b) ≡ false → a ≡ true → b ≡ false
and_false true b e h = e
and_false false b e h = absurd cc

is_false : (v : Bool) → (v ≡ true → ⊥) → v ≡ false
is_false true h = absurd (h refl)
is_false false h = refl

abbrev Inner : ℕ → ℕ → Bool → Statements → Statements → ℕ → ℕ → Statement → Statements → Type 0
Inner lo hi behind ts ss n first loop run =
    Focus (λ one. numbered first ss ≡ Some one) (λ one. numbered first ts ≡ Some one) (λ other. numbered n ts ≡ Some other) run loop
    (λ others' others. FitBlock lo hi behind (with_range first n others' ts) (with_range first n others ss))

-- the longest run before a loop begins behind a statement that no run may have, or is first in its block
inner : {lo hi : ℕ} {behind : Bool} {ts ss : Statements} → FitBlock lo hi behind ts ss → (n : ℕ) (loop : Statement) → numbered n ss ≡ Some loop → is_loop loop ≡ true
    → (behind ≡ true → are_simple (first_of n ss) ≡ false) → how_many (before_run (first_of n ss)) < n
    → Inner lo hi behind ts ss n (how_many (before_run (first_of n ss))) loop (run_of (first_of n ss))
inner (nothing h) n loop e k top less = absurd cc
inner (followed p h r) zero loop e k top less = absurd (omega (arith, less))
inner {lo} {hi} {behind} (followed {m} {t} {s} {ts} {ss} p h r) (suc n) loop e k top less = by (are_simple (Then s (first_of n ss))) refl less (λ on few. inner r n loop e k on few)
  where
    by : (c : Bool) → are_simple (Then s (first_of n ss)) ≡ c → how_many (cond c Nothing (Then s (before_run (first_of n ss)))) < suc n
        → ((is_simple s ≡ true → are_simple (first_of n ss) ≡ false) → how_many (before_run (first_of n ss)) < n → Inner m hi (is_simple s) ts ss n (how_many (before_run (first_of n ss))) loop (run_of (first_of n ss)))
        → Inner lo hi behind (Then t ts) (Then s ss) (suc n) (how_many (cond c Nothing (Then s (before_run (first_of n ss))))) loop (cond c (Then s (first_of n ss)) (run_of (first_of n ss)))
    by true simple few again =
        let two = and_parts (is_simple s) (are_simple (first_of n ss)) simple in
        let w : Walked m hi ts ss n loop = walk r n loop e k two.1 in
        let b = simple_bounds h two.0 in
        let outside : behind ≡ false = is_false behind (λ v. let f : true ≡ false = sym simple ∙ top v in absurd cc) in
        record {
          loop' = w.loop';
          one = s;
          one' = t;
          to_loop = w.there;
          to_one = refl;
          to_other = refl;
          ends = w.ends;
          grows = w.grows;
          same = p.starts outside;
          lined = p.lined;
          loop_lined = w.lined;
          chain = (omega arith, p.lined, chain_from (place_of s).start m (place_of loop).start (first_of n ss) b.1 w.chain);
          replaced = λ others' others fit. loosened behind (joined (wider lo (place_of loop).end b.0 (omega arith) fit) w.rest);
        }
    by false other few again =
        let i : Inner m hi (is_simple s) ts ss n (how_many (before_run (first_of n ss))) loop (run_of (first_of n ss)) = again (and_false (is_simple s) (are_simple (first_of n ss)) other) (omega (arith, few)) in
        record {
          loop' = i.loop';
          one = i.one;
          one' = i.one';
          to_loop = i.to_loop;
          to_one = i.to_one;
          to_other = i.to_other;
          ends = i.ends;
          grows = i.grows;
          same = i.same;
          lined = i.lined;
          loop_lined = i.loop_lined;
          chain = i.chain;
          replaced = λ others' others fit. followed p h (i.replaced others' others fit);
        }

-- ---- Through blocks

abbrev Within : ℕ → ℕ → Statements → Statements → List ℕ → ℕ → ℕ → Fragment → Type 0
Within lo hi ts ss path n first f =
    Focus (λ one. in_block ss (sibling (n ∷ path) first) ≡ Some one) (λ one. in_block ts (sibling (n ∷ path) first) ≡ Some one) (λ other. statement_in path n ts ≡ Some other) f.run f.loop
    (λ others' others. FitBlock lo hi false (replaced_in path n first others' ts) (replaced_in path n first others ss))

at_behind : (n : ℕ) (ss : Statements) (s : Statement) (rest : Statements) → behind_of n ss ≡ Then s rest → numbered n ss ≡ Some s
at_behind zero Nothing s rest e = absurd cc
at_behind zero (Then r ss) s rest e = let is : r ≡ s = cc in ap Some is
at_behind (suc n) Nothing s rest e = absurd cc
at_behind (suc n) (Then r ss) s rest e = at_behind n ss s rest e

in_one : {lo hi : ℕ} {ts ss : Statements} → FitBlock lo hi false ts ss → (names : Names) (n : ℕ) (f : Fragment) → fragment_here names (first_of n ss) (behind_of n ss) ≡ Some f
    → how_many (before_run (first_of n ss)) < n → Within lo hi ts ss [] n (how_many (before_run (first_of n ss))) f
in_one {lo} {hi} {ts} {ss} fit names n f e less = by (behind_of n ss) refl e
  where
    by_loop : (s : Statement) (rest : Statements) (c : Bool) → is_loop s ≡ c → numbered n ss ≡ Some s → fragment_where c (fragment_of names (first_of n ss) s rest) ≡ Some f → Within lo hi ts ss [] n (how_many (before_run (first_of n ss))) f
    by_loop s rest true k there h =
        let is : fragment_of names (first_of n ss) s rest ≡ f = cc in
        subst (λ (g : Fragment). Within lo hi ts ss [] n (how_many (before_run (first_of n ss))) g) is
        (inner fit n s there k (λ v. absurd cc) less)
    by_loop s rest false k there h = absurd cc

    by : (rest : Statements) → behind_of n ss ≡ rest → fragment_here names (first_of n ss) rest ≡ Some f → Within lo hi ts ss [] n (how_many (before_run (first_of n ss))) f
    by Nothing is h = absurd cc
    by (Then s rest) is h = by_loop s rest (is_loop s) refl (at_behind n ss s rest is) h

in_blocks : {lo hi : ℕ} {ts ss : Statements} → FitBlock lo hi false ts ss → (names : Names) (path : List ℕ) (n : ℕ) (f : Fragment) → fragment_in names path n ss ≡ Some f
    → (first : ℕ) → first_in path n ss ≡ Some first → first < last_of (n ∷ path) → Within lo hi ts ss path n first f
in_blocks {lo} {hi} {ts} {ss} fit names [] n f h first e less =
    let is : how_many (before_run (first_of n ss)) ≡ first = cc in
    subst (λ (k : ℕ). Within lo hi ts ss [] n k f) is (in_one fit names n f h (subst (λ (k : ℕ). k < n) (sym is) less))
in_blocks fit names (b ∷ []) n f h first e less = absurd cc
in_blocks {lo} {hi} {ts} {ss} fit names (b ∷ m ∷ path) n f h first e less = by (λ low high us body g seen is k. in_blocks g seen path m f is first k less) (numbered n ss) refl h e
  where
    by_branch : ((low high : ℕ) (us body : Statements) → FitBlock low high false us body → (seen : Names) → fragment_in seen path m body ≡ Some f → first_in path m body ≡ Some first → Within low high us body path m first f)
        → (s : Statement) → numbered n ss ≡ Some s → (o : Option Statements) → branch_of b s ≡ o → found_in (fragment_in (with_names (with_names names (declared_among (first_of n ss))) (walking s)) path m) o ≡ Some f → found_in (first_in path m) o ≡ Some first → Within lo hi ts ss (b ∷ m ∷ path) n first f
    by_branch again s there None is g k = absurd cc
    by_branch again s there (Some body) is g k =
        let a : Numbered lo hi false ts ss n s = at_number fit n s there in
        let c : Branch a.low a.high a.t s b body = at_branch a.fits b body is in
        let i : Within c.low c.high c.ts body path m first f = again c.low c.high c.ts body c.fits (with_names (with_names names (declared_among (first_of n ss))) (walking s)) g k in
        record {
          loop' = i.loop';
          one = i.one;
          one' = i.one';
          to_loop = ap (found_in (λ (r : Statement). found_in (statement_in path m) (branch_of b r))) a.there ∙ (ap (found_in (statement_in path m)) c.there ∙ i.to_loop);
          to_one =
              down first b m n path ss
              ∙ (ap (found_in (λ (r : Statement). found_in (λ (ys : Statements). in_block ys (sibling (m ∷ path) first)) (branch_of b r))) there ∙ (ap (found_in (λ (ys : Statements). in_block ys (sibling (m ∷ path) first))) is ∙ i.to_one));
          to_other =
              down first b m n path ts
              ∙ (ap (found_in (λ (r : Statement). found_in (λ (ys : Statements). in_block ys (sibling (m ∷ path) first)) (branch_of b r))) a.there ∙ (ap (found_in (λ (ys : Statements). in_block ys (sibling (m ∷ path) first))) c.there ∙ i.to_other));
          ends = i.ends;
          grows = i.grows;
          same = i.same;
          lined = i.lined;
          loop_lined = i.loop_lined;
          chain = i.chain;
          replaced = λ others' others given.
              a.put (with_branch b (replaced_in path m first others')) (with_branch b (replaced_in path m first others))
              (c.put (replaced_in path m first others') (replaced_in path m first others) (i.replaced others' others given))
              (branch_place b (replaced_in path m first others') a.t) (branch_place b (replaced_in path m first others) s) (branch_simple b (replaced_in path m first others) s);
        }

    by : ((low high : ℕ) (us body : Statements) → FitBlock low high false us body → (seen : Names) → fragment_in seen path m body ≡ Some f → first_in path m body ≡ Some first → Within low high us body path m first f)
        → (o : Option Statement) → numbered n ss ≡ o → found_in (λ s. found_in (fragment_in (with_names (with_names names (declared_among (first_of n ss))) (walking s)) path m) (branch_of b s)) o ≡ Some f → found_in (λ s. found_in (first_in path m) (branch_of b s)) o ≡ Some first → Within lo hi ts ss (b ∷ m ∷ path) n first f
    by again None there g k = absurd cc
    by again (Some s) there g k = by_branch again s there (branch_of b s) refl g k

-- ---- In a program

abbrev changed : List ℕ → ℕ → ℕ → Statements → PlainMethod → PlainMethod
changed path n first others m = with_body m (replaced_in path n first others m.body)

module _ (path : List ℕ) (n first : ℕ) (f : Fragment) (less : first < last_of (n ∷ path)) where
  in_methods : (lo : ℕ) (ks ms : List PlainMethod) → FitMethods lo ks ms → (i : ℕ)
      → found_in (λ (m : PlainMethod). fragment_in (names_of_params m.params) path n m.body) (slice_get ms i) ≡ Some f
      → found_in (λ (m : PlainMethod). first_in path n m.body) (slice_get ms i) ≡ Some first
      → Focus (λ one. found_in (λ (m : PlainMethod). in_block m.body (sibling (n ∷ path) first)) (slice_get ms i) ≡ Some one)
      (λ one. found_in (λ (m : PlainMethod). in_block m.body (sibling (n ∷ path) first)) (slice_get ks i) ≡ Some one)
      (λ other. found_in (λ (m : PlainMethod). statement_in path n m.body) (slice_get ks i) ≡ Some other) f.run f.loop
      (λ others' others. FitMethods lo (with_method i (changed path n first others') ks) (with_method i (changed path n first others) ms))
  in_methods lo [] [] fit i h e = absurd cc
  in_methods lo [] (m ∷ ms) fit i h e = absurd fit
  in_methods lo (k ∷ ks) [] fit i h e = absurd fit
  in_methods lo (k ∷ ks) (m ∷ ms) fit zero h e =
      let i : Within lo fit.0 k.body m.body path n first f = in_blocks fit.1 (names_of_params m.params) path n f h first e less in
      record {
        loop' = i.loop';
        one = i.one;
        one' = i.one';
        to_loop = i.to_loop;
        to_one = i.to_one;
        to_other = i.to_other;
        ends = i.ends;
        grows = i.grows;
        same = i.same;
        lined = i.lined;
        loop_lined = i.loop_lined;
        chain = i.chain;
        replaced = λ others' others given. (fit.0, i.replaced others' others given, fit.2);
      }
  in_methods lo (k ∷ ks) (m ∷ ms) fit (suc j) h e =
      let i = in_methods fit.0 ks ms fit.2 j h e in
      record {
        loop' = i.loop';
        one = i.one;
        one' = i.one';
        to_loop = i.to_loop;
        to_one = i.to_one;
        to_other = i.to_other;
        ends = i.ends;
        grows = i.grows;
        same = i.same;
        lined = i.lined;
        loop_lined = i.loop_lined;
        chain = i.chain;
        replaced = λ others' others given. (fit.0, fit.1, i.replaced others' others given);
      }

sibling_is : (first m n : ℕ) (path : List ℕ) (p : PlainProgram) → statement_at (sibling (m ∷ n ∷ path) first) p ≡ found_in (λ (method : PlainMethod). in_block method.body (sibling (n ∷ path) first)) (slice_get p.methods m)
sibling_is first m n [] p = refl
sibling_is first m n (b ∷ path) p = refl

-- A loop that a path leads to, with its run, in a program, and in one whose statements stand for those of the program.
pub focus : (lo : ℕ) (q p : PlainProgram) → FitMethods lo q.methods p.methods → (path : List ℕ) (f : Fragment) (first : ℕ) → fragment_at path p ≡ Some f → first_at path p ≡ Some first → first < last_of path
    → Focus (λ one. statement_at (sibling path first) p ≡ Some one) (λ one. statement_at (sibling path first) q ≡ Some one) (λ other. statement_at path q ≡ Some other) f.run f.loop
    (λ others' others. FitMethods lo (replaced_at path first others' q).methods (replaced_at path first others p).methods)
focus lo q p fit [] f first h e less = absurd cc
focus lo q p fit (i ∷ []) f first h e less = absurd cc
focus lo q p fit (i ∷ n ∷ path) f first h e less =
    let r = in_methods path n first f less lo q.methods p.methods fit i h e in
    record {
      loop' = r.loop';
      one = r.one;
      one' = r.one';
      to_loop = r.to_loop;
      to_one = sibling_is first i n path p ∙ r.to_one;
      to_other = sibling_is first i n path q ∙ r.to_other;
      ends = r.ends;
      grows = r.grows;
      same = r.same;
      lined = r.lined;
      loop_lined = r.loop_lined;
      chain = r.chain;
      replaced = r.replaced;
    }
