-- The places of a program's loops, in text order. Where statements without loops come in place of others, a stretch of them is left out.
use Rattle.std.proofs.Common.{◌≡◌, ℕ, zero, suc, ◌==◌, ◌≤◌, Bool, true, false, List, [], ◌∷◌, ◌++◌, map, refl, sym, ap, ap₂, ◌∙◌, subst, arith, append_assoc, append-nil}
use Rattle.std.specs.Prelude.{if◌then◌else◌}
use Rattle.std.specs.List.{AllByRecursion}
use Rattle.std.proofs.lemmas.Bool.Decides.{nat_tests}
use Rattle.std.proofs.lemmas.List.{map-append}
use Rattle.qbs_base.specs.declared.span.Span.{Span}
use Rattle.java_lex.specs.Spans.{SamePlace}
use Rattle.java_ast.specs.Path.{and_then, first_of, behind_of, with_numbered, with_branch, replaced_in, replaced_at, with_body, with_method, last_of}
use Rattle.java_ast.specs.Tree as tree
use Rattle.java_ast.specs.Tree.{Statement, Statements, Nothing, Then, PlainMethod, PlainProgram}
use Rattle.loop_lists.proofs.LoopSites.{Site, sites_in, sites_among, sites_of_methods, sites_of}

abbrev mutual
  pub places_in : Statement → List Span
  places_in (tree.Declare at ty x e) = []
  places_in (tree.Assign at x e) = []
  places_in (tree.Add at x e) = []
  places_in (tree.Sort at x keys downs) = []
  places_in (tree.If at c a) = places_among a
  places_in (tree.IfElse at c a b) = places_among a ++ places_among b
  places_in (tree.ForEach at ty x e b) = at ∷ places_among b
  places_in (tree.While at c b) = at ∷ places_among b
  places_in (tree.Print at e) = []
  places_in (tree.Return at e) = []
  places_in (tree.Break at) = []

  pub places_among : Statements → List Span
  places_among Nothing = []
  places_among (Then s ss) = places_in s ++ places_among ss

abbrev pub places_of_methods : List PlainMethod → List Span
places_of_methods [] = []
places_of_methods (m ∷ ms) = places_among m.body ++ places_of_methods ms

abbrev pub places_of : PlainProgram → List Span
places_of p = places_of_methods p.methods

-- ---- Those of sites

abbrev pub places_at : List Site → List Span
places_at ss = map (λ (s : Site). s.at) ss

both_places : (xs ys : List Site) (vs ws : List Span) → places_at xs ≡ vs → places_at ys ≡ ws → places_at (xs ++ ys) ≡ vs ++ ws
both_places xs ys vs ws e h = map-append (λ (s : Site). s.at) xs ys ∙ ap₂ (λ cs ds. cs ++ ds) e h

mutual
  sited_in : (s : Statement) (path : List ℕ) → places_at (sites_in path s) ≡ places_in s
  sited_in (tree.Declare at ty x e) path = refl
  sited_in (tree.Assign at x e) path = refl
  sited_in (tree.Add at x e) path = refl
  sited_in (tree.Sort at x keys downs) path = refl
  sited_in (tree.If at c a) path = sited_among a (path ++ 0 ∷ []) 0
  sited_in (tree.IfElse at c a b) path =
      both_places (sites_among (path ++ 0 ∷ []) 0 a) (sites_among (path ++ 1 ∷ []) 0 b) (places_among a) (places_among b) (sited_among a (path ++ 0 ∷ []) 0) (sited_among b (path ++ 1 ∷ []) 0)
  sited_in (tree.ForEach at ty x e b) path = ap (λ ps. at ∷ ps) (sited_among b (path ++ 0 ∷ []) 0)
  sited_in (tree.While at c b) path = ap (λ ps. at ∷ ps) (sited_among b (path ++ 0 ∷ []) 0)
  sited_in (tree.Print at e) path = refl
  sited_in (tree.Return at e) path = refl
  sited_in (tree.Break at) path = refl

  sited_among : (ss : Statements) (path : List ℕ) (n : ℕ) → places_at (sites_among path n ss) ≡ places_among ss
  sited_among Nothing path n = refl
  sited_among (Then s ss) path n =
      both_places (sites_in (path ++ n ∷ []) s) (sites_among path (suc n) ss) (places_in s) (places_among ss) (sited_in s (path ++ n ∷ [])) (sited_among ss path (suc n))

sited_of_methods : (ms : List PlainMethod) (n : ℕ) → places_at (sites_of_methods n ms) ≡ places_of_methods ms
sited_of_methods [] n = refl
sited_of_methods (m ∷ ms) n =
    both_places (sites_among (n ∷ []) 0 m.body) (sites_of_methods (suc n) ms) (places_among m.body) (places_of_methods ms) (sited_among m.body (n ∷ []) 0) (sited_of_methods ms (suc n))

pub sited : (p : PlainProgram) → places_at (sites_of p) ≡ places_of p
sited p = sited_of_methods p.methods 0

-- ---- Lists of places

-- no other stands there
abbrev pub StandsAlone : Span → List Span → Type 0
StandsAlone x ys = AllByRecursion (λ (y : Span). SamePlace x y → ⊥) ys

-- no two are the same
abbrev pub AreApart : List Span → Type 0
AreApart [] = Unit {0}
AreApart (x ∷ xs) = StandsAlone x xs × AreApart xs

-- the first list is the second with a stretch left out
pub record LeftOut (new old : List Span) : Type 0 where
  pub front : List Span
  pub left : List Span
  pub back : List Span
  pub was : old ≡ front ++ (left ++ back)
  pub is : new ≡ front ++ back

nothing_out : (xs : List Span) → LeftOut xs xs
nothing_out xs = record { front = xs; left = []; back = []; was = sym (append-nil xs); is = sym (append-nil xs) }

behind_others : (zs new old : List Span) → LeftOut new old → LeftOut (zs ++ new) (zs ++ old)
behind_others zs new old h =
    record {
      front = zs ++ h.front;
      left = h.left;
      back = h.back;
      was = ap (λ xs. zs ++ xs) h.was ∙ sym (append_assoc zs h.front (h.left ++ h.back));
      is = ap (λ xs. zs ++ xs) h.is ∙ sym (append_assoc zs h.front h.back);
    }

before_others : (zs new old : List Span) → LeftOut new old → LeftOut (new ++ zs) (old ++ zs)
before_others zs new old h =
    record {
      front = h.front;
      left = h.left;
      back = h.back ++ zs;
      was = ap (λ xs. xs ++ zs) h.was ∙ append_assoc h.front (h.left ++ h.back) zs ∙ ap (λ xs. h.front ++ xs) (append_assoc h.left h.back zs);
      is = ap (λ xs. xs ++ zs) h.is ∙ append_assoc h.front h.back zs;
    }

alone_still : (x : Span) (front left back : List Span) → StandsAlone x (front ++ (left ++ back)) → StandsAlone x (front ++ back)
alone_still x [] [] back h = h
alone_still x [] (l ∷ ls) back h = alone_still x [] ls back h.1
alone_still x (f ∷ fs) left back h = (h.0, alone_still x fs left back h.1)

apart_still : (front left back : List Span) → AreApart (front ++ (left ++ back)) → AreApart (front ++ back)
apart_still [] [] back h = h
apart_still [] (l ∷ ls) back h = apart_still [] ls back h.1
apart_still (f ∷ fs) left back h = (alone_still f fs left back h.0, apart_still fs left back h.1)

-- what is left stands apart as well
pub rest_apart : (new old : List Span) → LeftOut new old → AreApart old → AreApart new
rest_apart new old h a = subst AreApart (sym h.is) (apart_still h.front h.left h.back (subst AreApart h.was a))

-- ---- Other statements in place of some

pub joined_places : (p q : Statements) → places_among (and_then p q) ≡ places_among p ++ places_among q
joined_places Nothing q = refl
joined_places (Then s p) q = ap (λ xs. places_in s ++ xs) (joined_places p q) ∙ sym (append_assoc (places_in s) (places_among p) (places_among q))

-- the places behind so many statements are the last ones
last_ones : (n : ℕ) (block : Statements) → (left : List Span) × (places_among block ≡ left ++ places_among (behind_of n block))
last_ones zero block = ([], refl)
last_ones (suc n) Nothing = ([], refl)
last_ones (suc n) (Then s ss) =
    let h = last_ones n ss in
    (places_in s ++ h.0, ap (λ xs. places_in s ++ xs) h.1 ∙ sym (append_assoc (places_in s) h.0 (places_among (behind_of n ss))))

module _ (others : Statements) (none : places_among others ≡ []) where
  range_out : (first n : ℕ) (block : Statements) → first ≤ n → LeftOut (places_among (and_then (first_of first block) (and_then others (behind_of n block)))) (places_among block)
  range_out zero n block few =
      let h = last_ones n block in
      record {
        front = [];
        left = h.0;
        back = places_among (behind_of n block);
        was = h.1;
        is = joined_places others (behind_of n block) ∙ ap (λ xs. xs ++ places_among (behind_of n block)) none;
      }
  range_out (suc first) zero block few = absurd (omega arith)
  range_out (suc first) (suc n) Nothing few = record { front = []; left = []; back = []; was = refl; is = joined_places others Nothing ∙ ap (λ xs. xs ++ []) none }
  range_out (suc first) (suc n) (Then s ss) few =
      behind_others (places_in s) (places_among (and_then (first_of first ss) (and_then others (behind_of n ss)))) (places_among ss) (range_out first n ss (omega arith))

  module _ (change : Statement → Statement) (each : (s : Statement) → LeftOut (places_in (change s)) (places_in s)) where
    numbered_out : (n : ℕ) (block : Statements) → LeftOut (places_among (with_numbered n change block)) (places_among block)
    numbered_out n Nothing = nothing_out []
    numbered_out zero (Then s ss) = before_others (places_among ss) (places_in (change s)) (places_in s) (each s)
    numbered_out (suc n) (Then s ss) = behind_others (places_in s) (places_among (with_numbered n change ss)) (places_among ss) (numbered_out n ss)

  module _ (change : Statements → Statements) (each : (block : Statements) → LeftOut (places_among (change block)) (places_among block)) where
    where_so : (c : Bool) (block : Statements) → LeftOut (places_among (if c then change block else block)) (places_among block)
    where_so true block = each block
    where_so false block = nothing_out (places_among block)

    branch_out : (b : ℕ) (s : Statement) → LeftOut (places_in (with_branch b change s)) (places_in s)
    branch_out b (tree.If at c first) = where_so (b == 0) first
    branch_out zero (tree.IfElse at c first other) = before_others (places_among other) (places_among (change first)) (places_among first) (each first)
    branch_out (suc b) (tree.IfElse at c first other) =
        let never : (suc b == 0) ≡ false = grind (arith, nat_tests) in
        subst (λ (k : Bool). LeftOut (places_among (if k then change first else first) ++ places_among (if suc b == 1 then change other else other)) (places_among first ++ places_among other)) (sym never)
        (behind_others (places_among first) (places_among (if suc b == 1 then change other else other)) (places_among other) (where_so (suc b == 1) other))
    branch_out b (tree.ForEach at ty x e body) = behind_others (at ∷ []) (places_among (if b == 0 then change body else body)) (places_among body) (where_so (b == 0) body)
    branch_out b (tree.While at c body) = behind_others (at ∷ []) (places_among (if b == 0 then change body else body)) (places_among body) (where_so (b == 0) body)
    branch_out b (tree.Declare at ty x e) = nothing_out []
    branch_out b (tree.Assign at x e) = nothing_out []
    branch_out b (tree.Add at x e) = nothing_out []
    branch_out b (tree.Sort at x keys downs) = nothing_out []
    branch_out b (tree.Print at e) = nothing_out []
    branch_out b (tree.Return at e) = nothing_out []
    branch_out b (tree.Break at) = nothing_out []

  block_out : (path : List ℕ) (n first : ℕ) (block : Statements) → first ≤ last_of (n ∷ path) → LeftOut (places_among (replaced_in path n first others block)) (places_among block)
  block_out [] n first block few = range_out first (suc n) block (omega arith)
  block_out (b ∷ []) n first block few = nothing_out (places_among block)
  block_out (b ∷ m ∷ path) n first block few =
      numbered_out (with_branch b (replaced_in path m first others)) (branch_out (replaced_in path m first others) (λ inner. block_out path m first inner few) b) n block

  methods_out : (n first : ℕ) (path : List ℕ) (m : ℕ) (ms : List PlainMethod) → first ≤ last_of (n ∷ path)
      → LeftOut (places_of_methods (with_method m (λ method. with_body method (replaced_in path n first others method.body)) ms)) (places_of_methods ms)
  methods_out n first path m [] few = nothing_out []
  methods_out n first path zero (k ∷ ms) few = before_others (places_of_methods ms) (places_among (replaced_in path n first others k.body)) (places_among k.body) (block_out path n first k.body few)
  methods_out n first path (suc m) (k ∷ ms) few =
      behind_others (places_among k.body) (places_of_methods (with_method m (λ method. with_body method (replaced_in path n first others method.body)) ms)) (places_of_methods ms) (methods_out n first path m ms few)

  -- Where others without loops come in place of statements, a stretch of the places is left out.
  pub stretch_out : (path : List ℕ) (first : ℕ) (p : PlainProgram) → first ≤ last_of path → LeftOut (places_of (replaced_at path first others p)) (places_of p)
  stretch_out [] first p few = nothing_out (places_of p)
  stretch_out (m ∷ []) first p few = nothing_out (places_of p)
  stretch_out (m ∷ n ∷ path) first p few = methods_out n first path m p.methods few
