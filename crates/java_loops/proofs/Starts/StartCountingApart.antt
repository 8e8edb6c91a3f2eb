-- The names of a loop that counts: the counter isn't the list, and what doesn't mention a visible variable doesn't set it.
use Rattle.std.proofs.Common.{◌≡◌, ℕ, Bool, true, false, not, ◌||◌, List, [], ◌∷◌, ◌++◌, Option, Some, None, refl, sym, ap, ◌∙◌}
use Rattle.std.specs.Prelude.{bytes_eq}
use Rattle.std.proofs.lemmas.Bool.{or_parts}
use Rattle.std.proofs.lemmas.List.Folds.{list_any-append}
use Rattle.qbs_base.specs.declared.scalar.Ty.TheVariants as tys
use Rattle.java_ast.specs.Tree as tree
use Rattle.java_ast.specs.Tree.{Spelled, Expression, Statement, Statements, Nothing, Then}
use Rattle.java_mean.specs.declared.types.JavaType.{JavaType}
use Rattle.java_mean.specs.declared.types.JavaType.TheVariants.{Of}
use Rattle.java_mean.specs.declared.types.Single.{Single}
use Rattle.java_mean.specs.declared.types.Single.TheVariants.{ScalarOf}
use Rattle.java_mean.specs.Types.{Types, with_type}
use Rattle.java_mean.specs.Typing.{Frame, Has, listed, distinct, TypedStatement, declare, assign, add, sort, when, choose, for_each, for_each_new, while_true, print, return_none, return_value, leave, TypedStatements, done as nothing, next}
use Rattle.java_mean.proofs.Alike.{extends_new}
use Rattle.java_mean.proofs.Puts.{names_equal, name_same}
use Rattle.java_mean.proofs.TypedRuns.{extends_statement}
use Rattle.java_mean.specs.Mentions.{EachReturned}
use Rattle.java_loops.specs.Walks.Reads.{other_than, Reads, Within, AllWithin, touches, all_touch}
use Rattle.java_ast.specs.Names.{Names, is_among, names_in, names_of_returned, mentioned_in, mentioned_among}
use Rattle.java_loops.proofs.Walks.Named.{reads_named}
use Rattle.java_loops.proofs.Starts.StartCounting.{AreCounted}

-- ---- What isn't mentioned

pub either_part : (xs ys : Names) (x : List ℕ) → is_among (xs ++ ys) x ≡ false → (is_among xs x ≡ false) × (is_among ys x ≡ false)
either_part xs ys x h = or_parts (is_among xs x) (is_among ys x) (sym (list_any-append (bytes_eq x) xs ys) ∙ h)

other_step : (names : Names) (i x : List ℕ) (t : Bool) → bytes_eq i x ≡ t → is_among names i ≡ false → is_among names x ≡ true → not t ≡ true
other_step names i x true e n h = let same : is_among names i ≡ is_among names x = ap (is_among names) (names_equal i x e) in absurd cc
other_step names i x false e n h = refl

-- what isn't among names is another than each of them
other_named : (names : Names) (i x : List ℕ) → is_among names i ≡ false → is_among names x ≡ true → other_than i x ≡ true
other_named names i x n h = other_step names i x (bytes_eq i x) refl n h

reads_other : (e : Expression) (i : List ℕ) → is_among (names_in e) i ≡ false → Reads (other_than i) e
reads_other e i h = reads_named e (other_than i) (λ x k. other_named (names_in e) i x h k)

first_other : (x i : List ℕ) (names : Names) → is_among (x ∷ names) i ≡ false → (other_than i x ≡ true) × (is_among names i ≡ false)
first_other x i names h = let two = or_parts (bytes_eq i x) (is_among names i) h in (ap not two.0, two.1)

returns_other : (o : Option Expression) (i : List ℕ) → is_among (names_of_returned o) i ≡ false → EachReturned (λ x. other_than i x ≡ true) o
returns_other None i h = tt
returns_other (Some e) i h = reads_other e i h

-- statements that don't mention a name mention others only
mutual
  within_other : (a : Statement) (i : List ℕ) → is_among (mentioned_in a) i ≡ false → Within (other_than i) a
  within_other (tree.Declare at ty x e) i h = reads_other e i h
  within_other (tree.Assign at x e) i h = let two = first_other x i (names_in e) h in (two.0, reads_other e i two.1)
  within_other (tree.Add at x e) i h = let two = first_other x i (names_in e) h in (two.0, reads_other e i two.1)
  within_other (tree.Sort at x keys downs) i h = (first_other x i [] h).0
  within_other (tree.If at c p) i h = let two = either_part (names_in c) (mentioned_among p) i h in (reads_other c i two.0, all_within_other p i two.1)
  within_other (tree.IfElse at c p q) i h =
      let two = either_part (names_in c) (mentioned_among p ++ mentioned_among q) i h in
      let more = either_part (mentioned_among p) (mentioned_among q) i two.1 in
      (reads_other c i two.0, (all_within_other p i more.0, all_within_other q i more.1))
  within_other (tree.ForEach at ty x e p) i h = let two = either_part (names_in e) (mentioned_among p) i h in (reads_other e i two.0, all_within_other p i two.1)
  within_other (tree.While at c p) i h = let two = either_part (names_in c) (mentioned_among p) i h in (reads_other c i two.0, all_within_other p i two.1)
  within_other (tree.Print at e) i h = reads_other e i h
  within_other (tree.Return at o) i h = returns_other o i h
  within_other (tree.Break at) i h = tt

  pub all_within_other : (p : Statements) (i : List ℕ) → is_among (mentioned_among p) i ≡ false → AllWithin (other_than i) p
  all_within_other Nothing i h = tt
  all_within_other (Then a p) i h = let two = either_part (mentioned_in a) (mentioned_among p) i h in (within_other a i two.0, all_within_other p i two.1)

-- ---- What isn't set

new_apart : (g : Types) (x i : List ℕ) (k : JavaType) (t : Bool) → bytes_eq x i ≡ t → g x ≡ None → g i ≡ Some k → t ≡ false
new_apart g x i k true e n h = let same : g x ≡ g i = ap g (names_equal x i e) in absurd cc
new_apart g x i k false e n h = refl

-- a name that is declared is another than one that is visible before
pub declared_apart : (g : Types) (x i : List ℕ) (k : JavaType) → g x ≡ None → g i ≡ Some k → bytes_eq x i ≡ false
declared_apart g x i k n h = new_apart g x i k (bytes_eq x i) refl n h

back_step : (x i : List ℕ) (t : Bool) → bytes_eq x i ≡ t → bytes_eq i x ≡ false → t ≡ false
back_step x i true e n = let same : bytes_eq i x ≡ true = ap (bytes_eq i) (names_equal x i e) ∙ name_same i in absurd cc
back_step x i false e n = refl

pub set_apart : (x i : List ℕ) (names : Names) → is_among (x ∷ names) i ≡ false → bytes_eq x i ≡ false
set_apart x i names h = back_step x i (bytes_eq x i) refl (or_parts (bytes_eq i x) (is_among names i) h).0

pub neither : (a b : Bool) → a ≡ false → b ≡ false → (a || b) ≡ false
neither a b e h = ap (λ z. z || b) e ∙ h

-- a visible variable that typed statements don't mention they don't set
mutual
  untouched : (c : Frame) (l : Option Types) (g h : Types) (a : Statement) (i : List ℕ) (k : JavaType) → TypedStatement c l g a h → g i ≡ Some k → is_among (mentioned_in a) i ≡ false → touches a i ≡ false
  untouched c _ _ _ _ i k (declare l g at ty x e j n q t) v m = declared_apart g x i k n v
  untouched c _ _ _ _ i k (assign l g at x e j n t) v m = set_apart x i (names_in e) m
  untouched c _ _ _ _ i k (add l g at x e j b n has t) v m = set_apart x i (names_in e) m
  untouched c _ _ _ _ i k (sort l g at x keys down b n) v m = set_apart x i [] m
  untouched c _ _ _ _ i k (when l g h at e p t q) v m = all_untouched c l g h p i k q v (either_part (names_in e) (mentioned_among p) i m).1
  untouched c _ _ _ _ i k (choose l g h h' at e p q t u w) v m =
      let two = either_part (mentioned_among p) (mentioned_among q) i (either_part (names_in e) (mentioned_among p ++ mentioned_among q) i m).1 in
      neither (all_touch p i) (all_touch q i) (all_untouched c l g h p i k u v two.0) (all_untouched c l g h' q i k w v two.1)
  untouched c _ _ _ _ i k (for_each l g h at ty x e p j b n t has q) v m =
      neither (bytes_eq x i) (all_touch p i) (declared_apart g x i k n v) (all_untouched c (Some (with_type x (Some (Of b)) g)) (with_type x (Some (Of b)) g) h p i k q (extends_new g x (Of b) n i k v) (either_part (names_in e) (mentioned_among p) i m).1)
  untouched c _ _ _ _ i k (for_each_new l g h at ty x e p j n q new t) v m =
      neither (bytes_eq x i) (all_touch p i) (declared_apart g x i k n v) (all_untouched c (Some (with_type x (Some j) g)) (with_type x (Some j) g) h p i k t (extends_new g x j n i k v) (either_part (names_in e) (mentioned_among p) i m).1)
  untouched c _ _ _ _ i k (while_true l g h at e p t q) v m = all_untouched c (Some g) g h p i k q v (either_part (names_in e) (mentioned_among p) i m).1
  untouched c _ _ _ _ i k (print l g at e ty t) v m = refl
  untouched c _ _ _ _ i k (return_none l g at n) v m = refl
  untouched c _ _ _ _ i k (return_value l g at e j n t) v m = refl
  untouched c _ _ _ _ i k (leave b g at ex) v m = refl

  pub all_untouched : (c : Frame) (l : Option Types) (g h : Types) (p : Statements) (i : List ℕ) (k : JavaType) → TypedStatements c l g p h → g i ≡ Some k → is_among (mentioned_among p) i ≡ false → all_touch p i ≡ false
  all_untouched c _ _ _ _ i k (nothing l g) v m = refl
  all_untouched c _ _ _ _ i k (next l g h z a p t u) v m =
      let two = either_part (mentioned_in a) (mentioned_among p) i m in
      neither (touches a i) (all_touch p i) (untouched c l g h a i k t v two.0) (all_untouched c l h z p i k u (extends_statement c l g h a t i k v) two.1)

-- ---- The three variables

many_no_number : (t : JavaType) (a : Single) → Has t a → Some (Of (ScalarOf tys.Long)) ≡ Some t → ⊥
many_no_number _ a (listed _) e = absurd cc
many_no_number _ a (distinct _) e = absurd cc

counter_step : (g : Types) (i xs : List ℕ) (k : AreCounted g i xs) (t : Bool) → bytes_eq i xs ≡ t → t ≡ false
counter_step g i xs k true e = elim (many_no_number k.type k.element k.members (sym k.counter ∙ ap g (names_equal i xs e) ∙ k.list)) [ ]
counter_step g i xs k false e = refl

-- the counter isn't the list
pub counter_is_no_list : (g : Types) (i xs : List ℕ) → AreCounted g i xs → bytes_eq i xs ≡ false
counter_is_no_list g i xs k = counter_step g i xs k (bytes_eq i xs) refl
