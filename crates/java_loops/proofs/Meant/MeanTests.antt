-- The atoms of a lowered fragment stand for leaves of its conditions.
use Rattle.std.proofs.Common.{◌≡◌, ℕ, Bool, true, false, List, [], ◌∷◌, ◌++◌, Option, Some, None, refl, ap, ◌∙◌, subst, cond, map}
use Rattle.std.specs.Prelude.{slice_get}
use Rattle.std.specs.List.{AllByRecursion, list_any}
use Rattle.qbs_base.specs.declared.scalar.Ty.{Ty}
use Rattle.qbs_base.specs.declared.scalar.Ty.TheVariants as tys
use Rattle.qbs_base.specs.Values.{Schema}
use Rattle.sql_ast.proofs.Combinations.{all_append}
use Rattle.sql_ast.specs.Tree.{PlainQuery}
use Rattle.java_ast.specs.declared.tree.Op.TheVariants as ops
use Rattle.java_ast.specs.Tree as tree
use Rattle.java_ast.specs.Tree.{Spelled, Expression, Statement, Statements}
use Rattle.java_mean.specs.declared.types.JavaType.TheVariants.{Of}
use Rattle.java_mean.specs.declared.types.Single.TheVariants.{ScalarOf}
use Rattle.java_mean.specs.Types.{Types}
use Rattle.java_mean.specs.Typing as typing
use Rattle.java_mean.specs.Typing.{Frame, HasType, bool, TypedStatement}
use Rattle.java_loops.specs.Walks.ChainStarts.{StandsForCondition}
use Rattle.java_loops.specs.Walks.Numbering.{Flag, Reads, Flags}
use Rattle.tor_terms.specs.declared.term.Atom.{Atom}
use Rattle.loop_text.specs.Statements.Fragment.{Fragment}
use Rattle.loop_text.specs.Kernel.KernelConditions.{leaves, is_excepted, condition_of}
use Rattle.java_loops.specs.Kernel.KernelConditions.{broken_conditions}
use Rattle.java_loops.specs.Lowering.Numbering.{with_new, Leaf, leaves_kept, leaves_of, all_leaves, same_atom, reading_of, atoms_among, entries_of, known_of, numbers_of, flag_number, starts_true, loop_number}
use Rattle.java_loops.specs.Kernel.Setting.{Setting, setting_of}
use Rattle.loop_text.specs.declared.sites.bindings.Binding.{Binding}
use Rattle.loop_text.specs.declared.sites.bindings.Binding.TheVariants.{Local}
use Rattle.loop_text.specs.Sites.Sites.{Site, binding_at}
use Rattle.java_loops.proofs.Formed.FormAtoms.{leaf_atom}
use Rattle.java_loops.proofs.Formed.FormSpelled.{rows_spelled}
use Rattle.java_loops.proofs.Formed.FormSites.{TypedSite, site_typed}
use Rattle.java_loops.proofs.Formed.FormTyping.{BinaryTyped, binary_typed, and_truths, or_truths, not_typed}
use Rattle.java_loops.proofs.Listed.ListedRows.{IsSeenFragment}
use Rattle.java_loops.proofs.Nested.NestRules.{Unbroken}
use Rattle.java_loops.proofs.Numbers.NumberEntries.{all_leaves_by}
use Rattle.java_loops.proofs.Numbers.NumberKept.{LeafFits, FitsUnless, condition_fits}
use Rattle.java_loops.proofs.Numbers.Numberings.{numbering, Sighted, FlagsSeen}

-- ---- Atoms

new_atom : (P : Atom → Type 0) (all : List Atom) (a : Atom) (b : Bool) → AllByRecursion P all → P a → AllByRecursion P (cond b all (all ++ a ∷ []))
new_atom P all a true h k = h
new_atom P all a false h k = all_append P all (a ∷ []) h (k, tt)

-- what holds of the atoms of all leaves holds of all atoms
all_atoms : (w : Setting) (P : Atom → Type 0) (all : List Atom) (ls : List Leaf) → AllByRecursion P all → AllByRecursion (λ (l : Leaf). P (reading_of w (entries_of w) (known_of w) l.number l.expression).atom) ls → AllByRecursion P (atoms_among w (entries_of w) (known_of w) all ls)
all_atoms w P all [] h k = h
all_atoms w P all (l ∷ ls) h k =
    let a : Atom = (reading_of w (entries_of w) (known_of w) l.number l.expression).atom in
    all_atoms w P (with_new same_atom all a) ls (new_atom P all a (list_any (same_atom a) all) h k.0) k.1

-- ---- Typed leaves

abbrev AreTruths : Frame → Types → List Expression → Type 0
AreTruths c g es = AllByRecursion (λ e. HasType c g e bool) es

truths : (c : Frame) (g : Types) (e : Expression) (ty : Ty) → ty ≡ tys.Bool → HasType c g e (Of (ScalarOf ty)) → HasType c g e bool
truths c g e ty is t = subst (λ z. HasType c g e (Of (ScalarOf z))) is t

-- the leaves of a condition are truth values
leaves_typed : (c : Frame) (g : Types) (e : Expression) → HasType c g e bool → AreTruths c g (leaves e)
leaves_typed c g (tree.Binary at ops.And a b) t =
    let u : BinaryTyped c g ops.And a b = binary_typed c g at ops.And a b bool t in
    all_append (λ e. HasType c g e bool) (leaves a) (leaves b) (leaves_typed c g a (truths c g a u.from (and_truths u.from u.to u.takes) u.left)) (leaves_typed c g b (truths c g b u.from (and_truths u.from u.to u.takes) u.right))
leaves_typed c g (tree.Binary at ops.Or a b) t =
    let u : BinaryTyped c g ops.Or a b = binary_typed c g at ops.Or a b bool t in
    all_append (λ e. HasType c g e bool) (leaves a) (leaves b) (leaves_typed c g a (truths c g a u.from (or_truths u.from u.to u.takes) u.left)) (leaves_typed c g b (truths c g b u.from (or_truths u.from u.to u.takes) u.right))
leaves_typed c g (tree.Not at e) t = leaves_typed c g e (not_typed c g at e bool t)
leaves_typed c g (tree.Binary at ops.Eq a b) t = (t, tt)
leaves_typed c g (tree.Binary at ops.Ne a b) t = (t, tt)
leaves_typed c g (tree.Binary at ops.Lt a b) t = (t, tt)
leaves_typed c g (tree.Binary at ops.Le a b) t = (t, tt)
leaves_typed c g (tree.Binary at ops.Gt a b) t = (t, tt)
leaves_typed c g (tree.Binary at ops.Ge a b) t = (t, tt)
leaves_typed c g (tree.Binary at ops.Add a b) t = (t, tt)
leaves_typed c g (tree.Binary at ops.Sub a b) t = (t, tt)
leaves_typed c g (tree.Binary at ops.Mul a b) t = (t, tt)
leaves_typed c g (tree.Lit at v) t = (t, tt)
leaves_typed c g (tree.Var at y) t = (t, tt)
leaves_typed c g (tree.Field at a name) t = (t, tt)
leaves_typed c g (tree.Equals at p q) t = (t, tt)
leaves_typed c g (tree.Size at y) t = (t, tt)
leaves_typed c g (tree.Get at y a) t = (t, tt)
leaves_typed c g (tree.Contains at y a) t = (t, tt)
leaves_typed c g (tree.Fetch at n) t = (t, tt)
leaves_typed c g (tree.Query at ty text es) t = (t, tt)
leaves_typed c g (tree.QueryLong at text es) t = (t, tt)
leaves_typed c g (tree.QueryBoolean at text es) t = (t, tt)
leaves_typed c g (tree.NewList at) t = (t, tt)
leaves_typed c g (tree.NewSet at) t = (t, tt)
leaves_typed c g (tree.NewSetOf at a) t = (t, tt)

some_same : {A : Type 0} (a b : A) → Some a ≡ Some b → a ≡ b
some_same a b e = cc

-- the condition of an `if` is a truth value
condition_typed : (c : Frame) (l : Option Types) (g h : Types) (s : Statement) (e : Expression) → TypedStatement c l g s h → condition_of s ≡ Some e → HasType c g e bool
condition_typed c _ g _ _ e (typing.when l g' h at d p t u) q = subst (λ z. HasType c g' z bool) (some_same d e q) t
condition_typed c _ g _ _ e (typing.choose l g' h i at d p o t u v) q = subst (λ z. HasType c g' z bool) (some_same d e q) t
condition_typed c _ _ _ _ e (typing.declare l g at ty x d k n o t) q = absurd cc
condition_typed c _ _ _ _ e (typing.assign l g at x d k i t) q = absurd cc
condition_typed c _ _ _ _ e (typing.add l g at x d k a i has t) q = absurd cc
condition_typed c _ _ _ _ e (typing.sort l g at x keys down a i) q = absurd cc
condition_typed c _ _ _ _ e (typing.for_each l g h at ty x d p k a n t has u) q = absurd cc
condition_typed c _ _ _ _ e (typing.for_each_new l g h at ty x d p k n s new u) q = absurd cc
condition_typed c _ _ _ _ e (typing.while_true l g h at d p t u) q = absurd cc
condition_typed c _ _ _ _ e (typing.print l g at d ty t) q = absurd cc
condition_typed c _ _ _ _ e (typing.return_none l g at i) q = absurd cc
condition_typed c _ _ _ _ e (typing.return_value l g at d k i t) q = absurd cc
condition_typed c _ _ _ _ e (typing.leave b g at ex) q = absurd cc

-- ---- Flags in sight

abbrev flag_of_site : Setting → ℕ → Option Site → Option Flag
flag_of_site w d (Some s) = Some (Reads (flag_number w d) (starts_true s.statement) (map (loop_number w.sites) s.round.loops))
flag_of_site w d None = None

abbrev flag_of_binding : Setting → Binding → Option Flag
flag_of_binding w (Local d) = flag_of_site w d (slice_get w.sites d)
flag_of_binding w _ = None

-- each local name is read as the accumulator of the flag that it is
abbrev flags_at : Setting → ℕ → Flags
flags_at w n = λ x. flag_of_binding w (binding_at w.sites n x)

flags_seen : (w : Setting) (n : ℕ) (g : Types) → FlagsSeen w n g (flags_at w n)
flags_seen w n g = record { by = λ x k d s seen bound there reads. ap (flag_of_binding w) bound ∙ ap (flag_of_site w d) there }

-- ---- Leaves by sites

module _ (w : Setting) (c : Frame) (same : c.schema ≡ w.schema) (conditions : broken_conditions w ≡ None) where
  abbrev IsStanding : ℕ → Expression → Type 0
  IsStanding n e = StandsForCondition (numbering w) (reading_of w (entries_of w) (known_of w) n e).atom

  leaf_stands : (n : ℕ) (g : Types) (loops : List ℕ → Option ℕ) → Sighted w n g loops → (e : Expression) → HasType c g e bool → FitsUnless w n e → is_excepted w.sites n e ≡ false → IsStanding n e
  leaf_stands n g loops sight e t fits plain =
      let l : LeafFits w n e = fits plain in
      record { loops = loops; flags = flags_at w n; condition = e; truth = (reading_of w (entries_of w) (known_of w) n e).holds; is = leaf_atom w c same n g loops sight (flags_at w n) (flags_seen w n g) e t l.unbroken l.known }

  kept_step : (n : ℕ) (e : Expression) (es : List Expression) (b : Bool) → is_excepted w.sites n e ≡ b → (is_excepted w.sites n e ≡ false → IsStanding n e) → AllByRecursion (λ (l : Leaf). IsStanding l.number l.expression) (leaves_kept w.sites n es) → AllByRecursion (λ (l : Leaf). IsStanding l.number l.expression) (cond b (leaves_kept w.sites n es) (record { number = n; expression = e } ∷ leaves_kept w.sites n es))
  kept_step n e es true q h k = k
  kept_step n e es false q h k = (h q, k)

  kept_stand : (n : ℕ) (g : Types) (loops : List ℕ → Option ℕ) → Sighted w n g loops → (es : List Expression) → AreTruths c g es → AllByRecursion (FitsUnless w n) es → AllByRecursion (λ (l : Leaf). IsStanding l.number l.expression) (leaves_kept w.sites n es)
  kept_stand n g loops sight [] t fits = tt
  kept_stand n g loops sight (e ∷ es) t fits = kept_step n e es (is_excepted w.sites n e) refl (λ plain. leaf_stands n g loops sight e t.0 fits.0 plain) (kept_stand n g loops sight es t.1 fits.1)

  site_stands : (n : ℕ) (s : Site) → slice_get w.sites n ≡ Some s → TypedSite w c n s → (o : Option Expression) → condition_of s.statement ≡ o → AllByRecursion (λ (l : Leaf). IsStanding l.number l.expression) (leaves_of w.sites n o)
  site_stands n s get t None e = tt
  site_stands n s get t (Some d) e =
      let h : HasType c t.types d bool = condition_typed c t.body t.types t.after s.statement d t.typed e in
      kept_stand n t.types t.loops t.sighted (leaves d) (leaves_typed c t.types d h) (condition_fits w conditions n s d get e)

  -- the atoms stand for conditions, where each site is typed
  pub atoms_stand : ((n : ℕ) (s : Site) → slice_get w.sites n ≡ Some s → TypedSite w c n s) → AllByRecursion (StandsForCondition (numbering w)) (numbers_of w).atoms
  atoms_stand typed = all_atoms w (StandsForCondition (numbering w)) [] (all_leaves w.sites) tt (all_leaves_by (λ (l : Leaf). IsStanding l.number l.expression) w.sites (λ n s get. site_stands n s get (typed n s get) (condition_of s.statement) refl))

-- ---- Of a fragment

-- where the loop is typed, the atoms of the lowered fragment stand for conditions
pub fragment_atoms_stand : (schema : Schema) (read : List ℕ → Option PlainQuery) (f : Fragment) (g : Types) → IsSeenFragment schema read f g → Unbroken (setting_of schema read g f) → (c : Frame) → c.schema ≡ schema → (l : Option Types) (h : Types) → TypedStatement c l g f.loop h → AllByRecursion (StandsForCondition (numbering (setting_of schema read g f))) (numbers_of (setting_of schema read g f)).atoms
fragment_atoms_stand schema read f g k u c same l h t =
    let w : Setting = setting_of schema read g f in
    atoms_stand w c same u.conditions (λ n s get. site_typed w c same u (rows_spelled schema read f g k u) l h refl t n s get)
