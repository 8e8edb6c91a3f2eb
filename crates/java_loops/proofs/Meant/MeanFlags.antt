-- The flags of a lowered fragment stand for assignments of truth values.
use Rattle.std.proofs.Common.{◌≡◌, ℕ, suc, ◌+◌, Bool, true, not, ◌&&◌, List, [], ◌∷◌, ◌++◌, length, Option, Some, None, refl, sym, ap, ◌∙◌, subst, arith}
use Rattle.std.specs.Prelude.{slice_get}
use Rattle.std.specs.List.{AllByRecursion}
use Rattle.qbs_base.specs.declared.scalar.Scalar.TheVariants as scalars
use Rattle.qbs_base.specs.declared.span.Span.{Span}
use Rattle.java_ast.specs.Tree as tree
use Rattle.java_ast.specs.Tree.{Spelled, Expression, Statement}
use Rattle.kernel_lang.specs.declared.parts.Update.TheVariants as updates
use Rattle.kernel_lang.specs.Plain.{Accumulator}
use Rattle.java_loops.specs.Walks.ChainStarts.{StandsForStatement}
use Rattle.java_loops.specs.Walks.Chains as chains
use Rattle.java_loops.specs.Walks.Chains.{By, IsChain}
use Rattle.java_loops.specs.Walks.Numbering.{no_flags, with_loops}
use Rattle.java_loops.specs.Kernel.Kernel.{lowering}
use Rattle.loop_text.specs.Kernel.KernelForms as forms
use Rattle.loop_text.specs.Kernel.KernelForms.{adds, counts, sums, takes, marks, other}
use Rattle.loop_text.specs.Kernel.KernelStarts.{Numbered, update_of_flag, form_found, may_start}
use Rattle.loop_text.specs.Kernel.KernelStatements.{is_allowed, is_boolean, is_truth_literal}
use Rattle.java_loops.specs.Lowering.Lowered.{update_with, accumulator_with, accumulator_of, flag_here, flags_from}
use Rattle.java_loops.specs.Lowering.Numbering.{numbers_of}
use Rattle.java_loops.specs.Kernel.Setting.{Setting}
use Rattle.loop_text.specs.Sites.Sites.{Round, Site, declared_name}
use Rattle.java_loops.proofs.Chained.ChainAims.{Flagging, flagging}
use Rattle.java_loops.proofs.Meant.MeanChains.{conditions_at, flags_at}
use Rattle.java_loops.proofs.Nested.NestRules.{Unbroken, allowed_at}
use Rattle.java_loops.proofs.Numbers.Numberings.{nowhere, numbering}
use Rattle.java_loops.proofs.Starts.Start.{flag_starts}

-- an accumulator that is marked stands for the assignment of a truth value
mark_stands : (w : Setting) (x : List ℕ) (acc : Accumulator) → acc.update ≡ updates.Mark → StandsForStatement (lowering w).fragment (numbering w) acc
mark_stands w x acc e =
    let s : Statement = tree.Assign nowhere x (tree.Lit nowhere (scalars.Bool (not acc.opposite))) in
    record {
      quiet = true;
      loops = λ y. None;
      flags = no_flags;
      statement = s;
      variable = x;
      conditions = [];
      layers = [];
      is = subst (λ u. IsChain (lowering w).fragment true (with_loops (λ y. None) (numbering w)) no_flags s x [] [] (By u acc.opposite)) (sym e)
          (chains.update true (with_loops (λ y. None) (numbering w)) no_flags s x (By updates.Mark acc.opposite) (chains.mark nowhere nowhere x acc.opposite));
    }

-- an update that may start with a truth value marks
marked_by : (w : Setting) (x : List ℕ) (r : Round) (form : forms.Form) (at : Span) (b : Bool) → may_start form (tree.Lit at (scalars.Bool b)) ≡ true → update_with w x r form ≡ updates.Mark
marked_by w x r (adds t) at b h = absurd cc
marked_by w x r counts at b h = absurd cc
marked_by w x r (sums k) at b h = absurd cc
marked_by w x r (takes k) at b h = absurd cc
marked_by w x r (marks c) at b h = refl
marked_by w x r other at b h = absurd cc

record Declared (s : Statement) (x : List ℕ) : Type 0 where
  at : Span
  ty : Spelled
  value : Expression
  is : s ≡ tree.Declare at ty x value

declared_by : (s : Statement) (x : List ℕ) → declared_name s ≡ Some x → Declared s x
declared_by (tree.Declare at ty y e) x h = let same : y ≡ x = cc in record { at = at; ty = ty; value = e; is = ap (λ z. tree.Declare at ty z e) same }
declared_by (tree.Assign at y e) x h = absurd cc
declared_by (tree.Add at y e) x h = absurd cc
declared_by (tree.Sort at y keys downs) x h = absurd cc
declared_by (tree.If at e p) x h = absurd cc
declared_by (tree.IfElse at e p q) x h = absurd cc
declared_by (tree.ForEach at ty y e p) x h = absurd cc
declared_by (tree.While at e p) x h = absurd cc
declared_by (tree.Print at e) x h = absurd cc
declared_by (tree.Return at e) x h = absurd cc
declared_by (tree.Break at) x h = absurd cc

declared_value : (at at' : Span) (ty ty' : Spelled) (x y : List ℕ) (e d : Expression) → tree.Declare at ty x e ≡ tree.Declare at' ty' y d → e ≡ d
declared_value at at' ty ty' x y e d h = cc

module _ (w : Setting) (u : Unbroken w) where
  -- the form of a flag's update may start with a truth value
  flag_marks : (d : ℕ) (s : Site) (x : List ℕ) (r : Round) → slice_get w.sites d ≡ Some s → declared_name s.statement ≡ Some x → update_with w x r (form_found w.sites (update_of_flag w.sites d)) ≡ updates.Mark
  flag_marks d s x r there name =
      let k : Declared s.statement x = declared_by s.statement x name in
      let f : Flagging (tree.Declare k.at k.ty x k.value) = flagging k.at k.ty x k.value (allowed_here d s k.at k.ty x k.value there k.is) in
      let value : k.value ≡ tree.Lit f.at' (scalars.Bool f.start) = declared_value k.at f.at k.ty tree.Boolean x f.name k.value (tree.Lit f.at' (scalars.Bool f.start)) f.is in
      marked_by w x r (form_found w.sites (update_of_flag w.sites d)) f.at' f.start (ap (may_start (form_found w.sites (update_of_flag w.sites d))) (sym value) ∙ flag_starts w u.starts d s there k.at k.ty x k.value k.is)
    where
      allowed_here : (d : ℕ) (s : Site) (at : Span) (ty : Spelled) (x : List ℕ) (e : Expression) → slice_get w.sites d ≡ Some s → s.statement ≡ tree.Declare at ty x e → (is_boolean ty && is_truth_literal e) ≡ true
      allowed_here d s at ty x e there is = subst (λ z. is_allowed w.sites s z ≡ true) is (allowed_at w u d s there)

  numbered_stands : (d : ℕ) (x : List ℕ) (r : Round) (o : Option Numbered) → update_of_flag w.sites d ≡ o → ((q : Round) → update_with w x q (form_found w.sites (update_of_flag w.sites d)) ≡ updates.Mark) → (accs : List Accumulator) → AllByRecursion (StandsForStatement (lowering w).fragment (numbering w)) accs → AllByRecursion (StandsForStatement (lowering w).fragment (numbering w)) (accumulator_of w (numbers_of w) (conditions_at w) x (length r.loops) o ++ accs)
  numbered_stands d x r None e marked accs h = h
  numbered_stands d x r (Some n) e marked accs h =
      let acc : Accumulator = accumulator_with w (numbers_of w) (conditions_at w) x (length r.loops) n.site.round (form_found w.sites (Some n)) in
      (mark_stands w x acc (ap (λ o. update_with w x n.site.round (form_found w.sites o)) (sym e) ∙ marked n.site.round), h)

  site_stands : (d : ℕ) (s : Site) (o : Option (List ℕ)) → slice_get w.sites d ≡ Some s → declared_name s.statement ≡ o → (accs : List Accumulator) → AllByRecursion (StandsForStatement (lowering w).fragment (numbering w)) accs → AllByRecursion (StandsForStatement (lowering w).fragment (numbering w)) (flag_here w (numbers_of w) (conditions_at w) d s.round o ++ accs)
  site_stands d s None there e accs h = h
  site_stands d s (Some x) there e accs h = numbered_stands d x s.round (update_of_flag w.sites d) refl (λ q. flag_marks d s x q there e) accs h

  flags_stand_from : (d : ℕ) (ss : List Site) → ((i k : ℕ) (s : Site) → d + i ≡ k → slice_get ss i ≡ Some s → slice_get w.sites k ≡ Some s) → AllByRecursion (StandsForStatement (lowering w).fragment (numbering w)) (flags_from w (numbers_of w) (conditions_at w) d ss)
  flags_stand_from d [] h = tt
  flags_stand_from d (s ∷ ss) h =
      site_stands d s (declared_name s.statement) (h 0 d s (omega arith) refl) refl (flags_from w (numbers_of w) (conditions_at w) (suc d) ss) (flags_stand_from (suc d) ss (λ i k t e g. h (suc i) k t (omega (arith, e)) g))

  -- each flag of the lowered fragment stands for a statement
  pub flags_stand : AllByRecursion (StandsForStatement (lowering w).fragment (numbering w)) (flags_at w)
  flags_stand = flags_stand_from 0 w.sites (λ i k s e g. subst (λ n. slice_get w.sites n ≡ Some s) (from_zero i k e) g)
    where
      from_zero : (i k : ℕ) → 0 + i ≡ k → i ≡ k
      from_zero i k e = omega arith
