-- What a run establishes at the loop of a fragment of the kernel form.
use Rattle.std.proofs.Common.{◌≡◌, ℕ, pos, true, List, Option, Some, None, Ok, refl, sym, ap, ◌∙◌, subst}
use Rattle.std.specs.Prelude.{slice_get}
use Rattle.qbs_base.specs.declared.scalar.Scalar.TheVariants as scalars
use Rattle.qbs_base.specs.declared.scalar.Value.TheVariants.{One}
use Rattle.qbs_base.specs.declared.span.Span.{Span}
use Rattle.qbs_base.specs.Named.{at_name}
use Rattle.qbs_base.specs.Values.{Schema}
use Rattle.sql_ast.specs.Tree.{PlainQuery}
use Rattle.java_ast.specs.Tree as tree
use Rattle.java_ast.specs.Tree.{Spelled, Expression, Statement, Statements, PlainMethod, PlainProgram}
use Rattle.java_mean.specs.Asks.{frame_of}
use Rattle.java_mean.specs.Endings.{◌>>=◌, found}
use Rattle.java_mean.specs.Expression.{value_of}
use Rattle.java_mean.specs.Statement.{State, GoesOn, meanings}
use Rattle.java_mean.specs.Store.{Variable}
use Rattle.java_mean.specs.Types.{Types, IsTyped}
use Rattle.java_mean.specs.Typing.{Frame, IsWorld, HasType, bool, TypedStatement, while_true, TypedStatements}
use Rattle.java_mean.specs.WellTyped.{IsWellTyped}
use Rattle.java_mean.specs.World.{World}
use Rattle.java_loops.specs.Walks.Counting.{Counts}
use Rattle.loop_text.specs.Statements.Fragment.{Fragment, are_simple, accumulators}
use Rattle.java_loops.specs.Kernel.Kernel.{Broken, first_rule, broken, broken_counts}
use Rattle.java_loops.specs.Kernel.KernelConditions.{broken_conditions}
use Rattle.java_loops.specs.Kernel.KernelForms.{broken_forms}
use Rattle.loop_text.specs.Kernel.KernelLists.{source_in, source_counted}
use Rattle.java_loops.specs.Kernel.KernelLists.{broken_lists, broken_depth}
use Rattle.java_loops.specs.Kernel.KernelLoop.{broken_loop}
use Rattle.java_loops.specs.Kernel.KernelStarts.{broken_starts}
use Rattle.java_loops.specs.Kernel.KernelStatements.{broken_statements, broken_updates}
use Rattle.java_ast.specs.Names.{is_among}
use Rattle.java_loops.specs.Kernel.Setting.{Setting, setting_of}
use Rattle.loop_text.specs.Sites.Sites.{Site, outside}
use Rattle.java_loops.proofs.Known.KnownGiven.{AreGiven, fragment_is_given}
use Rattle.java_loops.proofs.Listed.ListedRows.{IsSeenFragment, fragment_seen, HasList, each_list, counted_list, loop_has_source}
use Rattle.java_loops.proofs.Nested.NestRules.{Unbroken}
use Rattle.java_loops.proofs.Placing.PlaceTyped.{types_before, FragmentThere, IsTypedFragment, store_typed}
use Rattle.java_loops.proofs.Standing.Standing.{site_of}
use Rattle.java_loops.proofs.Standing.StandingSites.{loop_first}
use Rattle.java_loops.proofs.Starts.Start.{HoldsStart, StartsRightly, accumulator_starts}
use Rattle.java_loops.proofs.Starts.StartCounter.{IsCounted, loop_counts, counter_is_zero}
use Rattle.java_loops.proofs.Starts.StartCounting.{condition_counts, AreCounted, counts_typed, body_counts}
use Rattle.java_loops.proofs.Starts.StartCountingText.{IsCountingLoop, loop_text}

-- ---- The rules

later_none : (rule : ℕ) (o : Option Span) (later : Option Broken) → first_rule rule o later ≡ None → (o ≡ None) × (later ≡ None)
later_none rule (Some at) later h = absurd cc
later_none rule None later h = (refl, h)

-- a fragment of the kernel form breaks none of the rules
pub kernel_unbroken : (w : Setting) → broken w ≡ None → Unbroken w
kernel_unbroken w h =
    let r9 : Option Broken = first_rule 9 (broken_starts w) None in
    let r8 : Option Broken = first_rule 8 (broken_counts w) r9 in
    let r7 : Option Broken = first_rule 7 (broken_conditions w) r8 in
    let r6 : Option Broken = first_rule 6 (broken_forms w) r7 in
    let r5 : Option Broken = first_rule 5 (broken_updates w) r6 in
    let r4 : Option Broken = first_rule 4 (broken_statements w) r5 in
    let r3 : Option Broken = first_rule 3 (broken_depth w) r4 in
    let r2 : Option Broken = first_rule 2 (broken_lists w) r3 in
    let h1 = later_none 1 (broken_loop w) r2 h in
    let h2 = later_none 2 (broken_lists w) r3 h1.1 in
    let h3 = later_none 3 (broken_depth w) r4 h2.1 in
    let h4 = later_none 4 (broken_statements w) r5 h3.1 in
    let h5 = later_none 5 (broken_updates w) r6 h4.1 in
    let h6 = later_none 6 (broken_forms w) r7 h5.1 in
    let h7 = later_none 7 (broken_conditions w) r8 h6.1 in
    let h8 = later_none 8 (broken_counts w) r9 h7.1 in
    let h9 = later_none 9 (broken_starts w) None h8.1 in
    record { loop = h1.0; lists = h2.0; statements = h4.0; updates = h5.0; forms = h6.0; conditions = h7.0; starts = h9.0 }

-- ---- A loop that counts

condition_typed : (c : Frame) (l : Option Types) (g h : Types) (at : Span) (e : Expression) (b : Statements) → TypedStatement c l g (tree.While at e b) h → HasType c g e bool
condition_typed c _ _ _ _ _ _ (while_true l g h at e p t q) = t

turn_typed : (c : Frame) (l : Option Types) (g h : Types) (at : Span) (e : Expression) (b : Statements) → TypedStatement c l g (tree.While at e b) h → (z : Types) × TypedStatements c (Some g) g b z
turn_typed c _ _ _ _ _ _ (while_true l g h at e p t q) = (h, q)

-- The loop counts from 0 to the size of the list, or to the limit, as its text says, and the list is that of the lowered
-- fragment.
pub record CountsRightly (w : Setting) (world : World) (t : State) (at : Span) (c : Expression) (b : Statements) : Type 0 where
  pub rule : IsCounted w.fragment c b
  pub zero : HoldsStart w.schema w.types rule.count.counter (One (scalars.Long (pos 0))) t
  pub condition : Counts rule.count.counter rule.count.list rule.count.limit c
  pub text : IsCountingLoop at rule.count w.fragment.loop c b
  pub typed : AreCounted w.types rule.count.counter rule.count.list
  pub list : HasList w world w.fragment.loop (found (at_name t.store rule.count.list) >>= λ (held : Variable). Ok held.value)

-- ---- At the loop

-- Where the run has passed: the store is typed, accumulators have their starts, lists are those of the lowered fragment, and
-- its entries and known lists are given.
pub record IsEstablished (w : Setting) (world : World) (t : State) : Type 0 where
  pub store : IsTyped w.schema w.types t.store
  pub starts : (x : List ℕ) → is_among (accumulators w.fragment) x ≡ true → StartsRightly w w.schema w.types x t
  pub lists : (n : ℕ) (site : Site) → slice_get w.sites n ≡ Some site → (at : Span) (ty : Spelled) (x : List ℕ) (e : Expression) (b : Statements) → site.statement ≡ tree.ForEach at ty x e b → HasList w world site.statement (value_of e world t.store)
  pub counts : (at : Span) (c : Expression) (b : Statements) → w.fragment.loop ≡ tree.While at c b → CountsRightly w world t at c b
  pub given : AreGiven w world t

module _ (schema : Schema) (read : List ℕ → Option PlainQuery) (p : PlainProgram) (path : List ℕ) (f : Fragment) (g : Types) (well : IsWellTyped schema read p) (there : FragmentThere schema read p path f g) (kernel : broken (setting_of schema read g f) ≡ None) (world : World) (is_world : IsWorld (frame_of schema read there.place.method) world) (s t : State) (typed : IsTyped schema (types_before schema p path f there.place) s.store) (passes : meanings f.run world s ≡ Ok (GoesOn t)) where
  abbrev at_fragment : Setting
  at_fragment = setting_of schema read g f

  unbroken : Unbroken at_fragment
  unbroken = kernel_unbroken at_fragment kernel

  seen : IsSeenFragment schema read f g
  seen = fragment_seen schema read p path f g well there

  simple : are_simple f.run ≡ true
  simple = there.place.placed.simple

  fragment_typed : IsTypedFragment (frame_of schema read there.place.method) f (types_before schema p path f there.place) g
  fragment_typed = there.typed

  at_loop : IsTyped schema g t.store
  at_loop = store_typed (frame_of schema read there.place.method) f (types_before schema p path f there.place) g fragment_typed world is_world s t typed passes

  loop_counts_rightly : (at : Span) (c : Expression) (b : Statements) → f.loop ≡ tree.While at c b → CountsRightly at_fragment world t at c b
  loop_counts_rightly at c b is =
      let k : IsCounted f c b = loop_counts at_fragment unbroken.loop at c b is in
      let condition : Counts k.count.counter k.count.list k.count.limit c = condition_counts c k.count k.is in
      let body_typed : TypedStatement (frame_of schema read there.place.method) fragment_typed.loop g (tree.While at c b) fragment_typed.after = subst (λ z. TypedStatement (frame_of schema read there.place.method) fragment_typed.loop g z fragment_typed.after) is fragment_typed.body in
      let frame : Frame = frame_of schema read there.place.method in
      let types : AreCounted g k.count.counter k.count.list = counts_typed frame g k.count.counter k.count.list k.count.limit c bool condition (condition_typed frame fragment_typed.loop g fragment_typed.after at c b body_typed) in
      let turn = turn_typed frame fragment_typed.loop g fragment_typed.after at c b body_typed in
      let src = loop_has_source at_fragment unbroken.lists 0 (site_of outside None f.loop) (loop_first f.loop) there.place.placed.loops in
      record {
        rule = k;
        zero = counter_is_zero f c b k world schema g s t simple at_loop passes;
        condition = condition;
        text = loop_text at_fragment unbroken refl (frame_of schema read there.place.method) turn.0 fragment_typed.named at c b is k.count condition (body_counts at k.count b k.body) types src.0 (sym (ap (source_counted f.run) k.is) ∙ ap (source_in f.run) (sym is) ∙ src.1) turn.1;
        typed = types;
        list = counted_list schema read f g seen world is_world.schema is_world.tables s t simple passes at c b k.count is k.is k.body src.0 src.1;
      }

  -- From a typed store from which the run of a fragment of the kernel form passes, all of this holds at its loop.
  pub run_establishes : IsEstablished (setting_of schema read g f) world t
  run_establishes =
      record {
        store = at_loop;
        starts = accumulator_starts at_fragment world schema g s t simple at_loop passes unbroken.starts;
        lists = each_list schema read f g seen world is_world.schema is_world.tables s t simple passes unbroken.lists;
        counts = loop_counts_rightly;
        given = fragment_is_given schema read f g seen unbroken.conditions there.place.method fragment_typed.loop (types_before schema p path f there.place) fragment_typed.run world is_world s t at_loop simple passes;
      }
