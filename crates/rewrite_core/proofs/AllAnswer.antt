-- The asks that stand for a loop have what its lowered fragment ends with.
use Rattle.std.proofs.Common.{◌≡◌, ℕ, suc, ◌+◌, true, List, [], ◌∷◌, length, slice_get, Option, Some, None, Ok, refl, sym, ap, ◌∙◌, subst, arith}
use Rattle.std.specs.List.{AllByRecursion}
use Rattle.qbs_base.specs.declared.scalar.Scalar.{Scalar}
use Rattle.qbs_base.specs.declared.scalar.Value.{Value}
use Rattle.qbs_base.specs.Values.{Schema, AreOf}
use Rattle.tor_terms.specs.Truth as tor
use Rattle.tor_terms.specs.Value.{value}
use Rattle.kernel_lang.specs.declared.parts.Entry.{Entry}
use Rattle.kernel_lang.specs.Ends.{StartFits}
use Rattle.kernel_lang.specs.Given.{world_given}
use Rattle.kernel_lang.specs.Plain.{Accumulator}
use Rattle.kernel_lang.specs.Plain as kernel
use Rattle.kernel_lang.specs.Pools.{Member, chosen, members_from, members}
use Rattle.kernel_lang.specs.Postcondition.{postcondition, with_choices, claimed, claims, all_claimed}
use Rattle.kernel_lang.specs.Running.{ends_as, and_then, ends, all_end}
use Rattle.kernel_lang.specs.Validity.{takes_a_column}
use Rattle.kernel_lang.proofs.EndLongs.{end-fits}
use Rattle.sql_ast.specs.Canonical.{canonical}
use Rattle.sql_ast.specs.Valid.{IsQueryOf}
use Rattle.sql_parts.specs.Given.{IsGiven, values_at, SaysWhatIsClaimed, EntriesAreThere}
use Rattle.sql_parts.specs.Given as emitted
use Rattle.sql_parts.specs.Numbered.{emission}
use Rattle.java_ast.specs.Tree.{PlainMethod}
use Rattle.java_mean.specs.Asks.{frame_of}
use Rattle.java_mean.specs.Expression.{value_of}
use Rattle.java_mean.specs.Queries.{Reader}
use Rattle.java_mean.specs.Statement.{State}
use Rattle.java_mean.specs.Typing.{IsWorld}
use Rattle.java_mean.specs.World.{World}
use Rattle.loop_text.specs.Sites.Sites.{place_of}
use Rattle.java_ast.specs.Names.{Names}
use Rattle.java_loops.specs.Kernel.Kernel.{lowering}
use Rattle.java_loops.specs.Kernel.Setting.{Setting}
use Rattle.java_loops.specs.Lowering.Lowered.{needed_in_order}
use Rattle.java_loops.specs.Meant.GivesWay.{AreAnswers}
use Rattle.java_loops.specs.Meant.Means.{AreMatched, HasScalar}
use Rattle.lowering.specs.Asked.{queries_in}
use Rattle.java_loops.specs.Lowering.Spelling.{spelled_at, element_spelled}
use Rattle.rewrite_core.specs.Asked.{Place, arguments_of, table_taken, spelled_or_text}
use Rattle.rewrite_core.specs.Asking.{QueriesAreValid}
use Rattle.rewrite_core.proofs.Answering.{canonical_answers}
use Rattle.rewrite_core.proofs.Arguments.{arguments_have}
use Rattle.rewrite_core.proofs.Asks.{emission_of, ask_of, asks_by, Follow, follow_next, follow_here}
use Rattle.rewrite_core.proofs.Claimed.{asked_value}
use Rattle.rewrite_core.proofs.Fitting.{ends_once}
use Rattle.rewrite_core.proofs.Outer.{IsInLoop, AreOuter}

-- ---- What the first of some accumulators ends with

record EndsFirst (v : Option Value) (rest : Option (List Value)) (vs : List Value) : Type 0 where
  first : Value
  later : List Value
  is : v ≡ Some first
  others : rest ≡ Some later
  all : vs ≡ first ∷ later

ends_first : (v : Option Value) (rest : Option (List Value)) (vs : List Value) → and_then v rest ≡ Some vs → EndsFirst v rest vs
ends_first (Some v) (Some rest) vs e = record { first = v; later = rest; is = refl; others = refl; all = sym (let q : Some (v ∷ rest) ≡ Some vs = e in cc) }
ends_first (Some v) None vs e = absurd cc
ends_first None rest vs e = absurd cc

same_first : (x y : Value) (xs ys : List Value) → x ∷ xs ≡ y ∷ ys → x ≡ y
same_first x y xs ys e = cc

same_later : (x y : Value) (xs ys : List Value) → x ∷ xs ≡ y ∷ ys → xs ≡ ys
same_later x y xs ys e = cc

same_ends : (xs ys : List Value) → Some xs ≡ Some ys → xs ≡ ys
same_ends xs ys e = cc

-- flags end with nothing
no_ends : (f : kernel.Fragment) (k : tor.World) (accs : List Accumulator) → AllByRecursion IsInLoop accs → all_end f k accs ≡ Some []
no_ends f k [] h = refl
no_ends f k (a ∷ accs) h = ap (λ b. ends f k b a (all_end f k accs)) h.0.1 ∙ no_ends f k accs h.1

module _ (l : Place) (schema : Schema) (reader : Reader schema) (same : l.setting.schema ≡ schema) (method : PlainMethod) (world : World) (is_world : IsWorld (frame_of schema reader.read method) world) (t : State) (entry : Entry)
    (matched : AreMatched (HasScalar world t.store) (lowering l.setting).entries entry.values)
    (typed : AreOf (lowering l.setting).fragment.entries entry.values)
    (given : IsGiven l.setting.schema (lowering l.setting).fragment (queries_in (lowering l.setting).known) (lowering l.setting).arguments world.db entry)
    (says : (k : ℕ) (m : Member) → slice_get (members (lowering l.setting).fragment l.candidate) k ≡ Some m → m.0.base ≡ 0 → SaysWhatIsClaimed l.setting.schema (lowering l.setting).fragment l.candidate (queries_in (lowering l.setting).known) (lowering l.setting).arguments m (emission_of l m))
    (entries : EntriesAreThere l.setting.schema (lowering l.setting).fragment (queries_in (lowering l.setting).known) (lowering l.setting).arguments)
    (valid : QueriesAreValid l.setting l.candidate) where
  abbrev w : Setting
  w = l.setting

  abbrev lowered : kernel.Fragment
  lowered = (lowering w).fragment

  abbrev begun : tor.World
  begun = world_given lowered world.db entry

  -- one ask has what its accumulator ends with
  one_answers : (x : List ℕ) (m : Member) (k : ℕ) (v : Value) → slice_get (members lowered l.candidate) k ≡ Some m → m.0.base ≡ 0 → takes_a_column m.0.update ≡ true → StartFits m.0.start → IsQueryOf w.schema (emission_of l m).query → ends_as lowered begun m.0 ≡ Some v → v ≡ claimed lowered (members lowered l.candidate) begun m → value_of (ask_of l x m).value world t.store ≡ Ok v
  one_answers x m k v there base takes fits query ends is =
      let e = emission_of l m in
      let xs : List Scalar = values_at entry.values e.entries in
      let asks : world.ask (canonical e.query) xs ≡ Some (emitted.answered v) =
      canonical_answers schema reader method world is_world e.query (subst (λ z. IsQueryOf z e.query) same query) xs
      ∙ ap (λ z. Some z) (says k m there base world.db entry given)
      ∙ ap (λ z. Some (emitted.answered z)) (sym is) in
      asked_value world t.store (place_of w.fragment.loop) (table_taken w m.0.update) (spelled_or_text (element_spelled (spelled_at x l.path l.program))) (canonical e.query) (arguments_of (place_of w.fragment.loop) (lowering w).entries e.entries) xs v
      (arguments_have world t.store (place_of w.fragment.loop) lowered.entries (lowering w).entries entry.values typed matched e.entries (entries l.candidate m).there)
      asks m.0.update m.0.opposite (value (with_choices lowered (members lowered l.candidate) begun) lowered.atoms (postcondition m)) is
      (end-fits w.schema lowered world.db entry m.0 v given.database fits ends)
      (ends_once lowered begun m.0 v takes ends)

  -- All asks have what their accumulators end with.
  pub all_answer : (k n : ℕ) (xs : Names) (accs : List Accumulator) (vs : List Value) → Follow l k n accs → AreOuter xs accs → AllByRecursion (λ a. takes_a_column a.update ≡ true) accs → k + length xs ≡ length (needed_in_order l.setting) → all_end (lowering l.setting).fragment (world_given (lowering l.setting).fragment world.db entry) accs ≡ Some vs → vs ≡ all_claimed (lowering l.setting).fragment (members (lowering l.setting).fragment l.candidate) (world_given (lowering l.setting).fragment world.db entry) (members_from l.candidate n accs) → AreAnswers world t.store xs (asks_by l n xs accs) vs
  all_answer k n [] accs vs h o r count ended is =
      let none : vs ≡ [] = same_ends vs [] (sym ended ∙ no_ends lowered begun accs o) in
      subst (AreAnswers world t.store [] []) (sym none) tt
  all_answer k n (x ∷ xs) [] vs h o r count ended is = absurd o
  all_answer k n (x ∷ xs) (a ∷ accs) vs h o r count ended is =
      let m : Member = (a, chosen l.candidate n a.pool) in
      let there : slice_get (members lowered l.candidate) k ≡ Some m = follow_here l k n a accs h in
      let e : EndsFirst (ends_as lowered begun a) (all_end lowered begun accs) vs = ends_first (ends_as lowered begun a) (all_end lowered begun accs) vs (sym (ap (λ b. ends lowered begun b a (all_end lowered begun accs)) o.0) ∙ ended) in
      let both : e.first ∷ e.later ≡ claimed lowered (members lowered l.candidate) begun m ∷ all_claimed lowered (members lowered l.candidate) begun (members_from l.candidate (n + length a.pool) accs) =
      sym e.all ∙ is ∙ ap (λ b. claims lowered (members lowered l.candidate) begun b m (all_claimed lowered (members lowered l.candidate) begun (members_from l.candidate (n + length a.pool) accs))) o.0 in
      let query : IsQueryOf w.schema (emission_of l m).query = valid k (emission_of l m) (omega (arith, count)) (ap (λ q. emission w.schema lowered l.candidate (queries_in (lowering w).known) (lowering w).arguments q) there) in
      subst (AreAnswers world t.store (x ∷ xs) (asks_by l n (x ∷ xs) (a ∷ accs))) (sym e.all) (
        refl,
        one_answers x m k e.first there o.0 r.0 o.1 query e.is (same_first e.first (claimed lowered (members lowered l.candidate) begun m) e.later (all_claimed lowered (members lowered l.candidate) begun (members_from l.candidate (n + length a.pool) accs)) both),
        all_answer (suc k) (n + length a.pool) xs accs e.later (follow_next l k n a accs h) o.2 r.1 (omega (arith, count)) e.others (same_later e.first (claimed lowered (members lowered l.candidate) begun m) e.later (all_claimed lowered (members lowered l.candidate) begun (members_from l.candidate (n + length a.pool) accs)) both),
      )
