-- Which loops may be asked for: those with an accepted candidate, whose emitted queries are of the schema.
use Rattle.std.proofs.Common.{◌≡◌, ℕ, zero, suc, ◌<◌, List, [], ◌∷◌, length, slice_get, Option, Some, None, refl, sym, ap, ◌∙◌, subst, arith}
use Rattle.std.specs.List.{AllByRecursion}
use Rattle.qbs_base.specs.Values.{Schema}
use Rattle.schema.specs.Rules.{IsSchema, AreNamed}
use Rattle.tor_axioms.specs.Accepts.{Proof}
use Rattle.kernel_lang.specs.Plain.{Accumulator, Fragment}
use Rattle.kernel_lang.specs.Pools.{Member, members}
use Rattle.kernel_lang.specs.Validity as validity
use Rattle.vc_gen.specs.Conditions.{conditions}
use Rattle.vc_gen.specs.Soundness.{AllAccepted, EndsAnywhere}
use Rattle.vc_gen.proofs.Accepted.{all-accepted-anywhere}
use Rattle.vc_gen.proofs.Ended.{fragment-ends-anywhere}
use Rattle.sql_ast.specs.Tree.{PlainQuery}
use Rattle.sql_ast.specs.Valid.{IsQueryOf}
use Rattle.sql_parts.specs.Given.{IsHeld, QueryIsCounted}
use Rattle.sql_parts.specs.Numbered.{Emission, emission}
use Rattle.sql_parts.proofs.Queries.{grammatical}
use Rattle.java_ast.specs.Tree.{PlainProgram}
use Rattle.java_ast.specs.Names.{Names}
use Rattle.loop_text.specs.Statements.Fragment as source
use Rattle.java_mean.specs.Types.{Types}
use Rattle.java_loops.specs.Kernel.Kernel.{broken, lowering}
use Rattle.java_loops.specs.Kernel.Setting.{Setting, setting_of}
use Rattle.java_loops.specs.Lowering.Lowered.{needed_in_order}
use Rattle.java_loops.proofs.Lowering.LowerChains.{at_setting}
use Rattle.java_loops.proofs.Lowering.LowerValid.{fragments_valid}
use Rattle.java_loops.proofs.Placing.PlaceTyped.{FragmentThere}
use Rattle.java_loops.proofs.Typing.TypedFragment.{fragment_fits}
use Rattle.lowering.specs.Asked.{queries_in, IsKernelLoop, HasQueriesOf}
use Rattle.lowering.proofs.Known.KnownLoop.{known_to}
use Rattle.rewrite_core.specs.Asking.{QueriesAreValid, MayBeAsked}
use Rattle.rewrite_core.proofs.Asks.{member_accumulator}
use Rattle.rewrite_core.proofs.Outer.{AreOuter, accumulators_there}

-- ---- Accepted candidates

-- what accepted conditions promise
pub accepted_ends : (f : Fragment) (candidate : List ℕ) (proofs : List Proof) → validity.broken f ≡ None → AllAccepted (conditions f candidate) proofs → EndsAnywhere f candidate
accepted_ends f candidate proofs valid h = fragment-ends-anywhere f candidate valid (all-accepted-anywhere (conditions f candidate) proofs h)

-- A loop may be asked for with a candidate whose conditions are accepted.
pub accepted_may : (schema : Schema) (read : List ℕ → Option PlainQuery) (p : PlainProgram) (path : List ℕ) (w : Setting) (candidate : List ℕ) (proofs : List Proof) → IsKernelLoop schema read p path w → HasQueriesOf schema (lowering w) → QueriesAreValid w candidate → AllAccepted (conditions (lowering w).fragment candidate) proofs → MayBeAsked schema read p path w candidate
accepted_may schema read p path w candidate proofs k known emitted h =
    record {
      loop = k;
      known = known;
      emitted = emitted;
      ends = accepted_ends (lowering w).fragment candidate proofs (fragments_valid schema read p path w k.typed k.numbers k.there k.unbroken) h;
    }

-- ---- Emitted queries

-- the first accumulators stand outside all loops
outer_base : (xs : Names) (accs : List Accumulator) → AreOuter xs accs → (k : ℕ) (a : Accumulator) → k < length xs → slice_get accs k ≡ Some a → a.base ≡ 0
outer_base [] accs h k a below e = absurd (omega (arith, below))
outer_base (x ∷ xs) [] h k a below e = absurd h
outer_base (x ∷ xs) (b ∷ accs) h zero a below e = let same : b ≡ a = cc in ap (λ (z : Accumulator). z.base) (sym same) ∙ h.0
outer_base (x ∷ xs) (b ∷ accs) h (suc k) a below e = outer_base xs accs h.2 k a (omega (arith, below)) e

-- the member from which a query is emitted
record EmittedFrom (w : Setting) (candidate : List ℕ) (k : ℕ) (e : Emission) : Type 0 where
  member : Member
  there : slice_get (members (lowering w).fragment candidate) k ≡ Some member
  is : emission w.schema (lowering w).fragment candidate (queries_in (lowering w).known) (lowering w).arguments (Some member) ≡ Some e

emitted_from : (w : Setting) (candidate : List ℕ) (k : ℕ) (e : Emission) (o : Option Member) → slice_get (members (lowering w).fragment candidate) k ≡ o → emission w.schema (lowering w).fragment candidate (queries_in (lowering w).known) (lowering w).arguments o ≡ Some e → EmittedFrom w candidate k e
emitted_from w candidate k e (Some m) there is = record { member = m; there = there; is = is }
emitted_from w candidate k e None there is = absurd cc

same_emission : (d e : Emission) → Some d ≡ Some e → d ≡ e
same_emission d e h = cc

module _ (schema : Schema) (read : List ℕ → Option PlainQuery) (p : PlainProgram) (path : List ℕ) (candidate : List ℕ) (is_schema : IsSchema schema) (named : AreNamed schema) where
  valid_there : (f : source.Fragment) (g : Types) → FragmentThere schema read p path f g → broken (setting_of schema read g f) ≡ None → IsKernelLoop schema read p path (setting_of schema read g f) → HasQueriesOf schema (lowering (setting_of schema read g f)) → AllByRecursion QueryIsCounted (queries_in (lowering (setting_of schema read g f)).known) → IsHeld (lowering (setting_of schema read g f)).fragment → QueriesAreValid (setting_of schema read g f) candidate
  valid_there f g there rules loop known counted held k e below emitted =
      let w : Setting = setting_of schema read g f in
      let from : EmittedFrom w candidate k e = emitted_from w candidate k e (slice_get (members (lowering w).fragment candidate) k) refl emitted in
      let base : from.member.0.base ≡ 0 = outer_base (needed_in_order w) (lowering w).fragment.accs (accumulators_there schema read p path f g loop.typed there rules) k from.member.0 below (member_accumulator candidate 0 (lowering w).fragment.accs k from.member from.there) in
      subst (λ (z : Emission). IsQueryOf schema z.query) (same_emission _ e from.is)
      (grammatical schema (lowering w).fragment candidate (queries_in (lowering w).known) (lowering w).arguments k from.member is_schema named
      (fragments_valid schema read p path w loop.typed loop.numbers loop.there loop.unbroken) (fragment_fits schema read p path w loop.typed loop.numbers loop.there loop.unbroken) (known_to schema read p path w loop known) counted held from.there base)

-- What is emitted for a loop is of the schema.
pub emitted_valid : (schema : Schema) (read : List ℕ → Option PlainQuery) (p : PlainProgram) (path : List ℕ) (w : Setting) (candidate : List ℕ) → IsSchema schema → AreNamed schema → IsKernelLoop schema read p path w → HasQueriesOf schema (lowering w) → AllByRecursion QueryIsCounted (queries_in (lowering w).known) → IsHeld (lowering w).fragment → QueriesAreValid w candidate
emitted_valid schema read p path w candidate is_schema named k =
    at_setting (λ (z : Setting). IsKernelLoop schema read p path z → HasQueriesOf schema (lowering z) → AllByRecursion QueryIsCounted (queries_in (lowering z).known) → IsHeld (lowering z).fragment → QueriesAreValid z candidate) schema read p path w k.typed k.numbers
    (valid_there schema read p path candidate is_schema named) k.there k.unbroken k
