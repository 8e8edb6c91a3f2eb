-- What comes of the tries of a program's loops by their spreads.
use Rattle.std.proofs.Common.{◌≡◌, ℕ, suc, List, [], ◌∷◌, ◌++◌, length, take, slice_get, ◌-◌, Option, Some, None, Result, Ok, Err, IfOk, refl, sym, ap, ap₂, ◌∙◌, subst, append-nil}
use Rattle.std.specs.Option.{option_map}
use Rattle.qbs_base.specs.Values.{Schema}
use Rattle.query_search.specs.Verdicts.{Found, NoneOf, Budget}
use Rattle.java_ast.specs.declared.tree.Program.{Program}
use Rattle.java_ast.specs.Path.{last_of, replaced_at, statement_at}
use Rattle.java_ast.specs.Reading.{program as plain_program}
use Rattle.java_ast.specs.Tree.{Statement, Statements, Nothing, Then, PlainProgram}
use Rattle.java_grammar.specs.InGrammar.{IsInGrammar}
use Rattle.java_grammar.specs.ReadBack.{IsReadBack}
use Rattle.java_grammar.specs.Written.{IsWritten}
use Rattle.java_mean.specs.Keeps.{Keeps}
use Rattle.java_mean.specs.Numbers.{NumbersFit}
use Rattle.java_mean.specs.WellTyped.{IsWellTyped}
use Rattle.java_stretches.specs.declared.patch.Patch.{Patch}
use Rattle.java_stretches.specs.Patches.{PlainPatch, plain_patches, with_patches}
use Rattle.java_types.specs.Texts.{read_by}
use Rattle.java_loops.specs.Kernel.Kernel.{broken}
use Rattle.java_loops.specs.Kernel.Setting.{Setting}
use Rattle.loop_text.specs.Statements.Loops.{loops_of}
use Rattle.verdicts.specs.declared.verdict.LoopVerdict.{LoopVerdict}
use Rattle.rewrite_core.specs.declared.stage.Stage.{Stage}
use Rattle.rewrite_core.specs.declared.unnested.Unnested.{Unnested}
use Rattle.rewrite_core.specs.declared.unnesting.GaveWay.{GaveWay}
use Rattle.rewrite_core.specs.declared.unnesting.Unnesting.{Unnesting}
use Rattle.rewrite_core.specs.Outcome.{try_with}
use Rattle.rewrite_core.specs.Output.{IsSourceOf}
use Rattle.rewrite_core.specs.Patches.{patches_left, patched_text}
use Rattle.rewrite_core.specs.Results.{IsUnnestingOf}
use Rattle.rewrite_core.specs.Rewriting.{verdicts_of}
use Rattle.rewrite_core.specs.TriedAsking.{MayBeAskedBy, AllMayBeAsked}
use Rattle.rewrite_core.specs.Trying.{Answer, Outside, Searched, answer_unless, Tried, program_after, left_of}
use Rattle.rewrite_core.specs.Unnesting.{if_found, unnested_at, all_unnested, unnested}
use Rattle.rewrite_core.specs.UnnestingSteps.{IsSpreadThere, plain_unnested, MayBeTried, IsUnnestedIn, UnnestingProgress, unnesting_in, unnesting_starts, UnnestingLeads, PassesLoop, PassesSpread, program_past, tries_past}
use Rattle.rewrite_core.proofs.Turns.{one_follows}
use Rattle.rewrite_core.proofs.UnnestSteps.{spread_tried, loop_leads, all_tries}
use Rattle.rewrite_core.proofs.UnnestTries.{unnesting_keeps, unnesting_typed}

-- ---- One loop

module _ (schema : Schema) (size budget : ℕ) (source : List ℕ) where
  module _ (p q : PlainProgram) (path : List ℕ) (w : Setting) (typed : IsWellTyped schema (read_by schema) p) (well : IsWellTyped schema (read_by schema) q) where
    abbrev answered : Answer → Tried
    answered a = record { program = q; path = path; setting = w; answer = a }

    past_typed : (a : Answer) → AllMayBeAsked schema (tries_past (if_found (answered a) a)) → IsWellTyped schema (read_by schema) (program_past p (if_found (answered a) a))
    past_typed (Searched f (Found h)) asked = (one_follows schema (answered (Searched f (Found h))) (Searched f (Found h)) asked.0).typed well
    past_typed (Searched f (NoneOf n)) asked = typed
    past_typed (Searched f (Budget b n)) asked = typed
    past_typed (Outside b) asked = typed

-- the try of the next loop leads on
pub spread_leads : (schema : Schema) (size budget : ℕ) (source : List ℕ) {A E : Type 0} (r : Result A E) (u : A → UnnestingProgress) (s : UnnestingProgress) (path : List ℕ) (block : Statements) (next : Option (List ℕ)) → IsSpreadThere schema s.program path block → next ≡ Some path → slice_get (loops_of s.program) s.standing ≡ Some path
    → IfOk r (λ x. (q : List ℕ) → next ≡ Some q → PassesSpread schema size budget source q s.program (replaced_at q (last_of q) block s.program) s (u x)) → IfOk r (λ x. UnnestingLeads schema size budget source 1 s (u x))
spread_leads schema size budget source (Ok x) u s path block next there here listed passes =
    let k : PassesSpread schema size budget source path s.program (replaced_at path (last_of path) block s.program) s (u x) = passes path here in
    let t : Tried = try_with size budget (replaced_at path (last_of path) block s.program) path k.setting in
    loop_leads schema size budget source s (u x) path (if_found t t.answer) listed (spread_tried schema size budget s.program path block there k.setting k.there) k.passes
spread_leads schema size budget source (Err e) u s path block next there here listed passes = tt

pub spread_keeps_types : (schema : Schema) (size budget : ℕ) (source : List ℕ) {A E : Type 0} (r : Result A E) (u : A → UnnestingProgress) (s : UnnestingProgress) (path : List ℕ) (block : Statements) (next : Option (List ℕ)) → next ≡ Some path → IsWellTyped schema (read_by schema) s.program → MayBeTried schema path block s.program
    → IfOk r (λ x. (q : List ℕ) → next ≡ Some q → PassesSpread schema size budget source q s.program (replaced_at q (last_of q) block s.program) s (u x)) → IfOk r (λ x. IsWellTyped schema (read_by schema) (u x).program)
spread_keeps_types schema size budget source (Ok x) u s path block next here typed may passes =
    let k : PassesSpread schema size budget source path s.program (replaced_at path (last_of path) block s.program) s (u x) = passes path here in
    subst (IsWellTyped schema (read_by schema)) (sym k.passes.program)
    (past_typed schema size budget source s.program (replaced_at path (last_of path) block s.program) path k.setting typed may.typed (answer_unless size budget k.setting (broken k.setting)) k.passes.asked)
spread_keeps_types schema size budget source (Err e) u s path block next here typed may passes = tt

-- a loop without a spread stands
pub stands_leads : (schema : Schema) (size budget : ℕ) (source : List ℕ) {A E : Type 0} (r : Result A E) (u : A → Stage) (v : Stage) (g : GaveWay) (path : List ℕ) → slice_get (loops_of (plain_program v.typed.program)) v.standing ≡ Some path
    → unnested_at schema size budget (plain_program v.typed.program) path ≡ None
    → IfOk r (λ x. (u x).typed.program ≡ v.typed.program) → IfOk r (λ x. (u x).standing ≡ suc v.standing) → IfOk r (λ x. UnnestingLeads schema size budget source 1 (unnesting_in v g) (unnesting_in (u x) g))
stands_leads schema size budget source (Ok x) u v g path listed none program standing =
    loop_leads schema size budget source (unnesting_in v g) (unnesting_in (u x) g) path None listed none
    (record { program = ap plain_program program; standing = standing; verdicts = sym (append-nil g.verdicts); patches = refl; asked = tt })
stands_leads schema size budget source (Err e) u v g path listed none program standing = tt

-- ---- All loops

abbrev made : PlainProgram → ℕ → List LoopVerdict → List PlainPatch → UnnestingProgress
made p n vs ps = record { program = p; standing = n; verdicts = vs; patches = ps }

-- from the first loop on
pub leads_from_start : (schema : Schema) (size budget : ℕ) (source : List ℕ) (left : ℕ) (p : PlainProgram) (s : Stage) (g : GaveWay) {A E : Type 0} (r : Result A E) (u : A → UnnestingProgress) → left ≡ length (loops_of p) → plain_program s.typed.program ≡ p → s.standing ≡ 0 → g.verdicts ≡ [] → g.patches ≡ []
    → IfOk r (λ x. UnnestingLeads schema size budget source left (unnesting_in s g) (u x)) → IfOk r (λ x. UnnestingLeads schema size budget source (length (loops_of p)) (unnesting_starts p) (u x))
leads_from_start schema size budget source left p s g (Ok x) u many program standing said laid h =
    let start : unnesting_in s g ≡ unnesting_starts p =
    ap (λ (q : PlainProgram). made q s.standing g.verdicts (plain_patches g.patches)) program
    ∙ ap (λ (n : ℕ). made p n g.verdicts (plain_patches g.patches)) standing
    ∙ ap (λ (vs : List LoopVerdict). made p 0 vs (plain_patches g.patches)) said
    ∙ ap (λ (ps : List Patch). made p 0 [] (plain_patches ps)) laid in
    subst (λ (n : ℕ). UnnestingLeads schema size budget source n (unnesting_starts p) (u x)) many (subst (λ (z : UnnestingProgress). UnnestingLeads schema size budget source left z (u x)) start h)
leads_from_start schema size budget source left p s g (Err e) u many program standing said laid h = tt

-- what the laws of unnesting say of what is written
pub record WritesUnnested (schema : Schema) (size budget : ℕ) (source : List ℕ) (p : PlainProgram) : Type 0 where
  pub written : AllMayBeAsked schema (all_unnested schema size budget p) → IsInGrammar p → IsWritten p → IsInGrammar (unnested schema size budget p) × IsWritten (unnested schema size budget p)
  pub read_back : AllMayBeAsked schema (all_unnested schema size budget p) → IsReadBack (patched_text source (all_unnested schema size budget p)) (unnested schema size budget p)

module _ (schema : Schema) (size budget : ℕ) (source : List ℕ) (p : PlainProgram) (typed : IsWellTyped schema (read_by schema) p) (numbers : NumbersFit p) (laws : WritesUnnested schema size budget source p) (s : Stage) (g : GaveWay)
    (h : UnnestingLeads schema size budget source (length (loops_of p)) (unnesting_starts p) (unnesting_in s g)) where
  tries_are : h.tries ≡ all_unnested schema size budget p
  tries_are = all_tries schema size budget source p (unnesting_starts p) (unnesting_in s g) refl refl h

  asked : AllMayBeAsked schema (all_unnested schema size budget p)
  asked = subst (AllMayBeAsked schema) tries_are h.asked

  module _ (r : Unnesting) (same : r.program ≡ s.typed.program) (said : r.verdicts ≡ g.verdicts) (laid : r.patches ≡ g.patches) (out : r.text ≡ with_patches source 0 (plain_patches g.patches)) where
    exact : plain_program r.program ≡ unnested schema size budget p
    exact = ap plain_program same ∙ h.program ∙ ap (left_of p) tries_are

    patched : plain_patches g.patches ≡ patches_left source [] (all_unnested schema size budget p)
    patched = h.patches ∙ ap (patches_left source []) tries_are

    text : r.text ≡ patched_text source (all_unnested schema size budget p)
    text = out ∙ ap (with_patches source 0) patched

    of : (P : PlainProgram → Type 0) → P (unnested schema size budget p) → P (plain_program r.program)
    of P k = subst P (sym exact) k

    pub comes_of_tries : IsUnnestingOf schema size budget source p r
    comes_of_tries =
        record {
          exact = exact;
          verdicts = said ∙ h.verdicts ∙ ap verdicts_of tries_are;
          typed = of (IsWellTyped schema (read_by schema)) (unnesting_typed schema size budget p typed numbers asked);
          keeps = of (λ (q : PlainProgram). Keeps p q schema) (unnesting_keeps schema size budget p typed numbers asked);
          written = of (λ (q : PlainProgram). IsInGrammar p → IsWritten p → IsInGrammar q × IsWritten q) (laws.written asked);
          patches = ap plain_patches laid ∙ patched;
          text = text;
          read_back = of (IsReadBack r.text) (subst (λ (t : List ℕ). IsReadBack t (unnested schema size budget p)) (sym text) (laws.read_back asked));
        }

pub comes_of_unnesting : (schema : Schema) (size budget : ℕ) (source : List ℕ) (p : PlainProgram) → IsWellTyped schema (read_by schema) p → NumbersFit p → WritesUnnested schema size budget source p → (s : Stage) (g : GaveWay)
    → UnnestingLeads schema size budget source (length (loops_of p)) (unnesting_starts p) (unnesting_in s g) → {E : Type 0} (o : Result Unnesting E)
    → IfOk o (λ r. r.program ≡ s.typed.program) → IfOk o (λ r. r.verdicts ≡ g.verdicts) → IfOk o (λ r. r.patches ≡ g.patches) → IfOk o (λ r. r.text ≡ with_patches source 0 (plain_patches g.patches)) → IfOk o (IsUnnestingOf schema size budget source p)
comes_of_unnesting schema size budget source p typed numbers laws s g h (Ok r) same said laid out = comes_of_tries schema size budget source p typed numbers laws s g h r same said laid out
comes_of_unnesting schema size budget source p typed numbers laws s g h (Err e) same said laid out = tt
