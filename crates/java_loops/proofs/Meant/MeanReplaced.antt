-- A run and the loop of a lowered fragment whose accumulators are chains give way to statements that ask for what the
-- fragment ends with.
use Rattle.std.proofs.Common.{◌≡◌, ℕ, true, List, [], ◌∷◌, ◌++◌, Option, Some, None, refl, sym, ap, ◌∙◌, subst}
use Rattle.std.specs.List.{AllByRecursion}
use Rattle.qbs_base.specs.Values.{Schema}
use Rattle.sql_ast.specs.Tree.{PlainQuery}
use Rattle.java_ast.specs.Path.{with_method, with_body, with_methods}
use Rattle.java_ast.specs.Tree.{Statements, PlainMethod, PlainProgram}
use Rattle.java_mean.specs.declared.types.JavaType.{JavaType}
use Rattle.java_mean.specs.Asks.{frame_of}
use Rattle.java_mean.specs.Keeps.{Keeps}
use Rattle.java_mean.specs.Numbers.{NumbersFit}
use Rattle.java_mean.specs.Queries.{Reader}
use Rattle.java_mean.specs.Refines.{Hole, fill}
use Rattle.java_mean.specs.Types.{Types, types_past}
use Rattle.java_mean.specs.Typing.{Frame}
use Rattle.java_mean.specs.WellTyped.{IsWellTyped}
use Rattle.java_loops.specs.Walks.Reads.{Set}
use Rattle.java_loops.specs.Walks.Replacing.{Ask, replacement, run_and_loop, MayGiveWay, HaveSameTypes}
use Rattle.java_loops.proofs.Walks.PlacedPrograms.{MethodAt, method_at}
use Rattle.java_loops.proofs.Walks.Visibility.{programs_give_way}
use Rattle.loop_text.specs.Statements.Fragment.{Fragment, accumulators, needed_of}
use Rattle.java_loops.specs.Meant.GivesWay.{MayStandForLoop}
use Rattle.java_loops.specs.Kernel.Kernel.{broken}
use Rattle.java_loops.specs.Lowering.Lowered.{needed_in_order}
use Rattle.java_ast.specs.Names.{Names}
use Rattle.java_loops.specs.Kernel.Setting.{Setting, setting_of}
use Rattle.loop_text.specs.Sites.Sites.{is_some}
use Rattle.java_loops.proofs.Meant.MeanChains.{HasChains, IsNeeded, all_needed}
use Rattle.java_loops.proofs.Meant.MeanGives.{loop_gives_way}
use Rattle.java_loops.proofs.Meant.MeanWhole.{fragment_means}
use Rattle.java_loops.proofs.Nested.Nest.{SeesFragment, accumulator_seen}
use Rattle.java_loops.proofs.Nested.NestNames.{among_filtered}
use Rattle.java_loops.proofs.Placing.PlaceTyped.{types_before, FragmentThere}

type_there : (o : Option JavaType) → is_some o ≡ true → (k : JavaType) × (o ≡ Some k)
type_there (Some k) h = (k, refl)
type_there None h = absurd cc

needed_seen : (f : Fragment) (g : Types) → SeesFragment f g → (ys : Names) → AllByRecursion (IsNeeded (needed_of f)) ys → AllByRecursion (λ (y : List ℕ). (k : JavaType) × (g y ≡ Some k)) ys
needed_seen f g sees [] h = tt
needed_seen f g sees (y ∷ ys) h = (type_there (g y) (accumulator_seen f g sees y (among_filtered _ (accumulators f) y h.0).0), needed_seen f g sees ys h.1)

-- In a well-typed program, where no rule of the kernel form is broken, the accumulators are chains, and this text may stand for
-- the loop of the fragment, the run and the loop give way to it.
pub fragment_gives_way : (schema : Schema) (read : List ℕ → Option PlainQuery) (p : PlainProgram) (path : List ℕ) (f : Fragment) (g : Types) → IsWellTyped schema read p → (there : FragmentThere schema read p path f g) → broken (setting_of schema read g f) ≡ None → HasChains (setting_of schema read g f) → (r : Set) (ks : List Ask) → MayStandForLoop (frame_of schema read there.place.method) (types_before schema p path f there.place) (setting_of schema read g f) r ks → MayGiveWay (frame_of schema read there.place.method) (types_before schema p path f there.place) (types_past schema (types_before schema p path f there.place) (replacement r f.run ks)) f.run f.loop r ks
fragment_gives_way schema read p path f g well there rules chains r ks stands =
    let w : Setting = setting_of schema read g f in
    let c : Frame = frame_of schema read there.place.method in
    let before : Types = types_before schema p path f there.place in
    loop_gives_way c there.typed.loop before there.typed.end w there.typed.whole there.is there.place.placed.simple r ks stands (fragment_means schema read p path f g well there rules chains)
    (needed_seen f g (record { by = there.typed.named }) (needed_in_order w) (all_needed (needed_of f) f.run))

-- ---- In a program

-- the program with these statements in place of those that stand at the place in the method with the number
abbrev pub with_statements : PlainProgram → ℕ → Hole → Statements → PlainProgram
with_statements p number hole new = with_methods p (with_method number (λ m. with_body m (fill hole new)) p.methods)

-- The program keeps what it does with the text in place of the run and the loop, at any depth, where it stays well typed and
-- its literals have 64 bits.
pub text_keeps_program : (schema : Schema) (reader : Reader schema) (p : PlainProgram) (path : List ℕ) (f : Fragment) (g : Types) → IsWellTyped schema reader.read p → NumbersFit p → (there : FragmentThere schema reader.read p path f g) → broken (setting_of schema reader.read g f) ≡ None → HasChains (setting_of schema reader.read g f) → (r : Set) (ks : List Ask) → MayStandForLoop (frame_of schema reader.read there.place.method) (types_before schema p path f there.place) (setting_of schema reader.read g f) r ks → IsWellTyped schema reader.read (with_statements p there.place.number there.place.placed.hole (replacement r f.run ks)) → NumbersFit (with_statements p there.place.number there.place.placed.hole (replacement r f.run ks)) → Keeps p (with_statements p there.place.number there.place.placed.hole (replacement r f.run ks)) schema
text_keeps_program schema reader p path f g well fits there rules chains r ks stands well' fits' =
    let m : PlainMethod = there.place.method in
    let hole : Hole = there.place.placed.hole in
    let new : Statements = replacement r f.run ks in
    let k : MethodAt there.place.number p.methods m = method_at there.place.number p.methods m there.place.found in
    let at : Statements → PlainProgram = λ body. with_methods p (k.before ++ with_body m body ∷ k.after) in
    let old_is : p ≡ at (fill hole (run_and_loop f.run f.loop)) = ap (with_methods p) k.is ∙ ap at there.place.placed.is in
    let new_is : with_statements p there.place.number hole new ≡ at (fill hole new) = ap (with_methods p) (k.changed (λ z. with_body z (fill hole new))) in
    let same : HaveSameTypes schema (types_past schema (types_before schema p path f there.place) f.run) ks = subst (λ z. HaveSameTypes schema z ks) there.is stands.types in
    let kept : Keeps (at (fill hole (run_and_loop f.run f.loop))) (at (fill hole new)) schema =
    programs_give_way schema reader p k.before k.after m hole f.run f.loop r ks (subst (IsWellTyped schema reader.read) old_is well) (subst NumbersFit old_is fits) (subst (IsWellTyped schema reader.read) new_is well') (subst NumbersFit new_is fits') same
    (fragment_gives_way schema reader.read p path f g well there rules chains r ks stands) in
    subst (λ z. Keeps z (with_statements p there.place.number hole new) schema) (sym old_is) (subst (λ z. Keeps (at (fill hole (run_and_loop f.run f.loop))) z schema) (sym new_is) kept)
