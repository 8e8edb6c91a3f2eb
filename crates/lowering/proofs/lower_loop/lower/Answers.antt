use Rattle.std.proofs.Common.{◌≡◌, ℕ, List, Option, Some, None, true, map, subst}
use Rattle.std.proofs.lemmas.Result.{IfOk-weaker, IfErr-weaker}
use Rattle.qbs_base.specs.Values.{Schema}
use Rattle.sql_ast.specs.Reading.{query}
use Rattle.java_ast.specs.declared.tree.Program.{Program}
use Rattle.java_ast.specs.Reading.{program}
use Rattle.java_types.specs.Texts.{read_by}
use Rattle.kernel_lang.specs.Typed.{is_typed}
use Rattle.kernel_lang.specs.Whole.{fragment_of}
use Rattle.java_loops.specs.Kernel.Kernel.{setting_at}
use Rattle.loop_text.specs.Statements.KeptStatements.{with_numbers}
use Rattle.lowering.specs.InCode.Locating.{IsLocatedAt, IsFoundAt}
use Rattle.lowering.specs.Lowers.{lowering_in_code, IsOutside}
use Rattle.java_loops.specs.Meant.Lowers.{IsLowered, IsMeant}
use Rattle.java_loops.specs.Lowering.Placing.{fragment_once_at}
use Rattle.java_loops.specs.Kernel.Setting.{Setting}
use Rattle.lowering.specs.InCode.Verdicts.{BreaksFirst, IsLoweredFrom}
use Rattle.lowering.specs.declared.places.position.Located.{Located}
use Rattle.sql_parts.specs.Given.{AreKnownTo}
use Rattle.java_loops.proofs.Kept.KeptMeant.{lowered_is_meant}
use Rattle.lowering.proofs.Known.KnownHeld.{known_held}
use Rattle.lowering.proofs.Located.SettingThere.{setting_located, loop_is_found, located_may, located_lowered, located_fits, located_known, located_breaks}
use Rattle.lowering.proofs.lower_loop.lower.Goals as goal

pub unreachable-requires : goal.unreachable-requires
unreachable-requires c =
    let none : fragment_once_at c.args.path.now (program c.program.result.now) ≡ None = subst (IsFoundAt (Some c.args.schema.now) c.args.path.now (program c.program.result.now)) c.in-None.is c.in_ok-located.ensures in
    loop_is_found c.args.schema.now c.args.path.now (program c.args.typed.now.program) c.requires.typed c.requires.loops (subst (λ (p : Program). fragment_once_at c.args.path.now (program p) ≡ None) c.program.ensures none)

-- where the loop stands, from the facts that are known of what was found
found_there : (schema : Schema) (path : List ℕ) (p q : Program) (o : Option Located) (l : Located) → p ≡ q → o ≡ Some l → IsFoundAt (Some schema) path (program p) o → IsLocatedAt (Some schema) path (program q) l
found_there schema path p q o l same is found = subst (λ (z : Program). IsLocatedAt (Some schema) path (program z) l) same (subst (IsFoundAt (Some schema) path (program p)) is found)

pub lower_located-requires : goal.lower_located-requires
lower_located-requires c =
    located_may c.args.schema.now c.args.path.now (program c.args.typed.now.program) c.in-Some.there c.requires.typed
    (found_there c.args.schema.now c.args.path.now c.program.result.now c.args.typed.now.program c.in_ok-located.field-0 c.in-Some.there c.program.ensures c.in-Some.is c.in_ok-located.ensures)
    c.args.typed.now.numbers

pub returns-clause-lowered : goal.returns-clause-lowered
returns-clause-lowered c =
    IfOk-weaker c.lower_located.result (λ l. IsLoweredFrom (setting_located c.args.schema.now c.in-Some.there) c.in-Some.there.first (lowering_in_code l.value) l.value.first l.value.kept) (λ l. IsLowered c.args.schema.now (read_by c.args.schema.now) (program c.args.typed.now.program) c.args.path.now (lowering_in_code l.value) l.value.first l.value.kept)
    (λ l. located_lowered c.args.schema.now c.args.path.now (program c.args.typed.now.program) c.in-Some.there c.requires.typed
    (found_there c.args.schema.now c.args.path.now c.program.result.now c.args.typed.now.program c.in_ok-located.field-0 c.in-Some.there c.program.ensures c.in-Some.is c.in_ok-located.ensures)
    (lowering_in_code l.value) l.value.first l.value.kept)
    c.lower_located.ensures.lowered

pub returns-clause-outside : goal.returns-clause-outside
returns-clause-outside c =
    IfErr-weaker c.lower_located.result (BreaksFirst (setting_located c.args.schema.now c.in-Some.there)) (IsOutside c.args.schema.now (read_by c.args.schema.now) (program c.args.typed.now.program) c.args.path.now)
    (located_breaks c.args.schema.now c.args.path.now (program c.args.typed.now.program) c.in-Some.there c.requires.typed
    (found_there c.args.schema.now c.args.path.now c.program.result.now c.args.typed.now.program c.in_ok-located.field-0 c.in-Some.there c.program.ensures c.in-Some.is c.in_ok-located.ensures))
    c.lower_located.ensures.outside

pub returns-clause-fits : goal.returns-clause-fits
returns-clause-fits c =
    IfOk-weaker c.lower_located.result (λ l. IsLoweredFrom (setting_located c.args.schema.now c.in-Some.there) c.in-Some.there.first (lowering_in_code l.value) l.value.first l.value.kept) (λ l. is_typed c.args.schema.now (fragment_of l.value.frag) ≡ true)
    (λ l. located_fits c.args.schema.now c.args.path.now (program c.args.typed.now.program) c.in-Some.there c.requires.typed
    (found_there c.args.schema.now c.args.path.now c.program.result.now c.args.typed.now.program c.in_ok-located.field-0 c.in-Some.there c.program.ensures c.in-Some.is c.in_ok-located.ensures)
    c.args.typed.now.numbers (lowering_in_code l.value) l.value.first l.value.kept)
    c.lower_located.ensures.lowered

pub returns-clause-known : goal.returns-clause-known
returns-clause-known c =
    IfOk-weaker c.lower_located.result (λ l. IsLoweredFrom (setting_located c.args.schema.now c.in-Some.there) c.in-Some.there.first (lowering_in_code l.value) l.value.first l.value.kept) (λ l. AreKnownTo c.args.schema.now (fragment_of l.value.frag) (map query l.value.known) l.value.known_args)
    (λ l k. known_held c.args.schema.now (fragment_of l.value.frag) l.value.known l.value.known_args
    (located_known c.args.schema.now c.args.path.now (program c.args.typed.now.program) c.in-Some.there c.requires.typed
    (found_there c.args.schema.now c.args.path.now c.program.result.now c.args.typed.now.program c.in_ok-located.field-0 c.in-Some.there c.program.ensures c.in-Some.is c.in_ok-located.ensures)
    c.args.typed.now.numbers (lowering_in_code l.value) l.value.first l.value.kept k))
    c.lower_located.ensures.lowered

pub returns-clause-means : goal.returns-clause-means
returns-clause-means c =
    IfOk-weaker c.lower_located.result (λ l. IsLoweredFrom (setting_located c.args.schema.now c.in-Some.there) c.in-Some.there.first (lowering_in_code l.value) l.value.first l.value.kept) (λ l. (w : Setting) → setting_at c.args.schema.now (read_by c.args.schema.now) c.args.path.now (program c.args.typed.now.program) ≡ Some w → IsMeant c.args.schema.now (read_by c.args.schema.now) (program c.args.typed.now.program) c.args.path.now w (with_numbers l.value.kept l.value.first w.fragment.run))
    (λ l k. lowered_is_meant c.args.schema.now (read_by c.args.schema.now) (program c.args.typed.now.program) c.args.path.now (lowering_in_code l.value) l.value.first l.value.kept c.requires.typed c.args.typed.now.numbers
    (located_lowered c.args.schema.now c.args.path.now (program c.args.typed.now.program) c.in-Some.there c.requires.typed
    (found_there c.args.schema.now c.args.path.now c.program.result.now c.args.typed.now.program c.in_ok-located.field-0 c.in-Some.there c.program.ensures c.in-Some.is c.in_ok-located.ensures)
    (lowering_in_code l.value) l.value.first l.value.kept k))
    c.lower_located.ensures.lowered
