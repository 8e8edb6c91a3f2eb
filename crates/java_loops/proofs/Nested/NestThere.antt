-- The loop of a well-typed program that is of the kernel form is a nest.
use Rattle.std.proofs.Common.{◌≡◌, ℕ, true, List, Option, Some, None, refl}
use Rattle.qbs_base.specs.Values.{Schema}
use Rattle.sql_ast.specs.Tree.{PlainQuery}
use Rattle.java_ast.specs.Tree.{Nothing, PlainProgram}
use Rattle.java_mean.specs.Asks.{frame_of}
use Rattle.java_mean.specs.Numbers.{NumbersFit}
use Rattle.java_mean.specs.Types.{Types}
use Rattle.java_mean.specs.WellTyped.{IsWellTyped}
use Rattle.loop_text.specs.Statements.Fragment.{Fragment, fragment_at}
use Rattle.java_loops.specs.Kernel.Kernel.{broken}
use Rattle.java_loops.specs.Kernel.Kernel as kernel
use Rattle.java_loops.specs.Kernel.Setting.{Setting, setting_of}
use Rattle.loop_text.specs.Sites.Sites.{kernel_body}
use Rattle.java_loops.proofs.Nested.Nest.{BodyIsNest, body_is_nest}
use Rattle.java_loops.proofs.Nested.NestBlocks.{all_breaks_last}
use Rattle.java_loops.proofs.Nested.NestBreaks.{places_break, body_breaks}
use Rattle.java_loops.proofs.Placing.Place.{IsPlacedIn}
use Rattle.java_loops.proofs.Placing.PlaceLoop.{kernel_unbroken}
use Rattle.java_loops.proofs.Placing.PlaceTyped.{FragmentThere, fragment_there}

pub loop_breaks : (schema : Schema) (read : List ℕ → Option PlainQuery) (p : PlainProgram) (path : List ℕ) (f : Fragment) → IsWellTyped schema read p → IsPlacedIn p path f → all_breaks_last (kernel_body f.loop) ≡ true
loop_breaks schema read p path f t k = body_breaks f.loop (places_break schema read p k.number k.method k.placed.hole f.run f.loop Nothing t k.found k.placed.is)

-- Where the fragment to whose loop a path leads breaks no rule of the kernel form, the body of the loop is a nest.
pub fragment_is_nest : (schema : Schema) (read : List ℕ → Option PlainQuery) (p : PlainProgram) (path : List ℕ) (f : Fragment) (g : Types) → IsWellTyped schema read p → NumbersFit p → fragment_at path p ≡ Some f → kernel.types_at schema path p ≡ Some g → broken (setting_of schema read g f) ≡ None → BodyIsNest (setting_of schema read g f) g f.loop
fragment_is_nest schema read p path f g t fits is seen none =
    let w : Setting = setting_of schema read g f in
    let k : FragmentThere schema read p path f g = fragment_there schema read p path f g t fits is seen in
    body_is_nest w refl (kernel_unbroken w none) (frame_of schema read k.place.method) k.typed.loop g k.typed.after (record { by = k.typed.named }) k.typed.body (loop_breaks schema read p path f t k.place)
