-- What the code gives for a loop of the kernel form, and that it means the loop.
use Rattle.std.specs.Prelude.{◌≡◌, ℕ, List, map}
use Rattle.std.specs.declared.option.Option.{Option}
use Rattle.std.specs.declared.option.Option.TheVariants.{Some}
use Rattle.qbs_base.specs.declared.memory.Fail.{Fail}
use Rattle.qbs_base.specs.declared.memory.Fail.TheVariants.{Fault, NoMemory}
use Rattle.qbs_base.specs.Values.{Schema}
use Rattle.sql_ast.specs.Reading.{query}
use Rattle.sql_ast.specs.Tree.{PlainQuery}
use Rattle.java_ast.specs.Reading.{expression}
use Rattle.java_ast.specs.Tree.{PlainProgram}
use Rattle.kernel_lang.specs.Whole.{fragment_of}
use Rattle.java_loops.specs.Kernel.Kernel.{Broken, outside_at}
use Rattle.java_loops.specs.Lowering.Lowered.{Lowering}
use Rattle.lowering.specs.declared.lowering.lowered.Lowered.{Lowered}
use Rattle.loop_places.specs.declared.outside.Outside.{Outside}

abbrev pub lowering_in_code : Lowered → Lowering
lowering_in_code l =
    record {
      fragment = fragment_of l.frag;
      names = l.names;
      entries = map expression l.entries;
      known = map (λ q. Some (query q)) l.known;
      arguments = l.known_args;
    }

abbrev pub broken_in_code : Outside → Broken
broken_in_code o = record { rule = o.rule; at = o.at }

-- the loop breaks this rule first, at this place; or memory ran out
abbrev pub IsOutside : Schema → (List ℕ → Option PlainQuery) → PlainProgram → List ℕ → Fail Outside → Type 0
IsOutside schema read p path (Fault o) = outside_at schema read path p ≡ Some (broken_in_code o)
IsOutside schema read p path NoMemory = Unit {0}
