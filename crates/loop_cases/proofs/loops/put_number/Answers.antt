use Rattle.std.proofs.Common.{ℕ, List, length, slice_get, refl, sym, ap, ◌∙◌}
use Rattle.std.proofs.lemmas.Option.{slice_get_read}
use Rattle.java_ast.specs.Reading.{program as plain_program}
use Rattle.java_loops.proofs.Placing.PathsLead.{listed_is_loop}
use Rattle.loop_cases.proofs.loops.put_number.Goals as goal

pub lower-requires-clause-loops : goal.lower-requires-clause-loops
lower-requires-clause-loops c =
    listed_is_loop (plain_program c.args.typed.now.program) c.args.number c.in-Some.path.now
    (ap (λ (paths : List (List ℕ)). slice_get paths c.args.number) (sym (c.as_slice.ensures ∙ c.requires.loops))
    ∙ slice_get_read c.as_slice.result.now (length c.as_slice.result.now) c.args.number c.in-Some.path.now refl c.in-Some.ensures.lookup.3.0 c.in-Some.ensures.lookup.1)
