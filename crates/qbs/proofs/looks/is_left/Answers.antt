use Rattle.std.proofs.Common.{◌≡◌, ℕ, map, Some, sym, subst, rules}
use Rattle.java_ast.specs.Reading.{program as plain_program, method as plain_method}
use Rattle.java_grammar.specs.InGrammar.{IsInGrammar}
use Rattle.java_grammar.specs.Written.{IsWritten}
use Rattle.view_slices.specs.Reading.{slice as plain_slice}
use Rattle.view_slices.specs.Slices.{file_of}
use Rattle.qbs.specs.SeenAgain.{stood_in, slice_class}
use Rattle.qbs.proofs.Looking.{alone_in_grammar, alone_written, method_held, left_by}
use Rattle.qbs.proofs.looks.is_left.Goals as goal

pub is_text_of-requires-clause-grammar : goal.is_text_of-requires-clause-grammar
is_text_of-requires-clause-grammar c =
    let same : c.as_slice.result.now ≡ c.args.source.now.left.now.methods = search rules in
    subst IsInGrammar (sym c.in_ok-program-in-Some.ensures)
    (alone_in_grammar (plain_program c.args.source.now.left.now) c.args.number (plain_method c.in-Some.method.now) c.requires.grammar
    (method_held c.args.source.now.left.now.methods c.as_slice.result.now c.args.number c.in-Some.method.now same c.in-Some.ensures.lookup.3.0 c.in-Some.ensures.lookup.1))

pub is_text_of-requires-clause-written : goal.is_text_of-requires-clause-written
is_text_of-requires-clause-written c =
    let same : c.as_slice.result.now ≡ c.args.source.now.left.now.methods = search rules in
    subst IsWritten (sym c.in_ok-program-in-Some.ensures)
    (alone_written (plain_program c.args.source.now.left.now) c.args.number (plain_method c.in-Some.method.now) c.requires.written
    (method_held c.args.source.now.left.now.methods c.as_slice.result.now c.args.number c.in-Some.method.now same c.in-Some.ensures.lookup.3.0 c.in-Some.ensures.lookup.1))

pub returns-in_ok-text-in-Some : goal.returns-in_ok-text-in-Some
returns-in_ok-text-in-Some c =
    let same : c.as_slice.result.now ≡ c.args.source.now.left.now.methods = search rules in
    left_by c.is_text_of.result c.in_ok-text-in-Some.text (plain_program c.in_ok-program-in-Some.program)
    (λ (j : ℕ). slice_class c.args.source.now.map.now c.args.source.now.schema.now (file_of c.args.file.now) j (stood_in c.args.read.now (plain_slice c.args.again.now)))
    c.in_ok-following-in-Some.field-0 c.args.number (map plain_method c.args.source.now.left.now.methods) (plain_method c.in-Some.method.now)
    c.is_text_of.ensures c.in_ok-text-in-Some.ensures c.in_ok-following-in-Some.ensures c.in_ok-program-in-Some.ensures
    (method_held c.args.source.now.left.now.methods c.as_slice.result.now c.args.number c.in-Some.method.now same c.in-Some.ensures.lookup.3.0 c.in-Some.ensures.lookup.1)
