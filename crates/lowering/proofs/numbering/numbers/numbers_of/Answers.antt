use Rattle.std.proofs.Common.{◌≡◌, ◌≤◌, ◌∙◌, List, [], ap, arith, length, map}
use Rattle.std.proofs.lemmas.List.{length-map}
use Rattle.lowering.specs.InCode.Numbered.{leaf_in_code}
use Rattle.java_loops.specs.Lowering.Numbering.{Leaf, known_among, known_of, numbers_of}
use Rattle.java_ast.specs.Names.{names_lent}
use Rattle.lowering.specs.InCode.Reading.{setting_in_code}
use Rattle.lowering.specs.declared.numbering.leaves.Leaf as code
use Rattle.java_loops.proofs.Known.KnownFew.{known_few}
use Rattle.lowering.proofs.numbering.numbers.numbers_of.Goals as goal

pub returns-then-len-gt-MOST_KNOWN : goal.returns-then-len-gt-MOST_KNOWN
returns-then-len-gt-MOST_KNOWN c =
    let known : names_lent c.in_ok-known.known ≡ known_of (setting_in_code c.args.w.now) =
    c.in_ok-known.ensures
    ∙ ap (λ (ls : List code.Leaf). known_among [] (map leaf_in_code ls)) c.as_slice.ensures
    ∙ ap (λ (ls : List Leaf). known_among [] ls) c.in_ok-leaves.ensures in
    let few : length (known_of (setting_in_code c.args.w.now)) ≤ length (numbers_of (setting_in_code c.args.w.now)).atoms = known_few (setting_in_code c.args.w.now) in
    let same : length (names_lent c.in_ok-known.known) ≡ length (known_of (setting_in_code c.args.w.now)) = ap length known in
    λ _. omega (arith, length-map c.in_ok-known.known (λ x. x.now))
