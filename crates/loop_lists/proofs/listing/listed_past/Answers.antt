use Rattle.std.proofs.Common.{◌≡◌, ◌<◌, ◌-◌, length, map, refl, arith}
use Rattle.java_ast.specs.Reading.{method as plain_method}
use Rattle.loop_lists.proofs.MethodLoops.{lists_within}
use Rattle.loop_lists.proofs.listing.listed_past.Goals as goal

pub returns-then-standing-listed : goal.returns-then-standing-listed
returns-then-standing-listed c =
    let many : c.len.result ≡ length c.args.listed.paths = c.len.ensures in
    let within : (c.args.standing - c.args.listed.before) - c.args.listed.from < length c.args.listed.paths = omega (arith, many, c.if-standing-listed.true) in
    lists_within (map plain_method c.args.methods.now) c.args.standing c.args.listed.number c.args.listed.before c.requires.behind c.requires.before c.args.listed.from c.args.listed.upto c.args.listed.paths c.requires.paths c.requires.reached within c.args.listed refl
