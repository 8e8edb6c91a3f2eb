use Rattle.std.proofs.Common.{◌≡◌, map, drop}
use Rattle.std.specs.Prelude.{None}
use Rattle.std.specs.Option.{option_map}
use Rattle.java_ast.specs.Reading.{statement, statements}
use Rattle.loop_text.specs.Sites.Reading.{round_of, site_of}
use Rattle.loop_text.specs.Sites.Sites.{walk_all}
use Rattle.loop_text.proofs.sites.list.+walk.Given as goal

abbrev pub invariant-walk_all-loop-s : goal.invariant-walk_all-loop-s
invariant-walk_all-loop-s l =
    walk_all (round_of l.r) (option_map (λ p. statement p.now) l.previous) (statements (drop l.s-index l.block)) (map site_of l.met)
    ≡ walk_all (round_of l.fn.r) None (statements l.fn.block) (map site_of l.fn.met)
