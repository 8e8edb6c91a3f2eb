use Rattle.std.proofs.Common.{◌≡◌, ◌≤◌, ◌∙◌, arith, map}
use Rattle.loop_text.specs.Kernel.KernelLists.{count_loops}
use Rattle.java_loops.specs.Lowering.Numbering.{loop_number}
use Rattle.loop_text.specs.Sites.Reading.{site_of}
use Rattle.lowering.specs.InCode.Tallied.{is_loop_site}
use Rattle.lowering.proofs.Lowerings.Tallies.{tally_is, loops_fewer}
use Rattle.lowering.proofs.numbering.counts.loop_number.Goals as goal

pub returns : goal.returns
returns c = c.at.ensures ∙ tally_is is_loop_site (map site_of c.args.w.now.sites.now) c.args.c.now.loops c.args.n c.requires.loops

pub overflow_cast-result : goal.overflow_cast-result
overflow_cast-result c =
    let e : c.at.result ≡ loop_number (map site_of c.args.w.now.sites.now) c.args.n = c.at.ensures ∙ tally_is is_loop_site (map site_of c.args.w.now.sites.now) c.args.c.now.loops c.args.n c.requires.loops in
    let f : loop_number (map site_of c.args.w.now.sites.now) c.args.n ≤ count_loops (map site_of c.args.w.now.sites.now) = loops_fewer c.args.n (map site_of c.args.w.now.sites.now) in
    let g : count_loops (map site_of c.args.w.now.sites.now) ≤ 256 = c.requires.few.loops in
    omega arith
