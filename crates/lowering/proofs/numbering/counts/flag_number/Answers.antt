use Rattle.std.proofs.Common.{◌≡◌, ℕ, ◌+◌, ◌≤◌, ◌∙◌, ap, arith, length, map, take}
use Rattle.loop_text.specs.Statements.Fragment.{accumulators, needed_of}
use Rattle.java_loops.specs.Lowering.Numbering.{count_flags}
use Rattle.loop_setting.specs.Reading.{fragment_in_code}
use Rattle.loop_text.specs.Sites.Reading.{site_of}
use Rattle.lowering.specs.InCode.Tallied.{is_flag_site}
use Rattle.lowering.proofs.Lowerings.Tallies.{tally_is, flags_fewer, needed_fewer}
use Rattle.lowering.proofs.numbering.counts.flag_number.Goals as goal

pub returns : goal.returns
returns c =
    ap (λ (m : ℕ). m + c.at.result) c.requires.needed
    ∙ ap (λ (m : ℕ). length (needed_of (fragment_in_code c.args.w.now.fragment)) + m) (c.at.ensures ∙ tally_is is_flag_site (map site_of c.args.w.now.sites.now) c.args.c.now.flags c.args.d c.requires.flags)

pub overflow_cast-result : goal.overflow_cast-result
overflow_cast-result c =
    let e : c.at.result ≡ count_flags (take c.args.d (map site_of c.args.w.now.sites.now)) = c.at.ensures ∙ tally_is is_flag_site (map site_of c.args.w.now.sites.now) c.args.c.now.flags c.args.d c.requires.flags in
    let f : count_flags (take c.args.d (map site_of c.args.w.now.sites.now)) ≤ count_flags (map site_of c.args.w.now.sites.now) = flags_fewer c.args.d (map site_of c.args.w.now.sites.now) in
    let g : length (accumulators (fragment_in_code c.args.w.now.fragment)) + count_flags (map site_of c.args.w.now.sites.now) ≤ 8 = c.requires.few.accs in
    let h : length (needed_of (fragment_in_code c.args.w.now.fragment)) ≤ length (accumulators (fragment_in_code c.args.w.now.fragment)) = needed_fewer (fragment_in_code c.args.w.now.fragment) in
    let i : c.args.c.now.needed ≡ length (needed_of (fragment_in_code c.args.w.now.fragment)) = c.requires.needed in
    omega arith

pub overflow_add-result : goal.overflow_add-result
overflow_add-result c =
    let e : c.at.result ≡ count_flags (take c.args.d (map site_of c.args.w.now.sites.now)) = c.at.ensures ∙ tally_is is_flag_site (map site_of c.args.w.now.sites.now) c.args.c.now.flags c.args.d c.requires.flags in
    let f : count_flags (take c.args.d (map site_of c.args.w.now.sites.now)) ≤ count_flags (map site_of c.args.w.now.sites.now) = flags_fewer c.args.d (map site_of c.args.w.now.sites.now) in
    let g : length (accumulators (fragment_in_code c.args.w.now.fragment)) + count_flags (map site_of c.args.w.now.sites.now) ≤ 8 = c.requires.few.accs in
    let h : length (needed_of (fragment_in_code c.args.w.now.fragment)) ≤ length (accumulators (fragment_in_code c.args.w.now.fragment)) = needed_fewer (fragment_in_code c.args.w.now.fragment) in
    let i : c.args.c.now.needed ≡ length (needed_of (fragment_in_code c.args.w.now.fragment)) = c.requires.needed in
    omega arith
