use Rattle.std.proofs.Common.{◌≡◌, ◌≤◌, ◌<◌, ◌+◌, ◌-◌, ℕ, suc, List, [], length, map, take, drop, refl, ap, ◌∙◌, subst, arith}
use Rattle.std.proofs.lemmas.List.{length-map}
use Rattle.java_ast.specs.Reading.{method as plain_method}
use Rattle.loop_text.specs.Statements.Loops.{loops_of_methods}
use Rattle.loop_lists.specs.Lists.{loops_numbered}
use Rattle.loop_lists.specs.Windows.{Sees}
use Rattle.loop_lists.proofs.MethodLoops.{lists_within, lists_end, one_method_more}
use Rattle.loop_lists.proofs.Windows.{all_before}
use Rattle.loop_lists.proofs.listing.listed_from.Goals as goal

pub returns-then-len-gt0 : goal.returns-then-len-gt0
returns-then-len-gt0 c =
    let from : ℕ = c.args.standing - c.loop-number.before in
    let up : c.in-Some-checked_add.upto ≡ from + c.in-Some.most = omega (arith, c.in-Some-checked_add.ensures) in
    let begins : c.in-Some-checked_add.upto - c.in-Some.most ≡ from = omega (arith, up) in
    let some : from - from < length c.in_ok-seen.seen.paths = omega (arith, c.len.ensures, c.if-len-gt0.true) in
    lists_within (map plain_method c.args.methods.now) c.args.standing c.loop-number.number c.loop-number.before c.loop-number.invariant.behind c.loop-number.invariant.is from c.in-Some-checked_add.upto c.in_ok-seen.seen.paths
    (c.in_ok-seen.ensures.found ∙ ap (λ (k : ℕ). drop k (take c.in-Some-checked_add.upto (loops_numbered c.loop-number.number (map plain_method c.args.methods.now)))) begins)
    (omega (arith, c.loop-number.invariant.behind)) some
    (record { number = c.loop-number.number; before = c.loop-number.before; from = from; upto = c.in-Some-checked_add.upto; paths = c.in_ok-seen.seen.paths }) refl

pub loop-number-preserved : goal.loop-number-preserved
loop-number-preserved c =
    let from : ℕ = c.args.standing - c.loop-number.before in
    let own : List (List ℕ) = loops_numbered c.loop-number.number (map plain_method c.args.methods.now) in
    let up : c.in-Some-checked_add.upto ≡ from + c.in-Some.most = omega (arith, c.in-Some-checked_add.ensures) in
    let none : length c.in_ok-seen.seen.paths ≡ 0 = omega (arith, c.len.ensures, c.if-len-gt0.false) in
    let some : 0 < c.in-Some.most = omega (arith, c.in-Some.ensures) in
    let k = all_before c.in-Some.most from own c.in_ok-seen.seen.left c.in_ok-seen.seen.paths some (subst (λ (n : ℕ). Sees c.in-Some.most own n c.in_ok-seen.seen.left [] c.in_ok-seen.seen.paths) up c.in_ok-seen.ensures) none in
    let many : c.in-Some-checked_add.upto - c.in_ok-seen.seen.left ≡ length own = ap (λ (n : ℕ). n - c.in_ok-seen.seen.left) up ∙ k.1.0 in
    let few : length own ≤ from = k.1.1 in
    let next : suc c.loop-number.number ≡ c.loop-number.number + 1 = omega arith in
    record {
      behind = omega (arith, many, few, c.loop-number.invariant.behind);
      is = one_method_more (map plain_method c.args.methods.now) c.args.standing c.loop-number.number c.loop-number.before c.loop-number.invariant.behind c.loop-number.invariant.is (c.in-Some-checked_add.upto - c.in_ok-seen.seen.left) many
          ∙ ap (λ (n : ℕ). length (loops_of_methods 0 (take n (map plain_method c.args.methods.now)))) next;
    }

pub returns : goal.returns
returns c =
    let same : length (map plain_method c.args.methods.now) ≡ length c.args.methods.now = length-map c.args.methods.now plain_method in
    let past : length (map plain_method c.args.methods.now) ≤ c.loop-number.number = omega (arith, c.loop-number-test.false) in
    lists_end (map plain_method c.args.methods.now) c.args.standing c.loop-number.number c.loop-number.before c.loop-number.invariant.behind c.loop-number.invariant.is past c.new.result c.new.ensures
    (record { number = c.loop-number.number; before = c.loop-number.before; from = 0; upto = 0; paths = c.new.result }) refl
