use Rattle.std.proofs.Common.{◌≤◌, ◌<◌, ◌∙◌, length, arith, sym, subst}
use Rattle.std.proofs.lemmas.Bool.{ltb-true, ltb-false}
use Rattle.std.proofs.lemmas.List.{length-map}
use Rattle.java_ast.specs.Names.{Names, names_lent}
use Rattle.loop_setting.specs.Reading.{fragment_in_code}
use Rattle.loop_text.specs.Statements.Wanted.{AreWanted, HasAll, following}
use Rattle.loop_setting.proofs.Following.{less_left, still_within, wanted_step, all_step, one_looked_at, all_looked_at}
use Rattle.loop_setting.proofs.kept.keeping.put_all_following.Goals as goal

pub loop-list-smaller : goal.loop-list-smaller
loop-list-smaller c =
    let f = fragment_in_code c.args.f.now in
    let xs = names_lent c.loop-list.list.names in
    let within : c.loop-list.i < length xs = omega (arith, ltb-true _ _ (sym c.are_left.ensures ∙ c.loop-list-test.true), length-map c.loop-list.list.names (λ x. x.now)) in
    less_left f xs (names_lent c.put_following.new.list.names) c.loop-list.i c.name_at-x.result.now c.in_ok-put_following.ensures.names within

pub loop-list-preserved : goal.loop-list-preserved
loop-list-preserved c =
    let f = fragment_in_code c.args.f.now in
    let xs = names_lent c.loop-list.list.names in
    let x = c.name_at-x.result.now in
    let is = c.in_ok-put_following.ensures.names in
    let within : c.loop-list.i < length xs = omega (arith, ltb-true _ _ (sym c.are_left.ensures ∙ c.loop-list-test.true), length-map c.loop-list.list.names (λ x. x.now)) in
    record {
      listed = c.in_ok-put_following.ensures.listed;
      within = still_within xs (following f x) (names_lent c.put_following.new.list.names) c.loop-list.i is within;
      wanted = λ further wanted. subst (AreWanted f further) (sym is) (wanted_step f further xs c.loop-list.i x (sym c.name_at-x.ensures) (c.loop-list.invariant.wanted further wanted));
      all = subst (λ (new : Names). HasAll new (names_lent c.args.list.now.names)) (sym is) (all_step f xs (names_lent c.args.list.now.names) (following f x) c.loop-list.invariant.all);
      following = one_looked_at f xs (names_lent c.put_following.new.list.names) c.loop-list.i x is (sym c.name_at-x.ensures) within c.loop-list.invariant.following;
    }

pub returns-clause-following : goal.returns-clause-following
returns-clause-following c =
    let xs = names_lent c.loop-list.list.names in
    let past : length xs ≤ c.loop-list.i = omega (arith, ltb-false _ _ (sym c.are_left.ensures ∙ c.loop-list-test.false), length-map c.loop-list.list.names (λ x. x.now)) in
    all_looked_at (fragment_in_code c.args.f.now) xs c.loop-list.i c.loop-list.invariant.within past c.loop-list.invariant.following
