-- The numbers of the statements that set a variable of a list are those of the kept ones, where the list has the
-- wanted variables.
use Rattle.std.specs.Prelude.{◌≡◌, ℕ, suc, Bool, true, false, not, ◌&&◌, ◌||◌, List, [], ◌∷◌, ◌++◌, if◌then◌else◌}
use Rattle.std.specs.Str.{bytes_eq}
use Rattle.std.proofs.Common.{refl, sym, ap, ◌∙◌, subst}
use Rattle.java_ast.specs.Tree.{Statement, Statements, Nothing, Then}
use Rattle.java_mean.proofs.Puts.{name_same}
use Rattle.loop_text.specs.Statements.Fragment.{Fragment, is_dropped, IsNeeded, IsWanted, IsKept, IsClosed, based, mentioned, live_or, StandsIn, first, after, is_live, set_by}
use Rattle.loop_text.specs.Statements.KeptStatements as kept
use Rattle.loop_text.specs.Statements.KeptStatements.{AreKept}
use Rattle.java_ast.specs.Names.{Names, is_among, with_names, mentioned_in, mentioned_among}
use Rattle.loop_text.specs.Statements.Wanted.{one_where, setting, mentioned_in_all, drops, keeps_visible, mentioned_where, mentioned_by_visible, wanted_first, AreWanted, HasAll, HasFollowing, keeps_setting, kept_numbers}
use Rattle.loop_setting.specs.Wanted.{all_dropped}
use Rattle.loop_setting.proofs.Following.{either, or_left, or_right, among_left, among_right, from_both, with_left, with_right, from_with}

-- ---- The least set

needed_in_closed : (base dropped : List ℕ → Bool) (run : Statements) (r : List ℕ → Bool) (x : List ℕ) → IsClosed base dropped run r → IsNeeded base dropped run x → r x ≡ true
needed_in_closed base dropped run r _ c (based x h) = c.has_base x h
needed_in_closed base dropped run r _ c (mentioned s x i d n h) = c.has_mentioned s x i d (needed_in_closed base dropped run r (set_by s) c n) h

live_wanted : (f : Fragment) (further : Names) (x : List ℕ) → is_live f x ≡ true → IsWanted f further x
live_wanted f further x h = based x (or_left (is_live f x) (is_among further x) h)

read_wanted : (f : Fragment) (further : Names) (x : List ℕ) → is_among further x ≡ true → IsWanted f further x
read_wanted f further x h = based x (or_right (is_live f x) (is_among further x) h)

-- ---- What is wanted to begin with

visible_mentioned_by : (f : Fragment) (further : Names) (b c : Bool) (s : Statement) (rest : Names) (x : List ℕ) → is_among f.visible (set_by s) ≡ b → drops f (set_by s) ≡ c → StandsIn s f.run → (is_among rest x ≡ true → IsWanted f further x) → is_among (mentioned_where (b && not c) s ++ rest) x ≡ true → IsWanted f further x
visible_mentioned_by f further true false s rest x v kept stands below h =
    from_both (mentioned_in s) rest x
    (λ k. mentioned s x stands kept (live_wanted f further (set_by s) (or_left (is_among f.visible (set_by s)) (is_among (with_names [] (mentioned_among f.behind)) (set_by s)) v)) k)
    below
    h
visible_mentioned_by f further true true s rest x v kept stands below h = below h
visible_mentioned_by f further false c s rest x v kept stands below h = below h

visible_mentioned : (f : Fragment) (further : Names) (x : List ℕ) (ss : Statements) → ((s : Statement) → StandsIn s ss → StandsIn s f.run) → is_among (mentioned_by_visible f ss) x ≡ true → IsWanted f further x
visible_mentioned f further x Nothing within h = absurd cc
visible_mentioned f further x (Then s ss) within h =
    visible_mentioned_by f further (is_among f.visible (set_by s)) (drops f (set_by s)) s (mentioned_by_visible f ss) x refl refl (within s (first s ss))
    (visible_mentioned f further x ss (λ t stands. within t (after t s ss stands)))
    h

pub first_are_wanted : (f : Fragment) (further : Names) → AreWanted f further (wanted_first f further)
first_are_wanted f further =
    record {
      by = λ x h.
          from_with (with_names (with_names [] (mentioned_among f.behind)) further) (mentioned_by_visible f f.run) x
          (λ k.
          from_with (with_names [] (mentioned_among f.behind)) further x
          (λ m. live_wanted f further x (or_right (is_among f.visible x) (is_among (with_names [] (mentioned_among f.behind)) x) m))
          (λ r. read_wanted f further x r)
          k)
          (λ k. visible_mentioned f further x f.run (λ s stands. stands) k)
          h;
    }

-- ---- A list with the wanted variables that the run sets

here_kept : (b c : Bool) (s : Statement) (rest : Names) (x : List ℕ) → b ≡ true → c ≡ false → is_among (mentioned_in s) x ≡ true → is_among (mentioned_where (b && not c) s ++ rest) x ≡ true
here_kept true false s rest x v kept m = among_left (mentioned_in s) rest x m
here_kept true true s rest x v kept m = absurd cc
here_kept false c s rest x v kept m = absurd cc

mentioned_where_visible : (f : Fragment) (s : Statement) (x : List ℕ) (ss : Statements) → StandsIn s ss → is_among f.visible (set_by s) ≡ true → drops f (set_by s) ≡ false → is_among (mentioned_in s) x ≡ true → is_among (mentioned_by_visible f ss) x ≡ true
mentioned_where_visible f _ x _ (first s ss) v kept m = here_kept (is_among f.visible (set_by s)) (drops f (set_by s)) s (mentioned_by_visible f ss) x v kept m
mentioned_where_visible f _ x _ (after s a ss stands) v kept m =
    among_right (mentioned_where (keeps_visible f (set_by a)) a) (mentioned_by_visible f ss) x (mentioned_where_visible f s x ss stands v kept m)

here_mentioned : (b : Bool) (s : Statement) (rest : List Statement) (x : List ℕ) → b ≡ true → is_among (mentioned_in s) x ≡ true → is_among (mentioned_in_all (one_where b s ++ rest)) x ≡ true
here_mentioned true s rest x h m = among_left (mentioned_in s) (mentioned_in_all rest) x m
here_mentioned false s rest x h m = absurd cc

later_mentioned : (b : Bool) (s : Statement) (rest : List Statement) (x : List ℕ) → is_among (mentioned_in_all rest) x ≡ true → is_among (mentioned_in_all (one_where b s ++ rest)) x ≡ true
later_mentioned true s rest x m = among_right (mentioned_in s) (mentioned_in_all rest) x m
later_mentioned false s rest x m = m

mentioned_where_set : (s : Statement) (x : List ℕ) (ss : Statements) → StandsIn s ss → is_among (mentioned_in s) x ≡ true → is_among (mentioned_in_all (setting (set_by s) ss)) x ≡ true
mentioned_where_set _ x _ (first s ss) m = here_mentioned (bytes_eq (set_by s) (set_by s)) s (setting (set_by s) ss) x (name_same (set_by s)) m
mentioned_where_set _ x _ (after s a ss stands) m =
    later_mentioned (bytes_eq (set_by a) (set_by s)) a (setting (set_by s) ss) x (mentioned_where_set s x ss stands m)

follows_by : (b : Bool) (xs : Names) (x : List ℕ) → b ≡ false → is_among xs x ≡ true → is_among (if b then [] else xs) x ≡ true
follows_by true xs x h m = absurd cc
follows_by false xs x h m = m

follows_from : (f : Fragment) (xs : Names) (s : Statement) (x : List ℕ) → HasFollowing f xs xs → StandsIn s f.run → drops f (set_by s) ≡ false → is_among (mentioned_in s) x ≡ true → is_among xs (set_by s) ≡ true → is_among xs x ≡ true
follows_from f xs s x has stands kept m there =
    has.by (set_by s) x there (follows_by (drops f (set_by s)) (mentioned_in_all (setting (set_by s) f.run)) x kept (mentioned_where_set s x f.run stands m))

behind_at_first : (f : Fragment) (further : Names) (x : List ℕ) → is_among (with_names [] (mentioned_among f.behind)) x ≡ true → is_among (wanted_first f further) x ≡ true
behind_at_first f further x h =
    with_left (with_names (with_names [] (mentioned_among f.behind)) further) (mentioned_by_visible f f.run) x (with_left (with_names [] (mentioned_among f.behind)) further x h)

closed : (f : Fragment) (further xs : Names) → HasAll xs (wanted_first f further) → HasFollowing f xs xs → IsClosed (live_or f further) (drops f) f.run (λ x. is_live f x || is_among xs x)
closed f further xs all has =
    record {
      has_base = λ x h.
          either (is_live f x) (is_among further x)
          (λ l. or_left (is_live f x) (is_among xs x) l)
          (λ r. or_right (is_live f x) (is_among xs x) (all.by x (with_left (with_names (with_names [] (mentioned_among f.behind)) further) (mentioned_by_visible f f.run) x (with_right (with_names [] (mentioned_among f.behind)) further x r))))
          h;
      has_mentioned = λ s x stands kept there m. or_right (is_live f x) (is_among xs x)
          (either (is_live f (set_by s)) (is_among xs (set_by s))
          (either (is_among f.visible (set_by s)) (is_among (with_names [] (mentioned_among f.behind)) (set_by s))
          (λ v. all.by x (with_right (with_names (with_names [] (mentioned_among f.behind)) further) (mentioned_by_visible f f.run) x (mentioned_where_visible f s x f.run stands v kept m)))
          (λ k. follows_from f xs s x has stands kept m (all.by (set_by s) (behind_at_first f further (set_by s) k))))
          (λ k. follows_from f xs s x has stands kept m k)
          there);
    }

-- ---- The numbers

both_left : (b c : Bool) → (b && not c) ≡ true → b ≡ true
both_left true c h = refl
both_left false c h = cc

both_right : (b c : Bool) → (b && not c) ≡ true → c ≡ false
both_right true true h = cc
both_right true false h = refl
both_right false c h = absurd cc

no_both : (b c : Bool) → (b && not c) ≡ false → b ≡ true → c ≡ false → ⊥
no_both true true h there absent = cc
no_both true false h there absent = cc
no_both false c h there absent = cc

wanted_where : (f : Fragment) (further xs : Names) (x : List ℕ) → AreWanted f further xs → (is_among f.visible x || is_among xs x) ≡ true → IsWanted f further x
wanted_where f further xs x wanted h =
    either (is_among f.visible x) (is_among xs x)
    (λ v. live_wanted f further x (or_left (is_among f.visible x) (is_among (with_names [] (mentioned_among f.behind)) x) v))
    (wanted.by x)
    h

where_wanted : (f : Fragment) (further xs : Names) (x : List ℕ) → HasAll xs (wanted_first f further) → HasFollowing f xs xs → IsWanted f further x → (is_among f.visible x || is_among xs x) ≡ true
where_wanted f further xs x all has wanted =
    either (is_live f x) (is_among xs x)
    (either (is_among f.visible x) (is_among (with_names [] (mentioned_among f.behind)) x)
    (or_left (is_among f.visible x) (is_among xs x))
    (λ k. or_right (is_among f.visible x) (is_among xs x) (all.by x (behind_at_first f further x k))))
    (or_right (is_among f.visible x) (is_among xs x))
    (needed_in_closed (live_or f further) (drops f) f.run (λ y. is_live f y || is_among xs y) x (closed f further xs all has) wanted)

kept_step : (b : Bool) (f : Fragment) (further xs : Names) (n : ℕ) (s : Statement) (ss : Statements) (numbers : List ℕ) → keeps_setting f xs (set_by s) ≡ b → AreWanted f further xs → HasAll xs (wanted_first f further) → HasFollowing f xs xs → AreKept f further (suc n) ss numbers → AreKept f further n (Then s ss) (if b then n ∷ numbers else numbers)
kept_step true f further xs n s ss numbers is wanted all has rest =
    kept.keeps n s ss numbers
    (record { not_dropped = both_right (is_among f.visible (set_by s) || is_among xs (set_by s)) (drops f (set_by s)) is; wanted = wanted_where f further xs (set_by s) wanted (both_left (is_among f.visible (set_by s) || is_among xs (set_by s)) (drops f (set_by s)) is) })
    rest
kept_step false f further xs n s ss numbers is wanted all has rest =
    kept.drops n s ss numbers
    (λ (k : IsKept f further s).
    no_both (is_among f.visible (set_by s) || is_among xs (set_by s)) (drops f (set_by s)) is (where_wanted f further xs (set_by s) all has k.wanted) k.not_dropped)
    rest

kept_among : (f : Fragment) (further xs : Names) (n : ℕ) (ss : Statements) → AreWanted f further xs → HasAll xs (wanted_first f further) → HasFollowing f xs xs → AreKept f further n ss (kept_numbers f xs n ss)
kept_among f further xs n Nothing wanted all has = kept.none n
kept_among f further xs n (Then s ss) wanted all has =
    kept_step (keeps_setting f xs (set_by s)) f further xs n s ss (kept_numbers f xs (suc n) ss) refl wanted all has (kept_among f further xs (suc n) ss wanted all has)

pub are_kept : (f : Fragment) (further xs : Names) (n : ℕ) (numbers : List ℕ) → AreWanted f further xs → HasAll xs (wanted_first f further) → HasFollowing f xs xs → numbers ≡ kept_numbers f xs n f.run → AreKept f further n f.run numbers
are_kept f further xs n numbers wanted all has is = subst (AreKept f further n f.run) (sym is) (kept_among f further xs n f.run wanted all has)

-- ---- All are dropped

pub all_on : (f : Fragment) (s : Statement) (now rest : Statements) (all : Bool) → now ≡ Then s rest → is_dropped f s ≡ true → all_dropped f now ≡ all → all_dropped f rest ≡ all
all_on f s now rest all e d h = sym (ap (λ (b : Bool). b && all_dropped f rest) d) ∙ sym (ap (all_dropped f) e) ∙ h

pub all_off : (f : Fragment) (s : Statement) (now rest : Statements) (all : Bool) → now ≡ Then s rest → is_dropped f s ≡ false → all_dropped f now ≡ all → false ≡ all
all_off f s now rest all e d h = sym (ap (λ (b : Bool). b && all_dropped f rest) d) ∙ sym (ap (all_dropped f) e) ∙ h

both_are : {P : Type 0} (b c : Bool) → (b ≡ true → c ≡ true → P) → (b && c) ≡ true → P
both_are true c p h = p refl h
both_are false c p h = absurd cc

no_kept : (f : Fragment) (further : Names) (s : Statement) → is_dropped f s ≡ true → IsKept f further s → ⊥
no_kept f further s dropped k = let e : true ≡ false = sym dropped ∙ k.not_dropped in cc

pub none_kept : (f : Fragment) (further : Names) (n : ℕ) (ss : Statements) → all_dropped f ss ≡ true → AreKept f further n ss []
none_kept f further n Nothing h = kept.none n
none_kept f further n (Then s ss) h =
    both_are (is_dropped f s) (all_dropped f ss) (λ d rest. kept.drops n s ss [] (no_kept f further s d) (none_kept f further (suc n) ss rest)) h
