-- A program keeps what it does where the loop to which a path leads gives way to kept statements and asks.
use Rattle.std.proofs.Common.{◌≡◌, ℕ, zero, suc, ◌+◌, ◌≤◌, Bool, true, false, List, [], ◌∷◌, ◌++◌, Option, Some, None, refl, sym, ap, ◌∙◌, subst, arith}
use Rattle.qbs_base.specs.Values.{Schema}
use Rattle.sql_ast.specs.Tree.{PlainQuery}
use Rattle.java_ast.specs.Path as paths
use Rattle.java_ast.specs.Path.{found_in, and_then, numbered, branch_of, behind_of, last_of, statement_in, statement_at, replaced_in, replaced_at, with_body, with_methods}
use Rattle.java_ast.specs.Tree.{Statement, Statements, Nothing, Then, PlainMethod, PlainProgram}
use Rattle.java_mean.specs.Keeps.{Keeps}
use Rattle.java_mean.specs.Numbers.{NumbersFit}
use Rattle.java_mean.specs.Queries.{Reader}
use Rattle.java_mean.specs.Refines.{followed_by, fill}
use Rattle.java_mean.specs.Types.{Types}
use Rattle.java_mean.specs.WellTyped.{IsWellTyped}
use Rattle.java_loops.specs.Walks.Places.{place_in, of_branch, branch_there, run_in}
use Rattle.java_loops.specs.Walks.Reads.{Set}
use Rattle.java_loops.specs.Walks.Replacing.{Ask, asked, replacement}
use Rattle.java_loops.proofs.Walks.Placed.{replaced_fills}
use Rattle.java_loops.proofs.Walks.PlacedPrograms.{MethodAt, method_at}
use Rattle.java_loops.specs.Meant.Asking.{AskForLoop, rewritten_at}
use Rattle.loop_text.specs.Statements.Fragment.{Fragment, before_run, run_of, fragment_of, fragment_where, fragment_here, fragment_in, fragment_at}
use Rattle.java_loops.specs.Kernel.Kernel.{broken, lowering, setting_there, setting_at}
use Rattle.java_loops.specs.Kernel.Kernel as kernel
use Rattle.loop_text.specs.Statements.KeptStatements.{how_many, first_in, first_at, AreKept, with_numbers}
use Rattle.loop_text.specs.Statements.Loops.{is_loop}
use Rattle.java_ast.specs.Names.{names_read, Names, with_names, declared_among, walking, names_of_params}
use Rattle.java_loops.specs.Kernel.Setting.{Setting, setting_of}
use Rattle.java_loops.proofs.Kept.KeptAsks.{asks_stand}
use Rattle.java_loops.specs.Meant.KeptNumbers.{kept_set}
use Rattle.java_loops.proofs.Kept.KeptMeant.{meant_there}
use Rattle.java_loops.proofs.Kept.KeptRuns.{is_kept_set, numbers_keep}
use Rattle.java_loops.proofs.Lowering.LowerChains.{at_setting}
use Rattle.java_loops.proofs.Lowering.LowerKeeps.{fragment_text_keeps}
use Rattle.java_loops.proofs.Meant.MeanReplaced.{with_statements}
use Rattle.java_loops.specs.Meant.LoopStands.{LoopStands}
use Rattle.java_loops.proofs.Placing.Place.{IsPlacedIn, placed_at, and_then_is, run_followed}
use Rattle.java_loops.proofs.Placing.PlaceTyped.{FragmentThere}

-- ---- The number of the first statement

many_followed : (p q : Statements) → how_many (followed_by p q) ≡ how_many p + how_many q
many_followed Nothing q = omega arith
many_followed (Then s p) q = let ih : how_many (followed_by p q) ≡ how_many p + how_many q = many_followed p q in omega arith

many_front : (n : ℕ) (block : Statements) (s : Statement) (ss : Statements) → behind_of n block ≡ Then s ss → how_many (paths.first_of n block) ≡ n
many_front zero block s ss e = refl
many_front (suc n) Nothing s ss e = absurd cc
many_front (suc n) (Then a p) s ss e = ap suc (many_front n p s ss e)

many_behind : (n : ℕ) (p : Statements) → n ≤ how_many p → n + how_many (behind_of n p) ≡ how_many p
many_behind zero p h = omega arith
many_behind (suc n) Nothing h = absurd (omega arith)
many_behind (suc n) (Then s p) h = let ih : n + how_many (behind_of n p) ≡ how_many p = many_behind n p (omega arith) in omega arith

pub some_is : {A : Type 0} (a b : A) → Some a ≡ Some b → a ≡ b
some_is a b e = cc

-- as many statements behind both numbers
number_front : (n number : ℕ) (front run : Statements) → how_many front ≡ n → number ≤ n → behind_of number front ≡ run → run ≡ run_of front → how_many (before_run front) ≡ number
number_front n number front run all below behind is =
    let whole : how_many front ≡ how_many (before_run front) + how_many (run_of front) = ap how_many (sym (run_followed front)) ∙ many_followed (before_run front) (run_of front) in
    let bound : number ≤ how_many front = subst (λ k. number ≤ k) (sym all) below in
    let rest : number + how_many (behind_of number front) ≡ how_many front = many_behind number front bound in
    let same : how_many (behind_of number front) ≡ how_many (run_of front) = ap how_many (behind ∙ is) in
    omega arith

number_where : (b : Bool) (names : Names) (n number : ℕ) (block : Statements) (s : Statement) (ss : Statements) (f : Fragment) → behind_of n block ≡ Then s ss → fragment_where b (fragment_of names (paths.first_of n block) s ss) ≡ Some f → number ≤ n → behind_of number (paths.first_of n block) ≡ f.run → how_many (before_run (paths.first_of n block)) ≡ number
number_where true names n number block s ss f e h below behind =
    let same : fragment_of names (paths.first_of n block) s ss ≡ f = some_is (fragment_of names (paths.first_of n block) s ss) f h in
    number_front n number (paths.first_of n block) f.run (many_front n block s ss e) below behind (ap (λ (z : Fragment). z.run) (sym same))
number_where false names n number block s ss f e h below behind = absurd cc

number_here : (names : Names) (n number : ℕ) (block rest : Statements) (f : Fragment) → behind_of n block ≡ rest → fragment_here names (paths.first_of n block) rest ≡ Some f → number ≤ n → behind_of number (paths.first_of n block) ≡ f.run → how_many (before_run (paths.first_of n block)) ≡ number
number_here names n number block Nothing f e h below behind = absurd cc
number_here names n number block (Then s ss) f e h below behind = number_where (is_loop s) names n number block s ss f e h below behind

module _ (b m : ℕ) (path : List ℕ) (f : Fragment) (first number : ℕ) (ih : (names : Names) (block : Statements) → fragment_in names path m block ≡ Some f → first_in path m block ≡ Some first → run_in path m number block ≡ f.run → first ≡ number) where
  number_branch : (names : Names) (o : Option Statements) → found_in (fragment_in names path m) o ≡ Some f → found_in (first_in path m) o ≡ Some first → of_branch (run_in path m number) o ≡ f.run → first ≡ number
  number_branch names None h i run = absurd cc
  number_branch names (Some block) h i run = ih names block h i run

  number_deeper : (names : Statement → Names) (o : Option Statement) → found_in (λ s. found_in (fragment_in (names s) path m) (branch_of b s)) o ≡ Some f → found_in (λ s. found_in (first_in path m) (branch_of b s)) o ≡ Some first → of_branch (run_in path m number) (branch_there b o) ≡ f.run → first ≡ number
  number_deeper names None h i run = absurd cc
  number_deeper names (Some s) h i run = number_branch (names s) (branch_of b s) h i run

-- The run of a fragment begins at one number of its block.
pub number_is : (path : List ℕ) (names : Names) (n : ℕ) (block : Statements) (f : Fragment) (first number : ℕ) → fragment_in names path n block ≡ Some f → first_in path n block ≡ Some first → number ≤ last_of (n ∷ path) → run_in path n number block ≡ f.run → first ≡ number
number_is [] names n block f first number h i below run =
    sym (some_is (how_many (before_run (paths.first_of n block))) first i) ∙ number_here names n number block (behind_of n block) f refl h below run
number_is (b ∷ []) names n block f first number h i below run = absurd cc
number_is (b ∷ m ∷ path) names n block f first number h i below run =
    number_deeper b m path f first number (λ ns body h' i' run'. number_is path ns m body f first number h' i' below run')
    (λ s. with_names (with_names names (declared_among (paths.first_of n block))) (walking s)) (numbered n block) h i run

-- ---- The program with the new statements

module _ (schema : Schema) (reader : Reader schema) (p : PlainProgram) (path : List ℕ) (f : Fragment) (g : Types) (well : IsWellTyped schema reader.read p) (fits : NumbersFit p) (there : FragmentThere schema reader.read p path f g) (rules : broken (setting_of schema reader.read g f) ≡ None) (leads : fragment_at path p ≡ Some f) (first : ℕ) (begins : first_at path p ≡ Some first) (kept : List ℕ) (numbers : AreKept f (names_read (lowering (setting_of schema reader.read g f)).entries) first f.run kept) (ks : List Ask) where
  abbrev w : Setting
  w = setting_of schema reader.read g f

  abbrev further : Names
  further = names_read (lowering w).entries

  abbrev r : Set
  r = kept_set f further

  abbrev m : PlainMethod
  m = there.place.method

  abbrev n : ℕ
  n = there.place.first

  abbrev down : List ℕ
  down = there.place.down

  pub fragment_there : fragment_in (names_of_params m.params) down n m.body ≡ Some f
  fragment_there =
      sym (ap (λ z. fragment_at z p) there.place.is ∙ ap (found_in (λ (z : PlainMethod). fragment_in (names_of_params z.params) down n z.body)) there.place.found) ∙ leads

  pub first_there : first_in down n m.body ≡ Some first
  first_there = sym (ap (λ z. first_at z p) there.place.is ∙ ap (found_in (λ (z : PlainMethod). first_in down n z.body)) there.place.found) ∙ begins

  pub first_is : first ≡ there.place.placed.number
  first_is = number_is down (names_of_params m.params) n m.body f first there.place.placed.number fragment_there first_there there.place.placed.before_loop there.place.placed.run_there

  pub place_is : place_in down n first m.body ≡ there.place.placed.hole
  place_is = ap (λ j. place_in down n j m.body) first_is ∙ there.place.placed.place

  pub new_is : and_then (with_numbers kept first f.run) (asked ks) ≡ replacement r f.run ks
  new_is =
      and_then_is (with_numbers kept first f.run) (asked ks)
      ∙ ap (λ q. followed_by q (asked ks)) (numbers_keep f further r (is_kept_set f further) first f.run kept numbers)

  pub replaced_is : (new : Statements) → replaced_at path first new p ≡ with_statements p there.place.number there.place.placed.hole new
  replaced_is new =
      let k : MethodAt there.place.number p.methods m = method_at there.place.number p.methods m there.place.found in
      let body : replaced_in down n first new m.body ≡ fill there.place.placed.hole new = replaced_fills down n first new m.body f.loop there.place.placed.loop_there ∙ ap (λ h. fill h new) place_is in
      ap (λ z. replaced_at z first new p) there.place.is
      ∙ ap (with_methods p) (k.changed (λ z. with_body z (replaced_in down n first new z.body)) ∙ ap (λ b. k.before ++ with_body m b ∷ k.after) body ∙ sym (k.changed (λ z. with_body z (fill there.place.placed.hole new))))

  pub rewritten_is : rewritten_at path first kept w ks p ≡ with_statements p there.place.number there.place.placed.hole (replacement r f.run ks)
  rewritten_is = ap (λ q. replaced_at path first q p) new_is ∙ replaced_is (replacement r f.run ks)

  rewritten_keeps : AskForLoop schema reader.read p path w ks → IsWellTyped schema reader.read (rewritten_at path first kept w ks p) → NumbersFit (rewritten_at path first kept w ks p) → Keeps p (rewritten_at path first kept w ks p) schema
  rewritten_keeps asks well' fits' =
      subst (λ z. Keeps p z schema) (sym rewritten_is)
      (fragment_text_keeps schema reader p path f g well fits there rules r ks (asks_stand schema reader.read p path f g well there rules ks asks.needed (asks.answers (meant_there schema reader.read p path f g well there rules))) (subst (IsWellTyped schema reader.read) rewritten_is well') (subst NumbersFit rewritten_is fits'))

-- ---- By the path to the loop

pub setting_fragment : (schema : Schema) (read : List ℕ → Option PlainQuery) (p : PlainProgram) (path : List ℕ) (w : Setting) (types : Option Types) (fragment : Option Fragment) → fragment_at path p ≡ fragment → setting_there schema read types fragment ≡ Some w → fragment_at path p ≡ Some w.fragment
setting_fragment schema read p path w (Some g) (Some f) e h = e ∙ ap (λ (z : Setting). Some z.fragment) (some_is (setting_of schema read g f) w h)
setting_fragment schema read p path w (Some g) None e h = absurd cc
setting_fragment schema read p path w None (Some f) e h = absurd cc
setting_fragment schema read p path w None None e h = absurd cc

-- In a well-typed program whose literals have 64 bits, a run and the loop to which a path leads, which breaks no rule of the
-- kernel form, give way to the kept statements and to asks for what the fragment ends with, if the program stays well typed
-- and its literals have 64 bits.
pub loops_give_way : (schema : Schema) (reader : Reader schema) (p : PlainProgram) (path : List ℕ) (w : Setting) (first : ℕ) (kept : List ℕ) (ks : List Ask) → IsWellTyped schema reader.read p → NumbersFit p → setting_at schema reader.read path p ≡ Some w → broken w ≡ None → first_at path p ≡ Some first → AreKept w.fragment (names_read (lowering w).entries) first w.fragment.run kept → AskForLoop schema reader.read p path w ks → IsWellTyped schema reader.read (rewritten_at path first kept w ks p) → NumbersFit (rewritten_at path first kept w ks p) → Keeps p (rewritten_at path first kept w ks p) schema
loops_give_way schema reader p path w first kept ks well fits is rules begins numbers asks well' fits' =
    at_setting (λ (v : Setting). fragment_at path p ≡ Some v.fragment → AreKept v.fragment (names_read (lowering v).entries) first v.fragment.run kept → AskForLoop schema reader.read p path v ks → IsWellTyped schema reader.read (rewritten_at path first kept v ks p) → NumbersFit (rewritten_at path first kept v ks p) → Keeps p (rewritten_at path first kept v ks p) schema) schema reader.read p path w well fits
    (λ f g there unbroken leads k a t n. rewritten_keeps schema reader p path f g well fits there unbroken leads first begins kept k ks a t n) is rules
    (setting_fragment schema reader.read p path w (kernel.types_at schema path p) (fragment_at path p) refl is) numbers asks well' fits'

-- ---- Where the loop stands

fragment_stands : (p : PlainProgram) (path : List ℕ) (f : Fragment) (first : ℕ) → IsPlacedIn p path f → fragment_at path p ≡ Some f → first_at path p ≡ Some first → LoopStands p path f first
fragment_stands p path f first k leads begins =
    let there : fragment_in (names_of_params k.method.params) k.down k.first k.method.body ≡ Some f =
    sym (ap (λ z. fragment_at z p) k.is ∙ ap (found_in (λ (z : PlainMethod). fragment_in (names_of_params z.params) k.down k.first z.body)) k.found) ∙ leads in
    let number : first_in k.down k.first k.method.body ≡ Some first =
    sym (ap (λ z. first_at z p) k.is ∙ ap (found_in (λ (z : PlainMethod). first_in k.down k.first z.body)) k.found) ∙ begins in
    let same : first ≡ k.placed.number = number_is k.down (names_of_params k.method.params) k.first k.method.body f first k.placed.number there number k.placed.before_loop k.placed.run_there in
    record {
      there = ap (λ z. statement_at z p) k.is ∙ ap (found_in (λ (z : PlainMethod). statement_in k.down k.first z.body)) k.found ∙ k.placed.loop_there;
      before = subst (λ z. first ≤ last_of z) (sym k.is) (subst (λ j. j ≤ last_of (k.first ∷ k.down)) (sym same) k.placed.before_loop);
      simple = k.placed.simple;
    }

pub setting_stands : (schema : Schema) (read : List ℕ → Option PlainQuery) (p : PlainProgram) (path : List ℕ) (w : Setting) (first : ℕ) → setting_at schema read path p ≡ Some w → first_at path p ≡ Some first → LoopStands p path w.fragment first
setting_stands schema read p path w first is begins =
    let leads = setting_fragment schema read p path w (kernel.types_at schema path p) (fragment_at path p) refl is in
    fragment_stands p path w.fragment first (placed_at path p w.fragment leads) leads begins
