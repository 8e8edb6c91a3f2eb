-- The loops of a program are tried by their spreads, one after the other, as code tries them.
use Rattle.std.proofs.Common.{◌≡◌, ℕ, zero, suc, ◌+◌, ◌-◌, ◌≤◌, Bool, true, false, List, [], ◌∷◌, ◌++◌, length, take, slice_get, Option, Some, None, Result, Ok, Err, IfOk, OnOk, refl, sym, ap, ap₂, ◌∙◌, subst, arith, append_assoc, append-nil}
use Rattle.std.specs.Option.{option_map}
use Rattle.std.specs.Prelude.{nat_eq, if◌then◌else◌}
use Rattle.std.proofs.lemmas.List.{map-append}
use Rattle.qbs_base.specs.Values.{Schema}
use Rattle.query_search.specs.Verdicts.{Found, NoneOf, Budget}
use Rattle.sql_ast.specs.Tree.{PlainQuery}
use Rattle.java_ast.specs.Path.{found_in, last_of, replaced_at, statement_at}
use Rattle.java_ast.specs.Reading.{program as plain_program}
use Rattle.java_ast.specs.Tree.{Statement, Statements, Nothing, Then, PlainProgram}
use Rattle.java_ast.specs.Tree as tree
use Rattle.java_mean.specs.Numbers.{NumbersFit}
use Rattle.java_mean.specs.WellTyped.{IsWellTyped}
use Rattle.java_stretches.specs.Patches.{PlainPatch}
use Rattle.java_types.specs.Texts.{read_by}
use Rattle.loop_text.specs.Statements.Loops.{is_loop, loops_of}
use Rattle.loop_text.specs.Statements.Walking.{IsLoopOf}
use Rattle.java_loops.specs.Kernel.Kernel.{broken, setting_at}
use Rattle.java_loops.specs.Kernel.Setting.{Setting}
use Rattle.spreads.specs.Spread.{spread_of, spread_among, selects_among}
use Rattle.spreads.specs.Staying.{assigned_among}
use Rattle.verdicts.specs.declared.verdict.LoopVerdict.{LoopVerdict}
use Rattle.rewrite_core.specs.Outcome.{try_with}
use Rattle.rewrite_core.specs.Patches.{patches_by, patches_left}
use Rattle.rewrite_core.specs.Rewriting.{verdict_of, verdicts_of}
use Rattle.rewrite_core.specs.TriedAsking.{AllMayBeAsked}
use Rattle.rewrite_core.specs.Trying.{Answer, Outside, Searched, Tried, tried_in, tried_at, program_after, left_of}
use Rattle.rewrite_core.specs.Unnesting.{if_found, unnested_by, unnested_at, program_unnested, unnesting_next, unnesting_by, unnesting, all_unnested}
use Rattle.rewrite_core.specs.UnnestingSteps.{IsSpreadThere, MayBeTried, UnnestingProgress, UnnestingLeads, PassesLoop, PassesSpread, program_past, standing_past, tries_past}
use Rattle.rewrite_core.proofs.ListedLoops.{leads_to_loop}
use Rattle.rewrite_core.proofs.UnnestReplaced.{statement_put}

-- ---- The spread of a loop

loop_if : (s z : Statement) → is_loop s ≡ true → (b : Bool) → (if b then None else Some s) ≡ Some z → is_loop z ≡ true
loop_if s z l true e = absurd cc
loop_if s z l false e = let same : s ≡ z = cc in subst (λ (x : Statement). is_loop x ≡ true) same l

-- it is a loop
spread_is_loop : (schema : Schema) (read : List ℕ → Option PlainQuery) (s z : Statement) → spread_of schema read s ≡ Some z → is_loop z ≡ true
spread_is_loop schema read (tree.Declare at ty x v) z e = absurd cc
spread_is_loop schema read (tree.Assign at x v) z e = absurd cc
spread_is_loop schema read (tree.Add at x v) z e = absurd cc
spread_is_loop schema read (tree.Sort at x keys down) z e = absurd cc
spread_is_loop schema read (tree.If at c a) z e = absurd cc
spread_is_loop schema read (tree.IfElse at c a b) z e = absurd cc
spread_is_loop schema read (tree.ForEach at ty x v body) z e =
    loop_if (tree.ForEach at ty x v (spread_among schema read (assigned_among body) None body)) z refl (nat_eq (selects_among schema read (assigned_among body) None body) 0) e
spread_is_loop schema read (tree.While at c a) z e = absurd cc
spread_is_loop schema read (tree.Print at v) z e = absurd cc
spread_is_loop schema read (tree.Return at v) z e = absurd cc
spread_is_loop schema read (tree.Break at) z e = absurd cc

pub record LoopAndSpread (schema : Schema) (p : PlainProgram) (path : List ℕ) (z : Statement) : Type 0 where
  pub loop : Statement
  pub there : statement_at path p ≡ Some loop
  pub spread : spread_of schema (read_by schema) loop ≡ Some z

loop_found : (schema : Schema) (p : PlainProgram) (path : List ℕ) (z : Statement) (o : Option Statement) → statement_at path p ≡ o → found_in (spread_of schema (read_by schema)) o ≡ Some z → LoopAndSpread schema p path z
loop_found schema p path z None there e = absurd cc
loop_found schema p path z (Some s) there e = record { loop = s; there = there; spread = e }

-- what the law of spreads says
abbrev pub SpreadsStayTyped : Schema → Type 0
SpreadsStayTyped schema =
    (p : PlainProgram) (path : List ℕ) (s z : Statement) → IsWellTyped schema (read_by schema) p → NumbersFit p → statement_at path p ≡ Some s → spread_of schema (read_by schema) s ≡ Some z
    → IsWellTyped schema (read_by schema) (replaced_at path (last_of path) (Then z Nothing) p) × NumbersFit (replaced_at path (last_of path) (Then z Nothing) p)

spread_made : (schema : Schema) (p : PlainProgram) (path : List ℕ) (block : Statements) (o : Option Statement) → found_in (spread_of schema (read_by schema)) (statement_at path p) ≡ o → Some block ≡ option_map (λ (z : Statement). Then z Nothing) o → IsSpreadThere schema p path block
spread_made schema p path block None found e = absurd cc
spread_made schema p path block (Some z) found e = record { spread = z; block_is = cc; found = found }

pub spread_is_there : (schema : Schema) (p : PlainProgram) (path : List ℕ) (block : Statements) → Some block ≡ option_map (λ (z : Statement). Then z Nothing) (found_in (spread_of schema (read_by schema)) (statement_at path p)) → IsSpreadThere schema p path block
spread_is_there schema p path block e = spread_made schema p path block (found_in (spread_of schema (read_by schema)) (statement_at path p)) refl e

no_spread_by : (o : Option Statement) → None ≡ option_map (λ (z : Statement). Then z Nothing) o → o ≡ None
no_spread_by None e = refl
no_spread_by (Some z) e = absurd cc

pub no_spread_there : (schema : Schema) (p : PlainProgram) (path : List ℕ) → None ≡ option_map (λ (z : Statement). Then z Nothing) (found_in (spread_of schema (read_by schema)) (statement_at path p)) → found_in (spread_of schema (read_by schema)) (statement_at path p) ≡ None
no_spread_there schema p path e = no_spread_by (found_in (spread_of schema (read_by schema)) (statement_at path p)) e

-- as code finds it in the program q
module _ {X : Type 0} (f : X → Statements) (schema : Schema) (p q : PlainProgram) (path : List ℕ) (o : Option X) (same : q ≡ p)
    (is : option_map f o ≡ option_map (λ (z : Statement). Then z Nothing) (found_in (spread_of schema (read_by schema)) (statement_at path q))) where
  is_here : option_map f o ≡ option_map (λ (z : Statement). Then z Nothing) (found_in (spread_of schema (read_by schema)) (statement_at path p))
  is_here = is ∙ ap (λ (x : PlainProgram). option_map (λ (z : Statement). Then z Nothing) (found_in (spread_of schema (read_by schema)) (statement_at path x))) same

  pub made_there : (x : X) → o ≡ Some x → IsSpreadThere schema p path (f x)
  made_there x e = spread_is_there schema p path (f x) (ap (option_map f) (sym e) ∙ is_here)

  pub none_made_there : o ≡ None → found_in (spread_of schema (read_by schema)) (statement_at path p) ≡ None
  none_made_there e = no_spread_there schema p path (ap (option_map f) (sym e) ∙ is_here)

module _ (schema : Schema) (law : SpreadsStayTyped schema) (p : PlainProgram) (path : List ℕ) (typed : IsWellTyped schema (read_by schema) p) (numbers : NumbersFit p) where
  -- The program with the spread in the loop's place may be tried.
  pub spread_may_be_tried : (block : Statements) → IsSpreadThere schema p path block → MayBeTried schema path block p
  spread_may_be_tried block h =
      let k : LoopAndSpread schema p path h.spread = loop_found schema p path h.spread (statement_at path p) refl h.found in
      let both = law p path k.loop h.spread typed numbers k.there k.spread in
      subst (λ (b : Statements). MayBeTried schema path b p) (sym h.block_is)
      (record {
        typed = both.0;
        numbers = both.1;
        loops = leads_to_loop path (replaced_at path (last_of path) (Then h.spread Nothing) p) h.spread (statement_put p path h.spread k.loop k.there) (spread_is_loop schema (read_by schema) k.loop h.spread k.spread);
      })

pub loop_of_spread : (schema : Schema) (p : PlainProgram) (path : List ℕ) (block : Statements) (h : IsSpreadThere schema p path block) → LoopAndSpread schema p path h.spread
loop_of_spread schema p path block h = loop_found schema p path h.spread (statement_at path p) refl h.found

-- ---- What is tried of one loop

module _ (schema : Schema) (size budget : ℕ) (p : PlainProgram) (path : List ℕ) where
  -- where it has no spread
  pub unspread : found_in (spread_of schema (read_by schema)) (statement_at path p) ≡ None → unnested_at schema size budget p path ≡ None
  unspread none =
      ap (λ (o : Option Statement). found_in (λ q. found_in (λ (t : Tried). if_found t t.answer) (tried_at schema size budget q (Some path))) (option_map (λ (s : Statement). replaced_at path (last_of path) (Then s Nothing) p) o)) none

  -- where it has one
  module _ (block : Statements) (h : IsSpreadThere schema p path block) (w : Setting) (there : setting_at schema (read_by schema) path (replaced_at path (last_of path) block p) ≡ Some w) where
    abbrev t : Tried
    t = try_with size budget (replaced_at path (last_of path) block p) path w

    pub spread_tried : unnested_at schema size budget p path ≡ if_found t t.answer
    spread_tried =
        ap (λ (o : Option Statement). found_in (λ q. found_in (λ (t : Tried). if_found t t.answer) (tried_at schema size budget q (Some path))) (option_map (λ (s : Statement). replaced_at path (last_of path) (Then s Nothing) p) o)) h.found
        ∙ ap (λ (b : Statements). found_in (λ (t : Tried). if_found t t.answer) (tried_at schema size budget (replaced_at path (last_of path) b p) (Some path))) (sym h.block_is)
        ∙ ap (λ (o : Option Setting). found_in (λ (t : Tried). if_found t t.answer) (tried_in size budget (replaced_at path (last_of path) block p) path o)) there

    as_found : (t : Tried) (a : Answer) → t.answer ≡ a → found_in (λ (t : Tried). unnested_by t t.answer) (if_found t a) ≡ unnested_by t a
    as_found t (Searched f (Found k)) e = ap (unnested_by t) e
    as_found t (Searched f (NoneOf n)) e = refl
    as_found t (Searched f (Budget b n)) e = refl
    as_found t (Outside b) e = refl

    pub program_tried : program_unnested schema size budget p path ≡ unnested_by t t.answer
    program_tried = ap (found_in (λ (t : Tried). unnested_by t t.answer)) spread_tried ∙ as_found t t.answer refl

  pub program_unspread : found_in (spread_of schema (read_by schema)) (statement_at path p) ≡ None → program_unnested schema size budget p path ≡ None
  program_unspread none = ap (found_in (λ (t : Tried). unnested_by t t.answer)) (unspread none)

-- ---- Further tries

left_through : (p : PlainProgram) (ts us : List Tried) → left_of p (ts ++ us) ≡ left_of (left_of p ts) us
left_through p [] us = refl
left_through p (t ∷ ts) us = left_through (program_after t) ts us

patched_through : (source : List ℕ) (ps : List PlainPatch) (ts us : List Tried) → patches_left source ps (ts ++ us) ≡ patches_left source (patches_left source ps ts) us
patched_through source ps [] us = refl
patched_through source ps (t ∷ ts) us = patched_through source (patches_by source t t.answer ps) ts us

all_asked : (schema : Schema) (ts us : List Tried) → AllMayBeAsked schema ts → AllMayBeAsked schema us → AllMayBeAsked schema (ts ++ us)
all_asked schema [] us h k = k
all_asked schema (t ∷ ts) us h k = (h.0, all_asked schema ts us h.1 k)

left_past : (p : PlainProgram) (o : Option Tried) → left_of p (tries_past o) ≡ program_past p o
left_past p None = refl
left_past p (Some t) = refl

module _ (schema : Schema) (size budget : ℕ) where
  next_past : (p : PlainProgram) (n more : ℕ) (o : Option Tried)
      → unnesting_next o (λ t. unnesting more schema size budget (program_after t) n) (unnesting more schema size budget p (suc n)) ≡ tries_past o ++ unnesting more schema size budget (program_past p o) (standing_past n o)
  next_past p n more None = refl
  next_past p n more (Some t) = refl

  one_more : (p : PlainProgram) (n : ℕ) (path : List ℕ) (o : Option Tried) → slice_get (loops_of p) n ≡ Some path → unnested_at schema size budget p path ≡ o → (more : ℕ)
      → unnesting (1 + more) schema size budget p n ≡ tries_past o ++ unnesting more schema size budget (program_past p o) (standing_past n o)
  unfolding unnesting
  one_more p n path o listed e more =
      let sum : 1 + more ≡ suc more = omega arith in
      ap (λ (k : ℕ). unnesting k schema size budget p n) sum
      ∙ ap (λ (x : Option (List ℕ)). unnesting_by x (unnested_at schema size budget p) (λ t. unnesting more schema size budget (program_after t) n) (unnesting more schema size budget p (suc n))) listed
      ∙ ap (λ (x : Option Tried). unnesting_next x (λ t. unnesting more schema size budget (program_after t) n) (unnesting more schema size budget p (suc n))) e
      ∙ next_past p n more o

  none_more : (p : PlainProgram) (n : ℕ) → slice_get (loops_of p) n ≡ None → (left : ℕ) → unnesting left schema size budget p n ≡ []
  unfolding unnesting
  none_more p n none zero = refl
  none_more p n none (suc left) =
      ap (λ (x : Option (List ℕ)). unnesting_by x (unnested_at schema size budget p) (λ t. unnesting left schema size budget (program_after t) n) (unnesting left schema size budget p (suc n))) none

  none_left : (p : PlainProgram) (n : ℕ) → unnesting 0 schema size budget p n ≡ []
  unfolding unnesting
  none_left p n = refl

  module _ (source : List ℕ) where
    -- one loop is tried
    pub loop_leads : (s u : UnnestingProgress) (path : List ℕ) (o : Option Tried) → slice_get (loops_of s.program) s.standing ≡ Some path → unnested_at schema size budget s.program path ≡ o → PassesLoop schema source s.program o s u → UnnestingLeads schema size budget source 1 s u
    loop_leads s u path o listed e k =
        record {
          tries = tries_past o;
          exact = λ more. one_more s.program s.standing path o listed e more ∙ ap₂ (λ (q : PlainProgram) (n : ℕ). tries_past o ++ unnesting more schema size budget q n) (sym k.program) (sym k.standing);
          program = k.program ∙ sym (left_past s.program o);
          verdicts = k.verdicts;
          patches = k.patches;
          asked = k.asked;
        }

    abbrev none_tried : ℕ → UnnestingProgress → Type 0
    none_tried left s = (more : ℕ) → unnesting (left + more) schema size budget s.program s.standing ≡ [] ++ unnesting more schema size budget s.program s.standing

    no_steps : (left : ℕ) (s : UnnestingProgress) → none_tried left s → UnnestingLeads schema size budget source left s s
    no_steps left s exact = record { tries = []; exact = exact; program = refl; verdicts = sym (append-nil s.verdicts); patches = refl; asked = tt }

    pub no_loop_leads : (s : UnnestingProgress) → slice_get (loops_of s.program) s.standing ≡ None → UnnestingLeads schema size budget source 1 s s
    no_loop_leads s none = no_steps 1 s (λ more. none_more s.program s.standing none (1 + more) ∙ sym (none_more s.program s.standing none more))

    pub no_try_leads : (left : ℕ) (s : UnnestingProgress) → left ≡ 0 → UnnestingLeads schema size budget source left s s
    no_try_leads left s none = no_steps left s (λ more. let sum : left + more ≡ more = omega (arith, none) in ap (λ (k : ℕ). unnesting k schema size budget s.program s.standing) sum)

    -- some of so many tries, and then the others
    pub halves_lead : (left half : ℕ) (s t u : UnnestingProgress) → half ≤ left → UnnestingLeads schema size budget source half s t → UnnestingLeads schema size budget source (left - half) t u → UnnestingLeads schema size budget source left s u
    halves_lead left half s t u few h k =
        record {
          tries = h.tries ++ k.tries;
          exact = λ more.
              let sum : left + more ≡ half + ((left - half) + more) = omega (arith, few) in
              ap (λ (n : ℕ). unnesting n schema size budget s.program s.standing) sum
              ∙ h.exact ((left - half) + more)
              ∙ ap (λ (ts : List Tried). h.tries ++ ts) (k.exact more)
              ∙ sym (append_assoc h.tries k.tries (unnesting more schema size budget u.program u.standing));
          program = k.program ∙ ap (λ (p : PlainProgram). left_of p k.tries) h.program ∙ sym (left_through s.program h.tries k.tries);
          verdicts =
              k.verdicts ∙ ap (λ (vs : List LoopVerdict). vs ++ verdicts_of k.tries) h.verdicts ∙ append_assoc s.verdicts (verdicts_of h.tries) (verdicts_of k.tries)
              ∙ ap (λ (vs : List LoopVerdict). s.verdicts ++ vs) (sym (map-append verdict_of h.tries k.tries));
          patches = k.patches ∙ ap (λ (ps : List PlainPatch). patches_left source ps k.tries) h.patches ∙ sym (patched_through source s.patches h.tries k.tries);
          asked = all_asked schema h.tries k.tries h.asked k.asked;
        }

    pub then_halves : {A E : Type 0} (r : Result A E) (u : A → UnnestingProgress) (left half : ℕ) (s t : UnnestingProgress) → half ≤ left → UnnestingLeads schema size budget source half s t
        → IfOk r (λ x. UnnestingLeads schema size budget source (left - half) t (u x)) → IfOk r (λ x. UnnestingLeads schema size budget source left s (u x))
    then_halves (Ok x) u left half s t few h k = halves_lead left half s t (u x) few h k
    then_halves (Err e) u left half s t few h k = tt

    -- all loops are tried
    pub all_tries : (p : PlainProgram) (s u : UnnestingProgress) → s.program ≡ p → s.standing ≡ 0 → (h : UnnestingLeads schema size budget source (length (loops_of p)) s u) → h.tries ≡ all_unnested schema size budget p
    unfolding all_unnested
    all_tries p s u program standing h =
        let whole : length (loops_of p) + 0 ≡ length (loops_of p) = omega arith in
        sym (append-nil h.tries)
        ∙ ap (λ (ts : List Tried). h.tries ++ ts) (sym (none_left u.program u.standing))
        ∙ sym (h.exact 0)
        ∙ ap (λ (n : ℕ). unnesting n schema size budget s.program s.standing) whole
        ∙ ap₂ (λ (q : PlainProgram) (n : ℕ). unnesting (length (loops_of p)) schema size budget q n) program standing
