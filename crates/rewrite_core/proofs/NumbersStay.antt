-- The literals of a program have 64 bits where kept statements and asks stand for a run and its loop: asks have no literals.
use Rattle.std.proofs.Common.{◌≡◌, ℕ, zero, suc, Bool, true, false, ◌&&◌, List, [], ◌∷◌, ◌++◌, slice_get, Option, Some, None, refl, ap, ◌∙◌, cond}
use Rattle.std.specs.List.{AllByRecursion}
use Rattle.std.proofs.lemmas.Bool.{and_parts, and_from}
use Rattle.qbs_base.specs.declared.span.Span.{Span}
use Rattle.kernel_lang.specs.declared.parts.Update.{Update}
use Rattle.kernel_lang.specs.declared.parts.Update.TheVariants as updates
use Rattle.kernel_lang.specs.Plain.{Accumulator}
use Rattle.tor_terms.specs.declared.term.Elem.TheVariants as elems
use Rattle.sql_ast.specs.Canonical.{canonical}
use Rattle.sql_parts.specs.Numbered.{Emission}
use Rattle.java_ast.specs.Path.{with_body}
use Rattle.java_ast.specs.Placed.{placed}
use Rattle.java_ast.specs.Tree.{Spelled, Expression, Expressions, Statement, Statements, Nothing, Then, PlainMethod, PlainProgram}
use Rattle.java_mean.specs.Numbers.{expression_fits, expressions_fit, statement_fits, statements_fit, methods_fit, NumbersFit}
use Rattle.java_mean.specs.Refines.{Hole, Here, Past, InIf, InThen, InElse, InEach, InWhile, fill, followed_by, with_part}
use Rattle.loop_text.specs.Sites.Sites.{place_of}
use Rattle.loop_text.specs.Statements.Fragment.{set_by}
use Rattle.java_ast.specs.Names.{Names}
use Rattle.java_loops.specs.Kernel.Kernel.{lowering}
use Rattle.java_loops.specs.Kernel.Setting.{Setting}
use Rattle.java_loops.specs.Walks.Reads.{Set}
use Rattle.java_loops.specs.Walks.Replacing.{Ask, asking, asked, replacement}
use Rattle.java_loops.specs.Walks.Runs.{kept}
use Rattle.java_loops.proofs.Known.KnownNumbers.{IsGoodEntry}
use Rattle.java_loops.proofs.Numbers.NumberEntries.{IsEntryFrom, from_variable, from_field, entry_from}
use Rattle.java_loops.specs.Lowering.Spelling.{spelled_at, element_spelled}
use Rattle.rewrite_core.specs.Asked.{Place, entry_at, arguments_of, value_by, value_asked, table_taken, spelled_or_text, start_type, ask_with, emitted_for, asks_from}

-- ---- Statements

fits_followed : (p q : Statements) → statements_fit p ≡ true → statements_fit q ≡ true → statements_fit (followed_by p q) ≡ true
fits_followed Nothing q h k = k
fits_followed (Then a p) q h k =
    let two = and_parts (statement_fits a) (statements_fit p) h in
    and_from (statement_fits a) (statements_fit (followed_by p q)) two.0 (fits_followed p q two.1 k)

first_fits : (p q : Statements) → statements_fit (followed_by p q) ≡ true → statements_fit p ≡ true
first_fits Nothing q h = refl
first_fits (Then a p) q h =
    let two = and_parts (statement_fits a) (statements_fit (followed_by p q)) h in
    and_from (statement_fits a) (statements_fit p) two.0 (first_fits p q two.1)

kept_step : (r : Set) (a : Statement) (p : Statements) (b : Bool) → statement_fits a ≡ true → statements_fit (kept r p) ≡ true → statements_fit (cond b (Then a (kept r p)) (kept r p)) ≡ true
kept_step r a p true h k = and_from (statement_fits a) (statements_fit (kept r p)) h k
kept_step r a p false h k = k

kept_fit : (r : Set) (p : Statements) → statements_fit p ≡ true → statements_fit (kept r p) ≡ true
kept_fit r Nothing h = refl
kept_fit r (Then a p) h = let two = and_parts (statement_fits a) (statements_fit p) h in kept_step r a p (r (set_by a)) two.0 (kept_fit r p two.1)

-- ---- Asks

entry_fits : (w : Setting) (at : Span) (e : Expression) → IsEntryFrom w e → expression_fits (placed at e) ≡ true
entry_fits w at _ (from_variable at' x ty is steady) = refl
entry_fits w at _ (from_field at' at'' x name table is steady) = refl

argument_fits : (w : Setting) (at : Span) (es : List Expression) → AllByRecursion (IsGoodEntry w) es → (k : ℕ) → expression_fits (entry_at at (slice_get es k)) ≡ true
argument_fits w at [] h k = refl
argument_fits w at (e ∷ es) h zero = entry_fits w at e (entry_from w h.0.number e h.0.entry)
argument_fits w at (e ∷ es) h (suc k) = argument_fits w at es h.1 k

arguments_fit : (w : Setting) (at : Span) (es : List Expression) → AllByRecursion (IsGoodEntry w) es → (ks : List ℕ) → expressions_fit (arguments_of at es ks) ≡ true
arguments_fit w at es h [] = refl
arguments_fit w at es h (k ∷ ks) = and_from (expression_fits (entry_at at (slice_get es k))) (expressions_fit (arguments_of at es ks)) (argument_fits w at es h k) (arguments_fit w at es h ks)

value_fits : (at : Span) (u : Update) (T : List ℕ) (E : Spelled) (text : List ℕ) (es : Expressions) → expressions_fit es ≡ true → expression_fits (value_by at u T E text es) ≡ true
value_fits at (updates.Push (elems.Whole j)) T E text es h = h
value_fits at (updates.Push (elems.Field j c)) T E text es h = h
value_fits at (updates.PushNew e) T E text es h = h
value_fits at updates.Tick T E text es h = h
value_fits at (updates.Plus e) T E text es h = h
value_fits at (updates.Best way e) T E text es h = h
value_fits at updates.Mark T E text es h = h

asking_fits : (ty : Option Spelled) (at : Span) (x : List ℕ) (e : Expression) → expression_fits e ≡ true → statement_fits (asking ty at x e) ≡ true
asking_fits (Some ty) at x e h = h
asking_fits None at x e h = h

asked_joined : (ks ls : List Ask) → asked (ks ++ ls) ≡ followed_by (asked ks) (asked ls)
asked_joined [] ls = refl
asked_joined (k ∷ ks) ls = ap (Then (asking k.ty k.at k.name k.value)) (asked_joined ks ls)

module _ (l : Place) (good : AllByRecursion (IsGoodEntry l.setting) (lowering l.setting).entries) where
  ask_fits : (x : List ℕ) (a : Option Accumulator) (e : Option Emission) → statements_fit (asked (ask_with l x a e)) ≡ true
  ask_fits x None e = refl
  ask_fits x (Some a) None = refl
  ask_fits x (Some a) (Some e) =
      let at : Span = place_of l.setting.fragment.loop in
      let ty : Option Spelled = spelled_at x l.path l.program in
      let arguments : Expressions = arguments_of at (lowering l.setting).entries e.entries in
      let value : Expression = value_asked l.setting ty a.update e in
      let fits : expression_fits value ≡ true =
      value_fits at a.update (table_taken l.setting a.update) (spelled_or_text (element_spelled ty)) (canonical e.query) arguments (arguments_fit l.setting at (lowering l.setting).entries good e.entries) in
      and_from (statement_fits (asking (start_type l.setting x) at x value)) true (asking_fits (start_type l.setting x) at x value fits) refl

  -- asks have no literals
  pub asks_fit : (k : ℕ) (xs : Names) → statements_fit (asked (asks_from l k xs)) ≡ true
  asks_fit k [] = refl
  asks_fit k (x ∷ xs) =
      let a = slice_get (lowering l.setting).fragment.accs k in
      let e = emitted_for l.setting l.candidate k in
      ap statements_fit (asked_joined (ask_with l x a e) (asks_from l (suc k) xs))
      ∙ fits_followed (asked (ask_with l x a e)) (asked (asks_from l (suc k) xs)) (ask_fits x a e) (asks_fit (suc k) xs)

-- the replacement of a run has no literals besides the run's
pub replacement_fits : (r : Set) (run rest : Statements) (ks : List Ask) → statements_fit (asked ks) ≡ true → statements_fit (followed_by run rest) ≡ true → statements_fit (replacement r run ks) ≡ true
replacement_fits r run rest ks asks h = fits_followed (kept r run) (asked ks) (kept_fit r run (first_fits run rest h)) asks

-- ---- Programs

and_more : (a b c : Bool) → (b ≡ true → c ≡ true) → (a && b) ≡ true → (a && c) ≡ true
and_more true b c f h = f h
and_more false b c f h = absurd cc

and_less : (b c d : Bool) → (b ≡ true → c ≡ true) → (b && d) ≡ true → (c && d) ≡ true
and_less true c d f h = ap (λ z. z && d) (f refl) ∙ h
and_less false c d f h = absurd cc

fill_fits : (hole : Hole) (old new : Statements) → (statements_fit old ≡ true → statements_fit new ≡ true) → statements_fit (fill hole old) ≡ true → statements_fit (fill hole new) ≡ true
fill_fits (Here q) old new f h = fits_followed new q (f (first_fits old q h)) (rest_fits old q h)
  where
    rest_fits : (p q : Statements) → statements_fit (followed_by p q) ≡ true → statements_fit q ≡ true
    rest_fits Nothing q h = h
    rest_fits (Then a p) q h = rest_fits p q (and_parts (statement_fits a) (statements_fit (followed_by p q)) h).1
fill_fits (Past a k) old new f h = and_more (statement_fits a) (statements_fit (fill k old)) (statements_fit (fill k new)) (fill_fits k old new f) h
fill_fits (InIf at e k q) old new f h =
    and_less (expression_fits e && statements_fit (fill k old)) (expression_fits e && statements_fit (fill k new)) (statements_fit q)
    (and_more (expression_fits e) (statements_fit (fill k old)) (statements_fit (fill k new)) (fill_fits k old new f)) h
fill_fits (InThen at e k b q) old new f h =
    and_less (expression_fits e && (statements_fit (fill k old) && statements_fit b)) (expression_fits e && (statements_fit (fill k new) && statements_fit b)) (statements_fit q)
    (and_more (expression_fits e) (statements_fit (fill k old) && statements_fit b) (statements_fit (fill k new) && statements_fit b) (and_less (statements_fit (fill k old)) (statements_fit (fill k new)) (statements_fit b) (fill_fits k old new f))) h
fill_fits (InElse at e a k q) old new f h =
    and_less (expression_fits e && (statements_fit a && statements_fit (fill k old))) (expression_fits e && (statements_fit a && statements_fit (fill k new))) (statements_fit q)
    (and_more (expression_fits e) (statements_fit a && statements_fit (fill k old)) (statements_fit a && statements_fit (fill k new)) (and_more (statements_fit a) (statements_fit (fill k old)) (statements_fit (fill k new)) (fill_fits k old new f))) h
fill_fits (InEach at ty x e k q) old new f h =
    and_less (expression_fits e && statements_fit (fill k old)) (expression_fits e && statements_fit (fill k new)) (statements_fit q)
    (and_more (expression_fits e) (statements_fit (fill k old)) (statements_fit (fill k new)) (fill_fits k old new f)) h
fill_fits (InWhile at e k q) old new f h =
    and_less (expression_fits e && statements_fit (fill k old)) (expression_fits e && statements_fit (fill k new)) (statements_fit q)
    (and_more (expression_fits e) (statements_fit (fill k old)) (statements_fit (fill k new)) (fill_fits k old new f)) h

methods_still_fit : (before after : List PlainMethod) (m : PlainMethod) (old new : Statements) → (statements_fit old ≡ true → statements_fit new ≡ true) → methods_fit (before ++ with_body m old ∷ after) ≡ true → methods_fit (before ++ with_body m new ∷ after) ≡ true
methods_still_fit [] after m old new f h = and_less (statements_fit old) (statements_fit new) (methods_fit after) f h
methods_still_fit (k ∷ before) after m old new f h =
    and_more (statements_fit k.body) (methods_fit (before ++ with_body m old ∷ after)) (methods_fit (before ++ with_body m new ∷ after)) (methods_still_fit before after m old new f) h

-- The literals of a program still have 64 bits with statements at a place whose literals have, where those of the old ones did.
pub part_still_fits : (p : PlainProgram) (before after : List PlainMethod) (m : PlainMethod) (hole : Hole) (old new : Statements) → (statements_fit old ≡ true → statements_fit new ≡ true) → NumbersFit (with_part p before after m hole old) → NumbersFit (with_part p before after m hole new)
part_still_fits p before after m hole old new f h = methods_still_fit before after m (fill hole old) (fill hole new) (fill_fits hole old new f) h
