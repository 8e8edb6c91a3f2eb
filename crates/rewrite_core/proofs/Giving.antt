-- The statements that code makes for a loop are those of the loop's asks.
use Rattle.std.proofs.Common.{◌≡◌, ℕ, zero, suc, ◌+◌, ◌<◌, ◌≤◌, Bool, false, ◌==◌, if◌then◌else◌, List, [], ◌∷◌, ◌++◌, length, slice_get, Option, Some, None, refl, sym, ap, ap₂, ◌∙◌, subst, arith}
use Rattle.std.proofs.lemmas.Bool.Decides.{nat_tests}
use Rattle.qbs_base.specs.declared.span.Span.{Span}
use Rattle.tor_terms.specs.declared.term.Elem.TheVariants as elems
use Rattle.kernel_lang.specs.declared.parts.Update.{Update}
use Rattle.kernel_lang.specs.declared.parts.Update.TheVariants as updates
use Rattle.kernel_lang.specs.Plain.{Accumulator}
use Rattle.sql_ast.specs.Canonical.{canonical}
use Rattle.sql_parts.specs.Numbered.{Emission}
use Rattle.java_ast.specs.Path.{and_then}
use Rattle.java_ast.specs.Tree.{Spelled, Expressions, Statements, Nothing, Then}
use Rattle.loop_text.specs.Sites.Sites.{place_of}
use Rattle.java_ast.specs.Names.{Names}
use Rattle.java_loops.specs.Kernel.Kernel.{lowering}
use Rattle.java_loops.specs.Kernel.Setting.{Setting}
use Rattle.java_loops.specs.Lowering.Collected.{IsForNeeded, AreForNeeded}
use Rattle.java_loops.specs.Lowering.Lowered.{names_of_flags, needed_in_order}
use Rattle.java_loops.specs.Lowering.Spelling.{spelled_at, element_spelled}
use Rattle.java_loops.specs.Walks.Replacing.{Ask, asking, asked}
use Rattle.lowering.specs.Asked.{queries_in}
use Rattle.rewrite_core.specs.Asked.{Place, arguments_of, value_by, spelled_or_text, start_type, table_taken, value_asked, ask_with, emitted_for, asks_from, asks_of}
use Rattle.rewrite_core.specs.Asking.{QueriesAreValid}
use Rattle.rewrite_core.specs.LoopWithCandidate.{LoopWithCandidate, rows_taken, element_asked, value_with, outermost, statement_for, asked_with, asked_at, asked_from, IsValidAt, AreValidFrom}

-- ---- Values

value_is : (at : Span) (u : Update) (T : List ℕ) (E : Spelled) (text : List ℕ) (es : Expressions) → value_with at u (element_asked u T E) text es ≡ value_by at u T E text es
value_is at (updates.Push (elems.Whole j)) T E text es = refl
value_is at (updates.Push (elems.Field j c)) T E text es = refl
value_is at (updates.PushNew e) T E text es = refl
value_is at updates.Tick T E text es = refl
value_is at (updates.Plus e) T E text es = refl
value_is at (updates.Best way e) T E text es = refl
value_is at updates.Mark T E text es = refl

rows_are : (w : Setting) (u : Update) → rows_taken w.schema (lowering w).fragment.lists u ≡ table_taken w u
rows_are w (updates.Push (elems.Whole j)) = refl
rows_are w (updates.Push (elems.Field j c)) = refl
rows_are w (updates.PushNew e) = refl
rows_are w updates.Tick = refl
rows_are w (updates.Plus e) = refl
rows_are w (updates.Best way e) = refl
rows_are w updates.Mark = refl

-- ---- Statements

asked_joined : (ks ls : List Ask) → asked (ks ++ ls) ≡ and_then (asked ks) (asked ls)
asked_joined [] ls = refl
asked_joined (k ∷ ks) ls = ap (Then (asking k.ty k.at k.name k.value)) (asked_joined ks ls)

pub and_nothing : (ss : Statements) → and_then ss Nothing ≡ ss
and_nothing Nothing = refl
and_nothing (Then s ss) = ap (Then s) (and_nothing ss)

pub and_then_joined : (a b c : Statements) → and_then (and_then a b) c ≡ and_then a (and_then b c)
and_then_joined Nothing b c = refl
and_then_joined (Then s a) b c = ap (Then s) (and_then_joined a b c)

-- ---- Accumulators

outer_is : (a : Accumulator) → a.base ≡ 0 → outermost (Some a) ≡ Some a
outer_is a h = ap (λ (n : ℕ). if n == 0 then Some a else None) h

is_not_zero : (n : ℕ) → 0 < n → (n == 0) ≡ false
is_not_zero n less = grind (arith, nat_tests)

inner_is : (a : Accumulator) → 0 < a.base → outermost (Some a) ≡ None
inner_is a less = ap (λ (b : Bool). if b then Some a else None) (is_not_zero a.base less)

not_zero : (n : ℕ) → (n ≡ 0 → ⊥) → 0 < n
not_zero zero h = absurd (h refl)
not_zero (suc n) h = omega arith

pub not_outer : (a : Accumulator) → (a.base ≡ 0 → ⊥) → outermost (Some a) ≡ None
not_outer a h = inner_is a (not_zero a.base h)

-- ---- Of a loop

-- the loop of a place, as code has it
abbrev pub looped_at : Place → LoopWithCandidate
looped_at l =
    record {
      schema = l.setting.schema;
      program = l.program;
      path = l.path;
      run = l.setting.fragment.run;
      at = place_of l.setting.fragment.loop;
      fragment = (lowering l.setting).fragment;
      entries = (lowering l.setting).entries;
      known = queries_in (lowering l.setting).known;
      arguments = (lowering l.setting).arguments;
      candidate = l.candidate;
    }

module _ (l : Place) where
  abbrev w : Setting
  w = l.setting

  statement_is : (x : List ℕ) (u : Update) (e : Emission) → statement_for (looped_at l) x u e ≡ asking (start_type w x) (place_of w.fragment.loop) x (value_asked w (spelled_at x l.path l.program) u e)
  statement_is x u e =
      let E : Spelled = spelled_or_text (element_spelled (spelled_at x l.path l.program)) in
      let at : Span = place_of w.fragment.loop in
      let es : Expressions = arguments_of at (lowering w).entries e.entries in
      ap (λ T. asking (start_type w x) at x (value_with at u (element_asked u T E) (canonical e.query) es)) (rows_are w u)
      ∙ ap (asking (start_type w x) at x) (value_is at u (table_taken w u) E (canonical e.query) es)

  with_is : (x : List ℕ) (a : Accumulator) (o : Option Emission) → asked_with (looped_at l) x (Some a) o ≡ asked (ask_with l x (Some a) o)
  with_is x a None = refl
  with_is x a (Some e) = ap (λ s. Then s Nothing) (statement_is x a.update e)

  at_is : (k : ℕ) (x : List ℕ) (a : Accumulator) → slice_get (lowering w).fragment.accs k ≡ Some a → a.base ≡ 0 → asked_at (looped_at l) k x ≡ asked (ask_with l x (slice_get (lowering w).fragment.accs k) (emitted_for w l.candidate k))
  at_is k x a there outer =
      ap (λ o. asked_with (looped_at l) x (outermost o) (emitted_for w l.candidate k)) there
      ∙ ap (λ o. asked_with (looped_at l) x o (emitted_for w l.candidate k)) (outer_is a outer)
      ∙ with_is x a (emitted_for w l.candidate k)
      ∙ ap (λ o. asked (ask_with l x o (emitted_for w l.candidate k))) (sym there)

  flag_is : (k : ℕ) (x : List ℕ) (o : Option Accumulator) → slice_get (lowering w).fragment.accs k ≡ o → ((a : Accumulator) → slice_get (lowering w).fragment.accs k ≡ Some a → 0 < a.base) → asked_at (looped_at l) k x ≡ Nothing
  flag_is k x None there h = ap (λ o. asked_with (looped_at l) x (outermost o) (emitted_for w l.candidate k)) there
  flag_is k x (Some a) there h =
      ap (λ o. asked_with (looped_at l) x (outermost o) (emitted_for w l.candidate k)) there
      ∙ ap (λ o. asked_with (looped_at l) x o (emitted_for w l.candidate k)) (inner_is a (h a there))

  abbrev IsOuter : ℕ → Type 0
  IsOuter k = (a : Accumulator) × (slice_get (lowering w).fragment.accs k ≡ Some a) × (a.base ≡ 0)

  -- of variables whose accumulators stand outside all loops
  from_is : (k : ℕ) (xs : Names) → ((i m : ℕ) (x : List ℕ) → k + i ≡ m → slice_get xs i ≡ Some x → IsOuter m) → asked_from (looped_at l) k xs ≡ asked (asks_from l k xs)
  from_is k [] h = refl
  from_is k (x ∷ xs) h =
      let o : IsOuter k = h 0 k x (omega arith) refl in
      ap₂ and_then (at_is k x o.0 o.1 o.2) (from_is (suc k) xs (λ i m y e there. h (suc i) m y (omega (arith, e)) there))
      ∙ sym (asked_joined (ask_with l x (slice_get (lowering w).fragment.accs k) (emitted_for w l.candidate k)) (asks_from l (suc k) xs))

  -- of flags
  flags_are : (k : ℕ) (xs : Names) → ((m : ℕ) (a : Accumulator) → k ≤ m → slice_get (lowering w).fragment.accs m ≡ Some a → 0 < a.base) → asked_from (looped_at l) k xs ≡ Nothing
  flags_are k [] h = refl
  flags_are k (x ∷ xs) h =
      ap₂ and_then (flag_is k x (slice_get (lowering w).fragment.accs k) refl (λ a there. h k a (omega arith) there))
      (flags_are (suc k) xs (λ m a less there. h m a (omega (arith, less)) there))

  from_joined : (k n : ℕ) (xs ys : Names) → k + length xs ≡ n → asked_from (looped_at l) k (xs ++ ys) ≡ and_then (asked_from (looped_at l) k xs) (asked_from (looped_at l) n ys)
  from_joined k n [] ys e = let same : k ≡ n = omega (arith, e) in ap (λ m. asked_from (looped_at l) m ys) same
  from_joined k n (x ∷ xs) ys e =
      ap (and_then (asked_at (looped_at l) k x)) (from_joined (suc k) n xs ys (omega (arith, e)))
      ∙ sym (and_then_joined (asked_at (looped_at l) k x) (asked_from (looped_at l) (suc k) xs) (asked_from (looped_at l) n ys))

  -- The statements for all names of the lowered fragment are those of the loop's asks.
  pub all_asked : AreForNeeded l.setting → asked_from (looped_at l) 0 (lowering l.setting).names ≡ asked (asks_of l)
  all_asked needed =
      let xs : Names = needed_in_order w in
      let outer : (i m : ℕ) (x : List ℕ) → 0 + i ≡ m → slice_get xs i ≡ Some x → IsOuter m =
      λ i m x e there. let n : IsForNeeded w i x = needed.needed i x there in subst IsOuter (omega (arith, e)) (n.accumulator, n.there, n.outer) in
      from_joined 0 (length xs) xs (names_of_flags w.sites) (omega arith)
      ∙ ap₂ and_then (from_is 0 xs outer) (flags_are (length xs) (names_of_flags w.sites) needed.further)
      ∙ and_nothing (asked (asks_of l))

  -- ---- Their queries

  -- what is valid of all names from a number on is valid at each
  valid_at : (xs ys : Names) (k i m : ℕ) → k + i ≡ m → i < length xs → AreValidFrom (looped_at l) k (xs ++ ys) → IsValidAt (looped_at l) m
  valid_at [] ys k i m e below h = absurd (omega (arith, below))
  valid_at (x ∷ xs) ys k zero m e below h = let same : k ≡ m = omega (arith, e) in subst (IsValidAt (looped_at l)) same h.0
  valid_at (x ∷ xs) ys k (suc i) m e below h = valid_at xs ys (suc k) i m (omega (arith, e)) (omega (arith, below)) h.1

  some_at : (xs : Names) (i : ℕ) → i < length xs → (x : List ℕ) × (slice_get xs i ≡ Some x)
  some_at [] i below = absurd (omega (arith, below))
  some_at (x ∷ xs) zero below = (x, refl)
  some_at (x ∷ xs) (suc i) below = some_at xs i (omega (arith, below))

  -- The queries that are emitted for the needed accumulators are of the schema, where those for all names are.
  pub all_are_valid : AreForNeeded l.setting → AreValidFrom (looped_at l) 0 (lowering l.setting).names → QueriesAreValid l.setting l.candidate
  all_are_valid needed valid k e below emits =
      let there = some_at (needed_in_order w) k below in
      let n : IsForNeeded w k there.0 = needed.needed k there.0 there.1 in
      valid_at (needed_in_order w) (names_of_flags w.sites) 0 k k (omega arith) below valid n.accumulator e (ap outermost n.there ∙ outer_is n.accumulator n.outer) emits
