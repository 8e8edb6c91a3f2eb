-- The asks that stand for a loop, written out: one for each needed accumulator, with the query that is emitted for it.
use Rattle.std.proofs.Common.{◌≡◌, ℕ, zero, suc, ◌+◌, List, [], ◌∷◌, ◌++◌, length, slice_get, Some, refl, sym, ap, ◌∙◌, arith}
use Rattle.std.specs.List.{AllByRecursion}
use Rattle.kernel_lang.specs.declared.parts.Update.{Update}
use Rattle.kernel_lang.specs.declared.parts.Update.TheVariants as updates
use Rattle.kernel_lang.specs.Plain.{Accumulator}
use Rattle.kernel_lang.specs.Plain as kernel
use Rattle.kernel_lang.specs.Pools.{Member, chosen, members_from, members}
use Rattle.tor_terms.specs.declared.term.Elem.TheVariants as elems
use Rattle.qbs_base.specs.declared.span.Span.{Span}
use Rattle.sql_parts.specs.Emitted.{query_of}
use Rattle.sql_parts.specs.Numbered.{Emission, in_order, emission}
use Rattle.sql_parts.specs.Scopes.{ground}
use Rattle.java_ast.specs.Tree.{Spelled, Expressions}
use Rattle.loop_text.specs.Sites.Sites.{place_of}
use Rattle.java_ast.specs.Names.{Names, is_among, names_read}
use Rattle.java_loops.specs.Kernel.Kernel.{lowering}
use Rattle.java_loops.specs.Kernel.Setting.{Setting}
use Rattle.java_loops.specs.Meant.Asking.{IsForStarted}
use Rattle.java_loops.specs.Meant.Members.{AreMatched}
use Rattle.java_loops.specs.Walks.Reads.{Set, Reads, AllRead}
use Rattle.java_loops.specs.Walks.Replacing.{Ask}
use Rattle.java_loops.proofs.Starts.Start.{IsStarted}
use Rattle.lowering.specs.Asked.{queries_in}
use Rattle.java_loops.specs.Lowering.Spelling.{spelled_at}
use Rattle.rewrite_core.specs.Asked.{Place, value_by, type_started, start_type, value_asked, ask_with, emitted_for, asks_from}
use Rattle.rewrite_core.proofs.Arguments.{arguments_read}
use Rattle.rewrite_core.proofs.Outer.{AreOuter}

-- a member has the accumulator of its number
pub member_accumulator : (c : List ℕ) (n : ℕ) (accs : List Accumulator) (k : ℕ) (m : Member) → slice_get (members_from c n accs) k ≡ Some m → slice_get accs k ≡ Some m.0
member_accumulator c n [] k m e = absurd cc
member_accumulator c n (a ∷ accs) zero m e =
    let same : (a, chosen c n a.pool) ≡ m = some_member (a, chosen c n a.pool) m e in
    ap (λ (z : Member). Some z.0) same
  where
    some_member : (x y : Member) → Some x ≡ Some y → x ≡ y
    some_member x y e = cc
member_accumulator c n (a ∷ accs) (suc k) m e = member_accumulator c (n + length a.pool) accs k m e

module _ (l : Place) where
  abbrev w : Setting
  w = l.setting

  abbrev lowered : kernel.Fragment
  lowered = (lowering w).fragment

  -- the query for an accumulator with its choice
  abbrev pub emission_of : Member → Emission
  emission_of m = in_order (lowering l.setting).fragment.entries (query_of (ground l.setting.schema (lowering l.setting).fragment l.candidate (queries_in (lowering l.setting).known) (lowering l.setting).arguments) m)

  abbrev pub ask_of : List ℕ → Member → Ask
  ask_of x m =
      record {
        at = place_of l.setting.fragment.loop;
        ty = start_type l.setting x;
        name = x;
        value = value_asked l.setting (spelled_at x l.path l.program) m.0.update (emission_of m);
      }

  -- the asks for variables, one for each of the first accumulators, whose choices begin at the number n
  abbrev pub asks_by : ℕ → Names → List Accumulator → List Ask
  asks_by n [] accs = []
  asks_by n (x ∷ xs) [] = []
  asks_by n (x ∷ xs) (a ∷ accs) = ask_of x (a, chosen l.candidate n a.pool) ∷ asks_by (n + length a.pool) xs accs

  -- accumulators from the number k on, with their choices
  pub record Follow (k n : ℕ) (accs : List Accumulator) : Type 0 where
    pub are : (i j : ℕ) → k + i ≡ j → slice_get (members (lowering l.setting).fragment l.candidate) j ≡ slice_get (members_from l.candidate n accs) i

  pub follow_first : Follow 0 0 (lowering l.setting).fragment.accs
  follow_first = record { are = λ i j e. let same : i ≡ j = omega (arith, e) in ap (slice_get (members lowered l.candidate)) (sym same) }

  pub follow_next : (k n : ℕ) (a : Accumulator) (accs : List Accumulator) → Follow k n (a ∷ accs) → Follow (suc k) (n + length a.pool) accs
  follow_next k n a accs h = record { are = λ i j e. h.are (suc i) j (omega (arith, e)) }

  -- the first of them
  pub follow_here : (k n : ℕ) (a : Accumulator) (accs : List Accumulator) → Follow k n (a ∷ accs) → slice_get (members (lowering l.setting).fragment l.candidate) k ≡ Some (a, chosen l.candidate n a.pool)
  follow_here k n a accs h = h.are 0 k (omega arith)

  -- The asks are those that are written out.
  pub asks_are : (k n : ℕ) (xs : Names) (accs : List Accumulator) → Follow k n accs → AreOuter xs accs → asks_from l k xs ≡ asks_by n xs accs
  asks_are k n [] accs h o = refl
  asks_are k n (x ∷ xs) [] h o = absurd o
  asks_are k n (x ∷ xs) (a ∷ accs) h o =
      let m : Member = (a, chosen l.candidate n a.pool) in
      let here : slice_get (members lowered l.candidate) k ≡ Some m = follow_here k n a accs h in
      let there : slice_get lowered.accs k ≡ Some a = member_accumulator l.candidate 0 lowered.accs k m here in
      ap (λ q. ask_with l x q (emitted_for w l.candidate k) ++ asks_from l (suc k) xs) there
      ∙ ap (λ q. ask_with l x (Some a) (emission w.schema lowered l.candidate (queries_in (lowering w).known) (lowering w).arguments q) ++ asks_from l (suc k) xs) here
      ∙ ap (λ ks. ask_of x m ∷ ks) (asks_are (suc k) (n + length a.pool) xs accs (follow_next k n a accs h) o.2)

  -- ---- Their starts

  start_asked : (x : List ℕ) (m : Member) → IsStarted w.sites x w.fragment.run → IsForStarted w x (ask_of x m)
  start_asked x m h = record { name = refl; start = h.statement; found = h.first; ty = ap type_started h.first }

  pub starts_asked : (n : ℕ) (xs : Names) (accs : List Accumulator) → AreOuter xs accs → AllByRecursion (λ x. IsStarted l.setting.sites x l.setting.fragment.run) xs → AreMatched (IsForStarted l.setting) xs (asks_by n xs accs)
  starts_asked n [] accs o h = tt
  starts_asked n (x ∷ xs) [] o h = absurd o
  starts_asked n (x ∷ xs) (a ∷ accs) o h = (start_asked x (a, chosen l.candidate n a.pool) h.0, starts_asked (n + length a.pool) xs accs o.2 h.1)

  -- ---- What they read

  value_reads : (f : Set) (at : Span) (u : Update) (T : List ℕ) (E : Spelled) (text : List ℕ) (es : Expressions) → AllRead f es → Reads f (value_by at u T E text es)
  value_reads f at (updates.Push (elems.Whole j)) T E text es h = h
  value_reads f at (updates.Push (elems.Field j c)) T E text es h = h
  value_reads f at (updates.PushNew e) T E text es h = h
  value_reads f at updates.Tick T E text es h = h
  value_reads f at (updates.Plus e) T E text es h = h
  value_reads f at (updates.Best way e) T E text es h = h
  value_reads f at updates.Mark T E text es h = h

  pub asks_read : (n : ℕ) (xs : Names) (accs : List Accumulator) → AllByRecursion (λ (k : Ask). Reads (is_among (names_read (lowering l.setting).entries)) k.value) (asks_by n xs accs)
  asks_read n [] accs = tt
  asks_read n (x ∷ xs) [] = tt
  asks_read n (x ∷ xs) (a ∷ accs) = (
    value_reads (is_among (names_read (lowering w).entries)) (place_of w.fragment.loop) a.update _ _ _ _ (arguments_read (place_of w.fragment.loop) (lowering w).entries (emission_of (a, chosen l.candidate n a.pool)).entries),
    asks_read (n + length a.pool) xs accs,
  )
