-- What is said of loops that were tried, by the slices in which they stand.
use Rattle.std.proofs.Common.{◌≡◌, ℕ, zero, suc, ◌+◌, ◌-◌, ◌≤◌, ◌<◌, List, [], ◌∷◌, ◌++◌, length, map, filter, drop, get_or, Bool, true, false, Option, Some, None, Result, IfOk, refl, sym, ap, ap₂, ◌∙◌, subst, arith, append_assoc, add-one, drop-cons}
use Rattle.std.proofs.lemmas.Bool.Decides.{nat_tests}
use Rattle.std.proofs.lemmas.List.{append-nil}
use Rattle.std.proofs.lemmas.List.Elements.{filter-append}
use Rattle.std.specs.Prelude.{nat_lt, nat_le, slice_get, slice_index_or, not, if◌then◌else◌}
use Rattle.std.specs.List.Sorted.{IsPartitionPoint, IsPartitionedBy}
use Rattle.qbs_base.specs.declared.memory.NoMemory.{NoMemory}
use Rattle.verdicts.specs.declared.verdict.LoopVerdict.{LoopVerdict}
use Rattle.verdicts.specs.declared.verdict.Said.{Said}
use Rattle.verdicts.specs.declared.verdict.Said.TheVariants as says
use Rattle.view_items.specs.declared.cell.Cell.{Cell}
use Rattle.view_items.specs.declared.item.Item.{Item}
use Rattle.view_reports.specs.declared.lines.ViewLine.{ViewLine}
use Rattle.view_slices.specs.Reading.{slice as plain_slice, slices as plain_slices, sliced as plain_sliced, all_sliced}
use Rattle.view_slices.specs.Slices.{File}
use Rattle.view_statements.specs.declared.slice.Read.{Read}
use Rattle.view_statements.specs.declared.slice.Slice.{Slice}
use Rattle.view_statements.specs.declared.slice.Sliced.{Sliced}
use Rattle.view_spell.specs.declared.spelled.SliceSpelled.{SliceSpelled}
use Rattle.view_spell.specs.declared.spelled.SliceSpelled.TheVariants as spellings
use Rattle.qbs.specs.declared.by_view_lines.Fate.{Fate}
use Rattle.qbs.specs.declared.by_view_lines.Why.{Why}
use Rattle.qbs.specs.declared.by_view_lines.Why.TheVariants as reasons
use Rattle.qbs.specs.Fates.{why_of, why_in, later, fate_of, fates_from, slices_of, AreInOrder, first_behind, is_last_of, line_by, line_of, is_told, lines_of, told_lines, IsReport}
use Rattle.qbs.specs.ItemBytes.{ends_at}
use Rattle.qbs.specs.RewriteByView as theirs
use Rattle.qbs.specs.RewriteByView.{is_tried, loop_byte, verdict_in, line_in, fate_at, is_print_at}
use Rattle.qbs.specs.SeenAgain.{Stood, stood_in, slices_in}

-- ---- lines among others

alone : (l : ViewLine) (b : Bool) → b ≡ false → (if b then l ∷ [] else []) ≡ []
alone l false is = refl
alone l true is = absurd cc

pub other_line : (xs : List ViewLine) (l : ViewLine) → is_tried l ≡ false → filter is_tried (xs ++ l ∷ []) ≡ filter is_tried xs
other_line xs l is = filter-append is_tried xs (l ∷ []) ∙ ap (λ (ys : List ViewLine). filter is_tried xs ++ ys) (alone l (is_tried l) is) ∙ append-nil (filter is_tried xs)

-- ---- the first that ends behind a byte

abbrev pub has_ended : ℕ → Fate → Bool
has_ended byte f = nat_le f.behind byte

abbrev pub Parts : ℕ → List Fate → ℕ → Type 0
Parts byte fs n = IsPartitionPoint (λ f. has_ended byte f ≡ true) (λ f. has_ended byte f ≡ false) fs n

ends_late : (q : ℕ) (fs : List Fate) (k : ℕ) (d : Fate) → AreInOrder q fs → k < length fs → q ≤ (slice_index_or fs k d).behind
ends_late q [] k d o h = absurd (omega arith)
ends_late q (f ∷ fs) zero d o h = o.0
ends_late q (f ∷ fs) (suc k) d o h = omega (arith, ends_late f.behind fs k d o.1 (omega (arith, h)), o.0)

ends_in_order : (q : ℕ) (fs : List Fate) (i j : ℕ) (d : Fate) → AreInOrder q fs → i ≤ j → j < length fs → (slice_index_or fs i d).behind ≤ (slice_index_or fs j d).behind
ends_in_order q [] i j d o le h = absurd (omega arith)
ends_in_order q (f ∷ fs) zero zero d o le h = omega arith
ends_in_order q (f ∷ fs) zero (suc j) d o le h = ends_late f.behind fs j d o.1 (omega (arith, h))
ends_in_order q (f ∷ fs) (suc i) zero d o le h = absurd (omega arith)
ends_in_order q (f ∷ fs) (suc i) (suc j) d o le h = ends_in_order f.behind fs i j d o.1 (omega (arith, le)) (omega (arith, h))

pub are_parted : (byte q : ℕ) (fs : List Fate) → AreInOrder q fs → IsPartitionedBy (has_ended byte) fs
are_parted byte q fs o = λ i j d le h e. ended_too byte (slice_index_or fs i d) (slice_index_or fs j d) (ends_in_order q fs i j d o le h) e
  where
    ended_too : (byte : ℕ) (f g : Fate) → f.behind ≤ g.behind → has_ended byte g ≡ true → has_ended byte f ≡ true
    ended_too byte f g le e = grind (arith, nat_tests, le, e)

pub found_is : (byte : ℕ) (fs : List Fate) (n : ℕ) → Parts byte fs n → first_behind byte fs ≡ slice_get fs n
found_is byte [] n p = refl
found_is byte (f ∷ fs) zero p =
    let open_there : has_ended byte f ≡ false = p.1 0 f (omega arith) (omega arith) in
    let it : nat_lt byte f.behind ≡ true = grind (arith, nat_tests, open_there) in
    rw it refl
found_is byte (f ∷ fs) (suc n) p =
    let closed : has_ended byte f ≡ true = p.0 0 f (omega arith) (omega arith) in
    let none : nat_lt byte f.behind ≡ false = grind (arith, nat_tests, closed) in
    let rest : Parts byte fs n = (λ k d l h. p.0 (suc k) d (omega arith) (omega (arith, h)), λ k d l h. p.1 (suc k) d (omega (arith, l)) (omega (arith, h))) in
    rw none (found_is byte fs n rest)

-- ---- the fates of slices

not_before : (a b : ℕ) → a ≤ later a b
not_before a b = by (nat_lt a b) refl
  where
    by : (v : Bool) → nat_lt a b ≡ v → a ≤ (if v then b else a)
    by true e = grind (arith, nat_tests, e)
    by false e = omega arith

pub in_order : (items : List Item) (before k : ℕ) (sts : List Stood) (spelled : List SliceSpelled) → AreInOrder before (fates_from items before k sts spelled)
in_order items before k [] spelled = tt
in_order items before k (st ∷ sts) spelled =
    let e = ends_at (slice_get items (st.slice.to - 1)) in
    (not_before before e, in_order items (later before e) (suc k) sts spelled)

-- behind a byte that isn't before `a`
later_than : (a b byte : ℕ) → a ≤ byte → nat_lt byte (later a b) ≡ nat_lt byte b
later_than a b byte h = by (nat_lt a b) refl
  where
    by : (v : Bool) → nat_lt a b ≡ v → nat_lt byte (if v then b else a) ≡ nat_lt byte b
    by true e = refl
    by false e =
        let less : nat_lt byte a ≡ false = grind (arith, nat_tests, h) in
        let also : nat_lt byte b ≡ false = grind (arith, nat_tests, h, e) in
        less ∙ sym also

still : (a b byte : ℕ) → nat_lt byte (later a b) ≡ false → later a b ≤ byte
still a b byte e = grind (arith, nat_tests, e)

pub push_step : (items : List Item) (before : ℕ) (fates made : List Fate) (st : Stood) (sts : List Stood) (spelled : List SliceSpelled) (f : Fate)
    → made ≡ fates ++ f ∷ [] → f ≡ fate_of items before st.slice (slice_get spelled (length fates))
    → made ++ fates_from items f.behind (length made) sts spelled ≡ fates ++ fates_from items before (length fates) (st ∷ sts) spelled
push_step items before fates made st sts spelled f e is =
    rw (e, one_more fates, is) (append_assoc fates (fate_of items before st.slice (slice_get spelled (length fates)) ∷ []) _)
  where
    one_more : (xs : List Fate) → length (xs ++ f ∷ []) ≡ suc (length xs)
    one_more [] = refl
    one_more (x ∷ xs) = ap suc (one_more xs)

-- a slice more of a method
pub slice_pushed : (items : List Item) (read : Read) (slices : List Slice) (i : ℕ) (s : Slice) (spelled : List SliceSpelled) (before : ℕ) (fates made all : List Fate) (f : Fate) (sts : List Stood)
    → i < length slices → s ≡ get_or slices i s → made ≡ fates ++ f ∷ [] → f ≡ fate_of items before (plain_slice s) (slice_get spelled (length fates))
    → fates ++ fates_from items before (length fates) (map (stood_in read) (plain_slices (drop i slices)) ++ sts) spelled ≡ all
    → made ++ fates_from items f.behind (length made) (map (stood_in read) (plain_slices (drop (i + 1) slices)) ++ sts) spelled ≡ all
slice_pushed items read slices i s spelled before fates made all f sts less is pushed is_fate so_far =
    let left : drop i slices ≡ s ∷ drop (suc i) slices = drop-cons slices i s less ∙ ap (λ (d : Slice). d ∷ drop (suc i) slices) (sym is) in
    rw add-one
    (push_step items before fates made (stood_in read (plain_slice s)) (map (stood_in read) (plain_slices (drop (suc i) slices)) ++ sts) spelled f pushed is_fate
    ∙ (ap (λ (ss : List Slice). fates ++ fates_from items before (length fates) (map (stood_in read) (plain_slices ss) ++ sts) spelled) (sym left) ∙ so_far))

-- a method more
pub method_pushed : (items : List Item) (methods : List Sliced) (i : ℕ) (m : Sliced) (spelled : List SliceSpelled) (before behind : ℕ) (fates made all : List Fate)
    → i < length methods → m ≡ get_or methods i m
    → ((sts : List Stood) → made ++ fates_from items behind (length made) sts spelled ≡ fates ++ fates_from items before (length fates) (slices_of (plain_sliced m) ++ sts) spelled)
    → fates ++ fates_from items before (length fates) (slices_in (all_sliced (drop i methods))) spelled ≡ all
    → made ++ fates_from items behind (length made) (slices_in (all_sliced (drop (i + 1) methods))) spelled ≡ all
method_pushed items methods i m spelled before behind fates made all less is pushed so_far =
    let left : drop i methods ≡ m ∷ drop (suc i) methods = drop-cons methods i m less ∙ ap (λ (d : Sliced). d ∷ drop (suc i) methods) (sym is) in
    rw add-one
    (pushed (slices_in (all_sliced (drop (suc i) methods)))
    ∙ (ap (λ (ms : List Sliced). fates ++ fates_from items before (length fates) (slices_in (all_sliced ms)) spelled) (sym left) ∙ so_far))

-- ---- what is spelled of slices from a number on

at_end : (xs : List SliceSpelled) (k : ℕ) → drop k xs ≡ [] → (slice_get xs k ≡ None) × (drop (suc k) xs ≡ [])
at_end [] zero e = (refl, refl)
at_end [] (suc k) e = (refl, refl)
at_end (x ∷ xs) zero e = absurd cc
at_end (x ∷ xs) (suc k) e = at_end xs k e

there : (xs : List SliceSpelled) (k : ℕ) (y : SliceSpelled) (ys : List SliceSpelled) → drop k xs ≡ y ∷ ys → (slice_get xs k ≡ Some y) × (drop (suc k) xs ≡ ys)
there [] zero y ys e = absurd cc
there [] (suc k) y ys e = absurd cc
there (x ∷ xs) zero y ys e = (cc, cc)
there (x ∷ xs) (suc k) y ys e = there xs k y ys e

module _ (file : File) (byte : ℕ) (spelled : List SliceSpelled) where
  abbrev why_from : ℕ → ℕ → List Stood → Why
  why_from before k sts = why_in (first_behind byte (fates_from file.items before k sts spelled))

  why_first : (v : Bool) (before k : ℕ) (st : Stood) (sts : List Stood)
      → nat_lt byte (later before (ends_at (slice_get file.items (st.slice.to - 1)))) ≡ v
      → why_from before k (st ∷ sts) ≡ (if v then why_of (slice_get spelled k) else why_from (later before (ends_at (slice_get file.items (st.slice.to - 1)))) (suc k) sts)
  why_first true before k st sts e = rw e refl
  why_first false before k st sts e = rw e refl

  none_said : (before k : ℕ) (sts : List Stood) → drop k spelled ≡ [] → why_from before k sts ≡ reasons.Written
  none_said before k [] e = refl
  none_said before k (st ∷ sts) e = by (nat_lt byte (later before (ends_at (slice_get file.items (st.slice.to - 1))))) refl (none_said (later before (ends_at (slice_get file.items (st.slice.to - 1)))) (suc k) sts (at_end spelled k e).1)
    where
      by : (v : Bool) → nat_lt byte (later before (ends_at (slice_get file.items (st.slice.to - 1)))) ≡ v
          → why_from (later before (ends_at (slice_get file.items (st.slice.to - 1)))) (suc k) sts ≡ reasons.Written → why_from before k (st ∷ sts) ≡ reasons.Written
      by true h rest = why_first true before k st sts h ∙ ap why_of (at_end spelled k e).0
      by false h rest = why_first false before k st sts h ∙ rest

  why_same : (before k : ℕ) (sts : List Stood) (fates : List SliceSpelled) → before ≤ byte → drop k spelled ≡ fates → why_from before k sts ≡ why_of (fate_at file sts fates byte)
  why_same before k [] fates h e = refl
  why_same before k (st ∷ sts) [] h e = none_said before k (st ∷ sts) e
  why_same before k (st ∷ sts) (x ∷ xs) h e =
      by (nat_lt byte (ends_at (slice_get file.items (st.slice.to - 1)))) refl
      (λ le. why_same (later before (ends_at (slice_get file.items (st.slice.to - 1)))) (suc k) sts xs le (there spelled k x xs e).1)
    where
      by : (v : Bool) → nat_lt byte (ends_at (slice_get file.items (st.slice.to - 1))) ≡ v
          → (later before (ends_at (slice_get file.items (st.slice.to - 1))) ≤ byte → why_from (later before (ends_at (slice_get file.items (st.slice.to - 1)))) (suc k) sts ≡ why_of (fate_at file sts xs byte))
          → why_from before k (st ∷ sts) ≡ why_of (fate_at file (st ∷ sts) (x ∷ xs) byte)
      by true i rest = why_first true before k st sts (later_than before _ byte h ∙ i) ∙ ap why_of (there spelled k x xs e).0 ∙ sym (rw i refl)
      by false i rest =
          let past = later_than before (ends_at (slice_get file.items (st.slice.to - 1))) byte h ∙ i in
          why_first false before k st sts past ∙ rest (still before _ byte past) ∙ sym (rw i refl)

  abbrev last_from : ℕ → ℕ → List Stood → Bool
  last_from before k sts = is_last_of byte (first_behind byte (fates_from file.items before k sts spelled))

  last_same : (before k : ℕ) (sts : List Stood) → before ≤ byte → last_from before k sts ≡ is_print_at file sts byte
  last_same before k [] h = refl
  last_same before k (st ∷ sts) h =
      by (nat_lt byte (ends_at (slice_get file.items (st.slice.to - 1)))) refl (λ le. last_same (later before (ends_at (slice_get file.items (st.slice.to - 1)))) (suc k) sts le)
    where
      by : (v : Bool) → nat_lt byte (ends_at (slice_get file.items (st.slice.to - 1))) ≡ v
          → (later before (ends_at (slice_get file.items (st.slice.to - 1))) ≤ byte → last_from (later before (ends_at (slice_get file.items (st.slice.to - 1)))) (suc k) sts ≡ is_print_at file sts byte)
          → last_from before k (st ∷ sts) ≡ is_print_at file (st ∷ sts) byte
      by true i rest = rw (later_than before (ends_at (slice_get file.items (st.slice.to - 1))) byte h ∙ i, i) refl
      by false i rest =
          let past = later_than before (ends_at (slice_get file.items (st.slice.to - 1))) byte h ∙ i in
          rw (past, i) (rest (still before (ends_at (slice_get file.items (st.slice.to - 1))) byte past))

-- ---- lines

line_same : (x : Option SliceSpelled) (v : LoopVerdict) → line_by (why_of x) v v.said ≡ line_in x v
line_same None v = refl
line_same (Some spellings.Left) v = refl
line_same (Some (spellings.Patched ps)) v = refl
line_same (Some spellings.Shared) v = by v.said
  where
    by : (s : Said) → line_by (why_of (Some spellings.Shared)) v s ≡ theirs.line_by spellings.Shared v s
    by (says.Found k) = refl
    by (says.NoneOf n) = refl
    by (says.Budget b n) = refl
    by (says.Outside rule at) = refl
line_same (Some spellings.Unlike) v = by v.said
  where
    by : (s : Said) → line_by (why_of (Some spellings.Unlike)) v s ≡ theirs.line_by spellings.Unlike v s
    by (says.Found k) = refl
    by (says.NoneOf n) = refl
    by (says.Budget b n) = refl
    by (says.Outside rule at) = refl

same_lines : (f g : LoopVerdict → ViewLine) (p q : LoopVerdict → Bool) → ((v : LoopVerdict) → f v ≡ g v) → ((v : LoopVerdict) → p v ≡ q v) → (vs : List LoopVerdict) → map f (filter p vs) ≡ map g (filter q vs)
same_lines f g p q lines tests [] = refl
same_lines f g p q lines tests (v ∷ vs) = by (p v) (q v) (tests v) (same_lines f g p q lines tests vs)
  where
    by : (a b : Bool) → a ≡ b → map f (filter p vs) ≡ map g (filter q vs) → map f (if a then v ∷ filter p vs else filter p vs) ≡ map g (if b then v ∷ filter q vs else filter q vs)
    by true true e h = ap₂ (λ (l : ViewLine) (ls : List ViewLine). l ∷ ls) (lines v) h
    by false false e h = h
    by true false e h = absurd cc
    by false true e h = absurd cc

pub told_same : (source : List ℕ) (cells : List Cell) (file : File) (sts : List Stood) (spelled : List SliceSpelled) (vs : List LoopVerdict)
    → lines_of source cells (fates_from file.items 0 0 sts spelled) vs ≡ told_lines source cells file sts spelled vs
told_same source cells file sts spelled vs =
    same_lines (line_of source cells (fates_from file.items 0 0 sts spelled)) (λ v. line_in (fate_at file sts spelled (loop_byte cells v)) (verdict_in source cells v))
    (is_told cells (fates_from file.items 0 0 sts spelled)) (λ v. not (is_print_at file sts (loop_byte cells v)))
    (λ v. ap (λ (why : Why). line_by why (verdict_in source cells v) (verdict_in source cells v).said) (why_same file (loop_byte cells v) spelled 0 0 sts spelled (omega arith) refl)
    ∙ line_same (fate_at file sts spelled (loop_byte cells v)) (verdict_in source cells v))
    (λ v. ap not (last_same file (loop_byte cells v) spelled 0 0 sts (omega arith))) vs

pub report_told : (source : List ℕ) (cells : List Cell) (file : File) (sts : List Stood) (spelled : List SliceSpelled) (vs : List LoopVerdict) (dropped : ℕ) (fates lent : List Fate) (result : Result (List ℕ) NoMemory)
    → lent ≡ fates → fates ≡ fates_from file.items 0 0 sts spelled → IfOk result (IsReport (lines_of source cells lent vs) dropped) → IfOk result (IsReport (told_lines source cells file sts spelled vs) dropped)
report_told source cells file sts spelled vs dropped fates lent result e f h =
    subst (λ (ls : List ViewLine). IfOk result (IsReport ls dropped)) (ap (λ (fs : List Fate). lines_of source cells fs vs) (e ∙ f) ∙ told_same source cells file sts spelled vs) h
