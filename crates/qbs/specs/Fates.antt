-- What becomes of the slices of a file, by the bytes behind them, and what is said of loops by it.
use Rattle.std.specs.Prelude.{◌≡◌, ℕ, suc, ◌-◌, ◌≤◌, List, [], ◌∷◌, ◌++◌, map, filter, Bool, false, Option, Some, None, slice_get, nat_lt, ◌==◌, not, if◌then◌else◌}
use Rattle.std.specs.List.{flat_map}
use Rattle.verdicts.specs.declared.verdict.LoopVerdict.{LoopVerdict}
use Rattle.verdicts.specs.declared.verdict.Said.{Said}
use Rattle.verdicts.specs.declared.verdict.Said.TheVariants as says
use Rattle.verdicts.specs.Reports.{pruned_line}
use Rattle.view_items.specs.declared.cell.Cell.{Cell}
use Rattle.view_items.specs.declared.item.Item.{Item}
use Rattle.view_reports.specs.declared.lines.ViewLine.{ViewLine}
use Rattle.view_reports.specs.declared.lines.ViewLine.TheVariants as lines
use Rattle.view_reports.specs.Lines.{view_line}
use Rattle.view_slices.specs.Slices.{File, PlainSlice}
use Rattle.view_slices.specs.Views.{PlainSliced}
use Rattle.view_spell.specs.declared.spelled.SliceSpelled.{SliceSpelled}
use Rattle.view_spell.specs.declared.spelled.SliceSpelled.TheVariants as spellings
use Rattle.qbs.specs.declared.by_view_lines.Fate.{Fate}
use Rattle.qbs.specs.declared.by_view_lines.Why.{Why}
use Rattle.qbs.specs.declared.by_view_lines.Why.TheVariants as reasons
use Rattle.qbs.specs.ItemBytes.{begins_at, ends_at}
use Rattle.qbs.specs.RewriteByView.{loop_byte, verdict_in, line_in, fate_at, is_print_at, is_tried}
use Rattle.qbs.specs.SeenAgain.{Stood, stood_in}

-- ---- Slices

abbrev pub why_of : Option SliceSpelled → Why
why_of (Some spellings.Shared) = reasons.Shared
why_of (Some spellings.Unlike) = reasons.Unlike
why_of _ = reasons.Written

abbrev pub later : ℕ → ℕ → ℕ
later a b = if nat_lt a b then b else a

-- what becomes of a slice, where those before it end before a byte
abbrev pub fate_of : List Item → ℕ → PlainSlice → Option SliceSpelled → Fate
fate_of items before s spelled =
    record {
      last = begins_at (slice_get items (s.to - 1));
      behind = later before (ends_at (slice_get items (s.to - 1)));
      why = why_of spelled;
    }

-- of slices behind that byte, of which the first has the number k
abbrev pub fates_from : List Item → ℕ → ℕ → List Stood → List SliceSpelled → List Fate
fates_from items before k [] spelled = []
fates_from items before k (st ∷ sts) spelled =
    fate_of items before st.slice (slice_get spelled k) ∷ fates_from items (later before (ends_at (slice_get items (st.slice.to - 1)))) (suc k) sts spelled

abbrev pub slices_of : PlainSliced → List Stood
slices_of m = map (stood_in m.read) m.slices

-- the bytes behind them don't fall
abbrev pub AreInOrder : ℕ → List Fate → Type 0
AreInOrder before [] = Unit {0}
AreInOrder before (f ∷ fs) = (before ≤ f.behind) × AreInOrder f.behind fs

abbrev pub first_behind : ℕ → List Fate → Option Fate
first_behind byte [] = None
first_behind byte (f ∷ fs) = if nat_lt byte f.behind then Some f else first_behind byte fs

-- ---- Lines

abbrev pub why_in : Option Fate → Why
why_in None = reasons.Written
why_in (Some f) = f.why

abbrev pub is_last_of : ℕ → Option Fate → Bool
is_last_of byte None = false
is_last_of byte (Some f) = byte == f.last

abbrev pub line_by : Why → LoopVerdict → Said → ViewLine
line_by reasons.Shared v (says.Found k) = lines.Shared v.at
line_by reasons.Unlike v (says.Found k) = lines.Unlike v.at
line_by why v said = lines.Tried v

abbrev pub line_of : List ℕ → List Cell → List Fate → LoopVerdict → ViewLine
line_of source cells fates v =
    line_by (why_in (first_behind (loop_byte cells v) fates)) (verdict_in source cells v) (verdict_in source cells v).said

abbrev pub is_told : List Cell → List Fate → LoopVerdict → Bool
is_told cells fates v = not (is_last_of (loop_byte cells v) (first_behind (loop_byte cells v) fates))

-- of loops that were tried, but for those of what is printed
abbrev pub lines_of : List ℕ → List Cell → List Fate → List LoopVerdict → List ViewLine
lines_of source cells fates vs = map (line_of source cells fates) (filter (is_told cells fates) vs)

-- the same by the slices of a file and what is spelled of them
abbrev pub told_lines : List ℕ → List Cell → File → List Stood → List SliceSpelled → List LoopVerdict → List ViewLine
told_lines source cells file sts spelled vs =
    map (λ v. line_in (fate_at file sts spelled (loop_byte cells v)) (verdict_in source cells v)) (filter (λ v. not (is_print_at file sts (loop_byte cells v))) vs)

-- a report has these lines of loops that were tried, among those of loops that aren't seen
pub record IsReport (told : List ViewLine) (dropped : ℕ) (rep : List ℕ) : Type 0 where
  pub said : List ViewLine
  pub tried : filter is_tried said ≡ told
  pub report : rep ≡ flat_map view_line said ++ pruned_line dropped
