-- How what is written is looked at, slice by slice.
use Rattle.std.specs.Prelude.{◌≡◌, ℕ, ◌+◌, ◌-◌, List, ◌∷◌, map, take, drop, length, true, Bool, false, Option, Some, None, slice_get}
use Rattle.qbs_base.specs.Values.{Schema}
use Rattle.java_ast.specs.Tree.{PlainMethod}
use Rattle.java_grammar.specs.ReadBack.{IsReadBack}
use Rattle.java_stretches.specs.Patches.{PlainPatch}
use Rattle.method_texts.specs.Alone.{alone}
use Rattle.text_patches.specs.declared.patch.TextPatch.{TextPatch}
use Rattle.view_items.specs.declared.item.Item.{Item}
use Rattle.view_map.specs.declared.model.ViewMap.{ViewMap}
use Rattle.view_shapes.specs.declared.members.Stretch.{Stretch}
use Rattle.view_shapes.specs.declared.method.Method.{Method}
use Rattle.view_scope.specs.declared.standing.Standing.{Standing}
use Rattle.view_scope.specs.Nulls.{tested_in}
use Rattle.view_scope.specs.Outside.{body_of}
use Rattle.view_scope.specs.Standing.{standing_of}
use Rattle.view_statements.specs.declared.slice.Read.{Read}
use Rattle.view_slices.specs.Slices.{File, PlainSlice}
use Rattle.view_slices.specs.Views.{is_member, is_again}
use Rattle.view_slices.specs.Words.{members, are_words}
use Rattle.view_text.specs.Layout.{laid_out}
use Rattle.view_spell.specs.declared.marks.Mark.{Mark}
use Rattle.view_spell.specs.declared.spelled.SliceSpelled.{SliceSpelled}
use Rattle.view_spell.specs.declared.spelled.SliceSpelled.TheVariants as fates
use Rattle.view_spell.specs.Marks.{moved, past}
use Rattle.view_spell.specs.Placed.{are_apart, are_answers, patches_of}
use Rattle.view_spell.specs.Shared.{SeenAs}
use Rattle.qbs.specs.declared.looks.Reached.{Reached}
use Rattle.qbs.specs.ItemBytes.{begins_at, ends_at}
use Rattle.qbs.specs.SeenAgain.{Stood, stood_in, slice_of, slice_class, patched_slices, words_of, around, IsSliceIn, AreSeenAgain}

-- ---- Methods

-- a method of the file's class, in which this may be read
pub record IsMethodIn (m : ViewMap) (file : File) (read : Read) : Type 0 where
  pub number : ℕ
  pub member : Stretch
  pub stands : slice_get (members file) number ≡ Some member
  pub is_method : is_member file member read.method ≡ true
  pub reads : are_words m file read.method read.words ≡ true

-- the statements of its blocks, and where its body tests variables for null
abbrev pub standing_in : File → Read → List Standing
standing_in file read = standing_of file.items file.closings (body_of read.method)

abbrev pub tested_by : File → Read → List Stretch
tested_by file read = tested_in file.items file.closings file.rounds read.method.from read.method.to

-- a method with both
pub record IsRound (m : ViewMap) (file : File) (read : Read) (standing : List Standing) (tested : List Stretch) : Type 0 where
  pub method : IsMethodIn m file read
  pub are_standing : standing ≡ standing_in file read
  pub are_tested : tested ≡ tested_by file read

-- the same where it is said that it is one
abbrev pub IsRoundIf : ViewMap → File → Read → List Standing → List Stretch → Bool → Type 0
IsRoundIf m file read standing tested is = is ≡ true → IsRound m file read standing tested

-- ---- Slices

-- A slice stands again from one item up to another, as the method with a number of those that rewriting left.
pub record StandsAgain (m : ViewMap) (tables : Schema) (items : List Item) (file : File) (methods : List PlainMethod) (k : ℕ) (s : PlainSlice) (from to : ℕ) : Type 0 where
  pub again : Stood
  pub method : PlainMethod
  pub from_there : again.slice.from ≡ from
  pub to_there : again.slice.to ≡ to
  pub slice : IsSliceIn m tables file again
  pub same : is_again items s file.items again.slice ≡ true
  pub left : slice_get methods k ≡ Some method
  pub text : IsReadBack (laid_out (slice_class m tables file (k + 1) again)) (alone method)

-- the patches of a slice that is written
abbrev pub patched_in : SliceSpelled → Option (List TextPatch)
patched_in (fates.Patched ps) = Some ps
patched_in _ = None

abbrev pub patched_some : Option SliceSpelled → Option (List TextPatch)
patched_some None = None
patched_some (Some fate) = patched_in fate

abbrev pub patches_at : List SliceSpelled → ℕ → Option (List TextPatch)
patches_at spelled n = patched_some (slice_get spelled n)

-- Where a slice with patches stands in what is written: behind the same items, and how far it was looked at then.
pub record IsPlaced (items written : List Item) (s : PlainSlice) (ps : List TextPatch) (r : Reached) (from to : ℕ) (behind : Reached) : Type 0 where
  pub begins : begins_at (slice_get written from) ≡ moved r.mark (begins_at (slice_get items s.from))
  pub ends : ends_at (slice_get written (to - 1)) ≡ moved (past r.mark ps) (ends_at (slice_get items (s.to - 1)))
  pub before : words_of (take (s.from - r.read) (drop r.read items)) ≡ words_of (take (from - r.written) (drop r.written written))
  pub next_number : behind.number ≡ r.number + 1
  pub next_mark : behind.mark ≡ past r.mark ps
  pub next_read : behind.read ≡ s.to
  pub next_written : behind.written ≡ to

-- ---- All of them

-- slices are seen again from a number, a mark and an item of both files on, among the same items
pub record AreSeenFrom (m : ViewMap) (tables : Schema) (read file : File) (methods : List PlainMethod) (mark : Mark) (k from to : ℕ) (sts : List Stood) (spelled : List SliceSpelled) : Type 0 where
  pub agains : List Stood
  pub each : AreSeenAgain m tables read file methods mark k sts spelled agains
  pub round : around file.items to (map slice_of agains) ≡ around read.items from (patched_slices sts spelled)

-- those that weren't looked at yet
abbrev pub AreSeenBehind : ViewMap → Schema → File → File → List PlainMethod → List SliceSpelled → Reached → List Stood → Type 0
AreSeenBehind m tables read file methods spelled r sts = AreSeenFrom m tables read file methods r.mark r.number r.read r.written sts (drop r.number spelled)

-- what is seen behind a slice is seen from it on
pub record Leads (m : ViewMap) (tables : Schema) (read file : File) (methods : List PlainMethod) (spelled : List SliceSpelled) (r behind : Reached) (s : PlainSlice) : Type 0 where
  pub from : (in_method : Read) (sts : List Stood) → AreSeenBehind m tables read file methods spelled behind sts → AreSeenBehind m tables read file methods spelled r (stood_in in_method s ∷ sts)

-- ---- Slices that are left

abbrev pub is_patched : SliceSpelled → Bool
is_patched (fates.Patched ps) = true
is_patched _ = false

abbrev pub is_patched_some : Option SliceSpelled → Bool
is_patched_some None = false
is_patched_some (Some fate) = is_patched fate

-- a slice that has patches is left as it is
abbrev pub unpatched : SliceSpelled → SliceSpelled
unpatched (fates.Patched ps) = fates.Unlike
unpatched fate = fate

-- some slices that have patches are left as they are: the others keep theirs
pub record AreFewer (spelled left : List SliceSpelled) : Type 0 where
  pub answers : (seen : SeenAs) (k : ℕ) (ss : List (Method × PlainSlice)) (ps : List PlainPatch)
      → are_answers seen k ss ps spelled ≡ true → are_answers seen k ss ps left ≡ true
  pub apart : (from to : ℕ) → are_apart from to (patches_of spelled) ≡ true → are_apart from to (patches_of left) ≡ true
  pub many : length spelled ≡ length left
