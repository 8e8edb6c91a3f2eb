-- What is written in place of slices is seen again as what rewriting left of them.
use Rattle.std.specs.Prelude.{◌≡◌, ℕ, ◌+◌, ◌-◌, List, [], ◌∷◌, ◌++◌, codes, map, take, drop, true, Some, slice_get}
use Rattle.qbs_base.specs.Values.{Schema}
use Rattle.java_ast.specs.Tree.{PlainMethod}
use Rattle.java_grammar.specs.ReadBack.{IsReadBack}
use Rattle.method_texts.specs.Alone.{alone}
use Rattle.text_patches.specs.declared.patch.TextPatch.{TextPatch}
use Rattle.text_patches.specs.Patching.{with_texts}
use Rattle.view_items.specs.declared.cell.Cell.{Cell}
use Rattle.view_items.specs.declared.item.Item.{Item}
use Rattle.view_map.specs.declared.model.ViewMap.{ViewMap}
use Rattle.view_rules.specs.Cells.{all_made}
use Rattle.view_statements.specs.declared.slice.Read.{Read}
use Rattle.view_shapes.specs.declared.members.Stretch.{Stretch}
use Rattle.view_slices.specs.Slices.{File, PlainSlice, is_slice}
use Rattle.view_slices.specs.Views.{PlainSliced, slice_cells, outside_all, is_member, is_again, file_in}
use Rattle.view_slices.specs.Words.{members, are_words}
use Rattle.view_text.specs.Layout.{laid_out}
use Rattle.view_spell.specs.declared.marks.Mark.{Mark}
use Rattle.view_spell.specs.declared.spelled.SliceSpelled.{SliceSpelled}
use Rattle.view_spell.specs.declared.spelled.SliceSpelled.TheVariants as fates
use Rattle.view_spell.specs.Marks.{moved, past}
use Rattle.view_spell.specs.Placed.{patches_in, patches_of}
use Rattle.qbs.specs.ItemBytes.{begins_at, ends_at}

-- ---- Slices

-- a slice, and the method round it with what may be read there
pub record Stood : Type 0 where
  pub read : Read
  pub slice : PlainSlice

abbrev pub stood_in : Read → PlainSlice → Stood
stood_in read s = record { read = read; slice = s }

-- all slices in their order
abbrev pub slices_in : List PlainSliced → List Stood
slices_in [] = []
slices_in (m ∷ ms) = map (stood_in m.read) m.slices ++ slices_in ms

abbrev pub slice_of : Stood → PlainSlice
slice_of st = st.slice

-- a class of one slice alone, which is seen as the method with this number
abbrev pub slice_class : ViewMap → Schema → File → ℕ → Stood → List Cell
slice_class m tables file k st =
    all_made (outside_all m tables file) file.class.name (codes "class" ∷ codes "C" ∷ codes "{" ∷ [])
    ++ (slice_cells m tables file st.read.words k st.slice ++ all_made (outside_all m tables file) file.class.to (codes "}" ∷ []))

-- the bytes from the first item of a slice to the last one
abbrev pub first_byte : File → PlainSlice → ℕ
first_byte file s = begins_at (slice_get file.items s.from)

abbrev pub last_byte : File → PlainSlice → ℕ
last_byte file s = ends_at (slice_get file.items (s.to - 1))

-- the slices that have patches
abbrev pub written_of : PlainSlice → SliceSpelled → List PlainSlice
written_of s (fates.Patched ps) = s ∷ []
written_of s _ = []

abbrev pub patched_slices : List Stood → List SliceSpelled → List PlainSlice
patched_slices (st ∷ sts) (fate ∷ further) = written_of st.slice fate ++ patched_slices sts further
patched_slices _ _ = []

-- ---- Where they stand

abbrev pub words_of : List Item → List (List ℕ)
words_of items = map (λ i. i.bytes) items

-- the items round slices, from the number `at` on: those before each one, and those behind the last
abbrev pub around : List Item → ℕ → List PlainSlice → List (List (List ℕ))
around items at [] = words_of (drop at items) ∷ []
around items at (s ∷ ss) = words_of (take (s.from - at) (drop at items)) ∷ around items s.to ss

-- ---- Each of them

-- a method of the file's class, in which this may be read, and a slice of it
pub record IsSliceIn (m : ViewMap) (tables : Schema) (file : File) (again : Stood) : Type 0 where
  pub number : ℕ
  pub member : Stretch
  pub stands : slice_get (members file) number ≡ Some member
  pub is_method : is_member file member again.read.method ≡ true
  pub reads : are_words m file again.read.method again.read.words ≡ true
  pub is : is_slice m tables file again.read.words again.read.method again.slice ≡ true

-- Behind a mark, a slice that has patches is a slice of what is written too, of the very bytes that stand there. What comes in and goes out is
-- the same, it is made of statements of the first one and of ones that ask, and it is seen as the method that rewriting left.
pub record IsSeenAgain (m : ViewMap) (tables : Schema) (read written : File) (mark : Mark) (k : ℕ) (s : PlainSlice) (ps : List TextPatch) (method : PlainMethod) (again : Stood) : Type 0 where
  pub slice : IsSliceIn m tables written again
  pub from : first_byte written again.slice ≡ moved mark (first_byte read s)
  pub to : last_byte written again.slice ≡ moved (past mark ps) (last_byte read s)
  pub same : is_again read.items s written.items again.slice ≡ true
  pub text : IsReadBack (laid_out (slice_class m tables written k again)) (alone method)

-- Each slice, before the first of which k others stand, stands in what is written as it was, or is seen again there as its method of those that
-- rewriting left.
pub data AreSeenAgain (m : ViewMap) (tables : Schema) (read written : File) (methods : List PlainMethod) : Mark → ℕ → List Stood → List SliceSpelled → List Stood → Type 0 where
  none : (mark : Mark) (k : ℕ) → AreSeenAgain m tables read written methods mark k [] [] []
  stays : (mark : Mark) (k : ℕ) (st : Stood) (sts : List Stood) (fate : SliceSpelled) (further : List SliceSpelled) (agains : List Stood)
      → patches_in fate ≡ []
      → AreSeenAgain m tables read written methods mark (k + 1) sts further agains
      → AreSeenAgain m tables read written methods mark k (st ∷ sts) (fate ∷ further) agains
  seen : (mark : Mark) (k : ℕ) (st : Stood) (sts : List Stood) (method : PlainMethod) (ps : List TextPatch) (further : List SliceSpelled) (again : Stood) (agains : List Stood)
      → slice_get methods k ≡ Some method
      → IsSeenAgain m tables read written mark (k + 1) st.slice ps method again
      → AreSeenAgain m tables read written methods (past mark ps) (k + 1) sts further agains
      → AreSeenAgain m tables read written methods mark k (st ∷ sts) (fates.Patched ps ∷ further) (again ∷ agains)

-- the first byte of a file is the first that is written
abbrev pub first_mark : Mark
first_mark = record { byte = 0; written = 0 }

-- A file is written with what is spelled of its slices, each of which stands as it was or is seen again as its method of those that rewriting left,
-- among the same items.
pub record IsSettled (m : ViewMap) (tables : Schema) (source : List ℕ) (read : File) (methods : List PlainMethod) (slices : List Stood) (spelled : List SliceSpelled) (out : List ℕ) : Type 0 where
  -- the source with these patches; all other bytes stay
  pub output : out ≡ with_texts source 0 (patches_of spelled)
  -- each slice that has patches is one of what is written, in the same place among the same items
  pub file : File
  pub is_file : file_in m out ≡ Some file
  pub agains : List Stood
  pub each : AreSeenAgain m tables read file methods first_mark 0 slices spelled agains
  pub round : around file.items 0 (map slice_of agains) ≡ around read.items 0 (patched_slices slices spelled)
