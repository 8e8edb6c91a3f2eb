-- Which fragments are valid: the sentences that have to hold, in order, and the first that doesn't.
use Rattle.std.specs.Prelude.{if◌then◌else◌, ℕ, zero, suc, ◌+◌, ◌*◌, ◌^◌, pos, Bool, true, false, not, ◌&&◌, ◌||◌, List, [], ◌∷◌, take, drop, length, slice_get, nat_eq, nat_lt, nat_le, is_none}
use Rattle.std.specs.List.{list_all, list_any}
use Rattle.std.specs.declared.option.Option.{Option}
use Rattle.std.specs.declared.option.Option.TheVariants.{Some, None}
use Rattle.qbs_base.specs.declared.scalar.Scalar.{Scalar}
use Rattle.qbs_base.specs.declared.scalar.Scalar.TheVariants as scalars
use Rattle.tor_terms.specs.declared.term.Atom.{Atom}
use Rattle.tor_terms.specs.declared.term.Atom.TheVariants as atoms
use Rattle.tor_terms.specs.declared.term.Elem.{Elem}
use Rattle.tor_terms.specs.declared.term.Elem.TheVariants as elems
use Rattle.tor_terms.specs.declared.term.Operand.{Operand}
use Rattle.tor_terms.specs.declared.term.Operand.TheVariants as operands
use Rattle.tor_terms.specs.Plain.{Form, Is, Both, Either}
use Rattle.tor_terms.specs.Same.{same_form, same_numbers}
use Rattle.tor_terms.specs.Truth.{has_loop, form_within}
use Rattle.tor_terms.specs.Valid.{elem_loop}
use Rattle.kernel_lang.specs.declared.parts.ListDef.{ListDef}
use Rattle.kernel_lang.specs.declared.parts.Update.{Update}
use Rattle.kernel_lang.specs.declared.parts.Update.TheVariants as updates
use Rattle.kernel_lang.specs.declared.sentence.Sentence.{Sentence}
use Rattle.kernel_lang.specs.declared.sentence.Sentence.TheVariants as sentences
use Rattle.kernel_lang.specs.Plain.{Accumulator, Fragment}
use Rattle.kernel_lang.specs.Paths.{count_guard}

-- the element of an update
abbrev pub element_of : Update → Option Elem
element_of (updates.Push e) = Some e
element_of (updates.PushNew e) = Some e
element_of updates.Tick = None
element_of (updates.Plus e) = Some e
element_of (updates.Best way e) = Some e
element_of updates.Mark = None

abbrev pub is_mark : Update → Bool
is_mark updates.Mark = true
is_mark _ = false

abbrev pub is_push : Update → Bool
is_push (updates.Push e) = true
is_push _ = false

-- a guard as a formula that holds by itself where there is none
abbrev pub guard_all : (Form → Bool) → Option Form → Bool
guard_all test None = true
guard_all test (Some f) = test f

-- a test of all formulas of an accumulator
abbrev pub all_formulas : (Form → Bool) → Accumulator → Bool
all_formulas test a = list_all (guard_all test) a.guards && list_all test a.pool

-- The numbers name what is there.

abbrev pub operand_is_there : Fragment → Operand → Bool
operand_is_there f (operands.Field j c) = nat_lt j (length f.lists)
operand_is_there f (operands.Entry k) = nat_lt k (length f.entries)
operand_is_there f (operands.Lit x) = true

abbrev pub loops_are_there : Fragment → List ℕ → Bool
loops_are_there f loops = list_all (λ j. nat_lt j (length f.lists)) loops

abbrev pub atom_is_there : Fragment → Atom → Bool
atom_is_there f (atoms.Less a b) = operand_is_there f a && operand_is_there f b
atom_is_there f (atoms.Same a b) = operand_is_there f a && operand_is_there f b
atom_is_there f (atoms.Truth a) = operand_is_there f a
atom_is_there f (atoms.Member a q) = operand_is_there f a && nat_lt q f.known
atom_is_there f (atoms.Flag k loops) = nat_lt k (length f.accs) && loops_are_there f loops

abbrev pub formula_is_there : ℕ → Form → Bool
formula_is_there n (Is k s) = nat_lt k n
formula_is_there n (Both f g) = formula_is_there n f && formula_is_there n g
formula_is_there n (Either f g) = formula_is_there n f && formula_is_there n g

abbrev pub element_is_there : Fragment → Option Elem → Bool
element_is_there f None = true
element_is_there f (Some e) = nat_lt (elem_loop e) (length f.lists)

unfoldable pub accumulator_is_there : Fragment → Accumulator → Bool
accumulator_is_there f a = loops_are_there f a.chain && element_is_there f (element_of a.update) && all_formulas (formula_is_there (length f.atoms)) a

unfoldable pub atoms_are_there : Fragment → Bool
atoms_are_there f = list_all (atom_is_there f) f.atoms

-- Chains rise and are short, the base is below their length, and each loop has a guard.

abbrev pub rises_after : ℕ → List ℕ → Bool
rises_after j [] = true
rises_after j (k ∷ ks) = nat_lt j k && rises_after k ks

abbrev pub rises : List ℕ → Bool
rises [] = true
rises (j ∷ js) = rises_after j js

unfoldable pub chain_is_valid : Accumulator → Bool
chain_is_valid a = nat_le (length a.chain) 3 && rises a.chain && nat_lt a.base (length a.chain) && nat_eq (length a.guards) (length a.chain)

-- Only a flag is declared inside a loop, or kept by its opposite.

unfoldable pub base_is_valid : Accumulator → Bool
base_is_valid a = is_mark a.update || (nat_eq a.base 0 && not a.opposite)

-- Guards read loops of the chain up to their level, pools and elements loops of the chain.

abbrev pub guards_within : List Atom → List ℕ → ℕ → List (Option Form) → Bool
guards_within all chain n [] = true
guards_within all chain n (g ∷ gs) = guard_all (form_within all (take n chain)) g && guards_within all chain (suc n) gs

abbrev pub element_within : List ℕ → Option Elem → Bool
element_within chain None = true
element_within chain (Some e) = has_loop chain (elem_loop e)

unfoldable pub reads_its_chain : List Atom → Accumulator → Bool
reads_its_chain all a = guards_within all a.chain 1 a.guards && list_all (form_within all a.chain) a.pool && element_within a.chain (element_of a.update)

-- A flag is an accumulator that is declared inside a loop; it is read at the loops round its declaration.

abbrev pub is_flag : List ℕ → Option Accumulator → Bool
is_flag loops None = false
is_flag loops (Some a) = is_mark a.update && nat_lt 0 a.base && same_numbers loops (take a.base a.chain)

abbrev pub names_a_flag : Fragment → Atom → Bool
names_a_flag f (atoms.Flag k loops) = is_flag loops (slice_get f.accs k)
names_a_flag f _ = true

unfoldable pub flags_are_flags : Fragment → Bool
flags_are_flags f = list_all (names_a_flag f) f.atoms

-- and reads no flag itself

abbrev pub is_no_flag : Option Atom → Bool
is_no_flag (Some (atoms.Flag k loops)) = false
is_no_flag _ = true

abbrev pub reads_no_flag : List Atom → Form → Bool
reads_no_flag all (Is k s) = is_no_flag (slice_get all k)
reads_no_flag all (Both f g) = reads_no_flag all f && reads_no_flag all g
reads_no_flag all (Either f g) = reads_no_flag all f && reads_no_flag all g

unfoldable pub flag_is_quiet : List Atom → Accumulator → Bool
flag_is_quiet all a = nat_eq a.base 0 || all_formulas (reads_no_flag all) a

-- Comparisons have a field, tests are of fields.

abbrev pub is_field : Operand → Bool
is_field (operands.Field j c) = true
is_field _ = false

abbrev pub has_a_field : Atom → Bool
has_a_field (atoms.Less a b) = is_field a || is_field b
has_a_field (atoms.Same a b) = is_field a || is_field b
has_a_field (atoms.Truth a) = is_field a
has_a_field (atoms.Member a q) = is_field a
has_a_field (atoms.Flag k loops) = true

unfoldable pub tests_have_fields : Fragment → Bool
tests_have_fields f = list_all has_a_field f.atoms

-- Where a flag is read: in a guard of the level at which it is declared, behind its own guard there.

-- p is q, or stands down the left parts of q
abbrev pub on_spine : Form → Form → Bool
on_spine p (Both q r) = same_form p (Both q r) || on_spine p q
on_spine p q = same_form p q

abbrev pub guard_on_spine : Option (Option Form) → Form → Bool
guard_on_spine (Some (Some p)) q = on_spine p q
guard_on_spine _ q = true

abbrev pub same_guard : Option Form → Option Form → Bool
same_guard None None = true
same_guard (Some f) (Some g) = same_form f g
same_guard _ _ = false

abbrev pub same_guards : List (Option Form) → List (Option Form) → Bool
same_guards [] [] = true
same_guards (g ∷ gs) (h ∷ hs) = same_guard g h && same_guards gs hs
same_guards _ _ = false

-- the flag b may be read in the guard q, which has n levels before it, of the accumulator a
abbrev pub flag_may_be_read : Accumulator → ℕ → Form → Option Accumulator → Bool
flag_may_be_read a n q None = false
flag_may_be_read a n q (Some b) =
    nat_eq b.base (suc n)
    && same_numbers (take (suc n) a.chain) (take (suc n) b.chain)
    && same_guards (take n a.guards) (take n b.guards)
    && guard_on_spine (slice_get b.guards n) q

abbrev pub atom_may_be_read : Fragment → Accumulator → ℕ → Form → Option Atom → Bool
atom_may_be_read f a n q (Some (atoms.Flag k loops)) = flag_may_be_read a n q (slice_get f.accs k)
atom_may_be_read f a n q _ = true

-- each flag in a part of the guard q
abbrev pub part_may_be_read : Fragment → Accumulator → ℕ → Form → Form → Bool
part_may_be_read f a n q (Is k s) = atom_may_be_read f a n q (slice_get f.atoms k)
part_may_be_read f a n q (Both g h) = part_may_be_read f a n q g && part_may_be_read f a n q h
part_may_be_read f a n q (Either g h) = part_may_be_read f a n q g && part_may_be_read f a n q h

abbrev pub guard_may_be_read : Fragment → Accumulator → ℕ → Option Form → Bool
guard_may_be_read f a n None = true
guard_may_be_read f a n (Some q) = part_may_be_read f a n q q

abbrev pub guards_may_be_read : Fragment → Accumulator → ℕ → List (Option Form) → Bool
guards_may_be_read f a n [] = true
guards_may_be_read f a n (g ∷ gs) = guard_may_be_read f a n g && guards_may_be_read f a (suc n) gs

unfoldable pub reads_flags_in_place : Fragment → Accumulator → Bool
reads_flags_in_place f a = guards_may_be_read f a 0 a.guards

-- What an accumulator starts with, and that fields are added and compared.

abbrev pub is_nought : Scalar → Bool
is_nought (scalars.Long (pos zero)) = true
is_nought _ = false

abbrev pub is_number : Scalar → Bool
is_number (scalars.Long n) = true
is_number _ = false

abbrev pub is_false : Scalar → Bool
is_false (scalars.Bool b) = not b
is_false _ = false

abbrev pub starts_as : (Scalar → Bool) → Option Scalar → Bool
starts_as test (Some x) = test x
starts_as test None = false

abbrev pub start_is_valid : Update → Option Scalar → Bool
start_is_valid (updates.Push e) start = is_none start
start_is_valid (updates.PushNew e) start = is_none start
start_is_valid updates.Tick start = starts_as is_nought start
start_is_valid (updates.Plus e) start = starts_as is_nought start
start_is_valid (updates.Best way e) start = starts_as is_number start
start_is_valid updates.Mark start = starts_as is_false start

abbrev pub is_column : Elem → Bool
is_column (elems.Whole j) = false
is_column (elems.Field j c) = true

abbrev pub takes_a_column : Update → Bool
takes_a_column (updates.PushNew e) = is_column e
takes_a_column (updates.Plus e) = is_column e
takes_a_column (updates.Best way e) = is_column e
takes_a_column _ = true

unfoldable pub starts_rightly : Accumulator → Bool
starts_rightly a = start_is_valid a.update a.start && takes_a_column a.update

-- Limits stand alone, beside sorts only what is appended whole; sets, counts and sums have one loop.

abbrev pub limit_is_valid : ℕ → Option ℕ → Bool
limit_is_valid loops None = true
limit_is_valid loops (Some n) = nat_lt n (2 ^ 63) && nat_eq loops 1

abbrev pub is_empty : {X : Type 0} → List X → Bool
is_empty [] = true
is_empty (x ∷ xs) = false

-- a list that is sorted and cut
abbrev pub is_sorted_and_cut : ListDef → Bool
is_sorted_and_cut d = not (is_none d.limit) && not (is_empty d.keys)

abbrev pub only_appends : Accumulator → Bool
only_appends a = is_push a.update && list_all is_none a.guards && is_empty a.pool

abbrev pub is_unsorted : Option ListDef → Bool
is_unsorted None = true
is_unsorted (Some d) = is_empty d.keys

-- one loop, over a list without keys
abbrev pub one_unsorted_loop : Fragment → List ℕ → Bool
one_unsorted_loop f (j ∷ []) = is_unsorted (slice_get f.lists j)
one_unsorted_loop f _ = false

abbrev pub loops_are_few : Fragment → List ℕ → Update → Bool
loops_are_few f chain (updates.PushNew e) = one_unsorted_loop f chain
loops_are_few f chain updates.Tick = nat_eq (length chain) 1
loops_are_few f chain (updates.Plus e) = nat_eq (length chain) 1
loops_are_few f chain _ = true

unfoldable pub limits_are_valid : Fragment → Bool
limits_are_valid f = list_all (λ d. limit_is_valid (length f.lists) d.limit) f.lists

unfoldable pub suits_the_lists : Fragment → Accumulator → Bool
suits_the_lists f a = loops_are_few f a.chain a.update && (not (list_any is_sorted_and_cut f.lists) || only_appends a)

-- Numbers of parts.

abbrev pub pool_is_small : Accumulator → Bool
pool_is_small a = nat_le (length a.pool) 16

unfoldable pub is_small : Fragment → Bool
is_small f =
    nat_le (length f.lists) 256
    && nat_le (length f.accs) 8
    && nat_le (length f.atoms) 24
    && nat_le (length f.entries) 9
    && list_all pool_is_small f.accs

-- Numbers of conditions: at each level one at entry, one for each path of its guard and one at exit, for
-- each combination of true paths of the guards before it.

abbrev pub level_conditions : Option Form → ℕ
level_conditions g = 2 + (count_guard g true + count_guard g false)

abbrev pub count_levels : ℕ → List (Option Form) → ℕ
count_levels ways [] = 0
count_levels ways (g ∷ gs) = ways * level_conditions g + count_levels (ways * count_guard g true) gs

-- the true paths of the guards round a declaration
abbrev pub count_ways : List (Option Form) → ℕ
count_ways [] = 1
count_ways (g ∷ gs) = count_guard g true * count_ways gs

abbrev pub count_own : Accumulator → ℕ
count_own a = count_levels (count_ways (take a.base a.guards)) (drop a.base a.guards)

abbrev pub count_conditions : List Accumulator → ℕ
count_conditions [] = 0
count_conditions (a ∷ rest) = count_own a + count_conditions rest

unfoldable pub conditions_are_few : Fragment → Bool
conditions_are_few f = nat_le (count_conditions f.accs) 4096

-- the first sentence that doesn't hold
abbrev pub first_broken : List (Bool × Sentence) → Option Sentence
first_broken [] = None
first_broken (s ∷ rest) = if s.0 then first_broken rest else Some s.1

-- sentences of the whole fragment
abbrev pub sentences_of_parts : Fragment → List (Bool × Sentence)
sentences_of_parts f =
    (is_small f, sentences.Size)
    ∷ (atoms_are_there f, sentences.Names)
    ∷ (tests_have_fields f, sentences.Operands)
    ∷ (flags_are_flags f, sentences.Flags)
    ∷ (limits_are_valid f, sentences.Limits)
    ∷ []

unfoldable pub parts_broken : Fragment → Option Sentence
parts_broken f = first_broken (sentences_of_parts f)

-- sentences of one accumulator
abbrev pub sentences_of_accumulator : Fragment → Accumulator → List (Bool × Sentence)
sentences_of_accumulator f a =
    (chain_is_valid a, sentences.Chain)
    ∷ (accumulator_is_there f a, sentences.Names)
    ∷ (base_is_valid a, sentences.Base)
    ∷ (reads_its_chain f.atoms a, sentences.Loops)
    ∷ (flag_is_quiet f.atoms a, sentences.Flags)
    ∷ (reads_flags_in_place f a, sentences.Reading)
    ∷ (starts_rightly a, sentences.Start)
    ∷ (suits_the_lists f a, sentences.Limits)
    ∷ []

unfoldable pub accumulator_broken : Fragment → Accumulator → Option Sentence
accumulator_broken f a = first_broken (sentences_of_accumulator f a)

abbrev pub or_else : Option Sentence → Option Sentence → Option Sentence
or_else None other = other
or_else (Some s) other = Some s

abbrev pub accumulators_broken : Fragment → List Accumulator → Option Sentence
accumulators_broken f [] = None
accumulators_broken f (a ∷ rest) = or_else (accumulator_broken f a) (accumulators_broken f rest)

-- what is broken first, and none where the fragment is valid
unfoldable pub broken : Fragment → Option Sentence
broken f = or_else (parts_broken f) (or_else (accumulators_broken f f.accs) (first_broken ((conditions_are_few f, sentences.Conditions) ∷ [])))
