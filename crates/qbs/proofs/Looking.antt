-- What is written is looked at, slice by slice.
use Rattle.std.proofs.Common.{◌≡◌, ℕ, zero, suc, ◌+◌, ◌-◌, ◌<◌, Bool, true, ◌&&◌, List, [], ◌∷◌, ◌++◌, map, take, drop, length, get_or, slice_get, Option, Some, None, IsSomeAnd, option_map, sym, ap, ap₂, subst, refl, ◌∙◌, add-one, take_all, Result, Ok, Err, IfOk, ◌≤◌, arith}
use Rattle.std.proofs.lemmas.Bool.{and_parts}
use Rattle.std.proofs.lemmas.List.{drop_more}
use Rattle.qbs_base.specs.declared.memory.NoMemory.{NoMemory}
use Rattle.qbs_base.specs.Values.{Schema}
use Rattle.java_ast.specs.declared.tree.Method.{Method}
use Rattle.java_ast.specs.Reading.{method as plain_method}
use Rattle.java_ast.specs.Tree.{PlainMethod, PlainProgram}
use Rattle.java_grammar.specs.InGrammar.{InMethod, InMethods, IsInGrammar}
use Rattle.java_grammar.specs.ReadBack.{IsReadBack}
use Rattle.java_grammar.specs.Written.{WrittenResult, IsWord, WrittenParams, WrittenStatements, WrittenMethods, IsWritten}
use Rattle.method_texts.specs.Alone.{alone}
use Rattle.text_patches.specs.declared.patch.TextPatch.{TextPatch}
use Rattle.text_patches.specs.Patching.{with_texts}
use Rattle.view_items.specs.declared.cell.Cell.{Cell}
use Rattle.view_items.specs.declared.item.Item.{Item}
use Rattle.view_map.specs.declared.model.ViewMap.{ViewMap}
use Rattle.view_shapes.specs.declared.file.Opened.{Opened}
use Rattle.view_shapes.specs.declared.members.Stretch.{Stretch}
use Rattle.view_scope.specs.declared.standing.Standing.{Standing}
use Rattle.view_statements.specs.declared.slice.Read.{Read}
use Rattle.view_statements.specs.declared.slice.Slice.{Slice}
use Rattle.view_statements.specs.declared.slice.Sliced.{Sliced}
use Rattle.view_slices.specs.Reading.{slice as plain_slice, slices as plain_slices, all_sliced, opened}
use Rattle.view_slices.specs.Slices.{File, PlainSlice, is_slice_by}
use Rattle.view_slices.specs.Views.{is_member, is_again, file_in}
use Rattle.view_slices.specs.Words.{members, are_words}
use Rattle.view_text.specs.Layout.{laid_out}
use Rattle.view_spell.specs.declared.marks.Mark.{Mark}
use Rattle.view_spell.specs.declared.spelled.SliceSpelled.{SliceSpelled}
use Rattle.view_spell.specs.declared.spelled.SliceSpelled.TheVariants as fates
use Rattle.view_spell.specs.Marks.{past}
use Rattle.view_spell.specs.Placed.{patches_of}
use Rattle.qbs.specs.declared.looks.Reached.{Reached}
use Rattle.qbs.specs.ItemBytes.{begins_at, ends_at}
use Rattle.qbs.specs.Looks.{IsMethodIn, standing_in, IsRound, StandsAgain, patched_in, patched_some, patches_at, IsPlaced, AreSeenFrom, AreSeenBehind, Leads}
use Rattle.qbs.specs.SeenAgain.{Stood, stood_in, slices_in, slice_of, slice_class, first_byte, last_byte, patched_slices, words_of, around, IsSeenAgain, AreSeenAgain, none, stays, seen, first_mark, IsSettled}

-- ---- A method alone

method_in : (ms : List PlainMethod) (k : ℕ) (m : PlainMethod) → InMethods ms → slice_get ms k ≡ Some m → InMethod m
method_in [] k m h e = absurd cc
method_in (n ∷ ms) zero m h e = let same : n ≡ m = cc in subst InMethod same h.0
method_in (n ∷ ms) (suc k) m h e = method_in ms k m h.1 e

abbrev WrittenMethod : PlainMethod → Type 0
WrittenMethod m = WrittenResult m.result × IsWord m.name × WrittenParams m.params × WrittenStatements m.body

written_in : (ms : List PlainMethod) (k : ℕ) (m : PlainMethod) → WrittenMethods ms → slice_get ms k ≡ Some m → WrittenMethod m
written_in [] k m h e = absurd cc
written_in (n ∷ ms) zero m h e = let same : n ≡ m = cc in subst WrittenMethod same h.0
written_in (n ∷ ms) (suc k) m h e = written_in ms k m h.1 e

-- the class of a method of a program is of the grammar, and can be written, where the program is and can
pub alone_in_grammar : (p : PlainProgram) (k : ℕ) (m : PlainMethod) → IsInGrammar p → slice_get p.methods k ≡ Some m → IsInGrammar (alone m)
alone_in_grammar p k m h e = record { «package» = tt; imports = tt; name = refl; methods = (method_in p.methods k m h.methods e, tt) }

pub alone_written : (p : PlainProgram) (k : ℕ) (m : PlainMethod) → IsWritten p → slice_get p.methods k ≡ Some m → IsWritten (alone m)
alone_written p k m h e = record { «package» = tt; imports = tt; name = refl; methods = (written_in p.methods k m h.methods e, tt) }

method_at : (ys : List Method) (n : ℕ) (m : Method) → n < length ys → m ≡ get_or ys n m → slice_get (map plain_method ys) n ≡ Some (plain_method m)
method_at [] n m l e = absurd (omega (arith, l))
method_at (y ∷ ys) zero m l e = ap (λ (z : Method). Some (plain_method z)) (sym e)
method_at (y ∷ ys) (suc n) m l e = method_at ys n m (omega (arith, l)) e

-- the method of a number, as the code has it
pub method_held : (ms xs : List Method) (k : ℕ) (m : Method) → xs ≡ ms → k < length xs → m ≡ get_or xs k m → slice_get (map plain_method ms) k ≡ Some (plain_method m)
method_held ms xs k m same lt is = subst (λ (ys : List Method). slice_get (map plain_method ys) k ≡ Some (plain_method m)) same (method_at xs k m lt is)

-- a text of the class of a slice is one of the class of the method that is left of it
pub left_by : (r : Result Bool NoMemory) (text : List ℕ) (program : PlainProgram) (cells : ℕ → List Cell) (n k : ℕ) (ms : List PlainMethod) (m : PlainMethod)
    → IfOk r (λ is. is ≡ true → IsReadBack text program) → text ≡ laid_out (cells n) → n ≡ k + 1 → program ≡ alone m → slice_get ms k ≡ Some m
    → IfOk r (λ is. is ≡ true → IsSomeAnd (slice_get ms k) (λ method. IsReadBack (laid_out (cells (k + 1))) (alone method)))
left_by (Err e) text program cells n k ms m h text_is n_is program_is at = tt
left_by (Ok b) text program cells n k ms m h text_is n_is program_is at =
    λ e. subst (λ (o : Option PlainMethod). IsSomeAnd o (λ method. IsReadBack (laid_out (cells (k + 1))) (alone method))) (sym at)
    (subst (λ (p : PlainProgram). IsReadBack (laid_out (cells (k + 1))) p) program_is
    (subst (λ (t : List ℕ). IsReadBack t program) (text_is ∙ ap (λ (j : ℕ). laid_out (cells j)) n_is) (h e)))

-- ---- Words

pub first_word : (items : List Item) (word : List ℕ) (first : Item) → 1 ≤ length items → first ≡ get_or items 0 first → first.bytes ≡ word
    → words_of items ≡ word ∷ words_of (take (length items - 1) (drop 1 items))
first_word [] word first lt is same = absurd (omega (arith, lt))
first_word (i ∷ items) word first lt is same =
    let e : suc (length items) - 1 ≡ length items = omega arith in
    let all : take (suc (length items) - 1) items ≡ items = ap (λ (n : ℕ). take n items) e ∙ take_all (length items) items (omega arith) in
    ap₂ (λ (w : List ℕ) (rest : List Item). w ∷ words_of rest) (ap (λ (j : Item). j.bytes) (sym is) ∙ same) (sym all)

-- ---- Methods

pub is_method_by : (m : ViewMap) (file : File) (read : Read) (number : ℕ) (member : Stretch) (b c : Bool) → slice_get (members file) number ≡ Some member
    → b ≡ is_member file member read.method → c ≡ are_words m file read.method read.words → (b && c) ≡ true → IsMethodIn m file read
is_method_by m file read number member b c at is reads h =
    let e = and_parts b c h in
    record { number = number; member = member; stands = at; is_method = sym is ∙ e.0; reads = sym reads ∙ e.1 }

-- ---- Slices

-- a slice that stands there is one again
pub stands_again : (m : ViewMap) (tables : Schema) (items : List Item) (file : File) (methods : List PlainMethod) (k : ℕ) (s : PlainSlice) (from to : ℕ)
    (read : Read) (standing : List Standing) (tested : List Stretch) (t : PlainSlice) (method : PlainMethod) → IsRound m file read standing tested
    → t.from ≡ from → t.to ≡ to → is_again items s file.items t ≡ true → is_slice_by m tables file read.words read.method standing tested t ≡ true
    → slice_get methods k ≡ Some method → IsReadBack (laid_out (slice_class m tables file (k + 1) (stood_in read t))) (alone method)
    → StandsAgain m tables items file methods k s from to
stands_again m tables items file methods k s from to read standing tested t method round begins ends same is left text =
    record {
      again = stood_in read t;
      method = method;
      from_there = begins;
      to_there = ends;
      slice =
          record {
            number = round.method.number;
            member = round.method.member;
            stands = round.method.stands;
            is_method = round.method.is_method;
            reads = round.method.reads;
            is = subst (λ (vs : List Stretch). is_slice_by m tables file read.words read.method (standing_in file read) vs t ≡ true) round.are_tested
                (subst (λ (ss : List Standing). is_slice_by m tables file read.words read.method ss tested t ≡ true) round.are_standing is);
          };
      same = same;
      left = left;
      text = text;
    }

left_again : (m : ViewMap) (tables : Schema) (items : List Item) (file : File) (methods : List PlainMethod) (k : ℕ) (s : PlainSlice) (from to : ℕ)
    (read : Read) (standing : List Standing) (tested : List Stretch) (t : PlainSlice) → IsRound m file read standing tested
    → t.from ≡ from → t.to ≡ to → is_again items s file.items t ≡ true → is_slice_by m tables file read.words read.method standing tested t ≡ true
    → IsSomeAnd (slice_get methods k) (λ method. IsReadBack (laid_out (slice_class m tables file (k + 1) (stood_in read t))) (alone method))
    → StandsAgain m tables items file methods k s from to
left_again m tables items file methods k s from to read standing tested t round begins ends same is text = by (slice_get methods k) refl text where
  by : (found : Option PlainMethod) → slice_get methods k ≡ found → IsSomeAnd found (λ method. IsReadBack (laid_out (slice_class m tables file (k + 1) (stood_in read t))) (alone method))
      → StandsAgain m tables items file methods k s from to
  by None e h = absurd h
  by (Some method) e h = stands_again m tables items file methods k s from to read standing tested t method round begins ends same is e h

-- the same where a function answers it
pub answers_again : (r : Result Bool NoMemory) (m : ViewMap) (tables : Schema) (items : List Item) (file : File) (methods : List PlainMethod) (k : ℕ) (s : PlainSlice) (from to : ℕ)
    (read : Read) (standing : List Standing) (tested : List Stretch) (t : PlainSlice) → IsRound m file read standing tested
    → t.from ≡ from → t.to ≡ to → is_again items s file.items t ≡ true → is_slice_by m tables file read.words read.method standing tested t ≡ true
    → IfOk r (λ is. is ≡ true → IsSomeAnd (slice_get methods k) (λ method. IsReadBack (laid_out (slice_class m tables file (k + 1) (stood_in read t))) (alone method)))
    → IfOk r (λ is. is ≡ true → StandsAgain m tables items file methods k s from to)
answers_again (Err e) m tables items file methods k s from to read standing tested t round begins ends same is h = tt
answers_again (Ok b) m tables items file methods k s from to read standing tested t round begins ends same is h =
    λ e. left_again m tables items file methods k s from to read standing tested t round begins ends same is (h e)

-- ---- One slice more

-- a slice without patches stays
pub stays_there : (m : ViewMap) (tables : Schema) (read file : File) (methods : List PlainMethod) (mark : Mark) (k from to : ℕ) (st : Stood) (sts : List Stood)
    (fate : SliceSpelled) (further : List SliceSpelled) → patched_in fate ≡ None
    → AreSeenFrom m tables read file methods mark (k + 1) from to sts further → AreSeenFrom m tables read file methods mark k from to (st ∷ sts) (fate ∷ further)
stays_there m tables read file methods mark k from to st sts fates.Left further e h =
    record { agains = h.agains; each = stays mark k st sts fates.Left further h.agains refl h.each; round = h.round }
stays_there m tables read file methods mark k from to st sts fates.Unlike further e h =
    record { agains = h.agains; each = stays mark k st sts fates.Unlike further h.agains refl h.each; round = h.round }
stays_there m tables read file methods mark k from to st sts fates.Shared further e h =
    record { agains = h.agains; each = stays mark k st sts fates.Shared further h.agains refl h.each; round = h.round }
stays_there m tables read file methods mark k from to st sts (fates.Patched ps) further e h = absurd cc

-- a slice with patches is seen again
pub seen_there : (m : ViewMap) (tables : Schema) (read file : File) (methods : List PlainMethod) (r behind : Reached) (st : Stood) (sts : List Stood) (ps : List TextPatch)
    (further : List SliceSpelled) (from to : ℕ) → IsPlaced read.items file.items st.slice ps r from to behind
    → StandsAgain m tables read.items file methods r.number st.slice from to
    → AreSeenFrom m tables read file methods behind.mark behind.number behind.read behind.written sts further
    → AreSeenFrom m tables read file methods r.mark r.number r.read r.written (st ∷ sts) (fates.Patched ps ∷ further)
seen_there m tables read file methods r behind st sts ps further from to placed again h =
    let s : PlainSlice = st.slice in
    let t : PlainSlice = again.again.slice in
    let each : AreSeenAgain m tables read file methods (past r.mark ps) (r.number + 1) sts further h.agains =
    subst (λ (n : ℕ). AreSeenAgain m tables read file methods (past r.mark ps) n sts further h.agains) placed.next_number
    (subst (λ (mark : Mark). AreSeenAgain m tables read file methods mark behind.number sts further h.agains) placed.next_mark h.each) in
    let round : around file.items t.to (map slice_of h.agains) ≡ around read.items s.to (patched_slices sts further) =
    ap (λ (n : ℕ). around file.items n (map slice_of h.agains)) (again.to_there ∙ sym placed.next_written)
    ∙ h.round ∙ ap (λ (n : ℕ). around read.items n (patched_slices sts further)) placed.next_read in
    let front : words_of (take (t.from - r.written) (drop r.written file.items)) ≡ words_of (take (s.from - r.read) (drop r.read read.items)) =
    ap (λ (n : ℕ). words_of (take (n - r.written) (drop r.written file.items))) again.from_there ∙ sym placed.before in
    let begins : first_byte file t ≡ begins_at (slice_get file.items from) = ap (λ (n : ℕ). begins_at (slice_get file.items n)) again.from_there in
    let ends : last_byte file t ≡ ends_at (slice_get file.items (to - 1)) = ap (λ (n : ℕ). ends_at (slice_get file.items (n - 1))) again.to_there in
    let is : IsSeenAgain m tables read file r.mark (r.number + 1) s ps again.method again.again =
    record { slice = again.slice; from = begins ∙ placed.begins; to = ends ∙ placed.ends; same = again.same; text = again.text } in
    record {
      agains = again.again ∷ h.agains;
      each = seen r.mark r.number st sts again.method ps further again.again h.agains again.left is each;
      round = ap₂ (λ (ws : List (List ℕ)) (wss : List (List (List ℕ))). ws ∷ wss) front round;
    }

-- ---- From one number on

within_some : (xs : List SliceSpelled) (n : ℕ) → n < length xs → slice_get xs n ≡ None → ⊥
within_some [] n lt e = omega (arith, lt)
within_some (x ∷ xs) zero lt e = cc
within_some (x ∷ xs) (suc n) lt e = within_some xs n (omega (arith, lt)) e

held_there : (xs : List SliceSpelled) (n : ℕ) (x : SliceSpelled) → slice_get xs n ≡ Some x → drop n xs ≡ x ∷ drop (suc n) xs
held_there [] n x e = absurd cc
held_there (y ∷ ys) zero x e = let same : y ≡ x = cc in ap (λ (z : SliceSpelled). z ∷ ys) same
held_there (y ∷ ys) (suc n) x e = held_there ys n x e

held : (xs : List SliceSpelled) (n : ℕ) (x : SliceSpelled) → slice_get xs n ≡ Some x → drop n xs ≡ x ∷ drop (n + 1) xs
held xs n x e = held_there xs n x e ∙ ap (λ (j : ℕ). x ∷ drop j xs) (sym (add-one n))

pub stays_behind : (m : ViewMap) (tables : Schema) (read file : File) (methods : List PlainMethod) (spelled : List SliceSpelled) (r behind : Reached) (st : Stood) (sts : List Stood)
    (fate : SliceSpelled) → slice_get spelled r.number ≡ Some fate → patched_in fate ≡ None → behind ≡ record { number = r.number + 1; mark = r.mark; read = r.read; written = r.written }
    → AreSeenBehind m tables read file methods spelled behind sts → AreSeenBehind m tables read file methods spelled r (st ∷ sts)
stays_behind m tables read file methods spelled r behind st sts fate at e is h =
    subst (λ (xs : List SliceSpelled). AreSeenFrom m tables read file methods r.mark r.number r.read r.written (st ∷ sts) xs) (sym (held spelled r.number fate at))
    (stays_there m tables read file methods r.mark r.number r.read r.written st sts fate (drop (r.number + 1) spelled) e
    (subst (λ (b : Reached). AreSeenBehind m tables read file methods spelled b sts) is h))

as_patched : (fate : SliceSpelled) (ps : List TextPatch) → patched_in fate ≡ Some ps → fate ≡ fates.Patched ps
as_patched (fates.Patched qs) ps e = let same : qs ≡ ps = cc in ap fates.Patched same
as_patched fates.Left ps e = absurd cc
as_patched fates.Unlike ps e = absurd cc
as_patched fates.Shared ps e = absurd cc

pub seen_behind : (m : ViewMap) (tables : Schema) (read file : File) (methods : List PlainMethod) (spelled : List SliceSpelled) (r behind : Reached) (st : Stood) (sts : List Stood)
    (fate : SliceSpelled) (ps : List TextPatch) (from to : ℕ) → slice_get spelled r.number ≡ Some fate → patched_in fate ≡ Some ps
    → IsPlaced read.items file.items st.slice ps r from to behind → StandsAgain m tables read.items file methods r.number st.slice from to
    → AreSeenBehind m tables read file methods spelled behind sts → AreSeenBehind m tables read file methods spelled r (st ∷ sts)
seen_behind m tables read file methods spelled r behind st sts fate ps from to at e placed again h =
    let rest : drop r.number spelled ≡ fates.Patched ps ∷ drop (r.number + 1) spelled =
    held spelled r.number fate at ∙ ap (λ (x : SliceSpelled). x ∷ drop (r.number + 1) spelled) (as_patched fate ps e) in
    subst (λ (xs : List SliceSpelled). AreSeenFrom m tables read file methods r.mark r.number r.read r.written (st ∷ sts) xs) (sym rest)
    (seen_there m tables read file methods r behind st sts ps (drop (r.number + 1) spelled) from to placed again
    (subst (λ (n : ℕ). AreSeenFrom m tables read file methods behind.mark behind.number behind.read behind.written sts (drop n spelled)) placed.next_number h))

pub stays_leads : (m : ViewMap) (tables : Schema) (read file : File) (methods : List PlainMethod) (spelled : List SliceSpelled) (r behind : Reached) (s : PlainSlice)
    → r.number < length spelled → None ≡ patches_at spelled r.number → behind ≡ record { number = r.number + 1; mark = r.mark; read = r.read; written = r.written }
    → Leads m tables read file methods spelled r behind s
stays_leads m tables read file methods spelled r behind s lt e is = by (slice_get spelled r.number) refl (sym e) where
  by : (found : Option SliceSpelled) → slice_get spelled r.number ≡ found → patched_some found ≡ None → Leads m tables read file methods spelled r behind s
  by None at h = absurd (within_some spelled r.number lt at)
  by (Some fate) at h = record { from = λ in_method sts seen. stays_behind m tables read file methods spelled r behind (stood_in in_method s) sts fate at h is seen }

pub seen_leads : (m : ViewMap) (tables : Schema) (read file : File) (methods : List PlainMethod) (spelled : List SliceSpelled) (r behind : Reached) (s : PlainSlice)
    (ps : List TextPatch) (from to : ℕ) → Some ps ≡ patches_at spelled r.number → IsPlaced read.items file.items s ps r from to behind
    → StandsAgain m tables read.items file methods r.number s from to → Leads m tables read file methods spelled r behind s
seen_leads m tables read file methods spelled r behind s ps from to e placed again = by (slice_get spelled r.number) refl (sym e) where
  by : (found : Option SliceSpelled) → slice_get spelled r.number ≡ found → patched_some found ≡ Some ps → Leads m tables read file methods spelled r behind s
  by None at h = absurd cc
  by (Some fate) at h = record { from = λ in_method sts seen. seen_behind m tables read file methods spelled r behind (stood_in in_method s) sts fate ps from to at h placed again seen }

-- ---- The end

dropped : (xs : List SliceSpelled) → drop (length xs) xs ≡ []
dropped [] = refl
dropped (x ∷ xs) = dropped xs

pub seen_to_end : (m : ViewMap) (tables : Schema) (read file : File) (methods : List PlainMethod) (spelled : List SliceSpelled) (r : Reached) → r.number ≡ length spelled
    → words_of (drop r.read read.items) ≡ words_of (drop r.written file.items) → AreSeenBehind m tables read file methods spelled r []
seen_to_end m tables read file methods spelled r many same =
    let rest : drop r.number spelled ≡ [] = ap (λ (n : ℕ). drop n spelled) many ∙ dropped spelled in
    subst (λ (xs : List SliceSpelled). AreSeenFrom m tables read file methods r.mark r.number r.read r.written [] xs) (sym rest)
    (record { agains = []; each = none r.mark r.number; round = ap (λ (ws : List (List ℕ)). ws ∷ []) (sym same) })

-- ---- Loops

-- the slices from a number on begin with the one of that number
pub next_slice : (read : Read) (ss : List Slice) (n : ℕ) (s : Slice) (sts : List Stood) → n < length ss → s ≡ get_or ss n s
    → map (stood_in read) (plain_slices (drop n ss)) ++ sts ≡ stood_in read (plain_slice s) ∷ (map (stood_in read) (plain_slices (drop (n + 1) ss)) ++ sts)
next_slice read ss n s sts lt is =
    ap (λ (rest : List Slice). map (stood_in read) (plain_slices rest) ++ sts) (drop_more ss n s lt ∙ ap (λ (x : Slice). x ∷ drop (n + 1) ss) (sym is))

-- the slices of the methods from a number on begin with those of the one of that number
pub next_method : (ss : List Sliced) (n : ℕ) (s : Sliced) → n < length ss → s ≡ get_or ss n s
    → slices_in (all_sliced (drop n ss)) ≡ map (stood_in s.read) (plain_slices s.slices) ++ slices_in (all_sliced (drop (n + 1) ss))
next_method ss n s lt is = ap (λ (rest : List Sliced). slices_in (all_sliced rest)) (drop_more ss n s lt ∙ ap (λ (x : Sliced). x ∷ drop (n + 1) ss) (sym is))

-- ---- All of it

-- what is written is settled where all slices are seen again in it
pub settled_there : (m : ViewMap) (tables : Schema) (source : List ℕ) (read : File) (methods : List PlainMethod) (sts : List Stood) (spelled : List SliceSpelled) (out : List ℕ)
    (found : Option Opened) (file : Opened) (looked : File) → out ≡ with_texts source 0 (patches_of spelled) → option_map opened found ≡ file_in m out → found ≡ Some file → looked ≡ opened file
    → AreSeenFrom m tables read looked methods first_mark 0 0 0 sts spelled → IsSettled m tables source read methods sts spelled out
settled_there m tables source read methods sts spelled out found file looked output is some same h =
    record {
      output = output;
      file = looked;
      is_file = sym is ∙ ap (option_map opened) some ∙ ap Some (sym same);
      agains = h.agains;
      each = h.each;
      round = h.round;
    }
