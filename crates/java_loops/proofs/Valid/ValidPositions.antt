-- The accumulators of flags stand where atoms name them.
use Rattle.std.proofs.Common.{◌≡◌, ℕ, zero, suc, ◌+◌, ◌<◌, ◌≤◌, Bool, true, false, not, ◌&&◌, ◌||◌, List, [], ◌∷◌, ◌++◌, length, map, take, Option, Some, None, refl, sym, ap, ◌∙◌, subst, cond, slice_get, arith}
use Rattle.std.specs.List.{AllByRecursion, filter, take-map}
use Rattle.std.proofs.lemmas.Bool.{and_parts, or_parts, lt-ltb}
use Rattle.std.proofs.Math.Seq.{take-append_seam}
use Rattle.java_ast.specs.Tree as tree
use Rattle.java_ast.specs.Tree.{Expression, Statement}
use Rattle.java_mean.specs.Typing.{Frame}
use Rattle.kernel_lang.specs.Plain.{Accumulator}
use Rattle.kernel_lang.specs.Validity.{is_mark, is_flag, names_a_flag, flags_are_flags}
use Rattle.java_ast.specs.declared.tree.Op.TheVariants as ops
use Rattle.loop_text.specs.Statements.Fragment.{Fragment, needed_of}
use Rattle.java_loops.specs.Kernel.Kernel.{lowering}
use Rattle.loop_text.specs.Kernel.KernelForms.{marks}
use Rattle.loop_text.specs.Kernel.KernelLoop.{is_kernel_loop}
use Rattle.loop_text.specs.Kernel.KernelStarts.{Numbered, first_site, update_of, update_of_flag, form_found, may_start}
use Rattle.loop_text.specs.Kernel.KernelStatements.{is_declaration, is_idle_flag, is_none, broken_update, updates_local}
use Rattle.java_loops.specs.Lowering.Lowered.{accumulator_of, flag_here, flags_from, needed_in_order, conditions_of, update_with}
use Rattle.java_ast.specs.Names.{Names, is_among}
use Rattle.java_loops.specs.Lowering.Numbering.{numbers_of, count_flags, flag_number, flag_reading, bound_reading, reading_of, entries_of, known_of, loop_number, operand_of}
use Rattle.java_loops.specs.Kernel.Setting.{Setting}
use Rattle.loop_text.specs.Sites.Sites.{Site, any_site, place_of, place_where, first_broken, declared_name, outside}
use Rattle.java_loops.proofs.Nested.NestRules.{loop_parts}
use Rattle.java_loops.proofs.Standing.Standing.{site_of}
use Rattle.java_loops.proofs.Standing.StandingRules.{first_none, none_where, fails_at, get_same}
use Rattle.java_loops.proofs.Standing.StandingSites.{loop_first}
use Rattle.java_loops.proofs.Valid.ValidAccumulators.{made, inside_loop_at, under_positive}
use Rattle.java_loops.proofs.Valid.ValidCounts.{own_of, outer_of, flags_of, outer_length, order_total, needed_started}
use Rattle.java_loops.proofs.Valid.ValidFlags.{FlagStands, flag_stands}
use Rattle.java_loops.proofs.Valid.ValidLoop.{Checked, rules}
use Rattle.java_loops.proofs.Valid.ValidNumbers.{numbers_self}
use Rattle.java_loops.proofs.Valid.ValidOperands.{AnyRow, leaf_shape, atoms_pass, comparison_is, same_is, of_comparison}
use Rattle.java_loops.proofs.Valid.ValidOrder.{total}
use Rattle.java_loops.proofs.Valid.ValidScope.{Under}
use Rattle.java_loops.proofs.Valid.ValidShapes.{Shape, compares, equals, tests, reads, finds, flag_at}
use Rattle.java_loops.proofs.Valid.ValidVisits.{Visited}

-- ---- Each needed accumulator has an update

own_one : (w : Setting) (x : List ℕ) (e : Expression) (o : Option Numbered) → may_start (form_found w.sites o) e ≡ true → length (accumulator_of w (numbers_of w) (conditions_of w (numbers_of w)) x 0 o) ≡ 1
own_one w x e None h = absurd cc
own_one w x e (Some u) h = refl

total_ones : (f : List ℕ → ℕ) (all xs : Names) → ((x : List ℕ) → is_among all x ≡ true → f x ≡ 1) → ((x : List ℕ) → is_among xs x ≡ true → is_among all x ≡ true) → total f xs ≡ length xs
total_ones f all [] h i = refl
total_ones f all (x ∷ xs) h i =
    let e : f x ≡ 1 = h x (i x (Rattle.std.proofs.lemmas.Bool.or_left (Rattle.std.specs.Str.bytes_eq x x) (is_among xs x) (Rattle.java_mean.proofs.Puts.name_same x))) in
    let g = total_ones f all xs h (λ y a. i y (Rattle.std.proofs.lemmas.Bool.or_right (Rattle.std.specs.Str.bytes_eq y x) (is_among xs y) a)) in
    omega (arith, e, g)

-- accumulators come before flags, one for each needed variable
pub outer_count : (w : Setting) (c : Frame) → Checked w c → length (outer_of w (needed_in_order w)) ≡ length (needed_of w.fragment)
outer_count w c is =
    outer_length w (needed_in_order w) ∙ order_total w c is (λ x. length (own_of w x))
    ∙ total_ones (λ x. length (own_of w x)) (needed_of w.fragment) (needed_of w.fragment) (λ x a. let s = needed_started w c is x a in own_one w x s.value (update_of w.sites x) s.may) (λ x a. a)

-- ---- Each flag has an update

first_step : (test : ℕ → Site → Bool) (k : ℕ) (s : Site) (ss : List Site) (b : Bool) → (b || any_site test (suc k) ss) ≡ true → (any_site test (suc k) ss ≡ true → (u : Numbered) × (first_site test (suc k) ss ≡ Some u)) → (u : Numbered) × (cond b (Some (record { number = k; site = s })) (first_site test (suc k) ss) ≡ Some u)
first_step test k s ss true h more = (record { number = k; site = s }, refl)
first_step test k s ss false h more = more h

first_there : (test : ℕ → Site → Bool) (k : ℕ) (ss : List Site) → any_site test k ss ≡ true → (u : Numbered) × (first_site test k ss ≡ Some u)
first_there test k [] h = absurd cc
first_there test k (s ∷ ss) h = first_step test k s ss (test k s) h (λ e. first_there test (suc k) ss e)

declares_so : (s : Statement) (x : List ℕ) → declared_name s ≡ Some x → is_declaration s ≡ true
declares_so (tree.Declare at ty y e) x h = refl
declares_so (tree.Assign at y e) x h = absurd cc
declares_so (tree.Add at y e) x h = absurd cc
declares_so (tree.Sort at y keys downs) x h = absurd cc
declares_so (tree.If at c p) x h = absurd cc
declares_so (tree.IfElse at c p q) x h = absurd cc
declares_so (tree.ForEach at ty y e b) x h = absurd cc
declares_so (tree.While at c b) x h = absurd cc
declares_so (tree.Print at e) x h = absurd cc
declares_so (tree.Return at e) x h = absurd cc
declares_so (tree.Break at) x h = absurd cc

not_idle : (b c : Bool) → (b && not c) ≡ false → b ≡ true → c ≡ true
not_idle b true h e = refl
not_idle true false h e = absurd cc
not_idle false false h e = absurd cc

pub flag_updated : (w : Setting) (c : Frame) → Checked w c → (d : ℕ) (s : Site) (x : List ℕ) → slice_get w.sites d ≡ Some s → declared_name s.statement ≡ Some x → (u : Numbered) × (update_of_flag w.sites d ≡ Some u)
flag_updated w c is d s x there name =
    let first = (first_none (place_where (is_none (needed_of w.fragment) || any_site (is_idle_flag w.sites) 0 w.sites) (place_of w.fragment.loop)) (first_broken (broken_update w.sites) 0 w.sites) (rules w is.none).unbroken.updates).0 in
    let none = (or_parts (is_none (needed_of w.fragment)) (any_site (is_idle_flag w.sites) 0 w.sites) (none_where (is_none (needed_of w.fragment) || any_site (is_idle_flag w.sites) 0 w.sites) (place_of w.fragment.loop) first)).1 in
    let idle : is_idle_flag w.sites d s ≡ false = fails_at (λ k t. is_idle_flag w.sites k t) w.sites none d s there in
    first_there (updates_local w.sites d) 0 w.sites (not_idle (is_declaration s.statement) (any_site (updates_local w.sites d) 0 w.sites) idle (declares_so s.statement x name))

-- ---- Places of flags

behind_list : {A : Type 0} (xs ys : List A) (k : ℕ) → slice_get (xs ++ ys) (length xs + k) ≡ slice_get ys k
behind_list [] ys k = let e : 0 + k ≡ k = omega arith in ap (slice_get ys) e
behind_list (x ∷ xs) ys k = let e : suc (length xs) + k ≡ suc (length xs + k) = omega arith in ap (slice_get (x ∷ (xs ++ ys))) e ∙ behind_list xs ys k

abbrev From : Setting → ℕ → List Site → Type 0
From w d ss = (i m : ℕ) (s : Site) → d + i ≡ m → slice_get ss i ≡ Some s → slice_get w.sites m ≡ Some s

abbrev here_of : Setting → ℕ → Site → Option (List ℕ) → List Accumulator
here_of w d s o = flag_here w (numbers_of w) (conditions_of w (numbers_of w)) d s.round o

abbrev flags_past : Setting → ℕ → List Site → List Accumulator
flags_past w d ss = flags_from w (numbers_of w) (conditions_of w (numbers_of w)) d ss

one_here : (w : Setting) (d : ℕ) (s : Site) (x : List ℕ) (u : Numbered) (rest : List Accumulator) (k : ℕ) → update_of_flag w.sites d ≡ Some u → slice_get (here_of w d s (Some x) ++ rest) (suc k) ≡ slice_get rest k
one_here w d s x u rest k h = ap (λ o. slice_get (accumulator_of w (numbers_of w) (conditions_of w (numbers_of w)) x (length s.round.loops) o ++ rest) (suc k)) h

past_one : (w : Setting) (d : ℕ) (s : Site) (t : Statement) (o : Option (List ℕ)) (rest : List Accumulator) (is : List Site) → declared_name t ≡ o → s.statement ≡ t → ((x : List ℕ) → o ≡ Some x → (u : Numbered) × (update_of_flag w.sites d ≡ Some u)) → slice_get (here_of w d s o ++ rest) (length (cond (is_declaration t) (s ∷ filter (λ (z : Site). is_declaration z.statement) is) (filter (λ (z : Site). is_declaration z.statement) is))) ≡ slice_get rest (count_flags is)
past_one w d s (tree.Declare at ty y e) None rest is n same h = absurd cc
past_one w d s (tree.Declare at ty y e) (Some x) rest is n same h = let u = h x refl in one_here w d s x u.0 rest (count_flags is) u.1
past_one w d s (tree.Assign at y e) None rest is n same h = refl
past_one w d s (tree.Add at y e) None rest is n same h = refl
past_one w d s (tree.Sort at y keys downs) None rest is n same h = refl
past_one w d s (tree.If at c p) None rest is n same h = refl
past_one w d s (tree.IfElse at c p q) None rest is n same h = refl
past_one w d s (tree.ForEach at ty y e b) None rest is n same h = refl
past_one w d s (tree.While at c b) None rest is n same h = refl
past_one w d s (tree.Print at e) None rest is n same h = refl
past_one w d s (tree.Return at e) None rest is n same h = refl
past_one w d s (tree.Break at) None rest is n same h = refl
past_one w d s (tree.Assign at y e) (Some x) rest is n same h = absurd cc
past_one w d s (tree.Add at y e) (Some x) rest is n same h = absurd cc
past_one w d s (tree.Sort at y keys downs) (Some x) rest is n same h = absurd cc
past_one w d s (tree.If at c p) (Some x) rest is n same h = absurd cc
past_one w d s (tree.IfElse at c p q) (Some x) rest is n same h = absurd cc
past_one w d s (tree.ForEach at ty y e b) (Some x) rest is n same h = absurd cc
past_one w d s (tree.While at c b) (Some x) rest is n same h = absurd cc
past_one w d s (tree.Print at e) (Some x) rest is n same h = absurd cc
past_one w d s (tree.Return at e) (Some x) rest is n same h = absurd cc
past_one w d s (tree.Break at) (Some x) rest is n same h = absurd cc

here_first : (w : Setting) (d : ℕ) (s : Site) (o : Option (List ℕ)) (x : List ℕ) (u : Numbered) (rest : List Accumulator) → o ≡ Some x → update_of_flag w.sites d ≡ Some u → slice_get (here_of w d s o ++ rest) 0 ≡ Some (made w x (length s.round.loops) u)
here_first w d s None x u rest e h = absurd cc
here_first w d s (Some y) x u rest e h =
    let same : y ≡ x = cc in
    ap (λ q. slice_get (accumulator_of w (numbers_of w) (conditions_of w (numbers_of w)) y (length s.round.loops) q ++ rest) 0) h ∙ ap (λ z. Some (made w z (length s.round.loops) u)) same

flag_placed : (w : Setting) (c : Frame) → Checked w c → (d : ℕ) (ss : List Site) → From w d ss → (i m : ℕ) (s : Site) (x : List ℕ) (u : Numbered) → d + i ≡ m → slice_get ss i ≡ Some s → declared_name s.statement ≡ Some x → update_of_flag w.sites m ≡ Some u → slice_get (flags_past w d ss) (count_flags (take i ss)) ≡ Some (made w x (length s.round.loops) u)
flag_placed w c is d [] f i m s x u sum there name h = absurd cc
flag_placed w c is d (t ∷ ss) f zero m s x u sum there name h =
    let same : t ≡ s = cc in
    let at : m ≡ d = omega arith in
    here_first w d t (declared_name t.statement) x u (flags_past w (suc d) ss) (ap (λ (z : Site). declared_name z.statement) same ∙ name) (ap (update_of_flag w.sites) (sym at) ∙ h) ∙ ap (λ (z : Site). Some (made w x (length z.round.loops) u)) same
flag_placed w c is d (t ∷ ss) f (suc i) m s x u sum there name h =
    past_one w d t t.statement (declared_name t.statement) (flags_past w (suc d) ss) (take i ss) refl refl (λ y e. flag_updated w c is d t y (f 0 d t (omega arith) refl) e)
    ∙ flag_placed w c is (suc d) ss (λ j k z e q. f (suc j) k z (omega arith) q) i m s x u (omega arith) there name h

whole_from : (w : Setting) → From w 0 w.sites
whole_from w = λ i m s e there. let same : i ≡ m = omega arith in subst (λ k. slice_get w.sites k ≡ Some s) same there

-- the accumulator of a flag has the flag's number
pub flag_at_number : (w : Setting) (c : Frame) → Checked w c → (d : ℕ) (s : Site) (x : List ℕ) (u : Numbered) → slice_get w.sites d ≡ Some s → declared_name s.statement ≡ Some x → update_of_flag w.sites d ≡ Some u → slice_get (lowering w).fragment.accs (flag_number w d) ≡ Some (made w x (length s.round.loops) u)
flag_at_number w c is d s x u there name h =
    let k : ℕ = count_flags (take d w.sites) in
    ap (λ n. slice_get (outer_of w (needed_in_order w) ++ flags_of w) (n + k)) (sym (outer_count w c is))
    ∙ behind_list (outer_of w (needed_in_order w)) (flags_of w) k
    ∙ flag_placed w c is 0 w.sites (whole_from w) d d s x u (omega arith) there name h

-- ---- Atoms name flags

no_declaration : (f : Fragment) (s : Statement) (x : List ℕ) → is_kernel_loop f s ≡ true → declared_name s ≡ Some x → ⊥
no_declaration f (tree.ForEach at ty y e b) x h t = absurd cc
no_declaration f (tree.While at c b) x h t = absurd cc
no_declaration f (tree.Declare at ty y e) x h t = absurd cc
no_declaration f (tree.Assign at y e) x h t = absurd cc
no_declaration f (tree.Add at y e) x h t = absurd cc
no_declaration f (tree.Sort at y keys downs) x h t = absurd cc
no_declaration f (tree.If at c p) x h t = absurd cc
no_declaration f (tree.IfElse at c p q) x h t = absurd cc
no_declaration f (tree.Print at e) x h t = absurd cc
no_declaration f (tree.Return at e) x h t = absurd cc
no_declaration f (tree.Break at) x h t = absurd cc

declared_behind : (w : Setting) (c : Frame) → Checked w c → (d : ℕ) (s : Site) (x : List ℕ) → slice_get w.sites d ≡ Some s → declared_name s.statement ≡ Some x → 1 ≤ d
declared_behind w c is zero s x there h =
    let one : slice_get w.sites 0 ≡ Some (site_of outside None w.fragment.loop) = ap (λ ss. slice_get ss 0) is.sites ∙ loop_first w.fragment.loop in
    let same : site_of outside None w.fragment.loop ≡ s = get_same w.sites 0 (site_of outside None w.fragment.loop) s one there in
    absurd (no_declaration w.fragment w.fragment.loop x (loop_parts w (rules w is.none).unbroken).1 (ap (λ (z : Site). declared_name z.statement) same ∙ h))
declared_behind w c is (suc d) s x there h = omega arith

-- a flag is declared in a loop
pub declared_inside : (w : Setting) (c : Frame) → Checked w c → (d : ℕ) (s : Site) (x : List ℕ) → slice_get w.sites d ≡ Some s → declared_name s.statement ≡ Some x → 0 < length s.round.loops
declared_inside w c is d s x there h = under_positive s.round (inside_loop_at w c is d s (declared_behind w c is d s x there h) there)

pub front_same : (f : ℕ → ℕ) (js more : List ℕ) → take (length js) (map f (js ++ more)) ≡ map f js
front_same f js more = take-map f (length js) (js ++ more) ∙ ap (map f) (take-append_seam js more)

made_flag : (w : Setting) (x : List ℕ) (s : Site) (u : Numbered) (b : Bool) → form_found w.sites (Some u) ≡ marks b → Under s.round u.site.round → 0 < length s.round.loops → is_flag (map (loop_number w.sites) s.round.loops) (Some (made w x (length s.round.loops) u)) ≡ true
made_flag w x s u b form under low =
    let mark : is_mark (update_with w x u.site.round (form_found w.sites (Some u))) ≡ true = ap (λ z. is_mark (update_with w x u.site.round z)) form in
    let loops : take (length s.round.loops) (map (loop_number w.sites) u.site.round.loops) ≡ map (loop_number w.sites) s.round.loops = ap (λ l. take (length s.round.loops) (map (loop_number w.sites) l)) under.is_loops ∙ front_same (loop_number w.sites) s.round.loops under.loops in
    rw (mark, lt-ltb 0 (length s.round.loops) low, loops, numbers_self (map (loop_number w.sites) s.round.loops)) refl

pub flag_named : (w : Setting) (c : Frame) → Checked w c → (d : ℕ) (s : Site) (x : List ℕ) → slice_get w.sites d ≡ Some s → declared_name s.statement ≡ Some x → names_a_flag (lowering w).fragment (flag_reading w d (Some s)).atom ≡ true
flag_named w c is d s x there name =
    let u = flag_updated w c is d s x there name in
    let f : FlagStands w c d s u.0 x = flag_stands w c is d s u.0 x there name u.1 in
    ap (is_flag (map (loop_number w.sites) s.round.loops)) (flag_at_number w c is d s x u.0 there name u.1) ∙ made_flag w x s u.0 f.value f.form f.under (declared_inside w c is d s x there name)

shape_named : (w : Setting) (c : Frame) → Checked w c → (n : ℕ) (v : Visited AnyRow c w.types w.sites n) (e : Expression) → Shape w c v.now n e → names_a_flag (lowering w).fragment (reading_of w (entries_of w) (known_of w) n e).atom ≡ true
shape_named w c is n v _ (compares at op a b ty to takes k h) = of_comparison (names_a_flag (lowering w).fragment) op (operand_of w (entries_of w) n a) (operand_of w (entries_of w) n b) _ (comparison_is op (operand_of w (entries_of w) n a) (operand_of w (entries_of w) n b)) refl refl refl refl
shape_named w c is n v _ (equals at a b h) = of_comparison (names_a_flag (lowering w).fragment) ops.Eq (operand_of w (entries_of w) n a) (operand_of w (entries_of w) n b) _ (same_is ops.Eq (operand_of w (entries_of w) n a) (operand_of w (entries_of w) n b)) refl refl refl refl
shape_named w c is n v _ (tests at e f t h) = refl
shape_named w c is n v _ (reads at x k i h) =
    let f = flag_at AnyRow c w.types w.sites n v x k i h in
    ap (λ b. names_a_flag (lowering w).fragment (bound_reading w b).atom) f.bound
    ∙ ap (λ o. names_a_flag (lowering w).fragment (flag_reading w f.number o).atom) f.declared.there
    ∙ flag_named w c is f.number f.declared.site x f.declared.there f.declared.declares
shape_named w c is n v _ (finds at x e k ty i has t h known) = refl

-- Atoms of flags name flags, with the loops round their declarations.
pub flags_named : (w : Setting) (c : Frame) → Checked w c → flags_are_flags (lowering w).fragment ≡ true
unfolding flags_are_flags
flags_named w c is = atoms_pass w c is (names_a_flag (lowering w).fragment) (λ n e l. shape_named w c is n l.visited e (leaf_shape AnyRow w c n e l))
