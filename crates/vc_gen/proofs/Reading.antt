-- Where a valid fragment reads flags.
use Rattle.std.proofs.Common.{◌≡◌, ℕ, zero, suc, ◌<◌, true, List, [], ◌∷◌, ◌++◌, take, length, nat_eq, nat_lt, slice_get, refl, sym, ap, ap₂, ◌∙◌, subst, arith, append_assoc, length-append, eqb-true}
use Rattle.std.proofs.Math.Seq.{take-append_seam}
use Rattle.std.specs.declared.option.Option.{Option}
use Rattle.std.specs.declared.option.Option.TheVariants.{Some, None}
use Rattle.tor_terms.specs.declared.term.Atom.{Atom}
use Rattle.tor_terms.specs.declared.term.Atom.TheVariants.{Less, Same, Truth, Member as Listed, Flag}
use Rattle.tor_terms.specs.Plain.{Form, Is, Both, Either}
use Rattle.tor_terms.specs.Same.{same_numbers}
use Rattle.tor_terms.specs.Truth.{World}
use Rattle.tor_axioms.proofs.Decided.{and_left, and_right}
use Rattle.kernel_lang.specs.Plain.{Accumulator, Fragment}
use Rattle.kernel_lang.specs.Pools.{Member}
use Rattle.kernel_lang.specs.Postcondition.{loops_of}
use Rattle.kernel_lang.specs.Running.{Layer, layer, layers, layers_of}
use Rattle.kernel_lang.specs.Sentences.{AccumulatorIsValid, IsValid}
use Rattle.kernel_lang.specs.Validity.{is_mark, is_flag, names_a_flag, flags_are_flags, guard_on_spine, same_guard, same_guards, flag_may_be_read, atom_may_be_read, part_may_be_read, guard_may_be_read, guards_may_be_read, reads_flags_in_place}
use Rattle.kernel_lang.proofs.Listing.{all_at, and_four, and_three, list_all_at}
use Rattle.vc_gen.proofs.Flags.{same_form-true, same_numbers-true}
use Rattle.vc_gen.proofs.Tables.{IsShown}
use Rattle.vc_gen.proofs.Fit.{loops_layers, outside_loops, base_below, mark_of, flag_quiet}
use Rattle.vc_gen.proofs.Guards.{spine_of, MayRead, AtomMayRead, FormMayRead, GuardMayRead, LayersMayRead}

same_guard-true : (g h : Option Form) → same_guard g h ≡ true → g ≡ h
same_guard-true None None e = refl
same_guard-true (Some f) (Some g) e = ap Some (same_form-true f g e)
same_guard-true None (Some g) e = absurd cc
same_guard-true (Some f) None e = absurd cc

-- the guard of a place, and none where there is none
abbrev guard_there : Option (Option Form) → Option Form
guard_there None = None
guard_there (Some g) = g

spine_there : (o : Option (Option Form)) (q : Form) → guard_on_spine o q ≡ true → spine_of (guard_there o) q ≡ true
spine_there None q h = refl
spine_there (Some None) q h = refl
spine_there (Some (Some p)) q h = h

-- chains that are the same up to a loop, and guards that are the same before it
record SameBefore (n : ℕ) (js ks : List ℕ) (gs hs : List (Option Form)) : Type 0 where
  own : Layer
  guard : own.guard ≡ guard_there (slice_get hs n)
  split : take (suc n) (layers ks hs) ≡ take n (layers js gs) ++ own ∷ []

one_more : (j k : ℕ) (g h : Option Form) (n : ℕ) (js ks : List ℕ) (gs hs : List (Option Form)) → j ≡ k → g ≡ h → (s : SameBefore n js ks gs hs)
    → ◌≡◌ {A = List Layer} (layer k h ∷ take (suc n) (layers ks hs)) (layer j g ∷ (take n (layers js gs) ++ s.own ∷ []))
one_more j k g h n js ks gs hs e d s = ap₂ (λ a b. layer a b ∷ take (suc n) (layers ks hs)) (sym e) (sym d) ∙ ap (λ ys. layer j g ∷ ys) s.split

same_before : (n : ℕ) (js ks : List ℕ) (gs hs : List (Option Form)) → n < length ks → same_numbers (take (suc n) js) (take (suc n) ks) ≡ true → same_guards (take n gs) (take n hs) ≡ true → SameBefore n js ks gs hs
same_before n js [] gs hs b e d = absurd (omega (arith, b))
same_before zero js (k ∷ ks) gs [] b e d = record { own = layer k None; guard = refl; split = refl }
same_before zero js (k ∷ ks) gs (h ∷ hs) b e d = record { own = layer k h; guard = refl; split = refl }
same_before (suc n) [] (k ∷ ks) gs hs b e d = absurd cc
same_before (suc n) (j ∷ js) (k ∷ ks) [] [] b e d =
    let s : SameBefore n js ks [] [] = same_before n js ks [] [] (omega (arith, b)) (and_right (nat_eq j k) _ e) (nothing n) in
    record { own = s.own; guard = s.guard; split = one_more j k None None n js ks [] [] (eqb-true j k (and_left (nat_eq j k) _ e)) refl s }
  where
    nothing : (n : ℕ) → same_guards (take n []) (take n []) ≡ true
    nothing zero = refl
    nothing (suc n) = refl
same_before (suc n) (j ∷ js) (k ∷ ks) (g ∷ gs) (h ∷ hs) b e d =
    let s : SameBefore n js ks gs hs = same_before n js ks gs hs (omega (arith, b)) (and_right (nat_eq j k) _ e) (and_right (same_guard g h) _ d) in
    record { own = s.own; guard = s.guard; split = one_more j k g h n js ks gs hs (eqb-true j k (and_left (nat_eq j k) _ e)) (same_guard-true g h (and_left (same_guard g h) _ d)) s }
same_before (suc n) (j ∷ js) (k ∷ ks) [] (h ∷ hs) b e d = absurd cc
same_before (suc n) (j ∷ js) (k ∷ ks) (g ∷ gs) [] b e d = absurd cc

first_loops : (before : List Layer) (y : Layer) (ys : List Layer) → take (suc (length before)) (loops_of (before ++ y ∷ ys)) ≡ loops_of (before ++ y ∷ [])
first_loops [] y ys = refl
first_loops (z ∷ zs) y ys = ap (λ ls. z.over ∷ ls) (first_loops zs y ys)

-- an atom that reads a flag names one
pub flag_named : (f : Fragment) (flag : ℕ) (loops : List ℕ) (number : ℕ) → slice_get f.atoms number ≡ Some (Flag flag loops) → flags_are_flags f ≡ true → is_flag loops (slice_get f.accs flag) ≡ true
unfolding flags_are_flags
flag_named f flag loops number there h = list_all_at (names_a_flag f) f.atoms number (Flag flag loops) h there

-- the member of each accumulator of a fragment is shown
abbrev pub MembersAreShown : Fragment → World → List Member → Type 0
MembersAreShown f w ms = (k : ℕ) (a : Accumulator) → slice_get f.accs k ≡ Some a → (fs : List Form) × (slice_get ms k ≡ Some (a, fs)) × IsShown w f.atoms (a, fs)

module _ (f : Fragment) (v : IsValid f) (w : World) (ms : List Member) (shown : MembersAreShown f w ms) (a : Accumulator) where
  module _ (before : List Layer) (y : Layer) (ys : List Layer) (n : ℕ) (e : layers_of a ≡ before ++ y ∷ ys) (k : n ≡ length before) (q : Form) where
    flag_may : (number : ℕ) (loops : List ℕ) (b : Accumulator) → slice_get f.accs number ≡ Some b → is_flag loops (Some b) ≡ true → flag_may_be_read a n q (Some b) ≡ true → MayRead f w ms before y q number loops
    flag_may number loops b there named read =
        let valid : AccumulatorIsValid f b = all_at (AccumulatorIsValid f) f.accs number b v.accs there in
        let i = and_three (is_mark b.update) (nat_lt 0 b.base) (same_numbers loops (take b.base b.chain)) named in
        let r = and_four (nat_eq b.base (suc n)) (same_numbers (take (suc n) a.chain) (take (suc n) b.chain)) (same_guards (take n a.guards) (take n b.guards)) (guard_on_spine (slice_get b.guards n) q) read in
        let base : b.base ≡ suc n = eqb-true b.base (suc n) r.0 in
        let long : b.base < length b.chain = base_below f b valid in
        let s : SameBefore n a.chain b.chain a.guards b.guards = same_before n a.chain b.chain a.guards b.guards (omega (arith, base, long)) r.1 r.2 in
        let m = shown number b there in
        let prior : take n (layers_of a) ≡ before = ap₂ take k e ∙ take-append_seam before (y ∷ ys) in
        let loops_there : take (suc n) a.chain ≡ loops_of (before ++ y ∷ []) =
        ap₂ take (ap suc k) (sym (loops_layers a.chain a.guards) ∙ ap loops_of e) ∙ first_loops before y ys in
        record {
          member = (b, m.0);
          own = s.own;
          acc = there;
          chosen = m.1;
          flag = record { shown = m.2; mark = mark_of b.update i.0; loops = outside_loops b; quiet = flag_quiet f b valid i.1 };
          split = ap (λ t. take t (layers_of b)) base ∙ s.split ∙ ap (λ zs. zs ++ s.own ∷ []) prior;
          over = sym (outside_loops b) ∙ ap (λ t. take t b.chain) base ∙ sym (same_numbers-true (take (suc n) a.chain) (take (suc n) b.chain) r.1) ∙ loops_there;
          places = same_numbers-true loops (take b.base b.chain) i.2 ∙ outside_loops b;
          spine = subst (λ g. spine_of g q ≡ true) (sym s.guard) (spine_there (slice_get b.guards n) q r.3);
        }

    flag_there : (number : ℕ) (loops : List ℕ) (o : Option Accumulator) → slice_get f.accs number ≡ o → is_flag loops o ≡ true → flag_may_be_read a n q o ≡ true → MayRead f w ms before y q number loops
    flag_there number loops None there named read = absurd cc
    flag_there number loops (Some b) there named read = flag_may number loops b there named read

    atom_may : (number : ℕ) (o : Option Atom) → slice_get f.atoms number ≡ o → atom_may_be_read f a n q o ≡ true → AtomMayRead f w ms before y q o
    atom_may number None there read = tt
    atom_may number (Some (Less c d)) there read = tt
    atom_may number (Some (Same c d)) there read = tt
    atom_may number (Some (Truth c)) there read = tt
    atom_may number (Some (Listed c d)) there read = tt
    atom_may number (Some (Flag flag loops)) there read = flag_there flag loops (slice_get f.accs flag) refl (flag_named f flag loops number there v.flags) read

    form_may : (d : Form) → part_may_be_read f a n q d ≡ true → FormMayRead f w ms before y q d
    form_may (Is number s) read = atom_may number (slice_get f.atoms number) refl read
    form_may (Both c d) read = (form_may c (and_left (part_may_be_read f a n q c) (part_may_be_read f a n q d) read), form_may d (and_right (part_may_be_read f a n q c) (part_may_be_read f a n q d) read))
    form_may (Either c d) read = (form_may c (and_left (part_may_be_read f a n q c) (part_may_be_read f a n q d) read), form_may d (and_right (part_may_be_read f a n q c) (part_may_be_read f a n q d) read))

  guard_may : (before : List Layer) (y : Layer) (ys : List Layer) (n : ℕ) → layers_of a ≡ before ++ y ∷ ys → n ≡ length before → (g : Option Form) → guard_may_be_read f a n g ≡ true → GuardMayRead f w ms before y g
  guard_may before y ys n e k None read = tt
  guard_may before y ys n e k (Some q) read = form_may before y ys n e k q q read

  longer : (before : List Layer) (y : Layer) → suc (length before) ≡ length (before ++ y ∷ [])
  longer before y = let e = length-append before (y ∷ []) in omega (arith, e)

  layers_may : (js : List ℕ) (gs : List (Option Form)) (before : List Layer) (n : ℕ) → layers_of a ≡ before ++ layers js gs → n ≡ length before → guards_may_be_read f a n gs ≡ true → LayersMayRead f w ms before (layers js gs)
  layers_may [] gs before n e k read = tt
  layers_may (j ∷ js) [] before n e k read =
      (tt, layers_may js [] (before ++ layer j None ∷ []) (suc n) (e ∙ sym (append_assoc before (layer j None ∷ []) (layers js []))) (ap suc k ∙ longer before (layer j None)) refl)
  layers_may (j ∷ js) (g ∷ gs) before n e k read = (
    guard_may before (layer j g) (layers js gs) n e k g (and_left (guard_may_be_read f a n g) (guards_may_be_read f a (suc n) gs) read),
    layers_may js gs (before ++ layer j g ∷ []) (suc n) (e ∙ sym (append_assoc before (layer j g ∷ []) (layers js gs))) (ap suc k ∙ longer before (layer j g)) (and_right (guard_may_be_read f a n g) (guards_may_be_read f a (suc n) gs) read),
  )

  pub all_may_read : AccumulatorIsValid f a → LayersMayRead f w ms [] (layers_of a)
  unfolding reads_flags_in_place
  all_may_read own = layers_may a.chain a.guards [] 0 refl refl own.reading
