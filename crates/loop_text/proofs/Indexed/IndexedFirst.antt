-- The first of the sites that pass a test.
use Rattle.std.proofs.Common.{◌≡◌, ◌+◌, ℕ, suc, Bool, true, false, List, [], ◌∷◌, Option, Some, None, slice_get, refl, sym, ap, ◌∙◌, cond, arith}
use Rattle.loop_text.specs.Sites.Indexed.{with_number, passing, numbered, first_of, form_there, form_of_first}
use Rattle.loop_text.specs.Kernel.KernelForms.{Form}
use Rattle.loop_text.specs.Kernel.KernelStarts.{Numbered, first_site, form_found}
use Rattle.loop_text.specs.Sites.Sites.{Site}

-- the sites from a number on are those of all sites
abbrev pub Stand : List Site → ℕ → List Site → Type 0
Stand all k ss = (j : ℕ) (s : Site) → slice_get ss j ≡ Some s → slice_get all (k + j) ≡ Some s

pub stand_further : (all : List Site) (k : ℕ) (s : Site) (ss : List Site) → Stand all k (s ∷ ss) → Stand all (suc k) ss
stand_further all k s ss h j t e = ap (slice_get all) (omega arith) ∙ h (suc j) t e

pub stands_here : (all : List Site) (k : ℕ) (s : Site) (ss : List Site) → Stand all k (s ∷ ss) → slice_get all k ≡ Some s
stands_here all k s ss h = ap (slice_get all) (omega arith) ∙ h 0 s refl

pub all_stand : (all : List Site) → Stand all 0 all
all_stand all j s e = ap (slice_get all) (omega arith) ∙ e

first_by : (all : List Site) (k : ℕ) (t : Bool) (s : Site) (o : Option Numbered) (ns : List ℕ) → slice_get all k ≡ Some s → o ≡ first_of all ns → cond t (Some (record { number = k; site = s })) o ≡ first_of all (with_number t k ns)
first_by all k true s o ns here h = sym (ap (numbered k) here)
first_by all k false s o ns here h = h

first_from : (all : List Site) (p : ℕ → Site → Bool) (k : ℕ) (ss : List Site) → Stand all k ss → first_site p k ss ≡ first_of all (passing p k ss)
first_from all p k [] h = refl
first_from all p k (s ∷ ss) h = first_by all k (p k s) s (first_site p (suc k) ss) (passing p (suc k) ss) (stands_here all k s ss h) (first_from all p (suc k) ss (stand_further all k s ss h))

-- the first site that passes a test is the first of those that are listed
pub first_listed : (all : List Site) (p : ℕ → Site → Bool) (ns : List ℕ) → ns ≡ passing p 0 all → first_site p 0 all ≡ first_of all ns
first_listed all p ns is = first_from all p 0 all (all_stand all) ∙ ap (first_of all) (sym is)

form_numbered : (all : List Site) (n : ℕ) (o : Option Site) → form_found all (numbered n o) ≡ form_there all n o
form_numbered all n (Some s) = refl
form_numbered all n None = refl

form_listed : (all : List Site) (ns : List ℕ) → form_found all (first_of all ns) ≡ form_of_first all ns
form_listed all [] = refl
form_listed all (n ∷ ns) = form_numbered all n (slice_get all n)

pub form_first : (all : List Site) (p : ℕ → Site → Bool) (ns : List ℕ) (f : Form) → ns ≡ passing p 0 all → f ≡ form_of_first all ns → f ≡ form_found all (first_site p 0 all)
form_first all p ns f is found = found ∙ sym (form_listed all ns) ∙ ap (form_found all) (sym (first_listed all p ns is))
