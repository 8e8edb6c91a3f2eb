-- The program after all tries and the patches of its source are what is put for the loops that gave way, one after the other.
use Rattle.std.proofs.Common.{◌≡◌, ℕ, zero, suc, List, [], ◌∷◌, ◌++◌, length, slice_get, Option, Some, None, refl, sym, ◌∙◌}
use Rattle.qbs_base.specs.Values.{Schema}
use Rattle.query_search.specs.Verdicts.{Found, NoneOf, Budget}
use Rattle.java_ast.specs.Tree.{PlainProgram}
use Rattle.java_types.specs.Texts.{read_by}
use Rattle.java_stretches.specs.Patches.{PlainPatch}
use Rattle.loop_text.specs.Statements.Loops.{loops_of}
use Rattle.java_loops.specs.Kernel.Kernel.{broken, setting_at}
use Rattle.java_loops.specs.Kernel.Setting.{Setting}
use Rattle.rewrite_core.specs.Patches.{Put, put_by, puts_of, with_puts, patches_for, patches_by, patches_left}
use Rattle.rewrite_core.specs.Trying.{Answer, Outside, Searched, answer_unless, Tried, tried_in, tried_at, program_by, program_after, standing_after, and_further, trying, left_of, all_tried}

one_put : (t : Tried) (a : Answer) (xs : List Put) → with_puts t.program (put_by t a ++ xs) ≡ with_puts (program_by t a) xs
one_put t (Searched f (Found h)) xs = refl
one_put t (Searched f (NoneOf n)) xs = refl
one_put t (Searched f (Budget b n)) xs = refl
one_put t (Outside b) xs = refl

one_patch : (source : List ℕ) (t : Tried) (a : Answer) (xs : List Put) (ps : List PlainPatch) → patches_for source t.program (put_by t a ++ xs) ps ≡ patches_for source (program_by t a) xs (patches_by source t a ps)
one_patch source t (Searched f (Found h)) xs ps = refl
one_patch source t (Searched f (NoneOf n)) xs ps = refl
one_patch source t (Searched f (Budget b n)) xs ps = refl
one_patch source t (Outside b) xs ps = refl

-- so it is of tries from a program on
record IsPut (source : List ℕ) (p : PlainProgram) (ts : List Tried) : Type 0 where
  program : left_of p ts ≡ with_puts p (puts_of ts)
  patches : (ps : List PlainPatch) → patches_left source ps ts ≡ patches_for source p (puts_of ts) ps

module _ (schema : Schema) (size budget : ℕ) (source : List ℕ) where
  module _ (p : PlainProgram) (n : ℕ) (further : PlainProgram → ℕ → List Tried) (ih : (q : PlainProgram) (m : ℕ) → IsPut source q (further q m)) where
    abbrev tries : Option Tried → List Tried
    tries o = and_further o (λ t. further (program_after t) (standing_after n t.answer))

    by_setting : (path : List ℕ) (o : Option Setting) → IsPut source p (tries (tried_in size budget p path o))
    by_setting path None = record { program = refl; patches = λ ps. refl }
    by_setting path (Some w) =
        let t : Tried = record { program = p; path = path; setting = w; answer = answer_unless size budget w (broken w) } in
        let later : IsPut source (program_after t) (further (program_after t) (standing_after n t.answer)) = ih (program_after t) (standing_after n t.answer) in
        record {
          program = later.program ∙ sym (one_put t t.answer (puts_of (further (program_after t) (standing_after n t.answer))));
          patches = λ ps. later.patches (patches_by source t t.answer ps) ∙ sym (one_patch source t t.answer (puts_of (further (program_after t) (standing_after n t.answer))) ps);
        }

    by_path : (o : Option (List ℕ)) → IsPut source p (tries (tried_at schema size budget p o))
    by_path None = record { program = refl; patches = λ ps. refl }
    by_path (Some path) = by_setting path (setting_at schema (read_by schema) path p)

  all_put : (left : ℕ) (p : PlainProgram) (n : ℕ) → IsPut source p (trying left schema size budget p n)
  unfolding trying
  all_put zero p n = record { program = refl; patches = λ ps. refl }
  all_put (suc left) p n = by_path p n (λ q m. trying left schema size budget q m) (λ q m. all_put left q m) (slice_get (loops_of p) n)

  pub tried_puts : (p : PlainProgram) → left_of p (all_tried schema size budget p) ≡ with_puts p (puts_of (all_tried schema size budget p))
  unfolding all_tried
  tried_puts p = (all_put (length (loops_of p)) p 0).program

  pub tried_patches : (p : PlainProgram) → patches_left source [] (all_tried schema size budget p) ≡ patches_for source p (puts_of (all_tried schema size budget p)) []
  unfolding all_tried
  tried_patches p = (all_put (length (loops_of p)) p 0).patches []
