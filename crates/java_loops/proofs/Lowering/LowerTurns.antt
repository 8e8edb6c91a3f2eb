-- The turns of the loop of a fragment, whether it walks a list or counts, and the row of the loop.
use Rattle.std.proofs.Common.{◌≡◌, ℕ, List, Option, Some, None, refl, sym, ap, ◌∙◌, subst, cond, bytes_eq}
use Rattle.java_ast.specs.Tree as tree
use Rattle.java_ast.specs.Tree.{Statement, Statements, Then}
use Rattle.java_mean.specs.Types.{Types}
use Rattle.java_mean.specs.Typing.{Frame, TypedStatement}
use Rattle.java_mean.proofs.Puts.{name_same}
use Rattle.std.proofs.lemmas.Bool.{and_parts}
use Rattle.loop_text.specs.Statements.Fragment.{is_name}
use Rattle.loop_text.specs.Kernel.KernelLoop.{begins}
use Rattle.java_loops.specs.Kernel.Setting.{Setting}
use Rattle.loop_text.specs.declared.sites.bindings.Binding.TheVariants.{Row, Outer}
use Rattle.loop_text.specs.Sites.Sites.{bound_by, binding_at, outside, sites_of}
use Rattle.java_loops.proofs.Typing.BoundSteps.{bound_next}
use Rattle.java_loops.proofs.Chained.ChainPremises.{HasRows}
use Rattle.java_loops.proofs.Chained.ChainTurned.{Turns}
use Rattle.java_loops.proofs.Chained.ChainTurns.{first_site, row_name, turns_each, turns_counted}
use Rattle.java_loops.proofs.Formed.FormTables.{TakesRow, begins_row}
use Rattle.java_loops.proofs.Nested.Nest.{row_of}
use Rattle.java_loops.proofs.Nested.NestCounter.{Kind, each, counts, loop_kind}
use Rattle.java_loops.proofs.Nested.NestRules.{Unbroken}
use Rattle.java_loops.proofs.Standing.Standing.{site_of}

-- ---- Turns

turns_by : (w : Setting) (c : Frame) → Unbroken w → w.sites ≡ sites_of w.fragment.loop → c.schema ≡ w.schema → HasRows w c → (s : Statement) → w.fragment.loop ≡ s → Kind w.fragment s → (l : Option Types) (h : Types) → TypedStatement c l w.types s h → Turns w c
turns_by w c u sites same rows _ is (each at ty x e b) l h t = turns_each w c u sites rows at ty x e b is l h t
turns_by w c u sites same rows _ is (counts at test b k counting in_body zero) l h t =
    let r : TakesRow b = begins_row k b (and_parts (begins k b) _ in_body).0 in
    turns_counted w c sites same at r.at test r.table r.name r.value r.rest (is ∙ ap (tree.While at test) r.is) l h (subst (λ p. TypedStatement c l w.types (tree.While at test p) h) r.is t)

-- The turns of a loop of the kernel form.
pub turns_here : (w : Setting) (c : Frame) → Unbroken w → w.sites ≡ sites_of w.fragment.loop → c.schema ≡ w.schema → HasRows w c → (l : Option Types) (h : Types) → TypedStatement c l w.types w.fragment.loop h → Turns w c
turns_here w c u sites same rows l h t = turns_by w c u sites same rows w.fragment.loop refl (loop_kind w u) l h t

-- ---- The row

row_bound_first : (s : Statement) (x : List ℕ) → row_of s ≡ Some x → bound_by x 0 s Outer ≡ Row 0
row_bound_first (tree.ForEach at ty y e b) x h =
    let same : y ≡ x = cc in
    ap (λ z. cond (bytes_eq z x) (Row 0) Outer) same ∙ ap (λ q. cond q (Row 0) Outer) (name_same x)
row_bound_first (tree.While at e b) x h = ap (λ o. cond (is_name o x) (Row 0) Outer) h ∙ ap (λ q. cond q (Row 0) Outer) (name_same x)
row_bound_first (tree.Declare at ty y e) x h = absurd cc
row_bound_first (tree.Assign at y e) x h = absurd cc
row_bound_first (tree.Add at y e) x h = absurd cc
row_bound_first (tree.Sort at y keys downs) x h = absurd cc
row_bound_first (tree.If at e p) x h = absurd cc
row_bound_first (tree.IfElse at e p q) x h = absurd cc
row_bound_first (tree.Print at e) x h = absurd cc
row_bound_first (tree.Return at e) x h = absurd cc
row_bound_first (tree.Break at) x h = absurd cc

-- The row of the turns is that of the loop.
pub row_same : (w : Setting) (c : Frame) → w.sites ≡ sites_of w.fragment.loop → (turns : Turns w c) (x : List ℕ) → row_of w.fragment.loop ≡ Some x → turns.row ≡ x
row_same w c sites turns x e =
    let own : binding_at w.sites 1 x ≡ Row 0 = bound_next w.sites 0 (site_of outside None w.fragment.loop) x (first_site w sites) ∙ row_bound_first w.fragment.loop x e in
    row_name w turns.row x (bytes_eq turns.row x) refl (sym own ∙ turns.binds.by x)
