-- The chains of a lowered fragment, from what is known of its setting and its numbers.
use Rattle.std.proofs.Common.{◌≡◌, ℕ, true, List, Some, sym, ◌∙◌, subst}
use Rattle.java_mean.specs.Typing.{Frame}
use Rattle.java_loops.specs.Walks.ChainLaws.{IsTurned}
use Rattle.loop_text.specs.Statements.Fragment.{needed_of}
use Rattle.java_loops.specs.Kernel.Kernel.{lowering}
use Rattle.loop_text.specs.Kernel.KernelStarts.{Numbered, update_of}
use Rattle.java_ast.specs.Names.{is_among}
use Rattle.java_loops.specs.Lowering.Numbering.{numbers_of}
use Rattle.java_loops.specs.Kernel.Setting.{Setting}
use Rattle.loop_text.specs.Sites.Sites.{kernel_body}
use Rattle.java_loops.proofs.Chained.ChainTurned.{Lowerable, Updated, ChainOf, chain_of, is_turned}
use Rattle.java_loops.proofs.Meant.MeanChains.{conditions_at, accumulator_at, HasTurn, HasChains}
use Rattle.java_loops.proofs.Nested.Nest.{row_of}
use Rattle.java_loops.proofs.Numbers.Numberings.{numbering}

module _ (w : Setting) (c : Frame) (known : Lowerable w c (numbers_of w) (numbering w) (lowering w).fragment) (row : row_of w.fragment.loop ≡ Some known.turns.row) (updated : (y : List ℕ) (u : Numbered) → is_among (needed_of w.fragment) y ≡ true → update_of w.sites y ≡ Some u → Updated w y u) where
  same_row : (x : List ℕ) → row_of w.fragment.loop ≡ Some x → known.turns.row ≡ x
  same_row x e = let k : Some known.turns.row ≡ Some x = sym row ∙ e in cc

  turn : (x y : List ℕ) (u : Numbered) → row_of w.fragment.loop ≡ Some x → Updated w y u → HasTurn w x y (accumulator_at w y u)
  turn x y u r up =
      let k : ChainOf w c (numbering w) (lowering w).fragment known.turns y (accumulator_at w y u) = chain_of w c (numbers_of w) (numbering w) (lowering w).fragment known (conditions_at w) y u up in
      record {
        conditions = k.fronts;
        layers = k.layers;
        is = λ s. subst (λ z. IsTurned (lowering w).fragment (numbering w) z 0 (kernel_body w.fragment.loop) y k.fronts k.layers (accumulator_at w y u)) (same_row x r) (is_turned w c (numbers_of w) (numbering w) (lowering w).fragment known (conditions_at w) y u up s);
      }

  -- Where the setting can be lowered, its needed accumulators are chains.
  pub has_chains : HasChains w
  has_chains = record { needed = λ x y u r n e. turn x y u r (updated y u n e) }
