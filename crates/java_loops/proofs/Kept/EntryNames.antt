-- What entry values read.
use Rattle.std.specs.Prelude.{ℕ, zero, suc, List, [], ◌∷◌, slice_get}
use Rattle.std.proofs.Common.{◌≡◌, Some, true, ap, ◌∙◌}
use Rattle.java_ast.specs.Tree.{Expression}
use Rattle.java_ast.specs.Names.{is_among, names_in, names_read}
use Rattle.java_loops.specs.Walks.Reads.{Reads}
use Rattle.java_loops.proofs.Walks.Named.{among_front, among_back, reads_named}

-- a name in one of the expressions is among those that they read
pub entry_names : (es : List Expression) (k : ℕ) (e : Expression) → slice_get es k ≡ Some e → (x : List ℕ) → is_among (names_in e) x ≡ true → is_among (names_read es) x ≡ true
entry_names [] k e h x i = absurd cc
entry_names (d ∷ ds) zero e h x i = let same : d ≡ e = cc in among_front (names_in d) (names_read ds) x (ap (λ z. is_among (names_in z) x) same ∙ i)
entry_names (d ∷ ds) (suc k) e h x i = among_back (names_in d) (names_read ds) x (entry_names ds k e h x i)

pub entry_read : (es : List Expression) (k : ℕ) (e : Expression) → slice_get es k ≡ Some e → Reads (is_among (names_read es)) e
entry_read es k e h = reads_named e (is_among (names_read es)) (entry_names es k e h)
