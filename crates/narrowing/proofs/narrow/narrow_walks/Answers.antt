use Rattle.std.proofs.Common.{◌≡◌, ◌∙◌, ap, List, ℕ}
use Rattle.std.proofs.lemmas.Result.{IfOk-weaker}
use Rattle.java_ast.specs.declared.tree.Program.{Program}
use Rattle.java_ast.specs.Reading.{program}
use Rattle.narrowing.specs.declared.narrow.Narrowed.{Narrowed}
use Rattle.narrowing.specs.Narrowing.{AllNarrowed, walks_of, narrowing, all_narrowed}
use Rattle.narrowing.proofs.Steps.{same_narrowed}
use Rattle.narrowing.proofs.narrow.narrow_walks.Goals as goal

pub returns-clause-program : goal.returns-clause-program
returns-clause-program c =
    let same : narrowing c.args.schema.now c.in_ok-bytes.bytes.keys c.as_slice.result.now (program c.args.program.value) ≡ all_narrowed c.args.schema.now c.args.covered.now (program c.args.program.value) =
    same_narrowed c.args.schema.now c.in_ok-bytes.bytes.keys c.args.covered.now c.in_ok-bytes.ensures c.as_slice.result.now (program c.args.program.value)
    ∙ ap (λ (paths : List (List ℕ)). narrowing c.args.schema.now c.args.covered.now paths (program c.args.program.value))
    (c.as_slice.ensures ∙ c.in_ok-paths.ensures ∙ ap (λ (q : Program). walks_of (program q)) c.deref.ensures)
    in
    IfOk-weaker c.narrow_each.result
    (λ (n : Narrowed). program n.program.value ≡ (narrowing c.args.schema.now c.in_ok-bytes.bytes.keys c.as_slice.result.now (program c.args.program.value)).program)
    (λ (n : Narrowed). program n.program.value ≡ (all_narrowed c.args.schema.now c.args.covered.now (program c.args.program.value)).program)
    (λ n h. h ∙ ap (λ (a : AllNarrowed). a.program) same) c.narrow_each.ensures.program

pub returns-clause-walks : goal.returns-clause-walks
returns-clause-walks c =
    let same : narrowing c.args.schema.now c.in_ok-bytes.bytes.keys c.as_slice.result.now (program c.args.program.value) ≡ all_narrowed c.args.schema.now c.args.covered.now (program c.args.program.value) =
    same_narrowed c.args.schema.now c.in_ok-bytes.bytes.keys c.args.covered.now c.in_ok-bytes.ensures c.as_slice.result.now (program c.args.program.value)
    ∙ ap (λ (paths : List (List ℕ)). narrowing c.args.schema.now c.args.covered.now paths (program c.args.program.value))
    (c.as_slice.ensures ∙ c.in_ok-paths.ensures ∙ ap (λ (q : Program). walks_of (program q)) c.deref.ensures)
    in
    IfOk-weaker c.narrow_each.result
    (λ (n : Narrowed). n.walks ≡ (narrowing c.args.schema.now c.in_ok-bytes.bytes.keys c.as_slice.result.now (program c.args.program.value)).walks)
    (λ (n : Narrowed). n.walks ≡ (all_narrowed c.args.schema.now c.args.covered.now (program c.args.program.value)).walks)
    (λ n h. h ∙ ap (λ (a : AllNarrowed). a.walks) same) c.narrow_each.ensures.walks

pub returns-clause-patches : goal.returns-clause-patches
returns-clause-patches c =
    let same : narrowing c.args.schema.now c.in_ok-bytes.bytes.keys c.as_slice.result.now (program c.args.program.value) ≡ all_narrowed c.args.schema.now c.args.covered.now (program c.args.program.value) =
    same_narrowed c.args.schema.now c.in_ok-bytes.bytes.keys c.args.covered.now c.in_ok-bytes.ensures c.as_slice.result.now (program c.args.program.value)
    ∙ ap (λ (paths : List (List ℕ)). narrowing c.args.schema.now c.args.covered.now paths (program c.args.program.value))
    (c.as_slice.ensures ∙ c.in_ok-paths.ensures ∙ ap (λ (q : Program). walks_of (program q)) c.deref.ensures)
    in
    IfOk-weaker c.narrow_each.result
    (λ (n : Narrowed). n.patches ≡ (narrowing c.args.schema.now c.in_ok-bytes.bytes.keys c.as_slice.result.now (program c.args.program.value)).patches)
    (λ (n : Narrowed). n.patches ≡ (all_narrowed c.args.schema.now c.args.covered.now (program c.args.program.value)).patches)
    (λ n h. h ∙ ap (λ (a : AllNarrowed). a.patches) same) c.narrow_each.ensures.patches
