-- Plain words: a command's word, its options, `--` where it is wanted, and the other words.
use Rattle.std.specs.Prelude.{◌≡◌, ℕ, ◌≤◌, List, [], ◌∷◌, ◌++◌, Bool, true, false, codes, nat_eq, not, ◌&&◌}
use Rattle.std.specs.Fmt.{decimal}
use Rattle.std.specs.declared.option.Option.TheVariants.{Some, None}
use Rattle.words.specs.declared.command.Command.{Command}
use Rattle.words.specs.declared.command.Command.TheVariants as commands
use Rattle.words.specs.declared.command.Key.{Key}
use Rattle.words.specs.declared.command.Key.TheVariants.{Size, Candidates, Turns, Rewritten, Store, View, Tables, Columns, Check, Schema}
use Rattle.words.specs.declared.command.Options.{Options}
use Rattle.words.specs.declared.command.Verb.{Verb}
use Rattle.words.specs.declared.command.Verb.TheVariants as verbs
use Rattle.words.specs.Options.{name_of, word_of, has_value, takes, unset}

-- the words of one option and its value: the value in the next word or behind `=` in the same one, or a flag by itself
pub data Spells : List (List ℕ) → Key → List ℕ → Type 0 where
  flag : {k : Key} → has_value k ≡ false → Spells (word_of k ∷ []) k []
  next : {k : Key} {v : List ℕ} → has_value k ≡ true → Spells (word_of k ∷ v ∷ []) k v
  same : {k : Key} {v : List ℕ} → has_value k ≡ true → Spells ((word_of k ++ (61 ∷ v)) ∷ []) k v

-- what an option with this value sets, where it isn't set yet; a number is decimal digits without a leading zero
pub data Sets : Key → List ℕ → Options → Options → Type 0 where
  size : {n : ℕ} {o : Options} → o.size ≡ None → n ≤ 8 → Sets Size (decimal n) o (record o { size = Some n })
  candidates : {n : ℕ} {o : Options} → o.candidates ≡ None → 1 ≤ n → n ≤ 1000000 → Sets Candidates (decimal n) o (record o { candidates = Some n })
  turns : {n : ℕ} {o : Options} → o.turns ≡ None → 1 ≤ n → n ≤ 100000000 → Sets Turns (decimal n) o (record o { turns = Some n })
  rewritten : {o : Options} → o.rewritten ≡ false → Sets Rewritten [] o (record o { rewritten = true })
  store : {v : List ℕ} {o : Options} → o.store ≡ None → Sets Store v o (record o { store = Some v })
  view : {v : List ℕ} {o : Options} → o.view ≡ None → Sets View v o (record o { view = Some v })
  tables : {v : List ℕ} {o : Options} → o.tables ≡ None → Sets Tables v o (record o { tables = Some v })
  columns : {v : List ℕ} {o : Options} → o.columns ≡ None → Sets Columns v o (record o { columns = Some v })
  check : {o : Options} → o.check ≡ false → Sets Check [] o (record o { check = true })
  schema : {o : Options} → o.schema ≡ false → Sets Schema [] o (record o { schema = true })

-- the options of a command, one after the other
pub data HasOptions (verb : Verb) : List (List ℕ) → Options → Options → Type 0 where
  none : {o : Options} → HasOptions verb [] o o
  more : {us ws : List (List ℕ)} {k : Key} {v : List ℕ} {o p q : Options} →
      takes verb k ≡ true → Spells us k v → Sets k v o p → HasOptions verb ws p q → HasOptions verb (us ++ ws) o q

abbrev pub begins_with_dash : List ℕ → Bool
begins_with_dash [] = false
begins_with_dash (b ∷ bs) = nat_eq b 45

abbrev pub all_bare : List (List ℕ) → Bool
all_bare [] = true
all_bare (w ∷ ws) = not (begins_with_dash w) && all_bare ws

-- the other words: behind `--`, which may be left out where none of them begins with `-`
pub data HasOthers : List (List ℕ) → List (List ℕ) → Type 0 where
  bare : {ws : List (List ℕ)} → all_bare ws ≡ true → HasOthers ws ws
  dashed : {ws : List (List ℕ)} → HasOthers (codes "--" ∷ ws) ws

-- What a command takes besides its options. A map or a schema is made of one file of entities at least; a map is checked where that flag is set,
-- with a source or without one.
pub data Names : Verb → Options → List (List ℕ) → Command → Type 0 where
  rewrite : {o : Options} {s p : List ℕ} → Names verbs.Rewrite o (s ∷ p ∷ []) (commands.Rewrite o s p)
  prove : {o : Options} {s p : List ℕ} → Names verbs.Prove o (s ∷ p ∷ []) (commands.Prove o s p)
  check : {o : Options} {s p b : List ℕ} → Names verbs.Check o (s ∷ p ∷ b ∷ []) (commands.Check o s p b)
  run : {o : Options} {s p d m : List ℕ} {args : List (List ℕ)} → Names verbs.Run o (s ∷ p ∷ d ∷ m ∷ args) (commands.Run o s p d m args)
  sql : {o : Options} {s d q : List ℕ} → Names verbs.Sql o (s ∷ d ∷ q ∷ []) (commands.Sql s d q)
  make : {o : Options} {n : ℕ} → 1 ≤ n → n ≤ 100000 → Names verbs.Make o (decimal n ∷ []) (commands.Make n)
  unnest : {o : Options} {s p : List ℕ} → Names verbs.Unnest o (s ∷ p ∷ []) (commands.Unnest o s p)
  narrow : {o : Options} {s p : List ℕ} → Names verbs.Narrow o (s ∷ p ∷ []) (commands.Narrow o s p)
  inline : {o : Options} {s p : List ℕ} → Names verbs.Inline o (s ∷ p ∷ []) (commands.Inline s p)
  gather : {o : Options} {s p : List ℕ} → Names verbs.Gather o (s ∷ p ∷ []) (commands.Gather o s p)
  schema : {o : Options} {d : List ℕ} → Names verbs.Schema o (d ∷ []) (commands.Schema o d)
  view : {o : Options} {m s p : List ℕ} → Names verbs.View o (m ∷ s ∷ p ∷ []) (commands.View m s p)
  map : {o : Options} {e : List ℕ} {es : List (List ℕ)} → o.check ≡ false → o.schema ≡ false → Names verbs.Map o (e ∷ es) (commands.Map (e ∷ es))
  map_schema : {o : Options} {e : List ℕ} {es : List (List ℕ)} → o.check ≡ false → o.schema ≡ true → Names verbs.Map o (e ∷ es) (commands.MapSchema (e ∷ es))
  check_map : {o : Options} {m s : List ℕ} → o.check ≡ true → o.schema ≡ false → Names verbs.Map o (m ∷ s ∷ []) (commands.CheckMap m s None)
  check_map_in : {o : Options} {m s p : List ℕ} → o.check ≡ true → o.schema ≡ false → Names verbs.Map o (m ∷ s ∷ p ∷ []) (commands.CheckMap m s (Some p))

-- the plain words of a command
pub data HasWords : List (List ℕ) → Command → Type 0 where
  plainly : {verb : Verb} {os ts others : List (List ℕ)} {o : Options} {c : Command} →
      HasOptions verb os unset o → HasOthers ts others → Names verb o others c → HasWords (name_of verb ∷ (os ++ ts)) c
