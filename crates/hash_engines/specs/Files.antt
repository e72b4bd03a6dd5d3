-- Files that are opened by their paths.
use Rattle.std.specs.Prelude.{◌≡◌, ℕ, List, Option, None, IfSome}
use Rattle.std.specs.Str.{IsUtf8}
use Rattle.b3_core.specs.Tree.{ModelTop, ModelMode, tree_top}
use Rattle.b3_parallel.specs.Rounds.{AreAll}
use Rattle.hash_engines.specs.declared.ahead.NamedRoot.{NamedRoot}

-- the view of named files in contracts: what opens them, the mode in which they are hashed, and the maximum number of threads
pub record Setting (F : Type 0) : Type 0 where
  pub file_system : F
  pub mode : ModelMode
  pub threads : Option ℕ

-- a root in a mode is that of some bytes: of these, if they are known
abbrev pub IsRootOf : Option (List ℕ) → ModelMode → ModelTop → Type 0
IsRootOf known mode root = (bytes : List ℕ) × AreAll known bytes × (root ≡ tree_top bytes 0 mode)

-- a root that is returned for a file's name: the name is UTF-8, and the root is that of the bytes at this path
abbrev pub IsRootAt : (List ℕ → Option (List ℕ)) → ModelMode → List ℕ → ModelTop → Type 0
IsRootAt contents mode name root = IsUtf8 name × IsRootOf (contents name) mode root

-- what is kept about a name that was looked up ahead
abbrev pub IsNamedRoot : (List ℕ → Option (List ℕ)) → ModelMode → NamedRoot → Type 0
IsNamedRoot contents mode known = IfSome known.root (IsRootAt contents mode known.name.items)

-- The bytes of the system's file at a path: nothing is known of them. Only the call that opens it may use that (`unfolding`): to all other
-- code they might be any bytes.
unfoldable pub system_bytes : List ℕ → Option (List ℕ)
system_bytes path = None
