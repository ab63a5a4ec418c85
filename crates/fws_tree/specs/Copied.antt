-- Cells copied from one store into another.
use Rattle.std.specs.Prelude.{◌≡◌, ℕ, ◌<◌, Some, List, length}
use Rattle.std.specs.HashMap.{get}
use Rattle.fws_tree.specs.declared.memo.Memo.{Memo}
use Rattle.fws_tree.specs.declared.store.Cell.{Cell}
use Rattle.fws_tree.specs.Held.{held_at, pair_eq}

-- each entry of a memo is the copy of a cell: it holds what that one holds
abbrev pub AreCopied : List Cell → List Cell → Memo → Type 0
AreCopied cells fresh memo = (k at r : ℕ) → get pair_eq memo.found (k, at) ≡ Some r → (r < length fresh) × ((p : List ℕ) → held_at fresh r p ≡ held_at cells at p)
