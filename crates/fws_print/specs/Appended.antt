-- Lists behind which a block is put.
use Rattle.std.specs.Prelude.{◌≡◌, List, ◌++◌}

-- the new list is the old one with a block behind it that is such
abbrev pub Appends : {A : Type 0} → List A → List A → (List A → Type 0) → Type 0
Appends {A} old new Such = (block : List A) × (new ≡ old ++ block) × Such block
