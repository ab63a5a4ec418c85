-- Which bytes each name holds.
use Rattle.std.specs.Prelude.{ℕ, Bool, List, [], ◌∷◌, if◌then◌else◌}
use Rattle.std.specs.List.{list_any}
use Rattle.std.specs.Str.{bytes_eq}
use Rattle.fws_io.specs.declared.contents.Held.{Held}

-- one name holds the content, and every other name what it held
abbrev pub with_content : (List ℕ → List ℕ) → List ℕ → List ℕ → List ℕ → List ℕ
with_content held name content asked = if bytes_eq name asked then content else held asked

-- what a name holds: the content of the first entry with this name, and nothing without one
abbrev pub content_of : List Held → List ℕ → List ℕ
content_of [] asked = []
content_of (entry ∷ entries) asked = if bytes_eq entry.name asked then entry.content else content_of entries asked

-- an entry has the name
abbrev pub is_held : List Held → List ℕ → Bool
is_held entries asked = list_any (λ entry. bytes_eq entry.name asked) entries
