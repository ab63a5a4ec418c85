-- What words do to a value, whatever values it has already.
use Rattle.std.specs.Prelude.{◌≡◌, ℕ, ◌+◌, ◌≤◌, Some, List, [], ◌∷◌, length, take, drop}
use Rattle.std.specs.Map.{lookup}
use Rattle.std.specs.Str.{bytes_eq}
use Rattle.fws_num.specs.declared.word.Word.{Word}
use Rattle.fws_pf.specs.declared.value_draft.Item.{Item}
use Rattle.fws_pf.specs.Values.{Setting}
use Rattle.fws_pf_words.specs.declared.ways.Way.{Way}
use Rattle.fws_pf_words.specs.Fronts.{within}
use Rattle.fws_pf_words.specs.Spots.{at_spot}

-- the words behind those that are skipped lead from the start to the end, and stand for a stretch of these items
pub record IsWay (setting : Setting) (words : List Word) (items : List Item) (way : Way) : Type 0 where
  pub inside : way.from + way.count ≤ length items
  pub leads : within setting (drop way.skipped words) (at_spot way.start []) ≡ Some (at_spot way.end (take way.count (drop way.from items)))

abbrev pub AreWaysOf : Setting → List Word → List Item → List Way → Type 0
AreWaysOf setting words items [] = Unit {0}
AreWaysOf setting words items (way ∷ ways) = IsWay setting words items way × AreWaysOf setting words items ways

-- the ways of each name are those of the words that stand for it
abbrev pub AreWays : Setting → (List ℕ → List Word) → List Item → List (List ℕ × List Way) → Type 0
AreWays setting words_of items entries =
    (name : List ℕ) (known : List Way) → lookup (bytes_eq name) entries ≡ Some known → AreWaysOf setting (words_of name) items known
