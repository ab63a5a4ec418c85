-- The labels of entries and translations, in the order in which these are counted: entries through the lists in their order, and
-- translations behind them.
use Rattle.std.specs.Prelude.{◌≡◌, ℕ, ◌+◌, List, ◌++◌, length, map, sum, codes}
use Rattle.std.specs.List.{flat_map}
use Rattle.fws_ios.specs.declared.config.IosList.{IosList}
use Rattle.fws_ios.specs.declared.config.IosConfig.{IosConfig}
use Rattle.fws_print.specs.Labels.{place_labels}

-- what stands ahead of an entry's place: its list
abbrev pub list_front : IosList → List ℕ
list_front l = codes "list " ++ l.name

-- the labels of a list's entries
abbrev pub list_labels : IosList → List (List ℕ)
list_labels l = place_labels (list_front l) (length l.entries)

-- the labels of all entries and translations
abbrev pub labels_of : IosConfig → List (List ℕ)
labels_of c = flat_map list_labels c.lists ++ place_labels (codes "nat") (length c.nats)

-- each entry and each translation has a label
abbrev pub LabelsAreCounted : Type 0
LabelsAreCounted = (c : IosConfig) → length (labels_of c) ≡ sum (map (λ l. length l.entries) c.lists) + length c.nats
