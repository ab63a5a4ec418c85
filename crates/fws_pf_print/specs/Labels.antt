-- The labels of rules, in the order in which rules are counted: those of rdr, those of nat, and the filter's.
use Rattle.std.specs.Prelude.{◌≡◌, ℕ, ◌+◌, List, ◌++◌, length, codes}
use Rattle.fws_pf.specs.declared.config.PfConfig.{PfConfig}
use Rattle.fws_print.specs.Labels.{place_labels}

-- the labels of all rules
abbrev pub labels_of : PfConfig → List (List ℕ)
labels_of c =
    place_labels (codes "rdr") (length c.rdr) ++ place_labels (codes "nat") (length c.nat) ++ place_labels (codes "filter") (length c.filter)

-- each rule has a label
abbrev pub LabelsAreCounted : Type 0
LabelsAreCounted = (c : PfConfig) → length (labels_of c) ≡ length c.rdr + length c.nat + length c.filter
