-- The labels of rules, in the order in which rules are counted: as they are sorted.
use Rattle.std.specs.Prelude.{◌≡◌, ℕ, List, ◌++◌, length, map, codes}
use Rattle.std.specs.Fmt.{decimal}
use Rattle.fws_ipfw.specs.declared.config.IpfwRule.{IpfwRule}
use Rattle.fws_ipfw.specs.declared.config.IpfwConfig.{IpfwConfig}

-- the label of a rule: its number
abbrev pub rule_label : IpfwRule → List ℕ
rule_label rule = codes "rule " ++ decimal rule.number

-- the labels of all rules
abbrev pub labels_of : IpfwConfig → List (List ℕ)
labels_of c = map rule_label c.rules

-- each rule has a label
abbrev pub LabelsAreCounted : Type 0
LabelsAreCounted = (c : IpfwConfig) → length (labels_of c) ≡ length c.rules
