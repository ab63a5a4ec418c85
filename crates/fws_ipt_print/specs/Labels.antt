-- The labels of rules, in the order in which rules are counted: through the chains in their order.
use Rattle.std.specs.Prelude.{◌≡◌, ℕ, List, ◌∷◌, ◌++◌, length, map, sum, codes}
use Rattle.std.specs.List.{flat_map}
use Rattle.fws_ipt.specs.declared.config.IptTable.{IptTable}
use Rattle.fws_ipt.specs.declared.config.IptTable.TheVariants.{Filter, Nat, Mangle}
use Rattle.fws_ipt.specs.declared.config.IptChain.{IptChain}
use Rattle.fws_ipt.specs.declared.config.IptConfig.{IptConfig}
use Rattle.fws_print.specs.Labels.{place_labels}

abbrev pub table_name : IptTable → List ℕ
table_name Filter = codes "filter"
table_name Nat = codes "nat"
table_name Mangle = codes "mangle"

-- what stands ahead of a rule's place: its table and its chain
abbrev pub chain_front : IptChain → List ℕ
chain_front chain = table_name chain.table ++ 32 ∷ chain.name

-- the labels of a chain's rules
abbrev pub chain_labels : IptChain → List (List ℕ)
chain_labels chain = place_labels (chain_front chain) (length chain.rules)

-- the labels of all rules
abbrev pub labels_of : IptConfig → List (List ℕ)
labels_of c = flat_map chain_labels c.chains

-- each rule has a label
abbrev pub LabelsAreCounted : Type 0
LabelsAreCounted = (c : IptConfig) → length (labels_of c) ≡ sum (map (λ chain. length chain.rules) c.chains)
