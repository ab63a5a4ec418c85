-- What holds of every configuration that a text spells.
use Rattle.std.specs.Prelude.{◌≡◌, ℕ, Bool, true, false, ◌&&◌, not, slice_get, is_some, is_none, Ok, List, [], ◌∷◌, if◌then◌else◌}
use Rattle.std.specs.List.{list_all}
use Rattle.std.specs.Option.{option_map_or}
use Rattle.fws_net.specs.declared.site.Site.{Site}
use Rattle.fws_ipt.specs.declared.config.IptTable.{IptTable}
use Rattle.fws_ipt.specs.declared.config.IptTable.TheVariants.{Nat, Mangle}
use Rattle.fws_ipt.specs.declared.config.IptGo.{IptGo}
use Rattle.fws_ipt.specs.declared.config.IptGo.TheVariants.{Accept, Drop, Return, Next, Jump, Goto, Mark, Source, Masquerade, Dest, Redirect, Netmap}
use Rattle.fws_ipt.specs.declared.config.IptChain.{IptChain}
use Rattle.fws_ipt.specs.declared.config.IptConfig.{IptConfig}
use Rattle.fws_ipt.specs.FileText.{spelled}
use Rattle.fws_ipt.specs.RuleText.{is_chain, is_builtin_name}
use Rattle.fws_ipt.specs.Walk.{is_table}

-- the chain with this number is one of the user's in the table
abbrev pub is_user_chain : IptTable → List IptChain → ℕ → Bool
is_user_chain table chains c = option_map_or (λ chain. is_table table chain.table && is_none chain.policy) (slice_get chains c) false

-- jumps and gotos name chains of the user's in the same table, marks are set in mangle, ends are written in nat, and nothing is dropped there
abbrev pub fits : IptTable → List IptChain → IptGo → Bool
fits table chains Accept = true
fits table chains Drop = not (is_table Nat table)
fits table chains Return = true
fits table chains Next = true
fits table chains (Jump c) = is_user_chain table chains c
fits table chains (Goto c) = is_user_chain table chains c
fits table chains (Mark v) = is_table Mangle table
fits table chains (Source e) = is_table Nat table
fits table chains Masquerade = is_table Nat table
fits table chains (Dest e) = is_table Nat table
fits table chains (Redirect port) = is_table Nat table
fits table chains (Netmap net) = is_table Nat table

abbrev pub chain_fits : List IptChain → IptChain → Bool
chain_fits chains chain = list_all (λ rule. fits chain.table chains rule.go) chain.rules

-- each rule of each chain fits
abbrev pub is_fitting : IptConfig → Bool
is_fitting c = list_all (chain_fits c.chains) c.chains

-- what a text spells is fitting
abbrev pub SpelledFits : Type 0
SpelledFits = (site : Site) (text : List ℕ) (c : IptConfig) → spelled site text ≡ Ok c → is_fitting c ≡ true

-- a chain has a policy where its name is that of a built-in one of its table, and nowhere else
abbrev pub is_named : IptChain → Bool
is_named chain = if is_builtin_name chain.table chain.name then is_some chain.policy else is_none chain.policy

-- no two chains have the same table and name
abbrev pub are_apart : List IptChain → Bool
are_apart [] = true
are_apart (chain ∷ chains) = list_all (λ later. not (is_chain later.table later.name chain)) chains && are_apart chains

-- what a text spells has such chains
abbrev pub SpelledChains : Type 0
SpelledChains = (site : Site) (text : List ℕ) (c : IptConfig) → spelled site text ≡ Ok c → (list_all is_named c.chains ≡ true) × (are_apart c.chains ≡ true)
