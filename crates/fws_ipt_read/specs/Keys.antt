-- The names of chains.
use Rattle.std.specs.Prelude.{ℕ, Bool, ◌&&◌, List, [], ◌∷◌, ◌++◌, if◌then◌else◌}
use Rattle.std.specs.List.{list_any}
use Rattle.std.specs.Str.{bytes_eq}
use Rattle.fws_ipt.specs.declared.config.IptTable.{IptTable}
use Rattle.fws_ipt.specs.declared.config.IptChain.{IptChain}
use Rattle.fws_ipt.specs.Walk.{is_table}
use Rattle.fws_ipt_read.specs.declared.chain_names.ChainKey.{ChainKey}

abbrev pub key_of : IptChain → ChainKey
key_of chain = record { table = chain.table; name = chain.name }

-- the key has this table and name
abbrev pub is_key : IptTable → List ℕ → ChainKey → Bool
is_key table name key = is_table table key.table && bytes_eq key.name name

-- the keys and this one, unless it is among them
abbrev pub with_key : IptTable → List ℕ → List ChainKey → List ChainKey
with_key table name keys = if list_any (is_key table name) keys then keys else keys ++ record { table = table; name = name } ∷ []
