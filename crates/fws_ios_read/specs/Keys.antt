-- Lists and pools by their names.
use Rattle.std.specs.Prelude.{ℕ, List}
use Rattle.fws_ios.specs.declared.config.IosEntry.{IosEntry}
use Rattle.fws_ios.specs.declared.config.IosList.{IosList}
use Rattle.fws_ios.specs.declared.draft.Pool.{Pool}

-- a name and its address as a pool
abbrev pub pool_of : List ℕ × ℕ → Pool
pool_of entry = record { name = entry.0; addr = entry.1 }

-- a name and its entries as a list
abbrev pub list_of : List ℕ × List IosEntry → IosList
list_of entry = record { name = entry.0; entries = entry.1 }
