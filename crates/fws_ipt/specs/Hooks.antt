-- The built-in chains of the tables (iptables(8)).
use Rattle.std.specs.Prelude.{ℕ, Bool, true, false, Option, List, [], ◌∷◌, codes}
use Rattle.fws_num.specs.Named.{named_in}
use Rattle.fws_ipt.specs.declared.config.IptTable.{IptTable}
use Rattle.fws_ipt.specs.declared.config.IptTable.TheVariants.{Filter, Nat, Mangle}
use Rattle.fws_ipt.specs.declared.draft.Section.{Section}
use Rattle.fws_ipt.specs.declared.draft.Section.TheVariants.{Met, Raw, Security}
use Rattle.fws_ipt.specs.declared.hook.Hook.{Hook}
use Rattle.fws_ipt.specs.declared.hook.Hook.TheVariants.{Prerouting, Input, Forward, Output, Postrouting}

-- hooks by the names of their chains
abbrev pub hooks : List (List ℕ × Hook)
hooks =
    (codes "PREROUTING", Prerouting) ∷ (codes "INPUT", Input) ∷ (codes "FORWARD", Forward) ∷ (codes "OUTPUT", Output) ∷
    (codes "POSTROUTING", Postrouting) ∷ []

-- the hook of this name
unfoldable pub hook_named : List ℕ → Option Hook
hook_named name = named_in hooks name

-- the table has a built-in chain at the hook
abbrev pub has_hook : IptTable → Hook → Bool
has_hook Filter Prerouting = false
has_hook Filter Postrouting = false
has_hook Filter _ = true
has_hook Nat Forward = false
has_hook Nat _ = true
has_hook Mangle _ = true

-- the same for every table
abbrev pub section_has : Section → Hook → Bool
section_has (Met table) hook = has_hook table hook
section_has Raw Prerouting = true
section_has Raw Output = true
section_has Raw _ = false
section_has Security Input = true
section_has Security Forward = true
section_has Security Output = true
section_has Security _ = false
