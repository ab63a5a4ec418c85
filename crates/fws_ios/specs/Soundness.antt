-- What holds of every configuration that a text spells.
use Rattle.std.specs.Prelude.{◌≡◌, ℕ, suc, Bool, true, false, ◌&&◌, ◌||◌, not, nat_eq, nat_le, nat_lt, is_none, is_some, Ok, List, [], ◌∷◌, length}
use Rattle.std.specs.List.{list_all, list_any}
use Rattle.std.specs.Str.{bytes_eq}
use Rattle.fws_iv.specs.declared.iv.Iv.{Iv}
use Rattle.fws_net.specs.declared.outcome.End.{End}
use Rattle.fws_net.specs.declared.site.Site.{Site}
use Rattle.fws_ios.specs.declared.config.IosEntry.{IosEntry}
use Rattle.fws_ios.specs.declared.config.IosList.{IosList}
use Rattle.fws_ios.specs.declared.config.IosGroup.{IosGroup}
use Rattle.fws_ios.specs.declared.config.IosNat.{IosNat}
use Rattle.fws_ios.specs.declared.config.IosNat.TheVariants.{Static, List as Listed}
use Rattle.fws_ios.specs.declared.config.IosConfig.{IosConfig}
use Rattle.fws_ios.specs.FileText.{is_elsewhere, spelled}
use Rattle.fws_ios.specs.Values.{has_ports}

-- Lists

-- state is kept where the packet is permitted
abbrev pub entry_fits : IosEntry → Bool
entry_fits entry = not entry.reflect || entry.permit

abbrev pub is_empty : List IosEntry → Bool
is_empty [] = true
is_empty (entry ∷ entries) = false

-- a list has an entry
abbrev pub list_fits : IosList → Bool
list_fits l = not (is_empty l.entries) && list_all entry_fits l.entries

-- no two lists have the same name
abbrev pub are_apart : List IosList → Bool
are_apart [] = true
are_apart (l ∷ ls) = not (list_any (λ other. bytes_eq other.name l.name) ls) && are_apart ls

-- Interfaces

-- the interfaces of a site with so many are numbered from 1, that of loopback
abbrev pub is_entry : ℕ → ℕ → Bool
is_entry most n = nat_lt 0 n && nat_le n most

abbrev pub are_entries : ℕ → List Iv → Bool
are_entries most set = list_all (λ range. nat_lt 0 range.lo && nat_le range.hi most) set

-- at most one list is applied at an interface in a direction
abbrev pub are_single : List IosGroup → Bool
are_single [] = true
are_single (g ∷ gs) = list_all (is_elsewhere g.face g.outward) gs && are_single gs

-- Translations

-- whole addresses
abbrev pub is_whole : End → Bool
is_whole e = nat_eq e.len 32

-- a static is one of ports of TCP or UDP, with a port at each end, or one of addresses without ports
abbrev pub nat_fits : IosNat → Bool
nat_fits (Static proto local global) =
    is_whole local && is_whole global
    && ((has_ports proto && is_some local.port && is_some global.port) || (is_none proto && is_none local.port && is_none global.port))
nat_fits (Listed name addr) = true

-- Configurations

-- one for a site with so many interfaces, loopback among them
abbrev pub fits_interfaces : ℕ → IosConfig → Bool
fits_interfaces most c = list_all (λ g. is_entry most g.face) c.groups && are_entries most c.inside && are_entries most c.outside

abbrev pub is_fitting : Site → IosConfig → Bool
is_fitting site c =
    list_all list_fits c.lists && are_apart c.lists && fits_interfaces (suc (length site.faces)) c && are_single c.groups && list_all nat_fits c.nats

-- what a text spells is fitting
abbrev pub SpelledFits : Type 0
SpelledFits = (site : Site) (text : List ℕ) (c : IosConfig) → spelled site text ≡ Ok c → is_fitting site c ≡ true
