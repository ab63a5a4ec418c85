-- The names of interfaces in each system.
use Rattle.std.specs.Prelude.{◌≡◌, ℕ, ◌+◌, ◌-◌, ◌≤◌, Bool, true, ◌&&◌, nat_eq, nat_le, Some, List, [], length, slice_get, if◌then◌else◌}
use Rattle.std.specs.List.{list_all}
use Rattle.std.specs.Option.{option_map_or}
use Rattle.fws_num.specs.Written.{is_plain}
use Rattle.fws_net.specs.declared.packet.Lang.{Lang}
use Rattle.fws_net.specs.declared.site.Site.{Site}
use Rattle.fws_net.specs.Faces.{entry_named, name_in}
use Rattle.fws_net.specs.SiteLaws.{IsOrderly}
use Rattle.fws_net.specs.SiteWords.{is_name_byte}

-- the name of an entry's interface in a system, for entries from 1 on; none past the last interface
abbrev pub interface_name : Lang → Site → ℕ → List ℕ
interface_name lang site entry =
    if nat_eq entry 1 then name_in lang site.lo else option_map_or (λ face. name_in lang face.names) (slice_get site.faces (entry - 2)) []

-- a byte of names, which lies from `-` to `z`
abbrev pub is_own_byte : ℕ → Bool
is_own_byte c = is_name_byte c && (nat_le 45 c && nat_le c 122)

-- in a system, the name of each interface is a plain word of such bytes, and leads to its entry
pub record AreNamed (lang : Lang) (site : Site) : Type 0 where
  pub plain : (n : ℕ) → 1 ≤ n → n ≤ length site.faces + 1 → is_plain (interface_name lang site n) ≡ true
  pub bytes : (n : ℕ) → 1 ≤ n → n ≤ length site.faces + 1 → list_all is_own_byte (interface_name lang site n) ≡ true
  pub leads : (n : ℕ) → 1 ≤ n → n ≤ length site.faces + 1 → entry_named lang site (interface_name lang site n) ≡ Some n

-- so it is at each orderly site, in every system
abbrev pub OrderlySitesAreNamed : Type 0
OrderlySitesAreNamed = (lang : Lang) (site : Site) → IsOrderly site → AreNamed lang site
