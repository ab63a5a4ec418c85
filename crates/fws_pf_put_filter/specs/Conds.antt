-- Conditions of which one holds where a packet hits a set.
use Rattle.std.specs.Prelude.{◌≡◌, ℕ, ◌+◌, ◌≤◌, Bool, true, false, Option, Some, None, List, [], ◌∷◌, ◌++◌, length, map}
use Rattle.std.specs.List.{list_all, list_any}
use Rattle.std.specs.Option.{option_map, option_map_or}
use Rattle.std.specs.Prelude.{nat_eq, if◌then◌else◌}
use Rattle.fws_iv.specs.declared.iv.Iv.{Iv}
use Rattle.fws_iv.specs.Ivs.{has}
use Rattle.fws_net.specs.declared.condition.Lit.{Lit}
use Rattle.fws_net.specs.declared.condition.Test.TheVariants as tests
use Rattle.fws_net.specs.declared.packet.Packet.{Packet}
use Rattle.fws_net.specs.declared.site.Site.{Site}
use Rattle.fws_net.specs.declared.view.View.{View}
use Rattle.fws_net.specs.Conditions.{holds}
use Rattle.fws_pf.specs.declared.config.Way.{Way}
use Rattle.fws_pf.specs.declared.config.Way.TheVariants.{Both, Inward}
use Rattle.fws_tree_seen.specs.declared.field.PacketField.{PacketField}
use Rattle.fws_tree_seen.specs.declared.field.PacketField.TheVariants.{Proto, Dst, Dport, Src, Sport, Flags, Icmp}
use Rattle.fws_tree_seen.specs.declared.seen.Seen.TheVariants.{Entered}
use Rattle.fws_tree_seen.specs.Fields.{hits, suits, top_of}
use Rattle.fws_tree_seen.specs.Shown.{seen_field, value_of}
use Rattle.fws_pf_put_filter.specs.declared.tested.Tested.{Tested}
use Rattle.fws_pf_put_filter.specs.declared.tested.Tested.TheVariants.{Entry, Field}
use Rattle.fws_pf_put_filter.specs.Literals.{lit_of, proto_lit, tag_lit}
use Rattle.fws_pf_put_filter.specs.Pieces.{IsProper}
use Rattle.fws_pf_print.specs.Printable.{is_printed_cond}

-- Fields

-- what rules test in place of a field of a point
abbrev pub tested_at : Site → ℕ → Option Tested
tested_at site f = if nat_eq f 0 then Some (Entry (length site.faces + 1)) else option_map Field (seen_field Entered f)

-- tests of the entry are met as packets come in
abbrev pub way_of : Tested → Way
way_of (Entry top) = Inward
way_of (Field field) = Both

-- Conditions

-- that the packet has the protocol, if one is asked for
abbrev pub front_of : Option ℕ → List Lit
front_of protocol = option_map_or (λ p. proto_lit p ∷ []) protocol []

-- a condition for each literal, for packets of the protocol
abbrev pub conds_under : Option ℕ → List Lit → List (List Lit)
conds_under protocol lits = map (λ lit. front_of protocol ++ lit ∷ []) lits

-- a condition for each literal of a field, and for each protocol that has it where only some do
abbrev pub conds_for : PacketField → List Lit → List (List Lit)
conds_for Proto lits = conds_under None lits
conds_for Dst lits = conds_under None lits
conds_for Dport lits = conds_under (Some 6) lits ++ conds_under (Some 17) lits
conds_for Src lits = conds_under None lits
conds_for Sport lits = conds_under (Some 6) lits ++ conds_under (Some 17) lits
conds_for Flags lits = conds_under (Some 6) lits
conds_for Icmp lits = conds_under (Some 1) lits

-- the packet comes in by the entry
abbrev pub entry_cond : ℕ → List Lit
entry_cond e = lit_of (tests.Via (record { lo = e; hi = e } ∷ [])) ∷ []

-- the packet hits the set
abbrev pub hits_set : Tested → List Iv → Packet → Bool
hits_set (Entry top) set p = has set p.entry
hits_set (Field field) set p = hits field set p

-- a view for which conditions are made
abbrev pub IsViewed : Tested → View → Type 0
IsViewed (Entry top) v = (v.outward ≡ false) × (v.recv ≡ Some v.packet.entry) × (1 ≤ v.packet.entry) × (v.packet.entry ≤ top)
IsViewed (Field field) v = suits field v.packet.proto ≡ true → value_of field v.packet ≤ top_of field

-- the entries are those of the site
abbrev pub IsOfSite : Site → Tested → Type 0
IsOfSite site (Entry top) = top ≡ length site.faces + 1
IsOfSite site (Field field) = Unit {0}

-- a set for which conditions can be made
abbrev pub IsTestable : Tested → List Iv → Type 0
IsTestable (Entry top) set = top ≤ 65535
IsTestable (Field field) set = IsProper field set

-- a condition that is printed with a tag behind it
abbrev pub is_printed_with : Site → ℕ → List Lit → Bool
is_printed_with site n cond = is_printed_cond site (cond ++ tag_lit n ∷ [])

-- conditions of which one holds just where the packet hits the set; they are printed
pub record AreConds (tested : Tested) (set : List Iv) (conds : List (List Lit)) : Type 0 where
  pub hit : (v : View) → IsViewed tested v → list_any (λ c. holds c v) conds ≡ hits_set tested set v.packet
  pub printed : (site : Site) (n : ℕ) → IsOfSite site tested → list_all (is_printed_with site n) conds ≡ true
