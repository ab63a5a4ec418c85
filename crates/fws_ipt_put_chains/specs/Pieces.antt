-- Pieces of sets: conditions of which one holds where a field's value is a member.
use Rattle.std.specs.Prelude.{◌≡◌, ℕ, ◌≤◌, Bool, true, false, ◌&&◌, nat_eq, Option, Some, None, List, if◌then◌else◌}
use Rattle.std.specs.List.{list_all, list_any}
use Rattle.fws_iv.specs.declared.iv.Iv.{Iv}
use Rattle.fws_iv.specs.Ivs.{has}
use Rattle.fws_net.specs.declared.condition.Lit.{Lit}
use Rattle.fws_net.specs.declared.site.Site.{Site}
use Rattle.fws_net.specs.declared.view.View.{View}
use Rattle.fws_net.specs.Conditions.{holds}
use Rattle.fws_ipt_print.specs.Printable.{are_different, protocol_leads, is_printed_literal}
use Rattle.fws_tree_seen.specs.declared.field.PacketField.TheVariants.{Proto, Icmp}
use Rattle.fws_tree_seen.specs.declared.field.PacketField.{PacketField}
use Rattle.fws_tree_seen.specs.Fields.{hits, suits, top_of}
use Rattle.fws_tree_seen.specs.Shown.{value_of}
use Rattle.fws_ipt_put_chains.specs.declared.coming.Coming.{Coming}

-- the value that no rule can test alone: `-p 0` is every protocol, and `--icmp-type 255` every type
abbrev pub unspelled : PacketField → Option ℕ
unspelled Proto = Some 0
unspelled Icmp = Some 255
unspelled _ = None

-- rules can test for each member of the set
pub record IsSpelled (field : PacketField) (set : List Iv) : Type 0 where
  pub within : (v : ℕ) → has set v ≡ true → v ≤ top_of field
  pub spelled : (v : ℕ) → unspelled field ≡ Some v → has set v ≡ false

-- a packet with this protocol may come: of those with ports only what is told
abbrev pub may_come : Coming → ℕ → Bool
may_come coming proto = if nat_eq proto 6 then coming.tcp else if nat_eq proto 17 then coming.udp else true

-- a view of a packet that may come, with a value of the field up to its greatest
pub record MayMeet (coming : Coming) (field : PacketField) (v : View) : Type 0 where
  pub comes : may_come coming v.packet.proto ≡ true
  pub below : suits field v.packet.proto ≡ true → value_of field v.packet ≤ top_of field

-- a condition that is printed
abbrev pub is_printed_cond : Site → Bool → List Lit → Bool
is_printed_cond site shown cond = are_different cond && protocol_leads cond && list_all (is_printed_literal site shown cond) cond

-- conditions of which one holds just where the packet hits the set; they are printed
pub record ArePieces (coming : Coming) (field : PacketField) (set : List Iv) (conds : List (List Lit)) : Type 0 where
  pub hit : (v : View) → MayMeet coming field v → list_any (λ cond. holds cond v) conds ≡ hits field set v.packet
  pub printed : (site : Site) (shown : Bool) → list_all (is_printed_cond site shown) conds ≡ true
