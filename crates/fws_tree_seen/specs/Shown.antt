-- What a rule sees of the fields of a point.
use Rattle.std.specs.Prelude.{◌≡◌, ℕ, ◌≤◌, ◌<◌, Bool, true, false, ◌||◌, nat_eq, Option, Some, None, List, slice_index, slice_set, if◌then◌else◌}
use Rattle.std.specs.Option.{option_map}
use Rattle.fws_box.specs.Sides.{IsWithin}
use Rattle.fws_net.specs.declared.packet.Packet.{Packet}
use Rattle.fws_net.specs.Fates.{has_ports}
use Rattle.fws_tree.specs.Plain.{Plain, value}
use Rattle.fws_tree.specs.Regular.{is_port}
use Rattle.fws_tree_seen.specs.declared.field.PacketField.{PacketField}
use Rattle.fws_tree_seen.specs.declared.field.PacketField.TheVariants.{Proto, Dst, Dport, Src, Sport, Flags, Icmp}
use Rattle.fws_tree_seen.specs.declared.seen.Seen.{Seen}
use Rattle.fws_tree_seen.specs.declared.seen.Seen.TheVariants.{Entered, Routed}

-- the field of a packet by its number: protocol, destination and its port, source and its port, flags and ICMP type
abbrev pub field_of : ℕ → Option PacketField
field_of f =
    if nat_eq f 1 then Some Proto else if nat_eq f 2 then Some Dst else if nat_eq f 3 then Some Dport
    else if nat_eq f 4 then Some Src else if nat_eq f 5 then Some Sport else if nat_eq f 6 then Some Flags
    else if nat_eq f 7 then Some Icmp else None

-- the value of a packet's field
abbrev pub value_of : PacketField → Packet → ℕ
value_of Proto p = p.proto
value_of Dst p = p.dst
value_of Dport p = p.dport
value_of Src p = p.src
value_of Sport p = p.sport
value_of Flags p = p.flags
value_of Icmp p = p.icmp

-- the packet's field that is seen in place of a field of a point: as the packet enters, or with the destination of its
-- connection, which stands in the fields 8 and 9 of a point
abbrev pub shown_as : Seen → ℕ → ℕ
shown_as Entered f = f
shown_as Routed f = if nat_eq f 2 || nat_eq f 3 then 0 else if nat_eq f 8 then 2 else if nat_eq f 9 then 3 else f

-- the field that is seen in place of a field of a point, if one is; the entry is told by where a rule stands
abbrev pub seen_field : Seen → ℕ → Option PacketField
seen_field seen f = field_of (shown_as seen f)

-- what is seen in place of a field, if anything is
abbrev pub shown : Seen → ℕ → Packet → Option ℕ
shown seen f p = option_map (λ field. value_of field p) (seen_field seen f)

-- the protocol has the field: ports for TCP and UDP, flags for TCP, a type for ICMP
abbrev pub has_field : ℕ → ℕ → Bool
has_field proto f =
    if is_port f then has_ports proto else if nat_eq f 6 then nat_eq proto 6 else if nat_eq f 7 then nat_eq proto 1 else true

-- the packet is seen as the point: what is seen in place of a field that its protocol has is the point's
abbrev pub IsSeenAs : Seen → Packet → List ℕ → Type 0
IsSeenAs seen packet x = (f v : ℕ) → has_field packet.proto f ≡ true → shown seen f packet ≡ Some v → slice_index x f ≡ v

-- the value at a point stays when the value of a field is changed to another one up to the field's top
abbrev pub IsFreeOf : {L : Type 0} → List ℕ → Plain L → ℕ → List ℕ → Type 0
IsFreeOf tops t f p = (x : ℕ) → x ≤ slice_index tops f → value t (slice_set p f x) ≡ value t p

-- rules can tell by what they see which value the tree has: no value changes with a field that the protocol lacks, nor with
-- one but the entry that isn't seen
pub record IsTold {L : Type 0} (seen : Seen) (tops : List ℕ) (t : Plain L) : Type 0 where
  pub lacking : (f : ℕ) (p : List ℕ) → IsWithin tops p → has_field (slice_index p 1) f ≡ false → IsFreeOf tops t f p
  pub unseen : (f : ℕ) (p : List ℕ) → 1 ≤ f → f < 12 → ((q : Packet) → shown seen f q ≡ None) → IsWithin tops p → IsFreeOf tops t f p
