-- Lists of translations of which the first that matches writes the end that a tree gives, and puts the tag of the state at which
-- the filter goes on.
use Rattle.std.specs.Prelude.{◌≡◌, ◌≢◌, ℕ, ◌≤◌, ◌<◌, Bool, true, false, not, Option, Some, None, List, ◌++◌, length, slice_get, slice_index, IfSome}
use Rattle.std.specs.List.{list_all}
use Rattle.fws_box.specs.Sides.{IsWithin}
use Rattle.fws_box.specs.declared.field.Field.TheVariants as fields
use Rattle.fws_net.specs.declared.outcome.End.{End}
use Rattle.fws_net.specs.declared.outcome.Outcome.{Outcome}
use Rattle.fws_net.specs.declared.outcome.Outcome.TheVariants.{Accept}
use Rattle.fws_net.specs.declared.outcome.Rewrite.{Rewrite}
use Rattle.fws_net.specs.declared.packet.Packet.{Packet}
use Rattle.fws_net.specs.declared.site.Site.{Site}
use Rattle.fws_net.specs.declared.transit.Transit.{Transit}
use Rattle.fws_net.specs.Fates.{has_ports}
use Rattle.fws_net.specs.RegularWalks.{WritesNoPort}
use Rattle.fws_pf.specs.declared.config.PfNat.{PfNat}
use Rattle.fws_pf.specs.Walk.{chosen}
use Rattle.fws_pf_print.specs.Printable.{is_printed_translation}
use Rattle.fws_tree_seen.specs.declared.seen.Seen.TheVariants.{Entered}
use Rattle.fws_tree_seen.specs.Reached.{IsTopped, Reaches}
use Rattle.fws_tree.specs.declared.node.Node.{Node}
use Rattle.fws_tree.specs.declared.node.Node.TheVariants.{Leaf, Cut}
use Rattle.fws_tree.specs.Plain.{Plain, branch, value}
use Rattle.fws_tree.specs.Shared.{subtree_of}
use Rattle.fws_box.specs.Fields.{value_of}

-- Passes

-- the end that is written on a pass: over the source on the out pass, and over the destination on the in pass
abbrev pub end_of : Bool → Rewrite → Option End
end_of true w = w.src
end_of false w = w.dst

-- packets with this entry meet the list of a pass: those of the host itself on the out pass, and those that arrive on the in pass
abbrev pub IsMet : Bool → List ℕ → ℕ → Type 0
IsMet true tops entry = entry ≡ 0
IsMet false tops entry = (1 ≤ entry) × (entry ≤ value_of tops fields.Entry)

-- a packet before and behind the translation of a pass, where only what the end is written over may change
abbrev pub IsAfter : Bool → Option End → Packet → Packet → Type 0
IsAfter outward None p q = q ≡ p
IsAfter false (Some e) p q = q ≡ record p { dst = q.dst; dport = q.dport }
IsAfter true (Some e) p q = q ≡ record p { src = q.src }

-- Trees for which lists are made

-- no port is written where the protocol has none
abbrev pub WritesPortsOfProtocols : List ℕ → Plain Outcome → Type 0
WritesPortsOfProtocols tops t =
    (p : List ℕ) (w : Rewrite) → IsWithin tops p → value t p ≡ Some (Accept w) → has_ports (value_of p fields.Proto) ≡ false → WritesNoPort w

-- the points agree in their first n fields
abbrev pub AgreeBefore : ℕ → List ℕ → List ℕ → Type 0
AgreeBefore n p q = (f : ℕ) → f < n → slice_index q f ≡ slice_index p f

-- packets that agree in entry, protocol, addresses and ports get the same end
abbrev pub WritesOneEnd : Bool → List ℕ → Plain Outcome → Type 0
WritesOneEnd outward tops t =
    (p q : List ℕ) (v w : Rewrite) → IsWithin tops p → IsWithin tops q → IsMet outward tops (value_of p fields.Entry) → AgreeBefore 6 p q
    → value t p ≡ Some (Accept v) → value t q ≡ Some (Accept w) → end_of outward v ≡ end_of outward w

-- on the out pass no port is written
abbrev pub KeepsPortsOutward : Bool → List ℕ → Plain Outcome → Type 0
KeepsPortsOutward outward tops t =
    outward ≡ true → (p : List ℕ) (w : Rewrite) → IsWithin tops p → value_of p fields.Entry ≡ 0 → value t p ≡ Some (Accept w)
    → IfSome w.src (λ e. e.port ≡ None)

-- Translations

-- a node that doesn't cut the entry
abbrev pub KeepsEntry : Node → Type 0
KeepsEntry (Leaf n) = Unit {0}
KeepsEntry (Cut f kids) = f ≢ 0

-- the translation writes what the packet gets, and puts the tag of a state at which a tree goes on that tells what becomes of it
pub record IsLed (t : Plain Outcome) (leaves : List Outcome) (nodes : List Node) (states : List ℕ) (outward : Bool) (p : Packet) (nat : PfNat) : Type 0 where
  -- the filter is met behind it, from the state of a node on
  pub past : nat.past ≡ false
  pub node : ℕ
  pub below : node < length nodes
  pub state : ℕ
  pub is_state : slice_get states node ≡ Some state
  pub tag : nat.tag ≡ Some state
  -- on the out pass the node doesn't cut the entry
  pub entry : outward ≡ true → (n : Node) → slice_get nodes node ≡ Some n → KeepsEntry n
  -- what the packet reaches there behind the translation it reaches in the tree ahead of it
  pub reached : (q : Packet) (w : Outcome) → IsAfter outward nat.to p q → Reaches Entered q (branch 0 (subtree_of leaves nodes node) q.entry) w
      → Reaches Entered p (branch 0 t p.entry) w
  -- and where it is accepted there, it gets the end that the translation writes
  pub writes : (q : Packet) (w : Rewrite) → IsAfter outward nat.to p q → Reaches Entered q (branch 0 (subtree_of leaves nodes node) q.entry) (Accept w)
      → end_of outward w ≡ nat.to

-- the translations of a pass
pub record IsTranslations (site : Site) (tops : List ℕ) (t : Plain Outcome) (leaves : List Outcome) (nodes : List Node) (states : List ℕ) (outward : Bool) (block : List PfNat) : Type 0 where
  pub printed : list_all (is_printed_translation site (not outward)) block ≡ true
  -- the first one that matches leads the packet, whatever stands behind them
  pub decides : (m : Transit) (rest : List PfNat) → IsTopped tops Entered m.packet → IsMet outward tops m.packet.entry
      → (nat : PfNat) × (chosen site outward (block ++ rest) m ≡ Some nat) × IsLed t leaves nodes states outward m.packet nat
