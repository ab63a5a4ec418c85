-- Classes that are looked up by what matching tuples share.
use Rattle.std.specs.Prelude.{ℕ, Bool, ◌&&◌, nat_eq, if◌then◌else◌}
use Rattle.std.specs.HashMap.{get}
use Rattle.std.specs.Option.{option_map_or}
use Rattle.fws_net.specs.declared.connection.Kind.{Kind}
use Rattle.fws_net.specs.declared.connection.Kind.TheVariants.{New, Est}
use Rattle.fws_net.specs.declared.connection.Rec.{Rec}
use Rattle.fws_net.specs.declared.connection.Tuple.{Tuple}
use Rattle.fws_net.specs.Connections.{matches}
use Rattle.fws_net.specs.Fates.{has_ports}
use Rattle.fws_trace.specs.declared.classes.Classes.{Classes}
use Rattle.fws_trace.specs.declared.classes.Key.{Key}

-- a port where ports count, else 0
abbrev pub counted_port : ℕ → ℕ → ℕ
counted_port proto port = if has_ports proto then port else 0

-- what a tuple shares with those that match it, and with no other
abbrev pub key_of : Tuple → Key
key_of t = record {
  proto = t.proto;
  dst = t.dst;
  dport = counted_port t.proto t.dport;
  src = t.src;
  sport = counted_port t.proto t.sport;
}

abbrev pub key_eq : Key → Key → Bool
key_eq a b = nat_eq a.proto b.proto && (nat_eq a.dst b.dst && (nat_eq a.dport b.dport && (nat_eq a.src b.src && nat_eq a.sport b.sport)))

-- the class of a tuple that is looked up
abbrev pub class_in : Classes → Tuple → Kind
class_in classes t = option_map_or Est (get key_eq classes.ends (key_of t)) New

-- the first of two classes, unless it is new
abbrev pub first_class : Kind → Kind → Kind
first_class New k = k
first_class (Est r) k = Est r

-- the class of the packets that match a tuple and leave with these ends
abbrev pub class_by : Tuple → Rec → Tuple → Kind
class_by own ends t = if matches own t then Est ends else New

-- packets that have ends get another class where it is for them; those that have none keep none
abbrev pub settled : Bool → Kind → Kind → Kind
settled is_for k New = New
settled is_for k (Est r) = if is_for then k else Est r
