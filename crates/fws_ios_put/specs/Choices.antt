-- What packets that come in by an entry are permitted, as lists can ask for it.
use Rattle.std.specs.Prelude.{◌≡◌, ◌≢◌, ◌↔◌, ℕ, Bool, true, false, ◌&&◌, ◌||◌, not, nat_eq, List, unwrap_or, Some, if◌then◌else◌, [], ◌∷◌}
use Rattle.fws_box.specs.Sides.{IsWithin}
use Rattle.fws_box.specs.declared.field.Field.TheVariants as fields
use Rattle.fws_net.specs.declared.connection.Rec.{Rec}
use Rattle.fws_net.specs.declared.exit.Exit.TheVariants.{Lost}
use Rattle.fws_net.specs.declared.packet.Packet.{Packet}
use Rattle.fws_net.specs.declared.site.Site.{Site}
use Rattle.fws_net.specs.Points.{packet_of, tops_of}
use Rattle.fws_net.specs.Routes.{exit_at, is_local}
use Rattle.fws_tree.specs.declared.tables.Tables.{Tables}
use Rattle.fws_tree.specs.Plain.{Plain, value}
use Rattle.fws_tree_seen.specs.declared.seen.Seen.TheVariants.{Entered}
use Rattle.fws_tree_seen.specs.Shown.{IsTold}
use Rattle.fws_ios_put_entries.specs.Entries.{acknowledges}
use Rattle.fws_ios_put_entries.specs.Seen.{IsListed}
use Rattle.fws_place.specs.Meaning.{IsPairOf, new_of, point_of, rec_of}
use Rattle.fws_place.specs.Rewritings.{is_accepted}
use Rattle.fws_place.specs.Seen.{IsAcceptedSomewhere, Tells}
use Rattle.fws_ios_put.specs.declared.choices.Choices.{Choices}
use Rattle.fws_box.specs.Fields.{value_of}
use Rattle.fws_iv.specs.Ivs.{has}

-- Trees

-- what a tree gives at a point; false where it gives nothing
abbrev pub truth : Plain Bool → List ℕ → Bool
truth t x = unwrap_or (value t x) false

-- a tree over the points of a site that lists can ask for
pub record IsAskable (site : Site) (t : List ℕ × Plain Bool) : Type 0 where
  pub tops : t.0 ≡ tops_of site
  pub valued : (x : List ℕ) → IsWithin (tops_of site) x → value t.1 x ≡ Some (truth t.1 x)
  pub listed : IsListed (tops_of site) (truth t.1)

-- the point is one of TCP
abbrev pub is_tcp : List ℕ → Bool
is_tcp x = nat_eq (value_of x fields.Proto) 6

-- packets that arrive with the point's destination are lost
abbrev pub is_stray : Site → List ℕ → Bool
is_stray site x = not site.forwarding && not (is_local site (value_of x fields.Dst))

-- the point with this entry and these flags
abbrev pub framed : ℕ → ℕ → List ℕ → List ℕ
framed entry flags x = point_of (record (packet_of x) { entry = entry; flags = flags }) (rec_of x)

-- the tree tells of each new packet whether it is accepted
pub record TellsNew (site : Site) (tables : Tables) (t : List ℕ × Plain Bool) : Type 0 where
  pub tops : t.0 ≡ tops_of site
  pub told : IsTold Entered (tops_of site) t.1
  pub tells : (p : Packet) (r : Rec) → IsPairOf site p r → value t.1 (point_of p r) ≡ Some (is_accepted (new_of tables p))

-- the tree tells of each packet whether it is accepted in some connection
pub record TellsKnown (site : Site) (tables : Tables) (t : List ℕ × Plain Bool) : Type 0 where
  pub tops : t.0 ≡ tops_of site
  pub told : IsTold Entered (tops_of site) t.1
  pub tells : Tells site (λ p r. IsAcceptedSomewhere site tables p) t.1

-- Packets

-- what is known of a packet: whether it is permitted as a new one and as one of connections, without and with ACK and RST
pub record IsAsked (flagged tcp fresh known acked_fresh acked_known : Bool) : Type 0 where
  -- ACK and RST are flags of TCP
  pub under : flagged ≡ true → tcp ≡ true
  -- what is permitted as new is permitted in connections
  pub go : fresh ≡ true → known ≡ true
  pub acked_go : acked_fresh ≡ true → acked_known ≡ true
  -- what with ACK or RST is permitted in connections alone is permitted in connections without
  pub ahead : tcp ≡ true → acked_known ≡ true → acked_fresh ≡ false → known ≡ true

-- what is said of a packet: of one of connections by whether it is permitted in some, of a new one by whether it is as new
abbrev pub said : Bool → Bool → Bool → Bool → Bool → Bool → Bool
said est flagged fresh known acked_fresh acked_known =
    if est then (if flagged then acked_known else known) else if flagged then acked_fresh else fresh

-- what is known of a packet at a point
abbrev pub IsAskedAt : Choices → Packet → List ℕ → Type 0
IsAskedAt c p x = IsAsked (acknowledges p) (is_tcp x) (truth c.fresh.1 x) (truth c.known.1 x) (truth c.acked_fresh.1 x) (truth c.acked_known.1 x)

-- what is said of a packet at a point
abbrev pub said_at : Choices → Bool → Packet → List ℕ → Bool
said_at c est p x = said est (acknowledges p) (truth c.fresh.1 x) (truth c.known.1 x) (truth c.acked_fresh.1 x) (truth c.acked_known.1 x)

-- what is known of a packet of the tables: its choices, and that they are those of the tables, wherever it isn't lost
pub record IsChosen (site : Site) (tables : Tables) (c : Choices) (p : Packet) (r : Rec) : Type 0 where
  pub asked : IsAskedAt c p (point_of p r)
  pub new : exit_at site p.entry p.dst ≢ Lost → is_accepted (new_of tables p) ≡ said_at c false p (point_of p r)
  pub somewhere : (said_at c true p (point_of p r) ≡ true) ↔ IsAcceptedSomewhere site tables p

-- choices that lists can ask for
pub record AreAskable (site : Site) (c : Choices) : Type 0 where
  pub fresh : IsAskable site c.fresh
  pub known : IsAskable site c.known
  pub acked_fresh : IsAskable site c.acked_fresh
  pub acked_known : IsAskable site c.acked_known

-- the choices are those of all packets that come in by an entry
abbrev pub AreOfEntry : Site → Tables → ℕ → Choices → Type 0
AreOfEntry site tables entry c = (p : Packet) (r : Rec) → IsPairOf site p r → p.entry ≡ entry → IsChosen site tables c p r

-- choices that are made of what the trees tell of packets with an entry: without flags, and with ACK. New packets with ACK that are
-- lost anyway are permitted besides where only those of connections would be, and none without ACK are
pub record AreMadeOf (site : Site) (told_new told_known : Plain Bool) (entry : ℕ) (c : Choices) : Type 0 where
  pub fresh : (x : List ℕ) → IsWithin (tops_of site) x → truth c.fresh.1 x ≡ truth told_new (framed entry 0 x)
  pub known : (x : List ℕ) → IsWithin (tops_of site) x → truth c.known.1 x ≡ truth told_known (framed entry 0 x)
  pub acked_known : (x : List ℕ) → IsWithin (tops_of site) x → truth c.acked_known.1 x ≡ truth told_known (framed entry 16 x)
  pub acked_fresh : (x : List ℕ) → IsWithin (tops_of site) x → truth c.acked_fresh.1 x
      ≡ (truth told_new (framed entry 16 x) || (is_tcp x && (is_stray site x && (truth c.acked_known.1 x && not (truth c.known.1 x)))))

-- Where choices leave nothing to tell

-- the tree is true at no point of the site
abbrev pub IsNowhere : Site → Plain Bool → Type 0
IsNowhere site t = (x : List ℕ) → IsWithin (tops_of site) x → truth t x ≡ false

-- no packets are permitted in connections alone
pub record NoneAlone (site : Site) (c : Choices) : Type 0 where
  pub plain : (x : List ℕ) → IsWithin (tops_of site) x → truth c.known.1 x ≡ true → truth c.fresh.1 x ≡ true
  pub acked : (x : List ℕ) → IsWithin (tops_of site) x → is_tcp x ≡ true → truth c.acked_known.1 x ≡ true → truth c.acked_fresh.1 x ≡ true

-- all packets are permitted in some connection
pub record NoneDenied (site : Site) (c : Choices) : Type 0 where
  pub plain : (x : List ℕ) → IsWithin (tops_of site) x → truth c.known.1 x ≡ true
  pub acked : (x : List ℕ) → IsWithin (tops_of site) x → is_tcp x ≡ true → truth c.acked_known.1 x ≡ true

-- What trees have that are made of others

-- the tree is true where the function is
abbrev pub HasTruth : Site → (List ℕ → Bool) → List ℕ × Plain Bool → Type 0
HasTruth site f t = (x : List ℕ) → IsWithin (tops_of site) x → truth t.1 x ≡ f x

-- the first set lies in the second one
abbrev pub LiesIn : Site → Plain Bool → Plain Bool → Type 0
LiesIn site t u = (x : List ℕ) → IsWithin (tops_of site) x → truth t x ≡ true → truth u x ≡ true

-- as far as TCP goes
abbrev pub LiesInForTcp : Site → Plain Bool → Plain Bool → Type 0
LiesInForTcp site t u = (x : List ℕ) → IsWithin (tops_of site) x → is_tcp x ≡ true → truth t x ≡ true → truth u x ≡ true

-- a stray destination, where packets with ACK or RST are permitted in connections and others aren't
abbrev pub is_acked_stray : Site → Plain Bool → Plain Bool → List ℕ → Bool
is_acked_stray site acked_known known x = is_stray site x && (truth acked_known x && not (truth known x))

-- the entry and the flags are these
abbrev pub is_framed : ℕ → ℕ → List ℕ → Bool
is_framed entry flags q =
    has (record { lo = entry; hi = entry } ∷ []) (value_of q fields.Entry) && has (record { lo = flags; hi = flags } ∷ []) (value_of q fields.Flags)

-- packets with ACK that come in by the entry and are permitted as new ones: as the tree tells, and strays of TCP
abbrev pub acked_truth : Site → Plain Bool → Plain Bool → Plain Bool → ℕ → List ℕ → Bool
acked_truth site new acked_known known entry x = truth new (framed entry 16 x) || (is_tcp x && is_acked_stray site acked_known known x)
