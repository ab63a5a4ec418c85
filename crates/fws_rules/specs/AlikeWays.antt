-- Packets on their way that differ in nothing that a condition can see.
use Rattle.std.specs.Prelude.{◌≡◌, ℕ, Bool, true, Option, Some, None, List, if◌then◌else◌}
use Rattle.fws_net.specs.declared.packet.Packet.{Packet}
use Rattle.fws_net.specs.declared.condition.Lit.{Lit}
use Rattle.fws_net.specs.declared.outcome.End.{End}
use Rattle.fws_net.specs.declared.outcome.Rewrite.{Rewrite}
use Rattle.fws_net.specs.declared.connection.Rec.{Rec}
use Rattle.fws_net.specs.declared.connection.Kind.{Kind}
use Rattle.fws_net.specs.declared.connection.Kind.TheVariants.{New, Est}
use Rattle.fws_net.specs.declared.site.Site.{Site}
use Rattle.fws_net.specs.declared.transit.Transit.{Transit}
use Rattle.fws_net.specs.Conditions.{holds}
use Rattle.fws_net.specs.Fates.{has_ports}
use Rattle.fws_net.specs.Routes.{exit_at}
use Rattle.fws_net.specs.Transits.{rewritten, seen, entered, with_verdict, with_wrote, with_src, with_dst, with_tracked_src, with_tracked_dst, with_tag, with_only_tag, without_tag, decided, onwards, outcome_of}
use Rattle.fws_rules.specs.Alike.{Alike}

-- the ends with which established packets leave are one, but for ports at protocols that have none
pub record AlikeRecs (p : Packet) (r s : Rec) : Type 0 where
  pub dst : r.rdst ≡ s.rdst
  pub src : r.rsrc ≡ s.rsrc
  pub dport : has_ports p.proto ≡ true → r.rdport ≡ s.rdport
  pub sport : has_ports p.proto ≡ true → r.rsport ≡ s.rsport

-- the classes are one, but for such ports
abbrev pub AlikeKinds : Packet → Kind → Kind → Type 0
AlikeKinds p New New = Unit
AlikeKinds p (Est r) (Est s) = AlikeRecs p r s
AlikeKinds p _ _ = ⊥

-- two transits agree, but for what no condition sees; the first one entered as p, and still has its protocol
pub record AlikeTransits (p : Packet) (t u : Transit) : Type 0 where
  pub packet : Alike t.packet u.packet
  pub tags : t.tags ≡ u.tags
  pub verdict : t.verdict ≡ u.verdict
  pub wrote : t.wrote ≡ u.wrote
  pub proto : t.packet.proto ≡ p.proto

-- both go on, and alike, or both are dropped
abbrev pub AlikeWays : Packet → Option Transit → Option Transit → Type 0
AlikeWays p (Some t) (Some u) = AlikeTransits p t u
AlikeWays p None None = Unit
AlikeWays p _ _ = ⊥

-- what is done makes alike transits of alike ones
abbrev pub MakeAlike : Packet → (Transit → Transit) → (Transit → Transit) → Type 0
MakeAlike p f g = (t u : Transit) → AlikeTransits p t u → AlikeTransits p (f t) (g u)

-- what is done leads alike transits alike ways
abbrev pub LeadAlike : Packet → (Transit → Option Transit) → (Transit → Option Transit) → Type 0
LeadAlike p f g = (t u : Transit) → AlikeTransits p t u → AlikeWays p (f t) (g u)

-- transits of the packets p and q stay alike in what rules do, and end alike
pub record StayAlike (p q : Packet) : Type 0 where
  pub entered : AlikeTransits p (entered p) (entered q)
  -- the same ends are written
  pub rewritten : (w : Rewrite) → Alike (rewritten p w) (rewritten q w)
  pub with_wrote : (w : Rewrite) → MakeAlike p (with_wrote p w) (with_wrote q w)
  pub with_src : (e : End) → MakeAlike p (with_src p e) (with_src q e)
  pub with_dst : (e : End) → MakeAlike p (with_dst p e) (with_dst q e)
  -- alike classes leave with alike ends
  pub with_tracked_src : (k l : Kind) → AlikeKinds p k l → MakeAlike p (with_tracked_src k) (with_tracked_src l)
  pub with_tracked_dst : (k l : Kind) → AlikeKinds p k l → MakeAlike p (with_tracked_dst k) (with_tracked_dst l)
  -- verdicts and tags
  pub with_verdict : (accepts : Bool) → MakeAlike p (with_verdict accepts) (with_verdict accepts)
  pub with_tag : (n : ℕ) → MakeAlike p (with_tag n) (with_tag n)
  pub with_only_tag : (n : ℕ) → MakeAlike p (with_only_tag n) (with_only_tag n)
  pub without_tag : (n : ℕ) → MakeAlike p (without_tag n) (without_tag n)
  -- a condition holds of both or of neither
  pub holds : (site : Site) (shows_recv shows_xmit is_outward est : Bool) (cond : List Lit) (t u : Transit) → AlikeTransits p t u
      → holds cond (seen site shows_recv shows_xmit is_outward est t) ≡ holds cond (seen site shows_recv shows_xmit is_outward est u)
  -- both have one exit, and where they go on alike behind it they end alike
  pub exit : (site : Site) (t u : Transit) → AlikeTransits p t u → exit_at site t.packet.entry t.packet.dst ≡ exit_at site u.packet.entry u.packet.dst
  pub onwards : (site : Site) (deliver forward deliver_other forward_other : Transit → Option Transit) → LeadAlike p deliver deliver_other → LeadAlike p forward forward_other
      → LeadAlike p (λ t. onwards deliver forward (exit_at site p.entry t.packet.dst) t) (λ u. onwards deliver_other forward_other (exit_at site q.entry u.packet.dst) u)
  -- choices by tests that agree, verdicts that decide, and outcomes
  pub chosen : (b d : Bool) (x y v w : Option Transit) → b ≡ d → AlikeWays p x v → AlikeWays p y w → AlikeWays p (if b then x else y) (if d then v else w)
  pub decided : LeadAlike p decided decided
  pub outcome_of : (k l : Kind) → AlikeKinds p k l → (x y : Option Transit) → AlikeWays p x y → outcome_of k x ≡ outcome_of l y

-- transits of alike packets stay alike
abbrev pub AlikePacketsStayAlike : Type 0
AlikePacketsStayAlike = (p q : Packet) → Alike p q → StayAlike p q
