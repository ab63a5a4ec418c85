-- What the walks of all systems have in common, said of one packet at a time.
use Rattle.std.specs.Prelude.{◌≡◌, ◌≢◌, ℕ, false, None, IfSome}
use Rattle.fws_net.specs.declared.packet.Packet.{Packet}
use Rattle.fws_net.specs.declared.outcome.Outcome.{Outcome}
use Rattle.fws_net.specs.declared.outcome.Outcome.TheVariants.{Drop, Accept}
use Rattle.fws_net.specs.declared.outcome.Rewrite.{Rewrite}
use Rattle.fws_net.specs.declared.connection.Rec.{Rec}
use Rattle.fws_net.specs.declared.connection.Kind.{Kind}
use Rattle.fws_net.specs.declared.connection.Kind.TheVariants.{New, Est}
use Rattle.fws_net.specs.declared.exit.Exit.TheVariants.{Lost}
use Rattle.fws_net.specs.declared.site.Site.{Site}
use Rattle.fws_net.specs.Fates.{has_ports, written_addr}
use Rattle.fws_net.specs.Routes.{exit_at}
use Rattle.fws_net.specs.Transits.{nothing_written}

-- a rewriting that writes no port
abbrev pub WritesNoPort : Rewrite → Type 0
WritesNoPort w = IfSome w.src (λ e. e.port ≡ None) × IfSome w.dst (λ e. e.port ≡ None)

-- a walk that is regular at a site
pub record IsRegularWalk (site : Site) (walk : Packet → Kind → Outcome) : Type 0 where
  -- no outcome changes with a port at protocols that have none
  pub ports : (p : Packet) (k : Kind) (x y : ℕ) → has_ports p.proto ≡ false → walk (record p { dport = x; sport = y }) k ≡ walk p k
  pub sent_ports : (p : Packet) (r : Rec) (x y : ℕ) → has_ports p.proto ≡ false → walk p (Est (record r { rdport = x; rsport = y })) ≡ walk p (Est r)
  -- nor with flags at protocols other than TCP
  pub flags : (p : Packet) (k : Kind) (x : ℕ) → p.proto ≢ 6 → walk (record p { flags = x }) k ≡ walk p k
  -- nor with the ICMP type at protocols other than ICMP
  pub icmp : (p : Packet) (k : Kind) (x : ℕ) → p.proto ≢ 1 → walk (record p { icmp = x }) k ≡ walk p k
  -- a port is written at protocols that have one alone
  pub written : (p : Packet) (w : Rewrite) → walk p New ≡ Accept w → has_ports p.proto ≡ false → WritesNoPort w
  -- an established packet that is accepted isn't rewritten
  pub unwritten : (p : Packet) (r : Rec) (w : Rewrite) → walk p (Est r) ≡ Accept w → w ≡ nothing_written
  -- a new packet that is accepted leaves: the exit by its entry and by the destination that it ends with isn't lost
  pub leaves : (p : Packet) (w : Rewrite) → walk p New ≡ Accept w → exit_at site p.entry (written_addr w.dst p.dst) ≢ Lost
  -- where the exit by the entry and by the destination of the connection is lost, established packets are dropped
  pub lost : (p : Packet) (r : Rec) → exit_at site p.entry r.rdst ≡ Lost → walk p (Est r) ≡ Drop
