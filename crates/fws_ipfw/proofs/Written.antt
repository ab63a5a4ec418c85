-- Ports are written for TCP and UDP alone.
use Rattle.std.proofs.Common.{◌≡◌, ℕ, Bool, true, false, Option, Some, None, IfSome, refl, ap, ◌∙◌}
use Rattle.std.specs.List.{list_all}
use Rattle.std.specs.Option.{option_map_or}
use Rattle.fws_net.specs.declared.packet.Packet.{Packet}
use Rattle.fws_net.specs.declared.connection.Kind.TheVariants.{New}
use Rattle.fws_net.specs.declared.site.Site.{Site}
use Rattle.fws_net.specs.declared.transit.Transit.{Transit}
use Rattle.fws_net.specs.Ends.{host_end}
use Rattle.fws_net.specs.Fates.{has_ports}
use Rattle.fws_net.specs.Transits.{with_dst}
use Rattle.fws_rules.specs.Regular.{IsPortless}
use Rattle.fws_ipfw.specs.declared.config.IpfwConfig.{IpfwConfig}
use Rattle.fws_ipfw.specs.declared.config.IpfwNat.{IpfwNat}
use Rattle.fws_ipfw.specs.declared.config.Redirect.{Redirect}
use Rattle.fws_ipfw.specs.Soundness.{nat_fits}
use Rattle.fws_ipfw.specs.Walk.{redirect_in, redirect_out, translated_by, pass_walk}
use Rattle.fws_ipfw.proofs.AlikeWalks.{redirects_fit}
use Rattle.fws_ipfw.proofs.Kept.{pass_kept}
use Rattle.fws_ipfw.proofs.Redirects.{in_portless, out_portless}

module _ (c : IpfwConfig) (site : Site) (p : Packet) (fits : list_all nat_fits c.nats ≡ true) (off : has_ports p.proto ≡ false) where
  moved_in : (o : Option Redirect) → IfSome o (λ r. r.local.port ≡ None) → (t : Transit) → IsPortless p t → IsPortless p (option_map_or (λ r. with_dst p r.local t) o t)
  moved_in None none t h = h
  moved_in (Some r) none t h = record { proto = refl; wrote = (h.wrote.0, none) }

  moved_out : (o : Option Redirect) (alias : ℕ) → IfSome o (λ r. r.public.port ≡ None) → (option_map_or (λ r. r.public) o (host_end alias None)).port ≡ None
  moved_out None alias none = refl
  moved_out (Some r) alias none = none

  nat_portless : (outward : Bool) (nat : IpfwNat) → nat_fits nat ≡ true → (t : Transit) → IsPortless p t → IsPortless p (translated_by p New outward nat t)
  nat_portless true nat fit t h = record {
    proto = refl;
    wrote = (moved_out (redirect_out nat.redirects t.packet) nat.alias (out_portless t.packet (ap has_ports h.proto ∙ off) nat.redirects (redirects_fit nat fit)), h.wrote.1);
  }
  nat_portless false nat fit t h = moved_in (redirect_in nat.redirects t.packet) (in_portless t.packet (ap has_ports h.proto ∙ off) nat.redirects (redirects_fit nat fit)) t h

  pub pass_portless : (outward : Bool) (t : Transit) → IsPortless p t → IfSome (pass_walk c site p New outward t) (IsPortless p)
  pass_portless outward t h =
      pass_kept c site p fits (IsPortless p) outward (λ xs u k. record { proto = k.proto; wrote = k.wrote }) (nat_portless outward) t h
