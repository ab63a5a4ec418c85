-- A configuration with the rules and the instances of a policy does what the tables say.
use Rattle.std.proofs.Common.{◌≡◌, ◌^◌, ◌<◌, Bool, List, All}
use Rattle.fws_net.specs.declared.outcome.End.{End}
use Rattle.fws_net.specs.declared.packet.Lang.TheVariants.{Ipfw}
use Rattle.fws_net.specs.declared.site.Site.{Site}
use Rattle.fws_tree.specs.declared.tables.Tables.{Tables}
use Rattle.fws_tree.specs.Plain.{Plain}
use Rattle.fws_tree.specs.Regular.{AreRegular}
use Rattle.fws_ipfw.specs.declared.config.IpfwConfig.{IpfwConfig}
use Rattle.fws_ipfw.specs.declared.config.IpfwNat.{IpfwNat}
use Rattle.fws_ipfw.specs.declared.config.IpfwRule.{IpfwRule}
use Rattle.fws_place.specs.declared.redirect.Redirect.{Redirect as Shown}
use Rattle.fws_place.specs.Fits.{Fits}
use Rattle.fws_ipfw_put.specs.Guards.{IsMet}
use Rattle.fws_ipfw_put.specs.Known.{Known}
use Rattle.fws_ipfw_put.specs.Laid.{AreEnds, AreRules, nats_for}
use Rattle.fws_ipfw_put.specs.Placed.{IsPlaced}
use Rattle.fws_ipfw_put.specs.Redirects.{AreRedirects}
use Rattle.fws_ipfw_put.proofs.Kept.{clauses_met}
use Rattle.fws_ipfw_put.proofs.Plan.{Plan}
use Rattle.fws_ipfw_put.proofs.Printed.{printable, tracked}
use Rattle.fws_ipfw_put.proofs.Tracked.{est_placed}
use Rattle.fws_ipfw_put.proofs.Ways.{new_placed}

pub all_placed : (site : Site) (tables : Tables) (packet before : Plain Bool) (redirects : List Shown) (destinations sources : List End) (rules : List IpfwRule) (nats : List IpfwNat)
    → AreRegular site tables → Fits Ipfw site tables → Known site tables packet before → AreRedirects site tables redirects
    → AreEnds site tables.fresh.1 redirects destinations sources
    → (behind : Plain Bool) × IsMet site before behind × AreRules site tables.fresh.1 packet behind destinations sources rules
    → nats ≡ nats_for redirects destinations sources → All (λ (nat : IpfwNat). nat.alias < 2 ^ 32) nats
    → IsPlaced site tables (record { rules = rules; nats = nats })
all_placed site tables packet before redirects destinations sources rules nats regular fits known shown ends laid nats_are aliases =
    let c : IpfwConfig = record { rules = rules; nats = nats } in
    let plan : Plan site tables c = record {
      regular = regular;
      met = clauses_met site tables fits;
      packet = packet;
      before = before;
      behind = laid.0;
      known = known;
      is_met = laid.1;
      redirects = redirects;
      destinations = destinations;
      sources = sources;
      shown = shown;
      ends = ends;
      rules = laid.2;
      nats = nats_are;
      aliases = aliases;
    } in
    record {
      printable = printable site tables c plan;
      tracks = tracked site tables c plan;
      new = new_placed site tables c plan;
      established = est_placed site tables c plan;
    }
