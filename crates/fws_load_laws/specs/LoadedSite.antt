-- The site that the generator's text spells.
use Rattle.std.specs.Prelude.{◌≡◌, ◌+◌, ◌*◌, ◌^◌, true, Ok, [], ◌∷◌, codes}
use Rattle.fws_load.specs.Load.{site_text}
use Rattle.fws_net.specs.declared.site.Address.{Address}
use Rattle.fws_net.specs.declared.site.Iface.{Iface}
use Rattle.fws_net.specs.declared.site.Side.TheVariants.{Inside, Outside}
use Rattle.fws_net.specs.declared.site.Site.{Site}
use Rattle.fws_net.specs.SiteText.{site_of}

-- 10.0.0.1/24
abbrev pub inner_address : Address
inner_address = record { addr = 10 * 2 ^ 24 + 1; len = 24 }

-- 203.0.113.2/30
abbrev pub outer_address : Address
outer_address = record { addr = 203 * 2 ^ 24 + 113 * 2 ^ 8 + 2; len = 30 }

abbrev pub inner_face : Iface
inner_face = record {
  name = codes "lan";
  addrs = inner_address ∷ [];
  names = record { ipt = codes "eth0"; ipfw = codes "em0"; pf = codes "em0"; ios = codes "GigabitEthernet0/0" };
  side = Inside;
}

abbrev pub outer_face : Iface
outer_face = record {
  name = codes "wan";
  addrs = outer_address ∷ [];
  names = record { ipt = codes "eth1"; ipfw = codes "em1"; pf = codes "em1"; ios = codes "GigabitEthernet0/1" };
  side = Outside;
}

-- a router between the two; what no network has goes to the outer one, whose entry is 3
abbrev pub load_site : Site
load_site = record {
  faces = inner_face ∷ outer_face ∷ [];
  routes = [];
  lo = record { ipt = codes "lo"; ipfw = codes "lo0"; pf = codes "lo0"; ios = codes "Loopback0" };
  fallback = 3;
  forwarding = true;
  one_pass = true;
}

-- no line of the site's text is refused, and it spells this site
abbrev pub LoadSiteIsRead : Type 0
LoadSiteIsRead = site_of site_text ≡ Ok load_site
