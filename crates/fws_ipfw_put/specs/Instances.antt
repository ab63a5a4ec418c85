-- The instances of translation of a placed configuration.
use Rattle.std.specs.Prelude.{ℕ, ◌+◌, List, [], ◌∷◌, map}
use Rattle.std.specs.List.{filter}
use Rattle.std.specs.Option.{option_map}
use Rattle.fws_net.specs.declared.outcome.End.{End}
use Rattle.fws_net.specs.Ends.{host_end}
use Rattle.fws_ipfw.specs.declared.config.IpfwNat.{IpfwNat}
use Rattle.fws_ipfw.specs.declared.config.Redirect.{Redirect}
use Rattle.fws_place.specs.declared.redirect.Redirect.{Redirect as Shown}
use Rattle.fws_ipfw_put.specs.Layout.{destination_instance, same_end, source_instance}

-- a redirect of ports of the protocol, or of an address where no port is written
abbrev pub redirect_for : Shown → Redirect
redirect_for r = record {
  proto = option_map (λ service. service.0) r.public.service;
  local = r.local;
  public = host_end r.public.addr (option_map (λ service. service.1) r.public.service);
}

-- the redirects to a destination
abbrev pub redirects_to : End → List Shown → List Redirect
redirects_to e redirects = map redirect_for (filter (λ r. same_end e r.local) redirects)

-- the instances of the destinations from the one at a place on
abbrev pub destination_nats : List Shown → ℕ → List End → List IpfwNat
destination_nats redirects i [] = []
destination_nats redirects i (e ∷ ends) =
    record { number = destination_instance i; alias = e.addr; redirects = redirects_to e redirects } ∷ destination_nats redirects (i + 1) ends

-- the instances of the sources from the one at a place on, behind those of so many destinations
abbrev pub source_nats : ℕ → ℕ → List End → List IpfwNat
source_nats destinations j [] = []
source_nats destinations j (e ∷ ends) =
    record { number = source_instance destinations j; alias = e.addr; redirects = [] } ∷ source_nats destinations (j + 1) ends
