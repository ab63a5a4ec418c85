-- The rules of a policy, as they are put one behind the other.
use Rattle.std.specs.Prelude.{◌≡◌, ◌≤◌, List, ◌++◌, length, All, Bool}
use Rattle.std.specs.List.{IsDistinct}
use Rattle.fws_net.specs.declared.outcome.End.{End}
use Rattle.fws_net.specs.declared.outcome.Outcome.{Outcome}
use Rattle.fws_net.specs.declared.site.Site.{Site}
use Rattle.fws_net.specs.Points.{tops_of}
use Rattle.fws_place.specs.declared.redirect.Redirect.{Redirect}
use Rattle.fws_tree.specs.Plain.{Plain}
use Rattle.fws_ipfw.specs.declared.config.IpfwNat.{IpfwNat}
use Rattle.fws_ipfw.specs.declared.config.IpfwRule.{IpfwRule}
use Rattle.fws_ipfw_put.specs.Ends.{FitsEnd, HasSources, HaveDestinations}
use Rattle.fws_ipfw_put.specs.Guards.{IsGuard, IsImageList, IsMet}
use Rattle.fws_ipfw_put.specs.Instances.{destination_nats, source_nats}
use Rattle.fws_ipfw_put.specs.Layout.{arriving_choice, destination_rules, lookup_rules, new_arriving, new_sent, same_end, sent_choice, source_rules}
use Rattle.fws_tree.specs.declared.tables.Tables.{Tables}
use Rattle.fws_place.specs.declared.seeing.Views.{Views}

-- the rules by their parts
abbrev pub laid : List IpfwRule → List IpfwRule → List IpfwRule → List End → List End → List IpfwRule
laid guard arriving sent destinations sources =
    guard ++ lookup_rules ++ arriving ++ sent ++ destination_rules 0 destinations ++ source_rules (length destinations) 0 sources

-- the rules of a policy, by what is told of its packets
pub record AreRules (site : Site) (fresh : Plain Outcome) (packet behind : Plain Bool) (destinations sources : List End) (rules : List IpfwRule) : Type 0 where
  pub guard : List IpfwRule
  pub arriving : List IpfwRule
  pub sent : List IpfwRule
  pub guarded : IsGuard site packet behind guard
  pub arriving_list : IsImageList site new_arriving (arriving_choice destinations sources) fresh arriving
  pub sent_list : IsImageList site new_sent (sent_choice sources) fresh sent
  pub are : rules ≡ laid guard arriving sent destinations sources

-- the instances of a policy
abbrev pub nats_for : List Redirect → List End → List End → List IpfwNat
nats_for redirects destinations sources = destination_nats redirects 0 destinations ++ source_nats (length destinations) 0 sources

-- the ends that a policy writes
pub record AreEnds (site : Site) (fresh : Plain Outcome) (redirects : List Redirect) (destinations sources : List End) : Type 0 where
  pub have_destinations : HaveDestinations destinations redirects
  pub has_sources : HasSources (tops_of site) fresh sources
  pub few_destinations : length destinations ≤ 4096
  pub few_sources : length sources ≤ 60000
  pub fit : All (λ r. FitsEnd r.local) redirects
  pub different : IsDistinct same_end destinations

-- the rules for new packets that arrive
abbrev pub AreArriving : Site → List End → List End → Plain Outcome → List IpfwRule → Type 0
AreArriving site destinations sources fresh block = IsImageList site new_arriving (arriving_choice destinations sources) fresh block

-- the rules by what views tell of established packets, where pairs that make no out pass are met too
abbrev pub AreRulesBy : Site → Tables → Views → List End → List End → List IpfwRule → Type 0
AreRulesBy site tables views destinations sources rules = (behind : Plain Bool) × IsMet site views.behind.1 behind
    × AreRules site tables.fresh.1 views.packet.1 behind destinations sources rules
