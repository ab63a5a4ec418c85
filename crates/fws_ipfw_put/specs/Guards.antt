-- The rules ahead of the look-up of connections, which drop what is dropped of these.
use Rattle.std.specs.Prelude.{◌≡◌, ◌⊎◌, ℕ, Bool, true, ◌&&◌, ◌||◌, not, nat_eq, Some, List, [], ◌++◌, if◌then◌else◌}
use Rattle.fws_box.specs.Sides.{IsWithin}
use Rattle.fws_box.specs.declared.field.Field.TheVariants as fields
use Rattle.fws_net.specs.declared.site.Site.{Site}
use Rattle.fws_net.specs.Points.{tops_of}
use Rattle.fws_net.specs.Routes.{is_local}
use Rattle.fws_tree.specs.Plain.{Plain, value}
use Rattle.fws_ipfw.specs.declared.config.IpfwRule.{IpfwRule}
use Rattle.fws_ipfw_put_rules.specs.declared.choice.Choice.{Choice}
use Rattle.fws_ipfw_put_rules.specs.declared.choice.Section.{Section}
use Rattle.fws_ipfw_put_rules.specs.Lists.{IsList}
use Rattle.fws_tree_seen.specs.SightLaws.{HasImages}
use Rattle.fws_ipfw_put.specs.Layout.{known_arriving, known_forwarded, known_sent, leaving_rules, passing}
use Rattle.fws_box.specs.Fields.{value_of}

-- the pair of a point arrives and makes no out pass: it is delivered or lost
abbrev pub is_unmet : Site → List ℕ → Bool
is_unmet site x = not (nat_eq (value_of x fields.Entry) 0) && (is_local site (value_of x fields.SentDst) || not site.forwarding)

-- rules of a section that choose for each packet what is made of the value of a tree
pub record IsImageList {L : Type 0} (site : Site) (section : Section) (gives : L → Choice) (t : Plain L) (block : List IpfwRule) : Type 0 where
  pub choices : Plain Choice
  pub made : HasImages (tops_of site) gives t choices
  pub list : IsList site (tops_of site) section choices block

-- nothing is dropped ahead of the look-up
pub record IsNoGuard (site : Site) (packet behind : Plain Bool) (guard : List IpfwRule) : Type 0 where
  pub none : guard ≡ []
  pub packet_true : (x : List ℕ) → IsWithin (tops_of site) x → value packet x ≡ Some true
  pub behind_true : (x : List ℕ) → IsWithin (tops_of site) x → value behind x ≡ Some true

-- packets of connections are dropped as they arrive, as they are forwarded, and as the host sends them
pub record IsFullGuard (site : Site) (packet behind : Plain Bool) (guard : List IpfwRule) : Type 0 where
  pub arriving : List IpfwRule
  pub forwarded : List IpfwRule
  pub sent : List IpfwRule
  pub arriving_list : IsImageList site known_arriving passing packet arriving
  pub forwarded_list : IsImageList site known_forwarded passing behind forwarded
  pub sent_list : IsImageList site known_sent passing behind sent
  pub are : guard ≡ arriving ++ leaving_rules site ++ forwarded ++ sent

abbrev pub IsGuard : Site → Plain Bool → Plain Bool → List IpfwRule → Type 0
IsGuard site packet behind guard = IsNoGuard site packet behind guard ⊎ IsFullGuard site packet behind guard

-- the second tree is true at pairs that arrive and make no out pass, and else as the first one
abbrev pub IsMet : Site → Plain Bool → Plain Bool → Type 0
IsMet site t u = (x : List ℕ) → IsWithin (tops_of site) x → value u x ≡ (if is_unmet site x then Some true else value t x)
