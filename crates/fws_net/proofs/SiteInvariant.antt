-- What holds of a draft between two lines of a site file.
use Rattle.std.proofs.Common.{◌≡◌, ℕ, ◌+◌, ◌^◌, ◌≤◌, Bool, true, ◌&&◌, not, nat_eq, nat_le, nat_lt, List, [], ◌∷◌, ◌++◌, map, length, All, codes}
use Rattle.std.specs.List.{list_all}
use Rattle.fws_net.specs.declared.draft.Draft.{Draft}
use Rattle.fws_net.specs.declared.draft.Form.{Form}
use Rattle.fws_net.specs.declared.draft.Form.TheVariants.{First, Second}
use Rattle.fws_net.specs.declared.draft.Stage.{Stage}
use Rattle.fws_net.specs.declared.draft.Stage.TheVariants.{Header, Interfaces, Addresses, Routes, Default, Forwarding, OnePass, Ended}
use Rattle.fws_net.specs.declared.site.Address.{Address}
use Rattle.fws_net.specs.declared.site.Iface.{Iface}
use Rattle.fws_net.specs.declared.site.Names.{Names}
use Rattle.fws_net.specs.declared.site.RouteLine.{RouteLine}
use Rattle.fws_net.specs.declared.site.Site.{Site}
use Rattle.fws_net.specs.Routes.{nets_from, IsSoundRoute}
use Rattle.fws_net.specs.SiteLaws.{all_pairs, addresses_of, are_names, are_other_texts, are_other_names, are_other_addresses, are_other_nets, are_apart, is_cleared}
use Rattle.fws_net.specs.SiteLines.{are_addressed, meets_loopback}
use Rattle.fws_net.specs.SiteText.{empty_site}
use Rattle.fws_net.specs.SiteWords.{is_name}

abbrev pub is_sound_address : Address → Bool
is_sound_address own = nat_le 1 own.len && nat_le own.len 32 && nat_lt own.addr (2 ^ 32)

abbrev pub is_off_loopback : Address → Bool
is_off_loopback own = not (meets_loopback own)

abbrev pub is_spelled : Iface → Bool
is_spelled face = is_name face.name && are_names face.names

-- the names of interfaces are spelled and differ
pub record AreNamed (faces : List Iface) : Type 0 where
  pub few : length faces ≤ 62
  pub spelled : list_all is_spelled faces ≡ true
  pub differ : all_pairs are_other_texts (codes "host" ∷ codes "lo" ∷ map (λ face. face.name) faces) ≡ true
  pub differ_in_systems : all_pairs are_other_names (map (λ face. face.names) faces) ≡ true

-- the addresses of interfaces are sound and differ, and so do the prefixes
pub record AreAddressed (owns : List Address) (prefixes : List RouteLine) : Type 0 where
  pub sound : list_all is_sound_address owns ≡ true
  pub few : length owns ≤ 1024
  pub differ : all_pairs are_other_addresses owns ≡ true
  pub networks_differ : all_pairs are_other_nets prefixes ≡ true
  pub off_loopback : list_all is_off_loopback owns ≡ true

-- the routes of a site with n interfaces are sound
pub record AreRouted (n : ℕ) (routes : List RouteLine) : Type 0 where
  pub few : length routes ≤ 4096
  pub sound : All (IsSoundRoute n) routes
  pub cleared : list_all is_cleared routes ≡ true

-- what holds of interfaces and routes at every place of the text
pub record IsGrowing (faces : List Iface) (routes : List RouteLine) : Type 0 where
  pub named : AreNamed faces
  pub addressed : AreAddressed (addresses_of faces) (nets_from 2 faces ++ routes)
  pub routed : AreRouted (length faces) routes

-- what holds besides in the first form
pub record IsOneEach (faces : List Iface) (routes : List RouteLine) : Type 0 where
  pub few_faces : length faces ≤ 14
  pub few_addresses : length (addresses_of faces) ≡ length faces
  pub one_address : list_all (λ face. nat_eq (length face.addrs) 1) faces ≡ true
  pub no_routes : routes ≡ []
  pub networks_apart : all_pairs are_apart (addresses_of faces) ≡ true

-- the first form has no lines of addresses and routes
abbrev pub HasPlace : Stage → Type 0
HasPlace Addresses = ⊥
HasPlace Routes = ⊥
HasPlace _ = Unit {0}

abbrev pub IsFormed : Form → Stage → List Iface → List RouteLine → Type 0
IsFormed First stage faces routes = HasPlace stage × IsOneEach faces routes
IsFormed Second stage faces routes = Unit {0}

-- each interface has an address, and the names of loopback are settled
pub record IsNamed (faces : List Iface) (lo : Names) : Type 0 where
  pub addressed : are_addressed faces ≡ true
  pub loopback_spelled : are_names lo ≡ true
  pub system_names_differ : all_pairs are_other_names (map (λ face. face.names) faces ++ lo ∷ []) ≡ true

-- the entry is one of the interfaces'
pub record IsEntryOf (faces : List Iface) (entry : ℕ) : Type 0 where
  pub low : 2 ≤ entry
  pub high : entry ≤ length faces + 1

-- what is settled by the place in the text
abbrev pub IsSettled : Stage → Site → Type 0
IsSettled Header site = site ≡ empty_site
IsSettled Interfaces site = site.routes ≡ []
IsSettled Addresses site = site.routes ≡ []
IsSettled Routes site = Unit {0}
IsSettled Default site = IsNamed site.faces site.lo
IsSettled Forwarding site = IsNamed site.faces site.lo × IsEntryOf site.faces site.fallback
IsSettled OnePass site = IsNamed site.faces site.lo × IsEntryOf site.faces site.fallback
IsSettled Ended site = IsNamed site.faces site.lo × IsEntryOf site.faces site.fallback

pub record IsOrderlyDraft (d : Draft) : Type 0 where
  pub growing : IsGrowing d.site.faces d.site.routes
  pub formed : IsFormed d.form d.stage d.site.faces d.site.routes
  pub settled : IsSettled d.stage d.site
