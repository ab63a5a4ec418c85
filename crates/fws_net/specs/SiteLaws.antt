-- What holds of every site that was read.
use Rattle.std.specs.Prelude.{◌≡◌, ℕ, suc, ◌-◌, ◌%◌, ◌^◌, ◌≤◌, Bool, true, ◌&&◌, not, nat_eq, map, Result, Ok, Err, List, [], ◌∷◌, ◌++◌, length, codes, if◌then◌else◌}
use Rattle.std.specs.List.{list_any, list_all}
use Rattle.std.specs.Str.{bytes_eq}
use Rattle.fws_iv.specs.Prefixes.{agree}
use Rattle.fws_num.specs.declared.comments.Comments.TheVariants.{HashLine}
use Rattle.fws_num.specs.declared.lines.Line.{Line}
use Rattle.fws_num.specs.Lines.{read_of}
use Rattle.fws_net.specs.declared.cause.SiteCause.{SiteCause}
use Rattle.fws_net.specs.declared.cause.SiteCause.TheVariants.{Syntax}
use Rattle.fws_net.specs.declared.draft.Form.{Form}
use Rattle.fws_net.specs.declared.draft.Form.TheVariants.{First}
use Rattle.fws_net.specs.declared.site.Address.{Address}
use Rattle.fws_net.specs.declared.site.Iface.{Iface}
use Rattle.fws_net.specs.declared.site.Names.{Names}
use Rattle.fws_net.specs.declared.site.RouteLine.{RouteLine}
use Rattle.fws_net.specs.declared.site.Site.{Site}
use Rattle.fws_net.specs.Routes.{prefixes_of, route_of, IsSound}
use Rattle.fws_net.specs.SiteLines.{form_of, nets_meet, meets_loopback, is_same_net, share_name, address_count}
use Rattle.fws_net.specs.SiteSpelling.{site2_text}
use Rattle.fws_net.specs.SiteText.{site_of}
use Rattle.fws_net.specs.SiteWords.{is_name}

-- every two items of a list pass a test, the earlier one first
abbrev pub all_pairs : {A : Type 0} → (A → A → Bool) → List A → Bool
all_pairs test [] = true
all_pairs test (x ∷ xs) = list_all (test x) xs && all_pairs test xs

-- the addresses of interfaces
abbrev pub addresses_of : List Iface → List Address
addresses_of [] = []
addresses_of (face ∷ faces) = face.addrs ++ addresses_of faces

abbrev pub are_names : Names → Bool
are_names names = is_name names.ipt && is_name names.ipfw && is_name names.pf && is_name names.ios

abbrev pub are_other_texts : List ℕ → List ℕ → Bool
are_other_texts a b = not (bytes_eq a b)

abbrev pub are_other_names : Names → Names → Bool
are_other_names a b = not (share_name a b)

abbrev pub are_other_addresses : Address → Address → Bool
are_other_addresses a b = not (nat_eq a.addr b.addr)

abbrev pub are_other_nets : RouteLine → RouteLine → Bool
are_other_nets a b = not (is_same_net a.net.addr a.net.len b.net.addr b.net.len)

abbrev pub are_apart : Address → Address → Bool
are_apart a b = not (nets_meet a b)

-- the bits of a route past its length are 0
abbrev pub is_cleared : RouteLine → Bool
is_cleared line = nat_eq (line.net.addr % 2 ^ (32 - line.net.len)) 0

-- what holds of a site that was read, in either form
pub record IsOrderly (site : Site) : Type 0 where
  -- numbers of interfaces, lengths and entries within their bounds
  pub sound : IsSound site
  pub few_addresses : address_count site.faces ≤ 1024
  pub few_routes : length site.routes ≤ 4096
  -- names are well spelled, and differ: in the site, where `host` and `lo` are taken, and in each system
  pub names_spelled : list_all (λ face. is_name face.name && are_names face.names) site.faces ≡ true
  pub loopback_spelled : are_names site.lo ≡ true
  pub names_differ : all_pairs are_other_texts (codes "host" ∷ codes "lo" ∷ map (λ face. face.name) site.faces) ≡ true
  pub system_names_differ : all_pairs are_other_names (map (λ face. face.names) site.faces ++ site.lo ∷ []) ≡ true
  -- no two addresses are equal, no two prefixes are the same network, and no network of an address meets 127.0.0.0/8
  pub addresses_differ : all_pairs are_other_addresses (addresses_of site.faces) ≡ true
  pub networks_differ : all_pairs are_other_nets (prefixes_of site) ≡ true
  pub off_loopback : list_all (λ own. not (meets_loopback own)) (addresses_of site.faces) ≡ true
  pub routes_cleared : list_all is_cleared site.routes ≡ true

-- every site that was read is orderly
abbrev pub ReadSitesAreOrderly : Type 0
ReadSitesAreOrderly = (text : List ℕ) (site : Site) → site_of text ≡ Ok site → IsOrderly site

-- some text spells the site
abbrev pub IsRead : Site → Type 0
IsRead site = (text : List ℕ) × (site_of text ≡ Ok site)

-- the text of an orderly site is read as that site
abbrev pub SpelledSitesAreRead : Type 0
SpelledSitesAreRead = (site : Site) → IsOrderly site → site_of (site2_text site) ≡ Ok site

-- the form that the first line with words names
abbrev pub form_of_lines : List Line → Result Form SiteCause
form_of_lines [] = Err Syntax
form_of_lines (line ∷ lines) = form_of line.words

abbrev pub IsFirstForm : List ℕ → Type 0
IsFirstForm text = form_of_lines (read_of HashLine text).lines ≡ Ok First

-- what holds besides of a site in the first form: one address to an interface, no routes, and no two networks meet
pub record IsPlain (site : Site) : Type 0 where
  pub few_faces : length site.faces ≤ 14
  pub one_address : list_all (λ face. nat_eq (length face.addrs) 1) site.faces ≡ true
  pub no_routes : site.routes ≡ []
  pub networks_apart : all_pairs are_apart (addresses_of site.faces) ≡ true

abbrev pub FirstFormsArePlain : Type 0
FirstFormsArePlain = (text : List ℕ) (site : Site) → IsFirstForm text → site_of text ≡ Ok site → IsPlain site

-- the network of an address of the interface holds the address
abbrev pub face_leads : Iface → ℕ → Bool
face_leads face a = list_any (λ own. agree own.len own.addr a) face.addrs

-- the entry of the first interface whose network holds the address, counted from n, else another one
abbrev pub first_leading : ℕ → List Iface → ℕ → ℕ → ℕ
first_leading n [] other a = other
first_leading n (face ∷ faces) other a = if face_leads face a then n else first_leading (suc n) faces other a

-- a site in the first form routes to the interface whose network holds the address, else to the default interface
abbrev pub FirstFormsRouteByNetwork : Type 0
FirstFormsRouteByNetwork = (text : List ℕ) (site : Site) → IsFirstForm text → site_of text ≡ Ok site
    → (a : ℕ) → route_of site a ≡ first_leading 2 site.faces site.fallback a
