-- Each line of a site's text is taken as what it spells.
use Rattle.std.proofs.Common.{◌≡◌, ℕ, ◌^◌, ◌<◌, ◌≤◌, Bool, true, false, ◌||◌, nat_le, Ok, Err, List, [], ◌∷◌, ◌++◌, map, length, codes, refl, ◌∙◌, if◌then◌else◌}
use Rattle.fws_num.specs.Words.{plain_word}
use Rattle.fws_net.specs.declared.cause.SiteCause.TheVariants.{Syntax, Overlap, Names as NameTaken, Count}
use Rattle.fws_net.specs.declared.draft.Draft.{Draft}
use Rattle.fws_net.specs.declared.draft.Form.TheVariants.{Second}
use Rattle.fws_net.specs.declared.draft.Stage.{Stage}
use Rattle.fws_net.specs.declared.draft.Stage.TheVariants.{Interfaces, Addresses, Routes, Default, Forwarding, OnePass, Ended}
use Rattle.fws_net.specs.declared.site.Address.{Address}
use Rattle.fws_net.specs.declared.site.Iface.{Iface}
use Rattle.fws_net.specs.declared.site.Names.{Names}
use Rattle.fws_net.specs.declared.site.RouteLine.{RouteLine}
use Rattle.fws_net.specs.declared.site.Site.{Site}
use Rattle.fws_net.specs.Routes.{IsSoundAddress}
use Rattle.fws_net.specs.SiteLaws.{are_names, is_cleared}
use Rattle.fws_net.specs.SiteLines.{with_stage, with_face, with_address, with_route, name_taken, names_taken, entry_of, face_alone, face_admitted, interface_step, address_overlaps, address_count, address_admitted, address_behind, route_overlaps, route_admitted, route_behind, are_addressed, loopback_behind, loopback_admitted, default_behind, words_step}
use Rattle.fws_net.specs.SiteSpelling.{net_word, side_word, face_line, address_line, route_line, name_words, name_at}
use Rattle.fws_net.specs.SiteText.{empty_site, fresh_draft}
use Rattle.fws_net.specs.SiteWords.{is_name, name_of, address_of, net_of}
use Rattle.fws_net.proofs.SpelledWords.{Laws, then_ok, if_true, if_false, name_read, names_read, names_and_side_read, address_read, net_read}
use Rattle.fws_net.proofs.Taken.{IsTaken}

-- a draft of the second form
abbrev pub second : Stage → Site → Draft
second stage site = record { stage = stage; form = Second; site = site }

pub header_taken : IsTaken (codes "site" ∷ codes "2" ∷ []) fresh_draft (second Interfaces empty_site)
header_taken n = refl

-- Interfaces

abbrev pub with_addrs : List Address → Iface → Iface
with_addrs addrs face = record face { addrs = addrs }

face_read : (n : ℕ) (face : Iface) → is_name face.name ≡ true → are_names face.names ≡ true
    → face_alone (plain_word n face.name)
    (plain_word n (codes "ipt=" ++ face.names.ipt) ∷ plain_word n (codes "ipfw=" ++ face.names.ipfw) ∷ plain_word n (codes "pf=" ++ face.names.pf)
    ∷ plain_word n (codes "ios=" ++ face.names.ios) ∷ plain_word n (side_word face.side) ∷ [])
    ≡ Ok (with_addrs [] face)
unfolding face_alone
face_read n face h k =
    then_ok (name_of face.name) _ face.name _ (name_read face.name h)
    (then_ok _ _ (face.names, face.side) _ (names_and_side_read n face.names face.side k) refl)

-- an interface whose names are free, and for which there is room
pub record IsFreeFace (face : Iface) (seen : List Iface) : Type 0 where
  pub name : is_name face.name ≡ true
  pub names : are_names face.names ≡ true
  pub free : (name_taken seen face.name || names_taken seen face.names) ≡ false
  pub room : nat_le 62 (length seen) ≡ false

face_let_in : (seen : List Iface) (face : Iface) → IsFreeFace face seen → face_admitted Second seen (with_addrs [] face) ≡ Ok (with_addrs [] face)
face_let_in seen face h =
    if_false (name_taken seen face.name || names_taken seen face.names) (Err NameTaken) _ _ h.free
    (if_false (nat_le 62 (length seen)) (Err Count) (Ok (with_addrs [] face)) _ h.room refl)

pub face_taken : (site : Site) (face : Iface) → IsFreeFace face site.faces
    → IsTaken (face_line face) (second Interfaces site) (with_face (with_addrs [] face) (second Interfaces site))
unfolding interface_step
face_taken site face h n =
    then_ok (face_alone (plain_word n face.name)
    (plain_word n (codes "ipt=" ++ face.names.ipt) ∷ plain_word n (codes "ipfw=" ++ face.names.ipfw) ∷ plain_word n (codes "pf=" ++ face.names.pf)
    ∷ plain_word n (codes "ios=" ++ face.names.ios) ∷ plain_word n (side_word face.side) ∷ [])) _ (with_addrs [] face) _ (face_read n face h.name h.names)
    (then_ok (face_admitted Second site.faces (with_addrs [] face)) _ (with_addrs [] face) _ (face_let_in site.faces face h) refl)

-- Addresses

-- a sound address that is free, of the interface with this entry
pub record IsFreeAddress (own : Address) (name : List ℕ) (entry : ℕ) (faces : List Iface) : Type 0 where
  pub sound : IsSoundAddress own
  pub spelled : is_name name ≡ true
  pub free : address_overlaps faces own ≡ false
  pub named : entry_of faces name ≡ Ok entry
  pub room : nat_le 1024 (address_count faces) ≡ false

address_behind_taken : Laws → (n : ℕ) (d : Draft) (name : List ℕ) (own : Address) (entry : ℕ) → IsFreeAddress own name entry d.site.faces
    → address_behind (plain_word n name) (plain_word n (net_word own.addr own.len)) d ≡ Ok (with_address entry own d)
unfolding address_behind
address_behind_taken laws n d name own entry h =
    then_ok (name_of name) _ name _ (name_read name h.spelled)
    (then_ok (address_of (net_word own.addr own.len)) _ own _ (address_read laws own h.sound)
    (then_ok (address_admitted d.site.faces name own) _ entry _
    (if_false (address_overlaps d.site.faces own) (Err Overlap) _ _ h.free
    (then_ok (entry_of d.site.faces name) _ entry _ h.named
    (if_false (nat_le 1024 (address_count d.site.faces)) (Err Count) (Ok entry) _ h.room refl)))
    refl))

pub address_taken : Laws → (site : Site) (name : List ℕ) (own : Address) (entry : ℕ) → IsFreeAddress own name entry site.faces
    → IsTaken (address_line name own) (second Addresses site) (with_address entry own (second Addresses site))
address_taken laws site name own entry h n = address_behind_taken laws n (second Addresses site) name own entry h

-- behind the interfaces an address is taken as behind addresses
pub first_address : (site : Site) (name : List ℕ) (own : Address) → nat_le 1 (length site.faces) ≡ true
    → (n : ℕ) → words_step (map (plain_word n) (address_line name own)) (second Interfaces site) ≡ words_step (map (plain_word n) (address_line name own)) (second Addresses site)
unfolding address_behind
first_address site name own some n =
    if_true (nat_le 1 (length site.faces)) (address_behind (plain_word n name) (plain_word n (net_word own.addr own.len)) (second Interfaces site)) (Err Syntax) some

-- Routes

-- a sound route that is free, to an interface
pub record IsFreeRoute (line : RouteLine) (name : List ℕ) (site : Site) : Type 0 where
  pub len_in : line.net.len ≤ 32
  pub addr_in : line.net.addr < 2 ^ 32
  pub cleared : is_cleared line ≡ true
  pub spelled : is_name name ≡ true
  pub free : route_overlaps site line.net ≡ false
  pub named : entry_of site.faces name ≡ Ok line.face
  pub room : nat_le 4096 (length site.routes) ≡ false

route_behind_taken : Laws → (n : ℕ) (d : Draft) (line : RouteLine) (name : List ℕ) → IsFreeRoute line name d.site
    → route_behind (plain_word n (net_word line.net.addr line.net.len)) (plain_word n name) d ≡ Ok (with_route line d)
unfolding route_behind
route_behind_taken laws n d line name h =
    then_ok (net_of (net_word line.net.addr line.net.len)) _ line.net _ (net_read laws line.net h.len_in h.addr_in h.cleared)
    (then_ok (name_of name) _ name _ (name_read name h.spelled)
    (then_ok (route_admitted d.site line.net name) _ line.face _
    (if_false (route_overlaps d.site line.net) (Err Overlap) _ _ h.free
    (then_ok (entry_of d.site.faces name) _ line.face _ h.named
    (if_false (nat_le 4096 (length d.site.routes)) (Err Count) (Ok line.face) _ h.room refl)))
    refl))

pub route_taken : Laws → (site : Site) (line : RouteLine) → IsFreeRoute line (name_at site.faces line.face) site
    → IsTaken (route_line site.faces line) (second Routes site) (with_route line (second Routes site))
route_taken laws site line h n = route_behind_taken laws n (second Routes site) line (name_at site.faces line.face) h

-- behind the addresses a route is taken as behind routes
pub first_route : (faces : List Iface) (site : Site) (line : RouteLine)
    → (n : ℕ) → words_step (map (plain_word n) (route_line faces line)) (second Addresses site) ≡ words_step (map (plain_word n) (route_line faces line)) (second Routes site)
unfolding route_behind
first_route faces site line n = refl

-- The last lines

pub record IsFreeLoopback (names : Names) (faces : List Iface) : Type 0 where
  pub spelled : are_names names ≡ true
  pub addressed : are_addressed faces ≡ true
  pub free : names_taken faces names ≡ false

loopback_behind_taken : (n : ℕ) (d : Draft) (names : Names) → IsFreeLoopback names d.site.faces
    → loopback_behind (plain_word n (codes "ipt=" ++ names.ipt)) (plain_word n (codes "ipfw=" ++ names.ipfw)) (plain_word n (codes "pf=" ++ names.pf)) (plain_word n (codes "ios=" ++ names.ios)) d
    ≡ Ok (with_stage Default (record d.site { lo = names }) d)
unfolding loopback_behind
loopback_behind_taken n d names h =
    then_ok _ _ names _ (names_read n names h.spelled)
    (then_ok (loopback_admitted d.site.faces names) _ names _ (if_false (names_taken d.site.faces names) (Err NameTaken) (Ok names) _ h.free refl) refl)

pub loopback_taken : (site : Site) (names : Names) → IsFreeLoopback names site.faces
    → IsTaken (codes "loopback" ∷ name_words names) (second Routes site) (second Default (record site { lo = names }))
loopback_taken site names h n =
    if_true (are_addressed site.faces) (loopback_behind (plain_word n (codes "ipt=" ++ names.ipt)) (plain_word n (codes "ipfw=" ++ names.ipfw)) (plain_word n (codes "pf=" ++ names.pf))
    (plain_word n (codes "ios=" ++ names.ios)) (second Routes site)) (Err Syntax) h.addressed
    ∙ loopback_behind_taken n (second Routes site) names h

pub first_loopback : (site : Site) (names : Names)
    → (n : ℕ) → words_step (map (plain_word n) (codes "loopback" ∷ name_words names)) (second Addresses site) ≡ words_step (map (plain_word n) (codes "loopback" ∷ name_words names)) (second Routes site)
unfolding loopback_behind
first_loopback site names n = refl

default_behind_taken : (n : ℕ) (d : Draft) (name : List ℕ) (entry : ℕ) → is_name name ≡ true → entry_of d.site.faces name ≡ Ok entry
    → default_behind (plain_word n name) d ≡ Ok (with_stage Forwarding (record d.site { fallback = entry }) d)
unfolding default_behind
default_behind_taken n d name entry h named =
    then_ok (name_of name) _ name _ (name_read name h) (then_ok (entry_of d.site.faces name) _ entry _ named refl)

pub default_taken : (site : Site) (name : List ℕ) (entry : ℕ) → is_name name ≡ true → entry_of site.faces name ≡ Ok entry
    → IsTaken (codes "default" ∷ name ∷ []) (second Default site) (second Forwarding (record site { fallback = entry }))
default_taken site name entry h named n = default_behind_taken n (second Default site) name entry h named

pub forwarding_taken : (site : Site) (chosen : Bool)
    → IsTaken (codes "forwarding" ∷ (if chosen then codes "yes" else codes "no") ∷ []) (second Forwarding site) (second OnePass (record site { forwarding = chosen }))
forwarding_taken site true n = refl
forwarding_taken site false n = refl

pub one_pass_taken : (site : Site) (chosen : Bool)
    → IsTaken (codes "one_pass" ∷ (if chosen then codes "1" else codes "0") ∷ []) (second OnePass site) (second Ended (record site { one_pass = chosen }))
one_pass_taken site true n = refl
one_pass_taken site false n = refl
