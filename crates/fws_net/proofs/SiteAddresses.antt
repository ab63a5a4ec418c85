-- Lines of addresses and routes keep what holds of a draft.
use Rattle.std.proofs.Common.{◌≡◌, ℕ, suc, ◌+◌, ◌-◌, ◌<◌, ◌≤◌, true, false, ◌||◌, nat_eq, nat_le, Some, Ok, Err, List, [], ◌∷◌, ◌++◌, length, codes, IfOk, IfSome, ap, sym, subst, ◌∙◌, arith}
use Rattle.std.proofs.lemmas.Bool.{or_parts, leb-false}
use Rattle.std.specs.List.{list_any}
use Rattle.std.specs.Str.{bytes_eq}
use Rattle.fws_num.specs.declared.prefix.Prefix.{Prefix}
use Rattle.fws_num.specs.declared.word.Word.{Word}
use Rattle.fws_num.specs.Numbers.{QuadsAreDotted}
use Rattle.fws_net.specs.declared.cause.SiteCause.TheVariants.{Overlap, Names as NameTaken, Count}
use Rattle.fws_net.specs.declared.draft.Draft.{Draft}
use Rattle.fws_net.specs.declared.draft.Form.{Form}
use Rattle.fws_net.specs.declared.draft.Form.TheVariants.{Second}
use Rattle.fws_net.specs.declared.draft.Stage.{Stage}
use Rattle.fws_net.specs.declared.draft.Stage.TheVariants.{Addresses, Routes}
use Rattle.fws_net.specs.declared.site.Address.{Address}
use Rattle.fws_net.specs.declared.site.Iface.{Iface}
use Rattle.fws_net.specs.declared.site.RouteLine.{RouteLine}
use Rattle.fws_net.specs.declared.site.Site.{Site}
use Rattle.fws_net.specs.Routes.{net_line, nets_from, has_addr}
use Rattle.fws_net.specs.SiteWords.{name_of, address_of, net_of}
use Rattle.fws_net.specs.SiteLaws.{all_pairs, addresses_of, are_other_texts, are_other_names}
use Rattle.fws_net.specs.SiteLines.{meets_loopback, is_net_of_address, is_net_of_route, entry_from, entry_of, address_added, address_overlaps, address_count, address_admitted, address_behind, address_step, route_overlaps, route_admitted, route_behind, route_step}
use Rattle.fws_net.proofs.Results.{then_known, either_holds, ok_or_holds, either_some, some_weaker}
use Rattle.fws_net.proofs.Inserted.{pushed, in_front, in_back}
use Rattle.fws_net.proofs.SiteInvariant.{is_sound_address, AreNamed, IsGrowing, IsFormed, IsEntryOf, IsOrderlyDraft}
use Rattle.fws_net.proofs.SiteLists.{any_address, no_prefix, address_count-all, address_inserted, net_inserted, length_added, names_added, system_names_added, spelled_added}
use Rattle.fws_net.proofs.SiteGrowth.{IsNewAddress, IsNewRoute, addressed_more, routed_more, prefixes_more, routed_wider}
use Rattle.fws_net.proofs.SiteWordsHold.{IsName, IsSoundRead, IsReadNet, name_holds, address_holds, net_holds}

-- The entry of a named interface

IsFrom : ℕ → ℕ → ℕ → Type 0
IsFrom n count entry = (n ≤ entry) × (entry < n + count)

entry_from_holds : (n : ℕ) (faces : List Iface) (name : List ℕ) → IfSome (entry_from n faces name) (IsFrom n (length faces))
unfolding IsFrom
entry_from_holds n [] name = tt
entry_from_holds n (face ∷ faces) name =
    either_some (IsFrom n (suc (length faces))) (bytes_eq face.name name) (Some n) (entry_from (suc n) faces name) (λ e. (omega arith, omega arith))
    (λ e. some_weaker (IsFrom (suc n) (length faces)) (IsFrom n (suc (length faces))) (entry_from (suc n) faces name) (λ m h. (omega (arith, h.0), omega (arith, h.1)))
    (entry_from_holds (suc n) faces name))

pub entry_holds : (faces : List Iface) (name : List ℕ) → IfOk (entry_of faces name) (IsEntryOf faces)
unfolding IsFrom
entry_holds faces name =
    ok_or_holds (IsEntryOf faces) (entry_from 2 faces name) NameTaken
    (some_weaker (IsFrom 2 (length faces)) (IsEntryOf faces) (entry_from 2 faces name) (λ m h. record { low = h.0; high = omega (arith, h.1) }) (entry_from_holds 2 faces name))

-- Addresses

-- a sound address that is admitted to the interface with this entry
pub record IsAddressFor (faces : List Iface) (own : Address) (entry : ℕ) : Type 0 where
  pub inside : IsEntryOf faces entry
  pub free : address_overlaps faces own ≡ false
  pub room : address_count faces < 1024

address_admitted_holds : (faces : List Iface) (name : List ℕ) (own : Address) → IfOk (address_admitted faces name own) (IsAddressFor faces own)
address_admitted_holds faces name own =
    either_holds (IsAddressFor faces own) (address_overlaps faces own) (Err Overlap) _ (λ e. tt) (λ free.
    then_known (IsEntryOf faces) (IsAddressFor faces own) (entry_of faces name) _ (entry_holds faces name) (λ entry inside.
    either_holds (IsAddressFor faces own) (nat_le 1024 (address_count faces)) (Err Count) (Ok entry) (λ e. tt) (λ room.
    record { inside = inside; free = free; room = leb-false 1024 (address_count faces) room })))

new_address : (faces : List Iface) (routes : List RouteLine) (own : Address) (entry : ℕ) → routes ≡ [] → is_sound_address own ≡ true → IsAddressFor faces own entry
    → IsNewAddress own (addresses_of faces) (nets_from 2 faces ++ routes)
new_address faces routes own entry none sound h =
    let parts = or_parts (list_any (λ face. has_addr face own.addr) faces || is_net_of_address faces own.addr own.len) (meets_loopback own) h.free in
    let front = or_parts (list_any (λ face. has_addr face own.addr) faces) (is_net_of_address faces own.addr own.len) parts.0 in
    let counted : address_count faces ≡ length (addresses_of faces) = address_count-all faces in
    let room : address_count faces < 1024 = h.room in
    record {
      sound = sound;
      other = sym (any_address (λ earlier. nat_eq earlier.addr own.addr) faces) ∙ front.0;
      other_net = no_prefix own.addr own.len faces routes front.1 (ap (λ list. is_net_of_route list own.addr own.len) none);
      off_loopback = parts.1;
      room = omega arith;
    }

named_added : (k : ℕ) (own : Address) (faces : List Iface) → AreNamed faces → AreNamed (address_added k own faces)
named_added k own faces h = record {
  few = (let e : length (address_added k own faces) ≡ length faces = length_added k own faces in let few : length faces ≤ 62 = h.few in
      let le : length (address_added k own faces) ≤ 62 = omega arith in le);
  spelled = spelled_added k own faces ∙ h.spelled;
  differ = ap (λ names. all_pairs are_other_texts (codes "host" ∷ codes "lo" ∷ names)) (names_added k own faces) ∙ h.differ;
  differ_in_systems = ap (all_pairs are_other_names) (system_names_added k own faces) ∙ h.differ_in_systems;
}

grows_by_address : (faces : List Iface) (routes : List RouteLine) (own : Address) (entry : ℕ) → routes ≡ [] → is_sound_address own ≡ true → IsAddressFor faces own entry
    → IsGrowing faces routes → IsGrowing (address_added (entry - 2) own faces) routes
grows_by_address faces routes own entry none sound admitted h =
    let k = entry - 2 in
    let low : 2 ≤ entry = admitted.inside.low in
    let high : entry ≤ length faces + 1 = admitted.inside.high in
    let inside : entry - 2 < length faces = omega arith in
    let added = address_added k own faces in
    let nets = net_inserted 2 k own faces inside in
    let e : length added ≡ length faces = length_added k own faces in
    record {
      named = named_added k own faces h.named;
      addressed = addressed_more own nets.0 (addresses_of faces) (addresses_of added) (nets_from 2 faces ++ routes) (nets_from 2 added ++ routes)
          (address_inserted k own faces inside) (in_back (net_line nets.0 own) (nets_from 2 faces) (nets_from 2 added) routes nets.1)
          (new_address faces routes own entry none sound admitted) h.addressed;
      routed = routed_wider (length faces) (length added) routes (omega arith) h.routed;
    }

-- the second form has no bounds of its own
second_formed : (form : Form) (stage : Stage) (faces : List Iface) (routes : List RouteLine) → form ≡ Second → IsFormed form stage faces routes
second_formed form stage faces routes e = subst (λ (f : Form). IsFormed f stage faces routes) (sym e) tt

pub address_behind_kept : QuadsAreDotted → (name net : Word) (d : Draft) → d.form ≡ Second → d.site.routes ≡ [] → IsOrderlyDraft d → IfOk (address_behind name net d) IsOrderlyDraft
unfolding address_behind
address_behind_kept q name net d second none h =
    then_known IsName IsOrderlyDraft (name_of name.text) _ (name_holds name.text) (λ text named.
    then_known IsSoundRead IsOrderlyDraft (address_of net.text) _ (address_holds q net.text) (λ own sound.
    then_known (IsAddressFor d.site.faces own) IsOrderlyDraft (address_admitted d.site.faces text own) _ (address_admitted_holds d.site.faces text own) (λ entry admitted.
    record {
      growing = grows_by_address d.site.faces d.site.routes own entry none sound admitted h.growing;
      formed = second_formed d.form Addresses (address_added (entry - 2) own d.site.faces) d.site.routes second;
      settled = none;
    })))

pub address_kept : QuadsAreDotted → (ws : List Word) (d : Draft) → d.form ≡ Second → d.site.routes ≡ [] → IsOrderlyDraft d → IfOk (address_step ws d) IsOrderlyDraft
address_kept q (name ∷ net ∷ []) d second none h = address_behind_kept q name net d second none h
address_kept q _ d second none h = tt

-- Routes

pub record IsRouteFor (site : Site) (net : Prefix) (entry : ℕ) : Type 0 where
  pub inside : IsEntryOf site.faces entry
  pub free : route_overlaps site net ≡ false
  pub room : length site.routes < 4096

route_admitted_holds : (site : Site) (net : Prefix) (name : List ℕ) → IfOk (route_admitted site net name) (IsRouteFor site net)
route_admitted_holds site net name =
    either_holds (IsRouteFor site net) (route_overlaps site net) (Err Overlap) _ (λ e. tt) (λ free.
    then_known (IsEntryOf site.faces) (IsRouteFor site net) (entry_of site.faces name) _ (entry_holds site.faces name) (λ entry inside.
    either_holds (IsRouteFor site net) (nat_le 4096 (length site.routes)) (Err Count) (Ok entry) (λ e. tt) (λ room.
    record { inside = inside; free = free; room = leb-false 4096 (length site.routes) room })))

new_route : (site : Site) (net : Prefix) (entry : ℕ) → IsReadNet net → IsRouteFor site net entry
    → IsNewRoute (length site.faces) (record { net = net; face = entry }) (nets_from 2 site.faces ++ site.routes) site.routes
new_route site net entry read h =
    let parts = or_parts (is_net_of_address site.faces net.addr net.len) (is_net_of_route site.routes net.addr net.len) h.free in
    record {
      sound = (read.len_in, read.addr_in, h.inside.low, h.inside.high);
      cleared = read.cleared;
      other_net = no_prefix net.addr net.len site.faces site.routes parts.0 parts.1;
      room = h.room;
    }

grows_by_route : (site : Site) (net : Prefix) (entry : ℕ) → IsReadNet net → IsRouteFor site net entry → IsGrowing site.faces site.routes
    → IsGrowing site.faces (site.routes ++ record { net = net; face = entry } ∷ [])
grows_by_route site net entry read admitted h =
    let line : RouteLine = record { net = net; face = entry } in
    let nets = nets_from 2 site.faces in
    let new = new_route site net entry read admitted in
    record {
      named = h.named;
      addressed = prefixes_more (length site.faces) line (addresses_of site.faces) (nets ++ site.routes) (nets ++ (site.routes ++ line ∷ [])) site.routes
          (in_front line nets site.routes (site.routes ++ line ∷ []) (pushed line site.routes)) new h.addressed;
      routed = routed_more (length site.faces) line (nets ++ site.routes) site.routes new h.routed;
    }

pub route_behind_kept : QuadsAreDotted → (word name : Word) (d : Draft) → d.form ≡ Second → IsOrderlyDraft d → IfOk (route_behind word name d) IsOrderlyDraft
unfolding route_behind
route_behind_kept q word name d second h =
    then_known IsReadNet IsOrderlyDraft (net_of word.text) _ (net_holds q word.text) (λ net read.
    then_known IsName IsOrderlyDraft (name_of name.text) _ (name_holds name.text) (λ text named.
    then_known (IsRouteFor d.site net) IsOrderlyDraft (route_admitted d.site net text) _ (route_admitted_holds d.site net text) (λ entry admitted.
    record {
      growing = grows_by_route d.site net entry read admitted h.growing;
      formed = second_formed d.form Routes d.site.faces (d.site.routes ++ record { net = net; face = entry } ∷ []) second;
      settled = tt;
    })))

pub route_kept : QuadsAreDotted → (ws : List Word) (d : Draft) → d.form ≡ Second → IsOrderlyDraft d → IfOk (route_step ws d) IsOrderlyDraft
route_kept q (net ∷ name ∷ []) d second h = route_behind_kept q net name d second h
route_kept q _ d second h = tt
