-- Interfaces, addresses and routes of which there is one more.
use Rattle.std.proofs.Common.{◌≡◌, ℕ, suc, ◌+◌, ◌<◌, ◌≤◌, Bool, true, false, ◌&&◌, ◌||◌, not, nat_eq, List, [], ◌∷◌, ◌++◌, map, length, codes, ap, ◌∙◌, arith}
use Rattle.std.proofs.lemmas.Bool.{and_from, or_parts, not_from_false}
use Rattle.std.proofs.lemmas.List.{length_push, map-append}
use Rattle.std.proofs.lemmas.List.Elements.{All-push, All-weaker}
use Rattle.std.specs.List.{list_any, list_all}
use Rattle.std.specs.Str.{bytes_eq}
use Rattle.fws_net.specs.declared.site.Address.{Address}
use Rattle.fws_net.specs.declared.site.Iface.{Iface}
use Rattle.fws_net.specs.declared.site.Names.{Names}
use Rattle.fws_net.specs.declared.site.RouteLine.{RouteLine}
use Rattle.fws_net.specs.Routes.{net_line, IsSoundRoute}
use Rattle.fws_net.specs.SiteLaws.{all_pairs, are_other_texts, are_other_names, are_other_addresses, are_other_nets, is_cleared}
use Rattle.fws_net.specs.SiteLines.{meets_loopback, is_same_net, share_name, name_taken, names_taken}
use Rattle.fws_net.proofs.Inserted.{Inserted, pushed, length_inserted, all_inserted, pairs_inserted}
use Rattle.fws_net.proofs.PairTests.{nat_eq-sym, bytes_eq-sym, share_name-sym, is_same_net-sym, texts_symmetric, names_symmetric, addresses_symmetric, nets_symmetric, none_all, none_all_mapped}
use Rattle.fws_net.proofs.SiteInvariant.{is_sound_address, is_off_loopback, is_spelled, AreNamed, AreAddressed, AreRouted}

-- a negated test by its mirror
pub not_by : (p q : Bool) → p ≡ q → q ≡ false → not p ≡ true
not_by p q e h = not_from_false p (e ∙ h)

-- One more address

-- an address that none of the others is, with a network that none of the prefixes is
pub record IsNewAddress (own : Address) (owns : List Address) (prefixes : List RouteLine) : Type 0 where
  pub sound : is_sound_address own ≡ true
  pub other : list_any (λ earlier. nat_eq earlier.addr own.addr) owns ≡ false
  pub other_net : list_any (λ line. is_same_net line.net.addr line.net.len own.addr own.len) prefixes ≡ false
  pub off_loopback : meets_loopback own ≡ false
  pub room : length owns < 1024

pub addressed_more : (own : Address) (n : ℕ) (owns more : List Address) (prefixes further : List RouteLine) → Inserted own owns more → Inserted (net_line n own) prefixes further
    → IsNewAddress own owns prefixes → AreAddressed owns prefixes → AreAddressed more further
addressed_more own n owns more prefixes further i j new h = record {
  sound = all_inserted is_sound_address own owns more i new.sound h.sound;
  few = (let e : length more ≡ suc (length owns) = length_inserted own owns more i in let room : length owns < 1024 = new.room in let le : length more ≤ 1024 = omega arith in le);
  differ = pairs_inserted are_other_addresses addresses_symmetric own owns more i
      (none_all (λ earlier. nat_eq earlier.addr own.addr) (are_other_addresses own) (λ y e. not_by _ _ (nat_eq-sym own.addr y.addr) e) owns new.other) h.differ;
  networks_differ = pairs_inserted are_other_nets nets_symmetric (net_line n own) prefixes further j
      (none_all (λ line. is_same_net line.net.addr line.net.len own.addr own.len) (are_other_nets (net_line n own))
      (λ y e. not_by _ _ (is_same_net-sym own.addr own.len y.net.addr y.net.len) e) prefixes new.other_net) h.networks_differ;
  off_loopback = all_inserted is_off_loopback own owns more i (not_from_false (meets_loopback own) new.off_loopback) h.off_loopback;
}

-- One more route

pub record IsNewRoute (n : ℕ) (line : RouteLine) (prefixes routes : List RouteLine) : Type 0 where
  pub sound : IsSoundRoute n line
  pub cleared : is_cleared line ≡ true
  pub other_net : list_any (λ earlier. is_same_net earlier.net.addr earlier.net.len line.net.addr line.net.len) prefixes ≡ false
  pub room : length routes < 4096

pub routed_more : (n : ℕ) (line : RouteLine) (prefixes routes : List RouteLine) → IsNewRoute n line prefixes routes → AreRouted n routes → AreRouted n (routes ++ line ∷ [])
routed_more n line prefixes routes new h = record {
  few = (let e : length (routes ++ line ∷ []) ≡ length routes + 1 = length_push routes line in let room : length routes < 4096 = new.room in
      let le : length (routes ++ line ∷ []) ≤ 4096 = omega arith in le);
  sound = All-push (IsSoundRoute n) routes line h.sound new.sound;
  cleared = all_inserted is_cleared line routes (routes ++ line ∷ []) (pushed line routes) new.cleared h.cleared;
}

pub prefixes_more : (n : ℕ) (line : RouteLine) (owns : List Address) (prefixes further routes : List RouteLine) → Inserted line prefixes further → IsNewRoute n line prefixes routes
    → AreAddressed owns prefixes → AreAddressed owns further
prefixes_more n line owns prefixes further routes i new h = record {
  sound = h.sound;
  few = h.few;
  differ = h.differ;
  networks_differ = pairs_inserted are_other_nets nets_symmetric line prefixes further i
      (none_all (λ earlier. is_same_net earlier.net.addr earlier.net.len line.net.addr line.net.len) (are_other_nets line)
      (λ y e. not_by _ _ (is_same_net-sym line.net.addr line.net.len y.net.addr y.net.len) e) prefixes new.other_net) h.networks_differ;
  off_loopback = h.off_loopback;
}

-- routes of fewer interfaces are routes of more
pub routed_wider : (n m : ℕ) (routes : List RouteLine) → n ≤ m → AreRouted n routes → AreRouted m routes
routed_wider n m routes le h = record {
  few = h.few;
  sound = All-weaker (IsSoundRoute n) (IsSoundRoute m) (λ line s. (s.0, s.1, s.2, (let low : line.face ≤ n + 1 = s.3 in let high : line.face ≤ m + 1 = omega arith in high))) routes h.sound;
  cleared = h.cleared;
}

-- One more interface

-- names that none of the interfaces has
pub record IsNewFace (face : Iface) (faces : List Iface) : Type 0 where
  pub spelled : is_spelled face ≡ true
  pub other : (name_taken faces face.name || names_taken faces face.names) ≡ false
  pub room : length faces < 62

other_texts : (name : List ℕ) (faces : List Iface) → name_taken faces name ≡ false
    → list_all (are_other_texts name) (codes "host" ∷ codes "lo" ∷ map (λ face. face.name) faces) ≡ true
other_texts name faces h =
    let parts = or_parts (bytes_eq name (codes "host") || bytes_eq name (codes "lo")) (list_any (λ other. bytes_eq other.name name) faces) h in
    let front = or_parts (bytes_eq name (codes "host")) (bytes_eq name (codes "lo")) parts.0 in
    and_from (are_other_texts name (codes "host")) (are_other_texts name (codes "lo") && list_all (are_other_texts name) (map (λ face. face.name) faces))
    (not_from_false (bytes_eq name (codes "host")) front.0)
    (and_from (are_other_texts name (codes "lo")) (list_all (are_other_texts name) (map (λ face. face.name) faces))
    (not_from_false (bytes_eq name (codes "lo")) front.1)
    (none_all_mapped (λ face. face.name) (λ other. bytes_eq other.name name) (are_other_texts name) (λ y e. not_by _ _ (bytes_eq-sym name y.name) e) faces parts.1))

pub other_systems : (names : Names) (faces : List Iface) → names_taken faces names ≡ false → list_all (are_other_names names) (map (λ face. face.names) faces) ≡ true
other_systems names faces h =
    none_all_mapped (λ face. face.names) (λ other. share_name other.names names) (are_other_names names) (λ y e. not_by _ _ (share_name-sym names y.names) e) faces h

pub named_more : (face : Iface) (faces : List Iface) → IsNewFace face faces → AreNamed faces → AreNamed (faces ++ face ∷ [])
named_more face faces new h =
    let other = or_parts (name_taken faces face.name) (names_taken faces face.names) new.other in
    record {
      few = (let e : length (faces ++ face ∷ []) ≡ length faces + 1 = length_push faces face in let room : length faces < 62 = new.room in
          let le : length (faces ++ face ∷ []) ≤ 62 = omega arith in le);
      spelled = all_inserted is_spelled face faces (faces ++ face ∷ []) (pushed face faces) new.spelled h.spelled;
      differ = ap (λ names. all_pairs are_other_texts (codes "host" ∷ codes "lo" ∷ names)) (map-append (λ face. face.name) faces (face ∷ []))
          ∙ pairs_inserted are_other_texts texts_symmetric face.name (codes "host" ∷ codes "lo" ∷ map (λ face. face.name) faces) _
          (pushed face.name (codes "host" ∷ codes "lo" ∷ map (λ face. face.name) faces)) (other_texts face.name faces other.0) h.differ;
      differ_in_systems = ap (all_pairs are_other_names) (map-append (λ face. face.names) faces (face ∷ []))
          ∙ pairs_inserted are_other_names names_symmetric face.names (map (λ face. face.names) faces) _
          (pushed face.names (map (λ face. face.names) faces)) (other_systems face.names faces other.1) h.differ_in_systems;
    }
