-- The lines of an orderly site's addresses are taken one after the other.
use Rattle.std.proofs.Common.{◌≡◌, ℕ, zero, suc, ◌+◌, ◌-◌, ◌^◌, ◌<◌, ◌≤◌, Bool, true, false, ◌&&◌, ◌||◌, not, nat_eq, nat_le, nat_lt, All, Ok, List, [], ◌∷◌, ◌++◌, map, length, codes, refl, ap, sym, ◌∙◌, subst, append_assoc, append-nil, arith}
use Rattle.std.proofs.lemmas.Bool.{and_from, and_parts, or_from, not-true, le-leb, lt-leb, lt-ltb}
use Rattle.std.proofs.lemmas.List.{map-append}
use Rattle.std.proofs.lemmas.List.Elements.{All-head, All-tail}
use Rattle.std.proofs.lemmas.List.Folds.{list_all-append, list_all-map}
use Rattle.std.specs.List.{list_any, list_all}
use Rattle.fws_net.specs.declared.draft.Stage.TheVariants.{Addresses}
use Rattle.fws_net.specs.declared.site.Address.{Address}
use Rattle.fws_net.specs.declared.site.Iface.{Iface}
use Rattle.fws_net.specs.declared.site.RouteLine.{RouteLine}
use Rattle.fws_net.specs.declared.site.Site.{Site}
use Rattle.fws_net.specs.Routes.{has_addr, net_line, nets_from, IsSoundAddress, IsSoundFace}
use Rattle.fws_net.specs.SiteLaws.{all_pairs, addresses_of, are_names, are_other_texts, are_other_nets, IsOrderly}
use Rattle.fws_net.specs.SiteLines.{meets_loopback, is_same_net, is_net_of_address, entry_of, address_added, address_count}
use Rattle.fws_net.specs.SiteSpelling.{address_line, address_lines}
use Rattle.fws_net.specs.SiteWords.{is_name}
use Rattle.fws_net.proofs.SiteInvariant.{is_sound_address}
use Rattle.fws_net.proofs.SiteLists.{any_address, address_count-all}
use Rattle.fws_net.proofs.SiteOrderly.{sound_address}
use Rattle.fws_net.proofs.SplitLists.{all_of, none_earlier, length_split}
use Rattle.fws_net.proofs.SpelledWords.{Laws}
use Rattle.fws_net.proofs.SpelledEntries.{entry_by_place}
use Rattle.fws_net.proofs.SpelledLines.{second, with_addrs, IsFreeAddress, address_taken}
use Rattle.fws_net.proofs.SpelledFaces.{bare, faces_alone, names_bare, addresses_bare}
use Rattle.fws_net.proofs.Taken.{AreTaken, none_taken, next_taken, taken_append}

-- What holds of all addresses

sound_one : (own : Address) → IsSoundAddress own → is_sound_address own ≡ true
sound_one own h =
    and_from (nat_le 1 own.len && nat_le own.len 32) (nat_lt own.addr (2 ^ 32))
    (and_from (nat_le 1 own.len) (nat_le own.len 32) (le-leb 1 own.len h.0) (le-leb own.len 32 h.1)) (lt-ltb own.addr (2 ^ 32) h.2)

sound_owns : (owns : List Address) → All IsSoundAddress owns → list_all is_sound_address owns ≡ true
sound_owns [] h = refl
sound_owns (own ∷ owns) h =
    and_from (is_sound_address own) (list_all is_sound_address owns) (sound_one own (All-head IsSoundAddress own owns h)) (sound_owns owns (All-tail IsSoundAddress own owns h))

sound_all : (faces : List Iface) → All IsSoundFace faces → list_all is_sound_address (addresses_of faces) ≡ true
sound_all [] h = refl
sound_all (face ∷ faces) h =
    list_all-append is_sound_address face.addrs (addresses_of faces)
    ∙ and_from (list_all is_sound_address face.addrs) (list_all is_sound_address (addresses_of faces)) (sound_owns face.addrs (All-head IsSoundFace face faces h).1)
    (sound_all faces (All-tail IsSoundFace face faces h))

-- the address and the length of a network
abbrev own_of : RouteLine → Address
own_of line = record { addr = line.net.addr; len = line.net.len }

owns_of_nets : (n : ℕ) (owns : List Address) → map own_of (map (net_line n) owns) ≡ owns
owns_of_nets n [] = refl
owns_of_nets n (own ∷ owns) = ap (λ list. own ∷ list) (owns_of_nets n owns)

addresses_of_nets : (n : ℕ) (faces : List Iface) → map own_of (nets_from n faces) ≡ addresses_of faces
addresses_of_nets n [] = refl
addresses_of_nets n (face ∷ faces) =
    map-append own_of (map (net_line n) face.addrs) (nets_from (suc n) faces)
    ∙ ap (λ list. list ++ map own_of (nets_from (suc n) faces)) (owns_of_nets n face.addrs)
    ∙ ap (λ list. face.addrs ++ list) (addresses_of_nets (suc n) faces)

pairs_mapped : {A B : Type 0} (f : A → B) (t : B → B → Bool) (xs : List A) → all_pairs t (map f xs) ≡ all_pairs (λ a b. t (f a) (f b)) xs
pairs_mapped f t [] = refl
pairs_mapped f t (x ∷ xs) =
    ap (λ b. b && all_pairs t (map f xs)) (list_all-map (t (f x)) f xs) ∙ ap (λ b. list_all (λ y. t (f x) (f y)) xs && b) (pairs_mapped f t xs)

pairs_front : {A : Type 0} (t : A → A → Bool) (xs ys : List A) → all_pairs t (xs ++ ys) ≡ true → all_pairs t xs ≡ true
pairs_front t [] ys h = refl
pairs_front t (x ∷ xs) ys h =
    let parts = and_parts (list_all (t x) (xs ++ ys)) (all_pairs t (xs ++ ys)) h in
    let front = and_parts (list_all (t x) xs) (list_all (t x) ys) (sym (list_all-append (t x) xs ys) ∙ parts.0) in
    and_from (list_all (t x) xs) (all_pairs t xs) front.0 (pairs_front t xs ys parts.1)

abbrev is_other_net : Address → Address → Bool
is_other_net a b = not (is_same_net a.addr a.len b.addr b.len)

networks_of_addresses : (site : Site) → IsOrderly site → all_pairs is_other_net (addresses_of site.faces) ≡ true
networks_of_addresses site h =
    ap (all_pairs is_other_net) (sym (addresses_of_nets 2 site.faces)) ∙ pairs_mapped own_of is_other_net (nets_from 2 site.faces)
    ∙ pairs_front are_other_nets (nets_from 2 site.faces) site.routes h.networks_differ

pub names_apart : (site : Site) → IsOrderly site → all_pairs are_other_texts (map (λ face. face.name) site.faces) ≡ true
names_apart site h =
    let names = map (λ face. face.name) site.faces in
    let rest = and_parts (list_all (are_other_texts (codes "host")) (codes "lo" ∷ names)) (all_pairs are_other_texts (codes "lo" ∷ names)) h.names_differ in
    (and_parts (list_all (are_other_texts (codes "lo")) names) (all_pairs are_other_texts names) rest.1).1

-- One address

-- an address of which those that were taken stand ahead
free_address : (site : Site) → IsOrderly site → (name : List ℕ) (own : Address) (entry : ℕ) (now : List Iface) (behind : List Address)
    → addresses_of site.faces ≡ addresses_of now ++ own ∷ behind → is_name name ≡ true → entry_of now name ≡ Ok entry → IsFreeAddress own name entry now
free_address site h name own entry now behind e spelled named =
    let whole = addresses_of site.faces in
    let front = addresses_of now in
    let other = any_address (λ earlier. nat_eq earlier.addr own.addr) now ∙ none_earlier (λ a b. nat_eq a.addr b.addr) front own behind whole e h.addresses_differ in
    let other_net = any_address (λ earlier. is_same_net earlier.addr earlier.len own.addr own.len) now
    ∙ none_earlier (λ a b. is_same_net a.addr a.len b.addr b.len) front own behind whole e (networks_of_addresses site h) in
    let off : meets_loopback own ≡ false = not-true (meets_loopback own) (all_of (λ a. not (meets_loopback a)) front own behind whole e h.off_loopback) in
    let inside : length front < length (front ++ own ∷ behind) = length_split front own behind in
    let counted : length whole ≡ length (front ++ own ∷ behind) = ap length e in
    let few : address_count site.faces ≤ 1024 = h.few_addresses in
    let all : address_count site.faces ≡ length whole = address_count-all site.faces in
    let taken : address_count now ≡ length front = address_count-all now in
    record {
      sound = sound_address own (all_of is_sound_address front own behind whole e (sound_all site.faces h.sound.faces_sound));
      spelled = spelled;
      free = or_from (list_any (λ face. has_addr face own.addr) now || is_net_of_address now own.addr own.len) (meets_loopback own)
          (or_from (list_any (λ face. has_addr face own.addr) now) (is_net_of_address now own.addr own.len) other other_net) off;
      named = named;
      room = lt-leb 1024 (address_count now) (omega arith);
    }

-- The addresses of one interface

addresses_append : (front behind : List Iface) → addresses_of (front ++ behind) ≡ addresses_of front ++ addresses_of behind
addresses_append [] behind = refl
addresses_append (face ∷ front) behind =
    ap (λ list. face.addrs ++ list) (addresses_append front behind) ∙ sym (append_assoc face.addrs (addresses_of front) (addresses_of behind))

added_at : (k : ℕ) (own : Address) (front : List Iface) (face : Iface) (behind : List Iface) → k ≡ length front
    → address_added k own (front ++ face ∷ behind) ≡ front ++ with_addrs (face.addrs ++ own ∷ []) face ∷ behind
added_at zero own [] face behind e = refl
added_at (suc k) own [] face behind e = absurd (omega arith)
added_at zero own (other ∷ front) face behind e = absurd (omega arith)
added_at (suc k) own (other ∷ front) face behind e = (let same : k ≡ length front = omega arith in ap (λ list. other ∷ list) (added_at k own front face behind same))

-- the interfaces, of which this one has the addresses that were taken and those behind it have none
abbrev reached : List Iface → List Address → Iface → List Iface → List Iface
reached front seen face later = front ++ with_addrs seen face ∷ map bare later

reached_addresses : (front later : List Iface) (face : Iface) (seen : List Address) → addresses_of (reached front seen face later) ≡ addresses_of front ++ seen
reached_addresses front later face seen =
    addresses_append front (with_addrs seen face ∷ map bare later)
    ∙ ap (λ list. addresses_of front ++ (seen ++ list)) (addresses_bare later) ∙ ap (λ list. addresses_of front ++ list) (append-nil seen)

reached_names : (front later : List Iface) (face : Iface) (seen : List Address)
    → map (λ face. face.name) (reached front seen face later) ≡ map (λ face. face.name) (front ++ face ∷ later)
reached_names front later face seen =
    map-append (λ face. face.name) front (with_addrs seen face ∷ map bare later)
    ∙ ap (λ list. map (λ face. face.name) front ++ face.name ∷ list) (names_bare later) ∙ sym (map-append (λ face. face.name) front (face ∷ later))

all_addresses : (site : Site) (front later : List Iface) (face : Iface) (seen others : List Address) (own : Address) → site.faces ≡ front ++ face ∷ later → face.addrs ≡ seen ++ own ∷ others
    → addresses_of site.faces ≡ addresses_of (reached front seen face later) ++ own ∷ (others ++ addresses_of later)
all_addresses site front later face seen others own e k =
    ap addresses_of e ∙ addresses_append front (face ∷ later)
    ∙ ap (λ list. addresses_of front ++ (list ++ addresses_of later)) k
    ∙ ap (λ list. addresses_of front ++ list) (append_assoc seen (own ∷ others) (addresses_of later))
    ∙ sym (append_assoc (addresses_of front) seen (own ∷ (others ++ addresses_of later)))
    ∙ ap (λ list. list ++ own ∷ (others ++ addresses_of later)) (sym (reached_addresses front later face seen))

owns_taken : Laws → (site : Site) → IsOrderly site → (front later : List Iface) (face : Iface) → site.faces ≡ front ++ face ∷ later → (seen rest : List Address) → face.addrs ≡ seen ++ rest
    → (now : List Iface) → now ≡ reached front seen face later
    → AreTaken (second Addresses (faces_alone now)) (map (address_line face.name) rest) (second Addresses (faces_alone (front ++ face ∷ map bare later)))
owns_taken laws site h front later face e seen [] k now is =
    let all : now ≡ front ++ face ∷ map bare later = is ∙ ap (λ owns. reached front owns face later) (sym (k ∙ append-nil seen)) in
    subst (λ (faces : List Iface). AreTaken (second Addresses (faces_alone now)) [] (second Addresses (faces_alone faces))) all none_taken
owns_taken laws site h front later face e seen (own ∷ others) k now is =
    let owned : addresses_of site.faces ≡ addresses_of now ++ own ∷ (others ++ addresses_of later) =
    all_addresses site front later face seen others own e k ∙ ap (λ faces. addresses_of faces ++ own ∷ (others ++ addresses_of later)) (sym is) in
    let names : map (λ face. face.name) now ≡ map (λ face. face.name) site.faces =
    ap (map (λ face. face.name)) is ∙ reached_names front later face seen ∙ ap (map (λ face. face.name)) (sym e) in
    let split : length front < length (front ++ face ∷ later) = length_split front face later in
    let whole : length site.faces ≡ length (front ++ face ∷ later) = ap length e in
    let named = entry_by_place site.faces front face later now e names (omega arith) (names_apart site h) in
    let spelled = and_parts (is_name face.name) (are_names face.names) (all_of (λ face. is_name face.name && are_names face.names) front face later site.faces e h.names_spelled) in
    let free = free_address site h face.name own (2 + length front) now (others ++ addresses_of later) owned spelled.0 named in
    let place : 2 + length front - 2 ≡ length front = omega arith in
    next_taken (address_taken laws (faces_alone now) face.name own (2 + length front) free)
    (owns_taken laws site h front later face e (seen ++ own ∷ []) others (k ∙ sym (append_assoc seen (own ∷ []) others)) (address_added (2 + length front - 2) own now)
    (ap (address_added (2 + length front - 2) own) is ∙ added_at (2 + length front - 2) own front (with_addrs seen face) (map bare later) place))

-- All addresses

pub addresses_taken : Laws → (site : Site) → IsOrderly site → (front rest : List Iface) → site.faces ≡ front ++ rest → (now : List Iface) → now ≡ front ++ map bare rest
    → AreTaken (second Addresses (faces_alone now)) (address_lines rest) (second Addresses (faces_alone site.faces))
addresses_taken laws site h front [] e now is =
    let all : now ≡ site.faces = is ∙ sym e in
    subst (λ (faces : List Iface). AreTaken (second Addresses (faces_alone now)) [] (second Addresses (faces_alone faces))) all none_taken
addresses_taken laws site h front (face ∷ later) e now is =
    taken_append (second Addresses (faces_alone now)) (second Addresses (faces_alone (front ++ face ∷ map bare later))) (second Addresses (faces_alone site.faces))
    (map (address_line face.name) face.addrs) (address_lines later)
    (owns_taken laws site h front later face e [] face.addrs refl now is)
    (addresses_taken laws site h (front ++ face ∷ []) later (e ∙ sym (append_assoc front (face ∷ []) later)) (front ++ face ∷ map bare later)
    (sym (append_assoc front (face ∷ []) (map bare later))))
