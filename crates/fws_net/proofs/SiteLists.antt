-- The addresses and prefixes of interfaces, of which there is one more or of which one has an address more.
use Rattle.std.proofs.Common.{◌≡◌, ℕ, zero, suc, ◌+◌, ◌<◌, Bool, false, ◌&&◌, ◌||◌, List, [], ◌∷◌, ◌++◌, map, length, refl, ap, ap₂, sym, ◌∙◌, append_assoc, append-nil, length-append, arith}
use Rattle.std.proofs.lemmas.Bool.{or_from}
use Rattle.std.proofs.lemmas.List.Folds.{list_any-append}
use Rattle.std.proofs.lemmas.List.Sums.{sum_by-cons}
use Rattle.std.specs.List.{list_any, list_all}
use Rattle.fws_net.specs.declared.site.Address.{Address}
use Rattle.fws_net.specs.declared.site.Iface.{Iface}
use Rattle.fws_net.specs.declared.site.RouteLine.{RouteLine}
use Rattle.fws_net.specs.Routes.{net_line, nets_from}
use Rattle.fws_net.specs.SiteLines.{address_added, address_count, is_same_net, is_net_of_address, is_net_of_route}
use Rattle.fws_net.specs.SiteLaws.{addresses_of, are_names}
use Rattle.fws_net.specs.SiteWords.{is_name}
use Rattle.fws_net.proofs.Inserted.{Inserted, here, there, pushed, in_front, in_back}

-- What the interfaces' addresses are asked one by one

pub any_address : (t : Address → Bool) (faces : List Iface) → list_any (λ face. list_any t face.addrs) faces ≡ list_any t (addresses_of faces)
any_address t [] = refl
any_address t (face ∷ faces) = ap (λ b. list_any t face.addrs || b) (any_address t faces) ∙ sym (list_any-append t face.addrs (addresses_of faces))

-- a network is looked up among those of the addresses
net_among : (a n m : ℕ) (own : List Address) → list_any (λ line. is_same_net line.net.addr line.net.len a n) (map (net_line m) own)
    ≡ list_any (λ own. is_same_net own.addr own.len a n) own
net_among a n m [] = refl
net_among a n m (own ∷ owns) = ap (λ b. is_same_net own.addr own.len a n || b) (net_among a n m owns)

pub is_net-among : (a n m : ℕ) (faces : List Iface) → list_any (λ line. is_same_net line.net.addr line.net.len a n) (nets_from m faces) ≡ is_net_of_address faces a n
is_net-among a n m [] = refl
is_net-among a n m (face ∷ faces) =
    list_any-append (λ line. is_same_net line.net.addr line.net.len a n) (map (net_line m) face.addrs) (nets_from (suc m) faces)
    ∙ ap₂ (λ (x : Bool) (y : Bool). x || y) (net_among a n m face.addrs) (is_net-among a n (suc m) faces)

-- a network is looked up among all prefixes
pub is_prefix-among : (a n : ℕ) (faces : List Iface) (routes : List RouteLine)
    → list_any (λ line. is_same_net line.net.addr line.net.len a n) (nets_from 2 faces ++ routes) ≡ (is_net_of_address faces a n || is_net_of_route routes a n)
is_prefix-among a n faces routes =
    list_any-append (λ line. is_same_net line.net.addr line.net.len a n) (nets_from 2 faces) routes
    ∙ ap (λ b. b || is_net_of_route routes a n) (is_net-among a n 2 faces)

pub no_prefix : (a n : ℕ) (faces : List Iface) (routes : List RouteLine) → is_net_of_address faces a n ≡ false → is_net_of_route routes a n ≡ false
    → list_any (λ line. is_same_net line.net.addr line.net.len a n) (nets_from 2 faces ++ routes) ≡ false
no_prefix a n faces routes h k = is_prefix-among a n faces routes ∙ or_from (is_net_of_address faces a n) (is_net_of_route routes a n) h k

-- How many addresses there are

pub address_count-all : (faces : List Iface) → address_count faces ≡ length (addresses_of faces)
address_count-all [] = refl
address_count-all (face ∷ faces) =
    sum_by-cons (λ x. x) (length face.addrs) (map (λ face. length face.addrs) faces) ∙ ap (λ n. length face.addrs + n) (address_count-all faces)
    ∙ sym (length-append face.addrs (addresses_of faces))

-- One more interface at the end

pub addresses_pushed : (faces : List Iface) (face : Iface) → addresses_of (faces ++ face ∷ []) ≡ addresses_of faces ++ face.addrs
addresses_pushed [] face = append-nil face.addrs
addresses_pushed (other ∷ faces) face =
    ap (λ list. other.addrs ++ list) (addresses_pushed faces face) ∙ sym (append_assoc other.addrs (addresses_of faces) face.addrs)

pub nets_pushed : (n : ℕ) (faces : List Iface) (face : Iface) → (m : ℕ) × (nets_from n (faces ++ face ∷ []) ≡ nets_from n faces ++ map (net_line m) face.addrs)
nets_pushed n [] face = (n, append-nil (map (net_line n) face.addrs))
nets_pushed n (other ∷ faces) face =
    let more = nets_pushed (suc n) faces face in
    (more.0, ap (λ list. map (net_line n) other.addrs ++ list) more.1 ∙ sym (append_assoc (map (net_line n) other.addrs) (nets_from (suc n) faces) (map (net_line more.0) face.addrs)))

-- One more address of an interface

pub address_inserted : (k : ℕ) (own : Address) (faces : List Iface) → k < length faces → Inserted own (addresses_of faces) (addresses_of (address_added k own faces))
address_inserted k own [] h = absurd (omega arith)
address_inserted zero own (face ∷ faces) h = in_back own face.addrs (face.addrs ++ own ∷ []) (addresses_of faces) (pushed own face.addrs)
address_inserted (suc k) own (face ∷ faces) h = in_front own face.addrs _ _ (address_inserted k own faces (omega arith))

net_pushed : (n : ℕ) (own : Address) (owns : List Address) → Inserted (net_line n own) (map (net_line n) owns) (map (net_line n) (owns ++ own ∷ []))
net_pushed n own [] = here
net_pushed n own (other ∷ owns) = there (net_pushed n own owns)

pub net_inserted : (n k : ℕ) (own : Address) (faces : List Iface) → k < length faces
    → (m : ℕ) × Inserted (net_line m own) (nets_from n faces) (nets_from n (address_added k own faces))
net_inserted n k own [] h = absurd (omega arith)
net_inserted n zero own (face ∷ faces) h = (n, in_back (net_line n own) (map (net_line n) face.addrs) _ (nets_from (suc n) faces) (net_pushed n own face.addrs))
net_inserted n (suc k) own (face ∷ faces) h =
    let more = net_inserted (suc n) k own faces (omega arith) in
    (more.0, in_front (net_line more.0 own) (map (net_line n) face.addrs) _ _ more.1)

pub length_added : (k : ℕ) (own : Address) (faces : List Iface) → length (address_added k own faces) ≡ length faces
length_added k own [] = refl
length_added zero own (face ∷ faces) = refl
length_added (suc k) own (face ∷ faces) = ap (λ n. suc n) (length_added k own faces)

pub names_added : (k : ℕ) (own : Address) (faces : List Iface) → map (λ face. face.name) (address_added k own faces) ≡ map (λ face. face.name) faces
names_added k own [] = refl
names_added zero own (face ∷ faces) = refl
names_added (suc k) own (face ∷ faces) = ap (λ list. face.name ∷ list) (names_added k own faces)

pub system_names_added : (k : ℕ) (own : Address) (faces : List Iface) → map (λ face. face.names) (address_added k own faces) ≡ map (λ face. face.names) faces
system_names_added k own [] = refl
system_names_added zero own (face ∷ faces) = refl
system_names_added (suc k) own (face ∷ faces) = ap (λ list. face.names ∷ list) (system_names_added k own faces)

pub spelled_added : (k : ℕ) (own : Address) (faces : List Iface)
    → list_all (λ face. is_name face.name && are_names face.names) (address_added k own faces) ≡ list_all (λ face. is_name face.name && are_names face.names) faces
spelled_added k own [] = refl
spelled_added zero own (face ∷ faces) = refl
spelled_added (suc k) own (face ∷ faces) = ap (λ b. (is_name face.name && are_names face.names) && b) (spelled_added k own faces)
