-- A site of the first form routes by the networks of its interfaces.
use Rattle.std.proofs.Common.{◌≡◌, ℕ, suc, min, Bool, true, false, cond, ◌&&◌, ◌||◌, nat_eq, Option, Some, None, List, [], ◌∷◌, ◌++◌, map, length, refl, ap, sym, subst, ◌∙◌, append-nil, arith}
use Rattle.std.proofs.lemmas.List.Folds.{list_all-append}
use Rattle.std.proofs.lemmas.Bool.{and_parts, eqb-true, eq-eqb, both_ways, not-true}
use Rattle.std.specs.List.{list_any, list_all}
use Rattle.std.specs.Option.{option_map_or}
use Rattle.fws_iv.specs.Prefixes.{agree}
use Rattle.fws_num.specs.Numbers.{QuadsAreDotted}
use Rattle.fws_net.specs.declared.site.Address.{Address}
use Rattle.fws_net.specs.declared.site.Iface.{Iface}
use Rattle.fws_net.specs.declared.site.RouteLine.{RouteLine}
use Rattle.fws_net.specs.declared.site.Site.{Site}
use Rattle.fws_net.specs.Routes.{net_line, nets_from, longer, longest, led_to, route_of}
use Rattle.fws_net.specs.SiteLaws.{all_pairs, addresses_of, are_apart, first_leading, IsPlain, FirstFormsRouteByNetwork}
use Rattle.fws_net.specs.SiteLines.{nets_meet}
use Rattle.fws_net.proofs.PairTests.{agree_shorter}
use Rattle.fws_net.proofs.SitePlain.{first_plain}

-- two networks that hold an address meet
both_hold_one : (own other : Address) (a : ℕ) → agree own.len own.addr a ≡ true → agree other.len other.addr a ≡ true → nets_meet own other ≡ true
both_hold_one own other a h k =
    let n = min own.len other.len in
    let first = agree_shorter own.len n own.addr a (omega arith) h in
    let second = agree_shorter other.len n other.addr a (omega arith) k in
    eq-eqb _ _ (eqb-true _ _ first ∙ sym (eqb-true _ _ second))

other_leads_not : (t : Bool) (own other : Address) (a : ℕ) → are_apart own other ≡ true → agree own.len own.addr a ≡ true → agree other.len other.addr a ≡ t → t ≡ false
other_leads_not false own other a apart h k = refl
other_leads_not true own other a apart h k = absurd (both_ways (nets_meet own other) (not-true (nets_meet own other) apart) (both_hold_one own other a h k))

none_leads_of : (m : ℕ) (own : Address) (a : ℕ) (owns : List Address) (rest : List RouteLine) → agree own.len own.addr a ≡ true → list_all (are_apart own) owns ≡ true
    → longest rest a ≡ None → longest (map (net_line m) owns ++ rest) a ≡ None
none_leads_of m own a [] rest h k e = e
none_leads_of m own a (other ∷ owns) rest h k e =
    let parts = and_parts (are_apart own other) (list_all (are_apart own) owns) k in
    let no : agree other.len other.addr a ≡ false = other_leads_not (agree other.len other.addr a) own other a parts.0 h refl in
    ap (λ b. cond b (Some (longer (net_line m other) (longest (map (net_line m) owns ++ rest) a))) (longest (map (net_line m) owns ++ rest) a)) no
    ∙ none_leads_of m own a owns rest h parts.1 e

-- where a network holds the address, none that doesn't meet it does
none_leads : (n : ℕ) (own : Address) (a : ℕ) (faces : List Iface) → agree own.len own.addr a ≡ true → list_all (are_apart own) (addresses_of faces) ≡ true
    → longest (nets_from n faces) a ≡ None
none_leads n own a [] h k = refl
none_leads n own a (face ∷ faces) h k =
    let parts = and_parts (list_all (are_apart own) face.addrs) (list_all (are_apart own) (addresses_of faces)) (sym (list_all-append (are_apart own) face.addrs (addresses_of faces)) ∙ k) in
    none_leads_of n own a face.addrs (nets_from (suc n) faces) h parts.0 (none_leads (suc n) own a faces h parts.1)

-- a list of one
only : (owns : List Address) → nat_eq (length owns) 1 ≡ true → (own : Address) × (owns ≡ own ∷ [])
only [] h = absurd cc
only (own ∷ []) h = (own, refl)
only (own ∷ other ∷ owns) h = (let e : suc (suc (length owns)) ≡ 1 = eqb-true (suc (suc (length owns))) 1 h in absurd (omega arith))

-- the first network leads, or those behind it do
first_or_rest : (t : Bool) (n : ℕ) (own : Address) (rest : List RouteLine) (other a behind : ℕ) → (t ≡ true → longest rest a ≡ None)
    → option_map_or (λ line. line.face) (longest rest a) other ≡ behind
    → option_map_or (λ line. line.face) (cond t (Some (longer (net_line n own) (longest rest a))) (longest rest a)) other ≡ cond (t || false) n behind
first_or_rest true n own rest other a behind none e = ap (λ (o : Option RouteLine). (longer (net_line n own) o).face) (none refl)
first_or_rest false n own rest other a behind none e = e

led_first : (n : ℕ) (faces : List Iface) (other a : ℕ) → list_all (λ face. nat_eq (length face.addrs) 1) faces ≡ true → all_pairs are_apart (addresses_of faces) ≡ true
    → led_to (nets_from n faces) other a ≡ first_leading n faces other a
led_first n [] other a one apart = refl
led_first n (face ∷ faces) other a one apart =
    let ones = and_parts (nat_eq (length face.addrs) 1) (list_all (λ face. nat_eq (length face.addrs) 1) faces) one in
    let alone = only face.addrs ones.0 in
    let own = alone.0 in
    let pairs : (list_all (are_apart own) (addresses_of faces) && all_pairs are_apart (addresses_of faces)) ≡ true =
    subst (λ (owns : List Address). all_pairs are_apart (owns ++ addresses_of faces) ≡ true) alone.1 apart in
    let parts = and_parts (list_all (are_apart own) (addresses_of faces)) (all_pairs are_apart (addresses_of faces)) pairs in
    let rest = nets_from (suc n) faces in
    ap (λ owns. led_to (map (net_line n) owns ++ rest) other a) alone.1
    ∙ first_or_rest (agree own.len own.addr a) n own rest other a (first_leading (suc n) faces other a) (λ t. none_leads (suc n) own a faces t parts.0)
    (led_first (suc n) faces other a ones.1 parts.1)
    ∙ ap (λ owns. cond (list_any (λ own. agree own.len own.addr a) owns) n (first_leading (suc n) faces other a)) (sym alone.1)

pub plain_routes : (site : Site) (a : ℕ) → IsPlain site → route_of site a ≡ first_leading 2 site.faces site.fallback a
plain_routes site a h =
    ap (λ routes. led_to (nets_from 2 site.faces ++ routes) site.fallback a) h.no_routes
    ∙ ap (λ nets. led_to nets site.fallback a) (append-nil (nets_from 2 site.faces))
    ∙ led_first 2 site.faces site.fallback a h.one_address h.networks_apart

pub first_routes : QuadsAreDotted → FirstFormsRouteByNetwork
first_routes q text site first e a = plain_routes site a (first_plain q text site first e)
