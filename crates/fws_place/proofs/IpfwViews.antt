-- What the views tell of tables that meet ipfw's clause on dropped pairs.
use Rattle.std.proofs.Common.{◌≡◌, ◌≢◌, ◌-◌, ◌^◌, ◌≤◌, Bool, true, false, ◌&&◌, ◌||◌, not, Some, None, inl, inr, refl, arith}
use Rattle.std.proofs.lemmas.Bool.{and_parts, both_ways, cond_both, not_from_false, and_from, or_right, cases_Bool}
use Rattle.fws_net.specs.declared.connection.Rec.{Rec}
use Rattle.fws_net.specs.declared.outcome.Outcome.{Outcome}
use Rattle.fws_net.specs.declared.outcome.Outcome.TheVariants.{Drop, Accept}
use Rattle.fws_net.specs.declared.packet.Packet.{Packet}
use Rattle.fws_net.specs.declared.site.Site.{Site}
use Rattle.fws_net.specs.Routes.{is_local}
use Rattle.fws_net.specs.Transits.{nothing_written}
use Rattle.fws_tree.specs.declared.tables.Tables.{Tables}
use Rattle.fws_tree.specs.Regular.{AreRegular}
use Rattle.fws_place.specs.declared.clause.Clause.TheVariants.{DropsAheadOfLookup}
use Rattle.fws_place.specs.AheadOfLookup.{stays}
use Rattle.fws_place.specs.Clauses.{BreaksAheadOfLookup}
use Rattle.fws_place.specs.Fits.{Meets}
use Rattle.fws_place.specs.IpfwLaws.{IpfwDropsNewArrivals, IpfwDropsNewHost, IpfwPairsAreTold}
use Rattle.fws_place.specs.Meaning.{IsPairOf, est_of, new_of}
use Rattle.fws_place.specs.Pairs.{IsLost, LookAlike, is_host, with_destination}
use Rattle.fws_place.specs.Seen.{IsAcceptedAlike, IsAcceptedSomewhere}
use Rattle.fws_place.proofs.CanDrop.{host_breaks, passing_breaks, staying_breaks}
use Rattle.fws_place.proofs.Viewing.{not_accepted, told_by, unwritten}

-- where the clause is met no pair breaks it
none_breaks : (site : Site) (tables : Tables) → Meets site tables DropsAheadOfLookup → (p : Packet) (r : Rec) → IsPairOf site p r → BreaksAheadOfLookup site tables p r → ⊥
none_breaks site tables meets p r w breaks = meets (record { packet = p; rec = Some r }) None (record {
  ends = r;
  of_site = w;
  established = refl;
  alone = refl;
  such = breaks;
})

itself : (p : Packet) (r : Rec) → LookAlike p r p r
itself p r = record { entry = refl; proto = refl; src = refl; sport = refl; flags = refl; icmp = refl; rdst = refl; rdport = refl }

-- where both views let a pair pass, as far as they count, it isn't dropped
seen_accepted : (site : Site) (tables : Tables) → AreRegular site tables → Meets site tables DropsAheadOfLookup → (p : Packet) (r : Rec) (b c : Bool)
    → IsPairOf site p r → (IsLost site p r → ⊥) → (b ≡ true → IsAcceptedSomewhere site tables p) → (c ≡ true → IsAcceptedAlike site tables p r)
    → ((is_host p || b) && (stays site p r || c)) ≡ true → est_of tables p r ≢ Drop
seen_accepted site tables regular meets p r b c w kept first second e drop =
    let both = and_parts (is_host p || b) (stays site p r || c) e in
    let none : BreaksAheadOfLookup site tables p r → ⊥ = none_breaks site tables meets p r w in
    elim (cases_Bool (is_host p)) [
      | inl host ↦ none (host_breaks site tables regular p r w host (drop, inl (second (at_host (is_host p) (is_local site r.rdst) c host both.1))))
      | inr arrives ↦
          let s : IsAcceptedSomewhere site tables p = first (other (is_host p) b arrives both.0) in
          elim (cases_Bool (is_local site r.rdst)) [
            | inl here ↦ none (staying_breaks site tables regular p r w (and_from (not (is_host p)) (is_local site r.rdst) (not_from_false (is_host p) arrives) here) (drop, inl s))
            | inr elsewhere ↦ none (passing_breaks site tables regular p r w kept
                (and_from (not (is_host p)) (not (is_local site r.rdst)) (not_from_false (is_host p) arrives) (not_from_false (is_local site r.rdst) elsewhere))
                (drop, inl s) (second (passing (is_host p) (is_local site r.rdst) c elsewhere both.1)))
          ]
    ]
  where
    at_host : (h l c : Bool) → h ≡ true → ((not h && l) || c) ≡ true → c ≡ true
    at_host true l c e f = f
    at_host false l c e f = absurd (cc)

    passing : (h l c : Bool) → l ≡ false → ((not h && l) || c) ≡ true → c ≡ true
    passing true l c e f = f
    passing false true c e f = absurd (cc)
    passing false false c e f = f

    other : (h b : Bool) → h ≡ false → (h || b) ≡ true → b ≡ true
    other true b e f = absurd (cc)
    other false b e f = f

-- a pair that isn't lost is accepted as the views tell
pub ipfw_told : IpfwPairsAreTold
ipfw_told site tables packet behind regular meets packet_told behind_told p r b c w kept at_packet at_behind =
    let first = told_by site (λ q s. IsAcceptedSomewhere site tables q) packet packet_told p r w b at_packet in
    let second = told_by site (IsAcceptedAlike site tables) behind behind_told p r w c at_behind in
    let test : Bool = (is_host p || b) && (stays site p r || c) in
    cond_both test (Accept nothing_written) Drop (λ (o : Outcome). est_of tables p r ≡ o)
    (λ on. unwritten site tables regular p r w (seen_accepted site tables regular meets p r b c w kept first.0 second.0 on))
    (λ off. not_accepted (est_of tables p r) (λ a. both_ways test off (and_from (is_host p || b) (stays site p r || c)
    (or_right (is_host p) b (first.1 (record { ends = r; of_site = w; accepted = a })))
    (or_right (stays site p r) c (second.1 (record { other = p; ends = r; of_site = w; alike = itself p r; accepted = a }))))))

-- 127.0.0.1 as the destination with which a connection sends a packet
own_ends : Rec → Rec
own_ends r = record r { rdst = 2130706433 }

-- a packet that arrives and that no connection sends so that it is accepted is dropped when it is new
pub new_arrivals_dropped : IpfwDropsNewArrivals
unfolding own_ends
new_arrivals_dropped site tables packet regular meets packet_told p r w arrives at_packet =
    let told = told_by site (λ q s. IsAcceptedSomewhere site tables q) packet packet_told p r w false at_packet in
    let s : Rec = own_ends r in
    let le : 2130706433 ≤ 2 ^ 32 - 1 = omega arith in
    let v : IsPairOf site p s = (w.0, (w.1.0, (w.1.1.0, (w.1.1.1.0, (w.1.1.1.1.0, (w.1.1.1.1.1.0, (w.1.1.1.1.1.1.0, (w.1.1.1.1.1.1.1.0, (le, w.1.1.1.1.1.1.1.1.1))))))))) in
    let here : is_local site s.rdst ≡ true = or_right _ _ refl in
    not_accepted (new_of tables p) (λ n. none_breaks site tables meets p s v (staying_breaks site tables regular p s v
    (and_from (not (is_host p)) (is_local site s.rdst) (not_from_false (is_host p) arrives) here)
    (not_accepted (est_of tables p s) (λ a. both_ways false refl (told.1 (record { ends = s; of_site = v; accepted = a }))), inr n)))

-- where no pair is accepted that looks like one of the host, the new packet that looks like it is dropped
pub new_host_dropped : IpfwDropsNewHost
new_host_dropped site tables behind regular meets behind_told p r w host at_behind =
    let told = told_by site (IsAcceptedAlike site tables) behind behind_told p r w false at_behind in
    let drop : est_of tables p r ≡ Drop = not_accepted (est_of tables p r)
    (λ a. both_ways false refl (told.1 (record { other = p; ends = r; of_site = w; alike = itself p r; accepted = a }))) in
    not_accepted (new_of tables (with_destination r p))
    (λ n. none_breaks site tables meets p r w (host_breaks site tables regular p r w host (drop, inr (host, n))))
