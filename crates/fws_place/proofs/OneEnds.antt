-- Ends that depend on flags or ICMP types.
use Rattle.std.proofs.Common.{◌≡◌, ◌≢◌, ℕ, zero, suc, Bool, true, false, not, Option, Some, None, List, refl, sym, ◌∙◌, ap, subst}
use Rattle.std.proofs.lemmas.Bool.{not-true, not_from_false}
use Rattle.std.specs.Prelude.{nat_eq, slice_index, if◌then◌else◌}
use Rattle.fws_box.specs.Sides.{IsWithin}
use Rattle.fws_net.specs.declared.outcome.End.{End}
use Rattle.fws_net.specs.declared.outcome.Outcome.{Outcome}
use Rattle.fws_net.specs.declared.outcome.Outcome.TheVariants.{Drop, Accept}
use Rattle.fws_net.specs.declared.outcome.Rewrite.{Rewrite}
use Rattle.fws_net.specs.declared.packet.Packet.{Packet}
use Rattle.fws_net.specs.declared.site.Site.{Site}
use Rattle.fws_net.specs.Points.{tops_of, packet_of}
use Rattle.fws_tree.specs.declared.tables.Tables.{Tables}
use Rattle.fws_tree.specs.Changed.{Agree}
use Rattle.fws_tree.specs.Plain.{Plain, value}
use Rattle.fws_tree.specs.Regular.{AreRegular}
use Rattle.fws_place.specs.declared.breach.Pair.{Pair}
use Rattle.fws_place.specs.declared.clause.Clause.TheVariants.{OneDestination, OneHostSource}
use Rattle.fws_place.specs.declared.one_end.Compared.{Compared}
use Rattle.fws_place.specs.declared.one_end.Compared.TheVariants.{Destinations, HostSources}
use Rattle.fws_place.specs.Apart.{flags_and_icmp, AreAlikeBy, AreApart, HaveNear}
use Rattle.fws_place.specs.Clauses.{AgreeButFlagsAndType, NamesPackets}
use Rattle.fws_place.specs.Found.{IsSought}
use Rattle.fws_place.specs.Meaning.{IsPacketOf, IsPairOf, new_of, no_ends, point_of, rec_of}
use Rattle.fws_place.specs.OneEnd.{alone, compares, end_alone, end_of, AreSoughtEnds, GetDifferentEnds, HasEnds}
use Rattle.fws_place.specs.Pairs.{is_host}
use Rattle.fws_place.proofs.NewPackets.{new_is, packet_within}
use Rattle.fws_place.proofs.PairPoints.{point_back}
use Rattle.fws_place.proofs.Viewing.{some_once}

-- The tree of ends

-- outside the host's packets, and within them
painted : (host : Bool) (v u : Option Outcome) (x : Outcome) → v ≡ Some x → u ≡ (if host then Some Drop else v) → u ≡ Some (if not host then x else Drop)
painted true v u x e f = f
painted false v u x e f = f ∙ e

restricted : (host : Bool) (v u : Option Outcome) (x : Outcome) → v ≡ Some x → u ≡ (if host then v else Some Drop) → u ≡ Some (if host then x else Drop)
restricted true v u x e f = f ∙ e
restricted false v u x e f = f

pub painted_ends : (compared : Compared) → compared ≡ Destinations → (entry : ℕ) (host : Bool) → host ≡ nat_eq entry 0 → (v u : Option Outcome) (o : Outcome)
    → v ≡ Some (alone compared o) → u ≡ (if host then Some Drop else v) → u ≡ Some (if compares compared entry then alone compared o else Drop)
painted_ends Destinations same entry host is v u o e f = painted (nat_eq entry 0) v u (alone Destinations o) e (f ∙ ap (λ b. if b then Some Drop else v) is)
painted_ends HostSources same entry host is v u o e f = absurd (cc)

pub restricted_ends : (compared : Compared) → compared ≡ HostSources → (entry : ℕ) (host : Bool) → host ≡ nat_eq entry 0 → (v u : Option Outcome) (o : Outcome)
    → v ≡ Some (alone compared o) → u ≡ (if host then v else Some Drop) → u ≡ Some (if compares compared entry then alone compared o else Drop)
restricted_ends Destinations same entry host is v u o e f = absurd (cc)
restricted_ends HostSources same entry host is v u o e f = restricted (nat_eq entry 0) v u (alone HostSources o) e (f ∙ ap (λ b. if b then v else Some Drop) is)

-- Ends

end_kept : (compared : Compared) (v w : Rewrite) → end_alone compared v ≡ end_alone compared w → end_of compared v ≡ end_of compared w
end_kept Destinations v w e = ap (λ (r : Rewrite). r.dst) e
end_kept HostSources v w e = ap (λ (r : Rewrite). r.src) e

alone_same : (compared : Compared) (v w : Rewrite) → end_of compared v ≡ end_of compared w → end_alone compared v ≡ end_alone compared w
alone_same Destinations v w e = let made : Option End → Rewrite = λ d. record { src = None; dst = d } in ap made e
alone_same HostSources v w e = let made : Option End → Rewrite = λ s. record { src = s; dst = None } in ap made e

-- a value that counts is that of an accepted packet whose ends are compared
such_leaf : (compared : Compared) (c : Bool) (o a : Outcome) → a ≡ (if c then alone compared o else Drop) → a ≢ Drop
    → (c ≡ true) × ((v : Rewrite) × (o ≡ Accept v) × (a ≡ Accept (end_alone compared v)))
such_leaf compared false o a e n = absurd (n e)
such_leaf compared true Drop a e n = absurd (n e)
such_leaf compared true (Accept v) a e n = (refl, (v, refl, e))

-- Points

-- the packets of points that agree
packets_agree : (p q : List ℕ) → Agree flags_and_icmp p q → AgreeButFlagsAndType (packet_of p) (packet_of q)
packets_agree p q near = record {
  entry = near 0 refl;
  proto = near 1 refl;
  dst = near 2 refl;
  dport = near 3 refl;
  src = near 4 refl;
  sport = near 5 refl;
}

-- and points of packets that agree
points_near : (p q : Packet) → AgreeButFlagsAndType p q → Agree flags_and_icmp (point_of p no_ends) (point_of q no_ends)
points_near p q agree zero n = agree.entry
points_near p q agree (suc zero) n = agree.proto
points_near p q agree (suc (suc zero)) n = agree.dst
points_near p q agree (suc (suc (suc zero))) n = agree.dport
points_near p q agree (suc (suc (suc (suc zero)))) n = agree.src
points_near p q agree (suc (suc (suc (suc (suc zero))))) n = agree.sport
points_near p q agree (suc (suc (suc (suc (suc (suc zero)))))) n = absurd (cc)
points_near p q agree (suc (suc (suc (suc (suc (suc (suc zero))))))) n = absurd (cc)
points_near p q agree (suc (suc (suc (suc (suc (suc (suc (suc zero)))))))) n = refl
points_near p q agree (suc (suc (suc (suc (suc (suc (suc (suc (suc zero))))))))) n = refl
points_near p q agree (suc (suc (suc (suc (suc (suc (suc (suc (suc (suc zero)))))))))) n = refl
points_near p q agree (suc (suc (suc (suc (suc (suc (suc (suc (suc (suc (suc zero))))))))))) n = refl
points_near p q agree (suc (suc (suc (suc (suc (suc (suc (suc (suc (suc (suc (suc f)))))))))))) n = refl

-- Naming

-- a point at which a value counts is one of an accepted packet
accepted_at : (site : Site) (tables : Tables) (compared : Compared) (t : Plain Outcome) → AreRegular site tables → HasEnds site tables compared t
    → (q : List ℕ) (a : Outcome) → IsWithin (tops_of site) q → value t q ≡ Some a → a ≢ Drop
    → IsPacketOf site (packet_of q) × (compares compared (slice_index q 0) ≡ true) × ((v : Rewrite) × (new_of tables (packet_of q) ≡ Accept v) × (a ≡ Accept (end_alone compared v)))
accepted_at site tables compared t regular ends q a w e n =
    let here = ends q w in
    let leaf = such_leaf compared (compares compared (slice_index q 0)) here.0 a (some_once a _ (sym e ∙ here.2)) n in
    let back : point_of (packet_of q) (rec_of q) ≡ q = point_back site q w in
    let inside : IsPairOf site (packet_of q) (rec_of q) = subst (λ l. IsWithin (tops_of site) l) (sym back) w in (
      packet_within site (packet_of q) (rec_of q) inside,
      leaf.0,
      (
        leaf.1.0,
        new_is site tables regular (packet_of q) (rec_of q) here.0 inside (ap (λ l. value tables.fresh.1 l) back ∙ here.1) ∙ leaf.1.1,
        leaf.1.2,
      ),
    )

-- two points with different values are those of packets that get different ends
pub ends_named : (site : Site) (tables : Tables) (compared : Compared) (t : Plain Outcome) → AreRegular site tables → HasEnds site tables compared t
    → (p q : List ℕ) → AreApart flags_and_icmp (tops_of site) t Drop p q
    → NamesPackets site (GetDifferentEnds compared tables) (record { packet = packet_of p; rec = None }) (Some (record { packet = packet_of q; rec = None }))
ends_named site tables compared t regular ends p q apart =
    let have = apart.have in
    let first = accepted_at site tables compared t regular ends p apart.leaf have.within have.here have.counts in
    let second = accepted_at site tables compared t regular ends q apart.other have.other_within have.there have.other_counts in
    record {
      other = packet_of q;
      of_site = first.0;
      other_of_site = second.0;
      new = refl;
      both = refl;
      such = record {
        such = first.1;
        agree = packets_agree p q have.near;
        differ = record {
          rewriting = first.2.0;
          other = second.2.0;
          accepted = first.2.1;
          other_accepted = second.2.1;
          differ = λ same. apart.differ (first.2.2 ∙ ap Accept (alone_same compared first.2.0 second.2.0 same) ∙ sym second.2.2);
        };
      };
    }

-- the value at the point of an accepted packet whose ends are compared
value_there : (site : Site) (tables : Tables) (compared : Compared) (t : Plain Outcome) → AreRegular site tables → HasEnds site tables compared t
    → (p : Packet) (v : Rewrite) → IsPacketOf site p → compares compared p.entry ≡ true → new_of tables p ≡ Accept v → value t (point_of p no_ends) ≡ Some (Accept (end_alone compared v))
value_there site tables compared t regular ends p v w such accepted =
    let here = ends (point_of p no_ends) w in
    let same : here.0 ≡ Accept v = sym (new_is site tables regular p no_ends here.0 w here.1) ∙ accepted in
    here.2 ∙ ap (λ b. Some (if b then alone compared here.0 else Drop)) such ∙ ap (λ o. Some (alone compared o)) same

accepts_some : (w : Rewrite) → Accept w ≢ Drop
accepts_some w e = cc

same_accept : (v w : Rewrite) → Accept v ≡ Accept w → v ≡ w
same_accept v w e = cc

-- where equal fields give equal values, there are no such packets
pub no_ends_named : (site : Site) (tables : Tables) (compared : Compared) (t : Plain Outcome) → AreRegular site tables → HasEnds site tables compared t
    → AreAlikeBy (λ x. x) flags_and_icmp (tops_of site) t Drop → (first : Pair) (second : Option Pair) → NamesPackets site (GetDifferentEnds compared tables) first second → ⊥
no_ends_named site tables compared t regular ends alike first second named =
    let p : Packet = first.packet in
    let q : Packet = named.other in
    let such = named.such in
    let v : Rewrite = such.differ.rewriting in
    let w : Rewrite = such.differ.other in
    let also : compares compared q.entry ≡ true = ap (compares compared) (sym such.agree.entry) ∙ such.such in
    let have : HaveNear flags_and_icmp (tops_of site) t Drop (point_of p no_ends) (point_of q no_ends) (Accept (end_alone compared v)) (Accept (end_alone compared w)) = record {
      within = named.of_site;
      other_within = named.other_of_site;
      near = points_near p q such.agree;
      here = value_there site tables compared t regular ends p v named.of_site such.such such.differ.accepted;
      there = value_there site tables compared t regular ends q w named.other_of_site also such.differ.other_accepted;
      counts = accepts_some (end_alone compared v);
      other_counts = accepts_some (end_alone compared w);
    } in
    such.differ.differ (end_kept compared v w (same_accept _ _ (alike (point_of p no_ends) (point_of q no_ends) _ _ have)))

-- Clauses

pub one_destination : (site : Site) (tables : Tables) (found : Option (Pair × Option Pair)) → AreSoughtEnds site tables Destinations found → IsSought site tables OneDestination found
one_destination site tables None none = λ first second named.
    none first second (record {
      other = named.other;
      of_site = named.of_site;
      other_of_site = named.other_of_site;
      new = named.new;
      both = named.both;
      such = record { such = not_from_false (is_host first.packet) named.such.arrives; agree = named.such.agree; differ = named.such.differ };
    })
one_destination site tables (Some pair) named = record {
  other = named.other;
  of_site = named.of_site;
  other_of_site = named.other_of_site;
  new = named.new;
  both = named.both;
  such = record { arrives = not-true (is_host pair.0.packet) named.such.such; agree = named.such.agree; differ = named.such.differ };
}

pub one_host_source : (site : Site) (tables : Tables) (found : Option (Pair × Option Pair)) → AreSoughtEnds site tables HostSources found → IsSought site tables OneHostSource found
one_host_source site tables None none = λ first second named.
    none first second (record {
      other = named.other;
      of_site = named.of_site;
      other_of_site = named.other_of_site;
      new = named.new;
      both = named.both;
      such = record { such = named.such.host; agree = named.such.agree; differ = named.such.differ };
    })
one_host_source site tables (Some pair) named = record {
  other = named.other;
  of_site = named.of_site;
  other_of_site = named.other_of_site;
  new = named.new;
  both = named.both;
  such = record { host = named.such.such; agree = named.such.agree; differ = named.such.differ };
}
