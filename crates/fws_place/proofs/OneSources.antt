-- Sources that depend on entries or flags.
use Rattle.std.proofs.Common.{◌≡◌, ◌≢◌, ℕ, zero, suc, Bool, true, false, Option, Some, None, List, refl, sym, ◌∙◌, ap, subst}
use Rattle.std.specs.Prelude.{if◌then◌else◌}
use Rattle.fws_box.specs.Sides.{IsWithin}
use Rattle.fws_net.specs.declared.outcome.End.{End}
use Rattle.fws_net.specs.declared.outcome.Outcome.{Outcome}
use Rattle.fws_net.specs.declared.outcome.Outcome.TheVariants.{Drop, Accept}
use Rattle.fws_net.specs.declared.outcome.Rewrite.{Rewrite}
use Rattle.fws_net.specs.declared.packet.Packet.{Packet}
use Rattle.fws_net.specs.declared.site.Site.{Site}
use Rattle.fws_net.specs.Points.{tops_of, packet_of}
use Rattle.fws_tree.specs.declared.tables.Tables.{Tables}
use Rattle.fws_tree.specs.Changed.{Agree}
use Rattle.fws_tree.specs.Plain.{Plain, value}
use Rattle.fws_tree.specs.Regular.{AreRegular}
use Rattle.fws_place.specs.declared.breach.Pair.{Pair}
use Rattle.fws_place.specs.declared.one_end.Compared.TheVariants.{HostSources}
use Rattle.fws_place.specs.Apart.{entry_and_flags, AreAlikeBy, AreApart, HaveNear}
use Rattle.fws_place.specs.Clauses.{AgreeButEntryAndFlags, BreaksOneSource, IsAcceptedWith, NamesPackets}
use Rattle.fws_place.specs.Meaning.{IsPacketOf, IsPairOf, new_of, no_ends, point_of, rec_of}
use Rattle.fws_place.specs.NamedTwo.{packets_at}
use Rattle.fws_place.specs.OneEnd.{alone, end_alone}
use Rattle.fws_place.specs.Outgoing.{goes_out, HasSources}
use Rattle.fws_place.specs.Rewritings.{goes_outside, is_accepted_with}
use Rattle.fws_place.proofs.NewPackets.{new_is, packet_within}
use Rattle.fws_place.proofs.PairPoints.{point_back}
use Rattle.fws_place.proofs.Viewing.{some_once}

-- Points

-- the packets of points that agree
packets_agree : (p q : List ℕ) → Agree entry_and_flags p q → AgreeButEntryAndFlags (packet_of p) (packet_of q)
packets_agree p q near = record {
  proto = near 1 refl;
  dst = near 2 refl;
  dport = near 3 refl;
  src = near 4 refl;
  sport = near 5 refl;
  icmp = near 7 refl;
}

-- and points of packets that agree
points_near : (p q : Packet) → AgreeButEntryAndFlags p q → Agree entry_and_flags (point_of p no_ends) (point_of q no_ends)
points_near p q agree zero n = absurd (cc)
points_near p q agree (suc zero) n = agree.proto
points_near p q agree (suc (suc zero)) n = agree.dst
points_near p q agree (suc (suc (suc zero))) n = agree.dport
points_near p q agree (suc (suc (suc (suc zero)))) n = agree.src
points_near p q agree (suc (suc (suc (suc (suc zero))))) n = agree.sport
points_near p q agree (suc (suc (suc (suc (suc (suc zero)))))) n = absurd (cc)
points_near p q agree (suc (suc (suc (suc (suc (suc (suc zero))))))) n = agree.icmp
points_near p q agree (suc (suc (suc (suc (suc (suc (suc (suc zero)))))))) n = refl
points_near p q agree (suc (suc (suc (suc (suc (suc (suc (suc (suc zero))))))))) n = refl
points_near p q agree (suc (suc (suc (suc (suc (suc (suc (suc (suc (suc zero)))))))))) n = refl
points_near p q agree (suc (suc (suc (suc (suc (suc (suc (suc (suc (suc (suc zero))))))))))) n = refl
points_near p q agree (suc (suc (suc (suc (suc (suc (suc (suc (suc (suc (suc (suc f)))))))))))) n = refl

-- Sources

source_kept : (v w : Rewrite) → Accept (end_alone HostSources v) ≡ Accept (end_alone HostSources w) → v.src ≡ w.src
source_kept v w e = ap (λ (r : Rewrite). r.src) (same_accept _ _ e)
  where
    same_accept : (x y : Rewrite) → Accept x ≡ Accept y → x ≡ y
    same_accept x y e = cc

source_same : (v w : Rewrite) → v.src ≡ w.src → Accept (end_alone HostSources v) ≡ Accept (end_alone HostSources w)
source_same v w e = let made : Option End → Outcome = λ s. Accept (record { src = s; dst = None }) in ap made e

-- a value that counts is the source of an accepted packet that goes out
such_leaf : (b : Bool) (o a : Outcome) → a ≡ (if b then alone HostSources o else Drop) → a ≢ Drop
    → (b ≡ true) × ((v : Rewrite) × (o ≡ Accept v) × (a ≡ Accept (end_alone HostSources v)))
such_leaf false o a e n = absurd (n e)
such_leaf true Drop a e n = absurd (n e)
such_leaf true (Accept v) a e n = (refl, (v, refl, e))

-- Naming

-- a point at which a value counts is one of a packet that goes out
outgoing_at : (site : Site) (tables : Tables) (t : Plain Outcome) → AreRegular site tables → HasSources site tables t → (q : List ℕ) (a : Outcome) → IsWithin (tops_of site) q
    → value t q ≡ Some a → a ≢ Drop
    → IsPacketOf site (packet_of q) × IsAcceptedWith tables (goes_outside site (packet_of q)) (packet_of q)
    × ((v : Rewrite) × (new_of tables (packet_of q) ≡ Accept v) × (a ≡ Accept (end_alone HostSources v)))
outgoing_at site tables t regular sources q a w e n =
    let here = sources q w in
    let leaf = such_leaf (goes_out site here.0 q) here.0 a (some_once a _ (sym e ∙ here.2)) n in
    let back : point_of (packet_of q) (rec_of q) ≡ q = point_back site q w in
    let inside : IsPairOf site (packet_of q) (rec_of q) = subst (λ l. IsWithin (tops_of site) l) (sym back) w in
    let new : new_of tables (packet_of q) ≡ here.0 = new_is site tables regular (packet_of q) (rec_of q) here.0 inside (ap (λ l. value tables.fresh.1 l) back ∙ here.1) in (
      packet_within site (packet_of q) (rec_of q) inside,
      ap (is_accepted_with (goes_outside site (packet_of q))) new ∙ leaf.0,
      (leaf.1.0, new ∙ leaf.1.1, leaf.1.2),
    )

-- two points with different values are those of packets that get different sources
pub sources_named : (site : Site) (tables : Tables) (t : Plain Outcome) → AreRegular site tables → HasSources site tables t → (p q : List ℕ)
    → AreApart entry_and_flags (tops_of site) t Drop p q → NamesPackets site (BreaksOneSource site tables) (packets_at p q).0 (packets_at p q).1
sources_named site tables t regular sources p q apart =
    let have = apart.have in
    let first = outgoing_at site tables t regular sources p apart.leaf have.within have.here have.counts in
    let second = outgoing_at site tables t regular sources q apart.other have.other_within have.there have.other_counts in
    record {
      other = packet_of q;
      of_site = first.0;
      other_of_site = second.0;
      new = refl;
      both = refl;
      such = record {
        outside = first.1;
        other_outside = second.1;
        agree = packets_agree p q have.near;
        differ = record {
          rewriting = first.2.0;
          other = second.2.0;
          accepted = first.2.1;
          other_accepted = second.2.1;
          differ = λ same. apart.differ (first.2.2 ∙ source_same first.2.0 second.2.0 same ∙ sym second.2.2);
        };
      };
    }

-- the value at the point of a packet that goes out
value_there : (site : Site) (tables : Tables) (t : Plain Outcome) → AreRegular site tables → HasSources site tables t → (p : Packet) (v : Rewrite) → IsPacketOf site p
    → IsAcceptedWith tables (goes_outside site p) p → new_of tables p ≡ Accept v → value t (point_of p no_ends) ≡ Some (Accept (end_alone HostSources v))
value_there site tables t regular sources p v w out accepted =
    let here = sources (point_of p no_ends) w in
    let new : new_of tables p ≡ here.0 = new_is site tables regular p no_ends here.0 w here.1 in
    let goes : goes_out site here.0 (point_of p no_ends) ≡ true = ap (is_accepted_with (goes_outside site p)) (sym new) ∙ out in
    here.2 ∙ ap (λ b. Some (if b then alone HostSources here.0 else Drop)) goes ∙ ap (λ o. Some (alone HostSources o)) (sym new ∙ accepted)

accepts_some : (w : Rewrite) → Accept w ≢ Drop
accepts_some w e = cc

-- where equal fields give equal values, there are no such packets
pub no_sources_named : (site : Site) (tables : Tables) (t : Plain Outcome) → AreRegular site tables → HasSources site tables t
    → AreAlikeBy (λ x. x) entry_and_flags (tops_of site) t Drop → (first : Pair) (second : Option Pair) → NamesPackets site (BreaksOneSource site tables) first second → ⊥
no_sources_named site tables t regular sources alike first second named =
    let p : Packet = first.packet in
    let q : Packet = named.other in
    let such = named.such in
    let v : Rewrite = such.differ.rewriting in
    let w : Rewrite = such.differ.other in
    let have : HaveNear entry_and_flags (tops_of site) t Drop (point_of p no_ends) (point_of q no_ends) (Accept (end_alone HostSources v)) (Accept (end_alone HostSources w)) = record {
      within = named.of_site;
      other_within = named.other_of_site;
      near = points_near p q such.agree;
      here = value_there site tables t regular sources p v named.of_site such.outside such.differ.accepted;
      there = value_there site tables t regular sources q w named.other_of_site such.other_outside such.differ.other_accepted;
      counts = accepts_some (end_alone HostSources v);
      other_counts = accepts_some (end_alone HostSources w);
    } in
    such.differ.differ (source_kept v w (alike (point_of p no_ends) (point_of q no_ends) _ _ have))
