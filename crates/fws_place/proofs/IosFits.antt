-- What follows where tables fit Cisco IOS.
use Rattle.std.proofs.Common.{◌≡◌, ◌≢◌, ◌⊎◌, inl, inr, ℕ, ◌≤◌, Bool, true, false, ◌&&◌, ◌||◌, not, is_some, Option, Some, None, arith, refl, sym, ◌∙◌, ap}
use Rattle.std.proofs.lemmas.Bool.{and_from, both_ways, cases_Bool, cases_lt, false≢true, lt-ltb, or_left, or_right, true_from_ne_false}
use Rattle.std.specs.Prelude.{nat_lt}
use Rattle.std.specs.List.{list_any}
use Rattle.fws_net.specs.declared.connection.Rec.{Rec}
use Rattle.fws_net.specs.declared.outcome.End.{End}
use Rattle.fws_net.specs.declared.outcome.Outcome.{Outcome}
use Rattle.fws_net.specs.declared.outcome.Outcome.TheVariants.{Drop, Accept}
use Rattle.fws_net.specs.declared.outcome.Rewrite.{Rewrite}
use Rattle.fws_net.specs.declared.packet.Lang.TheVariants.{Ios}
use Rattle.fws_net.specs.declared.packet.Packet.{Packet}
use Rattle.fws_net.specs.declared.site.Site.{Site}
use Rattle.fws_net.specs.Routes.{has_addr, is_local, is_loopback}
use Rattle.fws_net.specs.Transits.{nothing_written}
use Rattle.fws_tree.specs.declared.tables.Tables.{Tables}
use Rattle.fws_tree.specs.Plain.{value}
use Rattle.fws_tree.specs.Regular.{AreRegular}
use Rattle.fws_place.specs.declared.clause.Clause.TheVariants.{FewOutcomes, KeepsSourcePorts, KeepsDeliveredSources, PassesHost, KeepsDestinations, WritesInsideOut, TellsByAckAlone, OneSource, DropsAlways, WritesWholeAddresses}
use Rattle.fws_place.specs.Clauses.{IsAcceptedWith}
use Rattle.fws_place.specs.Fits.{Fits, Meets}
use Rattle.fws_place.specs.IosLaws.{IosAcceptedGoOn, IosAckAhead, IosEstablishedByAck, IosHostPasses, IosKeepsNewPackets, IosNewByAck, IosPairsAreTold, IosSourcesAgree}
use Rattle.fws_place.specs.Lost.{is_lost_at}
use Rattle.fws_place.specs.Meaning.{IsPacketOf, IsPairOf, est_of, new_of, no_ends, point_of}
use Rattle.fws_place.specs.Pairs.{IsLost}
use Rattle.fws_place.specs.Rewritings.{goes_outside, is_accepted, is_accepted_with, is_delivered, is_network, new_exit, writes_destination, writes_source, writes_source_port}
use Rattle.fws_place.specs.Seen.{IsAcceptedSomewhere}
use Rattle.fws_place.specs.Unchanged.{is_unchanged}
use Rattle.fws_place.proofs.CanDrop.{host_found, local_found}
use Rattle.fws_place.proofs.HostPasses.{unchanged_is}
use Rattle.fws_place.proofs.PfFits.{got, no_truth, not_different, nothing_there, unnamed}
use Rattle.fws_place.proofs.Viewing.{accepts, found, is_lost, lost_is, not_accepted, unwritten}

-- Clauses

-- the tables meet the clauses of Cisco IOS
pub record Clauses (site : Site) (tables : Tables) : Type 0 where
  pub source_ports : Meets site tables KeepsSourcePorts
  pub delivered_sources : Meets site tables KeepsDeliveredSources
  pub host : Meets site tables PassesHost
  pub destinations : Meets site tables KeepsDestinations
  pub inside_out : Meets site tables WritesInsideOut
  pub by_ack : Meets site tables TellsByAckAlone
  pub one_source : Meets site tables OneSource
  pub always : Meets site tables DropsAlways
  pub whole : Meets site tables WritesWholeAddresses

clauses_met : (site : Site) (tables : Tables) → Fits Ios site tables → Clauses site tables
clauses_met site tables fits = record {
  source_ports = fits 1 FewOutcomes (omega arith);
  delivered_sources = fits 3 FewOutcomes (omega arith);
  host = fits 4 FewOutcomes (omega arith);
  destinations = fits 5 FewOutcomes (omega arith);
  inside_out = fits 6 FewOutcomes (omega arith);
  by_ack = fits 7 FewOutcomes (omega arith);
  one_source = fits 8 FewOutcomes (omega arith);
  always = fits 9 FewOutcomes (omega arith);
  whole = fits 10 FewOutcomes (omega arith);
}

-- what is accepted in some connection isn't dropped in all
not_all : (site : Site) (tables : Tables) → AreRegular site tables → (p : Packet) → IsAcceptedSomewhere site tables p
    → ((r : Rec) → IsPairOf site p r → (IsLost site p r → ⊥) → est_of tables p r ≡ Drop) → ⊥
not_all site tables regular p s all = s.accepted (all s.ends s.of_site (found site tables regular p s.ends s.of_site s.accepted))

-- The host

pub host_passes : IosHostPasses
host_passes site tables regular fits p of_site host = (
  unchanged_is (new_of tables p) (true_from_ne_false (is_unchanged (new_of tables p)) (λ e. met.host (record { packet = p; rec = None }) None (inl (record {
    of_site = of_site;
    new = refl;
    alone = refl;
    such = record { host = host; changed = λ same. both_ways (is_unchanged (new_of tables p)) e (ap is_unchanged same) };
  })))),
  λ r w. unwritten site tables regular p r w (λ drop. met.host (record { packet = p; rec = Some r }) None (inr (record {
    ends = r;
    of_site = w;
    established = refl;
    alone = refl;
    such = record { host = host; dropped = record { of_site = w; found = host_found site p r host; dropped = drop } };
  }))),
)
  where
    met : Clauses site tables
    met = clauses_met site tables fits

-- Established pairs

-- a dropped pair that isn't lost has a packet that is dropped always
dropped_always : (site : Site) (tables : Tables) → Meets site tables DropsAlways → (p : Packet) (r : Rec) → IsPairOf site p r → (IsLost site p r → ⊥) → est_of tables p r ≡ Drop
    → (((s : Rec) → IsPairOf site p s → (IsLost site p s → ⊥) → est_of tables p s ≡ Drop) → new_of tables p ≡ Drop → ⊥) → ⊥
dropped_always site tables always p r w kept drop sometimes = always (record { packet = p; rec = Some r }) None (record {
  ends = r;
  of_site = w;
  established = refl;
  alone = refl;
  such = record { dropped = record { of_site = w; found = kept; dropped = drop }; sometimes = λ all. sometimes all.0 all.1 };
})

pub pairs_told : IosPairsAreTold
pairs_told site tables regular fits p r w arrives = by (est_of tables p r) refl
  where
    by : (o : Outcome) → est_of tables p r ≡ o
        → (IsLost site p r × (est_of tables p r ≡ Drop)) ⊎ (IsAcceptedSomewhere site tables p × (est_of tables p r ≡ Accept nothing_written))
        ⊎ ((IsAcceptedSomewhere site tables p → ⊥) × (est_of tables p r ≡ Drop))
    by (Accept v) e =
        let n : est_of tables p r ≢ Drop = λ drop. (let never : Accept v ≡ Drop = sym e ∙ drop in cc) in
        inr (inl (record { ends = r; of_site = w; accepted = n }, unwritten site tables regular p r w n))
    by Drop e = elim (cases_Bool (is_lost_at site (point_of p r))) [
      | inl lost ↦ inl (lost_is site p r lost, e)
      | inr kept ↦ inr (inr (
        (λ s. dropped_always site tables (clauses_met site tables fits).always p r w (λ lost. both_ways (is_lost_at site (point_of p r)) kept (is_lost site p r lost)) e
            (λ all new. not_all site tables regular p s all)),
        e,
      ))
    ]

-- 127.0.0.1
abbrev loopback : Rec
loopback = record { rdst = 2130706433; rdport = 0; rsrc = 0; rsport = 0 }

loopback_local : (site : Site) → is_local site 2130706433 ≡ true
loopback_local site = or_right (list_any (λ face. has_addr face 2130706433) site.faces) (is_loopback 2130706433) refl

-- a packet of the site with ends of another pair
with_ends : (site : Site) (p q : Packet) (r : Rec) → IsPacketOf site q → IsPairOf site p r → IsPairOf site q r
with_ends site p q r v w = (v.0, (v.1.0, (v.1.1.0, (v.1.1.1.0, (v.1.1.1.1.0, (v.1.1.1.1.1.0, (v.1.1.1.1.1.1.0, (v.1.1.1.1.1.1.1.0, w.1.1.1.1.1.1.1.1))))))))

-- a packet of the site that a connection sends to 127.0.0.1
to_loopback : (site : Site) (p : Packet) → IsPacketOf site p → IsPairOf site p loopback
to_loopback site p v =
    (v.0, (v.1.0, (v.1.1.0, (v.1.1.1.0, (v.1.1.1.1.0, (v.1.1.1.1.1.0, (v.1.1.1.1.1.1.0, (v.1.1.1.1.1.1.1.0, (omega arith, (omega arith, (omega arith, (omega arith, tt))))))))))))

pub accepted_go_on : IosAcceptedGoOn
accepted_go_on site tables regular fits p w of_site arrives accepted = record {
  ends = loopback;
  of_site = to_loopback site p of_site;
  accepted = λ drop. dropped_always site tables (clauses_met site tables fits).always p loopback (to_loopback site p of_site) (local_found site p loopback (loopback_local site)) drop
      (λ all new. (let never : Accept w ≡ Drop = sym accepted ∙ new in cc));
}

-- New packets

-- a whole address is written, if any
all_bits : (src dst : Option End) (e : End) → src ≡ Some e → (is_network src || is_network dst) ≡ false → e.len ≡ 32
all_bits src dst e is none =
    let never : nat_lt e.len 32 ≡ true → ⊥ = λ lt. both_ways (is_network src || is_network dst) none (or_left (is_network src) (is_network dst) (ap is_network is ∙ lt)) in
    whole e.len e.len_high never
  where
    whole : (n : ℕ) → n ≤ 32 → (nat_lt n 32 ≡ true → ⊥) → n ≡ 32
    whole n le short = elim (cases_lt n 32) [ inl lt ↦ absurd (short (lt-ltb n 32 lt)) | inr ge ↦ omega arith ]

pub keeps_new_packets : IosKeepsNewPackets
keeps_new_packets site tables regular fits p w of_site is = record {
  dst = nothing_there w.dst (no_truth (writes_destination w) (λ h. unnamed site (IsAcceptedWith tables writes_destination) met.destinations p of_site (accepted writes_destination h)));
  port = no_truth (writes_source_port w) (λ h. unnamed site (IsAcceptedWith tables writes_source_port) met.source_ports p of_site (accepted writes_source_port h));
  whole = λ e src. all_bits w.src w.dst e src (no_truth (is_network w.src || is_network w.dst)
      (λ h. unnamed site (IsAcceptedWith tables (λ v. is_network v.src || is_network v.dst)) met.whole p of_site (accepted (λ v. is_network v.src || is_network v.dst) h)));
  crosses = λ e src. true_from_ne_false (goes_outside site p w) (λ stays.
      unnamed site (λ q. IsAcceptedWith tables (λ v. writes_source v && not (goes_outside site q v)) q) met.inside_out p of_site
      (accepted (λ v. writes_source v && not (goes_outside site p v))
      (and_from (writes_source w) (not (goes_outside site p w)) (ap is_some src) (ap not stays))));
  delivered = λ here. nothing_there w.src (sym (ap (λ b. b && writes_source w) here) ∙ no_truth (is_delivered (new_exit site p w) && writes_source w)
      (λ h. unnamed site (λ q. IsAcceptedWith tables (λ v. is_delivered (new_exit site q v) && writes_source v) q) met.delivered_sources p of_site
      (accepted (λ v. is_delivered (new_exit site p v) && writes_source v) h)));
  leaves = regular.fresh_leaves (point_of p no_ends) w of_site (got (value tables.fresh.1 (point_of p no_ends)) w is);
}
  where
    met : Clauses site tables
    met = clauses_met site tables fits

    accepted : (test : Rewrite → Bool) → test w ≡ true → IsAcceptedWith tables test p
    accepted test h = ap (is_accepted_with test) is ∙ h

-- ACK and RST

-- truth values that don't differ are equal
not_different_tests : (a b : Bool) → (a ≢ b → ⊥) → a ≡ b
not_different_tests true true h = refl
not_different_tests true false h = absurd (h (λ e. false≢true (sym e)))
not_different_tests false true h = absurd (h (λ e. false≢true e))
not_different_tests false false h = refl

pub new_by_ack : IosNewByAck
new_by_ack site tables regular fits p q first second arrives agree same =
    not_different_tests (is_accepted (new_of tables p)) (is_accepted (new_of tables q))
    (λ differ. (clauses_met site tables fits).by_ack (record { packet = p; rec = None }) (Some (record { packet = q; rec = None })) (inl (record {
      other = q;
      of_site = first;
      other_of_site = second;
      new = refl;
      both = refl;
      such = record { arrives = arrives; agree = agree; same = same; differ = differ };
    })))

pub established_by_ack : IosEstablishedByAck
established_by_ack site tables regular fits p q first second arrives agree same s =
    let w : IsPairOf site q s.ends = with_ends site p q s.ends second s.of_site in
    record {
      ends = s.ends;
      of_site = w;
      accepted = λ drop. (clauses_met site tables fits).by_ack (record { packet = p; rec = Some s.ends }) (Some (record { packet = q; rec = Some s.ends })) (inr (inl (record {
        ends = s.ends;
        other = q;
        other_ends = s.ends;
        of_site = s.of_site;
        other_of_site = w;
        established = refl;
        both = refl;
        such = record {
          arrives = arrives;
          agree = agree;
          ends = refl;
          found = found site tables regular p s.ends s.of_site s.accepted;
          same = same;
          differ = λ e. s.accepted (not_accepted (est_of tables p s.ends) (λ a. both_ways (is_accepted (est_of tables p s.ends)) (e ∙ ap is_accepted drop)
              ((accepts (est_of tables p s.ends)).1 a)));
        };
      })));
    }

pub ack_ahead : IosAckAhead
ack_ahead site tables regular fits p q b first second arrives kept tcp agree acknowledges begins drop s told =
    told.0 (true_from_ne_false b (λ off. (clauses_met site tables fits).by_ack (record { packet = p; rec = None }) (Some (record { packet = q; rec = None })) (inr (inr (record {
      other = q;
      of_site = first;
      other_of_site = second;
      new = refl;
      both = refl;
      such = record {
        arrives = arrives;
        found = kept;
        tcp = tcp;
        agree = agree;
        acknowledges = acknowledges;
        begins = begins;
        dropped = drop;
        sometimes = λ all. not_all site tables regular p s all;
        always = λ r w lost. not_accepted (est_of tables q r) (λ a. both_ways b off (told.1 (record { ends = r; of_site = w; accepted = a })));
      };
    })))))

-- Sources

pub sources_agree : IosSourcesAgree
sources_agree site tables regular fits p q v w first second agree accepted other outside other_outside =
    not_different v.src w.src (λ differ. (clauses_met site tables fits).one_source (record { packet = p; rec = None }) (Some (record { packet = q; rec = None })) (record {
      other = q;
      of_site = first;
      other_of_site = second;
      new = refl;
      both = refl;
      such = record {
        outside = ap (is_accepted_with (goes_outside site p)) accepted ∙ outside;
        other_outside = ap (is_accepted_with (goes_outside site q)) other ∙ other_outside;
        agree = agree;
        differ = record { rewriting = v; other = w; accepted = accepted; other_accepted = other; differ = differ };
      };
    }))
