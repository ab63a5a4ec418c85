-- What new packets that are accepted keep, where tables fit.
use Rattle.std.proofs.Common.{◌≡◌, ℕ, Bool, true, false, ◌&&◌, ◌||◌, nat_lt, is_some, Option, Some, None, List, [], ◌∷◌, All, arith, refl, sym, ap, ◌∙◌}
use Rattle.std.proofs.lemmas.Bool.{false≢true, ltb-false}
use Rattle.std.proofs.lemmas.List.Elements.{All-head, All-tail}
use Rattle.fws_net.specs.declared.outcome.End.{End}
use Rattle.fws_net.specs.declared.outcome.Outcome.TheVariants.{Accept}
use Rattle.fws_net.specs.declared.outcome.Rewrite.{Rewrite}
use Rattle.fws_net.specs.declared.packet.Lang.TheVariants.{Ipfw}
use Rattle.fws_net.specs.declared.packet.Packet.{Packet}
use Rattle.fws_net.specs.declared.site.Site.{Site}
use Rattle.fws_tree.specs.declared.tables.Tables.{Tables}
use Rattle.fws_place.specs.declared.breach.Pair.{Pair}
use Rattle.fws_place.specs.declared.clause.Clause.{Clause}
use Rattle.fws_place.specs.declared.clause.Clause.TheVariants.{FewOutcomes, KeepsSourcePorts, KeepsHostDestinations, KeepsDeliveredSources, FewRedirects, DropsAheadOfLookup, WritesWholeAddresses}
use Rattle.fws_place.specs.Clauses.{IsAcceptedWith, NamesPacket}
use Rattle.fws_place.specs.Fits.{Fits, Meets}
use Rattle.fws_place.specs.Meaning.{IsPacketOf, new_of}
use Rattle.fws_place.specs.Pairs.{is_host}
use Rattle.fws_place.specs.Rewritings.{is_accepted_with, is_delivered, is_network, new_exit, writes_destination, writes_source, writes_source_port}

-- The clauses of ipfw

pub record Clauses (site : Site) (tables : Tables) : Type 0 where
  pub few_outcomes : Meets site tables FewOutcomes
  pub source_ports : Meets site tables KeepsSourcePorts
  pub host_destinations : Meets site tables KeepsHostDestinations
  pub delivered_sources : Meets site tables KeepsDeliveredSources
  pub few_redirects : Meets site tables FewRedirects
  pub ahead : Meets site tables DropsAheadOfLookup
  pub whole_addresses : Meets site tables WritesWholeAddresses

pub clauses_met : (site : Site) (tables : Tables) → Fits Ipfw site tables → Clauses site tables
clauses_met site tables fits = record {
  few_outcomes = All-head P FewOutcomes after_1 fits;
  source_ports = All-head P KeepsSourcePorts after_2 from_2;
  host_destinations = All-head P KeepsHostDestinations after_3 from_3;
  delivered_sources = All-head P KeepsDeliveredSources after_4 from_4;
  few_redirects = All-head P FewRedirects after_6 from_6;
  ahead = All-head P DropsAheadOfLookup after_7 from_7;
  whole_addresses = All-head P WritesWholeAddresses [] (All-tail P DropsAheadOfLookup after_7 from_7);
} where
  P : Clause → Type 0
  P = Meets site tables

  after_7 : List Clause
  after_7 = WritesWholeAddresses ∷ []

  after_6 : List Clause
  after_6 = DropsAheadOfLookup ∷ after_7

  after_4 : List Clause
  after_4 = FewRedirects ∷ after_6

  after_3 : List Clause
  after_3 = KeepsDeliveredSources ∷ after_4

  after_2 : List Clause
  after_2 = KeepsHostDestinations ∷ after_3

  after_1 : List Clause
  after_1 = KeepsSourcePorts ∷ after_2

  from_2 : All P after_1
  from_2 = All-tail P FewOutcomes after_1 fits

  from_3 : All P after_2
  from_3 = All-tail P KeepsSourcePorts after_2 from_2

  from_4 : All P after_3
  from_4 = All-tail P KeepsHostDestinations after_3 from_3

  from_6 : All P after_4
  from_6 = All-tail P KeepsDeliveredSources after_4 from_4

  from_7 : All P after_6
  from_7 = All-tail P FewRedirects after_6 from_6

-- A packet that would break a clause

-- what no packet is named for doesn't hold of a packet of the site
unnamed : (site : Site) (Such : Packet → Type 0) → ((first : Pair) (second : Option Pair) → NamesPacket site Such first second → ⊥) → (p : Packet) → IsPacketOf site p → Such p → ⊥
unnamed site Such none p of_site such =
    none (record { packet = p; rec = None }) None (record { of_site = of_site; new = refl; alone = refl; such = such })

no_truth : (b : Bool) → (b ≡ true → ⊥) → b ≡ false
no_truth true h = absurd (h refl)
no_truth false h = refl

or_first : (a b : Bool) → (a || b) ≡ false → a ≡ false
or_first true b h = absurd (false≢true (sym h))
or_first false b h = refl

or_second : (a b : Bool) → (a || b) ≡ false → b ≡ false
or_second true b h = absurd (false≢true (sym h))
or_second false b h = h

module _ (site : Site) (tables : Tables) (met : Clauses site tables) (p : Packet) (of_site : IsPacketOf site p) (w : Rewrite) (is : new_of tables p ≡ Accept w) where
  accepted_with : (test : Rewrite → Bool) → test w ≡ true → IsAcceptedWith tables test p
  accepted_with test h = ap (is_accepted_with test) is ∙ h

  pub no_source_port : writes_source_port w ≡ false
  no_source_port = no_truth (writes_source_port w)
      (λ h. unnamed site (IsAcceptedWith tables writes_source_port) met.source_ports p of_site (accepted_with writes_source_port h))

  no_destination : is_host p ≡ true → writes_destination w ≡ false
  no_destination host = no_truth (writes_destination w)
      (λ h. unnamed site (λ q. (is_host q ≡ true) × IsAcceptedWith tables writes_destination q) met.host_destinations p of_site (host, accepted_with writes_destination h))

  delivered : (is_delivered (new_exit site p w) && writes_source w) ≡ false
  delivered = no_truth (is_delivered (new_exit site p w) && writes_source w)
      (λ h. unnamed site (λ q. IsAcceptedWith tables (λ v. is_delivered (new_exit site q v) && writes_source v) q) met.delivered_sources p of_site
      (accepted_with (λ v. is_delivered (new_exit site p v) && writes_source v) h))

  whole : (is_network w.src || is_network w.dst) ≡ false
  whole = no_truth (is_network w.src || is_network w.dst)
      (λ h. unnamed site (IsAcceptedWith tables (λ v. is_network v.src || is_network v.dst)) met.whole_addresses p of_site
      (accepted_with (λ v. is_network v.src || is_network v.dst) h))

  nothing_there : (end : Option End) → is_some end ≡ false → end ≡ None
  nothing_there None h = refl
  nothing_there (Some e) h = absurd (false≢true (sym h))

  -- the host's own packets keep their destination
  pub host_keeps : is_host p ≡ true → w.dst ≡ None
  host_keeps host = nothing_there w.dst (no_destination host)

  -- what is delivered keeps its source
  pub delivered_keeps : is_delivered (new_exit site p w) ≡ true → w.src ≡ None
  delivered_keeps here = nothing_there w.src (sym (ap (λ b. b && writes_source w) here) ∙ delivered)

  len_whole : (e : End) → nat_lt e.len 32 ≡ false → e.len ≡ 32
  len_whole e h =
      let low = ltb-false e.len 32 h in
      let high = e.len_high in
      omega (arith, low, high)

  -- a source that is written is a whole address without a port
  pub source_whole : (e : End) → w.src ≡ Some e → e.len ≡ 32
  source_whole e src = len_whole e (sym (ap is_network src) ∙ or_first (is_network w.src) (is_network w.dst) whole)

  pub source_bare : (e : End) → w.src ≡ Some e → e.port ≡ None
  source_bare e src = no_port e.port (sym (ap (λ s. writes_source_port (record { src = s; dst = w.dst })) src) ∙ no_source_port) where
    no_port : (port : Option ℕ) → is_some port ≡ false → port ≡ None
    no_port None h = refl
    no_port (Some n) h = absurd (false≢true (sym h))

  -- and a destination is a whole address
  pub destination_whole : (e : End) → w.dst ≡ Some e → e.len ≡ 32
  destination_whole e dst = len_whole e (sym (ap is_network dst) ∙ or_second (is_network w.src) (is_network w.dst) whole)
