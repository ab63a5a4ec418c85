-- Packets and pairs that flags tell apart.
use Rattle.std.proofs.Common.{◌≡◌, ◌≢◌, ◌⊎◌, ℕ, zero, suc, Bool, true, false, ◌||◌, not, Option, Some, None, List, inl, inr, refl, sym, ◌∙◌, ap, subst}
use Rattle.std.proofs.lemmas.Bool.{eqb-true, false_from_ne_true, not-true, not_from_false}
use Rattle.std.specs.Prelude.{◌↔◌, nat_eq, slice_index, if◌then◌else◌}
use Rattle.fws_box.specs.Sides.{IsWithin}
use Rattle.fws_net.specs.declared.connection.Rec.{Rec}
use Rattle.fws_net.specs.declared.exit.Exit.TheVariants.{Deliver, Out, Lost}
use Rattle.fws_net.specs.declared.outcome.Outcome.{Outcome}
use Rattle.fws_net.specs.declared.outcome.Outcome.TheVariants.{Drop, Accept}
use Rattle.fws_net.specs.declared.outcome.Rewrite.{Rewrite}
use Rattle.fws_net.specs.declared.packet.Packet.{Packet}
use Rattle.fws_net.specs.declared.site.Site.{Site}
use Rattle.fws_net.specs.Points.{tops_of, packet_of}
use Rattle.fws_net.specs.Routes.{exit_at, is_local, route_of}
use Rattle.fws_tree.specs.declared.tables.Tables.{Tables}
use Rattle.fws_tree.specs.Changed.{Agree}
use Rattle.fws_tree.specs.Plain.{Plain, value}
use Rattle.fws_tree.specs.Regular.{AreRegular}
use Rattle.fws_place.specs.declared.breach.Pair.{Pair}
use Rattle.fws_place.specs.declared.clause.Clause.TheVariants.{TellsByAckAlone}
use Rattle.fws_place.specs.AheadOfLookup.{IsAcceptedNew}
use Rattle.fws_place.specs.Apart.{flags_alone}
use Rattle.fws_place.specs.ByAck.{acknowledges, is_found, AreAheadAt, AreSoughtSuch, AreToldByMore}
use Rattle.fws_place.specs.Clauses.{has_ack_or_rst, AgreeButFlags, BreaksByAckAhead, BreaksByAckEstablished, BreaksByAckNew, NamesPackets, NamesPairs}
use Rattle.fws_place.specs.Found.{IsSought}
use Rattle.fws_place.specs.Meaning.{IsPairOf, est_of, new_of, no_ends, point_of, rec_of}
use Rattle.fws_place.specs.NamedTwo.{packets_at, pairs_at}
use Rattle.fws_place.specs.Pairs.{AllOfPacketDropped, is_host}
use Rattle.fws_place.specs.Rewritings.{is_accepted}
use Rattle.fws_place.specs.Seen.{IsAcceptedPair, IsAcceptedSomewhere, Tells}
use Rattle.fws_place.proofs.NewPackets.{packet_within}
use Rattle.fws_place.proofs.PairPoints.{point_back}
use Rattle.fws_place.proofs.Viewing.{accepts, found, not_accepted, some_once}

-- Packets that agree

-- the packets of points that agree in all but flags
packets_agree : (p q : List ℕ) → Agree flags_alone p q → AgreeButFlags (packet_of p) (packet_of q)
packets_agree p q near =
    let e0 : (packet_of p).entry ≡ (packet_of q).entry = near 0 refl in
    let e1 : (packet_of p).proto ≡ (packet_of q).proto = near 1 refl in
    let e2 : (packet_of p).dst ≡ (packet_of q).dst = near 2 refl in
    let e3 : (packet_of p).dport ≡ (packet_of q).dport = near 3 refl in
    let e4 : (packet_of p).src ≡ (packet_of q).src = near 4 refl in
    let e5 : (packet_of p).sport ≡ (packet_of q).sport = near 5 refl in
    let e7 : (packet_of p).icmp ≡ (packet_of q).icmp = near 7 refl in
    λ i. record { entry = e0 i; proto = e1 i; dst = e2 i; dport = e3 i; src = e4 i; sport = e5 i; flags = (packet_of p).flags; icmp = e7 i }

-- and their ends
ends_agree : (p q : List ℕ) → Agree flags_alone p q → rec_of p ≡ rec_of q
ends_agree p q near =
    let e8 : (rec_of p).rdst ≡ (rec_of q).rdst = near 8 refl in
    let e9 : (rec_of p).rdport ≡ (rec_of q).rdport = near 9 refl in
    let e10 : (rec_of p).rsrc ≡ (rec_of q).rsrc = near 10 refl in
    let e11 : (rec_of p).rsport ≡ (rec_of q).rsport = near 11 refl in
    λ i. record { rdst = e8 i; rdport = e9 i; rsrc = e10 i; rsport = e11 i }

-- and points of packets that agree
points_near : (p q : Packet) (r s : Rec) → AgreeButFlags p q → r ≡ s → Agree flags_alone (point_of p r) (point_of q s)
points_near p q r s agree ends zero n = ap (λ (x : Packet). x.entry) agree
points_near p q r s agree ends (suc zero) n = ap (λ (x : Packet). x.proto) agree
points_near p q r s agree ends (suc (suc zero)) n = ap (λ (x : Packet). x.dst) agree
points_near p q r s agree ends (suc (suc (suc zero))) n = ap (λ (x : Packet). x.dport) agree
points_near p q r s agree ends (suc (suc (suc (suc zero)))) n = ap (λ (x : Packet). x.src) agree
points_near p q r s agree ends (suc (suc (suc (suc (suc zero))))) n = ap (λ (x : Packet). x.sport) agree
points_near p q r s agree ends (suc (suc (suc (suc (suc (suc zero)))))) n = absurd (cc)
points_near p q r s agree ends (suc (suc (suc (suc (suc (suc (suc zero))))))) n = ap (λ (x : Packet). x.icmp) agree
points_near p q r s agree ends (suc (suc (suc (suc (suc (suc (suc (suc zero)))))))) n = ap (λ (x : Rec). x.rdst) ends
points_near p q r s agree ends (suc (suc (suc (suc (suc (suc (suc (suc (suc zero))))))))) n = ap (λ (x : Rec). x.rdport) ends
points_near p q r s agree ends (suc (suc (suc (suc (suc (suc (suc (suc (suc (suc zero)))))))))) n = ap (λ (x : Rec). x.rsrc) ends
points_near p q r s agree ends (suc (suc (suc (suc (suc (suc (suc (suc (suc (suc (suc zero))))))))))) n = ap (λ (x : Rec). x.rsport) ends
points_near p q r s agree ends (suc (suc (suc (suc (suc (suc (suc (suc (suc (suc (suc (suc f)))))))))))) n = refl

-- they agree the other way round
agree_back : (p q : Packet) → AgreeButFlags p q → AgreeButFlags q p
agree_back p q agree =
    let back : q ≡ record (record q { flags = p.flags }) { flags = q.flags } = refl in
    back ∙ ap (λ (x : Packet). record x { flags = q.flags }) (sym agree)

-- Flags as they are asked

same_asked : (asked : Bool) (a b : Bool) → (if asked then a else not a) ≡ true → (if asked then b else not b) ≡ true → a ≡ b
same_asked true a b e f = e ∙ sym f
same_asked false a b e f = not-true a e ∙ sym (not-true b f)

asked_itself : (a : Bool) → (if a then a else not a) ≡ true
asked_itself true = refl
asked_itself false = refl

-- Trees that tell which pairs are accepted

some_accept : (w : Rewrite) → Accept w ≢ Drop
some_accept w e = cc

-- what is told of two pairs that flags tell apart
pub record AreTold (site : Site) (out : Packet → Rec → Outcome) (p : Packet) (r : Rec) (q : Packet) (s : Rec) : Type 0 where
  pub of_site : IsPairOf site p r
  pub other_of_site : IsPairOf site q s
  pub arrives : is_host p ≡ false
  pub agree : AgreeButFlags p q
  pub ends : r ≡ s
  pub same : has_ack_or_rst p ≡ has_ack_or_rst q
  pub accepted : out p r ≢ Drop
  pub dropped : out q s ≡ Drop

module _ (site : Site) (out : Packet → Rec → Outcome) (t : Plain Bool) (told : Tells site (λ p r. out p r ≢ Drop) t) where
  accepted_at : (p : Packet) (r : Rec) → IsPairOf site p r → value t (point_of p r) ≡ Some true → out p r ≢ Drop
  accepted_at p r w e = let here = told.tells p r w in here.2.0 (some_once here.0 true (sym here.1 ∙ e))

  dropped_at : (p : Packet) (r : Rec) → IsPairOf site p r → value t (point_of p r) ≡ Some false → out p r ≡ Drop
  dropped_at p r w e =
      let here = told.tells p r w in
      let off : here.0 ≡ false = some_once here.0 false (sym here.1 ∙ e) in
      not_accepted (out p r) (λ n. let on : here.0 ≡ true = here.2.1 n in absurd (cc))

  true_there : (p : Packet) (r : Rec) → IsPairOf site p r → out p r ≢ Drop → value t (point_of p r) ≡ Some true
  true_there p r w n = let here = told.tells p r w in here.1 ∙ ap Some (here.2.1 n)

  false_there : (p : Packet) (r : Rec) → IsPairOf site p r → out p r ≡ Drop → value t (point_of p r) ≡ Some false
  false_there p r w e =
      let here = told.tells p r w in
      here.1 ∙ ap Some (false_from_ne_true here.0 (λ on. here.2.0 on e))

  -- the pairs of points
  pub told_pairs : (asked : Bool) (p q : List ℕ) → AreToldByMore asked (tops_of site) t p q → AreTold site out (packet_of p) (rec_of p) (packet_of q) (rec_of q)
  told_pairs asked p q h =
      let back : point_of (packet_of p) (rec_of p) ≡ p = point_back site p h.first.0 in
      let other_back : point_of (packet_of q) (rec_of q) ≡ q = point_back site q h.within in
      let inside : IsPairOf site (packet_of p) (rec_of p) = subst (λ l. IsWithin (tops_of site) l) (sym back) h.first.0 in
      let other_inside : IsPairOf site (packet_of q) (rec_of q) = subst (λ l. IsWithin (tops_of site) l) (sym other_back) h.within in
      record {
        of_site = inside;
        other_of_site = other_inside;
        arrives = not-true (is_host (packet_of p)) h.arrives;
        agree = packets_agree p q h.near;
        ends = ends_agree p q h.near;
        same = same_asked asked (acknowledges (slice_index p 6)) (acknowledges (slice_index q 6)) h.flags h.other_flags;
        accepted = accepted_at (packet_of p) (rec_of p) inside (ap (value t) back ∙ h.first.1);
        dropped = dropped_at (packet_of q) (rec_of q) other_inside (ap (value t) other_back ∙ h.second);
      }

  -- points of pairs
  pub told_points : (p : Packet) (r : Rec) (q : Packet) (s : Rec) → AreTold site out p r q s → AreToldByMore (has_ack_or_rst p) (tops_of site) t (point_of p r) (point_of q s)
  told_points p r q s h = record {
    first = (h.of_site, true_there p r h.of_site h.accepted);
    within = h.other_of_site;
    second = false_there q s h.other_of_site h.dropped;
    arrives = not_from_false (is_host p) h.arrives;
    flags = asked_itself (has_ack_or_rst p);
    other_flags = ap (λ b. if has_ack_or_rst p then b else not b) (sym h.same) ∙ asked_itself (has_ack_or_rst p);
    near = points_near p q r s h.agree h.ends;
  }

  -- of two pairs that are told apart either may come first
  pub none_told : ((asked : Bool) (p q : List ℕ) → AreToldByMore asked (tops_of site) t p q → ⊥) → (p : Packet) (r : Rec) (q : Packet) (s : Rec) → IsPairOf site p r → IsPairOf site q s
      → is_host p ≡ false → AgreeButFlags p q → r ≡ s → has_ack_or_rst p ≡ has_ack_or_rst q → is_accepted (out p r) ≢ is_accepted (out q s) → ⊥
  none_told none p r q s w v arrives agree ends same differ = by (out p r) (out q s) refl refl
    where
      by : (a b : Outcome) → out p r ≡ a → out q s ≡ b → ⊥
      by Drop Drop e f = differ (ap is_accepted e ∙ sym (ap is_accepted f))
      by (Accept x) (Accept y) e f = differ (ap is_accepted e ∙ sym (ap is_accepted f))
      by (Accept x) Drop e f = none (has_ack_or_rst p) (point_of p r) (point_of q s)
          (told_points p r q s (record { of_site = w; other_of_site = v; arrives = arrives; agree = agree; ends = ends; same = same; accepted = λ d. some_accept x (sym e ∙ d); dropped = f }))
      by Drop (Accept y) e f = none (has_ack_or_rst q) (point_of q s) (point_of p r)
          (told_points q s p r (record {
            of_site = v;
            other_of_site = w;
            arrives = ap (λ (x : Packet). is_host x) (agree_back p q agree) ∙ arrives;
            agree = agree_back p q agree;
            ends = sym ends;
            same = sym same;
            accepted = λ d. some_accept y (sym f ∙ d);
            dropped = e;
          }))

-- New packets

pub new_named : (site : Site) (tables : Tables) (t : Plain Bool) → Tells site (λ p r. IsAcceptedNew tables p) t → (asked : Bool) (p q : List ℕ)
    → AreToldByMore asked (tops_of site) t p q → NamesPackets site (BreaksByAckNew tables) (packets_at p q).0 (packets_at p q).1
new_named site tables t told asked p q h =
    let is = told_pairs site (λ p r. new_of tables p) t told asked p q h in
    record {
      other = packet_of q;
      of_site = packet_within site (packet_of p) (rec_of p) is.of_site;
      other_of_site = packet_within site (packet_of q) (rec_of q) is.other_of_site;
      new = refl;
      both = refl;
      such = record {
        arrives = is.arrives;
        agree = is.agree;
        same = is.same;
        differ = λ e. (accepts (new_of tables (packet_of q))).0 (sym e ∙ (accepts (new_of tables (packet_of p))).1 is.accepted) is.dropped;
      };
    }

pub new_none : (site : Site) (tables : Tables) (t : Plain Bool) → Tells site (λ p r. IsAcceptedNew tables p) t → ((asked : Bool) (p q : List ℕ) → AreToldByMore asked (tops_of site) t p q → ⊥)
    → (first : Pair) (second : Option Pair) → NamesPackets site (BreaksByAckNew tables) first second → ⊥
new_none site tables t told none first second named =
    none_told site (λ p r. new_of tables p) t told none first.packet no_ends named.other no_ends named.of_site named.other_of_site named.such.arrives named.such.agree refl
    named.such.same named.such.differ

-- Established ones

pub established_named : (site : Site) (tables : Tables) (t : Plain Bool) → AreRegular site tables → Tells site (IsAcceptedPair tables) t → (asked : Bool) (p q : List ℕ)
    → AreToldByMore asked (tops_of site) t p q → NamesPairs site (BreaksByAckEstablished site tables) (pairs_at p q).0 (pairs_at p q).1
established_named site tables t regular told asked p q h =
    let is = told_pairs site (est_of tables) t told asked p q h in
    record {
      ends = rec_of p;
      other = packet_of q;
      other_ends = rec_of q;
      of_site = is.of_site;
      other_of_site = is.other_of_site;
      established = refl;
      both = refl;
      such = record {
        arrives = is.arrives;
        agree = is.agree;
        ends = is.ends;
        found = found site tables regular (packet_of p) (rec_of p) is.of_site is.accepted;
        same = is.same;
        differ = λ e. (accepts (est_of tables (packet_of q) (rec_of q))).0 (sym e ∙ (accepts (est_of tables (packet_of p) (rec_of p))).1 is.accepted) is.dropped;
      };
    }

pub established_none : (site : Site) (tables : Tables) (t : Plain Bool) → Tells site (IsAcceptedPair tables) t → ((asked : Bool) (p q : List ℕ) → AreToldByMore asked (tops_of site) t p q → ⊥)
    → (first : Pair) (second : Option Pair) → NamesPairs site (BreaksByAckEstablished site tables) first second → ⊥
established_none site tables t told none first second named =
    none_told site (est_of tables) t told none first.packet named.ends named.other named.other_ends named.of_site named.other_of_site named.such.arrives named.such.agree
    named.such.ends named.such.same named.such.differ

-- Packets that are dropped when they are new

-- an arriving packet isn't lost by its own destination
not_lost : (site : Site) (entry dst : ℕ) → nat_eq entry 0 ≡ false → is_found site dst ≡ true → exit_at site entry dst ≢ Lost
not_lost site entry dst arrives kept e = by (nat_eq entry 0) site.forwarding (is_local site dst) arrives kept e
  where
    by : (h f l : Bool) → h ≡ false → (f || l) ≡ true
        → (if h then (if l then Out 1 else Out (route_of site dst)) else if l then Deliver else if f then Out (route_of site dst) else Lost) ≡ Lost → ⊥
    by true f l e k x = absurd (cc)
    by false f true e k x = cc
    by false true false e k x = cc
    by false false false e k x = absurd (cc)

is_kept : (site : Site) (entry dst : ℕ) → nat_eq entry 0 ≡ false → exit_at site entry dst ≢ Lost → is_found site dst ≡ true
is_kept site entry dst arrives n = by (nat_eq entry 0) site.forwarding (is_local site dst) arrives n
  where
    by : (h f l : Bool) → h ≡ false
        → ((if h then (if l then Out 1 else Out (route_of site dst)) else if l then Deliver else if f then Out (route_of site dst) else Lost) ≡ Lost → ⊥) → (f || l) ≡ true
    by true f l e k = absurd (cc)
    by false true l e k = refl
    by false false true e k = refl
    by false false false e k = absurd (k refl)

-- a packet that isn't accepted somewhere is dropped with all ends
never_dropped : (site : Site) (tables : Tables) (p : Packet) → (IsAcceptedSomewhere site tables p → ⊥) → AllOfPacketDropped site tables p
never_dropped site tables p none r w lasting = not_accepted (est_of tables p r) (λ n. none (record { ends = r; of_site = w; accepted = n }))

-- one that is isn't
sometimes_not : (site : Site) (tables : Tables) → AreRegular site tables → (p : Packet) → IsAcceptedSomewhere site tables p → AllOfPacketDropped site tables p → ⊥
sometimes_not site tables regular p is all = is.accepted (all is.ends is.of_site (found site tables regular p is.ends is.of_site is.accepted))

pub ahead_named : (site : Site) (tables : Tables) (sometimes new : Plain Bool) → AreRegular site tables → Tells site (λ p r. IsAcceptedSomewhere site tables p) sometimes
    → Tells site (λ p r. IsAcceptedNew tables p) new → (p q : List ℕ) → AreAheadAt site sometimes new p q
    → NamesPackets site (BreaksByAckAhead site tables) (packets_at p q).0 (packets_at p q).1
ahead_named site tables sometimes new regular told_sometimes told_new p q h =
    let back : point_of (packet_of p) (rec_of p) ≡ p = point_back site p h.first.0 in
    let other_back : point_of (packet_of q) (rec_of q) ≡ q = point_back site q h.within in
    let inside : IsPairOf site (packet_of p) (rec_of p) = subst (λ l. IsWithin (tops_of site) l) (sym back) h.first.0 in
    let other_inside : IsPairOf site (packet_of q) (rec_of q) = subst (λ l. IsWithin (tops_of site) l) (sym other_back) h.within in
    let here = told_sometimes.tells (packet_of p) (rec_of p) inside in
    let there = told_sometimes.tells (packet_of q) (rec_of q) other_inside in
    let off : there.0 ≡ false = some_once there.0 false (sym there.1 ∙ ap (value sometimes) other_back ∙ h.never) in
    let arrives : nat_eq (slice_index p 0) 0 ≡ false = not-true (nat_eq (slice_index p 0) 0) h.arrives in
    record {
      other = packet_of q;
      of_site = packet_within site (packet_of p) (rec_of p) inside;
      other_of_site = packet_within site (packet_of q) (rec_of q) other_inside;
      new = refl;
      both = refl;
      such = record {
        arrives = arrives;
        found = not_lost site (slice_index p 0) (slice_index p 2) arrives h.found;
        tcp = eqb-true (slice_index p 1) 6 h.tcp;
        agree = packets_agree p q h.near;
        acknowledges = h.flags;
        begins = h.other_flags;
        dropped = dropped_at site (λ p r. new_of tables p) new told_new (packet_of p) (rec_of p) inside (ap (value new) back ∙ h.dropped);
        sometimes = sometimes_not site tables regular (packet_of p) (here.2.0 (some_once here.0 true (sym here.1 ∙ ap (value sometimes) back ∙ h.first.1)));
        always = never_dropped site tables (packet_of q) (λ is. let on : there.0 ≡ true = there.2.1 is in absurd (cc));
      };
    }

pub ahead_nowhere : (site : Site) (tables : Tables) (sometimes new : Plain Bool) → AreRegular site tables → Tells site (λ p r. IsAcceptedSomewhere site tables p) sometimes
    → Tells site (λ p r. IsAcceptedNew tables p) new → ((p q : List ℕ) → AreAheadAt site sometimes new p q → ⊥)
    → (first : Pair) (second : Option Pair) → NamesPackets site (BreaksByAckAhead site tables) first second → ⊥
ahead_nowhere site tables sometimes new regular told_sometimes told_new none first second named =
    let p : Packet = first.packet in
    let q : Packet = named.other in
    let such = named.such in
    let here = told_sometimes.tells p no_ends named.of_site in
    let there = told_sometimes.tells q no_ends named.other_of_site in
    none (point_of p no_ends) (point_of q no_ends) (record {
      first = (named.of_site, here.1 ∙ ap Some (on here.0 (IsAcceptedSomewhere site tables p) here.2 (λ never. such.sometimes (never_dropped site tables p never))));
      dropped = false_there site (λ p r. new_of tables p) new told_new p no_ends named.of_site such.dropped;
      within = named.other_of_site;
      never = there.1 ∙ ap Some (false_from_ne_true there.0 (λ e. sometimes_not site tables regular q (there.2.0 e) such.always));
      arrives = not_from_false (is_host p) such.arrives;
      tcp = ap (λ n. nat_eq n 6) such.tcp;
      found = is_kept site p.entry p.dst such.arrives such.found;
      flags = such.acknowledges;
      other_flags = such.begins;
      near = points_near p q no_ends no_ends such.agree refl;
    })
  where
    on : (b : Bool) (S : Type 0) → ((b ≡ true) ↔ S) → ((S → ⊥) → ⊥) → b ≡ true
    on true S both n = refl
    on false S both n = absurd (n (λ s. let e : false ≡ true = both.1 s in absurd (cc)))

-- The clause

pub told_sought : (site : Site) (tables : Tables) (found : Option (Pair × Option Pair)) → ((first : Pair) (second : Option Pair) → NamesPackets site (BreaksByAckNew tables) first second → ⊥)
    → ((first : Pair) (second : Option Pair) → NamesPairs site (BreaksByAckEstablished site tables) first second → ⊥)
    → AreSoughtSuch (NamesPackets site (BreaksByAckAhead site tables)) found → IsSought site tables TellsByAckAlone found
told_sought site tables None new established ahead = by
  where
    by : (first : Pair) (second : Option Pair) → NamesPackets site (BreaksByAckNew tables) first second ⊎ NamesPairs site (BreaksByAckEstablished site tables) first second
        ⊎ NamesPackets site (BreaksByAckAhead site tables) first second → ⊥
    by first second (inl named) = new first second named
    by first second (inr (inl named)) = established first second named
    by first second (inr (inr named)) = ahead first second named
told_sought site tables (Some pair) new established ahead = inr (inr ahead)
