-- What trees tell of established pairs.
use Rattle.std.proofs.Common.{◌≡◌, ◌≢◌, ℕ, Bool, true, false, ◌&&◌, not, Option, Some, None, List, ◌⊎◌, inl, inr, refl, sym, ◌∙◌, ap, subst, IsTrue, MatchOption}
use Rattle.std.proofs.lemmas.Bool.{both_ways, false≢true, and_parts, and_from, not-true, false_from_ne_true, true_from_ne_false, not_from_false}
use Rattle.std.specs.Prelude.{◌↔◌, unwrap_or, nat_eq, if◌then◌else◌}
use Rattle.fws_box.specs.Sides.{IsWithin}
use Rattle.fws_net.specs.declared.connection.Rec.{Rec}
use Rattle.fws_net.specs.declared.exit.Exit.TheVariants.{Deliver, Out, Lost}
use Rattle.fws_net.specs.declared.outcome.Outcome.{Outcome}
use Rattle.fws_net.specs.declared.outcome.Outcome.TheVariants.{Drop, Accept}
use Rattle.fws_net.specs.declared.outcome.Rewrite.{Rewrite}
use Rattle.fws_net.specs.declared.packet.Packet.{Packet}
use Rattle.fws_net.specs.declared.site.Site.{Site}
use Rattle.fws_net.specs.Points.{tops_of, packet_of}
use Rattle.fws_net.specs.Routes.{is_local, route_of}
use Rattle.fws_net.specs.Transits.{nothing_written}
use Rattle.fws_tree.specs.declared.tables.Tables.{Tables}
use Rattle.fws_tree.specs.Changed.{IsTrueSomewhere}
use Rattle.fws_tree.specs.Plain.{Plain, value}
use Rattle.fws_tree.specs.Regular.{AreRegular}
use Rattle.fws_place.specs.declared.breach.Pair.{Pair}
use Rattle.fws_place.specs.declared.clause.Clause.TheVariants.{DropsByOneView}
use Rattle.fws_place.specs.Clauses.{BreaksByOneView, NamesPair}
use Rattle.fws_place.specs.FitLaws.{FittingDropsAreSeen, FittingPairsAreTold, LostPairsAreDropped}
use Rattle.fws_place.specs.Fits.{Meets}
use Rattle.fws_place.specs.Found.{IsNamedPair, IsSought, IsTrueAtNoPair}
use Rattle.fws_place.specs.Lost.{is_lost_at}
use Rattle.fws_place.specs.Meaning.{IsPairOf, est_of, point_of, rec_of}
use Rattle.fws_place.specs.Pairs.{AllAlikeDropped, AllOfPacketDropped, IsLost, LookAlike}
use Rattle.fws_place.specs.Rewritings.{is_accepted}
use Rattle.fws_place.specs.Seen.{IsAcceptedPair, IsAcceptedSomewhere, IsAcceptedAlike, Tells}
use Rattle.fws_place.proofs.PairPoints.{agree_alike, agree_packet, look_alike, point_back, same_packet, within_length}

-- Outcomes

pub accepts : (o : Outcome) → (is_accepted o ≡ true) ↔ (o ≢ Drop)
accepts Drop = (λ e. absurd (false≢true e), λ n. absurd (n refl))
accepts (Accept w) = ((λ e same. cc), λ n. refl)

dropped_or_not : (o : Outcome) → (o ≡ Drop) ⊎ (o ≢ Drop)
dropped_or_not Drop = inl refl
dropped_or_not (Accept w) = inr (λ e. cc)

pub not_accepted : (o : Outcome) → (o ≢ Drop → ⊥) → o ≡ Drop
not_accepted Drop n = refl
not_accepted (Accept w) n = absurd (n (λ e. cc))

-- what the tree of outcomes has at a point
pub est_at : (tables : Tables) (p : Packet) (r : Rec) (o : Outcome) → value tables.est.1 (point_of p r) ≡ Some o → est_of tables p r ≡ o
est_at tables p r o e = ap (λ v. unwrap_or v Drop) e

-- a tree with whether outcomes accept tells which pairs are accepted
pub accepted_told : (site : Site) (tables : Tables) (t : Plain Bool)
    → ((q : List ℕ) → IsWithin (tops_of site) q → (o : Outcome) × (value tables.est.1 q ≡ Some o) × (value t q ≡ Some (is_accepted o)))
    → Tells site (IsAcceptedPair tables) t
accepted_told site tables t at = record {
  tells = λ p r w.
      let here = at (point_of p r) w in
      let same : est_of tables p r ≡ here.0 = est_at tables p r here.0 here.1 in
      let both = accepts here.0 in
      (is_accepted here.0, here.2, ((λ e drop. both.0 e (sym same ∙ drop)), λ n. both.1 (λ drop. n (same ∙ drop))));
}

-- Lost pairs

pub lost_is : (site : Site) (p : Packet) (r : Rec) → is_lost_at site (point_of p r) ≡ true → IsLost site p r
lost_is site p r e = by site.forwarding (nat_eq p.entry 0) (is_local site r.rdst) e
  where
    by : (f h l : Bool) → (not f && (not h && not l)) ≡ true
        → (if h then (if l then Out 1 else Out (route_of site r.rdst)) else if l then Deliver else if f then Out (route_of site r.rdst) else Lost) ≡ Lost
    by false false false e = refl
    by false false true e = absurd (cc)
    by false true l e = absurd (cc)
    by true h l e = absurd (cc)

pub is_lost : (site : Site) (p : Packet) (r : Rec) → IsLost site p r → is_lost_at site (point_of p r) ≡ true
is_lost site p r e = by site.forwarding (nat_eq p.entry 0) (is_local site r.rdst) e
  where
    by : (f h l : Bool) → (if h then (if l then Out 1 else Out (route_of site r.rdst)) else if l then Deliver else if f then Out (route_of site r.rdst) else Lost) ≡ Lost
        → (not f && (not h && not l)) ≡ true
    by f true true e = absurd (cc)
    by f true false e = absurd (cc)
    by f false true e = absurd (cc)
    by true false false e = absurd (cc)
    by false false false e = refl

-- lost pairs are dropped
pub lost_dropped : LostPairsAreDropped
lost_dropped site tables regular p r w lost = est_at tables p r Drop (regular.est_lost (point_of p r) w lost)

-- what is accepted isn't lost
pub found : (site : Site) (tables : Tables) → AreRegular site tables → (p : Packet) (r : Rec) → IsPairOf site p r → est_of tables p r ≢ Drop → IsLost site p r → ⊥
found site tables regular p r w n lost = n (lost_dropped site tables regular p r w lost)

-- Views

somewhere_at : (site : Site) (tables : Tables) (a : Plain Bool) → Tells site (IsAcceptedPair tables) a → (p : Packet) (r : Rec) → IsPairOf site p r
    → value a (point_of p r) ≡ Some true → IsAcceptedPair tables p r
somewhere_at site tables a told p r w e = let here = told.tells p r w in here.2.0 (some_true here.0 (sym here.1 ∙ e))
  where
    some_true : (b : Bool) → Some b ≡ Some true → b ≡ true
    some_true b e = cc

true_at : (site : Site) (tables : Tables) (a : Plain Bool) → Tells site (IsAcceptedPair tables) a → (p : Packet) (r : Rec) → IsPairOf site p r
    → IsAcceptedPair tables p r → value a (point_of p r) ≡ Some true
true_at site tables a told p r w n = let here = told.tells p r w in here.1 ∙ ap Some (here.2.1 n)

-- what a projection says
abbrev pub IsProjected : Site → ℕ → Plain Bool → Plain Bool → Type 0
IsProjected site fields a t = (q : List ℕ) → IsWithin (tops_of site) q → (b : Bool) × (value t q ≡ Some b) × (IsTrue b ↔ IsTrueSomewhere (tops_of site) fields a q)

-- by the tops of the tree
pub projected_by : (site : Site) (fields : ℕ) (a : List ℕ × Plain Bool) (t : Plain Bool) → a.0 ≡ tops_of site
    → ((q : List ℕ) → IsWithin a.0 q → (b : Bool) × (value t q ≡ Some b) × (IsTrue b ↔ IsTrueSomewhere a.0 fields a.1 q)) → IsProjected site fields a.1 t
projected_by site fields a t e h =
    subst (λ ts. (q : List ℕ) → IsWithin ts q → (b : Bool) × (value t q ≡ Some b) × (IsTrue b ↔ IsTrueSomewhere ts fields a.1 q)) e h

-- whether the packet is accepted in some connection
pub somewhere_told : (site : Site) (tables : Tables) (a t : Plain Bool) → Tells site (IsAcceptedPair tables) a → IsProjected site 3840 a t
    → Tells site (λ p r. IsAcceptedSomewhere site tables p) t
somewhere_told site tables a t told projected = record {
  tells = λ p r w.
      let here = projected (point_of p r) w in (
        here.0,
        here.1,
        (
          (λ e. let q = here.2.0 e in
              let same : point_of p (rec_of q.0) ≡ q.0 = same_packet p r q.0 (within_length (tops_of site) q.0 q.1) q.2 in
              let inside : IsPairOf site p (rec_of q.0) = subst (λ l. IsWithin (tops_of site) l) (sym same) q.1 in
              record { ends = rec_of q.0; of_site = inside; accepted = somewhere_at site tables a told p (rec_of q.0) inside (ap (λ l. value a l) same ∙ q.3) }),
          λ s. here.2.1 (point_of p s.ends, s.of_site, agree_packet p r s.ends, true_at site tables a told p s.ends s.of_site s.accepted),
        ),
      );
}

-- whether some pair that looks alike is accepted
pub alike_told : (site : Site) (tables : Tables) (a t : Plain Bool) → Tells site (IsAcceptedPair tables) a → IsProjected site 3084 a t
    → Tells site (IsAcceptedAlike site tables) t
alike_told site tables a t told projected = record {
  tells = λ p r w.
      let here = projected (point_of p r) w in (
        here.0,
        here.1,
        (
          (λ e. let q = here.2.0 e in
              let same : point_of (packet_of q.0) (rec_of q.0) ≡ q.0 = point_back site q.0 q.1 in
              let inside : IsPairOf site (packet_of q.0) (rec_of q.0) = subst (λ l. IsWithin (tops_of site) l) (sym same) q.1 in
              record {
                other = packet_of q.0;
                ends = rec_of q.0;
                of_site = inside;
                alike = look_alike p r q.0 q.2;
                accepted = somewhere_at site tables a told (packet_of q.0) (rec_of q.0) inside (ap (λ l. value a l) same ∙ q.3);
              }),
          λ s. here.2.1 (point_of s.other s.ends, s.of_site, agree_alike p r s.other s.ends s.alike, true_at site tables a told s.other s.ends s.of_site s.accepted),
        ),
      );
}

-- Breaking

-- a packet of which not all pairs are dropped is accepted somewhere, if it is known whether it is
sometimes : (site : Site) (tables : Tables) (p : Packet) (b : Bool) → ((b ≡ true) ↔ IsAcceptedSomewhere site tables p) → (AllOfPacketDropped site tables p → ⊥) → b ≡ true
sometimes site tables p b both n = true_from_ne_false b (λ e.
    n (λ r w lost. not_accepted (est_of tables p r) (λ a. both_ways b e (both.1 (record { ends = r; of_site = w; accepted = a })))))

sometimes_alike : (site : Site) (tables : Tables) (p : Packet) (r : Rec) (b : Bool) → ((b ≡ true) ↔ IsAcceptedAlike site tables p r) → (AllAlikeDropped site tables p r → ⊥) → b ≡ true
sometimes_alike site tables p r b both n = true_from_ne_false b (λ e.
    n (λ q s alike w lost. not_accepted (est_of tables q s) (λ a. both_ways b e (both.1 (record { other = q; ends = s; of_site = w; alike = alike; accepted = a })))))

-- a pair breaks the clause exactly where it is dropped and not lost, and both views accept
breaks_by_one_view : (site : Site) (tables : Tables) → AreRegular site tables → (p : Packet) (r : Rec) → IsPairOf site p r → (a b c : Bool)
    → ((a ≡ true) ↔ IsAcceptedPair tables p r) → ((b ≡ true) ↔ IsAcceptedSomewhere site tables p) → ((c ≡ true) ↔ IsAcceptedAlike site tables p r)
    → ((if is_lost_at site (point_of p r) then false else not a && b && c) ≡ true) ↔ BreaksByOneView site tables p r
breaks_by_one_view site tables regular p r w a b c accepted somewhere alike = (
  (λ e. let parts = unlost (is_lost_at site (point_of p r)) (not a && b && c) e in
      let abc = and_parts (not a && b) c parts.1 in
      let ab = and_parts (not a) b abc.0 in
      record {
        dropped = record {
          of_site = w;
          found = λ lost. both_ways _ parts.0 (is_lost site p r lost);
          dropped = not_accepted (est_of tables p r) (λ n. both_ways a (not-true a ab.0) (accepted.1 n));
        };
        packet = λ all. let s = somewhere.0 ab.1 in s.accepted (all s.ends s.of_site (found site tables regular p s.ends s.of_site s.accepted));
        alike = λ all. let s = alike.0 abc.1 in s.accepted (all s.other s.ends s.alike s.of_site (found site tables regular s.other s.ends s.of_site s.accepted));
      }),
  λ breaks. lostless (is_lost_at site (point_of p r)) (not a && b && c)
      (false_from_ne_true _ (λ e. breaks.dropped.found (lost_is site p r e)))
      (and_from (not a && b) c (and_from (not a) b
      (not_from_false a (false_from_ne_true a (λ e. accepted.0 e breaks.dropped.dropped)))
      (sometimes site tables p b somewhere breaks.packet))
      (sometimes_alike site tables p r c alike breaks.alike)),
)
  where
    unlost : (l x : Bool) → (if l then false else x) ≡ true → (l ≡ false) × (x ≡ true)
    unlost true x e = absurd (cc)
    unlost false x e = (refl, e)

    lostless : (l x : Bool) → l ≡ false → x ≡ true → (if l then false else x) ≡ true
    lostless true x e f = absurd (cc)
    lostless false x e f = f

pub same_told : (v : Option Bool) (a b : Bool) → v ≡ Some a → v ≡ Some b → a ≡ b
same_told v a b e f = (let g : Some a ≡ Some b = sym e ∙ f in cc)

-- what a tree tells of a pair, by its value there
pub told_by : (site : Site) (P : Packet → Rec → Type 0) (t : Plain Bool) → Tells site P t → (p : Packet) (r : Rec) → IsPairOf site p r → (b : Bool) → value t (point_of p r) ≡ Some b
    → (b ≡ true) ↔ P p r
told_by site P t told p r w b e =
    let here = told.tells p r w in
    subst (λ x. (x ≡ true) ↔ P p r) (same_told (value t (point_of p r)) here.0 b here.1 e) here.2

-- a tree made of what is seen tells which pairs break the clause
pub breaking_told : (site : Site) (tables : Tables) → AreRegular site tables → (accepted packet behind t : Plain Bool)
    → Tells site (IsAcceptedPair tables) accepted → Tells site (λ p r. IsAcceptedSomewhere site tables p) packet → Tells site (IsAcceptedAlike site tables) behind
    → ((q : List ℕ) → IsWithin (tops_of site) q → (a : Bool) × (b : Bool) × (c : Bool) × (value accepted q ≡ Some a) × (value packet q ≡ Some b) × (value behind q ≡ Some c)
    × (value t q ≡ (if is_lost_at site q then Some false else Some (not a && b && c))))
    → Tells site (BreaksByOneView site tables) t
breaking_told site tables regular accepted packet behind t told_a told_b told_c at = record {
  tells = λ p r w.
      let here = at (point_of p r) w in
      let a : Bool = here.0 in
      let b : Bool = here.1 in
      let c : Bool = here.2 in (
        (if is_lost_at site (point_of p r) then false else not a && b && c),
        here.6 ∙ inside (is_lost_at site (point_of p r)) (not a && b && c),
        breaks_by_one_view site tables regular p r w a b c (told_by site (IsAcceptedPair tables) accepted told_a p r w a here.3)
            (told_by site (λ q s. IsAcceptedSomewhere site tables q) packet told_b p r w b here.4) (told_by site (IsAcceptedAlike site tables) behind told_c p r w c here.5),
      );
}
  where
    inside : (l x : Bool) → (if l then Some false else Some x) ≡ Some (if l then false else x)
    inside true x = refl
    inside false x = refl

pub some_once : {X : Type 0} (x y : X) → Some x ≡ Some y → x ≡ y
some_once x y e = cc

-- the value of a tree whose leaves are made of three
pub alone_at : (va vb vc vt : Option Bool) (all : Option (Bool × (Bool × Bool)))
    → ((a : Bool) × (b : Bool) × (c : Bool) × (va ≡ Some a) × (vb ≡ Some b) × (vc ≡ Some c) × (all ≡ Some (a, (b, c))))
    → ((x : Bool × (Bool × Bool)) × (all ≡ Some x) × (vt ≡ Some (not x.0 && x.1.0 && x.1.1)))
    → (a : Bool) × (b : Bool) × (c : Bool) × (va ≡ Some a) × (vb ≡ Some b) × (vc ≡ Some c) × (vt ≡ Some (not a && b && c))
alone_at va vb vc vt all three mixed =
    let whole : Bool × (Bool × Bool) = (three.0, (three.1, three.2)) in
    let same : mixed.0 ≡ whole = some_once mixed.0 whole (sym mixed.1 ∙ three.6) in
    let seen : Bool × (Bool × Bool) → Option Bool = λ x. Some (not x.0 && x.1.0 && x.1.1) in
    (three.0, three.1, three.2, three.3, three.4, three.5, mixed.2 ∙ ap seen same)

-- and where pairs that are lost are left out of it
pub found_alone : (l : Bool) (va vb vc vm vt : Option Bool)
    → ((a : Bool) × (b : Bool) × (c : Bool) × (va ≡ Some a) × (vb ≡ Some b) × (vc ≡ Some c) × (vm ≡ Some (not a && b && c)))
    → vt ≡ (if l then Some false else vm)
    → (a : Bool) × (b : Bool) × (c : Bool) × (va ≡ Some a) × (vb ≡ Some b) × (vc ≡ Some c) × (vt ≡ (if l then Some false else Some (not a && b && c)))
found_alone l va vb vc vm vt three last = (three.0, three.1, three.2, three.3, three.4, three.5, last ∙ ap (λ v. if l then Some false else v) three.6)

-- Laws

-- a pair that isn't lost is accepted exactly where both views accept
pub drops_seen : FittingDropsAreSeen
drops_seen site tables regular meets p r w lasting = (
  (λ n. (record { ends = r; of_site = w; accepted = n }, record { other = p; ends = r; of_site = w; alike = itself; accepted = n })),
  λ both drop. meets (record { packet = p; rec = Some r }) None (record {
    ends = r;
    of_site = w;
    established = refl;
    alone = refl;
    such = record {
      dropped = record { of_site = w; found = lasting; dropped = drop };
      packet = λ all. both.0.accepted (all both.0.ends both.0.of_site (found site tables regular p both.0.ends both.0.of_site both.0.accepted));
      alike = λ all. both.1.accepted (all both.1.other both.1.ends both.1.alike both.1.of_site (found site tables regular both.1.other both.1.ends both.1.of_site both.1.accepted));
    };
  }),
)
  where
    itself : LookAlike p r p r
    itself = record { entry = refl; proto = refl; src = refl; sport = refl; flags = refl; icmp = refl; rdst = refl; rdport = refl }

-- a rewriting that writes nothing
pub bare : (v : Rewrite) → v.src ≡ None → v.dst ≡ None → v ≡ nothing_written
bare v src dst = λ i. record { src = src i; dst = dst i }

-- what is accepted isn't rewritten
pub unwritten : (site : Site) (tables : Tables) → AreRegular site tables → (p : Packet) (r : Rec) → IsPairOf site p r → est_of tables p r ≢ Drop → est_of tables p r ≡ Accept nothing_written
unwritten site tables regular p r w n = by (value tables.est.1 (point_of p r)) refl
  where
    by : (v : Option Outcome) → value tables.est.1 (point_of p r) ≡ v → est_of tables p r ≡ Accept nothing_written
    by None e = absurd (n (ap (λ u. unwrap_or u Drop) e))
    by (Some Drop) e = absurd (n (ap (λ u. unwrap_or u Drop) e))
    by (Some (Accept v)) e = let none = regular.est_unwritten (point_of p r) v w e in
        ap (λ u. unwrap_or u Drop) e ∙ ap Accept (bare v none.0 none.1)

pub pairs_told : FittingPairsAreTold
pairs_told site tables packet behind regular meets packet_told behind_told p r b c w lasting at_packet at_behind =
    let first = packet_told.tells p r w in
    let second = behind_told.tells p r w in
    let both = drops_seen site tables regular meets p r w lasting in
    by (b && c)
    (λ e. let bc = and_parts b c e in
    unwritten site tables regular p r w (both.1
    (first.2.0 (same_told _ first.0 b first.1 at_packet ∙ bc.0), second.2.0 (same_told _ second.0 c second.1 at_behind ∙ bc.1))))
    (λ e. not_accepted (est_of tables p r) (λ n. let views = both.0 n in
    both_ways (b && c) e (and_from b c
    (same_told _ b first.0 at_packet first.1 ∙ first.2.1 views.0) (same_told _ c second.0 at_behind second.1 ∙ second.2.1 views.1))))
  where
    by : (x : Bool) → (x ≡ true → est_of tables p r ≡ Accept nothing_written) → (x ≡ false → est_of tables p r ≡ Drop) → est_of tables p r ≡ (if x then Accept nothing_written else Drop)
    by true on off = on refl
    by false on off = off refl

-- Naming

-- packets that break the clause, if the tree that tells of it is true somewhere
sought_none : (site : Site) (tables : Tables) (t : Plain Bool) → Tells site (BreaksByOneView site tables) t → IsTrueAtNoPair site t → Meets site tables DropsByOneView
sought_none site tables t told none first second named =
    let here = told.tells first.packet named.ends named.of_site in
    none first.packet named.ends named.of_site (here.1 ∙ ap Some (here.2.1 named.such))

sought_some : (site : Site) (tables : Tables) (t : Plain Bool) (first : Pair) (second : Option Pair) → Tells site (BreaksByOneView site tables) t
    → NamesPair site (λ p r. value t (point_of p r) ≡ Some true) first second → NamesPair site (BreaksByOneView site tables) first second
sought_some site tables t first second told named =
    let here = told.tells first.packet named.ends named.of_site in
    record {
      ends = named.ends;
      of_site = named.of_site;
      established = named.established;
      alone = named.alone;
      such = here.2.0 (same_told _ here.0 true here.1 named.such);
    }

-- what was found is what was sought
pub sought : (site : Site) (tables : Tables) (t : Plain Bool) → Tells site (BreaksByOneView site tables) t → (found : Option (Pair × Option Pair))
    → MatchOption found (IsTrueAtNoPair site t) (IsNamedPair site t) → IsSought site tables DropsByOneView found
sought site tables t told None h = sought_none site tables t told h
sought site tables t told (Some named) h = sought_some site tables t named.0 named.1 told h
