-- The paths of boxes, one field after another.
use Rattle.std.proofs.Common.{◌≡◌, ℕ, ◌-◌, ◌^◌, ◌<◌, ◌≤◌, Bool, true, false, ◌&&◌, ◌||◌, List, [], ◌∷◌, inl, inr, refl, sym, ◌∙◌, ap, subst, arith}
use Rattle.std.proofs.lemmas.Bool.{and_from, and_parts, cases_Bool, eqb-true, false≢true, le-leb, leb-true, or_cases, or_left, or_right}
use Rattle.std.proofs.lemmas.List.Elements.{All-cons, All-nil, All-weaker}
use Rattle.std.specs.Prelude.{nat_eq, nat_le, slice_index, All}
use Rattle.fws_box.specs.Sides.{IsWithin, sides_have}
use Rattle.fws_iv.specs.declared.iv.Iv.{Iv}
use Rattle.fws_iv.specs.Ivs.{has}
use Rattle.fws_net.specs.declared.packet.Packet.{Packet}
use Rattle.fws_net.specs.declared.site.Site.{Site}
use Rattle.fws_net.specs.Fates.{has_ports}
use Rattle.fws_net.specs.Points.{tops_of}
use Rattle.fws_ios_put_entries.specs.declared.path.Path.{Path}
use Rattle.fws_ios_put_entries.specs.declared.side.Side.{Side}
use Rattle.fws_ios_put_entries.specs.declared.side.Side.TheVariants.{Proto, Src, Sport, Dst, Dport, Icmp}
use Rattle.fws_ios_put_entries.specs.Narrowing.{HasAddresses}
use Rattle.fws_ios_put_entries.specs.Paths.{asks, hits, nothing_asked, some_path_has, top_of, IsWritable}
use Rattle.fws_ios_put_entries.specs.Seen.{IsSeenAt}
use Rattle.fws_ios_put_cover.specs.Boxes.{box_asks, is_seen, is_whole, part, side_asks, IsAsked}
use Rattle.fws_ios_put_cover.specs.Steps.{AreBoxPaths, AreFirstPaths, AreStepped, IsOpenPath, IsTcpAlone, IsUsable}
use Rattle.fws_ios_put_cover.proofs.Points.{have_at, have_from, seen_fields, within_at, within_length}

-- ---- chains

nothing_writable : IsWritable nothing_asked
nothing_writable = record {
  proto = tt;
  src = tt;
  sport = tt;
  dst = tt;
  dport = tt;
  icmp = tt;
  source_port = λ h. absurd (false≢true h);
  destination_port = λ h. absurd (false≢true h);
  typed = λ h. absurd (false≢true h);
}

nothing_free : (side : Side) → asks side nothing_asked ≡ false
nothing_free Proto = refl
nothing_free Src = refl
nothing_free Sport = refl
nothing_free Dst = refl
nothing_free Dport = refl
nothing_free Icmp = refl

-- the path that asks nothing is open
pub whole_open : (established : Bool) (paths : List Path) → paths ≡ nothing_asked ∷ [] → All (IsOpenPath established 1) paths
whole_open established paths is = subst (λ l. All (IsOpenPath established 1) l) (sym is)
    (All-cons (IsOpenPath established 1) nothing_asked [] (record { writable = nothing_writable; free = λ other le. nothing_free other; tcp = λ e le. absurd (omega (arith, le)) })
    (All-nil (IsOpenPath established 1)))

-- `established` isn't asked
pub not_asked : (side : Side) (set : List Iv) → IsTcpAlone false side set
not_asked side set e = absurd (false≢true e)

-- a field that isn't the protocol
other_side : (established : Bool) (side : Side) (set : List Iv) → (side ≡ Proto → ⊥) → IsTcpAlone established side set
other_side established side set ne e is = absurd (ne is)

no_dst : Dst ≡ Proto → ⊥
no_dst e = absurd (cc)

no_dport : Dport ≡ Proto → ⊥
no_dport e = absurd (cc)

no_src : Src ≡ Proto → ⊥
no_src e = absurd (cc)

no_sport : Sport ≡ Proto → ⊥
no_sport e = absurd (cc)

no_icmp : Icmp ≡ Proto → ⊥
no_icmp e = absurd (cc)

whole_has_all : (paths : List Path) (p : Packet) → paths ≡ nothing_asked ∷ [] → some_path_has paths p ≡ true
whole_has_all paths p is = ap (λ l. some_path_has l p) is

pub first_done : (sides : List (List Iv)) (a b c d : List Path) → a ≡ nothing_asked ∷ [] → AreStepped Proto (part sides 1) a b → AreStepped Dst (part sides 2) b c
    → AreStepped Dport (part sides 3) c d → AreFirstPaths sides d
first_done sides a b c d is u v w = record {
  same = λ p fine.
      w.same p fine
      ∙ ap (λ x. x && side_asks Dport (part sides 3) p)
      (v.same p fine ∙ ap (λ x. x && side_asks Dst (part sides 2) p) (u.same p fine ∙ ap (λ x. x && side_asks Proto (part sides 1) p) (whole_has_all a p is)));
  opens = λ established alone.
      w.stepped established (v.stepped established (u.stepped established (whole_open established a is) alone) (other_side established Dst (part sides 2) no_dst))
      (other_side established Dport (part sides 3) no_dport);
}

-- nothing is asked of the flags
pub open_later : (established : Bool) (paths : List Path) → All (IsOpenPath established 6) paths → All (IsOpenPath established 7) paths
open_later established paths h = All-weaker (IsOpenPath established 6) (IsOpenPath established 7)
    (λ path o. record { writable = o.writable; free = λ other le. o.free other (omega (arith, le)); tcp = λ e le. o.tcp e (lit_le 2 6 refl) }) paths h
  where
    lit_le : (a b : ℕ) → nat_le a b ≡ true → a ≤ b
    lit_le a b e = leb-true a b e

pub box_done : (sides : List (List Iv)) (d e f g : List Path) → AreFirstPaths sides d → AreStepped Src (part sides 4) d e → AreStepped Sport (part sides 5) e f → AreStepped Icmp (part sides 7) f g
    → AreBoxPaths sides g
box_done sides d e f g h u v w = record {
  same = λ p fine.
      w.same p fine
      ∙ ap (λ x. x && side_asks Icmp (part sides 7) p)
      (v.same p fine ∙ ap (λ x. x && side_asks Sport (part sides 5) p) (u.same p fine ∙ ap (λ x. x && side_asks Src (part sides 4) p) (h.same p fine)));
  usable = λ established alone.
      All-weaker (IsOpenPath established 8) (IsUsable established) (λ path o. record { writable = o.writable; tcp = λ e. o.tcp e (leb-true 2 8 refl) }) g
      (w.stepped established
      (open_later established f
      (v.stepped established (u.stepped established (h.opens established alone) (other_side established Src (part sides 4) no_src)) (other_side established Sport (part sides 5) no_sport)))
      (other_side established Icmp (part sides 7) no_icmp));
}

-- ---- packets and points

whole_any : (top v : ℕ) (set : List Iv) → is_whole top set ≡ true → v ≤ top → has set v ≡ true
whole_any top v [] h le = absurd (false≢true h)
whole_any top v (iv ∷ []) h le =
    let parts = and_parts (nat_eq iv.lo 0) (nat_eq iv.hi top) h in
    let lo : iv.lo ≡ 0 = eqb-true iv.lo 0 parts.0 in
    let hi : iv.hi ≡ top = eqb-true iv.hi top parts.1 in
    ap (λ b. b || false) (and_from (nat_le iv.lo v) (nat_le v iv.hi) (le-leb iv.lo v (omega (arith, lo))) (le-leb v iv.hi (omega (arith, hi, le))))
whole_any top v (iv ∷ other ∷ set) h le = absurd (false≢true h)

-- what the box asks of a field tells that the value is a member
asked_has : (side : Side) (set : List Iv) (p : Packet) (v : ℕ) → v ≤ top_of side → (hits side set p ≡ true → has set v ≡ true) → side_asks side set p ≡ true → has set v ≡ true
asked_has side set p v le hit h = elim (or_cases (is_whole (top_of side) set) (hits side set p) h) [
  | inl all ↦ whole_any (top_of side) v set all le
  | inr it ↦ hit it
]

-- a member is as the box asks, where the packet has the field if it is asked
has_asked : (side : Side) (set : List Iv) (p : Packet) → (is_whole (top_of side) set ≡ false → hits side set p ≡ true) → side_asks side set p ≡ true
has_asked side set p hit = elim (cases_Bool (is_whole (top_of side) set)) [
  | inl all ↦ or_left (is_whole (top_of side) set) (hits side set p) all
  | inr part_of ↦ or_right (is_whole (top_of side) set) (hits side set p) (hit part_of)
]

record AsksEach (sides : List (List Iv)) (p : Packet) : Type 0 where
  proto : side_asks Proto (part sides 1) p ≡ true
  dst : side_asks Dst (part sides 2) p ≡ true
  dport : side_asks Dport (part sides 3) p ≡ true
  src : side_asks Src (part sides 4) p ≡ true
  sport : side_asks Sport (part sides 5) p ≡ true
  icmp : side_asks Icmp (part sides 7) p ≡ true

each_of : (a b c d e f : Bool) → (((((a && b) && c) && d) && e) && f) ≡ true → (a ≡ true) × (b ≡ true) × (c ≡ true) × (d ≡ true) × (e ≡ true) × (f ≡ true)
each_of true true true true true true h = (refl, refl, refl, refl, refl, refl)
each_of false b c d e f h = absurd (false≢true h)
each_of true false c d e f h = absurd (false≢true h)
each_of true true false d e f h = absurd (false≢true h)
each_of true true true false e f h = absurd (false≢true h)
each_of true true true true false f h = absurd (false≢true h)
each_of true true true true true false h = absurd (false≢true h)

asks_each : (sides : List (List Iv)) (p : Packet) → box_asks sides p ≡ true → AsksEach sides p
asks_each sides p h =
    let k = each_of (side_asks Proto (part sides 1) p) (side_asks Dst (part sides 2) p) (side_asks Dport (part sides 3) p) (side_asks Src (part sides 4) p) (side_asks Sport (part sides 5) p)
    (side_asks Icmp (part sides 7) p) h in
    record { proto = k.0; dst = k.1; dport = k.2; src = k.3; sport = k.4; icmp = k.5 }

pub addresses_seen : (site : Site) (p : Packet) (x : List ℕ) → IsWithin (tops_of site) x → IsSeenAt p x → HasAddresses p
addresses_seen site p x at seen =
    let src = within_at (tops_of site) x 4 at in
    let dst = within_at (tops_of site) x 2 at in
    let src_is = seen.src in
    let dst_is = seen.dst in record { src = below (slice_index x 4) p.src src seen.src; dst = below (slice_index x 2) p.dst dst seen.dst }
  where
    below : (a b : ℕ) → a ≤ 2 ^ 32 - 1 → a ≡ b → b < 2 ^ 32
    below a b le e = omega (arith, le, e)

-- a packet that the box asks for is seen at a point of it
pub asks_have : (site : Site) (established : Bool) (sides : List (List Iv)) (p : Packet) (x : List ℕ) → IsAsked established (tops_of site) sides → IsWithin (tops_of site) x → IsSeenAt p x
    → box_asks sides p ≡ true → sides_have sides x ≡ true
asks_have site established sides p x asked at seen h =
    let each : AsksEach sides p = asks_each sides p h in
    have_from sides x (asked.twelve ∙ sym (within_length (tops_of site) x at)) (λ f lt. elim (cases_Bool (is_seen f)) [
      | inl y ↦ seen_fields (λ g. has (part sides g) (slice_index x g) ≡ true)
          (asked_has Proto (part sides 1) p (slice_index x 1) (within_at (tops_of site) x 1 at) (λ it. subst (λ v. has (part sides 1) v ≡ true) (sym seen.proto) it) each.proto)
          (asked_has Dst (part sides 2) p (slice_index x 2) (within_at (tops_of site) x 2 at) (λ it. subst (λ v. has (part sides 2) v ≡ true) (sym seen.dst) it) each.dst)
          (asked_has Dport (part sides 3) p (slice_index x 3) (within_at (tops_of site) x 3 at)
          (λ it. subst (λ v. has (part sides 3) v ≡ true) (sym seen.dport) (and_parts (has_ports p.proto) (has (part sides 3) p.dport) it).1) each.dport)
          (asked_has Src (part sides 4) p (slice_index x 4) (within_at (tops_of site) x 4 at) (λ it. subst (λ v. has (part sides 4) v ≡ true) (sym seen.src) it) each.src)
          (asked_has Sport (part sides 5) p (slice_index x 5) (within_at (tops_of site) x 5 at)
          (λ it. subst (λ v. has (part sides 5) v ≡ true) (sym seen.sport) (and_parts (has_ports p.proto) (has (part sides 5) p.sport) it).1) each.sport)
          (asked_has Icmp (part sides 7) p (slice_index x 7) (within_at (tops_of site) x 7 at)
          (λ it. subst (λ v. has (part sides 7) v ≡ true) (sym seen.icmp) (and_parts (nat_eq p.proto 1) (has (part sides 7) p.icmp) it).1) each.icmp) f y
      | inr un ↦ asked.unseen f (subst (λ n. f < n) asked.twelve lt) un (slice_index x f) (within_at (tops_of site) x f at)
    ])

-- a packet that is seen at a point of the box is asked for
pub have_asks : (site : Site) (established : Bool) (sides : List (List Iv)) (p : Packet) (x : List ℕ) → IsAsked established (tops_of site) sides → IsWithin (tops_of site) x → IsSeenAt p x
    → sides_have sides x ≡ true → box_asks sides p ≡ true
have_asks site established sides p x asked at seen h =
    let proto : has (part sides 1) p.proto ≡ true = subst (λ v. has (part sides 1) v ≡ true) seen.proto (value 1 (leb-true 2 12 refl)) in
    all_six (side_asks Proto (part sides 1) p) (side_asks Dst (part sides 2) p) (side_asks Dport (part sides 3) p) (side_asks Src (part sides 4) p) (side_asks Sport (part sides 5) p) (side_asks Icmp (part sides 7) p)
    (has_asked Proto (part sides 1) p (λ part_of. proto))
    (has_asked Dst (part sides 2) p (λ part_of. subst (λ v. has (part sides 2) v ≡ true) seen.dst (value 2 (leb-true 3 12 refl))))
    (has_asked Dport (part sides 3) p (λ part_of. and_from (has_ports p.proto) (has (part sides 3) p.dport) (asked.dport part_of p.proto proto) (subst (λ v. has (part sides 3) v ≡ true) seen.dport (value 3 (leb-true 4 12 refl)))))
    (has_asked Src (part sides 4) p (λ part_of. subst (λ v. has (part sides 4) v ≡ true) seen.src (value 4 (leb-true 5 12 refl))))
    (has_asked Sport (part sides 5) p (λ part_of. and_from (has_ports p.proto) (has (part sides 5) p.sport) (asked.sport part_of p.proto proto) (subst (λ v. has (part sides 5) v ≡ true) seen.sport (value 5 (leb-true 6 12 refl)))))
    (has_asked Icmp (part sides 7) p (λ part_of. and_from (nat_eq p.proto 1) (has (part sides 7) p.icmp) (one p.proto (asked.icmp part_of p.proto proto)) (subst (λ v. has (part sides 7) v ≡ true) seen.icmp (value 7 (leb-true 8 12 refl)))))
  where
    value : (f : ℕ) → f < 12 → has (part sides f) (slice_index x f) ≡ true
    value f lt = have_at sides x f (subst (λ n. f < n) (sym asked.twelve) lt) h

    one : (v : ℕ) → v ≡ 1 → nat_eq v 1 ≡ true
    one v e = subst (λ n. nat_eq n 1 ≡ true) (sym e) refl

    all_six : (a b c d e f : Bool) → a ≡ true → b ≡ true → c ≡ true → d ≡ true → e ≡ true → f ≡ true → (((((a && b) && c) && d) && e) && f) ≡ true
    all_six a b c d e f ha hb hc hd he hf =
        and_from ((((a && b) && c) && d) && e) f (and_from (((a && b) && c) && d) e (and_from ((a && b) && c) d (and_from (a && b) c (and_from a b ha hb) hc) hd) he) hf
