-- Rules can tell what the trees of tables and of views hold.
use Rattle.std.proofs.Common.{◌≡◌, ◌≢◌, ◌↔◌, ℕ, zero, suc, ◌<◌, ◌≤◌, Bool, true, false, cond, nat_eq, Some, None, unwrap_or, List, [], ◌∷◌, slice_index, slice_set, arith, refl, sym, ap, ◌∙◌, subst, eq-eqb}
use Rattle.std.proofs.lemmas.Bool.{false≢true, eqb-true}
use Rattle.fws_box.specs.Sides.{IsWithin}
use Rattle.fws_net.specs.declared.connection.Rec.{Rec}
use Rattle.fws_net.specs.declared.outcome.Outcome.TheVariants.{Drop}
use Rattle.fws_net.specs.declared.packet.Packet.{Packet}
use Rattle.fws_net.specs.declared.site.Site.{Site}
use Rattle.fws_net.specs.Fates.{has_ports}
use Rattle.fws_net.specs.Points.{packet_of, tops_of}
use Rattle.fws_tree.specs.declared.tables.Tables.{Tables}
use Rattle.fws_tree.specs.Plain.{Plain, value}
use Rattle.fws_tree.specs.Regular.{AreRegular, is_port}
use Rattle.fws_tree_seen.specs.declared.seen.Seen.{Seen}
use Rattle.fws_tree_seen.specs.declared.seen.Seen.TheVariants.{Entered, Routed}
use Rattle.fws_tree_seen.specs.Shown.{IsTold, has_field, shown}
use Rattle.fws_place.specs.Meaning.{IsPairOf, est_of, point_of, rec_of}
use Rattle.fws_place.specs.Pairs.{LookAlike}
use Rattle.fws_place.specs.Seen.{IsAcceptedSomewhere, IsAcceptedAlike, Tells}
use Rattle.fws_place.specs.TellingLaws.{AreTold}
use Rattle.fws_place.proofs.FieldPoints.{at_field, set_is, set_within, with_end, with_field}
use Rattle.fws_place.proofs.PairPoints.{point_back}

-- Trees of which each field is known

shows_none : {v : ℕ} → Some v ≡ None → ⊥
shows_none h = cc

not_eq : (n k : ℕ) → nat_eq n k ≡ false → n ≢ k
not_eq n k h same = false≢true (sym h ∙ eq-eqb n k same)

any_packet : Packet
any_packet = record { entry = 0; proto = 0; dst = 0; dport = 0; src = 0; sport = 0; flags = 0; icmp = 0 }

module _ {L : Type 0} (tops : List ℕ) (t : Plain L) where
  abbrev Free : ℕ → List ℕ → Type 0
  Free f x = (v : ℕ) → v ≤ slice_index tops f → value t (slice_set x f v) ≡ value t x

  -- no value changes with a field that the protocol lacks, as none does with ports, flags and types
  pub lacking_by : ((f : ℕ) (x : List ℕ) → is_port f ≡ true → IsWithin tops x → has_ports (slice_index x 1) ≡ false → Free f x)
      → ((x : List ℕ) → IsWithin tops x → slice_index x 1 ≢ 6 → Free 6 x)
      → ((x : List ℕ) → IsWithin tops x → slice_index x 1 ≢ 1 → Free 7 x)
      → (f : ℕ) (x : List ℕ) → IsWithin tops x → has_field (slice_index x 1) f ≡ false → Free f x
  lacking_by ports flags icmp f x within lacks = go (is_port f) refl (nat_eq f 6) refl (nat_eq f 7) refl lacks where
    go : (b : Bool) → is_port f ≡ b → (c : Bool) → nat_eq f 6 ≡ c → (d : Bool) → nat_eq f 7 ≡ d
        → cond b (has_ports (slice_index x 1)) (cond c (nat_eq (slice_index x 1) 6) (cond d (nat_eq (slice_index x 1) 1) true)) ≡ false → Free f x
    go true is c is_six d is_seven h = ports f x is within h
    go false is true is_six d is_seven h = subst (λ g. Free g x) (sym (eqb-true f 6 is_six)) (flags x within (not_eq (slice_index x 1) 6 h))
    go false is false is_six true is_seven h = subst (λ g. Free g x) (sym (eqb-true f 7 is_seven)) (icmp x within (not_eq (slice_index x 1) 1 h))
    go false is false is_six false is_seven h = absurd (false≢true (sym h))

-- Packets as they enter show the fields 1 to 7
entered_hidden : (f : ℕ) → 1 ≤ f → ((q : Packet) → shown Entered f q ≡ None) → 8 ≤ f
entered_hidden f low hides = at_field (λ g. 1 ≤ g → ((q : Packet) → shown Entered g q ≡ None) → 8 ≤ g)
    (λ l h. absurd (omega arith)) (λ l h. absurd (shows_none (h any_packet)))
    (λ l h. absurd (shows_none (h any_packet)))
    (λ l h. absurd (shows_none (h any_packet)))
    (λ l h. absurd (shows_none (h any_packet)))
    (λ l h. absurd (shows_none (h any_packet)))
    (λ l h. absurd (shows_none (h any_packet)))
    (λ l h. absurd (shows_none (h any_packet)))
    (λ l h. omega arith) (λ l h. omega arith) (λ l h. omega arith) (λ l h. omega arith) (λ n l h. omega arith) f low hides

-- Fields put back

back : (x : List ℕ) (f v : ℕ) → slice_set (slice_set x f v) f (slice_index x f) ≡ x
back [] f v = refl
back (a ∷ x) zero v = refl
back (a ∷ x) (suc f) v = ap (λ y. a ∷ y) (back x f v)

other_stays : (x : List ℕ) (f k v : ℕ) → f ≢ k → slice_index (slice_set x f v) k ≡ slice_index x k
other_stays [] f k v other = refl
other_stays (a ∷ x) zero zero v other = absurd (other refl)
other_stays (a ∷ x) zero (suc k) v other = refl
other_stays (a ∷ x) (suc f) zero v other = refl
other_stays (a ∷ x) (suc f) (suc k) v other = other_stays x f k v (λ same. other (ap suc same))

at_most : (tops x : List ℕ) (f : ℕ) → IsWithin tops x → slice_index x f ≤ slice_index tops f
at_most [] [] f within = omega arith
at_most [] (a ∷ x) f within = absurd within
at_most (top ∷ tops) [] f within = absurd within
at_most (top ∷ tops) (a ∷ x) zero within = within.0
at_most (top ∷ tops) (a ∷ x) (suc f) within = at_most tops x f within.1

-- Trees that tell of a property

same_truth : {P Q : Type 0} (b c : Bool) → ((b ≡ true) ↔ P) → ((c ≡ true) ↔ Q) → (P → Q) → (Q → P) → c ≡ b
same_truth true true of_b of_c on back = refl
same_truth false false of_b of_c on back = refl
same_truth true false of_b of_c on back = absurd (false≢true (of_c.1 (on (of_b.0 refl))))
same_truth false true of_b of_c on back = absurd (false≢true (of_b.1 (back (of_c.0 refl))))

module _ (site : Site) (P : Packet → Rec → Type 0) (t : Plain Bool) (tells : Tells site P t) where
  abbrev At : List ℕ → Type 0
  At x = P (packet_of x) (rec_of x)

  told_at : (x : List ℕ) → IsWithin (tops_of site) x → (b : Bool) × (value t x ≡ Some b) × ((b ≡ true) ↔ At x)
  told_at x within =
      let is = point_back site x within in
      subst (λ y. (b : Bool) × (value t y ≡ Some b) × ((b ≡ true) ↔ At x)) is
      (tells.tells (packet_of x) (rec_of x) (subst (IsWithin (tops_of site)) (sym is) within))

  pub free_by : (x y : List ℕ) → IsWithin (tops_of site) x → IsWithin (tops_of site) y → (At x → At y) → (At y → At x) → value t y ≡ value t x
  free_by x y in_x in_y on back =
      let at_x = told_at x in_x in
      let at_y = told_at y in_y in
      at_y.1 ∙ ap Some (same_truth at_x.0 at_y.0 at_x.2 at_y.2 on back) ∙ sym at_x.1

  -- a change of a field keeps the property, one way and the other
  pub told_by : (seen : Seen)
      → ((f : ℕ) (x : List ℕ) → IsWithin (tops_of site) x → has_field (slice_index x 1) f ≡ false → (v : ℕ) → v ≤ slice_index (tops_of site) f → At x → At (slice_set x f v))
      → ((f : ℕ) (x : List ℕ) → 1 ≤ f → f < 12 → ((q : Packet) → shown seen f q ≡ None) → IsWithin (tops_of site) x → (v : ℕ) → v ≤ slice_index (tops_of site) f → At x → At (slice_set x f v))
      → IsTold seen (tops_of site) t
  told_by seen lacks hides = record {
    lacking = λ f x within lacking v le.
        let inside = set_within (tops_of site) x f v within le in
        let not_proto : f ≢ 1 = λ is. false≢true (sym (subst (λ g. has_field (slice_index x 1) g ≡ false) is lacking)) in
        free_by x (slice_set x f v) within inside (lacks f x within lacking v le)
        (λ at. subst At (back x f v) (lacks f (slice_set x f v) inside
        (ap (λ proto. has_field proto f) (other_stays x f 1 v not_proto) ∙ lacking) (slice_index x f) (at_most (tops_of site) x f within) at));
    unseen = λ f x low high hidden within v le.
        let inside = set_within (tops_of site) x f v within le in
        free_by x (slice_set x f v) within inside (hides f x low high hidden within v le)
        (λ at. subst At (back x f v) (hides f (slice_set x f v) low high hidden inside (slice_index x f) (at_most (tops_of site) x f within) at));
  }

module _ (site : Site) (tables : Tables) (regular : AreRegular site tables) where
  abbrev tops : List ℕ
  tops = tops_of site

  -- The table of new packets
  pub fresh_told : IsTold Entered tops tables.fresh.1
  fresh_told = record {
    lacking = λ f x within lacks v le. lacking_by tops tables.fresh.1 regular.fresh_ports regular.fresh_flags regular.fresh_icmp f x within lacks v le;
    unseen = λ f x low high hidden within v le. regular.fresh_alone f x (entered_hidden f low hidden) high within v le;
  }

  -- The table of established ones
  est_free : (f : ℕ) (x : List ℕ) → IsWithin tops x → has_field (slice_index x 1) f ≡ false → (v : ℕ) → v ≤ slice_index tops f → value tables.est.1 (slice_set x f v) ≡ value tables.est.1 x
  est_free = lacking_by tops tables.est.1 regular.est_ports regular.est_flags regular.est_icmp

  -- a pair with a field changed that its protocol lacks
  pub record IsChanged (f v : ℕ) (p : Packet) (r : Rec) : Type 0 where
    pub of_site : IsPairOf site (with_field f v p) (with_end f v r)
    pub same : est_of tables (with_field f v p) (with_end f v r) ≡ est_of tables p r

  changed : (f v : ℕ) (p : Packet) (r : Rec) → IsPairOf site p r → has_field p.proto f ≡ false → v ≤ slice_index tops f → IsChanged f v p r
  changed f v p r of_site lacks le = record {
    of_site = subst (IsWithin tops) (set_is p r v f) (set_within tops (point_of p r) f v of_site le);
    same = ap (λ o. unwrap_or o Drop) (ap (value tables.est.1) (sym (set_is p r v f)) ∙ est_free f (point_of p r) of_site lacks v le);
  }

  -- Packets that are accepted in some connection
  abbrev Somewhere : Packet → Rec → Type 0
  Somewhere p r = IsAcceptedSomewhere site tables p

  somewhere_changed : (f : ℕ) (x : List ℕ) → IsWithin tops x → has_field (slice_index x 1) f ≡ false → (v : ℕ) → v ≤ slice_index tops f
      → Somewhere (packet_of x) (rec_of x) → Somewhere (packet_of (slice_set x f v)) (rec_of (slice_set x f v))
  somewhere_changed f x within lacks v le at =
      let is = ap (λ y. slice_set y f v) (sym (point_back site x within)) ∙ set_is (packet_of x) (rec_of x) v f in
      let more = changed f v (packet_of x) at.ends at.of_site lacks le in
      subst (λ y. Somewhere (packet_of y) (rec_of y)) (sym is)
      (record { ends = with_end f v at.ends; of_site = more.of_site; accepted = λ drop. at.accepted (sym more.same ∙ drop) })

  packet_stays : (f : ℕ) → 8 ≤ f → (v : ℕ) (p : Packet) → with_field f v p ≡ p
  packet_stays f far v p = at_field (λ g. 8 ≤ g → with_field g v p ≡ p)
      (λ h. absurd (omega arith)) (λ h. absurd (omega arith)) (λ h. absurd (omega arith)) (λ h. absurd (omega arith))
      (λ h. absurd (omega arith)) (λ h. absurd (omega arith)) (λ h. absurd (omega arith)) (λ h. absurd (omega arith))
      (λ h. refl) (λ h. refl) (λ h. refl) (λ h. refl) (λ n h. refl) f far

  somewhere_hidden : (f : ℕ) (x : List ℕ) → 1 ≤ f → f < 12 → ((q : Packet) → shown Entered f q ≡ None) → IsWithin tops x → (v : ℕ) → v ≤ slice_index tops f
      → Somewhere (packet_of x) (rec_of x) → Somewhere (packet_of (slice_set x f v)) (rec_of (slice_set x f v))
  somewhere_hidden f x low high hidden within v le at =
      let is = ap (λ y. slice_set y f v) (sym (point_back site x within)) ∙ set_is (packet_of x) (rec_of x) v f in
      subst (IsAcceptedSomewhere site tables) (sym (ap packet_of is ∙ packet_stays f (entered_hidden f low hidden) v (packet_of x))) at

  pub packet_told : (t : Plain Bool) → Tells site (λ p r. IsAcceptedSomewhere site tables p) t → IsTold Entered tops t
  packet_told t tells = told_by site Somewhere t tells Entered somewhere_changed somewhere_hidden

  -- Pairs that look like one that is accepted
  alike_changed : (p q : Packet) (r s : Rec) (v f : ℕ) → LookAlike p r q s → LookAlike (with_field f v p) (with_end f v r) (with_field f v q) (with_end f v s)
  alike_changed p q r s v = at_field (λ f. LookAlike p r q s → LookAlike (with_field f v p) (with_end f v r) (with_field f v q) (with_end f v s))
      (λ alike. record { entry = refl; proto = alike.proto; src = alike.src; sport = alike.sport; flags = alike.flags; icmp = alike.icmp; rdst = alike.rdst; rdport = alike.rdport })
      (λ alike. record { entry = alike.entry; proto = refl; src = alike.src; sport = alike.sport; flags = alike.flags; icmp = alike.icmp; rdst = alike.rdst; rdport = alike.rdport })
      (λ alike. record { entry = alike.entry; proto = alike.proto; src = alike.src; sport = alike.sport; flags = alike.flags; icmp = alike.icmp; rdst = alike.rdst; rdport = alike.rdport })
      (λ alike. record { entry = alike.entry; proto = alike.proto; src = alike.src; sport = alike.sport; flags = alike.flags; icmp = alike.icmp; rdst = alike.rdst; rdport = alike.rdport })
      (λ alike. record { entry = alike.entry; proto = alike.proto; src = refl; sport = alike.sport; flags = alike.flags; icmp = alike.icmp; rdst = alike.rdst; rdport = alike.rdport })
      (λ alike. record { entry = alike.entry; proto = alike.proto; src = alike.src; sport = refl; flags = alike.flags; icmp = alike.icmp; rdst = alike.rdst; rdport = alike.rdport })
      (λ alike. record { entry = alike.entry; proto = alike.proto; src = alike.src; sport = alike.sport; flags = refl; icmp = alike.icmp; rdst = alike.rdst; rdport = alike.rdport })
      (λ alike. record { entry = alike.entry; proto = alike.proto; src = alike.src; sport = alike.sport; flags = alike.flags; icmp = refl; rdst = alike.rdst; rdport = alike.rdport })
      (λ alike. record { entry = alike.entry; proto = alike.proto; src = alike.src; sport = alike.sport; flags = alike.flags; icmp = alike.icmp; rdst = refl; rdport = alike.rdport })
      (λ alike. record { entry = alike.entry; proto = alike.proto; src = alike.src; sport = alike.sport; flags = alike.flags; icmp = alike.icmp; rdst = alike.rdst; rdport = refl })
      (λ alike. record { entry = alike.entry; proto = alike.proto; src = alike.src; sport = alike.sport; flags = alike.flags; icmp = alike.icmp; rdst = alike.rdst; rdport = alike.rdport })
      (λ alike. record { entry = alike.entry; proto = alike.proto; src = alike.src; sport = alike.sport; flags = alike.flags; icmp = alike.icmp; rdst = alike.rdst; rdport = alike.rdport })
      (λ n alike. record { entry = alike.entry; proto = alike.proto; src = alike.src; sport = alike.sport; flags = alike.flags; icmp = alike.icmp; rdst = alike.rdst; rdport = alike.rdport })

  alike_hidden : (p q : Packet) (r s : Rec) (v f : ℕ) → 1 ≤ f → f < 12 → ((x : Packet) → shown Routed f x ≡ None) → LookAlike p r q s → LookAlike (with_field f v p) (with_end f v r) q s
  alike_hidden p q r s v = at_field (λ f. 1 ≤ f → f < 12 → ((x : Packet) → shown Routed f x ≡ None) → LookAlike p r q s → LookAlike (with_field f v p) (with_end f v r) q s)
      (λ low high hides. absurd (omega arith))
      (λ low high hides. absurd (shows_none (hides any_packet)))
      (λ low high hides alike. record { entry = alike.entry; proto = alike.proto; src = alike.src; sport = alike.sport; flags = alike.flags; icmp = alike.icmp; rdst = alike.rdst; rdport = alike.rdport })
      (λ low high hides alike. record { entry = alike.entry; proto = alike.proto; src = alike.src; sport = alike.sport; flags = alike.flags; icmp = alike.icmp; rdst = alike.rdst; rdport = alike.rdport })
      (λ low high hides. absurd (shows_none (hides any_packet)))
      (λ low high hides. absurd (shows_none (hides any_packet)))
      (λ low high hides. absurd (shows_none (hides any_packet)))
      (λ low high hides. absurd (shows_none (hides any_packet)))
      (λ low high hides. absurd (shows_none (hides any_packet)))
      (λ low high hides. absurd (shows_none (hides any_packet)))
      (λ low high hides alike. record { entry = alike.entry; proto = alike.proto; src = alike.src; sport = alike.sport; flags = alike.flags; icmp = alike.icmp; rdst = alike.rdst; rdport = alike.rdport })
      (λ low high hides alike. record { entry = alike.entry; proto = alike.proto; src = alike.src; sport = alike.sport; flags = alike.flags; icmp = alike.icmp; rdst = alike.rdst; rdport = alike.rdport })
      (λ n low high hides. absurd (omega arith))

  abbrev Alike : Packet → Rec → Type 0
  Alike = IsAcceptedAlike site tables

  pair_changed : (f : ℕ) (x : List ℕ) → IsWithin tops x → has_field (slice_index x 1) f ≡ false → (v : ℕ) → v ≤ slice_index tops f
      → Alike (packet_of x) (rec_of x) → Alike (packet_of (slice_set x f v)) (rec_of (slice_set x f v))
  pair_changed f x within lacks v le at =
      let is = ap (λ y. slice_set y f v) (sym (point_back site x within)) ∙ set_is (packet_of x) (rec_of x) v f in
      let more = changed f v at.other at.ends at.of_site (ap (λ proto. has_field proto f) (sym at.alike.proto) ∙ lacks) le in
      subst (λ y. Alike (packet_of y) (rec_of y)) (sym is)
      (record {
        other = with_field f v at.other;
        ends = with_end f v at.ends;
        of_site = more.of_site;
        alike = alike_changed (packet_of x) at.other (rec_of x) at.ends v f at.alike;
        accepted = λ drop. at.accepted (sym more.same ∙ drop);
      })

  pair_hidden : (f : ℕ) (x : List ℕ) → 1 ≤ f → f < 12 → ((q : Packet) → shown Routed f q ≡ None) → IsWithin tops x → (v : ℕ) → v ≤ slice_index tops f
      → Alike (packet_of x) (rec_of x) → Alike (packet_of (slice_set x f v)) (rec_of (slice_set x f v))
  pair_hidden f x low high hidden within v le at =
      let is = ap (λ y. slice_set y f v) (sym (point_back site x within)) ∙ set_is (packet_of x) (rec_of x) v f in
      subst (λ y. Alike (packet_of y) (rec_of y)) (sym is)
      (record {
        other = at.other;
        ends = at.ends;
        of_site = at.of_site;
        alike = alike_hidden (packet_of x) at.other (rec_of x) at.ends v f low high hidden at.alike;
        accepted = at.accepted;
      })

  pub pair_told : (t : Plain Bool) → Tells site Alike t → IsTold Routed tops t
  pair_told t tells = told_by site Alike t tells Routed pair_changed pair_hidden

  pub all_told : AreTold site tables
  all_told = record { fresh = fresh_told; packet = packet_told; behind = pair_told }
