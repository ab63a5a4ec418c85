-- The tables of a regular walk are regular.
use Rattle.std.proofs.Common.{◌≡◌, ◌≢◌, ℕ, zero, suc, ◌≤◌, Bool, true, false, ◌||◌, nat_eq, Option, Some, List, [], ◌∷◌, refl, sym, ap, subst, ◌∙◌, arith}
use Rattle.std.specs.Prelude.{slice_index, slice_set}
use Rattle.std.proofs.lemmas.Bool.{eqb-true}
use Rattle.fws_box.specs.Sides.{IsWithin}
use Rattle.fws_net.specs.declared.connection.Kind.{Kind}
use Rattle.fws_net.specs.declared.connection.Kind.TheVariants as kinds
use Rattle.fws_net.specs.declared.connection.Rec.{Rec}
use Rattle.fws_net.specs.declared.outcome.Outcome.{Outcome}
use Rattle.fws_net.specs.declared.outcome.Outcome.TheVariants.{Accept}
use Rattle.fws_net.specs.declared.outcome.Rewrite.{Rewrite}
use Rattle.fws_net.specs.declared.packet.Packet.{Packet}
use Rattle.fws_net.specs.declared.packet.State.{State}
use Rattle.fws_net.specs.declared.packet.State.TheVariants.{Fresh, Est}
use Rattle.fws_net.specs.declared.site.Site.{Site}
use Rattle.fws_net.specs.Fates.{has_ports}
use Rattle.fws_net.specs.Points.{packet_of, tops_of}
use Rattle.fws_net.specs.RegularWalks.{IsRegularWalk}
use Rattle.fws_net.specs.Transits.{nothing_written}
use Rattle.fws_trace.specs.Outcomes.{point_with, rec_of}
use Rattle.fws_tree.specs.declared.tables.Tables.{Tables}
use Rattle.fws_tree.specs.Plain.{value}
use Rattle.fws_tree.specs.Regular.{AreRegular, IsFreeOf, is_port}
use Rattle.fws_top.specs.Walked.{AreTablesOf, Walk, walked_at}

-- Points

-- what holds of each point with as many values as there are tops
abbrev AtEach : List ℕ → (List ℕ → Type 0) → Type 0
AtEach [] P = P []
AtEach (top ∷ tops) P = (x : ℕ) → AtEach tops (λ p. P (x ∷ p))

at_each : (tops p : List ℕ) (P : List ℕ → Type 0) → AtEach tops P → IsWithin tops p → P p
at_each [] [] P at w = at
at_each [] (x ∷ p) P at w = absurd w
at_each (top ∷ tops) [] P at w = absurd w
at_each (top ∷ tops) (x ∷ p) P at w = at_each tops p (λ q. P (x ∷ q)) (at x) w.1

-- a point within the tops of a site is that of a packet with the ends of a connection
at_packets : (site : Site) (P : List ℕ → Type 0) → ((q : Packet) (r : Rec) → P (point_with q r)) → (p : List ℕ) → IsWithin (tops_of site) p → P p
at_packets site P at p w = at_each (tops_of site) p P at_values w
  where
    at_values : AtEach (tops_of site) P
    at_values = λ a b c d e f g h i j k l.
        let q : Packet = record { entry = a; proto = b; dst = c; dport = d; src = e; sport = f; flags = g; icmp = h } in
        let r : Rec = record { rdst = i; rdport = j; rsrc = k; rsport = l } in
        at q r

-- a point stays within the tops when a field gets a value up to its top
within-set : (tops p : List ℕ) (f x : ℕ) → IsWithin tops p → x ≤ slice_index tops f → IsWithin tops (slice_set p f x)
within-set [] [] f x w low = tt
within-set [] (y ∷ p) f x w low = absurd w
within-set (top ∷ tops) [] f x w low = absurd w
within-set (top ∷ tops) (y ∷ p) zero x w low = (low, w.1)
within-set (top ∷ tops) (y ∷ p) (suc f) x w low = (w.0, within-set tops p f x w.1 low)

-- Fields

either : (a b : Bool) (P : Type 0) → (a || b) ≡ true → (a ≡ true → P) → (b ≡ true → P) → P
either true b P e at_a at_b = at_a refl
either false b P e at_a at_b = at_b e

-- the fields that hold a port
at_ports : (P : ℕ → Type 0) → P 3 → P 5 → P 9 → P 11 → (f : ℕ) → is_port f ≡ true → P f
at_ports P dport sport rdport rsport f e = either (nat_eq f 3 || nat_eq f 5 || nat_eq f 9) (nat_eq f 11) (P f) e at_three (at 11 rsport)
  where
    at : (n : ℕ) → P n → nat_eq f n ≡ true → P f
    at n holds same = subst P (sym (eqb-true f n same)) holds

    at_two : (nat_eq f 3 || nat_eq f 5) ≡ true → P f
    at_two e = either (nat_eq f 3) (nat_eq f 5) (P f) e (at 3 dport) (at 5 sport)

    at_three : (nat_eq f 3 || nat_eq f 5 || nat_eq f 9) ≡ true → P f
    at_three e = either (nat_eq f 3 || nat_eq f 5) (nat_eq f 9) (P f) e at_two (at 9 rdport)

-- the fields behind those of the packet
at_last : (P : ℕ → Type 0) → ((k : ℕ) → P (suc (suc (suc (suc (suc (suc (suc (suc k))))))))) → (f : ℕ) → 8 ≤ f → P f
at_last P at zero le = absurd (omega arith)
at_last P at (suc zero) le = absurd (omega arith)
at_last P at (suc (suc zero)) le = absurd (omega arith)
at_last P at (suc (suc (suc zero))) le = absurd (omega arith)
at_last P at (suc (suc (suc (suc zero)))) le = absurd (omega arith)
at_last P at (suc (suc (suc (suc (suc zero))))) le = absurd (omega arith)
at_last P at (suc (suc (suc (suc (suc (suc zero)))))) le = absurd (omega arith)
at_last P at (suc (suc (suc (suc (suc (suc (suc zero))))))) le = absurd (omega arith)
at_last P at (suc (suc (suc (suc (suc (suc (suc (suc k)))))))) le = at k

-- what a walk makes of a point doesn't change with a field
abbrev IsWalkedFreeOf : (Packet → Kind → Outcome) → State → ℕ → List ℕ → Type 0
IsWalkedFreeOf walk state f p = (x : ℕ) → walked_at walk state (slice_set p f x) ≡ walked_at walk state p

-- the value at a point is one
same_value : (o : Option Outcome) (a b : Outcome) → o ≡ Some a → o ≡ Some b → a ≡ b
same_value o a b e d = cc

-- A regular walk

module _ (site : Site) (walk : Walk) (regular : IsRegularWalk site walk) where
  fresh_ports : (f : ℕ) (p : List ℕ) → is_port f ≡ true → IsWithin (tops_of site) p → has_ports (slice_index p 1) ≡ false → IsWalkedFreeOf walk Fresh f p
  fresh_ports f p e w = at_packets site (λ p. has_ports (slice_index p 1) ≡ false → IsWalkedFreeOf walk Fresh f p) at p w
    where
      at : (q : Packet) (r : Rec) → has_ports q.proto ≡ false → IsWalkedFreeOf walk Fresh f (point_with q r)
      at q r off = at_ports (λ f. IsWalkedFreeOf walk Fresh f (point_with q r))
          (λ x. regular.ports q kinds.New x q.sport off)
          (λ x. regular.ports q kinds.New q.dport x off)
          (λ x. refl)
          (λ x. refl)
          f e

  est_ports : (f : ℕ) (p : List ℕ) → is_port f ≡ true → IsWithin (tops_of site) p → has_ports (slice_index p 1) ≡ false → IsWalkedFreeOf walk Est f p
  est_ports f p e w = at_packets site (λ p. has_ports (slice_index p 1) ≡ false → IsWalkedFreeOf walk Est f p) at p w
    where
      at : (q : Packet) (r : Rec) → has_ports q.proto ≡ false → IsWalkedFreeOf walk Est f (point_with q r)
      at q r off = at_ports (λ f. IsWalkedFreeOf walk Est f (point_with q r))
          (λ x. regular.ports q (kinds.Est r) x q.sport off)
          (λ x. regular.ports q (kinds.Est r) q.dport x off)
          (λ x. regular.sent_ports q r x r.rsport off)
          (λ x. regular.sent_ports q r r.rdport x off)
          f e

  fresh_flags : (p : List ℕ) → IsWithin (tops_of site) p → slice_index p 1 ≢ 6 → IsWalkedFreeOf walk Fresh 6 p
  fresh_flags = at_packets site (λ p. slice_index p 1 ≢ 6 → IsWalkedFreeOf walk Fresh 6 p) (λ q r other x. regular.flags q kinds.New x other)

  est_flags : (p : List ℕ) → IsWithin (tops_of site) p → slice_index p 1 ≢ 6 → IsWalkedFreeOf walk Est 6 p
  est_flags = at_packets site (λ p. slice_index p 1 ≢ 6 → IsWalkedFreeOf walk Est 6 p) (λ q r other x. regular.flags q (kinds.Est r) x other)

  fresh_icmp : (p : List ℕ) → IsWithin (tops_of site) p → slice_index p 1 ≢ 1 → IsWalkedFreeOf walk Fresh 7 p
  fresh_icmp = at_packets site (λ p. slice_index p 1 ≢ 1 → IsWalkedFreeOf walk Fresh 7 p) (λ q r other x. regular.icmp q kinds.New x other)

  est_icmp : (p : List ℕ) → IsWithin (tops_of site) p → slice_index p 1 ≢ 1 → IsWalkedFreeOf walk Est 7 p
  est_icmp = at_packets site (λ p. slice_index p 1 ≢ 1 → IsWalkedFreeOf walk Est 7 p) (λ q r other x. regular.icmp q (kinds.Est r) x other)

  fresh_alone : (f : ℕ) (p : List ℕ) → 8 ≤ f → IsWithin (tops_of site) p → IsWalkedFreeOf walk Fresh f p
  fresh_alone f p late = at_packets site (λ p. IsWalkedFreeOf walk Fresh f p)
      (λ q r. at_last (λ f. IsWalkedFreeOf walk Fresh f (point_with q r)) (λ k x. refl) f late)
      p

  module _ (tables : Tables) (made : AreTablesOf site walk tables) where
    fresh_free : (f : ℕ) (p : List ℕ) → IsWithin (tops_of site) p → IsWalkedFreeOf walk Fresh f p → IsFreeOf (tops_of site) tables.fresh.1 f p
    fresh_free f p w same = λ x low. made.fresh_walked (slice_set p f x) (within-set (tops_of site) p f x w low) ∙ ap Some (same x) ∙ sym (made.fresh_walked p w)

    est_free : (f : ℕ) (p : List ℕ) → IsWithin (tops_of site) p → IsWalkedFreeOf walk Est f p → IsFreeOf (tops_of site) tables.est.1 f p
    est_free f p w same = λ x low. made.est_walked (slice_set p f x) (within-set (tops_of site) p f x w low) ∙ ap Some (same x) ∙ sym (made.est_walked p w)

    fresh_accepted : (p : List ℕ) (w : Rewrite) → IsWithin (tops_of site) p → value tables.fresh.1 p ≡ Some (Accept w) → walk (packet_of p) kinds.New ≡ Accept w
    fresh_accepted p w within e = same_value _ _ _ (made.fresh_walked p within) e

    est_accepted : (p : List ℕ) (w : Rewrite) → IsWithin (tops_of site) p → value tables.est.1 p ≡ Some (Accept w) → walk (packet_of p) (kinds.Est (rec_of p)) ≡ Accept w
    est_accepted p w within e = same_value _ _ _ (made.est_walked p within) e

    pub regular_tables : AreRegular site tables
    regular_tables = record {
      fresh_tops = made.fresh_tops;
      est_tops = made.est_tops;
      fresh_ports = λ f p e w off. fresh_free f p w (fresh_ports f p e w off);
      est_ports = λ f p e w off. est_free f p w (est_ports f p e w off);
      fresh_flags = λ p w other. fresh_free 6 p w (fresh_flags p w other);
      est_flags = λ p w other. est_free 6 p w (est_flags p w other);
      fresh_icmp = λ p w other. fresh_free 7 p w (fresh_icmp p w other);
      est_icmp = λ p w other. est_free 7 p w (est_icmp p w other);
      fresh_alone = λ f p late below w. fresh_free f p w (fresh_alone f p late w);
      fresh_written = λ p w within e off. regular.written (packet_of p) w (fresh_accepted p w within e) off;
      est_unwritten = λ p w within e.
          let nothing : w ≡ nothing_written = regular.unwritten (packet_of p) (rec_of p) w (est_accepted p w within e) in
          (ap (λ v. v.src) nothing, ap (λ v. v.dst) nothing);
      fresh_leaves = λ p w within e. regular.leaves (packet_of p) w (fresh_accepted p w within e);
      est_lost = λ p within lost. made.est_walked p within ∙ ap Some (regular.lost (packet_of p) (rec_of p) lost);
    }
