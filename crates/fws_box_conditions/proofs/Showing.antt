-- What a rule sees of the packets of an area.
use Rattle.std.proofs.Common.{◌≡◌, ℕ, zero, suc, ◌+◌, ◌<◌, ◌≤◌, Bool, true, false, ◌&&◌, ◌||◌, not, cond, nat_eq, Some, None, List, [], ◌∷◌, ◌++◌, length, get_or, refl, ap, ◌∙◌, arith}
use Rattle.fws_iv.specs.declared.iv.Iv.{Iv}
use Rattle.fws_iv.specs.Ivs.{has}
use Rattle.fws_box.specs.declared.pbox.PBox.{PBox}
use Rattle.fws_box.specs.Boxes.{box_hits}
use Rattle.fws_box.specs.Sides.{sides_have, IsWithin}
use Rattle.fws_net.specs.declared.exit.Exit.TheVariants.{Deliver, Out, Lost}
use Rattle.fws_net.specs.Conditions.{is_shown}
use Rattle.fws_net.specs.Fates.{has_ports}
use Rattle.fws_net.specs.Showing.{out_of}
use Rattle.fws_box_conditions.specs.declared.scene.Standing.{Standing}
use Rattle.fws_box_conditions.specs.declared.scene.Standing.TheVariants.{Entered, Written, Tracked}
use Rattle.fws_box_conditions.specs.Ports.{carried_port}
use Rattle.fws_box_conditions.specs.Scenes.{standing_port}
use Rattle.fws_box_conditions.specs.Areas.{AreWhere}
use Rattle.fws_box_conditions.proofs.Counting.{one, box_hits-append}

-- a value is no greater than its top
pub within_top : (tops p : List ℕ) (k : ℕ) → IsWithin tops p → k < length tops → get_or p k 0 ≤ get_or tops k 0
within_top [] p k w lt = absurd (omega arith)
within_top (t ∷ tops) [] k w lt = absurd w
within_top (t ∷ tops) (x ∷ p) zero w lt = w.0
within_top (t ∷ tops) (x ∷ p) (suc k) w lt = within_top tops p k w.1 (omega arith)

when_ports : (h : Bool) (set : List Iv) (x y : ℕ) → (h && has set x) ≡ (h && has set (cond h x y))
when_ports true set x y = refl
when_ports false set x y = refl

-- the port of a protocol with ports
pub ports_same : (st : Standing) (set : List Iv) (proto p r : ℕ) → (has_ports proto && has set (carried_port st p r)) ≡ (has_ports proto && has set (standing_port st proto p r))
ports_same Entered set proto p r = refl
ports_same (Written e) set proto p r = when_ports (has_ports proto) set (carried_port (Written e) p r) p
ports_same Tracked set proto p r = when_ports (has_ports proto) set r p

and_true : (b : Bool) → (b && true) ≡ b
and_true true = refl
and_true false = refl

and_false : (b : Bool) → (b && false) ≡ false
and_false true = refl
and_false false = refl

received : (z : Bool) (set : List Iv) (e : ℕ) → (has set e && not z) ≡ is_shown (cond z None (Some e)) set
received true set e = and_false (has set e)
received false set e = and_true (has set e)

-- a receiving interface is none of the host
pub receives : (set : List Iv) (e : ℕ) → (has set e && not (nat_eq e 0)) ≡ is_shown (cond (nat_eq e 0) None (Some e)) set
receives set e = received (nat_eq e 0) set e

-- where a packet is sent: to another host by its route, or round to the host
pub sends : (host local forwarding : Bool) (set : List Iv) (r : ℕ)
    → (((has set r && not local) && (forwarding || host)) || (has set 1 && (local && host)))
    ≡ is_shown (out_of (cond host (cond local (Out 1) (Out r)) (cond local Deliver (cond forwarding (Out r) Lost)))) set
sends true true forwarding set r = rw (and_false (has set r)) (and_true (has set 1))
sends true false true set r = rw (and_true (has set r), and_true (has set r), and_false (has set 1)) (or_false (has set r))
  where
    or_false : (b : Bool) → (b || false) ≡ b
    or_false true = refl
    or_false false = refl
sends true false false set r = rw (and_true (has set r), and_true (has set r), and_false (has set 1)) (or_false (has set r))
  where
    or_false : (b : Bool) → (b || false) ≡ b
    or_false true = refl
    or_false false = refl
sends false true true set r = rw (and_false (has set r), and_false (has set 1)) refl
sends false true false set r = rw (and_false (has set r), and_false (has set 1)) refl
sends false false true set r = rw (and_true (has set r), and_true (has set r), and_false (has set 1)) (or_false (has set r))
  where
    or_false : (b : Bool) → (b || false) ≡ b
    or_false true = refl
    or_false false = refl
sends false false false set r = rw (and_true (has set r), and_false (has set r), and_false (has set 1)) refl

either : (a t u : Bool) → (t && u) ≡ false → one (a && t) + one (a && u) ≡ one (a && (t || u))
either true true true e = absurd (cc)
either true true false e = omega arith
either true false true e = omega arith
either true false false e = omega arith
either false t u e = omega arith

-- boxes where one test holds and boxes where another does, which never hold together
pub where_either : (area : List (List Iv)) (t u : List ℕ → Bool) (a b new : List PBox) → new ≡ a ++ b → AreWhere area t a → AreWhere area u b
    → ((p : List ℕ) → (t p && u p) ≡ false) → AreWhere area (λ p. t p || u p) new
where_either area t u a b new e f g h p n =
    let x = f p n in
    let y = g p n in
    let z = box_hits-append a b p in
    let w = either (sides_have area p) (t p) (u p) (h p) in
    ap (λ bs. box_hits bs p) e ∙ z ∙ ap (λ m. m + box_hits b p) x ∙ ap (λ m. one (sides_have area p && t p) + m) y ∙ w

-- a destination is local or not
pub kinds_apart : (h local f w host : Bool) → (((h && not local) && f) && (w && (local && host))) ≡ false
kinds_apart true true f w host = refl
kinds_apart true false true true host = refl
kinds_apart true false true false host = refl
kinds_apart true false false w host = refl
kinds_apart false local f w host = refl
