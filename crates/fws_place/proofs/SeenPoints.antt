-- Packets as which points are seen.
use Rattle.std.proofs.Common.{◌≡◌, ℕ, suc, ◌≤◌, false, true, cond, nat_eq, get_or, Some, None, arith, refl, sym, ap, ◌∙◌}
use Rattle.std.proofs.lemmas.Bool.{ne_eqb}
use Rattle.std.specs.Option.{option_map}
use Rattle.fws_net.specs.declared.connection.Rec.{Rec}
use Rattle.fws_net.specs.declared.packet.Packet.{Packet}
use Rattle.fws_net.specs.Transits.{with_rec_dst}
use Rattle.fws_tree_seen.specs.declared.seen.Seen.TheVariants.{Entered, Routed}
use Rattle.fws_tree_seen.specs.Shown.{IsSeenAs, field_of, has_field, shown, shown_as, value_of}
use Rattle.fws_place.specs.Meaning.{point_of}
use Rattle.fws_place.specs.TellingLaws.{IsSeen}
use Rattle.fws_place.proofs.FieldPoints.{at_field}

some_is : {X : Type 0} {x y : X} → Some x ≡ Some y → x ≡ y
some_is h = cc

none_is : {X : Type 0} {x : X} → None ≡ Some x → ⊥
none_is h = cc

-- a field past the packet's isn't seen
past_fields : (f : ℕ) (p : Packet) → 8 ≤ f → shown Entered f p ≡ None
past_fields f p far = ap (option_map (λ field. value_of field p)) (none f (ne_eqb f 1 (omega arith)) (ne_eqb f 2 (omega arith)) (ne_eqb f 3 (omega arith))
    (ne_eqb f 4 (omega arith)) (ne_eqb f 5 (omega arith)) (ne_eqb f 6 (omega arith)) (ne_eqb f 7 (omega arith))) where
      none : (f : ℕ) → nat_eq f 1 ≡ false → nat_eq f 2 ≡ false → nat_eq f 3 ≡ false → nat_eq f 4 ≡ false → nat_eq f 5 ≡ false → nat_eq f 6 ≡ false → nat_eq f 7 ≡ false
          → field_of f ≡ None
      none f a b c d e g h = rw (a, b, c, d, e, g, h) refl

past_routed : (f : ℕ) (p : Packet) → 10 ≤ f → shown Routed f p ≡ None
past_routed f p far = ap (λ g. shown Entered g p) (same f (ne_eqb f 2 (omega arith)) (ne_eqb f 3 (omega arith)) (ne_eqb f 8 (omega arith)) (ne_eqb f 9 (omega arith)))
    ∙ past_fields f p (omega arith) where
      same : (f : ℕ) → nat_eq f 2 ≡ false → nat_eq f 3 ≡ false → nat_eq f 8 ≡ false → nat_eq f 9 ≡ false → shown_as Routed f ≡ f
      same f a b c d = rw (a, b, c, d) refl

-- a packet is seen as its point, as it enters
seen_entered : (p : Packet) (r : Rec) → IsSeenAs Entered p (point_of p r)
seen_entered p r f v has_it is = at_field (λ g. shown Entered g p ≡ Some v → get_or (point_of p r) g 0 ≡ v)
    (λ h. absurd (none_is h)) some_is some_is some_is some_is some_is some_is some_is
    (λ h. absurd (none_is h)) (λ h. absurd (none_is h)) (λ h. absurd (none_is h)) (λ h. absurd (none_is h))
    (λ n h. absurd (none_is (sym (past_fields (suc (suc (suc (suc (suc (suc (suc (suc (suc (suc (suc (suc n)))))))))))) p (omega arith)) ∙ h))) f is

-- and behind routing
seen_routed : (p : Packet) (r : Rec) → IsSeenAs Routed (with_rec_dst r p) (point_of p r)
seen_routed p r f v has_it is = at_field (λ g. has_field p.proto g ≡ true → shown Routed g (with_rec_dst r p) ≡ Some v → get_or (point_of p r) g 0 ≡ v)
    (λ l h. absurd (none_is h)) (λ l. some_is) (λ l h. absurd (none_is h)) (λ l h. absurd (none_is h)) (λ l. some_is) (λ l. some_is) (λ l. some_is) (λ l. some_is)
    (λ l. some_is) (λ l h. sym (ap (λ b. cond b r.rdport p.dport) l) ∙ some_is h) (λ l h. absurd (none_is h)) (λ l h. absurd (none_is h))
    (λ n l h. absurd (none_is (sym (past_routed (suc (suc (suc (suc (suc (suc (suc (suc (suc (suc (suc (suc n)))))))))))) (with_rec_dst r p) (omega arith)) ∙ h))) f has_it is

pub seen_points : (p : Packet) (r : Rec) → IsSeen p r
seen_points p r = record { entered = seen_entered p r; routed = seen_routed p r }
